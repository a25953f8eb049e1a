-- The lines of the symbols with plain names, in file order and sorted.
use Rattle.std.proofs.Common.{◌≡◌, refl, sym, ap, ◌∙◌, subst, ℕ, ◌<◌, Bool, true, false, cond, not, ◌&&◌, nat_eq, List, [], ◌∷◌, ◌++◌, length, get_or, filter, map, Some, None, slice_get, slice_index_or, append-nil, arith, eqb-true}
use Rattle.std.proofs.lemmas.Bool.{cond-true, cond-false}
use Rattle.std.proofs.lemmas.Bool.Decides.{nat_tests}
use Rattle.std.proofs.lemmas.List.{map-append}
use Rattle.std.proofs.lemmas.Option.{get_or_from_slice_get, slice_get-get_or}
use Rattle.std.specs.List.Sorted.{IsNonDecreasingBy, IsStableByKey, ties}
use Rattle.std.specs.Ordering.{nat_cmp, is_lt}
use Rattle.list_text.specs.declared.table.SymbolLine.{SymbolLine}
use Rattle.list_text.specs.Lists.{is_plain, symbol_line, symbol_lines}
use Rattle.list_text.specs.Tables.{IsTableOf, lines_at, named_lines, pairs_of}

abbrev to_line : (List ℕ × ℕ) → ℕ × List ℕ
to_line s = (s.1, symbol_line s.0)

-- each number below the count has a symbol
pub missing : (symbols : List (List ℕ × ℕ)) (i : ℕ) → i < length symbols → None ≡ slice_get symbols i → ⊥
missing symbols i h e = let k : None ≡ Some (get_or symbols i ([], 0)) = e ∙ slice_get-get_or symbols i ([], 0) h in cc

-- a symbol with a plain name
pub named_plain : (symbols : List (List ℕ × ℕ)) (i at : ℕ) (name : List ℕ) (lines new : List SymbolLine) (l : SymbolLine) → Some (name, at) ≡ slice_get symbols i → is_plain name ≡ true → l.at ≡ at → l.line.items ≡ symbol_line name → new ≡ lines ++ l ∷ []
    → pairs_of new ≡ pairs_of lines ++ named_lines (slice_index_or symbols i ([], 0) ∷ [])
named_plain symbols i at name lines new l e plain place text is =
    let s : slice_index_or symbols i ([], 0) ≡ (name, at) = get_or_from_slice_get symbols i (name, at) ([], 0) (sym e) in
    ap pairs_of is ∙ map-append (λ (x : SymbolLine). (x.at, x.line.items)) lines (l ∷ [])
    ∙ ap (λ q. pairs_of lines ++ q) ((λ k. (place k, text k) ∷ []) ∙ ap (λ q. map to_line q) (sym (cond-true (is_plain name) ((name, at) ∷ []) [] plain)) ∙ ap (λ q. named_lines (q ∷ [])) (sym s))

-- and one with another name
pub named_other : (symbols : List (List ℕ × ℕ)) (i at : ℕ) (name : List ℕ) (lines : List SymbolLine) → Some (name, at) ≡ slice_get symbols i → is_plain name ≡ false → pairs_of lines ≡ pairs_of lines ++ named_lines (slice_index_or symbols i ([], 0) ∷ [])
named_other symbols i at name lines e other =
    let s : slice_index_or symbols i ([], 0) ≡ (name, at) = get_or_from_slice_get symbols i (name, at) ([], 0) (sym e) in
    sym (append-nil (pairs_of lines))
    ∙ ap (λ q. pairs_of lines ++ q) (ap (λ q. map to_line q) (sym (cond-false (is_plain name) ((name, at) ∷ []) [] other)) ∙ ap (λ q. named_lines (q ∷ [])) (sym s))

-- the lines at an address, of pairs
abbrev pair_lines : List (ℕ × List ℕ) → ℕ → List (List ℕ)
pair_lines pairs at = map (λ p. p.1) (filter (λ p. nat_eq p.0 at) pairs)

of_pairs-at : (at : ℕ) (l : SymbolLine) (ls : List SymbolLine) (b : Bool) → nat_eq l.at at ≡ b → lines_at ls at ≡ pair_lines (pairs_of ls) at
    → map (λ (x : SymbolLine). x.line.items) (cond b (l ∷ filter (λ x. nat_eq x.at at) ls) (filter (λ x. nat_eq x.at at) ls)) ≡ map (λ (p : ℕ × List ℕ). p.1) (cond b ((l.at, l.line.items) ∷ filter (λ p. nat_eq p.0 at) (pairs_of ls)) (filter (λ p. nat_eq p.0 at) (pairs_of ls)))
of_pairs-at at l ls true e is = ap (λ q. l.line.items ∷ q) is
of_pairs-at at l ls false e is = is

of_pairs : (ls : List SymbolLine) (at : ℕ) → lines_at ls at ≡ pair_lines (pairs_of ls) at
of_pairs [] at = refl
of_pairs (l ∷ ls) at = of_pairs-at at l ls (nat_eq l.at at) refl (of_pairs ls at)

of_symbols-at : (s : List ℕ × ℕ) (at : ℕ) (b c : Bool) (pairs : List (ℕ × List ℕ)) (rest : List (List ℕ × ℕ)) → pair_lines pairs at ≡ map (λ (x : List ℕ × ℕ). symbol_line x.0) rest → nat_eq s.1 at ≡ c
    → pair_lines (cond b ((s.1, symbol_line s.0) ∷ pairs) pairs) at ≡ map (λ (x : List ℕ × ℕ). symbol_line x.0) (cond (b && c) (s ∷ rest) rest)
of_symbols-at s at true true pairs rest is e = ap (λ q. map (λ (p : ℕ × List ℕ). p.1) q) (cond-true (nat_eq s.1 at) ((s.1, symbol_line s.0) ∷ filter (λ p. nat_eq p.0 at) pairs) _ e) ∙ ap (λ q. symbol_line s.0 ∷ q) is
of_symbols-at s at true false pairs rest is e = ap (λ q. map (λ (p : ℕ × List ℕ). p.1) q) (cond-false (nat_eq s.1 at) ((s.1, symbol_line s.0) ∷ filter (λ p. nat_eq p.0 at) pairs) _ e) ∙ is
of_symbols-at s at false c pairs rest is e = is

named_push : (b : Bool) (s : List ℕ × ℕ) (rest : List (List ℕ × ℕ)) → map to_line (cond b (s ∷ rest) rest) ≡ cond b (to_line s ∷ map to_line rest) (map to_line rest)
named_push true s rest = refl
named_push false s rest = refl

of_symbols : (symbols : List (List ℕ × ℕ)) (at : ℕ) → pair_lines (named_lines symbols) at ≡ symbol_lines symbols at
unfolding symbol_lines
of_symbols [] at = refl
of_symbols (s ∷ symbols) at =
    ap (λ q. pair_lines q at) (named_push (is_plain s.0) s (filter (λ x. is_plain x.0) symbols))
    ∙ of_symbols-at s at (is_plain s.0) (nat_eq s.1 at) (named_lines symbols) (filter (λ x. is_plain x.0 && nat_eq x.1 at) symbols) (of_symbols symbols at) refl

-- a stable sort keeps those at an address
tie : (a n : ℕ) → (not (is_lt (nat_cmp a n)) && not (is_lt (nat_cmp n a))) ≡ nat_eq n a
tie a n = grind (arith, nat_tests)

abbrev at_address : ℕ → List SymbolLine → List SymbolLine
at_address a ls = filter (λ l. nat_eq l.at a) ls

ties_at : (x : SymbolLine) (ls : List SymbolLine) → filter (ties (λ p q. is_lt (nat_cmp p.at q.at)) x) ls ≡ at_address x.at ls
ties_at x [] = refl
ties_at x (l ∷ ls) = (λ i. cond (tie x.at l.at i) (l ∷ ties_at x ls i) (ties_at x ls i))

first_at : (a : ℕ) (ls : List SymbolLine) (x : SymbolLine) (rest : List SymbolLine) → at_address a ls ≡ x ∷ rest → x.at ≡ a
first_at a [] x rest e = cc
first_at a (l ∷ ls) x rest e = by (nat_eq l.at a) refl (first_at a ls x rest) e
  where
    by : (b : Bool) → nat_eq l.at a ≡ b → (at_address a ls ≡ x ∷ rest → x.at ≡ a) → cond b (l ∷ at_address a ls) (at_address a ls) ≡ x ∷ rest → x.at ≡ a
    by true is below h = let same : l ≡ x = cc in ap (λ (q : SymbolLine). q.at) (sym same) ∙ eqb-true l.at a is
    by false is below h = below h

kept : (xs ys : List SymbolLine) → IsStableByKey (λ l. l.at) nat_cmp xs ys → (a : ℕ) → at_address a ys ≡ at_address a xs
kept xs ys stable a = by (at_address a ys) (at_address a xs) refl refl
  where
    through : (x : SymbolLine) → x.at ≡ a → at_address a ys ≡ at_address a xs
    through x e = let all : at_address x.at ys ≡ at_address x.at xs = sym (ties_at x ys) ∙ stable x ∙ ties_at x xs in subst (λ n. at_address n ys ≡ at_address n xs) e all

    by : (p q : List SymbolLine) → at_address a ys ≡ p → at_address a xs ≡ q → at_address a ys ≡ at_address a xs
    by [] [] e f = e ∙ sym f
    by [] (x ∷ q) e f = through x (first_at a xs x q f)
    by (x ∷ p) q e f = through x (first_at a ys x p e)

pub sorted_table : (symbols : List (List ℕ × ℕ)) (xs ys : List SymbolLine) → pairs_of xs ≡ named_lines symbols → IsNonDecreasingBy (λ l. l.at) ys → IsStableByKey (λ l. l.at) nat_cmp xs ys → IsTableOf symbols ys
sorted_table symbols xs ys is up stable =
    record { rising = up; same = λ at. ap (map (λ (l : SymbolLine). l.line.items)) (kept xs ys stable at) ∙ of_pairs xs at ∙ ap (λ q. pair_lines q at) is ∙ of_symbols symbols at }
