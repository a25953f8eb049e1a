-- Lines that are put one after the other.
use Rattle.std.proofs.Common.{◌≡◌, refl, sym, ap, ◌∙◌, subst, ℕ, suc, zero, ◌+◌, ◌-◌, ◌*◌, ◌/◌, ◌≤◌, ◌<◌, true, false, nat_eq, List, [], ◌∷◌, ◌++◌, length, length-drop, get_or, take, drop, filter, map, append_assoc, append-nil, add-one, arith, ltb-true, nat_lt, ne_eqb}
use borrow.Author.Tests.{ltb-false}
use Rattle.std.proofs.lemmas.Bool.{cond-true, cond-false}
use Rattle.std.proofs.lemmas.Bool.Decides.{nat_tests}
use Rattle.std.proofs.lemmas.List.{get_or_default, map-append, take_more, take_all, take-append-drop}
use Rattle.std.proofs.lemmas.List.Elements.{filter-append}
use Rattle.std.specs.List.Sorted.{IsNonDecreasingBy}
use Rattle.list_text.specs.declared.table.SymbolLine.{SymbolLine}
use Rattle.list_text.specs.Lists.{lines_from, lines_of_spans, word_lines}
use Rattle.list_text.specs.Tables.{lines_at}
use Rattle.visa_io.specs.ImageCode.{IsAligned, total_len}
use Rattle.visa_io.specs.declared.records.Span.{Span}
use Rattle.visa_io.specs.Puts.{Put, PutAll, PutFailed, PutSome, Taken}
use Rattle.visa_io.proofs.PutLaws.{fails_one, puts_both, puts_none, puts_one, puts_then_some, some_of_longer}

-- the lines at an address, part by part
pub lines_at-append : (a b : List SymbolLine) (at : ℕ) → lines_at (a ++ b) at ≡ lines_at a at ++ lines_at b at
lines_at-append a b at = ap (map (λ (l : SymbolLine). l.line.items)) (filter-append (λ l. nat_eq l.at at) a b) ∙ map-append (λ (l : SymbolLine). l.line.items) (at_of a) (at_of b)
  where
    at_of : List SymbolLine → List SymbolLine
    at_of ls = filter (λ l. nat_eq l.at at) ls

same_test : (a b : ℕ) → a ≡ b → nat_eq a b ≡ true
same_test a b e = grind (arith, nat_tests)

pub own_line : (l : SymbolLine) (at : ℕ) → l.at ≡ at → lines_at (l ∷ []) at ≡ l.line.items ∷ []
own_line l at e = ap (map (λ (x : SymbolLine). x.line.items)) (cond-true (nat_eq l.at at) (l ∷ []) [] (same_test l.at at e))

pub none_at : (ls : List SymbolLine) (at : ℕ) → ((k : ℕ) (d : SymbolLine) → k < length ls → ¬ ((get_or ls k d).at ≡ at)) → lines_at ls at ≡ []
none_at [] at h = refl
none_at (l ∷ ls) at h = ap (map (λ (x : SymbolLine). x.line.items)) (cond-false (nat_eq l.at at) (l ∷ filter (λ x. nat_eq x.at at) ls) (filter (λ x. nat_eq x.at at) ls) (ne_eqb l.at at (h 0 l (omega arith)))) ∙ none_at ls at (λ k d lt. h (suc k) d (omega arith))

get_or_drop : (ls : List SymbolLine) (n k : ℕ) (d : SymbolLine) → get_or (drop n ls) k d ≡ get_or ls (n + k) d
get_or_drop ls zero k d = ap (λ m. get_or ls m d) (let e : k ≡ 0 + k = omega arith in e)
get_or_drop [] (suc n) k d = refl
get_or_drop (l ∷ ls) (suc n) k d = get_or_drop ls n k d ∙ ap (λ m. get_or (l ∷ ls) m d) (let e : suc (n + k) ≡ suc n + k = omega arith in e)

module _ (run : List SymbolLine) (at : ℕ) (rising : IsNonDecreasingBy (λ l. l.at) run) (from : (k : ℕ) (d : SymbolLine) → k < length run → at ≤ (get_or run k d).at) where
  -- from one with another address on there is none
  pub run_ends : (s t : Taken) (i : ℕ) (x : SymbolLine) → i < length run → x ≡ get_or run i x → ¬ (x.at ≡ at) → PutAll s t (lines_at (take i run) at) → PutAll s t (lines_at run at)
  run_ends s t i x h is other puts = subst (PutAll s t) (sym whole) puts
    where
      past : at < x.at
      past = let f = from i x h in let e : x.at ≡ (get_or run i x).at = ap (λ (l : SymbolLine). l.at) is in let n : ¬ (x.at ≡ at) = other in omega arith

      none : lines_at (drop i run) at ≡ []
      none = none_at (drop i run) at (λ k d lt same.
          let long = length-drop i run in
          let up = rising i (i + k) d (omega arith) (omega arith) in
          let first : (get_or run i d).at ≡ x.at = ap (λ (l : SymbolLine). l.at) (get_or_default run i d x h ∙ sym is) in
          let here : (get_or (drop i run) k d).at ≡ (get_or run (i + k) d).at = ap (λ (l : SymbolLine). l.at) (get_or_drop run i k d) in
          let p = past in
          omega arith)

      whole : lines_at run at ≡ lines_at (take i run) at
      whole = ap (λ q. lines_at q at) (sym (take-append-drop i run)) ∙ lines_at-append (take i run) (drop i run) at ∙ ap (λ q. lines_at (take i run) at ++ q) none ∙ append-nil (lines_at (take i run) at)

  through : (i : ℕ) (x : SymbolLine) → i < length run → x ≡ get_or run i x → x.at ≡ at → lines_at (take (i + 1) run) at ≡ lines_at (take i run) at ++ x.line.items ∷ []
  through i x h is own =
      ap (λ q. lines_at q at) (take_more run i x h ∙ ap (λ l. take i run ++ l ∷ []) (sym is)) ∙ lines_at-append (take i run) (x ∷ []) at ∙ ap (λ q. lines_at (take i run) at ++ q) (own_line x at own)

  pub run_more : {s t u : Taken} (i : ℕ) (x : SymbolLine) → i < length run → x ≡ get_or run i x → x.at ≡ at → PutAll s t (lines_at (take i run) at) → Put t u x.line.items → PutAll s u (lines_at (take (i + 1) run) at)
  run_more {s} {t} {u} i x h is own puts put = subst (PutAll s u) (sym (through i x h is own)) (puts_both puts (puts_one put))

  pub run_stops : {s t u : Taken} (i : ℕ) (x : SymbolLine) → i < length run → x ≡ get_or run i x → x.at ≡ at → PutAll s t (lines_at (take i run) at) → PutFailed t u x.line.items → PutSome s u (lines_at run at)
  run_stops {s} {t} {u} i x h is own puts put =
      let whole : lines_at run at ≡ lines_at (take i run) at ++ x.line.items ∷ [] ++ lines_at (drop (i + 1) run) at =
      ap (λ q. lines_at q at) (sym (take-append-drop (i + 1) run)) ∙ lines_at-append (take (i + 1) run) (drop (i + 1) run) at ∙ ap (λ q. q ++ lines_at (drop (i + 1) run) at) (through i x h is own) in
      subst (PutSome s u) (sym whole) (some_of_longer (lines_at (drop (i + 1) run) at) (puts_then_some puts (fails_one put)))

-- below the first at an address there is none
pub above : (table : List SymbolLine) (at i : ℕ) → ((k : ℕ) (d : SymbolLine) → k < i → k < length table → (get_or table k d).at < at) → lines_at table at ≡ lines_at (drop i table) at
above [] at zero h = refl
above [] at (suc i) h = refl
above (l ∷ table) at zero h = refl
above (l ∷ table) at (suc i) h =
    let low : l.at < at = h 0 l (omega arith) (omega arith) in
    lines_at-append (l ∷ []) table at
    ∙ ap (λ q. q ++ lines_at table at) (none_at (l ∷ []) at (λ k d lt same. other k d lt low same))
    ∙ above table at i (λ k d lt h2. h (suc k) d (omega arith) (omega arith))
  where
    other : (k : ℕ) (d : SymbolLine) → k < 1 → l.at < at → ¬ ((get_or (l ∷ []) k d).at ≡ at)
    other zero d lt low same = omega arith
    other (suc k) d lt low same = omega arith

-- words, one after the other
module _ (names : ℕ → List (List ℕ)) where
  pub from_more : (at : ℕ) (ws : List ℕ) (i d : ℕ) → i < length ws → lines_from names at (take (suc i) ws) ≡ lines_from names at (take i ws) ++ word_lines names (at + 4 * i) (get_or ws i d)
  from_more at [] i d h = absurd (omega arith)
  from_more at (w ∷ ws) zero d h = append-nil (word_lines names at w) ∙ ap (λ n. word_lines names n w) (let e : at ≡ at + 4 * 0 = omega arith in e)
  from_more at (w ∷ ws) (suc i) d h =
      ap (λ q. word_lines names at w ++ q) (from_more (at + 4) ws i d (omega arith)) ∙ sym (append_assoc (word_lines names at w) (lines_from names (at + 4) (take i ws)) (word_lines names (at + 4 + 4 * i) (get_or ws i d)))
      ∙ ap (λ n. lines_from names at (take (suc i) (w ∷ ws)) ++ word_lines names n (get_or ws i d)) (let e : at + 4 + 4 * i ≡ at + 4 * suc i = omega arith in e)

  pub from_split : (at : ℕ) (ws : List ℕ) (n : ℕ) → lines_from names at ws ≡ lines_from names at (take n ws) ++ lines_from names (at + 4 * n) (drop n ws)
  from_split at ws zero = ap (λ a. lines_from names a ws) (let e : at ≡ at + 4 * 0 = omega arith in e)
  from_split at [] (suc n) = refl
  from_split at (w ∷ ws) (suc n) =
      ap (λ q. word_lines names at w ++ q) (from_split (at + 4) ws n) ∙ sym (append_assoc (word_lines names at w) (lines_from names (at + 4) (take n ws)) (lines_from names (at + 4 + 4 * n) (drop n ws)))
      ∙ ap (λ a. word_lines names at w ++ lines_from names (at + 4) (take n ws) ++ lines_from names a (drop n ws)) (let e : at + 4 + 4 * n ≡ at + 4 * suc n = omega arith in e)

  pub words_more : {s t u : Taken} (at : ℕ) (ws : List ℕ) (i d : ℕ) → i < length ws → PutAll s t (lines_from names at (take i ws)) → PutAll t u (word_lines names (at + 4 * i) (get_or ws i d)) → PutAll s u (lines_from names at (take (i + 1) ws))
  words_more {s} {t} {u} at ws i d h puts put = subst (PutAll s u) (sym (ap (λ n. lines_from names at (take n ws)) (add-one i) ∙ from_more at ws i d h)) (puts_both puts put)

  pub words_stop : {s t u : Taken} (at : ℕ) (ws : List ℕ) (i d : ℕ) → i < length ws → PutAll s t (lines_from names at (take i ws)) → PutSome t u (word_lines names (at + 4 * i) (get_or ws i d)) → PutSome s u (lines_from names at ws)
  words_stop {s} {t} {u} at ws i d h puts put =
      let rest = lines_from names (at + 4 * suc i) (drop (suc i) ws) in
      subst (PutSome s u) (sym (from_split at ws (suc i) ∙ ap (λ q. q ++ rest) (from_more at ws i d h))) (some_of_longer rest (puts_then_some puts put))

  -- spans, one after the other: what was put, and what is left
  pub record IsBehind (s t : Taken) (spans : List Span) (words : List ℕ) (k : ℕ) (rest : List ℕ) : Type 0 where
    pub done : List (List ℕ)
    pub puts : PutAll s t done
    pub whole : lines_of_spans names spans words ≡ done ++ lines_of_spans names (drop k spans) rest
    pub enough : 4 * length rest ≡ total_len (drop k spans)

  pub behind_none : (s : Taken) (spans : List Span) (words : List ℕ) → 4 * length words ≡ total_len spans → IsBehind s s spans words 0 words
  behind_none s spans words e = record { done = []; puts = puts_none s; whole = refl; enough = e }

  at_drop : (spans : List Span) (k : ℕ) (d : Span) → k < length spans → drop k spans ≡ get_or spans k d ∷ drop (k + 1) spans
  at_drop [] k d h = absurd (omega arith)
  at_drop (x ∷ spans) zero d h = refl
  at_drop (x ∷ spans) (suc k) d h = at_drop spans k d (omega arith) ∙ ap (λ n. get_or spans k d ∷ drop n (x ∷ spans)) (let e : suc (k + 1) ≡ suc k + 1 = omega arith in e)

  -- the words of the next span are there
  pub next_there : (s t : Taken) (spans : List Span) (words : List ℕ) (k : ℕ) (d : Span) (rest : List ℕ) → k < length spans → IsBehind s t spans words k rest → IsAligned (get_or spans k d) → (get_or spans k d).len / 4 ≤ length rest
  next_there s t spans words k d rest h b a =
      let e : total_len (drop k spans) ≡ (get_or spans k d).len + total_len (drop (k + 1) spans) = ap total_len (at_drop spans k d h) in
      let enough = b.enough in
      omega arith

  split_there : (s t : Taken) (spans : List Span) (words : List ℕ) (k : ℕ) (d : Span) (rest : List ℕ) → k < length spans → (b : IsBehind s t spans words k rest)
      → lines_of_spans names spans words ≡ b.done ++ lines_from names (get_or spans k d).start (take ((get_or spans k d).len / 4) rest) ++ lines_of_spans names (drop (k + 1) spans) (drop ((get_or spans k d).len / 4) rest)
  split_there s t spans words k d rest h b =
      b.whole ∙ ap (λ q. b.done ++ lines_of_spans names q rest) (at_drop spans k d h)
      ∙ sym (append_assoc b.done (lines_from names (get_or spans k d).start (take ((get_or spans k d).len / 4) rest)) (lines_of_spans names (drop (k + 1) spans) (drop ((get_or spans k d).len / 4) rest)))

  pub behind_next : {s t u : Taken} (spans : List Span) (words : List ℕ) (k : ℕ) (d : Span) (rest own others : List ℕ) → k < length spans → (b : IsBehind s t spans words k rest) → IsAligned (get_or spans k d) → own ≡ take ((get_or spans k d).len / 4) rest → others ≡ drop ((get_or spans k d).len / 4) rest
      → PutAll t u (lines_from names (get_or spans k d).start own) → IsBehind s u spans words (k + 1) others
  behind_next {s} {t} {u} spans words k d rest own others h b a front back put =
      let there = next_there s t spans words k d rest h b a in
      let e : total_len (drop k spans) ≡ (get_or spans k d).len + total_len (drop (k + 1) spans) = ap total_len (at_drop spans k d h) in
      let enough = b.enough in
      let len = a.len in
      let long : length others ≡ length rest - (get_or spans k d).len / 4 = ap (λ (q : List ℕ). length q) back ∙ length-drop ((get_or spans k d).len / 4) rest in
      record {
        done = b.done ++ lines_from names (get_or spans k d).start own;
        puts = puts_both b.puts put;
        whole = split_there s t spans words k d rest h b ∙ (λ i. b.done ++ lines_from names (get_or spans k d).start (sym front i) ++ lines_of_spans names (drop (k + 1) spans) (sym back i));
        enough = omega arith;
      }

  pub behind_stops : {s t u : Taken} (spans : List Span) (words : List ℕ) (k : ℕ) (d : Span) (rest own : List ℕ) → k < length spans → IsBehind s t spans words k rest → own ≡ take ((get_or spans k d).len / 4) rest
      → PutSome t u (lines_from names (get_or spans k d).start own) → PutSome s u (lines_of_spans names spans words)
  behind_stops {s} {t} {u} spans words k d rest own h b front put =
      let more = lines_of_spans names (drop (k + 1) spans) (drop ((get_or spans k d).len / 4) rest) in
      subst (PutSome s u) (sym (split_there s t spans words k d rest h b ∙ ap (λ q. b.done ++ lines_from names (get_or spans k d).start q ++ more) (sym front))) (some_of_longer more (puts_then_some b.puts put))

  drop_past : (spans : List Span) (k : ℕ) → length spans ≤ k → drop k spans ≡ []
  drop_past [] zero h = refl
  drop_past [] (suc k) h = refl
  drop_past (x ∷ spans) zero h = absurd (omega arith)
  drop_past (x ∷ spans) (suc k) h = drop_past spans k (omega arith)

  pub behind_all : (s t : Taken) (spans : List Span) (words : List ℕ) (k : ℕ) (rest : List ℕ) → length spans ≤ k → IsBehind s t spans words k rest → PutAll s t (lines_of_spans names spans words)
  behind_all s t spans words k rest h b = subst (PutAll s t) (sym (b.whole ∙ ap (λ q. b.done ++ lines_of_spans names q rest) (drop_past spans k h) ∙ append-nil b.done)) b.puts

-- what code takes from an index on
pub sliced : (table : List SymbolLine) (i : ℕ) → take (length table - i) (drop i table) ≡ drop i table
sliced table i = take_all (length table - i) (drop i table) (omega (arith, length-drop i table))

-- where the addresses aren't below one from an index on
pub from_index : (table : List SymbolLine) (at i : ℕ) → ((k : ℕ) (d : SymbolLine) → i ≤ k → k < length table → nat_lt (get_or table k d).at at ≡ false)
    → (k : ℕ) (d : SymbolLine) → k < length (take (length table - i) (drop i table)) → at ≤ (get_or (take (length table - i) (drop i table)) k d).at
from_index table at i h k d lt =
    let s = sliced table i in
    let long : k < length (drop i table) = subst (λ (q : List SymbolLine). k < length q) s lt in
    let past : at ≤ (get_or table (i + k) d).at = ltb-false (get_or table (i + k) d).at at (h (i + k) d (omega arith) (omega (arith, length-drop i table))) in
    subst (λ (q : List SymbolLine). at ≤ (get_or q k d).at) (sym s) (subst (λ (l : SymbolLine). at ≤ l.at) (sym (get_or_drop table i k d)) past)

pub lines_sliced : (table : List SymbolLine) (at i : ℕ) → ((k : ℕ) (d : SymbolLine) → k < i → nat_lt (get_or table k d).at at ≡ true) → lines_at table at ≡ lines_at (take (length table - i) (drop i table)) at
lines_sliced table at i h = above table at i (λ k d lt long. ltb-true (get_or table k d).at at (h k d lt)) ∙ ap (λ q. lines_at q at) (sym (sliced table i))
