-- The operands found along the entries are those of the definition.
use Rattle.std.proofs.Common.{◌≡◌, ◌<◌, ◌+◌, ◌^◌, ℕ, Bool, true, false, cond, eqb, List, [], ◌∷◌, ◌++◌, length, get_or, take, Option, Some, None, refl, sym, ap, ◌∙◌, subst, arith}
use Rattle.std.proofs.lemmas.Grind.{common_steps}
use Rattle.std.proofs.lemmas.List.{reverse-append, take_more}
use Rattle.std.proofs.lemmas.List.Folds.{list_all-append}
use Rattle.std.specs.List.{find}
use Rattle.std.specs.Prelude.{IfSome, ◌&&◌}
use Rattle.mips_isa.specs.Words.{low_word}
use Rattle.mips_ref.specs.Mips.{Mips, name_value}
use Rattle.core_window.specs.Operands.{as_name, from_writer, given, is_name, nearest_writer, operand, passes_loads, stores_done, writes_name, written}
use Rattle.core_window.specs.Search.{AreSmall, IsSmall, found_in, past_place, place_value}
use Rattle.core_window.specs.declared.records.Entry.{Entry}
use Rattle.core_window.specs.declared.records.Outcome.TheVariants.{Trapped, Parts}
use Rattle.core_window.specs.declared.records.Status.{Status}
use Rattle.core_window.specs.declared.records.Status.TheVariants.{Waiting, Running, Done}
use Rattle.core_window.specs.declared.search.Found.{Found}
use Rattle.core_window.specs.declared.search.Names.{Names}

pub three_places : (xs : List (Option ℕ)) (a b c : Option ℕ) → length xs ≡ 3 → a ≡ get_or xs 0 a → b ≡ get_or xs 1 b → c ≡ get_or xs 2 c
    → a ∷ b ∷ c ∷ [] ≡ xs
three_places [] a b c n e f g = absurd (omega (arith, n))
three_places (p ∷ []) a b c n e f g = absurd (omega (arith, n))
three_places (p ∷ q ∷ []) a b c n e f g = absurd (omega (arith, n))
three_places (p ∷ q ∷ r ∷ []) a b c n e f g = cc
three_places (p ∷ q ∷ r ∷ s ∷ rest) a b c n e f g = absurd (omega (arith, n))

-- the nearest writer where one more entry is the youngest
writer-step : (b : Bool) (e : Entry) (w : Option Entry) (n : ℕ) (v : Option ℕ)
    → from_writer (cond b (Some e) w) n v ≡ cond b (given e.status n) (from_writer w n v)
writer-step true e w n v = refl
writer-step false e w n v = refl

operand-more : (older : List Entry) (e : Entry) (x : Mips) (n : ℕ)
    → operand (older ++ e ∷ []) x n ≡ cond (writes_name e.instr n) (given e.status n) (operand older x n)
operand-more older e x n =
    ap (λ l. from_writer (find (λ (f : Entry). writes_name f.instr n) l) n (Some (name_value x n))) (reverse-append older (e ∷ []))
    ∙ writer-step (writes_name e.instr n) e (nearest_writer older n) n (Some (name_value x n))

place-more : (older : List Entry) (e : Entry) (x : Mips) (o : Option ℕ) → place_value (older ++ e ∷ []) x o ≡ past_place e o (place_value older x o)
place-more older e x None = refl
place-more older e x (Some n) = operand-more older e x n

and-last : (a b : Bool) → (a && (b && true)) ≡ (a && b)
and-last true true = refl
and-last true false = refl
and-last false b = refl

stores-more : (older : List Entry) (e : Entry) → stores_done (older ++ e ∷ []) ≡ (stores_done older && passes_loads e)
stores-more older e = list_all-append passes_loads older (e ∷ []) ∙ and-last (stores_done older) (passes_loads e)

-- values of registers stay words
given-small : (s : Status) (n : ℕ) → (n ≡ 32 → ⊥) → IfSome (given s n) (λ w. w < 2 ^ 32)
given-small Waiting n other = tt
given-small (Running r) n other = tt
given-small (Done (Trapped k)) n other = tt
given-small (Done (Parts r)) n other = as-small r.write
  where
    word-small : (b : Bool) (w : ℕ) → eqb n 32 ≡ b → cond b w (low_word w) < 2 ^ 32
    word-small true w e = absurd (other (grind (arith, common_steps, e)))
    word-small false w e = omega arith

    as-small : (o : Option ℕ) → IfSome (as_name n o) (λ w. w < 2 ^ 32)
    as-small None = tt
    as-small (Some w) = word-small (eqb n 32) w refl

cond-small : (b : Bool) (p q : Option ℕ) → IfSome p (λ w. w < 2 ^ 32) → IfSome q (λ w. w < 2 ^ 32) → IfSome (cond b p q) (λ w. w < 2 ^ 32)
cond-small true p q h k = h
cond-small false p q h k = k

past-small : (e : Entry) (o v : Option ℕ) → IsSmall o v → IsSmall o (past_place e o v)
past-small e None v h = h
past-small e (Some n) v h = λ other. cond-small (is_name (written e.instr) n) (given e.status n) v (given-small e.status n other) (h other)

pub record Past (found next : Found) (names : Names) (e : Entry) : Type 0 where
  pub first : next.first ≡ past_place e names.first found.first
  pub second : next.second ≡ past_place e names.second found.second
  pub third : next.third ≡ past_place e names.third found.third
  pub stores : next.stores_done ≡ (found.stores_done && passes_loads e)

pub one_more : (es : List Entry) (j : ℕ) (e : Entry) (x : Mips) (names : Names) (found next : Found) → j < length es → e ≡ get_or es j e
    → found ≡ found_in (take j es) x names → Past found next names e → next ≡ found_in (take (j + 1) es) x names
unfolding found_in
one_more es j e x names found next below is was past =
    let older = take j es in
    let more : take (j + 1) es ≡ older ++ e ∷ [] = take_more es j e below ∙ ap (λ f. older ++ f ∷ []) (sym is) in
    let first : next.first ≡ place_value (older ++ e ∷ []) x names.first =
    past.first ∙ ap (λ (f : Found). past_place e names.first f.first) was ∙ sym (place-more older e x names.first) in
    let second : next.second ≡ place_value (older ++ e ∷ []) x names.second =
    past.second ∙ ap (λ (f : Found). past_place e names.second f.second) was ∙ sym (place-more older e x names.second) in
    let third : next.third ≡ place_value (older ++ e ∷ []) x names.third =
    past.third ∙ ap (λ (f : Found). past_place e names.third f.third) was ∙ sym (place-more older e x names.third) in
    let stores : next.stores_done ≡ stores_done (older ++ e ∷ []) =
    past.stores ∙ ap (λ (f : Found). f.stores_done && passes_loads e) was ∙ sym (stores-more older e) in
    let all : next ≡ found_in (older ++ e ∷ []) x names =
    λ i. record { first = first i; second = second i; third = third i; stores_done = stores i } in
    all ∙ ap (λ l. found_in l x names) (sym more)

pub small_more : (e : Entry) (names : Names) (found next : Found) → AreSmall names found → Past found next names e → AreSmall names next
small_more e names found next small past =
    record {
      first = subst (IsSmall names.first) (sym past.first) (past-small e names.first found.first small.first);
      second = subst (IsSmall names.second) (sym past.second) (past-small e names.second found.second small.second);
      third = subst (IsSmall names.third) (sym past.third) (past-small e names.third found.third small.third);
    }
