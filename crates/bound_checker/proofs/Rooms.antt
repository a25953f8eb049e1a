-- Units that are found, in room for so many.
use Rattle.std.proofs.Common.{◌≡◌, ◌∙◌, refl, sym, ap, subst, ℕ, zero, suc, ◌+◌, ◌<◌, ◌≤◌, Bool, true, false, cond, arith, List, [], ◌∷◌, ◌⊎◌, inl, inr, length, get_or}
use Rattle.std.specs.List.{count_by}
use Rattle.std.specs.Prelude.{slice_set}
use Rattle.std.specs.Vec.{with_item}
use Rattle.std.proofs.lemmas.Bool.{cases_eq}
use Rattle.std.proofs.lemmas.List.{get_or-set_other, get_or-set_same, length-set}
use Rattle.std.proofs.lemmas.List.Sums.{sum_by-cons}
use Rattle.bound_checker.specs.Room.{Adds, IsRoom, IsSized, found_at, seen_at}
use Rattle.bound_checker.specs.declared.room.Room.{Room}

abbrev marked_in : List Bool → ℕ
marked_in seen = count_by (λ b. b) seen

marked_cons : (x : Bool) (a : List Bool) → marked_in (x ∷ a) ≡ cond x 1 0 + marked_in a
marked_cons x a = sum_by-cons (λ b. cond b 1 0) x a

marked_most : (a : List Bool) → marked_in a ≤ length a
marked_most [] = omega arith
marked_most (true ∷ a) = omega (arith, marked_cons true a, marked_most a)
marked_most (false ∷ a) = omega (arith, marked_cons false a, marked_most a)

pub marked_less : (a : List Bool) (k : ℕ) → k < length a → get_or a k false ≡ false → marked_in a < length a
marked_less [] k below none = absurd (omega (arith, below))
marked_less (true ∷ a) zero below none = let never : true ≡ false = none in absurd (cc)
marked_less (false ∷ a) zero below none = omega (arith, marked_cons false a, marked_most a)
marked_less (true ∷ a) (suc k) below none = omega (arith, marked_cons true a, marked_less a k (omega (arith, below)) none)
marked_less (false ∷ a) (suc k) below none = omega (arith, marked_cons false a, marked_less a k (omega (arith, below)) none)

marked_more : (a : List Bool) (k : ℕ) → k < length a → get_or a k false ≡ false → marked_in (slice_set a k true) ≡ marked_in a + 1
marked_more [] k below none = absurd (omega (arith, below))
marked_more (true ∷ a) zero below none = let never : true ≡ false = none in absurd (cc)
marked_more (false ∷ a) zero below none = omega (arith, marked_cons false a, marked_cons true a)
marked_more (x ∷ a) (suc k) below none = omega (arith, marked_cons x a, marked_cons x (slice_set a k true), marked_more a k (omega (arith, below)) none)

none_marked : (a : List Bool) → ((k : ℕ) → get_or a k false ≡ false) → marked_in a ≡ 0
none_marked [] none = refl
none_marked (true ∷ a) none = let never : true ≡ false = none 0 in absurd (cc)
none_marked (false ∷ a) none = omega (arith, marked_cons false a, none_marked a (λ k. none (suc k)))

true_false : {P : Type 0} → true ≡ false → P
true_false e = absurd (let b : ⊥ = cc in b)

-- a room in which none is found
pub cleared : (room : Room) (units : ℕ) → IsSized units room → ((k : ℕ) → seen_at room k ≡ false) → room.count ≡ 0 → IsRoom units room
cleared room units sized none empty = record {
  sized = sized;
  few = empty ∙ sym (none_marked room.seen.items none);
  listed = λ k is. true_false (sym is ∙ none k);
  marked = λ i below. absurd (omega (arith, below, empty));
}

-- one more is found
pub put_room : (room : Room) (k : ℕ) → IsRoom (length room.seen.items) room → k < length room.seen.items → seen_at room k ≡ false
    → IsRoom (length room.seen.items) (record { seen = with_item room.seen k true; found = with_item room.found room.count k; count = room.count + 1 })
put_room room k is within new = record {
  sized = record { seen_long = length-set room.seen.items k true; found_long = length-set room.found.items room.count k ∙ is.sized.found_long };
  few = ap (λ n. n + 1) is.few ∙ sym (marked_more room.seen.items k within new);
  listed = λ j h. elim (cases_eq j k) [
    | inl same ↦ (room.count, omega arith, get_or-set_same room.found.items room.count k 0 space ∙ sym same)
    | inr other ↦ let (i, below, at) = is.listed j (sym (get_or-set_other room.seen.items k j true false other) ∙ h) in (i, omega (arith, below), get_or-set_other room.found.items room.count i k 0 (omega (arith, below)) ∙ at)
  ];
  marked = λ i h. elim (cases_eq i room.count) [
    | inl same ↦ subst (λ (j : ℕ). get_or (slice_set room.seen.items k true) j false ≡ true) (sym (ap (λ (n : ℕ). get_or (slice_set room.found.items room.count k) n 0) same ∙ get_or-set_same room.found.items room.count k 0 space)) (get_or-set_same room.seen.items k true false within)
    | inr other ↦ subst (λ (j : ℕ). get_or (slice_set room.seen.items k true) j false ≡ true) (sym (get_or-set_other room.found.items room.count i k 0 other)) (still (found_at room i) (is.marked i (omega (arith, h, other))))
  ];
}
  where
    space : room.count < length room.found.items
    space = omega (arith, is.few, marked_less room.seen.items k within new, is.sized.found_long)

    still : (j : ℕ) → seen_at room j ≡ true → get_or (slice_set room.seen.items k true) j false ≡ true
    still j h = elim (cases_eq j k) [
      | inl same ↦ subst (λ (n : ℕ). get_or (slice_set room.seen.items k true) n false ≡ true) (sym same) (get_or-set_same room.seen.items k true false within)
      | inr other ↦ get_or-set_other room.seen.items k j true false other ∙ h
    ]

pub has_space : (room : Room) (k : ℕ) → IsRoom (length room.seen.items) room → k < length room.seen.items → seen_at room k ≡ false → room.count < length room.found.items
has_space room k is within new = omega (arith, is.few, marked_less room.seen.items k within new, is.sized.found_long)

-- what is added in turn
pub adds_none : (P : ℕ → Type 0) (room : Room) → ((j : ℕ) → P j → ⊥) → Adds P room room
adds_none P room none = record { kept = λ j h. h; whole = λ j p. absurd (none j p); only = λ j h. inl h; more = omega arith; front = λ i below. refl }

pub adds_both : (P Q R : ℕ → Type 0) (a b c : Room) → ((j : ℕ) → R j → P j ⊎ Q j) → ((j : ℕ) → P j → R j) → ((j : ℕ) → Q j → R j) → Adds P a b → Adds Q b c → Adds R a c
adds_both P Q R a b c split first second p q = record {
  kept = λ j h. q.kept j (p.kept j h);
  whole = λ j r. elim (split j r) [ inl x ↦ q.kept j (p.whole j x) | inr y ↦ q.whole j y ];
  only = λ j h. elim (q.only j h) [ inl old ↦ elim (p.only j old) [ inl o ↦ inl o | inr x ↦ inr (first j x) ] | inr y ↦ inr (second j y) ];
  more = omega (arith, p.more, q.more);
  front = λ i below. q.front i (omega (arith, below, p.more)) ∙ p.front i below;
}

pub adds_same : (P R : ℕ → Type 0) (a b : Room) → ((j : ℕ) → R j → P j) → ((j : ℕ) → P j → R j) → Adds P a b → Adds R a b
adds_same P R a b back on p = record {
  kept = p.kept;
  whole = λ j r. p.whole j (back j r);
  only = λ j h. elim (p.only j h) [ inl o ↦ inl o | inr x ↦ inr (on j x) ];
  more = p.more;
  front = p.front;
}

pub count_most : (units : ℕ) (room : Room) → IsRoom units room → room.count ≤ length room.found.items
count_most units room is = omega (arith, is.few, marked_most room.seen.items, is.sized.seen_long, is.sized.found_long)
