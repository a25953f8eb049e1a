-- What marks say of the units that are reached.
use Rattle.std.proofs.Common.{◌≡◌, refl, sym, ap, subst, ◌∙◌, ℕ, zero, suc, ◌+◌, ◌<◌, ◌≤◌, Bool, true, false, List, [], ◌∷◌, length, get_or, set, replicate, arith, ◌⊎◌, inl, inr, eq-eqb, get_or-set_other}
use Rattle.std.specs.Prelude.{◌||◌, not, ◌==◌, if◌then◌else◌}
use Rattle.std.specs.List.{Contains}
use Rattle.std.proofs.lemmas.Bool.{cases_order, cases_eq, eqb-true}
use Rattle.std.proofs.lemmas.List.{get_or_default, length-set}
use Rattle.std.proofs.lemmas.List.Elements.{All-contains}
use Rattle.loop_regions.specs.Cycles.{AreAhead, AreClosed, AreIn, IsAhead, IsSwept, IsWayOn, Joins, is_new, mark, unmarked}
use Rattle.loop_regions.specs.declared.ways.Way.{Way}
use Rattle.loop_regions.proofs.Firsts.{there}

-- what the test says

record IsNew (b m s f : Bool) : Type 0 where
  ahead : b ≡ false
  off : m ≡ false
  reached : (s ≡ true) ⊎ (f ≡ true)

new_of : (b m s f : Bool) → not (b || (m || not (s || f))) ≡ true → IsNew b m s f
new_of true m s f is = let bad : false ≡ true = is in cc
new_of false true s f is = let bad : false ≡ true = is in cc
new_of false false true f is = record { ahead = refl; off = refl; reached = inl refl }
new_of false false false true is = record { ahead = refl; off = refl; reached = inr refl }
new_of false false false false is = let bad : false ≡ true = is in cc

old_of : (b m s f : Bool) → not (b || (m || not (s || f))) ≡ false → b ≡ false → (s ≡ true) ⊎ (f ≡ true) → m ≡ true
old_of true m s f is ahead reached = let bad : true ≡ false = ahead in cc
old_of false true s f is ahead reached = refl
old_of false false true f is ahead reached = let bad : true ≡ false = is in cc
old_of false false false true is ahead reached = let bad : true ≡ false = is in cc
old_of false false false false is ahead (inl r) = r
old_of false false false false is ahead (inr r) = r

-- one way more
visited : (ways : List Way) (start : ℕ) (marks : List Bool) (w : Way) → Contains ways w → is_new w start marks ≡ true → AreAhead ways start marks → IsAhead ways start w.to
visited ways start marks w among is ahead = by_reached n.reached
  where
    n : IsNew w.back (mark marks w.to) (w.from == start) (mark marks w.from)
    n = new_of w.back (mark marks w.to) (w.from == start) (mark marks w.from) is

    joins : Joins ways w.from w.to
    joins = (w, among, n.ahead, refl, refl)

    by_reached : ((w.from == start) ≡ true) ⊎ (mark marks w.from ≡ true) → IsAhead ways start w.to
    by_reached (inl same) = record { last = w.from; before = []; way = (joins, eqb-true w.from start same) }
    by_reached (inr marked) = let a = ahead w.from marked in record { last = w.from; before = a.last ∷ a.before; way = (joins, a.way) }

marked_ahead : (ways : List Way) (start : ℕ) (marks : List Bool) (w : Way) → w.to < length marks → Contains ways w → is_new w start marks ≡ true → AreAhead ways start marks → AreAhead ways start (set marks w.to true)
marked_ahead ways start marks w inside among is ahead u marked = elim (cases_eq u w.to) [
  | inl same ↦ subst (IsAhead ways start) (sym same) (visited ways start marks w among is ahead)
  | inr differ ↦ ahead u (sym (get_or-set_other marks w.to u true false differ) ∙ marked)
]

pub unmarked_set : (marks : List Bool) (u : ℕ) → u < length marks → mark marks u ≡ false → unmarked (set marks u true) + 1 ≡ unmarked marks
unmarked_set [] u inside off = absurd (omega arith)
unmarked_set (m ∷ ms) zero inside off = let h = ap (λ (b : Bool). let n : ℕ = (if b then 0 else 1) in n) off in omega (arith, h)
unmarked_set (m ∷ ms) (suc u) inside off = omega (arith, unmarked_set ms u (omega arith) off)

-- the sweep as far as it has come
pub record IsSweeping (ways : List Way) (start : ℕ) (old now : List Bool) (changed : Bool) (k : ℕ) : Type 0 where
  pub beside : length now ≡ length old
  pub ahead : AreAhead ways start old → AreAhead ways start now
  pub fewer : changed ≡ true → unmarked now < unmarked old
  pub closed : changed ≡ false → (now ≡ old) × ((j : ℕ) (d : Way) → j < k → is_new (get_or ways j d) start old ≡ false)

pub sweep_none : (ways : List Way) (start : ℕ) (old : List Bool) → IsSweeping ways start old old false 0
sweep_none ways start old = record { beside = refl; ahead = λ a. a; fewer = λ e. let bad : false ≡ true = e in cc; closed = λ e. (refl, λ j d less. absurd (omega arith)) }

pub sweep_set : (ways : List Way) (start : ℕ) (old now new : List Bool) (changed : Bool) (k : ℕ) (d : Way) → AreIn (length old) ways → k < length ways → IsSweeping ways start old now changed k
    → is_new (get_or ways k d) start now ≡ true → new ≡ set now (get_or ways k d).to true → IsSweeping ways start old new true (k + 1)
sweep_set ways start old now new changed k d within inside s is made =
    let w = get_or ways k d in
    let to : w.to < length now = omega (arith, (within k d inside).enters, s.beside) in
    let n = new_of w.back (mark now w.to) (w.from == start) (mark now w.from) is in
    let count = unmarked_set now w.to to n.off in
    let same = ap unmarked made in
    record {
      beside = ap length made ∙ length-set now w.to true ∙ s.beside;
      ahead = λ a. subst (AreAhead ways start) (sym made) (marked_ahead ways start now w to (there ways k d inside) is (s.ahead a));
      fewer = λ e. by_changed changed refl count same;
      closed = λ e. let bad : true ≡ false = e in cc;
    }
  where
    by_changed : (b : Bool) → changed ≡ b → unmarked (set now (get_or ways k d).to true) + 1 ≡ unmarked now → unmarked new ≡ unmarked (set now (get_or ways k d).to true) → unmarked new < unmarked old
    by_changed true is count same = let f = s.fewer is in omega (arith, f, count, same)
    by_changed false is count same = let e = ap unmarked (s.closed is).0 in omega (arith, e, count, same)

pub sweep_kept : (ways : List Way) (start : ℕ) (old now new : List Bool) (changed : Bool) (k : ℕ) (d : Way) → k < length ways → IsSweeping ways start old now changed k
    → is_new (get_or ways k d) start now ≡ false → new ≡ now → IsSweeping ways start old new changed (k + 1)
sweep_kept ways start old now new changed k d inside s is made = record {
  beside = ap length made ∙ s.beside;
  ahead = λ a. subst (AreAhead ways start) (sym made) (s.ahead a);
  fewer = λ e. let f = s.fewer e in let h = ap unmarked made in omega (arith, f, h);
  closed = λ e. let c = s.closed e in (
    made ∙ c.0,
    λ j x less. elim (cases_order j k) [
      | inl same ↦ ap (λ i. is_new (get_or ways i x) start old) same ∙ ap (λ (v : Way). is_new v start old) (get_or_default ways k x d inside) ∙ subst (λ (m : List Bool). is_new (get_or ways k d) start m ≡ false) c.0 is
      | inr (inl below) ↦ c.1 j x below
      | inr (inr above) ↦ absurd (omega arith)
    ],
  );
}

pub sweep_all : (ways : List Way) (start : ℕ) (old now : List Bool) (changed : Bool) (k : ℕ) → length ways ≤ k → IsSweeping ways start old now changed k → IsSwept ways start old now changed
sweep_all ways start old now changed k over s = record {
  beside = s.beside;
  ahead = s.ahead;
  fewer = s.fewer;
  closed = λ e. let c = s.closed e in (c.0, λ j d inside. c.1 j d (omega arith));
}

-- what is closed holds all that is ahead
pub all_marked : (ways : List Way) (start : ℕ) (marks : List Bool) → AreClosed ways start marks → (u last : ℕ) (before : List ℕ) → IsWayOn ways start (u ∷ last ∷ before) → mark marks u ≡ true
all_marked ways start marks closed u last [] way =
    let w = way.0.0 in
    let c = All-contains (λ v. is_new v start marks ≡ false) ways w closed way.0.1 in
    subst (λ v. mark marks v ≡ true) way.0.4 (old_of w.back (mark marks w.to) (w.from == start) (mark marks w.from) c way.0.2 (inl (eq-eqb w.from start (way.0.3 ∙ way.1))))
all_marked ways start marks closed u last (x ∷ before) way =
    let w = way.0.0 in
    let c = All-contains (λ v. is_new v start marks ≡ false) ways w closed way.0.1 in
    let m = all_marked ways start marks closed last x before way.1 in
    subst (λ v. mark marks v ≡ true) way.0.4 (old_of w.back (mark marks w.to) (w.from == start) (mark marks w.from) c way.0.2 (inr (subst (λ v. mark marks v ≡ true) (sym way.0.3) m)))

-- no mark is set at first
pub none_ahead : (ways : List Way) (start n : ℕ) → AreAhead ways start (replicate n false)
none_ahead ways start n u is = let bad : false ≡ true = sym (none n u) ∙ is in absurd (let b : ⊥ = cc in b)
  where
    none : (m v : ℕ) → mark (replicate m false) v ≡ false
    none zero v = refl
    none (suc m) zero = refl
    none (suc m) (suc v) = none m v

-- a closed mark decides
pub decided : (ways : List Way) (u : ℕ) (marks : List Bool) → AreAhead ways u marks → AreClosed ways u marks → (b : Bool) → b ≡ mark marks u → (b ≡ true → IsAhead ways u u) × (b ≡ false → IsAhead ways u u → ⊥)
decided ways u marks ahead closed b is =
    (λ e. ahead u (sym is ∙ e), λ e a. let bad : true ≡ false = sym (all_marked ways u marks closed u a.last a.before a.way) ∙ sym is ∙ e in absurd (let b : ⊥ = cc in b))
