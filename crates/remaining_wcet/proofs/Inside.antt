-- The sub-task of an instruction, by the cuts met before.
use Rattle.std.proofs.Common.{◌≡◌, refl, sym, ap, subst, ◌∙◌, ◌⊎◌, inl, inr, ℕ, suc, ◌+◌, ◌≤◌, ◌<◌, Bool, true, false, List, [], ◌∷◌, ◌++◌, length, arith}
use Rattle.std.proofs.lemmas.Bool.{cases_eq}
use Rattle.std.specs.Prelude.{Option, Some, None}
use Rattle.flow_graph.specs.declared.parts.Edge.{Edge}
use Rattle.loop_regions.specs.Walks.{LoopGraph, IsFirst, Meets, Has}
use Rattle.loop_regions.specs.Places.{Place, places, unit_places, oldest, ats, IsFull}
use Rattle.loop_regions.specs.Costs.{Prices}
use Rattle.remaining_wcet.specs.Executed.{Clock}
use Rattle.remaining_wcet.specs.SubTasks.{SubTasks, Closed, IsPiece, IsCutUp, IsInside, pcs_to, AreKnown, cut_places, first_of_sub}
use Rattle.loop_regions.proofs.Sums.{ats_append, places_full}

pub oldest_append : (d : ℕ) (xs ys : List Place) → oldest d (xs ++ ys) ≡ oldest (oldest d xs) ys
oldest_append d [] ys = refl
oldest_append d (x ∷ xs) ys = oldest_append x.at xs ys

unit_oldest : (long : Bool) (d u : ℕ) (by : Option Edge) → oldest d (unit_places long u by) ≡ u
unit_oldest true d u by = refl
unit_oldest false d u by = refl

-- the oldest place of a walk is its first unit
pub places_oldest : (g : LoopGraph) (by : Option Edge) (u : ℕ) (es : List Edge) (d : ℕ)
    → oldest d (places g by u es) ≡ u
places_oldest g by u [] d = unit_oldest (g.is_long u) d u by
places_oldest g by u (e ∷ es) d =
    oldest_append d (unit_places (g.is_long e.to) e.to (Some e)) (places g by u es) ∙ places_oldest g by u es _

pub oldest_older : (xs ys : List Place) → IsFull ys → oldest 0 (xs ++ ys) ≡ oldest 0 ys
oldest_older xs [] full = absurd full
oldest_older xs (y ∷ ys) full = oldest_append 0 xs (y ∷ ys)

has_right : (u : ℕ) (xs ys : List ℕ) → Has u ys → Has u (xs ++ ys)
has_right u [] ys h = h
has_right u (x ∷ xs) ys h = inr (has_right u xs ys h)

has_left : (u : ℕ) (xs ys : List ℕ) → Has u xs → Has u (xs ++ ys)
has_left u [] ys h = absurd h
has_left u (x ∷ xs) ys h = elim h [ inl e ↦ inl e | inr r ↦ inr (has_left u xs ys r) ]

has_cases : (u : ℕ) (xs ys : List ℕ) → Has u (xs ++ ys) → Has u xs ⊎ Has u ys
has_cases u [] ys h = inr h
has_cases u (x ∷ xs) ys h =
    elim h [ inl e ↦ inl (inl e) | inr r ↦ elim (has_cases u xs ys r) [ inl a ↦ inl (inr a) | inr b ↦ inr b ] ]

-- the oldest of a list with something in it is among its addresses
has_oldest : (x : Place) (xs : List Place) → Has (oldest x.at xs) (ats (x ∷ xs))
has_oldest x [] = inl refl
has_oldest x (y ∷ ys) = inr (has_oldest y ys)

has_first : (g : LoopGraph) (by : Option Edge) (u : ℕ) (es : List Edge) (xs : List Place) → places g by u es ≡ xs
    → Has u (ats xs)
has_first g by u es [] e = absurd (subst IsFull e (places_full g by u es))
has_first g by u es (x ∷ xs) e =
    subst (λ q. Has q (ats (x ∷ xs))) (sym (ap (oldest 0) e) ∙ places_oldest g by u es 0) (has_oldest x xs)

unit_none : (long : Bool) (u v : ℕ) (by : Option Edge) → (v ≡ u → ⊥) → (long ≡ true → v + 4 ≡ u → ⊥)
    → Has u (ats (unit_places long v by)) → ⊥
unit_none true u v by other slot h =
    elim h [ inl e ↦ slot refl e | inr r ↦ elim r [ inl e ↦ other e | inr never ↦ never ] ]
unit_none false u v by other slot h = elim h [ inl e ↦ other e | inr never ↦ never ]

-- an address that is no unit of a walk and in no slot is at none of its places
pub places_none : (g : LoopGraph) (by : Option Edge) (v u : ℕ) (es : List Edge)
    → ((w : ℕ) → g.is_long w ≡ true → w + 4 ≡ u → ⊥) → (v ≡ u → ⊥) → (Meets u es → ⊥) → Has u (ats (places g by v es))
    → ⊥
places_none g by v u [] slot other far h = unit_none (g.is_long v) u v by other (slot v) h
places_none g by v u (e ∷ es) slot other far h =
    elim
    (has_cases u (ats (unit_places (g.is_long e.to) e.to (Some e))) (ats (places g by v es)) (subst (Has u) (ats_append (unit_places (g.is_long e.to) e.to (Some e)) (places g by v es)) h)) [
      | inl a ↦ unit_none (g.is_long e.to) u e.to (Some e) (λ m. far (inl m)) (slot e.to) a
      | inr b ↦ places_none g by v u es slot other (λ m. far (inr m)) b
    ]

-- what came before a piece: the first units of the sub-tasks between, and of no later one
pub record IsStart (t : SubTasks) (k : ℕ) (older : List Place) : Type 0 where
  pub met : (j u : ℕ) → 0 < j → j < k → IsFirst t.firsts j u → Has u (ats older)
  pub unmet : (j u : ℕ) → k ≤ j → IsFirst t.firsts j u → Has u (ats older) → ⊥

piece_none : (t : SubTasks) (p : Prices) (c : Clock) → AreKnown t p c → (k : ℕ) (by : Option Edge) (es : List Edge)
    → IsPiece t k es → (j u : ℕ) → k < j → IsFirst t.firsts j u → Has u (ats (places t.flow by (first_of_sub t k) es))
    → ⊥
piece_none t p c known k by es piece j u l f h =
    places_none t.flow by (first_of_sub t k) u es (λ w long e. known.slots j u f w long e)
    (λ e. let clash = known.different k j u (piece.is_sub, e) f in absurd (omega (arith, clash, l)))
    (piece.early j l u f) h

pub cut_starts : (t : SubTasks) (p : Prices) (c : Clock) → AreKnown t p c → (cs : List Closed) (es : List Edge)
    → IsCutUp t es cs → IsStart t (suc (length cs)) (cut_places t es cs)
cut_starts t p c known [] es cut = record {
  met = λ j u a b f. absurd (omega (arith, a, b));
  unmet = λ j u l f h. piece_none t p c known 0 None es cut j u (omega (arith, l)) f h;
}
cut_starts t p c known (w ∷ cs) es cut =
    let old = cut_starts t p c known cs w.edges cut.2 in
    let k : ℕ = suc (length cs) in
    let piece = places t.flow (Some w.exit) (first_of_sub t k) es in
    record {
      met = λ j u a b f. subst (Has u) (sym (ats_append piece (cut_places t w.edges cs))) (elim (cases_eq j k) [
        | inl e ↦ has_left u (ats piece) (ats (cut_places t w.edges cs)) (subst (λ q. Has q (ats piece)) (ap (first_of_sub t) (sym e) ∙ f.1) (has_first t.flow (Some w.exit) (first_of_sub t k) es piece refl))
        | inr n ↦ has_right u (ats piece) (ats (cut_places t w.edges cs)) (old.met j u a (omega (arith, b, n)) f)
      ]);
      unmet =
          λ j u l f h. elim
          (has_cases u (ats piece) (ats (cut_places t w.edges cs)) (subst (Has u) (ats_append piece (cut_places t w.edges cs)) h)) [
            | inl a ↦ piece_none t p c known k (Some w.exit) es cut.0 j u (omega (arith, l)) f a
            | inr b ↦ old.unmet j u (omega (arith, l)) f b
          ];
    }

-- the first part of a piece begins inside its sub-task
inside_full : (t : SubTasks) (p : Prices) (c : Clock) → AreKnown t p c → (k : ℕ) (by : Option Edge) (es : List Edge)
    → IsPiece t k es → (older : List Place) → IsStart t k older
    → (later : List Place) (r : Place) (rest skipped before : List Place)
    → places t.flow by (first_of_sub t k) es ≡ later ++ (r ∷ rest ++ skipped) → before ≡ skipped ++ older
    → IsInside t k (pcs_to (r ∷ rest) before)
inside_full t p c known k by es piece older start later r rest skipped before e b =
    let is_before : ats before ≡ ats skipped ++ ats older = ap ats b ∙ ats_append skipped older in
    let whole : ats (places t.flow by (first_of_sub t k) es) ≡ ats later ++ (ats (r ∷ rest) ++ ats skipped) = ap ats
    e ∙ ats_append later (r ∷ rest ++ skipped) ∙ ap (λ q. ats later ++ q) (ats_append (r ∷ rest) skipped) in
    record {
      met = λ j u a l f. elim (cases_eq j k) [
        | inl same ↦ here u (ap (first_of_sub t) (sym same) ∙ f.1) skipped e is_before
        | inr n ↦ inr (subst (Has u) (sym is_before) (has_right u (ats skipped) (ats older) (start.met j u a (omega (arith, l, n)) f)))
      ];
      unmet = λ j u l f h. elim h [
        | inl first ↦ piece_none t p c known k by es piece j u l f (subst (Has u) (sym whole) (has_right u (ats later) (ats (r ∷ rest) ++ ats skipped) (has_left u (ats (r ∷ rest)) (ats skipped) (subst (λ q. Has q (ats (r ∷ rest))) first (has_oldest r rest)))))
        | inr among ↦ elim (has_cases u (ats skipped) (ats older) (subst (Has u) is_before among)) [
          | inl s ↦ piece_none t p c known k by es piece j u l f (subst (Has u) (sym whole) (has_right u (ats later) (ats (r ∷ rest) ++ ats skipped) (has_right u (ats (r ∷ rest)) (ats skipped) s)))
          | inr o ↦ start.unmet j u (omega (arith, l)) f o
        ]
      ];
    }
  where
    here : (u : ℕ) → first_of_sub t k ≡ u → (s : List Place)
        → places t.flow by (first_of_sub t k) es ≡ later ++ (r ∷ rest ++ s) → ats before ≡ ats s ++ ats older
        → Has u (pcs_to (r ∷ rest) before)
    here u is [] e f =
        inl
        (sym (oldest_older later (r ∷ rest ++ []) tt ∙ oldest_append r.at rest []) ∙ sym (ap (oldest 0) e) ∙ places_oldest t.flow by (first_of_sub t k) es 0 ∙ is)
    here u is (x ∷ s) e f =
        let first : oldest x.at s ≡ u = sym
        (oldest_older later (r ∷ rest ++ x ∷ s) tt ∙ oldest_append r.at rest (x ∷ s)) ∙ sym
        (ap (oldest 0) e) ∙ places_oldest t.flow by (first_of_sub t k) es 0 ∙ is in
        inr
        (subst (Has u) (sym f) (has_left u (ats (x ∷ s)) (ats older) (subst (λ q. Has q (ats (x ∷ s))) first (has_oldest x s))))

pub inside_piece : (t : SubTasks) (p : Prices) (c : Clock) → AreKnown t p c
    → (k : ℕ) (by : Option Edge) (es : List Edge) → IsPiece t k es → (older : List Place) → IsStart t k older
    → (later rest skipped before : List Place) → IsFull rest
    → places t.flow by (first_of_sub t k) es ≡ later ++ (rest ++ skipped) → before ≡ skipped ++ older
    → IsInside t k (pcs_to rest before)
inside_piece t p c known k by es piece older start later [] skipped before full e b = absurd full
inside_piece t p c known k by es piece older start later (r ∷ rest) skipped before full e b =
    inside_full t p c known k by es piece older start later r rest skipped before e b
