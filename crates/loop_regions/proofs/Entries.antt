-- The first region that is entered aside, and the first fault of all.
use Rattle.std.proofs.Common.{refl, Bool, ◌≡◌, sym, ap, subst, ◌∙◌, ℕ, ◌+◌, ◌<◌, ◌≤◌, true, false, List, length, get_or, arith, inl, inr}
use Rattle.std.specs.Prelude.{Some, None, Option, slice_get}
use Rattle.std.proofs.lemmas.Bool.{cases_order, cases_lt}
use Rattle.std.proofs.lemmas.Option.{get_or_from_slice_get, slice_get-get_or}
use Rattle.visa_io.specs.declared.records.Region.{Region}
use Rattle.flow_graph.specs.Flow.{Flow}
use Rattle.loop_regions.specs.Regions.{AreNested, Has, IsSideAt, IsFirstFault, IsNoLater, IsSide, crosses_at}
use Rattle.loop_regions.specs.Sides.{IsFirstSide}
use Rattle.loop_regions.specs.declared.crossing.Side.{Side}
use Rattle.loop_regions.specs.declared.fault.RegionFault.{RegionFault}
use Rattle.loop_regions.specs.declared.fault.RegionFault.TheVariants.{Crossing, SideEntry, FreeCycle, Memory}
use Rattle.loop_regions.specs.declared.nest.Entry.{Entry}
use Rattle.loop_regions.specs.Nested.{IsEntry}

-- one region more is entered at its header alone
pub none_more_entered : (g : Flow) (rs : List Region) (k : ℕ) (r : Region) → k < length rs → r ≡ get_or rs k r → ((j : ℕ) → j < k → (from to : ℕ) → IsSideAt g rs j from to → ⊥) → IsFirstSide g r None
    → (j : ℕ) → j < k + 1 → (from to : ℕ) → IsSideAt g rs j from to → ⊥
none_more_entered g rs k r inside is before none j less a b h = elim (cases_order j k) [
  | inl same ↦ none a b (subst (λ (x : Region). IsSide g x a b) (sym (get_or_from_slice_get rs k h.0 r (ap (slice_get rs) (sym same) ∙ h.1)) ∙ sym is) h.2)
  | inr (inl below) ↦ before j below a b h
  | inr (inr above) ↦ absurd (omega arith)
]

pub none_entered : (g : Flow) (rs : List Region) (k : ℕ) → length rs ≤ k → ((j : ℕ) → j < k → (from to : ℕ) → IsSideAt g rs j from to → ⊥) → IsEntry g rs None
none_entered g rs k over before j a b h = elim (cases_lt j (length rs)) [
  | inl less ↦ before j (omega arith) a b h
  | inr past ↦ let e = none_past rs j past in let bad : None ≡ Some h.0 = sym e ∙ h.1 in absurd (let b : ⊥ = cc in b)
]
  where
    none_past : (xs : List Region) (i : ℕ) → length xs ≤ i → slice_get xs i ≡ None
    none_past xs i past = grind (arith, Rattle.std.proofs.lemmas.Option.gets)

pub this_entered : (g : Flow) (rs : List Region) (k : ℕ) (r : Region) (s : Side) → k < length rs → r ≡ get_or rs k r → ((j : ℕ) → j < k → (from to : ℕ) → IsSideAt g rs j from to → ⊥) → IsFirstSide g r (Some s)
    → IsEntry g rs (Some (record { r = k; from = s.from; to = s.to }))
this_entered g rs k r s inside is before first =
    let at : slice_get rs k ≡ Some r = slice_get-get_or rs k r inside ∙ ap (λ (x : Region). let o : Option Region = Some x in o) (sym is) in (
      inside,
      (r, at, first.0),
      λ j a b h. elim (cases_order j k) [
        | inl same ↦ inr (sym same, first.1 a b (subst (λ (x : Region). IsSide g x a b) (sym (get_or_from_slice_get rs k h.0 r (ap (slice_get rs) (sym same) ∙ h.1)) ∙ sym is) h.2))
        | inr (inl below) ↦ absurd (before j below a b h)
        | inr (inr above) ↦ inl above
      ],
    )

no_bad : (b : Bool) → b ≡ true → b ≡ false → ⊥
no_bad b is out = let bad : true ≡ false = sym is ∙ out in absurd (let c : ⊥ = cc in c)

-- a crossing is the first fault of all
pub crossing_first : (g : Flow) (rs : List Region) (k : ℕ) → crosses_at g.units rs k ≡ true → ((j : ℕ) → j < k → crosses_at g.units rs j ≡ false) → IsFirstFault g rs (Crossing (k + 1))
crossing_first g rs k at before = record { has = (k, refl, at); first = later }
  where
    later : (other : RegionFault) → Has g rs other → IsNoLater (Crossing (k + 1)) other
    later (Crossing n) (j, is, h) = elim (cases_lt j k) [ inl less ↦ absurd (no_bad (crosses_at g.units rs j) h (before j less)) | inr more ↦ omega arith ]
    later (SideEntry j a b) h = tt
    later (FreeCycle u) h = tt
    later Memory h = absurd h

pub side_first : (g : Flow) (rs : List Region) (e : Entry) → ((k : ℕ) → crosses_at g.units rs k ≡ false) → IsEntry g rs (Some e) → IsFirstFault g rs (SideEntry (e.r + 1) e.from e.to)
side_first g rs e none entry = record { has = (e.r, refl, entry.1); first = later }
  where
    later : (other : RegionFault) → Has g rs other → IsNoLater (SideEntry (e.r + 1) e.from e.to) other
    later (Crossing n) (j, is, h) = absurd (no_bad (crosses_at g.units rs j) h (none j))
    later (SideEntry n a b) (j, is, h) = elim (entry.2 j a b h) [ inl less ↦ inl (omega arith) | inr same ↦ inr (let f = same.0 in omega arith, same.1) ]
    later (FreeCycle u) h = tt
    later Memory h = absurd h

pub nested : (g : Flow) (rs : List Region) → ((k : ℕ) → crosses_at g.units rs k ≡ false) → IsEntry g rs None → AreNested g rs
nested g rs none entry = record { crossing = none; side = entry }

pub cycle_first : (g : Flow) (rs : List Region) (u : ℕ) → AreNested g rs → Has g rs (FreeCycle u) → ((v : ℕ) → Has g rs (FreeCycle v) → u ≤ v) → IsFirstFault g rs (FreeCycle u)
cycle_first g rs u n has least = record { has = has; first = later }
  where
    later : (other : RegionFault) → Has g rs other → IsNoLater (FreeCycle u) other
    later (Crossing m) (j, is, h) = no_bad (crosses_at g.units rs j) h (n.crossing j)
    later (SideEntry m a b) (j, is, h) = n.side j a b h
    later (FreeCycle v) h = least v h
    later Memory h = absurd h
