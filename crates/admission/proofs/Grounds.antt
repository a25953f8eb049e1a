-- Where sub-tasks begin, as the longest walk asks it: at units, of which a region holds none but a function's first as its header.
use Rattle.std.proofs.Common.{◌≡◌, ◌∙◌, refl, sym, ap, subst, ℕ, zero, suc, ◌+◌, ◌<◌, true, false, List, [], ◌∷◌, length, get_or, Option, Some, None, arith, inl, inr}
use Rattle.std.specs.Prelude.{slice_get, slice_index}
use Rattle.std.specs.List.{Contains}
use Rattle.std.proofs.lemmas.Option.{slice_get-get_or}
use Rattle.visa_io.specs.declared.records.Code.{Code}
use Rattle.visa_io.specs.declared.records.Region.{Region}
use Rattle.task_text.specs.declared.task.Task.{Task}
use Rattle.flow_graph.specs.Flow.{Flow, IsGraph}
use Rattle.flow_graph.proofs.Recorded.{reached_unit}
use Rattle.run_law.proofs.Flows.{entry_code}
use Rattle.loop_regions.specs.Nested.{IsWhole, Numbered}
use Rattle.loop_regions.specs.Walks.{IsFirst, holds}
use Rattle.loop_regions.proofs.Visits.{other_number}
use Rattle.subtask_cut.specs.Cuts.{AreSubTasks, SubTasks}
use Rattle.subtask_cut.specs.declared.fault.CutFault.TheVariants.{InRegion, Order}
use Rattle.persistence.specs.Charges.{IsRising}
use Rattle.path_wcet.specs.Known.{is_this}
use Rattle.path_wcet.specs.Longest.{AreCalls, IsAmong, IsOpening}
use Rattle.path_wcet.proofs.Graphs.{calls_graph, whole_graph}
use Rattle.path_wcet.proofs.Nests.{entered_function}
use Rattle.admission.specs.Bounding.{IsGround}
use Rattle.admission.proofs.Firsts.{first_reached}

pub own_graph : (t : Task) (code : Code) (g : Flow) (n : Numbered) (s : SubTasks) → IsGround t code g n s → IsGraph code g.entry g
own_graph t code g n s ground = ground.has_graph.graph

pub whole : (t : Task) (code : Code) (g : Flow) (n : Numbered) (s : SubTasks) → IsGround t code g n s → IsWhole g
whole t code g n s ground = whole_graph code g.entry g ground.has_graph.graph

pub calls : (t : Task) (code : Code) (g : Flow) (n : Numbered) (s : SubTasks) → IsGround t code g n s → AreCalls g
calls t code g n s ground = calls_graph code g.entry g ground.has_graph.graph

pub rising : (code : Code) (entry : ℕ) (g : Flow) → IsGraph code entry g → IsRising g
rising code entry g is = record { units = is.units_rise; blocks = is.blocks_rise }

-- a sub-task's first unit is among the units
pub first_among : (t : Task) (code : Code) (g : Flow) (n : Numbered) (s : SubTasks) → IsGround t code g n s → (k u : ℕ) → IsFirst s.firsts k u → Contains n.addresses u
first_among t code g n s ground k u first =
    subst (λ (l : List ℕ). Contains l u) (sym ground.has_nest.nest.numbered.addresses_are)
    (reached_unit code g.entry g u ground.has_graph.graph (first_reached code g t.regions t.cuts s ground.has_graph.graph ground.has_cuts k u first))

first_here : (s : SubTasks) (k : ℕ) → k < length s.firsts → IsFirst s.firsts k (slice_index s.firsts k)
first_here s k below = (below, refl)

pub among_here : (t : Task) (code : Code) (g : Flow) (n : Numbered) (s : SubTasks) → IsGround t code g n s → (k : ℕ) → k < length s.firsts
    → Contains n.addresses (slice_index s.firsts k)
among_here t code g n s ground k below = first_among t code g n s ground k (slice_index s.firsts k) (first_here s k below)

-- the first of a sub-task behind the entry is a cut
cut_at : (t : Task) (g : Flow) (s : SubTasks) → AreSubTasks g t.regions t.cuts s → (k : ℕ) → suc k < length s.firsts
    → (k < length t.cuts) × (slice_index s.firsts (suc k) ≡ get_or t.cuts k 0)
cut_at t g s subs k below = (omega (arith, below, ap length subs.firsts_are), ap (λ (l : List ℕ). slice_index l (suc k)) subs.firsts_are)

-- no region holds it, but one whose header it is
pub opening_here : (t : Task) (code : Code) (g : Flow) (n : Numbered) (s : SubTasks) → IsGround t code g n s → (k : ℕ) → k < length s.firsts
    → IsOpening n (slice_index s.firsts k)
opening_here t code g n s ground zero below r among within =
    let at : slice_index s.firsts 0 ≡ g.entry = ap (λ (l : List ℕ). slice_index l 0) ground.has_cuts.firsts_are in
    at ∙ entered_function g n.regions ground.has_nest.nest.nested g.entry
    ((ground.has_graph.graph.functions_are g.entry).1 (inl (refl, entry_code code g.entry g ground.has_graph.graph))) r among (subst (λ a. holds r a ≡ true) at within)
opening_here t code g n s ground (suc k) below r among within =
    let cut = cut_at t g s ground.has_cuts k below in
    absurd (ground.has_cuts.sound (InRegion (k + 2)) (
      slice_index s.firsts (suc k),
      record { place = k; at = slice_get-get_or t.cuts k 0 cut.0 ∙ ap Some (sym cut.1); number = refl },
      (r, subst (λ (l : List Region). Contains l r) ground.has_nest.regions_are among, within),
    ))

next_is : (firsts : List ℕ) (k u : ℕ) → slice_get firsts (suc k) ≡ Some u → (suc k < length firsts) × (slice_index firsts (suc k) ≡ u)
next_is [] k u e = let bad : ⊥ = cc in absurd bad
next_is (f ∷ firsts) zero u e = next_first firsts u e
  where
    next_first : (xs : List ℕ) (u : ℕ) → slice_get xs 0 ≡ Some u → (1 < length (f ∷ xs)) × (slice_index (f ∷ xs) 1 ≡ u)
    next_first [] u e = let bad : ⊥ = cc in absurd bad
    next_first (x ∷ xs) u e = (omega arith, let same : x ≡ u = cc in same)
next_is (f ∷ firsts) (suc k) u e = let more = next_is firsts k u e in (omega (arith, more.0), more.1)

-- where the walks stop is a unit too, and another one
pub target_here : (t : Task) (code : Code) (g : Flow) (n : Numbered) (s : SubTasks) → IsGround t code g n s → (k : ℕ) (o : Option ℕ) → slice_get s.firsts (suc k) ≡ o
    → IsAmong n.addresses o
target_here t code g n s ground k None is = tt
target_here t code g n s ground k (Some u) is =
    let next = next_is s.firsts k u is in first_among t code g n s ground (suc k) u next

pub other_here : (t : Task) (code : Code) (g : Flow) (n : Numbered) (s : SubTasks) → IsGround t code g n s → (k : ℕ) → k < length s.firsts
    → (o : Option ℕ) → slice_get s.firsts (suc k) ≡ o → is_this o (slice_index s.firsts k) ≡ false
other_here t code g n s ground k below None is = refl
other_here t code g n s ground k below (Some u) is =
    let next = next_is s.firsts k u is in other_number (slice_index s.firsts k) u (λ same. differ k below next.0 (same ∙ sym next.1))
  where
    again : (j : ℕ) (i : ℕ) → i < suc j → i < length s.firsts → suc j < length s.firsts → slice_index s.firsts i ≡ slice_index s.firsts (suc j) → ⊥
    again j zero before below inside same =
        let cut = cut_at t g s ground.has_cuts j inside in
        let at : slice_index s.firsts 0 ≡ g.entry = ap (λ (l : List ℕ). slice_index l 0) ground.has_cuts.firsts_are in
        ground.has_cuts.sound (Order (j + 2)) (
          g.entry,
          record { place = j; at = slice_get-get_or t.cuts j 0 cut.0 ∙ ap Some (sym cut.1 ∙ sym same ∙ at); number = refl },
          inl refl,
        )
    again j (suc i) before below inside same =
        let cut = cut_at t g s ground.has_cuts j inside in
        let early = cut_at t g s ground.has_cuts i below in
        ground.has_cuts.sound (Order (j + 2)) (
          slice_index s.firsts (suc j),
          record { place = j; at = slice_get-get_or t.cuts j 0 cut.0 ∙ ap Some (sym cut.1); number = refl },
          inr (inl (
            i + 2,
            omega (arith, before),
            record { place = i; at = slice_get-get_or t.cuts i 0 early.0 ∙ ap Some (sym early.1 ∙ same); number = refl },
          )),
        )

    differ : (k : ℕ) → k < length s.firsts → suc k < length s.firsts → slice_index s.firsts k ≡ slice_index s.firsts (suc k) → ⊥
    differ k below inside same = again k k (omega arith) below inside same
