-- Where sub-tasks begin: at the entry and the cuts, which are units, starts of blocks, and no slots.
use Rattle.std.proofs.Common.{◌≡◌, ◌∙◌, refl, sym, ap, subst, ◌⊎◌, inl, inr, ℕ, zero, suc, ◌+◌, ◌<◌, true, List, [], ◌∷◌, length, get_or, arith}
use Rattle.std.specs.Prelude.{map, Some}
use Rattle.std.specs.List.{Contains}
use Rattle.std.proofs.lemmas.Bool.{cases_eq}
use Rattle.std.proofs.lemmas.List.{get_or_default}
use Rattle.std.proofs.lemmas.List.Elements.{Contains-append_left}
use Rattle.std.proofs.lemmas.Option.{slice_get-get_or}
use Rattle.visa_io.specs.declared.records.Code.{Code}
use Rattle.visa_io.specs.declared.records.FactLine.{FactLine}
use Rattle.visa_io.specs.declared.records.Region.{Region}
use Rattle.task_text.specs.declared.task.Task.{Task}
use Rattle.cache_lru.specs.Recency.{is_among}
use Rattle.flow_graph.specs.Flow.{Flow, Has, IsGraph, IsSlot}
use Rattle.flow_graph.specs.Reached.{Reached, is_any}
use Rattle.flow_graph.specs.declared.fault.FlowFault.TheVariants.{SlotTarget}
use Rattle.flow_graph.specs.declared.parts.Unit.{Unit as FlowUnit}
use Rattle.loop_regions.specs.Walks.{IsFirst}
use Rattle.persistence.proofs.Members.{among_at}
use Rattle.subtask_cut.specs.Cuts.{AreSubTasks, SubTasks}
use Rattle.subtask_cut.specs.declared.fault.CutFault.TheVariants.{Slot}
use Rattle.run_law.specs.Program.{IsGraphOf, Program}
use Rattle.run_law.proofs.Coded.{control_there}
use Rattle.run_law.proofs.Flows.{entry_code, flowing_of, reached_first}
use Rattle.run_law.specs.Loops.{loops_of}
use Rattle.run_law.proofs.Looping.{long_units}
use Rattle.admission.specs.Found.{Analysis}

-- a number is in a list or not
contains_or_not : (xs : List ℕ) (u : ℕ) → Contains xs u ⊎ (Contains xs u → ⊥)
contains_or_not [] u = inr (λ h. absurd (omega (arith, h.1)))
contains_or_not (x ∷ xs) u = elim (cases_eq x u) [
  | inl same ↦ inl (0, omega arith, same)
  | inr other ↦ elim (contains_or_not xs u) [
    | inl more ↦ inl (suc more.0, omega (arith, more.1), more.2)
    | inr none ↦ inr (λ h. by_place h.0 h.1 h.2 other none)
  ]
]
  where
    by_place : (k : ℕ) → k < length (x ∷ xs) → get_or (x ∷ xs) k u ≡ u → (x ≡ u → ⊥) → (Contains xs u → ⊥) → ⊥
    by_place zero below is other none = other is
    by_place (suc k) below is other none = none (k, omega (arith, below), is)

unit_at : (us : List FlowUnit) (u : ℕ) → Contains (map (λ (unit : FlowUnit). unit.at) us) u
    → (unit : FlowUnit) × Contains us unit × (unit.at ≡ u)
unit_at [] u (k, below, is) = absurd (omega (arith, below))
unit_at (d ∷ us) u (zero, below, is) = (d, (0, omega arith, refl), is)
unit_at (d ∷ us) u (suc k, below, is) =
    let more = unit_at us u (k, omega (arith, below), is) in
    (more.0, (suc more.1.0, omega (arith, more.1.1), more.1.2), more.2)

-- a cut is a unit
cut_reached : (code : Code) (entry : ℕ) (g : Flow) (rs : List Region) (cuts : List ℕ) (s : SubTasks)
    → IsGraph code entry g
    → AreSubTasks g rs cuts s → (c : ℕ) → Contains cuts c → Reached code entry c
cut_reached code entry g rs cuts s is subs c (k, below, at) = elim
    (contains_or_not (map (λ (unit : FlowUnit). unit.at) g.units) c) [
      | inl there ↦ (
          let unit = unit_at g.units c there in
          subst (λ a. Reached code entry a) unit.2 ((is.units_are unit.0).0 unit.1).reached)
      | inr none ↦ absurd (subs.sound (Slot (k + 2)) (
        c,
        record
            { place = k; at = slice_get-get_or cuts k c below ∙ ap Some at; number = refl },
        none,
      ))
    ]

-- the entry, or a cut
by_place : (entry : ℕ) (cuts : List ℕ) (k u : ℕ) → IsFirst (entry ∷ cuts) k u → (entry ≡ u) ⊎ Contains cuts u
by_place entry cuts zero u first = inl first.1
by_place entry cuts (suc k) u first =
    let below : k < length cuts = omega (arith, first.0) in inr (k, below, get_or_default cuts k u 0 below ∙ first.1)

first_is : (g : Flow) (rs : List Region) (cuts : List ℕ) (s : SubTasks) → AreSubTasks g rs cuts s → (k u : ℕ)
    → IsFirst s.firsts k u
    → (g.entry ≡ u) ⊎ Contains cuts u
first_is g rs cuts s subs k u first = by_place g.entry cuts k u
    (subst (λ firsts. IsFirst firsts k u) subs.firsts_are first)

pub first_reached : (code : Code) (g : Flow) (rs : List Region) (cuts : List ℕ) (s : SubTasks)
    → IsGraph code g.entry g
    → AreSubTasks g rs cuts s → (k u : ℕ) → IsFirst s.firsts k u → Reached code g.entry u
first_reached code g rs cuts s is subs k u first = elim (first_is g rs cuts s subs k u first) [
  | inl same ↦ subst (λ a. Reached code g.entry a) same
      (reached_first code is_any g.entry (entry_code code g.entry g is))
  | inr among ↦ cut_reached code g.entry g rs cuts s is subs u among
]

-- a block begins there
pub first_starts : (t : Task) (code : Code) (entry : ℕ) (a : Analysis t code entry)
    → IsGraph code a.graph.entry a.graph → (k u : ℕ)
    → IsFirst a.subs.firsts k u → is_among u a.graph.blocks ≡ true
first_starts t code entry a own k u first = elim (first_is a.graph t.regions t.cuts a.subs a.has_cuts k u first) [
  | inl same ↦ subst (λ b. is_among b a.graph.blocks ≡ true) same
      (listed a.graph.blocks a.graph.entry (own.starts a.graph.entry
      (record {
        reached = reached_first code is_any a.graph.entry (entry_code code a.graph.entry a.graph own);
        begins
            = inl refl;
      })))
  | inr among ↦ listed a.graph.blocks u ((a.has_graph.blocks u).1 (inr (
    Contains-append_left t.cuts (map (λ (f : FactLine). f.at) t.facts) u among,
    cut_reached code entry a.graph t.regions t.cuts a.subs a.has_graph.graph a.has_cuts u among,
  )))
]
  where
    listed : (xs : List ℕ) (b : ℕ) → Contains xs b → is_among b xs ≡ true
    listed xs b held = among_at xs b held.0 held.1 (get_or_default xs held.0 0 b held.1 ∙ held.2)

-- none is a slot
pub first_no_slot : (p : Program) (g : Flow) (rs cut_regions : List Region) (cuts : List ℕ) (s : SubTasks)
    → IsGraph p.code p.entry g → IsGraphOf p g
    → p.graph ≡ loops_of g rs → p.entry ≡ g.entry → AreSubTasks g cut_regions cuts s → (j u : ℕ)
    → IsFirst s.firsts j u → (v : ℕ)
    → p.graph.is_long v ≡ true → v + 4 ≡ u → ⊥
unfolding Has
first_no_slot p g rs cut_regions cuts s is of loops same subs j u first v long at =
    let flows = flowing_of p g is of in
    let reached = long_units p g rs is loops v long in
    let good = flows.good v reached in
    let control = control_there p.code v good.instr good.stands ∙ sym (flows.long v good.instr reached good.stands) ∙
    long in
    let own : IsGraph p.code g.entry g = subst (λ e. IsGraph p.code e g) same is in
    let there = first_reached p.code g cut_regions cuts s own subs j u first in
    let slot : IsSlot p.code p.entry u = record { unit = v; reached = reached; control = control; follows = sym at }
    in
    is.sound (SlotTarget u) (slot, subst (λ e. Reached p.code e u) (sym same) there)
