-- A job of an admitted task meets each cut at most once.
use Rattle.std.proofs.Common.{◌≡◌, ◌∙◌, sym, ap, subst, inl, inr, ℕ, zero, suc, ◌+◌, ◌<◌, Bool, true, false, List, [], ◌∷◌, ◌++◌, drop, arith}
use Rattle.std.specs.Prelude.{None, Some, Option}
use Rattle.std.proofs.lemmas.Bool.{cases_lt}
use Rattle.visa_io.specs.declared.records.Code.{Code}
use Rattle.mips_isa.specs.declared.instr.Instr.{Instr}
use Rattle.mips_ref.specs.Job.{after}
use Rattle.mips_ref.specs.Mips.{Mips, exit_address}
use Rattle.mips_ref.specs.Ran.{ran_by}
use Rattle.flow_graph.specs.declared.parts.Edge.{Edge}
use Rattle.loop_regions.specs.Places.{Place, ats, places, unit_places}
use Rattle.loop_regions.specs.Walks.{Has, IsWalk, Meets, alone, open_from}
use Rattle.remaining_wcet.proofs.Inside.{places_none}
use Rattle.subtask_cut.proofs.Home.{newest_after, newest_of}
use Rattle.run_law.specs.Program.{Passed, Program}
use Rattle.run_law.specs.Ran.{Goes}
use Rattle.run_law.specs.Runs.{Done, First, InSlot, IsAt, Opens, Runs, Spot, later_of, newest_edge}
use Rattle.run_law.proofs.Coded.{ran_pc}
use Rattle.run_law.proofs.Turning.{runs}
use Rattle.admitted_jobs.specs.Jobs.{AllWent, StoodAt}

-- the places behind those of a unit
behind_unit : (long : Bool) (u : ℕ) (by : Option Edge) (xs ys : List Place)
    → unit_places long u by ++ xs ≡ unit_places long u by ++ ys → xs ≡ ys
behind_unit true u by xs ys same = ap (λ (l : List Place). drop 2 l) same
behind_unit false u by xs ys same = ap (λ (l : List Place). drop 1 l) same

-- what ran before has its place
ran_there : (code : Code) (n : ℕ) (x : Mips) (gone : List Place) → Goes code (ran_by n x) gone → (m : ℕ) → m < n
    → (c : ℕ)
    → (after m x).pc ≡ c → Has c (ats gone)
unfolding ran_by
ran_there code zero x gone goes m below c at = absurd (omega (arith, below))
ran_there code (suc n) x [] goes m below c at = absurd goes
ran_there code (suc n) x (g ∷ gone) goes m below c at = elim (cases_lt m n) [
  | inl less ↦ inr (ran_there code n x gone goes.2 m less c at)
  | inr last ↦ (
      let same : n ≡ m = omega (arith, below, last) in
      inl (sym goes.0 ∙ ran_pc (after n x) ∙ ap (λ k. (after k x).pc) same ∙ at))
]

-- what is known of a cut
pub record IsLone (p : Program) (c : ℕ) : Type 0 where
  pub no_slot : (w : ℕ) → p.graph.is_long w ≡ true → w + 4 ≡ c → ⊥
  pub no_entry : p.entry ≡ c → ⊥
  pub no_exit : c < exit_address
  pub once : (e : Edge) (es : List Edge) → IsWalk p.graph (alone p.entry) (e ∷ es) → e.to ≡ c → Meets c es → ⊥

once_more : (p : Program) (c n : ℕ) (x : Mips) → IsLone p c → StoodAt x n c → (es : List Edge) (unit : ℕ) → unit ≡ c
    → newest_of (open_from (alone p.entry) es) ≡ unit → IsWalk p.graph (alone p.entry) es → (gone : List Place)
    → places p.graph None p.entry es ≡ unit_places (p.graph.is_long unit) unit (newest_edge es) ++ gone
    → Goes p.code (ran_by n x) gone → ⊥
unfolding newest_of
once_more p c n x lone stood [] unit here newest walk gone are goes = lone.no_entry (newest ∙ here)
once_more p c n x lone stood (e ∷ es) unit here newest walk gone are goes =
    let to : e.to ≡ unit = sym (newest_after e.kind e.from e.to (open_from (alone p.entry) es) walk.2) ∙ newest in
    let own = subst (λ u. unit_places (p.graph.is_long u) u (Some e) ++ places p.graph None p.entry es ≡ unit_places
    (p.graph.is_long unit) unit (Some e) ++ gone) to are in
    let rest = behind_unit (p.graph.is_long unit) unit (Some e) (places p.graph None p.entry es) gone own in
    let among = ran_there p.code n x gone goes stood.steps stood.earlier c stood.at in
    places_none p.graph None p.entry c es lone.no_slot lone.no_entry (λ meets. lone.once e es walk (to ∙ here) meets)
    (subst (λ l. Has c (ats l)) (sym rest) among)

by_spot : (p : Program) (q : Passed p) (c n : ℕ) (x : Mips) → IsLone p c → StoodAt x n c → (after n x).pc ≡ c
    → (r : Runs p (after n x) (ran_by n x)) → (spot : Spot)
    → IsAt p r.unit r.below (ran_by n x) r.edges spot (after n x)
    → places p.graph None p.entry r.edges ≡ later_of p.graph spot r.unit r.edges ++ r.gone → ⊥
unfolding newest_of
by_spot p q c n x lone stood here r First at are =
    once_more p c n x lone stood r.edges r.unit (sym at.0 ∙ here) (ap newest_of r.opens) r.walk r.gone are r.goes
by_spot p q c n x lone stood here r InSlot at are =
    let i : Instr = at.1.0 in
    lone.no_slot r.unit (q.flowing.long r.unit i r.reached at.1.1 ∙ at.1.2) (sym at.0 ∙ here)
by_spot p q c n x lone stood here r Done at are = omega (arith, at.0, here, lone.no_exit)

pub stands_once : (p : Program) → Passed p → (x : Mips) → Opens p x → (c n : ℕ) → IsLone p c → AllWent n x
    → (after n x).pc ≡ c
    → StoodAt x n c → ⊥
stands_once p q x opens c n lone went here stood =
    let r = (runs p x n q opens went).0 in by_spot p q c n x lone stood here r r.spot r.at r.places_are
