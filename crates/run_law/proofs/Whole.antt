-- What a whole job executes, with the instruction that traps, if one does.
use Rattle.std.proofs.Common.{◌≡◌, ◌∙◌, refl, sym, ap, ℕ, ◌+◌, Bool, true, false, List, [], ◌∷◌, ◌++◌}
use Rattle.std.specs.Prelude.{Option, None}
use Rattle.mips_ref.specs.Job.{EndsAfter, after}
use Rattle.mips_ref.specs.Mips.{Mips}
use Rattle.mips_ref.specs.Ran.{ran, ran_at, ran_by, ran_ending}
use Rattle.mips_ref.specs.Step.{step_of}
use Rattle.mips_ref.specs.declared.records.Ran.{Ran}
use Rattle.mips_ref.specs.declared.records.Step.{Step}
use Rattle.mips_ref.specs.declared.records.Step.TheVariants.{Exit, Trap, Went}
use Rattle.flow_graph.specs.declared.parts.Edge.{Edge}
use Rattle.loop_regions.specs.Places.{Place, places, unit_places}
use Rattle.run_law.specs.Advance.{MayAnswer}
use Rattle.run_law.specs.Program.{Passed, Program}
use Rattle.run_law.specs.Ran.{WentBy as EnteredBy}
use Rattle.run_law.specs.Runs.{Done, First, InSlot, IsAt, IsWalked, Opens, Runs, Spot, later_of, newest_edge}
use Rattle.run_law.proofs.Coded.{ran_pc}
use Rattle.run_law.proofs.Turning.{exits_there, runs}

pub walked_of : (p : Program) (x : Mips) (rs : List Ran) → Runs p x rs → IsWalked p rs
walked_of p x rs r = record { edges = r.edges; walk = r.walk; later = later_of p.graph r.spot r.unit r.edges; gone = r.gone; places_are = r.places_are; goes = r.goes }

-- the place of the instruction at the pc is the oldest that isn't executed
record IsNext (p : Program) (x : Mips) (rs : List Ran) (later : List Place) : Type 0 where
  newer : List Place
  place : Place
  is : later ≡ newer ++ place ∷ []
  at : x.pc ≡ place.at
  entered : EnteredBy p.code place.by rs

next_of_unit : (p : Program) (x : Mips) (rs : List Ran) (u : ℕ) (by : Option Edge) (long : Bool) → x.pc ≡ u
    → EnteredBy p.code by rs → IsNext p x rs (unit_places long u by)
next_of_unit p x rs u by true pc entered = record { newer = record { at = u + 4; by = None } ∷ []; place = record { at = u; by = by }; is = refl; at = pc; entered = entered }
next_of_unit p x rs u by false pc entered = record { newer = []; place = record { at = u; by = by }; is = refl; at = pc; entered = entered }

append_one : (xs ys : List Place) (y : Place) → (xs ++ y ∷ []) ++ ys ≡ xs ++ y ∷ ys
append_one [] ys y = refl
append_one (x ∷ xs) ys y = ap (λ q. x ∷ q) (append_one xs ys y)

goes_next : (p : Program) (x : Mips) (rs : List Ran) (r : Runs p x rs) (later : List Place)
    → later ≡ later_of p.graph r.spot r.unit r.edges → IsNext p x rs later → IsWalked p (ran_at x ∷ rs)
goes_next p x rs r later same next =
    let is : places p.graph None p.entry r.edges ≡ next.newer ++ next.place ∷ r.gone = r.places_are ∙ ap (λ q. q ++ r.gone) (sym same ∙ next.is) ∙ append_one next.newer r.gone next.place in
    record { edges = r.edges; walk = r.walk; later = next.newer; gone = next.place ∷ r.gone; places_are = is; goes = (ran_pc x ∙ next.at, next.entered, r.goes) }

next_place : (p : Program) (x : Mips) (rs : List Ran) (u : ℕ) (below : List (List ℕ)) (es : List Edge) (spot : Spot)
    → IsAt p u below rs es spot x → ((step_of x).answer ≡ Exit → ⊥) → IsNext p x rs (later_of p.graph spot u es)
next_place p x rs u below es First at stays = next_of_unit p x rs u (newest_edge es) (p.graph.is_long u) at.0 at.4
next_place p x rs u below es InSlot at stays = record { newer = []; place = record { at = u + 4; by = None }; is = refl; at = at.0; entered = tt }
next_place p x rs u below es Done at stays = absurd (stays (exits_there x at.0 at.1))

pub walked_trap : (p : Program) (x : Mips) (rs : List Ran) → Runs p x rs → ((step_of x).answer ≡ Exit → ⊥)
    → IsWalked p (ran_at x ∷ rs)
walked_trap p x rs r stays = goes_next p x rs r (later_of p.graph r.spot r.unit r.edges) refl (next_place p x rs r.unit r.below r.edges r.spot r.at stays)

by_answer : (p : Program) (x : Mips) (n : ℕ) (answer : Step) → (step_of (after n x)).answer ≡ answer
    → Runs p (after n x) (ran_by n x) → IsWalked p (ran_ending n x answer)
by_answer p x n (Trap kind pc) is r = walked_trap p (after n x) (ran_by n x) r (λ e. let clash : Trap kind pc ≡ Exit = sym is ∙ e in cc)
by_answer p x n Went is r = walked_of p (after n x) (ran_by n x) r
by_answer p x n Exit is r = walked_of p (after n x) (ran_by n x) r

-- what a whole job executes is a legal walk, the last unit perhaps in part
pub whole : (p : Program) (x : Mips) (n : ℕ) → Passed p → Opens p x → EndsAfter x n → IsWalked p (ran n x)
unfolding ran
whole p x n q opens ends = by_answer p x n (step_of (after n x)).answer refl (runs p x n q opens ends.went).0

-- and it ends in none of the traps that admission excludes
pub ends : (p : Program) (x : Mips) (n : ℕ) → Passed p → Opens p x → EndsAfter x n
    → MayAnswer (step_of (after n x)).answer
ends p x n q opens over = (runs p x n q opens over.went).1
