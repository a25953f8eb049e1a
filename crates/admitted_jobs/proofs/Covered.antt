-- The fetches of each sub-task are covered by what its bound counts.
use Rattle.std.proofs.Common.{◌≡◌, refl, subst, ℕ, ◌<◌, Bool, List, [], ◌∷◌, length}
use Rattle.std.specs.Prelude.{Option}
use Rattle.visa_io.specs.declared.records.Code.{Code}
use Rattle.visa_io.specs.declared.records.Shape.{Shape}
use Rattle.task_text.specs.Limits.{KeepsLimits}
use Rattle.task_text.specs.declared.task.Task.{Task}
use Rattle.persistence.specs.Charges.{Charge, IsCharge}
use Rattle.persistence.specs.Fetches as fetches
use Rattle.persistence.specs.Scopes.{FollowsBlocks}
use Rattle.simple_pipe.specs.Simple.{newest_hits}
use Rattle.remaining_wcet.specs.SubTasks.{AreCovered}
use Rattle.run_law.specs.Loops.{loops_of}
use Rattle.bound_checker.specs.Lines.{program_of}
use Rattle.covered_fetches.proofs.Covering.{covered_by}
use Rattle.covered_fetches.proofs.Joining.{graph_follows}
use Rattle.admission.specs.Found.{Analysis, scope_of}
use Rattle.admission.proofs.Limits.{has_ways}
use Rattle.admitted_jobs.proofs.Programs.{found, found_graph, found_of}
use Rattle.admitted_jobs.proofs.Subs.{charges_sub, subs_of}

-- one word for hits
same_hits : (shape : Option Shape) (ats : List ℕ) → fetches.newest_hits shape ats ≡ newest_hits shape ats
same_hits shape [] = refl
same_hits shape (at ∷ older) = refl

follows : (t : Task) (code : Code) (entry : ℕ) (a : Analysis t code entry)
    → FollowsBlocks a.graph (loops_of a.graph t.regions)
unfolding program_of
follows t code entry a =
    graph_follows (found t code entry a) a.graph (found_graph t code entry a) (found_of t code entry a) (λ u. refl)

pub covered_there : (t : Task) (code : Code) (entry : ℕ) (a : Analysis t code entry) → KeepsLimits t
    → ((k : ℕ) → k < length a.subs.firsts → (charge : Charge) × IsCharge a.graph (scope_of a.subs k) t.machine.icache
    charge)
    → (k : ℕ) → AreCovered (subs_of t a.graph a.subs) (newest_hits t.machine.icache) k
covered_there t code entry a limits charges k es piece =
    let charge = charges k piece.is_sub in
    let law = covered_by (subs_of t a.graph a.subs) a.graph t.machine.icache k charge.0
    (charges_sub t a.graph a.subs k charge.0 charge.1)
    (has_ways t.machine.icache limits.machine.icache) (follows t code entry a) in
    subst (λ (hits : List ℕ → Bool). AreCovered (subs_of t a.graph a.subs) hits k)
    (λ i ats. same_hits t.machine.icache ats i) law es piece
