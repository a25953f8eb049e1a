-- The course of a job opens on the state in which the job opens, and what is in flight stays short.
use Rattle.std.proofs.Common.{◌≡◌, refl, sym, ap, subst, ◌∙◌, ℕ, zero, suc, ◌≤◌, List, length, arith}
use Rattle.std.proofs.lemmas.List.{length-set}
use Rattle.std.specs.Prelude.{slice_set, replicate}
use Rattle.mips_ref.specs.Job.{after, opening, opening_registers}
use Rattle.mips_ref.specs.Memory.{Flat, LaidOut}
use Rattle.mips_ref.specs.Mips.{Held, Mips, blank, exit_address}
use Rattle.core_window.specs.Beside.{Stands}
use Rattle.core_window.specs.Core.{opened}
use Rattle.core_window.proofs.EachEvent.{opened-stands}
use Rattle.checkpoint_plan.specs.Plan.{wait_of}
use Rattle.ooo_clock.specs.Clock.{Clock, Predicts, Speeds, in_flight_of, opening as opened_clock, speeds_at}
use Rattle.ooo_clock.specs.Cycle.{cycled_of, cycles_of}
use Rattle.ooo_clock.specs.Within.{IsWithin}
use Rattle.ooo_clock.proofs.Words.{cycle-within, in-flight-least}
use Rattle.mode_states.specs.Course.{Course, clock_at}
use Rattle.mode_states.specs.Kept.{IsKept, IsOpening, period_at}
use Rattle.mode_states.specs.declared.kept.Kept.{Kept}
use Rattle.mode_states.proofs.Follows.{OpensOn}
use Rattle.mode_states.proofs.KeptJobs.{leaves_kept}
use Rattle.job_runner.specs.Job.{Before, Setting, course_in, opening_of, pair_of}
use Rattle.job_runner.specs.Opens.{CanOpen}

-- the job opens
pub opens : (s : Setting) (b : Before) (input : List ℕ) → CanOpen s b.memory → length input ≤ s.kept.input_len
    → IsOpening s.kept (record { mips = opening_of s b input; computed = 0 })
unfolding blank
opens s b input can fits =
    record {
      before = record { mips = blank b.memory s.output_max; computed = 0 };
      input = input;
      fits = fits;
      kept = can;
      is = refl;
    }

registers_long : (at len stack : ℕ) → length (opening_registers at len stack) ≡ 32
unfolding opening_registers
registers_long at len stack =
    let one : List ℕ = slice_set (replicate 32 0) 4 at in
    let two : List ℕ = slice_set one 5 len in
    let three : List ℕ = slice_set two 29 stack in
    length-set three 31 exit_address ∙ length-set two 29 stack ∙ length-set one 5 len ∙ length-set (replicate 32 0) 4 at

opening_long : (entry stack at len : ℕ) (input : List ℕ) (m : Flat) (out : ℕ)
    → length (opening entry stack at len input m out).registers ≡ 32
unfolding opening
opening_long entry stack at len input m out = registers_long at (length input) stack

laid_there : (k : Kept) (x : Held) → IsKept k x → LaidOut 0 x.mips.memory.spans
laid_there k x h = h.made.ready.has_code.laid_out

opened_state : (rob : ℕ) (x : Mips) (numbers : List ℕ) → length x.registers ≡ 32
    → LaidOut 0 x.memory.spans → (c : Course)
    → c.opening ≡ opened_clock rob x numbers → OpensOn c x
unfolding opened_clock
opened_state rob x numbers long laid c is =
    let core : c.opening.core ≡ opened rob x = ap (λ (q : Clock). q.core) is in
    let state : c.opening.state ≡ x = ap (λ (q : Clock). q.state) is in
    record {
      state = state;
      stands = subst (λ (q : Clock). Stands q.core q.state) (sym is) (opened-stands rob x long laid);
      goes_on = ap (λ (q : Clock). q.core.ending) is;
    }

after_none : (k : Kept) (x : Held) → IsOpening k x → IsKept k x
unfolding after
after_none k x o = leaves_kept k x x o 0 refl

-- its course opens on it
pub course_opens : (s : Setting) (b : Before) (input : List ℕ) → CanOpen s b.memory → length input ≤ s.kept.input_len
    → OpensOn (course_in s b input) (opening_of s b input)
course_opens s b input can fits =
    let x : Held = record { mips = opening_of s b input; computed = 0 } in
    let here = after_none s.kept x (opens s b input can fits) in
    opened_state s.kept.machine.rob x.mips b.numbers
    (opening_long s.kept.entry s.kept.stack s.kept.input_at s.kept.input_len input b.memory s.output_max)
    (laid_there s.kept x here) (course_in s b input) refl

-- no access is held back for long
opened_within : (s : Speeds) (rob : ℕ) (x : Mips) (numbers : List ℕ) → IsWithin s (opened_clock rob x numbers)
unfolding opened_clock
opened_within s rob x numbers = record { fetch = omega arith; load = omega arith; store = omega arith }

all_within : (s : Speeds) (p : Predicts) (q : Clock) → IsWithin s q → (n : ℕ) → IsWithin s (cycles_of n s p q)
unfolding cycles_of cycled_of
all_within s p q h zero = h
all_within s p q h (suc n) = cycle-within s p (cycles_of n s p q) (all_within s p q h n)

pub short_flight : (s : Setting) (b : Before) (input : List ℕ) (n : ℕ)
    → in_flight_of (clock_at (course_in s b input) n) ≤ wait_of s.kept.machine (period_at s.kept (pair_of s b).a)
short_flight s b input n =
    let speeds = speeds_at s.kept.machine (period_at s.kept (pair_of s b).a) in
    let q = opened_clock s.kept.machine.rob (opening_of s b input) b.numbers in
    let first = opened_within speeds s.kept.machine.rob (opening_of s b input) b.numbers in
    let within = all_within speeds s.predicts q first n in
    in-flight-least speeds (clock_at (course_in s b input) n) within
