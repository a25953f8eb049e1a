-- A job that has ended stays ended.
use Rattle.std.proofs.Common.{◌≡◌, refl, sym, ap, subst, ◌∙◌, inl, inr, ℕ, zero, suc, ◌+◌, ◌-◌, ◌≤◌, ◌<◌, Bool, true, false, List, [], ◌∷◌, Option, Some, None, arith}
use Rattle.std.proofs.lemmas.Bool.{cases_lt}
use Rattle.std.specs.Prelude.{if◌then◌else◌, ◌&&◌}
use Rattle.mips_ref.specs.Mips.{Mips}
use Rattle.mips_ref.specs.Step.{step_of}
use Rattle.mips_ref.specs.declared.records.Step.{Step}
use Rattle.core_window.specs.Core.{Core, Pair}
use Rattle.core_window.specs.Events.{after_step, attempt, committed, is_open, may_commit}
use Rattle.core_window.specs.declared.records.Entry.{Entry}
use Rattle.ooo_clock.specs.Clock.{Clock, Predicts, Speeds}
use Rattle.ooo_clock.specs.Cycle.{and_made, cycle_of, cycled_of, cycles_of, next_cycle, repeat, unless_ended}
use Rattle.ooo_clock.specs.Moves.{Move, commit_due, commit_first, commit_move, is_due, makes}
use Rattle.mode_states.specs.Course.{Course, IsMissed, clock_at, ending_at}

none_committed : (c : Core) (x : Mips) (es : List Entry) (a : Step) → c.ending ≡ Some a → committed c x es ≡ None
none_committed c x [] a e = refl
none_committed c x (f ∷ rest) a e =
    ap (λ (o : Option Step). let p : Option Pair = if is_open o && may_commit f.status f.guess then Some
    (after_step c rest x (step_of x).answer (step_of x).state) else None in p) e

none_first : (s : Speeds) (p : Predicts) (q : Clock) (es : List Entry) → commit_first s p q es None ≡ None
none_first s p q [] = refl
none_first s p q (e ∷ rest) = refl

none_due : (b : Bool) → ◌≡◌ {A = Option Move} (if b then None else None) None
none_due true = refl
none_due false = refl

-- after its end a window commits nothing
none_commits : (s : Speeds) (p : Predicts) (q : Clock) (a : Step) → q.core.ending ≡ Some a → commit_move s p q ≡ None
unfolding commit_move attempt
none_commits s p q a e =
    let none = none_committed q.core q.state q.core.entries a e in
    let b = is_due (commit_due q) q.cycle in
    ap (λ (o : Option Pair). let m : Option Move = if b then commit_first s p q q.core.entries o else None in m) none
    ∙ ap (λ (o : Option Move). let m : Option Move = if b then o else None in m) (none_first s p q q.core.entries)
    ∙ none_due b

none_made : (n : ℕ) (move : Clock → Option Move) (q : Clock) → move q ≡ None → repeat n move q ≡ makes [] q
unfolding repeat
none_made zero move q e = refl
none_made (suc n) move q e = ap (λ (m : Move). and_made m (move m.clock)) (none_made n move q e) ∙ ap
    (λ o. and_made (makes [] q) o) e

-- so the cycle leaves it as it is
cycle_leaves : (s : Speeds) (p : Predicts) (q : Clock) (a : Step) → q.core.ending ≡ Some a
    → (cycled_of s p q).q.core ≡ q.core
unfolding cycled_of cycle_of
cycle_leaves s p q a e =
    ap (λ (m : Move). (next_cycle (unless_ended s p (is_open m.clock.core.ending) m)).clock.core)
    (none_made s.width (commit_move s p) q (none_commits s p q a e))
    ∙ ap (λ (o : Option Step). (next_cycle (unless_ended s p (is_open o) (makes [] q))).clock.core) e

stays_next : (c : Course) (n : ℕ) (a : Step) → ending_at c n ≡ Some a → ending_at c (suc n) ≡ Some a
unfolding cycles_of
stays_next c n a e = ap (λ (k : Core). k.ending) (cycle_leaves c.speeds c.predicts (clock_at c n) a e) ∙ e

stays_more : (c : Course) (n : ℕ) (a : Step) → ending_at c n ≡ Some a → (k : ℕ) → ending_at c (k + n) ≡ Some a
stays_more c n a e zero = let same : 0 + n ≡ n = omega arith in subst (λ m. ending_at c m ≡ Some a) (sym same) e
stays_more c n a e (suc k) =
    let same : suc k + n ≡ suc (k + n) = omega arith in
    subst (λ m. ending_at c m ≡ Some a) (sym same) (stays_next c (k + n) a (stays_more c n a e k))

pub stays_ended : (c : Course) (n : ℕ) (a : Step) → ending_at c n ≡ Some a → (m : ℕ) → n ≤ m → ending_at c m ≡ Some a
stays_ended c n a e m l =
    let same : m - n + n ≡ m = omega (arith, l) in
    subst (λ i. ending_at c i ≡ Some a) same (stays_more c n a e (m - n))

-- a job that has ended without a missed checkpoint misses none later
pub never_missed : (c : Course) (n : ℕ) (a : Step) → ending_at c n ≡ Some a → ((m : ℕ) → m < n → ¬ (IsMissed c m))
    → (m : ℕ) → ¬ (IsMissed c m)
never_missed c n a e before m missed = elim (cases_lt m n) [
  | inl early ↦ before m early missed
  | inr later ↦ let no : ◌≡◌ {A = Option Step} (Some a) None = sym (stays_ended c n a e m later) ∙ missed.goes_on in cc
]
