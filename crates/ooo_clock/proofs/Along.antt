-- The commits of a cycle are steps of the reference, and so are those of many cycles.
use Rattle.std.proofs.Common.{◌≡◌, ◌⊎◌, inl, inr, ℕ, zero, suc, Bool, true, false, cond, eqb, List, [], ◌∷◌, Option, Some, None, refl, sym, ap, ◌∙◌, subst, arith}
use Rattle.std.proofs.lemmas.Grind.{common_steps}
use Rattle.std.specs.Prelude.{◌+◌, ◌&&◌, not, IfSome, slice_get, take}
use Rattle.mips_isa.specs.Decoding.{decode_of}
use Rattle.mips_ref.specs.Job.{after}
use Rattle.mips_ref.specs.Memory.{code_word_at}
use Rattle.mips_ref.specs.Mips.{Mips}
use Rattle.mips_ref.specs.Step.{at_exit, step_of}
use Rattle.mips_ref.specs.declared.records.Step.{Step}
use Rattle.mips_ref.specs.declared.records.Step.TheVariants.{Went, Exit, Trap}
use Rattle.core_window.proofs.EachEvent.{event-state, events-stand}
use Rattle.core_window.specs.Beside.{EndingFits, Stands}
use Rattle.core_window.specs.Core.{Core, Pair}
use Rattle.core_window.specs.Events.{after_step, all_happen, attempt, beside, committed, cut_after, cut_at_slot, fetched, finished, finished_by, goes, happens, is_open, issued, issued_by, may_commit, one_if_made, or_same, squashed, squashed_by, steps_by, takes, to_status, with_entry}
use Rattle.core_window.specs.Outcomes.{controls}
use Rattle.core_window.specs.declared.records.Entry.{Entry}
use Rattle.core_window.specs.declared.records.Event.{Event}
use Rattle.core_window.specs.declared.records.Event.TheVariants.{Fetch, Issue, Finish, Commit, Squash}
use Rattle.core_window.specs.declared.records.Outcome.TheVariants.{Trapped, Parts}
use Rattle.core_window.specs.declared.records.Status.{Status}
use Rattle.core_window.specs.declared.records.Status.TheVariants.{Waiting, Running, Done}
use Rattle.ooo_clock.proofs.Performs.{cycle-performs}
use Rattle.ooo_clock.specs.Along.{AllWent, AreSteps, Cycles, grown}
use Rattle.ooo_clock.specs.Clock.{Clock, Predicts, Speeds, pair_of}
use Rattle.ooo_clock.specs.Cycle.{cycle_of, cycled_of, cycles_of, pc_if, pcs_of}

-- an event makes no step, or one that goes
abbrev pub NoneOrOne : Mips → ℕ → Type 0
NoneOrOne x n = (n ≡ 0) ⊎ ((n ≡ 1) × ((step_of x).answer ≡ Went))

goes-one : (x : Mips) (a : Step) → (step_of x).answer ≡ a → NoneOrOne x (goes a)
goes-one x Went e = inr (refl, e)
goes-one x Exit e = inl refl
goes-one x (Trap k pc) e = inl refl

one-step : (x : Mips) (o : Option Pair) → NoneOrOne x (one_if_made x o)
one-step x None = inl refl
one-step x (Some p) = goes-one x (step_of x).answer refl

step-by : (p : Pair) (e : Event) → NoneOrOne p.state (steps_by p e)
step-by p (Fetch guess) = inl refl
step-by p (Issue k) = inl refl
step-by p (Finish k) = inl refl
step-by p Commit = one-step p.state (attempt p.core p.state Commit)
step-by p (Squash k) = inl refl

-- the pcs of a list of events from the k-th state after x on
pub record Along (x : Mips) (k : ℕ) (p : Pair) (events : List Event) : Type 0 where
  pub steps : AreSteps x k (pcs_of p events)
  pub state : (all_happen p events).state ≡ after (grown k (pcs_of p events)) x

none-along : (x : Mips) (k : ℕ) (p : Pair) (e : Event) (rest : List Event) → steps_by p e ≡ 0 → Along x k (happens p e) rest → Along x k p (e ∷ rest)
unfolding pcs_of all_happen
none-along x k p e rest none a =
    let q = happens p e in
    record {
      steps = subst (λ n. AreSteps x k (pc_if n q (pcs_of q rest))) (sym none) a.steps;
      state = a.state ∙ ap (λ n. after (grown k (pc_if n q (pcs_of q rest))) x) (sym none);
    }

one-along : (x : Mips) (k : ℕ) (p : Pair) (e : Event) (rest : List Event) → steps_by p e ≡ 1 → (step_of (after k x)).answer ≡ Went
    → (happens p e).state ≡ after (suc k) x → Along x (suc k) (happens p e) rest → Along x k p (e ∷ rest)
unfolding AreSteps grown pcs_of all_happen
one-along x k p e rest one went there a =
    let q = happens p e in
    let steps : AreSteps x k (q.state.pc ∷ pcs_of q rest) = (went, ap (λ (y : Mips). y.pc) there, a.steps) in
    record {
      steps = subst (λ n. AreSteps x k (pc_if n q (pcs_of q rest))) (sym one) steps;
      state = a.state ∙ ap (λ n. after (grown k (pc_if n q (pcs_of q rest))) x) (sym one);
    }

no-step : (x y : Mips) (k n : ℕ) → n ≡ 0 → y ≡ after k x → after n y ≡ after k x
unfolding after
no-step x y k n none is = ap (λ m. after m y) none ∙ is

next-step : (x y : Mips) (k n : ℕ) → n ≡ 1 → y ≡ after k x → after n y ≡ after (suc k) x
unfolding after
next-step x y k n one is = ap (λ m. after m y) one ∙ ap (λ z. (step_of z).state) is

pub events-along : (x : Mips) (k : ℕ) (p : Pair) (events : List Event) → p.state ≡ after k x → Along x k p events
unfolding AreSteps pcs_of grown all_happen
events-along x k p [] is = record { steps = tt; state = is }
events-along x k p (e ∷ rest) is =
    elim (step-by p e) [
      | inl none ↦ none-along x k p e rest none
          (events-along x k (happens p e) rest (event-state p e ∙ no-step x p.state k (steps_by p e) none is))
      | inr one ↦ one-along x k p e rest one.0 (ap (λ y. (step_of y).answer) (sym is) ∙ one.1)
          (event-state p e ∙ next-step x p.state k (steps_by p e) one.0 is)
          (events-along x (suc k) (happens p e) rest (event-state p e ∙ next-step x p.state k (steps_by p e) one.0 is))
    ]

pub cycle-steps : (s : Speeds) (p : Predicts) (q : Clock) (x : Mips) (k : ℕ) → q.state ≡ after k x → AreSteps x k (pcs_of (pair_of q) (cycle_of s p q).events)
cycle-steps s p q x k is = (events-along x k (pair_of q) (cycle_of s p q).events is).steps

pub cycle-state : (s : Speeds) (p : Predicts) (q : Clock) (x : Mips) (k : ℕ) → q.state ≡ after k x
    → (cycle_of s p q).clock.state ≡ after (grown k (pcs_of (pair_of q) (cycle_of s p q).events)) x
cycle-state s p q x k is =
    ap (λ (r : Pair). r.state) (sym (cycle-performs s p q).is) ∙ (events-along x k (pair_of q) (cycle_of s p q).events is).state

pub cycle-stands : (s : Speeds) (p : Predicts) (q : Clock) → Stands q.core q.state → Stands (cycle_of s p q).clock.core (cycle_of s p q).clock.state
cycle-stands s p q h =
    subst (λ (r : Pair). Stands r.core r.state) (cycle-performs s p q).is (events-stand (pair_of q) (cycle_of s p q).events h)

pub cycle-ended : (s : Speeds) (p : Predicts) (q : Clock) (answer : Step) → Stands q.core q.state → (cycle_of s p q).clock.core.ending ≡ Some answer
    → (step_of (cycle_of s p q).clock.state).answer ≡ answer
unfolding EndingFits
cycle-ended s p q answer h is =
    let r = (cycle_of s p q).clock in
    subst (λ o. EndingFits o r.state) is (cycle-stands s p q h).ending_is

-- what ends a window is no step that goes
abbrev pub IsEnd : Option Step → Type 0
IsEnd None = Unit {0}
IsEnd (Some Went) = ⊥
IsEnd (Some Exit) = Unit {0}
IsEnd (Some (Trap k pc)) = Unit {0}

if-some : {A : Type 0} (b : Bool) (a : A) (P : A → Type 0) → P a → IfSome (cond b (Some a) None) P
if-some true a P h = h
if-some false a P h = tt

-- every event but a commit leaves what has ended it
abbrev SameEnding : Core → Option Core → Type 0
SameEnding c o = IfSome o (λ d. d.ending ≡ c.ending)

fetched-ending : (c : Core) (guess : ℕ) (o : Option ℕ) → SameEnding c (fetched c guess o)
fetched-ending c guess None = tt
fetched-ending c guess (Some word) =
    if-some (takes c guess (decode_of word)) (with_entry c guess (decode_of word)) (λ d. d.ending ≡ c.ending) refl

status-ending : (c : Core) (k : ℕ) (e : Entry) (o : Option Status) → SameEnding c (to_status c k e o)
status-ending c k e None = tt
status-ending c k e (Some s) = refl

issued-ending : (c : Core) (x : Mips) (k : ℕ) (o : Option Entry) → SameEnding c (issued c x k o)
issued-ending c x k None = tt
issued-ending c x k (Some e) = status-ending c k e (issued_by e.instr e.status (take k c.entries) x e)

finished-ending : (c : Core) (k : ℕ) (o : Option Entry) → SameEnding c (finished c k o)
finished-ending c k None = tt
finished-ending c k (Some e) = status-ending c k e (finished_by e.status)

slot-ending : (c : Core) (k : ℕ) (e : Entry) (next : ℕ) (s : Entry) (b : Bool) → (cut_at_slot c k e next s b).ending ≡ c.ending
slot-ending c k e next s true = refl
slot-ending c k e next s false = refl

cut-ending : (c : Core) (k : ℕ) (e : Entry) (next : ℕ) (o : Option Entry) → (cut_after c k e next o).ending ≡ c.ending
cut-ending c k e next None = refl
cut-ending c k e next (Some s) = slot-ending c k e next s (controls s.instr)

squashed-by-ending : (c : Core) (k : ℕ) (e : Entry) (s : Status) → SameEnding c (squashed_by c k e s)
squashed-by-ending c k e Waiting = tt
squashed-by-ending c k e (Running r) = tt
squashed-by-ending c k e (Done (Trapped t)) = tt
squashed-by-ending c k e (Done (Parts r)) =
    if-some (controls e.instr && not (eqb r.next e.guess)) (cut_after c k e r.next (slice_get c.entries (k + 1))) (λ d. d.ending ≡ c.ending)
    (cut-ending c k e r.next (slice_get c.entries (k + 1)))

squashed-ending : (c : Core) (k : ℕ) (o : Option Entry) → SameEnding c (squashed c k o)
squashed-ending c k None = tt
squashed-ending c k (Some e) = squashed-by-ending c k e e.status

beside-ends : (c : Core) (x : Mips) (o : Option Core) (p : Pair) → IsEnd c.ending → IsEnd p.core.ending → SameEnding c o → IsEnd (or_same p (beside x o)).core.ending
beside-ends c x None p h k same = k
beside-ends c x (Some d) p h k same = subst IsEnd (sym same) h

exit-ends : (b : Bool) → IsEnd (cond b (Some Exit) None)
exit-ends true = tt
exit-ends false = tt

step-ends : (c : Core) (rest : List Entry) (x y : Mips) (a : Step) → IsEnd (after_step c rest x a y).core.ending
step-ends c rest x y Went = exit-ends (at_exit y)
step-ends c rest x y Exit = tt
step-ends c rest x y (Trap k pc) = tt

or-ends : (p q : Pair) (b : Bool) → IsEnd p.core.ending → IsEnd q.core.ending → IsEnd (or_same p (cond b (Some q) None)).core.ending
or-ends p q true h k = k
or-ends p q false h k = h

commit-ends : (c : Core) (x : Mips) (es : List Entry) (p : Pair) → IsEnd p.core.ending → IsEnd (or_same p (committed c x es)).core.ending
commit-ends c x [] p h = h
commit-ends c x (e ∷ rest) p h =
    or-ends p (after_step c rest x (step_of x).answer (step_of x).state) (is_open c.ending && may_commit e.status e.guess) h
    (step-ends c rest x (step_of x).state (step_of x).answer)

event-ends : (p : Pair) (e : Event) → IsEnd p.core.ending → IsEnd (happens p e).core.ending
unfolding happens attempt
event-ends p (Fetch guess) h = beside-ends p.core p.state _ p h h (fetched-ending p.core guess (code_word_at p.state.memory p.core.fetch_pc))
event-ends p (Issue k) h = beside-ends p.core p.state _ p h h (issued-ending p.core p.state k (slice_get p.core.entries k))
event-ends p (Finish k) h = beside-ends p.core p.state _ p h h (finished-ending p.core k (slice_get p.core.entries k))
event-ends p Commit h = commit-ends p.core p.state p.core.entries p h
event-ends p (Squash k) h = beside-ends p.core p.state _ p h h (squashed-ending p.core k (slice_get p.core.entries k))

events-end : (p : Pair) (events : List Event) → IsEnd p.core.ending → IsEnd (all_happen p events).core.ending
unfolding all_happen
events-end p [] h = h
events-end p (e ∷ rest) h = events-end (happens p e) rest (event-ends p e h)

pub cycle-ends : (s : Speeds) (p : Predicts) (q : Clock) → q.core.ending ≡ None → IsEnd (cycle_of s p q).clock.core.ending
cycle-ends s p q going =
    let h : IsEnd q.core.ending = subst IsEnd (sym going) tt in
    subst (λ (r : Pair). IsEnd r.core.ending) (cycle-performs s p q).is (events-end (pair_of q) (cycle_of s p q).events h)

-- the steps up to the last commit all go
went-more : (n : ℕ) (x : Mips) → AllWent n x → (step_of (after n x)).answer ≡ Went → AllWent (suc n) x
went-more n x h last k low =
    elim (eqb k n) as (λ b. eqb k n ≡ b → (step_of (after k x)).answer ≡ Went) [
      | true ↦ λ e. let same : k ≡ n = grind (arith, common_steps, e) in subst (λ m. (step_of (after m x)).answer ≡ Went) (sym same) last
      | false ↦ λ e. let other : k ≡ n → ⊥ = grind (arith, common_steps, e) in h k (omega (arith, low, other))
    ] refl

grown-went : (x : Mips) (k : ℕ) (pcs : List ℕ) → AllWent k x → AreSteps x k pcs → AllWent (grown k pcs) x
unfolding AreSteps grown
grown-went x k [] h steps = h
grown-went x k (pc ∷ pcs) h steps = grown-went x (suc k) pcs (went-more k x h steps.0) steps.2

pub cycle-along : (s : Speeds) (p : Predicts) (q : Clock) (x : Mips) (k : ℕ) → Stands q.core q.state → q.core.ending ≡ None → AllWent k x
    → q.state ≡ after k x → Cycles x k (cycled_of s p q)
unfolding cycled_of
cycle-along s p q x k h going went is =
    let steps = cycle-steps s p q x k is in
    let state = cycle-state s p q x k is in
    let all = grown-went x k (pcs_of (pair_of q) (cycle_of s p q).events) went steps in
    let n = grown k (pcs_of (pair_of q) (cycle_of s p q).events) in
    record {
      commits = steps;
      went = all;
      state = state;
      stands = cycle-stands s p q h;
      ending = refl;
      ended = λ answer e.
          let answers : (step_of (after n x)).answer ≡ answer = subst (λ y. (step_of y).answer ≡ answer) state (cycle-ended s p q answer h e) in
          let end : IsEnd (Some answer) = subst IsEnd e (cycle-ends s p q going) in
          record {
            ends = record { went = all; ended = λ goes. subst (λ a. IsEnd (Some a)) (sym answers ∙ goes) end };
            answer_is = answers;
          };
    }

pub cycles-state : (n : ℕ) (s : Speeds) (p : Predicts) (q : Clock) → (k : ℕ) × ((cycles_of n s p q).state ≡ after k q.state)
unfolding cycles_of cycled_of after
cycles-state zero s p q = (0, refl)
cycles-state (suc n) s p q =
    let before = cycles-state n s p q in
    let r = cycles_of n s p q in
    (grown before.0 (pcs_of (pair_of r) (cycle_of s p r).events), cycle-state s p r q.state before.0 before.1)

pub cycles-stand : (n : ℕ) (s : Speeds) (p : Predicts) (q : Clock) → Stands q.core q.state → Stands (cycles_of n s p q).core (cycles_of n s p q).state
unfolding cycles_of cycled_of
cycles-stand zero s p q h = h
cycles-stand (suc n) s p q h = cycle-stands s p (cycles_of n s p q) (cycles-stand n s p q h)
