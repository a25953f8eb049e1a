-- Each event keeps a window beside its state, and so does every list of events.
use Rattle.std.proofs.Common.{◌≡◌, ◌≤◌, ◌<◌, ℕ, zero, suc, ◌+◌, Bool, true, false, cond, eqb, ltb, List, [], ◌∷◌, ◌++◌, length, take, Option, Some, None, refl, sym, ap, ◌∙◌, subst, arith, length-set}
use Rattle.std.proofs.lemmas.Grind.{common_steps}
use Rattle.std.proofs.lemmas.List.{length-append, length-take}
use Rattle.std.proofs.lemmas.Option.{slice_get_within}
use Rattle.std.specs.Prelude.{IfSome, not, ◌&&◌, ◌||◌, slice_get}
use Rattle.mips_isa.specs.Decoding.{decode_of}
use Rattle.mips_ref.specs.Job.{after}
use Rattle.mips_ref.specs.Memory.{LaidOut, code_word_at}
use Rattle.mips_ref.specs.Mips.{Mips}
use Rattle.mips_ref.specs.Step.{step_of}
use Rattle.mips_ref.specs.declared.records.Step.{Step}
use Rattle.mips_ref.specs.declared.records.Step.TheVariants.{Went, Exit, Trap}
use Rattle.core_window.proofs.At.{status-fits}
use Rattle.core_window.proofs.Changes.{CoreFits, GoesOn, finish-goes-on, issue-goes-on, squash-fits}
use Rattle.core_window.proofs.Commit.{StandsPair, commit-stands}
use Rattle.core_window.proofs.Fit.{all-append}
use Rattle.core_window.proofs.Views.{and-left, and-right}
use Rattle.core_window.specs.Beside.{AllFit, EndingFits, Stands}
use Rattle.core_window.specs.Core.{Core, Pair, on_opening, opened}
use Rattle.core_window.specs.Events.{after_step, all_happen, attempt, beside, commits, committed, cut_after, cut_at_slot, entry_at, fetched, finished, finished_by, goes, happens, is_open, issued, issued_by, may_commit, may_guess, one_if_made, or_same, slot_to, squashed, squashed_by, steps_by, to_status, with_entry}
use Rattle.core_window.specs.Outcomes.{controls}
use Rattle.core_window.specs.View.{all_known, view_past}
use Rattle.core_window.specs.declared.records.Entry.{Entry}
use Rattle.core_window.specs.declared.records.Event.{Event}
use Rattle.core_window.specs.declared.records.Event.TheVariants.{Fetch, Issue, Finish, Commit, Squash}
use Rattle.core_window.specs.declared.records.Outcome.TheVariants.{Trapped, Parts}
use Rattle.core_window.specs.declared.records.Status.{Status}
use Rattle.core_window.specs.declared.records.Status.TheVariants.{Waiting, Running, Done}

-- Fetch
or-second : (a b : Bool) → (a || b) ≡ true → a ≡ false → b ≡ true
or-second true b e f = cc
or-second false b e f = e

if-fetch : (x : Mips) (b : Bool) (c : Core) → (b ≡ true → Stands c x) → IfSome (beside x (cond b (Some c) None)) StandsPair
if-fetch x true c h = h refl
if-fetch x false c h = tt

fetch-stands : (c : Core) (x : Mips) (guess : ℕ) (o : Option ℕ) → Stands c x → code_word_at x.memory c.fetch_pc ≡ o
    → IfSome (beside x (fetched c guess o)) StandsPair
fetch-stands c x guess None h found = tt
fetch-stands c x guess (Some word) h found =
    if-fetch x (is_open c.ending && (ltb (length c.entries) c.rob && may_guess (decode_of word) c.fetch_next guess)) (with_entry c guess (decode_of word))
    (λ b.
    let rest = and-right (is_open c.ending) _ b in
    let room = and-left (ltb (length c.entries) c.rob) _ rest in
    let may = and-right (ltb (length c.entries) c.rob) _ rest in
    let fewer : length c.entries < c.rob = grind (arith, common_steps, room) in
    let more = length-append c.entries (entry_at c.fetch_pc c.fetch_next guess (decode_of word) ∷ []) in
    record {
      registers = h.registers;
      laid_out = h.laid_out;
      room = omega (arith, fewer, more);
      fit = all-append (code_word_at x.memory) (all_known x) x.pc x.next_pc c.entries c.fetch_pc c.fetch_next guess word (decode_of word) h.fit found refl
          (λ p. let same = or-second (controls (decode_of word)) _ may p in grind (arith, common_steps, same));
      ending_is = h.ending_is;
    })

-- Issue and Finish
status-stands : (c : Core) (x : Mips) (k : ℕ) (e : Entry) (o : Option Status) → Stands c x → slice_get c.entries k ≡ Some e
    → IfSome o (GoesOn (view_past (take k c.entries) (all_known x)) e) → IfSome (beside x (to_status c k e o)) StandsPair
status-stands c x k e None h is goes = tt
status-stands c x k e (Some s) h is goes =
    record {
      registers = h.registers;
      laid_out = h.laid_out;
      room = omega (arith, h.room, length-set c.entries k (record e { status = s }));
      fit = status-fits (code_word_at x.memory) (all_known x) x.pc x.next_pc c.entries c.fetch_pc c.fetch_next k e s h.fit is goes.fits goes.below;
      ending_is = h.ending_is;
    }

issue-stands : (c : Core) (x : Mips) (k : ℕ) (o : Option Entry) → Stands c x → slice_get c.entries k ≡ o → IfSome (beside x (issued c x k o)) StandsPair
issue-stands c x k None h is = tt
issue-stands c x k (Some e) h is =
    status-stands c x k e (issued_by e.instr e.status (take k c.entries) x e) h is (issue-goes-on c x k e e.instr e.status h is refl refl)

finish-stands : (c : Core) (x : Mips) (k : ℕ) (o : Option Entry) → Stands c x → slice_get c.entries k ≡ o → IfSome (beside x (finished c k o)) StandsPair
finish-stands c x k None h is = tt
finish-stands c x k (Some e) h is =
    status-stands c x k e (finished_by e.status) h is (finish-goes-on c x k e e.status h is refl)

-- Squash: no more entries than before
alone-short : (c : Core) (k : ℕ) (e f : Entry) → slice_get c.entries k ≡ Some e → length (take k c.entries ++ f ∷ []) ≤ length c.entries
alone-short c k e f is =
    let within = slice_get_within c.entries k e is in
    omega (arith, within, length-append (take k c.entries) (f ∷ []), length-take k c.entries)

slot-short : (c : Core) (k : ℕ) (s f g : Entry) → slice_get c.entries (k + 1) ≡ Some s → length (take k c.entries ++ f ∷ g ∷ []) ≤ length c.entries
slot-short c k s f g is =
    let within = slice_get_within c.entries (k + 1) s is in
    omega (arith, within, length-append (take k c.entries) (f ∷ g ∷ []), length-take k c.entries)

at-slot-short : (c : Core) (k : ℕ) (e : Entry) (next : ℕ) (s : Entry) (b : Bool) → slice_get c.entries k ≡ Some e → slice_get c.entries (k + 1) ≡ Some s
    → length (cut_at_slot c k e next s b).entries ≤ length c.entries
at-slot-short c k e next s true is then = alone-short c k e (record e { guess = next }) is
at-slot-short c k e next s false is then = slot-short c k s (record e { guess = next }) (slot_to next s) then

cut-short : (c : Core) (k : ℕ) (e : Entry) (next : ℕ) (o : Option Entry) → slice_get c.entries k ≡ Some e → slice_get c.entries (k + 1) ≡ o
    → length (cut_after c k e next o).entries ≤ length c.entries
cut-short c k e next None is then = alone-short c k e (record e { guess = next }) is
cut-short c k e next (Some s) is then = at-slot-short c k e next s (controls s.instr) is then

-- and all else of it stays
pub record Cuts (c d : Core) : Type 0 where
  pub rob : d.rob ≡ c.rob
  pub ending : d.ending ≡ c.ending
  pub short : length d.entries ≤ length c.entries

cuts-after : (c : Core) (k : ℕ) (e : Entry) (next : ℕ) (o : Option Entry) → slice_get c.entries k ≡ Some e → slice_get c.entries (k + 1) ≡ o
    → Cuts c (cut_after c k e next o)
cuts-after c k e next o is then =
    record { rob = rob o; ending = ending o; short = cut-short c k e next o is then }
  where
    rob-slot : (s : Entry) (b : Bool) → (cut_at_slot c k e next s b).rob ≡ c.rob
    rob-slot s true = refl
    rob-slot s false = refl

    ending-slot : (s : Entry) (b : Bool) → (cut_at_slot c k e next s b).ending ≡ c.ending
    ending-slot s true = refl
    ending-slot s false = refl

    rob : (p : Option Entry) → (cut_after c k e next p).rob ≡ c.rob
    rob None = refl
    rob (Some s) = rob-slot s (controls s.instr)

    ending : (p : Option Entry) → (cut_after c k e next p).ending ≡ c.ending
    ending None = refl
    ending (Some s) = ending-slot s (controls s.instr)

if-cuts : (b : Bool) (c d : Core) → Cuts c d → IfSome (cond b (Some d) None) (Cuts c)
if-cuts true c d h = h
if-cuts false c d h = tt

squash-cuts : (c : Core) (k : ℕ) (e : Entry) (s : Status) → slice_get c.entries k ≡ Some e → IfSome (squashed_by c k e s) (Cuts c)
squash-cuts c k e Waiting is = tt
squash-cuts c k e (Running r) is = tt
squash-cuts c k e (Done (Trapped t)) is = tt
squash-cuts c k e (Done (Parts r)) is =
    if-cuts (controls e.instr && not (eqb r.next e.guess)) c (cut_after c k e r.next (slice_get c.entries (k + 1)))
    (cuts-after c k e r.next (slice_get c.entries (k + 1)) is refl)

cut-stands : (c : Core) (x : Mips) (o : Option Core) → Stands c x → IfSome o (CoreFits (code_word_at x.memory) (all_known x) x.pc x.next_pc)
    → IfSome o (Cuts c) → IfSome (beside x o) StandsPair
cut-stands c x None h fit cuts = tt
cut-stands c x (Some d) h fit cuts =
    record {
      registers = h.registers;
      laid_out = h.laid_out;
      room = omega (arith, h.room, cuts.short, cuts.rob);
      fit = fit;
      ending_is = subst (λ o. EndingFits o x) (sym cuts.ending) h.ending_is;
    }

squash-stands : (c : Core) (x : Mips) (k : ℕ) (o : Option Entry) → Stands c x → slice_get c.entries k ≡ o → IfSome (beside x (squashed c k o)) StandsPair
squash-stands c x k None h is = tt
squash-stands c x k (Some e) h is =
    cut-stands c x (squashed_by c k e e.status) h (squash-fits (code_word_at x.memory) (all_known x) x.pc x.next_pc c k e e.status h.fit is)
    (squash-cuts c k e e.status is)

pub attempt-stands : (c : Core) (x : Mips) (e : Event) → Stands c x → IfSome (attempt c x e) StandsPair
unfolding attempt
attempt-stands c x (Fetch guess) h = fetch-stands c x guess (code_word_at x.memory c.fetch_pc) h refl
attempt-stands c x (Issue k) h = issue-stands c x k (slice_get c.entries k) h refl
attempt-stands c x (Finish k) h = finish-stands c x k (slice_get c.entries k) h refl
attempt-stands c x Commit h = commit-stands c x c.entries h refl
attempt-stands c x (Squash k) h = squash-stands c x k (slice_get c.entries k) h refl

or-stands : (p : Pair) (o : Option Pair) → StandsPair p → IfSome o StandsPair → StandsPair (or_same p o)
or-stands p None h k = h
or-stands p (Some q) h k = k

pub event-stands : (p : Pair) (e : Event) → StandsPair p → StandsPair (happens p e)
unfolding happens
event-stands p e h = or-stands p (attempt p.core p.state e) h (attempt-stands p.core p.state e h)

-- the committed state after an event
beside-state : (p : Pair) (o : Option Core) → (or_same p (beside p.state o)).state ≡ p.state
beside-state p None = refl
beside-state p (Some c) = refl

step-state : (p : Pair) (rest : List Entry) (a : Step) → (after_step p.core rest p.state a (step_of p.state).state).state ≡ after (goes a) p.state
unfolding after
step-state p rest Went = refl
step-state p rest Exit = refl
step-state p rest (Trap k pc) = refl

commit-state : (p : Pair) (es : List Entry) → (or_same p (committed p.core p.state es)).state ≡ after (one_if_made p.state (committed p.core p.state es)) p.state
unfolding after
commit-state p [] = refl
commit-state p (e ∷ rest) = by (is_open p.core.ending && may_commit e.status e.guess)
  where
    by : (b : Bool)
        → (or_same p (cond b (Some (after_step p.core rest p.state (step_of p.state).answer (step_of p.state).state)) None)).state
        ≡ after (one_if_made p.state (cond b (Some (after_step p.core rest p.state (step_of p.state).answer (step_of p.state).state)) None)) p.state
    by true = step-state p rest (step_of p.state).answer
    by false = refl

pub event-state : (p : Pair) (e : Event) → (happens p e).state ≡ after (steps_by p e) p.state
unfolding happens attempt after
event-state p (Fetch guess) = beside-state p _
event-state p (Issue k) = beside-state p _
event-state p (Finish k) = beside-state p _
event-state p Commit = commit-state p p.core.entries
event-state p (Squash k) = beside-state p _

pub after-plus : (m k : ℕ) (x : Mips) → after m (after k x) ≡ after (k + m) x
unfolding after
after-plus zero k x = ap (λ n. after n x) (omega arith)
after-plus (suc m) k x =
    let one : k + suc m ≡ suc (k + m) = omega arith in
    ap (λ y. (step_of y).state) (after-plus m k x) ∙ sym (ap (λ n. after n x) one)

-- every list of events
pub events-stand : (p : Pair) (es : List Event) → StandsPair p → StandsPair (all_happen p es)
unfolding all_happen
events-stand p [] h = h
events-stand p (e ∷ rest) h = events-stand (happens p e) rest (event-stands p e h)

pub events-state : (p : Pair) (es : List Event) → (all_happen p es).state ≡ after (commits p es) p.state
unfolding all_happen commits after
events-state p [] = refl
events-state p (e ∷ rest) =
    events-state (happens p e) rest ∙ ap (after (commits (happens p e) rest)) (event-state p e)
    ∙ after-plus (commits (happens p e) rest) (steps_by p e) p.state

pub opened-stands : (rob : ℕ) (x : Mips) → length x.registers ≡ 32 → LaidOut 0 x.memory.spans → Stands (opened rob x) x
unfolding AllFit EndingFits
opened-stands rob x registers laid =
    record { registers = registers; laid_out = laid; room = omega arith; fit = (refl, refl); ending_is = tt }

pub opened-events : (rob : ℕ) (x : Mips) (events : List Event) → length x.registers ≡ 32 → LaidOut 0 x.memory.spans
    → Stands (all_happen (on_opening rob x) events).core (after (commits (on_opening rob x) events) x)
opened-events rob x events registers laid =
    subst (λ y. Stands (all_happen (on_opening rob x) events).core y) (events-state (on_opening rob x) events)
    (events-stand (on_opening rob x) events (opened-stands rob x registers laid))
