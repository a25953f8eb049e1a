-- One step, taken apart.
use Rattle.std.proofs.Common.{◌≡◌, ◌⊎◌, inl, inr, ℕ, ◌%◌, ◌<◌, Bool, true, false, cond, eqb, length, Option, Some, None, refl, ap, sym, ◌∙◌, arith}
use Rattle.std.specs.Prelude.{◌&&◌}
use Rattle.std.proofs.lemmas.Grind.{common_steps}
use Rattle.mips_isa.specs.Decoding.{decode_of}
use Rattle.mips_isa.specs.declared.instr.Instr.{Instr}
use Rattle.mips_ref.proofs.CodeKept.{and_right}
use Rattle.mips_ref.proofs.Places.{place_from-holds}
use Rattle.mips_ref.specs.Facts.{Retires, WentBy}
use Rattle.mips_ref.specs.Memory.{Flat, LaidOut, at_place, code_at, code_word_at, in_order, is_code, lanes_at, place_of, port}
use Rattle.mips_ref.specs.Mips.{Mips, exit_address}
use Rattle.mips_ref.specs.Step.{Stepped, applied, at_exit, changed, decoded, executed, fetched, late_trap, retired_of, step_of, trap_of, trapped, unless_late, unless_trapped}
use Rattle.mips_ref.specs.declared.place.Place.{Place}
use Rattle.mips_ref.specs.declared.records.Retired.{Retired}
use Rattle.mips_ref.specs.declared.records.Step.TheVariants.{Went, Exit}
use Rattle.mips_ref.specs.declared.records.TrapKind.{TrapKind}

-- a step that goes applies the parts of its instruction
pub step-went : (x : Mips) (word : ℕ) (i : Instr) → WentBy x word i → step_of x ≡ record { answer = Went; state = changed i (retired_of i x) x }
unfolding step_of executed applied
step-went x word i w =
    rw w.not_exit (ap (λ o. fetched o x) w.found ∙ ap (λ o. decoded o x) w.decoded ∙ ap (λ o. unless_trapped o i x) w.no_trap ∙ ap (λ o. unless_late o i (retired_of i x) x) w.no_late_trap)

-- a step either goes by a word and an instruction, or leaves the state as it is
abbrev pub Outcome : Mips → Stepped → Type 0
Outcome x s = ((word : ℕ) × (i : Instr) × WentBy x word i) ⊎ ((s.answer ≡ Went → ⊥) × (s.state ≡ x))

stays : (x : Mips) (kind : TrapKind) → (s : Stepped) → s ≡ trapped kind x → (s.answer ≡ Went → ⊥) × (s.state ≡ x)
stays x kind s is = (λ e. cc (e, ap (λ (t : Stepped). t.answer) is), ap (λ (t : Stepped). t.state) is)

by_late : (x : Mips) (word : ℕ) (i : Instr) (t : Option TrapKind) → at_exit x ≡ false → code_word_at x.memory x.pc ≡ Some word → decode_of word ≡ Some i
    → trap_of i x ≡ None → late_trap i (retired_of i x) x ≡ t → Outcome x (unless_late t i (retired_of i x) x)
by_late x word i None e f g h l = inl (word, i, record { not_exit = e; found = f; decoded = g; no_trap = h; no_late_trap = l })
by_late x word i (Some kind) e f g h l = inr (stays x kind (trapped kind x) refl)

by_trap : (x : Mips) (word : ℕ) (i : Instr) (t : Option TrapKind) → at_exit x ≡ false → code_word_at x.memory x.pc ≡ Some word → decode_of word ≡ Some i
    → trap_of i x ≡ t → Outcome x (unless_trapped t i x)
unfolding applied
by_trap x word i None e f g h = by_late x word i (late_trap i (retired_of i x) x) e f g h refl
by_trap x word i (Some kind) e f g h = inr (stays x kind (trapped kind x) refl)

by_instr : (x : Mips) (word : ℕ) (o : Option Instr) → at_exit x ≡ false → code_word_at x.memory x.pc ≡ Some word → decode_of word ≡ o → Outcome x (decoded o x)
unfolding executed
by_instr x word None e f g = inr (stays x _ (decoded None x) refl)
by_instr x word (Some i) e f g = by_trap x word i (trap_of i x) e f g refl

by_word : (x : Mips) (o : Option ℕ) → at_exit x ≡ false → code_word_at x.memory x.pc ≡ o → Outcome x (fetched o x)
by_word x None e f = inr (stays x _ (fetched None x) refl)
by_word x (Some word) e f = by_instr x word (decode_of word) e f refl

by_exit : (x : Mips) (b : Bool) → at_exit x ≡ b → Outcome x (cond b (record { answer = Exit; state = x }) (fetched (code_word_at x.memory x.pc) x))
by_exit x true e = inr (λ f. cc, refl)
by_exit x false e = by_word x (code_word_at x.memory x.pc) e refl

pub outcome : (x : Mips) → Outcome x (step_of x)
unfolding step_of
outcome x = by_exit x (at_exit x) refl

-- what holds of a step that goes
pub went_by : (x : Mips) → (step_of x).answer ≡ Went → (word : ℕ) × (i : Instr) × WentBy x word i
went_by x went = elim (outcome x) [ inl w ↦ w | inr n ↦ absurd (n.0 went) ]

-- the next instruction acts next
pub went-pc : (x : Mips) → (step_of x).answer ≡ Went → (step_of x).state.pc ≡ x.next_pc
unfolding changed
went-pc x went = let w = went_by x went in ap (λ (s : Stepped). s.state.pc) (step-went x w.0 w.1 w.2)

pub went-next_pc : (x : Mips) (word : ℕ) (i : Instr) → WentBy x word i → (step_of x).state.next_pc ≡ (retired_of i x).next
unfolding changed
went-next_pc x word i w = ap (λ (s : Stepped). s.state.next_pc) (step-went x word i w)

-- a step that doesn't go leaves the state as it is
pub stays_put : (x : Mips) → ((step_of x).answer ≡ Went → ⊥) → (step_of x).state ≡ x
stays_put x stops = elim (outcome x) [ inl w ↦ absurd (stops (ap (λ (s : Stepped). s.answer) (step-went x w.0 w.1 w.2))) | inr n ↦ n.1 ]

-- no step changes how much output there may be
pub step_keeps_room : (x : Mips) → (step_of x).state.output_max ≡ x.output_max
unfolding changed
step_keeps_room x = elim (outcome x) [
  | inl w ↦ ap (λ (s : Stepped). s.state.output_max) (step-went x w.0 w.1 w.2)
  | inr n ↦ ap (λ (y : Mips). y.output_max) n.1
]

code_there : (m : Flat) (a w : ℕ) (b : Bool) → code_at m a ≡ b → cond b (Some (in_order m.big (lanes_at m a))) None ≡ Some w → code_at m a ≡ true
code_there m a w true e f = e
code_there m a w false e f = cc

place_there : (m : Flat) (a : ℕ) (o : Option Place) → LaidOut 0 m.spans → place_of m a ≡ o → at_place o (is_code a) ≡ true → a < port
place_there m a None laid at e = cc
place_there m a (Some p) laid at e =
    let h = place_from-holds 0 0 m.spans a p laid at in
    omega (arith, h.high, h.below_port)

-- code stands below the port
pub code_below : (m : Flat) (a w : ℕ) → LaidOut 0 m.spans → code_word_at m a ≡ Some w → a < port
unfolding code_word_at
code_below m a w laid found =
    place_there m a (place_of m a) laid refl (and_right (eqb (a % 4) 0) (at_place (place_of m a) (is_code a)) (code_there m a w (code_at m a) refl found))

pub not_at_exit : (x : Mips) (w : ℕ) → LaidOut 0 x.memory.spans → code_word_at x.memory x.pc ≡ Some w → at_exit x ≡ false
not_at_exit x w laid found =
    let below = code_below x.memory x.pc w laid found in
    let other : eqb x.pc exit_address ≡ false = grind (arith, common_steps) in
    ap (λ b. b && eqb (length x.returns) 0) other

-- a step whose parts are known is made by applying them
pub step-retires : (x : Mips) (i : Instr) (r : Retired) → LaidOut 0 x.memory.spans → Retires x i r → step_of x ≡ applied i r x
unfolding step_of executed
step-retires x i r laid w =
    rw (not_at_exit x w.code.0 laid w.code.1)
    (ap (λ o. fetched o x) w.code.1 ∙ ap (λ o. decoded o x) w.code.2 ∙ ap (λ o. unless_trapped o i x) w.no_trap ∙ ap (λ s. applied i s x) (sym w.parts))

-- a step answers Exit exactly at the exit address with an empty return stack
exit_late : (x : Mips) (i : Instr) (r : Retired) (t : Option TrapKind) → (unless_late t i r x).answer ≡ Exit → ⊥
exit_late x i r None e = cc
exit_late x i r (Some kind) e = cc

exit_trap : (x : Mips) (i : Instr) (t : Option TrapKind) → (unless_trapped t i x).answer ≡ Exit → ⊥
unfolding applied
exit_trap x i None e = exit_late x i (retired_of i x) (late_trap i (retired_of i x) x) e
exit_trap x i (Some kind) e = cc

exit_instr : (x : Mips) (o : Option Instr) → (decoded o x).answer ≡ Exit → ⊥
unfolding executed
exit_instr x None e = cc
exit_instr x (Some i) e = exit_trap x i (trap_of i x) e

exit_word : (x : Mips) (o : Option ℕ) → (fetched o x).answer ≡ Exit → ⊥
exit_word x None e = cc
exit_word x (Some word) e = exit_instr x (decode_of word) e

exit_by : (x : Mips) (b : Bool) → (cond b (record { answer = Exit; state = x }) (fetched (code_word_at x.memory x.pc) x)).answer ≡ Exit → b ≡ true
exit_by x true e = refl
exit_by x false e = absurd (exit_word x (code_word_at x.memory x.pc) e)

pub exits_there : (x : Mips) → (step_of x).answer ≡ Exit → at_exit x ≡ true
unfolding step_of
exits_there x e = exit_by x (at_exit x) e

exit_answer : (x : Mips) (b : Bool) → b ≡ true → (cond b (record { answer = Exit; state = x }) (fetched (code_word_at x.memory x.pc) x)).answer ≡ Exit
exit_answer x true e = refl
exit_answer x false e = cc

pub exits_if : (x : Mips) → at_exit x ≡ true → (step_of x).answer ≡ Exit
unfolding step_of
exits_if x e = exit_answer x (at_exit x) e
