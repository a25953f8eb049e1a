-- What an instruction comes to by the values that were found is what it comes to in the state that its entry sees.
use Rattle.std.proofs.Common.{◌≡◌, ◌≤◌, ◌<◌, ◌^◌, ◌/◌, ◌%◌, ℕ, Bool, true, false, cond, eqb, List, [], ◌∷◌, take, Option, Some, None, refl, sym, ap, ap₂, ◌∙◌, subst, arith}
use Rattle.std.proofs.lemmas.Grind.{common_steps}
use Rattle.std.specs.List.{list_all}
use Rattle.std.specs.Prelude.{IfSome, not, ◌&&◌, ◌||◌}
use Rattle.mips_isa.specs.Fits.{FieldsFit}
use Rattle.mips_isa.specs.Names.{may_keep, name_if, reads_of, reads_pair}
use Rattle.mips_isa.specs.Words.{low_word, pair_of}
use Rattle.mips_isa.specs.declared.instr.HiLoOp.{HiLoOp}
use Rattle.mips_isa.specs.declared.instr.HiLoOp.TheVariants.{Mfhi, Mflo, Mthi, Mtlo}
use Rattle.mips_isa.specs.declared.instr.Instr.{Instr}
use Rattle.mips_isa.specs.declared.instr.Instr.TheVariants.{R3, Shift, Acc, HiLo, Count, Imm, Lui, Load, Store, Pref, Branch2, Branch1, Jump, Jr, Jalr, TrapIf, Stop, Sync}
use Rattle.mips_isa.specs.declared.instr.LoadOp.{LoadOp}
use Rattle.mips_isa.specs.declared.instr.LoadOp.TheVariants.{Lb, Lh, Lwl, Lw, Lbu, Lhu, Lwr}
use Rattle.mips_ref.proofs.CodeKept.{SameSpans}
use Rattle.mips_ref.proofs.ReadNames.{act-used, only-same, used}
use Rattle.mips_ref.proofs.StepReads.{refuses-same}
use Rattle.mips_ref.specs.Access.{load_value, loaded_of, stored_of, word_start}
use Rattle.mips_ref.specs.Act.{act_of, to_register}
use Rattle.mips_ref.specs.Memory.{Flat, lanes_at, or_zero}
use Rattle.mips_ref.specs.Mips.{Mips, register_of}
use Rattle.mips_ref.specs.Step.{access_trap, acted, bytes_of, first_trap, operands_of, parts_of, retired_of, trap_in, trap_of, values_of, write_of}
use Rattle.mips_ref.specs.declared.records.Act.{Act}
use Rattle.mips_ref.specs.declared.records.Retired.{Retired}
use Rattle.mips_ref.specs.declared.records.TrapKind.{TrapKind}
use Rattle.mips_ref.specs.declared.records.Values.{Values}
use Rattle.core_window.proofs.Operands.{seen-value}
use Rattle.core_window.proofs.Overlaid.{like-itself, overlaid-like}
use Rattle.core_window.proofs.ReadNamed.{AllNamed, reads-named}
use Rattle.core_window.specs.Core.{Core}
use Rattle.core_window.specs.Events.{issued_by}
use Rattle.core_window.specs.Operands.{has_operand, is_given, is_ready, operand, overlaid, seen, stores_done}
use Rattle.core_window.specs.Outcomes.{is_load, outcome_from, outcome_in}
use Rattle.core_window.specs.Search.{AreNames, AreSmall, IsSmall, all_found, found_in, names_list, outcome_by, outcome_with, place_value, values_found, write_by}
use Rattle.core_window.specs.declared.records.Entry.{Entry}
use Rattle.core_window.specs.declared.records.Outcome.{Outcome}
use Rattle.core_window.specs.declared.records.Outcome.TheVariants.{Parts}
use Rattle.core_window.specs.declared.records.Status.{Status}
use Rattle.core_window.specs.declared.records.Status.TheVariants.{Waiting, Running}
use Rattle.core_window.specs.declared.search.Found.{Found}
use Rattle.core_window.specs.declared.search.Names.{Names}

-- values stand for the names of the places in a state
abbrev pub InRegister : Option ℕ → ℕ → Mips → Type 0
InRegister None v y = Unit {0}
InRegister (Some n) v y = n < 32 → v ≡ register_of y n

abbrev pub InThird : Option ℕ → Values → Mips → Type 0
InThird None v y = Unit {0}
InThird (Some n) v y = (n < 32 → v.rd ≡ register_of y n) × (n ≡ 32 → v.pair ≡ pair_of y.hi y.lo)

abbrev pub InPlaces : List (Option ℕ) → Values → Mips → Type 0
InPlaces (a ∷ b ∷ c ∷ []) v y = InRegister a v.rs y × InRegister b v.rt y × InThird c v y
InPlaces _ v y = ⊥

third-register : (b : Bool) (r : ℕ) (v : Values) (y : Mips) → r < 32 → InThird (name_if b r) v y → cond b v.rd 0 ≡ cond b (register_of y r) 0
third-register true r v y low h = h.0 low
third-register false r v y low h = refl

third-pair : (b : Bool) (v : Values) (y : Mips) → InThird (name_if b 32) v y → cond b v.pair 0 ≡ cond b (pair_of y.hi y.lo) 0
third-pair true v y h = h.1 refl
third-pair false v y h = refl

hilo-same : (m : HiLoOp) (rs rd : ℕ) (v : Values) (y : Mips) → FieldsFit (HiLo m rs rd) → InPlaces (reads_of (HiLo m rs rd)) v y
    → used (HiLo m rs rd) v ≡ used (HiLo m rs rd) (values_of (HiLo m rs rd) y)
unfolding used values_of operands_of reads_of
hilo-same Mfhi rs rd v y fits h = only-same _ _ _ _ _ _ _ _ refl refl refl (h.2.1 refl)
hilo-same Mflo rs rd v y fits h = only-same _ _ _ _ _ _ _ _ refl refl refl (h.2.1 refl)
hilo-same Mthi rs rd v y fits h = only-same _ _ _ _ _ _ _ _ (h.0 fits.0) refl refl (h.2.1 refl)
hilo-same Mtlo rs rd v y fits h = only-same _ _ _ _ _ _ _ _ (h.0 fits.0) refl refl (h.2.1 refl)

used-same : (i : Instr) (v : Values) (y : Mips) → FieldsFit i → InPlaces (reads_of i) v y → used i v ≡ used i (values_of i y)
unfolding used values_of operands_of reads_of
used-same (R3 m rs rt rd) v y fits h =
    only-same _ _ _ _ _ _ _ _ (h.0 fits.0) (h.1 fits.1) (third-register (may_keep m) rd v y fits.2 h.2) refl
used-same (Shift m rt rd sa) v y fits h = only-same _ _ _ _ _ _ _ _ refl (h.1 fits.0) refl refl
used-same (Acc m rs rt) v y fits h = only-same _ _ _ _ _ _ _ _ (h.0 fits.0) (h.1 fits.1) refl (third-pair (reads_pair m) v y h.2)
used-same (HiLo m rs rd) v y fits h = hilo-same m rs rd v y fits h
used-same (Count m rs rd) v y fits h = only-same _ _ _ _ _ _ _ _ (h.0 fits.0) refl refl refl
used-same (Imm m rs rt imm) v y fits h = only-same _ _ _ _ _ _ _ _ (h.0 fits.0) refl refl refl
used-same (Lui rt imm) v y fits h = refl
used-same (Load m rs rt off) v y fits h = only-same _ _ _ _ _ _ _ _ (h.0 fits.0) refl refl refl
used-same (Store m rs rt off) v y fits h = only-same _ _ _ _ _ _ _ _ (h.0 fits.0) refl refl refl
used-same (Pref rs hint off) v y fits h = refl
used-same (Branch2 m rs rt off) v y fits h = only-same _ _ _ _ _ _ _ _ (h.0 fits.0) (h.1 fits.1) refl refl
used-same (Branch1 m rs off) v y fits h = only-same _ _ _ _ _ _ _ _ (h.0 fits.0) refl refl refl
used-same (Jump m target) v y fits h = refl
used-same (Jr rs) v y fits h = only-same _ _ _ _ _ _ _ _ (h.0 fits) refl refl refl
used-same (Jalr rs rd) v y fits h = only-same _ _ _ _ _ _ _ _ (h.0 fits.0) refl refl refl
used-same (TrapIf m rs rt code) v y fits h = only-same _ _ _ _ _ _ _ _ (h.0 fits.0) (h.1 fits.1) refl refl
used-same (Stop m code) v y fits h = refl
used-same (Sync stype) v y fits h = refl

act-same : (i : Instr) (v : Values) (y : Mips) → FieldsFit i → InPlaces (reads_of i) v y → act_of i y.pc y.next_pc v ≡ acted i y
act-same i v y fits h =
    act-used i y.pc y.next_pc v ∙ ap (act_of i y.pc y.next_pc) (used-same i v y fits h) ∙ sym (act-used i y.pc y.next_pc (values_of i y))

-- only a partial load reads the register that it loads
loaded-same : (m : LoadOp) (rs rt off at : ℕ) (v : Values) (y : Mips) (word : ℕ) (big : Bool) → rt < 32 → InPlaces (reads_of (Load m rs rt off)) v y
    → loaded_of (Load m rs rt off) at v.rt word big ≡ loaded_of (Load m rs rt off) at (register_of y rt) word big
unfolding loaded_of load_value reads_of
loaded-same Lb rs rt off at v y word big low h = refl
loaded-same Lh rs rt off at v y word big low h = refl
loaded-same Lw rs rt off at v y word big low h = refl
loaded-same Lbu rs rt off at v y word big low h = refl
loaded-same Lhu rs rt off at v y word big low h = refl
loaded-same Lwl rs rt off at v y word big low h = ap (λ r. loaded_of (Load Lwl rs rt off) at r word big) (h.1 low)
loaded-same Lwr rs rt off at v y word big low h = ap (λ r. loaded_of (Load Lwr rs rt off) at r word big) (h.1 low)

write-same : (i : Instr) (a : Act) (v : Values) (y : Mips) → FieldsFit i → InPlaces (reads_of i) v y → write_by i a v.rt y.memory y.memory.big ≡ write_of i a y
unfolding write_by write_of
write-same (R3 m rs rt rd) a v y fits h = refl
write-same (Shift m rt rd sa) a v y fits h = refl
write-same (Acc m rs rt) a v y fits h = refl
write-same (HiLo m rs rd) a v y fits h = refl
write-same (Count m rs rd) a v y fits h = refl
write-same (Imm m rs rt imm) a v y fits h = refl
write-same (Lui rt imm) a v y fits h = refl
write-same (Load m rs rt off) a v y fits h =
    ap (to_register rt) (loaded-same m rs rt off (or_zero a.at) v y (lanes_at y.memory (word_start (or_zero a.at))) y.memory.big fits.1 h)
write-same (Store m rs rt off) a v y fits h = refl
write-same (Pref rs hint off) a v y fits h = refl
write-same (Branch2 m rs rt off) a v y fits h = refl
write-same (Branch1 m rs off) a v y fits h = refl
write-same (Jump m target) a v y fits h = refl
write-same (Jr rs) a v y fits h = refl
write-same (Jalr rs rd) a v y fits h = refl
write-same (TrapIf m rs rt code) a v y fits h = refl
write-same (Stop m code) a v y fits h = refl
write-same (Sync stype) a v y fits h = refl

bytes-same : (i : Instr) (a : Act) (v : Values) (y : Mips) → FieldsFit i → InPlaces (reads_of i) v y
    → stored_of i (or_zero a.at) v.rt y.memory.big ≡ bytes_of i a y
unfolding stored_of values_of operands_of reads_of
bytes-same (R3 m rs rt rd) a v y fits h = refl
bytes-same (Shift m rt rd sa) a v y fits h = refl
bytes-same (Acc m rs rt) a v y fits h = refl
bytes-same (HiLo m rs rd) a v y fits h = refl
bytes-same (Count m rs rd) a v y fits h = refl
bytes-same (Imm m rs rt imm) a v y fits h = refl
bytes-same (Lui rt imm) a v y fits h = refl
bytes-same (Load m rs rt off) a v y fits h = refl
bytes-same (Store m rs rt off) a v y fits h = ap (λ r. stored_of (Store m rs rt off) (or_zero a.at) r y.memory.big) (h.1 fits.1)
bytes-same (Pref rs hint off) a v y fits h = refl
bytes-same (Branch2 m rs rt off) a v y fits h = refl
bytes-same (Branch1 m rs off) a v y fits h = refl
bytes-same (Jump m target) a v y fits h = refl
bytes-same (Jr rs) a v y fits h = refl
bytes-same (Jalr rs rd) a v y fits h = refl
bytes-same (TrapIf m rs rt code) a v y fits h = refl
bytes-same (Stop m code) a v y fits h = refl
bytes-same (Sync stype) a v y fits h = refl

-- the trap and the parts over memory with its ranges and byte order alone, and the older stores
access-same : (i : Instr) (m n : Flat) (o : Option ℕ) → SameSpans m n → access_trap m i o ≡ access_trap n i o
access-same i m n None s = refl
access-same i m n (Some at) s = refuses-same i m n at s

parts_with : Act → Option ℕ → ℕ × ℕ → Retired
parts_with a write bytes = record { write = write; next = a.next; taken = a.taken; at = a.at; mask = bytes.0; word = bytes.1 }

with-trap : (t : Option TrapKind) (older : List Entry) (i : Instr) (a : Act) (value : ℕ) (m : Flat) (y : Mips)
    → parts_with a (write_by i a value (overlaid older m) m.big) (stored_of i (or_zero a.at) value m.big) ≡ retired_of i y
    → outcome_with t older i a value m ≡ outcome_from t i y
unfolding parts_with
with-trap (Some k) older i a value m y e = refl
with-trap None older i a value m y e = ap Parts e

same-parts : (older : List Entry) (i : Instr) (v : Values) (m : Flat) (y : Mips) (a : Act)
    → write_by i a v.rt (overlaid older m) m.big ≡ write_of i a y → stored_of i (or_zero a.at) v.rt m.big ≡ bytes_of i a y
    → a ≡ acted i y → parts_with a (write_by i a v.rt (overlaid older m) m.big) (stored_of i (or_zero a.at) v.rt m.big) ≡ retired_of i y
unfolding parts_with retired_of parts_of
same-parts older i v m y a w b e = ap₂ (λ p q. parts_with a p q) w b ∙ ap (λ c. parts_of i c y) e

outcome-at : (older : List Entry) (i : Instr) (v : Values) (m : Flat) (y : Mips) → FieldsFit i → InPlaces (reads_of i) v y → y.memory ≡ overlaid older m
    → SameSpans m y.memory → outcome_by older i y.pc y.next_pc v m ≡ outcome_in i y
unfolding outcome_by outcome_in trap_of
outcome-at older i v m y fits h memory s =
    let a = act_of i y.pc y.next_pc v in
    let act : a ≡ acted i y = act-same i v y fits h in
    let trap : first_trap a.trap (access_trap m i a.at) ≡ trap_in i (acted i y) y =
    ap (λ t. first_trap a.trap t) (access-same i m y.memory a.at s) ∙ ap (λ b. trap_in i b y) act in
    let write : write_by i a v.rt (overlaid older m) m.big ≡ write_of i a y =
    ap₂ (λ n b. write_by i a v.rt n b) (sym memory) s.big ∙ write-same i a v y fits h in
    let bytes : stored_of i (or_zero a.at) v.rt m.big ≡ bytes_of i a y =
    ap (λ b. stored_of i (or_zero a.at) v.rt b) s.big ∙ bytes-same i a v y fits h in
    with-trap (first_trap a.trap (access_trap m i a.at)) older i a v.rt m y (same-parts older i v m y a write bytes act)
    ∙ ap (λ t. outcome_from t i y) trap

-- the places that were found have the values that the entry sees
small-word : (o : Option ℕ) → IfSome o (λ w. w < 2 ^ 32) → low_word (or_zero o) ≡ or_zero o
small-word None h = omega arith
small-word (Some w) h = omega (arith, h)

found-register : (older : List Entry) (x : Mips) (pc npc : ℕ) (o : Option ℕ) → IsSmall o (place_value older x o)
    → InRegister o (low_word (or_zero (place_value older x o))) (seen older x pc npc)
found-register older x pc npc None small = tt
found-register older x pc npc (Some n) small = λ low.
    let other : n ≡ 32 → ⊥ = λ e. absurd (omega (arith, low, e)) in
    small-word (operand older x n) (small other) ∙ sym (register-seen n low)
  where
    name-step : (b : Bool) (p q r : ℕ) → b ≡ false → cond b p q ≡ r → q ≡ r
    name-step true p q r e f = cc
    name-step false p q r e f = f

    register-seen : (m : ℕ) → m < 32 → register_of (seen older x pc npc) m ≡ or_zero (operand older x m)
    register-seen m low =
        let y = seen older x pc npc in
        let other : eqb m 32 ≡ false = grind (arith, common_steps, low) in
        name-step (eqb m 32) (pair_of y.hi y.lo) (register_of y m) (or_zero (operand older x m)) other (seen-value older x pc npc m (omega (arith, low)))

found-pair : (older : List Entry) (x : Mips) (pc npc n : ℕ) → n ≡ 32 → or_zero (operand older x n) ≡ pair_of (seen older x pc npc).hi (seen older x pc npc).lo
unfolding seen
found-pair older x pc npc n e = ap (λ k. or_zero (operand older x k)) e ∙ pair-again (or_zero (operand older x 32))
  where
    pair-again : (w : ℕ) → w ≡ pair_of (w / 2 ^ 32) (w % 2 ^ 32)
    pair-again w = omega arith

found-third : (older : List Entry) (x : Mips) (pc npc : ℕ) (o : Option ℕ) (rs rt : ℕ) → IsSmall o (place_value older x o)
    → InThird o (record { rs = rs; rt = rt; rd = low_word (or_zero (place_value older x o)); pair = or_zero (place_value older x o) }) (seen older x pc npc)
found-third older x pc npc None rs rt small = tt
found-third older x pc npc (Some n) rs rt small = (found-register older x pc npc (Some n) small, λ e. found-pair older x pc npc n e)

places-found : (older : List Entry) (x : Mips) (pc npc : ℕ) (names : Names) → AreSmall names (found_in older x names)
    → InPlaces (names_list names) (values_found (found_in older x names)) (seen older x pc npc)
unfolding found_in
places-found older x pc npc names small = (
  found-register older x pc npc names.first small.first,
  found-register older x pc npc names.second small.second,
  found-third older x pc npc names.third _ _ small.third,
)

pub found-outcome : (older : List Entry) (x : Mips) (i : Instr) (pc npc : ℕ) (names : Names) (found : Found) → FieldsFit i → names_list names ≡ reads_of i
    → found ≡ found_in older x names → AreSmall names found
    → outcome_by older i pc npc (values_found found) x.memory ≡ outcome_in i (seen older x pc npc)
unfolding seen
found-outcome older x i pc npc names found fits is was small =
    let here = places-found older x pc npc names (subst (AreSmall names) was small) in
    let places : InPlaces (reads_of i) (values_found found) (seen older x pc npc) =
    subst (λ l. InPlaces l (values_found found) (seen older x pc npc)) is
    (subst (λ f. InPlaces (names_list names) (values_found f) (seen older x pc npc)) (sym was) here) in
    let like = overlaid-like older x.memory x.memory (like-itself x.memory) in
    outcome-at older i (values_found found) x.memory (seen older x pc npc) fits places refl (record { spans = sym like.spans; big = sym like.big })

-- and all of them are there where the instruction is ready
ready-with : (a b c l s t u : Bool) → a ≡ t → b ≡ s → c ≡ u → (a && b && c && l) ≡ ((t && (s && (u && true))) && l)
ready-with true true true l s t u e f g = grind (arith, common_steps, e, f, g)
ready-with true true false l s t u e f g = grind (arith, common_steps, e, f, g)
ready-with true false c l s t u e f g = grind (arith, common_steps, e, f, g)
ready-with false b c l s t u e f g = grind (arith, common_steps, e, f, g)

place-given : (older : List Entry) (x : Mips) (o : Option ℕ) → is_given (place_value older x o) ≡ has_operand older x o
place-given older x None = refl
place-given older x (Some n) = refl

pub found-ready : (older : List Entry) (x : Mips) (i : Instr) (names : Names) (found : Found) → names_list names ≡ reads_of i
    → found ≡ found_in older x names → all_found i found ≡ is_ready older x i
unfolding found_in
found-ready older x i names found is was =
    ap (all_found i) was
    ∙ ready-with (is_given (place_value older x names.first)) (is_given (place_value older x names.second)) (is_given (place_value older x names.third))
    (not (is_load i) || stores_done older) (has_operand older x names.second) (has_operand older x names.first) (has_operand older x names.third)
    (place-given older x names.first) (place-given older x names.second) (place-given older x names.third)
    ∙ ap (λ l. list_all (has_operand older x) l && (not (is_load i) || stores_done older)) is

-- the names of a list that are all names
first-named : (o : Option ℕ) (rest : List (Option ℕ)) → AllNamed (o ∷ rest) → IfSome o (λ m. m ≤ 32) × AllNamed rest
first-named None rest h = (tt, h)
first-named (Some n) rest h = h

pub are-names : (i : Instr) (names : Names) → FieldsFit i → names_list names ≡ reads_of i → AreNames names
are-names i names fits is =
    let all = subst AllNamed (sym is) (reads-named i fits) in
    let a = first-named names.first (names.second ∷ names.third ∷ []) all in
    let b = first-named names.second (names.third ∷ []) a.1 in
    let c = first-named names.third [] b.1 in
    record { first = a.0; second = b.0; third = c.0 }

-- so a run by what was found is the one of the definition
not-ready : (b : Bool) (s : Status) → b ≡ false → None ≡ cond b (Some s) None
not-ready true s e = cc
not-ready false s e = refl

is-ready : (b : Bool) (s t : Status) → b ≡ true → s ≡ t → Some s ≡ cond b (Some t) None
is-ready true s t e f = ap Some f
is-ready false s t e f = cc

-- the search past the older entries of a window
pub record Searched (c : Core) (x : Mips) (k : ℕ) (i : Instr) (items : List Entry) (names : Names) (found : Found) : Type 0 where
  pub entries : items ≡ c.entries
  pub reads : names_list names ≡ reads_of i
  pub is : found ≡ found_in (take k items) x names
  pub small : AreSmall names found

found-past : (c : Core) (x : Mips) (k : ℕ) (i : Instr) (items : List Entry) (names : Names) (found : Found) → Searched c x k i items names found
    → found ≡ found_in (take k c.entries) x names
found-past c x k i items names found s = subst (λ l. found ≡ found_in (take k l) x names) s.entries s.is

pub waits : (c : Core) (x : Mips) (k : ℕ) (e : Entry) (i : Instr) (items : List Entry) (names : Names) (found : Found) → Searched c x k i items names found
    → all_found i found ≡ false → None ≡ issued_by (Some i) Waiting (take k c.entries) x e
waits c x k e i items names found s none =
    not-ready (is_ready (take k c.entries) x i) (Running (outcome_in i (seen (take k c.entries) x e.pc e.npc)))
    (sym (found-ready (take k c.entries) x i names found s.reads (found-past c x k i items names found s)) ∙ none)

pub runs : (c : Core) (x : Mips) (k : ℕ) (e : Entry) (i : Instr) (items : List Entry) (names : Names) (found : Found) (m : Flat) (r : Outcome) → FieldsFit i
    → Searched c x k i items names found → all_found i found ≡ true → m ≡ x.memory → r ≡ outcome_by (take k items) i e.pc e.npc (values_found found) m
    → Some (Running r) ≡ issued_by (Some i) Waiting (take k c.entries) x e
runs c x k e i items names found m r fits s all memory is =
    let past = found-past c x k i items names found s in
    let same : r ≡ outcome_in i (seen (take k c.entries) x e.pc e.npc) =
    is ∙ ap (λ l. outcome_by (take k l) i e.pc e.npc (values_found found) m) s.entries
    ∙ ap (outcome_by (take k c.entries) i e.pc e.npc (values_found found)) memory
    ∙ found-outcome (take k c.entries) x i e.pc e.npc names found fits s.reads past s.small in
    is-ready (is_ready (take k c.entries) x i) (Running r) (Running (outcome_in i (seen (take k c.entries) x e.pc e.npc)))
    (sym (found-ready (take k c.entries) x i names found s.reads past) ∙ all) (ap Running same)
