-- What a view knows is what the nearest older writers give, and its memory is the committed one with the older stores; so an entry is
-- ready where the view knows its operands, and comes to what the view says.
use Rattle.std.proofs.Common.{◌≡◌, ◌≤◌, ◌<◌, ℕ, Bool, true, false, cond, eqb, List, [], ◌∷◌, ◌++◌, length, get_or, set, Option, Some, None, refl, sym, ap, ap₂, ◌∙◌, subst, arith}
use Rattle.std.proofs.lemmas.Grind.{common_steps}
use Rattle.std.proofs.lemmas.List.{get_or-set_same}
use Rattle.std.proofs.lemmas.List.Folds.{find-append}
use Rattle.std.proofs.lemmas.List.FromFn.{get_or-map-range_with_len}
use Rattle.std.proofs.lemmas.List.{reverse-append}
use Rattle.std.specs.List.{find, list_all, range_with_len}
use Rattle.std.specs.Option.{option_or}
use Rattle.std.specs.Prelude.{IfSome, not, ◌&&◌, ◌||◌, map, reverse}
use Rattle.mips_isa.proofs.Relation.{decode_of_fits}
use Rattle.mips_isa.specs.Decoding.{decode_of}
use Rattle.mips_isa.specs.Fits.{FieldsFit}
use Rattle.mips_isa.specs.Names.{reads_of, writes_of}
use Rattle.mips_isa.specs.Words.{high_word, low_word, pair_of}
use Rattle.mips_isa.specs.declared.instr.Instr.{Instr}
use Rattle.mips_ref.proofs.CodeKept.{SameSpans}
use Rattle.mips_ref.proofs.Names.{IsName, writes_named}
use Rattle.mips_ref.specs.Facts.{AgreeOn}
use Rattle.mips_ref.specs.Memory.{Flat, code_word_at, or_zero}
use Rattle.mips_ref.specs.Mips.{Mips, name_value}
use Rattle.mips_ref.specs.Step.{changed}
use Rattle.core_window.proofs.Fit.{status-gives}
use Rattle.core_window.proofs.Past.{registers-room}
use Rattle.core_window.proofs.ReadNamed.{AllNamed, reads-named}
use Rattle.mips_ref.specs.Facts.{Gives}
use Rattle.core_window.proofs.SameOutcomes.{outcome-same}
use Rattle.core_window.proofs.Views.{and-left, and-right, both, kept-other, outcome-some, value_of}
use Rattle.core_window.specs.Beside.{AllFit, Stands, StatusFits}
use Rattle.core_window.specs.Core.{Core}
use Rattle.core_window.specs.Operands.{as_name, from_writer, given, has_operand, is_done, is_given, is_name, is_ready, nearest_writer, no_store, operand, overlaid, seen, stores_done, with_store, writes_name}
use Rattle.core_window.specs.Outcomes.{is_load, is_store, placed, outcome_in}
use Rattle.core_window.specs.View.{if_known, view_past, View, all_known, all_names, knows_operands, learned, known_outcome, past, past_by}
use Rattle.core_window.specs.declared.records.Entry.{Entry}
use Rattle.core_window.specs.declared.records.Outcome.TheVariants.{Trapped, Parts}
use Rattle.core_window.specs.declared.records.Status.{Status}
use Rattle.core_window.specs.declared.records.Status.TheVariants.{Waiting, Running, Done}

-- memory
store-step : (o : Option Instr) (s : Status) (v : View) → (past_by o s v).state.memory ≡ with_store o s v.state.memory
unfolding past_by changed
store-step None s v = refl
store-step (Some i) Waiting v = refl
store-step (Some i) (Running r) v = refl
store-step (Some i) (Done (Trapped k)) v = refl
store-step (Some i) (Done (Parts r)) v = refl

pub memory-past : (older : List Entry) (v : View) → (view_past older v).state.memory ≡ overlaid older v.state.memory
unfolding view_past
memory-past [] v = refl
memory-past (e ∷ rest) v = memory-past rest (past v e) ∙ ap (overlaid rest) (store-step e.instr e.status v)

or-true : (a b : Bool) → b ≡ ((a || true) && b)
or-true true b = refl
or-true false b = refl

or-false : (a b : Bool) → (a && b) ≡ ((a || false) && b)
or-false true b = refl
or-false false b = refl

known-step : (o : Option Instr) (s : Status) (v : View) → (past_by o s v).memory_known ≡ ((no_store o || is_done s) && v.memory_known)
unfolding past_by
known-step None s v = refl
known-step (Some i) Waiting v = or-false (not (is_store i)) v.memory_known
known-step (Some i) (Running r) v = or-false (not (is_store i)) v.memory_known
known-step (Some i) (Done (Trapped k)) v = or-true (not (is_store i)) v.memory_known
known-step (Some i) (Done (Parts r)) v = or-true (not (is_store i)) v.memory_known

and-turn : (a b c : Bool) → (a && (b && c)) ≡ ((b && a) && c)
and-turn true true c = refl
and-turn true false c = refl
and-turn false true c = refl
and-turn false false c = refl

pub known-past : (older : List Entry) (v : View) → (view_past older v).memory_known ≡ (stores_done older && v.memory_known)
unfolding view_past
known-past [] v = refl
known-past (e ∷ rest) v =
    known-past rest (past v e) ∙ ap (λ b. stores_done rest && b) (known-step e.instr e.status v)
    ∙ and-turn (stores_done rest) (no_store e.instr || is_done e.status) v.memory_known

-- names
and-true : (b : Bool) → (b && true) ≡ b
and-true true = refl
and-true false = refl

value-step : (b : Bool) (regs : List ℕ) (hi lo m w : ℕ) → (b ≡ false → m < length regs)
    → cond b (pair_of (cond b (high_word w) hi) (cond b (low_word w) lo)) (get_or (cond b regs (set regs m (low_word w))) m 0) ≡ cond b w (low_word w)
value-step true regs hi lo m w below = omega arith
value-step false regs hi lo m w below = get_or-set_same regs m (low_word w) 0 (below refl)

value-at : (m w : ℕ) (x : Mips) → length x.registers ≡ 32 → IsName m
    → value_of (Some m) (Some w) x.registers x.hi x.lo m ≡ cond (eqb m 32) w (low_word w)
unfolding value_of
value-at m w x room named =
    value-step (eqb m 32) x.registers x.hi x.lo m w (λ e. let other : m ≡ 32 → ⊥ = grind (arith, common_steps, e) in omega (arith, room, named.1, other))

name-step : (m : ℕ) (w : ℕ) (v : View) (n : ℕ) (b : Bool) → eqb m n ≡ b → length v.state.registers ≡ 32 → IsName m
    → cond (cond b true (v.known n)) (Some (value_of (Some m) (Some w) v.state.registers v.state.hi v.state.lo n)) None
    ≡ cond b (as_name n (Some w)) (if_known v n)
name-step m w v n true is room named =
    let same : m ≡ n = grind (arith, common_steps, is) in
    subst (λ k. ◌≡◌ {A = Option ℕ} (Some (value_of (Some m) (Some w) v.state.registers v.state.hi v.state.lo k)) (as_name k (Some w))) same
    (ap Some (value-at m w v.state room named))
name-step m w v n false is room named =
    let apart : ◌≡◌ {A = Option ℕ} (Some m) (Some n) → ⊥ = λ f. let same : m ≡ n = cc in grind (arith, common_steps, is, same) in
    ap (λ t. cond (v.known n) (Some t) None) (kept-other (Some m) (Some w) v.state n apart)

learned-value : (a w : Option ℕ) (v : View) (n : ℕ) → length v.state.registers ≡ 32 → IfSome a IsName → Gives a w
    → cond (learned a true v.known n) (Some (value_of a w v.state.registers v.state.hi v.state.lo n)) None ≡ cond (is_name a n) (as_name n w) (if_known v n)
unfolding value_of
learned-value None w v n room named g = refl
learned-value (Some m) None v n room named g = absurd g
learned-value (Some m) (Some w) v n room named g = name-step m w v n (eqb m n) refl room named

unlearned-step : (b k : Bool) (t : ℕ) → cond (cond b false k) (Some t) None ≡ cond b None (cond k (Some t) None)
unlearned-step true k t = refl
unlearned-step false k t = refl

unlearned-value : (a : Option ℕ) (v : View) (n : ℕ)
    → cond (learned a false v.known n) (Some (name_value v.state n)) None ≡ cond (is_name a n) None (if_known v n)
unlearned-value None v n = refl
unlearned-value (Some m) v n = unlearned-step (eqb m n) (v.known n) (name_value v.state n)

entry-step : (o : Option Instr) (s : Status) (v : View) (pc npc word n : ℕ) → decode_of word ≡ o → StatusFits o v pc npc s
    → length v.state.registers ≡ 32 → if_known (past_by o s v) n ≡ cond (writes_name o n) (given s n) (if_known v n)
unfolding past_by changed value_of
entry-step None s v pc npc word n d fit room = refl
entry-step (Some i) Waiting v pc npc word n d fit room = unlearned-value (writes_of i) v n
entry-step (Some i) (Running r) v pc npc word n d fit room = unlearned-value (writes_of i) v n
entry-step (Some i) (Done (Trapped k)) v pc npc word n d fit room = unlearned-value (writes_of i) v n
entry-step (Some i) (Done (Parts r)) v pc npc word n d fit room =
    learned-value (writes_of i) r.write v n room (writes_named i (decode_of_fits word i d)) (status-gives i (Done (Parts r)) v pc npc fit r refl)

room-step : (o : Option Instr) (s : Status) (v : View) → length (past_by o s v).state.registers ≡ length v.state.registers
unfolding past_by changed
room-step None s v = refl
room-step (Some i) Waiting v = refl
room-step (Some i) (Running r) v = refl
room-step (Some i) (Done (Trapped k)) v = refl
room-step (Some i) (Done (Parts r)) v = registers-room (writes_of i) r.write v.state.registers

-- the youngest writer of a list, from its oldest entry on
younger_or : Option Entry → Option Entry → Option Entry
younger_or None older = older
younger_or (Some e) older = Some e

or-younger : (a b : Option Entry) → option_or a b ≡ younger_or a b
unfolding younger_or
or-younger None b = refl
or-younger (Some e) b = refl

writer-cons : (e : Entry) (rest : List Entry) (n : ℕ)
    → nearest_writer (e ∷ rest) n ≡ younger_or (nearest_writer rest n) (cond (writes_name e.instr n) (Some e) None)
writer-cons e rest n =
    ap (find (λ (f : Entry). writes_name f.instr n)) (reverse-append (e ∷ []) rest)
    ∙ find-append (λ (f : Entry). writes_name f.instr n) (reverse rest) (e ∷ [])
    ∙ or-younger (nearest_writer rest n) (cond (writes_name e.instr n) (Some e) None)

writer-step : (w : Option Entry) (e : Entry) (b : Bool) (n : ℕ) (known : Option ℕ)
    → from_writer w n (cond b (given e.status n) known) ≡ from_writer (younger_or w (cond b (Some e) None)) n known
unfolding younger_or
writer-step (Some f) e b n known = refl
writer-step None e true n known = refl
writer-step None e false n known = refl

pub names-past : (code : ℕ → Option ℕ) (older younger : List Entry) (v : View) (pc npc p q n : ℕ) → AllFit code v pc npc (older ++ younger) p q
    → length v.state.registers ≡ 32 → if_known (view_past older v) n ≡ from_writer (nearest_writer older n) n (if_known v n)
unfolding AllFit view_past
names-past code [] younger v pc npc p q n h room = refl
names-past code (e ∷ rest) younger v pc npc p q n h room =
    names-past code rest younger (past v e) npc e.guess p q n h.1 (room-step e.instr e.status v ∙ room)
    ∙ ap (from_writer (nearest_writer rest n) n) (entry-step e.instr e.status v e.pc e.npc h.0.code_is.0 n h.0.code_is.2 h.0.status_is room)
    ∙ writer-step (nearest_writer rest n) e (writes_name e.instr n) n (if_known v n)
    ∙ ap (λ w. from_writer w n (if_known v n)) (sym (writer-cons e rest n))

pub operands : (c : Core) (x : Mips) (older younger : List Entry) (n : ℕ) → Stands c x → c.entries ≡ older ++ younger
    → if_known (view_past older (all_known x)) n ≡ operand older x n
operands c x older younger n h is =
    names-past (code_word_at x.memory) older younger (all_known x) x.pc x.next_pc c.fetch_pc c.fetch_next n
    (subst (λ es. AllFit (code_word_at x.memory) (all_known x) x.pc x.next_pc es c.fetch_pc c.fetch_next) is h.fit) h.registers

pub stores-known : (older : List Entry) (x : Mips) → (view_past older (all_known x)).memory_known ≡ stores_done older
stores-known older x = known-past older (all_known x) ∙ and-true (stores_done older)

-- an entry is ready where its operands are known
given-if : (b : Bool) (t : ℕ) → b ≡ is_given (cond b (Some t) None)
given-if true t = refl
given-if false t = refl

names-given : (names : List (Option ℕ)) (older : List Entry) (x : Mips) → ((n : ℕ) → if_known (view_past older (all_known x)) n ≡ operand older x n)
    → all_names names (view_past older (all_known x)).known ≡ list_all (has_operand older x) names
unfolding all_names
names-given [] older x h = refl
names-given (None ∷ names) older x h = names-given names older x h
names-given (Some n ∷ names) older x h =
    let v = view_past older (all_known x) in
    ap₂ (λ a b. a && b) (given-if (v.known n) (name_value v.state n) ∙ ap is_given (h n)) (names-given names older x h)

pub ready-known : (c : Core) (x : Mips) (older younger : List Entry) (i : Instr) → Stands c x → c.entries ≡ older ++ younger
    → knows_operands (view_past older (all_known x)) i ≡ is_ready older x i
ready-known c x older younger i h is =
    ap₂ (λ a b. a && (not (is_load i) || b)) (names-given (reads_of i) older x (λ n. operands c x older younger n h is)) (stores-known older x)

-- the state that it sees has them
pair-again : (b : Bool) (w k : ℕ) → (b ≡ false → k ≡ w) → cond b (pair_of (high_word w) (low_word w)) k ≡ w
pair-again true w k e = omega arith
pair-again false w k e = e refl

pair-same : (n m : ℕ) (b : Bool) (older : List Entry) (x : Mips) → eqb n 32 ≡ b
    → cond b (pair_of (high_word (or_zero (operand older x 32))) (low_word (or_zero (operand older x 32)))) m
    ≡ cond b (pair_of (high_word (or_zero (operand older x n))) (low_word (or_zero (operand older x n)))) m
pair-same n m true older x e =
    let same : 32 ≡ n = grind (arith, common_steps, e) in
    ap (λ k. pair_of (high_word (or_zero (operand older x k))) (low_word (or_zero (operand older x k)))) same
pair-same n m false older x e = refl

pub seen-value : (older : List Entry) (x : Mips) (pc npc n : ℕ) → n ≤ 32 → name_value (seen older x pc npc) n ≡ or_zero (operand older x n)
unfolding seen
seen-value older x pc npc n named =
    let f : ℕ → ℕ = λ k. or_zero (operand older x k) in
    let register : eqb n 32 ≡ false → get_or (map f (range_with_len 0 32)) n 0 ≡ f n =
    λ e. let other : n ≡ 32 → ⊥ = grind (arith, common_steps, e) in
    get_or-map-range_with_len f 0 32 n n 0 (omega (arith, named, other)) (omega arith) in
    pair-same n (get_or (map f (range_with_len 0 32)) n 0) (eqb n 32) older x refl
    ∙ pair-again (eqb n 32) (f n) (get_or (map f (range_with_len 0 32)) n 0) register

known-given : (b : Bool) (t : ℕ) (o : Option ℕ) → cond b (Some t) None ≡ o → is_given o ≡ true → (b ≡ true) × (t ≡ or_zero o)
known-given true t (Some u) e g = (refl, cc)
known-given true t None e g = cc
known-given false t o e g = let none : is_given None ≡ true = ap is_given e ∙ g in cc

names-have : (names : List (Option ℕ)) (older : List Entry) (x : Mips) (pc npc : ℕ) → AllNamed names
    → ((n : ℕ) → if_known (view_past older (all_known x)) n ≡ operand older x n) → list_all (has_operand older x) names ≡ true
    → (all_names names (view_past older (all_known x)).known ≡ true) × AgreeOn names (placed (view_past older (all_known x)).state pc npc) (seen older x pc npc)
unfolding all_names
names-have [] older x pc npc named h g = (refl, tt)
names-have (None ∷ names) older x pc npc named h g = names-have names older x pc npc named h g
names-have (Some n ∷ names) older x pc npc named h g =
    let v = view_past older (all_known x) in
    let here = known-given (v.known n) (name_value v.state n) (operand older x n) (h n) (and-left (is_given (operand older x n)) _ g) in
    let rest = names-have names older x pc npc named.1 h (and-right (is_given (operand older x n)) _ g) in
    (both (v.known n) _ here.0 rest.0, (here.1 ∙ sym (seen-value older x pc npc n named.0), rest.1))

load-known : (l a b : Bool) → a ≡ b → (not l || b) ≡ true → (not l || a) ≡ true
load-known true a b e h = e ∙ h
load-known false a b e h = refl

pub ready-outcome : (c : Core) (x : Mips) (older younger : List Entry) (i : Instr) (pc npc : ℕ) → Stands c x → c.entries ≡ older ++ younger
    → FieldsFit i → is_ready older x i ≡ true → known_outcome (view_past older (all_known x)) i pc npc ≡ Some (outcome_in i (seen older x pc npc))
unfolding seen
ready-outcome c x older younger i pc npc h is fits ready =
    let v = view_past older (all_known x) in
    let given = and-left (list_all (has_operand older x) (reads_of i)) _ ready in
    let stores = and-right (list_all (has_operand older x) (reads_of i)) _ ready in
    let names = names-have (reads_of i) older x pc npc (reads-named i fits) (λ n. operands c x older younger n h is) given in
    let memory : v.state.memory ≡ overlaid older x.memory = memory-past older (all_known x) in
    let spans : SameSpans v.state.memory (overlaid older x.memory) =
    record { spans = ap (λ (m : Flat). m.spans) memory; big = ap (λ (m : Flat). m.big) memory } in
    outcome-some v i pc npc (outcome_in i (seen older x pc npc))
    (both (all_names (reads_of i) v.known) _ names.0 (load-known (is_load i) v.memory_known (stores_done older) (stores-known older x) stores))
    (outcome-same i (placed v.state pc npc) (seen older x pc npc) fits refl refl names.1 spans (λ l. memory))

none-known : (v : View) (i : Instr) (pc npc : ℕ) → knows_operands v i ≡ false → known_outcome v i pc npc ≡ None
unfolding known_outcome
none-known v i pc npc e = ap (λ b. cond b (Some (outcome_in i (placed v.state pc npc))) None) e

-- so the view says what Issue does
pub issue-known : (c : Core) (x : Mips) (older younger : List Entry) (i : Instr) (pc npc : ℕ) → Stands c x → c.entries ≡ older ++ younger
    → FieldsFit i → known_outcome (view_past older (all_known x)) i pc npc ≡ cond (is_ready older x i) (Some (outcome_in i (seen older x pc npc))) None
issue-known c x older younger i pc npc h is fits = by (is_ready older x i) refl
  where
    by : (b : Bool) → is_ready older x i ≡ b
        → known_outcome (view_past older (all_known x)) i pc npc ≡ cond b (Some (outcome_in i (seen older x pc npc))) None
    by true e = ready-outcome c x older younger i pc npc h is fits e
    by false e = none-known (view_past older (all_known x)) i pc npc (ready-known c x older younger i h is ∙ e)
