-- A view below a view: what is known in it is known in the other, and the same.
use Rattle.std.proofs.Common.{◌≡◌, ℕ, zero, suc, Bool, true, false, cond, eqb, List, [], ◌∷◌, length, get_or, set, Option, Some, None, refl, sym, ap, ap₂, ◌∙◌, subst, arith, get_or-set_other}
use Rattle.std.proofs.lemmas.Grind.{common_steps}
use Rattle.std.specs.Prelude.{not, ◌&&◌, ◌||◌}
use Rattle.mips_isa.specs.Fits.{FieldsFit}
use Rattle.mips_isa.specs.Names.{reads_of}
use Rattle.mips_isa.specs.Words.{high_word, low_word, pair_of}
use Rattle.mips_isa.specs.declared.instr.Instr.{Instr}
use Rattle.mips_ref.proofs.CodeKept.{SameSpans}
use Rattle.mips_ref.specs.Facts.{AgreeOn}
use Rattle.mips_ref.specs.Mips.{Mips, name_value}
use Rattle.mips_ref.specs.Step.{hi_after, lo_after, pair_after, registers_after}
use Rattle.mips_ref.specs.Facts.{Gives}
use Rattle.core_window.proofs.SameOutcomes.{outcome-same}
use Rattle.core_window.specs.Outcomes.{is_load, placed, outcome_in}
use Rattle.core_window.specs.View.{View, all_names, knows_operands, learned, known_outcome}
use Rattle.core_window.specs.declared.records.Outcome.{Outcome}

pub record Below (v w : View) : Type 0 where
  pub names : (n : ℕ) → v.known n ≡ true → (w.known n ≡ true) × (name_value v.state n ≡ name_value w.state n)
  pub memory : v.memory_known ≡ true → (w.memory_known ≡ true) × (v.state.memory ≡ w.state.memory)
  pub spans : SameSpans v.state.memory w.state.memory
  pub room : length v.state.registers ≡ length w.state.registers

pub below-same : (v : View) → Below v v
below-same v =
    record { names = λ n e. (e, refl); memory = λ e. (e, refl); spans = record { spans = refl; big = refl }; room = refl }

pub below-again : (u v w : View) → Below u v → Below v w → Below u w
below-again u v w a b =
    record {
      names = λ n e. let p = a.names n e in let q = b.names n p.0 in (q.0, p.1 ∙ q.1);
      memory = λ e. let p = a.memory e in let q = b.memory p.0 in (q.0, p.1 ∙ q.1);
      spans = record { spans = a.spans.spans ∙ b.spans.spans; big = a.spans.big ∙ b.spans.big };
      room = a.room ∙ b.room;
    }

-- what is known, as truths of two parts
pub and-left : (a b : Bool) → (a && b) ≡ true → a ≡ true
and-left true b e = refl
and-left false b e = e

pub and-right : (a b : Bool) → (a && b) ≡ true → b ≡ true
and-right true b e = e
and-right false b e = cc

pub both : (a b : Bool) → a ≡ true → b ≡ true → (a && b) ≡ true
both true b e f = f
both false b e f = e

names-below : (names : List (Option ℕ)) (v w : View) → Below v w → all_names names v.known ≡ true
    → (all_names names w.known ≡ true) × AgreeOn names v.state w.state
unfolding all_names
names-below [] v w b e = (refl, tt)
names-below (None ∷ names) v w b e = names-below names v w b e
names-below (Some n ∷ names) v w b e =
    let here = b.names n (and-left (v.known n) _ e) in
    let rest = names-below names v w b (and-right (v.known n) _ e) in
    (both (w.known n) _ here.0 rest.0, (here.1, rest.1))

memory-below : (l a b : Bool) → (a ≡ true → b ≡ true) → (not l || a) ≡ true → (not l || b) ≡ true
memory-below true a b h e = h e
memory-below false a b h e = refl

loads : (l a : Bool) → (not l || a) ≡ true → l ≡ true → a ≡ true
loads true a e f = e
loads false a e f = cc

some-if : (b : Bool) (r s : Outcome) → cond b (Some r) None ≡ Some s → (b ≡ true) × (r ≡ s)
some-if true r s e = (refl, cc)
some-if false r s e = cc

-- what an known_outcome says
pub outcome-is : (v : View) (i : Instr) (pc npc : ℕ) (r : Outcome) → known_outcome v i pc npc ≡ Some r
    → (knows_operands v i ≡ true) × (outcome_in i (placed v.state pc npc) ≡ r)
unfolding known_outcome
outcome-is v i pc npc r e = some-if (knows_operands v i) (outcome_in i (placed v.state pc npc)) r e

pub outcome-some : (v : View) (i : Instr) (pc npc : ℕ) (r : Outcome) → knows_operands v i ≡ true → outcome_in i (placed v.state pc npc) ≡ r
    → known_outcome v i pc npc ≡ Some r
unfolding known_outcome
outcome-some v i pc npc r e f = ap (λ b. cond b (Some (outcome_in i (placed v.state pc npc))) None) e ∙ ap Some f

-- an known_outcome stays where more is known
pub outcome-below : (v w : View) (i : Instr) (pc npc : ℕ) (r : Outcome) → FieldsFit i → Below v w → known_outcome v i pc npc ≡ Some r
    → known_outcome w i pc npc ≡ Some r
outcome-below v w i pc npc r fits b e =
    let is = outcome-is v i pc npc r e in
    let named = and-left (all_names (reads_of i) v.known) _ is.0 in
    let memoried = and-right (all_names (reads_of i) v.known) _ is.0 in
    let names = names-below (reads_of i) v w b named in
    let ready = both (all_names (reads_of i) w.known) _ names.0 (memory-below (is_load i) v.memory_known w.memory_known (λ k. (b.memory k).0) memoried) in
    outcome-some w i pc npc r ready
    (sym (outcome-same i (placed v.state pc npc) (placed w.state pc npc) fits refl refl (agree (reads_of i) v.state w.state pc npc names.1) b.spans
    (λ l. (b.memory (loads (is_load i) v.memory_known memoried l)).1)) ∙ is.1)
  where
    agree : (names : List (Option ℕ)) (x y : Mips) (pc npc : ℕ) → AgreeOn names x y → AgreeOn names (placed x pc npc) (placed y pc npc)
    agree [] x y pc npc h = tt
    agree (None ∷ names) x y pc npc h = agree names x y pc npc h
    agree (Some n ∷ names) x y pc npc h = (h.0, agree names x y pc npc h.1)

-- the value of a name after another value of a name
unfoldable pub value_of : Option ℕ → Option ℕ → List ℕ → ℕ → ℕ → ℕ → ℕ
value_of o w regs hi lo n = cond (eqb n 32) (pair_of (hi_after o w hi) (lo_after o w lo)) (get_or (registers_after o w regs) n 0)

-- a name that isn't written
register_step : (b : Bool) (regs : List ℕ) (name v n : ℕ) → (n ≡ name → ⊥) → get_or (cond b regs (set regs name v)) n 0 ≡ get_or regs n 0
register_step true regs name v n other = refl
register_step false regs name v n other = get_or-set_other regs name n v 0 other

other_register : (o value : Option ℕ) (regs : List ℕ) (n : ℕ) → (o ≡ Some n → ⊥) → get_or (registers_after o value regs) n 0 ≡ get_or regs n 0
other_register None value regs n other = refl
other_register (Some name) None regs n other = refl
other_register (Some name) (Some v) regs n other = register_step (eqb name 32) regs name (low_word v) n (λ e. other (ap Some (sym e)))

pair_step : (b : Bool) (new old : ℕ) → b ≡ false → cond b new old ≡ old
pair_step true new old e = cc
pair_step false new old e = refl

other_pair : (o value : Option ℕ) (new old : ℕ) → (o ≡ Some 32 → ⊥) → pair_after o value new old ≡ old
other_pair None value new old other = refl
other_pair (Some name) None new old other = refl
other_pair (Some name) (Some v) new old other =
    let apart : name ≡ 32 → ⊥ = λ e. other (ap Some e) in
    pair_step (eqb name 32) new old (grind (arith, common_steps, apart))

name_step : (b : Bool) (p q r s : ℕ) → (b ≡ true → p ≡ q) → r ≡ s → cond b p r ≡ cond b q s
name_step true p q r s e f = e refl
name_step false p q r s e f = f

pub kept-other : (o w : Option ℕ) (x : Mips) (n : ℕ) → (o ≡ Some n → ⊥) → value_of o w x.registers x.hi x.lo n ≡ name_value x n
unfolding value_of
kept-other o w x n other =
    let pairs : eqb n 32 ≡ true → pair_of (hi_after o w x.hi) (lo_after o w x.lo) ≡ pair_of x.hi x.lo =
    λ e. let is : n ≡ 32 = grind (arith, common_steps, e) in
    let apart : o ≡ Some 32 → ⊥ = λ f. other (f ∙ ap Some (sym is)) in
    ap₂ pair_of (other_pair o w _ x.hi apart) (other_pair o w _ x.lo apart) in
    name_step (eqb n 32) _ _ _ _ pairs (other_register o w x.registers n other)

-- the written name
same-set : (xs ys : List ℕ) (n v : ℕ) → length xs ≡ length ys → get_or (set xs n v) n 0 ≡ get_or (set ys n v) n 0
same-set [] [] n v e = refl
same-set [] (y ∷ ys) n v e = absurd (omega (arith, e))
same-set (x ∷ xs) [] n v e = absurd (omega (arith, e))
same-set (x ∷ xs) (y ∷ ys) zero v e = refl
same-set (x ∷ xs) (y ∷ ys) (suc n) v e = same-set xs ys n v (omega (arith, e))

at-name : (b : Bool) (h h' l l' high low w : ℕ) (xs ys : List ℕ) → length xs ≡ length ys
    → cond b (pair_of (cond b high h) (cond b low l)) (get_or (cond b xs (set xs w low)) w 0)
    ≡ cond b (pair_of (cond b high h') (cond b low l')) (get_or (cond b ys (set ys w low)) w 0)
at-name true h h' l l' high low w xs ys e = refl
at-name false h h' l l' high low w xs ys e = same-set xs ys w low e

same-written : (m w : ℕ) (x y : Mips) → length x.registers ≡ length y.registers
    → value_of (Some m) (Some w) x.registers x.hi x.lo m ≡ value_of (Some m) (Some w) y.registers y.hi y.lo m
unfolding value_of
same-written m w x y e = at-name (eqb m 32) x.hi y.hi x.lo y.lo (high_word w) (low_word w) m x.registers y.registers e

-- the value of a name after another value of one, in two views
abbrev pub SameAfter : Option ℕ → Option ℕ → View → View → ℕ → Type 0
SameAfter o w v u n = value_of o w v.state.registers v.state.hi v.state.lo n ≡ value_of o w u.state.registers u.state.hi u.state.lo n

learned-step : (m w : ℕ) (v u : View) (n : ℕ) (b : Bool) → eqb m n ≡ b → Below v u → cond b true (v.known n) ≡ true
    → (cond b true (u.known n) ≡ true) × SameAfter (Some m) (Some w) v u n
learned-step m w v u n true is b e =
    let same : m ≡ n = grind (arith, common_steps, is) in
    (refl, subst (λ k. SameAfter (Some m) (Some w) v u k) same (same-written m w v.state u.state b.room))
learned-step m w v u n false is b e =
    let apart : ◌≡◌ {A = Option ℕ} (Some m) (Some n) → ⊥ = λ f. let same : m ≡ n = cc in grind (arith, common_steps, is, same) in
    let h = b.names n e in
    (h.0, kept-other (Some m) (Some w) v.state n apart ∙ h.1 ∙ sym (kept-other (Some m) (Some w) u.state n apart))

-- what is known after an entry that gives a value of its name
pub learned-below : (o w : Option ℕ) (v u : View) → Gives o w → Below v u → (n : ℕ) → learned o true v.known n ≡ true
    → (learned o true u.known n ≡ true) × SameAfter o w v u n
unfolding value_of
learned-below None w v u g b n e = b.names n e
learned-below (Some m) None v u g b n e = absurd g
learned-below (Some m) (Some w) v u g b n e = learned-step m w v u n (eqb m n) refl b e

unlearned-step : (b k l : Bool) (P : Type 0) → cond b false k ≡ true → (k ≡ true → (l ≡ true) × P) → (cond b false l ≡ true) × P
unlearned-step true k l P e h = cc
unlearned-step false k l P e h = h e

-- and after one that gives none yet
pub unlearned-below : (o : Option ℕ) (v u : View) → Below v u → (n : ℕ) → learned o false v.known n ≡ true
    → (learned o false u.known n ≡ true) × (name_value v.state n ≡ name_value u.state n)
unlearned-below None v u b n e = b.names n e
unlearned-below (Some m) v u b n e = unlearned-step (eqb m n) (v.known n) (u.known n) _ e (λ k. b.names n k)

other-step : (m : ℕ) (w : Option ℕ) (v : View) (n : ℕ) (b : Bool) → eqb m n ≡ b → cond b false (v.known n) ≡ true
    → (cond b true (v.known n) ≡ true) × (name_value v.state n ≡ value_of (Some m) w v.state.registers v.state.hi v.state.lo n)
other-step m w v n true is e = cc
other-step m w v n false is e =
    let apart : ◌≡◌ {A = Option ℕ} (Some m) (Some n) → ⊥ = λ f. let same : m ≡ n = cc in grind (arith, common_steps, is, same) in
    (e, sym (kept-other (Some m) w v.state n apart))

-- what an entry that is done leaves of what was known while it wasn't
pub other-below : (o w : Option ℕ) (v : View) (n : ℕ) → learned o false v.known n ≡ true
    → (learned o true v.known n ≡ true) × (name_value v.state n ≡ value_of o w v.state.registers v.state.hi v.state.lo n)
other-below None w v n e = (e, sym (kept-other None w v.state n (λ f. cc)))
other-below (Some m) w v n e = other-step m w v n (eqb m n) refl e
