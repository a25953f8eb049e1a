-- The code of a graph in a run's memory, and a unit's instructions.
use Rattle.std.proofs.Common.{◌≡◌, ◌≢◌, ◌∙◌, refl, sym, ap, subst, ℕ, ◌+◌, ◌<◌, Bool, true, false, List, [], ◌∷◌, ◌++◌, arith, ◌⊎◌, inl, inr}
use Rattle.std.specs.Prelude.{◌==◌, ◌&&◌, ◌||◌, Option, Some, None}
use Rattle.std.specs.Option.{option_and_then}
use Rattle.std.proofs.lemmas.Bool.{and_parts, eqb-true}
use Rattle.std.proofs.Math.Nat.{mod-eq_of_lt}
use Rattle.visa_io.specs.declared.records.Code.{Code}
use Rattle.visa_io.specs.declared.records.Span.{Span}
use Rattle.mips_isa.specs.Decoding.{decode_of}
use Rattle.mips_isa.specs.Kinds.{kind_of}
use Rattle.mips_isa.specs.Names.{writes_of}
use Rattle.mips_isa.specs.Words.{word_sum}
use Rattle.mips_isa.specs.declared.instr.Instr.{Instr}
use Rattle.mips_isa.specs.declared.instr.Instr.TheVariants.{Imm}
use Rattle.mips_isa.specs.declared.instr.ImmOp.TheVariants.{Addiu}
use Rattle.mips_isa.specs.declared.instr.Kind.TheVariants as kind
use Rattle.mips_ref.specs.Facts.{WentBy}
use Rattle.mips_ref.specs.Memory.{Flat, LaidOut, port, code_word_at}
use Rattle.mips_ref.specs.Mips.{Mips}
use Rattle.mips_ref.specs.Step.{acted, parts_of, retired_of, step_of}
use Rattle.mips_ref.specs.declared.records.Step.TheVariants.{Went}
use Rattle.mips_ref.proofs.CodeKept.{code_word-kept}
use Rattle.mips_ref.proofs.Frame.{step_keeps}
use Rattle.mips_ref.proofs.Steps.{code_below, went_by}
use Rattle.flow_graph.specs.Code.{instr_at, is_control_at, is_control_instr, passes, word_at}
use Rattle.flow_graph.specs.Faults.{is_word_of}
use Rattle.flow_graph.specs.declared.parts.Edge.{Edge}
use Rattle.loop_regions.specs.Places.{Place, places, unit_places}
use Rattle.loop_regions.proofs.Visits.{same_number}
use Rattle.run_law.specs.Instructions.{instruction_at, decoded}
use Rattle.run_law.specs.Program.{IsQuiet, Program, Steps}
use Rattle.mips_ref.specs.Ran.{ran_at, ran_instr, ran_word}
use Rattle.mips_ref.specs.declared.records.Ran.{Ran}
use Rattle.run_law.specs.Ran.{WentAlong, WentBy as EnteredBy}
use Rattle.run_law.specs.Runs.{Done, First, HasCode, InSlot, newest_edge}
use Rattle.run_law.proofs.Counting.{no_step}
use Rattle.run_law.proofs.Standing.{HasGone}

-- an instruction stands where a word decodes to it
pub word_of : (q : Option ℕ) (i : Instr) → option_and_then decode_of q ≡ Some i
    → (word : ℕ) × (q ≡ Some word) × (decode_of word ≡ Some i)
word_of None i e = cc
word_of (Some word) i e = (word, refl, e)

pub coded : (code : Code) (a : ℕ) (i : Instr) → instr_at code a ≡ Some i
    → (word : ℕ) × (word_at code a ≡ Some word) × (decode_of word ≡ Some i)
unfolding instr_at
coded code a i stands = word_of (word_at code a) i stands

pub here : (code : Code) (m : Flat) (a : ℕ) (i : Instr) → HasCode code m → instr_at code a ≡ Some i
    → instruction_at m a ≡ Some i
here code m a i has stands =
    let w = coded code a i stands in
    ap decoded (has.words a w.0 w.1) ∙ w.2

pub low : (code : Code) (m : Flat) (a : ℕ) (i : Instr) → HasCode code m → instr_at code a ≡ Some i → a < port
low code m a i has stands =
    let w = coded code a i stands in
    code_below m a w.0 has.laid_out (has.words a w.0 w.1)

pub has_code_stays : (code : Code) (x : Mips) → HasCode code x.memory → HasCode code (step_of x).state.memory
has_code_stays code x has =
    let same = step_keeps x in
    let Laid : List Span → Type 0 = λ spans. LaidOut 0 spans in
    record {
      laid_out = subst Laid (sym same.spans_are) has.laid_out;
      words = λ a word is. code_word-kept x.memory (step_of x).state.memory a has.laid_out same ∙ has.words a word is;
    }

-- a step that goes is made by the instruction that stands there
pub went_here : (x : Mips) (i : Instr) → instruction_at x.memory x.pc ≡ Some i → (step_of x).answer ≡ Went
    → (word : ℕ) × WentBy x word i
went_here x i stands went =
    let w = went_by x went in
    let by = w.2 in
    let there : decoded (Some w.0) ≡ Some i = sym (ap decoded by.found) ∙ stands in
    let given = by.decoded in
    let same : w.1 ≡ i = cc in
    (w.0, subst (λ j. WentBy x w.0 j) same by)

pub same_instr : (code : Code) (u : ℕ) (i j : Instr) → instr_at code u ≡ Some i → instr_at code u ≡ Some j → i ≡ j
same_instr code u i j a b = let e : Some i ≡ Some j = sym a ∙ b in cc

-- sums with small addresses don't wrap
pub plus_four : (a : ℕ) → a < port → word_sum a 4 ≡ a + 4
plus_four a below = mod-eq_of_lt (omega (arith, below))

pub plus_eight : (a : ℕ) → a < port → word_sum a 8 ≡ a + 8
plus_eight a below = mod-eq_of_lt (omega (arith, below))

pub twice_four : (a : ℕ) → a + 4 + 4 ≡ a + 8
twice_four a = omega arith

-- the words of a unit
pub control_there : (code : Code) (u : ℕ) (i : Instr) → instr_at code u ≡ Some i
    → is_control_at code u ≡ is_control_instr i
control_there code u i stands = ap (passes is_control_instr) stands

pub is_first_word : (code : Code) (u : ℕ) → is_word_of code u u ≡ true
is_first_word code u = ap (λ b. b || (is_control_at code u && (u == u + 4))) (same_number u)

or_true : (b : Bool) → (b || true) ≡ true
or_true true = refl
or_true false = refl

pub is_slot_word : (code : Code) (u : ℕ) (i : Instr) → instr_at code u ≡ Some i → is_control_instr i ≡ true
    → is_word_of code u (u + 4) ≡ true
is_slot_word code u i stands control =
    ap (λ b. (u + 4 == u) || (b && (u + 4 == u + 4))) (control_there code u i stands ∙ control) ∙ ap (λ b. (u + 4 == u) || b) (same_number (u + 4)) ∙ or_true (u + 4 == u)

or_cases : (a b : Bool) → (a || b) ≡ true → (a ≡ true) ⊎ (b ≡ true)
or_cases true b is = inl refl
or_cases false b is = inr is

pub words_of_unit : (code : Code) (u at : ℕ) → is_word_of code u at ≡ true
    → (at ≡ u) ⊎ ((is_control_at code u ≡ true) × (at ≡ u + 4))
words_of_unit code u at is = elim (or_cases (at == u) (is_control_at code u && (at == u + 4)) is) [
  | inl e ↦ inl (eqb-true at u e)
  | inr e ↦ let both = and_parts (is_control_at code u) (at == u + 4) e in inr (both.0, eqb-true at (u + 4) both.1)
]

-- a step is no control instruction
pub addiu_plain : (c imm : ℕ) → is_control_instr (Imm Addiu c c imm) ≡ false
unfolding kind_of
addiu_plain c imm = refl

-- a unit is quiet where none of its instructions but control writes the counter
pub plain_quiet : (code : Code) (c u : ℕ) (i : Instr) → c ≢ 0 → instr_at code u ≡ Some i → is_control_instr i ≡ false
    → writes_of i ≢ Some c → IsQuiet code c u
plain_quiet code c u i some stands plain other at j word there steps = elim (words_of_unit code u at word) [
  | inl is ↦
      let same : i ≡ j = same_instr code u i j stands (ap (instr_at code) (sym is) ∙ there) in
      no_step c i some other (subst (λ k. Steps c k) (sym same) steps)
  | inr is ↦ let clash : true ≡ false = sym is.0 ∙ control_there code u i stands ∙ plain in cc
]

pub slot_quiet : (code : Code) (c u : ℕ) (i s : Instr) → c ≢ 0 → instr_at code u ≡ Some i → is_control_instr i ≡ true
    → instr_at code (u + 4) ≡ Some s → writes_of s ≢ Some c → IsQuiet code c u
slot_quiet code c u i s some stands control slot other at j word there steps = elim (words_of_unit code u at word) [
  | inl is ↦
      let same : i ≡ j = same_instr code u i j stands (ap (instr_at code) (sym is) ∙ there) in
      let clash : true ≡ false = sym control ∙ ap is_control_instr (same ∙ steps.is) ∙ addiu_plain c steps.imm in cc
  | inr is ↦
      let same : s ≡ j = same_instr code (u + 4) s j slot (ap (instr_at code) (sym is.1) ∙ there) in
      no_step c s some other (subst (λ k. Steps c k) (sym same) steps)
]

-- what a step executes
instr_pc : (x : Mips) (o : Option Instr) → (ran_instr x o).at ≡ x.pc
instr_pc x None = refl
instr_pc x (Some i) = refl

word_pc : (x : Mips) (o : Option ℕ) → (ran_word x o).at ≡ x.pc
word_pc x None = refl
word_pc x (Some word) = instr_pc x (decode_of word)

pub ran_pc : (x : Mips) → (ran_at x).at ≡ x.pc
unfolding ran_at
ran_pc x = word_pc x (code_word_at x.memory x.pc)

word_taken : (x : Mips) (o : Option ℕ) (i : Instr) → decoded o ≡ Some i → (ran_word x o).taken ≡ (acted i x).taken
word_taken x None i stands = cc
word_taken x (Some word) i stands = ap (λ o. (ran_instr x o).taken) stands

pub ran_taken : (x : Mips) (i : Instr) → instruction_at x.memory x.pc ≡ Some i
    → (ran_at x).taken ≡ (retired_of i x).taken
unfolding ran_at retired_of parts_of
ran_taken x i stands = word_taken x (code_word_at x.memory x.pc) i stands

-- no branch stands before an edge
pub no_branch : (code : Code) (e : Edge) (i : Instr) (rs : List Ran) → instr_at code e.from ≡ Some i
    → kind_of i ≢ kind.Branch → WentAlong code e rs
no_branch code e i [] stands other = tt
no_branch code e i (s ∷ []) stands other = tt
no_branch code e i (s ∷ c ∷ older) stands other = λ at j there is. absurd (other (ap kind_of (same_instr code e.from i j stands there) ∙ is))

-- what was executed, over one more instruction
pub gone_plain : (p : Program) (u : ℕ) (e : Edge) (es : List Edge) (x : Mips) (rs : List Ran)
    → HasGone p First u es rs → p.graph.is_long u ≡ false → x.pc ≡ u → EnteredBy p.code (newest_edge es) rs
    → HasGone p First e.to (e ∷ es) (ran_at x ∷ rs)
gone_plain p u e es x rs ran short pc entered =
    let here : Place = record { at = u; by = newest_edge es } in
    let is : places p.graph None p.entry es ≡ here ∷ ran.gone = ran.places_are ∙ ap (λ (b : Bool). unit_places b u (newest_edge es) ++ ran.gone) short in
    record {
      gone = here ∷ ran.gone;
      places_are = ap (λ q. unit_places (p.graph.is_long e.to) e.to (Some e) ++ q) is;
      goes = (ran_pc x ∙ pc, entered, ran.goes);
    }

pub gone_slot : (p : Program) (u : ℕ) (e : Edge) (es : List Edge) (x : Mips) (rs : List Ran)
    → HasGone p InSlot u es rs → x.pc ≡ u + 4 → HasGone p First e.to (e ∷ es) (ran_at x ∷ rs)
gone_slot p u e es x rs ran pc =
    let here : Place = record { at = u + 4; by = None } in
    record {
      gone = here ∷ ran.gone;
      places_are = ap (λ q. unit_places (p.graph.is_long e.to) e.to (Some e) ++ q) ran.places_are;
      goes = (ran_pc x ∙ pc, tt, ran.goes);
    }

pub gone_last : (p : Program) (u : ℕ) (es : List Edge) (x : Mips) (rs : List Ran) → HasGone p InSlot u es rs
    → x.pc ≡ u + 4 → HasGone p Done u es (ran_at x ∷ rs)
gone_last p u es x rs ran pc =
    let here : Place = record { at = u + 4; by = None } in
    record { gone = here ∷ ran.gone; places_are = ran.places_are; goes = (ran_pc x ∙ pc, tt, ran.goes) }

pub gone_control : (p : Program) (u : ℕ) (es : List Edge) (x : Mips) (rs : List Ran) → HasGone p First u es rs
    → p.graph.is_long u ≡ true → x.pc ≡ u → EnteredBy p.code (newest_edge es) rs
    → HasGone p InSlot u es (ran_at x ∷ rs)
gone_control p u es x rs ran long pc entered =
    let here : Place = record { at = u; by = newest_edge es } in
    record {
      gone = here ∷ ran.gone;
      places_are = ran.places_are ∙ ap (λ (b : Bool). unit_places b u (newest_edge es) ++ ran.gone) long;
      goes = (ran_pc x ∙ pc, entered, ran.goes);
    }
