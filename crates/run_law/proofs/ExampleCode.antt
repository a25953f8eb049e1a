-- A task that passes: a loop of five visits around a call, with a slot behind each control instruction. Its code and
-- its graph.
use Rattle.std.proofs.Common.{◌≡◌, ◌∙◌, ap, ℕ, ◌+◌, Bool, true, false, [], ◌∷◌, lit<}
use Rattle.std.specs.Prelude.{◌&&◌, ◌||◌, not, if◌then◌else◌, is_none, Option, Some}
use Rattle.std.specs.List.{list_any}
use Rattle.std.specs.Option.{option_and_then}
use Rattle.visa_io.specs.declared.records.Code.{Code}
use Rattle.mips_isa.specs.Encoding.{encode_of}
use Rattle.mips_isa.specs.Fits.{FieldsFit}
use Rattle.mips_isa.specs.Kinds.{kind_of}
use Rattle.mips_isa.specs.declared.instr.Instr.{Instr}
use Rattle.mips_isa.specs.declared.instr.Instr.TheVariants.{Branch2, Imm, Jr, Jump, Shift}
use Rattle.mips_isa.specs.declared.instr.Branch2Op.TheVariants.{Bne}
use Rattle.mips_isa.specs.declared.instr.ImmOp.TheVariants.{Addiu}
use Rattle.mips_isa.specs.declared.instr.JumpOp.TheVariants.{Jal}
use Rattle.mips_isa.specs.declared.instr.ShiftOp.TheVariants.{Sll}
use Rattle.mips_isa.proofs.Relation.{decode_of-encode_of}
use Rattle.mips_isa.specs.Prediction.{single_edge_of}
use Rattle.flow_graph.specs.Code.{instr_at, is_code, is_control_instr, passes, word_from}
use Rattle.flow_graph.specs.Edges.{edge_of, edges_by, target_of}
use Rattle.flow_graph.specs.Faults.{edges_if, is_faulty, is_indirect, is_link_branch, leads_from, own_edges}
use Rattle.flow_graph.specs.declared.parts.EdgeKind.TheVariants.{Next, Taken, Call, Over}

abbrev pub more : Instr
more = Imm Addiu 2 2 1

abbrev pub call : Instr
call = Jump Jal 7

abbrev pub again : Instr
again = Branch2 Bne 2 3 65532

abbrev pub back : Instr
back = Jr 31

abbrev pub nop : Instr
nop = Shift Sll 0 0 0

abbrev pub code : Code
code = record {
  spans = record { start = 0; len = 36; r = true; w = false; x = true } ∷ [];
  words = encode_of more ∷ encode_of call ∷ encode_of nop ∷ encode_of again ∷ encode_of nop ∷ encode_of back ∷ encode_of nop ∷ encode_of back ∷ encode_of nop ∷ [];
}

-- what stands there
more_fits : FieldsFit more
more_fits = (lit< tt, lit< tt, lit< tt)

call_fits : FieldsFit call
call_fits = lit< tt

again_fits : FieldsFit again
again_fits = (lit< tt, lit< tt, lit< tt)

back_fits : FieldsFit back
back_fits = lit< tt

nop_fits : FieldsFit nop
nop_fits = (lit< tt, lit< tt, lit< tt)

pub at_0 : instr_at code 0 ≡ Some more
unfolding instr_at word_from
at_0 = decode_of-encode_of more more_fits

pub at_4 : instr_at code 4 ≡ Some call
unfolding instr_at word_from
at_4 = decode_of-encode_of call call_fits

pub at_8 : instr_at code 8 ≡ Some nop
unfolding instr_at word_from
at_8 = decode_of-encode_of nop nop_fits

pub at_12 : instr_at code 12 ≡ Some again
unfolding instr_at word_from
at_12 = decode_of-encode_of again again_fits

pub at_16 : instr_at code 16 ≡ Some nop
unfolding instr_at word_from
at_16 = decode_of-encode_of nop nop_fits

pub at_20 : instr_at code 20 ≡ Some back
unfolding instr_at word_from
at_20 = decode_of-encode_of back back_fits

pub at_24 : instr_at code 24 ≡ Some nop
unfolding instr_at word_from
at_24 = decode_of-encode_of nop nop_fits

pub at_28 : instr_at code 28 ≡ Some back
unfolding instr_at word_from
at_28 = decode_of-encode_of back back_fits

pub at_32 : instr_at code 32 ≡ Some nop
unfolding instr_at word_from
at_32 = decode_of-encode_of nop nop_fits

-- a unit's faults, by its instructions
abbrev faulty_by : ℕ → Option Instr → Option Instr → Bool
faulty_by u o s =
    ((is_code code u && is_none o) || (passes is_control_instr o && (is_code code (u + 4) && is_none s))) || passes is_indirect o || passes is_link_branch o
    || (passes is_control_instr o && passes is_control_instr s) || ((passes is_control_instr o && not (is_code code (u + 4))) || list_any (λ e. not (is_code code e.to)) (edges_if o u))

faults_are : (u : ℕ) (i s : Instr) → instr_at code u ≡ Some i → instr_at code (u + 4) ≡ Some s
    → is_faulty code u ≡ faulty_by u (Some i) (Some s)
faults_are u i s first second = ap (λ o. faulty_by u o (instr_at code (u + 4))) first ∙ ap (λ o. faulty_by u (Some i) o) second

leads_are : (u : ℕ) (i : Instr) → is_faulty code u ≡ false → instr_at code u ≡ Some i
    → leads_from code u ≡ edges_by i u
unfolding leads_from
leads_are u i none stands = ap (λ (b : Bool). if b then [] else own_edges code u) none ∙ ap (λ o. edges_if o u) stands

pub sound_0 : is_faulty code 0 ≡ false
unfolding word_from kind_of edges_by
sound_0 = faults_are 0 more call at_0 at_4

pub sound_4 : is_faulty code 4 ≡ false
unfolding word_from kind_of edges_by target_of
sound_4 = faults_are 4 call nop at_4 at_8

pub sound_12 : is_faulty code 12 ≡ false
unfolding word_from kind_of edges_by target_of single_edge_of
sound_12 = faults_are 12 again nop at_12 at_16

pub sound_20 : is_faulty code 20 ≡ false
unfolding word_from kind_of edges_by
sound_20 = faults_are 20 back nop at_20 at_24

pub sound_28 : is_faulty code 28 ≡ false
unfolding word_from kind_of edges_by
sound_28 = faults_are 28 back nop at_28 at_32

pub leads_0 : leads_from code 0 ≡ edge_of 0 4 Next ∷ []
unfolding kind_of edges_by
leads_0 = leads_are 0 more sound_0 at_0

pub leads_4 : leads_from code 4 ≡ edge_of 4 28 Call ∷ edge_of 4 12 Over ∷ []
unfolding kind_of edges_by target_of
leads_4 = leads_are 4 call sound_4 at_4

pub leads_12 : leads_from code 12 ≡ edge_of 12 20 Next ∷ edge_of 12 0 Taken ∷ []
unfolding kind_of edges_by target_of single_edge_of
leads_12 = leads_are 12 again sound_12 at_12

pub leads_20 : leads_from code 20 ≡ []
unfolding kind_of edges_by
leads_20 = leads_are 20 back sound_20 at_20

pub leads_28 : leads_from code 28 ≡ []
unfolding kind_of edges_by
leads_28 = leads_are 28 back sound_28 at_28

pub target_4 : option_and_then (λ i. target_of i 4) (instr_at code 4) ≡ Some 28
unfolding target_of
target_4 = ap (option_and_then (λ i. target_of i 4)) at_4
