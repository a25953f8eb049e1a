-- A task that is admitted: a sub-task that does nothing, and one that returns. Its code.
use Rattle.std.proofs.Common.{◌≡◌, ◌∙◌, refl, ap, ℕ, ◌+◌, Bool, true, false, [], ◌∷◌, lit<}
use Rattle.std.specs.Prelude.{◌&&◌, ◌||◌, not, if◌then◌else◌, is_none, Option, Some}
use Rattle.std.specs.List.{list_any}
use Rattle.visa_io.specs.ImageCode.{code_of_image}
use Rattle.visa_io.specs.declared.records.Code.{Code}
use Rattle.visa_io.specs.declared.records.Image.{Image}
use Rattle.visa_io.specs.declared.records.Span.{Span}
use Rattle.mips_isa.specs.Encoding.{encode_of}
use Rattle.mips_isa.specs.Fits.{FieldsFit}
use Rattle.mips_isa.specs.Kinds.{kind_of}
use Rattle.mips_isa.specs.declared.instr.Instr.{Instr}
use Rattle.mips_isa.specs.declared.instr.Instr.TheVariants.{Jr, Shift}
use Rattle.mips_isa.specs.declared.instr.ShiftOp.TheVariants.{Sll}
use Rattle.mips_isa.proofs.Relation.{decode_of-encode_of}
use Rattle.flow_graph.specs.Code.{instr_at, is_code, is_control_instr, passes, word_from}
use Rattle.flow_graph.specs.Edges.{edge_of, edges_by}
use Rattle.flow_graph.specs.Faults.{edges_if, is_faulty, is_indirect, is_link_branch, leads_from, own_edges}
use Rattle.flow_graph.specs.declared.parts.EdgeKind.TheVariants.{Next}

abbrev pub nop : Instr
nop = Shift Sll 0 0 0

abbrev pub back : Instr
back = Jr 31

abbrev pub span : Span
span = record { start = 0; len = 12; r = true; w = false; x = true }

abbrev pub code : Code
code = record { spans = span ∷ []; words = encode_of nop ∷ encode_of back ∷ encode_of nop ∷ [] }

-- the image that it is the code of
abbrev pub image : Image
image = record {
  big = true;
  entry = 0;
  spans = span ∷ [];
  bytes = 0 ∷ 0 ∷ 0 ∷ 0 ∷ 3 ∷ 224 ∷ 0 ∷ 8 ∷ 0 ∷ 0 ∷ 0 ∷ 0 ∷ [];
  symbols = [];
}

pub code_is : code_of_image image ≡ code
unfolding code_of_image encode_of
code_is = refl

-- what stands there
back_fits : FieldsFit back
back_fits = lit< tt

nop_fits : FieldsFit nop
nop_fits = (lit< tt, lit< tt, lit< tt)

pub at_0 : instr_at code 0 ≡ Some nop
unfolding instr_at word_from
at_0 = decode_of-encode_of nop nop_fits

pub at_4 : instr_at code 4 ≡ Some back
unfolding instr_at word_from
at_4 = decode_of-encode_of back back_fits

pub at_8 : instr_at code 8 ≡ Some nop
unfolding instr_at word_from
at_8 = decode_of-encode_of nop nop_fits

-- a unit's faults, by its instructions
abbrev faulty_by : ℕ → Option Instr → Option Instr → Bool
faulty_by u o s =
    ((is_code code u && is_none o) || (passes is_control_instr o && (is_code code (u + 4) && is_none s)))
    || passes is_indirect o || passes is_link_branch o || (passes is_control_instr o && passes is_control_instr s)
    || ((passes is_control_instr o && not (is_code code (u + 4))) || list_any (λ e. not (is_code code e.to))
    (edges_if o u))

faults_are : (u : ℕ) (i s : Instr) → instr_at code u ≡ Some i → instr_at code (u + 4) ≡ Some s
    → is_faulty code u ≡ faulty_by u (Some i) (Some s)
faults_are u i s first second =
    ap (λ o. faulty_by u o (instr_at code (u + 4))) first ∙ ap (λ o. faulty_by u (Some i) o) second

leads_are : (u : ℕ) (i : Instr) → is_faulty code u ≡ false → instr_at code u ≡ Some i
    → leads_from code u ≡ edges_by i u
unfolding leads_from
leads_are u i none stands =
    ap (λ (b : Bool). if b then [] else own_edges code u) none ∙ ap (λ o. edges_if o u) stands

pub sound_0 : is_faulty code 0 ≡ false
unfolding word_from kind_of edges_by
sound_0 = faults_are 0 nop back at_0 at_4

pub sound_4 : is_faulty code 4 ≡ false
unfolding word_from kind_of edges_by
sound_4 = faults_are 4 back nop at_4 at_8

pub leads_0 : leads_from code 0 ≡ edge_of 0 4 Next ∷ []
unfolding kind_of edges_by
leads_0 = leads_are 0 nop sound_0 at_0

pub leads_4 : leads_from code 4 ≡ []
unfolding kind_of edges_by
leads_4 = leads_are 4 back sound_4 at_4
