-- What was decoded stays so.
use Rattle.std.proofs.Common.{◌≡◌, ℕ, ◌+◌, ◌<◌, ◌≤◌, List, Option, Some, None, refl, sym, ap, subst, ◌∙◌, arith}
use Rattle.std.specs.Prelude.{slice_index_or}
use Rattle.mips_isa.proofs.Relation.{decode_of_fits}
use Rattle.mips_isa.specs.Fits.{FieldsFit}
use Rattle.mips_isa.specs.declared.instr.Instr.{Instr}
use Rattle.mips_ref.proofs.CodeKept.{code_word-kept}
use Rattle.mips_ref.proofs.Frame.{memory_keeps}
use Rattle.mips_ref.proofs.Traced.{step_found}
use Rattle.mips_ref.specs.Decoded.{AreDecoded, HasLine, IsInstrAt}
use Rattle.mips_ref.specs.Facts.{Retires}
use Rattle.mips_ref.specs.Memory.{Flat, IsMemory, port}
use Rattle.mips_ref.specs.Mips.{Mips}
use Rattle.mips_ref.specs.SameCode.{SameCode}
use Rattle.mips_ref.specs.Step.{acted, changed, executed, memory_after, parts_of, retired_of, step_of, store_at, trap_in, trap_of}
use Rattle.mips_ref.specs.declared.decoded.Decoded.{Decoded}
use Rattle.mips_ref.specs.declared.records.Act.{Act}
use Rattle.mips_ref.specs.declared.records.Retired.{Retired}

instr_stays : (m n : Flat) (at : ℕ) (i : Instr) → IsMemory m → SameCode m n → IsInstrAt m at i → IsInstrAt n at i
instr_stays m n at i kept same is =
    record { word = is.word; found = code_word-kept m n at kept.laid_out same ∙ is.found; decoded = is.decoded; below_port = is.below_port }

-- lines that are true of a memory are true of one with the same code
pub lines_stay : (m n : Flat) (lines : List (Option Decoded)) → IsMemory m → SameCode m n → AreDecoded m lines → AreDecoded n lines
lines_stay m n lines kept same are = λ k line there. instr_stays m n line.at line.instr kept same (are k line there)

-- what a line has for an address stands there
pub line_is : (m : Flat) (lines : List (Option Decoded)) (at : ℕ) (i : Instr) → AreDecoded m lines → HasLine lines at i → IsInstrAt m at i
line_is m lines at i are has = are has.0 _ has.1

pub instr_fits : (m : Flat) (at : ℕ) (i : Instr) → IsInstrAt m at i → FieldsFit i
instr_fits m at i is = decode_of_fits is.word i is.decoded

-- a step of the instruction at the pc
pub step_at : (x : Mips) (i : Instr) → IsInstrAt x.memory x.pc i → step_of x ≡ executed i x
step_at x i is = step_found x is.word i (omega (arith, is.below_port)) is.found is.decoded

changed_memory : (i : Instr) (r : Retired) (x : Mips) → (changed i r x).memory ≡ memory_after (store_at i r.at) r.mask r.word x.memory
unfolding changed
changed_memory i r x = refl

parts_again : (i : Instr) (x : Mips) → trap_of i x ≡ None → SameCode x.memory (changed i (retired_of i x) x).memory
parts_again i x none = subst (λ m. SameCode x.memory m) (sym (changed_memory i (retired_of i x) x)) (memory_keeps i x none)

-- the parts of an instruction without a trap leave code as it is
pub parts_keep : (i : Instr) (a : Act) (r : Retired) (x : Mips) → a ≡ acted i x → trap_in i a x ≡ None → r ≡ parts_of i a x
    → SameCode x.memory (changed i r x).memory
unfolding trap_of retired_of
parts_keep i a r x acts none parts =
    let same : r ≡ retired_of i x = parts ∙ ap (λ b. parts_of i b x) acts in
    subst (λ s. SameCode x.memory (changed i s x).memory) (sym same) (parts_again i x (ap (λ b. trap_in i b x) (sym acts) ∙ none))

pub retired_keep : (i : Instr) (r : Retired) (x : Mips) → Retires x i r → SameCode x.memory (changed i r x).memory
retired_keep i r x w = subst (λ s. SameCode x.memory (changed i s x).memory) (sym w.parts) (parts_again i x w.no_trap)

-- the lines after a change of memory that leaves code as it is
pub lines_after : (i : Instr) (r : Retired) (x : Mips) (m n : Flat) (at : Option ℕ) (lines : List (Option Decoded)) → IsMemory m → m ≡ x.memory
    → at ≡ store_at i r.at → n ≡ memory_after at r.mask r.word m → SameCode x.memory (changed i r x).memory → AreDecoded m lines → AreDecoded n lines
lines_after i r x m n at lines kept is at_is after same are =
    let new : (changed i r x).memory ≡ n =
    changed_memory i r x ∙ ap (λ o. memory_after o r.mask r.word x.memory) (sym at_is) ∙ ap (memory_after at r.mask r.word) (sym is) ∙ sym after in
    let stays : SameCode m n = subst (λ o. SameCode m o) new (subst (λ o. SameCode o (changed i r x).memory) (sym is) same) in
    lines_stay m n lines kept stays are
