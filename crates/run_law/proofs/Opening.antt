-- A job opens at the entry, with registers that fit the facts there and the code in its memory, whatever ran before
-- it.
use Rattle.std.proofs.Common.{◌≡◌, ◌∙◌, refl, sym, subst, ℕ, suc, ◌+◌, ◌≤◌, true, List, [], ◌∷◌, length, arith}
use Rattle.std.specs.Prelude.{◌-◌, replicate, slice_index}
use Rattle.std.proofs.lemmas.List.{length-append, length-replicate}
use Rattle.visa_io.specs.declared.records.Code.{Code}
use Rattle.visa_io.specs.declared.records.Span.{Span}
use Rattle.mips_isa.specs.Words.{signed, word_sum}
use Rattle.mips_ref.specs.Job.{after, opening, opening_registers}
use Rattle.mips_ref.specs.Memory.{AllStorable, Flat, LaidOut, input_buffer, put_byte, put_bytes, storable_at}
use Rattle.mips_ref.specs.Mips.{Mips, exit_address}
use Rattle.mips_ref.specs.SameCode.{SameCode}
use Rattle.mips_ref.proofs.CodeKept.{code_word-kept}
use Rattle.mips_ref.proofs.CodeOpened.{buffer_len, put_keeps_code}
use Rattle.mips_ref.proofs.Frame.{run_keeps}
use Rattle.range_facts.specs.Along.{begun}
use Rattle.range_facts.specs.Transfer.{opening_of}
use Rattle.range_facts.proofs.Opening.{opening_fits}
use Rattle.run_law.specs.Advance.{AreRegisters}
use Rattle.run_law.specs.Certificate.{Blocked, Blocks, Certificate, OpensIn}
use Rattle.run_law.specs.Fits.{Fits}
use Rattle.run_law.specs.Program.{Flowing, Program}
use Rattle.run_law.specs.Runs.{HasCode, IsInput, Opens}
use Rattle.run_law.proofs.Certifying.{begins, starts_at}
use Rattle.run_law.proofs.Coded.{low, plus_four}

-- code stays in a memory with the same code
pub has_code_same : (code : Code) (m n : Flat) → SameCode m n → HasCode code m → HasCode code n
has_code_same code m n same has =
    let Laid : List Span → Type 0 = λ spans. LaidOut 0 spans in
    record {
      laid_out = subst Laid (sym same.spans_are) has.laid_out;
      words = λ a word is. code_word-kept m n a has.laid_out same ∙ has.words a word is;
    }

-- a job leaves the code to the jobs behind it
pub has_code_after : (code : Code) (n : ℕ) (x : Mips) → HasCode code x.memory → HasCode code (after n x).memory
has_code_after code n x has = has_code_same code x.memory (after n x).memory (run_keeps n x) has

-- the parts of the opening state
record OpensAt (entry input_at input_len stack : ℕ) (input : List ℕ) (m : Flat) (x : Mips) : Type 0 where
  pc : x.pc ≡ entry
  next_pc : x.next_pc ≡ word_sum entry 4
  returns : x.returns ≡ exit_address ∷ []
  registers : x.registers ≡ opening_registers input_at (length input) stack
  memory : x.memory ≡ put_bytes m input_at (input_buffer input_len input)

opening_is : (entry stack input_at input_len : ℕ) (input : List ℕ) (m : Flat) (out : ℕ)
    → OpensAt entry input_at input_len stack input m (opening entry stack input_at input_len input m out)
unfolding opening
opening_is entry stack input_at input_len input m out = record { pc = refl; next_pc = refl; returns = refl; registers = refl; memory = refl }

first_zero : (input_at n stack : ℕ) → slice_index (opening_registers input_at n stack) 0 ≡ 0
unfolding opening_registers
first_zero input_at n stack = refl

pub opens_of : (p : Program) (b : Blocks) (stack input_at input_len : ℕ) (input : List ℕ) (m : Flat) (out : ℕ)
    → Flowing p → Blocked p b → Certificate p b → OpensIn (opening_of input_at input_len stack) b p.entry
    → HasCode p.code m → IsInput m input_at input_len stack input
    → Opens p (opening p.entry stack input_at input_len input m out)
opens_of p b stack input_at input_len input m out flowing blocked certified inside has given =
    let x : Mips = opening p.entry stack input_at input_len input m out in
    let parts = opening_is p.entry stack input_at input_len input m out in
    let fit = opening_fits input_at input_len stack (length input) given.at_word given.stack_word given.small given.fits in
    let registers : List ℕ = opening_registers input_at (length input) stack in
    let stores = subst (λ len. AllStorable m input_at len) (sym (buffer_len input_len input given.fits)) given.stores in
    let same = put_keeps_code m input_at (input_buffer input_len input) stores in
    let code = has_code_same p.code m (put_bytes m input_at (input_buffer input_len input)) same has in
    let good = flowing.good p.entry flowing.entry.1 in
    let fits : Fits (begun (b.facts p.entry)) registers = begins (b.facts p.entry) registers (certified.facts p.entry flowing.entry.1 blocked.entry) fit.long fit.words (λ r small. inside r small (signed (slice_index registers r)) (fit.holds r)) in
    record {
      pc = parts.pc;
      next_pc = parts.next_pc ∙ plus_four p.entry (low p.code m p.entry good.instr has good.stands);
      returns_are = parts.returns;
      registers = subst (λ q. AreRegisters q) (sym parts.registers) (record { length_is = fit.long; zero = first_zero input_at (length input) stack; words = λ r small. fit.words r });
      has_code = subst (λ n. HasCode p.code n) (sym parts.memory) code;
      fit = subst (λ q. Fits (p.before p.entry) q) (sym parts.registers) (subst (λ a. Fits a registers) (sym (starts_at p b p.entry blocked certified flowing.entry.1 blocked.entry)) fits);
    }
