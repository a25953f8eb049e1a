-- The run of one job by the reference. This project's own; register numbers by the System V ABI, MIPS supplement (a0, a1, sp, ra).
use Rattle.std.specs.Prelude.{ℕ, zero, suc, ◌<◌, ◌≡◌, ◌≢◌, List, [], ◌∷◌, length, replicate, slice_set}
use Rattle.mips_isa.specs.Words.{word_sum}
use Rattle.mips_ref.specs.Memory.{Flat, input_buffer, put_bytes}
use Rattle.mips_ref.specs.Mips.{Mips, exit_address}
use Rattle.mips_ref.specs.Step.{step_of}
use Rattle.mips_ref.specs.declared.records.Step.TheVariants.{Went}

-- the state after so many steps
unfoldable pub after : ℕ → Mips → Mips
after zero x = x
after (suc n) x = (step_of (after n x)).state

-- a run makes n steps, and then ends
pub record EndsAfter (x : Mips) (n : ℕ) : Type 0 where
  pub went : (k : ℕ) → k < n → (step_of (after k x)).answer ≡ Went
  pub ended : (step_of (after n x)).answer ≢ Went

-- the registers of a job as it opens: the address of the input, its length, the stack, the exit address; the others are zero
unfoldable pub opening_registers : ℕ → ℕ → ℕ → List ℕ
opening_registers input_at input_len stack =
    slice_set (slice_set (slice_set (slice_set (replicate 32 0) 4 input_at) 5 input_len) 29 stack) 31 exit_address

-- the opening state of a job: its entry, stack word, input buffer (address and length in bytes) and input, on this memory
unfoldable pub opening : ℕ → ℕ → ℕ → ℕ → List ℕ → Flat → ℕ → Mips
opening entry stack input_at input_len input memory output_max =
    record {
      registers = opening_registers input_at (length input) stack;
      hi = 0;
      lo = 0;
      pc = entry;
      next_pc = word_sum entry 4;
      memory = put_bytes memory input_at (input_buffer input_len input);
      returns = exit_address ∷ [];
      output = [];
      output_max = output_max;
    }
