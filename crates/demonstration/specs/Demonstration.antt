-- The demonstration: a task that sums words up to the first zero, and 200 jobs for each seed. This project's own.
use Rattle.std.specs.Prelude.{ℕ, zero, suc, Bool, true, cond, nat_eq, ◌+◌, ◌*◌, ◌/◌, ◌%◌, ◌^◌, pos, List, [], ◌∷◌, ◌++◌, Some}
use Rattle.visa_io.specs.declared.records.FactLine.{FactLine}
use Rattle.visa_io.specs.declared.records.Machine.{Machine}
use Rattle.visa_io.specs.declared.records.Region.{Region}
use Rattle.task_text.specs.declared.jobs.Jobs.{Jobs}
use Rattle.task_text.specs.declared.task.Source.TheVariants.{Words}
use Rattle.task_text.specs.declared.task.Task.{Task}
use Rattle.task_text.specs.JobsTexts.{job, no_jobs, add}
use Rattle.task_text.specs.Texts.{code_span, ram_span}
use Rattle.task_text.specs.WordsImage.{words_bytes}

-- one instruction in a cycle, a window of 32; 4 cycles for a multiplication and 16 for a division; 10 ns for an access and for a store,
-- 100 ns for a switch; eight lines of 32 bytes for code and eight of 16 bytes for data, each in its own set
abbrev pub demo_machine : Machine
demo_machine = record {
  width = 1;
  rob = 32;
  mul = 4;
  div = 16;
  mem_ps = 10000;
  store_ps = 10000;
  settle_ps = 100000;
  start_ps = 0;
  icache = Some (record { sets = 8; ways = 1; line = 32 });
  dcache = Some (record { sets = 8; ways = 1; line = 16 });
}

-- the sum, from the address in $4 on, of the words before the first zero or the end of the buffer:
--     00400000  addiu $9,$4,256      where the buffer ends
--     00400004  lw $8,0($4)          a word
--     00400008  beq $8,$0,00400018   zero is the end
--     0040000c  addiu $4,$4,4        in both cases
--     00400010  bne $4,$9,00400004   so is the end of the buffer
--     00400014  addu $2,$2,$8        in both cases
--     00400018  lui $3,65535         the output port
--     0040001c  sw $2,0($3)
--     00400020  jr $31               the exit
--     00400024  sll $0,$0,0
abbrev pub demo_words : List ℕ
demo_words =
    0x24890100 ∷ 0x8c880000 ∷ 0x11000003 ∷ 0x24840004 ∷ 0x1489fffc ∷ 0x00481021 ∷ 0x3c03ffff ∷ 0xac620000 ∷ 0x03e00008 ∷ 0x00000000 ∷ []

-- the loop from the load to the sum, at most 64 times; $4 counts
abbrev pub demo_region : Region
demo_region = record { first = 0x00400004; last = 0x00400014; header = 0x00400004; count = 64; counter = 4 }

-- what $4 and $9 hold where the blocks begin: $4 the buffer's address at first, then that of a word of it, then of the next word; $9 the
-- buffer's end
abbrev pub demo_facts : List FactLine
demo_facts =
    record { at = 0x00400000; register = 4; lo = pos 268435456; hi = pos 268435456; stride = 1 }
    ∷ record { at = 0x00400004; register = 4; lo = pos 268435456; hi = pos 268435708; stride = 4 }
    ∷ record { at = 0x00400004; register = 9; lo = pos 268435712; hi = pos 268435712; stride = 1 }
    ∷ record { at = 0x00400010; register = 4; lo = pos 268435460; hi = pos 268435712; stride = 4 }
    ∷ record { at = 0x00400010; register = 9; lo = pos 268435712; hi = pos 268435712; stride = 1 }
    ∷ []

-- its points are 4 ns and 1 ns, its period 2 us, its deadline 1.9 us; its input buffer has 64 words at the beginning of its memory
unfoldable pub demo_task : Task
demo_task = record {
  machine = demo_machine;
  big = true;
  points = 4000 ∷ 1000 ∷ [];
  period_ps = 2000000;
  deadline_ps = 1900000;
  image = Words (record { spans = code_span 0x00400000 10 ∷ []; words = demo_words });
  entry = Some 0x00400000;
  stack = 0x7fff0000;
  ram = ram_span 0x10000000 4096 ∷ [];
  input_at = 0x10000000;
  input_len = 256;
  out_max = 16;
  show = [];
  cuts = [];
  regions = demo_region ∷ [];
  facts = demo_facts;
}

-- a draw: the number that follows a number, and the one that so many draws leave
abbrev pub draw : ℕ → ℕ
draw x = (1664525 * x + 1013904223) % 2 ^ 32

abbrev pub drawn : ℕ → ℕ → ℕ
drawn zero x = x
drawn (suc n) x = draw (drawn n x)

-- the word of a drawn number: never zero
abbrev pub word_of : ℕ → ℕ
word_of x = x / 256 + 1

-- the words of so many draws
abbrev pub words : ℕ → ℕ → List ℕ
words zero x = []
words (suc n) x = words n x ++ word_of (drawn (suc n) x) ∷ []

-- Jobs are counted from 1. Every tenth job fills the buffer; of another one draw says how many words it has, 1 to 8.
abbrev pub is_full : ℕ → Bool
is_full k = nat_eq (k % 10) 0

abbrev pub word_count : ℕ → ℕ → ℕ
word_count k x = cond (is_full k) 64 (draw x / 2 ^ 24 % 8 + 1)

-- the number that its words are drawn from, and the one that they leave
abbrev pub words_start : ℕ → ℕ → ℕ
words_start k x = cond (is_full k) x (draw x)

abbrev pub words_end : ℕ → ℕ → ℕ
words_end k x = drawn (word_count k x) (words_start k x)

-- its input where the generator stands at a number: its words, big-endian
unfoldable pub input_from : ℕ → ℕ → List ℕ
input_from k x = words_bytes true (words (word_count k x) (words_start k x))

-- the number after the first k jobs
abbrev pub number_after : ℕ → ℕ → ℕ
number_after seed zero = seed
number_after seed (suc k) = words_end (suc k) (number_after seed k)

-- the input of the job behind k others
unfoldable pub demo_input : ℕ → ℕ → List ℕ
demo_input seed k = input_from (suc k) (number_after seed k)

-- the first k jobs: no past lines, and the inputs one after the other
abbrev pub first_jobs : ℕ → ℕ → Jobs
first_jobs seed zero = no_jobs
first_jobs seed (suc k) = add (job (demo_input seed k)) (first_jobs seed k)

-- the jobs of the demonstration with a seed
unfoldable pub demo_jobs : ℕ → Jobs
demo_jobs seed = first_jobs seed 200
