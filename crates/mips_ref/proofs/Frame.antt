-- What a step leaves as it was.
use Rattle.std.proofs.Common.{◌≡◌, inl, inr, ℕ, zero, suc, Bool, true, false, cond, eqb, Some, None, refl, ap}
use Rattle.std.specs.Prelude.{◌||◌}
use Rattle.mips_isa.specs.declared.instr.Instr.{Instr}
use Rattle.mips_isa.specs.declared.instr.Instr.TheVariants.{R3, Shift, Acc, HiLo, Count, Imm, Lui, Load, Store, Pref, Branch2, Branch1, Jump, Jr, Jalr, TrapIf, Stop, Sync}
use Rattle.mips_isa.specs.declared.instr.StoreOp.{StoreOp}
use Rattle.mips_isa.specs.declared.instr.StoreOp.TheVariants.{Sb, Sh, Swl, Sw, Swr}
use Rattle.mips_ref.proofs.CodeKept.{and_right, code_word-kept, lanes_keep, same_code, same_code_again}
use Rattle.mips_ref.proofs.Steps.{outcome, step-went}
use Rattle.mips_ref.specs.Access.{in_word, is_output, refuses_of, store_aligned, store_allowed, store_mask, stored_of, word_start}
use Rattle.mips_ref.specs.Act.{act_of, address}
use Rattle.mips_ref.specs.Job.{after}
use Rattle.mips_ref.specs.Memory.{Flat, LaidOut, code_word_at, port, put_lanes}
use Rattle.mips_ref.specs.Mips.{Mips}
use Rattle.mips_ref.specs.SameCode.{SameCode}
use Rattle.mips_ref.specs.Step.{Stepped, changed, memory_after, parts_of, retired_of, step_of, store_at, trap_of, values_of}
use Rattle.mips_ref.specs.declared.records.TrapKind.{TrapKind}
use Rattle.mips_ref.specs.declared.records.TrapKind.TheVariants.{AddressStore}

output_at_port : (m : StoreOp) (at : ℕ) → is_output m at ≡ true → eqb at port ≡ true
output_at_port Sb at e = cc
output_at_port Sh at e = cc
output_at_port Swl at e = cc
output_at_port Sw at e = e
output_at_port Swr at e = cc

or_second : (a b : Bool) → (a || b) ≡ true → a ≡ false → b ≡ true
or_second true b e f = cc
or_second false b e f = e

is_false : (a : Bool) → (a ≡ true → ⊥) → a ≡ false
is_false true h = absurd (h refl)
is_false false h = refl

not_refused : (b : Bool) (k : TrapKind) → cond b None (Some k) ≡ None → b ≡ true
not_refused true k e = refl
not_refused false k e = cc

-- a store that isn't refused goes to the port, or to bytes that can be stored to
store_keeps : (x : Flat) (m : StoreOp) (at word : ℕ) → store_allowed m x at ≡ true → (b : Bool) → eqb at port ≡ b
    → SameCode x (cond b x (put_lanes x (word_start at) (store_mask m (in_word at) x.big) word))
unfolding store_allowed
store_keeps x m at word may true e = same_code x
store_keeps x m at word may false e =
    let elsewhere : is_output m at ≡ false = is_false (is_output m at) (λ o. cc (output_at_port m at o, e)) in
    let rest = or_second (is_output m at) _ may elsewhere in
    lanes_keep x (word_start at) (store_mask m (in_word at) x.big) word (and_right (store_aligned m (in_word at)) _ rest)

-- an instruction without a trap leaves code as it is
pub memory_keeps : (i : Instr) (x : Mips) → trap_of i x ≡ None
    → SameCode x.memory (memory_after (store_at i (retired_of i x).at) (retired_of i x).mask (retired_of i x).word x.memory)
unfolding trap_of retired_of parts_of stored_of act_of refuses_of
memory_keeps (Store m rs rt off) x e =
    store_keeps x.memory m (address (values_of (Store m rs rt off) x).rs off) _
    (not_refused (store_allowed m x.memory (address (values_of (Store m rs rt off) x).rs off)) AddressStore e) _ refl
memory_keeps (R3 m rs rt rd) x e = same_code x.memory
memory_keeps (Shift m rt rd sa) x e = same_code x.memory
memory_keeps (Acc m rs rt) x e = same_code x.memory
memory_keeps (HiLo m rs rd) x e = same_code x.memory
memory_keeps (Count m rs rd) x e = same_code x.memory
memory_keeps (Imm m rs rt imm) x e = same_code x.memory
memory_keeps (Lui rt imm) x e = same_code x.memory
memory_keeps (Load m rs rt off) x e = same_code x.memory
memory_keeps (Pref rs hint off) x e = same_code x.memory
memory_keeps (Branch2 m rs rt off) x e = same_code x.memory
memory_keeps (Branch1 m rs off) x e = same_code x.memory
memory_keeps (Jump m target) x e = same_code x.memory
memory_keeps (Jr rs) x e = same_code x.memory
memory_keeps (Jalr rs rd) x e = same_code x.memory
memory_keeps (TrapIf m rs rt code) x e = same_code x.memory
memory_keeps (Stop m code) x e = same_code x.memory
memory_keeps (Sync stype) x e = same_code x.memory

-- a step leaves the ranges of memory, its byte order, and the bytes of executable ranges
pub step_keeps : (x : Mips) → SameCode x.memory (step_of x).state.memory
unfolding changed
step_keeps x = elim (outcome x) [
  | inl w ↦ rw (ap (λ (s : Stepped). s.state.memory) (step-went x w.0 w.1 w.2)) (memory_keeps w.1 x w.2.no_trap)
  | inr n ↦ rw (ap (λ (y : Mips). y.memory) n.1) (same_code x.memory)
]

-- and so does a run
pub run_keeps : (n : ℕ) (x : Mips) → SameCode x.memory (after n x).memory
unfolding after
run_keeps zero x = same_code x.memory
run_keeps (suc n) x = same_code_again x.memory (after n x).memory (step_of (after n x)).state.memory (run_keeps n x) (step_keeps (after n x))

pub run_code : (n : ℕ) (x : Mips) (a : ℕ) → LaidOut 0 x.memory.spans → code_word_at (after n x).memory a ≡ code_word_at x.memory a
run_code n x a laid = code_word-kept x.memory (after n x).memory a laid (run_keeps n x)
