-- A job's input isn't put into code.
use Rattle.std.proofs.Common.{◌≡◌, ℕ, suc, ◌+◌, ◌≤◌, true, List, [], ◌∷◌, length, subst, ◌∙◌, arith}
use Rattle.std.specs.Prelude.{◌-◌, replicate}
use Rattle.std.proofs.lemmas.List.{length-append, length-replicate}
use Rattle.mips_ref.proofs.CodeKept.{put_keeps, same_code, same_code_again, storable_same}
use Rattle.mips_ref.specs.Memory.{AllStorable, Flat, input_buffer, put_byte, put_bytes, storable_at}
use Rattle.mips_ref.specs.SameCode.{SameCode}

-- what may be stored to depends on the ranges alone
storable_stays : (m n : Flat) (at len : ℕ) → SameCode m n → AllStorable m at len → AllStorable n at len
storable_stays m n at len same stores = λ k below. storable_same m n (at + k) same ∙ stores k below

-- bytes that can be stored to aren't code
pub put_keeps_code : (m : Flat) (at : ℕ) (bytes : List ℕ) → AllStorable m at (length bytes)
    → SameCode m (put_bytes m at bytes)
unfolding put_bytes
put_keeps_code m at [] stores = same_code m
put_keeps_code m at (b ∷ bytes) stores =
    let Stores : ℕ → Type 0 = λ a. storable_at m a ≡ true in
    let here : at + 0 ≡ at = omega arith in
    let one = put_keeps m at b (subst Stores here (stores 0 (omega arith))) in
    let later : AllStorable m (at + 1) (length bytes) = λ k below. let there : at + suc k ≡ at + 1 + k = omega arith in subst Stores there (stores (suc k) (omega (arith, below))) in
    same_code_again m (put_byte m at b) _ one (put_keeps_code (put_byte m at b) (at + 1) bytes (storable_stays m (put_byte m at b) (at + 1) (length bytes) one later))

pub buffer_len : (len : ℕ) (input : List ℕ) → length input ≤ len → length (input_buffer len input) ≡ len
buffer_len len input fits =
    let zeros : List ℕ = replicate (len - length input) 0 in
    let count : length zeros ≡ len - length input = length-replicate (len - length input) 0 in
    omega (arith, length-append input zeros, count, fits)
