-- Runs of the bytes of a range that is shown.
use Rattle.std.proofs.Common.{◌≡◌, ℕ, zero, suc, ◌+◌, ◌<◌, List, [], ◌∷◌, ◌++◌, Some, None, get_or, length, refl, ap, sym, subst, ◌∙◌, add-zero, append_assoc, arith}
use Rattle.std.specs.List.{flat_map, range_with_len}
use Rattle.std.proofs.lemmas.List.Concat.{flat_map-append}
use Rattle.mips_ref.specs.Memory.{Flat, byte_at, or_zero}
use Rattle.log_text.specs.Lines.{byte_text, bytes_text}

range_with_len-append : (a k n : ℕ) → range_with_len a (k + n) ≡ range_with_len a k ++ range_with_len (a + k) n
range_with_len-append a zero n = let z : 0 + n ≡ n = omega arith in λ i. range_with_len (sym (add-zero a) i) (z i)
range_with_len-append a (suc k) n =
    let next : suc k + n ≡ suc (k + n) = omega arith in
    let same : a + 1 + k ≡ a + suc k = omega arith in
    ap (range_with_len a) next ∙ ap (λ rest. a ∷ rest) (range_with_len-append (a + 1) k n ∙ ap (λ b. range_with_len (a + 1) k ++ range_with_len b n) same)

pub bytes_text-none : (m : Flat) (start : ℕ) → bytes_text m start 0 ≡ []
unfolding bytes_text
bytes_text-none m start = refl

-- the bytes from an address on, and those behind them
pub bytes_text-append : (m : Flat) (start k n : ℕ) → bytes_text m start (k + n) ≡ bytes_text m start k ++ bytes_text m (start + k) n
unfolding bytes_text
bytes_text-append m start k n =
    let text = λ (a : ℕ). byte_text (or_zero (byte_at m a)) in
    ap (flat_map text) (range_with_len-append start k n) ∙ flat_map-append text (range_with_len start k) (range_with_len (start + k) n)

-- the bytes before a run have been written, and the run is
pub bytes_text-run : (m : Flat) (start k n : ℕ) (text before after : List ℕ) → before ≡ text ++ bytes_text m start k → after ≡ before ++ bytes_text m (start + k) n
    → after ≡ text ++ bytes_text m start (k + n)
bytes_text-run m start k n text before after so_far more =
    more ∙ ap (λ t. t ++ bytes_text m (start + k) n) so_far ∙ append_assoc text (bytes_text m start k) (bytes_text m (start + k) n)
    ∙ ap (λ t. text ++ t) (sym (bytes_text-append m start k n))

-- a run of bytes that a memory holds
held_text : (m : Flat) (at : ℕ) (run : List ℕ) → ((k : ℕ) → k < length run → byte_at m (at + k) ≡ Some (get_or run k 0)) → flat_map byte_text run ≡ bytes_text m at (length run)
unfolding bytes_text
held_text m at [] each = refl
held_text m at (b ∷ run) each =
    let first : byte_at m at ≡ Some b = subst (λ a. byte_at m a ≡ Some b) (add-zero at) (each 0 (omega arith)) in
    let rest = held_text m (at + 1) run (λ k h. subst (λ a. byte_at m a ≡ Some (get_or run k 0)) (let e : at + suc k ≡ at + 1 + k = omega arith in e) (each (suc k) (omega arith))) in
    λ i. byte_text (or_zero (sym first i)) ++ rest i

pub run_text : (m : Flat) (at : ℕ) (run before after : List ℕ) → ((k : ℕ) → k < length run → byte_at m (at + k) ≡ Some (get_or run k 0))
    → after ≡ before ++ flat_map byte_text run → after ≡ before ++ bytes_text m at (length run)
run_text m at run before after each more = more ∙ ap (λ t. before ++ t) (held_text m at run each)

-- an address that isn't declared
pub zero_text : (m : Flat) (at : ℕ) (before after : List ℕ) → byte_at m at ≡ None → after ≡ before ++ byte_text 0 → after ≡ before ++ bytes_text m at 1
unfolding bytes_text
zero_text m at before after none more = more ∙ ap (λ o. before ++ (byte_text (or_zero o) ++ [])) (sym none)
