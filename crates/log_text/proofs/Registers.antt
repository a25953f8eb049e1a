-- One register more.
use Rattle.std.proofs.Common.{◌≡◌, ℕ, zero, suc, ◌+◌, List, [], ◌∷◌, ◌++◌, refl, ap, sym, subst, ◌∙◌, ◌-◌, ◌≤◌, arith, append-nil, append_assoc, length, ◌<◌}
use Rattle.std.specs.Fmt.{decimal}
use Rattle.std.specs.List.{flat_map, range_with_len}
use Rattle.std.proofs.lemmas.List.Concat.{flat_map-append}
use Rattle.std.proofs.lemmas.Fmt.{length-decimal-le}
use Rattle.mips_ref.specs.Mips.{Mips, register_of}
use Rattle.log_text.specs.Lines.{named_word, registers_text}

pub range_with_len-more : (a n last : ℕ) → last ≡ a + n → range_with_len a (suc n) ≡ range_with_len a n ++ last ∷ []
range_with_len-more a zero last e = let same : a ≡ last = omega arith in ap (λ x. x ∷ []) same
range_with_len-more a (suc n) last e = ap (λ rest. a ∷ rest) (range_with_len-more (a + 1) n last (omega arith))

pub registers_text-none : (x : Mips) → registers_text x 0 ≡ []
unfolding registers_text
registers_text-none x = refl

pub registers_text-more : (x : Mips) (r : ℕ) → registers_text x (suc r) ≡ registers_text x r ++ named_word (decimal (suc r)) (register_of x (suc r))
unfolding registers_text
registers_text-more x r =
    let text = λ (r : ℕ). named_word (decimal r) (register_of x r) in
    ap (flat_map text) (range_with_len-more 1 r (suc r) (omega arith))
    ∙ flat_map-append text (range_with_len 1 r) (suc r ∷ []) ∙ ap (λ last. flat_map text (range_with_len 1 r) ++ last) (append-nil (text (suc r)))

-- the registers before r have been written, and r is
pub registers_text-step : (x : Mips) (r : ℕ) (name : List ℕ) (value : ℕ) (text before after : List ℕ) → 1 ≤ r → name ≡ decimal r
    → value ≡ register_of x r → before ≡ text ++ registers_text x (r - 1) → after ≡ before ++ named_word name value
    → after ≡ text ++ registers_text x (r + 1 - 1)
registers_text-step x r name value text before after some named same so_far more =
    let previous : r ≡ suc (r - 1) = omega arith in
    let next : r + 1 - 1 ≡ suc (r - 1) = omega arith in
    let grown = registers_text-more x (r - 1) in
    let grown_here : registers_text x (r + 1 - 1) ≡ registers_text x (r - 1) ++ named_word (decimal r) (register_of x r) =
    rw next (subst (λ n. registers_text x (suc (r - 1)) ≡ registers_text x (r - 1) ++ named_word (decimal n) (register_of x n)) (sym previous) grown) in
    rw (more, so_far, named, same, grown_here) (append_assoc text (registers_text x (r - 1)) (named_word (decimal r) (register_of x r)))

-- a register's number has two digits at most
pub number_short : (r : ℕ) (name : List ℕ) → name ≡ decimal r → r < 32 → length name ≤ 2
number_short r name named low = rw named (length-decimal-le 2 r (omega arith) (omega arith) (omega arith))
