-- Texts of limited length, joined.
use Rattle.std.proofs.Common.{◌≡◌, refl, sym, ap, ◌∙◌, ℕ, zero, suc, ◌+◌, ◌≤◌, ◌<◌, List, [], ◌∷◌, ◌++◌, take, set, get_or, length, length-append, append_assoc, append-nil, arith}
use Rattle.std.proofs.lemmas.List.{take_all, take_at, take_more, take_more_set, length-take-le}
use Rattle.std.proofs.lemmas.List.Concat.{flat_map-append}
use Rattle.mips_text.specs.declared.piece.Piece.{Piece}
use Rattle.mips_text.specs.Operands.{piece_text, pieces_text}
use Rattle.mips_text.specs.Room.{fitting, joined}

take_front : (k : ℕ) (xs ys : List ℕ) → take k (take k xs ++ ys) ≡ take k (xs ++ ys)
take_front zero xs ys = refl
take_front (suc k) [] ys = refl
take_front (suc k) (x ∷ xs) ys = ap (λ q. x ∷ q) (take_front k xs ys)

-- joined twice is joined once
pub joined-joined : (text xs ys : List ℕ) → joined (joined text xs) ys ≡ joined text (xs ++ ys)
joined-joined text xs ys = take_front 48 (text ++ xs) ys ∙ ap fitting (append_assoc text xs ys)

-- a byte more, if there is room
pub pushed : (bytes text : List ℕ) (len byte : ℕ) → length bytes ≡ 48 → take len bytes ≡ text → len < 48 → take (len + 1) (set bytes len byte) ≡ joined text (byte ∷ [])
pushed bytes text len byte whole is room =
    take_more_set bytes len byte (omega arith)
    ∙ sym (take_all 48 (take len bytes ++ byte ∷ []) (omega (arith, length-append (take len bytes) (byte ∷ []), length-take-le len bytes (omega arith))))
    ∙ ap (λ q. joined q (byte ∷ [])) is

pub not_pushed : (bytes text : List ℕ) (len byte : ℕ) → length bytes ≡ 48 → take len bytes ≡ text → 48 ≤ len → len ≤ 48 → text ≡ joined text (byte ∷ [])
not_pushed bytes text len byte whole is full few =
    let long : length text ≡ 48 = omega (arith, ap (λ (q : List ℕ). length q) is, length-take-le len bytes (omega arith)) in
    sym (take_at text (byte ∷ []) 48 long)

pub joined_none : (bytes text : List ℕ) (len : ℕ) → length bytes ≡ 48 → take len bytes ≡ text → len ≤ 48 → text ≡ joined text []
joined_none bytes text len whole is few =
    let short : length text ≤ 48 = omega (arith, ap (λ (q : List ℕ). length q) is, length-take-le len bytes (omega arith)) in
    sym (ap fitting (append-nil text) ∙ take_all 48 text short)

pub joined_more : (start now next bytes : List ℕ) (i : ℕ) → i < length bytes → now ≡ joined start (take i bytes) → next ≡ joined now (get_or bytes i 0 ∷ []) → next ≡ joined start (take (i + 1) bytes)
joined_more start now next bytes i h e f =
    f ∙ ap (λ q. joined q (get_or bytes i 0 ∷ [])) e ∙ joined-joined start (take i bytes) (get_or bytes i 0 ∷ []) ∙ ap (joined start) (sym (take_more bytes i 0 h))

pub joined_short : (text : List ℕ) → length text ≤ 48 → text ≡ joined text []
joined_short text short = sym (ap fitting (append-nil text) ∙ take_all 48 text short)

pub put_more : (start now next : List ℕ) (pieces : List Piece) (i : ℕ) (d : Piece) → i < length pieces → now ≡ joined start (pieces_text (take i pieces)) → next ≡ joined now (piece_text (get_or pieces i d)) → next ≡ joined start (pieces_text (take (i + 1) pieces))
put_more start now next pieces i d h e f =
    let more : pieces_text (take (i + 1) pieces) ≡ pieces_text (take i pieces) ++ piece_text (get_or pieces i d) =
    ap pieces_text (take_more pieces i d h) ∙ flat_map-append piece_text (take i pieces) (get_or pieces i d ∷ []) ∙ ap (λ q. pieces_text (take i pieces) ++ q) (append-nil (piece_text (get_or pieces i d))) in
    f ∙ ap (λ q. joined q (piece_text (get_or pieces i d))) e ∙ joined-joined start (pieces_text (take i pieces)) (piece_text (get_or pieces i d)) ∙ ap (joined start) (sym more)
