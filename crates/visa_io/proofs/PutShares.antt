-- What a sink in memory appends is a prefix of the piece.
use Rattle.std.proofs.Common.{◌≡◌, ℕ, List, [], ◌++◌, take, drop, length, refl, sym, ◌∙◌, ap, append_assoc, append-nil, Bool, true, false}
use Rattle.std.proofs.lemmas.List.{take-append-drop}
use Rattle.std.specs.Prelude.{Option, Some, None, nat_le, if◌then◌else◌}
use Rattle.visa_io.specs.MemorySinks.{put_bytes}

parts_at : (b : Bool) (piece : List ℕ) → (lost : List ℕ) × (piece ≡ (if b then piece else []) ++ lost)
parts_at true piece = ([], sym (append-nil piece))
parts_at false piece = (piece, refl)

pub parts_of : (kept : Option ℕ) (left : ℕ) (piece : List ℕ) → (lost : List ℕ) × (piece ≡ put_bytes kept left piece ++ lost)
parts_of None left piece = parts_at (nat_le (length piece) left) piece
parts_of (Some kept) left piece = (
  drop left (take kept piece) ++ drop kept piece,
  sym (sym (append_assoc (take left (take kept piece)) (drop left (take kept piece)) (drop kept piece))
      ∙ ap (λ front. front ++ drop kept piece) (take-append-drop left (take kept piece)) ∙ take-append-drop kept piece),
)
