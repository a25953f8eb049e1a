-- Units that are found, in room for so many. This project's own.
use Rattle.std.specs.Prelude.{◌≡◌, ◌<◌, ◌≤◌, ◌⊎◌, ℕ, Bool, true, false, List, length, slice_index, slice_index_or}
use Rattle.std.specs.List.{count_by}
use Rattle.bound_checker.specs.declared.room.Room.{Room}

abbrev pub mark_at : List Bool → ℕ → Bool
mark_at seen k = slice_index_or seen k false

abbrev pub seen_at : Room → ℕ → Bool
seen_at room k = mark_at room.seen.items k

abbrev pub found_at : Room → ℕ → ℕ
found_at room i = slice_index room.found.items i

pub record IsSized (units : ℕ) (room : Room) : Type 0 where
  pub seen_long : length room.seen.items ≡ units
  pub found_long : length room.found.items ≡ units

-- as many are listed as are marked, and these are the same
pub record IsRoom (units : ℕ) (room : Room) : Type 0 where
  pub sized : IsSized units room
  pub few : room.count ≡ count_by (λ b. b) room.seen.items
  pub listed : (k : ℕ) → seen_at room k ≡ true → (i : ℕ) × (i < room.count) × (found_at room i ≡ k)
  pub marked : (i : ℕ) → i < room.count → seen_at room (found_at room i) ≡ true

-- these units are found too, behind those that were
pub record Adds (P : ℕ → Type 0) (old new : Room) : Type 0 where
  pub kept : (j : ℕ) → seen_at old j ≡ true → seen_at new j ≡ true
  pub whole : (j : ℕ) → P j → seen_at new j ≡ true
  pub only : (j : ℕ) → seen_at new j ≡ true → (seen_at old j ≡ true) ⊎ P j
  pub more : old.count ≤ new.count
  pub front : (i : ℕ) → i < old.count → found_at new i ≡ found_at old i
