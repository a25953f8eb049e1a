-- A number that is raised leaves less room.
use Rattle.std.proofs.Common.{ℕ, zero, suc, ◌-◌, ◌^◌, ◌<◌, List, [], ◌∷◌, length, get_or, set, arith, Option, Some, None, ◌≤◌}
use Rattle.path_wcet.specs.Known.{AreStill, IsFar, entry_room, room, rooms}

pub room_set : (xs : List ℕ) (u v : ℕ) → u < length xs → get_or xs u 0 < v → v < 2 ^ 64 → room (set xs u v) < room xs
room_set [] u v inside less fits = absurd (omega arith)
room_set (x ∷ xs) zero v inside less fits = omega arith
room_set (x ∷ xs) (suc u) v inside less fits = let h = room_set xs u v (omega arith) less fits in omega (arith, h)

pub rooms_set : (os : List (Option ℕ)) (u v : ℕ) (d : Option ℕ) → u < length os → 2 ^ 64 - 1 - v < entry_room (get_or os u d) → rooms (set os u (Some v)) < rooms os
rooms_set [] u v d inside less = absurd (omega arith)
rooms_set (o ∷ os) zero v d inside less = omega (arith, less)
rooms_set (o ∷ os) (suc u) v d inside less = let h = rooms_set os u v d (omega arith) less in omega (arith, h)

pub still : (os : List (Option ℕ)) (u v : ℕ) (d : Option ℕ) → u < length os → 2 ^ 64 - 1 - v < entry_room (get_or os u d) → AreStill os (set os u (Some v))
still [] u v d inside less j n h = absurd (omega arith)
still (o ∷ os) zero v d inside less zero n h = lifted o less h
  where
    lifted : (p : Option ℕ) → 2 ^ 64 - 1 - v < entry_room p → IsFar p n → n ≤ v
    lifted None less far = absurd far
    lifted (Some m) less far = omega (arith, less, far)
still (o ∷ os) zero v d inside less (suc j) n h = h
still (o ∷ os) (suc u) v d inside less zero n h = h
still (o ∷ os) (suc u) v d inside less (suc j) n h = still os u v d (omega arith) less j n h
