use Rattle.std.proofs.Common.{refl}
use Rattle.bound_checker.proofs.Rooms.{cleared}
use Rattle.bound_checker.proofs.room.clear.Goals as goal

pub returns-clause-room : goal.returns-clause-room
returns-clause-room c = cleared _ _ (record { seen_long = c.forget.ensures.long; found_long = c.requires.found_long }) c.forget.ensures.none refl
