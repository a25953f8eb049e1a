use Rattle.std.proofs.Common.{◌∙◌, ◌<◌, false, length, sym, rules, arith}
use Rattle.std.proofs.lemmas.Grind.{common_steps}
use Rattle.std.proofs.lemmas.List.{get_or_default}
use Rattle.bound_checker.proofs.Rooms.{has_space, put_room}
use Rattle.bound_checker.proofs.room.put.Goals as goal

pub index_mut-requires-then-not-index : goal.index_mut-requires-then-not-index
index_mut-requires-then-not-index c =
    let space : c.args.room.now.count < length c.args.room.now.found.items = has_space c.args.room.now c.args.k c.requires.room c.requires.within (sym (c.index.ensures ∙ get_or_default c.args.room.now.seen.items c.args.k _ false c.requires.within) ∙ c.if-not-index.true) in
    first_of (search rules, grind (arith, common_steps))

pub returns-then-not-index-clause-room : goal.returns-then-not-index-clause-room
returns-then-not-index-clause-room c =
    put_room c.args.room.now c.args.k c.requires.room c.requires.within (sym (c.index.ensures ∙ get_or_default c.args.room.now.seen.items c.args.k _ false c.requires.within) ∙ c.if-not-index.true)
