use Rattle.std.proofs.Common.{refl}
use Rattle.loop_regions.proofs.Marks.{decided}
use Rattle.loop_regions.proofs.cycles.comes_back.Goals as goal

pub returns : goal.returns
returns c = decided c.args.ways.now c.args.u c.mark_reached.new.marks (c.mark_reached.ensures.ahead c.requires.ahead) c.mark_reached.ensures.closed _ refl
