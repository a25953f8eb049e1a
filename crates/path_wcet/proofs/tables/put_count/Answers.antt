use Rattle.loop_regions.proofs.FreeWays.{one_number}
use Rattle.path_wcet.proofs.Rounds.{count_put}
use Rattle.path_wcet.proofs.tables.put_count.Goals as goal

pub returns : goal.returns
returns c =
    count_put c.args.addresses.now c.args.r.now c.args.counts.now c.set_count.new.counts c.number_of.result (one_number c.args.addresses.now c.requires.rise) c.requires.beside c.number_of.ensures.inside c.number_of.ensures.at c.set_count.ensures.set c.set_count.ensures.beside
