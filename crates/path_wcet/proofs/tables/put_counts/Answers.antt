use Rattle.std.proofs.Common.{◌+◌, ◌∙◌, subst, take, List}
use Rattle.visa_io.specs.declared.records.Region.{Region}
use Rattle.std.proofs.lemmas.List.{take_all, take_more}
use Rattle.path_wcet.specs.Tables.{ArePut}
use Rattle.path_wcet.proofs.Rounds.{puts_more, taken_all}
use Rattle.path_wcet.proofs.tables.put_counts.Goals as goal

pub loop-r-preserved : goal.loop-r-preserved
loop-r-preserved c = (
  c.put_count.ensures.beside ∙ c.loop-r.invariant.0,
  puts_more c.args.addresses.now c.args.regions.now (take c.loop-r.r-index c.args.regions.now) (take (c.loop-r.r-index + 1) c.args.regions.now) _ c.loop-r.counts c.put_count.new.counts c.requires.apart (taken_all (c.loop-r.r-index + 1) c.args.regions.now)
      (take_more c.args.regions.now c.loop-r.r-index _ c.loop-r-test.true) c.loop-r.invariant.1 c.put_count.ensures,
)

pub returns-clause-counts : goal.returns-clause-counts
returns-clause-counts c = subst (λ (l : List Region). ArePut c.args.addresses.now l c.loop-r.counts) (take_all c.loop-r.r-index c.args.regions.now c.loop-r-test.false) c.loop-r.invariant.1
