use Rattle.std.proofs.Common.{sym, subst, ℕ, List, length}
use Rattle.loop_regions.specs.Cycles.{IsLeastOnCycle}
use Rattle.loop_regions.specs.Regions.{IsFirstFault}
use Rattle.loop_regions.specs.declared.fault.RegionFault.TheVariants.{FreeCycle}
use Rattle.loop_regions.proofs.Answered.{cycle_answer, nest_answer}
use Rattle.loop_regions.proofs.FreeWays.{ways_in}
use Rattle.loop_regions.proofs.nest.check_regions.Goals as goal

pub free_cycle-requires : goal.free_cycle-requires
free_cycle-requires c = ways_in c.args.g.now c.in-Ok.nest.addresses c.args.regions.now c.in-Ok.nest.ways c.in-Ok.ensures.ways_are

pub returns-in-Some : goal.returns-in-Some
returns-in-Some c =
    subst (λ (l : List ℕ). IsFirstFault c.args.g.now c.args.regions.now (FreeCycle (Rattle.std.specs.Prelude.slice_index l c.in-Some.u))) (sym c.addresses.ensures)
    (cycle_answer c.args.g.now c.args.regions.now c.in-Ok.nest c.requires.whole c.in-Ok.ensures c.in_ok-check_nested.ensures c.in-Some.u
    (subst (IsLeastOnCycle c.in-Ok.nest.ways (length c.in-Ok.nest.addresses)) c.in-Some.is c.in-Ok-free_cycle.ensures))

pub returns-in-None : goal.returns-in-None
returns-in-None c =
    nest_answer c.args.g.now c.args.regions.now c.in-Ok.nest c.requires.whole c.in-Ok.ensures c.in_ok-check_nested.ensures
    (subst (IsLeastOnCycle c.in-Ok.nest.ways (length c.in-Ok.nest.addresses)) c.in-None.is c.in-Ok-free_cycle.ensures)
