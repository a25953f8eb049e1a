use Rattle.std.proofs.Common.{ap, length, arith}
use Rattle.admission.proofs.Shapes.{caches_buildable}
use Rattle.mode_states.specs.declared.kept.Kept.{Kept}
use Rattle.mode_states.proofs.Releases.{no_counts, rests_first}
use Rattle.mode_states.proofs.idle.Idle.open.Goals as goal

pub new-requires-clause-icache : goal.new-requires-clause-icache
new-requires-clause-icache c = caches_buildable _ c.requires.limits.machine.icache

pub new-requires-clause-dcache : goal.new-requires-clause-dcache
new-requires-clause-dcache c = caches_buildable _ c.requires.limits.machine.dcache

pub new-requires-2-clause-icache : goal.new-requires-2-clause-icache
new-requires-2-clause-icache c = caches_buildable _ c.requires.limits.machine.icache

pub new-requires-2-clause-dcache : goal.new-requires-2-clause-dcache
new-requires-2-clause-dcache c = caches_buildable _ c.requires.limits.machine.dcache

pub invariant_of-result : goal.invariant_of-result
invariant_of-result c =
    let cuts = ap (λ (k : Kept). length k.cuts) c.in_ok-kept.ensures in (
      rests_first c.args.task.now _ _ _ _ _ _ _ c.requires c.in_ok-kept.ensures c.in-Ok.ensures.state
          c.in_ok-fast.ensures c.in_ok-pipe.ensures,
      no_counts _ _ _ c.in_ok-counts.ensures.items
          (omega (arith, c.in_ok-counts.ensures.capacity, c.len.ensures, cuts)),
    )
