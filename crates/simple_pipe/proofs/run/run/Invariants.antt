use Rattle.cache_lru.specs.Contents.{shape_of}
use Rattle.simple_pipe.proofs.Loop.{HasRun}
use Rattle.simple_pipe.proofs.run.run.Given as goal

abbrev pub invariant-loop-made : goal.invariant-loop-made
invariant-loop-made l =
    HasRun l.pace (shape_of l.initial.parts.icache) (shape_of l.initial.parts.dcache) l.initial.state l._made l.state l.parts
