use Rattle.simple_pipe.specs.Simple.{caches_of}
use Rattle.cache_lru.specs.Contents.{shape_of}
use Rattle.simple_pipe.proofs.After.{none_after}
use Rattle.std.proofs.Common.{refl}
use Rattle.simple_pipe.proofs.parts.Parts.clear.Goals as goal

pub returns-clause-after : goal.returns-clause-after
returns-clause-after c = λ p.
    record {
      icache_is = refl;
      dcache_is = refl;
      fetched = c.flush.ensures.addresses;
      loaded = c.flush-2.ensures.addresses;
      stages = none_after p (caches_of (shape_of c.flush.new.self) (shape_of c.flush-2.new.self)) c.new-self.result c.new-self.ensures;
    }
