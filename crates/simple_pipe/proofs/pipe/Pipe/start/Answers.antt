use Rattle.std.proofs.Common.{subst}
use Rattle.std.proofs.lemmas.Option.{same_Some}
use Rattle.simple_pipe.specs.Pipe.{IsSteady}
use Rattle.simple_pipe.proofs.pipe.Pipe.start.Goals as goal

pub invariant_of-self : goal.invariant_of-self
invariant_of-self c =
    record {
      mem_ps = c.self.invariant.mem_ps;
      store_ps = c.self.invariant.store_ps;
      mul = c.self.invariant.mul;
      div = c.self.invariant.div;
      steady = λ x e. subst IsSteady (same_Some _ x e)
          (record { miss = c.cycles_of.ensures.small; store = c.cycles_of-2.ensures.small; mul = c.self.invariant.mul; div = c.self.invariant.div });
      empty = λ x e. c.clear.ensures.after x;
    }
