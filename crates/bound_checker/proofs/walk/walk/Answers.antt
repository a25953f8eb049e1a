use Rattle.std.proofs.Common.{ap, arith, subst, sym}
use Rattle.bound_checker.specs.Input.{IsBefore}
use Rattle.bound_checker.specs.Walk.{IsWalked}
use Rattle.bound_checker.specs.declared.walk.Walked.{Walked}
use Rattle.bound_checker.proofs.Tallies.{walked_none}
use Rattle.bound_checker.proofs.walk.walk.Goals as goal

pub loop-k-init : goal.loop-k-init
loop-k-init c =
    let n_is = ap (λ (w : Walked). w.n) c.begun-w.ensures.is in
    record {
      known = subst (λ n. IsBefore c.args.code.now c.args.g.now c.args.lines.now n c.begun-w.result.along) (sym n_is) c.begun-w.ensures.before;
      order = omega (arith, n_is);
      walked = subst (IsWalked c.args.code.now c.args.g.now c.args.lines.now c.args.region c.args.lo c.args.lo) (sym c.begun-w.ensures.is) (walked_none c.args.code.now c.args.g.now c.args.lines.now c.args.region c.args.lo c.begun-w.result.along);
    }

pub loop-k-preserved : goal.loop-k-preserved
loop-k-preserved c = record {
  known = c.over_unit-w.ensures.before;
  order = omega (arith, c.over_unit-w.ensures.at);
  walked = c.over_unit-w.ensures.walked c.args.lo c.loop-k.auto.k c.loop-k.invariant.walked;
}
