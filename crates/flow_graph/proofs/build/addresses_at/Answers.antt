use Rattle.std.proofs.Common.{ℕ, get_or, refl}
use Rattle.flow_graph.proofs.Members.{mapped_all, mapped_more}
use Rattle.flow_graph.proofs.build.addresses_at.Goals as goal

pub loop-place-preserved : goal.loop-place-preserved
loop-place-preserved c = mapped_more (λ (p : ℕ). get_or c.args.addresses.now p 0) _ _ 0 _ _ _ c.loop-place-test.true c.loop-place.invariant c.in_ok-push.ensures.items refl

pub returns : goal.returns
returns c = mapped_all (λ (p : ℕ). get_or c.args.addresses.now p 0) _ _ _ c.loop-place-test.false c.loop-place.invariant
