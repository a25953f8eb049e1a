use Rattle.std.proofs.Common.{rules, ◌≡◌, sym, subst, ℕ, List}
use Rattle.flow_graph.specs.declared.parts.Edge.{Edge}
use Rattle.loop_regions.specs.Ways.{AreAllJoined, addresses_of}
use Rattle.loop_regions.proofs.nest.numbered.Goals as goal

pub all_ways-requires-clause-joined : goal.all_ways-requires-clause-joined
all_ways-requires-clause-joined c =
    let addresses : c.as_slice.result.now ≡ addresses_of c.args.g.now.units = search rules in
    subst (λ (a : List ℕ). AreAllJoined a c.edges.result.now) (sym addresses) (subst (λ (es : List Edge). AreAllJoined (addresses_of c.args.g.now.units) es) (sym c.edges.ensures) c.requires.joined)
