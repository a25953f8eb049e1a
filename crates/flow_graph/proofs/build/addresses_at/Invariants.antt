use Rattle.std.proofs.Common.{◌≡◌, ℕ, map, take, get_or}
use Rattle.flow_graph.proofs.build.addresses_at.Given as goal

abbrev pub invariant-loop-place : goal.invariant-loop-place
invariant-loop-place l = l.found.items ≡ map (λ (p : ℕ). get_or l.addresses p 0) (take l.place-index l.places)
