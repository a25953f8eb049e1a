use Rattle.std.proofs.Common.{refl, subst, List, ℕ}
use Rattle.flow_graph.specs.Sites.{AreLocated}
use Rattle.flow_graph.proofs.Exits.{site_is}
use Rattle.flow_graph.proofs.site.instr_site.Goals as goal

pub returns : goal.returns
returns c = (refl, λ code t is e. site_is code c.args.table.now t c.args.at c.args.first c.slot_of-slot.result c.of-ways.result c.located-exits.result _ _ _ is e (c.slot_of-slot.ensures code t e) c.of-ways.ensures (subst (λ (l : List ℕ). AreLocated l c.of-ways.result c.located-exits.result) c.deref.ensures.value c.located-exits.ensures) c.leaves_code-leaves.ensures c.is_faulty.ensures c.exits_unless.ensures)
