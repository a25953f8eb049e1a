use Rattle.flow_graph.proofs.Built.{fault_answer, functions_within, graph_answer}
use Rattle.flow_graph.proofs.making.without_own_fault.Goals as goal

pub deep_fault-requires-clause-within : goal.deep_fault-requires-clause-within
deep_fault-requires-clause-within c = (functions_within c.args.places.now c.args.start c.args.reached.now c.in_ok-functions.functions.items c.deref-then-branch.result.now c.deref.result.now c.requires.net c.requires.start c.deref.ensures.value c.deref-then-branch.ensures.value c.in_ok-functions.ensures).within

pub built-requires-clause-functions : goal.built-requires-clause-functions
built-requires-clause-functions c = functions_within c.args.places.now c.args.start c.args.reached.now c.in_ok-functions.functions.items c.deref-3.result.now c.deref.result.now c.requires.net c.requires.start c.deref.ensures.value c.deref-3.ensures.value c.in_ok-functions.ensures

pub returns : goal.returns
returns c = graph_answer c.args.places.now c.args.start c.args.reached.now c.args.at.now c.in_ok-functions.functions.items c.deref-3.result.now c.deref.result.now c.deref-2.result.now c.in_ok-is_deep.field-0 c.in_ok-graph.graph c.deref.ensures.value c.deref-2.ensures.value c.deref-3.ensures.value c.in_ok-functions.ensures c.if-branch.false c.in_ok-is_deep.ensures c.in_ok-graph.ensures

pub returns-then-branch : goal.returns-then-branch
returns-then-branch c = fault_answer c.args.places.now c.args.start c.args.reached.now c.in_ok-functions.functions.items c.deref-then-branch.result.now c.deref.result.now c.deref-2.result.now c.in_ok-is_deep.field-0 c.in_ok-fault.fault c.deref.ensures.value c.deref-2.ensures.value c.deref-then-branch.ensures.value c.in_ok-functions.ensures c.if-branch.true c.in_ok-is_deep.ensures c.in_ok-fault.ensures
