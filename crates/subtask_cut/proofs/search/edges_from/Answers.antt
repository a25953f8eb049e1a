use Rattle.subtask_cut.proofs.Searching.{between_order, edges_between}
use Rattle.subtask_cut.proofs.search.edges_from.Goals as goal

pub slice_bounds-result-count : goal.slice_bounds-result-count
slice_bounds-result-count c =
    between_order c.args.edges.now c.args.u c.before-start.result c.up_to-end.result c.before-start.ensures.within
    c.before-start.ensures.below c.up_to-end.ensures.past

pub slice_bounds-result-start : goal.slice_bounds-result-start
slice_bounds-result-start c =
    between_order c.args.edges.now c.args.u c.before-start.result c.up_to-end.result c.before-start.ensures.within
    c.before-start.ensures.below c.up_to-end.ensures.past

pub returns : goal.returns
returns c =
    edges_between c.args.edges.now c.args.u c.before-start.result c.up_to-end.result c.before-start.ensures.within
    c.up_to-end.ensures.within
    c.before-start.ensures.below c.before-start.ensures.past c.up_to-end.ensures.below c.up_to-end.ensures.past
