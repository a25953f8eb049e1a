use Rattle.std.proofs.Common.{rules}
use Rattle.subtask_cut.specs.Search.{asked_by}
use Rattle.subtask_cut.proofs.Searching.{joined_to, search_begun, search_ended, search_goes, search_pays}
use Rattle.subtask_cut.proofs.search.search.Goals as goal

pub loop-u-init : goal.loop-u-init
loop-u-init c =
    search_begun c.args.addresses.now c.args.edges.now (asked_by c.args.along) c.args.avoid c.args.start _ _ _ _
    c.in_ok-marks.ensures c.new-work.ensures.items c.in_ok-come_to.ensures

pub follow-requires : goal.follow-requires
follow-requires c = record {
  rise = c.requires.charted.rise;
  among = joined_to c.args.addresses.now c.args.edges.now c.in-Some.u _ c.args.along c.requires.charted
      c.edges_from-ways.ensures;
  beside = c.loop-u.invariant.beside;
}

pub loop-u-preserved : goal.loop-u-preserved
loop-u-preserved c =
    search_goes c.args.addresses.now c.args.edges.now (asked_by c.args.along) c.args.avoid c.args.start c.in-Some.u _
    _ _ _ _ _ c.in-Some.ensures.items
    c.edges_from-ways.ensures c.loop-u.invariant c.in_ok-follow.ensures

pub loop-u-smaller : goal.loop-u-smaller
loop-u-smaller c =
    search_pays c.args.addresses.now (asked_by c.args.along) c.args.avoid c.in-Some.u _ _ _ _ _ _
    c.in-Some.ensures.items c.in_ok-follow.ensures

pub returns : goal.returns
returns c =
    search_ended c.args.addresses.now c.args.edges.now (asked_by c.args.along) c.args.avoid c.args.start _ _
    (search rules) c.loop-u.invariant
