use Rattle.std.proofs.Common.{rules, ◌≡◌, ◌∙◌, sym, subst, ap, List, ℕ, ◌++◌, take, drop, length, replicate, Option, Some}
use Rattle.path_wcet.specs.declared.ahead.Aim.TheVariants as aim
use Rattle.path_wcet.specs.Settled.{AreStops, IsSettled}
use Rattle.path_wcet.proofs.Orders.{whole_back}
use Rattle.path_wcet.proofs.Rounds.{stops_are}
use Rattle.path_wcet.proofs.greatest.stops_of.Goals as goal

pub returns : goal.returns
returns c =
    let back : take c.in_ok-stops.stops.len (c.settle.new.xs ++ drop (length c.settle.new.xs) c.in_ok-stops.stops.items) ≡ c.settle.new.xs = whole_back c.settle.new.xs _ c.in_ok-stops.stops.len (search rules) in
    subst (AreStops c.args.table.now c.args.n.now c.args.found.now.turns.items c.args.found.now.rets.items) (sym back)
    (stops_are c.args.table.now c.args.n.now c.args.found.now.turns.items c.args.found.now.rets.items c.args.ways.now c.as_mut_slice.result.now c.settle.new.xs c.settle.result c.requires.ways
    (c.as_mut_slice.ensures.value ∙ c.in_ok-stops.ensures ∙ ap (λ (l : List ℕ). replicate (length l) (Some 0)) c.addresses.ensures)
    (subst (λ (l : List (Option ℕ)). IsSettled c.args.table.now aim.Stop c.args.found.now.turns.items l c.args.ways.now 0 c.as_mut_slice.result.now c.settle.new.xs c.settle.result) c.as_slice-2.ensures.value
    (subst (λ (l : List ℕ). IsSettled c.args.table.now aim.Stop l c.as_slice-2.result.now c.args.ways.now 0 c.as_mut_slice.result.now c.settle.new.xs c.settle.result) c.as_slice.ensures.value c.settle.ensures)))
