use Rattle.std.proofs.Common.{◌≡◌, sym, ap, ◌∙◌, ℕ, List, true}
use Rattle.std.specs.List.{list_all}
use Rattle.loop_regions.specs.Ranks.{falls}
use Rattle.loop_regions.specs.declared.ways.Way.{Way}
use Rattle.loop_regions.proofs.FreeWays.{no_cycle}
use Rattle.loop_regions.proofs.nest.free_cycle.Goals as goal

pub returns-then-do_fall : goal.returns-then-do_fall
returns-then-do_fall c =
    let all : list_all (falls c.args.nest.now.ranks) c.args.nest.now.ways ≡ true =
    ap (λ (rs : List ℕ). list_all (falls rs) c.args.nest.now.ways) (sym c.ranks.ensures) ∙ ap (λ (ws : List Way). list_all (falls c.ranks.result.now) ws) (sym c.ways.ensures) ∙ sym c.do_fall.ensures ∙ c.if-do_fall.true in
    λ u inside ahead. no_cycle c.args.nest.now.ranks c.args.nest.now.ways all u ahead
