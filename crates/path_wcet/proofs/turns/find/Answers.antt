use Rattle.std.proofs.Common.{rules, ◌≡◌, ◌∙◌, sym, subst, ap, List, ℕ, ◌++◌, take, drop, length, Option}
use Rattle.path_wcet.specs.Known.{Table}
use Rattle.path_wcet.specs.Settled.{AreCircuits, AreRounds, IsFound}
use Rattle.path_wcet.proofs.Orders.{whole_back}
use Rattle.path_wcet.proofs.Rounds.{found_is}
use Rattle.path_wcet.proofs.turns.find.Goals as goal

pub returns : goal.returns
returns c =
    let turns : take c.in_ok-turns.turns.len (c.rounds.new.turns ++ drop (length c.rounds.new.turns) c.in_ok-turns.turns.items) ≡ c.rounds.new.turns = whole_back c.rounds.new.turns _ c.in_ok-turns.turns.len (search rules) in
    let rets : take c.in_ok-rets.rets.len (c.rounds.new.rets ++ drop (length c.rounds.new.rets) c.in_ok-rets.rets.items) ≡ c.rounds.new.rets = whole_back c.rounds.new.rets _ c.in_ok-rets.rets.len (search rules) in
    let ends : c.as_mut_slice-2.result.now ≡ c.args.table.now.ends = c.as_mut_slice-2.ensures.value ∙ c.in_ok-rets.ensures.items ∙ c.as_slice.ensures.value ∙ ap (λ (t : Table). t.ends) c.table.view_is in
    subst (IsFound c.args.table.now c.args.n.now (take c.in_ok-turns.turns.len (c.rounds.new.turns ++ drop (length c.rounds.new.turns) c.in_ok-turns.turns.items))) (sym rets)
    (subst (λ (l : List ℕ). IsFound c.args.table.now c.args.n.now l c.rounds.new.rets) (sym turns)
    (found_is c.args.table.now c.args.n.now c.args.ways.now c.as_slice-2.result.now c.as_mut_slice.result.now c.rounds.new.turns c.rounds.new.rets (length c.addresses.result.now) (c.as_mut_slice.ensures.value ∙ c.in_ok-turns.ensures) c.requires.counts c.requires.ways
    (subst (AreCircuits c.args.n.now c.args.n.now.regions) (sym c.as_slice-2.ensures.value) c.in_ok-circuits.ensures)
    (subst (λ (l : List (Option ℕ)). AreRounds c.args.table.now c.args.ways.now c.as_slice-2.result.now c.as_mut_slice.result.now c.rounds.new.turns l c.rounds.new.rets) ends c.in_ok-rounds.ensures)))
