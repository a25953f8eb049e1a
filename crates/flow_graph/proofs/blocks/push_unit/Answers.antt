use Rattle.std.proofs.Common.{ℕ, List, ◌++◌, ◌∙◌, ◌∷◌, [], ap, sym}
use Rattle.std.proofs.lemmas.List.{append-nil}
use Rattle.flow_graph.proofs.Found.{start_found, start_missing}
use Rattle.flow_graph.proofs.blocks.push_unit.Goals as goal

pub returns-in_ok-push : goal.returns-in_ok-push
returns-in_ok-push c =
    c.in_ok-push.ensures.items
    ∙ ap (λ (n : ℕ). c.args.starts.now.items ++ n ∷ []) c.in-Some.ensures.1
    ∙ ap (λ (l : List ℕ). c.args.starts.now.items ++ l) (sym (start_found c.args.units.now c.args.at c.in-Some.k c.in-Some.ensures))

pub returns-in_default : goal.returns-in_default
returns-in_default c = sym (append-nil c.args.starts.now.items) ∙ ap (λ (l : List ℕ). c.args.starts.now.items ++ l) (sym (start_missing c.args.units.now c.args.at c.in_default.ensures))
