use Rattle.std.proofs.Common.{◌∙◌, sym, ap}
use Rattle.std.specs.Prelude.{◌==◌}
use Rattle.std.specs.List.{list_any}
use Rattle.bound_checker.proofs.Recorded.{plain_is_before, start_is_before, unit_sound}
use Rattle.bound_checker.proofs.before.next.Goals as goal

pub behind_first-requires-clause-unit : goal.behind_first-requires-clause-unit
behind_first-requires-clause-unit c =
    unit_sound c.args.code.now c.args.g.now c.args.lines.now c.args.n c.unit_at.result c.unit_at.result c.requires.input c.requires.before.within (c.unit_at.ensures c.unit_at.result)

pub returns-then-starts : goal.returns-then-starts
returns-then-starts c =
    start_is_before c.args.code.now c.args.g.now c.args.lines.now c.args.n c.args.to c.unit_at-at.result c.unit_at-at.result c.begun_at.result c.requires.input c.requires.next c.requires.more
    (c.unit_at-at.ensures c.unit_at-at.result) (ap (λ bs. list_any (λ b. b == c.unit_at-at.result.at) bs) (sym c.blocks-2.ensures) ∙ sym c.starts.ensures ∙ c.if-starts.true) c.begun_at.ensures

pub returns-else-starts : goal.returns-else-starts
returns-else-starts c =
    plain_is_before c.args.code.now c.args.g.now c.args.lines.now c.args.n c.args.to c.unit_at-at.result c.unit_at.result c.unit_at.result c.args.a c.behind_first.result c.requires.input c.requires.before c.requires.next
    c.requires.more (c.unit_at-at.ensures c.unit_at.result) (c.unit_at.ensures c.unit_at.result) (ap (λ bs. list_any (λ b. b == c.unit_at-at.result.at) bs) (sym c.blocks-2.ensures) ∙ sym c.starts.ensures ∙ c.if-starts.false) c.behind_first.ensures.is c.behind_first.ensures.facts
