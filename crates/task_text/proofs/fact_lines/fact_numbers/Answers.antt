use Rattle.std.proofs.Common.{◌≡◌, ◌∙◌, Some, rules}
use Rattle.task_text.specs.declared.row.Row.TheVariants as row
use Rattle.task_text.specs.Reading.{limited, valued}
use Rattle.task_text.proofs.Fields.{fact_read}
use Rattle.task_text.proofs.fact_lines.fact_numbers.Goals as goal

pub returns-in-Some-Some : goal.returns-in-Some-Some
returns-in-Some-Some c =
    let n = c.in-Some-Some in
    let made : c.fact_value.result ≡ valued (limited (Some (row.Fact (record { at = c.args.at; register = n.register; lo = c.args.l; hi = c.args.h; stride = n.stride })))) = search rules in
    made ∙ fact_read c.args.at n.register n.stride c.args.r.now c.args.s.now c.args.l c.args.h n.ensures n.ensures'
