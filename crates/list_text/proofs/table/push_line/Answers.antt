use Rattle.std.proofs.Common.{sym, ◌∙◌, refl}
use Rattle.list_text.proofs.Named.{missing, named_plain, named_other}
use Rattle.list_text.proofs.table.push_line.Goals as goal

pub returns-in_ok-push : goal.returns-in_ok-push
returns-in_ok-push c =
    named_plain c.args.symbols.now c.args.i c.in-Some.at c.in-Some.name.now c.args.lines.now.items c.push.new.self.items _ c.in-Some.ensures (sym c.is_plain.ensures ∙ c.if-is_plain.true) refl c.in_ok-line.ensures c.in_ok-push.ensures.items

pub returns-else-is_plain : goal.returns-else-is_plain
returns-else-is_plain c = named_other c.args.symbols.now c.args.i c.in-Some.at c.in-Some.name.now c.args.lines.now.items c.in-Some.ensures (sym c.is_plain.ensures ∙ c.if-is_plain.false)

pub returns-in_default : goal.returns-in_default
returns-in_default c = absurd (missing c.args.symbols.now c.args.i c.requires c.in_default.ensures)
