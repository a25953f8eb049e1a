use Rattle.std.proofs.Common.{◌∙◌, sym}
use Rattle.mips_elf.proofs.Tables.{tables_lie}
use Rattle.mips_elf.proofs.section.symbol_tables.Goals as goal

pub returns-clause-table : goal.returns-clause-table
returns-clause-table c =
    (tables_lie c.args.len c.args.sections.now c.in_ok-table.table c.in_ok-strings.strings
    (sym c.first_table.ensures ∙ c.in_ok-table.was) (sym c.section_numbered.ensures ∙ c.in_ok-strings.was)).0

pub returns-clause-strings : goal.returns-clause-strings
returns-clause-strings c =
    (tables_lie c.args.len c.args.sections.now c.in_ok-table.table c.in_ok-strings.strings
    (sym c.first_table.ensures ∙ c.in_ok-table.was) (sym c.section_numbered.ensures ∙ c.in_ok-strings.was)).1
