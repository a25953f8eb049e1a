-- The parser of `clap` that reads the words, and the command in what it finds. This project's own.
use Rattle.std.specs.Prelude.{true, List, [], ◌∷◌, Option, Some, None, option_and_then, codes}
use Rattle.clap.specs.Walk.{Row, Rule, Text, first_of}
use Rattle.clap.specs.Simple.{App, new_app, new_rule, on_top, with_rule, with_subcommand}
use Rattle.command_line.specs.Commands.{Word, Asked}
use Rattle.command_line.specs.Reading.{verb_of, command_of}

abbrev pub option_rule : Rule
option_rule = record (new_rule (codes "predictor")) { long = Some (codes "predictor") }

-- a subcommand with no help flag, and its arguments: one name, two names, or two names and the option
abbrev pub bare_app : Text → App
bare_app name = on_top (λ s. record s { disable_help_flag = true }) (new_app name)

abbrev pub one_app : Text → App
one_app name = with_rule (bare_app name) (new_rule (codes "task"))

abbrev pub two_app : Text → App
two_app name = with_rule (one_app name) (new_rule (codes "jobs"))

abbrev pub run_app : Text → App
run_app name = with_rule (two_app name) option_rule

abbrev pub top_app : App
top_app = on_top (λ s. record s {
  no_binary_name = true;
  disable_help_flag = true;
  disable_help_subcommand = true;
  disable_version_flag = true;
  subcommand_required = true;
}) (new_app (codes "visa"))

abbrev pub simple_and_check : App
simple_and_check =
    with_subcommand (with_subcommand top_app (two_app (codes "simple")).top) (one_app (codes "check")).top

-- the whole parser
abbrev pub parser_app : App
parser_app =
    with_subcommand
    (with_subcommand (with_subcommand simple_and_check (run_app (codes "run")).top) (one_app (codes "list")).top)
    (one_app (codes "demo")).top

-- the names in what was found
abbrev pub in_order : Option Word → Option Word → List Word
in_order None second = []
in_order (Some a) None = a ∷ []
in_order (Some a) (Some b) = a ∷ b ∷ []

abbrev pub names_found : List Row → List Word
names_found rows = in_order (first_of (codes "task") rows) (first_of (codes "jobs") rows)

abbrev pub command_in : Text → List Row → Option Asked
command_in name rows =
    option_and_then (λ v. command_of v (names_found rows) (first_of (codes "predictor") rows)) (verb_of name)

abbrev pub command_at : Text × List Row → Option Asked
command_at p = command_in p.0 p.1

-- the command in the subcommand that was found
abbrev pub command_found : Option (Text × List Row) → Option Asked
command_found found = option_and_then command_at found
