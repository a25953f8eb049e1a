use Rattle.std.proofs.Common.{◌≡◌, ◌⊎◌, ◌∙◌, map, option_map, sym, ap, subst}
use Rattle.std.specs.String.{string_bytes}
use Rattle.std.proofs.lemmas.Result.{IfOk-weaker}
use Rattle.clap.specs.Words.{IsAmong, app_of, fault_of, subcommand_rows_of}
use Rattle.clap.specs.declared.error.kind.ErrorKind.{ErrorKind}
use Rattle.clap.specs.declared.error.kind.ErrorKind.TheVariants as kind
use Rattle.command_line.specs.Commands.{seen}
use Rattle.command_line.proofs.OneCommand.{answered}
use Rattle.command_line.proofs.ParserAnswer.{found_is, refused_is}
use Rattle.command_line.proofs.ParserTop.{all_text}
use Rattle.command_line.proofs.words.read_command.Goals as goal

pub returns-in-Ok : goal.returns-in-Ok
returns-in-Ok c =
    answered (map string_bytes c.args.words.now) c.command_found.result
    (c.command_found.ensures ∙ found_is (app_of c.in_ok-parser.parser) (map string_bytes c.args.words.now) (subcommand_rows_of c.in-Ok.matches) c.in_ok-parser.ensures
    (all_text c.args.words.now) c.in-Ok.ensures.kinds (λ h. (c.in-Ok.ensures.matches h).1))

pub returns-in-Err : goal.returns-in-Err
returns-in-Err c =
    let App_fault = fault_of (app_of c.in_ok-parser.parser) (map string_bytes c.args.words.now) in
    IfOk-weaker c.refused.result _ _ (λ r h. answered (map string_bytes c.args.words.now) r (ap (option_map seen) h.0
    ∙ refused_is (app_of c.in_ok-parser.parser) (map string_bytes c.args.words.now) c.kind.result c.in_ok-parser.ensures (all_text c.args.words.now) h.1
    (λ s. subst (λ (k : ErrorKind). (k ≡ kind.OutOfMemory) ⊎ IsAmong k App_fault) (sym c.kind.ensures) (c.in-Err.ensures.kinds s))))
    c.refused.ensures.other
