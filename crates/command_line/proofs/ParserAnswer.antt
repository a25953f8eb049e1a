-- The answer of `clap`'s parser is the command that the words are.
use Rattle.std.proofs.Common.{◌≡◌, ◌⊎◌, inl, inr, true, List, [], Option, Some, None, refl, ap, ◌∙◌, subst}
use Rattle.clap.specs.Walk.{Row, Text}
use Rattle.clap.specs.Simple.{App, is_simple, subcommand_of}
use Rattle.clap.specs.Faults.{fault_of, is_simple_and_free}
use Rattle.clap.specs.Kinds.{IsAmong}
use Rattle.clap.specs.declared.error.kind.ErrorKind.{ErrorKind}
use Rattle.clap.specs.declared.error.kind.ErrorKind.TheVariants as kind
use Rattle.command_line.specs.Commands.{Word, Asked}
use Rattle.command_line.specs.Parser.{parser_app, command_found}
use Rattle.command_line.proofs.ParserTop.{clap_agrees}
use Rattle.command_line.proofs.ParserWalk.{AllText}
use Rattle.command_line.proofs.WordByWord.{read_words}

is_free : is_simple_and_free parser_app ≡ true
is_free = refl

is_plain : is_simple parser_app ≡ true
is_plain = refl

-- what was found is the command
pub found_is : (app : App) (words : List Word) (found : Option (Text × List Row)) → app ≡ parser_app → AllText words
    → (is_simple_and_free app ≡ true → fault_of app words ≡ []) → (is_simple app ≡ true → found ≡ subcommand_of app words) → command_found found ≡ read_words words
found_is app words found is texts free rows =
    let fault : fault_of parser_app words ≡ [] = subst (λ (a : App). fault_of a words ≡ []) is (free (ap is_simple_and_free is ∙ is_free)) in
    ap command_found (rows (ap is_simple is ∙ is_plain) ∙ ap (λ a. subcommand_of a words) is) ∙ (clap_agrees words texts).found fault

-- a refusal for another cause than memory is that of no command
pub refused_is : (app : App) (words : List Word) (k : ErrorKind) → app ≡ parser_app → AllText words → (k ≡ kind.OutOfMemory → ⊥)
    → (is_simple_and_free app ≡ true → (k ≡ kind.OutOfMemory) ⊎ IsAmong k (fault_of app words)) → None ≡ read_words words
refused_is app words k is texts other causes = by_read (read_words words) refl
  where
    by_cause : (c : Asked) → read_words words ≡ Some c → (k ≡ kind.OutOfMemory) ⊎ IsAmong k (fault_of app words) → ⊥
    by_cause c e (inl memory) = other memory
    by_cause c e (inr among) = subst (IsAmong k) (ap (λ a. fault_of a words) is ∙ (clap_agrees words texts).free c e) among

    by_read : (o : Option Asked) → read_words words ≡ o → None ≡ o
    by_read None e = refl
    by_read (Some c) e = absurd (by_cause c e (causes (ap is_simple_and_free is ∙ is_free)))
