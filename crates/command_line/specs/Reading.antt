-- The command in a first word, names and the value of the option. This project's own.
use Rattle.std.specs.Prelude.{ℕ, cond, nat_le, List, [], ◌∷◌, Option, Some, None, option_map, codes}
use Rattle.std.specs.Str.{bytes_eq}
use Rattle.text_fields.specs.Numbers.{is_number, number}
use Rattle.command_line.specs.Commands.{Word, Asked, simple, check, run, list, demo}
use Rattle.command_line.specs.declared.forms.PredictorKind.{PredictorKind}
use Rattle.command_line.specs.declared.forms.PredictorKind.TheVariants.{Static, Bimodal, Gshare}
use Rattle.command_line.specs.declared.verb.Verb.{Verb}
use Rattle.command_line.specs.declared.verb.Verb.TheVariants as verb
use Rattle.command_line.specs.declared.command.Names.{Names}
use Rattle.command_line.specs.declared.command.Names.TheVariants as names

unfoldable pub verb_of : Word → Option Verb
verb_of w =
    cond (bytes_eq w (codes "simple")) (Some verb.Simple)
    (cond (bytes_eq w (codes "check")) (Some verb.Check)
    (cond (bytes_eq w (codes "run")) (Some verb.Run)
    (cond (bytes_eq w (codes "list")) (Some verb.List)
    (cond (bytes_eq w (codes "demo")) (Some verb.Demo) None))))

abbrev pub names_seen : Names → List Word
names_seen names.Zero = []
names_seen (names.One a) = a.now ∷ []
names_seen (names.Two a b) = a.now ∷ b.now ∷ []

-- a predictor by its word
unfoldable pub kind_of : Word → Option PredictorKind
kind_of w =
    cond (bytes_eq w (codes "static")) (Some Static)
    (cond (bytes_eq w (codes "bimodal")) (Some Bimodal)
    (cond (bytes_eq w (codes "gshare")) (Some Gshare) None))

abbrev pub predictor_of : Option Word → Option PredictorKind
predictor_of None = Some Static
predictor_of (Some w) = kind_of w

-- a number of the demonstration
unfoldable pub seed_of : Word → Option ℕ
seed_of w = cond (is_number w) (cond (nat_le (number w) 4294967295) (Some (number w)) None) None

abbrev pub of_one : (Word → Option Asked) → List Word → Option Asked
of_one f (a ∷ []) = f a
of_one f _ = None

abbrev pub of_two : (Word → Word → Option Asked) → List Word → Option Asked
of_two f (a ∷ b ∷ []) = f a b
of_two f _ = None

-- the command of a first word, names and the value of the option
abbrev pub command_of : Verb → List Word → Option Word → Option Asked
command_of verb.Simple ns value = of_two (λ t j. Some (simple t j)) ns
command_of verb.Check ns value = of_one (λ t. Some (check t)) ns
command_of verb.Run ns value = of_two (λ t j. option_map (run t j) (predictor_of value)) ns
command_of verb.List ns value = of_one (λ t. Some (list t)) ns
command_of verb.Demo ns value = of_one (λ n. option_map demo (seed_of n)) ns
