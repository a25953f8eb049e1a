-- Which words are which command. This project's own.
use Rattle.std.specs.Prelude.{◌≡◌, ℕ, ◌<◌, ◌^◌, Bool, true, not, nat_eq, List, [], ◌∷◌, ◌++◌, Option, Some, None, unwrap_or, codes, decimal}
use Rattle.std.specs.List.{list_all, flat_map}
use Rattle.command_line.specs.declared.forms.Command.{Command}
use Rattle.command_line.specs.declared.forms.Command.TheVariants as of
use Rattle.command_line.specs.declared.forms.PredictorKind.{PredictorKind}
use Rattle.command_line.specs.declared.forms.PredictorKind.TheVariants.{Static, Bimodal, Gshare}

abbrev pub Word : Type 0
Word = List ℕ

-- a command, with the names themselves
pub data Asked : Type 0 where
  simple : Word → Word → Asked
  check : Word → Asked
  run : Word → Word → PredictorKind → Asked
  list : Word → Asked
  demo : ℕ → Asked

-- the command that a value of the code stands for
abbrev pub seen : Command → Asked
seen (of.Simple task jobs) = simple task.now jobs.now
seen (of.Check task) = check task.now
seen (of.Run task jobs predictor) = run task.now jobs.now predictor
seen (of.List task) = list task.now
seen (of.Demo seed) = demo seed

-- `-`, or a word that doesn't begin with `-`
abbrev pub is_name : Word → Bool
is_name [] = true
is_name (first ∷ []) = true
is_name (first ∷ second ∷ rest) = not (nat_eq first 45)

abbrev pub predictor_word : PredictorKind → Word
predictor_word Static = codes "static"
predictor_word Bimodal = codes "bimodal"
predictor_word Gshare = codes "gshare"

-- an argument before a `--`: a name, or the option in two words or in one
pub data Argument : Type 0 where
  name : Word → Argument
  option : PredictorKind → Argument
  joined : PredictorKind → Argument

-- the words of an argument
abbrev pub spelled : Argument → List Word
spelled (name word) = word ∷ []
spelled (option kind) = codes "--predictor" ∷ predictor_word kind ∷ []
spelled (joined kind) = (codes "--predictor=" ++ predictor_word kind) ∷ []

-- a name that stands before a `--`
abbrev pub is_plain : Argument → Bool
is_plain (name word) = is_name word
is_plain (option kind) = true
is_plain (joined kind) = true

abbrev pub names_in : List Argument → List Word
names_in [] = []
names_in (name word ∷ rest) = word ∷ names_in rest
names_in (option kind ∷ rest) = names_in rest
names_in (joined kind ∷ rest) = names_in rest

abbrev pub predictors_in : List Argument → List PredictorKind
predictors_in [] = []
predictors_in (name word ∷ rest) = predictors_in rest
predictors_in (option kind ∷ rest) = kind ∷ predictors_in rest
predictors_in (joined kind ∷ rest) = kind ∷ predictors_in rest

-- a `--` and the words behind it, if there is one
abbrev pub dashes_and : Option (List Word) → List Word
dashes_and None = []
dashes_and (Some behind) = codes "--" ∷ behind

-- the words are these arguments, then maybe a `--` and names of any form behind it
pub record AreArguments (words : List Word) (names : List Word) (predictors : List PredictorKind) : Type 0 where
  pub arguments : List Argument
  pub behind : Option (List Word)
  pub words_are : words ≡ flat_map spelled arguments ++ dashes_and behind
  pub plain : list_all is_plain arguments ≡ true
  pub names_are : names ≡ names_in arguments ++ unwrap_or behind []
  pub predictors_are : predictors ≡ predictors_in arguments

-- the option is given at most once; without it the predictor is the static one
abbrev pub IsPredictor : PredictorKind → List PredictorKind → Type 0
IsPredictor kind [] = kind ≡ Static
IsPredictor kind (given ∷ []) = kind ≡ given
IsPredictor kind (given ∷ again ∷ rest) = ⊥

-- the forms: a first word, the names and the predictors behind it
abbrev pub IsForm : Asked → Word → List Word → List PredictorKind → Type 0
IsForm (simple task jobs) first names predictors =
    (first ≡ codes "simple") × (names ≡ task ∷ jobs ∷ []) × (predictors ≡ [])
IsForm (check task) first names predictors = (first ≡ codes "check") × (names ≡ task ∷ []) × (predictors ≡ [])
IsForm (run task jobs kind) first names predictors =
    (first ≡ codes "run") × (names ≡ task ∷ jobs ∷ []) × IsPredictor kind predictors
IsForm (list task) first names predictors = (first ≡ codes "list") × (names ≡ task ∷ []) × (predictors ≡ [])
IsForm (demo seed) first names predictors =
    (first ≡ codes "demo") × (seed < 2 ^ 32) × (names ≡ decimal seed ∷ []) × (predictors ≡ [])

-- the words are a first word and arguments that make the command
pub record IsCommand (words : List Word) (command : Asked) : Type 0 where
  pub first : Word
  pub rest : List Word
  pub words_are : words ≡ first ∷ rest
  pub names : List Word
  pub predictors : List PredictorKind
  pub arguments : AreArguments rest names predictors
  pub form : IsForm command first names predictors
