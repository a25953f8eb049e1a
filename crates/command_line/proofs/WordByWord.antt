-- The words read one by one: the common ground of the forms of commands and of what `clap` finds.
use Rattle.std.proofs.Common.{Bool, true, false, cond, List, [], ◌∷◌, take, drop, Option, Some, None, option_map, codes}
use Rattle.std.specs.Option.{option_and_then}
use Rattle.std.specs.Str.{bytes_eq}
use Rattle.command_line.specs.Commands.{Word, Asked, is_name}
use Rattle.command_line.specs.Reading.{command_of, verb_of}
use Rattle.command_line.specs.declared.verb.Verb.{Verb}
use Rattle.command_line.specs.declared.verb.Verb.TheVariants as verb

-- what the next word is: an argument, the option's value, or a name behind a `--`
pub data Place : Type 0 where
  Arguments : Place
  Value : Place
  Behind : Place

abbrev pub takes_two : Verb → Bool
takes_two verb.Simple = true
takes_two verb.Check = false
takes_two verb.Run = true
takes_two verb.List = false
takes_two verb.Demo = false

abbrev pub takes_option : Verb → Bool
takes_option verb.Simple = false
takes_option verb.Check = false
takes_option verb.Run = true
takes_option verb.List = false
takes_option verb.Demo = false

-- what was read so far: where the next word stands, the names, and the value of the option
pub record Read : Type 0 where
  pub place : Place
  pub names : List Word
  pub value : Option Word

abbrev pub one_more : Bool → List Word → Word → Option (List Word)
one_more two [] w = Some (w ∷ [])
one_more two (a ∷ []) w = cond two (Some (a ∷ w ∷ [])) None
one_more two (a ∷ b ∷ rest) w = None

abbrev pub with_name : Verb → Read → Word → Option Read
with_name v r w = option_map (λ ns. record r { names = ns }) (one_more (takes_two v) r.names w)

abbrev pub only_once : Read → Word → Option Word → Option Read
only_once r w None = Some (record { place = Arguments; names = r.names; value = Some w })
only_once r w (Some given) = None

abbrev pub with_value : Verb → Read → Word → Option Read
with_value v r w = cond (takes_option v) (only_once r w r.value) None

-- the option's value in its own word
abbrev pub is_joined : Word → Bool
is_joined w = bytes_eq (take 12 w) (codes "--predictor=")

abbrev pub joined_value : Word → Option Word
joined_value w = cond (is_joined w) (Some (drop 12 w)) None

-- the next word is the option's value
abbrev pub value_next : Verb → Read → Option Read
value_next v r = cond (takes_option v) (Some (record r { place = Value })) None

abbrev pub joined_or_name : Verb → Read → Word → Option Word → Option Read
joined_or_name v r w (Some value) = with_value v r value
joined_or_name v r w None = cond (is_name w) (with_name v r w) None

abbrev pub after_argument : Verb → Read → Word → Option Read
after_argument v r w =
    cond (bytes_eq w (codes "--")) (Some (record r { place = Behind }))
    (cond (bytes_eq w (codes "--predictor")) (value_next v r)
    (joined_or_name v r w (joined_value w)))

abbrev pub after_at : Place → Verb → Read → Word → Option Read
after_at Arguments v r w = after_argument v r w
after_at Value v r w = cond (is_name w) (with_value v r w) None
after_at Behind v r w = with_name v r w

-- one more word
unfoldable pub after : Verb → Read → Word → Option Read
after v r w = after_at r.place v r w

-- all the words
unfoldable pub after_all : Verb → Read → List Word → Option Read
after_all v r [] = Some r
after_all v r (w ∷ ws) = option_and_then (λ s. after_all v s ws) (after v r w)

abbrev pub nothing_read : Read
nothing_read = record { place = Arguments; names = []; value = None }

abbrev pub ended_at : Place → Verb → Read → Option Asked
ended_at Arguments v r = command_of v r.names r.value
ended_at Value v r = None
ended_at Behind v r = command_of v r.names r.value

-- the end of the words
unfoldable pub ended : Verb → Read → Option Asked
ended v r = ended_at r.place v r

-- the words behind the first one
abbrev pub read_behind : List Word → Verb → Option Asked
read_behind ws v = option_and_then (ended v) (after_all v nothing_read ws)

unfoldable pub read_words : List Word → Option Asked
read_words [] = None
read_words (w ∷ ws) = option_and_then (read_behind ws) (verb_of w)
