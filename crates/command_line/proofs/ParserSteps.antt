-- One word, as `clap` walks over the words behind the first one.
use Rattle.std.proofs.Common.{◌≡◌, ℕ, ◌+◌, Bool, true, false, cond, ◌&&◌, ◌||◌, List, [], ◌∷◌, ◌++◌, Option, Some, None, refl, sym, ap, ◌∙◌, codes}
use Rattle.std.specs.Prelude.{slice_get, length, drop, min, encode_utf8}
use Rattle.std.specs.Option.{option_map_or}
use Rattle.std.specs.Str.{bytes_eq, chars}
use Rattle.clap.specs.Lexer.{long_of, name_and_value, usize_max}
use Rattle.clap.specs.Walk.{Held, Row, Rule, Step, Text, Waiting, Walk, idle, option, trailing, arg_by_id, arg_by_index, arg_by_long, arg_by_short, after_step, has_row, is_pending, long_or_other, positional_held, pushed, settled, short_or_plain, settled_rows, takes_several, to_positional, walked}
use Rattle.clap.specs.Simple.{Shape, new_shape}
use Rattle.clap.specs.Faults.{bundle_fault, bundle_step_fault, flag_word_fault, flags_fault, long_fault, positional_fault, settle_fault, short_fault, step_fault, stray_fault, turn_fault, use_fault}
use Rattle.clap.specs.Kinds.{Kinds, or_else}
use Rattle.clap.specs.declared.error.kind.ErrorKind.TheVariants as kind
use Rattle.command_line.specs.Commands.{Word}
use Rattle.command_line.specs.declared.verb.Verb.{Verb}
use Rattle.command_line.specs.declared.verb.Verb.TheVariants as verb
use Rattle.command_line.proofs.OneCommand.{verb_word}
use Rattle.command_line.proofs.ParserRows.{set_rule, rows_for, used_first, use_first, use_again}
use Rattle.command_line.proofs.ParserWords.{IsName, IsLong, IsShort}
use Rattle.command_line.proofs.WordByWord.{takes_two, takes_option}

-- ---- the subcommands, as they are built

abbrev pub task_rule : Rule
task_rule = set_rule (codes "task") None (Some 1)

abbrev pub jobs_rule : Rule
jobs_rule = set_rule (codes "jobs") None (Some 2)

abbrev pub predictor_rule : Rule
predictor_rule = set_rule (codes "predictor") (Some (codes "predictor")) None

abbrev pub rules : Verb → List Rule
rules verb.Simple = task_rule ∷ jobs_rule ∷ []
rules verb.Check = task_rule ∷ []
rules verb.Run = task_rule ∷ jobs_rule ∷ predictor_rule ∷ []
rules verb.List = task_rule ∷ []
rules verb.Demo = task_rule ∷ []

abbrev pub leaf : Verb → Shape
leaf v = record (new_shape (verb_word v)) {
  rules = rules v;
  no_binary_name = true;
  disable_help_flag = true;
  disable_help_subcommand = true;
  disable_version_flag = true;
  is_built = true;
}

-- the place of the next name
abbrev pub place_of : List Word → ℕ
place_of [] = 1
place_of (a ∷ []) = 2
place_of (a ∷ b ∷ ns) = 3

pub first_rule : (v : Verb) → arg_by_index (rules v) 1 ≡ Some task_rule
first_rule verb.Simple = refl
first_rule verb.Check = refl
first_rule verb.Run = refl
first_rule verb.List = refl
first_rule verb.Demo = refl

pub second_rule : (v : Verb) → arg_by_index (rules v) 2 ≡ cond (takes_two v) (Some jobs_rule) None
second_rule verb.Simple = refl
second_rule verb.Check = refl
second_rule verb.Run = refl
second_rule verb.List = refl
second_rule verb.Demo = refl

pub third_rule : (v : Verb) → arg_by_index (rules v) 3 ≡ None
third_rule verb.Simple = refl
third_rule verb.Check = refl
third_rule verb.Run = refl
third_rule verb.List = refl
third_rule verb.Demo = refl

pub task_by_id : (v : Verb) → arg_by_id (rules v) (codes "task") ≡ Some task_rule
task_by_id verb.Simple = refl
task_by_id verb.Check = refl
task_by_id verb.Run = refl
task_by_id verb.List = refl
task_by_id verb.Demo = refl

pub jobs_by_id : (v : Verb) → takes_two v ≡ true → arg_by_id (rules v) (codes "jobs") ≡ Some jobs_rule
jobs_by_id verb.Simple e = refl
jobs_by_id verb.Check e = cc
jobs_by_id verb.Run e = refl
jobs_by_id verb.List e = cc
jobs_by_id verb.Demo e = cc

pub predictor_by_id : (v : Verb) → takes_option v ≡ true → arg_by_id (rules v) (codes "predictor") ≡ Some predictor_rule
predictor_by_id verb.Simple e = cc
predictor_by_id verb.Check e = cc
predictor_by_id verb.Run e = refl
predictor_by_id verb.List e = cc
predictor_by_id verb.Demo e = cc

by_long : (v : Verb) (n : Text) → arg_by_long (rules v) n ≡ cond (takes_option v) (cond (bytes_eq (codes "predictor") n || false) (Some predictor_rule) None) None
by_long verb.Simple n = refl
by_long verb.Check n = refl
by_long verb.Run n = refl
by_long verb.List n = refl
by_long verb.Demo n = refl

no_short : (v : Verb) (x : ℕ) → arg_by_short (rules v) x ≡ None
no_short verb.Simple x = refl
no_short verb.Check x = refl
no_short verb.Run x = refl
no_short verb.List x = refl
no_short verb.Demo x = refl

cond_none : (b : Bool) (x : Option Rule) → x ≡ None → cond b x None ≡ None
cond_none true x e = e
cond_none false x e = refl

-- no argument has another name than that of the option
pub no_long : (v : Verb) (n : Text) → bytes_eq (codes "predictor") n ≡ false → arg_by_long (rules v) n ≡ None
no_long v n e = by_long v n ∙ cond_none (takes_option v) _ (ap (λ b. cond (b || false) (Some predictor_rule) None) e)

-- ---- states

abbrev pub hold : List Row → Option (Text × List Text) → Held
hold rows pending = record { rows = rows; pending = pending; skip = 0 }

-- before an argument, behind the option's word, and behind `--`
abbrev pub arguments_at : List Row → Option (Text × List Text) → ℕ → Walk
arguments_at rows pending place = record { held = hold rows pending; waiting = idle; position = place; is_trailing = false; stopped = None }

abbrev pub value_at : List Row → ℕ → Walk
value_at rows place = record { held = hold rows (Some (codes "predictor", [])); waiting = option (codes "predictor"); position = place; is_trailing = false; stopped = None }

abbrev pub behind_at : List Row → Option (Text × List Text) → ℕ → Waiting → Walk
behind_at rows pending place waiting = record { held = hold rows pending; waiting = waiting; position = place; is_trailing = true; stopped = None }

-- ---- a word by what it looks like

abbrev pub flag_by : Shape → Word → Held → Option (Text × Option Text) → Kinds
flag_by s w h lo = flag_word_fault s.rules s.args_override_self lo w h

abbrev pub met_by : List Rule → Waiting → ℕ → Word → Held → Bool → Option (Text × Option Text) → Held × Step
met_by c waiting place w h d lo = cond d (h, trailing place) (long_or_other c waiting w lo h)

abbrev pub step_by : Shape → Waiting → ℕ → Word → Held → Bool → Option (Text × Option Text) → Kinds
step_by s waiting place w h d lo = step_fault s place (met_by s.rules waiting place w h d lo).0 (met_by s.rules waiting place w h d lo).1

abbrev pub turn_by : Shape → Waiting → ℕ → Word → Held → Bool → Option (Text × Option Text) → Kinds
turn_by s waiting place w h d lo = or_else (cond d [] (flag_by s w h lo)) (step_by s waiting place w h d lo)

abbrev walk_by : List Rule → Word → Walk → Bool → Option (Text × Option Text) → Walk
walk_by c w k d lo = after_step c w k (met_by c k.waiting k.position w k.held d lo).0 (met_by c k.waiting k.position w k.held d lo).1

-- the same of a word that is no long flag
abbrev pub turn_short : Shape → Waiting → ℕ → Word → Held → Option Text → Kinds
turn_short s waiting place w h so = or_else (option_map_or (λ flags. bundle_fault s.rules s.args_override_self flags h) so [])
    (step_fault s place (short_or_plain s.rules waiting w so h).0 (short_or_plain s.rules waiting w so h).1)

abbrev walk_short : List Rule → Word → Walk → Option Text → Walk
walk_short c w k so = after_step c w k (short_or_plain c k.waiting w so k.held).0 (short_or_plain c k.waiting w so k.held).1

pub by_looks : {A : Type 0} (F : Bool → Option (Text × Option Text) → A) (w : Word) (d : Bool) (lo : Option (Text × Option Text))
    → bytes_eq w (codes "--") ≡ d → long_of w ≡ lo → F (bytes_eq w (codes "--")) (long_of w) ≡ F d lo
by_looks F w d lo e f = ap (λ x. F x (long_of w)) e ∙ ap (λ x. F d x) f

arguments_turn : (v : Verb) (rows : List Row) (pending : Option (Text × List Text)) (place : ℕ) (w : Word) → turn_fault (leaf v) [] (arguments_at rows pending place) w
    ≡ turn_by (leaf v) idle place w (hold rows pending) (bytes_eq w (codes "--")) (long_of w)
arguments_turn v rows pending place w = refl

arguments_walk : (v : Verb) (rows : List Row) (pending : Option (Text × List Text)) (place : ℕ) (w : Word) → walked (rules v) [] (arguments_at rows pending place) w
    ≡ walk_by (rules v) w (arguments_at rows pending place) (bytes_eq w (codes "--")) (long_of w)
unfolding walked
arguments_walk v rows pending place w = refl

value_turn : (v : Verb) (rows : List Row) (place : ℕ) (w : Word) → turn_fault (leaf v) [] (value_at rows place) w
    ≡ turn_by (leaf v) (option (codes "predictor")) place w (hold rows (Some (codes "predictor", []))) (bytes_eq w (codes "--")) (long_of w)
value_turn v rows place w = refl

value_walk : (v : Verb) (rows : List Row) (place : ℕ) (w : Word) → walked (rules v) [] (value_at rows place) w
    ≡ walk_by (rules v) w (value_at rows place) (bytes_eq w (codes "--")) (long_of w)
unfolding walked
value_walk v rows place w = refl

-- ---- what a step does

abbrev pub Steps : Verb → Walk → Word → Walk → Type 0
Steps v k w m = (turn_fault (leaf v) [] k w ≡ []) × (walked (rules v) [] k w ≡ m)

abbrev pub Fails : Verb → Walk → Word → Type 0
Fails v k w = turn_fault (leaf v) [] k w ≡ [] → ⊥

-- what is pending can be used
abbrev pub IsQuiet : Verb → List Row → Option (Text × List Text) → Type 0
IsQuiet v rows pending = settle_fault (rules v) false (hold rows pending) ≡ []

pub or_both : (k m : Kinds) → or_else k m ≡ [] → (k ≡ []) × (m ≡ [])
or_both [] m e = (refl, e)
or_both (x ∷ xs) m e = cc

pub no_unknown : {P : Type 0} → kind.UnknownArgument ∷ [] ≡ [] → P
no_unknown e = cc

pub dashes_step : (v : Verb) (rows : List Row) (pending : Option (Text × List Text)) (place : ℕ) → Steps v (arguments_at rows pending place) (codes "--") (behind_at rows pending place idle)
dashes_step v rows pending place = (arguments_turn v rows pending place (codes "--"), arguments_walk v rows pending place (codes "--"))

arguments_flags : (v : Verb) (rows : List Row) (pending : Option (Text × List Text)) (place : ℕ) (w : Word) (lo : Option (Text × Option Text))
    → bytes_eq w (codes "--") ≡ false → long_of w ≡ lo → turn_fault (leaf v) [] (arguments_at rows pending place) w ≡ [] → flag_by (leaf v) w (hold rows pending) lo ≡ []
arguments_flags v rows pending place w lo d l e =
    (or_both (flag_by (leaf v) w (hold rows pending) lo) (step_by (leaf v) idle place w (hold rows pending) false lo)
    (sym (by_looks (turn_by (leaf v) idle place w (hold rows pending)) w false lo d l) ∙ sym (arguments_turn v rows pending place w) ∙ e)).0

value_flags : (v : Verb) (rows : List Row) (place : ℕ) (w : Word) (lo : Option (Text × Option Text))
    → bytes_eq w (codes "--") ≡ false → long_of w ≡ lo → turn_fault (leaf v) [] (value_at rows place) w ≡ [] → flag_by (leaf v) w (hold rows (Some (codes "predictor", []))) lo ≡ []
value_flags v rows place w lo d l e =
    (or_both (flag_by (leaf v) w (hold rows (Some (codes "predictor", []))) lo) (step_by (leaf v) (option (codes "predictor")) place w (hold rows (Some (codes "predictor", []))) false lo)
    (sym (by_looks (turn_by (leaf v) (option (codes "predictor")) place w (hold rows (Some (codes "predictor", [])))) w false lo d l) ∙ sym (value_turn v rows place w) ∙ e)).0

-- a flag that is unknown
unknown_long : (v : Verb) (h : Held) (n : Text) (x : Option Text) → arg_by_long (rules v) n ≡ None → long_fault (rules v) false (arg_by_long (rules v) n) x h ≡ [] → ⊥
unknown_long v h n x none e = no_unknown (sym (ap (λ o. long_fault (rules v) false o x h) none) ∙ e)

bundle_unknown : (v : Verb) (rows : List Row) (pending : Option (Text × List Text)) (head : ℕ) (tail : List ℕ) (y : ℕ) → slice_get (chars (head ∷ tail)) 0 ≡ Some y
    → bundle_fault (rules v) false (head ∷ tail) (hold rows pending) ≡ [] → ⊥
unfolding flags_fault
bundle_unknown v rows pending head tail y first e =
    let rest = drop (length (encode_utf8 y)) (head ∷ tail) in
    let next = flags_fault (rules v) false (length tail) in
    let a : short_fault (rules v) false (arg_by_short (rules v) y) rest (hold rows pending) (next rest 0) ≡ [] = sym (ap (λ o. bundle_step_fault (rules v) false o (head ∷ tail) 0 (hold rows pending) next) first) ∙ e in
    no_unknown (sym (ap (λ o. short_fault (rules v) false o rest (hold rows pending) (next rest 0)) (no_short v y)) ∙ a)

pub short_fails : (v : Verb) (rows : List Row) (pending : Option (Text × List Text)) (place : ℕ) (w : Word) → IsShort w → Fails v (arguments_at rows pending place) w
short_fails v rows pending place w s e = bundle_unknown v rows pending s.head s.tail s.character s.first (sym (ap (λ so. option_map_or (λ flags. bundle_fault (rules v) false flags (hold rows pending)) so []) s.short) ∙ arguments_flags v rows pending place w None s.dashes s.long e)

pub value_short_fails : (v : Verb) (rows : List Row) (place : ℕ) (w : Word) → IsShort w → Fails v (value_at rows place) w
value_short_fails v rows place w s e = bundle_unknown v rows (Some (codes "predictor", [])) s.head s.tail s.character s.first (sym (ap (λ so. option_map_or (λ flags. bundle_fault (rules v) false flags (hold rows (Some (codes "predictor", [])))) so []) s.short) ∙ value_flags v rows place w None s.dashes s.long e)

pub long_fails : (v : Verb) (rows : List Row) (pending : Option (Text × List Text)) (place : ℕ) (w : Word) (l : IsLong w) → bytes_eq (codes "predictor") (name_and_value l.rest).0 ≡ false → Fails v (arguments_at rows pending place) w
long_fails v rows pending place w l other e =
    unknown_long v (hold rows pending) (name_and_value l.rest).0 (name_and_value l.rest).1 (no_long v _ other) (arguments_flags v rows pending place w (Some (name_and_value l.rest)) l.dashes l.long e)

-- ---- names

positional_quiet : (t : Bool) (k : Kinds) → k ≡ [] → cond (t && false) [] k ≡ []
positional_quiet true k e = e
positional_quiet false k e = e

positional_loud : (t : Bool) (k : Kinds) → cond (t && false) [] k ≡ [] → k ≡ []
positional_loud true k e = e
positional_loud false k e = e

behind_turn : (v : Verb) (rows : List Row) (pending : Option (Text × List Text)) (place : ℕ) (waiting : Waiting) (w : Word) → turn_fault (leaf v) [] (behind_at rows pending place waiting) w
    ≡ option_map_or (λ a. positional_fault (rules v) false a (hold rows pending)) (arg_by_index (rules v) place) (stray_fault (leaf v))
behind_turn v rows pending place waiting w = refl

behind_walk : (v : Verb) (rows : List Row) (pending : Option (Text × List Text)) (place : ℕ) (waiting : Waiting) (w : Word) → walked (rules v) [] (behind_at rows pending place waiting) w
    ≡ to_positional (rules v) (arg_by_index (rules v) place) w (behind_at rows pending place waiting) (hold rows pending)
unfolding walked
behind_walk v rows pending place waiting w = refl

name_turn : (v : Verb) (rows : List Row) (pending : Option (Text × List Text)) (place : ℕ) (w : Word) → IsName w → turn_fault (leaf v) [] (arguments_at rows pending place) w
    ≡ option_map_or (λ a. positional_fault (rules v) false a (hold rows pending)) (arg_by_index (rules v) place) (stray_fault (leaf v))
name_turn v rows pending place w n = arguments_turn v rows pending place w ∙ by_looks (turn_by (leaf v) idle place w (hold rows pending)) w false None n.dashes n.long ∙ ap (turn_short (leaf v) idle place w (hold rows pending)) n.short

name_walk : (v : Verb) (rows : List Row) (pending : Option (Text × List Text)) (place : ℕ) (w : Word) → IsName w → walked (rules v) [] (arguments_at rows pending place) w
    ≡ to_positional (rules v) (arg_by_index (rules v) place) w (arguments_at rows pending place) (hold rows pending)
name_walk v rows pending place w n = arguments_walk v rows pending place w ∙ by_looks (walk_by (rules v) w (arguments_at rows pending place)) w false None n.dashes n.long ∙ ap (walk_short (rules v) w (arguments_at rows pending place)) n.short

positional_turn : (v : Verb) (rows : List Row) (pending : Option (Text × List Text)) (place : ℕ) (id : Text) (index : Option ℕ) → arg_by_index (rules v) place ≡ Some (set_rule id None index) → IsQuiet v rows pending
    → option_map_or (λ a. positional_fault (rules v) false a (hold rows pending)) (arg_by_index (rules v) place) (stray_fault (leaf v)) ≡ []
positional_turn v rows pending place id index at quiet =
    ap (λ o. option_map_or (λ a. positional_fault (rules v) false a (hold rows pending)) o (stray_fault (leaf v))) at
    ∙ positional_quiet (is_pending (set_rule id None index) pending) (settle_fault (rules v) false (hold rows pending)) quiet

held_after : (v : Verb) (rows : List Row) (pending : Option (Text × List Text)) (id : Text) (index : Option ℕ) (w : Word) → positional_held (rules v) (set_rule id None index) w (hold rows pending) ≡ hold (settled_rows (rules v) pending rows) (Some (id, w ∷ []))
held_after v rows pending id index w = by_pending (is_pending (set_rule id None index) pending)
  where
    by_pending : (t : Bool) → pushed id w (cond (t && false) (hold rows pending) (settled (rules v) (hold rows pending))) ≡ hold (settled_rows (rules v) pending rows) (Some (id, w ∷ []))
    by_pending true = refl
    by_pending false = refl

pub name_step : (v : Verb) (rows : List Row) (pending : Option (Text × List Text)) (place : ℕ) (w : Word) (id : Text) (index : Option ℕ) → arg_by_index (rules v) place ≡ Some (set_rule id None index) → IsQuiet v rows pending → IsName w
    → Steps v (arguments_at rows pending place) w (arguments_at (settled_rows (rules v) pending rows) (Some (id, w ∷ [])) (min (place + 1) usize_max))
name_step v rows pending place w id index at quiet n = (
  name_turn v rows pending place w n ∙ positional_turn v rows pending place id index at quiet,
  name_walk v rows pending place w n ∙ ap (λ o. to_positional (rules v) o w (arguments_at rows pending place) (hold rows pending)) at
      ∙ ap (λ (h : Held). record { held = h; waiting = idle; position = min (place + 1) usize_max; is_trailing = false; stopped = None }) (held_after v rows pending id index w),
)

pub behind_step : (v : Verb) (rows : List Row) (pending : Option (Text × List Text)) (place : ℕ) (waiting : Waiting) (w : Word) (id : Text) (index : Option ℕ) → arg_by_index (rules v) place ≡ Some (set_rule id None index) → IsQuiet v rows pending
    → Steps v (behind_at rows pending place waiting) w (behind_at (settled_rows (rules v) pending rows) (Some (id, w ∷ [])) (min (place + 1) usize_max) idle)
behind_step v rows pending place waiting w id index at quiet = (
  behind_turn v rows pending place waiting w ∙ positional_turn v rows pending place id index at quiet,
  behind_walk v rows pending place waiting w ∙ ap (λ o. to_positional (rules v) o w (behind_at rows pending place waiting) (hold rows pending)) at
      ∙ ap (λ (h : Held). record { held = h; waiting = idle; position = min (place + 1) usize_max; is_trailing = true; stopped = None }) (held_after v rows pending id index w),
)

stray : (v : Verb) (rows : List Row) (pending : Option (Text × List Text)) (place : ℕ) → arg_by_index (rules v) place ≡ None
    → option_map_or (λ a. positional_fault (rules v) false a (hold rows pending)) (arg_by_index (rules v) place) (stray_fault (leaf v)) ≡ [] → ⊥
stray v rows pending place none e = no_unknown (sym (ap (λ o. option_map_or (λ a. positional_fault (rules v) false a (hold rows pending)) o (stray_fault (leaf v))) none) ∙ e)

pub stray_name : (v : Verb) (rows : List Row) (pending : Option (Text × List Text)) (place : ℕ) (w : Word) → arg_by_index (rules v) place ≡ None → IsName w → Fails v (arguments_at rows pending place) w
stray_name v rows pending place w none n e = stray v rows pending place none (sym (name_turn v rows pending place w n) ∙ e)

pub stray_behind : (v : Verb) (rows : List Row) (pending : Option (Text × List Text)) (place : ℕ) (waiting : Waiting) (w : Word) → arg_by_index (rules v) place ≡ None → Fails v (behind_at rows pending place waiting) w
stray_behind v rows pending place waiting w none e = stray v rows pending place none (sym (behind_turn v rows pending place waiting w) ∙ e)

-- ---- what is pending can't be used

loud : (v : Verb) (rows : List Row) (pending : Option (Text × List Text)) (place : ℕ) (o : Option Rule) → ((a : Rule) → o ≡ Some a → takes_several a ≡ false) → (IsQuiet v rows pending → ⊥)
    → option_map_or (λ a. positional_fault (rules v) false a (hold rows pending)) o (stray_fault (leaf v)) ≡ [] → ⊥
loud v rows pending place None one bad e = no_unknown e
loud v rows pending place (Some a) one bad e = bad (positional_loud (is_pending a pending) _ (ap (λ b. cond (is_pending a pending && b) [] (settle_fault (rules v) false (hold rows pending))) (sym (one a refl)) ∙ e))

one_value : (v : Verb) (ns : List Word) (a : Rule) → arg_by_index (rules v) (place_of ns) ≡ Some a → takes_several a ≡ false
one_value v [] a e = let is : Some task_rule ≡ Some a = sym (first_rule v) ∙ e in let same : task_rule ≡ a = cc in ap takes_several (sym same)
one_value v (x ∷ []) a e = by_two (takes_two v) (sym (second_rule v) ∙ e)
  where
    by_two : (t : Bool) → cond t (Some jobs_rule) None ≡ Some a → takes_several a ≡ false
    by_two true f = let same : jobs_rule ≡ a = cc in ap takes_several (sym same)
    by_two false f = cc
one_value v (x ∷ y ∷ ns) a e = let is : None ≡ Some a = sym (third_rule v) ∙ e in cc

pub loud_name : (v : Verb) (rows : List Row) (pending : Option (Text × List Text)) (ns : List Word) (w : Word) → (IsQuiet v rows pending → ⊥) → IsName w → Fails v (arguments_at rows pending (place_of ns)) w
loud_name v rows pending ns w bad n e = loud v rows pending (place_of ns) (arg_by_index (rules v) (place_of ns)) (one_value v ns) bad (sym (name_turn v rows pending (place_of ns) w n) ∙ e)

pub loud_behind : (v : Verb) (rows : List Row) (pending : Option (Text × List Text)) (ns : List Word) (waiting : Waiting) (w : Word) → (IsQuiet v rows pending → ⊥) → Fails v (behind_at rows pending (place_of ns) waiting) w
loud_behind v rows pending ns waiting w bad e = loud v rows pending (place_of ns) (arg_by_index (rules v) (place_of ns)) (one_value v ns) bad (sym (behind_turn v rows pending (place_of ns) waiting w) ∙ e)

loud_flag : (v : Verb) (rows : List Row) (pending : Option (Text × List Text)) (x : Option Text) (o b : Bool) → (IsQuiet v rows pending → ⊥)
    → long_fault (rules v) false (cond o (cond b (Some predictor_rule) None) None) x (hold rows pending) ≡ [] → ⊥
loud_flag v rows pending x false b bad e = no_unknown e
loud_flag v rows pending x true false bad e = no_unknown e
loud_flag v rows pending None true true bad e = bad e
loud_flag v rows pending (Some y) true true bad e = bad (or_both (settle_fault (rules v) false (hold rows pending)) (use_fault false predictor_rule (y ∷ []) (settled_rows (rules v) pending rows)) e).0

pub loud_long : (v : Verb) (rows : List Row) (pending : Option (Text × List Text)) (place : ℕ) (w : Word) → (IsQuiet v rows pending → ⊥) → IsLong w → Fails v (arguments_at rows pending place) w
loud_long v rows pending place w bad l e =
    loud_flag v rows pending (name_and_value l.rest).1 (takes_option v) (bytes_eq (codes "predictor") (name_and_value l.rest).0 || false) bad
    (ap (λ o. long_fault (rules v) false o (name_and_value l.rest).1 (hold rows pending)) (sym (by_long v (name_and_value l.rest).0)) ∙ arguments_flags v rows pending place w (Some (name_and_value l.rest)) l.dashes l.long e)

-- ---- the option

pub option_step : (v : Verb) (rows : List Row) (pending : Option (Text × List Text)) (place : ℕ) → takes_option v ≡ true → IsQuiet v rows pending → Steps v (arguments_at rows pending place) (codes "--predictor") (value_at (settled_rows (rules v) pending rows) place)
option_step verb.Run rows pending place t quiet = (arguments_turn verb.Run rows pending place (codes "--predictor") ∙ ap (λ k. or_else k []) quiet, arguments_walk verb.Run rows pending place (codes "--predictor"))
option_step verb.Simple rows pending place t quiet = cc
option_step verb.Check rows pending place t quiet = cc
option_step verb.List rows pending place t quiet = cc
option_step verb.Demo rows pending place t quiet = cc

no_option : (v : Verb) (n : Text) → takes_option v ≡ false → arg_by_long (rules v) n ≡ None
no_option v n e = by_long v n ∙ ap (λ b. cond b (cond (bytes_eq (codes "predictor") n || false) (Some predictor_rule) None) None) e

pub option_refused : (v : Verb) (rows : List Row) (pending : Option (Text × List Text)) (place : ℕ) → takes_option v ≡ false → Fails v (arguments_at rows pending place) (codes "--predictor")
option_refused v rows pending place refused e = unknown_long v (hold rows pending) (codes "predictor") None (no_option v (codes "predictor") refused) (arguments_flags v rows pending place (codes "--predictor") (Some (codes "predictor", None)) refl refl e)

pub joined_step : (v : Verb) (rows : List Row) (pending : Option (Text × List Text)) (place : ℕ) (x : Word) → takes_option v ≡ true → IsQuiet v rows pending → has_row (codes "predictor") (settled_rows (rules v) pending rows) ≡ false
    → Steps v (arguments_at rows pending place) (codes "--predictor=" ++ x) (arguments_at (settled_rows (rules v) pending rows ++ rows_for (codes "predictor") x) None place)
joined_step verb.Run rows pending place x t quiet new = (
  arguments_turn verb.Run rows pending place (codes "--predictor=" ++ x) ∙ ap (λ k. or_else (or_else k (use_fault false predictor_rule (x ∷ []) (settled_rows (rules verb.Run) pending rows))) []) quiet
      ∙ ap (λ k. or_else k []) (use_first (codes "predictor") (Some (codes "predictor")) None x (settled_rows (rules verb.Run) pending rows) new),
  arguments_walk verb.Run rows pending place (codes "--predictor=" ++ x)
      ∙ ap (λ r. arguments_at r None place) (used_first (codes "predictor") (Some (codes "predictor")) None x (settled_rows (rules verb.Run) pending rows) new),
)
joined_step verb.Simple rows pending place x t quiet new = cc
joined_step verb.Check rows pending place x t quiet new = cc
joined_step verb.List rows pending place x t quiet new = cc
joined_step verb.Demo rows pending place x t quiet new = cc

pub joined_refused : (v : Verb) (rows : List Row) (pending : Option (Text × List Text)) (place : ℕ) (x : Word) → takes_option v ≡ false → Fails v (arguments_at rows pending place) (codes "--predictor=" ++ x)
joined_refused v rows pending place x refused e = unknown_long v (hold rows pending) (codes "predictor") (Some x) (no_option v (codes "predictor") refused) (arguments_flags v rows pending place (codes "--predictor=" ++ x) (Some (codes "predictor", Some x)) refl refl e)

pub joined_again : (v : Verb) (rows : List Row) (pending : Option (Text × List Text)) (place : ℕ) (x : Word) → takes_option v ≡ true → has_row (codes "predictor") (settled_rows (rules v) pending rows) ≡ true → Fails v (arguments_at rows pending place) (codes "--predictor=" ++ x)
joined_again verb.Run rows pending place x t old e =
    let f = arguments_flags verb.Run rows pending place (codes "--predictor=" ++ x) (Some (codes "predictor", Some x)) refl refl e in
    use_again (codes "predictor") (Some (codes "predictor")) None x (settled_rows (rules verb.Run) pending rows) old
    (or_both (settle_fault (rules verb.Run) false (hold rows pending)) (use_fault false predictor_rule (x ∷ []) (settled_rows (rules verb.Run) pending rows)) f).1
joined_again verb.Simple rows pending place x t old e = cc
joined_again verb.Check rows pending place x t old e = cc
joined_again verb.List rows pending place x t old e = cc
joined_again verb.Demo rows pending place x t old e = cc

-- ---- the option's value

pub value_step : (v : Verb) (rows : List Row) (place : ℕ) (w : Word) → takes_option v ≡ true → IsName w → Steps v (value_at rows place) w (arguments_at rows (Some (codes "predictor", w ∷ [])) place)
value_step verb.Run rows place w t n = (
  value_turn verb.Run rows place w ∙ by_looks (turn_by (leaf verb.Run) (option (codes "predictor")) place w (hold rows (Some (codes "predictor", [])))) w false None n.dashes n.long ∙ ap (turn_short (leaf verb.Run) (option (codes "predictor")) place w (hold rows (Some (codes "predictor", [])))) n.short,
  value_walk verb.Run rows place w ∙ by_looks (walk_by (rules verb.Run) w (value_at rows place)) w false None n.dashes n.long ∙ ap (walk_short (rules verb.Run) w (value_at rows place)) n.short,
)
value_step verb.Simple rows place w t n = cc
value_step verb.Check rows place w t n = cc
value_step verb.List rows place w t n = cc
value_step verb.Demo rows place w t n = cc

pub value_dashes : (v : Verb) (rows : List Row) (place : ℕ) → Steps v (value_at rows place) (codes "--") (behind_at rows (Some (codes "predictor", [])) place (option (codes "predictor")))
value_dashes v rows place = (value_turn v rows place (codes "--"), value_walk v rows place (codes "--"))

-- an option with no value can't be used
pub no_value_yet : (v : Verb) (rows : List Row) → takes_option v ≡ true → IsQuiet v rows (Some (codes "predictor", [])) → ⊥
no_value_yet verb.Run rows t e = let bad : kind.InvalidValue ∷ [] ≡ [] = e in cc
no_value_yet verb.Simple rows t e = cc
no_value_yet verb.Check rows t e = cc
no_value_yet verb.List rows t e = cc
no_value_yet verb.Demo rows t e = cc

pub value_long_fails : (v : Verb) (rows : List Row) (place : ℕ) (w : Word) → takes_option v ≡ true → IsLong w → Fails v (value_at rows place) w
value_long_fails v rows place w t l e =
    loud_flag v rows (Some (codes "predictor", [])) (name_and_value l.rest).1 (takes_option v) (bytes_eq (codes "predictor") (name_and_value l.rest).0 || false) (no_value_yet v rows t)
    (ap (λ o. long_fault (rules v) false o (name_and_value l.rest).1 (hold rows (Some (codes "predictor", [])))) (sym (by_long v (name_and_value l.rest).0)) ∙ value_flags v rows place w (Some (name_and_value l.rest)) l.dashes l.long e)
