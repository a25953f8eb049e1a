-- Reading the words by `clap` gives exactly what reading them gives.
use Rattle.std.proofs.Common.{◌≡◌, inl, inr, ℕ, Bool, true, false, ◌||◌, List, [], ◌∷◌, ◌++◌, length, map, Option, Some, None, option_map, refl, sym, ap, ◌∙◌, subst, codes, append_assoc}
use Rattle.std.specs.Prelude.{fold, is_some, option_and_then}
use Rattle.std.specs.Option.{option_map_or}
use Rattle.std.specs.Str.{bytes_eq, IsUtf8}
use Rattle.std.specs.String.{string_bytes}
use Rattle.std.specs.declared.string.String.{String}
use Rattle.std.proofs.lemmas.Str.{IsUtf8-string_bytes}
use Rattle.std.proofs.lemmas.List.{append-nil}
use Rattle.clap.specs.Lexer.{long_of, name_and_value}
use Rattle.clap.specs.Walk.{Held, Names, Row, Rule, Text, Walk, first_of, idle, nothing_held, settled, subcommand_met, subcommand_or_other, rows_after, walk_from, walked, with_default}
use Rattle.clap.specs.Simple.{App, Shape, built, entered, names_of, subcommand_of}
use Rattle.clap.specs.Faults.{bundle_fault, bundle_step_fault, check_fault, defaults_fault, entered_fault, fault_of, flags_fault, level_fault, other_fault, settle_fault, step_fault, turn_fault, walk_fault}
use Rattle.clap.specs.Kinds.{Kinds, or_else}
use Rattle.clap.specs.declared.error.kind.ErrorKind.TheVariants as kind
use Rattle.command_line.specs.Commands.{Word, Asked}
use Rattle.command_line.specs.Parser.{parser_app, in_order, names_found, command_in, command_found}
use Rattle.command_line.specs.Reading.{command_of, verb_of}
use Rattle.command_line.specs.declared.verb.Verb.{Verb}
use Rattle.command_line.specs.declared.verb.Verb.TheVariants as verb
use Rattle.command_line.proofs.Choices.{same_word}
use Rattle.command_line.proofs.Found.{is_end}
use Rattle.command_line.proofs.Given.{take_right}
use Rattle.command_line.proofs.OneCommand.{verb_word, verb_text, ended_is, ended_none}
use Rattle.command_line.proofs.ParserRows.{set_rule, no_default, no_default_fault}
use Rattle.command_line.proofs.ParserSteps.{rules, leaf, jobs_rule, predictor_rule, arguments_at, or_both, no_unknown, by_looks, turn_by, turn_short, flag_by, step_by}
use Rattle.command_line.proofs.ParserWalk.{AllText, Holds, IsSettled, Good, Bad, Tells, TellsAt, end_of, first_name, walk_tells}
use Rattle.command_line.proofs.ParserWords.{IsName, IsLong, IsShort, kinds}
use Rattle.command_line.proofs.WordByWord.{Read, after_all, ended, nothing_read, read_behind, read_words, Place, Arguments, Value, Behind}

-- the words of strings are text
pub all_text : {Z : Type 0} (ss : List (String Z)) → AllText (map string_bytes ss)
all_text [] = tt
all_text (s ∷ ss) = (IsUtf8-string_bytes s, all_text ss)

-- ---- one subcommand, with the words behind it

or_nil : (k : Kinds) → or_else k [] ≡ k
or_nil [] = refl
or_nil (x ∷ xs) = refl

defaults_quiet : (rows : List Row) (id : Text) (long : Option Text) (index : Option ℕ) (rest : List Rule) → defaults_fault rows rest ≡ [] → defaults_fault rows (set_rule id long index ∷ rest) ≡ []
unfolding defaults_fault
defaults_quiet rows id long index rest e =
    ap (λ k. or_else k (defaults_fault (with_default rows (set_rule id long index)) rest)) (no_default_fault id long index rows)
    ∙ ap (λ r. defaults_fault r rest) (no_default id long index rows) ∙ e

no_defaults : (rows : List Row) → defaults_fault rows [] ≡ []
unfolding defaults_fault
no_defaults rows = refl

leaf_defaults : (v : Verb) (rows : List Row) → defaults_fault rows (rules v) ≡ []
leaf_defaults verb.Simple rows = defaults_quiet rows (codes "task") None (Some 1) (jobs_rule ∷ []) (defaults_quiet rows (codes "jobs") None (Some 2) [] (no_defaults rows))
leaf_defaults verb.Check rows = defaults_quiet rows (codes "task") None (Some 1) [] (no_defaults rows)
leaf_defaults verb.Run rows = defaults_quiet rows (codes "task") None (Some 1) (jobs_rule ∷ predictor_rule ∷ []) (defaults_quiet rows (codes "jobs") None (Some 2) (predictor_rule ∷ []) (defaults_quiet rows (codes "predictor") (Some (codes "predictor")) None [] (no_defaults rows)))
leaf_defaults verb.List rows = defaults_quiet rows (codes "task") None (Some 1) [] (no_defaults rows)
leaf_defaults verb.Demo rows = defaults_quiet rows (codes "task") None (Some 1) [] (no_defaults rows)

defaults_more : (rows : List Row) (id : Text) (long : Option Text) (index : Option ℕ) (rest : List Rule) → fold with_default rows rest ≡ rows → fold with_default rows (set_rule id long index ∷ rest) ≡ rows
defaults_more rows id long index rest e = ap (λ r. fold with_default r rest) (no_default id long index rows) ∙ e

leaf_rows : (v : Verb) (rows : List Row) → fold with_default rows (rules v) ≡ rows
leaf_rows verb.Simple rows = defaults_more rows (codes "task") None (Some 1) (jobs_rule ∷ []) (defaults_more rows (codes "jobs") None (Some 2) [] refl)
leaf_rows verb.Check rows = defaults_more rows (codes "task") None (Some 1) [] refl
leaf_rows verb.Run rows = defaults_more rows (codes "task") None (Some 1) (jobs_rule ∷ predictor_rule ∷ []) (defaults_more rows (codes "jobs") None (Some 2) (predictor_rule ∷ []) (defaults_more rows (codes "predictor") (Some (codes "predictor")) None [] refl))
leaf_rows verb.List rows = defaults_more rows (codes "task") None (Some 1) [] refl
leaf_rows verb.Demo rows = defaults_more rows (codes "task") None (Some 1) [] refl

leaf_checks : (v : Verb) (rows : List Row) → check_fault (leaf v) rows false ≡ []
leaf_checks verb.Simple rows = refl
leaf_checks verb.Check rows = refl
leaf_checks verb.Run rows = refl
leaf_checks verb.List rows = refl
leaf_checks verb.Demo rows = refl

abbrev start : Walk
start = arguments_at [] None 1

abbrev level : Verb → List Word → Kinds
level v rest = level_fault (leaf v) [] nothing_held rest false []

abbrev end_held : Verb → List Word → Held
end_held v rest = (end_of v start rest).held

level_is : (v : Verb) (rest : List Word) → level v rest ≡ or_else (walk_fault (leaf v) [] start rest) (settle_fault (rules v) false (end_held v rest))
level_is v rest =
    let tail : or_else (defaults_fault (settled (rules v) (end_held v rest)).rows (rules v)) (check_fault (leaf v) (fold with_default (settled (rules v) (end_held v rest)).rows (rules v)) false) ≡ [] =
    ap (λ k. or_else k (check_fault (leaf v) (fold with_default (settled (rules v) (end_held v rest)).rows (rules v)) false)) (leaf_defaults v (settled (rules v) (end_held v rest)).rows)
    ∙ leaf_checks v (fold with_default (settled (rules v) (end_held v rest)).rows (rules v)) in
    ap (λ k. or_else (walk_fault (leaf v) [] start rest) (or_else (settle_fault (rules v) false (end_held v rest)) k)) tail
    ∙ ap (or_else (walk_fault (leaf v) [] start rest)) (or_nil (settle_fault (rules v) false (end_held v rest)))

-- ---- the first word

abbrev whole : App
whole = built parser_app

abbrev labels : Names
labels = names_of whole

abbrev before : Walk
before = walk_from nothing_held

abbrev entered_at : Text → List Text → Walk
entered_at n acc = record { held = nothing_held; waiting = idle; position = 1; is_trailing = false; stopped = Some (n, acc) }

entered_walk : (c : List Rule) (names : Names) (ws : List Word) (n : Text) (acc : List Text) → fold (walked c names) (entered_at n acc) ws ≡ entered_at n (acc ++ ws)
unfolding walked
entered_walk c names [] n acc = ap (entered_at n) (sym (append-nil acc))
entered_walk c names (w ∷ ws) n acc = entered_walk c names ws n (acc ++ w ∷ []) ∙ ap (entered_at n) (append_assoc acc (w ∷ []) ws)

entered_quiet : (s : Shape) (names : Names) (ws : List Word) (n : Text) (acc : List Text) → walk_fault s names (entered_at n acc) ws ≡ []
unfolding walk_fault walked
entered_quiet s names [] n acc = refl
entered_quiet s names (w ∷ ws) n acc = entered_quiet s names ws n (acc ++ w ∷ [])

-- the whole parse, by its walk and the walk's faults
abbrev outcome : Walk → Kinds → Kinds
outcome k faults = or_else faults (or_else (entered_fault whole k.stopped) (or_else (settle_fault whole.top.rules whole.top.args_override_self k.held)
    (or_else (defaults_fault (settled whole.top.rules k.held).rows whole.top.rules) (check_fault whole.top (fold with_default (settled whole.top.rules k.held).rows whole.top.rules) (is_some (entered whole k.stopped))))))

fault_is : (words : List Word) → fault_of parser_app words ≡ outcome (fold (walked whole.top.rules labels) before words) (walk_fault whole.top labels before words)
fault_is words = refl

first_walk : (v : Verb) → walked whole.top.rules labels before (verb_word v) ≡ entered_at (verb_word v) []
unfolding walked
first_walk verb.Simple = refl
first_walk verb.Check = refl
first_walk verb.Run = refl
first_walk verb.List = refl
first_walk verb.Demo = refl

first_turn : (v : Verb) → turn_fault whole.top labels before (verb_word v) ≡ []
first_turn verb.Simple = refl
first_turn verb.Check = refl
first_turn verb.Run = refl
first_turn verb.List = refl
first_turn verb.Demo = refl

all_walk : (v : Verb) (rest : List Word) → fold (walked whole.top.rules labels) before (verb_word v ∷ rest) ≡ entered_at (verb_word v) rest
all_walk v rest = ap (λ k. fold (walked whole.top.rules labels) k rest) (first_walk v) ∙ entered_walk whole.top.rules labels rest (verb_word v) []

all_quiet : (v : Verb) (rest : List Word) → walk_fault whole.top labels before (verb_word v ∷ rest) ≡ []
unfolding walk_fault
all_quiet v rest = ap (λ k. or_else k (walk_fault whole.top labels (walked whole.top.rules labels before (verb_word v)) rest)) (first_turn v)
    ∙ ap (λ k. walk_fault whole.top labels k rest) (first_walk v) ∙ entered_quiet whole.top labels rest (verb_word v) []

entered_level : (v : Verb) (rest : List Word) → outcome (entered_at (verb_word v) rest) [] ≡ or_else (level v rest) []
unfolding defaults_fault
entered_level verb.Simple rest = refl
entered_level verb.Check rest = refl
entered_level verb.Run rest = refl
entered_level verb.List rest = refl
entered_level verb.Demo rest = refl

fault_behind : (v : Verb) (rest : List Word) → fault_of parser_app (verb_word v ∷ rest) ≡ level v rest
fault_behind v rest = fault_is (verb_word v ∷ rest) ∙ ap (λ k. outcome k (walk_fault whole.top labels before (verb_word v ∷ rest))) (all_walk v rest)
    ∙ ap (outcome (entered_at (verb_word v) rest)) (all_quiet v rest) ∙ entered_level v rest ∙ or_nil (level v rest)

entered_found : (v : Verb) (rest : List Word) → entered whole (Some (verb_word v, rest)) ≡ Some (verb_word v, rows_after (rules v) [] rest)
entered_found verb.Simple rest = refl
entered_found verb.Check rest = refl
entered_found verb.Run rest = refl
entered_found verb.List rest = refl
entered_found verb.Demo rest = refl

found_behind : (v : Verb) (rest : List Word) → subcommand_of parser_app (verb_word v ∷ rest) ≡ Some (verb_word v, (settled (rules v) (end_held v rest)).rows)
found_behind v rest = ap (λ (k : Walk). entered whole k.stopped) (all_walk v rest) ∙ entered_found v rest ∙ ap (λ rows. Some (verb_word v, rows)) (leaf_rows v (settled (rules v) (end_held v rest)).rows)

-- ---- a first word of the table

verb_again : (v : Verb) → verb_of (verb_word v) ≡ Some v
unfolding verb_of
verb_again verb.Simple = refl
verb_again verb.Check = refl
verb_again verb.Run = refl
verb_again verb.List = refl
verb_again verb.Demo = refl

read_first : (v : Verb) (rest : List Word) → read_words (verb_word v ∷ rest) ≡ option_and_then (ended v) (after_all v nothing_read rest)
unfolding read_words
read_first v rest = ap (option_and_then (read_behind rest)) (verb_again v)

nothing_holds : (v : Verb) → IsSettled v [] None [] None
nothing_holds v = record {
  holds = record { task = record { row = refl; first = refl }; jobs = record { row = refl; first = refl }; value = record { row = refl; first = refl }; few = refl };
  quiet = refl;
}

-- the same answer where `clap` has no fault, and no fault where there is an answer
pub record Agrees (words : List Word) : Type 0 where
  pub found : fault_of parser_app words ≡ [] → command_found (subcommand_of parser_app words) ≡ read_words words
  pub free : (c : Asked) → read_words words ≡ Some c → fault_of parser_app words ≡ []

level_parts : (v : Verb) (rest : List Word) → level v rest ≡ [] → (walk_fault (leaf v) [] start rest ≡ []) × (settle_fault (rules v) false (end_held v rest) ≡ [])
level_parts v rest e = or_both (walk_fault (leaf v) [] start rest) (settle_fault (rules v) false (end_held v rest)) (sym (level_is v rest) ∙ e)

in_rows : (v : Verb) (rows : List Row) (ns : List Word) (u : Option Word) → Holds rows ns u → command_in (verb_word v) rows ≡ command_of v ns u
in_rows v rows ns u h =
    ap (option_and_then (λ x. command_of x (names_found rows) (first_of (codes "predictor") rows))) (verb_again v)
    ∙ ap (λ x. command_of v (in_order x (first_of (codes "jobs") rows)) (first_of (codes "predictor") rows)) h.task.first
    ∙ ap (λ x. command_of v (in_order (first_name ns) x) (first_of (codes "predictor") rows)) h.jobs.first
    ∙ ap (λ x. command_of v x (first_of (codes "predictor") rows)) h.few
    ∙ ap (command_of v ns) h.value.first

good_agrees : (v : Verb) (rest : List Word) (s : Read) → is_end s.place ≡ true → after_all v nothing_read rest ≡ Some s → Good v start rest s.names s.value → Agrees (verb_word v ∷ rest)
good_agrees v rest s done e g = record {
  found = λ _. ap command_found (found_behind v rest) ∙ in_rows v _ s.names s.value g.holds ∙ sym (ended_is v s done) ∙ ap (option_and_then (ended v)) (sym e) ∙ sym (read_first v rest);
  free = λ c f. fault_behind v rest ∙ level_is v rest ∙ ap (λ k. or_else k (settle_fault (rules v) false (end_held v rest))) g.walks ∙ g.settles;
}

bad_agrees : (v : Verb) (rest : List Word) → option_and_then (ended v) (after_all v nothing_read rest) ≡ None → Bad v start rest → Agrees (verb_word v ∷ rest)
bad_agrees v rest e b = record {
  found = λ f. let p = level_parts v rest (sym (fault_behind v rest) ∙ f) in absurd (b p.0 p.1);
  free = λ c f. let bad : None ≡ Some c = sym e ∙ sym (read_first v rest) ∙ f in cc;
}

first_agrees : (v : Verb) (rest : List Word) → AllText rest → Agrees (verb_word v ∷ rest)
first_agrees v rest texts = by_read (after_all v nothing_read rest) refl (walk_tells v rest texts Arguments [] None [] None (nothing_holds v))
  where
    by_place : (s : Read) (p : Place) → s.place ≡ p → after_all v nothing_read rest ≡ Some s → TellsAt p v start rest s.names s.value → Agrees (verb_word v ∷ rest)
    by_place s Arguments at e t = good_agrees v rest s (ap is_end at) e t
    by_place s Value at e t = bad_agrees v rest (ap (option_and_then (ended v)) e ∙ ended_none v s at) t
    by_place s Behind at e t = good_agrees v rest s (ap is_end at) e t

    by_read : (o : Option Read) → after_all v nothing_read rest ≡ o → Tells v start rest o → Agrees (verb_word v ∷ rest)
    by_read None e t = bad_agrees v rest (ap (option_and_then (ended v)) e) t
    by_read (Some s) e t = by_place s s.place refl e t

-- ---- another first word

abbrev first_sub : Word → Option Text
first_sub w = subcommand_met labels idle w

not_verb : (v : Verb) (w : Word) → verb_of w ≡ None → bytes_eq (verb_word v) w ≡ false
not_verb v w none = by_word (bytes_eq (verb_word v) w) refl
  where
    by_word : (t : Bool) → bytes_eq (verb_word v) w ≡ t → bytes_eq (verb_word v) w ≡ false
    by_word true e = let bad : Some v ≡ None = sym (verb_again v) ∙ ap verb_of (same_word (verb_word v) w e) ∙ none in cc
    by_word false e = e

no_sub : (w : Word) → verb_of w ≡ None → first_sub w ≡ None
no_sub w none = ap (option_map (λ s. s.0)) (
    take_right _ _ _ (ap (λ b. b || false) (not_verb verb.Simple w none)) ∙ take_right _ _ _ (ap (λ b. b || false) (not_verb verb.Check w none))
    ∙ take_right _ _ _ (ap (λ b. b || false) (not_verb verb.Run w none)) ∙ take_right _ _ _ (ap (λ b. b || false) (not_verb verb.List w none))
    ∙ take_right _ _ _ (ap (λ b. b || false) (not_verb verb.Demo w none)))

abbrev top_by_sub : Word → Option Text → Kinds
top_by_sub w sub = or_else (other_fault whole.top sub w nothing_held) (step_fault whole.top 1 (subcommand_or_other whole.top.rules sub idle 1 w nothing_held).0 (subcommand_or_other whole.top.rules sub idle 1 w nothing_held).1)

top_turn : (w : Word) → verb_of w ≡ None → turn_fault whole.top labels before w ≡ turn_by whole.top idle 1 w nothing_held (bytes_eq w (codes "--")) (long_of w)
top_turn w none = ap (top_by_sub w) (no_sub w none)

first_fails : (w : Word) (rest : List Word) → (turn_fault whole.top labels before w ≡ [] → ⊥) → fault_of parser_app (w ∷ rest) ≡ [] → ⊥
unfolding walk_fault
first_fails w rest fails e =
    let walks : walk_fault whole.top labels before (w ∷ rest) ≡ [] = (or_both (walk_fault whole.top labels before (w ∷ rest)) _ (sym (fault_is (w ∷ rest)) ∙ e)).0 in
    fails (or_both (turn_fault whole.top labels before w) (walk_fault whole.top labels (walked whole.top.rules labels before w) rest) walks).0

stray_kinds : kind.UnknownArgument ∷ kind.InvalidSubcommand ∷ [] ≡ [] → ⊥
stray_kinds e = cc

top_name : (w : Word) → verb_of w ≡ None → IsName w → turn_fault whole.top labels before w ≡ [] → ⊥
top_name w none n e = stray_kinds (sym (top_turn w none ∙ by_looks (turn_by whole.top idle 1 w nothing_held) w false None n.dashes n.long ∙ ap (turn_short whole.top idle 1 w nothing_held) n.short) ∙ e)

top_flags : (w : Word) (lo : Option (Text × Option Text)) → verb_of w ≡ None → bytes_eq w (codes "--") ≡ false → long_of w ≡ lo → turn_fault whole.top labels before w ≡ [] → flag_by whole.top w nothing_held lo ≡ []
top_flags w lo none d l e =
    (or_both (flag_by whole.top w nothing_held lo) (step_by whole.top idle 1 w nothing_held false lo)
    (sym (by_looks (turn_by whole.top idle 1 w nothing_held) w false lo d l) ∙ sym (top_turn w none) ∙ e)).0

top_long : (w : Word) → verb_of w ≡ None → IsLong w → turn_fault whole.top labels before w ≡ [] → ⊥
top_long w none l e = no_unknown (top_flags w (Some (name_and_value l.rest)) none l.dashes l.long e)

top_short : (w : Word) → verb_of w ≡ None → IsShort w → turn_fault whole.top labels before w ≡ [] → ⊥
unfolding flags_fault
top_short w none s e =
    let f : bundle_fault whole.top.rules false (s.head ∷ s.tail) nothing_held ≡ [] = sym (ap (λ so. option_map_or (λ flags. bundle_fault whole.top.rules false flags nothing_held) so []) s.short) ∙ top_flags w None none s.dashes s.long e in
    no_unknown (sym (ap (λ o. bundle_step_fault whole.top.rules false o (s.head ∷ s.tail) 0 nothing_held (flags_fault whole.top.rules false (length s.tail))) s.first) ∙ f)

dashes_first : (rest : List Word) → fault_of parser_app (codes "--" ∷ rest) ≡ [] → ⊥
unfolding walk_fault walked defaults_fault
dashes_first [] e = let bad : kind.MissingSubcommand ∷ [] ≡ [] = e in cc
dashes_first (x ∷ rest) e = stray_kinds e

no_words : fault_of parser_app [] ≡ [] → ⊥
unfolding walk_fault walked defaults_fault
no_words e = let bad : kind.MissingSubcommand ∷ [] ≡ [] = e in cc

refused_agrees : (words : List Word) → read_words words ≡ None → (fault_of parser_app words ≡ [] → ⊥) → Agrees words
refused_agrees words none bad = record {
  found = λ f. absurd (bad f);
  free = λ c f. let wrong : None ≡ Some c = sym none ∙ f in cc;
}

other_agrees : (w : Word) (rest : List Word) → IsUtf8 w → verb_of w ≡ None → Agrees (w ∷ rest)
unfolding read_words
other_agrees w rest text none = refused_agrees (w ∷ rest) (ap (option_and_then (read_behind rest)) none) (elim (kinds w text) [
  | inl is ↦ subst (λ x. fault_of parser_app (x ∷ rest) ≡ [] → ⊥) (sym is) (dashes_first rest)
  | inr other ↦ elim other [
    | inl n ↦ first_fails w rest (top_name w none n)
    | inr flag ↦ elim flag [
      | inl l ↦ first_fails w rest (top_long w none l)
      | inr s ↦ first_fails w rest (top_short w none s)
    ]
  ]
])

-- `clap` and the reading agree on all words
pub clap_agrees : (words : List Word) → AllText words → Agrees words
unfolding read_words
clap_agrees [] texts = refused_agrees [] refl no_words
clap_agrees (w ∷ rest) texts = by_verb (verb_of w) refl
  where
    by_verb : (o : Option Verb) → verb_of w ≡ o → Agrees (w ∷ rest)
    by_verb None e = other_agrees w rest texts.0 e
    by_verb (Some v) e = subst (λ x. Agrees (x ∷ rest)) (sym (verb_text w v e)) (first_agrees v rest texts.1)
