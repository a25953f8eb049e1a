-- Reading the words gives exactly the command that they are, of which there is at most one.
use Rattle.std.proofs.Common.{◌≡◌, inl, inr, ℕ, ◌<◌, ◌≤◌, ◌^◌, true, false, nat_le, List, [], ◌∷◌, length, map, Option, Some, None, option_map, MatchOption, refl, sym, ap, ◌∙◌, subst, codes, decimal, leb-true, le-leb, arith}
use Rattle.std.proofs.lemmas.List.{length-map}
use Rattle.std.specs.Option.{option_and_then}
use Rattle.text_fields.specs.Numbers.{is_number, number}
use Rattle.text_fields.proofs.Digits.{number_text, number_formed, number_again}
use Rattle.command_line.specs.Commands.{Word, Asked, simple, check, run, list, demo, predictor_word, AreArguments, IsPredictor, IsForm, IsCommand, predictors_in, seen}
use Rattle.command_line.specs.Reading.{verb_of, kind_of, predictor_of, seed_of, of_one, of_two, command_of}
use Rattle.command_line.specs.declared.forms.PredictorKind.{PredictorKind}
use Rattle.command_line.specs.declared.forms.Command.{Command}
use Rattle.command_line.specs.declared.verb.Verb.{Verb}
use Rattle.command_line.specs.declared.verb.Verb.TheVariants as verb
use Rattle.std.specs.Str.{bytes_eq}
use Rattle.command_line.proofs.Choices.{chosen, kept, mapped, then_is, same_word, kind_again, kind_word}
use Rattle.command_line.proofs.Found.{listed, is_end, HasKind, Spells, found}
use Rattle.command_line.proofs.Given.{given, most_names, most_values}
use Rattle.command_line.proofs.WordByWord.{Read, read_words, read_behind, after_all, nothing_read, ended, ended_at, takes_option, Place, Arguments, Value, Behind}

-- ---- the number of a demonstration

pub seed_again : (n : ℕ) → n < 2 ^ 32 → seed_of (decimal n) ≡ Some n
unfolding seed_of
seed_again n low = rw (number_formed n (omega arith), number_again n (omega arith), le-leb n 4294967295 (omega arith)) refl

pub seed_text : (w : Word) (n : ℕ) → seed_of w ≡ Some n → (n < 2 ^ 32) × (w ≡ decimal n)
unfolding seed_of
seed_text w n e =
    let k = kept (is_number w) _ n e in
    let j = kept (nat_le (number w) 4294967295) (Some (number w)) n k.1 in
    let is : number w ≡ n = cc in
    let low : number w ≤ 4294967295 = leb-true _ _ j.0 in
    (omega arith, sym (number_text w k.0 (omega arith)) ∙ ap decimal is)

-- ---- the end of the words

pub ended_is : (v : Verb) (s : Read) → is_end s.place ≡ true → ended v s ≡ command_of v s.names s.value
unfolding ended
ended_is v s e = by_place s.place e
  where
    by_place : (p : Place) → is_end p ≡ true → ended_at p v s ≡ command_of v s.names s.value
    by_place Arguments f = refl
    by_place Value f = cc
    by_place Behind f = refl

ended_done : (v : Verb) (s : Read) (c : Asked) → ended v s ≡ Some c → (is_end s.place ≡ true) × (command_of v s.names s.value ≡ Some c)
unfolding ended
ended_done v s c e = by_place s.place e
  where
    by_place : (p : Place) → ended_at p v s ≡ Some c → (is_end p ≡ true) × (command_of v s.names s.value ≡ Some c)
    by_place Arguments f = (refl, f)
    by_place Value f = cc
    by_place Behind f = (refl, f)

pub ended_none : (v : Verb) (s : Read) → s.place ≡ Value → ended v s ≡ None
unfolding ended
ended_none v s e = ap (λ p. ended_at p v s) e

of_one_is : (f : Word → Option Asked) (ns : List Word) (c : Asked) → of_one f ns ≡ Some c → (a : Word) × (ns ≡ a ∷ []) × (f a ≡ Some c)
of_one_is f [] c e = cc
of_one_is f (a ∷ []) c e = (a, refl, e)
of_one_is f (a ∷ b ∷ ns) c e = cc

of_two_is : (f : Word → Word → Option Asked) (ns : List Word) (c : Asked) → of_two f ns ≡ Some c → (a : Word) × (b : Word) × (ns ≡ a ∷ b ∷ []) × (f a b ≡ Some c)
of_two_is f [] c e = cc
of_two_is f (a ∷ []) c e = cc
of_two_is f (a ∷ b ∷ []) c e = (a, b, refl, e)
of_two_is f (a ∷ b ∷ d ∷ ns) c e = cc

none_listed : (u : Option Word) → listed u ≡ [] → u ≡ None
none_listed None e = refl
none_listed (Some w) e = cc

one_listed : (u : Option Word) (w : Word) → listed u ≡ w ∷ [] → u ≡ Some w
one_listed None w e = cc
one_listed (Some x) w e = cc

-- ---- what is spelled is read

reads_form : (v : Verb) (rest names : List Word) (predictors : List PredictorKind) (c : Asked) → AreArguments rest names predictors
    → length names ≤ most_names v → length predictors ≤ most_values v
    → ((u : Option Word) → listed u ≡ map predictor_word predictors → command_of v names u ≡ Some c) → read_behind rest v ≡ Some c
reads_form v rest names predictors c a few once asks =
    let r = given v a.arguments a.behind [] None a.plain (subst (λ (x : List Word). length x ≤ most_names v) a.names_are few)
    (subst (λ (x : List PredictorKind). length (map predictor_word x) ≤ most_values v) a.predictors_are (rw length-map once)) in
    let values : listed r.read.value ≡ map predictor_word predictors = r.values_are ∙ ap (map predictor_word) (sym a.predictors_are) in
    let names_are : r.read.names ≡ names = r.names_are ∙ sym a.names_are in
    ap (λ ws. option_and_then (ended v) (after_all v nothing_read ws)) a.words_are ∙ ap (option_and_then (ended v)) r.is
    ∙ ended_is v r.read r.done ∙ ap (λ ns. command_of v ns r.read.value) names_are ∙ asks r.read.value values

with_predictor : (k : PredictorKind) (predictors : List PredictorKind) → IsPredictor k predictors → (length predictors ≤ 1) × ((u : Option Word) → listed u ≡ map predictor_word predictors → predictor_of u ≡ Some k)
with_predictor k [] h = (omega arith, λ u e. ap predictor_of (none_listed u e) ∙ ap (λ j. Some j) (sym h))
with_predictor k (given ∷ []) h = (omega arith, λ u e. ap predictor_of (one_listed u _ e) ∙ kind_again given ∙ ap (λ j. Some j) (sym h))
with_predictor k (given ∷ again ∷ rest) h = absurd h

form_reads : (c : Asked) (first : Word) (rest names : List Word) (predictors : List PredictorKind) → AreArguments rest names predictors → IsForm c first names predictors → option_and_then (read_behind rest) (verb_of first) ≡ Some c
unfolding verb_of
form_reads (simple task jobs) first rest names predictors a f =
    ap (λ w. option_and_then (read_behind rest) (verb_of w)) f.0
    ∙ reads_form verb.Simple rest names predictors _ a (omega (arith, ap length f.1)) (omega (arith, ap length f.2)) (λ u _. ap (λ ns. command_of verb.Simple ns u) f.1)
form_reads (check task) first rest names predictors a f =
    ap (λ w. option_and_then (read_behind rest) (verb_of w)) f.0
    ∙ reads_form verb.Check rest names predictors _ a (omega (arith, ap length f.1)) (omega (arith, ap length f.2)) (λ u _. ap (λ ns. command_of verb.Check ns u) f.1)
form_reads (run task jobs kind) first rest names predictors a f =
    let p = with_predictor kind predictors f.2 in
    ap (λ w. option_and_then (read_behind rest) (verb_of w)) f.0
    ∙ reads_form verb.Run rest names predictors _ a (omega (arith, ap length f.1)) p.0 (λ u e. ap (λ ns. command_of verb.Run ns u) f.1 ∙ ap (option_map (run task jobs)) (p.1 u e))
form_reads (list task) first rest names predictors a f =
    ap (λ w. option_and_then (read_behind rest) (verb_of w)) f.0
    ∙ reads_form verb.List rest names predictors _ a (omega (arith, ap length f.1)) (omega (arith, ap length f.2)) (λ u _. ap (λ ns. command_of verb.List ns u) f.1)
form_reads (demo seed) first rest names predictors a f =
    ap (λ w. option_and_then (read_behind rest) (verb_of w)) f.0
    ∙ reads_form verb.Demo rest names predictors _ a (omega (arith, ap length f.2)) (omega (arith, ap length f.3)) (λ u _. ap (λ ns. command_of verb.Demo ns u) f.2 ∙ ap (option_map demo) (seed_again seed f.1))

-- the command that the words are is read
pub command_read : (words : List Word) (c : Asked) → IsCommand words c → read_words words ≡ Some c
unfolding read_words
command_read words c h = ap read_words h.words_are ∙ form_reads c h.first h.rest h.names h.predictors h.arguments h.form

-- ---- what is read is spelled

record Spelt (v : Verb) (rest : List Word) (s : Read) : Type 0 where
  predictors : List PredictorKind
  arguments : AreArguments rest s.names predictors
  value_is : listed s.value ≡ map predictor_word predictors
  allowed : takes_option v ≡ false → predictors ≡ []

spelt : (v : Verb) (rest : List Word) (s : Read) → after_all v nothing_read rest ≡ Some s → is_end s.place ≡ true → (takes_option v ≡ true → HasKind s.value) → Spelt v rest s
spelt v rest s e done kinds =
    let f : Spells v rest [] None s = found v rest Arguments [] None s e done kinds in
    record {
      predictors = predictors_in f.arguments;
      arguments = record { arguments = f.arguments; behind = f.behind; words_are = f.words_are; plain = f.plain; names_are = f.names_are; predictors_are = refl };
      value_is = f.value_is;
      allowed = f.allowed;
    }

has_kind : (u : Option Word) (k : PredictorKind) → predictor_of u ≡ Some k → HasKind u
has_kind None k e w f = cc
has_kind (Some x) k e w f = let is : x ≡ w = cc in (k, sym is ∙ kind_word x k e)

predictor_found : (u : Option Word) (k : PredictorKind) (predictors : List PredictorKind) → predictor_of u ≡ Some k → listed u ≡ map predictor_word predictors → IsPredictor k predictors
predictor_found None k [] e f = cc
predictor_found None k (g ∷ rest) e f = cc
predictor_found (Some w) k [] e f = cc
predictor_found (Some w) k (g ∷ []) e f = let is : w ≡ predictor_word g = cc in let again : Some g ≡ Some k = sym (kind_again g) ∙ ap kind_of (sym is) ∙ e in cc
predictor_found (Some w) k (g ∷ h ∷ rest) e f = cc

abbrev pub verb_word : Verb → Word
verb_word verb.Simple = codes "simple"
verb_word verb.Check = codes "check"
verb_word verb.Run = codes "run"
verb_word verb.List = codes "list"
verb_word verb.Demo = codes "demo"

pub verb_text : (w : Word) (v : Verb) → verb_of w ≡ Some v → w ≡ verb_word v
unfolding verb_of
verb_text w v e = elim (chosen (bytes_eq w (codes "simple")) _ _ _ e) [
  | inl h ↦ let is : verb.Simple ≡ v = cc in same_word _ _ h.0 ∙ ap verb_word is
  | inr a ↦ elim (chosen (bytes_eq w (codes "check")) _ _ _ a.1) [
    | inl h ↦ let is : verb.Check ≡ v = cc in same_word _ _ h.0 ∙ ap verb_word is
    | inr b ↦ elim (chosen (bytes_eq w (codes "run")) _ _ _ b.1) [
      | inl h ↦ let is : verb.Run ≡ v = cc in same_word _ _ h.0 ∙ ap verb_word is
      | inr d ↦ elim (chosen (bytes_eq w (codes "list")) _ _ _ d.1) [
        | inl h ↦ let is : verb.List ≡ v = cc in same_word _ _ h.0 ∙ ap verb_word is
        | inr f ↦ let h = kept (bytes_eq w (codes "demo")) _ _ f.1 in let is : verb.Demo ≡ v = cc in same_word _ _ h.0 ∙ ap verb_word is
      ]
    ]
  ]
]

record HasForm (first : Word) (rest : List Word) (c : Asked) : Type 0 where
  names : List Word
  predictors : List PredictorKind
  arguments : AreArguments rest names predictors
  form : IsForm c first names predictors

has_form : (v : Verb) (rest : List Word) (c : Asked) (first : Word) → read_behind rest v ≡ Some c → first ≡ verb_word v → HasForm first rest c
has_form verb.Simple rest c first e w =
    let t = then_is (ended verb.Simple) (after_all verb.Simple nothing_read rest) c e in
    let d = ended_done verb.Simple t.0 c t.2 in
    let a = spelt verb.Simple rest t.0 t.1 d.0 (λ b. cc) in
    let n = of_two_is _ t.0.names c d.1 in
    let is : simple n.0 n.1 ≡ c = cc in
    record { names = t.0.names; predictors = a.predictors; arguments = a.arguments; form = subst (λ x. IsForm x first t.0.names a.predictors) is (w, n.2, a.allowed refl) }
has_form verb.Check rest c first e w =
    let t = then_is (ended verb.Check) (after_all verb.Check nothing_read rest) c e in
    let d = ended_done verb.Check t.0 c t.2 in
    let a = spelt verb.Check rest t.0 t.1 d.0 (λ b. cc) in
    let n = of_one_is _ t.0.names c d.1 in
    let is : check n.0 ≡ c = cc in
    record { names = t.0.names; predictors = a.predictors; arguments = a.arguments; form = subst (λ x. IsForm x first t.0.names a.predictors) is (w, n.1, a.allowed refl) }
has_form verb.Run rest c first e w =
    let t = then_is (ended verb.Run) (after_all verb.Run nothing_read rest) c e in
    let d = ended_done verb.Run t.0 c t.2 in
    let n = of_two_is _ t.0.names c d.1 in
    let p = mapped (run n.0 n.1) (predictor_of t.0.value) c n.3 in
    let a = spelt verb.Run rest t.0 t.1 d.0 (λ b. has_kind t.0.value p.0 p.1) in
    record { names = t.0.names; predictors = a.predictors; arguments = a.arguments; form = subst (λ x. IsForm x first t.0.names a.predictors) p.2 (w, n.2, predictor_found t.0.value p.0 a.predictors p.1 a.value_is) }
has_form verb.List rest c first e w =
    let t = then_is (ended verb.List) (after_all verb.List nothing_read rest) c e in
    let d = ended_done verb.List t.0 c t.2 in
    let a = spelt verb.List rest t.0 t.1 d.0 (λ b. cc) in
    let n = of_one_is _ t.0.names c d.1 in
    let is : list n.0 ≡ c = cc in
    record { names = t.0.names; predictors = a.predictors; arguments = a.arguments; form = subst (λ x. IsForm x first t.0.names a.predictors) is (w, n.1, a.allowed refl) }
has_form verb.Demo rest c first e w =
    let t = then_is (ended verb.Demo) (after_all verb.Demo nothing_read rest) c e in
    let d = ended_done verb.Demo t.0 c t.2 in
    let a = spelt verb.Demo rest t.0 t.1 d.0 (λ b. cc) in
    let n = of_one_is _ t.0.names c d.1 in
    let p = mapped demo (seed_of n.0) c n.2 in
    let s = seed_text n.0 p.0 p.1 in
    record { names = t.0.names; predictors = a.predictors; arguments = a.arguments; form = subst (λ x. IsForm x first t.0.names a.predictors) p.2 (w, s.0, n.1 ∙ ap (λ x. x ∷ []) s.1, a.allowed refl) }

-- what is read is the command that the words are
pub read_command_is : (words : List Word) (c : Asked) → read_words words ≡ Some c → IsCommand words c
unfolding read_words
read_command_is [] c e = cc
read_command_is (first ∷ rest) c e =
    let t = then_is (read_behind rest) (verb_of first) c e in
    let h = has_form t.0 rest c first t.2 (verb_text first t.0 t.1) in
    record { first = first; rest = rest; words_are = refl; names = h.names; predictors = h.predictors; arguments = h.arguments; form = h.form }

-- the words are at most one command
pub one_command : (words : List Word) (c d : Asked) → IsCommand words c → IsCommand words d → c ≡ d
one_command words c d h k = let same : Some c ≡ Some d = sym (command_read words c h) ∙ command_read words d k in cc

-- an answer that agrees with the reading
pub answered : (words : List Word) (r : Option Command) → option_map seen r ≡ read_words words → MatchOption r ((c : Asked) → ¬ (IsCommand words c)) (λ c. IsCommand words (seen c))
answered words None e = λ c h. let f = command_read words c h in cc
answered words (Some x) e = read_command_is words (seen x) (sym e)
