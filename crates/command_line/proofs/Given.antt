-- What is spelled is read.
use Rattle.std.proofs.Common.{◌≡◌, ℕ, ◌≤◌, Bool, true, false, cond, List, [], ◌∷◌, ◌++◌, length, map, drop, Option, Some, None, unwrap_or, option_map, refl, sym, ap, ◌∙◌, subst, codes, append_assoc, length-append, arith}
use Rattle.std.specs.Option.{option_and_then}
use Rattle.std.specs.List.{list_all, flat_map}
use Rattle.std.proofs.lemmas.List.{append-nil}
use Rattle.command_line.specs.Commands.{Word, Argument, name, option, joined, is_name, is_plain, spelled, names_in, predictors_in, dashes_and, predictor_word}
use Rattle.command_line.specs.declared.forms.PredictorKind.{PredictorKind}
use Rattle.command_line.specs.declared.forms.PredictorKind.TheVariants.{Static, Bimodal, Gshare}
use Rattle.command_line.specs.declared.verb.Verb.{Verb}
use Rattle.command_line.specs.declared.verb.Verb.TheVariants as verb
use Rattle.command_line.proofs.Choices.{both, name_is_no_dashes, name_is_no_option, name_is_not_joined}
use Rattle.command_line.proofs.Found.{put, listed, is_end}
use Rattle.command_line.proofs.WordByWord.{Read, after, after_all, after_argument, one_more, with_name, joined_or_name, takes_two, takes_option, Arguments, Behind}

-- the words lead to these names and these values
pub record Reads (v : Verb) (words : List Word) (r : Read) (ns values : List Word) : Type 0 where
  pub read : Read
  pub is : after_all v r words ≡ Some read
  pub done : is_end read.place ≡ true
  pub names_are : read.names ≡ ns
  pub values_are : listed read.value ≡ values

abbrev pub most_names : Verb → ℕ
most_names v = cond (takes_two v) 2 1

abbrev pub most_values : Verb → ℕ
most_values v = cond (takes_option v) 1 0

-- ---- there is room

one_more_fits : (two : Bool) (ns : List Word) (w : Word) (rest : List Word) → length (ns ++ w ∷ rest) ≤ cond two 2 1 → one_more two ns w ≡ Some (ns ++ w ∷ [])
one_more_fits two [] w rest h = refl
one_more_fits true (a ∷ []) w rest h = refl
one_more_fits false (a ∷ []) w rest h = absurd (omega arith)
one_more_fits true (a ∷ b ∷ ns) w rest h = absurd (omega (arith, length-append ns (w ∷ rest)))
one_more_fits false (a ∷ b ∷ ns) w rest h = absurd (omega (arith, length-append ns (w ∷ rest)))

fits_takes : (b : Bool) (w : Word) (rest : List Word) → length (w ∷ rest) ≤ cond b 1 0 → b ≡ true
fits_takes true w rest h = refl
fits_takes false w rest h = absurd (omega arith)

fits_once : (b : Bool) (x w : Word) (rest : List Word) → length (x ∷ w ∷ rest) ≤ cond b 1 0 → ⊥
fits_once true x w rest h = omega arith
fits_once false x w rest h = omega arith

-- ---- one argument

pub take_left : {A : Type 0} (b : Bool) (x y : A) → b ≡ true → cond b x y ≡ x
take_left true x y e = refl
take_left false x y e = cc

pub take_right : {A : Type 0} (b : Bool) (x y : A) → b ≡ false → cond b x y ≡ y
take_right true x y e = cc
take_right false x y e = refl

pub after_name : (v : Verb) (r : Read) (w : Word) → is_name w ≡ true → after_argument v r w ≡ with_name v r w
after_name v r w e = take_right _ _ _ (name_is_no_dashes w e) ∙ take_right _ _ _ (name_is_no_option w e)
    ∙ ap (λ j. joined_or_name v r w (cond j (Some (drop 12 w)) None)) (name_is_not_joined w e) ∙ take_left _ _ _ e

option_step : (v : Verb) (ns : List Word) (k : PredictorKind) (ws : List Word) → takes_option v ≡ true → after_all v (put Arguments ns None) (codes "--predictor" ∷ predictor_word k ∷ ws) ≡ after_all v (put Arguments ns (Some (predictor_word k))) ws
unfolding after_all after
option_step verb.Run ns Static ws e = refl
option_step verb.Run ns Bimodal ws e = refl
option_step verb.Run ns Gshare ws e = refl
option_step verb.Simple ns k ws e = cc
option_step verb.Check ns k ws e = cc
option_step verb.List ns k ws e = cc
option_step verb.Demo ns k ws e = cc

joined_step : (v : Verb) (ns : List Word) (k : PredictorKind) (ws : List Word) → takes_option v ≡ true → after_all v (put Arguments ns None) ((codes "--predictor=" ++ predictor_word k) ∷ ws) ≡ after_all v (put Arguments ns (Some (predictor_word k))) ws
unfolding after_all after
joined_step verb.Run ns Static ws e = refl
joined_step verb.Run ns Bimodal ws e = refl
joined_step verb.Run ns Gshare ws e = refl
joined_step verb.Simple ns k ws e = cc
joined_step verb.Check ns k ws e = cc
joined_step verb.List ns k ws e = cc
joined_step verb.Demo ns k ws e = cc

-- ---- all words

given_behind : (v : Verb) (ws ns : List Word) (u : Option Word) → length (ns ++ ws) ≤ most_names v → Reads v ws (put Behind ns u) (ns ++ ws) (listed u)
unfolding after_all after
given_behind v [] ns u h = record { read = put Behind ns u; is = refl; done = refl; names_are = sym (append-nil ns); values_are = refl }
given_behind v (w ∷ ws) ns u h =
    let deep = given_behind v ws (ns ++ w ∷ []) u (subst (λ (x : List Word). length x ≤ most_names v) (sym (append_assoc ns (w ∷ []) ws)) h) in
    record {
      read = deep.read;
      is = ap (λ o. option_and_then (λ r. after_all v r ws) (option_map (λ ms. put Behind ms u) o)) (one_more_fits (takes_two v) ns w ws h) ∙ deep.is;
      done = deep.done;
      names_are = deep.names_are ∙ append_assoc ns (w ∷ []) ws;
      values_are = deep.values_are;
    }

pub given : (v : Verb) (arguments : List Argument) (behind : Option (List Word)) (ns : List Word) (u : Option Word) → list_all is_plain arguments ≡ true
    → length (ns ++ (names_in arguments ++ unwrap_or behind [])) ≤ most_names v
    → length (listed u ++ map predictor_word (predictors_in arguments)) ≤ most_values v
    → Reads v (flat_map spelled arguments ++ dashes_and behind) (put Arguments ns u) (ns ++ (names_in arguments ++ unwrap_or behind [])) (listed u ++ map predictor_word (predictors_in arguments))
unfolding after_all after
given v [] None ns u plain few once = record { read = put Arguments ns u; is = refl; done = refl; names_are = sym (append-nil ns); values_are = sym (append-nil (listed u)) }
given v [] (Some behind) ns u plain few once =
    let deep = given_behind v behind ns u few in
    record { read = deep.read; is = deep.is; done = deep.done; names_are = deep.names_are; values_are = deep.values_are ∙ sym (append-nil (listed u)) }
given v (name w ∷ arguments) behind ns u plain few once =
    let p = both (is_name w) (list_all is_plain arguments) plain in
    let regroup = append_assoc ns (w ∷ []) (names_in arguments ++ unwrap_or behind []) in
    let deep = given v arguments behind (ns ++ w ∷ []) u p.1 (subst (λ (x : List Word). length x ≤ most_names v) (sym regroup) few) once in
    record {
      read = deep.read;
      is = ap (λ o. option_and_then (λ r. after_all v r (flat_map spelled arguments ++ dashes_and behind)) o) (after_name v (put Arguments ns u) w p.0)
          ∙ ap (λ o. option_and_then (λ r. after_all v r (flat_map spelled arguments ++ dashes_and behind)) (option_map (λ ms. put Arguments ms u) o)) (one_more_fits (takes_two v) ns w _ few) ∙ deep.is;
      done = deep.done;
      names_are = deep.names_are ∙ regroup;
      values_are = deep.values_are;
    }
given v (option k ∷ arguments) behind ns None plain few once =
    let takes = fits_takes (takes_option v) (predictor_word k) (map predictor_word (predictors_in arguments)) once in
    let deep = given v arguments behind ns (Some (predictor_word k)) plain few once in
    record { read = deep.read; is = option_step v ns k _ takes ∙ deep.is; done = deep.done; names_are = deep.names_are; values_are = deep.values_are }
given v (option k ∷ arguments) behind ns (Some x) plain few once = absurd (fits_once (takes_option v) x (predictor_word k) (map predictor_word (predictors_in arguments)) once)
given v (joined k ∷ arguments) behind ns None plain few once =
    let takes = fits_takes (takes_option v) (predictor_word k) (map predictor_word (predictors_in arguments)) once in
    let deep = given v arguments behind ns (Some (predictor_word k)) plain few once in
    record { read = deep.read; is = joined_step v ns k _ takes ∙ deep.is; done = deep.done; names_are = deep.names_are; values_are = deep.values_are }
given v (joined k ∷ arguments) behind ns (Some x) plain few once = absurd (fits_once (takes_option v) x (predictor_word k) (map predictor_word (predictors_in arguments)) once)
