-- Parts of a line, one after the other.
use Rattle.std.specs.declared.alloc.AllocError.{AllocError}
use Rattle.std.proofs.Common.{Result, Ok, Err, OnOk, ◌≡◌, ℕ, List, [], ◌∷◌, ◌++◌, map, sym, ap, ◌∙◌, append_assoc, append-nil}
use Rattle.std.specs.List.{flat_map}
use Rattle.std.proofs.lemmas.List.Folds.{flat_map-map}
use Rattle.text_fields.specs.Lines.{spaced}
use Rattle.task_text.specs.declared.row.Row.{Row}
use Rattle.text_fields.specs.Numbers.{hex_text}
use Rattle.task_text.specs.declared.writing.Value.{Value}
use Rattle.task_text.specs.Writing.{value_text, values_text, words_text, row_text}

spaced_values : (n : List ℕ) (vs : List Value) → spaced (n ∷ map value_text vs) ≡ n ++ values_text vs
spaced_values n [] = sym (append-nil n)
spaced_values n (v ∷ vs) = ap (λ x. n ++ (32 ∷ x)) (spaced_values (value_text v) vs)

spaced_words : (n : List ℕ) (ws : List ℕ) → spaced (n ∷ map hex_text ws) ≡ n ++ words_text ws
spaced_words n [] = sym (append-nil n)
spaced_words n (w ∷ ws) = ap (λ x. n ++ (32 ∷ x)) (spaced_words (hex_text w) ws)

pub values_joined : (old m n a b c : List ℕ) (vs : List Value) → m ≡ n → a ≡ old ++ m → b ≡ a ++ values_text vs → c ≡ b ++ 10 ∷ [] → c ≡ old ++ (spaced (n ∷ map value_text vs) ++ 10 ∷ [])
values_joined old m n a b c vs em ea eb ec =
    ec ∙ ap (λ x. x ++ 10 ∷ []) (eb ∙ ap (λ x. x ++ values_text vs) (ea ∙ ap (λ x. old ++ x) em) ∙ append_assoc old n (values_text vs))
    ∙ append_assoc old (n ++ values_text vs) (10 ∷ [])
    ∙ ap (λ x. old ++ (x ++ 10 ∷ [])) (sym (spaced_values n vs))

pub words_joined : (old m n a b c d : List ℕ) (start : ℕ) (ws : List ℕ) → m ≡ n → a ≡ old ++ m → b ≡ a ++ (32 ∷ hex_text start) → c ≡ b ++ words_text ws → d ≡ c ++ 10 ∷ [] → d ≡ old ++ (spaced (n ∷ hex_text start ∷ map hex_text ws) ++ 10 ∷ [])
words_joined old m n a b c d start ws em ea eb ec ed =
    ed ∙ ap (λ x. x ++ 10 ∷ []) (ec ∙ ap (λ x. x ++ words_text ws) (eb ∙ ap (λ x. x ++ (32 ∷ hex_text start)) (ea ∙ ap (λ x. old ++ x) em) ∙ append_assoc old n (32 ∷ hex_text start)) ∙ append_assoc old (n ++ (32 ∷ hex_text start)) (words_text ws))
    ∙ append_assoc old ((n ++ (32 ∷ hex_text start)) ++ words_text ws) (10 ∷ [])
    ∙ ap (λ x. old ++ (x ++ 10 ∷ [])) (append_assoc n (32 ∷ hex_text start) (words_text ws) ∙ ap (λ x. n ++ (32 ∷ x)) (sym (spaced_words (hex_text start) ws)))

-- what a call that succeeds tells
pub on_ok : {P Q : Type 0} (r : Result (Unit {0}) AllocError) → OnOk r P → (P → Q) → OnOk r Q
on_ok (Ok u) p f = f p
on_ok (Err e) p f = tt

-- the text of rows of one kind, and of one row
pub rows_of_kind : {X : Type 0} (make : X → Row) (xs : List X) → flat_map row_text (map make xs) ≡ flat_map (λ x. row_text (make x)) xs
rows_of_kind make xs = flat_map-map row_text make xs

pub text_of_one : (xs : List ℕ) → xs ++ [] ≡ xs
text_of_one xs = append-nil xs

pub ruleset text_rules = (rows_of_kind, text_of_one)
