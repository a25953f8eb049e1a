-- Fields of words.
use Rattle.std.proofs.Common.{take, ◌+◌, ◌*◌, ◌%◌, ◌≤◌, ◌&&◌, nat_eq, nat_le, le-leb, Some, None, Ok, Err, Result, cond, ℤ, ◌≡◌, ℕ, Bool, true, false, List, [], ◌∷◌, map, length, Bor, get_or, ◌<◌, ◌^◌, refl, sym, ap, ◌∙◌, lt-ltb}
use Rattle.std.specs.List.{list_all}
use Rattle.std.proofs.lemmas.List.Folds.{list_all-map, list_all_at}
use Rattle.std.proofs.lemmas.List.{take_all}
use Rattle.std.proofs.lemmas.Bool.{cond-true, cond-false}
use Rattle.text_fields.specs.Numbers.{is_hex, hex, is_number, is_signed_number, saturated}
use Rattle.text_fields.proofs.Digits.{and_parts, and_from, hex_number_text, number_is, signed_of_number}
use Rattle.task_text.specs.declared.fault.LineKind.{LineKind}
use Rattle.task_text.specs.declared.fault.LineKind.TheVariants.{Field}
use Rattle.task_text.specs.declared.row.Row.TheVariants as row
use Rattle.task_text.specs.Table.{is_word, in_limits}
use Rattle.task_text.specs.Reading.{valued, limited}

-- the numbers of words are words
pub all_words : (fs : List (List ℕ)) → list_all is_hex fs ≡ true → list_all is_word (map hex fs) ≡ true
all_words [] e = refl
all_words (f ∷ fs) e = let p = and_parts (is_hex f) (list_all is_hex fs) e in and_from _ _ (lt-ltb (hex f) (2 ^ 32) (hex_number_text f p.0).1) (all_words fs p.1)

pub all_fields : (fs : List (Bor (List ℕ))) → list_all is_hex (map (λ x. x.now) fs) ≡ list_all (λ f. is_hex f.now) fs
all_fields fs = list_all-map is_hex (λ x. x.now) fs

-- words read one by one of fields
is_no : {X : Type 0} (t : Bool) (x : X) → None ≡ cond t (Some x) None → t ≡ false
is_no true x e = cc
is_no false x e = refl

pub no_words : (fs : List (Bor (List ℕ))) (i : ℕ) (d : Bor (List ℕ)) (found : Result (List ℕ) LineKind) → i < length fs
    → None ≡ cond (is_hex (get_or fs i d).now) (Some (hex (get_or fs i d).now)) None → cond (list_all is_hex (map (λ x. x.now) fs)) found (Err Field) ≡ Err Field
no_words fs i d found h e = cond-false _ _ _ (all_fields fs ∙ list_all_at (λ f. is_hex f.now) fs i d h (is_no _ _ e))

pub words_read : (fs : List (Bor (List ℕ))) (i : ℕ) (words : List ℕ) → length fs ≤ i → list_all (λ f. is_hex f.now) (take i fs) ≡ true
    → words ≡ map hex (map (λ x. x.now) (take i fs)) → cond (list_all is_hex (map (λ x. x.now) fs)) (Ok (map hex (map (λ x. x.now) fs))) (Err Field) ≡ Ok words
words_read fs i words end all is =
    let whole = take_all i fs end in
    cond-true _ _ _ (all_fields fs ∙ ap (list_all (λ f. is_hex f.now)) (sym whole) ∙ all)
    ∙ ap Ok (ap (λ gs. map hex (map (λ x. x.now) gs)) (sym whole) ∙ sym is)

pub words_small : (fs : List (List ℕ)) (words : List ℕ) → cond (list_all is_hex fs) (Ok (map hex fs)) (Err Field) ≡ Ok words → list_all is_word words ≡ true
words_small fs words e = by (list_all is_hex fs) refl e
  where
    by : (t : Bool) → list_all is_hex fs ≡ t → cond t (Ok (map hex fs)) (Err Field) ≡ Ok words → list_all is_word words ≡ true
    by true all read = let same : map hex fs ≡ words = cc in ap (list_all is_word) (sym same) ∙ all_words fs all
    by false all read = cc

-- words that were read of fields, and stand within the greatest number of a line
pub words_limited : (start : ℕ) (words : List ℕ) → list_all is_word words ≡ true → 1 ≤ length words → length words ≤ 64
    → in_limits (row.Words (record { start = start; words = words })) ≡ (nat_eq (start % 4) 0 && nat_le (start + 4 * length words) 0xffff_0000)
unfolding in_limits
words_limited start words all some short =
    let count = and_from _ _ (le-leb 1 (length words) some) (le-leb (length words) 64 short) in
    let rest = and_from _ _ count all in
    by (nat_eq (start % 4) 0) (nat_le (start + 4 * length words) 0xffff_0000) _ rest
  where
    by : (a b c : Bool) → c ≡ true → (a && (b && c)) ≡ (a && b)
    by false b c e = refl
    by true false c e = refl
    by true true c e = e

-- a fact whose register and stride were read as numbers
pub fact_read : (at register stride : ℕ) (r s : List ℕ) (l h : ℤ) → Some register ≡ cond (is_number r) (Some (saturated r)) None → Some stride ≡ cond (is_number s) (Some (saturated s)) None
    → valued (limited (Some (row.Fact (record { at = at; register = register; lo = l; hi = h; stride = stride }))))
    ≡ cond (is_signed_number r && is_signed_number s) (valued (limited (cond (is_number r && is_number s) (Some (row.Fact (record { at = at; register = saturated r; lo = l; hi = h; stride = saturated s }))) None))) (Err Field)
fact_read at register stride r s l h er es =
    let a = number_is (is_number r) register (saturated r) er in
    let b = number_is (is_number s) stride (saturated s) es in
    (λ i. valued (limited (Some (row.Fact (record { at = at; register = a.1 i; lo = l; hi = h; stride = b.1 i })))))
    ∙ sym (cond-true _ _ (Err Field) (and_from _ _ (signed_of_number r a.0) (signed_of_number s b.0)) ∙ ap (λ o. valued (limited o)) (cond-true _ _ None (and_from _ _ a.0 b.0)))
