-- One line after rows.
use Rattle.std.proofs.Common.{find, ◌≡◌, ℕ, Bool, true, false, cond, List, [], ◌∷◌, ◌++◌, ◌⊎◌, inl, inr, Option, Some, None, Result, Ok, Err, refl, sym, ap, ◌∙◌, subst}
use Rattle.std.specs.Str.{bytes_eq}
use Rattle.std.proofs.lemmas.Bool.{cond-true, cond-false}
use Rattle.text_fields.specs.Lines.{fields}
use Rattle.task_text.specs.declared.fault.LineKind.{LineKind}
use Rattle.task_text.specs.declared.fault.LineKind.TheVariants.{Bytes, Word, Field, Value, End}
use Rattle.task_text.specs.declared.row.Keyword.{Keyword}
use Rattle.task_text.specs.declared.row.Keyword.TheVariants as k
use Rattle.task_text.specs.declared.row.Row.{Row}
use Rattle.task_text.specs.Table.{keyword, name, keywords, values, fields_of, is_formed, in_limits, agrees_with_all, may_stand}
use Rattle.task_text.specs.Texts.{is_plain, is_skipped, spelled, IsStart}
use Rattle.task_text.specs.Reading.{keyword_of, row_of, limited, valued, parsed, joined, named, judged, judge}
use Rattle.task_text.proofs.EachKind.{bytes_same, print_read, read_print}

-- what a test with an error tells of its outcome
pub cond_ok : {A E : Type 0} (t : Bool) (a : Result A E) (e : E) (y : A) → cond t a (Err e) ≡ Ok y → (t ≡ true) × (a ≡ Ok y)
cond_ok true a e y h = (refl, h)
cond_ok false a e y h = cc

pub cond_err : {A E : Type 0} (t : Bool) (a : Result A E) (e d : E) → cond t a (Err e) ≡ Err d → ((t ≡ false) × (e ≡ d)) ⊎ ((t ≡ true) × (a ≡ Err d))
cond_err true a e d h = inr (refl, h)
cond_err false a e d h = inl (refl, cc)

-- each keyword is found by its name
pub found_again : (key : Keyword) → keyword_of (name key) ≡ Some key
unfolding keyword_of
found_again k.Version = refl
found_again k.Order = refl
found_again k.Core = refl
found_again k.Memory = refl
found_again k.Icache = refl
found_again k.Dcache = refl
found_again k.Point = refl
found_again k.Time = refl
found_again k.Image = refl
found_again k.Words = refl
found_again k.Entry = refl
found_again k.Stack = refl
found_again k.Ram = refl
found_again k.Input = refl
found_again k.Output = refl
found_again k.Show = refl
found_again k.Cut = refl
found_again k.Loop = refl
found_again k.Fact = refl

found_among : (f : List ℕ) (key : Keyword) (keys : List Keyword) → find (λ x. bytes_eq (name x) f) keys ≡ Some key → f ≡ name key
found_among f key [] h = cc
found_among f key (x ∷ keys) h = by (λ g. found_among f key keys g) (bytes_eq (name x) f) refl
  where
    by : (find (λ x. bytes_eq (name x) f) keys ≡ Some key → f ≡ name key) → (t : Bool) → bytes_eq (name x) f ≡ t → f ≡ name key
    by go true t =
        let found : Some x ≡ Some key = sym (cond-true (bytes_eq (name x) f) (Some x) (find (λ x. bytes_eq (name x) f) keys) t) ∙ h in
        let same : x ≡ key = cc in
        sym (bytes_same (name x) f t) ∙ ap name same
    by go false t = go (sym (cond-false (bytes_eq (name x) f) (Some x) (find (λ x. bytes_eq (name x) f) keys) t) ∙ h)

-- and what is found has the name
pub found_name : (f : List ℕ) (key : Keyword) → keyword_of f ≡ Some key → f ≡ name key
unfolding keyword_of
found_name f key e = found_among f key keywords e

pub name_same : (a b : Keyword) → name a ≡ name b → a ≡ b
name_same a b e = let h : Some a ≡ Some b = sym (found_again a) ∙ ap keyword_of e ∙ found_again b in cc

-- fields that begin with a keyword's name
pub key_same : (a b : Keyword) (xs ys : List (List ℕ)) → name a ∷ xs ≡ name b ∷ ys → (a ≡ b) × (xs ≡ ys)
key_same a b xs ys e = let n : name a ≡ name b = cc in (name_same a b n, cc)

-- a row is known by its fields
pub row_same : (r s : Row) → in_limits r ≡ true → in_limits s ≡ true → fields_of r ≡ fields_of s → r ≡ s
row_same r s lr ls e =
    let same = key_same (keyword r) (keyword s) (values r) (values s) e in
    let h : Some r ≡ Some s = sym (read_print r lr).1 ∙ ap (λ key. row_of key (values r)) same.0 ∙ ap (row_of (keyword s)) same.1 ∙ (read_print s ls).1 in
    cc

-- a list with one more at its end
pub snoc_same : {A : Type 0} (xs ys : List A) (x y : A) → xs ++ x ∷ [] ≡ ys ++ y ∷ [] → (xs ≡ ys) × (x ≡ y)
snoc_same [] [] x y e = (refl, cc)
snoc_same [] (b ∷ []) x y e = cc
snoc_same [] (b ∷ c ∷ ys) x y e = cc
snoc_same (a ∷ []) [] x y e = cc
snoc_same (a ∷ c ∷ xs) [] x y e = cc
snoc_same (a ∷ xs) (b ∷ ys) x y e =
    let head : a ≡ b = cc in
    let tail : xs ++ x ∷ [] ≡ ys ++ y ∷ [] = cc in
    let h = snoc_same xs ys x y tail in
    (λ i. head i ∷ h.0 i, h.1)

pub snoc_some : {A : Type 0} (xs : List A) (x : A) → ¬ (xs ++ x ∷ [] ≡ [])
snoc_some [] x e = cc
snoc_some (a ∷ xs) x e = cc

-- rows are known by what they spell
pub rows_same : (a b : List Row) → IsStart a → IsStart b → spelled a ≡ spelled b → a ≡ b
rows_same [] [] sa sb e = refl
rows_same [] (s ∷ b) sa sb e = absurd (snoc_some (spelled b) (fields_of s) (sym e))
rows_same (r ∷ a) [] sa sb e = absurd (snoc_some (spelled a) (fields_of r) e)
rows_same (r ∷ a) (s ∷ b) sa sb e =
    let h = snoc_same (spelled a) (spelled b) (fields_of r) (fields_of s) e in
    let one = row_same r s sa.1 sb.1 h.1 in
    let rest = rows_same a b sa.3 sb.3 h.0 in
    λ i. one i ∷ rest i

-- a line that says nothing
pub judge_skips : (older : List Row) (l : List ℕ) → is_plain l ≡ true → is_skipped l ≡ true → judge older l ≡ Ok older
unfolding judge
judge_skips older l p s = cond-true (is_plain l) _ (Err Bytes) p ∙ cond-true (is_skipped l) (Ok older) _ s

-- the fields of a row are parsed to it
parsed_again : (x : Row) → in_limits x ≡ true → parsed (keyword x) (values x) ≡ Ok x
unfolding parsed
parsed_again x low =
    let h = read_print x low in
    cond-true (is_formed (keyword x) (values x)) (valued (limited (row_of (keyword x) (values x)))) (Err Field) h.0
    ∙ ap (λ o. valued (limited o)) h.1
    ∙ ap valued (cond-true (in_limits x) (Some x) None low)

-- a line that says this row
pub judge_again : (older : List Row) (r : Row) (l : List ℕ) → is_plain l ≡ true → is_skipped l ≡ false → fields l ≡ fields_of r → may_stand older (keyword r) ≡ true → in_limits r ≡ true → agrees_with_all older r ≡ true → judge older l ≡ Ok (r ∷ older)
unfolding judge
judge_again older r l p s f m low a =
    cond-true (is_plain l) _ (Err Bytes) p
    ∙ cond-false (is_skipped l) (Ok older) _ s
    ∙ ap (judged older) f
    ∙ ap (λ o. named older o (values r)) (found_again (keyword r))
    ∙ cond-true (may_stand older (keyword r)) _ (Err Word) m
    ∙ ap (joined older) (parsed_again r low)
    ∙ cond-true (agrees_with_all older r) (Ok (r ∷ older)) (Err Value) a

-- a line that said a row
pub record Says (older : List Row) (l : List ℕ) (r : Row) : Type 0 where
  pub fields_are : fields l ≡ fields_of r
  pub stands : may_stand older (keyword r) ≡ true
  pub limits : in_limits r ≡ true
  pub agree : agrees_with_all older r ≡ true

-- what a line that was taken tells
abbrev pub Took : List Row → List ℕ → List Row → Type 0
Took older l more = (is_plain l ≡ true) × (((is_skipped l ≡ true) × (more ≡ older)) ⊎ ((is_skipped l ≡ false) × ((r : Row) × (more ≡ r ∷ older) × Says older l r)))

-- what a line that was refused tells, beside the test that it failed
pub record Named (older : List Row) (l : List ℕ) (key : Keyword) (others : List (List ℕ)) : Type 0 where
  pub fields_are : fields l ≡ name key ∷ others
  pub stands : may_stand older key ≡ true

abbrev pub Refused : LineKind → List Row → List ℕ → Type 0
Refused Bytes older l = is_plain l ≡ false
Refused Word older l = (is_plain l ≡ true) × (is_skipped l ≡ false) × ((key : Keyword) (others : List (List ℕ)) → ¬ (Named older l key others))
Refused Field older l = (is_plain l ≡ true) × (is_skipped l ≡ false) × ((key : Keyword) × (others : List (List ℕ)) × Named older l key others × (is_formed key others ≡ false))
Refused Value older l = (is_plain l ≡ true) × (is_skipped l ≡ false) × ((key : Keyword) × (others : List (List ℕ)) × Named older l key others × (is_formed key others ≡ true))
Refused End older l = ⊥

-- what fields that were parsed tell
pub parsed_ok : (key : Keyword) (fs : List (List ℕ)) (r : Row) → parsed key fs ≡ Ok r → (keyword r ≡ key) × (values r ≡ fs) × (in_limits r ≡ true)
unfolding parsed
parsed_ok key fs r e =
    let h = cond_ok (is_formed key fs) (valued (limited (row_of key fs))) Field r e in
    print_read key fs r h.0 (some (limited (row_of key fs)) h.1)
  where
    some : (o : Option Row) → valued o ≡ Ok r → o ≡ Some r
    some None i = cc
    some (Some x) i = cc

parsed_err : (key : Keyword) (fs : List (List ℕ)) (kind : LineKind) → parsed key fs ≡ Err kind → ((is_formed key fs ≡ false) × (Field ≡ kind)) ⊎ ((is_formed key fs ≡ true) × (Value ≡ kind))
unfolding parsed
parsed_err key fs kind e = elim (cond_err (is_formed key fs) (valued (limited (row_of key fs))) Field kind e) [ inl w ↦ inl w | inr w ↦ inr (w.0, value (limited (row_of key fs)) w.1) ]
  where
    value : (o : Option Row) → valued o ≡ Err kind → Value ≡ kind
    value None i = cc
    value (Some x) i = cc

formed_of : (key : Keyword) (fs : List (List ℕ)) (r : Row) → parsed key fs ≡ Ok r → is_formed key fs ≡ true
unfolding parsed
formed_of key fs r e = (cond_ok (is_formed key fs) (valued (limited (row_of key fs))) Field r e).0

-- a line that was taken
pub judge_took : (older : List Row) (l : List ℕ) (more : List Row) → judge older l ≡ Ok more → Took older l more
unfolding judge
judge_took older l more e =
    let h = cond_ok (is_plain l) (cond (is_skipped l) (Ok older) (judged older (fields l))) Bytes more e in
    (h.0, by_skip (is_skipped l) refl h.1)
  where
    by_row : (key : Keyword) (others : List (List ℕ)) → fields l ≡ name key ∷ others → may_stand older key ≡ true → (p : Result Row LineKind) → parsed key others ≡ p → joined older p ≡ Ok more → (r : Row) × (more ≡ r ∷ older) × Says older l r
    by_row key others f m (Ok r) p j =
        let a = cond_ok (agrees_with_all older r) (Ok (r ∷ older)) Value more j in
        let k = parsed_ok key others r p in
        let same : r ∷ older ≡ more = cc in
        (r, sym same, record { fields_are = f ∙ (λ i. name (sym k.0 i) ∷ sym k.1 i); stands = ap (may_stand older) k.0 ∙ m; limits = k.2; agree = a.0 })
    by_row key others f m (Err kind) p j = cc

    by_named : (f : List ℕ) (others : List (List ℕ)) → fields l ≡ f ∷ others → (o : Option Keyword) → keyword_of f ≡ o → named older o others ≡ Ok more → (r : Row) × (more ≡ r ∷ older) × Says older l r
    by_named f others fs None o n = cc
    by_named f others fs (Some key) o n =
        let h = cond_ok (may_stand older key) (joined older (parsed key others)) Word more n in
        let named_so : f ≡ name key = found_name f key o in
        by_row key others (fs ∙ (λ i. named_so i ∷ others)) h.0 (parsed key others) refl h.1

    by_fields : (fs : List (List ℕ)) → fields l ≡ fs → judged older fs ≡ Ok more → (r : Row) × (more ≡ r ∷ older) × Says older l r
    by_fields [] f j = cc
    by_fields (x ∷ others) f j = by_named x others f (keyword_of x) refl j

    by_skip : (t : Bool) → is_skipped l ≡ t → cond (is_skipped l) (Ok older) (judged older (fields l)) ≡ Ok more → ((is_skipped l ≡ true) × (more ≡ older)) ⊎ ((is_skipped l ≡ false) × ((r : Row) × (more ≡ r ∷ older) × Says older l r))
    by_skip true t c = let h : Ok older ≡ Ok more = sym (cond-true (is_skipped l) (Ok older) (judged older (fields l)) t) ∙ c in inl (t, cc)
    by_skip false t c = inr (t, by_fields (fields l) refl (sym (cond-false (is_skipped l) (Ok older) (judged older (fields l)) t) ∙ c))

-- a line that was refused
pub judge_refused : (older : List Row) (l : List ℕ) (kind : LineKind) → judge older l ≡ Err kind → Refused kind older l
unfolding judge
judge_refused older l kind e = elim (cond_err (is_plain l) (cond (is_skipped l) (Ok older) (judged older (fields l))) Bytes kind e) [
  | inl w ↦ subst (λ x. Refused x older l) w.1 w.0
  | inr w ↦ by_skip w.0 (is_skipped l) refl w.1
]
  where
    by_row : is_plain l ≡ true → is_skipped l ≡ false → (key : Keyword) (others : List (List ℕ)) → Named older l key others → (p : Result Row LineKind) → parsed key others ≡ p → joined older p ≡ Err kind → Refused kind older l
    by_row pl sk key others nm (Ok r) p j =
        elim (cond_err (agrees_with_all older r) (Ok (r ∷ older)) Value kind j)
        [ inl w ↦ subst (λ x. Refused x older l) w.1 (pl, sk, (key, others, nm, formed_of key others r p)) | inr w ↦ (let h = w.1 in cc) ]
    by_row pl sk key others nm (Err d) p j =
        let same : d ≡ kind = cc in
        elim (parsed_err key others d p) [
          | inl w ↦ subst (λ x. Refused x older l) (w.1 ∙ same) (pl, sk, (key, others, nm, w.0))
          | inr w ↦ subst (λ x. Refused x older l) (w.1 ∙ same) (pl, sk, (key, others, nm, w.0))
        ]

    by_named : is_plain l ≡ true → is_skipped l ≡ false → (f : List ℕ) (others : List (List ℕ)) → fields l ≡ f ∷ others → (o : Option Keyword) → keyword_of f ≡ o → named older o others ≡ Err kind → Refused kind older l
    by_named pl sk f others fs None o n =
        let same : Word ≡ kind = cc in
        subst (λ x. Refused x older l) same (pl, sk, λ key others2 nm. let a = fs in let b = nm.fields_are in let c = found_again key in let d : f ≡ name key = cc in let g : None ≡ Some key = sym o ∙ ap keyword_of d ∙ c in cc)
    by_named pl sk f others fs (Some key) o n =
        let named_so : f ≡ name key = found_name f key o in
        let fields_so : fields l ≡ name key ∷ others = fs ∙ (λ i. named_so i ∷ others) in
        elim (cond_err (may_stand older key) (joined older (parsed key others)) Word kind n) [
          | inl w ↦ subst (λ x. Refused x older l) w.1 (pl, sk, λ key2 others2 nm. let same = key_same key key2 others others2 (sym fields_so ∙ nm.fields_are) in let b : may_stand older key ≡ true = ap (may_stand older) same.0 ∙ nm.stands in let c = w.0 in cc)
          | inr w ↦ by_row pl sk key others (record { fields_are = fields_so; stands = w.0 }) (parsed key others) refl w.1
        ]

    by_fields : is_plain l ≡ true → is_skipped l ≡ false → (fs : List (List ℕ)) → fields l ≡ fs → judged older fs ≡ Err kind → Refused kind older l
    by_fields pl sk [] f j = let same : Word ≡ kind = cc in subst (λ x. Refused x older l) same (pl, sk, λ key others nm. let a = nm.fields_are in cc)
    by_fields pl sk (x ∷ others) f j = by_named pl sk x others f (keyword_of x) refl j

    by_skip : is_plain l ≡ true → (t : Bool) → is_skipped l ≡ t → cond (is_skipped l) (Ok older) (judged older (fields l)) ≡ Err kind → Refused kind older l
    by_skip pl true t c = let h : Ok older ≡ Err kind = sym (cond-true (is_skipped l) (Ok older) (judged older (fields l)) t) ∙ c in cc
    by_skip pl false t c = by_fields pl t (fields l) refl (sym (cond-false (is_skipped l) (Ok older) (judged older (fields l)) t) ∙ c)
