-- A jobs text read line by line: what is read is the rows of the text, and a refusal names the first line that no jobs text can continue.
use Rattle.std.proofs.Common.{◌≡◌, ℕ, suc, Bool, true, false, cond, ◌&&◌, nat_le, nat_lt, List, [], ◌∷◌, length, ◌+◌, ◌*◌, ◌/◌, ◌%◌, ◌^◌, ◌<◌, Option, Some, None, codes, decimal, refl, sym, ap, ◌∙◌, subst, arith, leb-true, ltb-true, lt-ltb}
use Rattle.std.specs.Int.{is_in_range}
use Rattle.std.specs.List.{list_all}
use Rattle.std.specs.Str.{bytes_eq}
use Rattle.std.specs.Char.{digit_char, digit_value}
use Rattle.std.proofs.lemmas.Bool.{cond-true, cond-false}
use Rattle.std.proofs.lemmas.Bool.Decides.{nat_tests}
use Rattle.text_fields.specs.Numbers.{is_number, saturated, is_hex_digit}
use Rattle.text_fields.proofs.Digits.{and_parts, and_from, saturated_text, number_formed, saturated_again, digit_text, digit_again, digit_back, hex_value_low}
use Rattle.task_text.specs.declared.task.Task.{Task}
use Rattle.task_text.specs.JobsTexts.{JobsRow, version, past, job, bytes_text, input_text, fields_of, is_byte, in_limits}
use Rattle.task_text.specs.declared.jobs_reader.JobsReader.{JobsReader}
use Rattle.task_text.specs.JobsReading.{took_state, are_pairs, is_input, bytes_of, version_of, past_of, job_of, row_of, limited}
use Rattle.task_text.proofs.EachKind.{bytes_same}

-- bytes, written and read
pairs_formed : (bs : List ℕ) → list_all is_byte bs ≡ true → are_pairs (bytes_text bs) ≡ true
pairs_formed [] e = refl
pairs_formed (b ∷ bs) e =
    let p = and_parts (is_byte b) (list_all is_byte bs) e in
    let l : b < 256 = ltb-true b 256 p.0 in
    and_from _ _ (digit_text (b / 16) (omega arith)) (and_from _ _ (digit_text (b % 16) (omega arith)) (pairs_formed bs p.1))

pairs_again : (bs : List ℕ) → list_all is_byte bs ≡ true → bytes_of (bytes_text bs) ≡ bs
pairs_again [] e = refl
pairs_again (b ∷ bs) e =
    let p = and_parts (is_byte b) (list_all is_byte bs) e in
    let l : b < 256 = ltb-true b 256 p.0 in
    let h : digit_value (digit_char (b / 16)) * 16 + digit_value (digit_char (b % 16)) ≡ b =
    (λ i. digit_again (b / 16) (omega arith) i * 16 + digit_again (b % 16) (omega arith) i) ∙ whole b in
    λ i. h i ∷ pairs_again bs p.1 i
  where
    whole : (n : ℕ) → n / 16 * 16 + n % 16 ≡ n
    whole n = omega arith

pairs_back : (h : List ℕ) → are_pairs h ≡ true → bytes_text (bytes_of h) ≡ h
pairs_back [] e = refl
pairs_back (a ∷ []) e = cc
pairs_back (a ∷ b ∷ cs) e =
    let p = and_parts (is_hex_digit a) (is_hex_digit b && are_pairs cs) e in
    let q = and_parts (is_hex_digit b) (are_pairs cs) p.1 in
    let la = hex_value_low a p.0 in
    let lb = hex_value_low b q.0 in
    λ i. (ap digit_char (high (digit_value a) (digit_value b) lb) ∙ digit_back a p.0) i ∷ (ap digit_char (low (digit_value a) (digit_value b) lb) ∙ digit_back b q.0) i ∷ pairs_back cs q.1 i
  where
    high : (x y : ℕ) → y < 16 → (x * 16 + y) / 16 ≡ x
    high x y l = omega arith

    low : (x y : ℕ) → y < 16 → (x * 16 + y) % 16 ≡ y
    low x y l = omega arith

pub pairs_of : (h : List ℕ) → is_input h ≡ true → are_pairs h ≡ true
unfolding is_input
pairs_of h e = (and_parts (nat_lt 0 (length h)) (are_pairs h) e).1

-- an input that was read has a byte
input_some : (h : List ℕ) → is_input h ≡ true → input_text (bytes_of h) ≡ bytes_text (bytes_of h)
unfolding is_input
input_some [] e = cc
input_some (a ∷ []) e = let p = and_parts (nat_lt 0 (suc 0)) (are_pairs (a ∷ [])) e in let q = p.1 in cc
input_some (a ∷ b ∷ cs) e = refl

-- what a row that was read of fields shows of them
abbrev Shown : Task → List (List ℕ) → Option JobsRow → Type 0
Shown t fs None = Unit {0}
Shown t fs (Some r) = in_limits t r ≡ true → fields_of r ≡ fs

shown_if : (t : Task) (b : Bool) (fs : List (List ℕ)) (x y : Option JobsRow) → (b ≡ true → Shown t fs x) → (b ≡ false → Shown t fs y) → Shown t fs (cond b x y)
shown_if t true fs x y p q = p refl
shown_if t false fs x y p q = q refl

version_shown : (t : Task) (f : List ℕ) (others : List (List ℕ)) → f ≡ codes "visa-jobs" → Shown t (f ∷ others) (version_of others)
unfolding version_of
version_shown t f (v ∷ []) e = shown_if t (bytes_eq v (codes "1")) (f ∷ v ∷ []) (Some version) None (λ b low. λ i. sym e i ∷ sym (bytes_same v (codes "1") b) i ∷ []) (λ b. tt)
version_shown t f [] e = tt
version_shown t f (v ∷ w ∷ rest) e = tt

past_shown : (t : Task) (f : List ℕ) (others : List (List ℕ)) → f ≡ codes "past" → Shown t (f ∷ others) (past_of others)
unfolding past_of in_limits
past_shown t f (s ∷ c ∷ []) e = shown_if t (is_number s && is_number c) (f ∷ s ∷ c ∷ []) (Some (past (record { sub = saturated s; cycles = saturated c }))) None
    (λ b low.
    let p = and_parts (is_number s) (is_number c) b in
    let w = and_parts (nat_lt (saturated s) (2 ^ 32)) (is_in_range 1 (length t.cuts + 1) (saturated s) && nat_le (saturated c) (10 ^ 18)) low in
    let x = and_parts (is_in_range 1 (length t.cuts + 1) (saturated s)) (nat_le (saturated c) (10 ^ 18)) w.1 in
    let ls = ltb-true (saturated s) (2 ^ 32) w.0 in
    let lc = leb-true (saturated c) (10 ^ 18) x.1 in
    λ i. sym e i ∷ saturated_text s p.0 (omega (arith, ls)) i ∷ saturated_text c p.1 (omega (arith, lc)) i ∷ [])
    (λ b. tt)
past_shown t f [] e = tt
past_shown t f (s ∷ []) e = tt
past_shown t f (s ∷ c ∷ d ∷ rest) e = tt

job_shown : (t : Task) (f : List ℕ) (others : List (List ℕ)) → f ≡ codes "job" → Shown t (f ∷ others) (job_of others)
unfolding job_of
job_shown t f (h ∷ []) e = shown_if t (bytes_eq h (codes "-")) (f ∷ h ∷ []) (Some (job [])) (cond (is_input h) (Some (job (bytes_of h))) None)
    (λ b low. λ i. sym e i ∷ sym (bytes_same h (codes "-") b) i ∷ [])
    (λ b. shown_if t (is_input h) (f ∷ h ∷ []) (Some (job (bytes_of h))) None
    (λ x low. λ i. sym e i ∷ (input_some h x ∙ pairs_back h (pairs_of h x)) i ∷ [])
    (λ x. tt))
job_shown t f [] e = tt
job_shown t f (h ∷ i ∷ rest) e = tt

-- what is read of fields is written as they stood
pub print_read : (t : Task) (fs : List (List ℕ)) (r : JobsRow) → limited t (row_of fs) ≡ Some r → (fields_of r ≡ fs) × (in_limits t r ≡ true)
unfolding row_of
print_read t fs r e = by_row (row_of fs) (shown fs) e
  where
    shown : (gs : List (List ℕ)) → Shown t gs (row_of gs)
    shown [] = tt
    shown (f ∷ others) =
        shown_if t (bytes_eq f (codes "visa-jobs")) (f ∷ others) (version_of others) (cond (bytes_eq f (codes "past")) (past_of others) (cond (bytes_eq f (codes "job")) (job_of others) None))
        (λ b. version_shown t f others (bytes_same f (codes "visa-jobs") b))
        (λ b. shown_if t (bytes_eq f (codes "past")) (f ∷ others) (past_of others) (cond (bytes_eq f (codes "job")) (job_of others) None)
        (λ x. past_shown t f others (bytes_same f (codes "past") x))
        (λ x. shown_if t (bytes_eq f (codes "job")) (f ∷ others) (job_of others) None
        (λ y. job_shown t f others (bytes_same f (codes "job") y))
        (λ y. tt)))

    by_limits : (x : JobsRow) (b : Bool) → in_limits t x ≡ b → (in_limits t x ≡ true → fields_of x ≡ fs) → cond b (Some x) None ≡ Some r → (fields_of r ≡ fs) × (in_limits t r ≡ true)
    by_limits x true b s i = let same : x ≡ r = cc in subst (λ y. (fields_of y ≡ fs) × (in_limits t y ≡ true)) same (s b, b)
    by_limits x false b s i = cc

    by_row : (o : Option JobsRow) → Shown t fs o → limited t o ≡ Some r → (fields_of r ≡ fs) × (in_limits t r ≡ true)
    by_row None s i = cc
    by_row (Some x) s i = by_limits x (in_limits t x) refl s i

-- what is written is read back
pub read_print : (t : Task) (r : JobsRow) → in_limits t r ≡ true → limited t (row_of (fields_of r)) ≡ Some r
unfolding row_of version_of past_of job_of in_limits is_input
read_print t version low = refl
read_print t (past p) low =
    let w = and_parts (nat_lt p.sub (2 ^ 32)) (is_in_range 1 (length t.cuts + 1) p.sub && nat_le p.cycles (10 ^ 18)) low in
    let x = and_parts (is_in_range 1 (length t.cuts + 1) p.sub) (nat_le p.cycles (10 ^ 18)) w.1 in
    let ls = ltb-true p.sub (2 ^ 32) w.0 in
    let lc = leb-true p.cycles (10 ^ 18) x.1 in
    let ss : p.sub < 2 ^ 64 = omega (arith, ls) in
    let sc : p.cycles < 2 ^ 64 = omega (arith, lc) in
    ap (limited t) (cond-true (is_number (decimal p.sub) && is_number (decimal p.cycles)) (Some (past (record { sub = saturated (decimal p.sub); cycles = saturated (decimal p.cycles) }))) None (and_from _ _ (number_formed p.sub ss) (number_formed p.cycles sc))
    ∙ ap Some (λ i. past (record { sub = saturated_again p.sub ss i; cycles = saturated_again p.cycles sc i })))
    ∙ cond-true (in_limits t (past p)) (Some (past p)) None low
read_print t (job []) low = cond-true (in_limits t (job [])) (Some (job [])) None low
read_print t (job (b ∷ bs)) low =
    let x = and_parts (list_all is_byte (b ∷ bs)) (nat_le (length (b ∷ bs)) t.input_len) low in
    let long : bytes_eq (bytes_text (b ∷ bs)) (codes "-") ≡ false = not_dash (bytes_eq (bytes_text (b ∷ bs)) (codes "-")) refl in
    ap (limited t) (cond-false (bytes_eq (bytes_text (b ∷ bs)) (codes "-")) (Some (job [])) (cond (is_input (bytes_text (b ∷ bs))) (Some (job (bytes_of (bytes_text (b ∷ bs))))) None) long
    ∙ cond-true (is_input (bytes_text (b ∷ bs))) (Some (job (bytes_of (bytes_text (b ∷ bs))))) None (and_from (nat_lt 0 (length (bytes_text (b ∷ bs)))) (are_pairs (bytes_text (b ∷ bs))) (lt-ltb 0 (length (bytes_text (b ∷ bs))) (omega arith)) (pairs_formed (b ∷ bs) x.0))
    ∙ ap (λ y. Some (job y)) (pairs_again (b ∷ bs) x.0))
    ∙ cond-true (in_limits t (job (b ∷ bs))) (Some (job (b ∷ bs))) None low
  where
    not_dash : (d : Bool) → bytes_eq (bytes_text (b ∷ bs)) (codes "-") ≡ d → bytes_eq (bytes_text (b ∷ bs)) (codes "-") ≡ false
    not_dash true d = let e : suc (suc (length (bytes_text bs))) ≡ 1 = ap length (bytes_same (bytes_text (b ∷ bs)) (codes "-") d) in absurd (omega arith)
    not_dash false d = d

-- the bytes that pairs of digits write
pub bytes_are : (h : List ℕ) → are_pairs h ≡ true → list_all is_byte (bytes_of h) ≡ true
bytes_are [] e = refl
bytes_are (a ∷ []) e = cc
bytes_are (a ∷ b ∷ cs) e =
    let p = and_parts (is_hex_digit a) (is_hex_digit b && are_pairs cs) e in
    let q = and_parts (is_hex_digit b) (are_pairs cs) p.1 in
    let la = hex_value_low a p.0 in
    let lb = hex_value_low b q.0 in
    and_from _ _ (small (digit_value a) (digit_value b) la lb) (bytes_are cs q.1)
  where
    small : (x y : ℕ) → x < 16 → y < 16 → nat_lt (x * 16 + y) 256 ≡ true
    small x y lx ly = lt-ltb (x * 16 + y) 256 (omega arith)

pub bytes_count : (h : List ℕ) → are_pairs h ≡ true → length (bytes_of h) ≡ length h / 2
bytes_count [] e = refl
bytes_count (a ∷ []) e = cc
bytes_count (a ∷ b ∷ cs) e =
    let p = and_parts (is_hex_digit a) (is_hex_digit b && are_pairs cs) e in
    let q = and_parts (is_hex_digit b) (are_pairs cs) p.1 in
    more (length (bytes_of cs)) (length cs) (bytes_count cs q.1)
  where
    more : (m n : ℕ) → m ≡ n / 2 → suc m ≡ suc (suc n) / 2
    more m n h = omega arith

-- an input fits the buffer, or doesn't
pub input_fits : (t : Task) (h : List ℕ) → is_input h ≡ true → in_limits t (job (bytes_of h)) ≡ nat_le (length h / 2) t.input_len
unfolding in_limits
input_fits t h e =
    let p = pairs_of h e in
    λ i. bytes_are h p i && nat_le (bytes_count h p i) t.input_len

pub input_too_long : (t : Task) (s : JobsReader) (h : List ℕ) → is_input h ≡ true → t.input_len < length h / 2 → took_state s (limited t (Some (job (bytes_of h)))) ≡ None
input_too_long t s h e l =
    ap (took_state s) (cond-false (in_limits t (job (bytes_of h))) (Some (job (bytes_of h))) None (input_fits t h e ∙ above (length h / 2) t.input_len l))
  where
    above : (m n : ℕ) → n < m → nat_le m n ≡ false
    above m n less = grind (arith, nat_tests)
