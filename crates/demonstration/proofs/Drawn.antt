-- The bytes of drawn words.
use Rattle.std.proofs.Common.{◌≡◌, ℕ, zero, suc, Bool, true, false, cond, List, [], ◌∷◌, ◌++◌, length, ◌+◌, ◌*◌, ◌/◌, ◌%◌, ◌^◌, ◌<◌, ◌≤◌, refl, sym, ap, ◌∙◌, subst, arith, length-append}
use Rattle.std.specs.Prelude.{All}
use Rattle.std.specs.Int.{to_be_bytes, w32}
use Rattle.std.proofs.Math.Nat.{mod-lt}
use Rattle.std.proofs.lemmas.List.{append-nil, flat_map_more}
use Rattle.std.proofs.lemmas.List.Elements.{All-nil, All-append, All-from_recursion}
use Rattle.task_text.specs.WordsImage.{word_bytes, words_bytes}
use Rattle.demonstration.specs.Demonstration.{draw, drawn, input_from, is_full, word_count, word_of, words, words_start}

-- one word more, behind other bytes
pub more_bytes : (bs : List ℕ) (ws : List ℕ) (w : ℕ) → (bs ++ words_bytes true ws) ++ to_be_bytes w32 w ≡ bs ++ words_bytes true (ws ++ w ∷ [])
unfolding words_bytes
more_bytes bs ws w = flat_map_more (word_bytes true) bs ws w

-- each word has four bytes
word_low : (w : ℕ) → All (λ b. b < 256) (to_be_bytes w32 w)
word_low w =
    All-from_recursion (λ b. b < 256) (to_be_bytes w32 w)
    (mod-lt (w / 256 ^ 3) (omega arith), (mod-lt (w / 256 ^ 2) (omega arith), (mod-lt (w / 256 ^ 1) (omega arith), (mod-lt w (omega arith), tt))))

no_bytes : words_bytes true [] ≡ []
unfolding words_bytes
no_bytes = refl

pub before_words : (bs : List ℕ) → bs ≡ bs ++ words_bytes true []
before_words bs = sym (ap (λ (l : List ℕ). bs ++ l) no_bytes ∙ append-nil bs)

pub next_number : (start k x y : ℕ) → x ≡ drawn k start → y ≡ draw x → y ≡ drawn (k + 1) start
next_number start k x y is step =
    let one : suc k ≡ k + 1 = omega arith in
    step ∙ ap draw is ∙ ap (λ (n : ℕ). drawn n start) one

pub next_word : (start k x y w : ℕ) (old bs more : List ℕ) → x ≡ drawn k start → y ≡ draw x → bs ≡ old ++ words_bytes true (words k start)
    → w ≡ word_of y → more ≡ bs ++ to_be_bytes w32 w → more ≡ old ++ words_bytes true (words (k + 1) start)
next_word start k x y w old bs more is step before word push =
    let one : suc k ≡ k + 1 = omega arith in
    let here : y ≡ drawn (suc k) start = step ∙ ap draw is in
    push
    ∙ ap (λ (l : List ℕ). l ++ to_be_bytes w32 w) before
    ∙ more_bytes old (words k start) w
    ∙ ap (λ (z : ℕ). old ++ words_bytes true (words k start ++ z ∷ [])) (word ∙ ap word_of here)
    ∙ ap (λ (n : ℕ). old ++ words_bytes true (words n start)) one

drawn_length : (n x : ℕ) → length (words_bytes true (words n x)) ≡ 4 * n
drawn_length zero x = ap length no_bytes
drawn_length (suc n) x =
    let w : ℕ = word_of (drawn (suc n) x) in
    let more = ap length (more_bytes [] (words n x) w) in
    let parts = length-append (words_bytes true (words n x)) (to_be_bytes w32 w) in
    let before = drawn_length n x in
    let four : length (to_be_bytes w32 w) ≡ 4 = refl in
    omega (arith, more, parts, before, four)

drawn_low : (n x : ℕ) → All (λ b. b < 256) (words_bytes true (words n x))
drawn_low zero x = subst (All (λ b. b < 256)) (sym no_bytes) (All-nil (λ b. b < 256))
drawn_low (suc n) x =
    let w : ℕ = word_of (drawn (suc n) x) in
    subst (All (λ b. b < 256)) (more_bytes [] (words n x) w)
    (All-append (λ b. b < 256) (words_bytes true (words n x)) (to_be_bytes w32 w) (drawn_low n x) (word_low w))

-- a job has at most 64 words
pub few_words : (k x : ℕ) → word_count k x ≤ 64
few_words k x = by (is_full k)
  where
    by : (t : Bool) → cond t 64 (draw x / 2 ^ 24 % 8 + 1) ≤ 64
    by true = omega arith
    by false = let l : draw x / 2 ^ 24 % 8 < 8 = mod-lt (draw x / 2 ^ 24) (omega arith) in omega (arith, l)

pub input_length : (k x : ℕ) → length (input_from k x) ≡ 4 * word_count k x
unfolding input_from
input_length k x = drawn_length (word_count k x) (words_start k x)

pub input_low : (k x : ℕ) → All (λ b. b < 256) (input_from k x)
unfolding input_from
input_low k x = drawn_low (word_count k x) (words_start k x)
