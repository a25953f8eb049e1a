-- The registers of a job fit its opening facts.
use Rattle.std.proofs.Common.{◌≡◌, ◌∙◌, refl, sym, ap, ap₂, subst, ℕ, ◌^◌, ◌<◌, ◌≤◌, arith, List, inl, inr, pos, Option, Some, None, length, get_or, replicate}
use Rattle.std.specs.Prelude.{slice_index, slice_set}
use Rattle.std.proofs.lemmas.Bool.{cases_eq, cases_lt}
use Rattle.std.proofs.lemmas.Int.{ints}
use Rattle.std.proofs.lemmas.List.{get_or-replicate, get_or-set_other, get_or-set_same, get_or_past, length-set}
use Rattle.mips_isa.specs.Words.{signed}
use Rattle.mips_ref.specs.Job.{opening_registers}
use Rattle.mips_ref.specs.Mips.{exit_address}
use Rattle.range_facts.specs.Along.{begun, test_of}
use Rattle.range_facts.specs.Fit.{Fit, IsAnswer}
use Rattle.range_facts.specs.Ranges.{Holds, IsFact, constant, unknown, up_to}
use Rattle.range_facts.specs.Transfer.{AreFacts, opening_of, with_fact, word_fact}
use Rattle.range_facts.specs.declared.strided.Strided.{Strided}
use Rattle.range_facts.specs.declared.facts.Facts.{Facts}
use Rattle.range_facts.specs.declared.tests.Test.{Test}
use Rattle.range_facts.proofs.Kept.{put_facts}
use Rattle.range_facts.proofs.Sets.{constant_fact, constant_holds, unknown_fact, up_to_fact}
use Rattle.range_facts.proofs.Values.{unknown_holds, up_to_holds, word_fact_is}
use Rattle.range_facts.proofs.Words.{low_same}

-- all registers zero
zeros : Facts
zeros = record { ranges = replicate 32 (constant (pos 0)) }

zero_fact : IsFact (constant (pos 0))
zero_fact = constant_fact (pos 0) (omega (arith, ints)) (omega (arith, ints))

zeros_are : AreFacts zeros
unfolding zeros
zeros_are =
    record {
      long = refl;
      each = λ r. elim (cases_lt r 32) [
        | inl below ↦ subst (λ s. IsFact s) (sym (get_or-replicate 32 r (constant (pos 0)) unknown below)) zero_fact
        | inr past ↦ subst (λ s. IsFact s) (sym (get_or_past (replicate 32 (constant (pos 0))) r unknown past)) unknown_fact
      ];
      zero_is = refl;
    }

pub opening_are : (input_at input_len stack : ℕ) → input_len ≤ 65536 → AreFacts (opening_of input_at input_len stack)
unfolding opening_of zeros
opening_are input_at input_len stack small =
    let one = put_facts zeros 4 (word_fact input_at) zeros_are (omega arith) (omega arith) (word_fact_is input_at) in
    let two = put_facts (with_fact zeros (Some 4) (word_fact input_at)) 5 (up_to input_len) one (omega arith) (omega arith) (up_to_fact input_len (omega (arith, small))) in
    let three = put_facts (with_fact (with_fact zeros (Some 4) (word_fact input_at)) (Some 5) (up_to input_len)) 29 (word_fact stack) two (omega arith) (omega arith) (word_fact_is stack) in
    put_facts (with_fact (with_fact (with_fact zeros (Some 4) (word_fact input_at)) (Some 5) (up_to input_len)) (Some 29) (word_fact stack)) 31 (word_fact exit_address) three (omega arith) (omega arith)
    (word_fact_is exit_address)

-- words beside facts
pub record Beside (ranges : List Strided) (registers : List ℕ) : Type 0 where
  pub facts : length ranges ≡ 32
  pub long : length registers ≡ 32
  pub words : (r : ℕ) → slice_index registers r < 2 ^ 32
  pub holds : (r : ℕ) → Holds (get_or ranges r unknown) (signed (slice_index registers r))

put_both : (ranges : List Strided) (registers : List ℕ) (r w : ℕ) (s : Strided) → Beside ranges registers → r < 32 → w < 2 ^ 32 → Holds s (signed w) → Beside (slice_set ranges r s) (slice_set registers r w)
put_both ranges registers r w s b below small holds =
    record {
      facts = length-set ranges r s ∙ b.facts;
      long = length-set registers r w ∙ b.long;
      words = λ q. elim (cases_eq q r) [
        | inl same ↦ subst (λ k. get_or (slice_set registers r w) k 0 < 2 ^ 32) (sym same) (subst (λ n. n < 2 ^ 32) (sym put_word) small)
        | inr other ↦ subst (λ n. n < 2 ^ 32) (sym (get_or-set_other registers r q w 0 other)) (b.words q)
      ];
      holds = λ q. elim (cases_eq q r) [
        | inl same ↦ subst (λ k. Holds (get_or (slice_set ranges r s) k unknown) (signed (get_or (slice_set registers r w) k 0))) (sym same)
            (subst (λ t. Holds t (signed (get_or (slice_set registers r w) r 0))) (sym (get_or-set_same ranges r s unknown (omega (arith, b.facts, below))))
            (subst (λ n. Holds s (signed n)) (sym put_word) holds))
        | inr other ↦ subst (λ t. Holds t (signed (get_or (slice_set registers r w) q 0))) (sym (get_or-set_other ranges r q s unknown other))
            (subst (λ n. Holds (get_or ranges q unknown) (signed n)) (sym (get_or-set_other registers r q w 0 other)) (b.holds q))
      ];
    }
  where
    put_word : get_or (slice_set registers r w) r 0 ≡ w
    put_word = get_or-set_same registers r w 0 (omega (arith, b.long, below))

zeros_beside : Beside (replicate 32 (constant (pos 0))) (replicate 32 0)
zeros_beside =
    record {
      facts = refl;
      long = refl;
      words = λ r. elim (cases_lt r 32) [
        | inl below ↦ subst (λ n. n < 2 ^ 32) (sym (get_or-replicate 32 r 0 0 below)) (omega arith)
        | inr past ↦ subst (λ n. n < 2 ^ 32) (sym (get_or_past (replicate 32 0) r 0 past)) (omega arith)
      ];
      holds = λ r. elim (cases_lt r 32) [
        | inl below ↦ subst (λ s. Holds s (signed (get_or (replicate 32 0) r 0))) (sym (get_or-replicate 32 r (constant (pos 0)) unknown below))
            (subst (λ n. Holds (constant (pos 0)) (signed n)) (sym (get_or-replicate 32 r 0 0 below)) (constant_holds (pos 0)))
        | inr past ↦ subst (λ s. Holds s (signed (get_or (replicate 32 0) r 0))) (sym (get_or_past (replicate 32 (constant (pos 0))) r unknown past))
            (subst (λ n. Holds unknown (signed n)) (sym (get_or_past (replicate 32 0) r 0 past)) (unknown_holds 0 (omega arith)))
      ];
    }

word_holds : (w : ℕ) → w < 2 ^ 32 → Holds (word_fact w) (signed w)
word_holds w small = subst (λ n. Holds (word_fact w) (signed n)) (low_same w small) (constant_holds _)

length_holds : (most n : ℕ) → n ≤ most → most ≤ 65536 → Holds (up_to most) (signed n)
length_holds most n le small = subst (λ k. Holds (up_to most) (signed k)) (low_same n (omega (arith, le, small))) (up_to_holds most n le (omega (arith, small)))

no_test : (f : Facts) (r : ℕ) → test_of (begun f) r ≡ None
no_test f r = elim (cases_lt r 32) [
  | inl below ↦ get_or-replicate 32 r None None below
  | inr past ↦ get_or_past (begun f).tests r None past
]

pub opening_are_at : (input_at input_len stack : ℕ) (f : Facts) → input_len ≤ 65536 → f ≡ opening_of input_at input_len stack → AreFacts f
opening_are_at input_at input_len stack f small is = subst (λ g. AreFacts g) (sym is) (opening_are input_at input_len stack small)

pub opening_fits : (input_at input_len stack n : ℕ) → input_at < 2 ^ 32 → stack < 2 ^ 32 → input_len ≤ 65536 → n ≤ input_len → Fit (begun (opening_of input_at input_len stack)) (opening_registers input_at n stack)
unfolding opening_of opening_registers
opening_fits input_at input_len stack n at_small stack_small small le =
    let one = put_both _ _ 4 input_at (word_fact input_at) zeros_beside (omega arith) at_small (word_holds input_at at_small) in
    let two = put_both _ _ 5 n (up_to input_len) one (omega arith) (omega (arith, le, small)) (length_holds input_len n le small) in
    let three = put_both _ _ 29 stack (word_fact stack) two (omega arith) stack_small (word_holds stack stack_small) in
    let all = put_both _ _ 31 exit_address (word_fact exit_address) three (omega arith) (omega arith) (word_holds exit_address (omega arith)) in
    record {
      long = all.long;
      words = all.words;
      holds = all.holds;
      meant = λ r. no_answer r (test_of (begun (opening_of input_at input_len stack)) r) (no_test (opening_of input_at input_len stack) r);
    }
  where
    no_answer : (r : ℕ) (o : Option Test) → o ≡ None → IsAnswer o (slice_index (opening_registers input_at n stack) r) (opening_registers input_at n stack)
    no_answer r None is = tt
    no_answer r (Some t) is = absurd (cc)

abbrev filled : Strided → Strided → Strided → Strided → Strided → Facts
filled z a l s e = record { ranges = slice_set (slice_set (slice_set (slice_set (replicate 32 z) 4 a) 5 l) 29 s) 31 e }

pub opened_is : (input_at input_len stack : ℕ) (z a l s e : Strided) → z ≡ constant (pos 0) → a ≡ word_fact input_at → l ≡ up_to input_len → s ≡ word_fact stack → e ≡ word_fact exit_address
    → filled z a l s e ≡ opening_of input_at input_len stack
unfolding opening_of
opened_is input_at input_len stack z a l s e zs as_is ls ss es =
    ap₂ (λ u v. filled u v l s e) zs as_is ∙ ap (λ u. filled (constant (pos 0)) (word_fact input_at) u s e) ls
    ∙ ap₂ (λ u v. filled (constant (pos 0)) (word_fact input_at) (up_to input_len) u v) ss es
