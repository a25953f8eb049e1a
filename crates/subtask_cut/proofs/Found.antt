-- What a look among rising addresses finds.
use Rattle.std.proofs.Common.{◌≡◌, sym, ap, ◌∙◌, ℕ, ◌<◌, ◌≤◌, Bool, true, false, List, length, get_or, arith, ltb, inl, inr, Result, Ok, Err}
use Rattle.std.specs.Prelude.{AllPairs, is_ok}
use Rattle.std.specs.List.{Contains}
use Rattle.std.specs.List.Sorted.{IsBinarySearchResult, IsNonDecreasingBy, IsPartitionedBy, IsStrictlyIncreasing}
use Rattle.std.specs.Ordering.{nat_cmp}
use Rattle.std.proofs.lemmas.Bool.{cases_order, cases_lt}
use Rattle.std.proofs.lemmas.Bool.Decides.{nat_tests}
use Rattle.std.proofs.lemmas.Grind.{get_or_default_zero}
use Rattle.std.proofs.lemmas.List.{get_or_default}
use Rattle.std.proofs.lemmas.List.Sorted.{searched}
use Rattle.flow_graph.specs.declared.parts.Edge.{Edge}
use Rattle.loop_regions.specs.Cycles.{mark}
use Rattle.loop_regions.specs.Nested.{NotBack}
use Rattle.loop_regions.proofs.FreeWays.{one_number}
use Rattle.loop_regions.proofs.Numbers.{not_missed, rising}
use Rattle.subtask_cut.specs.Search.{IsOn, SaysWhether}

-- edges leave units by rising address
pub leaving_rise : (edges : List Edge) → AllPairs NotBack edges → IsNonDecreasingBy (λ (e : Edge). e.from) edges
leaving_rise edges order i j d le inside = elim (cases_order i j) [
  | inl same ↦ let h = ap (λ k. (get_or edges k d).from) same in omega (arith, h)
  | inr (inl less) ↦ elim (cases_lt (get_or edges j d).from (get_or edges i d).from) [
    | inl back ↦ absurd (order i j d less inside (inl back))
    | inr ahead ↦ ahead
  ]
  | inr (inr more) ↦ absurd (omega arith)
]

pub parted_below : (edges : List Edge) (a : ℕ) → AllPairs NotBack edges
    → IsPartitionedBy (λ (e : Edge). ltb e.from a) edges
parted_below edges a order i j d le inside below =
    let h = leaving_rise edges order i j d le inside in
    below_too (get_or edges i d).from (get_or edges j d).from h below
  where
    below_too : (m n : ℕ) → m ≤ n → ltb n a ≡ true → ltb m a ≡ true
    below_too m n le is = grind (arith, nat_tests)

pub says_among : (xs : List ℕ) (a : ℕ) (r : Result ℕ ℕ) → IsStrictlyIncreasing xs
    → IsBinarySearchResult (λ y. nat_cmp y a) xs r
    → SaysWhether (is_ok r) (Contains xs a)
says_among xs a (Ok i) rise answer =
    let m = searched xs a (Ok i) answer (rising xs rise) in
    (i, m.0, get_or_default_zero xs i a m.0 ∙ m.1)
says_among xs a (Err i) rise answer = λ h. not_missed xs a i rise h answer

pub on_among : (addresses : List ℕ) (marks : List Bool) (a : ℕ) → IsOn addresses marks a → Contains addresses a
on_among addresses marks a o = (o.number, o.below, get_or_default_zero addresses o.number a o.below ∙ o.at)

pub says_on : (addresses : List ℕ) (marks : List Bool) (a u : ℕ) (b : Bool) → IsStrictlyIncreasing addresses
    → u < length addresses → get_or addresses u 0 ≡ a → b ≡ mark marks u → SaysWhether b (IsOn addresses marks a)
says_on addresses marks a u true rise inside at is = record { number = u; below = inside; at = at; on = sym is }
says_on addresses marks a u false rise inside at is = λ o.
    let same = one_number addresses rise o.number u o.below inside (o.at ∙ sym at) in
    absurd (let bad : true ≡ false = sym o.on ∙ ap (mark marks) same ∙ sym is in let b : ⊥ = cc in b)

pub read_mark : (marks : List Bool) (u : ℕ) (b c : Bool) → u < length marks → b ≡ get_or marks u b → b ≡ c
    → mark marks u ≡ c
read_mark marks u b c inside is e = get_or_default marks u false b inside ∙ sym is ∙ e

pub says_found : (addresses : List ℕ) (marks : List Bool) (a u : ℕ) (b : Bool) → IsStrictlyIncreasing addresses
    → IsBinarySearchResult (λ y. nat_cmp y a) addresses (Ok u) → u < length addresses → b ≡ mark marks u
    → SaysWhether b (IsOn addresses marks a)
says_found addresses marks a u b rise answer inside is =
    says_on addresses marks a u b rise inside (searched addresses a (Ok u) answer (rising addresses rise)).1 is
