-- The charge of a scope, from counts of its lines.
use Rattle.std.proofs.Common.{◌≡◌, refl, sym, ap, subst, ◌∙◌, inl, inr, ℕ, suc, ◌≤◌, ◌<◌, ◌-◌, ◌/◌, ◌^◌, Bool, ◌||◌, List, [], ◌∷◌, length, get_or, arith}
use Rattle.std.specs.Prelude.{◌==◌, ◌&&◌, not, filter, nat_le, map, count_by, Some}
use Rattle.std.specs.List.Sorted.{IsNonDecreasing, IsStrictlyIncreasing}
use Rattle.std.proofs.Math.Pow.{pow_pos}
use Rattle.std.proofs.lemmas.Bool.{cases_eq, cases_lt}
use Rattle.std.proofs.lemmas.List.{get_or_default}
use Rattle.std.proofs.lemmas.List.Kept.{AllPairs-from_increasing}
use Rattle.std.proofs.lemmas.List.Sums.{length-filter}
use Rattle.visa_io.specs.declared.records.Shape.{Shape}
use Rattle.flow_graph.specs.Flow.{Flow}
use Rattle.cache_lru.specs.Recency.{is_among, line_of, lines_of, set_of, without}
use Rattle.cache_lru.proofs.Lines.{AreOnce, among_other, among_same, among-without_same, once_lines, once-without}
use Rattle.cache_lru.proofs.Once.{among-filter, among-lines_of, among-without_other, once-filter, once_same}
use Rattle.persistence.specs.Charges.{IsCharge, addresses_of, each_once, is_persistent, persistent_lines, scope_lines}
use Rattle.persistence.specs.Counts.{IsCount, IsEachOnce, IsFreeOf, has_room}
use Rattle.persistence.proofs.Members.{among_none}

pub some_of_pow : (n k : ℕ) → n ≡ 2 ^ k → 0 < n
some_of_pow n k e = subst (λ q. 0 < q) (sym e) (pow_pos k)

rises_at : (xs : List ℕ) (i j : ℕ) → IsStrictlyIncreasing xs → i ≤ j → j < length xs → get_or xs i 0 ≤ get_or xs j 0
rises_at xs i j rising h l = elim (cases_lt i j) [
  | inl less ↦ omega (arith, AllPairs-from_increasing xs rising i j 0 less l)
  | inr no_less ↦ (let same : i ≡ j = omega arith in omega (arith, ap (λ q. get_or xs q 0) same))
]

-- numbers that rise don't fall
pub not_falling : (xs ys : List ℕ) → ys ≡ xs → IsStrictlyIncreasing xs → IsNonDecreasing ys
not_falling xs ys e rising = subst IsNonDecreasing (sym e) (λ i j d h l.
    omega (arith, rises_at xs i j rising h l, get_or_default xs i d 0 (omega arith), get_or_default xs j d 0 l))

once_apart : (xs : List ℕ) → ((i j : ℕ) → i < j → j < length xs → get_or xs i 0 < get_or xs j 0) → AreOnce xs
once_apart [] all = tt
once_apart (x ∷ xs) all = (
  among_none xs x (λ k l e. absurd (omega (arith, all 0 (suc k) (omega arith) (omega (arith, l)), e))),
  once_apart xs (λ i j h l. all (suc i) (suc j) (omega (arith, h)) (omega (arith, l))),
)

once_rising : (xs : List ℕ) → IsStrictlyIncreasing xs → AreOnce xs
once_rising xs rising = once_apart xs (λ i j h l. AllPairs-from_increasing xs rising i j 0 h l)

pub among-each_once : (k : ℕ) (xs : List ℕ) → is_among k (each_once xs) ≡ is_among k xs
among-each_once k [] = refl
among-each_once k (x ∷ xs) = elim (cases_eq x k) [
  | inl here ↦ among_same k x (without x (each_once xs)) here ∙ sym (among_same k x xs here)
  | inr other ↦ among_other k x (without x (each_once xs)) other ∙ among-without_other k x (each_once xs) other ∙ among-each_once k xs ∙ sym (among_other k x xs other)
]

pub once-each_once : (xs : List ℕ) → AreOnce (each_once xs)
once-each_once [] = tt
once-each_once (x ∷ xs) = (among-without_same x (each_once xs), once-without x (each_once xs) (once-each_once xs))

-- a line's set has room by its count exactly where the line is persistent
room_is : (shape : Shape) (all lines counts : List ℕ) → IsEachOnce lines all → IsCount shape lines counts → 0 < shape.sets → (n : ℕ) → has_room counts shape n ≡ is_persistent shape all n
room_is shape all lines counts once counted some n =
    let s = set_of shape n in
    let few : s < shape.sets = omega (arith, some) in
    let same : length (filter (λ line. set_of shape line == s) lines) ≡ length (lines_of (set_of shape) s all) =
    once_same (filter (λ line. set_of shape line == s) lines) (lines_of (set_of shape) s all) (once-filter (λ line. set_of shape line == s) lines (once_rising lines once.rising)) (once_lines (set_of shape) s all)
    (λ k. among-filter (λ line. set_of shape line == s) k lines ∙ ap (λ q. q && (set_of shape k == s)) (once.same k) ∙ sym (among-lines_of (set_of shape) s k all)) in
    ap (λ q. nat_le q shape.ways) (counted.counted s few ∙ same)

both : (a b c d : Bool) → a ≡ c → b ≡ d → (a && b) ≡ (c && d)
both a b c d e f = ap (λ q. q && b) e ∙ ap (λ q. c && q) f

pub charged_lines : (g : Flow) (scope : List ℕ) (shape : Shape) (addresses lines counts free blocks : List ℕ) (persistent : ℕ) → addresses ≡ addresses_of g scope → IsEachOnce lines (map (λ at. at / shape.line) addresses) → IsCount shape lines counts
    → persistent ≡ count_by (has_room counts shape) lines → blocks ≡ g.blocks → IsFreeOf blocks counts shape addresses free → 0 < shape.sets → IsCharge g scope (Some shape) (record { free = free; persistent = persistent })
charged_lines g scope shape addresses lines counts free blocks persistent is once counted total starts free_is some =
    let all_is : map (λ at. at / shape.line) addresses ≡ scope_lines g scope shape = ap (map (λ at. at / shape.line)) is in
    let lines_are : IsEachOnce lines (scope_lines g scope shape) = subst (IsEachOnce lines) all_is once in
    let rooms = room_is shape (scope_lines g scope shape) lines counts lines_are counted some in
    record {
      charged = λ at. ap not (free_is.same at
          ∙ both _ _ (is_among at (addresses_of g scope)) (is_persistent shape (scope_lines g scope shape) (line_of shape at) || not (is_among at g.blocks || not (line_of shape at == line_of shape (at - 4))))
          (ap (is_among at) is)
          (ap (λ q. q || not (is_among at blocks || not (line_of shape at == line_of shape (at - 4)))) (rooms (line_of shape at))
          ∙ ap (λ q. is_persistent shape (scope_lines g scope shape) (line_of shape at) || not (is_among at q || not (line_of shape at == line_of shape (at - 4)))) starts));
      persistent = total ∙ sym (length-filter (has_room counts shape) lines)
          ∙ once_same (filter (has_room counts shape) lines) (persistent_lines g scope (Some shape)) (once-filter (has_room counts shape) lines (once_rising lines lines_are.rising))
          (once-filter (is_persistent shape (scope_lines g scope shape)) (each_once (scope_lines g scope shape)) (once-each_once (scope_lines g scope shape)))
          (λ k. among-filter (has_room counts shape) k lines ∙ both _ _ (is_among k (each_once (scope_lines g scope shape))) (is_persistent shape (scope_lines g scope shape) k) (lines_are.same k ∙ sym (among-each_once k (scope_lines g scope shape))) (rooms k)
          ∙ sym (among-filter (is_persistent shape (scope_lines g scope shape)) k (each_once (scope_lines g scope shape))));
    }

-- the same where lists are lent
pub charged_of_lent : (g : Flow) (scope : List ℕ) (shape : Shape) (addresses a1 a2 lines l1 l2 counts c1 c2 free blocks : List ℕ) (persistent : ℕ) → addresses ≡ addresses_of g scope
    → a1 ≡ addresses → a2 ≡ addresses → l1 ≡ lines → l2 ≡ lines → c1 ≡ counts → c2 ≡ counts
    → IsEachOnce lines (map (λ at. at / shape.line) a1) → IsCount shape l1 counts → persistent ≡ count_by (has_room c1 shape) l2 → blocks ≡ g.blocks → IsFreeOf blocks c2 shape a2 free → 0 < shape.sets
    → IsCharge g scope (Some shape) (record { free = free; persistent = persistent })
charged_of_lent g scope shape addresses a1 a2 lines l1 l2 counts c1 c2 free blocks persistent is ae af le lf ce cf once counted total starts free_is some =
    charged_lines g scope shape addresses lines counts free blocks persistent is (subst (λ q. IsEachOnce lines (map (λ at. at / shape.line) q)) ae once) (subst (λ q. IsCount shape q counts) le counted)
    (total ∙ ap (λ q. count_by (has_room q shape) l2) ce ∙ ap (λ q. count_by (has_room counts shape) q) lf) starts
    (subst (λ q. IsFreeOf blocks q shape addresses free) cf (subst (λ q. IsFreeOf blocks c2 shape q free) af free_is)) some
