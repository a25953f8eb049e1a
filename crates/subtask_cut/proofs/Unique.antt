-- One answer alone comes of a graph, its regions and the cuts.
use Rattle.std.proofs.Common.{◌≡◌, refl, sym, ap, subst, ◌∙◌, ℕ, zero, suc, ◌+◌, ◌<◌, ◌≤◌, List, [], ◌∷◌, length, get_or, arith, ◌⊎◌, inl, inr}
use Rattle.std.specs.List.{Contains}
use Rattle.std.specs.List.Sorted.{IsStrictlyIncreasing}
use Rattle.std.proofs.lemmas.List.Kept.{AllPairs-from_increasing}
use Rattle.std.proofs.lemmas.Option.{slice_get-get_or}
use Rattle.visa_io.specs.declared.records.Region.{Region}
use Rattle.flow_graph.specs.Flow.{Flow}
use Rattle.subtask_cut.specs.Cuts.{AreSubTasks, Has, IsFirst, IsNoLater, IsScope, SubTasks, number_of, rank}
use Rattle.subtask_cut.specs.declared.fault.CutFault.{CutFault}
use Rattle.subtask_cut.specs.declared.fault.CutFault.TheVariants.{Slot, InCallee, InRegion, Order, Bypassed, Memory}

-- rising lists with the same members

rest_rises : (x : ℕ) (xs : List ℕ) → IsStrictlyIncreasing (x ∷ xs) → IsStrictlyIncreasing xs
rest_rises x xs rise k inside =
    let h = rise (k + 1) (omega (arith, inside)) in
    let one = ap (λ n. get_or (x ∷ xs) n 0) (let e : k + 1 ≡ suc k = omega arith in e) in
    let two = ap (λ n. get_or (x ∷ xs) n 0) (let e : k + 1 + 1 ≡ suc (k + 1) = omega arith in e) in
    omega (arith, h, one, two)

head_below : (x : ℕ) (xs : List ℕ) (u : ℕ) → IsStrictlyIncreasing (x ∷ xs) → Contains xs u → x < u
head_below x xs u rise (k, inside, is) =
    let h = AllPairs-from_increasing (x ∷ xs) rise 0 (suc k) u (omega arith) (omega (arith, inside)) in
    omega (arith, h, is)

later : (x : ℕ) (xs : List ℕ) (u : ℕ) → Contains xs u → Contains (x ∷ xs) u
later x xs u (k, inside, is) = (suc k, omega (arith, inside), is)

head_or : (x : ℕ) (xs : List ℕ) (u : ℕ) → Contains (x ∷ xs) u → (x ≡ u) ⊎ Contains xs u
head_or x xs u (zero, inside, is) = inl is
head_or x xs u (suc k, inside, is) = inr (k, omega (arith, inside), is)

abbrev HaveSame : List ℕ → List ℕ → Type 0
HaveSame xs ys = (u : ℕ) → Contains xs u → Contains ys u

least_head : (x y : ℕ) (xs ys : List ℕ) → IsStrictlyIncreasing (y ∷ ys) → HaveSame (x ∷ xs) (y ∷ ys) → y ≤ x
least_head x y xs ys rise same = elim (head_or y ys x (same x (0, omega arith, refl))) [
  | inl is ↦ omega (arith, is)
  | inr more ↦ (let h = head_below y ys x rise more in omega (arith, h))
]

rest_same : (x y : ℕ) (xs ys : List ℕ) → x ≡ y → IsStrictlyIncreasing (x ∷ xs) → HaveSame (x ∷ xs) (y ∷ ys)
    → HaveSame xs ys
rest_same x y xs ys is rise same u h = elim (head_or y ys u (same u (later x xs u h))) [
  | inl equal ↦ absurd (let l = head_below x xs u rise h in omega (arith, l, is, equal))
  | inr more ↦ more
]

same_list : (xs ys : List ℕ) → IsStrictlyIncreasing xs → IsStrictlyIncreasing ys → HaveSame xs ys → HaveSame ys xs
    → xs ≡ ys
same_list [] [] rise rises forth back = refl
same_list [] (y ∷ ys) rise rises forth back = absurd (let i = (back y (0, omega arith, refl)).1 in omega (arith, i))
same_list (x ∷ xs) [] rise rises forth back = absurd (let i = (forth x (0, omega arith, refl)).1 in omega (arith, i))
same_list (x ∷ xs) (y ∷ ys) rise rises forth back =
    let low = least_head x y xs ys rises forth in
    let high = least_head y x ys xs rise back in
    let is : x ≡ y = omega (arith, low, high) in
    let rest = same_list xs ys (rest_rises x xs rise) (rest_rises y ys rises) (rest_same x y xs ys is rise forth)
    (rest_same y x ys xs (sym is) rises back) in
    ap (λ n. n ∷ xs) is ∙ ap (λ l. y ∷ l) rest

same_lists : (xs ys : List (List ℕ)) → length xs ≡ length ys
    → ((k : ℕ) → k < length xs → get_or xs k [] ≡ get_or ys k []) → xs ≡ ys
same_lists [] [] beside each = refl
same_lists [] (y ∷ ys) beside each = absurd (omega (arith, beside))
same_lists (x ∷ xs) [] beside each = absurd (omega (arith, beside))
same_lists (x ∷ xs) (y ∷ ys) beside each =
    ap (λ l. l ∷ xs) (each 0 (omega arith)) ∙ ap (λ l. y ∷ l)
    (same_lists xs ys (omega (arith, beside)) (λ k inside. each (suc k) (omega (arith, inside))))

-- sub-tasks

one_scope : (g : Flow) (firsts : List ℕ) (k : ℕ) (us vs : List ℕ) → IsScope g firsts k us → IsScope g firsts k vs
    → us ≡ vs
one_scope g firsts k us vs one other =
    same_list us vs one.rise other.rise (λ u h. (other.are u).1 ((one.are u).0 h))
    (λ u h. (one.are u).1 ((other.are u).0 h))

pub one_cutting : (g : Flow) (rs : List Region) (cuts : List ℕ) (s t : SubTasks) → AreSubTasks g rs cuts s
    → AreSubTasks g rs cuts t
    → s ≡ t
one_cutting g rs cuts s t one other =
    let firsts : s.firsts ≡ t.firsts = one.firsts_are ∙ sym other.firsts_are in
    let beside : length s.scopes ≡ length t.scopes = one.beside ∙ ap (λ (l : List ℕ). length l) firsts
    ∙ sym other.beside in
    let scopes : s.scopes ≡ t.scopes = same_lists s.scopes t.scopes beside (λ k inside.
    one_scope g s.firsts k (get_or s.scopes k []) (get_or t.scopes k [])
    (one.scopes_are k (get_or s.scopes k []) (slice_get-get_or s.scopes k [] inside))
    (subst (λ l. IsScope g l k (get_or t.scopes k [])) (sym firsts)
    (other.scopes_are k (get_or t.scopes k []) (slice_get-get_or t.scopes k []
    (omega (arith, inside, beside)))))) in
    ap (λ (l : List ℕ). let r : SubTasks = record { firsts = l; scopes = s.scopes } in r) firsts
    ∙ ap (λ (l : List (List ℕ)). let r : SubTasks = record { firsts = t.firsts; scopes = l } in r) scopes

-- faults

-- the fault of a rank at the cut of a number
abbrev fault_by : ℕ → ℕ → CutFault
fault_by zero i = Memory
fault_by (suc zero) i = Slot i
fault_by (suc (suc zero)) i = InCallee i
fault_by (suc (suc (suc zero))) i = InRegion i
fault_by (suc (suc (suc (suc zero)))) i = Order i
fault_by (suc (suc (suc (suc (suc n))))) i = Bypassed i

by_rank : (g : Flow) (rs : List Region) (cuts : List ℕ) (fault : CutFault) → Has g rs cuts fault
    → fault ≡ fault_by (rank fault) (number_of fault)
by_rank g rs cuts (Slot i) h = refl
by_rank g rs cuts (InCallee i) h = refl
by_rank g rs cuts (InRegion i) h = refl
by_rank g rs cuts (Order i) h = refl
by_rank g rs cuts (Bypassed i) h = refl
by_rank g rs cuts Memory h = absurd h

record AreTied (one other : CutFault) : Type 0 where
  number : number_of one ≡ number_of other
  rank_is : rank one ≡ rank other

tied : (one other : CutFault) → IsNoLater one other → IsNoLater other one → AreTied one other
tied one other (inl less) (inl more) = absurd (omega (arith, less, more))
tied one other (inl less) (inr same) = absurd (let e = same.0 in omega (arith, less, e))
tied one other (inr same) (inl more) = absurd (let e = same.0 in omega (arith, more, e))
tied one other (inr same) (inr also) = record {
  number = same.0;
  rank_is =
      (let a = same.1 in let b = also.1 in omega (arith, a, b));
}

pub one_fault : (g : Flow) (rs : List Region) (cuts : List ℕ) (one other : CutFault) → IsFirst g rs cuts one
    → IsFirst g rs cuts other
    → one ≡ other
one_fault g rs cuts one other first also =
    let t = tied one other (first.first other also.has) (also.first one first.has) in
    by_rank g rs cuts one first.has ∙ ap (λ r. fault_by r (number_of one)) t.rank_is
    ∙ ap (fault_by (rank other)) t.number
    ∙ sym (by_rank g rs cuts other also.has)

pub one_kind : (g : Flow) (rs : List Region) (cuts : List ℕ) (s : SubTasks) (fault : CutFault) → AreSubTasks g rs cuts s
    → IsFirst g rs cuts fault → ⊥
one_kind g rs cuts s fault are first = are.sound fault first.has
