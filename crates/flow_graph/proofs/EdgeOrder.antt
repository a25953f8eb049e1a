-- The order of edges.
use Rattle.std.proofs.Common.{ℕ, ◌<◌, ◌≡◌, ◌⊎◌, inl, inr, refl, sym, subst, ◌∙◌, true, List, Contains, AllPairs, rules}
use Rattle.std.specs.Cmp.{nat_cmp_is}
use Rattle.std.specs.List.{dedup}
use Rattle.std.specs.List.Sorted.{IsPermutation, IsSorted}
use Rattle.std.specs.Ordering.{nat_cmp, ordering_then}
use Rattle.std.specs.declared.cmp.Ordering.{Ordering}
use Rattle.std.specs.declared.cmp.Ordering.TheVariants.{Less, Equal, Greater}
use Rattle.std.proofs.lemmas.List.Kept.{Contains-dedup, Contains-from_dedup, IsStrictlySortedBy-dedup}
use Rattle.std.proofs.lemmas.List.Sorted.{Contains-permutation, IsPermutation-sym}
use Rattle.flow_graph.specs.EdgeLists.{AreOrdered}
use Rattle.flow_graph.specs.Flow.{ComesBefore, kind_rank}
use Rattle.flow_graph.specs.contracts.parts.EdgeEq.TheImpl.Laws as equal_laws
use Rattle.flow_graph.specs.contracts.parts.EdgeKindOrd.TheImpl as kinds
use Rattle.flow_graph.specs.contracts.parts.EdgeOrd.TheImpl as edges
use Rattle.flow_graph.specs.contracts.parts.EdgeOrd.TheImpl.Laws as laws
use Rattle.flow_graph.specs.contracts.parts.EdgePartialEq.TheImpl as equal
use Rattle.flow_graph.specs.declared.parts.Edge.{Edge}
use Rattle.flow_graph.specs.declared.parts.EdgeKind.{EdgeKind}
use Rattle.flow_graph.specs.declared.parts.EdgeKind.TheVariants.{Next, Taken, Call, Return, Over}
use Rattle.flow_graph.proofs.Orders.{three}
use Rattle.flow_graph.proofs.Rising.{pairs_sorted}

kinds-cmp : (k l : EdgeKind) → kinds.ghosts.cmp k l ≡ nat_cmp (kind_rank k) (kind_rank l)
kinds-cmp Next Next = refl
kinds-cmp Next l = refl
kinds-cmp Taken Next = refl
kinds-cmp Taken l = refl
kinds-cmp Call Next = refl
kinds-cmp Call l = refl
kinds-cmp Return Next = refl
kinds-cmp Return l = refl
kinds-cmp Over Next = refl
kinds-cmp Over l = refl

less_then : (x y : ℕ) (o : Ordering) → ordering_then (nat_cmp x y) o ≡ Less → (x < y) ⊎ ((x ≡ y) × (o ≡ Less))
less_then x y o e = elim (three x y) [
  | inl less ↦ inl less
  | inr more ↦ elim more [
    | inl same ↦ inr (same, rw (sym (nat_cmp_is x y Equal same)) at e)
    | inr greater ↦ absurd (let bad : Greater ≡ Less = rw (sym (nat_cmp_is x y Greater greater)) at e in cc)
  ]
]

less_of : (x y : ℕ) → nat_cmp x y ≡ Less → x < y
less_of x y e = elim (three x y) [
  | inl less ↦ less
  | inr more ↦ elim more [
    | inl same ↦ absurd (let bad : Equal ≡ Less = nat_cmp_is x y Equal same ∙ e in cc)
    | inr greater ↦ absurd (let bad : Greater ≡ Less = nat_cmp_is x y Greater greater ∙ e in cc)
  ]
]

comes_before : (a b : Edge) → edges.ghosts.cmp a b ≡ Less → ComesBefore a b
comes_before a b e = elim (less_then a.from b.from (ordering_then (nat_cmp a.to b.to) (kinds.ghosts.cmp a.kind b.kind)) e) [
  | inl less ↦ inl less
  | inr (same, rest) ↦ elim (less_then a.to b.to (kinds.ghosts.cmp a.kind b.kind) rest) [
    | inl less ↦ inr (same, inl less)
    | inr (equal, last) ↦ inr (same, inr (equal, less_of (kind_rank a.kind) (kind_rank b.kind) (sym (kinds-cmp a.kind b.kind) ∙ last)))
  ]
]

same_edge : (a b : Edge) → equal.ghosts.eq a b ≡ true → a ≡ b
same_edge a b e = search rules

-- edges, sorted, each once
pub in_edge_order : (old sorted new : List Edge) → IsPermutation old sorted → IsSorted edges.ghosts.cmp sorted → new ≡ dedup equal.ghosts.eq sorted → AreOrdered old new
in_edge_order old sorted new moved rise d = record {
  rise = subst (λ (l : List Edge). AllPairs ComesBefore l) (sym d) (pairs_sorted ComesBefore edges.ghosts.cmp comes_before (dedup equal.ghosts.eq sorted) (IsStrictlySortedBy-dedup laws.total-law laws.matches_eq-law sorted rise));
  kept = λ a h. subst (λ (l : List Edge). Contains l a) (sym d) (Contains-dedup equal_laws.laws-law same_edge sorted a (Contains-permutation old sorted a moved h));
  only = λ a h. Contains-permutation sorted old a (IsPermutation-sym old sorted moved) (Contains-from_dedup equal.ghosts.eq sorted a (subst (λ (l : List Edge). Contains l a) d h));
}
