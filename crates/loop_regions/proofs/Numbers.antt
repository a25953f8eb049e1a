-- Units by their numbers.
use Rattle.std.proofs.Common.{◌≡◌, refl, sym, ap, ◌∙◌, ℕ, ◌+◌, ◌<◌, ◌≤◌, Bool, true, false, List, [], ◌∷◌, ◌++◌, map, length, take, get_or, arith, inl, inr, cond}
use Rattle.std.specs.Prelude.{Err}
use Rattle.std.specs.Ordering.{nat_cmp}
use Rattle.std.specs.List.{Contains}
use Rattle.std.specs.List.Sorted.{IsStrictlyIncreasing, IsBinarySearchResult}
use Rattle.std.proofs.lemmas.Bool.{cases_order}
use Rattle.std.proofs.lemmas.Grind.{get_or_default_zero}
use Rattle.std.proofs.lemmas.List.Elements.{filter_more}
use Rattle.std.proofs.lemmas.List.Kept.{AllPairs-from_increasing}
use Rattle.std.proofs.lemmas.List.Sorted.{searched}
use Rattle.flow_graph.specs.declared.parts.Edge.{Edge}
use Rattle.loop_regions.specs.Ways.{inner_edges, is_inner_edge}
use Rattle.loop_regions.specs.declared.ways.Way.{Way}

pub rising : (xs : List ℕ) → IsStrictlyIncreasing xs → (i j : ℕ) → i ≤ j → j < length xs → get_or xs i 0 ≤ get_or xs j 0
rising xs rise i j le inside = elim (cases_order i j) [
  | inl is ↦ let h = ap (λ k. get_or xs k 0) is in omega (arith, h)
  | inr (inl less) ↦ let h = AllPairs-from_increasing xs rise i j 0 less inside in omega arith
  | inr (inr more) ↦ absurd (omega arith)
]

pub not_missed : (xs : List ℕ) (a i : ℕ) → IsStrictlyIncreasing xs → Contains xs a → IsBinarySearchResult (λ y. nat_cmp y a) xs (Err i) → ⊥
not_missed xs a i rise among answer =
    let m = searched xs a (Err i) answer (rising xs rise) in
    let at = sym (get_or_default_zero xs among.0 a among.1) ∙ among.2 in
    elim (cases_order among.0 i) [
      | inl is ↦ let h = m.2 among.0 (omega arith) among.1 in omega (arith, h, at)
      | inr (inl less) ↦ let h = m.1 among.0 less in omega (arith, h, at)
      | inr (inr more) ↦ let h = m.2 among.0 (omega arith) among.1 in omega (arith, h, at)
    ]

-- one more edge
pub ways_pass : (edges : List Edge) (ways : List Way) (i : ℕ) (d : Edge) → i < length edges → is_inner_edge (get_or edges i d) ≡ false → map (λ w. w.edge) ways ≡ inner_edges (take i edges) → map (λ w. w.edge) ways ≡ inner_edges (take (i + 1) edges)
ways_pass edges ways i d inside out is =
    let m = filter_more is_inner_edge edges i d inside in
    is ∙ sym (m ∙ ap (λ (b : Bool). inner_edges (take i edges) ++ cond b (get_or edges i d ∷ []) []) out ∙ append_none (inner_edges (take i edges)))
  where
    append_none : (xs : List Edge) → xs ++ [] ≡ xs
    append_none [] = refl
    append_none (x ∷ xs) = ap (λ l. x ∷ l) (append_none xs)

pub ways_push : (edges : List Edge) (ways : List Way) (w : Way) (i : ℕ) (d : Edge) → i < length edges → is_inner_edge (get_or edges i d) ≡ true → w.edge ≡ get_or edges i d → map (λ w. w.edge) ways ≡ inner_edges (take i edges)
    → map (λ w. w.edge) (ways ++ w ∷ []) ≡ inner_edges (take (i + 1) edges)
ways_push edges ways w i d inside inner same is =
    let m = filter_more is_inner_edge edges i d inside in
    map_push ways ∙ ap (λ (l : List Edge). l ++ (w.edge ∷ [])) is ∙ ap (λ (e : Edge). inner_edges (take i edges) ++ (e ∷ [])) same
    ∙ sym (m ∙ ap (λ (b : Bool). inner_edges (take i edges) ++ cond b (get_or edges i d ∷ []) []) inner)
  where
    map_push : (xs : List Way) → map (λ (v : Way). v.edge) (xs ++ w ∷ []) ≡ map (λ (v : Way). v.edge) xs ++ (w.edge ∷ [])
    map_push [] = refl
    map_push (x ∷ xs) = ap (λ (l : List Edge). x.edge ∷ l) (map_push xs)
