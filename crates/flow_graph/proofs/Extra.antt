-- Blocks that begin at further units.
use Rattle.std.proofs.Common.{ℕ, ◌≡◌, ◌⊎◌, inl, inr, refl, sym, ap, subst, ◌∙◌, Bool, true, false, if◌then◌else◌, List, [], ◌∷◌, ◌++◌, Contains, map}
use Rattle.std.specs.List.{filter}
use Rattle.std.proofs.lemmas.List.Elements.{Contains-append_cases, Contains-append_left, Contains-append_right}
use Rattle.flow_graph.specs.Blocks.{AreInOrder}
use Rattle.flow_graph.specs.Flow.{Flow, IsWithBlocks}
use Rattle.flow_graph.specs.Own.{is_among}
use Rattle.flow_graph.specs.declared.parts.Unit.{Unit as FlowUnit}
use Rattle.flow_graph.proofs.Found.{among_is, is_among_in}
use Rattle.flow_graph.proofs.Members.{in_cons, in_head, in_tail, none_in_nil}

-- the members of a list that pass a test
in_filter : (p : ℕ → Bool) (xs : List ℕ) (x : ℕ) → Contains (filter p xs) x → Contains xs x × (p x ≡ true)
in_filter p [] x h = absurd (none_in_nil x h)
in_filter p (y ∷ xs) x h = by_test (p y) refl h (in_filter p xs x)
  where
    by_test : (b : Bool) → p y ≡ b → Contains (if b then y ∷ filter p xs else filter p xs) x → (Contains (filter p xs) x → Contains xs x × (p x ≡ true)) → Contains (y ∷ xs) x × (p x ≡ true)
    by_test true e h rest = elim (in_cons x y (filter p xs) h) [
      | inl is ↦ (subst (Contains (y ∷ xs)) is (in_head y xs), ap p (sym is) ∙ e)
      | inr t ↦ let r = rest t in (in_tail x y xs r.0, r.1)
    ]
    by_test false e h rest = let r = rest h in (in_tail x y xs r.0, r.1)

filter_in : (p : ℕ → Bool) (xs : List ℕ) (x : ℕ) → Contains xs x → p x ≡ true → Contains (filter p xs) x
filter_in p [] x h t = absurd (none_in_nil x h)
filter_in p (y ∷ xs) x h t = by_test (p y) refl (in_cons x y xs h) (λ r. filter_in p xs x r t)
  where
    true_false : true ≡ false → ⊥
    true_false e = cc

    by_test : (b : Bool) → p y ≡ b → (y ≡ x) ⊎ Contains xs x → (Contains xs x → Contains (filter p xs) x) → Contains (if b then y ∷ filter p xs else filter p xs) x
    by_test true e (inl is) rest = subst (Contains (y ∷ filter p xs)) is (in_head y (filter p xs))
    by_test true e (inr r) rest = in_tail x y (filter p xs) (rest r)
    by_test false e (inl is) rest = absurd (true_false (sym t ∙ ap p (sym is) ∙ e))
    by_test false e (inr r) rest = rest r

blocks_added : (old new : Flow) (extra starts : List ℕ) (units : List FlowUnit) → new.entry ≡ old.entry → new.units ≡ old.units → new.edges ≡ old.edges → new.functions ≡ old.functions → new.function_units ≡ old.function_units
    → starts ≡ old.blocks → units ≡ old.units → AreInOrder (starts ++ filter (is_among (map (λ unit. unit.at) units)) extra) new.blocks → IsWithBlocks old extra new
blocks_added old new extra starts units a b c d e s u o = record {
  entry = a;
  units = b;
  edges = c;
  functions = d;
  function_units = e;
  blocks_are = λ x. (
    λ h. there x (Contains-append_cases old.blocks (filter (is_among own) extra) x (ordered.only x h)),
    λ h. ordered.kept x (back x h),
  );
  blocks_rise = ordered.rise;
}
  where
    own : List ℕ
    own = map (λ unit. unit.at) old.units

    ordered : AreInOrder (old.blocks ++ filter (is_among own) extra) new.blocks
    ordered = subst (λ (l : List ℕ). AreInOrder (l ++ filter (is_among own) extra) new.blocks) s (subst (λ (l : List FlowUnit). AreInOrder (starts ++ filter (is_among (map (λ unit. unit.at) l)) extra) new.blocks) u o)

    there : (x : ℕ) → Contains old.blocks x ⊎ Contains (filter (is_among own) extra) x → Contains old.blocks x ⊎ (Contains extra x × Contains own x)
    there x (inl h) = inl h
    there x (inr h) = let f = in_filter (is_among own) extra x h in inr (f.0, is_among_in own x f.1)

    back : (x : ℕ) → Contains old.blocks x ⊎ (Contains extra x × Contains own x) → Contains (old.blocks ++ filter (is_among own) extra) x
    back x (inl h) = Contains-append_left old.blocks (filter (is_among own) extra) x h
    back x (inr h) = Contains-append_right old.blocks (filter (is_among own) extra) x (filter_in (is_among own) extra x h.0 (among_is own x h.1))

-- the same, of what a graph is seen as
pub blocks_added_to : (seen old new : Flow) (extra starts : List ℕ) (units : List FlowUnit) → seen ≡ old → new.entry ≡ seen.entry → new.units ≡ seen.units → new.edges ≡ seen.edges → new.functions ≡ seen.functions → new.function_units ≡ seen.function_units
    → starts ≡ seen.blocks → units ≡ seen.units → AreInOrder (starts ++ filter (is_among (map (λ unit. unit.at) units)) extra) new.blocks → IsWithBlocks old extra new
blocks_added_to seen old new extra starts units v a b c d e s u o = subst (λ (g : Flow). IsWithBlocks g extra new) v (blocks_added seen new extra starts units a b c d e s u o)
