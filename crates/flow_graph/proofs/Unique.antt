-- Code has one graph, but for where its blocks begin.
use Rattle.std.proofs.Common.{ℕ, suc, ◌<◌, ◌≡◌, ◌⊎◌, ◌↔◌, inl, inr, refl, sym, ap, subst, ◌∙◌, Ok, List, [], ◌∷◌, Contains, map, length, get_or, arith}
use Rattle.std.proofs.lemmas.Option.{slice_get-get_or}
use Rattle.visa_io.specs.declared.records.Code.{Code}
use Rattle.flow_graph.specs.Flow.{ComesBefore, Flow, IsFlow, IsGraph, IsUnitsOf, IsWithBlocks}
use Rattle.flow_graph.specs.Reached.{IsStart, Reached}
use Rattle.flow_graph.specs.declared.parts.Edge.{Edge}
use Rattle.flow_graph.specs.declared.parts.Unit.{Unit as FlowUnit}
use Rattle.flow_graph.proofs.Recorded.{reached_unit, unit_reached}
use Rattle.flow_graph.proofs.Rising.{rising_pairs, same_list, same_numbers}

-- no two edges come before one another
pub one_way : (a b : Edge) → ComesBefore a b → ComesBefore b a → ⊥
one_way a b (inl l) (inl m) = omega (arith, l, m)
one_way a b (inl l) (inr (e, m)) = omega (arith, l, e)
one_way a b (inr (e, l)) (inl m) = omega (arith, e, m)
one_way a b (inr (e, inl l)) (inr (f, inl m)) = omega (arith, l, m)
one_way a b (inr (e, inl l)) (inr (f, inr (g, m))) = omega (arith, l, g)
one_way a b (inr (e, inr (g, l))) (inr (f, inl m)) = omega (arith, g, m)
one_way a b (inr (e, inr (g, l))) (inr (f, inr (h, m))) = omega (arith, l, m)

same_rows : (xs ys : List (List ℕ)) → length xs ≡ length ys → ((k : ℕ) → k < length xs → get_or xs k [] ≡ get_or ys k []) → xs ≡ ys
same_rows [] [] long each = refl
same_rows [] (y ∷ ys) long each = absurd (omega (arith, long))
same_rows (x ∷ xs) [] long each = absurd (omega (arith, long))
same_rows (x ∷ xs) (y ∷ ys) long each = both (each 0 (omega arith)) (same_rows xs ys (omega (arith, long)) (λ k below. each (suc k) (omega (arith, below))))
  where
    both : {us vs : List (List ℕ)} → x ≡ y → us ≡ vs → x ∷ us ≡ y ∷ vs
    both p q = rw (p, q) refl

abbrev the_flow : ℕ → List FlowUnit → List Edge → List ℕ → List (List ℕ) → List ℕ → Flow
the_flow a b c d e f = record { entry = a; units = b; edges = c; functions = d; function_units = e; blocks = f }

same_parts : {a a' : ℕ} {b b' : List FlowUnit} {c c' : List Edge} {d d' : List ℕ} {e e' : List (List ℕ)} {f f' : List ℕ} → a ≡ a' → b ≡ b' → c ≡ c' → d ≡ d' → e ≡ e' → f ≡ f'
    → the_flow a b c d e f ≡ the_flow a' b' c' d' e' f'
same_parts p q r t u v = rw (p, q, r, t, u, v) refl

same_flow : (g h : Flow) → g.entry ≡ h.entry → g.units ≡ h.units → g.edges ≡ h.edges → g.functions ≡ h.functions → g.function_units ≡ h.function_units → g.blocks ≡ h.blocks → g ≡ h
same_flow g h a b c d e f = same_parts a b c d e f

pub graph_one : (code : Code) (entry : ℕ) (g h : Flow) → IsGraph code entry g → IsGraph code entry h → ((a : ℕ) → Contains g.blocks a ↔ Contains h.blocks a) → g ≡ h
graph_one code entry g h p q blocks = same_flow g h
    (p.entry_is ∙ sym q.entry_is)
    (same_list (λ (x y : FlowUnit). x.at < y.at) (λ x y l m. omega (arith, l, m)) g.units h.units
    (rising_pairs (λ (u : FlowUnit). u.at) g.units p.units_rise) (rising_pairs (λ (u : FlowUnit). u.at) h.units q.units_rise)
    (λ u c. (q.units_are u).1 ((p.units_are u).0 c)) (λ u c. (p.units_are u).1 ((q.units_are u).0 c)))
    (same_list ComesBefore one_way g.edges h.edges p.edges_rise q.edges_rise (λ e c. (q.edges_are e).1 ((p.edges_are e).0 c)) (λ e c. (p.edges_are e).1 ((q.edges_are e).0 c)))
    functions
    (same_rows g.function_units h.function_units long rows)
    (same_numbers g.blocks h.blocks p.blocks_rise q.blocks_rise (λ a c. (blocks a).0 c) (λ a c. (blocks a).1 c))
  where
    functions : g.functions ≡ h.functions
    functions = same_numbers g.functions h.functions p.functions_rise q.functions_rise (λ f c. (q.functions_are f).1 ((p.functions_are f).0 c)) (λ f c. (p.functions_are f).1 ((q.functions_are f).0 c))

    long : length g.function_units ≡ length h.function_units
    long = p.function_units_beside ∙ ap (λ (l : List ℕ). length l) functions ∙ sym q.function_units_beside

    rows : (k : ℕ) → k < length g.function_units → get_or g.function_units k [] ≡ get_or h.function_units k []
    rows k below =
        let one : IsUnitsOf code (get_or g.functions k 0) (get_or g.function_units k []) = p.function_units_are k (get_or g.function_units k []) (slice_get-get_or g.function_units k [] below) in
        let other : IsUnitsOf code (get_or h.functions k 0) (get_or h.function_units k []) = q.function_units_are k (get_or h.function_units k []) (slice_get-get_or h.function_units k [] (omega (arith, long, below))) in
        let two : IsUnitsOf code (get_or g.functions k 0) (get_or h.function_units k []) = subst (λ (l : List ℕ). IsUnitsOf code (get_or l k 0) (get_or h.function_units k [])) (sym functions) other in
        same_numbers (get_or g.function_units k []) (get_or h.function_units k []) one.rise two.rise (λ u c. (two.are u).1 ((one.are u).0 c)) (λ u c. (one.are u).1 ((two.are u).0 c))

pub flow_one : (code : Code) (entry : ℕ) (g h : Flow) → IsFlow code entry (Ok g) → IsFlow code entry (Ok h) → g ≡ h
unfolding IsFlow
flow_one code entry g h p q = graph_one code entry g h p.0 q.0 (λ a. (λ c. q.0.starts a (p.1 a c), λ c. p.0.starts a (q.1 a c)))

pub blocks_one : (old g h : Flow) (extra : List ℕ) → IsWithBlocks old extra g → IsWithBlocks old extra h → g ≡ h
blocks_one old g h extra p q = same_flow g h
    (p.entry ∙ sym q.entry) (p.units ∙ sym q.units) (p.edges ∙ sym q.edges) (p.functions ∙ sym q.functions) (p.function_units ∙ sym q.function_units)
    (same_numbers g.blocks h.blocks p.blocks_rise q.blocks_rise (λ a c. (q.blocks_are a).1 ((p.blocks_are a).0 c)) (λ a c. (p.blocks_are a).1 ((q.blocks_are a).0 c)))

-- blocks that begin at further units
pub with_blocks : (code : Code) (entry : ℕ) (g new : Flow) (extra : List ℕ) → IsGraph code entry g → IsWithBlocks g extra new → IsGraph code entry new
with_blocks code entry g new extra is w = subst (λ (x : Flow). IsGraph code entry x) (same_flow (record g { blocks = new.blocks }) new (sym w.entry) (sym w.units) (sym w.edges) (sym w.functions) (sym w.function_units) refl) (record {
  sound = is.sound;
  entry_is = is.entry_is;
  units_are = is.units_are;
  units_rise = is.units_rise;
  edges_are = is.edges_are;
  edges_rise = is.edges_rise;
  functions_are = is.functions_are;
  functions_rise = is.functions_rise;
  function_units_beside = is.function_units_beside;
  function_units_are = is.function_units_are;
  starts = λ a s. (w.blocks_are a).1 (inl (is.starts a s));
  blocks_are = λ a c. at_block a ((w.blocks_are a).0 c);
  blocks_rise = w.blocks_rise;
})
  where
    at_block : (a : ℕ) → Contains g.blocks a ⊎ (Contains extra a × Contains (map (λ unit. unit.at) g.units) a) → Reached code entry a
    at_block a (inl c) = is.blocks_are a c
    at_block a (inr c) = unit_reached code entry g a is c.1

pub blocks_with : (code : Code) (entry : ℕ) (g new : Flow) (extra : List ℕ) → IsFlow code entry (Ok g) → IsWithBlocks g extra new → (a : ℕ) → Contains new.blocks a ↔ (IsStart code entry a ⊎ (Contains extra a × Reached code entry a))
unfolding IsFlow
blocks_with code entry g new extra is w a = (λ c. there ((w.blocks_are a).0 c), λ c. (w.blocks_are a).1 (back c))
  where
    there : Contains g.blocks a ⊎ (Contains extra a × Contains (map (λ unit. unit.at) g.units) a) → IsStart code entry a ⊎ (Contains extra a × Reached code entry a)
    there (inl c) = inl (is.1 a c)
    there (inr c) = inr (c.0, unit_reached code entry g a is.0 c.1)

    back : IsStart code entry a ⊎ (Contains extra a × Reached code entry a) → Contains g.blocks a ⊎ (Contains extra a × Contains (map (λ unit. unit.at) g.units) a)
    back (inl s) = inl (is.0.starts a s)
    back (inr c) = inr (c.0, reached_unit code entry g a is.0 c.1)
