-- The check of facts has one answer, by whatever masks.
use Rattle.std.proofs.Common.{◌≡◌, ◌∙◌, refl, sym, ap, subst, ℕ, zero, suc, ◌<◌, Bool, true, false, arith, List, [], ◌∷◌, ◌⊎◌, ◌↔◌, inl, inr, Option, Some, None, length, get_or}
use Rattle.std.specs.Prelude.{Contains, slice_index, if◌then◌else◌}
use Rattle.std.specs.Option.{option_and_then}
use Rattle.std.proofs.lemmas.Bool.{cases_eq, eq-eqb, ne_eqb}
use Rattle.visa_io.specs.declared.records.Code.{Code}
use Rattle.visa_io.specs.declared.records.FactLine.{FactLine}
use Rattle.mips_isa.specs.Kinds.{kind_of}
use Rattle.mips_isa.specs.declared.instr.Instr.{Instr}
use Rattle.flow_graph.specs.Code.{instr_at}
use Rattle.flow_graph.specs.Edges.{edge_of, edges_by, target_of}
use Rattle.flow_graph.specs.Faults.{edges_if}
use Rattle.flow_graph.specs.Flow.{Flow}
use Rattle.flow_graph.specs.Reached.{IsFunction, Leads, Reached, target_at}
use Rattle.flow_graph.specs.declared.parts.Edge.{Edge}
use Rattle.flow_graph.specs.declared.parts.EdgeKind.{EdgeKind}
use Rattle.flow_graph.specs.declared.parts.EdgeKind.TheVariants.{Next, Taken, Call, Return, Over}
use Rattle.flow_graph.proofs.Found.{among_is, is_among_in}
use Rattle.loop_regions.specs.Walks.{LoopGraph}
use Rattle.range_facts.specs.Ranges.{unknown}
use Rattle.range_facts.specs.Transfer.{fact_of}
use Rattle.range_facts.specs.declared.along.Along.{Along}
use Rattle.range_facts.specs.declared.facts.Facts.{Facts}
use Rattle.range_facts.specs.declared.strided.Strided.{Strided}
use Rattle.run_law.specs.Certificate.{AreBlocksOf, Blocks, IsKept, along_kind, fact_along, fact_if, masked_if, over_call}
use Rattle.run_law.specs.Loops.{loops_of}
use Rattle.run_law.specs.Masks.{AreMasks, MayWrite}
use Rattle.run_law.specs.Program.{Program}
use Rattle.run_law.proofs.Flows.{own_of}
use Rattle.bound_checker.specs.Answer.{IsCheck}
use Rattle.bound_checker.specs.Checked.{AllKept, EdgeFails, Fails, IsEarlier, OpeningFails}
use Rattle.bound_checker.specs.Gone.{IsFoundAt}
use Rattle.bound_checker.specs.Lines.{addresses_of, blocks_of, place_in, program_of}
use Rattle.bound_checker.specs.declared.place.Lost.{Lost}
use Rattle.bound_checker.proofs.Checking.{leads_by, over_calls}

-- the blocks of a graph
placed : (xs : List ℕ) (a : ℕ) → Contains xs a → (place_in xs a < length xs) × (slice_index xs (place_in xs a) ≡ a)
placed [] a (k, below, is) = absurd (omega (arith, below))
placed (x ∷ xs) a (k, below, is) = elim (cases_eq x a) [
  | inl same ↦ rw (eq-eqb x a same) (omega arith, same)
  | inr other ↦ let rest = placed xs a (behind k below is other) in rw (ne_eqb x a other) (omega (arith, rest.0), rest.1)
]
  where
    behind : (k : ℕ) → k < length (x ∷ xs) → get_or (x ∷ xs) k a ≡ a → (x ≡ a → ⊥) → Contains xs a
    behind zero below is other = absurd (other is)
    behind (suc k) below is other = (k, omega (arith, below), is)

pub blocks_are : (g : Flow) (lines : List FactLine) → AreBlocksOf g (blocks_of g lines)
unfolding blocks_of
blocks_are g lines = record {
  units = refl;
  index = λ u among. placed (addresses_of g) u among;
  starts = λ u. (is_among_in g.blocks u, among_is g.blocks u);
}

-- the function that an edge goes over
abbrev target_if : Option Instr → ℕ → Option ℕ
target_if o u = option_and_then (λ i. target_of i u) o

target_some : (o : Option Instr) (u f : ℕ) → target_if o u ≡ Some f → (i : Instr) × (o ≡ Some i) × (target_of i u ≡ Some f)
target_some None u f is = absurd (let never : None ≡ Some f = is in cc)
target_some (Some i) u f is = (i, refl, is)

over_function : (code : Code) (entry : ℕ) (e : Edge) (f : ℕ) → Reached code entry e.from → Leads code e → e.kind ≡ Over → target_at code e.from ≡ Some f → IsFunction code entry f
unfolding edges_by
over_function code entry e f reached leads over target =
    let own = own_of code e leads in
    let (i, stands, to) = target_some (instr_at code e.from) e.from f target in
    let call = over_calls (kind_of i) i e.from e f (subst (λ o. Contains (edges_if o e.from) e) stands own.1) over to in
    inr (record { caller = e.from; reached = reached; calls = leads_by code e.from (edge_of e.from f Call) own.0 (subst (λ o. Contains (edges_if o e.from) (edge_of e.from f Call)) (sym stands) call) })

-- masks
same_truth : (a b : Bool) (P : Type 0) → (a ≡ true) ↔ P → (b ≡ true) ↔ P → a ≡ b
same_truth true true P f g = refl
same_truth true false P f g = sym (g.1 (f.0 refl))
same_truth false true P f g = f.1 (g.0 refl)
same_truth false false P f g = refl

-- the same task by other masks
pub record AreTwo (code : Code) (g : Flow) (mask other : ℕ → ℕ → Bool) : Type 0 where
  pub first : AreMasks code g.entry mask
  pub second : AreMasks code g.entry other

masked_same : (code : Code) (g : Flow) (mask other : ℕ → ℕ → Bool) (e : Edge) (r : ℕ) → AreTwo code g mask other → Reached code g.entry e.from → Leads code e → e.kind ≡ Over → r < 32
    → masked_if mask (target_at code e.from) r ≡ masked_if other (target_at code e.from) r
masked_same code g mask other e r two reached leads over below = by_target (target_at code e.from) refl
  where
    by_target : (o : Option ℕ) → target_at code e.from ≡ o → masked_if mask o r ≡ masked_if other o r
    by_target None is = refl
    by_target (Some f) is =
        let function = over_function code g.entry e f reached leads over is in
        same_truth (mask f r) (other f r) (MayWrite code f r) (two.first f r function below) (two.second f r function below)

along_same : (code : Code) (g : Flow) (lines : List FactLine) (loops : LoopGraph) (mask other : ℕ → ℕ → Bool) (e : Edge) (k : EdgeKind) → along_kind (program_of code g lines loops mask) k e ≡ along_kind (program_of code g lines loops other) k e
unfolding program_of
along_same code g lines loops mask other e Next = refl
along_same code g lines loops mask other e Taken = refl
along_same code g lines loops mask other e Call = refl
along_same code g lines loops mask other e Return = refl
along_same code g lines loops mask other e Over = refl

over_same : (code : Code) (g : Flow) (lines : List FactLine) (loops : LoopGraph) (mask other : ℕ → ℕ → Bool) (e : Edge) (r : ℕ) (s : Strided) → AreTwo code g mask other → Reached code g.entry e.from → Leads code e → r < 32
    → (k : EdgeKind) → e.kind ≡ k → over_call (program_of code g lines loops mask) k e.from r s ≡ over_call (program_of code g lines loops other) k e.from r s
unfolding program_of
over_same code g lines loops mask other e r s two reached leads below Over is = ap (λ b. if b then unknown else s) (masked_same code g mask other e r two reached leads is below)
over_same code g lines loops mask other e r s two reached leads below Next is = refl
over_same code g lines loops mask other e r s two reached leads below Taken is = refl
over_same code g lines loops mask other e r s two reached leads below Call is = refl
over_same code g lines loops mask other e r s two reached leads below Return is = refl

fact_same : (code : Code) (g : Flow) (lines : List FactLine) (loops : LoopGraph) (mask other : ℕ → ℕ → Bool) (e : Edge) (r : ℕ) → AreTwo code g mask other → Reached code g.entry e.from → Leads code e → r < 32
    → fact_along (program_of code g lines loops mask) e r ≡ fact_along (program_of code g lines loops other) e r
unfolding fact_along
fact_same code g lines loops mask other e r two reached leads below =
    by_along (along_kind (program_of code g lines loops mask) e.kind e) ∙ ap (fact_if (program_of code g lines loops other) e r) (along_same code g lines loops mask other e e.kind)
  where
    by_along : (o : Option Along) → fact_if (program_of code g lines loops mask) e r o ≡ fact_if (program_of code g lines loops other) e r o
    by_along None = refl
    by_along (Some a) = ap Some (over_same code g lines loops mask other e r (fact_of a.facts r) two reached leads below e.kind refl)

kept_same : (code : Code) (g : Flow) (lines : List FactLine) (loops : LoopGraph) (mask other : ℕ → ℕ → Bool) (b : Blocks) (e : Edge) (r : ℕ) → AreTwo code g mask other → Reached code g.entry e.from → Leads code e → r < 32
    → IsKept (program_of code g lines loops mask) b e r → IsKept (program_of code g lines loops other) b e r
kept_same code g lines loops mask other b e r two reached leads below kept s is = kept s (fact_same code g lines loops mask other e r two reached leads below ∙ is)

turned : (code : Code) (g : Flow) (mask other : ℕ → ℕ → Bool) → AreTwo code g mask other → AreTwo code g other mask
turned code g mask other two = record { first = two.second; second = two.first }

fails_same : (code : Code) (g : Flow) (lines : List FactLine) (loops : LoopGraph) (mask other : ℕ → ℕ → Bool) (b : Blocks) (opening : Facts) (f t r : ℕ) → AreTwo code g mask other
    → Fails (program_of code g lines loops mask) b opening f t r → Fails (program_of code g lines loops other) b opening f t r
unfolding program_of
fails_same code g lines loops mask other b opening f t r two fails = record { register = fails.register; where_is = by_place fails.where_is }
  where
    by_place : EdgeFails (program_of code g lines loops mask) b f t r ⊎ OpeningFails (program_of code g lines loops mask) b opening f t r → EdgeFails (program_of code g lines loops other) b f t r ⊎ OpeningFails (program_of code g lines loops other) b opening f t r
    by_place (inl e) = inl (record {
      edge = e.edge;
      is_edge = record { reached = e.is_edge.reached; leads = e.is_edge.leads; start = e.is_edge.start };
      from_is = e.from_is;
      to_is = e.to_is;
      fails = λ kept. e.fails (kept_same code g lines loops other mask b e.edge r (turned code g mask other two) e.is_edge.reached e.is_edge.leads fails.register kept);
    })
    by_place (inr o) = inr (record { from_is = o.from_is; to_is = o.to_is; fails = o.fails })

found_same : (code : Code) (g : Flow) (lines : List FactLine) (loops : LoopGraph) (mask other : ℕ → ℕ → Bool) (b : Blocks) (opening : Facts) (found : Option Lost) → AreTwo code g mask other
    → IsFoundAt (program_of code g lines loops mask) b opening found → IsFoundAt (program_of code g lines loops other) b opening found
unfolding program_of
found_same code g lines loops mask other b opening None two all = record {
  certificate = record {
    before_is = all.certificate.before_is;
    facts = all.certificate.facts;
    kept = λ e r reached leads start below. kept_same code g lines loops mask other b e r two reached leads below (all.certificate.kept e r reached leads start below);
  };
  opened = all.opened;
}
found_same code g lines loops mask other b opening (Some t) two first = record {
  here = fails_same code g lines loops mask other b opening t.from t.to t.register two first.here;
  first = λ f u r fails. first.first f u r (fails_same code g lines loops other mask b opening f u r (turned code g mask other two) fails);
}

pub found_agrees : (code : Code) (g : Flow) (lines : List FactLine) (loops : LoopGraph) (mask other : ℕ → ℕ → Bool) (opening : Facts) (found : Option Lost) → AreMasks code g.entry mask → AreMasks code g.entry other
    → IsFoundAt (program_of code g lines loops mask) (blocks_of g lines) opening found ↔ IsFoundAt (program_of code g lines loops other) (blocks_of g lines) opening found
found_agrees code g lines loops mask other opening found one two = (
  found_same code g lines loops mask other (blocks_of g lines) opening found (record { first = one; second = two }),
  found_same code g lines loops other mask (blocks_of g lines) opening found (record { first = two; second = one }),
)

-- one answer
none_fails : (p : Program) (b : Blocks) (opening : Facts) (f t r : ℕ) → AllKept p b opening → Fails p b opening f t r → ⊥
none_fails p b opening f t r all fails = elim fails.where_is [
  | inl e ↦ e.fails (all.certificate.kept e.edge r e.is_edge.reached e.is_edge.leads e.is_edge.start fails.register)
  | inr o ↦ o.fails (all.opened r fails.register)
]

abbrev lost_at : ℕ → ℕ → ℕ → Lost
lost_at f t r = record { from = f; to = t; register = r }

same_place : {f f' t t' r r' : ℕ} → f ≡ f' → t ≡ t' → r ≡ r' → lost_at f t r ≡ lost_at f' t' r'
same_place p q s = rw (p, q, s) refl

neither : (f t r f2 t2 r2 : ℕ) → (IsEarlier f t r f2 t2 r2 → ⊥) → (IsEarlier f2 t2 r2 f t r → ⊥) → (f ≡ f2) × (t ≡ t2) × (r ≡ r2)
neither f t r f2 t2 r2 a b =
    let from : f ≡ f2 = level f f2 (λ l. a (inl l)) (λ l. b (inl l)) in
    let to : t ≡ t2 = level t t2 (λ l. a (inr (from, inl l))) (λ l. b (inr (sym from, inl l))) in
    (from, to, level r r2 (λ l. a (inr (from, inr (to, l)))) (λ l. b (inr (sym from, inr (sym to, l)))))
  where
    level : (m n : ℕ) → (m < n → ⊥) → (n < m → ⊥) → m ≡ n
    level m n below above = omega (arith, below, above)

one_found : (p : Program) (b : Blocks) (opening : Facts) (x y : Option Lost) → IsFoundAt p b opening x → IsFoundAt p b opening y → x ≡ y
one_found p b opening None None x y = refl
one_found p b opening None (Some t) x y = absurd (none_fails p b opening t.from t.to t.register x y.here)
one_found p b opening (Some s) None x y = absurd (none_fails p b opening s.from s.to s.register y x.here)
one_found p b opening (Some s) (Some t) x y =
    let same = neither s.from s.to s.register t.from t.to t.register (y.first s.from s.to s.register x.here) (x.first t.from t.to t.register y.here) in
    ap Some (same_place same.0 same.1 same.2)

pub check_one : (code : Code) (g : Flow) (lines : List FactLine) (opening : Facts) (a b : Option Lost) → IsCheck code g lines opening a → IsCheck code g lines opening b → a ≡ b
check_one code g lines opening a b p q =
    one_found (program_of code g lines (loops_of g []) q.mask) (blocks_of g lines) opening a b
    (found_same code g lines (loops_of g []) p.mask q.mask (blocks_of g lines) opening a (record { first = p.masks; second = q.masks }) (p.is (loops_of g [])))
    (q.is (loops_of g []))
