-- The first place of all: among the edges of the graph and the opening edge.
use Rattle.std.proofs.Common.{◌≡◌, ◌∙◌, refl, sym, subst, ℕ, ◌<◌, ◌≤◌, Bool, true, false, cond, List, inl, inr, Option, Some, None}
use Rattle.std.specs.Prelude.{Contains}
use Rattle.std.proofs.lemmas.Bool.{cases_lt}
use Rattle.visa_io.specs.declared.records.Code.{Code}
use Rattle.visa_io.specs.declared.records.FactLine.{FactLine}
use Rattle.flow_graph.specs.Flow.{Flow}
use Rattle.flow_graph.specs.declared.parts.Edge.{Edge}
use Rattle.loop_regions.specs.Walks.{LoopGraph}
use Rattle.range_facts.specs.Ranges.{IsWithin}
use Rattle.range_facts.specs.Transfer.{fact_of}
use Rattle.range_facts.specs.declared.facts.Facts.{Facts}
use Rattle.run_law.specs.Certificate.{Blocks, Certificate}
use Rattle.run_law.specs.Program.{Program}
use Rattle.bound_checker.specs.Checked.{EdgeFails, Fails, IsBest, IsBlockEdge, IsEarlier, IsFirst, IsLeastIn, IsOpened, OpeningFails, earlier_of, is_earlier, outside}
use Rattle.bound_checker.specs.Gone.{IsBestOf, IsFaultOf, IsFoundAt, mask_in, with_opening}
use Rattle.bound_checker.specs.Input.{IsInput}
use Rattle.bound_checker.specs.Lines.{blocks_of, facts_at, program_of}
use Rattle.bound_checker.specs.Lost.{IsLeastLost}
use Rattle.bound_checker.specs.declared.masks.Masks.{Masks}
use Rattle.bound_checker.specs.declared.place.Lost.{Lost}
use Rattle.bound_checker.proofs.Best.{before_holds, before_true, lower, not_itself, transitive}
use Rattle.bound_checker.proofs.Recorded.{facts_are}

-- the edges that may fail are among these
abbrev HasAll : Program → Blocks → List Edge → Type 0
HasAll p b es = (e : Edge) → IsBlockEdge p b e → Contains es e

edge_here : (p : Program) (b : Blocks) (opening : Facts) (es : List Edge) (s : Lost) → IsLeastIn p b es s → Fails p b opening s.from s.to s.register
edge_here p b opening es s is =
    record { register = is.register; where_is = inl (record { edge = is.edge; is_edge = is.is_edge; from_is = is.from_is; to_is = is.to_is; fails = is.fails }) }

edge_first : (p : Program) (b : Blocks) (es : List Edge) (s : Lost) (f t r : ℕ) → HasAll p b es → IsLeastIn p b es s → r < 32 → EdgeFails p b f t r → IsEarlier f t r s.from s.to s.register → ⊥
edge_first p b es s f t r all is below fails earlier =
    is.first fails.edge r (all fails.edge fails.is_edge) fails.is_edge below fails.fails
    (subst (λ u. IsEarlier u fails.edge.to r s.from s.to s.register) (sym fails.from_is) (subst (λ v. IsEarlier f v r s.from s.to s.register) (sym fails.to_is) earlier))

opening_least : (p : Program) (b : Blocks) (opening : Facts) (f t q r : ℕ) → ((k : ℕ) → k < q → IsOpened p b opening k) → OpeningFails p b opening f t r → q ≤ r
opening_least p b opening f t q r kept fails = elim (cases_lt r q) [ inl less ↦ absurd (fails.fails (kept r less)) | inr more ↦ more ]

opening_first : (p : Program) (b : Blocks) (opening : Facts) (f t q r : ℕ) → ((k : ℕ) → k < q → IsOpened p b opening k) → OpeningFails p b opening f t r → IsEarlier f t r outside p.entry q → ⊥
opening_first p b opening f t q r kept fails earlier =
    not_itself outside p.entry r q (opening_least p b opening f t q r kept fails)
    (subst (λ u. IsEarlier u p.entry r outside p.entry q) fails.from_is (subst (λ v. IsEarlier f v r outside p.entry q) fails.to_is earlier))

at_opening : (p : Program) → ℕ → Lost
at_opening p q = record { from = outside; to = p.entry; register = q }

-- no register of the opening is lost
opened_all : (p : Program) (b : Blocks) (opening : Facts) (es : List Edge) (s : Lost) → HasAll p b es → IsLeastIn p b es s → ((r : ℕ) → r < 32 → IsOpened p b opening r) → IsFirst p b opening s.from s.to s.register
opened_all p b opening es s all is opened =
    record {
      here = edge_here p b opening es s is;
      first = λ f t r fails earlier. elim fails.where_is [
        | inl edge ↦ edge_first p b es s f t r all is fails.register edge earlier
        | inr entering ↦ entering.fails (opened r fails.register)
      ];
    }

opening_alone : (p : Program) (b : Blocks) (opening : Facts) (es : List Edge) (q : ℕ) → HasAll p b es → IsBest p b es None → q < 32 → (IsOpened p b opening q → ⊥) → ((k : ℕ) → k < q → IsOpened p b opening k) → IsFirst p b opening outside p.entry q
opening_alone p b opening es q all none below fails kept =
    record {
      here = record { register = below; where_is = inr (record { from_is = refl; to_is = refl; fails = fails }) };
      first = λ f t r other earlier. elim other.where_is [
        | inl edge ↦ edge.fails (none edge.edge (all edge.edge edge.is_edge) edge.is_edge r other.register)
        | inr entering ↦ opening_first p b opening f t q r kept entering earlier
      ];
    }

both : (p : Program) (b : Blocks) (opening : Facts) (es : List Edge) (s : Lost) (q : ℕ) → HasAll p b es → IsLeastIn p b es s → q < 32 → (IsOpened p b opening q → ⊥) → ((k : ℕ) → k < q → IsOpened p b opening k)
    → (c : Bool) → is_earlier (record { from = outside; to = p.entry; register = q }) s ≡ c → (t : Lost) → t ≡ cond c (record { from = outside; to = p.entry; register = q }) s → IsFirst p b opening t.from t.to t.register
both p b opening es s q all is below fails kept true less t same =
    let o : Lost = record { from = outside; to = p.entry; register = q } in
    subst (λ (x : Lost). IsFirst p b opening x.from x.to x.register) (sym same)
    (record {
      here = record { register = below; where_is = inr (record { from_is = refl; to_is = refl; fails = fails }) };
      first = λ f u r other earlier. elim other.where_is [
        | inl edge ↦ edge_first p b es s f u r all is other.register edge (transitive f u r outside p.entry q s.from s.to s.register earlier (before_holds o s less))
        | inr entering ↦ opening_first p b opening f u q r kept entering earlier
      ];
    })
both p b opening es s q all is below fails kept false more t same =
    let o : Lost = record { from = outside; to = p.entry; register = q } in
    subst (λ (x : Lost). IsFirst p b opening x.from x.to x.register) (sym same)
    (record {
      here = edge_here p b opening es s is;
      first = λ f u r other earlier. elim other.where_is [
        | inl edge ↦ edge_first p b es s f u r all is other.register edge earlier
        | inr entering ↦ late f u r entering earlier
      ];
    })
  where
    late : (f u r : ℕ) → OpeningFails p b opening f u r → IsEarlier f u r s.from s.to s.register → ⊥
    late f u r entering earlier =
        let early = subst (λ v. IsEarlier v p.entry r s.from s.to s.register) entering.from_is (subst (λ v. IsEarlier f v r s.from s.to s.register) entering.to_is earlier) in
        let o : Lost = record { from = outside; to = p.entry; register = q } in
        let yes_is = before_true o s (lower outside p.entry r q s.from s.to s.register (opening_least p b opening f u q r kept entering) early) in
        let never : true ≡ false = sym yes_is ∙ more in
        absurd (cc)

-- all that the graph's edges are
has_all : (code : Code) (g : Flow) (lines : List FactLine) (m : Masks) (loops : LoopGraph) → IsInput code g lines → HasAll (program_of code g lines loops (mask_in m)) (blocks_of g lines) g.edges
unfolding program_of
has_all code g lines m loops input e block = (input.graph.edges_are e).1 (record { reached = block.reached; joins = inl block.leads })

certified : (code : Code) (g : Flow) (lines : List FactLine) (m : Masks) (loops : LoopGraph) → IsInput code g lines → IsBest (program_of code g lines loops (mask_in m)) (blocks_of g lines) g.edges None
    → Certificate (program_of code g lines loops (mask_in m)) (blocks_of g lines)
unfolding program_of blocks_of
certified code g lines m loops input none =
    record {
      before_is = λ u reached. refl;
      facts = λ u reached start. facts_are lines u input.lines_are;
      kept = λ e r reached leads start below.
          let block : IsBlockEdge (program_of code g lines loops (mask_in m)) (blocks_of g lines) e = record { reached = reached; leads = leads; start = start } in
          none e (has_all code g lines m loops input e block) block r below;
    }

opened_by : (code : Code) (g : Flow) (lines : List FactLine) (m : Masks) (loops : LoopGraph) (opening target : Facts) (r : ℕ) → target ≡ facts_at lines g.entry → IsWithin (fact_of opening r) (fact_of target r)
    → IsOpened (program_of code g lines loops (mask_in m)) (blocks_of g lines) opening r
unfolding program_of blocks_of
opened_by code g lines m loops opening target r same within = subst (λ f. IsWithin (fact_of opening r) (fact_of f r)) same within

opened_from : (code : Code) (g : Flow) (lines : List FactLine) (m : Masks) (loops : LoopGraph) (opening target : Facts) (r : ℕ) → target ≡ facts_at lines g.entry → IsOpened (program_of code g lines loops (mask_in m)) (blocks_of g lines) opening r
    → IsWithin (fact_of opening r) (fact_of target r)
unfolding program_of blocks_of
opened_from code g lines m loops opening target r same within = subst (λ f. IsWithin (fact_of opening r) (fact_of f r)) (sym same) within

pub fault_of : (code : Code) (g : Flow) (lines : List FactLine) (m : Masks) (opening target : Facts) (best : Option Lost) (lost : Option ℕ) (r : Option Lost) → IsInput code g lines → target ≡ facts_at lines g.entry
    → IsBestOf code g lines m g.edges best → IsLeastLost (mask_in m) None opening target lost → r ≡ with_opening g.entry best lost → IsFaultOf code g lines m opening r
unfolding program_of
fault_of code g lines m opening target best lost r input same is_best least is loops =
    let p = program_of code g lines loops (mask_in m) in
    let b = blocks_of g lines in
    subst (λ x. IsFoundAt p b opening x) (sym is) (by_cases best lost (is_best loops) least)
  where
    by_cases : (best : Option Lost) (lost : Option ℕ) → IsBest (program_of code g lines loops (mask_in m)) (blocks_of g lines) g.edges best → IsLeastLost (mask_in m) None opening target lost
        → IsFoundAt (program_of code g lines loops (mask_in m)) (blocks_of g lines) opening (with_opening g.entry best lost)
    by_cases None None none least =
        record { certificate = certified code g lines m loops input none; opened = λ k below. opened_by code g lines m loops opening target k same (least k below) }
    by_cases (Some s) None edge least =
        opened_all (program_of code g lines loops (mask_in m)) (blocks_of g lines) opening g.edges s (has_all code g lines m loops input) edge
        (λ k below. opened_by code g lines m loops opening target k same (least k below))
    by_cases None (Some q) none least =
        opening_alone (program_of code g lines loops (mask_in m)) (blocks_of g lines) opening g.edges q (has_all code g lines m loops input) none least.0
        (λ entering. least.1 (opened_from code g lines m loops opening target q same entering)) (λ k less. opened_by code g lines m loops opening target k same (least.2 k less))
    by_cases (Some s) (Some q) edge least =
        both (program_of code g lines loops (mask_in m)) (blocks_of g lines) opening g.edges s q (has_all code g lines m loops input) edge least.0
        (λ entering. least.1 (opened_from code g lines m loops opening target q same entering)) (λ k less. opened_by code g lines m loops opening target k same (least.2 k less))
        (is_earlier (record { from = outside; to = g.entry; register = q }) s) refl (earlier_of (Some s) (record { from = outside; to = g.entry; register = q })) refl
