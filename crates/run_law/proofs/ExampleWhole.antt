-- The example passes every analysis.
use Rattle.std.proofs.Common.{◌≡◌, ◌≢◌, ◌∙◌, refl, sym, ap, subst, ℕ, zero, suc, ◌<◌, ◌≤◌, true, false, [], ◌∷◌, length, arith, lit<, lit≤, ◌⊎◌, inl, inr, pos}
use Rattle.std.specs.Prelude.{ℤ, ◌==◌, ◌||◌, Option, Some, None, slice_index, unsigned_abs}
use Rattle.std.specs.List.{Contains}
use Rattle.std.proofs.lemmas.Bool.{and_parts, eqb-true, or_cases}
use Rattle.mips_isa.specs.Kinds.{kind_of}
use Rattle.mips_isa.specs.Names.{writes_of}
use Rattle.mips_isa.specs.declared.instr.Instr.{Instr}
use Rattle.flow_graph.specs.Code.{instr_at}
use Rattle.flow_graph.specs.Edges.{edge_of}
use Rattle.flow_graph.specs.Faults.{is_word_of, leads_from}
use Rattle.flow_graph.specs.Flow.{Flow}
use Rattle.flow_graph.specs.Reached.{CallsAt, IsFunction, IsUnitOf, is_inner}
use Rattle.flow_graph.specs.declared.parts.Edge.{Edge}
use Rattle.flow_graph.specs.declared.parts.EdgeKind.TheVariants.{Next, Taken, Call, Return, Over}
use Rattle.loop_regions.specs.Regions.{AreNested, IsSide, IsSideAt, crosses_at}
use Rattle.loop_regions.specs.Walks.{holds}
use Rattle.range_facts.specs.Transfer.{AreFacts, fact_of}
use Rattle.run_law.specs.Analysed.{Analysed}
use Rattle.run_law.specs.Certificate.{AreBlocksOf, Blocks, before_nth}
use Rattle.run_law.specs.Counts.{HasOtherWrite, HasWrap, IsCounted, IsOfRegion, IsStepAt, before_at, is_up, step_by, stays_fit}
use Rattle.run_law.specs.Masks.{AreMasks, Enters, Itself, Through, MayWrite}
use Rattle.run_law.specs.Program.{IsGraphOf, Program}
use Rattle.run_law.proofs.Coded.{is_first_word, same_instr, words_of_unit}
use Rattle.run_law.proofs.Example.{UnitAt, At0, At4, At12, At20, At28, all_edges, blocks, calls_28, certificate, edge_at, functions, inner_units, is_long, known_facts, leading, leaf_writes, loop, masked, next_28, no_control, no_cycle, only_loop, task, units, units_28, written}
use Rattle.run_law.proofs.ExampleCode.{again, at_0, at_12, at_16, at_4, at_8, call, code, more, nop}
use Rattle.run_law.proofs.ExampleGraph.{five, flow, four, has_graph, inner_0, inner_4, reached_0, six, two, unit_0, unit_12, unit_20, unit_28, unit_4}

-- the graph's long units
of_flow : IsGraphOf task flow
of_flow = record {
  edges = refl;
  long = five (λ unit. is_long unit.at ≡ (unit.length == 8)) unit_0 unit_4 unit_12 unit_20 unit_28 refl refl refl refl refl;
}

impossible : {P : Type 0} → false ≡ true → P
impossible e = absurd (let clash : false ≡ true = e in cc)

-- masks: the first function alone writes
written_0 : (r : ℕ) → (r ≡ 2) ⊎ (r ≡ 31) → MayWrite code 0 r
unfolding writes_of
written_0 r (inl is) = subst (λ k. MayWrite code 0 k) (sym is) (record { inside = 0; enters = Itself; unit = 0; member = inner_0; at = 0; word = is_first_word code 0; instr = more; stands = at_0; writes = refl })
written_0 r (inr is) = subst (λ k. MayWrite code 0 k) (sym is) (record { inside = 0; enters = Itself; unit = 4; member = inner_4; at = 4; word = is_first_word code 4; instr = call; stands = at_4; writes = refl })

may_write : (f r : ℕ) → masked f r ≡ true → MayWrite code f r
may_write f r is =
    let both = and_parts (f == 0) ((r == 2) || (r == 31)) is in
    let which : (r ≡ 2) ⊎ (r ≡ 31) = elim (or_cases (r == 2) (r == 31) both.1) [ inl e ↦ inl (eqb-true r 2 e) | inr e ↦ inr (eqb-true r 31 e) ] in
    subst (λ g. MayWrite code g r) (sym (eqb-true f 0 both.0)) (written_0 r which)

called_28 : (g u h : ℕ) → (g ≡ 0) ⊎ (g ≡ 28) → IsUnitOf code g u → CallsAt code u h → h ≡ 28
called_28 g u h (inl main) member calls =
    let there = subst (λ k. IsUnitOf code k u) main member in
    (calls_28 (edge_of u h Call) (edge_at (edge_of u h Call) u (inner_units u there.us there.way) calls) refl).1
called_28 g u h (inr leaf) member calls =
    let from = units_28 u (subst (λ k. IsUnitOf code k u) leaf member) in
    next_28 (edge_of u h Call) (subst (λ n. Contains (leads_from code n) (edge_of u h Call)) from calls)

enters_of : (f g : ℕ) → (f ≡ 0) ⊎ (f ≡ 28) → Enters code f g → (f ≡ g) ⊎ (g ≡ 28)
enters_of f _ is Itself = inl refl
enters_of f _ is (Through g u h enters member calls) =
    let kind : (g ≡ 0) ⊎ (g ≡ 28) = elim (enters_of f g is enters) [ inl same ↦ subst (λ k. (k ≡ 0) ⊎ (k ≡ 28)) same is | inr leaf ↦ inr leaf ] in
    inr (called_28 g u h kind member calls)

told : (f r : ℕ) → IsFunction code 0 f → r < 32 → MayWrite code f r → masked f r ≡ true
told f r function low w = elim (enters_of f w.inside (functions f function) w.enters) [
  | inl same ↦ written f w.unit w.at w.instr r function (subst (λ g. IsUnitOf code g w.unit) (sym same) w.member) w.word w.stands w.writes
  | inr leaf ↦
      let at = units_28 w.unit (subst (λ g. IsUnitOf code g w.unit) leaf w.member) in
      leaf_writes w.at w.instr r (subst (λ v. is_word_of code v w.at ≡ true) at w.word) w.stands w.writes
]

are_masks : AreMasks code 0 masked
are_masks f r function low = (may_write f r, told f r function low)

-- blocks
start_listed : (u : ℕ) → blocks.starts u ≡ true → Contains flow.blocks u
start_listed u is = elim (or_cases (u == 0) ((u == 12) || ((u == 20) || (u == 28))) is) [
  | inl e ↦ (0, lit< tt, sym (eqb-true u 0 e))
  | inr a ↦ elim (or_cases (u == 12) ((u == 20) || (u == 28)) a) [
    | inl e ↦ (1, lit< tt, sym (eqb-true u 12 e))
    | inr b ↦ elim (or_cases (u == 20) (u == 28) b) [
      | inl e ↦ (2, lit< tt, sym (eqb-true u 20 e))
      | inr e ↦ (3, lit< tt, sym (eqb-true u 28 e))
    ]
  ]
]

of_blocks : AreBlocksOf flow blocks
of_blocks = record {
  units = refl;
  index = five (λ u. (blocks.index u < length blocks.units) × (slice_index blocks.units (blocks.index u) ≡ u)) 0 4 12 20 28
      (lit< tt, refl) (lit< tt, refl) (lit< tt, refl) (lit< tt, refl) (lit< tt, refl);
  starts = λ u. (start_listed u, four (λ a. blocks.starts a ≡ true) 0 12 20 28 refl refl refl refl u);
}

-- the region is entered at its header alone
abbrev EntersAtHeader : Edge → Type 0
EntersAtHeader e = is_inner e.kind ≡ true → holds loop e.from ≡ false → holds loop e.to ≡ true → e.to ≡ 0

inner_enters : (e : Edge) → Contains all_edges e → EntersAtHeader e
inner_enters = six EntersAtHeader (edge_of 0 4 Next) (edge_of 4 12 Over) (edge_of 4 28 Call) (edge_of 12 0 Taken) (edge_of 12 20 Next) (edge_of 28 12 Return)
    (λ inner out within. impossible (sym out)) (λ inner out within. impossible (sym out)) (λ inner out within. impossible inner)
    (λ inner out within. refl) (λ inner out within. impossible within) (λ inner out within. impossible inner)

side_of : (from to : ℕ) → IsSide flow loop from to → ⊥
side_of from to s = elim s.comes [
  | inl c ↦ s.aside (sym c.3 ∙ inner_enters c.0 c.1.among c.1.inner (ap (holds loop) c.2 ∙ c.4) (ap (holds loop) c.3 ∙ s.inside))
  | inr c ↦ s.aside (two (λ f. holds loop f ≡ true → f ≡ 0) 0 28 (λ h. refl) (λ h. impossible h) to c.1 s.inside)
]

no_side : (k from to : ℕ) → IsSideAt flow (loop ∷ []) k from to → ⊥
no_side zero from to (r, is, side) = let e : Some loop ≡ Some r = is in let same : loop ≡ r = cc in side_of from to (subst (λ q. IsSide flow q from to) (sym same) side)
no_side (suc k) from to (r, is, side) = cc

no_crossing : (k : ℕ) → crosses_at flow.units (loop ∷ []) k ≡ false
no_crossing zero = refl
no_crossing (suc k) = refl

nested : AreNested flow (loop ∷ [])
nested = record { crossing = no_crossing; side = no_side }

-- its only step
data There (u a : ℕ) (i : Instr) : Type 0 where
  More : u ≡ 0 → a ≡ 0 → more ≡ i → There u a i
  Other : step_by 2 i ≡ None → (writes_of i ≡ Some 2 → ⊥) → There u a i

abbrev number : Option ℕ → ℕ
number None = 0
number (Some n) = n

not_two : (o : Option ℕ) → (number o == 2) ≡ false → o ≡ Some 2 → ⊥
not_two o differ is = let clash : false ≡ true = sym differ ∙ ap (λ p. number p == 2) is in cc

other : (u a : ℕ) (i j : Instr) → j ≡ i → step_by 2 j ≡ None → (writes_of j ≡ Some 2 → ⊥) → There u a i
other u a i j same none unwritten = Other (ap (step_by 2) (sym same) ∙ none) (λ w. unwritten (ap writes_of same ∙ w))

found : (u a : ℕ) (j i : Instr) → instr_at code u ≡ Some j → a ≡ u → instr_at code a ≡ Some i → j ≡ i
found u a j i there is stands = same_instr code u j i there (ap (instr_at code) (sym is) ∙ stands)

there : (u a : ℕ) (i : Instr) → UnitAt u → holds loop u ≡ true → is_word_of code u a ≡ true → instr_at code a ≡ Some i
    → There u a i
unfolding kind_of writes_of
there _ a i At0 within word stands = elim (words_of_unit code 0 a word) [ inl is ↦ More refl is (found 0 a more i at_0 is stands) | inr is ↦ no_control 0 more at_0 refl is.0 ]
there _ a i At4 within word stands = elim (words_of_unit code 4 a word) [
  | inl is ↦ other 4 a i call (found 4 a call i at_4 is stands) refl (not_two (Some 31) refl)
  | inr is ↦ other 4 a i nop (found 8 a nop i at_8 is.1 stands) refl (not_two None refl)
]
there _ a i At12 within word stands = elim (words_of_unit code 12 a word) [
  | inl is ↦ other 12 a i again (found 12 a again i at_12 is stands) refl (not_two None refl)
  | inr is ↦ other 12 a i nop (found 16 a nop i at_16 is.1 stands) refl (not_two None refl)
]
there _ a i At20 within word stands = impossible within
there _ a i At28 within word stands = impossible within

of_region : (a : ℕ) (i : Instr) (o : IsOfRegion task loop a i) → There o.unit a i
of_region a i o = there o.unit a i (units o.unit o.reached) o.inside o.word o.stands

record TheStep (u a : ℕ) (by : ℤ) : Type 0 where
  unit : u ≡ 0
  at : a ≡ 0
  is : by ≡ pos 1

step_at : (u a : ℕ) (i : Instr) (by : ℤ) → There u a i → step_by 2 i ≡ Some by → TheStep u a by
step_at u a i by (More unit at same) steps =
    let e : Some (pos 1) ≡ Some by = ap (step_by 2) same ∙ steps in
    let is : pos 1 ≡ by = cc in
    record { unit = unit; at = at; is = sym is }
step_at u a i by (Other none unwritten) steps = absurd (let clash : None ≡ Some by = sym none ∙ steps in cc)

the_step : (a : ℕ) (by : ℤ) (s : IsStepAt task loop a by) → TheStep s.of.unit a by
the_step a by s = step_at s.of.unit a s.instr by (of_region a s.instr s.of) s.steps

the_one : IsStepAt task loop 0 (pos 1)
the_one = record {
  instr = more;
  of = record { unit = 0; reached = reached_0; inside = refl; word = is_first_word code 0; stands = at_0 };
  steps = refl;
}

other_write : (u a : ℕ) (i : Instr) → There u a i → writes_of i ≡ Some 2 → step_by 2 i ≡ None → ⊥
other_write u a i (More unit at same) writes none = let clash : Some (pos 1) ≡ None = ap (step_by 2) same ∙ none in cc
other_write u a i (Other is unwritten) writes none = unwritten writes

no_other : (a : ℕ) → HasOtherWrite task loop a → ⊥
no_other a (inl w) = other_write w.of.unit a w.instr (of_region a w.instr w.of) w.writes w.no_step
no_other a (inr (inl t)) =
    let one = the_step a t.by t.step in
    let first = the_step t.first t.first_by t.first_step in
    t.differs (ap is_up (one.is ∙ sym first.is))
no_other a (inr (inr c)) =
    let leads = leading (edge_of c.unit c.function Call) c.reached c.calls in
    let to = calls_28 (edge_of c.unit c.function Call) leads refl in
    let masked_there = told c.function 2 (inr (record { caller = c.unit; reached = c.reached; calls = c.calls })) (lit< tt) c.writes in
    impossible (sym (ap (λ n. masked n 2) to.1) ∙ masked_there)

fit_there : stays_fit (fact_of (before_at task 0 0).facts 2) (pos 1) ≡ true
unfolding before_nth
fit_there = refl

no_wrap : (a : ℕ) → HasWrap task loop a → ⊥
no_wrap a w =
    let s = the_step a w.by w.step in
    let fits = ap (λ u. stays_fit (fact_of (before_at task u a).facts 2) w.by) s.unit ∙ ap (λ b. stays_fit (fact_of (before_at task 0 b).facts 2) w.by) s.at ∙ ap (λ z. stays_fit (fact_of (before_at task 0 0).facts 2) z) s.is ∙ fit_there in
    impossible (sym w.wraps ∙ fits)

counted : IsCounted task loop
unfolding before_nth
counted = record {
  stride = Some (record { up = true; least = 1 });
  steps = (
    λ a by step. let s = the_step a by step in subst (λ z. (is_up z ≡ true) × (1 ≤ unsigned_abs z)) (sym s.is) (refl, lit≤ tt),
    (0, pos 1, the_one, refl),
  );
  cycles = λ c. no_cycle 0 c.last c.before c.way;
  writes = no_other;
  wraps = no_wrap;
  enough = lit≤ tt;
}

before_facts : AreFacts (task.before 0).facts
unfolding before_nth
before_facts = known_facts 0 4 (lit< tt) (lit< tt)

analysed : Analysed task flow blocks
analysed = record {
  graph = has_graph;
  of = of_flow;
  masks = are_masks;
  blocks = of_blocks;
  certificate = certificate;
  nested = nested;
  registers = λ r among. subst (λ q. (q.counter ≢ 0) × (q.counter < 32)) (sym (only_loop r among)) (λ e. omega (arith, e), lit< tt);
  facts = λ r among. subst (λ q. AreFacts (task.before q.header).facts) (sym (only_loop r among)) before_facts;
  counted = λ r among. subst (λ q. IsCounted task q) (sym (only_loop r among)) counted;
}

pub is_analysed : (p : Program) × (g : Flow) × (b : Blocks) × (length p.graph.regions ≡ 1) × Analysed p g b
is_analysed = (task, flow, blocks, refl, analysed)
