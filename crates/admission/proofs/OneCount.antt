-- The counts of regions are right, or one region is the first whose count isn't, with one fault, by whatever masks.
use Rattle.std.proofs.Common.{◌≡◌, ◌∙◌, sym, ap, subst, ℕ, ℤ, ◌+◌, ◌<◌, Bool, List, [], ◌∷◌, All, take, inl, inr, Option, Some, None, Result, Ok, Err, slice_get, arith}
use Rattle.std.proofs.lemmas.Bool.{cases_lt}
use Rattle.std.proofs.lemmas.List.{get_or-take, length-take}
use Rattle.std.proofs.lemmas.List.Elements.{All-get_or}
use Rattle.std.proofs.lemmas.Option.{get_or_from_slice_get, slice_get_within}
use Rattle.visa_io.specs.declared.records.Code.{Code}
use Rattle.visa_io.specs.declared.records.Region.{Region}
use Rattle.task_text.specs.declared.task.Task.{Task}
use Rattle.mips_isa.specs.declared.instr.Instr.{Instr}
use Rattle.flow_graph.specs.Flow.{Flow}
use Rattle.run_law.specs.Counts.{AreSteps, HasNoStep, HasOtherWrite, HasWrap, IsCounted, IsOfRegion, IsStepAt, Stride}
use Rattle.run_law.specs.Program.{IsQuietWay, Program, QuietEdge}
use Rattle.bound_checker.specs.Counted.{IsCountAnswer}
use Rattle.bound_checker.specs.Lines.{program_of}
use Rattle.bound_checker.specs.declared.fault.CountFault.{CountFault}
use Rattle.bound_checker.specs.declared.fault.CountFault.TheVariants.{NoStep, OtherWrite, Wraps, TooFew}
use Rattle.bound_checker.proofs.Deciding.{count_one}
use Rattle.admission.specs.Found.{HasCounts, program}

-- a task by other masks: no rule of counts reads them
abbrev by_masks : Program → (ℕ → ℕ → Bool) → Program
by_masks p m = record { code = p.code; entry = p.entry; graph = p.graph; mask = m; before = p.before }

edge_by : (p : Program) (m : ℕ → ℕ → Bool) (r : Region) (u v : ℕ) → QuietEdge p r u v → QuietEdge (by_masks p m) r u v
edge_by p m r u v e = record {
  edge = e.edge;
  from = e.from;
  to = e.to;
  reached = e.reached;
  leads = e.leads;
  inner = e.inner;
  inside_from = e.inside_from;
  inside_to = e.inside_to;
  quiet = e.quiet;
}

way_by : (p : Program) (m : ℕ → ℕ → Bool) (r : Region) (us : List ℕ) → IsQuietWay p r us → IsQuietWay (by_masks p m) r us
unfolding IsQuietWay
way_by p m r [] w = w
way_by p m r (u ∷ []) w = w
way_by p m r (v ∷ (u ∷ us)) w = (edge_by p m r u v w.0, way_by p m r (u ∷ us) w.1)

cycle_by : (p : Program) (m : ℕ → ℕ → Bool) (r : Region) → HasNoStep p r → HasNoStep (by_masks p m) r
cycle_by p m r h = record { last = h.last; before = h.before; way = way_by p m r (r.header ∷ (h.last ∷ h.before)) h.way }

abbrev of_by : (p : Program) (m : ℕ → ℕ → Bool) (r : Region) (at : ℕ) (i : Instr) → IsOfRegion p r at i → IsOfRegion (by_masks p m) r at i
of_by p m r at i h = record { unit = h.unit; reached = h.reached; inside = h.inside; word = h.word; stands = h.stands }

abbrev step_by : (p : Program) (m : ℕ → ℕ → Bool) (r : Region) (at : ℕ) (by : ℤ) → IsStepAt p r at by → IsStepAt (by_masks p m) r at by
step_by p m r at by h = record { instr = h.instr; of = of_by p m r at h.instr h.of; steps = h.steps }

write_by : (p : Program) (m : ℕ → ℕ → Bool) (r : Region) (at : ℕ) → HasOtherWrite p r at → HasOtherWrite (by_masks p m) r at
write_by p m r at (inl w) = inl (record { instr = w.instr; of = of_by p m r at w.instr w.of; writes = w.writes; no_step = w.no_step })
write_by p m r at (inr (inl w)) = inr (inl (record {
  by = w.by;
  step = step_by p m r at w.by w.step;
  first = w.first;
  first_by = w.first_by;
  first_step = step_by p m r w.first w.first_by w.first_step;
  least = λ other by step. w.least other by (step_by (by_masks p m) p.mask r other by step);
  differs = w.differs;
}))
write_by p m r at (inr (inr w)) = inr (inr (record {
  unit = w.unit;
  reached = w.reached;
  inside = w.inside;
  function = w.function;
  calls = w.calls;
  writes = w.writes;
  at_is = w.at_is;
}))

wrap_by : (p : Program) (m : ℕ → ℕ → Bool) (r : Region) (at : ℕ) → HasWrap p r at → HasWrap (by_masks p m) r at
wrap_by p m r at w = record { by = w.by; step = step_by p m r at w.by w.step; wraps = w.wraps }

steps_by : (p : Program) (m : ℕ → ℕ → Bool) (r : Region) (o : Option Stride) → AreSteps p r o → AreSteps (by_masks p m) r o
steps_by p m r None a = λ at by step. a at by (step_by (by_masks p m) p.mask r at by step)
steps_by p m r (Some stride) a =
    let (at, by, step, is) = a.1 in
    (λ at by step. a.0 at by (step_by (by_masks p m) p.mask r at by step), (at, by, step_by p m r at by step, is))

counted_by : (p : Program) (m : ℕ → ℕ → Bool) (r : Region) → IsCounted p r → IsCounted (by_masks p m) r
counted_by p m r c = record {
  stride = c.stride;
  steps = steps_by p m r c.stride c.steps;
  cycles = λ h. c.cycles (cycle_by (by_masks p m) p.mask r h);
  writes = λ at h. c.writes at (write_by (by_masks p m) p.mask r at h);
  wraps = λ at h. c.wraps at (wrap_by (by_masks p m) p.mask r at h);
  enough = c.enough;
}

answer_by : (p : Program) (m : ℕ → ℕ → Bool) (r : Region) (n : ℕ) (a : Result (Unit {0}) CountFault) → IsCountAnswer p r n a → IsCountAnswer (by_masks p m) r n a
answer_by p m r n (Ok done) c = counted_by p m r c
answer_by p m r n (Err (NoStep k)) (is, h) = (is, cycle_by p m r h)
answer_by p m r n (Err (OtherWrite k at)) (is, stepped, h) = (
  is,
  λ c. stepped (cycle_by (by_masks p m) p.mask r c),
  record { holds_here = write_by p m r at h.holds_here; least = λ a w. h.least a (write_by (by_masks p m) p.mask r a w) },
)
answer_by p m r n (Err (Wraps k at)) (is, stepped, none, h) = (
  is,
  λ c. stepped (cycle_by (by_masks p m) p.mask r c),
  λ a w. none a (write_by (by_masks p m) p.mask r a w),
  record { holds_here = wrap_by p m r at h.holds_here; least = λ a w. h.least a (wrap_by (by_masks p m) p.mask r a w) },
)
answer_by p m r n (Err (TooFew k needed)) (is, stepped, none, fits, h) = (
  is,
  λ c. stepped (cycle_by (by_masks p m) p.mask r c),
  λ a w. none a (write_by (by_masks p m) p.mask r a w),
  λ a w. fits a (wrap_by (by_masks p m) p.mask r a w),
  record { stride = h.stride; steps = steps_by p m r h.stride h.steps; needed_is = h.needed_is; more = h.more },
)

pub count_agrees : (t : Task) (code : Code) (g : Flow) (mask other : ℕ → ℕ → Bool) (r : Region) (n : ℕ) (a : Result (Unit {0}) CountFault)
    → IsCountAnswer (program t code g mask) r n a → IsCountAnswer (program t code g other) r n a
unfolding program_of
count_agrees t code g mask other r n a h = answer_by (program t code g mask) other r n a h

-- a region whose count is right has no fault
ok_err : {P : Type 0} (fault : CountFault) → (let o : Result (Unit {0}) CountFault = Ok tt in o) ≡ Err fault → P
ok_err fault e = absurd (let b : ⊥ = cc in b)

err_err : (f h : CountFault) → (let o : Result (Unit {0}) CountFault = Err f in o) ≡ Err h → f ≡ h
err_err f h e = cc

right_or_not : (p : Program) (r : Region) (n : ℕ) (fault : CountFault) → IsCounted p r → IsCountAnswer p r n (Err fault) → ⊥
right_or_not p r n fault counted fails = ok_err fault (count_one p r n (Ok tt) (Err fault) counted fails)

-- a count that isn't right, after those of the regions before it
pub record IsFirstCount (t : Task) (code : Code) (g : Flow) (mask : ℕ → ℕ → Bool) (place : ℕ) (region : Region) (fault : CountFault) : Type 0 where
  pub at : slice_get t.regions place ≡ Some region
  pub earlier : All (IsCounted (program t code g mask)) (take place t.regions)
  pub first : IsCountAnswer (program t code g mask) region (place + 1) (Err fault)

-- the count of an earlier region is right
right_before : (p : Program) (rs : List Region) (place k : ℕ) (r : Region) → All (IsCounted p) (take place rs) → k < place → slice_get rs k ≡ Some r → IsCounted p r
right_before p rs place k r earlier before at =
    let within = slice_get_within rs k r at in
    let long = length-take place rs in
    subst (IsCounted p) (get_or-take place rs k r before ∙ get_or_from_slice_get rs k r r at)
    (All-get_or (IsCounted p) (take place rs) k r (omega (arith, within, long, before)) earlier)

same_region : (rs : List Region) (k j : ℕ) (r x : Region) → k ≡ j → slice_get rs k ≡ Some r → slice_get rs j ≡ Some x → r ≡ x
same_region rs k j r x same one other = some_same r x (sym one ∙ ap (slice_get rs) same ∙ other)
  where
    some_same : (a b : Region) → Some a ≡ Some b → a ≡ b
    some_same a b e = cc

pub one_first_count : (t : Task) (code : Code) (g : Flow) (mask other : ℕ → ℕ → Bool) (k j : ℕ) (r x : Region) (f h : CountFault) → IsFirstCount t code g mask k r f → IsFirstCount t code g other j x h → f ≡ h
one_first_count t code g mask other k j r x f h a b = elim (cases_lt k j) [
  | inl before ↦ absurd (right_or_not (program t code g other) r (k + 1) f (right_before (program t code g other) t.regions j k r b.earlier before a.at) (count_agrees t code g mask other r (k + 1) (Err f) a.first))
  | inr not_before ↦ elim (cases_lt j k) [
    | inl before ↦ absurd (right_or_not (program t code g mask) x (j + 1) h (right_before (program t code g mask) t.regions k j x a.earlier before b.at) (count_agrees t code g other mask x (j + 1) (Err h) b.first))
    | inr not_after ↦ here (omega (arith, not_before, not_after))
  ]
]
  where
    here : k ≡ j → f ≡ h
    here same = err_err f h (count_one (program t code g other) x (j + 1) (Err f) (Err h)
        (subst (λ (y : Region). IsCountAnswer (program t code g other) y (j + 1) (Err f)) (same_region t.regions k j r x same a.at b.at)
        (subst (λ i. IsCountAnswer (program t code g other) r (i + 1) (Err f)) same (count_agrees t code g mask other r (k + 1) (Err f) a.first))) b.first)

pub counts_have_no_first : (t : Task) (code : Code) (g : Flow) (mask other : ℕ → ℕ → Bool) (k : ℕ) (r : Region) (f : CountFault) → HasCounts t code g mask → IsFirstCount t code g other k r f → ⊥
counts_have_no_first t code g mask other k r f counts first =
    right_or_not (program t code g mask) r (k + 1) f
    (subst (IsCounted (program t code g mask)) (get_or_from_slice_get t.regions k r r first.at) (All-get_or (IsCounted (program t code g mask)) t.regions k r (slice_get_within t.regions k r first.at) counts))
    (count_agrees t code g other mask r (k + 1) (Err f) first.first)
