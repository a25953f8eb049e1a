-- The example is admitted, and has a job.
use Rattle.std.proofs.Common.{◌≡◌, ◌∙◌, refl, sym, subst, ℕ, zero, suc, ◌-◌, ◌/◌, ◌%◌, ◌<◌, ◌≤◌, Bool, true, false, [], ◌∷◌, arith, lit<, lit≤, inl, inr}
use Rattle.std.specs.Prelude.{◌==◌, if◌then◌else◌, None, Some, nat_le, nat_lt, slice_get}
use Rattle.std.proofs.lemmas.Bool.{and_parts, cases_eq, eqb-true, ltb-true}
use Rattle.std.proofs.lemmas.List.Elements.{All-nil}
use Rattle.visa_io.specs.ImageCode.{code_of_image}
use Rattle.visa_io.specs.declared.records.Code.{Code}
use Rattle.mips_isa.specs.Encoding.{encode_of}
use Rattle.mips_ref.specs.Memory.{Flat, LaidOut, code_word_at, place_from}
use Rattle.checkpoint_plan.specs.Plan.{overhead_of, owed_of, rem_of}
use Rattle.flow_graph.specs.Code.{holds, word_at, word_from}
use Rattle.frequency_pick.specs.Choice.{plan_of}
use Rattle.run_law.specs.Runs.{HasCode}
use Rattle.task_layout.specs.Layout.{IsDeclared}
use Rattle.admission.specs.Admitted.{IsAdmitted, Times, needed_of}
use Rattle.admission.specs.Found.{Analysis, AreBounds}
use Rattle.admission.specs.Plans.{ArePlans, IsPlanOf}
use Rattle.admission.specs.declared.mode.Mode.TheVariants.{Simple}
use Rattle.admitted_jobs.specs.Jobs.{IsJob, job_of}
use Rattle.admitted_jobs.proofs.ExampleCode.{code, code_is, image, span}
use Rattle.admitted_jobs.proofs.ExampleCuts.{bounds_there, cuts_there, subs}
use Rattle.admitted_jobs.proofs.ExampleFacts.{counts_there, facts_there, graph_there, mask, nest, nest_there}
use Rattle.admitted_jobs.proofs.ExampleGraph.{flow}
use Rattle.admitted_jobs.proofs.ExampleTask.{task}

-- the pair of points has no plan
abbrev pub times : Times
times = record { bounds = (2 ∷ 4 ∷ []) ∷ []; plans = record { points = 1; plans = None ∷ [] } }

no_plan : IsPlanOf task times.bounds 0 0 None
unfolding owed_of overhead_of rem_of
no_plan = lit< tt

plans_there : ArePlans task times.bounds times.plans
plans_there = record { points = refl; long = refl; are = each }
  where
    each : (a b : ℕ) → a < 1 → b < 1 → IsPlanOf task times.bounds a b (plan_of times.plans (record { a = a; b = b }))
    each zero zero first second = no_plan
    each zero (suc b) first second = absurd (omega (arith, second))
    each (suc a) b first second = absurd (omega (arith, first))

in_time : needed_of Simple task times.bounds ≤ task.deadline_ps
unfolding needed_of rem_of
in_time = lit≤ tt

analysis : Analysis task code 0
analysis = record {
  graph = flow;
  nest = nest;
  mask = mask;
  subs = subs;
  has_graph = graph_there;
  has_nest = nest_there;
  has_facts = facts_there;
  has_counts = counts_there;
  has_cuts = cuts_there;
}

-- what passed, with its bounds
record IsFound (c : Code) : Type 0 where
  analysis : Analysis task c 0
  bounds : AreBounds task analysis.graph analysis.nest analysis.subs times.bounds

found : IsFound (code_of_image image)
unfolding analysis
found = subst (λ c. IsFound c) (sym code_is) (record { analysis = analysis; bounds = bounds_there })

pub admitted : IsAdmitted Simple task image times
admitted = record { analysis = found.analysis; bounds = found.bounds; plans = plans_there; in_time = in_time }

-- its memory
abbrev memory : Flat
memory = record { spans = span ∷ []; bytes = image.bytes; big = true }

laid : LaidOut 0 (span ∷ [])
unfolding LaidOut
laid = (lit≤ tt, lit< tt, lit≤ tt, tt)

word_0 : code_word_at memory 0 ≡ word_at code 0
unfolding code_word_at place_from word_from encode_of
word_0 = refl

word_4 : code_word_at memory 4 ≡ word_at code 4
unfolding code_word_at place_from word_from encode_of
word_4 = refl

word_8 : code_word_at memory 8 ≡ word_at code 8
unfolding code_word_at place_from word_from encode_of
word_8 = refl

-- no other address has a word
has_word : (a word : ℕ) → word_at code a ≡ Some word → (a % 4 ≡ 0) × (a < 12)
unfolding word_from
has_word a word is = by_four (a % 4 == 0) refl is
  where
    by_span : a % 4 ≡ 0 → (b : Bool) → holds span a ≡ b
        → (if b then slice_get code.words ((a - 0) / 4) else None) ≡ Some word → (a % 4 ≡ 0) × (a < 12)
    by_span four true inside there =
        let both = and_parts (nat_le 0 a) (nat_lt a 12) inside in (four, ltb-true a 12 both.1)
    by_span four false outside there = cc

    by_four : (b : Bool) → (a % 4 == 0) ≡ b
        → (if b then (if holds span a then slice_get code.words ((a - 0) / 4) else None) else None) ≡ Some word
        → (a % 4 ≡ 0) × (a < 12)
    by_four true four there = by_span (eqb-true (a % 4) 0 four) (holds span a) refl there
    by_four false other there = cc

same_word : (a : ℕ) → a % 4 ≡ 0 → a < 12 → code_word_at memory a ≡ word_at code a
same_word a four below = elim (cases_eq a 0) [
  | inl is ↦ subst (λ n. code_word_at memory n ≡ word_at code n) (sym is) word_0
  | inr first ↦ elim (cases_eq a 4) [
    | inl is ↦ subst (λ n. code_word_at memory n ≡ word_at code n) (sym is) word_4
    | inr second ↦ (
        let is : a ≡ 8 = omega (arith, four, below, first, second) in
        subst (λ n. code_word_at memory n ≡ word_at code n) (sym is) word_8)
  ]
]

code_there : HasCode code memory
code_there = record {
  laid_out = laid;
  words = λ a word is. let there = has_word a word is in same_word a there.0 there.1 ∙ is;
}

pub job_there : IsJob task image (job_of task image memory [])
job_there = record {
  memory = memory;
  input = [];
  ready = record {
    has_code = subst (λ c. HasCode c memory) (sym code_is) code_there;
    input_at = lit< tt;
    input = λ k below. absurd (omega (arith, below));
    shows = All-nil (IsDeclared memory);
  };
  fits = lit≤ tt;
  opens = refl;
}
