-- What each condition of the analysis asks of those before it, and what it answers.
use Rattle.std.proofs.Common.{◌≡◌, ◌∙◌, sym, ap, subst, ℕ, ◌+◌, ◌<◌, Bool, List, length, take, get_or, Result, Ok, Err, Some, None, arith, inl, inr}
use Rattle.std.specs.Prelude.{slice_get}
use Rattle.std.proofs.lemmas.Bool.{cases_eq}
use Rattle.std.proofs.lemmas.List.{get_or-take, length-take}
use Rattle.std.proofs.lemmas.Option.{slice_get-get_or}
use Rattle.visa_io.specs.declared.records.Code.{Code}
use Rattle.visa_io.specs.declared.records.FactLine.{FactLine}
use Rattle.visa_io.specs.declared.records.Region.{Region}
use Rattle.task_text.specs.Limits.{KeepsLimits}
use Rattle.task_text.specs.declared.task.Task.{Task}
use Rattle.flow_graph.specs.Code.{IsCode}
use Rattle.flow_graph.specs.Flow.{Flow, IsGraph}
use Rattle.loop_regions.specs.Nested.{IsWhole, Numbered}
use Rattle.range_facts.specs.declared.facts.Facts.{Facts}
use Rattle.run_law.specs.Counts.{IsCounted}
use Rattle.run_law.specs.Loops.{loops_of}
use Rattle.bound_checker.specs.Answer.{IsAnswer, IsCheck, IsProved}
use Rattle.bound_checker.specs.Counted.{IsCountAnswer, IsSame}
use Rattle.bound_checker.specs.Gone.{mask_in}
use Rattle.bound_checker.specs.Input.{IsInput}
use Rattle.bound_checker.specs.Lines.{program_of}
use Rattle.bound_checker.specs.declared.check.Proved.{Proved}
use Rattle.bound_checker.specs.declared.fault.CountFault.{CountFault}
use Rattle.bound_checker.specs.declared.fault.FactFault.{FactFault}
use Rattle.bound_checker.specs.declared.fault.FactFault.TheVariants.{NotHeld, Memory}
use Rattle.bound_checker.proofs.Agreeing.{found_agrees}
use Rattle.path_wcet.proofs.Graphs.{whole_graph}
use Rattle.subtask_cut.specs.Cuts as cuts
use Rattle.subtask_cut.specs.Cuts.{SubTasks}
use Rattle.subtask_cut.specs.declared.fault.CutFault.{CutFault}
use Rattle.admission.specs.Analysing.{AreCountedTo, AreKept, AreNested, ArePassed, cut_refusal, fact_refusal}
use Rattle.admission.specs.Found.{HasCounts, HasFacts, HasGraph, opening_facts, program}
use Rattle.admission.specs.Refused.{IsRefused}
use Rattle.admission.specs.declared.refusal.Refusal.{Refusal}
use Rattle.admission.specs.declared.refusal.Refusal.TheVariants.{Loop}
use Rattle.admission.proofs.Decided.{cut_refused}
use Rattle.admission.proofs.Limits.{line_in}

pub whole_of : (t : Task) (code : Code) (entry : ℕ) (g : Flow) → HasGraph t code entry g → IsWhole g
whole_of t code entry g has = whole_graph code entry g has.graph

pub own_of : (t : Task) (code : Code) (entry : ℕ) (g : Flow) → HasGraph t code entry g → IsGraph code g.entry g
own_of t code entry g has = subst (λ e. IsGraph code e g) (sym has.graph.entry_is) has.graph

pub input_of : (t : Task) (code : Code) (entry : ℕ) (g : Flow) (lines : List FactLine) → lines ≡ t.facts → KeepsLimits t → IsCode code → HasGraph t code entry g
    → IsInput code g lines
input_of t code entry g lines same keeps is has = subst (IsInput code g) (sym same) (record {
  whole = is;
  graph = own_of t code entry g has;
  lines_are = λ k d below. line_in _ (keeps.facts k d below);
})

-- the facts are kept
pub kept_of : (t : Task) (code : Code) (entry : ℕ) (g : Flow) (n : Numbered) (lines : List FactLine) (opening : Facts) (p : Proved) → AreNested t code entry g n
    → lines ≡ t.facts → opening ≡ opening_facts t → IsAnswer code g lines opening (Ok p) → AreKept t code entry g n p
kept_of t code entry g n lines opening p nested same opens (proved, check) = by same opens proved check
  where
    by : lines ≡ t.facts → opening ≡ opening_facts t → IsProved code g lines p → IsCheck code g lines opening None → AreKept t code entry g n p
    by same opens proved check =
        let own : IsProved code g t.facts p = subst (λ ls. IsProved code g ls p) same proved in
        let checked : IsCheck code g t.facts (opening_facts t) None = subst (λ o. IsCheck code g t.facts o None) opens (subst (λ ls. IsCheck code g ls opening None) same check) in
        record {
          nested = nested;
          proved = own;
          has_facts = record {
            masks = own.masks_are;
            kept = (found_agrees code g t.facts (loops_of g t.regions) checked.mask (mask_in p.masks) (opening_facts t) None checked.masks own.masks_are).0
                (checked.is (loops_of g t.regions));
          };
        }

-- or one isn't
pub fact_refused : (t : Task) (code : Code) (entry : ℕ) (g : Flow) (n : Numbered) (lines : List FactLine) (opening : Facts) → AreNested t code entry g n
    → lines ≡ t.facts → opening ≡ opening_facts t → (fault : FactFault) → IsAnswer code g lines opening (Err fault) → IsRefused t code entry (fact_refusal fault)
fact_refused t code entry g n lines opening nested same opens Memory is = tt
fact_refused t code entry g n lines opening nested same opens (NotHeld from to r) is =
    let check = subst (λ o. IsCheck code g t.facts o (Some (Rattle.bound_checker.specs.Answer.place from to r))) opens
    (subst (λ ls. IsCheck code g ls opening (Some (Rattle.bound_checker.specs.Answer.place from to r))) same is) in
    record {
      graph = g;
      nest = n;
      mask = check.mask;
      has_graph = nested.has_graph;
      has_nest = nested.has_nest;
      masks = check.masks;
      first = check.is (loops_of g t.regions);
    }

-- no count is checked yet
pub none_counted : (t : Task) (code : Code) (entry : ℕ) (g : Flow) (n : Numbered) (p : Proved) → AreKept t code entry g n p → AreCountedTo t code entry g n 0 p
none_counted t code entry g n p kept = record { kept = kept; counts = λ j below d. absurd (none j below) }
  where
    none : (j : ℕ) → j < 0 → ⊥
    none j below = omega (arith, below)

-- what the check of one count answers, of the region at its place
abbrev pub AnswersAt : Code → Flow → List FactLine → Numbered → ℕ → Result (Unit {0}) CountFault → Type 0
AnswersAt code g lines n k r =
    (region : Region) → slice_get n.regions k ≡ Some region → (loops : Rattle.loop_regions.specs.Walks.LoopGraph) (mask : ℕ → ℕ → Bool)
    → IsCountAnswer (program_of code g lines loops mask) region (k + 1) r

region_there : (t : Task) (n : Numbered) (k : ℕ) (d : Region) → n.regions ≡ t.regions → k < length t.regions → slice_get n.regions k ≡ Some (get_or t.regions k d)
region_there t n k d same below = ap (λ (l : List Region). slice_get l k) same ∙ slice_get-get_or t.regions k d below

pub one_counted : (t : Task) (code : Code) (entry : ℕ) (g : Flow) (n : Numbered) (k : ℕ) (lines : List FactLine) (old new : Proved) → AreCountedTo t code entry g n k old
    → k < length t.regions → lines ≡ t.facts → IsSame old new → IsProved code g lines new → AnswersAt code g lines n k (Ok tt) → AreCountedTo t code entry g n (k + 1) new
one_counted t code entry g n k lines old new so below same is proved answer = record {
  kept = record {
    nested = so.kept.nested;
    proved = subst (λ ls. IsProved code g ls new) same proved;
    has_facts = subst (λ m. HasFacts t code g (mask_in m)) (sym is.masks) so.kept.has_facts;
  };
  counts = λ j within d. elim (cases_eq j k) [
    | inl here ↦ subst (λ i. IsCounted (program t code g (mask_in new.masks)) (get_or t.regions i d)) (sym here) (counted d)
    | inr other ↦ subst (λ m. IsCounted (program t code g (mask_in m)) (get_or t.regions j d)) (sym is.masks) (so.counts j (omega (arith, within, other)) d)
  ];
}
  where
    counted : (d : Region) → IsCounted (program t code g (mask_in new.masks)) (get_or t.regions k d)
    counted d =
        subst (λ ls. IsCounted (program_of code g ls (loops_of g t.regions) (mask_in new.masks)) (get_or t.regions k d)) same
        (answer (get_or t.regions k d) (region_there t n k d so.kept.nested.has_nest.regions_are below) (loops_of g t.regions) (mask_in new.masks))

no_region : Region
no_region = record { first = 0; last = 0; header = 0; count = 0; counter = 0 }

pub loop_refused : (t : Task) (code : Code) (entry : ℕ) (g : Flow) (n : Numbered) (k : ℕ) (lines : List FactLine) (old : Proved) → AreCountedTo t code entry g n k old
    → k < length t.regions → lines ≡ t.facts → (fault : CountFault) → AnswersAt code g lines n k (Err fault) → IsRefused t code entry (Loop fault)
loop_refused t code entry g n k lines old so below same fault answer = record {
  graph = g;
  nest = n;
  mask = mask_in old.masks;
  has_graph = so.kept.nested.has_graph;
  has_nest = so.kept.nested.has_nest;
  has_facts = so.kept.has_facts;
  place = k;
  region = get_or t.regions k no_region;
  at = slice_get-get_or t.regions k no_region below;
  earlier = λ j d within. earlier j d (omega (arith, within, length-take k t.regions));
  first = subst (λ ls. IsCountAnswer (program_of code g ls (loops_of g t.regions) (mask_in old.masks)) (get_or t.regions k no_region) (k + 1) (Err fault)) same
      (answer (get_or t.regions k no_region) (region_there t n k no_region so.kept.nested.has_nest.regions_are below) (loops_of g t.regions) (mask_in old.masks));
}
  where
    earlier : (j : ℕ) (d : Region) → j < k → IsCounted (program t code g (mask_in old.masks)) (get_or (take k t.regions) j d)
    earlier j d within = subst (IsCounted (program t code g (mask_in old.masks))) (sym (get_or-take k t.regions j d within)) (so.counts j within d)

pub all_counted : (t : Task) (code : Code) (entry : ℕ) (g : Flow) (n : Numbered) (p : Proved) → AreCountedTo t code entry g n (length t.regions) p
    → HasCounts t code g (mask_in p.masks)
all_counted t code entry g n p so = λ k d below. so.counts k below d

-- the cuts keep their rules
pub cuts_passed : (t : Task) (code : Code) (entry : ℕ) (g : Flow) (n : Numbered) (p : Proved) (asked : List ℕ) (s : SubTasks)
    → AreCountedTo t code entry g n (length t.regions) p → asked ≡ t.cuts → cuts.IsAnswer g n.regions asked (Ok s) → ArePassed t code entry g n s
cuts_passed t code entry g n p asked s so same is = record {
  mask = mask_in p.masks;
  counted = record { nested = so.kept.nested; has_facts = so.kept.has_facts; has_counts = all_counted t code entry g n p so };
  has_cuts = subst (λ rs. cuts.AreSubTasks g rs t.cuts s) so.kept.nested.has_nest.regions_are (subst (λ cs. cuts.AreSubTasks g n.regions cs s) same is);
}

-- or one doesn't
pub cuts_refused : (t : Task) (code : Code) (entry : ℕ) (g : Flow) (n : Numbered) (p : Proved) (asked : List ℕ) (fault : CutFault) (r : Refusal)
    → AreCountedTo t code entry g n (length t.regions) p → asked ≡ t.cuts → r ≡ cut_refusal fault → cuts.IsAnswer g n.regions asked (Err fault) → IsRefused t code entry r
cuts_refused t code entry g n p asked fault r so same is answer = subst (IsRefused t code entry) (sym is)
    (cut_refused t code entry g n (mask_in p.masks) so.kept.nested.has_graph so.kept.nested.has_nest so.kept.has_facts (all_counted t code entry g n p so) fault
    (subst (λ rs. cuts.IsAnswer g rs t.cuts (Err fault)) so.kept.nested.has_nest.regions_are (subst (λ cs. cuts.IsAnswer g n.regions cs (Err fault)) same answer)))
