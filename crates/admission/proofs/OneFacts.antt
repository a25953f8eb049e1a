-- All facts are kept, or there is one first place where one isn't, by whatever masks.
use Rattle.std.proofs.Common.{◌≡◌, refl, sym, ℕ, ◌<◌, Bool, inl, inr, Some, arith}
use Rattle.visa_io.specs.declared.records.Code.{Code}
use Rattle.task_text.specs.declared.task.Task.{Task}
use Rattle.flow_graph.specs.Flow.{Flow}
use Rattle.range_facts.specs.declared.facts.Facts.{Facts}
use Rattle.run_law.specs.Certificate.{Blocks}
use Rattle.run_law.specs.Loops.{loops_of}
use Rattle.run_law.specs.Masks.{AreMasks}
use Rattle.run_law.specs.Program.{Program}
use Rattle.bound_checker.specs.Answer.{place}
use Rattle.bound_checker.specs.Checked.{AllKept, Fails, IsEarlier, IsFirst}
use Rattle.bound_checker.specs.Lines.{blocks_of}
use Rattle.bound_checker.specs.declared.fault.FactFault.TheVariants.{NotHeld}
use Rattle.bound_checker.proofs.Agreeing.{found_agrees}
use Rattle.admission.specs.Found.{HasFacts, opening_facts, program}

neither : (f t r f2 t2 r2 : ℕ) → (IsEarlier f t r f2 t2 r2 → ⊥) → (IsEarlier f2 t2 r2 f t r → ⊥) → (f ≡ f2) × (t ≡ t2) × (r ≡ r2)
neither f t r f2 t2 r2 a b =
    let from : f ≡ f2 = level f f2 (λ l. a (inl l)) (λ l. b (inl l)) in
    let to : t ≡ t2 = level t t2 (λ l. a (inr (from, inl l))) (λ l. b (inr (sym from, inl l))) in
    (from, to, level r r2 (λ l. a (inr (from, inr (to, l)))) (λ l. b (inr (sym from, inr (sym to, l)))))
  where
    level : (m n : ℕ) → (m < n → ⊥) → (n < m → ⊥) → m ≡ n
    level m n below above = omega (arith, below, above)

place_at : {f f2 t t2 r r2 : ℕ} → f ≡ f2 → t ≡ t2 → r ≡ r2 → NotHeld f t r ≡ NotHeld f2 t2 r2
place_at p q s = rw (p, q, s) refl

one_place : (p : Program) (b : Blocks) (opening : Facts) (f t r f2 t2 r2 : ℕ) → IsFirst p b opening f t r → IsFirst p b opening f2 t2 r2 → NotHeld f t r ≡ NotHeld f2 t2 r2
one_place p b opening f t r f2 t2 r2 x y = let same = neither f t r f2 t2 r2 (y.first f t r x.here) (x.first f2 t2 r2 y.here) in place_at same.0 same.1 same.2

none_fails : (p : Program) (b : Blocks) (opening : Facts) (f t r : ℕ) → AllKept p b opening → Fails p b opening f t r → ⊥
none_fails p b opening f t r all fails = elim fails.where_is [
  | inl e ↦ e.fails (all.certificate.kept e.edge r e.is_edge.reached e.is_edge.leads e.is_edge.start fails.register)
  | inr o ↦ o.fails (all.opened r fails.register)
]

-- the first place by other masks
abbrev IsFirstBy : Task → Code → Flow → (ℕ → ℕ → Bool) → ℕ → ℕ → ℕ → Type 0
IsFirstBy t code g mask from to r = IsFirst (program t code g mask) (blocks_of g t.facts) (opening_facts t) from to r

first_by : (t : Task) (code : Code) (g : Flow) (mask other : ℕ → ℕ → Bool) (from to r : ℕ) → AreMasks code g.entry mask → AreMasks code g.entry other
    → IsFirstBy t code g mask from to r → IsFirstBy t code g other from to r
first_by t code g mask other from to r one two first =
    (found_agrees code g t.facts (loops_of g t.regions) mask other (opening_facts t) (Some (place from to r)) one two).0 first

pub one_lost_fact : (t : Task) (code : Code) (g : Flow) (mask other : ℕ → ℕ → Bool) (f u r f2 u2 r2 : ℕ) → AreMasks code g.entry mask → AreMasks code g.entry other
    → IsFirstBy t code g mask f u r → IsFirstBy t code g other f2 u2 r2 → NotHeld f u r ≡ NotHeld f2 u2 r2
one_lost_fact t code g mask other f u r f2 u2 r2 one two x y =
    one_place (program t code g other) (blocks_of g t.facts) (opening_facts t) f u r f2 u2 r2 (first_by t code g mask other f u r one two x) y

pub facts_lose_none : (t : Task) (code : Code) (g : Flow) (mask other : ℕ → ℕ → Bool) (f u r : ℕ) → HasFacts t code g mask → AreMasks code g.entry other
    → IsFirstBy t code g other f u r → ⊥
facts_lose_none t code g mask other f u r has masks first =
    none_fails (program t code g mask) (blocks_of g t.facts) (opening_facts t) f u r has.kept (first_by t code g other mask f u r masks has.masks first).here
