-- A text gives one task or one refusal, and one list of jobs or one refusal; but for want of memory.
use Rattle.std.proofs.Common.{◌≡◌, ◌⊎◌, inl, inr, ℕ, suc, List, [], ◌∷◌, ◌++◌, length, Ok, refl, sym, ap, subst, ◌∙◌, append_assoc}
use Rattle.std.specs.Prelude.{◌≢◌}
use Rattle.text_fields.specs.Lines.{lines_of}
use Rattle.task_text.specs.declared.fault.JobsFault.{JobsFault}
use Rattle.task_text.specs.declared.fault.JobsFault.TheVariants as jobs_fault
use Rattle.task_text.specs.declared.fault.LineKind.{LineKind}
use Rattle.task_text.specs.declared.fault.LineKind.TheVariants.{Bytes, Word, Field, Value, End}
use Rattle.task_text.specs.declared.fault.TaskFault.{TaskFault}
use Rattle.task_text.specs.declared.fault.TaskFault.TheVariants.{Line, Memory}
use Rattle.task_text.specs.declared.jobs.Jobs.{Jobs}
use Rattle.task_text.specs.declared.task.Task.{Task}
use Rattle.task_text.specs.Texts.{Begins, Fails, IsFault, IsFaultIn, IsRefusal, IsTask, StopsEarly}
use Rattle.task_text.specs.JobsTexts.{IsJobs}
use Rattle.task_text.specs.JobsTexts as jobs_texts
use Rattle.task_text.proofs.JobsWalks as jobs
use Rattle.task_text.proofs.Tracked.{given_only}
use Rattle.task_text.proofs.Walks.{begins_front}

pub one_task : (bytes : List ℕ) (t u : Task) → IsTask bytes t → IsTask bytes u → t ≡ u
one_task bytes t u a b = let same : Ok t ≡ Ok u = sym (given_only bytes t a) ∙ given_only bytes u b in cc

pub one_jobs : (bytes : List ℕ) (t : Task) (i j : Jobs) → IsJobs bytes t i → IsJobs bytes t j → i ≡ j
one_jobs bytes t i j a b = let same : Ok i ≡ Ok j = sym (jobs.given_only t bytes i a) ∙ jobs.given_only t bytes j b in cc

-- what holds of the front of each list of which it holds first fails at one place
one_place : {X : Type 0} (P : List X → Type 0) → ((a b : List X) → P (a ++ b) → P a) → (before other after more : List X) (at place : X)
    → before ++ at ∷ after ≡ other ++ place ∷ more → P before → P other → ¬ (P (before ++ at ∷ [])) → ¬ (P (other ++ place ∷ [])) → (before ≡ other) × (at ≡ place)
one_place P front [] [] after more at place e p q stops ends = (refl, cc)
one_place {X} P front [] (y ∷ other) after more at place e p q stops ends =
    let same : y ≡ at = cc in
    let Of : X → Type 0 = λ x. P (x ∷ other) in
    absurd (stops (front (at ∷ []) other (subst Of same q)))
one_place {X} P front (x ∷ before) [] after more at place e p q stops ends =
    let same : x ≡ place = cc in
    let Of : X → Type 0 = λ y. P (y ∷ before) in
    absurd (ends (front (place ∷ []) before (subst Of same p)))
one_place {X} P front (x ∷ before) (y ∷ other) after more at place e p q stops ends =
    let same : y ≡ x = cc in
    let Holds : X → Type 0 = λ z. P (z ∷ other) in
    let Ends : X → Type 0 = λ z. ¬ (P (z ∷ (other ++ place ∷ []))) in
    let behind : before ++ at ∷ after ≡ other ++ place ∷ more = cc in
    let rest = one_place (λ xs. P (x ∷ xs)) (λ a b. front (x ∷ a) b) before other after more at place behind p (subst Holds same q) stops (subst Ends same ends) in
    ((λ i. sym same i ∷ rest.0 i), rest.1)

-- a line fails one test first
one_test : (before : List (List ℕ)) (l : List ℕ) (k j : LineKind) → Fails k before l → Fails j before l → k ≡ j
one_test before l Bytes Bytes x y = refl
one_test before l Bytes Word x y = let no = sym x ∙ y.0 in cc
one_test before l Bytes Field x y = let no = sym x ∙ y.0 in cc
one_test before l Bytes Value x y = let no = sym x ∙ y.0 in cc
one_test before l Word Bytes x y = let no = sym y ∙ x.0 in cc
one_test before l Word Word x y = refl
one_test before l Word Field x y = absurd (x.1 y.1)
one_test before l Word Value x y = absurd (x.1 y.1)
one_test before l Field Bytes x y = let no = sym y ∙ x.0 in cc
one_test before l Field Word x y = absurd (y.1 x.1)
one_test before l Field Field x y = refl
one_test before l Field Value x y = absurd (x.2 y.2)
one_test before l Value Bytes x y = let no = sym y ∙ x.0 in cc
one_test before l Value Word x y = absurd (y.1 x.1)
one_test before l Value Field x y = absurd (y.2 x.2)
one_test before l Value Value x y = refl
one_test before l End j x y = absurd x
one_test before l k End x y = absurd y

-- a line of the text fails, or the text ends early
parted : (bytes : List ℕ) (n : ℕ) (k : LineKind) → IsFault bytes n k → IsFaultIn (lines_of bytes) n k ⊎ ((k ≡ End) × StopsEarly (lines_of bytes) n)
parted bytes n Bytes x = inl x
parted bytes n Word x = inl x
parted bytes n Field x = inl x
parted bytes n Value x = inl x
parted bytes n End x = inr (refl, x)

fronts : (a b : List (List ℕ)) → Begins (a ++ b) → Begins a
fronts a b x = begins_front a b x.more x.rows x.whole x.lines

one_line : (bytes : List ℕ) (n m : ℕ) (k j : LineKind) → IsFault bytes n k → IsFault bytes m j → (n ≡ m) × (k ≡ j)
one_line bytes n m k j x y = by (parted bytes n k x) (parted bytes m j y)
  where
    goes_on : (r : ℕ) (d : LineKind) → (f : IsFaultIn (lines_of bytes) r d) → ¬ (Begins (lines_of bytes))
    goes_on r d f all = f.stops (fronts (f.before ++ f.at ∷ []) f.after (subst Begins (f.parts ∙ sym (append_assoc f.before (f.at ∷ []) f.after)) all))

    by : IsFaultIn (lines_of bytes) n k ⊎ ((k ≡ End) × StopsEarly (lines_of bytes) n) → IsFaultIn (lines_of bytes) m j ⊎ ((j ≡ End) × StopsEarly (lines_of bytes) m)
        → (n ≡ m) × (k ≡ j)
    by (inl f) (inl g) =
        let one = one_place Begins fronts f.before g.before f.after g.after f.at g.at (sym f.parts ∙ g.parts) f.begins g.begins f.stops g.stops in
        let At : List (List ℕ) → Type 0 = λ b. Fails k b g.at in
        let Of : List ℕ → Type 0 = λ l. Fails k f.before l in
        (f.number ∙ ap (λ (b : List (List ℕ)). suc (length b)) one.0 ∙ sym g.number, one_test g.before g.at k j (subst At one.0 (subst Of one.1 f.fails)) g.fails)
    by (inl f) (inr g) = absurd (goes_on n k f g.1.begins)
    by (inr f) (inl g) = absurd (goes_on m j g f.1.begins)
    by (inr f) (inr g) = (f.1.number ∙ sym g.1.number, f.0 ∙ sym g.0)

-- a text that is no task's has one refusal
pub task_refusal : (bytes : List ℕ) (one other : TaskFault) → IsRefusal bytes one → IsRefusal bytes other → one ≢ Memory → other ≢ Memory → one ≡ other
task_refusal bytes (Line n k) (Line m j) x y some more = let same = one_line bytes n m k j x.0 y.0 in λ i. Line (same.0 i) (same.1 i)
task_refusal bytes Memory other x y some more = absurd (some refl)
task_refusal bytes one Memory x y some more = absurd (more refl)

pub task_or_refusal : (bytes : List ℕ) (t : Task) (fault : TaskFault) → IsTask bytes t → IsRefusal bytes fault → fault ≡ Memory
task_or_refusal bytes t (Line n k) is none = absurd (none.1 t is)
task_or_refusal bytes t Memory is none = refl

-- and so has a text that is none of a task's jobs
one_jobs_line : (bytes : List ℕ) (t : Task) (n m : ℕ) → jobs_texts.StopsAt t (lines_of bytes) n ⊎ jobs_texts.StopsEarly t (lines_of bytes) n
    → jobs_texts.StopsAt t (lines_of bytes) m ⊎ jobs_texts.StopsEarly t (lines_of bytes) m → n ≡ m
one_jobs_line bytes t n m x y = by x y
  where
    Starts : List (List ℕ) → Type 0
    Starts ls = jobs_texts.Begins t ls

    front : (a b : List (List ℕ)) → Starts (a ++ b) → Starts a
    front a b s = jobs.begins_front t a b s.more s.rows s.whole s.lines

    goes_on : (r : ℕ) → (f : jobs_texts.StopsAt t (lines_of bytes) r) → ¬ (Starts (lines_of bytes))
    goes_on r f all = f.stops (front (f.before ++ f.at ∷ []) f.after (subst Starts (f.parts ∙ sym (append_assoc f.before (f.at ∷ []) f.after)) all))

    by : jobs_texts.StopsAt t (lines_of bytes) n ⊎ jobs_texts.StopsEarly t (lines_of bytes) n → jobs_texts.StopsAt t (lines_of bytes) m ⊎ jobs_texts.StopsEarly t (lines_of bytes) m
        → n ≡ m
    by (inl f) (inl g) =
        let one = one_place Starts front f.before g.before f.after g.after f.at g.at (sym f.parts ∙ g.parts) f.begins g.begins f.stops g.stops in
        f.number ∙ ap (λ (b : List (List ℕ)). suc (length b)) one.0 ∙ sym g.number
    by (inl f) (inr g) = absurd (goes_on n f g.begins)
    by (inr f) (inl g) = absurd (goes_on m g f.begins)
    by (inr f) (inr g) = f.number ∙ sym g.number

pub jobs_refusal : (bytes : List ℕ) (t : Task) (one other : JobsFault) → jobs_texts.IsRefusal bytes t one → jobs_texts.IsRefusal bytes t other
    → one ≢ jobs_fault.Memory → other ≢ jobs_fault.Memory → one ≡ other
jobs_refusal bytes t (jobs_fault.Line n) (jobs_fault.Line m) x y some more = ap (λ at. jobs_fault.Line at) (one_jobs_line bytes t n m x.0 y.0)
jobs_refusal bytes t jobs_fault.Memory other x y some more = absurd (some refl)
jobs_refusal bytes t one jobs_fault.Memory x y some more = absurd (more refl)

pub jobs_or_refusal : (bytes : List ℕ) (t : Task) (js : Jobs) (fault : JobsFault) → IsJobs bytes t js → jobs_texts.IsRefusal bytes t fault → fault ≡ jobs_fault.Memory
jobs_or_refusal bytes t js (jobs_fault.Line n) is none = absurd (none.1 js is)
jobs_or_refusal bytes t js jobs_fault.Memory is none = refl
