-- The choice asks for the predictions of a plan's sub-tasks alone.
use Rattle.std.proofs.Common.{◌≡◌, refl, ap, ◌∙◌, ℕ, ◌+◌, ◌-◌, ◌*◌, ◌≤◌, ◌<◌, Bool, ◌&&◌, List, [], ◌∷◌, length, nat_le, All, arith}
use Rattle.std.proofs.lemmas.List.Elements.{All-get_or, All-tail}
use Rattle.std.specs.Prelude.{Option, Some, None, position, not, nat_lt, if◌then◌else◌}
use Rattle.std.specs.List.{prefix_len}
use Rattle.checkpoint_plan.specs.declared.plan.Plan.{Plan}
use Rattle.frequency_pick.specs.Choice.{IsFitting, PlanTable, all_in_time, is_feasible, is_in_time, pair_or_fastest, first_feasible}
use Rattle.frequency_pick.specs.Counts.{Count, StandsFor, predicted_by, prediction, greatest, counts_of}
use Rattle.circular_buffer.specs.Buffer.{keep_last}

one_same : (period before c : ℕ) (p : Option ℕ) (f g : ℕ → Bool) → ((n : ℕ) → f n ≡ g n) → is_in_time period before c p f ≡ is_in_time period before c p g
one_same period before c None f g same = refl
one_same period before c (Some n) f g same = ap (λ (b : Bool). nat_le ((before + n) * period) c && b) (same (before + n))

same_in_time : (p q : ℕ → Option ℕ) (period i before : ℕ) (cs : List ℕ) → ((j : ℕ) → i ≤ j → j < i + length cs → p j ≡ q j)
    → all_in_time p period i before cs ≡ all_in_time q period i before cs
same_in_time p q period i before [] same = refl
same_in_time p q period i before (c ∷ cs) same =
    ap (λ (o : Option ℕ). is_in_time period before c o (λ s. all_in_time p period (i + 1) s cs)) (same i (omega arith) (omega arith))
    ∙ one_same period before c (q i) (λ s. all_in_time p period (i + 1) s cs) (λ s. all_in_time q period (i + 1) s cs)
    (λ s. same_in_time p q period (i + 1) s cs (λ j low high. same j (omega (arith, low)) (omega (arith, high))))

same_feasible : (p q : ℕ → Option ℕ) (subs : ℕ) → ((j : ℕ) → 1 ≤ j → j ≤ subs → p j ≡ q j) → (o : Option Plan) → IsFitting subs o
    → is_feasible p o ≡ is_feasible q o
unfolding is_feasible
same_feasible p q subs same None fits = refl
same_feasible p q subs same (Some plan) fits =
    same_in_time p q plan.period_ps 1 0 plan.checkpoint_ps (λ j low high. same j low (omega (arith, high, fits.0)))

same_prefix : (p q : ℕ → Option ℕ) (subs : ℕ) → ((j : ℕ) → 1 ≤ j → j ≤ subs → p j ≡ q j) → (plans : List (Option Plan)) → All (IsFitting subs) plans
    → prefix_len (λ o. not (is_feasible p o)) plans ≡ prefix_len (λ o. not (is_feasible q o)) plans
same_prefix p q subs same [] fit = refl
same_prefix p q subs same (o ∷ plans) fit =
    let first = same_feasible p q subs same o (All-get_or (IsFitting subs) (o ∷ plans) 0 o (omega arith) fit) in
    let later = same_prefix p q subs same plans (All-tail (IsFitting subs) o plans fit) in
    λ k. if not (first k) then 1 + later k else 0

same_place : (p q : ℕ → Option ℕ) (subs : ℕ) → ((j : ℕ) → 1 ≤ j → j ≤ subs → p j ≡ q j) → (plans : List (Option Plan)) → All (IsFitting subs) plans
    → position (is_feasible p) plans ≡ position (is_feasible q) plans
same_place p q subs same plans fit =
    ap (λ (n : ℕ). if nat_lt n (length plans) then Some n else None) (same_prefix p q subs same plans fit)

-- the predictions by what is kept are those by all counts
kept_predicts : (kept : List (List ℕ)) (cs : List Count) → StandsFor kept cs → (j : ℕ) → 1 ≤ j → j ≤ length kept → predicted_by kept j ≡ prediction cs j
kept_predicts kept cs stands j low high =
    let one : j - 1 + 1 ≡ j = omega (arith, low) in
    ap greatest (stands (j - 1) (omega (arith, low, high)) ∙ ap (λ (n : ℕ). keep_last 8 (counts_of n cs)) one)

pub choice_same : (t : PlanTable) (kept : List (List ℕ)) (cs : List Count) → All (IsFitting (length kept)) t.plans → StandsFor kept cs
    → first_feasible t (predicted_by kept) ≡ first_feasible t (prediction cs)
choice_same t kept cs fit stands =
    ap (pair_or_fastest t.points) (same_place (predicted_by kept) (prediction cs) (length kept) (kept_predicts kept cs stands) t.plans fit)
