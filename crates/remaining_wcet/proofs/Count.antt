-- The sub-task of an instruction is the number of cuts met.
use Rattle.std.proofs.Common.{◌≡◌, refl, ap, ◌∙◌, inl, inr, ℕ, zero, suc, ◌+◌, ◌≤◌, ◌<◌, Bool, true, false, ◌||◌, List, [], ◌∷◌, length, get_or, eqb-true, eq-eqb, arith}
use Rattle.std.specs.Prelude.{if◌then◌else◌, ◌==◌}
use Rattle.loop_regions.specs.Walks.{Has}
use Rattle.remaining_wcet.specs.SubTasks.{SubTasks, IsInside}
use Rattle.remaining_wcet.specs.Runs.{is_among, cuts_met}

pub among_has : (u : ℕ) (pcs : List ℕ) → Has u pcs → is_among u pcs ≡ true
among_has u [] h = absurd h
among_has u (v ∷ pcs) h =
    elim h
    [ inl e ↦ first (v == u) (is_among u pcs) (eq-eqb v u e) | inr r ↦ second (v == u) (is_among u pcs) (among_has u pcs r) ]
  where
    first : (a b : Bool) → a ≡ true → a || b ≡ true
    first true b e = refl
    first false b e = cc

    second : (a b : Bool) → b ≡ true → a || b ≡ true
    second true b e = refl
    second false b e = e

pub among_not : (u : ℕ) (pcs : List ℕ) → (Has u pcs → ⊥) → is_among u pcs ≡ false
among_not u [] h = refl
among_not u (v ∷ pcs) h =
    neither (v == u) (is_among u pcs) (λ e. h (inl (eqb-true v u e))) (among_not u pcs (λ r. h (inr r)))
  where
    neither : (a b : Bool) → (a ≡ true → ⊥) → b ≡ false → a || b ≡ false
    neither true b n e = absurd (n refl)
    neither false b n e = e

count_none : (cuts pcs : List ℕ) → ((j : ℕ) → j < length cuts → Has (get_or cuts j 0) pcs → ⊥) → cuts_met cuts pcs ≡ 0
count_none [] pcs h = refl
count_none (c ∷ cuts) pcs h =
    let no_first = among_not c pcs (h 0 (omega arith)) in
    let others = count_none cuts pcs (λ j l. h (suc j) (omega (arith, l))) in
    ap (λ (b : Bool). let n : ℕ = (if b then 1 else 0) + cuts_met cuts pcs in n) no_first ∙ omega (arith, others)

count_some : (cuts pcs : List ℕ) (m : ℕ) → m ≤ length cuts → ((j : ℕ) → j < m → Has (get_or cuts j 0) pcs)
    → ((j : ℕ) → m ≤ j → j < length cuts → Has (get_or cuts j 0) pcs → ⊥) → cuts_met cuts pcs ≡ m
count_some cuts pcs zero l met none = count_none cuts pcs (λ j below. none j (omega arith) below)
count_some [] pcs (suc m) l met none = absurd (omega (arith, l))
count_some (c ∷ cuts) pcs (suc m) l met none =
    let is_first = among_has c pcs (met 0 (omega arith)) in
    let others = count_some cuts pcs m (omega (arith, l)) (λ j below. met (suc j) (omega (arith, below)))
    (λ j a b. none (suc j) (omega (arith, a)) (omega (arith, b))) in
    ap (λ (b : Bool). let n : ℕ = (if b then 1 else 0) + cuts_met cuts pcs in n) is_first ∙ omega (arith, others)

-- sub-task `sub` is the one whose number is the count of cuts met
pub inside_count : (t : SubTasks) (entry : ℕ) (cuts : List ℕ) (sub : ℕ) (pcs : List ℕ) → t.firsts ≡ entry ∷ cuts
    → sub < length t.firsts → IsInside t sub pcs → cuts_met cuts pcs ≡ sub
inside_count t entry cuts sub pcs is below inside =
    let long : length t.firsts ≡ suc (length cuts) = ap (λ (q : List ℕ). length q) is in
    count_some cuts pcs sub (omega (arith, long, below))
    (λ j l. inside.met (suc j) (get_or cuts j 0) (omega arith) (omega (arith, l)) (omega (arith, long, below, l), ap (λ (q : List ℕ). get_or q (suc j) 0) is))
    (λ j a b. inside.unmet (suc j) (get_or cuts j 0) (omega (arith, a)) (omega (arith, long, b), ap (λ (q : List ℕ). get_or q (suc j) 0) is))
