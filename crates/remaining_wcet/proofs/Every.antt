-- Every suffix of every job of an admitted task, at every point.
use Rattle.std.proofs.Common.{◌≡◌, ap, subst, ◌∙◌, ℕ, zero, suc, ◌+◌, ◌≤◌, ◌<◌, Bool, List, [], ◌∷◌, ◌++◌, length, get_or, arith}
use Rattle.loop_regions.specs.Costs.{Prices}
use Rattle.remaining_wcet.specs.Executed.{Clock}
use Rattle.remaining_wcet.specs.SubTasks.{SubTasks, AreCovered, AreKnown, IsBounded}
use Rattle.remaining_wcet.specs.Ways.{Words, Done, AreCheap, executed_of}
use Rattle.remaining_wcet.specs.Bounds.{sum_of}
use Rattle.remaining_wcet.specs.Runs.{IsRun, IsSuffix, done_by, done_ending, done_ats, oldest_done, after}
use Rattle.remaining_wcet.specs.Admitted.{IsAnalysed, IsPriced}
use Rattle.remaining_wcet.proofs.Bounds.{bounded_at}
use Rattle.remaining_wcet.proofs.Jobs.{part_in_time, ending_add}

one_small : (ns : List ℕ) (k : ℕ) → get_or ns k 0 ≤ sum_of ns
one_small [] k = omega arith
one_small (n ∷ ns) zero = omega arith
one_small (n ∷ ns) (suc k) = omega (arith, one_small ns k)

pub known_of : (t : SubTasks) (units : ℕ → List ℕ) (w : Words) (slow fast : Prices) (cap : ℕ) (bounds fast_bounds : List ℕ) (c : Clock)
    → IsAnalysed t units w → IsPriced t w slow fast cap bounds fast_bounds
    → ((k : ℕ) → AreCovered t c.hits k) → AreKnown t slow c
known_of t units w slow fast cap bounds fast_bounds c a p few = record {
  bounded = λ k. record {
    inside = λ es piece. (at k piece.is_sub).inside es piece;
    into = λ w piece exits. (at k piece.is_sub).into w piece exits;
  };
  fetched = few;
  begins = a.covered;
  different = a.cuts.different;
  slots = a.slots;
}
  where
    at : (k : ℕ) → k < length t.firsts → IsBounded t slow k
    at k in_it =
        let one = one_small fast_bounds k in
        let is = ap (λ f. f k) p.fast_list in
        bounded_at t slow fast cap k p.slower (p.bound k in_it) (p.fast_bound k in_it) (omega (arith, one, is, p.small))

-- the steps from n on of a run that ends after k + n steps; at least one instruction is executed there
pub every_suffix : (t : SubTasks) (units : ℕ → List ℕ) (w : Words) (slow fast : Prices) (cap : ℕ) (bounds fast_bounds : List ℕ) (c : Clock)
    → IsAnalysed t units w → IsPriced t w slow fast cap bounds fast_bounds
    → ((k : ℕ) → AreCovered t c.hits k)
    → (S : Type 0) (step : S → S) (done : S → Done) (traps : S → Bool) (x : S) (k n : ℕ)
    → IsRun t w (done_ending step done traps (k + n) x)
    → (d : Done) (rest : List Done) → done_ending step done traps k (after step n x) ≡ d ∷ rest
    → AreCheap c slow (executed_of w (d ∷ rest))
    → IsSuffix t w slow c bounds (d ∷ rest) (oldest_done 0 (d ∷ rest)) (done_ats (done_by step done n x))
every_suffix t units w slow fast cap bounds fast_bounds c a p few S step done traps x k n run d rest is cheap =
    part_in_time t units w slow c bounds a.functions a.cuts a.kinds
    (known_of t units w slow fast cap bounds fast_bounds c a p few) p.edges p.as_list p.long d rest
    (done_by step done n x)
    (subst (IsRun t w) (ending_add step done traps k n x ∙ ap (λ q. q ++ done_by step done n x) is) run) cheap
