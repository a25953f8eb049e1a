-- Suffixes of a run.
use Rattle.std.proofs.Common.{◌≡◌, refl, sym, ap, subst, ◌∙◌, ℕ, zero, suc, ◌+◌, Bool, true, false, List, [], ◌∷◌, ◌++◌, length, get_or, arith}
use Rattle.std.specs.Prelude.{if◌then◌else◌, Option, Some, None}
use Rattle.flow_graph.specs.declared.parts.Edge.{Edge}
use Rattle.loop_regions.specs.Places.{Place, ats, oldest, IsFull}
use Rattle.loop_regions.specs.Costs.{Prices}
use Rattle.remaining_wcet.specs.Executed.{Clock}
use Rattle.remaining_wcet.specs.SubTasks.{SubTasks, IsInside, AreKnown, first_of_sub}
use Rattle.remaining_wcet.specs.Known.{AreCuts}
use Rattle.subtask_cut.specs.Functions.{AreFunctions}
use Rattle.remaining_wcet.specs.Ways.{Words, AreUnits, Done, Goes, WentBy, AreCheap, edge_cost, executed_of}
use Rattle.remaining_wcet.specs.Runs.{after, done_by, done_ending, done_ats, oldest_done, IsRun, IsSuffix}
use Rattle.remaining_wcet.proofs.Whole.{in_time}
use Rattle.remaining_wcet.proofs.Redirects.{run_spells}

pub after_add : {S : Type 0} (step : S → S) (k n : ℕ) (x : S) → after step (k + n) x ≡ after step k (after step n x)
unfolding after
after_add step zero n x = let e : 0 + n ≡ n = omega arith in ap (λ m. after step m x) e
after_add step (suc k) n x =
    let e : suc k + n ≡ suc (k + n) = omega arith in ap (λ m. after step m x) e ∙ ap step (after_add step k n x)

-- the steps from n on are the newest ones
pub done_add : {S : Type 0} (step : S → S) (done : S → Done) (k n : ℕ) (x : S)
    → done_by step done (k + n) x ≡ done_by step done k (after step n x) ++ done_by step done n x
unfolding done_by
done_add step done zero n x = let e : 0 + n ≡ n = omega arith in ap (λ m. done_by step done m x) e
done_add step done (suc k) n x =
    let e : suc k + n ≡ suc (k + n) = omega arith in
    ap (λ m. done_by step done m x) e ∙ (λ i. done (after_add step k n x i) ∷ done_add step done k n x i)

-- so are those of a run that ends
pub ending_add : {S : Type 0} (step : S → S) (done : S → Done) (traps : S → Bool) (k n : ℕ) (x : S)
    → done_ending step done traps (k + n) x ≡ done_ending step done traps k (after step n x) ++ done_by step done n x
unfolding done_ending
ending_add step done traps k n x =
    (λ i. if traps (after_add step k n x i) then done (after_add step k n x i) ∷ done_add step done k n x i else done_add step done k n x i)
    ∙ by_trap (traps (after step k (after step n x))) (done (after step k (after step n x)))
    (done_by step done k (after step n x)) (done_by step done n x)
  where
    by_trap : (b : Bool) (d : Done) (xs ys : List Done)
        → (if b then d ∷ (xs ++ ys) else (xs ++ ys)) ≡ (if b then d ∷ xs else xs) ++ ys
    by_trap true d xs ys = refl
    by_trap false d xs ys = refl

-- a run that is cut in two stands at places that are cut in two
record IsParted (w : Words) (rest before : List Done) (xs : List Place) : Type 0 where
  first : List Place
  second : List Place
  is : xs ≡ first ++ second
  goes : Goes w rest first
  went : Goes w before second

went_first : (w : Words) (by : Option Edge) (ds more : List Done) → WentBy w by (ds ++ more) → WentBy w by ds
went_first w None ds more h = tt
went_first w (Some e) [] more h = tt
went_first w (Some e) (s ∷ []) more h = tt
went_first w (Some e) (s ∷ c ∷ ds) more h = h

parted : (w : Words) (rest before : List Done) (xs : List Place) → Goes w (rest ++ before) xs
    → IsParted w rest before xs
parted w [] before xs goes = record { first = []; second = xs; is = refl; goes = tt; went = goes }
parted w (d ∷ rest) before [] goes = absurd goes
parted w (d ∷ rest) before (x ∷ xs) goes =
    let p = parted w rest before xs goes.2 in
    record
    { first = x ∷ p.first; second = p.second; is = ap (λ q. x ∷ q) p.is; goes = (goes.0, went_first w x.by rest before goes.1, p.goes); went = p.went }

went_ats : (w : Words) (ds : List Done) (xs : List Place) → Goes w ds xs → done_ats ds ≡ ats xs
went_ats w [] [] goes = refl
went_ats w [] (x ∷ xs) goes = absurd goes
went_ats w (d ∷ ds) [] goes = absurd goes
went_ats w (d ∷ ds) (x ∷ xs) goes = λ i. goes.0 i ∷ went_ats w ds xs goes.2 i

went_oldest : (w : Words) (a b : ℕ) → a ≡ b → (ds : List Done) (xs : List Place) → Goes w ds xs
    → oldest_done a ds ≡ oldest b xs
went_oldest w a b e [] [] goes = e
went_oldest w a b e [] (x ∷ xs) goes = absurd goes
went_oldest w a b e (d ∷ ds) [] goes = absurd goes
went_oldest w a b e (d ∷ ds) (x ∷ xs) goes = went_oldest w d.at x.at goes.0 ds xs goes.2

went_full : (w : Words) (d : Done) (ds : List Done) (xs : List Place) → Goes w (d ∷ ds) xs → IsFull xs
went_full w d ds [] goes = goes
went_full w d ds (x ∷ xs) goes = tt

-- any suffix of the instructions of a run
pub part_in_time : (t : SubTasks) (units : ℕ → List ℕ) (w : Words) (p : Prices) (c : Clock) (bounds : List ℕ)
    → AreFunctions t.flow.edges units (first_of_sub t 0) → AreCuts t units → AreUnits t.flow w (first_of_sub t 0) → AreKnown t p c
    → p.edge ≡ edge_cost w
    → p.bound ≡ (λ k. get_or bounds k 0) → length bounds ≡ length t.firsts
    → (d : Done) (rest before : List Done) → IsRun t w ((d ∷ rest) ++ before) → AreCheap c p (executed_of w (d ∷ rest))
    → IsSuffix t w p c bounds (d ∷ rest) (oldest_done 0 (d ∷ rest)) (done_ats before)
part_in_time t units w p c bounds fs cs us known edges is long d rest before run cheap =
    let cut = parted w (d ∷ rest) before run.gone run.goes in
    let e = run.is ∙ ap (λ q. run.later ++ q) cut.is in
    let s = run_spells t.flow w (first_of_sub t 0) c p us edges run.edges run.walk run.later cut.first cut.second e
    (d ∷ rest) cut.goes cheap in
    let i = in_time t units p c bounds fs cs known is long run.edges run.walk run.later cut.first cut.second e
    (went_full w d rest cut.first cut.goes) (executed_of w (d ∷ rest)) s in
    let at = went_oldest w 0 0 refl (d ∷ rest) cut.first cut.goes in
    let old = went_ats w before cut.second cut.went in
    record {
      sub = i.sub;
      is_sub = i.is_sub;
      inside =
          subst (λ a. IsInside t i.sub (a ∷ done_ats before)) (sym at)
          (subst (λ l. IsInside t i.sub (oldest 0 cut.first ∷ l)) (sym old) i.inside);
      cost = i.cost;
      at_first = λ f. i.at_first (sym at ∙ f);
    }
