-- What executed instructions cost in the pipeline, beside what the bounds count.
use Rattle.std.proofs.Common.{◌≡◌, ◌∙◌, refl, sym, ap, ℕ, ◌+◌, ◌≤◌, Bool, true, false, List, [], ◌∷◌, arith}
use Rattle.std.specs.Prelude.{if◌then◌else◌, Some}
use Rattle.visa_io.specs.declared.records.Code.{Code}
use Rattle.mips_isa.specs.Kinds.{kind_of}
use Rattle.mips_isa.specs.Prediction.{predicted_taken_of}
use Rattle.mips_isa.specs.declared.instr.Instr.{Instr}
use Rattle.mips_isa.specs.declared.instr.Kind.{Kind}
use Rattle.mips_isa.specs.declared.instr.Kind.TheVariants as sort
use Rattle.mips_ref.specs.declared.records.Ran.{Ran}
use Rattle.flow_graph.specs.Code.{instr_at}
use Rattle.loop_regions.specs.Costs.{Prices}
use Rattle.simple_pipe.specs.Cost as pipe
use Rattle.simple_pipe.specs.Cost.{cost_of}
use Rattle.simple_pipe.specs.Pace as pace_words
use Rattle.simple_pipe.specs.Pace.{static_cost, timed}
use Rattle.simple_pipe.specs.Simple as pipe_list
use Rattle.simple_pipe.specs.Simple.{Caches, as_instr, excess, fetch_cost, fetches}
use Rattle.simple_pipe.specs.declared.pace.Pace.{Pace}
use Rattle.simple_pipe.proofs.Static.{rest_cost}
use Rattle.remaining_wcet.specs.Executed.{Executed, executed_ats, missed, total_cost, wait_after}
use Rattle.remaining_wcet.specs.Ways.{executed_of, redirects_by}
use Rattle.walked_jobs.specs.Machine.{kind_if, predicted_if, words_of}
use Rattle.walked_jobs.proofs.Running.{dones}
use Rattle.timed_jobs.specs.Pace.{IsPaced, base_if, base_of, clock_of}
use Rattle.timed_jobs.proofs.Coded.{AreOfCode, IsOfCode}

-- what the bounds see of it
abbrev pub seen : Code → List Ran → List Executed
seen code rs = executed_of (words_of code) (dones rs)

-- each is fetched
fetched : (code : Code) (rs : List Ran) → AreOfCode code rs → fetches rs ≡ executed_ats (seen code rs)
fetched code [] are = refl
fetched code (r ∷ rs) are =
    fetch_one r.is_code r.at (fetches rs) are.0.is_code ∙ ap (λ l. r.at ∷ l) (fetched code rs are.1)
  where
    fetch_one : (b : Bool) (a : ℕ) (l : List ℕ) → b ≡ true → (if b then a ∷ l else l) ≡ a ∷ l
    fetch_one true a l e = refl
    fetch_one false a l e = cc

fetch_if : (b : Bool) (n : ℕ) → b ≡ true → (if b then n else 0) ≡ n
fetch_if true n e = refl
fetch_if false n e = cc

-- its fetch costs what the clock says
same_fetch : (pace : Pace) (caches : Caches) (code : Code) (p : Prices) (r : Ran) (rs : List Ran) → IsPaced pace code p
    → AreOfCode code (r ∷ rs)
    → fetch_cost pace caches r rs ≡ missed (clock_of pace caches code) p (executed_ats (seen code (r ∷ rs)))
same_fetch pace caches code p r rs paced are =
    fetch_if r.is_code (excess (caches.fetch_hits (fetches (r ∷ rs))) pace.miss) are.0.is_code
    ∙ (λ i. excess (caches.fetch_hits (fetched code (r ∷ rs) are i)) (sym paced.miss_is i))

-- and the rest at most its base
own_cost : (pace : Pace) (caches : Caches) (code : Code) (r : Ran) (rs : List Ran) → IsOfCode code r
    → cost_of (as_instr pace caches r rs r.instr) ≤ base_of pace code r.at + fetch_cost pace caches r rs
own_cost pace caches code r rs is =
    let static = rest_cost pace caches r rs is.instr in
    let cost = ap (λ o. cost_of (as_instr pace caches r rs o)) is.ran in
    let base = ap (base_if pace) is.stands in
    omega (arith, static, cost, base)

-- redirects are the same
same_kind : (k : Kind) (predicted taken : Bool)
    → pace_words.redirects_by k predicted taken ≡ redirects_by k predicted taken
same_kind sort.Plain predicted taken = refl
same_kind sort.Mul predicted taken = refl
same_kind sort.Div predicted taken = refl
same_kind sort.Load predicted taken = refl
same_kind sort.Store predicted taken = refl
same_kind sort.Branch true taken = refl
same_kind sort.Branch false taken = refl
same_kind sort.Jump predicted taken = refl
same_kind sort.Call predicted taken = refl
same_kind sort.Return predicted taken = refl
same_kind sort.Indirect predicted taken = refl
same_kind sort.Stop predicted taken = refl

redirect_of : (pace : Pace) (caches : Caches) (r : Ran) (rs : List Ran) (i : Instr)
    → (as_instr pace caches r rs (Some i)).redirects ≡ pace_words.redirects_by (kind_of i) (predicted_taken_of i) r.taken
unfolding timed
redirect_of pace caches r rs i = refl

same_redirect : (pace : Pace) (caches : Caches) (code : Code) (r : Ran) (rs : List Ran) → IsOfCode code r
    → (as_instr pace caches r rs r.instr).redirects ≡ redirects_by (kind_if (instr_at code r.at)) (predicted_if (instr_at code r.at)) r.taken
same_redirect pace caches code r rs is =
    ap (λ o. (as_instr pace caches r rs o).redirects) is.ran
    ∙ redirect_of pace caches r rs is.instr
    ∙ same_kind (kind_of is.instr) (predicted_taken_of is.instr) r.taken
    ∙ ap (λ o. redirects_by (kind_if o) (predicted_if o) r.taken) (sym is.stands)

-- so are waits
same_wait : (pace : Pace) (caches : Caches) (code : Code) (rs : List Ran) → AreOfCode code rs
    → pipe.wait_after (pipe_list.executed_of pace caches rs) ≡ wait_after (seen code rs)
unfolding pipe_list.executed_of
same_wait pace caches code [] are = refl
same_wait pace caches code (s ∷ []) are = refl
same_wait pace caches code (s ∷ r ∷ rs) are =
    ap (λ (b : Bool). let n : ℕ = (if b then 2 else 0) in n) (same_redirect pace caches code r rs are.1.0)

-- the pipeline costs no more than the bounds count
pub costs_no_more : (pace : Pace) (caches : Caches) (code : Code) (p : Prices) (rs : List Ran) → IsPaced pace code p
    → AreOfCode code rs
    → pipe.total_cost (pipe_list.executed_of pace caches rs) ≤ total_cost (clock_of pace caches code) p (seen code rs)
unfolding pipe_list.executed_of
costs_no_more pace caches code p [] paced are = omega arith
costs_no_more pace caches code p (r ∷ rs) paced are =
    let older = costs_no_more pace caches code p rs paced are.1 in
    let wait = same_wait pace caches code rs are.1 in
    let own = own_cost pace caches code r rs are.0 in
    let fetch = same_fetch pace caches code p r rs paced are in
    omega (arith, older, wait, own, fetch)
