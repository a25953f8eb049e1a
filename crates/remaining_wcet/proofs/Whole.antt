-- The law on every suffix of a run.
use Rattle.std.proofs.Common.{◌≡◌, refl, sym, ap, ◌∙◌, ℕ, ◌*◌, ◌≤◌, Bool, true, false, List, [], ◌∷◌, ◌++◌, length, get_or, arith, mul-le-mul_left}
use Rattle.std.specs.Prelude.{if◌then◌else◌, None}
use Rattle.flow_graph.specs.declared.parts.Edge.{Edge}
use Rattle.loop_regions.specs.Walks.{IsWalk, alone}
use Rattle.loop_regions.specs.Places.{Place, places, oldest, IsFull}
use Rattle.loop_regions.specs.Costs.{Prices, late}
use Rattle.remaining_wcet.specs.Executed.{Executed, Clock, Spells}
use Rattle.remaining_wcet.specs.SubTasks.{SubTasks, AreKnown, first_of_sub, span}
use Rattle.remaining_wcet.specs.Known.{AreCuts}
use Rattle.subtask_cut.specs.Functions.{AreFunctions}
use Rattle.remaining_wcet.specs.Bounds.{IsInTime}
use Rattle.remaining_wcet.proofs.Pieces.{cut_up}
use Rattle.remaining_wcet.proofs.Pay.{pays, cut_piece}
use Rattle.remaining_wcet.proofs.Bounds.{span_sum}

flag_most : (b : Bool) → (if b then 0 else 1) ≤ 1
flag_most true = omega arith
flag_most false = omega arith

late_most : (covered : ℕ → Bool) (xs : List Place) → late covered xs ≤ 1
late_most covered [] = omega arith
late_most covered (x ∷ xs) = flag_most (covered (oldest x.at xs))

late_none : (covered : ℕ → Bool) (xs : List Place) → covered (oldest 0 xs) ≡ true → late covered xs ≡ 0
late_none covered [] h = refl
late_none covered (x ∷ xs) h = ap (λ (b : Bool). let n : ℕ = (if b then 0 else 1) in n) h

-- every suffix of a run, and every part of one
pub in_time : (t : SubTasks) (units : ℕ → List ℕ) (p : Prices) (c : Clock) (bounds : List ℕ) → AreFunctions t.flow.edges units (first_of_sub t 0)
    → AreCuts t units → AreKnown t p c
    → p.bound ≡ (λ k. get_or bounds k 0) → length bounds ≡ length t.firsts
    → (es : List Edge) → IsWalk t.flow (alone (first_of_sub t 0)) es → (later rest before : List Place)
    → places t.flow None (first_of_sub t 0) es ≡ later ++ (rest ++ before) → IsFull rest
    → (os : List Executed) → Spells c p os rest → IsInTime t p c bounds os rest before
in_time t units p c bounds fs cs known is long es walk later rest before e full os s =
    let cut = cut_up t units fs cs es walk in
    let piece = cut_piece t cut.past cut.piece cut.cut in
    let fits = (known.bounded (length cut.past)).inside cut.piece piece in
    let paid = pays t p c known cut.past cut.piece cut.cut 0 (omega (arith, fits)) later rest before (sym cut.same ∙ e)
    full os s in
    let sum = span_sum bounds paid.sub paid.subs (omega (arith, paid.last, piece.is_sub, long)) in
    let as_list = ap (λ (b : ℕ → ℕ). span b paid.sub paid.subs) is in
    let one = mul-le-mul_left p.miss (late_most (t.covered paid.sub) rest) in
    record {
      sub = paid.sub;
      is_sub = omega (arith, paid.some, paid.last, piece.is_sub);
      inside = paid.inside;
      cost = omega (arith, paid.cost, sum, as_list, one);
      at_first = λ first.
          let begins = known.begins paid.sub (omega (arith, paid.some, paid.last, piece.is_sub)) in
          let none = ap (λ n. p.miss * n)
          (late_none (t.covered paid.sub) rest (ap (t.covered paid.sub) first ∙ begins)) in
          omega (arith, paid.cost, sum, as_list, none);
    }
