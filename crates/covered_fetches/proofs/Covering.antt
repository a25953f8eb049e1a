-- What a charge of a scope covers.
use Rattle.std.proofs.Common.{◌≡◌, refl, sym, ap, ◌∙◌, inl, inr, ℕ, ◌+◌, ◌-◌, Bool, true, false, ◌||◌, List, [], ◌∷◌, ◌++◌, arith}
use Rattle.std.specs.Prelude.{if◌then◌else◌, ◌==◌, not, Option, None, Some}
use Rattle.std.proofs.lemmas.Bool.{and_parts, or_cases, not-true, or_left, or_parts, or_right}
use Rattle.visa_io.specs.declared.records.Shape.{Shape}
use Rattle.flow_graph.specs.declared.parts.Edge.{Edge}
use Rattle.flow_graph.specs.Flow.{Flow}
use Rattle.loop_regions.specs.Places.{Place, ats, oldest}
use Rattle.loop_regions.specs.Costs.{charges, late}
use Rattle.cache_lru.specs.Recency.{is_among, line_of}
use Rattle.persistence.specs.Charges.{Charge, addresses_of, begins_line, charged_by, is_charged, is_covered, is_free, is_persistent, scope_lines}
use Rattle.persistence.specs.Fetches.{newest_hits}
use Rattle.persistence.specs.Fetches as fetches
use Rattle.persistence.specs.Scopes.{AllLeadInto, FollowsBlocks, HasWays}
use Rattle.persistence.proofs.Walking.{part_of_walk}
use Rattle.remaining_wcet.specs.Executed.{misses}
use Rattle.remaining_wcet.specs.SubTasks.{AreCovered, IsWithin, SubTasks, first_of_sub}
use Rattle.covered_fetches.specs.Charged.{ChargesSub}

within_is : (scope : List ℕ) (es : List Edge) → IsWithin scope es → AllLeadInto scope es
within_is scope [] within = tt
within_is scope (e ∷ es) within = (within.0, within_is scope es within.1)

misses_are : (hits : List ℕ → Bool) (part older : List ℕ) → misses hits part older ≡ fetches.misses hits part older
misses_are hits [] older = refl
misses_are hits (at ∷ part) older = ap (λ n. (if hits (at ∷ (part ++ older)) then 0 else 1) + n) (misses_are hits part older)

charges_are : (one other : ℕ → Bool) → ((at : ℕ) → one at ≡ other at) → (xs : List Place) → charges one xs ≡ charges other xs
charges_are one other same [] = refl
charges_are one other same (x ∷ xs) =
    ap (λ (q : Bool). let n : ℕ = (if q then 1 else 0) + charges one xs in n) (same x.at) ∙ ap (λ n. (if other x.at then 1 else 0) + n) (charges_are one other same xs)

late_is : (one other : ℕ → Bool) → ((at : ℕ) → one at ≡ other at) → (xs : List Place) → late one xs ≡ late other xs
late_is one other same [] = refl
late_is one other same (x ∷ xs) = ap (λ (q : Bool). let n : ℕ = (if q then 0 else 1) in n) (same (oldest x.at xs))

pub covered_by : (t : SubTasks) (g : Flow) (shape : Option Shape) (k : ℕ) (charge : Charge) → ChargesSub t g shape k charge → HasWays shape → FollowsBlocks g t.flow → AreCovered t (newest_hits shape) k
covered_by t g shape k charge c some bs es piece by later part skipped e older =
    let law = part_of_walk g (t.scope k) shape charge t.flow c.is_charge some bs (first_of_sub t k) piece.begins by es piece.walk (within_is (t.scope k) es piece.within) later part skipped e older in
    omega (arith, law, misses_are (newest_hits shape) (ats part) older, charges_are (t.charged k) (charged_by charge) c.charged part, late_is (t.covered k) (is_covered g (t.scope k) shape) c.covered part, c.lines)

start_case : (g : Flow) (scope : List ℕ) (shape : Shape) (at : ℕ) (free : Bool) → is_free g scope shape at ≡ free → is_among at g.blocks ≡ true → is_covered g scope (Some shape) at ≡ true
start_case g scope shape at false is start = or_left (is_charged g scope (Some shape) at) (is_persistent shape (scope_lines g scope shape) (line_of shape at)) (ap not is)
start_case g scope shape at true is start =
    let keeps_it = is_persistent shape (scope_lines g scope shape) (line_of shape at) in
    let parts = and_parts (is_among at (addresses_of g scope)) (keeps_it || not (begins_line g shape at)) is in
    elim (or_cases keeps_it (not (begins_line g shape at)) parts.1) [
      | inl persistent ↦ or_right (is_charged g scope (Some shape) at) keeps_it persistent
      | inr inner ↦ (
          let both = or_parts (is_among at g.blocks) (not (line_of shape at == line_of shape (at - 4))) (not-true (begins_line g shape at) inner) in
          let clash : true ≡ false = sym start ∙ both.0 in cc)
    ]

start_covered : (g : Flow) (scope : List ℕ) (shape : Option Shape) (at : ℕ) → is_among at g.blocks ≡ true → is_covered g scope shape at ≡ true
start_covered g scope None at start = refl
start_covered g scope (Some shape) at start = start_case g scope shape at (is_free g scope shape at) refl start

pub start_is_covered : (t : SubTasks) (g : Flow) (shape : Option Shape) (k at : ℕ) (charge : Charge) → ChargesSub t g shape k charge → is_among at g.blocks ≡ true → t.covered k at ≡ true
start_is_covered t g shape k at charge c start = c.covered at ∙ start_covered g (t.scope k) shape at start
