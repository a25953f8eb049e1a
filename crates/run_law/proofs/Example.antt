-- The example's units, edges and functions, what these write, its facts, and the cycle of its region.
use Rattle.std.proofs.Common.{get_or-set_other, get_or-set_same, length-set, ◌≡◌, ◌≢◌, ◌∙◌, refl, sym, ap, ap₂, subst, ℕ, zero, suc, ◌+◌, ◌-◌, ◌<◌, ◌≤◌, ◌^◌, Bool, true, false, List, [], ◌∷◌, length, arith, lit<, ◌⊎◌, inl, inr, pos}
use Rattle.std.specs.Prelude.{◌==◌, ◌&&◌, ◌||◌, not, int_le, if◌then◌else◌, Option, Some, None, replicate, slice_index_or, slice_set}
use Rattle.std.specs.List.{Contains}
use Rattle.std.proofs.lemmas.Bool.{and_parts, cases_lt, eqb-true}
use Rattle.std.proofs.lemmas.Int.{ints}
use Rattle.std.proofs.lemmas.List.{get_or_past}
use Rattle.std.proofs.Math.Nat.{one-dvd}
use Rattle.visa_io.specs.declared.records.Region.{Region}
use Rattle.mips_isa.specs.Kinds.{kind_of}
use Rattle.mips_isa.specs.Names.{reads_of, writes_of}
use Rattle.mips_isa.specs.declared.instr.Instr.{Instr}
use Rattle.flow_graph.specs.Code.{instr_at, is_code, is_control_at, is_control_instr, word_from}
use Rattle.flow_graph.specs.Edges.{edge_of}
use Rattle.flow_graph.specs.Faults.{is_faulty, is_word_of, leads_from}
use Rattle.flow_graph.specs.Reached.{Chain, Begins, Calls, IsEdge, IsFunction, IsUnitOf, IsWay, Leads, Reached, is_any, is_inner, target_at}
use Rattle.flow_graph.specs.declared.parts.Edge.{Edge}
use Rattle.flow_graph.specs.declared.parts.EdgeKind.TheVariants.{Next, Taken, Call, Return, Over}
use Rattle.range_facts.specs.Along.{after_instr, begun, made_test, pair_refined, refined_at, refined_by, test_refined}
use Rattle.range_facts.specs.Ranges.{Holds, IsFact, IsWithin, constant, unknown}
use Rattle.range_facts.specs.Refining.{cut_above, has, left_of}
use Rattle.range_facts.specs.Transfer.{AreFacts, fact_of, imm_fact, moved_fact, ruled_fact, transfer_of, written_fact}
use Rattle.range_facts.specs.declared.along.Along.{Along}
use Rattle.range_facts.specs.declared.facts.Facts.{Facts}
use Rattle.range_facts.specs.declared.strided.Strided.{Strided}
use Rattle.range_facts.proofs.Sets.{constant_fact, le_holds, step_one_holds, unknown_fact}
use Rattle.loop_regions.proofs.Visits.{same_number}
use Rattle.run_law.specs.Bare.{nothing_known}
use Rattle.run_law.proofs.Bare.{are_facts}
use Rattle.run_law.specs.Certificate.{Blocks, Certificate, before_nth, behind, fact_along}
use Rattle.run_law.specs.Fits.{refined_if}
use Rattle.run_law.specs.Instructions.{is_direct}
use Rattle.run_law.specs.Program.{Good, IsQuietWay, Program, Steps, refined_along}
use Rattle.run_law.proofs.Calling.{none_of, one_of, two_of}
use Rattle.run_law.proofs.Certifying.{call_along, over_along, turn_by}
use Rattle.run_law.proofs.Coded.{control_there, is_first_word, same_instr, words_of_unit}
use Rattle.run_law.proofs.ExampleCode.{again, at_0, at_12, at_16, at_20, at_24, at_28, at_32, at_4, at_8, back, call, code, leads_0, leads_12, leads_20, leads_28, leads_4, target_4, more, nop, sound_0, sound_12, sound_20, sound_28, sound_4}

-- the cases of a unit
pub data UnitAt : ℕ → Type 0 where
  At0 : UnitAt 0
  At4 : UnitAt 4
  At12 : UnitAt 12
  At20 : UnitAt 20
  At28 : UnitAt 28

next_0 : (e : Edge) → Contains (leads_from code 0) e → e ≡ edge_of 0 4 Next
next_0 e leads = one_of (edge_of 0 4 Next) e (subst (λ es. Contains es e) leads_0 leads)

next_4 : (e : Edge) → Contains (leads_from code 4) e → (e ≡ edge_of 4 28 Call) ⊎ (e ≡ edge_of 4 12 Over)
next_4 e leads = two_of (edge_of 4 28 Call) (edge_of 4 12 Over) e (subst (λ es. Contains es e) leads_4 leads)

next_12 : (e : Edge) → Contains (leads_from code 12) e → (e ≡ edge_of 12 20 Next) ⊎ (e ≡ edge_of 12 0 Taken)
next_12 e leads = two_of (edge_of 12 20 Next) (edge_of 12 0 Taken) e (subst (λ es. Contains es e) leads_12 leads)

next_20 : {P : Type 0} (e : Edge) → Contains (leads_from code 20) e → P
next_20 e leads = absurd (none_of e (subst (λ es. Contains es e) leads_20 leads))

pub next_28 : {P : Type 0} (e : Edge) → Contains (leads_from code 28) e → P
next_28 e leads = absurd (none_of e (subst (λ es. Contains es e) leads_28 leads))

at : (u v : ℕ) → u ≡ v → UnitAt v → UnitAt u
at u v is there = subst (λ n. UnitAt n) (sym is) there

-- a unit's edges
pub data EdgeAt : Edge → Type 0 where
  Goes0 : EdgeAt (edge_of 0 4 Next)
  Calls4 : EdgeAt (edge_of 4 28 Call)
  Over4 : EdgeAt (edge_of 4 12 Over)
  Next12 : EdgeAt (edge_of 12 20 Next)
  Taken12 : EdgeAt (edge_of 12 0 Taken)

edge : (e d : Edge) → e ≡ d → EdgeAt d → EdgeAt e
edge e d is there = subst (λ x. EdgeAt x) (sym is) there

pub edge_at : (e : Edge) (u : ℕ) → UnitAt u → Contains (leads_from code u) e → EdgeAt e
edge_at e _ At0 leads = edge e (edge_of 0 4 Next) (next_0 e leads) Goes0
edge_at e _ At4 leads = elim (next_4 e leads) [ inl is ↦ edge e (edge_of 4 28 Call) is Calls4 | inr is ↦ edge e (edge_of 4 12 Over) is Over4 ]
edge_at e _ At12 leads = elim (next_12 e leads) [ inl is ↦ edge e (edge_of 12 20 Next) is Next12 | inr is ↦ edge e (edge_of 12 0 Taken) is Taken12 ]
edge_at e _ At20 leads = next_20 e leads
edge_at e _ At28 leads = next_28 e leads

to_unit : (e : Edge) → EdgeAt e → UnitAt e.to
to_unit _ Goes0 = At4
to_unit _ Calls4 = At28
to_unit _ Over4 = At12
to_unit _ Next12 = At20
to_unit _ Taken12 = At0

way_units : (u : ℕ) (us : List ℕ) → IsWay code is_any 0 (u ∷ us) → UnitAt u
unfolding IsWay
way_units u [] way = at u 0 way.0 At0
way_units u (v ∷ us) way = let joins = way.0 in to_unit (edge_of v u joins.kind) (edge_at (edge_of v u joins.kind) v (way_units v us way.1) joins.leads)

pub units : (u : ℕ) → Reached code 0 u → UnitAt u
units u reached = way_units u reached.us reached.way

pub leading : (e : Edge) → Reached code 0 e.from → Leads code e → EdgeAt e
leading e reached leads = edge_at e e.from (units e.from reached) leads

-- a test that units pass
abbrev is_unit : ℕ → Bool
is_unit u = (u == 0) || ((u == 4) || ((u == 12) || ((u == 20) || (u == 28))))

pub tested : (u : ℕ) → UnitAt u → is_unit u ≡ true
tested _ At0 = refl
tested _ At4 = refl
tested _ At12 = refl
tested _ At20 = refl
tested _ At28 = refl

-- functions and their units
pub calls_28 : (e : Edge) → EdgeAt e → e.kind ≡ Call → (e.from ≡ 4) × (e.to ≡ 28)
calls_28 _ Goes0 is = cc
calls_28 _ Calls4 is = (refl, refl)
calls_28 _ Over4 is = cc
calls_28 _ Next12 is = cc
calls_28 _ Taken12 is = cc

pub functions : (f : ℕ) → IsFunction code 0 f → (f ≡ 0) ⊎ (f ≡ 28)
functions f (inl is) = inl is.0
functions f (inr called) = inr (calls_28 (edge_of called.caller f Call) (leading (edge_of called.caller f Call) called.reached called.calls) refl).1

way_28 : (u : ℕ) (us : List ℕ) → IsWay code is_inner 28 (u ∷ us) → u ≡ 28
unfolding IsWay
way_28 u [] way = way.0
way_28 u (v ∷ us) way =
    let joins = way.0 in
    let from = way_28 v us way.1 in
    next_28 (edge_of v u joins.kind) (subst (λ n. Contains (leads_from code n) (edge_of v u joins.kind)) from joins.leads)

pub units_28 : (u : ℕ) → IsUnitOf code 28 u → u ≡ 28
units_28 u member = way_28 u member.us member.way

abbrev pub all_edges : List Edge
all_edges = edge_of 0 4 Next ∷ edge_of 4 12 Over ∷ edge_of 4 28 Call ∷ edge_of 12 0 Taken ∷ edge_of 12 20 Next ∷ edge_of 28 12 Return ∷ []

listed : (e : Edge) → EdgeAt e → Contains all_edges e
listed _ Goes0 = (0, lit< tt, refl)
listed _ Calls4 = (2, lit< tt, refl)
listed _ Over4 = (1, lit< tt, refl)
listed _ Next12 = (4, lit< tt, refl)
listed _ Taken12 = (3, lit< tt, refl)

abbrev pub is_long : ℕ → Bool
is_long u = not (u == 0)

abbrev pub loop : Region
loop = record { first = 0; last = 12; header = 0; count = 5; counter = 2 }

-- facts: register 2 between two numbers, register 3 is 5
abbrev from_to : ℕ → ℕ → Strided
from_to lo hi = record { lo = pos lo; hi = pos hi; stride = 1 }

abbrev pub known : ℕ → ℕ → Facts
known lo hi = record { ranges = slice_set (slice_set (slice_set (replicate 32 unknown) 0 (from_to 0 0)) 2 (from_to lo hi)) 3 (from_to 5 5) }

abbrev pub index : ℕ → ℕ
index u = if u == 0 then 0 else (if u == 4 then 1 else (if u == 12 then 2 else (if u == 20 then 3 else 4)))

abbrev pub blocks : Blocks
blocks = record {
  units = 0 ∷ 4 ∷ 12 ∷ 20 ∷ 28 ∷ [];
  index = index;
  starts = λ u. (u == 0) || ((u == 12) || ((u == 20) || (u == 28)));
  facts = λ u. if u == 0 then known 0 4 else known 1 5;
}

abbrev pub masked : ℕ → ℕ → Bool
masked f r = (f == 0) && ((r == 2) || (r == 31))

abbrev pub task : Program
task = record {
  code = code;
  entry = 0;
  graph = record { edges = all_edges; regions = loop ∷ []; is_long = is_long };
  mask = masked;
  before = λ u. before_nth code blocks (index u);
}

-- the graph
pub good : (u : ℕ) → UnitAt u → Good code u
unfolding is_direct kind_of
good _ At0 = record { instr = more; stands = at_0; direct = refl; slot = λ control. cc }
good _ At4 = record { instr = call; stands = at_4; direct = refl; slot = λ control. (nop, at_8, refl) }
good _ At12 = record { instr = again; stands = at_12; direct = refl; slot = λ control. (nop, at_16, refl) }
good _ At20 = record { instr = back; stands = at_20; direct = refl; slot = λ control. (nop, at_24, refl) }
good _ At28 = record { instr = back; stands = at_28; direct = refl; slot = λ control. (nop, at_32, refl) }

pub sound : (u : ℕ) → UnitAt u → is_faulty code u ≡ false
sound _ At0 = sound_0
sound _ At4 = sound_4
sound _ At12 = sound_12
sound _ At20 = sound_20
sound _ At28 = sound_28

return_listed : (e : Edge) → e.kind ≡ Return → e.from ≡ 28 → e.to ≡ 12 → Contains all_edges e
return_listed e kind from to = (5, lit< tt, λ i. record { from = sym from i; to = sym to i; kind = sym kind i })

pub is_listed : (e : Edge) → IsEdge code 0 e → Contains all_edges e
is_listed e is = elim is.joins [
  | inl leads ↦ listed e (leading e is.reached leads)
  | inr r ↦
      let returns = r.1 in
      let called = calls_28 (edge_of returns.caller returns.function Call) (leading (edge_of returns.caller returns.function Call) returns.reached returns.calls) refl in
      let from = units_28 e.from (subst (λ f. IsUnitOf code f e.from) called.1 returns.member) in
      return_listed e r.0 from (returns.point ∙ ap (λ n. n + 8) called.0)
]

pub in_code_0 : is_code code 0 ≡ true
unfolding word_from
in_code_0 = refl

pub in_code_28 : is_code code 28 ≡ true
unfolding word_from
in_code_28 = refl

pub inner_units : (u : ℕ) (us : List ℕ) → IsWay code is_inner 0 (u ∷ us) → UnitAt u
unfolding IsWay
inner_units u [] way = at u 0 way.0 At0
inner_units u (v ∷ us) way = let joins = way.0 in to_unit (edge_of v u joins.kind) (edge_at (edge_of v u joins.kind) v (inner_units v us way.1) joins.leads)

pub chains : (n f : ℕ) → Chain code 0 n f → ((n ≡ 0) × (f ≡ 0)) ⊎ ((n ≡ 1) × (f ≡ 28))
chains _ _ Begins = inl (refl, refl)
chains _ _ (Calls n caller u function chain member calls) = elim (chains n caller chain) [
  | inl main ↦
      let reached = subst (λ f. IsUnitOf code f u) main.1 member in
      let e : Edge = edge_of u function Call in
      let to = calls_28 e (edge_at e u (inner_units u reached.us reached.way) calls) refl in
      inr (ap suc main.0, to.1)
  | inr leaf ↦
      let from = units_28 u (subst (λ f. IsUnitOf code f u) leaf.1 member) in
      next_28 (edge_of u function Call) (subst (λ n. Contains (leads_from code n) (edge_of u function Call)) from calls)
]

-- the masks
writes_none : (u a : ℕ) (i : Instr) (j : Instr) (r : ℕ) {P : Type 0} → instr_at code u ≡ Some j → a ≡ u
    → instr_at code a ≡ Some i → writes_of i ≡ Some r → writes_of j ≡ None → P
writes_none u a i j r stands same there writes none =
    let alike : j ≡ i = same_instr code u j i stands (ap (instr_at code) (sym same) ∙ there) in
    absurd (let clash : None ≡ Some r = sym none ∙ ap writes_of alike ∙ writes in cc)

slot_none : (u a : ℕ) (i : Instr) (r : ℕ) {P : Type 0} → instr_at code (u + 4) ≡ Some nop → a ≡ u + 4
    → instr_at code a ≡ Some i → writes_of i ≡ Some r → P
unfolding writes_of
slot_none u a i r stands same there writes = writes_none (u + 4) a i nop r stands same there writes refl

writes_these : (u a : ℕ) (i j : Instr) (r k : ℕ) → instr_at code u ≡ Some j → a ≡ u → instr_at code a ≡ Some i
    → writes_of i ≡ Some r → writes_of j ≡ Some k → r ≡ k
writes_these u a i j r k stands same there writes is =
    let alike : j ≡ i = same_instr code u j i stands (ap (instr_at code) (sym same) ∙ there) in
    let e : Some r ≡ Some k = sym writes ∙ sym (ap writes_of alike) ∙ is in cc

pub no_control : (u : ℕ) (j : Instr) {P : Type 0} → instr_at code u ≡ Some j → is_control_instr j ≡ false
    → is_control_at code u ≡ true → P
no_control u j stands plain control = absurd (let clash : true ≡ false = sym control ∙ control_there code u j stands ∙ plain in cc)

pub main_writes : (u a : ℕ) (i : Instr) (r : ℕ) → UnitAt u → is_word_of code u a ≡ true → instr_at code a ≡ Some i
    → writes_of i ≡ Some r → (r ≡ 2) ⊎ (r ≡ 31)
unfolding kind_of writes_of
main_writes _ a i r At0 word there writes = elim (words_of_unit code 0 a word) [ inl is ↦ inl (writes_these 0 a i more r 2 at_0 is there writes refl) | inr is ↦ no_control 0 more at_0 refl is.0 ]
main_writes _ a i r At4 word there writes = elim (words_of_unit code 4 a word) [ inl is ↦ inr (writes_these 4 a i call r 31 at_4 is there writes refl) | inr is ↦ slot_none 4 a i r at_8 is.1 there writes ]
main_writes _ a i r At12 word there writes = elim (words_of_unit code 12 a word) [ inl is ↦ writes_none 12 a i again r at_12 is there writes refl | inr is ↦ slot_none 12 a i r at_16 is.1 there writes ]
main_writes _ a i r At20 word there writes = elim (words_of_unit code 20 a word) [ inl is ↦ writes_none 20 a i back r at_20 is there writes refl | inr is ↦ slot_none 20 a i r at_24 is.1 there writes ]
main_writes _ a i r At28 word there writes = elim (words_of_unit code 28 a word) [ inl is ↦ writes_none 28 a i back r at_28 is there writes refl | inr is ↦ slot_none 28 a i r at_32 is.1 there writes ]

pub leaf_writes : (a : ℕ) (i : Instr) (r : ℕ) {P : Type 0} → is_word_of code 28 a ≡ true → instr_at code a ≡ Some i
    → writes_of i ≡ Some r → P
unfolding writes_of
leaf_writes a i r {P} word there writes = elim (words_of_unit code 28 a word) as (λ q. P) [ inl is ↦ writes_none 28 a i back r at_28 is there writes refl | inr is ↦ slot_none 28 a i r at_32 is.1 there writes ]

pub by_register : (f r : ℕ) → f ≡ 0 → (r ≡ 2) ⊎ (r ≡ 31) → masked f r ≡ true
by_register f r main (inl is) = ap₂ (λ g s. masked g s) main is
by_register f r main (inr is) = ap₂ (λ g s. masked g s) main is

pub written : (f u a : ℕ) (i : Instr) (r : ℕ) → IsFunction code 0 f → IsUnitOf code f u → is_word_of code u a ≡ true
    → instr_at code a ≡ Some i → writes_of i ≡ Some r → masked f r ≡ true
written f u a i r function member word stands writes = elim (functions f function) [
  | inl main ↦
      let there = subst (λ g. IsUnitOf code g u) main member in
      by_register f r main (main_writes u a i r (inner_units u there.us there.way) word stands writes)
  | inr leaf ↦
      let same = units_28 u (subst (λ g. IsUnitOf code g u) leaf member) in
      leaf_writes a i r (subst (λ v. is_word_of code v a ≡ true) same word) stands writes
]

-- blocks
-- the certificate, by a test of each of the 32 registers
abbrev inside : Strided → Strided → Bool
inside a b = int_le b.lo a.lo && (int_le a.hi b.hi && (b.stride == 1))

inside_is : (a b : Strided) → inside a b ≡ true → IsWithin a b
inside_is a b is z h =
    let one = and_parts (int_le b.lo a.lo) (int_le a.hi b.hi && (b.stride == 1)) is in
    let two = and_parts (int_le a.hi b.hi) (b.stride == 1) one.1 in
    let low = le_holds b.lo a.lo one.0 in
    let high = le_holds a.hi b.hi two.0 in
    let stride = eqb-true b.stride 1 two.1 in
    let held : Holds (record { lo = b.lo; hi = b.hi; stride = 1 }) z = step_one_holds b.lo b.hi z (omega (arith, ints, low, h.place)) (omega (arith, ints, high, h.below)) in
    subst (λ n. Holds (record { lo = b.lo; hi = b.hi; stride = n }) z) (sym stride) held

unfoldable each_below : ℕ → (ℕ → Bool) → Bool
each_below zero test = true
each_below (suc n) test = test n && each_below n test

of_each : (n : ℕ) (test : ℕ → Bool) (r : ℕ) → each_below n test ≡ true → r < n → test r ≡ true
unfolding each_below
of_each zero test r all low = absurd (omega (arith, low))
of_each (suc n) test r all low =
    let both = and_parts (test n) (each_below n test) all in
    elim (cases_lt r n) [
      | inl less ↦ of_each n test r both.1 less
      | inr same ↦ let is : r ≡ n = omega (arith, low, same) in ap test is ∙ both.0
    ]

same_fact : (a b : Strided) (s : Strided) (o : Option Strided) → o ≡ Some s → o ≡ Some a → IsWithin a b → IsWithin s b
same_fact a b s o one two within = let e : Some s ≡ Some a = sym one ∙ two in let same : s ≡ a = cc in subst (λ x. IsWithin x b) (sym same) within

before_4 : task.before 4 ≡ after_instr more 0 (begun (known 0 4))
unfolding before_nth
before_4 = ap (λ o. behind o 0 (begun (known 0 4))) at_0

abbrev called : Along
called = after_instr nop 8 (after_instr call 4 (after_instr more 0 (begun (known 0 4))))

in_callee : each_below 32 (λ r. inside (fact_of called.facts r) (fact_of (known 1 5) r)) ≡ true
unfolding each_below after_instr transfer_of written_fact ruled_fact imm_fact moved_fact writes_of reads_of made_test
in_callee = refl

over_callee : each_below 32 (λ r. inside (if masked 28 r then unknown else fact_of called.facts r) (fact_of (known 1 5) r)) ≡ true
unfolding each_below after_instr transfer_of written_fact ruled_fact imm_fact moved_fact writes_of reads_of made_test
over_callee = refl

back_again : each_below 32 (λ r. inside (fact_of (after_instr nop 16 (begun (known 1 4))).facts r) (fact_of (known 0 4) r)) ≡ true
unfolding each_below after_instr transfer_of written_fact ruled_fact writes_of reads_of made_test
back_again = refl

-- bne goes on where register 2 isn't 5
refined_taken : refined_along task (edge_of 12 0 Taken) ≡ Some (begun (known 1 4))
unfolding before_nth refined_by pair_refined refined_at left_of cut_above test_refined
refined_taken = ap (λ o. refined_if o true (begun (known 1 5))) at_12

refined_next : refined_along task (edge_of 12 20 Next) ≡ Some (begun (record { ranges = slice_set (known 1 5).ranges 2 (constant (pos 5)) }))
unfolding before_nth refined_by pair_refined refined_at left_of has test_refined
refined_next = ap (λ o. refined_if o false (begun (known 1 5))) at_12

abbrev left_at_5 : Along
left_at_5 = begun (record { ranges = slice_set (known 1 5).ranges 2 (constant (pos 5)) })

out_at_5 : each_below 32 (λ r. inside (fact_of (after_instr nop 16 left_at_5).facts r) (fact_of (known 1 5) r)) ≡ true
unfolding each_below after_instr transfer_of written_fact ruled_fact writes_of reads_of made_test
out_at_5 = refl

called_along : (r : ℕ) → fact_along task (edge_of 4 28 Call) r ≡ Some (fact_of called.facts r)
called_along r = call_along task 4 28 call nop r at_4 at_8 ∙ ap (λ a. Some (fact_of (after_instr nop 8 (after_instr call 4 a)).facts r)) before_4

called_over : (r : ℕ)
    → fact_along task (edge_of 4 12 Over) r ≡ Some (if masked 28 r then unknown else fact_of called.facts r)
called_over r = over_along task 4 28 call nop r at_4 at_8 target ∙ ap (λ a. Some (if masked 28 r then unknown else fact_of (after_instr nop 8 (after_instr call 4 a)).facts r)) before_4
  where
    target : target_at code 4 ≡ Some 28
    target = target_4

kept_at : (e : Edge) → EdgeAt e → blocks.starts e.to ≡ true → (r : ℕ) → r < 32 → (s : Strided)
    → fact_along task e r ≡ Some s → IsWithin s (fact_of (blocks.facts e.to) r)
unfolding kind_of
kept_at _ Goes0 start r low s is = cc
kept_at _ Calls4 start r low s is =
    same_fact (fact_of called.facts r) (fact_of (known 1 5) r) s (fact_along task (edge_of 4 28 Call) r) is (called_along r)
    (inside_is (fact_of called.facts r) (fact_of (known 1 5) r) (of_each 32 (λ k. inside (fact_of called.facts k) (fact_of (known 1 5) k)) r in_callee low))
kept_at _ Over4 start r low s is =
    same_fact (if masked 28 r then unknown else fact_of called.facts r) (fact_of (known 1 5) r) s (fact_along task (edge_of 4 12 Over) r) is (called_over r)
    (inside_is (if masked 28 r then unknown else fact_of called.facts r) (fact_of (known 1 5) r) (of_each 32 (λ k. inside (if masked 28 k then unknown else fact_of called.facts k) (fact_of (known 1 5) k)) r over_callee low))
kept_at _ Next12 start r low s is =
    same_fact (fact_of (after_instr nop 16 left_at_5).facts r) (fact_of (known 1 5) r) s (fact_along task (edge_of 12 20 Next) r) is (turn_by task (edge_of 12 20 Next) Next again nop left_at_5 r refl (inl refl) at_12 refl at_16 refined_next)
    (inside_is (fact_of (after_instr nop 16 left_at_5).facts r) (fact_of (known 1 5) r) (of_each 32 (λ k. inside (fact_of (after_instr nop 16 left_at_5).facts k) (fact_of (known 1 5) k)) r out_at_5 low))
kept_at _ Taken12 start r low s is =
    same_fact (fact_of (after_instr nop 16 (begun (known 1 4))).facts r) (fact_of (known 0 4) r) s (fact_along task (edge_of 12 0 Taken) r) is (turn_by task (edge_of 12 0 Taken) Taken again nop (begun (known 1 4)) r refl (inr refl) at_12 refl at_16 refined_taken)
    (inside_is (fact_of (after_instr nop 16 (begun (known 1 4))).facts r) (fact_of (known 0 4) r) (of_each 32 (λ k. inside (fact_of (after_instr nop 16 (begun (known 1 4))).facts k) (fact_of (known 0 4) k)) r back_again low))

-- the facts at starts are well formed
put_facts : (f : Facts) (r : ℕ) (s : Strided) → r ≢ 0 → AreFacts f → IsFact s
    → AreFacts (record { ranges = slice_set f.ranges r s })
put_facts f r s other are fact = record {
  long = length-set f.ranges r s ∙ are.long;
  each = λ k. by_test k (k == r) refl;
  zero_is = get_or-set_other f.ranges r 0 s unknown (λ e. other (sym e)) ∙ are.zero_is;
}
  where
    by_place : (k : ℕ) → k ≡ r → (r < 32) ⊎ (32 ≤ r) → IsFact (slice_index_or (slice_set f.ranges r s) k unknown)
    by_place k same (inl low) =
        let there : r < length f.ranges = omega (arith, low, are.long) in
        subst (λ n. IsFact (slice_index_or (slice_set f.ranges r s) n unknown)) (sym same) (subst (λ t. IsFact t) (sym (get_or-set_same f.ranges r s unknown there)) fact)
    by_place k same (inr high) = subst (λ t. IsFact t) (sym (get_or_past (slice_set f.ranges r s) k unknown (omega (arith, same, high, length-set f.ranges r s, are.long)))) unknown_fact

    by_test : (k : ℕ) (b : Bool) → (k == r) ≡ b → IsFact (slice_index_or (slice_set f.ranges r s) k unknown)
    by_test k true is = by_place k (eqb-true k r is) (cases_lt r 32)
    by_test k false is = subst (λ t. IsFact t) (sym (get_or-set_other f.ranges r k s unknown (λ e. absurd (let clash : true ≡ false = sym (same_number r) ∙ ap (λ n. n == r) (sym e) ∙ is in cc)))) (are.each k)

between : (lo hi : ℕ) → lo < hi → hi < 2 ^ 31 → IsFact (from_to lo hi)
between lo hi less small = record {
  some = lit< tt;
  low = omega (arith, ints);
  high = omega (arith, ints, small);
  span = hi - lo;
  ends = omega (arith, ints, less);
  whole = one-dvd (hi - lo);
  single = λ e. refl;
}

pub known_facts : (lo hi : ℕ) → lo < hi → hi < 2 ^ 31 → AreFacts (known lo hi)
known_facts lo hi less small =
    put_facts (record { ranges = slice_set nothing_known.ranges 2 (from_to lo hi) }) 3 (from_to 5 5) (λ e. omega (arith, e))
    (put_facts nothing_known 2 (from_to lo hi) (λ e. omega (arith, e)) are_facts (between lo hi less small)) (constant_fact (pos 5) (omega (arith, ints)) (omega (arith, ints)))

facts_at : (u : ℕ) → UnitAt u → AreFacts (blocks.facts u)
facts_at _ At0 = known_facts 0 4 (lit< tt) (lit< tt)
facts_at _ At4 = known_facts 1 5 (lit< tt) (lit< tt)
facts_at _ At12 = known_facts 1 5 (lit< tt) (lit< tt)
facts_at _ At20 = known_facts 1 5 (lit< tt) (lit< tt)
facts_at _ At28 = known_facts 1 5 (lit< tt) (lit< tt)

pub certificate : Certificate task blocks
certificate = record {
  before_is = λ u reached. refl;
  facts = λ u reached start. facts_at u (units u reached);
  kept = λ e r reached leads start low s is. kept_at e (leading e reached leads) start r low s is;
}

more_steps : Steps 2 more
more_steps = record { imm = 1; is = refl; some = λ e. cc }

-- the header has a step
no_quiet : (v : ℕ) (us : List ℕ) → IsQuietWay task loop (v ∷ (0 ∷ us)) → ⊥
unfolding IsQuietWay
no_quiet v us way =
    let first = way.0 in
    first.quiet 0 more (ap (λ u. is_word_of code u 0) first.from ∙ is_first_word code 0) at_0 more_steps

pub no_cycle : (v u : ℕ) (us : List ℕ) → IsQuietWay task loop (v ∷ (u ∷ us)) → ⊥
unfolding IsQuietWay
no_cycle v u [] way = let at_header : u ≡ 0 = way.1 in no_quiet v [] (subst (λ n. IsQuietWay task loop (v ∷ (n ∷ []))) at_header way)
no_cycle v u (w ∷ ws) way = no_cycle u w ws way.1

pub only_loop : (r : Region) → Contains (loop ∷ []) r → r ≡ loop
only_loop r (zero, below, is) = sym is
only_loop r (suc k, below, is) = absurd (omega (arith, below))
