-- What the functions that are called from a region write, and whether a region has a cycle without a step.
use Rattle.std.proofs.Common.{◌≡◌, ◌∙◌, refl, sym, ap, subst, ℕ, ◌+◌, ◌<◌, ◌≤◌, Bool, true, false, arith, List, [], ◌∷◌, ◌⊎◌, ◌↔◌, inl, inr, Option, Some, None, length}
use Rattle.std.specs.Prelude.{Contains, slice_index}
use Rattle.std.proofs.lemmas.Bool.{cases_eq}
use Rattle.std.proofs.lemmas.Grind.{get_or_default_zero}
use Rattle.visa_io.specs.declared.records.Code.{Code}
use Rattle.visa_io.specs.declared.records.FactLine.{FactLine}
use Rattle.visa_io.specs.declared.records.Region.{Region}
use Rattle.mips_isa.specs.Names.{writes_of}
use Rattle.mips_isa.specs.declared.instr.Instr.{Instr}
use Rattle.flow_graph.specs.Calls.{IsLeast}
use Rattle.flow_graph.specs.Code.{instr_at, is_code, is_control_instr}
use Rattle.flow_graph.specs.Edges.{edge_of}
use Rattle.flow_graph.specs.Faults.{is_word_of}
use Rattle.flow_graph.specs.Flow.{Flow, IsGraph, IsUnit}
use Rattle.flow_graph.specs.Own.{lesser}
use Rattle.flow_graph.specs.Reached.{CallsAt, IsUnitOf, IsWay, Leads, Reached, is_inner}
use Rattle.flow_graph.specs.declared.parts.Edge.{Edge}
use Rattle.flow_graph.specs.declared.parts.EdgeKind.{EdgeKind}
use Rattle.flow_graph.specs.declared.parts.EdgeKind.TheVariants.{Next, Taken, Call, Return, Over}
use Rattle.flow_graph.specs.declared.parts.Unit.{Unit as FlowUnit}
use Rattle.flow_graph.proofs.Depths.{leads_code}
use Rattle.flow_graph.proofs.Levels.{lesser_least}
use Rattle.flow_graph.proofs.OwnFaults.{word_cases, word_here, word_slot}
use Rattle.flow_graph.proofs.Reaching.{reached_here, reached_on}
use Rattle.flow_graph.proofs.Recorded.{reached_unit, unit_reached}
use Rattle.loop_regions.specs.Walks.{LoopGraph, holds}
use Rattle.run_law.specs.Counts.{CalleeWrites, HasNoStep}
use Rattle.run_law.specs.Masks.{Enters}
use Rattle.run_law.specs.Masks.Enters.{Itself, Through}
use Rattle.run_law.specs.Program.{IsQuietWay, QuietEdge}
use Rattle.bound_checker.specs.Callees.{AreOfRegion, IsCalledAt, IsCalledFrom, IsWritten, write_if, write_of}
use Rattle.bound_checker.specs.Gone.{is_return}
use Rattle.bound_checker.specs.Lines.{addresses_of, program_of}
use Rattle.bound_checker.specs.Marks.{called_of}
use Rattle.bound_checker.specs.Room.{Adds, IsRoom, found_at, seen_at}
use Rattle.bound_checker.specs.Search.{EndsAt, IsLed, IsSpread, LeadsTo}
use Rattle.bound_checker.specs.Search.IsLed.{Goes, Stays}
use Rattle.bound_checker.specs.Tally.{address_at, only_if, writes_counter}
use Rattle.bound_checker.specs.declared.room.Room.{Room}
use Rattle.bound_checker.specs.declared.search.Scope.TheVariants.{Quiet, Called}
use Rattle.bound_checker.proofs.Calls.{calls_named, flows, named_calls, plain_task}
use Rattle.bound_checker.proofs.Checking.{leads_on, number_within}
use Rattle.bound_checker.proofs.Recorded.{slot_stands}
use Rattle.bound_checker.proofs.Rooms.{adds_both, adds_none, adds_same}
use Rattle.bound_checker.proofs.Searching.{control_at, control_of, leads_among, no_return, same_number, units_long}
use Rattle.bound_checker.proofs.Tallies.{is_the_register, least_same, only_least, register_is}

true_false : {P : Type 0} → true ≡ false → P
true_false e = absurd (let b : ⊥ = cc in b)

-- the function that a unit calls
some_same : (a b : ℕ) → Some a ≡ Some b → a ≡ b
some_same a b e = cc

none_some : (a : ℕ) → None ≡ Some a → ⊥
none_some a e = cc

pub call_among : (code : Code) (g : Flow) (unit : FlowUnit) (f : ℕ) → IsGraph code g.entry g → IsUnit code g.entry unit → called_of unit ≡ Some f → Contains (addresses_of g) f
unfolding plain_task
call_among code g unit f graph is called =
    reached_unit code g.entry g f graph ((flows code g graph).also (edge_of unit.at f Call) is.reached (named_calls code g f unit graph is called))

calls_from : (code : Code) (g : Flow) (k j : ℕ) (unit : FlowUnit) → IsUnit code g.entry unit → address_at g k ≡ unit.at → IsCalledAt code g k j → called_of unit ≡ Some (address_at g j)
calls_from code g k j unit is at called = calls_named code g.entry (address_at g j) unit is (subst (λ u. CallsAt code u (address_at g j)) at called.calls)

pub none_called : (code : Code) (g : Flow) (k : ℕ) (unit : FlowUnit) (a : Room) → IsUnit code g.entry unit → address_at g k ≡ unit.at → called_of unit ≡ None → Adds (IsCalledAt code g k) a a
none_called code g k unit a is at none = adds_none (IsCalledAt code g k) a (λ j called. none_some (address_at g j) (sym none ∙ calls_from code g k j unit is at called))

pub one_called : (code : Code) (g : Flow) (k number f : ℕ) (unit : FlowUnit) (addresses : List ℕ) (a b : Room) → IsGraph code g.entry g → IsUnit code g.entry unit → address_at g k ≡ unit.at → called_of unit ≡ Some f → addresses ≡ addresses_of g
    → number < length addresses → slice_index addresses number ≡ f → Adds (λ j. j ≡ number) a b → Adds (IsCalledAt code g k) a b
one_called code g k number f unit addresses a b graph is at called same within there adds =
    adds_same (λ j. j ≡ number) (IsCalledAt code g k) a b
    (λ j c. same_number g code j number graph c.within inside (some_same (address_at g j) f (sym (calls_from code g k j unit is at c) ∙ called) ∙ sym here))
    (λ j e. subst (IsCalledAt code g k) (sym e) (record { within = inside; calls = subst (λ u. CallsAt code u (address_at g number)) (sym at) (subst (λ n. CallsAt code unit.at n) (sym here) (named_calls code g f unit graph is called)) }))
    adds
  where
    inside : number < length g.units
    inside = number_within g number (subst (λ l. number < length l) same within)

    here : address_at g number ≡ f
    here = sym (ap (λ l. slice_index l number) same) ∙ there

pub no_calls : (code : Code) (g : Flow) (lo : ℕ) (a : Room) → Adds (IsCalledFrom code g lo lo) a a
no_calls code g lo a = adds_none (IsCalledFrom code g lo lo) a (λ j c. omega (arith, c.from, c.below))

pub more_calls : (code : Code) (g : Flow) (lo k : ℕ) (a b c : Room) → lo ≤ k → Adds (IsCalledFrom code g lo k) a b → Adds (IsCalledAt code g k) b c → Adds (IsCalledFrom code g lo (k + 1)) a c
more_calls code g lo k a b c low p q =
    adds_both (IsCalledFrom code g lo k) (IsCalledAt code g k) (IsCalledFrom code g lo (k + 1)) a b c
    (λ j r. elim (cases_eq r.k k) [
      | inl same ↦ inr (subst (λ n. IsCalledAt code g n j) same r.called)
      | inr other ↦ inl (record { k = r.k; from = r.from; below = omega (arith, r.below, other); called = r.called })
    ])
    (λ j r. record { k = r.k; from = r.from; below = omega (arith, r.below); called = r.called })
    (λ j called. record { k = k; from = low; below = omega arith; called = called })
    p q

-- what a unit writes
pub record WritesAt (code : Code) (c u at : ℕ) : Type 0 where
  pub word : is_word_of code u at ≡ true
  pub instr : Instr
  pub stands : instr_at code at ≡ Some instr
  pub writes : writes_of instr ≡ Some c

same_instr : (a b : Instr) → Some a ≡ Some b → a ≡ b
same_instr a b e = cc

no_instr : (i : Instr) → None ≡ Some i → ⊥
no_instr i e = cc

first_write : (code : Code) (entry c : ℕ) (unit : FlowUnit) → IsUnit code entry unit → IsLeast (λ at. (at ≡ unit.at) × WritesAt code c unit.at at) (only_if (writes_counter c unit.first) unit.at)
first_write code entry c unit is = only_least (writes_counter c unit.first) unit.at (λ at. (at ≡ unit.at) × WritesAt code c unit.at at)
    (λ w. (refl, record { word = word_here code unit.at; instr = unit.first; stands = is.first; writes = register_is c (writes_of unit.first) w }))
    (λ n h. (h.0, is_the_register c (writes_of unit.first) (ap writes_of (same_instr unit.first h.1.instr (sym is.first ∙ ap (instr_at code) (sym h.0) ∙ h.1.stands)) ∙ h.1.writes)))

slot_write : (code : Code) (entry c : ℕ) (unit : FlowUnit) (slot : Instr) → IsUnit code entry unit → unit.slot ≡ Some slot → IsLeast (λ at. (at ≡ unit.at + 4) × WritesAt code c unit.at at) (only_if (writes_counter c slot) (unit.at + 4))
slot_write code entry c unit slot is has = only_least (writes_counter c slot) (unit.at + 4) (λ at. (at ≡ unit.at + 4) × WritesAt code c unit.at at)
    (λ w. (refl, record { word = word_slot code unit.at (control_at code entry unit is ∙ control); instr = slot; stands = there; writes = register_is c (writes_of slot) w }))
    (λ n h. (h.0, is_the_register c (writes_of slot) (ap writes_of (same_instr slot h.1.instr (sym there ∙ ap (instr_at code) (sym h.0) ∙ h.1.stands)) ∙ h.1.writes)))
  where
    control : is_control_instr unit.first ≡ true
    control = control_of code entry unit is slot has

    there : instr_at code (unit.at + 4) ≡ Some slot
    there = slot_stands code entry unit is control ∙ has

pub unit_write : (code : Code) (entry c : ℕ) (unit : FlowUnit) → IsUnit code entry unit → IsLeast (WritesAt code c unit.at) (write_of c unit)
unit_write code entry c unit is = by_slot unit.slot refl
  where
    by_slot : (o : Option Instr) → unit.slot ≡ o → IsLeast (WritesAt code c unit.at) (write_if c unit o)
    by_slot None e = least_same (λ at. (at ≡ unit.at) × WritesAt code c unit.at at) (WritesAt code c unit.at) (only_if (writes_counter c unit.first) unit.at) (λ n h. h.1)
        (λ n h. elim (word_cases code unit.at n h.word) [
          | inl here ↦ (here, h)
          | inr (control, there) ↦ absurd (no_instr h.instr (sym e ∙ sym (slot_stands code entry unit is (sym (control_at code entry unit is) ∙ control)) ∙ ap (instr_at code) (sym there) ∙ h.stands))
        ])
        (first_write code entry c unit is)
    by_slot (Some slot) e = least_same (λ at. ((at ≡ unit.at) × WritesAt code c unit.at at) ⊎ ((at ≡ unit.at + 4) × WritesAt code c unit.at at)) (WritesAt code c unit.at) (write_if c unit (Some slot))
        (λ n h. elim h [ inl x ↦ x.1 | inr y ↦ y.1 ])
        (λ n h. elim (word_cases code unit.at n h.word) [ inl here ↦ inl (here, h) | inr (control, there) ↦ inr (there, h) ])
        (lesser_least (λ at. (at ≡ unit.at) × WritesAt code c unit.at at) (λ at. (at ≡ unit.at + 4) × WritesAt code c unit.at at) (only_if (writes_counter c unit.first) unit.at) (only_if (writes_counter c slot) (unit.at + 4))
        (first_write code entry c unit is) (slot_write code entry c unit slot is e))

-- of the units that are found
abbrev pub WritesUpto : Code → Flow → Room → ℕ → ℕ → ℕ → Type 0
WritesUpto code g room c i at = (j : ℕ) × (j < i) × WritesAt code c (address_at g (found_at room j)) at

pub more_writes : (code : Code) (g : Flow) (room : Room) (c i : ℕ) (unit : FlowUnit) (best new : Option ℕ) → IsUnit code g.entry unit → address_at g (found_at room i) ≡ unit.at → new ≡ lesser best (write_of c unit)
    → IsLeast (WritesUpto code g room c i) best → IsLeast (WritesUpto code g room c (i + 1)) new
more_writes code g room c i unit best new is at next least =
    subst (IsLeast (WritesUpto code g room c (i + 1))) (sym next)
    (least_same (λ n. WritesUpto code g room c i n ⊎ WritesAt code c unit.at n) (WritesUpto code g room c (i + 1)) (lesser best (write_of c unit))
    (λ n h. elim h [ inl (j, below, x) ↦ (j, omega (arith, below), x) | inr y ↦ (i, omega arith, subst (λ u. WritesAt code c u n) (sym at) y) ])
    (λ n (j, below, x). elim (cases_eq j i) [
      | inl same ↦ inr (subst (λ u. WritesAt code c u n) (ap (λ m. address_at g (found_at room m)) same ∙ at) x)
      | inr other ↦ inl (j, omega (arith, below, other), x)
    ])
    (lesser_least (WritesUpto code g room c i) (WritesAt code c unit.at) best (write_of c unit) least (unit_write code g.entry c unit is)))

pub all_writes : (code : Code) (g : Flow) (room : Room) (c i : ℕ) (best : Option ℕ) → IsRoom (length g.units) room → room.count ≤ i → i ≤ room.count → IsLeast (WritesUpto code g room c i) best → IsLeast (IsWritten code g room c) best
all_writes code g room c i best is over under least =
    least_same (WritesUpto code g room c i) (IsWritten code g room c) best
    (λ n (j, below, x). record { k = found_at room j; seen = is.marked j (omega (arith, below, under)); word = x.word; instr = x.instr; stands = x.stands; writes = x.writes })
    (λ n h. let (j, below, at) = is.listed h.k h.seen in
    (j, omega (arith, below, over), record { word = subst (λ m. is_word_of code (address_at g m) n ≡ true) (sym at) h.word; instr = h.instr; stands = h.stands; writes = h.writes }))
    least

-- a unit that is found
pub record IsSeen (g : Flow) (room : Room) (u : ℕ) : Type 0 where
  pub k : ℕ
  pub within : k < length g.units
  pub at : address_at g k ≡ u
  pub seen : seen_at room k ≡ true

number_of : (g : Flow) (u : ℕ) → Contains (addresses_of g) u → (k : ℕ) × (k < length g.units) × (address_at g k ≡ u)
number_of g u (k, below, is) = (k, omega (arith, below, units_long g), get_or_default_here)
  where
    get_or_default_here : address_at g k ≡ u
    get_or_default_here = sym (get_or_default_zero (addresses_of g) k u below) ∙ is

reached_seen : (code : Code) (g : Flow) (room : Room) (u : ℕ) → IsGraph code g.entry g → IsSeen g room u → Reached code g.entry u
reached_seen code g room u graph s = unit_reached code g.entry g u graph (s.k, omega (arith, s.within, units_long g), get_or_default_zero (addresses_of g) s.k u (omega (arith, s.within, units_long g)) ∙ s.at)

seen_on : (code : Code) (g : Flow) (old room : Room) (u v : ℕ) (kind : EdgeKind) → IsGraph code g.entry g → IsSpread code g Called old room → IsSeen g room u → Leads code (edge_of u v kind) → is_return kind ≡ false → IsSeen g room v
seen_on code g old room u v kind graph spread s leads back =
    let among = (graph.edges_are (edge_of u v kind)).1 (record { reached = reached_seen code g room u graph s; joins = inl leads }) in
    let (j, within, at) = number_of g v (leads_among code g (edge_of u v kind) graph among back) in
    record { k = j; within = within; at = at; seen = spread.closed s.k j s.seen (record { edge = edge_of u v kind; among = among; from = sym s.at; ends = record { within = within; at = at; allowed = back } }) }

inner_no_return : (k : EdgeKind) → is_inner k ≡ true → is_return k ≡ false
inner_no_return Next e = refl
inner_no_return Taken e = refl
inner_no_return Over e = refl
inner_no_return Call e = refl
inner_no_return Return e = true_false (sym e)

seen_way : (code : Code) (g : Flow) (old room : Room) (start u : ℕ) (us : List ℕ) → IsGraph code g.entry g → IsSpread code g Called old room → IsSeen g room start → IsWay code is_inner start (u ∷ us) → IsSeen g room u
unfolding IsWay
seen_way code g old room start u [] graph spread s way = subst (IsSeen g room) (sym way.0) s
seen_way code g old room start u (v ∷ us) graph spread s way =
    seen_on code g old room v u way.0.kind graph spread (seen_way code g old room start v us graph spread s way.1) way.0.leads (inner_no_return way.0.kind way.0.is_asked)

seen_enters : (code : Code) (g : Flow) (old room : Room) (f h : ℕ) → IsGraph code g.entry g → IsSpread code g Called old room → IsSeen g room f → Enters code f h → IsSeen g room h
seen_enters code g old room f _ graph spread s Itself = s
seen_enters code g old room f _ graph spread s (Through m u h enters member calls) =
    seen_on code g old room u h Call graph spread (seen_way code g old room m u member.us graph spread (seen_enters code g old room f m graph spread s enters) member.way) calls refl

-- and what leads there
pub record IsEntered (code : Code) (f u : ℕ) : Type 0 where
  pub inside : ℕ
  pub enters : Enters code f inside
  pub member : IsUnitOf code inside u

entered_on : (code : Code) (f u v : ℕ) (kind : EdgeKind) → is_return kind ≡ false → Leads code (edge_of u v kind) → IsEntered code f u → IsEntered code f v
entered_on code f u v Next back leads e = record { inside = e.inside; enters = e.enters; member = reached_on code is_inner e.inside u v e.member (record { kind = Next; is_asked = refl; leads = leads }) }
entered_on code f u v Taken back leads e = record { inside = e.inside; enters = e.enters; member = reached_on code is_inner e.inside u v e.member (record { kind = Taken; is_asked = refl; leads = leads }) }
entered_on code f u v Over back leads e = record { inside = e.inside; enters = e.enters; member = reached_on code is_inner e.inside u v e.member (record { kind = Over; is_asked = refl; leads = leads }) }
entered_on code f u v Call back leads e = record { inside = v; enters = Through e.inside u v e.enters e.member leads; member = reached_here code is_inner v (leads_code code u v Call leads) }
entered_on code f u v Return back leads e = true_false back

edge_is : (e : Edge) (u v : ℕ) → e.from ≡ u → v ≡ e.to → e ≡ edge_of u v e.kind
edge_is e u v p q = parts p (sym q)
  where
    parts : {f t : ℕ} → e.from ≡ f → e.to ≡ t → e ≡ edge_of f t e.kind
    parts p q = rw (sym p, sym q) refl

entered_led : (code : Code) (g : Flow) (start k : ℕ) → IsGraph code g.entry g → is_code code (address_at g start) ≡ true → IsLed code g Called start k → IsEntered code (address_at g start) (address_at g k)
entered_led code g start _ graph there Stays = record { inside = address_at g start; enters = Itself; member = reached_here code is_inner (address_at g start) there }
entered_led code g start _ graph there (Goes i j led leads) =
    let on = leads_on code g leads.edge graph leads.among leads.ends.allowed in
    entered_on code (address_at g start) (address_at g i) (address_at g j) leads.edge.kind leads.ends.allowed
    (subst (λ e. Leads code e) (edge_is leads.edge (address_at g i) (address_at g j) leads.from leads.ends.at) on.1)
    (entered_led code g start i graph there led)

pub callee_least : (code : Code) (g : Flow) (region : Region) (lo hi : ℕ) (cleared called room : Room) (best : Option ℕ) (lines : List FactLine) (loops : LoopGraph) (mask : ℕ → ℕ → Bool) → IsGraph code g.entry g → AreOfRegion g region lo hi → hi ≤ length g.units
    → ((k : ℕ) → seen_at cleared k ≡ false) → Adds (IsCalledFrom code g lo hi) cleared called → IsSpread code g Called called room → IsLeast (IsWritten code g room region.counter) best
    → IsLeast (CalleeWrites (program_of code g lines loops mask) region) best
unfolding program_of
callee_least code g region lo hi cleared called room best lines loops mask graph of within none adds spread least =
    least_same (IsWritten code g room region.counter) (CalleeWrites (program_of code g lines loops mask) region) best on back least
  where
    on : (n : ℕ) → IsWritten code g room region.counter n → CalleeWrites (program_of code g lines loops mask) region n
    on n w =
        let (start, seen, led) = spread.only w.k w.seen in
        let from : IsCalledFrom code g lo hi start = elim (adds.only start seen) [ inl old ↦ true_false (sym old ∙ none start) | inr c ↦ c ] in
        let entered = entered_led code g start w.k graph (leads_code code (address_at g from.k) (address_at g start) Call from.called.calls) led in
        record {
          unit = address_at g from.k;
          reached = numbered_reached from.k (omega (arith, from.below, within));
          inside = of.inside from.k from.from from.below;
          function = address_at g start;
          calls = from.called.calls;
          writes = record { inside = entered.inside; enters = entered.enters; unit = address_at g w.k; member = entered.member; at = n; word = w.word; instr = w.instr; stands = w.stands; writes = w.writes };
          at_is = refl;
        }
      where
        numbered_reached : (k : ℕ) → k < length g.units → Reached code g.entry (address_at g k)
        numbered_reached k below = unit_reached code g.entry g (address_at g k) graph (k, omega (arith, below, units_long g), get_or_default_zero (addresses_of g) k (address_at g k) (omega (arith, below, units_long g)))

    back : (n : ℕ) → CalleeWrites (program_of code g lines loops mask) region n → IsWritten code g room region.counter n
    back n w =
        let (k, below, at) = number_of g w.unit (reached_unit code g.entry g w.unit graph w.reached) in
        let inside = of.all k below (subst (λ u. holds region u ≡ true) (sym at) w.inside) in
        let among = (graph.edges_are (edge_of w.unit w.function Call)).1 (record { reached = w.reached; joins = inl w.calls }) in
        let (j, under, there) = number_of g w.function (leads_among code g (edge_of w.unit w.function Call) graph among refl) in
        let first : IsSeen g room w.function = record {
          k = j;
          within = under;
          at = there;
          seen = spread.kept j (adds.whole j (record { k = k; from = inside.0; below = inside.1; called = record { within = under; calls = subst (λ u. CallsAt code u (address_at g j)) (sym at) (subst (λ v. CallsAt code w.unit v) (sym there) w.calls) } }));
        } in
        let last = seen_way code g called room w.writes.inside w.writes.unit w.writes.member.us graph spread (seen_enters code g called room w.function w.writes.inside graph spread first w.writes.enters) w.writes.member.way in
        record {
          k = last.k;
          seen = last.seen;
          word = subst (λ u. is_word_of code u n ≡ true) (sym last.at) (subst (λ m. is_word_of code w.writes.unit m ≡ true) w.at_is w.writes.word);
          instr = w.writes.instr;
          stands = ap (instr_at code) (sym w.at_is) ∙ w.writes.stands;
          writes = w.writes.writes;
        }

-- a cycle without a step
quiet_edge : (code : Code) (g : Flow) (region : Region) (k j : ℕ) (lines : List FactLine) (loops : LoopGraph) (mask : ℕ → ℕ → Bool) → IsGraph code g.entry g → LeadsTo code g (Quiet region) k j → QuietEdge (program_of code g lines loops mask) region (address_at g k) (address_at g j)
unfolding program_of
quiet_edge code g region k j lines loops mask graph l =
    let on = leads_on code g l.edge graph l.among (no_return code (Quiet region) l.edge l.ends.allowed) in
    record {
      edge = l.edge;
      from = l.from;
      to = sym l.ends.at;
      reached = on.0;
      leads = on.1;
      inner = l.ends.allowed.inner;
      inside_from = l.ends.allowed.inside_from;
      inside_to = l.ends.allowed.inside_to;
      quiet = l.ends.allowed.quiet;
    }

pub record IsQuietTo (code : Code) (g : Flow) (region : Region) (lines : List FactLine) (loops : LoopGraph) (mask : ℕ → ℕ → Bool) (u : ℕ) : Type 0 where
  pub last : ℕ
  pub before : List ℕ
  pub way : IsQuietWay (program_of code g lines loops mask) region (u ∷ last ∷ before)

quiet_led : (code : Code) (g : Flow) (region : Region) (lines : List FactLine) (loops : LoopGraph) (mask : ℕ → ℕ → Bool) (start k : ℕ) → IsGraph code g.entry g → IsQuietTo code g region lines loops mask (address_at g start) → IsLed code g (Quiet region) start k
    → IsQuietTo code g region lines loops mask (address_at g k)
unfolding IsQuietWay
quiet_led code g region lines loops mask start _ graph first Stays = first
quiet_led code g region lines loops mask start _ graph first (Goes i j led leads) =
    let rest = quiet_led code g region lines loops mask start i graph first led in
    record { last = address_at g i; before = rest.last ∷ rest.before; way = (quiet_edge code g region i j lines loops mask graph leads, rest.way) }

quiet_among : (code : Code) (g : Flow) (region : Region) (lines : List FactLine) (loops : LoopGraph) (mask : ℕ → ℕ → Bool) (u v : ℕ) → IsGraph code g.entry g → (q : QuietEdge (program_of code g lines loops mask) region u v) → Contains g.edges q.edge
unfolding program_of
quiet_among code g region lines loops mask u v graph q = (graph.edges_are q.edge).1 (record { reached = q.reached; joins = inl q.leads })

quiet_ends : (code : Code) (g : Flow) (region : Region) (lines : List FactLine) (loops : LoopGraph) (mask : ℕ → ℕ → Bool) (u v : ℕ) → IsGraph code g.entry g → (q : QuietEdge (program_of code g lines loops mask) region u v) → (j : ℕ) × EndsAt code g (Quiet region) q.edge j
unfolding program_of
quiet_ends code g region lines loops mask u v graph q =
    let (j, within, at) = number_of g q.edge.to (leads_among code g q.edge graph (quiet_among code g region lines loops mask u v graph q) (inner_no_return q.edge.kind q.inner)) in
    (j, record { within = within; at = at; allowed = record { inner = q.inner; inside_from = q.inside_from; inside_to = q.inside_to; quiet = q.quiet } })

-- an edge from the header, and from a unit that is found
first_seen : (code : Code) (g : Flow) (region : Region) (lines : List FactLine) (loops : LoopGraph) (mask : ℕ → ℕ → Bool) (header : ℕ) (cleared passed room : Room) (v u : ℕ) → IsGraph code g.entry g → u ≡ address_at g header
    → Adds (LeadsTo code g (Quiet region) header) cleared passed → IsSpread code g (Quiet region) passed room → QuietEdge (program_of code g lines loops mask) region u v → IsSeen g room v
first_seen code g region lines loops mask header cleared passed room v u graph there adds spread q =
    let (j, end) = quiet_ends code g region lines loops mask u v graph q in
    record { k = j; within = end.within; at = end.at ∙ q.to; seen = spread.kept j (adds.whole j (record { edge = q.edge; among = quiet_among code g region lines loops mask u v graph q; from = q.from ∙ there; ends = end })) }

next_seen : (code : Code) (g : Flow) (region : Region) (lines : List FactLine) (loops : LoopGraph) (mask : ℕ → ℕ → Bool) (passed room : Room) (v u : ℕ) → IsGraph code g.entry g → IsSpread code g (Quiet region) passed room → IsSeen g room u
    → QuietEdge (program_of code g lines loops mask) region u v → IsSeen g room v
next_seen code g region lines loops mask passed room v u graph spread s q =
    let (j, end) = quiet_ends code g region lines loops mask u v graph q in
    record { k = j; within = end.within; at = end.at ∙ q.to; seen = spread.closed s.k j s.seen (record { edge = q.edge; among = quiet_among code g region lines loops mask u v graph q; from = q.from ∙ sym s.at; ends = end }) }

quiet_seen : (code : Code) (g : Flow) (region : Region) (lines : List FactLine) (loops : LoopGraph) (mask : ℕ → ℕ → Bool) (header : ℕ) (cleared passed room : Room) (v u : ℕ) (us : List ℕ) → IsGraph code g.entry g → address_at g header ≡ region.header
    → Adds (LeadsTo code g (Quiet region) header) cleared passed → IsSpread code g (Quiet region) passed room → IsQuietWay (program_of code g lines loops mask) region (v ∷ (u ∷ us)) → IsSeen g room v
unfolding IsQuietWay
quiet_seen code g region lines loops mask header cleared passed room v u [] graph there adds spread way = first_seen code g region lines loops mask header cleared passed room v u graph (way.1 ∙ sym there) adds spread way.0
quiet_seen code g region lines loops mask header cleared passed room v u (x ∷ us) graph there adds spread way =
    next_seen code g region lines loops mask passed room v u graph spread (quiet_seen code g region lines loops mask header cleared passed room u x us graph there adds spread way.1) way.0

pub no_step_told : (code : Code) (g : Flow) (region : Region) (header : ℕ) (cleared passed room : Room) (b : Bool) (lines : List FactLine) (loops : LoopGraph) (mask : ℕ → ℕ → Bool) → IsGraph code g.entry g → header < length g.units → address_at g header ≡ region.header
    → ((k : ℕ) → seen_at cleared k ≡ false) → Adds (LeadsTo code g (Quiet region) header) cleared passed → IsSpread code g (Quiet region) passed room → b ≡ seen_at room header
    → (b ≡ true) ↔ HasNoStep (program_of code g lines loops mask) region
unfolding IsQuietWay
no_step_told code g region header cleared passed room b lines loops mask graph within there none adds spread is = (on, back)
  where
    on : b ≡ true → HasNoStep (program_of code g lines loops mask) region
    on e =
        let (start, seen, led) = spread.only header (sym is ∙ e) in
        let leads : LeadsTo code g (Quiet region) header start = elim (adds.only start seen) [ inl old ↦ true_false (sym old ∙ none start) | inr l ↦ l ] in
        let first : IsQuietTo code g region lines loops mask (address_at g start) = record { last = address_at g header; before = []; way = (quiet_edge code g region header start lines loops mask graph leads, there) } in
        let all = quiet_led code g region lines loops mask start header graph first led in
        record { last = all.last; before = all.before; way = subst (λ u. IsQuietWay (program_of code g lines loops mask) region (u ∷ all.last ∷ all.before)) there all.way }

    back : HasNoStep (program_of code g lines loops mask) region → b ≡ true
    back h =
        let s = quiet_seen code g region lines loops mask header cleared passed room region.header h.last h.before graph there adds spread h.way in
        is ∙ ap (seen_at room) (same_number g code header s.k graph within s.within (there ∙ sym s.at)) ∙ s.seen
