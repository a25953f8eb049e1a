-- Units of functions.
use Rattle.std.proofs.Common.{◌≡◌, ◌∙◌, refl, sym, ap, subst, ℕ, ◌+◌, ◌<◌, ◌≤◌, Bool, true, false, arith, take, List, [], ◌∷◌, ◌++◌, Some, None, length, get_or}
use Rattle.std.specs.Prelude.{Contains, slice_get, slice_index, slice_index_or}
use Rattle.std.proofs.lemmas.List.{take_all, take_more}
use Rattle.std.proofs.lemmas.List.Elements.{Contains-get_or}
use Rattle.std.proofs.lemmas.Option.{slice_get-get_or}
use Rattle.visa_io.specs.declared.records.Code.{Code}
use Rattle.flow_graph.specs.Code.{is_control_instr}
use Rattle.flow_graph.specs.Flow.{Flow, HasShape, IsGraph, IsUnit}
use Rattle.flow_graph.specs.Reached.{IsFunction, IsUnitOf, Reached}
use Rattle.flow_graph.specs.declared.parts.Unit.{Unit as FlowUnit}
use Rattle.run_law.specs.Program.{Good}
use Rattle.run_law.proofs.Flows.{unit_reached}
use Rattle.bound_checker.specs.Lines.{addresses_of}
use Rattle.bound_checker.specs.Marks.{AreDue, ArePassed, IsBelow, IsClosedAt, IsPassed}
use Rattle.bound_checker.proofs.Calls.{flows, passed_more, plain_task}
use Rattle.bound_checker.proofs.Checking.{mapped, number_within, unit_from}
use Rattle.bound_checker.proofs.Recorded.{numbered_unit}
use Rattle.bound_checker.proofs.Edges.{IsRecorded}
use Rattle.bound_checker.proofs.Marked.{below_refl}

-- a unit that is reached is recorded
pub unit_there : (code : Code) (g : Flow) (u : ℕ) → IsGraph code g.entry g → Reached code g.entry u → IsRecorded g u
unfolding plain_task
unit_there code g u graph reached = by_kind (is_control_instr good.instr) refl
  where
    good : Good code u
    good = (flows code g graph).good u reached

    by_kind : (b : Bool) → is_control_instr good.instr ≡ b → IsRecorded g u
    by_kind true control =
        let s = good.slot control in
        let unit : FlowUnit = record { at = u; length = 8; first = good.instr; slot = Some s.0 } in
        record {
          unit = unit;
          among = (graph.units_are unit).1 (record { reached = reached; first = good.stands; shape = subst (λ b. HasShape code unit b) (sym control) (s.1, refl) });
          at_is = refl;
        }
    by_kind false plain =
        let unit : FlowUnit = record { at = u; length = 4; first = good.instr; slot = None } in
        record {
          unit = unit;
          among = (graph.units_are unit).1 (record { reached = reached; first = good.stands; shape = subst (λ b. HasShape code unit b) (sym plain) (refl, refl) });
          at_is = refl;
        }

pub function_of : (code : Code) (g : Flow) (row : ℕ) → IsGraph code g.entry g → row < length g.functions → IsFunction code g.entry (slice_index g.functions row)
function_of code g row graph within = (graph.functions_are (slice_index g.functions row)).0 (Contains-get_or g.functions row 0 within)

-- the units of a row are those of its function
units_there : (code : Code) (g : Flow) (row : ℕ) → IsGraph code g.entry g → row < length g.functions → slice_get g.function_units row ≡ Some (slice_index_or g.function_units row [])
units_there code g row graph within = slice_get-get_or g.function_units row [] (omega (arith, graph.function_units_beside, within))

pub row_units : (code : Code) (g : Flow) (row u : ℕ) → IsGraph code g.entry g → row < length g.functions → Contains (slice_index_or g.function_units row []) u → IsUnitOf code (slice_index g.functions row) u
row_units code g row u graph within among = ((graph.function_units_are row (slice_index_or g.function_units row []) (units_there code g row graph within)).are u).0 among

pub units_row : (code : Code) (g : Flow) (row u : ℕ) → IsGraph code g.entry g → row < length g.functions → IsUnitOf code (slice_index g.functions row) u → Contains (slice_index_or g.function_units row []) u
units_row code g row u graph within member = ((graph.function_units_are row (slice_index_or g.function_units row []) (units_there code g row graph within)).are u).1 member

pub member_of : (code : Code) (g : Flow) (row k u : ℕ) → IsGraph code g.entry g → row < length g.functions → k < length (slice_index_or g.function_units row []) → slice_index (slice_index_or g.function_units row []) k ≡ u
    → IsUnitOf code (slice_index g.functions row) u
member_of code g row k u graph within below is =
    row_units code g row u graph within (subst (λ v. Contains (slice_index_or g.function_units row []) v) is (Contains-get_or (slice_index_or g.function_units row []) k 0 below))

pub member_address : (code : Code) (g : Flow) (row k u : ℕ) → IsGraph code g.entry g → row < length g.functions → k < length (slice_index_or g.function_units row []) → slice_index (slice_index_or g.function_units row []) k ≡ u
    → Contains (addresses_of g) u
member_address code g row k u graph within below is =
    let reached = unit_reached code g.entry (slice_index g.functions row) u (function_of code g row graph within) (member_of code g row k u graph within below is) in
    let r = unit_there code g u graph reached in
    subst (λ a. Contains (addresses_of g) a) r.at_is (mapped g.units r.unit r.among)

-- passes
none_in : {X : Type 0} (x : X) → Contains [] x → ⊥
none_in x (k, below, is) = omega (arith, below)

pub none_passed : (code : Code) (g : Flow) (row : ℕ) (marks : List Bool) (us : List ℕ) → AreDue code g marks → IsPassed code g row (take 0 us) marks marks
none_passed code g row marks us due = record { due = due; below = below_refl marks; closed = λ same u among. absurd (none_in u among) }

pub step_passed : (code : Code) (g : Flow) (row k u v : ℕ) (us : List ℕ) (a b c : List Bool) → k < length us → slice_index us k ≡ u → v ≡ u → IsPassed code g row (take k us) a b → AreDue code g c → IsBelow b c
    → (c ≡ b → IsClosedAt code g b row v) → IsPassed code g row (take (k + 1) us) a c
step_passed code g row k u v us a b c within is same passed due below closed =
    subst (λ l. IsPassed code g row l a c) (sym (take_more us k 0 within ∙ ap (λ w. take k us ++ w ∷ []) is))
    (passed_more code g row u (take k us) a b c passed due below (λ e. subst (λ w. IsClosedAt code g b row w) same (closed e)))

pub all_passed : (code : Code) (g : Flow) (row k : ℕ) (us : List ℕ) (a b : List Bool) → length us ≤ k → IsPassed code g row (take k us) a b → IsPassed code g row us a b
all_passed code g row k us a b all passed = subst (λ l. IsPassed code g row l a b) (take_all k us all) passed

pub no_rows : (code : Code) (g : Flow) (marks : List Bool) → AreDue code g marks → ArePassed code g 0 marks marks
no_rows code g marks due = record { due = due; below = below_refl marks; closed = λ same row u less within among. absurd (omega (arith, less)) }

pub all_rows : (code : Code) (g : Flow) (k : ℕ) (a b : List Bool) → length g.functions ≤ k → ArePassed code g k a b → ArePassed code g (length g.functions) a b
all_rows code g k a b all passed = record { due = passed.due; below = passed.below; closed = λ same row u less within among. passed.closed same row u (omega (arith, all, less)) within among }

-- the unit that a search by address finds
found_at : (g : Flow) (addresses : List ℕ) (n u : ℕ) (unit : FlowUnit) → addresses ≡ addresses_of g → n < length addresses → slice_index addresses n ≡ u → ((d : FlowUnit) → get_or g.units n d ≡ unit) → unit.at ≡ u
found_at g addresses n u unit same within at is =
    unit_from g n u unit (number_within g n (subst (λ l. n < length l) same within)) is (subst (λ l. slice_index l n ≡ u) same at)

pub found_unit : (code : Code) (g : Flow) (addresses : List ℕ) (n : ℕ) (unit : FlowUnit) → IsGraph code g.entry g → addresses ≡ addresses_of g → n < length addresses → ((d : FlowUnit) → get_or g.units n d ≡ unit) → IsUnit code g.entry unit
found_unit code g addresses n unit graph same within is = numbered_unit code g n unit unit graph (number_within g n (subst (λ l. n < length l) same within)) (is unit)

pub found_member : (code : Code) (g : Flow) (addresses : List ℕ) (row k n u : ℕ) (unit : FlowUnit) → IsGraph code g.entry g → addresses ≡ addresses_of g → row < length g.functions → k < length (slice_index_or g.function_units row [])
    → slice_index (slice_index_or g.function_units row []) k ≡ u → n < length addresses → slice_index addresses n ≡ u → ((d : FlowUnit) → get_or g.units n d ≡ unit) → IsUnitOf code (slice_index g.functions row) unit.at
found_member code g addresses row k n u unit graph same within below is inside at there =
    subst (λ v. IsUnitOf code (slice_index g.functions row) v) (sym (found_at g addresses n u unit same inside at there)) (member_of code g row k u graph within below is)

pub step_at : (code : Code) (g : Flow) (addresses : List ℕ) (row k n u : ℕ) (unit : FlowUnit) (a b c : List Bool) → addresses ≡ addresses_of g → k < length (slice_index_or g.function_units row [])
    → slice_index (slice_index_or g.function_units row []) k ≡ u → n < length addresses → slice_index addresses n ≡ u → ((d : FlowUnit) → get_or g.units n d ≡ unit)
    → IsPassed code g row (take k (slice_index_or g.function_units row [])) a b → AreDue code g c → IsBelow b c → (c ≡ b → IsClosedAt code g b row unit.at) → IsPassed code g row (take (k + 1) (slice_index_or g.function_units row [])) a c
step_at code g addresses row k n u unit a b c same below is inside at there passed due lower closed =
    step_passed code g row k u unit.at (slice_index_or g.function_units row []) a b c below is (found_at g addresses n u unit same inside at there) passed due lower closed
