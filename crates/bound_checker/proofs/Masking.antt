-- Marks that no pass adds to tell what functions may write.
use Rattle.std.proofs.Common.{◌≡◌, ◌∙◌, sym, ap, subst, ℕ, ◌*◌, ◌<◌, ◌≤◌, Bool, true, false, arith, List, ◌⊎◌, inl, inr, length, get_or, replicate}
use Rattle.std.specs.Prelude.{slice_index}
use Rattle.std.proofs.lemmas.Bool.{cases_lt}
use Rattle.std.proofs.lemmas.List.{get_or-replicate, get_or_default, get_or_past, length-replicate}
use Rattle.visa_io.specs.declared.records.Code.{Code}
use Rattle.flow_graph.specs.Flow.{Flow, IsGraph}
use Rattle.flow_graph.specs.Reached.{CallsAt, IsFunction, IsUnitOf}
use Rattle.run_law.specs.Masks.{AreMasks, Enters, Itself, MayWrite, Through}
use Rattle.run_law.proofs.Flows.{unit_reached}
use Rattle.bound_checker.specs.Gone.{mask_in}
use Rattle.bound_checker.specs.Lines.{place_in}
use Rattle.bound_checker.specs.Lost.{mask_of}
use Rattle.bound_checker.specs.Marks.{AreDue, ArePassed, AreRowsClosed, IsClosedAt, mark_at, unmarked}
use Rattle.bound_checker.specs.declared.masks.Masks.{Masks}
use Rattle.bound_checker.proofs.Edges.{place_is}
use Rattle.bound_checker.proofs.Marked.{due_at, fewer_of}
use Rattle.bound_checker.proofs.Calls.{flows, plain_task}
use Rattle.bound_checker.proofs.Members.{unit_there, units_row}

-- where a pass adds none, all is closed
pub closed_by : (code : Code) (g : Flow) (a b : List Bool) → ArePassed code g (length g.functions) a b → unmarked a ≤ unmarked b → AreRowsClosed code g b
closed_by code g a b passed few =
    let same : a ≡ b = (fewer_of a b passed.below).same few in
    λ row u within among. subst (λ m. IsClosedAt code g m row u) same (passed.closed (sym same) row u within within among)

-- no marks at first
pub none_due : (code : Code) (g : Flow) (n : ℕ) → n ≡ length g.functions * 32 → AreDue code g (replicate n false)
none_due code g n room =
    record {
      room = length-replicate n false ∙ room;
      due = λ i h. let never : false ≡ true = sym (none i (cases_lt i n)) ∙ h in absurd (cc);
    }
  where
    none : (i : ℕ) → (i < n) ⊎ (n ≤ i) → get_or (replicate n false) i false ≡ false
    none i (inl below) = get_or-replicate n i false false below
    none i (inr past) = get_or_past (replicate n false) i false (omega (arith, past, length-replicate n false))

-- a function that is called is one
called_function : (code : Code) (entry g u h : ℕ) → IsFunction code entry g → IsUnitOf code g u → CallsAt code u h → IsFunction code entry h
called_function code entry g u h function member calls = inr (record { caller = u; reached = unit_reached code entry g u function member; calls = calls })

entered_function : (code : Code) (entry f h : ℕ) → IsFunction code entry f → Enters code f h → IsFunction code entry h
entered_function code entry f h function Itself = function
entered_function code entry f h function (Through g u x enters member calls) = called_function code entry g u h (entered_function code entry f g function enters) member calls

-- the row of a function
row_there : (code : Code) (g : Flow) (f : ℕ) → IsGraph code g.entry g → IsFunction code g.entry f → (k : ℕ) × (k < length g.functions) × (slice_index g.functions k ≡ f)
row_there code g f graph function =
    let among = (graph.functions_are f).1 function in
    (among.0, among.1, get_or_default g.functions among.0 0 f among.1 ∙ among.2)

has_mark : (code : Code) (g : Flow) (marks : List Bool) (f r : ℕ) → Type 0
has_mark code g marks f r = (k : ℕ) → k < length g.functions → slice_index g.functions k ≡ f → mark_at marks k r ≡ true

-- marks pass from what is entered to what enters
passed_up : (code : Code) (g : Flow) (marks : List Bool) (f h r : ℕ) → IsGraph code g.entry g → AreRowsClosed code g marks → r < 32 → IsFunction code g.entry f → Enters code f h → has_mark code g marks h r → has_mark code g marks f r
unfolding has_mark
passed_up code g marks f h r graph closed below function Itself marked = marked
passed_up code g marks f h r graph closed below function (Through x u y enters member calls) marked =
    passed_up code g marks f x r graph closed below function enters (λ k within at. here k within at)
  where
    here : (k : ℕ) → k < length g.functions → slice_index g.functions k ≡ x → mark_at marks k r ≡ true
    here k within at =
        let row = row_there code g h graph (called_function code g.entry x u h (entered_function code g.entry f x function enters) member calls) in
        let mine = subst (λ v. IsUnitOf code v u) (sym at) member in
        let shut = closed k u within (units_row code g k u graph within mine) in
        shut.called row.0 r row.1 (subst (λ v. CallsAt code u v) (sym row.2) calls) below (marked row.0 row.1 row.2)

complete : (code : Code) (g : Flow) (marks : List Bool) (f r : ℕ) → IsGraph code g.entry g → AreRowsClosed code g marks → r < 32 → IsFunction code g.entry f → MayWrite code f r → has_mark code g marks f r
unfolding has_mark
complete code g marks f r graph closed below function w = passed_up code g marks f w.inside r graph closed below function w.enters own
  where
    own : (k : ℕ) → k < length g.functions → slice_index g.functions k ≡ w.inside → mark_at marks k r ≡ true
    own k within at =
        let mine = subst (λ v. IsUnitOf code v w.unit) (sym at) w.member in
        (closed k w.unit within (units_row code g k w.unit graph within mine)).own w.at r w.instr w.word w.stands w.writes below

pub are_masks : (code : Code) (g : Flow) (m : Masks) → IsGraph code g.entry g → m.functions.items ≡ g.functions → AreDue code g m.marks.items → AreRowsClosed code g m.marks.items → AreMasks code g.entry (mask_in m)
unfolding has_mark mask_of
are_masks code g m graph same due closed f r function below =
    let row = row_there code g f graph function in
    let place : place_in m.functions.items f ≡ row.0 = ap (λ l. place_in l f) same ∙ place_is g.functions row.0 f graph.functions_rise row.1 row.2 in (
      (λ is. subst (λ v. MayWrite code v r) row.2 (due_at code g m.marks.items row.0 r due below (subst (λ k. mark_at m.marks.items k r ≡ true) place is))),
      (λ w. subst (λ k. mark_at m.marks.items k r ≡ true) (sym place) (complete code g m.marks.items f r graph closed below function w row.0 row.1 row.2)),
    )

-- a graph has units
pub some_units : (code : Code) (g : Flow) → IsGraph code g.entry g → 0 < length g.units
unfolding plain_task
some_units code g graph =
    let r = unit_there code g g.entry graph (flows code g graph).entry.1 in
    omega (arith, r.among.1)
