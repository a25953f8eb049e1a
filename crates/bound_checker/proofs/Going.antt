-- Steps of the check of facts, over plain values.
use Rattle.std.proofs.Common.{◌≡◌, ◌∙◌, refl, sym, ap, subst, ℕ, ◌+◌, ◌<◌, ◌≤◌, take, true, false, List, [], ◌∷◌, ◌++◌, Option, Some, None, length, get_or}
use Rattle.std.specs.Prelude.{◌==◌, IfSome, Contains, slice_index}
use Rattle.std.specs.BTreeMap.{BTreeMap, get}
use Rattle.std.specs.List.{list_any}
use Rattle.std.specs.Option.{unwrap_or}
use Rattle.std.specs.Ordering.{nat_cmp}
use Rattle.std.proofs.lemmas.List.{take_all, take_more}
use Rattle.std.proofs.lemmas.List.Elements.{Contains-get_or}
use Rattle.visa_io.specs.declared.records.Code.{Code}
use Rattle.visa_io.specs.declared.records.FactLine.{FactLine}
use Rattle.flow_graph.specs.Flow.{Flow}
use Rattle.flow_graph.specs.Reached.{Leads, Reached}
use Rattle.flow_graph.specs.declared.parts.Edge.{Edge}
use Rattle.flow_graph.specs.declared.parts.Unit.{Unit as FlowUnit}
use Rattle.range_facts.specs.Transfer.{AreFacts}
use Rattle.range_facts.specs.declared.along.Along.{Along}
use Rattle.range_facts.specs.declared.facts.Facts.{Facts}
use Rattle.bound_checker.specs.Checked.{IsBest, better}
use Rattle.bound_checker.specs.Ends.{end_of}
use Rattle.bound_checker.specs.Gone.{AreRowsOf, IsBestOf, IsLostAlong, is_return, mask_in}
use Rattle.bound_checker.specs.Input.{IsBefore, IsInput, IsTable}
use Rattle.bound_checker.specs.Lines.{addresses_of, blocks_of, no_facts, program_of}
use Rattle.bound_checker.specs.Lost.{IsLeastLost, callee_of}
use Rattle.bound_checker.specs.declared.masks.Masks.{Masks}
use Rattle.bound_checker.specs.declared.place.Lost.{Lost}
use Rattle.bound_checker.proofs.Best.{best_more, best_skips, kept_all}
use Rattle.bound_checker.proofs.Checking.{block_edge, callee_known, leads_on, no_start, program_before, return_keeps, unit_from}
use Rattle.bound_checker.proofs.Edges.{kept_by_none, lost_by}
use Rattle.bound_checker.proofs.Recorded.{facts_are, numbered_unit}

pub table_facts : (lines : List FactLine) (table : BTreeMap ℕ Facts) (code : Code) (g : Flow) (a : ℕ) (f : Facts) → IsInput code g lines → IsTable lines table → f ≡ unwrap_or (get nat_cmp table a) no_facts → AreFacts f
table_facts lines table code g a f input is same = subst (λ h. AreFacts h) (sym (same ∙ is a)) (facts_are lines a input.lines_are)

pub callee_there : (code : Code) (g : Flow) (lines : List FactLine) (m : Masks) (n : ℕ) (unit : FlowUnit) (e : Edge) (a : Along) (callee : Option ℕ) → IsInput code g lines → AreRowsOf g m → IsBefore code g lines n a
    → ((d : FlowUnit) → get_or g.units n d ≡ unit) → slice_index (addresses_of g) n ≡ e.from → Reached code g.entry e.from → Leads code e → callee ≡ callee_of e.kind unit → IfSome callee (Contains m.functions.items)
callee_there code g lines m n unit e a callee input rows before is at reached leads same =
    callee_known code g m.functions.items unit e e.kind input.graph (numbered_unit code g n unit unit input.graph before.within (is unit)) (unit_from g n e.from unit before.within is at) reached leads refl rows.functions_are callee same

pub none_along : (code : Code) (g : Flow) (lines : List FactLine) (m : Masks) (n : ℕ) (unit : FlowUnit) (e : Edge) (a : Along) → IsInput code g lines → IsBefore code g lines n a
    → ((d : FlowUnit) → get_or g.units n d ≡ unit) → slice_index (addresses_of g) n ≡ e.from → Leads code e → end_of unit e.kind a ≡ None → IsLostAlong code g lines m e None
unfolding program_of
none_along code g lines m n unit e a input before is at leads end loops =
    kept_by_none (program_of code g lines loops (mask_in m)) (blocks_of g lines) unit e a (numbered_unit code g n unit unit input.graph before.within (is unit)) (unit_from g n e.from unit before.within is at)
    (program_before code g lines loops (mask_in m) n e.from a input.graph before at) leads end

pub some_along : (code : Code) (g : Flow) (lines : List FactLine) (table : BTreeMap ℕ Facts) (m : Masks) (n : ℕ) (unit : FlowUnit) (e : Edge) (a end : Along) (target : Facts) (lost : Option ℕ) → IsInput code g lines → IsTable lines table
    → IsBefore code g lines n a → ((d : FlowUnit) → get_or g.units n d ≡ unit) → slice_index (addresses_of g) n ≡ e.from → Leads code e → end_of unit e.kind a ≡ Some end → target ≡ unwrap_or (get nat_cmp table e.to) no_facts
    → (callee : Option ℕ) → callee ≡ callee_of e.kind unit → IsLeastLost (mask_in m) callee end.facts target lost → IsLostAlong code g lines m e lost
unfolding program_of blocks_of
some_along code g lines table m n unit e a end target lost input is_table before is at leads ends same callee called least loops =
    lost_by (program_of code g lines loops (mask_in m)) (blocks_of g lines) unit e a end target lost (numbered_unit code g n unit unit input.graph before.within (is unit)) (unit_from g n e.from unit before.within is at)
    (program_before code g lines loops (mask_in m) n e.from a input.graph before at) leads ends (same ∙ is_table e.to) (subst (λ k. IsLeastLost (mask_in m) k end.facts target lost) called least)

pub better_best : (code : Code) (g : Flow) (lines : List FactLine) (m : Masks) (e : Edge) (best : Option Lost) (lost : Option ℕ) (r : Option Lost) → IsInput code g lines → Contains g.edges e → is_return e.kind ≡ false
    → list_any (λ b. b == e.to) g.blocks ≡ true → IsLostAlong code g lines m e lost → r ≡ better best e lost → (es : List Edge) → IsBestOf code g lines m es best → IsBestOf code g lines m (es ++ e ∷ []) r
better_best code g lines m e best lost r input among forward start along same es is loops =
    let l = leads_on code g e input.graph among forward in
    let p = program_of code g lines loops (mask_in m) in
    subst (λ x. IsBest p (blocks_of g lines) (es ++ e ∷ []) x) (sym same)
    (best_more p (blocks_of g lines) es e best lost (block_edge code g lines loops (mask_in m) e l.0 l.1 start) (is loops) (along loops))

pub return_best : (code : Code) (g : Flow) (lines : List FactLine) (m : Masks) (e : Edge) (best : Option Lost) → is_return e.kind ≡ true → (es : List Edge) → IsBestOf code g lines m es best → IsBestOf code g lines m (es ++ e ∷ []) best
return_best code g lines m e best back es is loops =
    let p = program_of code g lines loops (mask_in m) in
    kept_all p (blocks_of g lines) es e best (is loops) (return_keeps p (blocks_of g lines) e back)

pub same_best : (code : Code) (g : Flow) (lines : List FactLine) (m : Masks) (e : Edge) (best : Option Lost) → list_any (λ b. b == e.to) g.blocks ≡ false → (es : List Edge) → IsBestOf code g lines m es best → IsBestOf code g lines m (es ++ e ∷ []) best
same_best code g lines m e best none es is loops =
    best_skips (program_of code g lines loops (mask_in m)) (blocks_of g lines) es e best (no_start code g lines loops (mask_in m) e none) (is loops)

pub edge_among : (g : Flow) (k : ℕ) (e : Edge) → k < length g.edges → ((d : Edge) → get_or g.edges k d ≡ e) → Contains g.edges e
edge_among g k e within is = subst (λ x. Contains g.edges x) (is e) (Contains-get_or g.edges k e within)

pub more_best : (code : Code) (g : Flow) (lines : List FactLine) (m : Masks) (k : ℕ) (e : Edge) (best next : Option Lost) → k < length g.edges → ((d : Edge) → get_or g.edges k d ≡ e) → IsBestOf code g lines m (take k g.edges) best
    → ((es : List Edge) → IsBestOf code g lines m es best → IsBestOf code g lines m (es ++ e ∷ []) next) → IsBestOf code g lines m (take (k + 1) g.edges) next
more_best code g lines m k e best next within is before gone loops =
    let more : take (k + 1) g.edges ≡ take k g.edges ++ e ∷ [] = take_more g.edges k e within ∙ ap (λ (x : Edge). take k g.edges ++ x ∷ []) (is e) in
    subst (λ es. IsBest (program_of code g lines loops (mask_in m)) (blocks_of g lines) es next) (sym more) (gone (take k g.edges) before loops)

pub all_best : (code : Code) (g : Flow) (lines : List FactLine) (m : Masks) (k : ℕ) (best : Option Lost) → length g.edges ≤ k → IsBestOf code g lines m (take k g.edges) best → IsBestOf code g lines m g.edges best
all_best code g lines m k best all is loops = subst (λ es. IsBest (program_of code g lines loops (mask_in m)) (blocks_of g lines) es best) (take_all k g.edges all) (is loops)
