-- The sub-tasks of cuts without a fault are what the bounds ask for.
use Rattle.std.proofs.Common.{◌≡◌, refl, sym, ap, subst, ◌∙◌, ℕ, suc, ◌+◌, ◌<◌, true, List, [], length, get_or, arith, ◌⊎◌, inl, inr}
use Rattle.std.specs.List.{Contains}
use Rattle.visa_io.specs.declared.records.Region.{Region}
use Rattle.flow_graph.specs.Edges.{edge_of}
use Rattle.flow_graph.specs.Flow.{Flow}
use Rattle.flow_graph.specs.declared.parts.Edge.{Edge}
use Rattle.flow_graph.specs.declared.parts.EdgeKind.{EdgeKind}
use Rattle.flow_graph.specs.declared.parts.EdgeKind.TheVariants.{Next, Taken, Call, Return, Over}
use Rattle.loop_regions.specs.Walks.{IsFirst}
use Rattle.subtask_cut.specs.Cuts.{AreSubTasks, SubTasks as Cutting}
use Rattle.subtask_cut.specs.Functions.{AreFunctions, AreOver, IsPlain}
use Rattle.subtask_cut.specs.Ordered.{ArePassed}
use Rattle.subtask_cut.specs.Ways.{is_onward, units_of}
use Rattle.subtask_cut.proofs.Order.{in_order}
use Rattle.subtask_cut.proofs.Passed.{passed, scope_begins, scope_goes}
use Rattle.remaining_wcet.specs.Known.{AreCuts}
use Rattle.remaining_wcet.specs.SubTasks.{SubTasks, first_of_sub}

onward : (k : EdgeKind) → IsPlain k ⊎ (k ≡ Call) → is_onward k ≡ true
onward Next p = refl
onward Taken p = refl
onward Call p = refl
onward Over p = refl
onward Return (inl p) = absurd p
onward Return (inr p) = absurd (let b : ⊥ = cc in b)

pub cutting : (g : Flow) (rs : List Region) (cuts : List ℕ) (s : Cutting) (t : SubTasks) → AreSubTasks g rs cuts s
    → AreFunctions g.edges (units_of g) g.entry → AreOver g.edges → t.flow.edges ≡ g.edges → t.firsts ≡ s.firsts
    → ((k : ℕ) → t.scope k ≡ get_or s.scopes k []) → AreCuts t (units_of g)
cutting g rs cuts s t are functions over edges firsts scopes = record {
  some = (let l = ap (λ (l : List ℕ). length l) (firsts ∙ are.firsts_are) in omega (arith, l));
  different = λ j k u f h. ps.different j k u f h;
  own = λ k u f h among. ps.own k u f h among;
  order = λ e es walk j u v f is h. in_order t.flow (units_of g) t.firsts
      (first_of_sub t 0) fs os ps e es walk j u v f is h;
  begins = λ k inside.
      subst (λ l. Contains l (get_or t.firsts k 0)) (sym (scopes k))
      (subst (λ (l : List ℕ). Contains (get_or s.scopes k []) (get_or l k 0)) (sym firsts)
      (scope_begins g rs cuts s are k (subst (λ (l : List ℕ). k < length l) firsts inside)));
  steps = λ k e among kind from last. goes k e (subst (λ l. Contains l e) edges among) (onward e.kind kind) from last;
  over = λ k e among call from last.
      goes k (edge_of e.from (e.from + 8) Over) (over e (subst (λ l. Contains l e) edges among) call) refl from last;
}
  where
    entry : g.entry ≡ first_of_sub t 0
    entry = sym (ap (λ (l : List ℕ). get_or l 0 0) (firsts ∙ are.firsts_are))

    fs : AreFunctions t.flow.edges (units_of g) (first_of_sub t 0)
    fs = subst (λ d. AreFunctions d (units_of g) (first_of_sub t 0)) (sym edges)
        (subst (AreFunctions g.edges (units_of g)) entry functions)

    os : AreOver t.flow.edges
    os = subst AreOver (sym edges) over

    ps : ArePassed t.flow.edges (units_of g) t.firsts (first_of_sub t 0)
    ps =
        subst (λ d. ArePassed d (units_of g) t.firsts (first_of_sub t 0)) (sym edges)
        (subst (λ l. ArePassed g.edges (units_of g) l (first_of_sub t 0)) (sym firsts)
        (subst (ArePassed g.edges (units_of g) s.firsts) entry (passed g rs cuts s are)))

    goes : (k : ℕ) (e : Edge) → Contains g.edges e → is_onward e.kind ≡ true → Contains (t.scope k) e.from
        → (IsFirst t.firsts (suc k) e.to → ⊥) → Contains (t.scope k) e.to
    goes k e among on from last =
        subst (λ l. Contains l e.to) (sym (scopes k))
        (scope_goes g rs cuts s are k e among on (subst (λ l. Contains l e.from) (scopes k) from)
        (λ next. last (subst (λ l. IsFirst l (suc k) e.to) (sym firsts) next)))
