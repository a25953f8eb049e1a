-- The edges of a graph go into the starts of blocks, or on to the next address from a unit without a slot.
use Rattle.std.proofs.Common.{◌≡◌, refl, sym, ap, subst, ◌∙◌, ◌⊎◌, inl, inr, ℕ, zero, suc, ◌+◌, ◌<◌, true, false, List, [], ◌∷◌, length, get_or, eq-eqb, ne_eqb, arith}
use Rattle.std.specs.Prelude.{if◌then◌else◌, ◌==◌, map, Some}
use Rattle.std.specs.List.{Contains}
use Rattle.std.proofs.lemmas.Bool.{cases_Bool, cases_eq}
use Rattle.std.proofs.lemmas.List.{get_or_default}
use Rattle.visa_io.specs.declared.records.Code.{Code}
use Rattle.mips_isa.specs.Kinds.{is_control, kind_of}
use Rattle.mips_isa.specs.declared.instr.Instr.{Instr}
use Rattle.mips_isa.specs.declared.instr.Kind.{Kind}
use Rattle.mips_isa.specs.declared.instr.Kind.TheVariants as kind
use Rattle.flow_graph.specs.Code.{instr_at, is_control_at}
use Rattle.flow_graph.specs.Edges.{edge_of, edges_by, edges_of_kind}
use Rattle.flow_graph.specs.Faults.{edges_if}
use Rattle.flow_graph.specs.Flow.{Flow, IsGraph}
use Rattle.flow_graph.specs.Reached.{Leads, Reached, Returns}
use Rattle.flow_graph.specs.declared.parts.Edge.{Edge}
use Rattle.flow_graph.specs.declared.parts.EdgeKind.TheVariants.{Call, Next, Over}
use Rattle.cache_lru.specs.Recency.{is_among}
use Rattle.persistence.specs.Charges.{has_slot}
use Rattle.persistence.specs.Scopes.{FollowsBlocks}
use Rattle.cache_lru.proofs.Lines.{among_other}
use Rattle.persistence.proofs.Members.{among_at}
use Rattle.run_law.specs.Certificate.{AreBlocksOf, Blocked, Blocks}
use Rattle.run_law.specs.Program.{Flowing, IsGraphOf, Program}
use Rattle.run_law.proofs.Blocking.{blocked_of}
use Rattle.run_law.proofs.Calling.{call_among, none_of, one_of}
use Rattle.run_law.proofs.Coded.{control_there}
use Rattle.run_law.proofs.Flows.{flowing_of, own_of, unit_stands}

-- where a number stands in a list
abbrev index_in : List ℕ → ℕ → ℕ
index_in [] u = 0
index_in (x ∷ xs) u = if x == u then 0 else suc (index_in xs u)

index_here : (x : ℕ) (xs : List ℕ) (u : ℕ) → x ≡ u → index_in (x ∷ xs) u ≡ 0
index_here x xs u same = rw (eq-eqb x u same) refl

index_later : (x : ℕ) (xs : List ℕ) (u : ℕ) → (x ≡ u → ⊥) → index_in (x ∷ xs) u ≡ suc (index_in xs u)
index_later x xs u other = rw (ne_eqb x u other) refl

record IsIndexed (xs : List ℕ) (u : ℕ) : Type 0 where
  within : index_in xs u < length xs
  is : get_or xs (index_in xs u) 0 ≡ u

indexed_more : (x : ℕ) (xs : List ℕ) (u : ℕ) → (x ≡ u → ⊥) → IsIndexed xs u → IsIndexed (x ∷ xs) u
indexed_more x xs u other more = record {
  within = omega (arith, index_later x xs u other, more.within);
  is = ap (λ q. get_or (x ∷ xs) q 0) (index_later x xs u other) ∙ more.is;
}

indexed_first : (x : ℕ) (xs : List ℕ) (u : ℕ) → x ≡ u → IsIndexed (x ∷ xs) u
indexed_first x xs u same = record {
  within = omega (arith, index_here x xs u same);
  is = ap (λ q. get_or (x ∷ xs) q 0) (index_here x xs u same) ∙ same;
}

indexed_at : (xs : List ℕ) (u k : ℕ) → k < length xs → get_or xs k 0 ≡ u → IsIndexed xs u
indexed_at [] u k h e = absurd (omega (arith, h))
indexed_at (x ∷ xs) u zero h e = indexed_first x xs u e
indexed_at (x ∷ xs) u (suc k) h e = elim (cases_eq x u) [
  | inl same ↦ indexed_first x xs u same
  | inr other ↦ indexed_more x xs u other (indexed_at xs u k (omega (arith, h)) e)
]

among_of : (xs : List ℕ) (u : ℕ) → Contains xs u → is_among u xs ≡ true
among_of xs u h = among_at xs u h.0 h.1 (get_or_default xs h.0 0 u h.1 ∙ h.2)

contains_of : (xs : List ℕ) (u : ℕ) → is_among u xs ≡ true → Contains xs u
contains_of [] u h = cc
contains_of (x ∷ xs) u h = elim (cases_eq x u) [
  | inl same ↦ (0, omega arith, same)
  | inr other ↦ (let more = contains_of xs u (sym (among_other u x xs other) ∙ h) in (suc more.0, omega (arith, more.1), more.2))
]

-- the blocks of a graph, with the places of its units
abbrev blocks_in : Flow → Blocks
blocks_in g = record {
  units = map (λ unit. unit.at) g.units;
  index = index_in (map (λ unit. unit.at) g.units);
  starts = λ u. is_among u g.blocks;
  facts = λ u. record { ranges = [] };
}

blocks_are : (g : Flow) → AreBlocksOf g (blocks_in g)
blocks_are g = record {
  units = refl;
  index = λ u held. let i = indexed_at (map (λ unit. unit.at) g.units) u held.0 held.1 (get_or_default (map (λ unit. unit.at) g.units) held.0 0 u held.1 ∙ held.2) in (i.within, i.is);
  starts = λ u. (contains_of g.blocks u, among_of g.blocks u);
}

-- an instruction that is no control instruction leads on to the next address alone
next_alone : (i : Instr) (u : ℕ) (e : Edge) (k : Kind) → is_control k ≡ false → Contains (edges_of_kind k i u) e → e.to ≡ u + 4
next_alone i u e kind.Branch plain among = cc
next_alone i u e kind.Jump plain among = cc
next_alone i u e kind.Call plain among = cc
next_alone i u e kind.Return plain among = cc
next_alone i u e kind.Indirect plain among = cc
next_alone i u e kind.Stop plain among = absurd (none_of e among)
next_alone i u e kind.Plain plain among = ap (λ (d : Edge). d.to) (one_of (edge_of u (u + 4) Next) e among)
next_alone i u e kind.Mul plain among = ap (λ (d : Edge). d.to) (one_of (edge_of u (u + 4) Next) e among)
next_alone i u e kind.Div plain among = ap (λ (d : Edge). d.to) (one_of (edge_of u (u + 4) Next) e among)
next_alone i u e kind.Load plain among = ap (λ (d : Edge). d.to) (one_of (edge_of u (u + 4) Next) e among)
next_alone i u e kind.Store plain among = ap (λ (d : Edge). d.to) (one_of (edge_of u (u + 4) Next) e among)

among_edges : (code : Code) (i : Instr) (e : Edge) → instr_at code e.from ≡ Some i → Leads code e → Contains (edges_by i e.from) e
among_edges code i e stands leads = subst (λ es. Contains es e) (ap (λ o. edges_if o e.from) stands) (own_of code e leads).1

leads_joins : (p : Program) (g : Flow) → IsGraph p.code p.entry g → Flowing p → Blocked p (blocks_in g) → (e : Edge) → Reached p.code p.entry e.from → Leads p.code e
    → (is_among e.to g.blocks ≡ true) ⊎ ((p.graph.is_long e.from ≡ false) × (e.to ≡ e.from + 4))
unfolding edges_by
leads_joins p g is flows blocked e reached leads =
    let i = unit_stands p.code p.entry g e.from is reached in
    elim (cases_Bool (is_control_at p.code e.from)) [
      | inl control ↦ inl (blocked.ends e reached leads control)
      | inr plain ↦ (
          let no_control = sym (control_there p.code e.from i.0 i.1) ∙ plain in
          inr (flows.long e.from i.0 reached i.1 ∙ no_control, next_alone i.0 e.from e (kind_of i.0) no_control (among_edges p.code i.0 e i.1 leads)))
    ]

returns_join : (p : Program) (g : Flow) → IsGraph p.code p.entry g → Flowing p → Blocked p (blocks_in g) → (from to : ℕ) → Returns p.code p.entry from to → is_among to g.blocks ≡ true
returns_join p g is flows blocked from to r =
    let good = flows.good r.caller r.reached in
    let call = call_among good.instr r.caller r.function good.direct (among_edges p.code good.instr (edge_of r.caller r.function Call) good.stands r.calls) in
    let over = flows.leads r.caller good.instr (edge_of r.caller (r.caller + 8) Over) r.reached good.stands refl call.over in
    let starts = blocked.ends (edge_of r.caller (r.caller + 8) Over) r.reached over (control_there p.code r.caller good.instr good.stands ∙ call.control) in
    ap (λ a. is_among a g.blocks) r.point ∙ starts

pub graph_follows : (p : Program) (g : Flow) → IsGraph p.code p.entry g → IsGraphOf p g → ((u : ℕ) → p.graph.is_long u ≡ has_slot g u) → FollowsBlocks g p.graph
graph_follows p g is of slots =
    let flows = flowing_of p g is of in
    let blocked = blocked_of p g (blocks_in g) is (blocks_are g) in
    record {
      slots = slots;
      joins = λ e among.
          let edge = (is.edges_are e).0 (subst (λ es. Contains es e) of.edges among) in
          elim edge.joins [
            | inl leads ↦ leads_joins p g is flows blocked e edge.reached leads
            | inr back ↦ inl (returns_join p g is flows blocked e.from e.to back.1)
          ];
    }
