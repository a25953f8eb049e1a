-- A Call edge among those that an instruction decides is that of a call.
use Rattle.std.proofs.Common.{◌≡◌, ◌∙◌, refl, sym, ap, subst, ℕ, zero, suc, ◌+◌, Bool, true, false, [], ◌∷◌, arith, ◌⊎◌, inl, inr}
use Rattle.std.specs.Prelude.{Option, Some, None}
use Rattle.std.specs.List.{Contains}
use Rattle.mips_isa.specs.Kinds.{kind_of, is_control}
use Rattle.mips_isa.specs.declared.instr.Instr.{Instr}
use Rattle.mips_isa.specs.declared.instr.Kind.{Kind}
use Rattle.mips_isa.specs.declared.instr.Kind.TheVariants as kind
use Rattle.flow_graph.specs.Code.{is_control_instr}
use Rattle.mips_isa.specs.Prediction.{single_edge_of}
use Rattle.flow_graph.specs.Edges.{branch_edges, edge_of, edge_to, edges_by, edges_of_kind, target_of as named_target}
use Rattle.flow_graph.specs.declared.parts.Edge.{Edge}
use Rattle.flow_graph.specs.declared.parts.EdgeKind.{EdgeKind}
use Rattle.flow_graph.specs.declared.parts.EdgeKind.TheVariants.{Next, Taken, Call, Over}
use Rattle.run_law.specs.Instructions.{is_direct, target_of}
use Rattle.run_law.proofs.Acting.{control_of}
use Rattle.run_law.proofs.Leading.{call_has, over_leads, target_named}

pub none_of : (e : Edge) → Contains [] e → ⊥
none_of e (k, below, is) = omega arith

pub one_of : (a e : Edge) → Contains (a ∷ []) e → e ≡ a
one_of a e (zero, below, is) = sym is
one_of a e (suc k, below, is) = absurd (omega (arith, below))

pub two_of : (a b e : Edge) → Contains (a ∷ b ∷ []) e → (e ≡ a) ⊎ (e ≡ b)
two_of a b e (zero, below, is) = inl (sym is)
two_of a b e (suc zero, below, is) = inr (sym is)
two_of a b e (suc (suc k), below, is) = absurd (omega (arith, below))

pub record IsCallOf (i : Instr) (u g : ℕ) : Type 0 where
  pub control : is_control_instr i ≡ true
  pub over : Contains (edges_by i u) (edge_of u (u + 8) Over)
  pub target : named_target i u ≡ Some g

-- kinds of edges are different
abbrev kind_in : Edge → EdgeKind
kind_in e = e.kind

not_next : {P : Type 0} (u v g : ℕ) → edge_of u g Call ≡ edge_of u v Next → P
not_next u v g is = absurd (let clash : Call ≡ Next = ap kind_in is in cc)

not_taken : {P : Type 0} (u v g : ℕ) → edge_of u g Call ≡ edge_of u v Taken → P
not_taken u v g is = absurd (let clash : Call ≡ Taken = ap kind_in is in cc)

not_over : {P : Type 0} (u v g : ℕ) → edge_of u g Call ≡ edge_of u v Over → P
not_over u v g is = absurd (let clash : Call ≡ Over = ap kind_in is in cc)

no_jump : {P : Type 0} (u g : ℕ) (o : Option ℕ) → Contains (edge_to u Taken o) (edge_of u g Call) → P
no_jump u g None among = absurd (none_of (edge_of u g Call) among)
no_jump u g (Some t) among = not_taken u t g (one_of (edge_of u t Taken) (edge_of u g Call) among)

no_branch : {P : Type 0} (u g : ℕ) (lone : Option Bool) (o : Option ℕ)
    → Contains (branch_edges u lone (edge_to u Taken o)) (edge_of u g Call) → P
no_branch u g None None among = not_next u (u + 8) g (one_of (edge_of u (u + 8) Next) (edge_of u g Call) among)
no_branch {P} u g None (Some t) among = elim (two_of (edge_of u (u + 8) Next) (edge_of u t Taken) (edge_of u g Call) among) as (λ q. P) [
  | inl is ↦ not_next u (u + 8) g is
  | inr is ↦ not_taken u t g is
]
no_branch u g (Some true) o among = no_jump u g o among
no_branch u g (Some false) o among = not_next u (u + 8) g (one_of (edge_of u (u + 8) Next) (edge_of u g Call) among)

no_plain : {P : Type 0} (u g : ℕ) → Contains (edge_of u (u + 4) Next ∷ []) (edge_of u g Call) → P
no_plain u g among = not_next u (u + 4) g (one_of (edge_of u (u + 4) Next) (edge_of u g Call) among)

by_kind : (i : Instr) (u g : ℕ) (k : Kind) → is_direct i ≡ true → kind_of i ≡ k
    → Contains (edges_of_kind k i u) (edge_of u g Call) → IsCallOf i u g
unfolding edges_by
by_kind i u g kind.Call direct is among =
    let control = control_of i direct (ap is_control is) in
    let has = call_has i u control is in
    let there = subst (λ es. Contains es (edge_of u g Call)) (sym (ap (λ k. edges_of_kind k i u) is) ∙ has) among in
    let to : g ≡ target_of i u = elim (two_of (edge_of u (target_of i u) Call) (edge_of u (u + 8) Over) (edge_of u g Call) there) [ inl e ↦ ap (λ (d : Edge). d.to) e | inr e ↦ not_over u (u + 8) g e ] in
    record {
      control = ap is_control is;
      over = over_leads i u control is;
      target = target_named i u control (λ e. let clash : kind.Call ≡ kind.Return = sym is ∙ e in cc) ∙ ap Some (sym to);
    }
by_kind i u g kind.Branch direct is among = no_branch u g (single_edge_of i) (named_target i u) among
by_kind i u g kind.Jump direct is among = no_jump u g (named_target i u) among
by_kind i u g kind.Return direct is among = absurd (none_of (edge_of u g Call) among)
by_kind i u g kind.Indirect direct is among = absurd (none_of (edge_of u g Call) among)
by_kind i u g kind.Stop direct is among = absurd (none_of (edge_of u g Call) among)
by_kind i u g kind.Plain direct is among = no_plain u g among
by_kind i u g kind.Mul direct is among = no_plain u g among
by_kind i u g kind.Div direct is among = no_plain u g among
by_kind i u g kind.Load direct is among = no_plain u g among
by_kind i u g kind.Store direct is among = no_plain u g among

pub call_among : (i : Instr) (u g : ℕ) → is_direct i ≡ true → Contains (edges_by i u) (edge_of u g Call)
    → IsCallOf i u g
unfolding edges_by
call_among i u g direct among = by_kind i u g (kind_of i) direct refl among
