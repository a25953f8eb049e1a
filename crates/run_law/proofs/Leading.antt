-- The edge of the graph along which a step goes.
use Rattle.std.proofs.Common.{◌≡◌, ◌≢◌, ◌∙◌, refl, sym, ap, subst, ℕ, ◌+◌, Bool, true, false, List, [], ◌∷◌, arith}
use Rattle.std.specs.Prelude.{◌==◌, if◌then◌else◌, Option, Some, None}
use Rattle.std.specs.List.{Contains}
use Rattle.mips_isa.specs.Kinds.{kind_of, is_control, acc_kind, branch_kind, r3_kind}
use Rattle.mips_isa.specs.declared.instr.Instr.{Instr}
use Rattle.mips_isa.specs.declared.instr.Instr.TheVariants.{R3, Shift, Acc, HiLo, Count, Imm, Lui, Load, Store, Pref, Branch2, Branch1, Jump, Jr, Jalr, TrapIf, Stop, Sync}
use Rattle.mips_isa.specs.declared.instr.AccOp.{AccOp}
use Rattle.mips_isa.specs.declared.instr.AccOp.TheVariants.{Div, Divu}
use Rattle.mips_isa.specs.declared.instr.R3Op.{R3Op}
use Rattle.mips_isa.specs.declared.instr.R3Op.TheVariants.{Mul}
use Rattle.mips_isa.specs.declared.instr.Branch1Op.{Branch1Op}
use Rattle.mips_isa.specs.declared.instr.Branch1Op.TheVariants.{Blez, Bgtz, Bltz, Bgez, Bltzal, Bgezal}
use Rattle.mips_isa.specs.declared.instr.JumpOp.TheVariants.{J, Jal}
use Rattle.mips_isa.specs.declared.instr.Kind.{Kind}
use Rattle.mips_isa.specs.declared.instr.Kind.TheVariants as kind
use Rattle.mips_ref.specs.Act.{act_of}
use Rattle.mips_ref.specs.Mips.{Mips, register_of}
use Rattle.mips_ref.specs.Step.{acted, access_trap, parts_of, retired_of, trap_of}
use Rattle.mips_ref.proofs.Next.{first-none}
use Rattle.mips_isa.specs.Prediction.{single_edge_of}
use Rattle.mips_ref.proofs.OneWay.{one_way}
use Rattle.flow_graph.specs.Edges.{branch_edges, call_edges, edge_of, edge_to, edges_by, edges_of_kind, target_of as named_target}
use Rattle.flow_graph.specs.declared.parts.Edge.{Edge}
use Rattle.flow_graph.specs.declared.parts.EdgeKind.TheVariants.{Next, Taken, Call, Over}
use Rattle.run_law.specs.Instructions.{target_of}
use Rattle.run_law.proofs.Acting.{Control, Compares, Tests, Jumps, Calls, LinksOn, GoesBack}

pub first_of_list : (e : Edge) (es : List Edge) → Contains (e ∷ es) e
first_of_list e es = (0, omega arith, refl)

pub second_of_list : (e f : Edge) (es : List Edge) → Contains (e ∷ f ∷ es) f
second_of_list e f es = (1, omega arith, refl)

-- syscall and break never go
r3_no_stop : (m : R3Op) → r3_kind m ≡ kind.Stop → ⊥
r3_no_stop Mul is = cc
r3_no_stop m is = cc

acc_no_stop : (m : AccOp) → acc_kind m ≡ kind.Stop → ⊥
acc_no_stop Div is = cc
acc_no_stop Divu is = cc
acc_no_stop m is = cc

branch_no_stop : (m : Branch1Op) (rs : ℕ) → branch_kind m rs ≡ kind.Stop → ⊥
branch_no_stop Bgezal rs is = by_test (rs == 0) is
  where
    by_test : (b : Bool) → (if b then kind.Call else kind.Branch) ≡ kind.Stop → ⊥
    by_test true is = cc
    by_test false is = cc
branch_no_stop m rs is = cc

return_no_stop : (b : Bool) → (if b then kind.Return else kind.Indirect) ≡ kind.Stop → ⊥
return_no_stop true is = cc
return_no_stop false is = cc

pub stop_traps : (i : Instr) (x : Mips) → kind_of i ≡ kind.Stop → trap_of i x ≡ None → ⊥
unfolding kind_of trap_of act_of
stop_traps (R3 m rs rt rd) x is none = r3_no_stop m is
stop_traps (Shift m rt rd sa) x is none = cc
stop_traps (Acc m rs rt) x is none = acc_no_stop m is
stop_traps (HiLo m rs rd) x is none = cc
stop_traps (Count m rs rd) x is none = cc
stop_traps (Imm m rs rt imm) x is none = cc
stop_traps (Lui rt imm) x is none = cc
stop_traps (Load m rs rt off) x is none = cc
stop_traps (Store m rs rt off) x is none = cc
stop_traps (Pref rs hint off) x is none = cc
stop_traps (Branch2 m rs rt off) x is none = cc
stop_traps (Branch1 m rs off) x is none = branch_no_stop m rs is
stop_traps (Jump J target) x is none = cc
stop_traps (Jump Jal target) x is none = cc
stop_traps (Jr rs) x is none = return_no_stop (rs == 31) is
stop_traps (Jalr rs rd) x is none = cc
stop_traps (TrapIf m rs rt code) x is none = cc
stop_traps (Stop m code) x is none = let e = first-none (acted (Stop m code) x).trap (access_trap x.memory (Stop m code) (acted (Stop m code) x).at) none in cc
stop_traps (Sync stype) x is none = cc

-- an instruction that isn't control
plain_edges : (k : Kind) (i : Instr) (u : ℕ) → is_control k ≡ false → k ≢ kind.Stop
    → edges_of_kind k i u ≡ edge_of u (u + 4) Next ∷ []
plain_edges kind.Plain i u plain other = refl
plain_edges kind.Mul i u plain other = refl
plain_edges kind.Div i u plain other = refl
plain_edges kind.Load i u plain other = refl
plain_edges kind.Store i u plain other = refl
plain_edges kind.Stop i u plain other = absurd (other refl)
plain_edges kind.Branch i u plain other = cc
plain_edges kind.Jump i u plain other = cc
plain_edges kind.Call i u plain other = cc
plain_edges kind.Return i u plain other = cc
plain_edges kind.Indirect i u plain other = cc

pub plain_leads : (i : Instr) (u : ℕ) → is_control (kind_of i) ≡ false → kind_of i ≢ kind.Stop
    → Contains (edges_by i u) (edge_of u (u + 4) Next)
unfolding edges_by
plain_leads i u plain other = subst (λ es. Contains es (edge_of u (u + 4) Next)) (sym (plain_edges (kind_of i) i u plain other)) (first_of_list (edge_of u (u + 4) Next) [])

-- the target that a control instruction but a return names
pub target_named : (i : Instr) (u : ℕ) → Control i → kind_of i ≢ kind.Return → named_target i u ≡ Some (target_of i u)
unfolding named_target target_of kind_of
target_named _ u (Compares m rs rt off) other = refl
target_named _ u (Tests m rs off no_link) other = refl
target_named _ u (Jumps target) other = refl
target_named _ u (Calls target) other = refl
target_named _ u (LinksOn off) other = refl
target_named _ u GoesBack other = absurd (other refl)

-- a branch that can go one way alone goes it
pub one_way_is : (i : Instr) (x : Mips) (b : Bool) → register_of x 0 ≡ 0 → single_edge_of i ≡ Some b → (retired_of i x).taken ≡ b
unfolding retired_of parts_of
one_way_is i x b zero is = one_way i x b zero is

-- a branch, taken or not
abbrev pub branch_edge : ℕ → ℕ → Bool → Edge
branch_edge u target true = edge_of u target Taken
branch_edge u target false = edge_of u (u + 8) Next

among : (lone : Option Bool) (u target : ℕ) (taken : Bool) → ((b : Bool) → lone ≡ Some b → taken ≡ b)
    → Contains (branch_edges u lone (edge_of u target Taken ∷ [])) (branch_edge u target taken)
among None u target true is = second_of_list (edge_of u (u + 8) Next) (edge_of u target Taken) []
among None u target false is = first_of_list (edge_of u (u + 8) Next) (edge_of u target Taken ∷ [])
among (Some true) u target true is = first_of_list (edge_of u target Taken) []
among (Some true) u target false is = let e = is true refl in cc
among (Some false) u target true is = let e = is false refl in cc
among (Some false) u target false is = first_of_list (edge_of u (u + 8) Next) []

pub branch_leads : (i : Instr) (x : Mips) (u : ℕ) → Control i → register_of x 0 ≡ 0 → kind_of i ≡ kind.Branch
    → Contains (edges_by i u) (branch_edge u (target_of i u) (retired_of i x).taken)
unfolding edges_by
branch_leads i x u control zero is =
    let named = target_named i u control (λ e. let clash : kind.Branch ≡ kind.Return = sym is ∙ e in cc) in
    let edges : edges_of_kind (kind_of i) i u ≡ branch_edges u (single_edge_of i) (edge_of u (target_of i u) Taken ∷ []) = ap (λ k. edges_of_kind k i u) is ∙ ap (λ o. branch_edges u (single_edge_of i) (edge_to u Taken o)) named in
    subst (λ es. Contains es (branch_edge u (target_of i u) (retired_of i x).taken)) (sym edges) (among (single_edge_of i) u (target_of i u) (retired_of i x).taken (λ b e. one_way_is i x b zero e))

pub jump_leads : (i : Instr) (u : ℕ) → Control i → kind_of i ≡ kind.Jump
    → Contains (edges_by i u) (edge_of u (target_of i u) Taken)
unfolding edges_by
jump_leads i u control is =
    let named = target_named i u control (λ e. let clash : kind.Jump ≡ kind.Return = sym is ∙ e in cc) in
    let edges : edges_of_kind (kind_of i) i u ≡ edge_of u (target_of i u) Taken ∷ [] = ap (λ k. edges_of_kind k i u) is ∙ ap (λ o. edge_to u Taken o) named in
    subst (λ es. Contains es (edge_of u (target_of i u) Taken)) (sym edges) (first_of_list (edge_of u (target_of i u) Taken) [])

pub call_has : (i : Instr) (u : ℕ) → Control i → kind_of i ≡ kind.Call
    → edges_by i u ≡ edge_of u (target_of i u) Call ∷ edge_of u (u + 8) Over ∷ []
unfolding edges_by
call_has i u control is =
    let named = target_named i u control (λ e. let clash : kind.Call ≡ kind.Return = sym is ∙ e in cc) in
    ap (λ k. edges_of_kind k i u) is ∙ ap (λ o. call_edges u o) named

pub call_leads : (i : Instr) (u : ℕ) → Control i → kind_of i ≡ kind.Call
    → Contains (edges_by i u) (edge_of u (target_of i u) Call)
call_leads i u control is = subst (λ es. Contains es (edge_of u (target_of i u) Call)) (sym (call_has i u control is)) (first_of_list (edge_of u (target_of i u) Call) (edge_of u (u + 8) Over ∷ []))

pub over_leads : (i : Instr) (u : ℕ) → Control i → kind_of i ≡ kind.Call
    → Contains (edges_by i u) (edge_of u (u + 8) Over)
over_leads i u control is = subst (λ es. Contains es (edge_of u (u + 8) Over)) (sym (call_has i u control is)) (second_of_list (edge_of u (target_of i u) Call) (edge_of u (u + 8) Over) [])

-- no other kind decides what comes next
pub no_indirect : (i : Instr) → Control i → kind_of i ≡ kind.Indirect → ⊥
unfolding kind_of
no_indirect _ (Compares m rs rt off) is = cc
no_indirect _ (Tests Blez rs off no_link) is = cc
no_indirect _ (Tests Bgtz rs off no_link) is = cc
no_indirect _ (Tests Bltz rs off no_link) is = cc
no_indirect _ (Tests Bgez rs off no_link) is = cc
no_indirect _ (Tests Bltzal rs off no_link) is = cc
no_indirect _ (Tests Bgezal rs off no_link) is = cc
no_indirect _ (Jumps target) is = cc
no_indirect _ (Calls target) is = cc
no_indirect _ (LinksOn off) is = cc
no_indirect _ GoesBack is = cc
