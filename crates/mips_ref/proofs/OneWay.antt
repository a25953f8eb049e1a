-- A branch that can go one way alone goes it.
use Rattle.std.proofs.Common.{◌≡◌, Bool, true, false, cond, eqb, Some, None, refl, ap, ◌∙◌}
use Rattle.std.specs.Prelude.{not}
use Rattle.std.proofs.lemmas.Bool.{eqb-true, eq-eqb}
use Rattle.mips_isa.specs.Prediction.{single_edge_of, single_edge1, single_edge2}
use Rattle.mips_isa.specs.declared.instr.Branch1Op.{Branch1Op}
use Rattle.mips_isa.specs.declared.instr.Branch1Op.TheVariants.{Blez, Bgtz, Bltz, Bgez, Bltzal, Bgezal}
use Rattle.mips_isa.specs.declared.instr.Branch2Op.{Branch2Op}
use Rattle.mips_isa.specs.declared.instr.Branch2Op.TheVariants.{Beq, Bne}
use Rattle.mips_isa.specs.declared.instr.Instr.{Instr}
use Rattle.mips_isa.specs.declared.instr.Instr.TheVariants.{R3, Shift, Acc, HiLo, Count, Imm, Lui, Load, Store, Pref, Branch2, Branch1, Jump, Jr, Jalr, TrapIf, Stop, Sync}
use Rattle.mips_ref.specs.Act.{act_of, branch1_taken, branch2_taken}
use Rattle.mips_ref.specs.Mips.{Mips, register_of}
use Rattle.mips_ref.specs.Step.{acted, operands_of, values_of}
use Rattle.mips_ref.specs.declared.records.Values.{Values}

chosen : (b way : Bool) (t : Bool) → cond b (Some way) None ≡ Some t → (b ≡ true) × (way ≡ t)
chosen true way t e = (refl, cc)
chosen false way t e = cc

one_way2 : (m : Branch2Op) (v : Values) (same t : Bool) → (same ≡ true → v.rs ≡ v.rt) → single_edge2 m same ≡ Some t → branch2_taken m v ≡ t
unfolding branch2_taken
one_way2 Beq v same t is e = let c = chosen same true t e in eq-eqb v.rs v.rt (is c.0) ∙ c.1
one_way2 Bne v same t is e = let c = chosen same false t e in ap not (eq-eqb v.rs v.rt (is c.0)) ∙ c.1

one_way1 : (m : Branch1Op) (v : Values) (zero t : Bool) → (zero ≡ true → v.rs ≡ 0) → single_edge1 m zero ≡ Some t → branch1_taken m v ≡ t
unfolding branch1_taken
one_way1 Blez v zero t is e = let c = chosen zero true t e in rw (is c.0) c.1
one_way1 Bgez v zero t is e = let c = chosen zero true t e in rw (is c.0) c.1
one_way1 Bltz v zero t is e = let c = chosen zero false t e in rw (is c.0) c.1
one_way1 Bgtz v zero t is e = let c = chosen zero false t e in rw (is c.0) c.1
one_way1 Bltzal v zero t is e = cc
one_way1 Bgezal v zero t is e = cc

-- register 0 reads zero
pub one_way : (i : Instr) (x : Mips) (t : Bool) → register_of x 0 ≡ 0 → single_edge_of i ≡ Some t → (acted i x).taken ≡ t
unfolding single_edge_of act_of values_of operands_of
one_way (Branch2 m rs rt off) x t reads e =
    one_way2 m (values_of (Branch2 m rs rt off) x) (eqb rs rt) t (λ s. ap (register_of x) (eqb-true rs rt s)) e
one_way (Branch1 m rs off) x t reads e =
    one_way1 m (values_of (Branch1 m rs off) x) (eqb rs 0) t (λ s. ap (register_of x) (eqb-true rs 0 s) ∙ reads) e
one_way (R3 m rs rt rd) x t reads e = cc
one_way (Shift m rt rd sa) x t reads e = cc
one_way (Acc m rs rt) x t reads e = cc
one_way (HiLo m rs rd) x t reads e = cc
one_way (Count m rs rd) x t reads e = cc
one_way (Imm m rs rt imm) x t reads e = cc
one_way (Lui rt imm) x t reads e = cc
one_way (Load m rs rt off) x t reads e = cc
one_way (Store m rs rt off) x t reads e = cc
one_way (Pref rs hint off) x t reads e = cc
one_way (Jump m target) x t reads e = cc
one_way (Jr rs) x t reads e = cc
one_way (Jalr rs rd) x t reads e = cc
one_way (TrapIf m rs rt code) x t reads e = cc
one_way (Stop m code) x t reads e = cc
one_way (Sync stype) x t reads e = cc
