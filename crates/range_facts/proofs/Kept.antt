-- Facts stay facts.
use Rattle.std.proofs.Common.{◌≡◌, ◌∙◌, refl, sym, subst, ℕ, ◌<◌, Bool, true, false, cond, ltb, arith, inl, inr, Option, Some, None}
use Rattle.std.specs.Prelude.{◌&&◌, IfSome, slice_set, slice_index_or}
use Rattle.std.proofs.lemmas.Bool.{cases_eq, ltb-true}
use Rattle.std.proofs.lemmas.List.{get_or-set_other, get_or-set_same, length-set}
use Rattle.mips_isa.specs.Fits.{FieldsFit}
use Rattle.mips_isa.specs.Names.{reads_of, writes_of}
use Rattle.mips_isa.specs.Words.{word_sum}
use Rattle.mips_isa.specs.declared.instr.Instr.{Instr}
use Rattle.mips_isa.specs.declared.instr.Instr.TheVariants.{R3, Shift, Acc, HiLo, Count, Imm, Lui, Load, Store, Pref, Branch2, Branch1, Jump, Jr, Jalr, TrapIf, Stop, Sync}
use Rattle.mips_ref.proofs.Names.{IsName, writes_named}
use Rattle.mips_ref.specs.Act.{act_of}
use Rattle.range_facts.specs.Ranges.{IsFact, unknown}
use Rattle.range_facts.specs.Transfer.{AreFacts, all_constant, computed_fact, fact_of, is_computed, least_values, register_of, ruled_fact, transfer_of, value_fact, with_fact, written_fact}
use Rattle.range_facts.specs.declared.strided.Strided.{Strided}
use Rattle.range_facts.specs.declared.facts.Facts.{Facts}
use Rattle.range_facts.proofs.RuleLaws.{imm_is_fact, load_is_fact, r3_is_fact, shift_is_fact}
use Rattle.range_facts.proofs.Sets.{unknown_fact}
use Rattle.range_facts.proofs.Values.{word_fact_is}

value_is_fact : (o : Option ℕ) → IsFact (value_fact o)
value_is_fact None = unknown_fact
value_is_fact (Some v) = word_fact_is v

ruled_is_fact : (i : Instr) (at : ℕ) (f : Facts) → FieldsFit i → AreFacts f → IsFact (ruled_fact i at f)
unfolding ruled_fact
ruled_is_fact (R3 m rs rt rd) at f fits are = r3_is_fact m (fact_of f rs) (fact_of f rt) (are.each rs) (are.each rt)
ruled_is_fact (Shift m rt rd sa) at f fits are = shift_is_fact m sa (fact_of f rt) (are.each rt)
ruled_is_fact (Imm m rs rt imm) at f fits are = imm_is_fact m imm (fact_of f rs) fits.2 (are.each rs)
ruled_is_fact (Load m rs rt off) at f fits are = load_is_fact m
ruled_is_fact (Branch1 m rs off) at f fits are = word_fact_is (word_sum at 8)
ruled_is_fact (Jump m target) at f fits are = word_fact_is (word_sum at 8)
ruled_is_fact (Jalr rs rd) at f fits are = word_fact_is (word_sum at 8)
ruled_is_fact (Acc m rs rt) at f fits are = unknown_fact
ruled_is_fact (HiLo m rs rd) at f fits are = unknown_fact
ruled_is_fact (Count m rs rd) at f fits are = unknown_fact
ruled_is_fact (Lui rt imm) at f fits are = unknown_fact
ruled_is_fact (Store m rs rt off) at f fits are = unknown_fact
ruled_is_fact (Pref rs hint off) at f fits are = unknown_fact
ruled_is_fact (Branch2 m rs rt off) at f fits are = unknown_fact
ruled_is_fact (Jr rs) at f fits are = unknown_fact
ruled_is_fact (TrapIf m rs rt code) at f fits are = unknown_fact
ruled_is_fact (Stop m code) at f fits are = unknown_fact
ruled_is_fact (Sync stype) at f fits are = unknown_fact

pub written_is_fact : (i : Instr) (at : ℕ) (f : Facts) → FieldsFit i → AreFacts f → IsFact (written_fact i at f)
unfolding written_fact computed_fact
written_is_fact i at f fits are = by_rule (is_computed i && all_constant f (reads_of i))
  where
    by_rule : (b : Bool) → IsFact (cond b (value_fact (act_of i 0 0 (least_values i f)).write) (ruled_fact i at f))
    by_rule true = value_is_fact (act_of i 0 0 (least_values i f)).write
    by_rule false = ruled_is_fact i at f fits are

-- another fact for a register that isn't register 0
pub put_facts : (f : Facts) (r : ℕ) (s : Strided) → AreFacts f → r < 32 → 0 < r → IsFact s → AreFacts (with_fact f (Some r) s)
put_facts f r s are below some is =
    record {
      long = length-set f.ranges r s ∙ are.long;
      each = λ q. elim (cases_eq q r) [
        | inl same ↦ subst (λ k. IsFact (slice_index_or (slice_set f.ranges r s) k unknown)) (sym same)
            (subst (λ t. IsFact t) (sym (get_or-set_same f.ranges r s unknown (omega (arith, are.long, below)))) is)
        | inr other ↦ subst (λ t. IsFact t) (sym (get_or-set_other f.ranges r q s unknown other)) (are.each q)
      ];
      zero_is = get_or-set_other f.ranges r 0 s unknown (λ e. omega (arith, some, e)) ∙ are.zero_is;
    }

-- the register that an instruction writes
pub record IsWritten (r : ℕ) : Type 0 where
  pub some : 0 < r
  pub below : r < 32

named_register : (o : Option ℕ) (r : ℕ) → IfSome o IsName → register_of o ≡ Some r → IsWritten r
named_register None r named is = absurd (cc)
named_register (Some name) r named is = by_size (ltb name 32) refl is
  where
    by_size : (b : Bool) → ltb name 32 ≡ b → cond b (Some name) None ≡ Some r → IsWritten r
    by_size true small is =
        let same : name ≡ r = cc in
        record { some = subst (λ n. 0 < n) same named.0; below = subst (λ n. n < 32) same (ltb-true name 32 small) }
    by_size false small is = absurd (cc)

pub written_register : (i : Instr) (r : ℕ) → FieldsFit i → register_of (writes_of i) ≡ Some r → IsWritten r
written_register i r fits is = named_register (writes_of i) r (writes_named i fits) is

with_facts : (f : Facts) (o : Option ℕ) (s : Strided) → AreFacts f → ((r : ℕ) → o ≡ Some r → IsWritten r) → IsFact s → AreFacts (with_fact f o s)
with_facts f None s are written is = are
with_facts f (Some r) s are written is = let w = written r refl in put_facts f r s are w.below w.some is

pub transfer_keeps : (i : Instr) (at : ℕ) (f : Facts) → FieldsFit i → AreFacts f → AreFacts (transfer_of i at f)
unfolding transfer_of
transfer_keeps i at f fits are = with_facts f (register_of (writes_of i)) (written_fact i at f) are (λ r is. written_register i r fits is) (written_is_fact i at f fits are)

pub transfer_keeps_at : (i : Instr) (at : ℕ) (f g : Facts) → FieldsFit i → AreFacts f → g ≡ transfer_of i at f → AreFacts g
transfer_keeps_at i at f g fits are is = subst (λ h. AreFacts h) (sym is) (transfer_keeps i at f fits are)
