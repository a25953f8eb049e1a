-- The graph along which walks go is that of the code.
use Rattle.std.proofs.Common.{◌≡◌, ◌∙◌, refl, sym, ap, subst, ℕ, zero, suc, Bool, true, false, List, [], ◌∷◌, arith}
use Rattle.std.specs.Prelude.{◌==◌, ◌&&◌, ◌||◌}
use Rattle.std.specs.List.{Contains, list_any}
use Rattle.std.proofs.lemmas.Bool.{and_parts, eqb-true}
use Rattle.visa_io.specs.declared.records.Code.{Code}
use Rattle.visa_io.specs.declared.records.Region.{Region}
use Rattle.flow_graph.specs.Code.{instr_at, is_control_instr}
use Rattle.flow_graph.specs.Flow.{Flow, HasShape, IsGraph, IsUnit}
use Rattle.flow_graph.specs.Reached.{Reached}
use Rattle.flow_graph.specs.declared.parts.Unit.{Unit as FlowUnit}
use Rattle.loop_regions.specs.Walks.{LoopGraph}
use Rattle.loop_regions.proofs.Visits.{same_number}
use Rattle.run_law.specs.Loops.{loops_of}
use Rattle.run_law.specs.Program.{IsGraphOf, Program}
use Rattle.run_law.proofs.Coded.{same_instr}

-- a test that holds of some member
holds_of : (test : FlowUnit → Bool) (xs : List FlowUnit) (x : FlowUnit) → Contains xs x → test x ≡ true
    → list_any test xs ≡ true
holds_of test [] x (k, below, is) holds = absurd (omega (arith, below))
holds_of test (y ∷ ys) x (zero, below, is) holds = ap (λ b. b || list_any test ys) (ap test is ∙ holds)
holds_of test (y ∷ ys) x (suc k, below, is) holds = ap (λ b. test y || b) (holds_of test ys x (k, omega (arith, below), is) holds) ∙ or_true (test y)
  where
    or_true : (b : Bool) → (b || true) ≡ true
    or_true true = refl
    or_true false = refl

member_of : (test : FlowUnit → Bool) (xs : List FlowUnit) → list_any test xs ≡ true
    → (x : FlowUnit) × Contains xs x × (test x ≡ true)
member_of test [] is = cc
member_of test (y ∷ ys) is = by_test (λ later. member_of test ys later) (test y) refl is
  where
    by_test : (list_any test ys ≡ true → (x : FlowUnit) × Contains ys x × (test x ≡ true)) → (b : Bool) → test y ≡ b
        → (b || list_any test ys) ≡ true → (x : FlowUnit) × Contains (y ∷ ys) x × (test x ≡ true)
    by_test next true here there = (y, (0, omega arith, refl), here)
    by_test next false here there = let more = next there in (more.0, (suc more.1.0, omega (arith, more.1.1), more.1.2), more.2)

-- units at one address are alike
length_by : (code : Code) (x y : FlowUnit) (b c : Bool) → b ≡ c → HasShape code x b → HasShape code y c
    → x.length ≡ y.length
length_by code x y true true same p q = p.1 ∙ sym q.1
length_by code x y false false same p q = p.1 ∙ sym q.1
length_by code x y true false same p q = cc
length_by code x y false true same p q = cc

same_length : (code : Code) (entry : ℕ) (x y : FlowUnit) → IsUnit code entry x → IsUnit code entry y → x.at ≡ y.at
    → x.length ≡ y.length
same_length code entry x y p q same =
    let first : x.first ≡ y.first = same_instr code x.at x.first y.first p.first (ap (instr_at code) same ∙ q.first) in
    length_by code x y (is_control_instr x.first) (is_control_instr y.first) (ap is_control_instr first) p.shape q.shape

long_at : (p : Program) (g : Flow) → IsGraph p.code p.entry g → (unit : FlowUnit) → Contains g.units unit
    → list_any (λ u. (u.at == unit.at) && (u.length == 8)) g.units ≡ (unit.length == 8)
long_at p g is unit among = by_length (unit.length == 8) refl
  where
    by_any : (b : Bool) → list_any (λ u. (u.at == unit.at) && (u.length == 8)) g.units ≡ b
        → (unit.length == 8) ≡ false → b ≡ false
    by_any false any short = refl
    by_any true any short =
        let member = member_of (λ u. (u.at == unit.at) && (u.length == 8)) g.units any in
        let other : FlowUnit = member.0 in
        let both = and_parts (other.at == unit.at) (other.length == 8) member.2 in
        let same = same_length p.code p.entry other unit ((is.units_are other).0 member.1) ((is.units_are unit).0 among) (eqb-true other.at unit.at both.0) in
        absurd (let clash : true ≡ false = sym both.1 ∙ ap (λ n. n == 8) same ∙ short in cc)

    by_length : (b : Bool) → (unit.length == 8) ≡ b → list_any (λ u. (u.at == unit.at) && (u.length == 8)) g.units ≡ b
    by_length true is_long = holds_of (λ u. (u.at == unit.at) && (u.length == 8)) g.units unit among (ap (λ b. b && (unit.length == 8)) (same_number unit.at) ∙ is_long)
    by_length false short = by_any (list_any (λ u. (u.at == unit.at) && (u.length == 8)) g.units) refl short

pub graph_of : (p : Program) (g : Flow) (regions : List Region) → IsGraph p.code p.entry g
    → p.graph ≡ loops_of g regions → IsGraphOf p g
graph_of p g regions is same = record {
  edges = ap (λ (l : LoopGraph). l.edges) same;
  long = λ unit among. ap (λ (l : LoopGraph). l.is_long unit.at) same ∙ long_at p g is unit among;
}

-- no address but a unit's is long
pub long_units : (p : Program) (g : Flow) (regions : List Region) → IsGraph p.code p.entry g
    → p.graph ≡ loops_of g regions → (u : ℕ) → p.graph.is_long u ≡ true → Reached p.code p.entry u
long_units p g regions is same u long =
    let member = member_of (λ unit. (unit.at == u) && (unit.length == 8)) g.units (sym (ap (λ (l : LoopGraph). l.is_long u) same) ∙ long) in
    let unit : FlowUnit = member.0 in
    let both = and_parts (unit.at == u) (unit.length == 8) member.2 in
    subst (λ v. Reached p.code p.entry v) (eqb-true unit.at u both.0) ((is.units_are unit).0 member.1).reached
