-- Which fault is told first.
use Rattle.std.proofs.Common.{ℕ, suc, ◌<◌, ◌≤◌, ◌≡◌, ◌⊎◌, inl, inr, refl, sym, subst, ◌∙◌, Option, Some, None, List, arith}
use Rattle.std.specs.Option.{option_or}
use Rattle.std.proofs.lemmas.Bool.{cases_eq}
use Rattle.visa_io.specs.declared.records.Code.{Code}
use Rattle.flow_graph.specs.Calls.{IsLeast}
use Rattle.flow_graph.specs.Flow.{Has, IsFirst, IsNoLater, address_of, rank}
use Rattle.flow_graph.specs.Own.{fault_of, first_fault_of, told_as}
use Rattle.flow_graph.specs.declared.fault.FlowFault.{FlowFault}
use Rattle.flow_graph.specs.declared.fault.FlowFault.TheVariants as fault
use Rattle.flow_graph.specs.declared.faults.Flaw.{Flaw}
use Rattle.flow_graph.specs.declared.faults.Flaw.TheVariants as flaw
use Rattle.flow_graph.specs.declared.places.Places.{Places}
use Rattle.flow_graph.proofs.Bridge.{addr}
use Rattle.flow_graph.proofs.Orders.{three}
use Rattle.flow_graph.proofs.Verdict.{IsScene, least_has}

pub flaw_rank : Flaw → ℕ
flaw_rank flaw.Reserved = 1
flaw_rank flaw.Indirect = 2
flaw_rank flaw.LinkBranch = 3
flaw_rank flaw.SlotControl = 4
flaw_rank flaw.SlotTarget = 5
flaw_rank flaw.OffCode = 6

-- all kinds up to a rank are told of nothing
unfoldable pub NoneUpto : Code → ℕ → ℕ → Type 0
NoneUpto code entry n = (other : FlowFault) → rank other ≤ n → Has code entry other → ⊥

pub no_memory : (code : Code) (entry : ℕ) → Has code entry fault.Memory → ⊥
unfolding Has
no_memory code entry h = h

none_start : (code : Code) (entry : ℕ) → NoneUpto code entry 0
unfolding NoneUpto flaw_rank
none_start code entry (fault.Reserved a) low h = omega (arith, low)
none_start code entry (fault.Indirect a) low h = omega (arith, low)
none_start code entry (fault.LinkBranch a) low h = omega (arith, low)
none_start code entry (fault.SlotControl a) low h = omega (arith, low)
none_start code entry (fault.SlotTarget a) low h = omega (arith, low)
none_start code entry (fault.OffCode a) low h = omega (arith, low)
none_start code entry (fault.Recursion a) low h = omega (arith, low)
none_start code entry fault.Deep low h = omega (arith, low)
none_start code entry fault.Memory low h = omega (arith, low)

-- what has the rank of a kind is of this kind
of_rank : (f : Flaw) (other : FlowFault) → rank other ≡ flaw_rank f → other ≡ fault_of f (address_of other)
unfolding flaw_rank
of_rank flaw.Reserved (fault.Reserved a) e = refl
of_rank flaw.Reserved (fault.Indirect a) e = absurd (omega (arith, e))
of_rank flaw.Reserved (fault.LinkBranch a) e = absurd (omega (arith, e))
of_rank flaw.Reserved (fault.SlotControl a) e = absurd (omega (arith, e))
of_rank flaw.Reserved (fault.SlotTarget a) e = absurd (omega (arith, e))
of_rank flaw.Reserved (fault.OffCode a) e = absurd (omega (arith, e))
of_rank flaw.Reserved (fault.Recursion a) e = absurd (omega (arith, e))
of_rank flaw.Reserved fault.Deep e = absurd (omega (arith, e))
of_rank flaw.Reserved fault.Memory e = absurd (omega (arith, e))
of_rank flaw.Indirect (fault.Reserved a) e = absurd (omega (arith, e))
of_rank flaw.Indirect (fault.Indirect a) e = refl
of_rank flaw.Indirect (fault.LinkBranch a) e = absurd (omega (arith, e))
of_rank flaw.Indirect (fault.SlotControl a) e = absurd (omega (arith, e))
of_rank flaw.Indirect (fault.SlotTarget a) e = absurd (omega (arith, e))
of_rank flaw.Indirect (fault.OffCode a) e = absurd (omega (arith, e))
of_rank flaw.Indirect (fault.Recursion a) e = absurd (omega (arith, e))
of_rank flaw.Indirect fault.Deep e = absurd (omega (arith, e))
of_rank flaw.Indirect fault.Memory e = absurd (omega (arith, e))
of_rank flaw.LinkBranch (fault.Reserved a) e = absurd (omega (arith, e))
of_rank flaw.LinkBranch (fault.Indirect a) e = absurd (omega (arith, e))
of_rank flaw.LinkBranch (fault.LinkBranch a) e = refl
of_rank flaw.LinkBranch (fault.SlotControl a) e = absurd (omega (arith, e))
of_rank flaw.LinkBranch (fault.SlotTarget a) e = absurd (omega (arith, e))
of_rank flaw.LinkBranch (fault.OffCode a) e = absurd (omega (arith, e))
of_rank flaw.LinkBranch (fault.Recursion a) e = absurd (omega (arith, e))
of_rank flaw.LinkBranch fault.Deep e = absurd (omega (arith, e))
of_rank flaw.LinkBranch fault.Memory e = absurd (omega (arith, e))
of_rank flaw.SlotControl (fault.Reserved a) e = absurd (omega (arith, e))
of_rank flaw.SlotControl (fault.Indirect a) e = absurd (omega (arith, e))
of_rank flaw.SlotControl (fault.LinkBranch a) e = absurd (omega (arith, e))
of_rank flaw.SlotControl (fault.SlotControl a) e = refl
of_rank flaw.SlotControl (fault.SlotTarget a) e = absurd (omega (arith, e))
of_rank flaw.SlotControl (fault.OffCode a) e = absurd (omega (arith, e))
of_rank flaw.SlotControl (fault.Recursion a) e = absurd (omega (arith, e))
of_rank flaw.SlotControl fault.Deep e = absurd (omega (arith, e))
of_rank flaw.SlotControl fault.Memory e = absurd (omega (arith, e))
of_rank flaw.SlotTarget (fault.Reserved a) e = absurd (omega (arith, e))
of_rank flaw.SlotTarget (fault.Indirect a) e = absurd (omega (arith, e))
of_rank flaw.SlotTarget (fault.LinkBranch a) e = absurd (omega (arith, e))
of_rank flaw.SlotTarget (fault.SlotControl a) e = absurd (omega (arith, e))
of_rank flaw.SlotTarget (fault.SlotTarget a) e = refl
of_rank flaw.SlotTarget (fault.OffCode a) e = absurd (omega (arith, e))
of_rank flaw.SlotTarget (fault.Recursion a) e = absurd (omega (arith, e))
of_rank flaw.SlotTarget fault.Deep e = absurd (omega (arith, e))
of_rank flaw.SlotTarget fault.Memory e = absurd (omega (arith, e))
of_rank flaw.OffCode (fault.Reserved a) e = absurd (omega (arith, e))
of_rank flaw.OffCode (fault.Indirect a) e = absurd (omega (arith, e))
of_rank flaw.OffCode (fault.LinkBranch a) e = absurd (omega (arith, e))
of_rank flaw.OffCode (fault.SlotControl a) e = absurd (omega (arith, e))
of_rank flaw.OffCode (fault.SlotTarget a) e = absurd (omega (arith, e))
of_rank flaw.OffCode (fault.OffCode a) e = refl
of_rank flaw.OffCode (fault.Recursion a) e = absurd (omega (arith, e))
of_rank flaw.OffCode fault.Deep e = absurd (omega (arith, e))
of_rank flaw.OffCode fault.Memory e = absurd (omega (arith, e))

none_next : (code : Code) (entry n : ℕ) (f : Flaw) → flaw_rank f ≡ suc n → IsLeast (λ a. Has code entry (fault_of f a)) None → NoneUpto code entry n → NoneUpto code entry (suc n)
unfolding NoneUpto flaw_rank
none_next code entry n f at none before other low h = elim (cases_eq (rank other) (suc n)) [
  | inl e ↦ none (address_of other) (subst (λ (x : FlowFault). Has code entry x) (of_rank f other (e ∙ sym at)) h)
  | inr less ↦ before other (omega (arith, low, less)) h
]

told_first : (code : Code) (entry n : ℕ) (f : Flaw) (a : ℕ) → flaw_rank f ≡ suc n → IsLeast (λ b. Has code entry (fault_of f b)) (Some a) → NoneUpto code entry n → IsFirst code entry (fault_of f a)
unfolding NoneUpto flaw_rank
told_first code entry n f a at least before = record {
  has = least.0;
  first = λ other h. first other h (three (rank other) (suc n));
}
  where
    own : (f : Flaw) (a : ℕ) → (rank (fault_of f a) ≡ flaw_rank f) × (address_of (fault_of f a) ≡ a)
    own flaw.Reserved a = (refl, refl)
    own flaw.Indirect a = (refl, refl)
    own flaw.LinkBranch a = (refl, refl)
    own flaw.SlotControl a = (refl, refl)
    own flaw.SlotTarget a = (refl, refl)
    own flaw.OffCode a = (refl, refl)

    first : (other : FlowFault) → Has code entry other → (rank other < suc n) ⊎ ((rank other ≡ suc n) ⊎ (suc n < rank other)) → IsNoLater (fault_of f a) other
    first other h (inl less) = absurd (before other (omega (arith, less)) h)
    first other h (inr (inl same)) =
        inr (omega (arith, (own f a).0, at, same), omega (arith, (own f a).1, least.1 (address_of other) (subst (λ (x : FlowFault). Has code entry x) (of_rank f other (same ∙ sym at)) h)))
    first other h (inr (inr more)) = inl (omega (arith, (own f a).0, at, more))

-- what is told of the first n kinds
pub data IsVerdict (code : Code) (entry n : ℕ) : Option FlowFault → Type 0 where
  Clean : NoneUpto code entry n → IsVerdict code entry n None
  Told : (f : FlowFault) → IsFirst code entry f → IsVerdict code entry n (Some f)

one_kind : (code : Code) (entry n : ℕ) (f : Flaw) (before : Option FlowFault) (o : Option ℕ) → flaw_rank f ≡ suc n → IsLeast (λ a. Has code entry (fault_of f a)) o → IsVerdict code entry n before → IsVerdict code entry (suc n) (option_or before (told_as f o))
one_kind code entry n f (Some g) o at least (Told h first) = Told g first
one_kind code entry n f None None at least (Clean none) = Clean (none_next code entry n f at least none)
one_kind code entry n f None (Some a) at least (Clean none) = Told (fault_of f a) (told_first code entry n f a at least none)

pub verdict : (code : Code) (p : Places) (start : ℕ) (reached at : List ℕ) → IsScene code p start reached at → IsVerdict code (addr p start) 6 (first_fault_of p.sites.items reached at)
unfolding flaw_rank
verdict code p start reached at s =
    one_kind code (addr p start) 5 flaw.OffCode _ _ refl (least_has code p start reached at s flaw.OffCode)
    (one_kind code (addr p start) 4 flaw.SlotTarget _ _ refl (least_has code p start reached at s flaw.SlotTarget)
    (one_kind code (addr p start) 3 flaw.SlotControl _ _ refl (least_has code p start reached at s flaw.SlotControl)
    (one_kind code (addr p start) 2 flaw.LinkBranch _ _ refl (least_has code p start reached at s flaw.LinkBranch)
    (one_kind code (addr p start) 1 flaw.Indirect _ _ refl (least_has code p start reached at s flaw.Indirect)
    (one_kind code (addr p start) 0 flaw.Reserved None _ refl (least_has code p start reached at s flaw.Reserved) (Clean (none_start code (addr p start))))))))
