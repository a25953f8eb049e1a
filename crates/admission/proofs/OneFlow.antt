-- Code has one graph with the blocks of a task, or one first fault of its flow.
use Rattle.std.proofs.Common.{◌≡◌, ◌∙◌, refl, sym, ap, ℕ, zero, suc, inl, inr, arith}
use Rattle.visa_io.specs.declared.records.Code.{Code}
use Rattle.task_text.specs.declared.task.Task.{Task}
use Rattle.flow_graph.specs.Flow.{Flow, Has, IsFirst, IsNoLater, address_of, rank}
use Rattle.flow_graph.specs.declared.fault.FlowFault.{FlowFault}
use Rattle.flow_graph.specs.declared.fault.FlowFault.TheVariants.{Reserved, Indirect, LinkBranch, SlotControl, SlotTarget, OffCode, Recursion, Deep, Memory}
use Rattle.flow_graph.proofs.Unique.{graph_one}
use Rattle.admission.specs.Found.{HasGraph}

-- the fault of a rank at an address
abbrev fault_by : ℕ → ℕ → FlowFault
fault_by zero a = Memory
fault_by (suc zero) a = Reserved a
fault_by (suc (suc zero)) a = Indirect a
fault_by (suc (suc (suc zero))) a = LinkBranch a
fault_by (suc (suc (suc (suc zero)))) a = SlotControl a
fault_by (suc (suc (suc (suc (suc zero))))) a = SlotTarget a
fault_by (suc (suc (suc (suc (suc (suc zero)))))) a = OffCode a
fault_by (suc (suc (suc (suc (suc (suc (suc zero))))))) a = Recursion a
fault_by (suc (suc (suc (suc (suc (suc (suc (suc n)))))))) a = Deep

by_rank : (code : Code) (entry : ℕ) (fault : FlowFault) → Has code entry fault → fault ≡ fault_by (rank fault) (address_of fault)
unfolding Has
by_rank code entry (Reserved a) h = refl
by_rank code entry (Indirect a) h = refl
by_rank code entry (LinkBranch a) h = refl
by_rank code entry (SlotControl a) h = refl
by_rank code entry (SlotTarget a) h = refl
by_rank code entry (OffCode a) h = refl
by_rank code entry (Recursion a) h = refl
by_rank code entry Deep h = refl
by_rank code entry Memory h = absurd h

record AreTied (one other : FlowFault) : Type 0 where
  rank_is : rank one ≡ rank other
  address : address_of one ≡ address_of other

tied : (one other : FlowFault) → IsNoLater one other → IsNoLater other one → AreTied one other
tied one other (inl less) (inl more) = absurd (omega (arith, less, more))
tied one other (inl less) (inr same) = absurd (let e = same.0 in omega (arith, less, e))
tied one other (inr same) (inl more) = absurd (let e = same.0 in omega (arith, more, e))
tied one other (inr same) (inr also) = record {
  rank_is = same.0;
  address = (let a = same.1 in let b = also.1 in omega (arith, a, b));
}

pub one_flow_fault : (code : Code) (entry : ℕ) (one other : FlowFault) → IsFirst code entry one → IsFirst code entry other → one ≡ other
one_flow_fault code entry one other first also =
    let t = tied one other (first.first other also.has) (also.first one first.has) in
    by_rank code entry one first.has ∙ ap (λ r. fault_by r (address_of one)) t.rank_is ∙ ap (fault_by (rank other)) t.address
    ∙ sym (by_rank code entry other also.has)

pub graph_has_no_fault : (t : Task) (code : Code) (entry : ℕ) (g : Flow) (fault : FlowFault) → HasGraph t code entry g → IsFirst code entry fault → ⊥
graph_has_no_fault t code entry g fault has first = has.graph.sound fault first.has

pub one_graph : (t : Task) (code : Code) (entry : ℕ) (g h : Flow) → HasGraph t code entry g → HasGraph t code entry h → g ≡ h
one_graph t code entry g h p q =
    graph_one code entry g h p.graph q.graph (λ a. (λ c. (q.blocks a).1 ((p.blocks a).0 c), λ c. (p.blocks a).1 ((q.blocks a).0 c)))
