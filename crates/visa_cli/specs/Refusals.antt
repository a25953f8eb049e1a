-- Why a task isn't admitted, as it is printed. This project's own.
use Rattle.std.specs.Prelude.{ℕ, List, ◌++◌, codes}
use Rattle.std.specs.Fmt.{decimal}
use Rattle.text_fields.specs.Numbers.{hex_text}
use Rattle.flow_graph.specs.declared.fault.FlowFault.{FlowFault}
use Rattle.flow_graph.specs.declared.fault.FlowFault.TheVariants as flow
use Rattle.loop_regions.specs.declared.fault.RegionFault.{RegionFault}
use Rattle.loop_regions.specs.declared.fault.RegionFault.TheVariants as region
use Rattle.bound_checker.specs.declared.fault.CountFault.{CountFault}
use Rattle.bound_checker.specs.declared.fault.CountFault.TheVariants as count
use Rattle.bound_checker.specs.declared.fault.FactFault.{FactFault}
use Rattle.bound_checker.specs.declared.fault.FactFault.TheVariants as fact
use Rattle.subtask_cut.specs.declared.fault.CutFault.{CutFault}
use Rattle.subtask_cut.specs.declared.fault.CutFault.TheVariants as cut
use Rattle.admission.specs.declared.refusal.Refusal.{Refusal}
use Rattle.admission.specs.declared.refusal.Refusal.TheVariants.{Flow, Region, Fact, Loop, Cut, Exceeds, Memory}

-- a name and an address; a name and a number; two addresses
abbrev pub named_at : List ℕ → ℕ → List ℕ
named_at name at = name ++ hex_text at

abbrev pub numbered : List ℕ → ℕ → List ℕ
numbered name n = name ++ decimal n

-- why code has no graph; want of memory has a status of its own, here as below
abbrev pub flow_text : FlowFault → List ℕ
flow_text (flow.Reserved at) = named_at (codes "flow reserved ") at
flow_text (flow.Indirect at) = named_at (codes "flow indirect ") at
flow_text (flow.LinkBranch at) = named_at (codes "flow link-branch ") at
flow_text (flow.SlotControl at) = named_at (codes "flow slot-control ") at
flow_text (flow.SlotTarget at) = named_at (codes "flow slot-target ") at
flow_text (flow.OffCode at) = named_at (codes "flow off-code ") at
flow_text (flow.Recursion at) = named_at (codes "flow recursion ") at
flow_text flow.Deep = codes "flow deep"
flow_text flow.Memory = codes "memory"

-- why regions don't nest
abbrev pub region_text : RegionFault → List ℕ
region_text (region.Crossing r) = numbered (codes "region ") r ++ codes " crossing"
region_text (region.SideEntry r from to) =
    numbered (codes "region ") r ++ (named_at (codes " side ") from ++ named_at (codes " ") to)
region_text (region.FreeCycle at) = named_at (codes "region free ") at
region_text region.Memory = codes "memory"

-- which fact isn't kept along which edge
abbrev pub fact_text : FactFault → List ℕ
fact_text (fact.NotHeld from to register) =
    named_at (codes "fact ") from ++ (named_at (codes " ") to ++ numbered (codes " ") register)
fact_text fact.Memory = codes "memory"

-- why the count of a region isn't proved
abbrev pub count_text : CountFault → List ℕ
count_text (count.NoStep r) = numbered (codes "loop ") r ++ codes " no-step"
count_text (count.OtherWrite r at) = numbered (codes "loop ") r ++ named_at (codes " other-write ") at
count_text (count.Wraps r at) = numbered (codes "loop ") r ++ named_at (codes " wraps ") at
count_text (count.TooFew r needed) = numbered (codes "loop ") r ++ numbered (codes " too-few ") needed

-- which rule a cut breaks
abbrev pub cut_text : CutFault → List ℕ
cut_text (cut.Slot i) = numbered (codes "cut ") i ++ codes " slot"
cut_text (cut.InCallee i) = numbered (codes "cut ") i ++ codes " in-callee"
cut_text (cut.InRegion i) = numbered (codes "cut ") i ++ codes " in-region"
cut_text (cut.Order i) = numbered (codes "cut ") i ++ codes " order"
cut_text (cut.Bypassed i) = numbered (codes "cut ") i ++ codes " bypassed"
cut_text cut.Memory = codes "memory"

unfoldable pub refusal_text : Refusal → List ℕ
refusal_text (Flow fault) = flow_text fault
refusal_text (Region fault) = region_text fault
refusal_text (Fact fault) = fact_text fault
refusal_text (Loop fault) = count_text fault
refusal_text (Cut fault) = cut_text fault
refusal_text (Exceeds needed deadline) = numbered (codes "exceeds ") needed ++ numbered (codes " ") deadline
refusal_text Memory = codes "memory"
