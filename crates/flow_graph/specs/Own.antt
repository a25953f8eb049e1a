-- The faults that units have by themselves, as the code looks for them.
use Rattle.std.specs.Prelude.{ℕ, zero, suc, ◌+◌, ◌^◌, min, Bool, true, false, ◌&&◌, nat_eq, nat_lt, if◌then◌else◌, Option, Some, None, List, length, slice_index}
use Rattle.std.specs.List.{list_any}
use Rattle.std.specs.Option.{option_or}
use Rattle.mips_isa.specs.declared.instr.Instr.{Instr}
use Rattle.flow_graph.specs.Code.{is_control_instr, passes}
use Rattle.flow_graph.specs.Faults.{is_indirect, is_link_branch}
use Rattle.flow_graph.specs.Sites.{site_of}
use Rattle.flow_graph.specs.declared.fault.FlowFault.{FlowFault}
use Rattle.flow_graph.specs.declared.fault.FlowFault.TheVariants as fault
use Rattle.flow_graph.specs.declared.faults.Flaw.{Flaw}
use Rattle.flow_graph.specs.declared.faults.Flaw.TheVariants as flaw
use Rattle.flow_graph.specs.declared.site.Site.{Site}
use Rattle.flow_graph.specs.declared.site.Slot.{Slot}
use Rattle.flow_graph.specs.declared.site.Slot.TheVariants as slot

abbrev pub fault_of : Flaw → ℕ → FlowFault
fault_of flaw.Reserved a = fault.Reserved a
fault_of flaw.Indirect a = fault.Indirect a
fault_of flaw.LinkBranch a = fault.LinkBranch a
fault_of flaw.SlotControl a = fault.SlotControl a
fault_of flaw.SlotTarget a = fault.SlotTarget a
fault_of flaw.OffCode a = fault.OffCode a

abbrev pub told_as : Flaw → Option ℕ → Option FlowFault
told_as f None = None
told_as f (Some a) = Some (fault_of f a)

abbrev pub at_if : ℕ → Bool → Option ℕ
at_if at test = if test then Some at else None

-- the address of a slot, below 2^32
abbrev pub slot_if : ℕ → Bool → Option ℕ
slot_if at test = if test then (if nat_lt (at + 4) (2 ^ 32) then Some (at + 4) else None) else None

abbrev pub is_reserved_slot : Slot → Bool
is_reserved_slot slot.Reserved = true
is_reserved_slot s = false

abbrev pub has_slot : Slot → Bool
has_slot slot.Absent = false
has_slot s = true

abbrev pub holds_control : Slot → Bool
holds_control (slot.Holds i) = is_control_instr i
holds_control s = false

abbrev pub reserved_by : Option Instr → Site → Option ℕ
reserved_by None site = Some site.at
reserved_by (Some i) site = slot_if site.at (is_reserved_slot site.slot)

abbrev pub reserved_of : Site → Option ℕ
reserved_of site = reserved_by site.first site

abbrev pub is_among : List ℕ → ℕ → Bool
is_among units a = list_any (λ b. nat_eq b a) units

-- where a site has a fault
abbrev pub told_of : List ℕ → Flaw → Site → Option ℕ
told_of units flaw.Reserved site = reserved_of site
told_of units flaw.Indirect site = at_if site.at (passes is_indirect site.first)
told_of units flaw.LinkBranch site = at_if site.at (passes is_link_branch site.first)
told_of units flaw.SlotControl site = slot_if site.at (holds_control site.slot)
told_of units flaw.SlotTarget site = slot_if site.at (has_slot site.slot && is_among units (site.at + 4))
told_of units flaw.OffCode site = at_if site.at site.leaves

abbrev pub lesser : Option ℕ → Option ℕ → Option ℕ
lesser None b = b
lesser (Some a) None = Some a
lesser (Some a) (Some b) = Some (min a b)

-- the least address of a fault at the first places
unfoldable pub least_upto : List Site → List ℕ → List ℕ → Flaw → ℕ → Option ℕ
least_upto sites places units f zero = None
least_upto sites places units f (suc n) = lesser (least_upto sites places units f n) (told_of units f (site_of sites (slice_index places n)))

abbrev pub least_of : List Site → List ℕ → List ℕ → Flaw → Option FlowFault
least_of sites places units f = told_as f (least_upto sites places units f (length places))

-- the first kind that there is
abbrev pub first_fault_of : List Site → List ℕ → List ℕ → Option FlowFault
first_fault_of sites places units =
    option_or (option_or (option_or (option_or (option_or
    (least_of sites places units flaw.Reserved)
    (least_of sites places units flaw.Indirect))
    (least_of sites places units flaw.LinkBranch))
    (least_of sites places units flaw.SlotControl))
    (least_of sites places units flaw.SlotTarget))
    (least_of sites places units flaw.OffCode)
