-- The facts at the end of an edge, from those before the unit that it leaves, as the unit is recorded. This project's own.
use Rattle.std.specs.Prelude.{◌+◌, Bool, true, false, if◌then◌else◌, Option, Some, None}
use Rattle.flow_graph.specs.Code.{is_control_instr}
use Rattle.flow_graph.specs.declared.parts.EdgeKind.{EdgeKind}
use Rattle.flow_graph.specs.declared.parts.EdgeKind.TheVariants.{Next, Taken, Call, Return, Over}
use Rattle.flow_graph.specs.declared.parts.Unit.{Unit as FlowUnit}
use Rattle.range_facts.specs.Along.{after_instr, refined_by}
use Rattle.range_facts.specs.declared.along.Along.{Along}
use Rattle.run_law.specs.Certificate.{behind}

abbrev pub behind_slot_of : FlowUnit → Along → Along
behind_slot_of unit a = behind unit.slot (unit.at + 4) a

abbrev pub behind_if : FlowUnit → Option Along → Option Along
behind_if unit None = None
behind_if unit (Some a) = Some (behind_slot_of unit a)

abbrev pub behind_first_of : FlowUnit → Along → Along
behind_first_of unit a = after_instr unit.first unit.at a

abbrev pub turned : FlowUnit → Bool → Along → Option Along
turned unit taken a =
    if is_control_instr unit.first then behind_if unit (refined_by unit.first taken a) else Some (behind_first_of unit a)

-- none of a return, and where no registers go along the edge
unfoldable pub end_of : FlowUnit → EdgeKind → Along → Option Along
end_of unit Next a = turned unit false a
end_of unit Taken a = turned unit true a
end_of unit Call a = Some (behind_slot_of unit (behind_first_of unit a))
end_of unit Over a = Some (behind_slot_of unit (behind_first_of unit a))
end_of unit Return a = None
