use Rattle.persistence.proofs.Units.{long_found, long_not_found, long_past}
use Rattle.persistence.proofs.scope.has_slot.Goals as goal
use Rattle.persistence.proofs.scope.has_slot.Goals.{else-place-units-via-then-place-units+else-units-place, else-place-units-via-else-place-units}

pub returns-then-units-place : goal.returns-then-units-place
returns-then-units-place c = long_found c.args.units.now c.args.u c.place_of-place.result _ c.requires c.if-place-units.true c.if-units-place.true

pub returns-else-place-units : goal.returns-else-place-units
returns-else-place-units c =
    elim c.else-place-units.branch [
      | else-place-units-via-then-place-units+else-units-place w ↦ long_not_found c.args.units.now c.args.u c.place_of-place.result _ c.place_of-place.ensures (λ h. w.if-units-place.false) c.requires
      | else-place-units-via-else-place-units w ↦ long_past c.args.units.now c.args.u c.place_of-place.result c.place_of-place.ensures w.if-place-units.false
    ]
