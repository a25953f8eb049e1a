use Rattle.std.proofs.Common.{◌≡◌, take}
use Rattle.core_window.specs.Operands.{overlaid}
use Rattle.core_window.specs.Overlay.{lanes_of}
use Rattle.core_window.proofs.overlay.overlaid_lanes.Given as goal

abbrev pub invariant-loop-j : goal.invariant-loop-j
invariant-loop-j l = l.lanes ≡ lanes_of (overlaid (take l.j l.entries.items) l.memory) l.at
