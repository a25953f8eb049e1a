use Rattle.std.proofs.Common.{◌≡◌, take}
use Rattle.core_window.proofs.Happened.{Happened}
use Rattle.core_window.specs.Core.{paired}
use Rattle.core_window.proofs.window.Window.apply_all.Given as goal

abbrev pub invariant-loop-e : goal.invariant-loop-e
invariant-loop-e l =
    record {
      happened : Happened (paired l.initial.self l.initial.state.mips) (take l.e-index l.events) l.self l.state.mips;
      computed : l.state.computed ≡ l.initial.state.computed;
    }
