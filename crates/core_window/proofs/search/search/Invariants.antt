use Rattle.std.proofs.Common.{◌≡◌, take}
use Rattle.core_window.specs.Search.{AreSmall, found_in}
use Rattle.core_window.proofs.search.search.Given as goal

abbrev pub invariant-loop-j : goal.invariant-loop-j
invariant-loop-j l =
    record { found : l.found ≡ found_in (take l.j l.entries.items) l.state.mips l.names; small : AreSmall l.names l.found }
