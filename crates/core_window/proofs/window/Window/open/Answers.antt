use Rattle.std.proofs.Common.{refl}
use Rattle.core_window.proofs.Happened.{opens-beside}
use Rattle.core_window.proofs.window.Window.open.Goals as goal

pub returns-clause-stands : goal.returns-clause-stands
returns-clause-stands c =
    opens-beside _ c.args.state.now.mips c.clear.ensures.items c.pc-self-inside.ensures c.next_pc-self-inside.ensures refl c.memory.ensures.state
    c.memory.ensures.laid_out
