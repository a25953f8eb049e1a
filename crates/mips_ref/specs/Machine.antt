-- How a machine's fields are a state.
use Rattle.std.specs.Prelude.{◌≤◌, reverse, vec_capacity}
use Rattle.mips_ref.specs.Decoded.{AreDecoded}
use Rattle.mips_ref.specs.Mips.{Held, IsState, Mips, greatest_depth}
use Rattle.mips_ref.specs.declared.state.State.TheInside.{Inside}

abbrev pub mips_of : Inside → Mips
mips_of s =
    record {
      registers = s.registers;
      hi = s.hi;
      lo = s.lo;
      pc = s.pc;
      next_pc = s.next_pc;
      memory = s.memory;
      returns = reverse s.returns.items;
      output = s.output.items;
      output_max = s.output_max;
    }

abbrev pub held_of : Inside → Held
held_of s = record { mips = mips_of s; computed = s.computed }

-- there is room for the whole return stack and the whole output, and what was decoded stands in memory
pub record IsHeld (s : Inside) : Type 0 where
  pub state : IsState (mips_of s)
  pub return_room : greatest_depth ≤ vec_capacity s.returns
  pub output_room : s.output_max ≤ vec_capacity s.output
  pub decoded : AreDecoded s.memory s.code.items
