-- Masks that tell which registers functions may write.
use Rattle.std.proofs.Common.{inr, ℕ}
use Rattle.visa_io.specs.declared.records.Code.{Code}
use Rattle.flow_graph.specs.Reached.{CallsAt, IsFunction, IsUnitOf}
use Rattle.run_law.specs.Masks.{AreMasks, Enters, Itself, Through}
use Rattle.run_law.specs.Program.{Masked, Program}
use Rattle.run_law.proofs.Flows.{unit_reached}

-- what the function called enters, the caller enters
enters_more : (code : Code) (f u g h : ℕ) → IsUnitOf code f u → CallsAt code u g → Enters code g h → Enters code f h
enters_more code f u g _ member calls Itself = Through f u g Itself member calls
enters_more code f u g _ member calls (Through k v h enters inner called) = Through k v h (enters_more code f u g k member calls enters) inner called

pub masked_of : (p : Program) → AreMasks p.code p.entry p.mask → Masked p
masked_of p masks = record {
  written = λ f u at i r function member word stands writes low.
      (masks f r function low).1 (record { inside = f; enters = Itself; unit = u; member = member; at = at; word = word; instr = i; stands = stands; writes = writes });
  callee = λ f u g r function member calls low masked.
      let called : IsFunction p.code p.entry g = inr (record { caller = u; reached = unit_reached p.code p.entry f u function member; calls = calls }) in
      let write = (masks g r called low).0 masked in
      (masks f r function low).1 (record {
        inside = write.inside;
        enters = enters_more p.code f u g write.inside member calls write.enters;
        unit = write.unit;
        member = write.member;
        at = write.at;
        word = write.word;
        instr = write.instr;
        stands = write.stands;
        writes = write.writes;
      });
}
