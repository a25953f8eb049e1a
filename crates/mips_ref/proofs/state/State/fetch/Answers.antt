use Rattle.std.proofs.Common.{ap, subst, ap₂}
use Rattle.mips_ref.proofs.Lines.{line_is}
use Rattle.mips_ref.specs.Decoded.{HasLine, IsInstrAt}
use Rattle.mips_ref.specs.Mips.{Held}
use Rattle.mips_ref.proofs.state.State.fetch.Goals as goal

pub returns-in-Some-clause-some : goal.returns-in-Some-clause-some
returns-in-Some-clause-some c =
    let has = subst (λ lines. HasLine lines c.self.inside.pc c.in-Some.i) c.deref.ensures.value c.in-Some.ensures in
    let is = line_is c.self.inside.memory c.self.inside.code.items c.self.inside.pc c.in-Some.i c.self.invariant.decoded has in
    subst (λ (h : Held). IsInstrAt h.mips.memory h.mips.pc c.in-Some.i) c.self.view_is is
