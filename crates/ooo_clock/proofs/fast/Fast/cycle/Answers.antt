use Rattle.std.proofs.Common.{◌∙◌}
use Rattle.ooo_clock.proofs.Opened.{Cycled_to, cycle-at, cycle-keeps, cycle-left, cycle-pcs-at}
use Rattle.ooo_clock.specs.Clock.{Predicts}
use Rattle.ooo_clock.proofs.fast.Fast.cycle.Goals as goal

pub invariant_of-self : goal.invariant_of-self
invariant_of-self g c =
    let p : Predicts = record { guess = g.P.Predictor.guess_of; learnt = g.P.Predictor.learnt_of } in
    let i = c.self.inside in
    let x = c.args.state.now.mips in
    let y = c.cycle.new.state.mips in
    let before = g.P.Predictor.data_of c.args.p.now in
    let after = g.P.Predictor.data_of c.cycle.new.p in
    let to : Cycled_to p i.parts c.cycle.new.self x y before after =
    record {
      shows = c.cycle.ensures.shows;
      sound = c.cycle.ensures.sound;
      cycle = c.cycle.ensures.cycle;
      pace = c.cycle.ensures.pace;
      icache = c.cycle.ensures.icache;
      dcache = c.cycle.ensures.dcache;
    } in
    cycle-keeps i.machine p i.parts c.cycle.new.self _ _ x y before after c.self.invariant to c.cycle.ensures.capacity c.cycle.ensures.sound.cycle

pub returns-clause-q : goal.returns-clause-q
returns-clause-q g c =
    let p : Predicts = record { guess = g.P.Predictor.guess_of; learnt = g.P.Predictor.learnt_of } in
    let i = c.self.inside in
    let x = c.args.state.now.mips in
    let y = c.cycle.new.state.mips in
    let before = g.P.Predictor.data_of c.args.p.now in
    let after = g.P.Predictor.data_of c.cycle.new.p in
    cycle-at i.machine p i.parts c.cycle.new.self i.commits.items c.cycle.new.pcs.items x y before after c.args.self.now c.self.view_is c.cycle.ensures.shows

pub returns-clause-pcs : goal.returns-clause-pcs
returns-clause-pcs g c =
    let p : Predicts = record { guess = g.P.Predictor.guess_of; learnt = g.P.Predictor.learnt_of } in
    let i = c.self.inside in
    let x = c.args.state.now.mips in
    let y = c.cycle.new.state.mips in
    let before = g.P.Predictor.data_of c.args.p.now in
    let after = g.P.Predictor.data_of c.cycle.new.p in
    cycle-pcs-at i.machine p i.parts i.commits.items c.cycle.new.pcs.items x before c.args.self.now c.self.view_is c.cycle.ensures.pcs

pub returns-clause-ended : goal.returns-clause-ended
returns-clause-ended g c =
    let p : Predicts = record { guess = g.P.Predictor.guess_of; learnt = g.P.Predictor.learnt_of } in
    let i = c.self.inside in
    let x = c.args.state.now.mips in
    let y = c.cycle.new.state.mips in
    let before = g.P.Predictor.data_of c.args.p.now in
    let after = g.P.Predictor.data_of c.cycle.new.p in
    λ q h. c.end_by.ensures ∙ c.ending.ensures ∙ (cycle-left i.machine p c.cycle.new.self c.cycle.new.pcs.items y after c.args.self.now.speeds q
    (cycle-at i.machine p i.parts c.cycle.new.self i.commits.items c.cycle.new.pcs.items x y before after c.args.self.now c.self.view_is c.cycle.ensures.shows q h)).ended

pub returns-clause-state : goal.returns-clause-state
returns-clause-state g c =
    let p : Predicts = record { guess = g.P.Predictor.guess_of; learnt = g.P.Predictor.learnt_of } in
    let i = c.self.inside in
    let x = c.args.state.now.mips in
    let y = c.cycle.new.state.mips in
    let before = g.P.Predictor.data_of c.args.p.now in
    let after = g.P.Predictor.data_of c.cycle.new.p in
    λ q h. (cycle-left i.machine p c.cycle.new.self c.cycle.new.pcs.items y after c.args.self.now.speeds q
    (cycle-at i.machine p i.parts c.cycle.new.self i.commits.items c.cycle.new.pcs.items x y before after c.args.self.now c.self.view_is c.cycle.ensures.shows q h)).state

pub returns-clause-numbers : goal.returns-clause-numbers
returns-clause-numbers g c =
    let p : Predicts = record { guess = g.P.Predictor.guess_of; learnt = g.P.Predictor.learnt_of } in
    let i = c.self.inside in
    let x = c.args.state.now.mips in
    let y = c.cycle.new.state.mips in
    let before = g.P.Predictor.data_of c.args.p.now in
    let after = g.P.Predictor.data_of c.cycle.new.p in
    λ q h. (cycle-left i.machine p c.cycle.new.self c.cycle.new.pcs.items y after c.args.self.now.speeds q
    (cycle-at i.machine p i.parts c.cycle.new.self i.commits.items c.cycle.new.pcs.items x y before after c.args.self.now c.self.view_is c.cycle.ensures.shows q h)).numbers_are
