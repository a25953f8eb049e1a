use Rattle.std.proofs.Common.{◌≡◌, true, false, ap, sym, arith, ◌∙◌}
use Rattle.std.proofs.lemmas.Grind.{common_steps}
use Rattle.ooo_clock.proofs.Committed.{Applied, Going, refused-made, refused-sound, stopped-made, stopped-pcs, stopped-sound, went-made, went-pcs, went-sound}
use Rattle.ooo_clock.specs.Clock.{Predicts}
use Rattle.ooo_clock.specs.Shows.{speeds_of}
use Rattle.ooo_clock.specs.Views.{is_trap}
use Rattle.ooo_clock.specs.declared.clock.Parts.{Parts}
use Rattle.ooo_clock.proofs.clock.Parts.commit_first.Goals as goal

pub returns-then-not-apply-clause-made : goal.returns-then-not-apply-clause-made
returns-then-not-apply-clause-made g c =
    let none : c.apply.result ≡ false = grind (arith, common_steps, c.if-not-apply.true) in
    let a : Applied c.args.self.now.window c.args.state.now.mips false c.apply.new.self c.apply.new.state.mips =
    record { enabled = sym none ∙ c.apply.ensures.enabled; core = c.apply.ensures.core; state = c.apply.ensures.state; stands = c.apply.ensures.stands } in
    λ q shows. refused-made (speeds_of c.args.self.now) _ c.args.self.now c.args.state.now.mips _ c.apply.new.self c.apply.new.state.mips q shows c.requires.free a

pub returns-then-not-apply-clause-sound : goal.returns-then-not-apply-clause-sound
returns-then-not-apply-clause-sound g c =
    let none : c.apply.result ≡ false = grind (arith, common_steps, c.if-not-apply.true) in
    let a : Applied c.args.self.now.window c.args.state.now.mips false c.apply.new.self c.apply.new.state.mips =
    record { enabled = sym none ∙ c.apply.ensures.enabled; core = c.apply.ensures.core; state = c.apply.ensures.state; stands = c.apply.ensures.stands } in
    refused-sound c.args.self.now c.args.state.now.mips c.apply.new.self c.apply.new.state.mips c.requires.sound a

pub returns-then-not-has_trapped-clause-made : goal.returns-then-not-has_trapped-clause-made
returns-then-not-has_trapped-clause-made g c =
    let made : c.apply.result ≡ true = grind (arith, common_steps, c.if-not-apply.false) in
    let a : Applied c.args.self.now.window c.args.state.now.mips true c.apply.new.self c.apply.new.state.mips =
    record { enabled = sym made ∙ c.apply.ensures.enabled; core = c.apply.ensures.core; state = c.apply.ensures.state; stands = c.apply.ensures.stands } in
    let trap : c.has_trapped.result ≡ false = grind (arith, common_steps, c.if-not-has_trapped.true) in
    let goes : is_trap c.apply.new.self.ending ≡ false = ap is_trap (sym c.ending.ensures) ∙ sym c.has_trapped.ensures ∙ trap in
    let p : Predicts = record { guess = g.P.Predictor.guess_of; learnt = g.P.Predictor.learnt_of } in
    let going : Going p c.args.self.now c.went.new.self c.apply.new.self (g.P.Predictor.data_of c.args.p.now) (g.P.Predictor.data_of c.went.new.p) c.args.first =
    record { parts = c.went.ensures.parts; times = c.went.ensures.times; capacity = c.went.ensures.capacity; store = c.went.ensures.store; numbers_are = c.went.ensures.numbers } in
    λ q shows. went-made p c.args.self.now c.went.new.self c.args.state.now.mips _ _ c.apply.new.self c.apply.new.state.mips c.args.first q shows c.requires.free
    c.requires.there c.requires.sound.stands a goes going

pub returns-then-not-has_trapped-clause-sound : goal.returns-then-not-has_trapped-clause-sound
returns-then-not-has_trapped-clause-sound g c =
    let made : c.apply.result ≡ true = grind (arith, common_steps, c.if-not-apply.false) in
    let a : Applied c.args.self.now.window c.args.state.now.mips true c.apply.new.self c.apply.new.state.mips =
    record { enabled = sym made ∙ c.apply.ensures.enabled; core = c.apply.ensures.core; state = c.apply.ensures.state; stands = c.apply.ensures.stands } in
    let trap : c.has_trapped.result ≡ false = grind (arith, common_steps, c.if-not-has_trapped.true) in
    let goes : is_trap c.apply.new.self.ending ≡ false = ap is_trap (sym c.ending.ensures) ∙ sym c.has_trapped.ensures ∙ trap in
    let p : Predicts = record { guess = g.P.Predictor.guess_of; learnt = g.P.Predictor.learnt_of } in
    let going : Going p c.args.self.now c.went.new.self c.apply.new.self (g.P.Predictor.data_of c.args.p.now) (g.P.Predictor.data_of c.went.new.p) c.args.first =
    record { parts = c.went.ensures.parts; times = c.went.ensures.times; capacity = c.went.ensures.capacity; store = c.went.ensures.store; numbers_are = c.went.ensures.numbers } in
    went-sound p c.args.self.now c.went.new.self c.args.state.now.mips _ _ c.apply.new.self c.apply.new.state.mips c.args.first c.requires.sound a goes going

pub returns-else-not-has_trapped-clause-made : goal.returns-else-not-has_trapped-clause-made
returns-else-not-has_trapped-clause-made g c =
    let made : c.apply.result ≡ true = grind (arith, common_steps, c.if-not-apply.false) in
    let a : Applied c.args.self.now.window c.args.state.now.mips true c.apply.new.self c.apply.new.state.mips =
    record { enabled = sym made ∙ c.apply.ensures.enabled; core = c.apply.ensures.core; state = c.apply.ensures.state; stands = c.apply.ensures.stands } in
    let trap : c.has_trapped.result ≡ true = grind (arith, common_steps, c.if-not-has_trapped.false) in
    let traps : is_trap c.apply.new.self.ending ≡ true = ap is_trap (sym c.ending.ensures) ∙ sym c.has_trapped.ensures ∙ trap in
    let p : Predicts = record { guess = g.P.Predictor.guess_of; learnt = g.P.Predictor.learnt_of } in
    λ q shows. stopped-made p c.args.self.now c.args.state.now.mips _ c.apply.new.self c.apply.new.state.mips q shows c.requires.free c.requires.sound.stands a traps

pub returns-else-not-has_trapped-clause-sound : goal.returns-else-not-has_trapped-clause-sound
returns-else-not-has_trapped-clause-sound g c =
    let made : c.apply.result ≡ true = grind (arith, common_steps, c.if-not-apply.false) in
    let a : Applied c.args.self.now.window c.args.state.now.mips true c.apply.new.self c.apply.new.state.mips =
    record { enabled = sym made ∙ c.apply.ensures.enabled; core = c.apply.ensures.core; state = c.apply.ensures.state; stands = c.apply.ensures.stands } in
    let trap : c.has_trapped.result ≡ true = grind (arith, common_steps, c.if-not-has_trapped.false) in
    let traps : is_trap c.apply.new.self.ending ≡ true = ap is_trap (sym c.ending.ensures) ∙ sym c.has_trapped.ensures ∙ trap in
    stopped-sound c.args.self.now c.args.state.now.mips c.apply.new.self c.apply.new.state.mips c.requires.sound a traps

pub returns-then-not-has_trapped-clause-pcs : goal.returns-then-not-has_trapped-clause-pcs
returns-then-not-has_trapped-clause-pcs g c =
    let made : c.apply.result ≡ true = grind (arith, common_steps, c.if-not-apply.false) in
    let a : Applied c.args.self.now.window c.args.state.now.mips true c.apply.new.self c.apply.new.state.mips =
    record { enabled = sym made ∙ c.apply.ensures.enabled; core = c.apply.ensures.core; state = c.apply.ensures.state; stands = c.apply.ensures.stands } in
    let trap : c.has_trapped.result ≡ false = grind (arith, common_steps, c.if-not-has_trapped.true) in
    let goes : is_trap c.apply.new.self.ending ≡ false = ap is_trap (sym c.ending.ensures) ∙ sym c.has_trapped.ensures ∙ trap in
    λ _. went-pcs c.args.self.now c.went.new.self c.args.state.now.mips c.apply.new.self c.apply.new.state.mips c.requires.sound.stands a
    (ap (λ (t : Parts). t.window) c.went.ensures.parts) goes

pub returns-else-not-has_trapped-clause-pcs : goal.returns-else-not-has_trapped-clause-pcs
returns-else-not-has_trapped-clause-pcs g c =
    let made : c.apply.result ≡ true = grind (arith, common_steps, c.if-not-apply.false) in
    let a : Applied c.args.self.now.window c.args.state.now.mips true c.apply.new.self c.apply.new.state.mips =
    record { enabled = sym made ∙ c.apply.ensures.enabled; core = c.apply.ensures.core; state = c.apply.ensures.state; stands = c.apply.ensures.stands } in
    let trap : c.has_trapped.result ≡ true = grind (arith, common_steps, c.if-not-has_trapped.false) in
    let traps : is_trap c.apply.new.self.ending ≡ true = ap is_trap (sym c.ending.ensures) ∙ sym c.has_trapped.ensures ∙ trap in
    λ _. stopped-pcs c.args.self.now c.args.state.now.mips c.apply.new.self c.apply.new.state.mips c.requires.sound.stands a traps
