use Rattle.std.proofs.Common.{◌≡◌, true, false, Some, None, ap, sym, arith, ◌∙◌}
use Rattle.std.proofs.lemmas.Grind.{common_steps}
use Rattle.std.specs.Prelude.{nat_le}
use Rattle.mips_ref.specs.Memory.{code_word_at}
use Rattle.ooo_clock.proofs.Fetched.{fetch-early, fetch-enabled-as, fetch-made, fetch-refused, full, guess-as, no-code}
use Rattle.ooo_clock.specs.Clock.{Predicts}
use Rattle.ooo_clock.proofs.clock.Parts.fetch_once.Goals as goal

pub returns-then-self-clause-made : goal.returns-then-self-clause-made
returns-then-self-clause-made g c =
    let early : nat_le c.args.self.now.fetch_free c.args.self.now.cycle ≡ false = grind (arith, common_steps, c.if-self.true) in
    λ q h. fetch-early _ c.args.self.now c.args.state.now.mips _ q h early

pub returns-then-not-has_room-clause-made : goal.returns-then-not-has_room-clause-made
returns-then-not-has_room-clause-made g c =
    let none : c.has_room.result ≡ false = grind (arith, common_steps, c.if-not-has_room.true) in
    λ q h. fetch-refused _ c.args.self.now c.args.state.now.mips _ q h (λ guess. full c.args.self.now.window c.args.state.now.mips guess (sym c.has_room.ensures ∙ none))

pub fetch_at-requires-clause-enabled : goal.fetch_at-requires-clause-enabled
fetch_at-requires-clause-enabled g c =
    let p : Predicts = record { guess = g.P.Predictor.guess_of; learnt = g.P.Predictor.learnt_of } in
    let room : c.has_room.result ≡ true = grind (arith, common_steps, c.if-not-has_room.false) in
    let w = c.args.self.now.window in
    let code : code_word_at c.args.state.now.mips.memory w.fetch_pc ≡ Some c.in-Some.word =
    ap (λ at. code_word_at c.args.state.now.mips.memory at) (sym c.fetch_pair-pc.ensures.pc)
    ∙ ap (λ m. code_word_at m c.fetch_pair-pc.result.0) (sym c.memory.ensures.value) ∙ sym c.code_at.ensures.value ∙ c.in-Some.is in
    fetch-enabled-as p (g.P.Predictor.data_of c.args.p.now) w c.args.state.now.mips c.in-Some.word _ _ c.guess-guess.result code c.fetch_pair-pc.ensures.pc
    c.fetch_pair-pc.ensures.next c.guess-guess.ensures (sym c.has_room.ensures ∙ room)

pub returns-in-None-clause-made : goal.returns-in-None-clause-made
returns-in-None-clause-made g c =
    let w = c.args.self.now.window in
    let code : code_word_at c.args.state.now.mips.memory w.fetch_pc ≡ None =
    ap (λ at. code_word_at c.args.state.now.mips.memory at) (sym c.fetch_pair-pc.ensures.pc)
    ∙ ap (λ m. code_word_at m c.fetch_pair-pc.result.0) (sym c.memory.ensures.value) ∙ sym c.code_at.ensures.value ∙ c.in-None.is in
    λ q h. fetch-refused _ c.args.self.now c.args.state.now.mips _ q h (λ guess. no-code w c.args.state.now.mips guess code)

pub returns-in-Some-clause-made : goal.returns-in-Some-clause-made
returns-in-Some-clause-made g c =
    let p : Predicts = record { guess = g.P.Predictor.guess_of; learnt = g.P.Predictor.learnt_of } in
    let w = c.args.self.now.window in
    let room : c.has_room.result ≡ true = grind (arith, common_steps, c.if-not-has_room.false) in
    let free : nat_le c.args.self.now.fetch_free c.args.self.now.cycle ≡ true = grind (arith, common_steps, c.if-self.false) in
    let code : code_word_at c.args.state.now.mips.memory w.fetch_pc ≡ Some c.in-Some.word =
    ap (λ at. code_word_at c.args.state.now.mips.memory at) (sym c.fetch_pair-pc.ensures.pc)
    ∙ ap (λ m. code_word_at m c.fetch_pair-pc.result.0) (sym c.memory.ensures.value) ∙ sym c.code_at.ensures.value ∙ c.in-Some.is in
    let enabled = fetch-enabled-as p (g.P.Predictor.data_of c.args.p.now) w c.args.state.now.mips c.in-Some.word _ _ c.guess-guess.result code
    c.fetch_pair-pc.ensures.pc c.fetch_pair-pc.ensures.next c.guess-guess.ensures (sym c.has_room.ensures ∙ room) in
    λ q h. fetch-made p c.args.self.now c.fetch_at.new.self c.args.state.now.mips c.fetch_at.new.state.mips _ q c.in-Some.word c.guess-guess.result h free code
    (guess-as p (g.P.Predictor.data_of c.args.p.now) w c.in-Some.word _ _ c.guess-guess.result c.fetch_pair-pc.ensures.pc c.fetch_pair-pc.ensures.next c.guess-guess.ensures)
    enabled (c.fetch_at.ensures.shows _ q h)
