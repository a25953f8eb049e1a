use Rattle.std.proofs.Common.{◌≡◌, true, false, arith, sym, ◌∙◌}
use Rattle.std.proofs.lemmas.Grind.{common_steps}
use Rattle.std.proofs.lemmas.Option.{slice_get_within}
use Rattle.core_window.specs.declared.records.Event.TheVariants.{Issue}
use Rattle.ooo_clock.proofs.Committed.{same-window}
use Rattle.ooo_clock.proofs.Finished.{AppliedAs, refused-as-sound, unchanged-as}
use Rattle.ooo_clock.proofs.Issued.{due-now, issue-made, issue-sound, issue-within, not-in-time}
use Rattle.ooo_clock.proofs.clock.Parts.issue_entry.Goals as goal

pub returns-then-not-in_time-clause-due : goal.returns-then-not-in_time-clause-due
returns-then-not-in_time-clause-due c =
    let early : c.in_time.result ≡ false = grind (arith, common_steps, c.if-not-in_time.true) in
    not-in-time c.args.self.now c.args.state.now.mips c.args.k c.entry-waiting.result c.in-Some.t c.entry-waiting.ensures
    (sym c.times_at.ensures ∙ c.in-Some.is) (sym c.in_time.ensures ∙ early)

pub returns-then-not-apply-clause-parts : goal.returns-then-not-apply-clause-parts
returns-then-not-apply-clause-parts c =
    let made : c.apply.result ≡ false = grind (arith, common_steps, c.if-not-apply.true) in
    let a : AppliedAs c.args.self.now.window c.args.state.now.mips (Issue c.args.k) false c.apply.new.self c.apply.new.state.mips =
    record { enabled = sym made ∙ c.apply.ensures.enabled; core = c.apply.ensures.core; state = c.apply.ensures.state; stands = c.apply.ensures.stands } in
    λ _. same-window c.args.self.now c.apply.new.self (unchanged-as c.args.self.now.window c.args.state.now.mips (Issue c.args.k) c.apply.new.self c.apply.new.state.mips a).1

pub returns-then-not-apply-clause-state : goal.returns-then-not-apply-clause-state
returns-then-not-apply-clause-state c =
    let made : c.apply.result ≡ false = grind (arith, common_steps, c.if-not-apply.true) in
    let a : AppliedAs c.args.self.now.window c.args.state.now.mips (Issue c.args.k) false c.apply.new.self c.apply.new.state.mips =
    record { enabled = sym made ∙ c.apply.ensures.enabled; core = c.apply.ensures.core; state = c.apply.ensures.state; stands = c.apply.ensures.stands } in
    λ _. (unchanged-as c.args.self.now.window c.args.state.now.mips (Issue c.args.k) c.apply.new.self c.apply.new.state.mips a).2

pub returns-then-not-apply-clause-sound : goal.returns-then-not-apply-clause-sound
returns-then-not-apply-clause-sound c =
    let made : c.apply.result ≡ false = grind (arith, common_steps, c.if-not-apply.true) in
    let a : AppliedAs c.args.self.now.window c.args.state.now.mips (Issue c.args.k) false c.apply.new.self c.apply.new.state.mips =
    record { enabled = sym made ∙ c.apply.ensures.enabled; core = c.apply.ensures.core; state = c.apply.ensures.state; stands = c.apply.ensures.stands } in
    refused-as-sound c.args.self.now c.args.state.now.mips (Issue c.args.k) c.apply.new.self c.apply.new.state.mips c.requires.sound a

pub entry-running-requires : goal.entry-running-requires
entry-running-requires c =
    let made : c.apply.result ≡ true = grind (arith, common_steps, c.if-not-apply.false) in
    let a : AppliedAs c.args.self.now.window c.args.state.now.mips (Issue c.args.k) true c.apply.new.self c.apply.new.state.mips =
    record { enabled = sym made ∙ c.apply.ensures.enabled; core = c.apply.ensures.core; state = c.apply.ensures.state; stands = c.apply.ensures.stands } in
    issue-within c.args.self.now c.args.state.now.mips c.args.k c.apply.new.self c.apply.new.state.mips a c.requires.within

pub run-requires-clause-within : goal.run-requires-clause-within
run-requires-clause-within c = slice_get_within c.args.self.now.times.items c.args.k c.in-Some.t (sym c.times_at.ensures ∙ c.in-Some.is)

pub returns-else-not-apply-clause-due : goal.returns-else-not-apply-clause-due
returns-else-not-apply-clause-due c =
    let made : c.apply.result ≡ true = grind (arith, common_steps, c.if-not-apply.false) in
    let time : c.in_time.result ≡ true = grind (arith, common_steps, c.if-not-in_time.false) in
    due-now c.args.self.now c.args.state.now.mips c.args.k c.entry-waiting.result c.in-Some.t c.entry-waiting.ensures
    (sym c.times_at.ensures ∙ c.in-Some.is) (sym c.in_time.ensures ∙ time) (sym made ∙ c.apply.ensures.enabled)

pub returns-else-not-apply-clause-made : goal.returns-else-not-apply-clause-made
returns-else-not-apply-clause-made c =
    let made : c.apply.result ≡ true = grind (arith, common_steps, c.if-not-apply.false) in
    let a : AppliedAs c.args.self.now.window c.args.state.now.mips (Issue c.args.k) true c.apply.new.self c.apply.new.state.mips =
    record { enabled = sym made ∙ c.apply.ensures.enabled; core = c.apply.ensures.core; state = c.apply.ensures.state; stands = c.apply.ensures.stands } in
    λ numbers q shows _. issue-made c.args.self.now c.run.new.self c.args.state.now.mips numbers c.args.k c.in-Some.t c.entry-running.result c.apply.new.self
    c.apply.new.state.mips q shows a (sym c.times_at.ensures ∙ c.in-Some.is) c.entry-running.ensures
    (λ p before. c.run.ensures.shows c.apply.new.state.mips numbers p before)

pub returns-else-not-apply-clause-sound : goal.returns-else-not-apply-clause-sound
returns-else-not-apply-clause-sound c =
    let made : c.apply.result ≡ true = grind (arith, common_steps, c.if-not-apply.false) in
    let a : AppliedAs c.args.self.now.window c.args.state.now.mips (Issue c.args.k) true c.apply.new.self c.apply.new.state.mips =
    record { enabled = sym made ∙ c.apply.ensures.enabled; core = c.apply.ensures.core; state = c.apply.ensures.state; stands = c.apply.ensures.stands } in
    issue-sound c.args.self.now c.run.new.self c.args.state.now.mips c.args.k c.apply.new.self c.apply.new.state.mips c.requires.sound a
    c.run.ensures.window c.run.ensures.len c.run.ensures.capacity c.run.ensures.stays
