use Rattle.std.proofs.Common.{◌≡◌, true, false, refl, arith, ◌∙◌}
use Rattle.std.proofs.lemmas.Grind.{common_steps}
use Rattle.ooo_clock.proofs.Repeats.{all-goes, goes-at, made-at, more-goes, none-goes, speeds-stay, stays-on, stays-same}
use Rattle.ooo_clock.specs.Clock.{Speeds}
use Rattle.ooo_clock.specs.Moves.{issue_move}
use Rattle.ooo_clock.specs.Shows.{speeds_of}
use Rattle.ooo_clock.proofs.clock.Parts.issues.Goals as goal

pub loop-issue-init : goal.loop-issue-init
loop-issue-init c =
    record {
      goes = λ numbers. none-goes (issue_move (speeds_of c.args.self.now)) c.args.self.now c.args.state.now.mips numbers;
      sound = c.requires;
      stays = stays-same c.args.self.now;
      computed = refl;
    }

pub loop-issue-preserved : goal.loop-issue-preserved
loop-issue-preserved c =
    let i = c.loop-issue.invariant in
    let went : c.issue_once.result ≡ true = grind (arith, common_steps, c.if-not-issue_once.false) in
    record {
      goes = λ numbers. more-goes _ _ _ _ _ _ _ _ _ _ _ (i.goes numbers) (made-at (λ (s : Speeds). issue_move s) (speeds_of c.loop-issue.self) (speeds_of c.args.self.now) c.issue_once.result true c.loop-issue.self c.loop-issue.state.mips numbers
          c.issue_once.new.self c.issue_once.new.state.mips numbers (speeds-stay c.args.self.now c.loop-issue.self i.stays) went (c.issue_once.ensures.made numbers));
      sound = c.issue_once.ensures.sound;
      stays = stays-on c.args.self.now c.loop-issue.self c.issue_once.new.self i.stays c.issue_once.ensures.stays;
      computed = c.issue_once.ensures.computed ∙ i.computed;
    }

pub returns-then-not-issue_once-clause-shows : goal.returns-then-not-issue_once-clause-shows
returns-then-not-issue_once-clause-shows c =
    let i = c.loop-issue.invariant in
    let none : c.issue_once.result ≡ false = grind (arith, common_steps, c.if-not-issue_once.true) in
    λ numbers. (all-goes _ _ c.args.self.now.pace.width _ _ _ _ _ _ _ _ _ (omega arith) (i.goes numbers) (made-at (λ (s : Speeds). issue_move s) (speeds_of c.loop-issue.self) (speeds_of c.args.self.now) c.issue_once.result false c.loop-issue.self c.loop-issue.state.mips numbers
    c.issue_once.new.self c.issue_once.new.state.mips numbers (speeds-stay c.args.self.now c.loop-issue.self i.stays) none (c.issue_once.ensures.made numbers))).shows

pub returns-clause-shows : goal.returns-clause-shows
returns-clause-shows c =
    let all : c.loop-issue._issue ≡ c.args.self.now.pace.width = omega (arith, c.loop-issue-test.false, c.loop-issue.auto._issue-end) in
    λ numbers. (goes-at _ _ _ _ _ _ _ _ _ all (c.loop-issue.invariant.goes numbers)).shows
