use Rattle.std.proofs.Common.{refl}
use Rattle.core_window.proofs.Happened.{applied-commit, applied-fetch, applied-finish, applied-issue, applied-squash}
use Rattle.core_window.proofs.window.Window.apply.Goals as goal

pub returns-in-Fetch : goal.returns-in-Fetch
returns-in-Fetch c =
    let a = applied-fetch c.args.self.now c.args.state.now.mips c.args.e c.in-Fetch.guess c.fetch.result c.fetch.new.self c.requires c.in-Fetch.is
    c.fetch.ensures.made c.fetch.ensures.core in
    record { enabled = a.enabled; core = a.core; state = a.state; computed = refl; stands = a.stands }

pub returns-in-Issue : goal.returns-in-Issue
returns-in-Issue c =
    let a = applied-issue c.args.self.now c.args.state.now.mips c.args.e c.in-Issue.k c.issue.result c.issue.new.self c.requires c.in-Issue.is
    c.issue.ensures.made c.issue.ensures.core in
    record { enabled = a.enabled; core = a.core; state = a.state; computed = refl; stands = a.stands }

pub returns-in-Finish : goal.returns-in-Finish
returns-in-Finish c =
    let a = applied-finish c.args.self.now c.args.state.now.mips c.args.e c.in-Finish.k c.finish.result c.finish.new.self c.requires c.in-Finish.is
    c.finish.ensures.made c.finish.ensures.core in
    record { enabled = a.enabled; core = a.core; state = a.state; computed = refl; stands = a.stands }

pub returns-in-Squash : goal.returns-in-Squash
returns-in-Squash c =
    let a = applied-squash c.args.self.now c.args.state.now.mips c.args.e c.in-Squash.k c.squash.result c.squash.new.self c.requires c.in-Squash.is
    c.squash.ensures.made c.squash.ensures.core in
    record { enabled = a.enabled; core = a.core; state = a.state; computed = refl; stands = a.stands }

pub returns-in-Commit : goal.returns-in-Commit
returns-in-Commit c =
    let a = applied-commit c.args.self.now c.args.state.now.mips c.args.e c.commit.result c.commit.new.self c.commit.new.state.mips c.requires c.in-Commit.is
    c.commit.ensures.made c.commit.ensures.core c.commit.ensures.state in
    record { enabled = a.enabled; core = a.core; state = a.state; computed = c.commit.ensures.computed; stands = a.stands }
