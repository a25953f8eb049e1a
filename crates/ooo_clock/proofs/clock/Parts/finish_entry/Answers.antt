use Rattle.std.proofs.Common.{◌+◌, true, false, ap, arith, length, refl, subst, sym, take, ◌∙◌}
use Rattle.core_window.specs.declared.records.Event.TheVariants.{Finish, Squash}
use Rattle.ooo_clock.proofs.Committed.{with_window}
use Rattle.ooo_clock.proofs.Finished.{AppliedAs, CutTo, finish-alone, finish-alone-sound, finish-cut, finish-cut-sound, finish-fewer, unchanged-as}
use Rattle.ooo_clock.proofs.Passed.{AllPassed, cut-fewer, cut-passed, finished-passed, over-enabled}
use Rattle.core_window.specs.Core.{Core}
use Rattle.ooo_clock.proofs.clock.Parts.finish_entry.Goals as goal

pub returns-then-apply-clause-made : goal.returns-then-apply-clause-made
returns-then-apply-clause-made c =
    let enabled = sym (over-enabled c.args.self.now c.args.state.now.mips c.args.k c.requires.over) in
    let a : AppliedAs c.args.self.now.window c.args.state.now.mips (Finish c.args.k) true c.apply.new.self c.apply.new.state.mips =
    record { enabled = enabled; core = c.apply.ensures.core; state = c.apply.ensures.state; stands = c.apply.ensures.stands } in
    let b : AppliedAs c.apply.new.self c.apply.new.state.mips (Squash c.args.k) true c.apply-2.new.self c.apply-2.new.state.mips =
    record { enabled = sym c.if-apply.true ∙ c.apply-2.ensures.enabled; core = c.apply-2.ensures.core; state = c.apply-2.ensures.state; stands = c.apply-2.ensures.stands } in
    let g : CutTo c.args.self.now (record c.args.self.now { window = c.apply-2.new.self; times = c.cut.new.times }) c.apply-2.new.self =
    record { parts = refl; times = c.cut.ensures.items ∙ ap (λ n. take n c.args.self.now.times.items) c.len.ensures; capacity = c.cut.ensures.capacity } in
    λ numbers q shows. finish-cut c.args.self.now _ c.args.state.now.mips numbers c.args.k c.apply.new.self c.apply.new.state.mips c.apply-2.new.self
    c.apply-2.new.state.mips q shows a b g

pub returns-then-apply-clause-sound : goal.returns-then-apply-clause-sound
returns-then-apply-clause-sound c =
    let enabled = sym (over-enabled c.args.self.now c.args.state.now.mips c.args.k c.requires.over) in
    let a : AppliedAs c.args.self.now.window c.args.state.now.mips (Finish c.args.k) true c.apply.new.self c.apply.new.state.mips =
    record { enabled = enabled; core = c.apply.ensures.core; state = c.apply.ensures.state; stands = c.apply.ensures.stands } in
    let b : AppliedAs c.apply.new.self c.apply.new.state.mips (Squash c.args.k) true c.apply-2.new.self c.apply-2.new.state.mips =
    record { enabled = sym c.if-apply.true ∙ c.apply-2.ensures.enabled; core = c.apply-2.ensures.core; state = c.apply-2.ensures.state; stands = c.apply-2.ensures.stands } in
    let g : CutTo c.args.self.now (record c.args.self.now { window = c.apply-2.new.self; times = c.cut.new.times }) c.apply-2.new.self =
    record { parts = refl; times = c.cut.ensures.items ∙ ap (λ n. take n c.args.self.now.times.items) c.len.ensures; capacity = c.cut.ensures.capacity } in
    finish-cut-sound c.args.self.now _ c.args.state.now.mips c.args.k c.apply.new.self c.apply.new.state.mips c.apply-2.new.self
    c.apply-2.new.state.mips c.requires.sound a b g

pub returns-else-apply-clause-made : goal.returns-else-apply-clause-made
returns-else-apply-clause-made c =
    let enabled = sym (over-enabled c.args.self.now c.args.state.now.mips c.args.k c.requires.over) in
    let a : AppliedAs c.args.self.now.window c.args.state.now.mips (Finish c.args.k) true c.apply.new.self c.apply.new.state.mips =
    record { enabled = enabled; core = c.apply.ensures.core; state = c.apply.ensures.state; stands = c.apply.ensures.stands } in
    let b : AppliedAs c.apply.new.self c.apply.new.state.mips (Squash c.args.k) false c.apply-2.new.self c.apply-2.new.state.mips =
    record { enabled = sym c.if-apply.false ∙ c.apply-2.ensures.enabled; core = c.apply-2.ensures.core; state = c.apply-2.ensures.state; stands = c.apply-2.ensures.stands } in
    λ numbers q shows. finish-alone c.args.self.now c.args.state.now.mips numbers c.args.k c.apply.new.self c.apply.new.state.mips c.apply-2.new.self
    c.apply-2.new.state.mips q shows a b

pub returns-else-apply-clause-sound : goal.returns-else-apply-clause-sound
returns-else-apply-clause-sound c =
    let enabled = sym (over-enabled c.args.self.now c.args.state.now.mips c.args.k c.requires.over) in
    let a : AppliedAs c.args.self.now.window c.args.state.now.mips (Finish c.args.k) true c.apply.new.self c.apply.new.state.mips =
    record { enabled = enabled; core = c.apply.ensures.core; state = c.apply.ensures.state; stands = c.apply.ensures.stands } in
    let b : AppliedAs c.apply.new.self c.apply.new.state.mips (Squash c.args.k) false c.apply-2.new.self c.apply-2.new.state.mips =
    record { enabled = sym c.if-apply.false ∙ c.apply-2.ensures.enabled; core = c.apply-2.ensures.core; state = c.apply-2.ensures.state; stands = c.apply-2.ensures.stands } in
    finish-alone-sound c.args.self.now c.args.state.now.mips c.args.k c.apply.new.self c.apply.new.state.mips c.apply-2.new.self
    c.apply-2.new.state.mips c.requires.sound a b

pub returns-then-apply-clause-passed : goal.returns-then-apply-clause-passed
returns-then-apply-clause-passed c =
    let enabled = sym (over-enabled c.args.self.now c.args.state.now.mips c.args.k c.requires.over) in
    let a : AppliedAs c.args.self.now.window c.args.state.now.mips (Finish c.args.k) true c.apply.new.self c.apply.new.state.mips =
    record { enabled = enabled; core = c.apply.ensures.core; state = c.apply.ensures.state; stands = c.apply.ensures.stands } in
    let b : AppliedAs c.apply.new.self c.apply.new.state.mips (Squash c.args.k) true c.apply-2.new.self c.apply-2.new.state.mips =
    record { enabled = sym c.if-apply.true ∙ c.apply-2.ensures.enabled; core = c.apply-2.ensures.core; state = c.apply-2.ensures.state; stands = c.apply-2.ensures.stands } in
    let g : CutTo c.args.self.now (record c.args.self.now { window = c.apply-2.new.self; times = c.cut.new.times }) c.apply-2.new.self =
    record { parts = refl; times = c.cut.ensures.items ∙ ap (λ n. take n c.args.self.now.times.items) c.len.ensures; capacity = c.cut.ensures.capacity } in
    λ before. cut-passed c.args.self.now _ c.args.k c.apply.new.self c.apply.new.state.mips c.apply-2.new.self c.apply-2.new.state.mips b g
    (finished-passed c.args.self.now c.args.state.now.mips c.args.k c.apply.new.self c.apply.new.state.mips a before)

pub returns-then-apply-clause-fewer : goal.returns-then-apply-clause-fewer
returns-then-apply-clause-fewer c =
    let enabled = sym (over-enabled c.args.self.now c.args.state.now.mips c.args.k c.requires.over) in
    let a : AppliedAs c.args.self.now.window c.args.state.now.mips (Finish c.args.k) true c.apply.new.self c.apply.new.state.mips =
    record { enabled = enabled; core = c.apply.ensures.core; state = c.apply.ensures.state; stands = c.apply.ensures.stands } in
    let b : AppliedAs c.apply.new.self c.apply.new.state.mips (Squash c.args.k) true c.apply-2.new.self c.apply-2.new.state.mips =
    record { enabled = sym c.if-apply.true ∙ c.apply-2.ensures.enabled; core = c.apply-2.ensures.core; state = c.apply-2.ensures.state; stands = c.apply-2.ensures.stands } in
    let g : CutTo c.args.self.now (record c.args.self.now { window = c.apply-2.new.self; times = c.cut.new.times }) c.apply-2.new.self =
    record { parts = refl; times = c.cut.ensures.items ∙ ap (λ n. take n c.args.self.now.times.items) c.len.ensures; capacity = c.cut.ensures.capacity } in
    omega (
      arith,
      cut-fewer c.args.self.now (record c.args.self.now { window = c.apply-2.new.self; times = c.cut.new.times }) c.args.k c.apply.new.self
          c.apply.new.state.mips c.apply-2.new.self c.apply-2.new.state.mips b g,
      finish-fewer c.args.self.now.window c.args.state.now.mips c.args.k c.apply.new.self c.apply.new.state.mips a,
    )

pub returns-else-apply-clause-passed : goal.returns-else-apply-clause-passed
returns-else-apply-clause-passed c =
    let enabled = sym (over-enabled c.args.self.now c.args.state.now.mips c.args.k c.requires.over) in
    let a : AppliedAs c.args.self.now.window c.args.state.now.mips (Finish c.args.k) true c.apply.new.self c.apply.new.state.mips =
    record { enabled = enabled; core = c.apply.ensures.core; state = c.apply.ensures.state; stands = c.apply.ensures.stands } in
    let b : AppliedAs c.apply.new.self c.apply.new.state.mips (Squash c.args.k) false c.apply-2.new.self c.apply-2.new.state.mips =
    record { enabled = sym c.if-apply.false ∙ c.apply-2.ensures.enabled; core = c.apply-2.ensures.core; state = c.apply-2.ensures.state; stands = c.apply-2.ensures.stands } in
    let same = (unchanged-as c.apply.new.self c.apply.new.state.mips (Squash c.args.k) c.apply-2.new.self c.apply-2.new.state.mips b).1 in
    λ before. subst (λ (d : Core). AllPassed (with_window c.args.self.now d) (c.args.k + 1)) (sym same)
    (finished-passed c.args.self.now c.args.state.now.mips c.args.k c.apply.new.self c.apply.new.state.mips a before)

pub returns-else-apply-clause-fewer : goal.returns-else-apply-clause-fewer
returns-else-apply-clause-fewer c =
    let enabled = sym (over-enabled c.args.self.now c.args.state.now.mips c.args.k c.requires.over) in
    let a : AppliedAs c.args.self.now.window c.args.state.now.mips (Finish c.args.k) true c.apply.new.self c.apply.new.state.mips =
    record { enabled = enabled; core = c.apply.ensures.core; state = c.apply.ensures.state; stands = c.apply.ensures.stands } in
    let b : AppliedAs c.apply.new.self c.apply.new.state.mips (Squash c.args.k) false c.apply-2.new.self c.apply-2.new.state.mips =
    record { enabled = sym c.if-apply.false ∙ c.apply-2.ensures.enabled; core = c.apply-2.ensures.core; state = c.apply-2.ensures.state; stands = c.apply-2.ensures.stands } in
    let same = (unchanged-as c.apply.new.self c.apply.new.state.mips (Squash c.args.k) c.apply-2.new.self c.apply-2.new.state.mips b).1 in
    omega (arith, ap (λ (d : Core). length d.entries) same, finish-fewer c.args.self.now.window c.args.state.now.mips c.args.k c.apply.new.self c.apply.new.state.mips a)
