use Rattle.std.proofs.Common.{◌≡◌, arith, sym, ◌∙◌}
use Rattle.mips_ref.specs.Mips.{exit_address}
use Rattle.mips_ref.specs.Ran.{ran_by}
use Rattle.cache_lru.specs.Contents.{shape_of}
use Rattle.simple_pipe.proofs.Loop.{has_run_none, has_run_more, has_ended, goes_on, run_early}
use Rattle.simple_pipe.proofs.run.run.Goals as goal

pub loop-made-init : goal.loop-made-init
loop-made-init c =
    has_run_none c.args.pace (shape_of c.args.parts.now.icache) (shape_of c.args.parts.now.dcache) c.args.state.now c.args.parts.now c.requires.empty

pub execute-step-requires : goal.execute-step-requires
execute-step-requires c =
    run_early c.args.pace (shape_of c.args.parts.now.icache) (shape_of c.args.parts.now.dcache) c.args.state.now c.loop-made._made c.loop-made.state
    c.loop-made.parts c.loop-made.invariant c.requires.steady (omega arith)

pub returns-in_default : goal.returns-in_default
returns-in_default c =
    let i = shape_of c.args.parts.now.icache in
    let d = shape_of c.args.parts.now.dcache in
    let h = c.loop-made.invariant in
    let after = c.execute-step.ensures.after i d (ran_by c.loop-made._made c.args.state.now.mips) h.stands in
    record {
      stop = (
        c.loop-made._made,
        has_ended c.args.pace i d c.args.state.now c.args.limit c.loop-made._made c.loop-made.state c.execute-step.new.state
            c.loop-made.parts c.execute-step.new.parts c.execute-step.result h (omega arith) (λ e. absurd (omega (arith, e, c.loop-made-test.true)))
            c.execute-step.ensures.stepped c.in_default.not-Went after,
      );
      icache = after.icache_is;
      dcache = after.dcache_is;
    }

pub loop-made-preserved : goal.loop-made-preserved
loop-made-preserved c =
    let i = shape_of c.args.parts.now.icache in
    let d = shape_of c.args.parts.now.dcache in
    let h = c.loop-made.invariant in
    has_run_more c.args.pace i d c.args.state.now c.loop-made._made c.loop-made.state c.execute-step.new.state c.loop-made.parts c.execute-step.new.parts
    c.execute-step.result h c.execute-step.ensures.stepped c.in-Went.is
    (c.execute-step.ensures.after i d (ran_by c.loop-made._made c.args.state.now.mips) h.stands)

pub returns-then-pc-ne-EXIT : goal.returns-then-pc-ne-EXIT
returns-then-pc-ne-EXIT c =
    let h = c.loop-made.invariant in
    record {
      stop = goes_on c.args.pace (shape_of c.args.parts.now.icache) (shape_of c.args.parts.now.dcache) c.args.state.now c.args.limit c.loop-made._made
          c.loop-made.state c.loop-made.parts h (omega arith) (λ at. c.if-pc-ne-EXIT.true (c.pc.ensures ∙ at));
      icache = h.stands.icache_is;
      dcache = h.stands.dcache_is;
    }

pub execute-step-requires-2 : goal.execute-step-requires-2
execute-step-requires-2 c =
    run_early c.args.pace (shape_of c.args.parts.now.icache) (shape_of c.args.parts.now.dcache) c.args.state.now c.loop-made._made c.loop-made.state
    c.loop-made.parts c.loop-made.invariant c.requires.steady (omega arith)

pub returns : goal.returns
returns c =
    let i = shape_of c.args.parts.now.icache in
    let d = shape_of c.args.parts.now.dcache in
    let h = c.loop-made.invariant in
    let at_exit : c.loop-made.state.mips.pc ≡ exit_address = sym c.pc.ensures ∙ c.if-pc-ne-EXIT.false in
    let after = c.execute-step-2.ensures.after i d (ran_by c.loop-made._made c.args.state.now.mips) h.stands in
    record {
      stop = (
        c.loop-made._made,
        has_ended c.args.pace i d c.args.state.now c.args.limit c.loop-made._made c.loop-made.state c.execute-step-2.new.state
            c.loop-made.parts c.execute-step-2.new.parts c.execute-step-2.result h (omega arith) (λ e. at_exit)
            c.execute-step-2.ensures.stepped (c.execute-step-2.ensures.exit at_exit) after,
      );
      icache = after.icache_is;
      dcache = after.dcache_is;
    }
