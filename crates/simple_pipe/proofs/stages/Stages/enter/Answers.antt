use Rattle.std.proofs.Common.{◌≡◌, ◌∙◌, ap, refl, arith}
use Rattle.std.specs.Prelude.{if◌then◌else◌}
use Rattle.simple_pipe.specs.Times.{is_read, loaded_at, times_of}
use Rattle.simple_pipe.proofs.After.{entered, loaded_same}
use Rattle.simple_pipe.proofs.stages.Stages.enter.Goals as goal

pub returns : goal.returns
returns c = λ es a.
    let s = c.args.self.now in
    let e = c.args.executed in
    let loaded : c.only_if-loaded.result ≡ loaded_at e es (times_of es).write =
    c.only_if-loaded.ensures ∙ ap (λ b. if b then s.write else 0) c.requires.waits
    ∙ ap (λ o. if is_read o e.reads then s.write else 0) a.loaded ∙ loaded_same e es s.write ∙ ap (loaded_at e es) a.write in
    entered s _ e es c.only_if-loaded.result a loaded (record {
      decode = omega arith;
      read = omega arith;
      execute = omega arith;
      memory = omega arith;
      write = omega arith;
      left = omega arith;
      redirected = refl;
      redirected_next = c.only_if.ensures;
      loaded_is = c.requires.loads;
    })
