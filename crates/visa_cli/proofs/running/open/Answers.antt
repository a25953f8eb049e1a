use Rattle.std.proofs.Common.{◌∙◌, ap}
use Rattle.mips_ref.specs.Mips.{blank}
use Rattle.mode_states.specs.Views.{Resting}
use Rattle.visa_cli.proofs.running.open.Goals as goal

pub returns : goal.returns
unfolding blank
returns c =
    let same = c.tell_past.ensures.idle ∙ c.in_ok-runner.ensures.idle ∙ c.in_ok-idle.ensures in
    record {
      kept = ap (λ (i : Resting). i.kept) same;
      memory = ap (λ (i : Resting). i.state.mips.memory) same;
      output_max = ap (λ (i : Resting). i.state.mips.output_max) same;
      counts = c.tell_past.ensures.counts;
      ran = c.tell_past.ensures.ran ∙ c.in_ok-runner.ensures.ran;
    }
