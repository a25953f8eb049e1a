use Rattle.std.proofs.Common.{◌≡◌, ◌++◌, true}
use Rattle.task_text.specs.WordsImage.{words_bytes}
use Rattle.demonstration.specs.Demonstration.{drawn, words}
use Rattle.demonstration.proofs.inputs.push_words.Given as goal

abbrev pub invariant-loop-k : goal.invariant-loop-k
invariant-loop-k l = record {
  number : l.number ≡ drawn l._k l.start;
  bytes : l.bytes ≡ l.initial.bytes ++ words_bytes true (words l._k l.start);
}
