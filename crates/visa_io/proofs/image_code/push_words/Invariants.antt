use Rattle.std.proofs.Common.{◌≡◌, ◌++◌}
use Rattle.visa_io.specs.ImageCode.{words_from}
use Rattle.visa_io.proofs.image_code.push_words.Given as goal

abbrev pub invariant-loop-k : goal.invariant-loop-k
invariant-loop-k l = l.words ≡ l.initial.words ++ words_from l.big l.bytes l.first l.k
