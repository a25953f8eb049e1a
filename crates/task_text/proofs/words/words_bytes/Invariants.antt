use Rattle.std.proofs.Common.{◌≡◌, take}
use Rattle.task_text.specs.WordsImage.{words_bytes}
use Rattle.task_text.proofs.words.words_bytes.Given as goal

abbrev pub invariant-loop-w : goal.invariant-loop-w
invariant-loop-w l = l.bytes.items ≡ words_bytes l.big (take l.w-index l.words)
