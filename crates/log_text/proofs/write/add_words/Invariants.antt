use Rattle.std.proofs.Common.{◌≡◌, ◌++◌, ◌+◌, ◌*◌, length, take}
use Rattle.log_text.specs.Lines.{words_behind}
use Rattle.log_text.proofs.write.add_words.Given as goal

abbrev pub invariant-loop-word : goal.invariant-loop-word
invariant-loop-word l = record {
  line : l.room.line ≡ l.initial.room.line ++ words_behind (take l.word-index l.words);
  len : length l.room.line ≡ length l.initial.room.line + 9 * l.word-index;
  room : l.room.room ≡ l.initial.room.room;
}
