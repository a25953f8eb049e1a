use Rattle.std.proofs.Common.{◌≡◌, ◌%◌, ◌^◌, take}
use Rattle.std.specs.List.{sum}
use Rattle.visa_cli.proofs.demonstrating.sum_of.Given as goal

-- the sum of the words before it
abbrev pub invariant-loop-word : goal.invariant-loop-word
invariant-loop-word l = record { total : l.total ≡ sum (take l.word-index l.words) % 2 ^ 32 }
