use Rattle.std.proofs.Common.{◌≡◌, ◌++◌}
use Rattle.mips_text.specs.Faults.{IsFault, IsWord, OpensWord}
use Rattle.mips_text.proofs.TargetsRead.{ok_map, err_map}
use Rattle.mips_text.proofs.WordsRead.{word_more, word_fault}
use Rattle.mips_text.proofs.word.+word.Goals as goal

pub returns-clause-found : goal.returns-clause-found
returns-clause-found t c = ok_map c.word.result _ (λ rest. c.args.text.now ≡ c.args.letters.now ++ rest.now) (λ rest e. word_more c.args.letters.now c.args.text.now rest.now c.in-len1-up.len_at_least c.in-len1-up-text.len_at_least c.if-first-letter.false e) c.word.ensures.found

pub returns-clause-fault : goal.returns-clause-fault
returns-clause-fault t c =
    err_map c.word.result _ (λ rest. IsFault (IsWord c.args.letters.now) (OpensWord c.args.letters.now) c.args.text.now rest.now) (λ rest f. word_fault c.args.letters.now c.args.text.now rest.now c.in-len1-up.len_at_least c.in-len1-up-text.len_at_least c.if-first-letter.false f) c.word.ensures.fault
