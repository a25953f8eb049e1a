use Rattle.std.proofs.Common.{arith}
use Rattle.frequency_pick.proofs.Kept.{kept_changed, stands_more}
use Rattle.frequency_pick.proofs.history.History.push.Goals as goal

pub returns-clause-kept : goal.returns-clause-kept
returns-clause-kept c = kept_changed c.self.inside.rings.items _ _ _ _ _ c.self.view_is (omega (arith, c.requires.least, c.requires.most)) c.index_mut.ensures.value c.put.ensures.items

pub returns-clause-stands : goal.returns-clause-stands
returns-clause-stands c = λ cs stands. stands_more _ _ _ _ cs c.requires.least c.requires.most (returns-clause-kept c) stands
