use Rattle.std.proofs.Common.{refl, subst, lit≤}
use Rattle.std.proofs.lemmas.Option.{same_Some}
use Rattle.cache_lru.specs.Contents.{IsBuildable}
use Rattle.admission.proofs.Grounds.{rising}
use Rattle.analysis_tests.proofs.walks.charge_text.Goals as goal

pub charge-requires-clause-rising : goal.charge-requires-clause-rising
charge-requires-clause-rising c = rising c.args.given.now.code 0x400000 c.args.found.now.graph c.requires.graph

pub charge-requires-clause-shape : goal.charge-requires-clause-shape
charge-requires-clause-shape c = λ x e.
    subst IsBuildable (same_Some _ x e) (record { set_bits = 0; sets_are = refl; line_bits = 4; line_is = refl; few_ways = lit≤ tt })
