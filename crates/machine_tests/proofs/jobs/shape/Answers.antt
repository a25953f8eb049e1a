use Rattle.std.proofs.Common.{refl, subst, lit≤}
use Rattle.std.proofs.lemmas.Option.{same_Some}
use Rattle.cache_lru.specs.Contents.{IsBuildable}
use Rattle.machine_tests.proofs.jobs.shape.Goals as goal

pub returns-in-Line : goal.returns-in-Line
returns-in-Line c = λ x e.
    subst IsBuildable (same_Some _ x e) (record { set_bits = 0; sets_are = refl; line_bits = 6; line_is = refl; few_ways = lit≤ tt })

pub returns-in-OneWay : goal.returns-in-OneWay
returns-in-OneWay c = λ x e.
    subst IsBuildable (same_Some _ x e) (record { set_bits = 0; sets_are = refl; line_bits = 4; line_is = refl; few_ways = lit≤ tt })

pub returns-in-TwoWays : goal.returns-in-TwoWays
returns-in-TwoWays c = λ x e.
    subst IsBuildable (same_Some _ x e) (record { set_bits = 0; sets_are = refl; line_bits = 4; line_is = refl; few_ways = lit≤ tt })
