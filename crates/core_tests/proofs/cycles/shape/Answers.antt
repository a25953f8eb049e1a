use Rattle.std.proofs.Common.{refl, subst, lit≤}
use Rattle.std.proofs.lemmas.Option.{same_Some}
use Rattle.cache_lru.specs.Contents.{IsBuildable}
use Rattle.core_tests.proofs.cycles.shape.Goals as goal

pub returns-in-Line16 : goal.returns-in-Line16
returns-in-Line16 c = λ x e.
    subst IsBuildable (same_Some _ x e) (record { set_bits = 0; sets_are = refl; line_bits = 4; line_is = refl; few_ways = lit≤ tt })

pub returns-in-Line64 : goal.returns-in-Line64
returns-in-Line64 c = λ x e.
    subst IsBuildable (same_Some _ x e) (record { set_bits = 0; sets_are = refl; line_bits = 6; line_is = refl; few_ways = lit≤ tt })
