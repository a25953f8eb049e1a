use Rattle.mips_ref.proofs.OneWay.{one_way}
use Rattle.mips_ref.proofs.laws.one_way.Goals as goal

pub returns : goal.returns
returns c = one_way
