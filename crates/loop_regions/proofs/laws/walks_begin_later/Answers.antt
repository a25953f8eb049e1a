use Rattle.loop_regions.proofs.Stack.{also}
use Rattle.loop_regions.proofs.laws.walks_begin_later.Goals as goal

pub returns : goal.returns
returns c = λ g u tail es walk. (also g u tail es walk).walk
