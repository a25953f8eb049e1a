use Rattle.visa_cli.proofs.OneAnswer.{one_product}
use Rattle.visa_cli.proofs.laws.one_product.Goals as goal

pub returns : goal.returns
returns c = one_product
