use Rattle.visa_cli.proofs.Headline.{keeps_deadline}
use Rattle.visa_cli.proofs.Kept.{is_complete, keeps_fault_causes, keeps_memory_prefix, keeps_product, keeps_untold}
use Rattle.visa_cli.proofs.top.visa.Goals as goal

pub returns-clause-product : goal.returns-clause-product
returns-clause-product g c = keeps_product _ _ _ _ _ c.does.result c.does.ensures

pub returns-clause-memory_prefix : goal.returns-clause-memory_prefix
returns-clause-memory_prefix g c = keeps_memory_prefix _ _ _ _ _ c.does.result c.does.ensures

pub returns-clause-fault_causes : goal.returns-clause-fault_causes
returns-clause-fault_causes g c = keeps_fault_causes _ _ _ _ _ c.does.result c.does.ensures

pub returns-clause-headline : goal.returns-clause-headline
returns-clause-headline g c = keeps_deadline _ _ _ _ _ c.does.result c.does.ensures

pub returns-clause-untold : goal.returns-clause-untold
returns-clause-untold g c = keeps_untold _ _ _ _ _ c.does.result c.does.ensures

pub returns-clause-complete : goal.returns-clause-complete
returns-clause-complete g c = is_complete _ _ _ _ _ c.does.result c.does.ensures
