-- What the check tells.
use Rattle.std.proofs.Common.{◌≡◌, sym, subst, List, Option, Some, None}
use Rattle.std.specs.Prelude.{Result}
use Rattle.visa_io.specs.declared.records.Code.{Code}
use Rattle.visa_io.specs.declared.records.FactLine.{FactLine}
use Rattle.flow_graph.specs.Flow.{Flow}
use Rattle.range_facts.specs.declared.facts.Facts.{Facts}
use Rattle.bound_checker.specs.Answer.{IsAnswer, IsCheck, IsProved, told_of}
use Rattle.bound_checker.specs.Gone.{IsFaultOf, mask_in}
use Rattle.bound_checker.specs.declared.check.Proved.{Proved}
use Rattle.bound_checker.specs.declared.fault.FactFault.{FactFault}
use Rattle.bound_checker.specs.declared.place.Lost.{Lost}

answer : (code : Code) (g : Flow) (lines : List FactLine) (opening : Facts) (p : Proved) (found : Option Lost) → IsProved code g lines p → IsCheck code g lines opening found → IsAnswer code g lines opening (told_of p found)
answer code g lines opening p None proved check = (proved, check)
answer code g lines opening p (Some t) proved check = check

pub answer_is : (code : Code) (g : Flow) (lines : List FactLine) (opening : Facts) (p : Proved) (found : Option Lost) (r : Result Proved FactFault) → IsProved code g lines p → IsCheck code g lines opening found → r ≡ told_of p found
    → IsAnswer code g lines opening r
answer_is code g lines opening p found r proved check same = subst (λ x. IsAnswer code g lines opening x) (sym same) (answer code g lines opening p found proved check)

pub check_is : (code : Code) (g : Flow) (lines : List FactLine) (opening : Facts) (p : Proved) (found : Option Lost) → IsProved code g lines p → IsFaultOf code g lines p.masks opening found → IsCheck code g lines opening found
check_is code g lines opening p found proved fault = record { mask = mask_in p.masks; masks = proved.masks_are; is = fault }
