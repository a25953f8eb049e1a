use Rattle.std.proofs.Common.{◌≡◌, ◌<◌, ◌∙◌, ap, subst, length}
use Rattle.std.specs.Prelude.{slice_index}
use Rattle.bound_checker.specs.Marks.{mark_at}
use Rattle.bound_checker.proofs.Rows.{mask_at}
use Rattle.bound_checker.proofs.masks.Masks.may_write.Goals as goal

pub returns : goal.returns
returns c =
    mask_at c.args.self.now.functions.items c.args.self.now.marks.items c.args.function c.number_of-k.result c.args.r c.mark_at.result c.requires.rise
    (subst (λ l. c.number_of-k.result < length l) c.as_slice.ensures.value c.number_of-k.ensures.inside)
    (subst (λ l. slice_index l c.number_of-k.result ≡ c.args.function) c.as_slice.ensures.value c.number_of-k.ensures.at)
    (c.mark_at.ensures ∙ ap (λ l. mark_at l c.number_of-k.result c.args.r) c.as_slice-2.ensures.value)
