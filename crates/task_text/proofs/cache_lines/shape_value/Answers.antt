use Rattle.task_text.proofs.Shapes.{shape_fits, shape_unfit}
use Rattle.task_text.proofs.cache_lines.shape_value.Goals as goal

pub returns-then-is_shape : goal.returns-then-is_shape
returns-then-is_shape c = shape_fits _ _ _ _ _ _ _ _ _ c.in-Some.ensures c.in-Some-word_in.ensures c.in-Some-word_in-2.ensures c.if-is_shape.ensures

pub returns-else-is_shape : goal.returns-else-is_shape
returns-else-is_shape c = shape_unfit _ _ _ _ _ _ _ _ _ c.in-Some.ensures c.in-Some-word_in.ensures c.in-Some-word_in-2.ensures c.if-is_shape.ensures
