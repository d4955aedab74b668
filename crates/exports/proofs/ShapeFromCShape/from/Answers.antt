-- `Shape::from` of a shape that came over meets its contract. What names no policy is written out, so that another data offset is refused for what it is.
-- Assumes nothing.
use Rattle.exports.specs.Crossing.{shape_in}
use Rattle.exports.proofs.ShapeFromCShape.from.Goals as goal

pub returns-in-Err : goal.returns-in-Err
unfolding shape_in
returns-in-Err c = simp (← c.named_by.ensures, c.in-Err.is) c.shape_with-in-Err.ensures
