-- `CAnswer::from` of an answer meets its contract. What refusal 6 carries is written out, so that values that change places are refused for what they are.
-- Assumes nothing.
use Rattle.exports.proofs.CAnswerFromAnswer.from.Goals as goal

pub returns-in-OutOfBounds : goal.returns-in-OutOfBounds
returns-in-OutOfBounds c = simp c.in-OutOfBounds.is c.numbers-in-OutOfBounds.ensures
