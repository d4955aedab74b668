-- `words::put_word` meets its contract: the eight bytes that are lent come back as the word's digits. Assumes nothing.
use mathlib.Core.Path.{◌∙◌}
use Rattle.words.proofs.Digits.{put_lent, digits_le}
use Rattle.words.proofs.put_word.Goals as goal

pub returns : goal.returns
returns c = put_lent _ _ _ _ (c.copy_from_slice.ensures.after ∙ c.to_le_bytes-bytes.ensures ∙ digits_le _)
