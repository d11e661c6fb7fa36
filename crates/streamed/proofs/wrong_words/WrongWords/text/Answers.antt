use Rattle.std.proofs.Common.{rules}
use Rattle.streamed.proofs.wrong_words.WrongWords.text.Goals as goal

pub returns-in-Incomplete : goal.returns-in-Incomplete
returns-in-Incomplete c = search rules
