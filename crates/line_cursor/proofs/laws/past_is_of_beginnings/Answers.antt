use Rattle.line_cursor.proofs.PastHands.{past_is_a_beginning, beginnings_are_past}
use Rattle.line_cursor.proofs.laws.past_is_of_beginnings.Goals as goal

pub returns : goal.returns
returns c = record { beginning = past_is_a_beginning; found = beginnings_are_past }
