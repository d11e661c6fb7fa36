use Rattle.line_cursor.proofs.Staying.{others_stay}
use Rattle.line_cursor.proofs.laws.others_stay.Goals as goal

pub returns : goal.returns
returns c = others_stay c.commands_make_hands.ensures
