use Rattle.line_cursor.proofs.Names.{lines_name_their_places}
use Rattle.line_cursor.proofs.laws.lines_name_their_places.Goals as goal

pub returns : goal.returns
returns c = lines_name_their_places
