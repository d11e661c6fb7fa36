use Rattle.peer_codes.proofs.HistoryLaws.{open_is_proved}
use Rattle.peer_codes.proofs.laws.open_connections_are_proved.Goals as goal

pub returns : goal.returns
returns c = open_is_proved
