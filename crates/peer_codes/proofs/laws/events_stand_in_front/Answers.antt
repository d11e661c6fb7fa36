use Rattle.peer_codes.proofs.TellingLaws.{event_told}
use Rattle.peer_codes.proofs.laws.events_stand_in_front.Goals as goal

pub returns : goal.returns
returns c = event_told
