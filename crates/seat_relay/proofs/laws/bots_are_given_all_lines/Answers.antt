use Rattle.seat_relay.proofs.Dealing.{bots_are_given_all_lines}
use Rattle.seat_relay.proofs.laws.bots_are_given_all_lines.Goals as goal

pub returns : goal.returns
returns c = bots_are_given_all_lines
