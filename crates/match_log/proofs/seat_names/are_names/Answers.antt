use Rattle.std.proofs.Common.{rules}
use Rattle.match_log.proofs.seat_names.are_names.Goals as goal

pub returns-then-names-players : goal.returns-then-names-players
returns-then-names-players c = search rules
