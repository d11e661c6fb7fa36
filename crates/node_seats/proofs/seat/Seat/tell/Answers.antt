use Rattle.std.proofs.Common.{◌≡◌, None, refl, rules}
use Rattle.node_seats.proofs.Telling.{says_told}
use Rattle.node_seats.proofs.seat.Seat.tell.Goals as goal

pub returns-in-Some-clause-says : goal.returns-in-Some-clause-says
returns-in-Some-clause-says c =
    let none : c.args.self.now.bot.parting ≡ None = search rules in
    says_told c.args.table.now c.args.number c.args.self.now.bot _ c.in-Some.telling c.tell_lines.new.telling _ _ c.requires.sits c.in-Some.is none refl c.tell_lines.ensures.tells
