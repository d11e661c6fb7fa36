use Rattle.peer_codes.proofs.Saying.{coded_in}
use Rattle.peer_codes.proofs.connection.Connection.start_frame.Goals as goal

pub returns-in-Open : goal.returns-in-Open
returns-in-Open c = coded_in c.args.self.now c.in-Open.ways c.start_frame.new.way c.start_frame.new.self c.args.frame.now c.in-Open.is c.requires.free c.start_frame.ensures.out c.start_frame.ensures.way
