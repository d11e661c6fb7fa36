use Rattle.std.proofs.Common.{rules}
use Rattle.acceptor.specs.Answers.{answer_to_run, accepted_run}
use Rattle.acceptor.proofs.Exits.{after_room, reads_behind}
use Rattle.acceptor.proofs.acceptor.Acceptor.on_accept_run.Goals as goal

pub returns-clause-taken : goal.returns-clause-taken
returns-clause-taken g c =
    after_room g.D.Disk (answer_to_run c.args.ballot c.args.slot c.args.commands.now) (accepted_run c.args.ballot c.args.slot c.args.commands.now)
    c.args.self.now.store c.reserve.new.self.store c.on_accept_run_reserved.new.self.store c.on_accept_run_reserved.result c.reserve.ensures.same c.on_accept_run_reserved.ensures.taken

pub on_accept_run_reserved-requires-clause-room : goal.on_accept_run_reserved-requires-clause-room
on_accept_run_reserved-requires-clause-room g c = search rules

pub returns-clause-stored : goal.returns-clause-stored
returns-clause-stored g c head held keeps honest is =
    reads_behind g.D.Disk c.args.self.now.store c.reserve.new.self.store c.on_accept_run_reserved.new.self.store c.reserve.ensures.same
    (c.on_accept_run_reserved.ensures.stored head held (c.reserve.ensures.same.keeps head held keeps) honest is)
