use Rattle.std.proofs.Common.{◌∷◌, [], sym, ◌∙◌, ap, Err}
use Rattle.std.proofs.lemmas.Result.{err_from_is_err_and}
use Rattle.promise_store.specs.declared.records.Record.TheVariants.{Voted}
use Rattle.acceptor.specs.declared.answers.AcceptAnswer.TheVariants.{Accepted}
use Rattle.acceptor.specs.Answers.{stored_command, answer_to_accept, accepted}
use Rattle.acceptor.proofs.Exits.{not_read, answered, appended, not_appended}
use Rattle.acceptor.proofs.Stored.{vote_in, was_stored, is_stored, is_told}
use Rattle.acceptor.proofs.acceptor.Acceptor.on_accept_reserved.Goals as goal

pub returns-in_err-stored-clause-taken : goal.returns-in_err-stored-clause-taken
returns-in_err-stored-clause-taken g c =
    let p = err_from_is_err_and c.from_residual.result c.from_residual.ensures.1 in
    rw (p.1, p.2) (not_read g.D.Disk (λ held. stored_command c.args.ballot (held.votes c.args.slot)) (answer_to_accept c.args.ballot c.args.slot c.args.command) (accepted c.args.ballot c.args.slot c.args.command)
    c.args.self.now.store c.stored_in.new.store c.in_err-stored.field-0.0 c.what_is_kept_is_left.ensures c.in_err-stored.ensures.read)

pub returns-in-Some-clause-taken : goal.returns-in-Some-clause-taken
returns-in-Some-clause-taken g c =
    answered g.D.Disk (λ held. stored_command c.args.ballot (held.votes c.args.slot)) (answer_to_accept c.args.ballot c.args.slot c.args.command) (accepted c.args.ballot c.args.slot c.args.command)
    c.args.self.now.store c.stored_in.new.store c.in_ok-stored.field-0 (Accepted c.args.ballot c.args.slot c.in-Some.stored) c.what_is_kept_is_left.ensures c.in_ok-stored.ensures.read
    (λ head held keeps honest is. was_stored c.args.ballot c.args.slot c.args.command held c.promised-promised.result c.in-Some.stored
    (c.promised-promised.ensures ∙ c.held.ensures.promise head held keeps honest) (sym c.is_below.ensures ∙ c.if-is_below.false) (sym c.in-Some.is ∙ is))

pub returns-in_err-accept_reserved-clause-taken : goal.returns-in_err-accept_reserved-clause-taken
returns-in_err-accept_reserved-clause-taken g c =
    let p = err_from_is_err_and c.from_residual-in_err-accept_reserved.result c.from_residual-in_err-accept_reserved.ensures.1 in
    rw (p.1, p.2) (not_appended g.D.Disk (λ held. stored_command c.args.ballot (held.votes c.args.slot)) (answer_to_accept c.args.ballot c.args.slot c.args.command) (accepted c.args.ballot c.args.slot c.args.command)
    (Voted c.args.ballot c.args.slot (c.args.command ∷ [])) c.args.self.now.store c.stored_in.new.store c.accept_reserved.new.self c.in_ok-stored.field-0 c.what_is_kept_is_left.ensures c.in_ok-stored.ensures.read
    (λ head held keeps honest. is_stored c.args.ballot c.args.slot c.args.command held c.records_are_moves.ensures.votes c.promised-promised.result
    (c.promised-promised.ensures ∙ c.held.ensures.promise head held keeps honest) (sym c.is_below.ensures ∙ c.if-is_below.false)
    (sym c.in_default.is ∙ (c.in_ok-stored.ensures.read.ok head held keeps honest).0) (c.held.ensures.within head held keeps))
    c.in_err-accept_reserved.field-0.0 c.in_err-accept_reserved.ensures.appended (λ e. c.in_err-accept_reserved.ensures.memory (ap Err e)))

pub returns-clause-taken : goal.returns-clause-taken
returns-clause-taken g c =
    appended g.D.Disk (λ held. stored_command c.args.ballot (held.votes c.args.slot)) (answer_to_accept c.args.ballot c.args.slot c.args.command) (accepted c.args.ballot c.args.slot c.args.command)
    (Voted c.args.ballot c.args.slot (c.args.command ∷ [])) c.args.self.now.store c.stored_in.new.store c.accept_reserved.new.self c.in_ok-stored.field-0 c.what_is_kept_is_left.ensures c.in_ok-stored.ensures.read
    (λ head held keeps honest. is_stored c.args.ballot c.args.slot c.args.command held c.records_are_moves.ensures.votes c.promised-promised.result
    (c.promised-promised.ensures ∙ c.held.ensures.promise head held keeps honest) (sym c.is_below.ensures ∙ c.if-is_below.false)
    (sym c.in_default.is ∙ (c.in_ok-stored.ensures.read.ok head held keeps honest).0) (c.held.ensures.within head held keeps))
    c.in_ok-accept_reserved.field-0 (Accepted c.args.ballot c.args.slot c.args.command) c.in_ok-accept_reserved.ensures.appended
    (λ head held keeps honest is. is_told c.args.ballot c.args.slot c.args.command held c.promised-promised.result
    (c.promised-promised.ensures ∙ c.held.ensures.promise head held keeps honest) (sym c.is_below.ensures ∙ c.if-is_below.false) (sym c.in_default.is ∙ is))

pub returns-in_err-stored-clause-stored : goal.returns-in_err-stored-clause-stored
returns-in_err-stored-clause-stored g c head held keeps honest is = c.in_err-stored.ensures.read.reads

pub returns-in-Some-clause-stored : goal.returns-in-Some-clause-stored
returns-in-Some-clause-stored g c head held keeps honest is = c.in_ok-stored.ensures.read.reads

pub returns-in_err-accept_reserved-clause-stored : goal.returns-in_err-accept_reserved-clause-stored
returns-in_err-accept_reserved-clause-stored g c head held keeps honest is =
    absurd (vote_in c.args.ballot (held.votes c.args.slot) (sym c.in_default.is ∙ (c.in_ok-stored.ensures.read.ok head held keeps honest).0) is)

pub returns-clause-stored : goal.returns-clause-stored
returns-clause-stored g c head held keeps honest is =
    absurd (vote_in c.args.ballot (held.votes c.args.slot) (sym c.in_default.is ∙ (c.in_ok-stored.ensures.read.ok head held keeps honest).0) is)
