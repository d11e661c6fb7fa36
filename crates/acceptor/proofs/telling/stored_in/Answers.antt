use Rattle.std.proofs.Common.{Option, Some, refl, sym, ◌∙◌, ap, subst}
use Rattle.std.proofs.lemmas.Result.{err_from_is_err_and}
use Rattle.std.specs.Prelude.{IfSome}
use Rattle.paxos_wire.specs.Fits.{IsInRange}
use Rattle.slot_log.specs.declared.command.Command.{Command}
use Rattle.promise_store.specs.Shown.{vote_pair, vote_ballot, placed_ballot}
use Rattle.acceptor.specs.Answers.{stored_command}
use Rattle.acceptor.proofs.Exits.{read_seen, read_on, read_failed}
use Rattle.acceptor.proofs.Stored.{this_stored}
use Rattle.acceptor.proofs.Told.{command_fits}
use Rattle.acceptor.proofs.telling.stored_in.Goals as goal

pub returns-in_err-found-clause-read : goal.returns-in_err-found-clause-read
returns-in_err-found-clause-read g c =
    let p = err_from_is_err_and c.from_residual.result c.from_residual.ensures.1 in
    rw (p.1, p.2) (read_failed g.D.Disk (λ held. vote_ballot (held.votes c.args.slot)) (λ held. vote_pair (held.votes c.args.slot)) (λ held. stored_command c.args.ballot (held.votes c.args.slot))
    c.args.store.now c.args.store.now c.vote_at.new.store (Some c.in-Some.placed.ballot) c.in_err-found.field-0.0
    (read_seen g.D.Disk (λ held. vote_ballot (held.votes c.args.slot)) c.args.store.now (Some c.in-Some.placed.ballot)
    (λ head held keeps honest. ap placed_ballot (sym c.in-Some.is ∙ c.find.ensures) ∙ c.held.ensures.votes head held keeps honest c.args.slot))
    c.in_err-found.ensures.read (λ closed. refl))

pub returns-clause-read : goal.returns-clause-read
returns-clause-read g c =
    read_on g.D.Disk (λ held. vote_ballot (held.votes c.args.slot)) (λ held. vote_pair (held.votes c.args.slot)) (λ held. stored_command c.args.ballot (held.votes c.args.slot))
    c.args.store.now c.args.store.now c.vote_at.new.store (Some c.in-Some.placed.ballot) c.in_ok-found.found c.command_of.result
    (read_seen g.D.Disk (λ held. vote_ballot (held.votes c.args.slot)) c.args.store.now (Some c.in-Some.placed.ballot)
    (λ head held keeps honest. ap placed_ballot (sym c.in-Some.is ∙ c.find.ensures) ∙ c.held.ensures.votes head held keeps honest c.args.slot))
    c.in_ok-found.ensures.read
    (λ held one found. c.command_of.ensures ∙ this_stored c.args.ballot c.in-Some.placed (held.votes c.args.slot) c.in_ok-found.found one (sym c.is_same.ensures ∙ c.if-not-is_same.false) found)

pub returns-clause-range : goal.returns-clause-range
returns-clause-range g c = subst (λ (o : Option Command). IfSome o IsInRange) (sym c.command_of.ensures) (command_fits c.args.slot c.in_ok-found.found c.in_ok-found.ensures.range)
