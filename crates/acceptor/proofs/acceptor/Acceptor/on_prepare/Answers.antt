use Rattle.std.proofs.Common.{sym, ◌∙◌, ap, Err}
use Rattle.std.proofs.lemmas.Result.{err_from_is_err_and}
use Rattle.promise_store.specs.declared.records.Record.TheVariants.{Promised}
use Rattle.acceptor.specs.declared.answers.PrepareAnswer.TheVariants.{Promise}
use Rattle.protocol_model.specs.Votes.{told_by}
use Rattle.acceptor.specs.Answers.{answer_to_prepare, prepared}
use Rattle.acceptor.proofs.Exits.{not_read, appended, not_appended}
use Rattle.acceptor.proofs.Stored.{prepared_is, promise_is}
use Rattle.acceptor.proofs.acceptor.Acceptor.on_prepare.Goals as goal

pub returns-in_err-entries-clause-taken : goal.returns-in_err-entries-clause-taken
returns-in_err-entries-clause-taken g c =
    let p = err_from_is_err_and c.from_residual.result c.from_residual.ensures.1 in
    rw (p.1, p.2) (not_read g.D.Disk (λ held. told_by held c.args.slot) (answer_to_prepare c.args.ballot c.args.slot) (prepared c.args.ballot) c.args.self.now.store c.entries_from.new.store
    c.in_err-entries.field-0.0 c.what_is_kept_is_left.ensures c.in_err-entries.ensures.read)

pub returns-in_err-promise-clause-taken : goal.returns-in_err-promise-clause-taken
returns-in_err-promise-clause-taken g c =
    let p = err_from_is_err_and c.from_residual-in_err-promise.result c.from_residual-in_err-promise.ensures.1 in
    rw (p.1, p.2) (not_appended g.D.Disk (λ held. told_by held c.args.slot) (answer_to_prepare c.args.ballot c.args.slot) (prepared c.args.ballot) (Promised c.args.ballot)
    c.args.self.now.store c.entries_from.new.store c.promise.new.self c.in_ok-entries.entries c.what_is_kept_is_left.ensures c.in_ok-entries.ensures.read
    (λ head held keeps honest. prepared_is c.records_are_moves.ensures.promise held c.args.ballot c.promised-promised.result
    (c.promised-promised.ensures ∙ c.held.ensures.promise head held keeps honest) (sym c.is_below.ensures ∙ c.if-not-is_below.false))
    c.in_err-promise.field-0.0 c.in_err-promise.ensures.appended (λ e. c.in_err-promise.ensures.memory (ap Err e)))

pub returns-clause-taken : goal.returns-clause-taken
returns-clause-taken g c =
    appended g.D.Disk (λ held. told_by held c.args.slot) (answer_to_prepare c.args.ballot c.args.slot) (prepared c.args.ballot) (Promised c.args.ballot)
    c.args.self.now.store c.entries_from.new.store c.promise.new.self c.in_ok-entries.entries c.what_is_kept_is_left.ensures c.in_ok-entries.ensures.read
    (λ head held keeps honest. prepared_is c.records_are_moves.ensures.promise held c.args.ballot c.promised-promised.result
    (c.promised-promised.ensures ∙ c.held.ensures.promise head held keeps honest) (sym c.is_below.ensures ∙ c.if-not-is_below.false))
    c.in_ok-promise.field-0 (Promise c.args.ballot c.args.slot c.in_ok-entries.entries) c.in_ok-promise.ensures.appended
    (λ head held keeps honest is. promise_is held c.args.ballot c.promised-promised.result c.args.slot c.in_ok-entries.entries
    (c.promised-promised.ensures ∙ c.held.ensures.promise head held keeps honest) (sym c.is_below.ensures ∙ c.if-not-is_below.false) is)
