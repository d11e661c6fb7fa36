use Rattle.std.proofs.Common.{ℕ, ◌≡◌, ◌+◌, ◌<◌, ◌≤◌, List, sym, ◌∙◌, ap, subst, Err, length, take, refl, arith}
use Rattle.std.specs.Prelude.{IsSome}
use Rattle.std.proofs.lemmas.List.{length-take-le}
use Rattle.std.proofs.lemmas.Result.{err_from_is_err_and}
use Rattle.slot_log.specs.declared.command.Command.{Command}
use Rattle.paxos_wire.specs.Fits.{IsCommandRun}
use Rattle.promise_store.specs.declared.held.Held.{Held}
use Rattle.promise_store.specs.Room.{placed_in}
use Rattle.promise_store.specs.Keeping.{held_of}
use Rattle.promise_store.specs.declared.records.Record.TheVariants.{Voted}
use Rattle.acceptor.specs.declared.answers.RunAnswer.TheVariants.{Accepted}
use Rattle.acceptor.specs.Answers.{commands_told, is_placed_in, answer_to_run, accepted_run}
use Rattle.acceptor.proofs.Exits.{read_seen, not_read, answered, appended, not_appended}
use Rattle.acceptor.proofs.RunAnswers.{none_placed, placed_some, begins, by_index_stored, by_index_told, by_index_fresh, run_fits, taken_fits}
use Rattle.acceptor.proofs.acceptor.Acceptor.on_accept_run_reserved.Goals as goal

pub returns-in_err-stored-clause-taken : goal.returns-in_err-stored-clause-taken
returns-in_err-stored-clause-taken g c =
    let p = err_from_is_err_and c.from_residual.result c.from_residual.ensures.1 in
    rw (p.1, p.2) (not_read g.D.Disk (λ held. commands_told held c.args.slot c.beginning_of-count.result) (answer_to_run c.args.ballot c.args.slot c.args.commands.now) (accepted_run c.args.ballot c.args.slot c.args.commands.now)
    c.args.self.now.store c.commands_from.new.store c.in_err-stored.field-0.0 c.what_is_kept_is_left.ensures c.in_err-stored.ensures.read)

pub returns-then-voted-clause-taken : goal.returns-then-voted-clause-taken
returns-then-voted-clause-taken g c =
    answered g.D.Disk (λ held. commands_told held c.args.slot c.beginning_of-count.result) (answer_to_run c.args.ballot c.args.slot c.args.commands.now) (accepted_run c.args.ballot c.args.slot c.args.commands.now)
    c.args.self.now.store c.commands_from.new.store c.in_ok-stored.stored (Accepted c.args.ballot c.args.slot c.in_ok-stored.stored) c.what_is_kept_is_left.ensures c.in_ok-stored.ensures.read
    (λ head held keeps honest is. by_index_stored c.args.ballot held c.held-held.result.now (c.held-held.ensures.votes head held keeps honest) c.promised-promise.result
    (c.promised-promise.ensures ∙ c.held-held.ensures.promise head held keeps honest) (sym c.is_below.ensures ∙ c.if-is_below.false) c.args.slot c.args.commands.now c.beginning_of-count.result
    c.beginning_of-count.ensures.most c.is_voted-voted.result c.is_voted-voted.ensures c.beginning_of-count.ensures.alike c.beginning_of-count.ensures.ends c.if-voted.true c.in_ok-stored.stored is)

pub returns-in_err-accept_run_reserved-clause-taken : goal.returns-in_err-accept_run_reserved-clause-taken
returns-in_err-accept_run_reserved-clause-taken g c =
    let store = c.args.self.now.store in
    let cs = c.args.commands.now in
    let count = c.beginning_of-count.result in
    let p = err_from_is_err_and c.from_residual-in_err-accept_run_reserved.result c.from_residual-in_err-accept_run_reserved.ensures.1 in
    rw (p.1, p.2) (not_appended g.D.Disk {U = Unit {0}} (λ held. tt) (answer_to_run c.args.ballot c.args.slot cs) (accepted_run c.args.ballot c.args.slot cs) (Voted c.args.ballot c.args.slot (take count cs))
    store store c.accept_run_reserved.new.self tt c.what_is_kept_is_left.ensures (read_seen g.D.Disk {T = Unit {0}} (λ held. tt) store tt (λ head held keeps honest. refl))
    (λ head held keeps honest. by_index_fresh c.args.ballot held c.held-held.result.now (c.held-held.ensures.votes head held keeps honest) c.promised-promise.result
    (c.promised-promise.ensures ∙ c.held-held.ensures.promise head held keeps honest) (sym c.is_below.ensures ∙ c.if-is_below.false) c.args.slot cs count
    c.beginning_of-count.ensures.most c.is_voted-voted.result c.is_voted-voted.ensures c.beginning_of-count.ensures.alike c.beginning_of-count.ensures.ends c.if-voted.false c.records_are_moves.ensures.votes c.requires.run.least
    (c.held-held.ensures.within head held keeps))
    c.in_err-accept_run_reserved.field-0.0 c.in_err-accept_run_reserved.ensures.appended (λ e. c.in_err-accept_run_reserved.ensures.memory (ap Err e)))

pub returns-clause-taken : goal.returns-clause-taken
returns-clause-taken g c =
    let store = c.args.self.now.store in
    let cs = c.args.commands.now in
    let count = c.beginning_of-count.result in
    appended g.D.Disk {U = Unit {0}} (λ held. tt) (answer_to_run c.args.ballot c.args.slot cs) (accepted_run c.args.ballot c.args.slot cs) (Voted c.args.ballot c.args.slot (take count cs))
    store store c.accept_run_reserved.new.self tt c.what_is_kept_is_left.ensures (read_seen g.D.Disk {T = Unit {0}} (λ held. tt) store tt (λ head held keeps honest. refl))
    (λ head held keeps honest. by_index_fresh c.args.ballot held c.held-held.result.now (c.held-held.ensures.votes head held keeps honest) c.promised-promise.result
    (c.promised-promise.ensures ∙ c.held-held.ensures.promise head held keeps honest) (sym c.is_below.ensures ∙ c.if-is_below.false) c.args.slot cs count
    c.beginning_of-count.ensures.most c.is_voted-voted.result c.is_voted-voted.ensures c.beginning_of-count.ensures.alike c.beginning_of-count.ensures.ends c.if-voted.false c.records_are_moves.ensures.votes c.requires.run.least
    (c.held-held.ensures.within head held keeps))
    c.in_ok-accept_run_reserved.field-0 (Accepted c.args.ballot c.args.slot c.new.result) c.in_ok-accept_run_reserved.ensures.appended
    (λ head held keeps honest is. by_index_told c.args.ballot held c.held-held.result.now (c.held-held.ensures.votes head held keeps honest) c.promised-promise.result
    (c.promised-promise.ensures ∙ c.held-held.ensures.promise head held keeps honest) (sym c.is_below.ensures ∙ c.if-is_below.false) c.args.slot cs count
    c.beginning_of-count.ensures.most c.is_voted-voted.result c.is_voted-voted.ensures c.beginning_of-count.ensures.alike c.beginning_of-count.ensures.ends c.if-voted.false c.new.result c.new.ensures)

pub returns-then-voted-clause-fits : goal.returns-then-voted-clause-fits
returns-then-voted-clause-fits g c =
    let b = c.args.ballot in
    let index = c.held-held.result.now in
    let count = c.beginning_of-count.result in
    let some = begins (λ k. is_placed_in b (placed_in index k)) c.args.slot count (length c.args.commands.now) c.is_voted-voted.result c.is_voted-voted.ensures c.requires.run.least c.beginning_of-count.ensures.ends in
    let each : (k : ℕ) → c.args.slot ≤ k → k < c.args.slot + count → IsSome (placed_in (held_of c.args.self.now.store) k) = λ k from to. subst (λ (h : Held). IsSome (placed_in h k)) c.held-held.ensures.value (placed_some b (placed_in index k) (c.beginning_of-count.ensures.alike k from to ∙ c.if-voted.true)) in (
      refl,
      refl,
      run_fits c.args.slot count c.args.commands.now c.in_ok-stored.stored c.requires.run c.beginning_of-count.ensures.most some (c.in_ok-stored.ensures.all each) c.in_ok-stored.ensures.range,
      (let long = c.in_ok-stored.ensures.most in let few = c.beginning_of-count.ensures.most in omega (arith, long, few)),
    )

pub accept_run_reserved-requires-clause-run : goal.accept_run_reserved-requires-clause-run
accept_run_reserved-requires-clause-run g c =
    let b = c.args.ballot in
    let count = c.beginning_of-count.result in
    let cs = c.args.commands.now in
    let some = begins (λ k. is_placed_in b (placed_in c.held-held.result.now k)) c.args.slot count (length cs) c.is_voted-voted.result c.is_voted-voted.ensures c.requires.run.least c.beginning_of-count.ensures.ends in
    taken_fits c.args.slot count cs c.requires.run c.beginning_of-count.ensures.most some

pub returns-clause-fits : goal.returns-clause-fits
returns-clause-fits g c =
    let b = c.args.ballot in
    let count = c.beginning_of-count.result in
    let cs = c.args.commands.now in
    let some = begins (λ k. is_placed_in b (placed_in c.held-held.result.now k)) c.args.slot count (length cs) c.is_voted-voted.result c.is_voted-voted.ensures c.requires.run.least c.beginning_of-count.ensures.ends in (
      refl,
      refl,
      subst (IsCommandRun c.args.slot) (sym c.new.ensures) (taken_fits c.args.slot count cs c.requires.run c.beginning_of-count.ensures.most some),
      (let same : length c.new.result ≡ length (take count cs) = ap (λ (l : List Command). length l) c.new.ensures in
          let long = length-take-le count cs c.beginning_of-count.ensures.most in let few = c.beginning_of-count.ensures.most in omega (arith, same, long, few)),
    )

pub returns-in_err-stored-clause-stored : goal.returns-in_err-stored-clause-stored
returns-in_err-stored-clause-stored g c head held keeps honest is = c.in_err-stored.ensures.read.reads

pub returns-then-voted-clause-stored : goal.returns-then-voted-clause-stored
returns-then-voted-clause-stored g c head held keeps honest is = c.in_ok-stored.ensures.read.reads

pub returns-in_err-accept_run_reserved-clause-stored : goal.returns-in_err-accept_run_reserved-clause-stored
returns-in_err-accept_run_reserved-clause-stored g c head held keeps honest is =
    absurd (none_placed c.args.ballot (placed_in c.held-held.result.now c.args.slot) (held.votes c.args.slot) c.is_voted-voted.result
    (c.held-held.ensures.votes head held keeps honest c.args.slot) c.is_voted-voted.ensures c.if-voted.false is)

pub returns-clause-stored : goal.returns-clause-stored
returns-clause-stored g c head held keeps honest is =
    absurd (none_placed c.args.ballot (placed_in c.held-held.result.now c.args.slot) (held.votes c.args.slot) c.is_voted-voted.result
    (c.held-held.ensures.votes head held keeps honest c.args.slot) c.is_voted-voted.ensures c.if-voted.false is)
