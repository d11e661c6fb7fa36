use Rattle.std.proofs.Common.{ℕ, ◌≡◌, ◌+◌, ◌∙◌, Ok, List, length, ap, sym, subst, arith, rules}
use Rattle.std.specs.Prelude.{IsSome}
use Rattle.std.specs.List.{AllByRecursion}
use Rattle.slot_log.specs.Range.{IsInRange}
use Rattle.slot_log.specs.declared.command.Command.{Command}
use Rattle.promise_store.specs.declared.held.Held.{Held}
use Rattle.promise_store.specs.Room.{placed_in}
use Rattle.std.proofs.lemmas.Result.{err_from_is_err_and}
use Rattle.promise_store.specs.Keeping.{is_closed, held_of}
use Rattle.promise_store.specs.Shown.{vote_pair}
use Rattle.acceptor.specs.Answers.{commands_told}
use Rattle.acceptor.specs.Taken.{Read}
use Rattle.acceptor.proofs.Exits.{read_on, read_failed}
use Rattle.acceptor.proofs.RunAnswers.{command_more, command_few, command_one, command_range}
use Rattle.acceptor.proofs.telling.commands_from.Goals as goal

pub returns-in_err-found-clause-read : goal.returns-in_err-found-clause-read
returns-in_err-found-clause-read g c =
    let p = err_from_is_err_and c.from_residual.result c.from_residual.ensures.1 in
    rw (p.1, p.2) (read_failed g.D.Disk (λ held. commands_told held c.args.first c.loop-place.place) (λ held. vote_pair (held.votes (c.args.first + c.loop-place.place))) (λ held. commands_told held c.args.first c.args.count)
    c.args.store.now c.loop-place.store c.vote_at.new.store c.loop-place.told c.in_err-found.field-0.0 c.loop-place.invariant.read c.in_err-found.ensures.read
    (λ closed. c.loop-place.invariant.begin (c.loop-place.invariant.opened closed)))

pub loop-place-init : goal.loop-place-init
unfolding commands_told
loop-place-init g c = search rules

pub loop-place-preserved : goal.loop-place-preserved
loop-place-preserved g c =
    let i = c.loop-place.invariant in
    let slot = c.args.first + c.loop-place.place in
    let put = c.tell_command.ensures in
    record {
      read = read_on g.D.Disk (λ held. commands_told held c.args.first c.loop-place.place) (λ held. vote_pair (held.votes (c.args.first + c.loop-place.place))) (λ held. commands_told held c.args.first (c.loop-place.place + 1))
          c.args.store.now c.loop-place.store c.vote_at.new.store c.loop-place.told c.in_ok-found.found c.tell_command.new.told i.read c.in_ok-found.ensures.read
          (λ held before is. command_more held c.args.first c.loop-place.place c.loop-place.told c.in_ok-found.found c.tell_command.new.told put before is);
      few = omega (arith, i.few, command_few c.loop-place.told c.in_ok-found.found c.tell_command.new.told put);
      range = command_range slot c.loop-place.told c.in_ok-found.found c.tell_command.new.told put c.in_ok-found.ensures.range i.range;
      all = λ each.
          let some : IsSome (placed_in (held_of c.loop-place.store) slot) = subst (λ (h : Held). IsSome (placed_in h slot)) (sym i.read.held) (each slot (omega arith) (omega arith)) in
          omega (arith, i.all each, command_one c.loop-place.told c.in_ok-found.found (placed_in (held_of c.loop-place.store) slot) c.tell_command.new.told put c.in_ok-found.ensures.shown some);
      begin = λ e. absurd (omega (arith, e));
      opened = λ closed.
          let none = i.opened closed in
          let wrong = c.in_ok-found.ensures.closed (ap is_closed (i.begin none) ∙ closed) in absurd (cc);
    }

pub returns-clause-read : goal.returns-clause-read
returns-clause-read g c =
    let all : c.loop-place.place ≡ c.args.count = omega arith in
    let told : c.new.result ≡ c.loop-place.told = c.new.ensures ∙ c.as_slice.ensures.value in
    subst (λ (l : List Command). Read g.D.Disk (λ held. commands_told held c.args.first c.args.count) c.args.store.now c.loop-place.store (Ok l)) (sym told)
    (subst (λ (n : ℕ). Read g.D.Disk (λ held. commands_told held c.args.first n) c.args.store.now c.loop-place.store (Ok c.loop-place.told)) all c.loop-place.invariant.read)

pub returns-clause-closed : goal.returns-clause-closed
returns-clause-closed g c some closed = let none = c.loop-place.invariant.opened closed in absurd (omega (arith, none, some))

pub returns-clause-range : goal.returns-clause-range
returns-clause-range g c = subst (AllByRecursion IsInRange) (sym (c.new.ensures ∙ c.as_slice.ensures.value)) c.loop-place.invariant.range

pub returns-clause-most : goal.returns-clause-most
returns-clause-most g c = omega (arith, ap length (c.new.ensures ∙ c.as_slice.ensures.value), c.loop-place.invariant.few)

pub returns-clause-all : goal.returns-clause-all
returns-clause-all g c each = omega (arith, ap length (c.new.ensures ∙ c.as_slice.ensures.value), c.loop-place.invariant.all each)
