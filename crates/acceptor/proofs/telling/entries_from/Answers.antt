use Rattle.std.proofs.Common.{ℕ, ◌≡◌, ◌+◌, ◌∙◌, Ok, ap, subst, arith, rules}
use Rattle.std.proofs.lemmas.Result.{err_from_is_err_and}
use Rattle.paxos_wire.specs.Fits.{Rise}
use Rattle.promise_store.specs.Keeping.{is_closed}
use Rattle.promise_store.specs.Shown.{vote_pair}
use Rattle.protocol_model.specs.Votes.{told_from, told_by}
use Rattle.acceptor.specs.Taken.{Read}
use Rattle.acceptor.proofs.Exits.{read_on, read_failed}
use Rattle.acceptor.proofs.Stored.{told_more}
use Rattle.acceptor.proofs.Told.{more_fit}
use Rattle.acceptor.proofs.telling.entries_from.Goals as goal

pub returns-in_err-found-clause-read : goal.returns-in_err-found-clause-read
returns-in_err-found-clause-read g c =
    let p = err_from_is_err_and c.from_residual.result c.from_residual.ensures.1 in
    rw (p.1, p.2) (read_failed g.D.Disk (λ held. told_from held c.args.first c.loop-place.place) (λ held. vote_pair (held.votes (c.args.first + c.loop-place.place))) (λ held. told_by held c.args.first)
    c.args.store.now c.loop-place.store c.vote_at.new.store c.loop-place.entries c.in_err-found.field-0.0 c.loop-place.invariant.read c.in_err-found.ensures.read
    (λ closed. c.loop-place.invariant.begin (c.loop-place.invariant.opened closed)))

pub loop-place-init : goal.loop-place-init
unfolding told_from
loop-place-init g c = search rules

pub loop-place-preserved : goal.loop-place-preserved
loop-place-preserved g c = let fit = more_fit c.args.first c.loop-place.place c.loop-place.entries c.push_entry.new.entries c.in_ok-found.found c.push_entry.ensures.entries c.loop-place.invariant.each c.loop-place.invariant.rise c.in_ok-found.ensures.range in record {
  read = read_on g.D.Disk (λ held. told_from held c.args.first c.loop-place.place) (λ held. vote_pair (held.votes (c.args.first + c.loop-place.place))) (λ held. told_from held c.args.first (c.loop-place.place + 1))
      c.args.store.now c.loop-place.store c.vote_at.new.store c.loop-place.entries c.in_ok-found.found c.push_entry.new.entries c.loop-place.invariant.read c.in_ok-found.ensures.read
      (λ held before is. told_more held c.args.first c.loop-place.place c.loop-place.entries c.in_ok-found.found c.push_entry.new.entries c.push_entry.ensures.entries before is);
  each = fit.0;
  rise = fit.1;
  begin = λ e. absurd (omega (arith, e));
  opened = λ closed.
      let none = c.loop-place.invariant.opened closed in
      let wrong = c.in_ok-found.ensures.closed (ap is_closed (c.loop-place.invariant.begin none) ∙ closed) in absurd (cc);
  few = let less = c.loop-place.invariant.few in let more = c.push_entry.ensures.few in omega (arith, less, more);
}

pub returns-clause-read : goal.returns-clause-read
returns-clause-read g c =
    let all : c.loop-place.place ≡ 64 = omega arith in
    subst (λ (n : ℕ). Read g.D.Disk (λ held. told_from held c.args.first n) c.args.store.now c.loop-place.store (Ok c.loop-place.entries)) all c.loop-place.invariant.read

pub returns-clause-closed : goal.returns-clause-closed
returns-clause-closed g c closed = let none = c.loop-place.invariant.opened closed in absurd (omega (arith, none))

pub returns-clause-range : goal.returns-clause-range
returns-clause-range g c =
    let all : c.loop-place.place ≡ 64 = omega arith in
    let few = c.loop-place.invariant.few in
    record {
      most = omega (arith, few);
      each = c.loop-place.invariant.each;
      rise = subst (λ (n : ℕ). Rise c.args.first (c.args.first + n) c.loop-place.entries) all c.loop-place.invariant.rise;
    }
