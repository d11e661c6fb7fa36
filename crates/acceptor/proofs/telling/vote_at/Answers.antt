use Rattle.std.proofs.Common.{◌≡◌}
use Rattle.promise_store.specs.Keeping.{Keeps}
use Rattle.promise_store.specs.Shown.{vote_pair}
use Rattle.acceptor.proofs.Stored.{both_ok, not_memory, open_still}
use Rattle.acceptor.proofs.telling.vote_at.Goals as goal

pub returns-clause-read : goal.returns-clause-read
returns-clause-read g c = record {
  ok = λ head held keeps honest.
      both_ok (λ found. found ≡ vote_pair (held.votes c.args.slot)) (Keeps g.D.Disk head held c.entry.new.self) c.entry.result (c.entry.ensures.found head held keeps honest) (c.entry.ensures.asking.keeps head held keeps);
  reads = c.entry.ensures.asking.reads;
  held = c.entry.ensures.asking.held;
  failed = c.entry.ensures.asking.failed;
  memory = not_memory c.entry.result c.entry.ensures.asking.only;
  only = λ head held keeps honest. c.entry.ensures.asking.sound head held keeps honest;
  closed = λ e. (c.entry.ensures.asking.closed.0 e, c.entry.ensures.asking.as_before e);
  stays = open_still c.entry.result _ c.entry.ensures.asking.stays;
  faults = c.entry.ensures.asking.only;
}
