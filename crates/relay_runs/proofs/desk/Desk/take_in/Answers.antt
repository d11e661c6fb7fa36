use Rattle.std.proofs.Common.{refl, ap, ◌∙◌}
use Rattle.seat_relay.specs.Relaying.{Story}
use Rattle.relay_runs.proofs.Keeping.{kept_taken}
use Rattle.relay_runs.proofs.desk.Desk.take_in.Goals as goal

pub returns : goal.returns
returns g c = kept_taken _ _ _ _ refl refl (ap (λ (r : Story). r.mode) c.in_ok-relay.ensures ∙ c.mode_of-mode.ensures) refl (ap (λ (r : Story). r.events) c.in_ok-relay.ensures) c.clear.ensures.waiting refl refl c.clear-2.ensures.waiting c.in_ok-from_nodes.ensures c.in_ok-to_nodes.ensures c.in_ok-dialled.ensures
    (c.accept_seat.ensures.began c.if-not-accept_seat.false)
