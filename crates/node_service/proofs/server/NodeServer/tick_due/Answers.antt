use Rattle.std.proofs.Common.{◌≡◌, ℕ, ap, sym, ◌∙◌}
use Rattle.clockwork.specs.Dues.{due_of}
use Rattle.clockwork.specs.Watches.{known_of}
use Rattle.node_service.specs.Knowing.{number_of, moment_of}
use Rattle.node_service.proofs.server.NodeServer.tick_due.Goals as goal

pub returns : goal.returns
returns g c = λ now.
    let server = c.args.self.now in
    let others = c.as_slice.result in
    let known : c.known.result ≡ known_of server.watch (number_of server) others (moment_of server) =
    c.known.ensures
    ∙ (ap (λ (n : ℕ). known_of server.watch n others c.moment.result) c.number-number.ensures ∙ ap (λ (t : ℕ). known_of server.watch (number_of server) others t) c.moment.ensures.value) in
    record {
      others = others;
      all = c.as_slice.ensures.value ∙ c.others-others.ensures;
      due = ap due_of (sym known) ∙ (sym c.due.ensures.value ∙ now);
    }
