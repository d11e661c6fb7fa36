use Rattle.std.specs.Prelude.{is_some}
use Rattle.serving.specs.Serving.{served_of}
use Rattle.match_runs.proofs.Waiting.{called_after}
use Rattle.match_runs.proofs.served_match.tell_after.Goals as goal

pub returns-in_default : goal.returns-in_default
returns-in_default g c =
    called_after c.args.ports (is_some c.args.awaited) c.args.dealt.hands c.args.waits c.args.turn (served_of c.args.server.now) _ _ (λ seat node is. c.in_default.not-Waits seat node is)
    c.tell_call.ensures
