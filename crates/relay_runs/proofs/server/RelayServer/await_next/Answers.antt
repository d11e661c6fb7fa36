use Rattle.node_wires.specs.Passages.{Saw, Waited}
use Rattle.relay_runs.proofs.Keeping.{kept_on, kept_rest}
use Rattle.relay_runs.proofs.server.RelayServer.await_next.Goals as goal

pub returns : goal.returns
returns g c =
    kept_on _ _ _ _ _ _ (kept_rest _ _ _ (Saw c.now-now.result) tt c.now-now.ensures.saw)
    (kept_on _ _ _ _ _ _ (kept_rest _ _ _ (Waited c.wait_time.result) tt c.wait.ensures) (kept_rest _ _ _ (Saw c.now.result) tt c.now.ensures.saw))
