-- The other nodes one after another.
use Rattle.std.proofs.Common.{◌≡◌, ℕ, ◌+◌, true, false, refl, add-one}
use Rattle.promise_store.specs.declared.disk.Disk.{Ghosts}
use Rattle.node_wires.specs.declared.wire.Wire.{Ghosts as OfWire}
use Rattle.node_service.specs.declared.server.NodeServer.{NodeServer}
use Rattle.node_service.specs.Knowing.{with_one, other_at, others_below, sits_at_peer, sits_below}

module _ {D W : Type 0} {disk : Ghosts D} {wire : OfWire W} where
  pub one_other : (server : NodeServer D W disk wire) (number : ℕ) → others_below server (number + 1) ≡ with_one (others_below server number) (other_at server number)
  one_other server number = rw add-one refl

  pub one_further : (server : NodeServer D W disk wire) (seat now number : ℕ) → sits_at_peer server seat now number ≡ true → sits_below server seat now (number + 1) ≡ sits_below server seat now number + 1
  one_further server seat now number sits = rw (add-one, sits) refl

  pub none_further : (server : NodeServer D W disk wire) (seat now number : ℕ) → sits_at_peer server seat now number ≡ false → sits_below server seat now (number + 1) ≡ sits_below server seat now number
  none_further server seat now number sits = rw (add-one, sits) refl
