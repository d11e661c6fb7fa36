-- What a process may call its node with may be given to that.
use Rattle.promise_store.specs.declared.disk.Disk.{Ghosts}
use Rattle.node_wires.specs.declared.wire.Wire.{Ghosts as OfWire}
use Rattle.dealer_world.specs.declared.event.Event.{Event}
use Rattle.dealer_world.specs.declared.event.Event.TheVariants as event
use Rattle.node_service.specs.declared.server.NodeServer.{NodeServer}
use Rattle.node_service.specs.Calling.{MayBeGiven}
use Rattle.node_service.specs.Knowing.{MayCall}

module _ {D W : Type 0} {disk : Ghosts D} {wire : OfWire W} where
  pub may_be_given : (server : NodeServer D W disk wire) (e : Event) → MayCall server e → MayBeGiven server.desk.member.is_started e
  may_be_given server (event.Start node) may = may
  may_be_given server (event.Stop node pick) may = may
  may_be_given server (event.Tick node) may = tt
  may_be_given server (event.Away node) may = tt
  may_be_given server (event.Frame from to bytes) may = tt
  may_be_given server (event.Line node seat bytes) may = tt
  may_be_given server (event.Connect node seat) may = tt
  may_be_given server (event.Drop node seat) may = tt
