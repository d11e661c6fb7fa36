-- The store of an acceptor.
use Rattle.std.specs.Prelude.{ℕ}
use Rattle.promise_store.specs.declared.store.Store.{Store}
use Rattle.promise_store.specs.Keeping.{held_of}
use Rattle.promise_store.specs.Room.{room}
use Rattle.acceptor.specs.declared.acceptor.Acceptor.{Acceptor}

module _ {D : Type 0} where
  abbrev pub store_of : Acceptor D → Store D
  store_of acceptor = acceptor.store

  -- for how many entries more there is room
  abbrev pub room_in : Acceptor D → ℕ
  room_in acceptor = room (held_of (store_of acceptor))
