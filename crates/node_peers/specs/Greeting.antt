-- What a node says first over a connection.
use Rattle.std.specs.Prelude.{◌≡◌, ℕ, List, Option, Some, None}
use Rattle.peer_codes.specs.declared.hello.Hello.{Hello}
use Rattle.peer_codes.specs.declared.hello.Life.{Life}
use Rattle.peer_codes.specs.declared.hello.Link.{Link}
use Rattle.peer_codes.specs.declared.hello.Link.TheVariants.{Coded}
use Rattle.node_links.specs.declared.own.Own.{Own}

-- the Hello of this node: its number, of so many nodes, its match, and the life of its store
pub record IsOurs (own : Own) (hello : Hello) : Type 0 where
  pub from : hello.ends.from ≡ own.number
  pub nodes : hello.ends.nodes ≡ own.nodes
  pub digest : hello.digest ≡ own.digest
  pub life : hello.life ≡ own.life

-- the nonce is what was drawn
abbrev pub coded_by : Option (List ℕ) → Option Link
coded_by None = None
coded_by (Some bytes) = Some (Coded (record { bytes = bytes }))

-- a life is the first where none is kept
abbrev pub first_of : Option Life → Life → Option Life
first_of None life = Some life
first_of (Some kept) life = None
