-- What is written on a connection.
use Rattle.std.specs.Prelude.{ℕ, List, drop}
use Rattle.node_links.specs.declared.outgoing.Outgoing.{Outgoing}

-- what of the record that was begun isn't written yet
abbrev pub unwritten : Outgoing → List ℕ
unwritten o = drop o.written o.begun.items

-- the record with this text is begun
abbrev pub with_begun : List ℕ → Outgoing → Outgoing
with_begun text o = record { hello = o.hello; begun = record { items = text }; written = 0 }
