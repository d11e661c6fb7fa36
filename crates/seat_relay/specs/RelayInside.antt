-- What a relay's fields stand for.
use Rattle.std.specs.Prelude.{◌≡◌}
use Rattle.seat_relay.specs.declared.relay.Relay.TheInside.{Inside}
use Rattle.seat_relay.specs.Relaying.{Story, after}
use Rattle.seat_relay.specs.Laws.{fresh}

abbrev pub story_of : Inside → Story
story_of r = record { nodes = r.nodes; mode = r.mode; standing = r.machine; events = r.events.items }

-- what it knows is what follows from what happened
abbrev pub IsStory : Inside → Type 0
IsStory r = r.machine ≡ after (fresh r.mode r.nodes) r.events.items
