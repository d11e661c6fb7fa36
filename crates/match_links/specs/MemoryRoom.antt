-- The room that links in memory have.
use Rattle.std.specs.Prelude.{map, vec_capacity}
use Rattle.match_links.specs.Room.{Room, line_room, byte_room}
use Rattle.match_links.specs.declared.memory_links.MemoryLinks.{MemoryLinks}

-- for how much more there is room
abbrev pub room_of : MemoryLinks → Room
room_of links = record {
  lines = line_room links.told links.blanks;
  logs = map byte_room links.logs.items;
  frame = vec_capacity links.wire;
}
