-- What the fields of what a relay knows stand for.
use Rattle.std.specs.Prelude.{option_map}
use Rattle.seat_relay.specs.declared.line.Line.{Line as Kept}
use Rattle.seat_relay.specs.declared.machine.Machine.TheInside.{Inside}
use Rattle.seat_relay.specs.Relaying.{Line, Standing}

abbrev pub line_of : Kept → Line
line_of line = record { text = line.text.items; place = line.place }

abbrev pub standing_of : Inside → Standing
standing_of r = record {
  mode = r.mode;
  last = option_map line_of r.last;
  kept = option_map (λ answer. answer.items) r.kept;
  links = r.links.items;
  over = r.over;
}
