-- What a text of the bot is said as, and when that is its own.
use Rattle.std.specs.Prelude.{◌≡◌, ℕ, List, Option, None, Some, option_map, IsNone, Vec}
use Rattle.std.specs.Global.{Global}
use Rattle.seat_relay.specs.Relaying.{Says, with_event}
use Rattle.relay_runs.specs.declared.desk.Desk.{Desk}
use Rattle.relay_runs.specs.declared.saying.Saying.{Saying}
use Rattle.relay_runs.specs.declared.saying.Saying.TheVariants as saying
use Rattle.relay_runs.specs.Meant.{IsRight}

-- the bot's text, or what is said instead of it
abbrev pub said_as : List ℕ → Option (Vec ℕ Global) → List ℕ
said_as text None = text
said_as text (Some other) = other.items

-- a text of the bot is said to the machine, or another one instead of it; its own only if it is right by the line that the bot was given last
abbrev pub IsSaidAs : Desk → Desk → Saying → Type 0
IsSaidAs old new saying.Nothing = Unit {0}
IsSaidAs old new saying.TooLong = Unit {0}
IsSaidAs old new saying.Rest = Unit {0}
IsSaidAs old new (saying.Comment text) = Unit {0}
IsSaidAs old new (saying.Version text) = Unit {0}
IsSaidAs old new (saying.WrongVersion text) = Unit {0}
IsSaidAs old new (saying.Said text instead kept) =
    (new.relay ≡ with_event old.relay (Says (said_as text.items instead))) × (IsNone instead → IsRight old.mended (option_map (λ line. line.text) old.relay.standing.last) text.items)
