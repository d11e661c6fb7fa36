-- What stands at the front of a stream, as `LineBuffer::front` tells it.
use Rattle.std.specs.Prelude.{◌≡◌, ℕ, List}
use Rattle.seat_session.specs.Lines.{BeginsWith, IsPartial, IsOverlong, text_of}
use Rattle.seat_session.specs.declared.front.Front.{Front}
use Rattle.seat_session.specs.declared.front.Front.TheVariants.{Partial, Line, TooLong}

-- less than a whole line, a line by its text, or a line that is too long
abbrev pub IsFrontOf : List ℕ → Front → Type 0
IsFrontOf stream Partial = IsPartial stream
IsFrontOf stream (Line text) = (line rest : List ℕ) × BeginsWith stream line rest × (text.now ≡ text_of line)
IsFrontOf stream TooLong = (front more : List ℕ) × IsOverlong stream front more
