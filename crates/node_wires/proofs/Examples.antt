-- What passed over wires, on values.
use Rattle.std.proofs.Common.{◌≡◌, refl, true, false, List, [], ◌∷◌, ◌++◌}
use Rattle.node_wires.specs.declared.line.Line.TheVariants.{Peer, Caller, Seat, Guest, Asker}
use Rattle.node_wires.specs.declared.way.Way.TheVariants.{Reading, Writing}
use Rattle.node_wires.specs.Passages.{Passage, Began, Came, Wrote, Gave, Logged, Tried, Ended, Closed, Saw, Waited, Called, came_over, wrote_over, seats_in, logged_in, latest_in, come_behind, calls_in}

-- peer 1 is dialled, sends two bytes and is sent one; somebody calls and sends one; the log gets two texts; peer 1 is
-- dialled once more, and sends another
abbrev some : List Passage
some =
    Began (Peer 1) ∷ Came (Peer 1) (65 ∷ []) ∷ Began (Caller 1) ∷ Wrote (Peer 1) (70 ∷ []) ∷ Came (Caller 1) (71 ∷ []) ∷ Logged (80 ∷ [])
    ∷ Came (Peer 1) (66 ∷ []) ∷ Logged (81 ∷ []) ∷ []

both_pieces : came_over some (Peer 1) ≡ 65 ∷ 66 ∷ []
both_pieces = refl

-- the caller at place 1 isn't peer 1
caller_apart : came_over some (Caller 1) ≡ 71 ∷ []
caller_apart = refl

one_written : wrote_over some (Peer 1) ≡ 70 ∷ []
one_written = refl

nothing_of_a_seat : came_over some (Seat 1) ≡ []
nothing_of_a_seat = refl

-- what came over an earlier connection is no part of what the next one brings
begun_anew : came_over (Came (Peer 1) (65 ∷ []) ∷ Began (Peer 1) ∷ Came (Peer 1) (67 ∷ []) ∷ []) (Peer 1) ≡ 67 ∷ []
begun_anew = refl

-- of bots: one came to seat 2 and sent a byte; what peers and callers send is none of it
of_seats : seats_in (Began (Seat 2) ∷ some ++ Came (Seat 2) (67 ∷ []) ∷ Wrote (Seat 2) (68 ∷ []) ∷ []) ≡ Began (Seat 2) ∷ Came (Seat 2) (67 ∷ []) ∷ []
of_seats = refl

-- a guest sends two bytes, and is given the line of seat 1, whose bot had sent one: what he sends then came over that
abbrev seated : List Passage
seated = Began (Guest 2) ∷ Came (Guest 2) (65 ∷ []) ∷ Came (Guest 2) (10 ∷ []) ∷ Came (Seat 1) (64 ∷ []) ∷ Gave 2 1 ∷ Came (Seat 1) (66 ∷ []) ∷ []

of_the_bot : came_over seated (Seat 1) ≡ 66 ∷ []
of_the_bot = refl

of_the_guest : came_over seated (Guest 2) ≡ []
of_the_guest = refl

-- he is the bot of seat 1 from then on; what he sent before is nothing of a bot, and seat 2 has none
of_seat_1 : seats_in seated ≡ Came (Seat 1) (64 ∷ []) ∷ Began (Seat 1) ∷ Came (Seat 1) (66 ∷ []) ∷ []
of_seat_1 = refl

of_seat_2 : came_over seated (Seat 2) ≡ []
of_seat_2 = refl

no_guest_yet : came_over (Came (Asker 2) (65 ∷ []) ∷ []) (Guest 2) ≡ []
no_guest_yet = refl

both_texts : logged_in some ≡ 80 ∷ 81 ∷ []
both_texts = refl

-- a turn: it is waited, a bot that is there sends a byte, the node is called, the bot has no room; then nothing more comes, the
-- log gets a text, and once its connection ended it is closed
abbrev turn : List Passage
turn =
    Began (Seat 1) ∷ Saw 3 ∷ Waited 9 ∷ Saw 8 ∷ Came (Seat 1) (65 ∷ []) ∷ Called ∷ Saw 8 ∷ Wrote (Seat 1) (66 ∷ []) ∷ Tried (Seat 1) Writing ∷ Tried (Seat 1) Reading
    ∷ Logged (80 ∷ []) ∷ Called ∷ Ended (Seat 1) Reading ∷ Closed (Seat 1) ∷ []

-- what came, was written and went to the log is the same as without all that brought nothing
came_in_turn : came_over turn (Seat 1) ≡ 65 ∷ []
came_in_turn = refl

wrote_in_turn : wrote_over turn (Seat 1) ≡ 66 ∷ []
wrote_in_turn = refl

seats_in_turn : seats_in turn ≡ Began (Seat 1) ∷ Came (Seat 1) (65 ∷ []) ∷ []
seats_in_turn = refl

text_in_turn : logged_in turn ≡ 80 ∷ []
text_in_turn = refl

calls_in_turn : calls_in turn ≡ 2
calls_in_turn = refl

-- how long it may be waited is no moment
latest_in_turn : latest_in turn ≡ 8
latest_in_turn = refl

no_moment : latest_in some ≡ 0
no_moment = refl

turn_in_order : come_behind 0 turn ≡ true
turn_in_order = refl

-- a clock that goes back
goes_back : come_behind 0 (turn ++ Saw 7 ∷ []) ≡ false
goes_back = refl
