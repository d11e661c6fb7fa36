-- What is said over the connections of a relay: to the bot the lines that it is given, to a node the first lines and then answers.
use Rattle.std.specs.Prelude.{◌≡◌, ◌⊎◌, ℕ, ◌≤◌, ◌==◌, Bool, true, false, if◌then◌else◌, List, [], ◌∷◌, ◌++◌, length, get_or, codes, Option, Some, None, option_map}
use Rattle.byte_queue.specs.Queued.{Queued}
use Rattle.matchstate.specs.Free.{IsFreeOf}
use Rattle.node_wires.specs.declared.line.Line.{Line as Wire}
use Rattle.node_wires.specs.declared.line.Line.TheVariants.{Seat, Peer}
use Rattle.node_wires.specs.declared.way.Way.{Way}
use Rattle.node_wires.specs.declared.way.Way.TheVariants.{Reading, Writing}
use Rattle.node_wires.specs.declared.halt.Halt.{Halt}
use Rattle.node_wires.specs.Passages.{Passage, Came, Wrote, halted_as, wrote_over}
use Rattle.seat_relay.specs.Relaying.{Line, Standing, Event, Story, Begins, Ends, Tells, Closes, Says, Pushes, happens, answered, all_given}
use Rattle.seat_relay.specs.Laws.{fresh}
use Rattle.relay_runs.specs.declared.desk.Desk.{Desk}

-- ---- as bytes

-- a line with CR LF behind it
abbrev pub ended : List ℕ → List ℕ
ended text = text ++ 13 ∷ 10 ∷ []

abbrev pub bytes_of_lines : List Line → List ℕ
bytes_of_lines [] = []
bytes_of_lines (line ∷ more) = ended line.text ++ bytes_of_lines more

abbrev pub bytes_of_answers : List (List ℕ) → List ℕ
bytes_of_answers [] = []
bytes_of_answers (answer ∷ more) = ended answer ++ bytes_of_answers more

-- ---- what is said first over a connection to a node

-- the token's line, where there is one
abbrev pub token_line : Option (List ℕ) → List ℕ
token_line None = []
token_line (Some token) = ended (codes "#TOKEN " ++ token)

-- from where on the node is asked to tell: from the line on that the bot was given last, or where it was given none from the newest or the first one on
abbrev pub asked_for : Bool → Option (List ℕ) → List ℕ
asked_for newest (Some text) = text
asked_for true None = codes "NEWEST"
asked_for false None = codes "FIRST"

-- the token's line, the one by which the node is asked, and the version's
abbrev pub greeting : List ℕ → List ℕ → List ℕ
greeting token asked = ((token ++ codes "#RESUME ") ++ ended asked) ++ codes "VERSION:2.0.0\r\n"

-- from where on it is asked by a relay that knows so much
abbrev pub asks : Standing → List ℕ
asks s = asked_for s.mode.newest (option_map (λ line. line.text) s.last)

-- over the connection that a node has, after one event more
abbrev pub asked_by : ℕ → Standing → Option (List ℕ) → Event → Option (List ℕ)
asked_by node s before (Begins other) = if other == node then Some (asks s) else before
asked_by node s before (Ends other) = before
asked_by node s before (Tells other line) = before
asked_by node s before (Closes other) = before
asked_by node s before (Says text) = before
asked_by node s before (Pushes other) = before

unfoldable pub asked_behind : ℕ → Standing → Option (List ℕ) → List Event → Option (List ℕ)
asked_behind node s before [] = before
asked_behind node s before (e ∷ more) = asked_behind node (happens s e) (asked_by node s before e) more

-- since its connection began; nothing where it had none
abbrev pub asked_over : ℕ → Story → Option (List ℕ)
asked_over node story = asked_behind node (fresh story.mode story.nodes) None story.events

-- ---- the answers that are said over the connection that a node has

-- after one event more
abbrev pub over_by : ℕ → Standing → List (List ℕ) → Event → List (List ℕ)
over_by node s before (Begins other) = if other == node then [] else before
over_by node s before (Ends other) = before
over_by node s before (Tells other line) = before
over_by node s before (Closes other) = before
over_by node s before (Says text) = before
over_by node s before (Pushes other) = if other == node then before ++ answered s (Pushes other) else before

unfoldable pub over_behind : ℕ → Standing → List (List ℕ) → List Event → List (List ℕ)
over_behind node s before [] = before
over_behind node s before (e ∷ more) = over_behind node (happens s e) (over_by node s before e) more

-- since its connection began
abbrev pub said_over : ℕ → Story → List (List ℕ)
said_over node story = over_behind node (fresh story.mode story.nodes) [] story.events

-- whether a connection to a node begins
abbrev pub begins_at : ℕ → Event → Bool
begins_at node (Begins other) = other == node
begins_at node (Ends other) = false
begins_at node (Tells other line) = false
begins_at node (Closes other) = false
begins_at node (Says text) = false
begins_at node (Pushes other) = false

-- ---- what was written, with what waits

abbrev pub nothing_waits : Queued
nothing_waits = record { waiting = []; room = 0 }

-- what waits for a node
abbrev pub waits_at : List Queued → ℕ → List ℕ
waits_at queues node = (get_or queues node nothing_waits).waiting

-- nothing waits in any of these
abbrev pub AreEmpty : List Queued → Type 0
AreEmpty queues = (node : ℕ) → waits_at queues node ≡ []

-- what is said first over the connection that a node has; nothing where it had none
abbrev pub first_of : List ℕ → Option (List ℕ) → List ℕ
first_of token None = []
first_of token (Some asked) = greeting token asked

abbrev pub first_over : ℕ → Desk → List ℕ
first_over node desk = first_of desk.opening.token.items (asked_over node desk.relay)

-- the lines that the bot was given
abbrev pub lines_given : Story → List Line
lines_given story = all_given (fresh story.mode story.nodes) story.events

-- what was written to a node over its connection, with what waits for it, is the first lines, and then the answers that were said to it
abbrev pub IsSaidTo : ℕ → Desk → List Passage → Type 0
IsSaidTo node desk passed = wrote_over passed (Peer node) ++ waits_at desk.to_nodes.items node ≡ first_over node desk ++ bytes_of_answers (said_over node desk.relay)

-- what was written to the bot, with what waits for it, is the lines that it was given; and so it is of each node
pub record IsSaid (desk : Desk) (passed : List Passage) : Type 0 where
  pub bot : wrote_over passed (Seat 0) ++ desk.to_bot.waiting ≡ bytes_of_lines (lines_given desk.relay)
  pub nodes : (node : ℕ) → IsSaidTo node desk passed

-- ---- one call of a wire

-- nothing passes, or a read or a write is halted
abbrev pub Halts : Way → Wire → List Passage → List Passage → Type 0
Halts way line passed_old passed_new = (passed_new ≡ passed_old) ⊎ ((halt : Halt) × (passed_new ≡ passed_old ++ halted_as way line halt ∷ []))

-- a piece of what waits for a line is written to it, and waits no longer; or nothing is
abbrev pub Writes : Wire → List ℕ → List ℕ → List Passage → List Passage → Type 0
Writes line old new passed_old passed_new =
    ((piece : List ℕ) × (old ≡ piece ++ new) × (passed_new ≡ passed_old ++ Wrote line piece ∷ [])) ⊎ ((new ≡ old) × Halts Writing line passed_old passed_new)

-- what came is the beginning of one line: no line feed, and no more bytes than one with a carriage return may have
pub record IsBeginning (came : List ℕ) : Type 0 where
  pub free : IsFreeOf 10 came
  pub short : length came ≤ 4097

-- where only the beginning of a line waits a piece of at most 512 bytes came over a line, and stands behind what waits of that line; or none did
abbrev pub Reads : Wire → List ℕ → List ℕ → List Passage → List Passage → Type 0
Reads line old new passed_old passed_new =
    ((piece : List ℕ) × (new ≡ old ++ piece) × (passed_new ≡ passed_old ++ Came line piece ∷ []) × IsBeginning old × (length piece ≤ 512)) ⊎ ((new ≡ old) × Halts Reading line passed_old passed_new)
