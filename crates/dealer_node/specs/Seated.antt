-- The sessions of all seats.
use Rattle.std.specs.Prelude.{◌≡◌, ℕ, ◌+◌, ◌≤◌, List, Option, None, Some, IfSome, slice_index_or}
use Rattle.paxos_wire.specs.declared.ballot.Ballot.{Ballot}
use Rattle.slot_log.specs.Hand.{Match}
use Rattle.slot_log.specs.declared.command.Command.{Command}
use Rattle.seat_session.specs.Feeds.{line_feeds}
use Rattle.seat_session.specs.Session.{Standing as Talk, Conversation}
use Rattle.node_rules.specs.Standings.{Place, Standing, applied}
use Rattle.node_rules.specs.Turns.{Turn}
use Rattle.node_rules.specs.Seats.{session_at, HearsPiece}
use Rattle.dealer_node.specs.Outs.{Told}
use Rattle.dealer_node.specs.Scenes.{IsTableOf}
use Rattle.dealer_node.specs.Hearing.{IsHeard}

-- by seat: where its session stands, and for how many more bytes it has room
pub record Seated : Type 0 where
  pub talks : List (Option Talk)
  pub rooms : List ℕ

-- a session but for its room
abbrev pub without_room : Option Conversation → Option Conversation
without_room None = None
without_room (Some session) = Some (record session { room = 0 })

-- the session of the seat, if there is one, has room for so many bytes more
abbrev pub HasRoomAt : Seated → ℕ → ℕ → Type 0
HasRoomAt seated seat more = IfSome (session_at seated.talks seat) (λ _. more ≤ slice_index_or seated.rooms seat 0)

-- how many line feeds wait and come
abbrev pub feeds_with : Option Talk → List ℕ → ℕ
feeds_with None piece = line_feeds piece
feeds_with (Some talk) piece = line_feeds talk.waiting + line_feeds piece

-- a node that runs stands so: its sessions, its hands, its promise and the act that waits
pub record IsSeatedAt (place : Place) (talks : List (Option Talk)) (table : Match) (promised : Ballot) (waits : Option Command) (s : Standing) : Type 0 where
  pub sessions : s.sessions ≡ talks
  pub hands : IsTableOf place.setting (applied s) table
  pub promise : s.store.promise ≡ promised
  pub pending : waits ≡ s.pending

-- the rule's turn of a piece, which changes sessions and the act that waits alone, and what was made
pub record PieceTurn (place : Place) (seat : ℕ) (piece : List ℕ) (s : Standing) (table : Match) (promised : Ballot) (talks : List (Option Talk)) (waits : Option Command) (earlier later : Told) : Type 0 where
  pub turn : Turn
  pub rule : HearsPiece place seat piece (session_at s.sessions seat) s turn
  pub heard : IsHeard place table promised turn waits earlier later
  pub rest : turn.after ≡ record s { sessions = talks; pending = waits }
