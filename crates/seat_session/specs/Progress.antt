-- How a session that is asked again and again goes on: by line feeds, so that it comes to an end.
use Rattle.std.specs.Prelude.{◌≡◌, ℕ, ◌+◌, ◌<◌, ◌≤◌, Bool, true, false, List, Some, None, Result, Ok, Err}
use Rattle.std.specs.List.{count_by}
use Rattle.game_def.specs.Game.{Game}
use Rattle.slot_log.specs.Hand.{Hand}
use Rattle.seat_session.specs.Feeds.{line_feeds}
use Rattle.seat_session.specs.Session.{Standing, fresh, with_piece, is_ready, is_closed, Answers}
use Rattle.seat_session.specs.Laws.{Event, Given, given, Happens}
use Rattle.seat_session.specs.declared.said.Said.{Said}
use Rattle.seat_session.specs.declared.said.Said.TheVariants.{Ready, Act}
use Rattle.seat_session.specs.declared.session_fault.SessionFault.{SessionFault}

-- an answer that doesn't close the session takes a line feed of what waits, and where there is none yet none is added; so a session that is asked until it
-- has no answer, or is closed, gives at most one answer more than line feeds wait
pub record AnswersTakeLines : Type 0 where
  pub answered : (game : Game) (hands : List Hand) (seat : ℕ) (old : Standing) (said : Result Said SessionFault) (new : Standing)
      → Answers game hands seat old (Some said) new → is_closed new.phase ≡ false → line_feeds new.waiting < line_feeds old.waiting
  pub waited : (game : Game) (hands : List Hand) (seat : ℕ) (old new : Standing) → Answers game hands seat old None new → line_feeds new.waiting ≤ line_feeds old.waiting

-- a piece adds its line feeds, and neither closes a session nor makes it ready
pub record PiecesAddLines : Type 0 where
  pub feeds : (old : Standing) (piece : List ℕ) → is_closed old.phase ≡ false → line_feeds (with_piece old piece).waiting ≡ line_feeds old.waiting + line_feeds piece
  pub same_phase : (old : Standing) (piece : List ℕ) → (with_piece old piece).phase ≡ old.phase

-- that the seat gets its lines is said by a session that isn't ready, and each answer leaves it ready or closed
pub record ReadyComesFirst : Type 0 where
  pub said : (game : Game) (hands : List Hand) (seat : ℕ) (old new : Standing) → Answers game hands seat old (Some (Ok Ready)) new → is_ready old.phase ≡ false
  pub ready : (game : Game) (hands : List Hand) (seat : ℕ) (old : Standing) (said : Result Said SessionFault) (new : Standing)
      → Answers game hands seat old (Some said) new → is_closed new.phase ≡ false → is_ready new.phase ≡ true

-- the answer says that the seat gets its lines
abbrev pub says_ready : Result Said SessionFault → Bool
says_ready (Ok Ready) = true
says_ready (Ok (Act command)) = false
says_ready (Err fault) = false

-- a session says so at most once
abbrev pub ReadyComesOnce : Type 0
ReadyComesOnce = (game : Game) (seat : ℕ) (events : List Event) (new : Standing) → Happens game seat fresh events new
    → count_by (λ (answer : Given). says_ready answer.said) (given events) ≤ 1
