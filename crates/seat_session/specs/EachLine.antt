-- Each line has its answer.
use Rattle.std.specs.Prelude.{◌≡◌, ℕ, false, not, List, ◌++◌, length, Some, None, Result}
use Rattle.std.specs.List.{AllByRecursion, count_by}
use Rattle.game_def.specs.Game.{Game}
use Rattle.slot_log.specs.Hand.{Hand}
use Rattle.seat_session.specs.Lines.{HasNoFeed, text_of}
use Rattle.seat_session.specs.Skipped.{is_skipped, on_stream}
use Rattle.seat_session.specs.Session.{Standing, fresh, is_closed, FrontSays, Answers}
use Rattle.seat_session.specs.Laws.{Event, joined, given, Happens}
use Rattle.seat_session.specs.declared.said.Said.{Said}
use Rattle.seat_session.specs.declared.session_fault.SessionFault.{SessionFault}

-- the bytes are whole lines, so many of which aren't skipped, and then the rest
pub record HasLines (bytes rest : List ℕ) (count : ℕ) : Type 0 where
  pub lines : List (List ℕ)
  pub each : AllByRecursion HasNoFeed lines
  pub whole : bytes ≡ on_stream lines ++ rest
  pub counts : count ≡ count_by (λ line. not (is_skipped (text_of line))) lines

-- asked until there is none, a session has answered each whole line that isn't skipped, once
abbrev pub EachLineAnswered : Type 0
EachLineAnswered = (game : Game) (seat : ℕ) (events : List Event) (hands : List Hand) (between new : Standing)
    → Happens game seat fresh events between → Answers game hands seat between None new
    → HasLines (joined events) new.waiting (length (given events))

-- when a session answers, also where it closes, each whole line before that isn't skipped had its answer, once, and
-- this one is what the bytes behind those lines say
abbrev pub NextLineAnswered : Type 0
NextLineAnswered = (game : Game) (seat : ℕ) (events : List Event) (hands : List Hand) (between : Standing) (said : Result Said SessionFault) (new : Standing)
    → Happens game seat fresh events between → is_closed between.phase ≡ false → Answers game hands seat between (Some said) new
    → (rest : List ℕ) × HasLines (joined events) rest (length (given events)) × FrontSays game hands seat between.phase rest said
