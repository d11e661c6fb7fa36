-- What follows for whoever reads the records.
use Rattle.std.specs.Prelude.{◌≡◌, ℕ, true, Some, List, length}
use Rattle.std.specs.List.{All}
use Rattle.paxos_wire.specs.declared.message.Message.{Message as Content}
use Rattle.paxos_wire.specs.Fits.{IsMessage, IsOld}
use Rattle.paxos_wire.specs.Spelling.{old_frame}
use Rattle.slot_log.specs.Dealer.{hands_of, is_match_over}
use Rattle.slot_log.specs.declared.command.Command.{Command}
use Rattle.matchstate.specs.View.{View}
use Rattle.matchstate.specs.Line.{line_text}
use Rattle.matchstate.specs.Laws.{Agree, Alike}
use Rattle.match_log.specs.Check.{IsMatchLog}
use Rattle.protocol_model.specs.Sets.{In, IsBeginning}
use Rattle.protocol_model.specs.Frames.{carried}
use Rattle.dealer_kind.specs.Kind.{Setting}
use Rattle.dealer_kind.specs.Plans.{IsSetting}
use Rattle.dealer_kind.specs.Sources.{HasDeals}
use Rattle.dealer_world.specs.Records.{Line, Written, lines_of, logs_of, said_by}
use Rattle.dealer_world.specs.Headline.{Era, InEach, InSome, dealer_in, OneList}

-- a frame that version 1 wrote of a message says what its sender says by that message
abbrev pub OldFramesSayTheSame : Type 0
OldFramesSayTheSame = (from to : ℕ) (m : Content) → IsMessage m → IsOld m → said_by (record { from = from; to = to; bytes = old_frame m }) ≡ carried from m

-- some era's record has this line, or this log
abbrev pub HasLine : List Era → Line → Type 0
HasLine eras line = InSome (λ era. In line (lines_of era.record_of.shown)) eras

abbrev pub HasLog : List Era → Written → Type 0
HasLog eras log = InSome (λ era. In log (logs_of era.record_of)) eras

-- any two lines are those of views that agree: they are of different hands, or one's actions and betting text begin the other's and no place shows two cards
abbrev pub LinesOfRecordsAgree : Type 0
LinesOfRecordsAgree = (setting : Setting) (n : ℕ) (eras : List Era) (first second : Line) → OneList (dealer_in setting eras) n eras
    → HasLine eras first → HasLine eras second
    → (view : View) × (another : View) × (first.text ≡ line_text view) × (second.text ≡ line_text another) × Agree view another

-- where a list is alike for a seat to the one behind the records, each line of that seat is also its line after a beginning of that list, as long as the one
-- that the line shows
abbrev pub AlikeListsShowTheSame : Type 0
AlikeListsShowTheSame = (setting : Setting) (n : ℕ) (eras : List Era) (other : List Command) (line : Line) → (one : OneList (dealer_in setting eras) n eras)
    → Alike setting.game setting.title.hands line.seat one.commands other → HasLine eras line
    → (first : List Command) × (before : List Command) × IsBeginning first one.commands × IsBeginning before other × (length before ≡ length first)
    × ((dealer_in setting eras).line first line.seat ≡ Some line.text) × ((dealer_in setting eras).line before line.seat ≡ Some line.text)

-- each era's nodes have a deal for each hand of the match, as those of every config have
abbrev pub HaveDeals : Setting → List Era → Type 0
HaveDeals setting eras = InEach (λ era. All (HasDeals setting.game.players setting.title.hands) era.sources) eras

-- a log after which the match is over is the log of a match, which `check` accepts
abbrev pub CompleteLogsAreMatchLogs : Type 0
CompleteLogsAreMatchLogs = (setting : Setting) (n : ℕ) (eras : List Era) (log : Written) → IsSetting setting → HaveDeals setting eras
    → (one : OneList (dealer_in setting eras) n eras) → HasLog eras log
    → (first : List Command) × IsBeginning first one.commands × ((dealer_in setting eras).log first ≡ log.text)
    × (is_match_over setting.game setting.title.hands (hands_of setting.game setting.title.hands first) ≡ true → IsMatchLog setting.game log.text)
