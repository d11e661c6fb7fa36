-- The bots of relays are given the lines of the one dealer, and so are bots without one.
use Rattle.std.proofs.Common.{List, [], ◌∷◌, refl}
use Rattle.std.proofs.Math.Logic.{∥∥₁_map}
use Rattle.std.specs.List.{AllByRecursion}
use Rattle.promise_store.specs.declared.disk.Disk.{Ghosts}
use Rattle.betting.specs.Laws.{HandsEnd}
use Rattle.slot_log.specs.Hand.{Match}
use Rattle.slot_log.specs.Laws.{CommandsMakeHands}
use Rattle.slot_log.specs.declared.command.Command.{Command}
use Rattle.dealer_kind.specs.Kind.{Setting}
use Rattle.dealer_kind.specs.Plans.{IsSetting}
use Rattle.line_cursor.specs.Past.{PastIsABeginning}
use Rattle.line_cursor.specs.Laws.{NextCursorStays}
use Rattle.line_cursor.specs.Telling.{CursorsTellTheLines, FirstCursorsTellABeginning}
use Rattle.seat_relay.specs.Relaying.{Event}
use Rattle.seat_relay.specs.Dealing.{DealersLinesAscend, BotsAreGivenOneDealersLines}
use Rattle.seat_relay.specs.Laws.{fresh}
use Rattle.dealer_world.specs.RuleRuns.{plan_of}
use Rattle.stations.specs.Tables.{ShowsBeginning, WasTable, TablesAreOfOneMatch}
use Rattle.relay_runs.specs.Said.{lines_given}
use Rattle.relay_runs.specs.Course.{Course, CoursesExplain}
use Rattle.relay_runs.specs.Ending.{WholeMatchesAreWritten}
use Rattle.joined_lines.specs.Chosen.{lines_by}
use Rattle.joined_lines.specs.Bringing.{ConnectionsTellOneMatch}
use Rattle.joined_lines.specs.Coming.{SeatRelay, IsToldSo, HasLines, BringsLines, RelaysTellOneMatch}
use Rattle.joined_lines.proofs.Gathering.{IsGathered, gathered_none, gathered_as, gathered_both, AtEach, Brings, bring_each, gathered_each}
use Rattle.joined_lines.proofs.Parts.{tell_parts}
use Rattle.joined_lines.proofs.Closing.{match_over, close_at_the_end}
use Rattle.joined_lines.proofs.Courses.{Closing, brings_so, closes_so, course_so, course_placed}
use Rattle.joined_lines.proofs.Bots.{all_bots}

-- what the bot of one relay has, and of all
module _ (ends : HandsEnd) (make : CommandsMakeHands) (past : PastIsABeginning) (stays : NextCursorStays) (cursors : CursorsTellTheLines) (ascend : DealersLinesAscend) (give : BotsAreGivenOneDealersLines)
    (explain : CoursesExplain) (write : WholeMatchesAreWritten) (setting : Setting) (is : IsSetting setting) (such : Match → Type 0) where
  abbrev BringsBy : SeatRelay → List Command → Type 0
  BringsBy relay commands = AtEach (Brings (ShowsBeginning setting commands) relay.seat) [] relay.desk.relay.events

  abbrev ClosesBy : SeatRelay → List Command → Type 0
  ClosesBy relay commands = AtEach (Closing (ShowsBeginning setting commands) relay.seat) [] relay.desk.relay.events

  has_lines : (relay : SeatRelay) → Course relay.desk relay.passed → (commands : List Command) → BringsBy relay commands → ClosesBy relay commands → HasLines setting commands relay
  has_lines relay course commands brings closes =
      let events : List Event = relay.desk.relay.events in
      let placed = course_placed relay.desk relay.passed course in
      let parts = tell_parts make past cursors setting is relay.seat commands events brings placed in
      record {
        lines = record {
          given = lines_given relay.desk.relay;
          are = give setting.game setting.title.hands relay.seat commands relay.desk.relay.mode relay.desk.relay.nodes events parts;
          as_bytes = (explain relay.desk relay.passed course).said.bot;
        };
        all_lines = λ over. record {
          over = match_over make past stays setting is relay.seat commands (fresh relay.desk.relay.mode relay.desk.relay.nodes) events refl over.over closes;
          written = write relay.desk relay.passed (lines_by setting relay.seat commands) course over (ascend setting.game setting.title.hands relay.seat commands) parts
              (close_at_the_end make past stays cursors setting is relay.seat commands events closes placed);
        };
      }

  one_relay : (relay : SeatRelay) → IsToldSo such relay → IsGathered setting such (λ commands. HasLines setting commands relay)
  one_relay relay told =
      gathered_as setting such (λ commands. BringsBy relay commands × ClosesBy relay commands) (λ commands. HasLines setting commands relay) (λ commands both. has_lines relay told.course commands both.0 both.1)
      (gathered_both setting such (BringsBy relay) (ClosesBy relay)
      (course_so ends make past setting is relay.seat such (λ commands. Brings (ShowsBeginning setting commands) relay.seat) (brings_so ends make past setting is relay.seat such) relay.desk relay.passed told.course told.come)
      (course_so ends make past setting is relay.seat such (λ commands. Closing (ShowsBeginning setting commands) relay.seat) (closes_so ends make past setting is relay.seat such) relay.desk relay.passed told.course told.come))

  all_relays : (relays : List SeatRelay) → AllByRecursion (IsToldSo such) relays → IsGathered setting such (λ commands. AllByRecursion (HasLines setting commands) relays)
  all_relays [] told = gathered_none setting such (λ commands. Unit {0}) (λ commands. tt)
  all_relays (relay ∷ relays) told =
      gathered_both setting such (λ commands. HasLines setting commands relay) (λ commands. AllByRecursion (HasLines setting commands) relays) (one_relay relay told.0) (all_relays relays told.1)

module _ {D : Type 0} (g : Ghosts D) where
  pub connections_tell_one_match : TablesAreOfOneMatch g → CommandsMakeHands → PastIsABeginning → CursorsTellTheLines → BotsAreGivenOneDealersLines → ConnectionsTellOneMatch g
  connections_tell_one_match tables make past cursors relays setting sources histories all processes honest seat mode nodes events placed brings =
      let such = WasTable g (plan_of setting sources) histories in
      let gathered = gathered_each setting such seat [] events (bring_each such seat [] events brings) in
      ∥∥₁_map (tables setting sources histories all processes honest gathered.tables gathered.are) (λ one. (
        one.0,
        (
          one.1.0,
          relays setting.game setting.title.hands seat one.0 mode nodes events
              (tell_parts make past cursors setting processes.plan.within seat one.0 events (gathered.by one.0 one.1.1) placed),
        ),
      ))

  pub relays_tell_one_match : TablesAreOfOneMatch g → HandsEnd → CommandsMakeHands → PastIsABeginning → NextCursorStays → CursorsTellTheLines → FirstCursorsTellABeginning → DealersLinesAscend → BotsAreGivenOneDealersLines
      → CoursesExplain → WholeMatchesAreWritten → RelaysTellOneMatch g
  relays_tell_one_match tables ends make past stays cursors first ascend give explain write setting sources histories all processes honest relays told bots brought =
      let such : Match → Type 0 = WasTable g (plan_of setting sources) histories in
      let gathered =
      gathered_both setting such (λ commands. AllByRecursion (HasLines setting commands) relays) (λ commands. AllByRecursion (BringsLines setting commands) bots)
      (all_relays ends make past stays cursors ascend give explain write setting processes.plan.within such relays told) (all_bots ends make past stays cursors first setting processes.plan.within such bots brought) in
      ∥∥₁_map (tables setting sources histories all processes honest gathered.tables gathered.are) (λ one.
      let both = gathered.by one.0 one.1.1 in
      (one.0, (one.1.0, record { relays_have = both.0; bots_have = both.1 })))
