-- What follows for whoever reads the records.
use Rattle.std.proofs.Common.{◌≡◌, ℕ, ◌⊎◌, inl, inr, Bool, true, false, cond, Option, Some, None, List, [], ◌∷◌, ◌++◌, length, refl, ap, sym, ◌∙◌, subst}
use Rattle.std.specs.Prelude.{nat_lt}
use Rattle.std.specs.Option.{option_map}
use Rattle.std.specs.List.{AllByRecursion}
use Rattle.slot_log.specs.Dealer.{hands_of}
use Rattle.slot_log.specs.declared.command.Command.{Command}
use Rattle.matchstate.specs.View.{View, seat_view}
use Rattle.matchstate.specs.Line.{line, line_text}
use Rattle.matchstate.specs.Laws.{Place, SeatSees, AllSameButUnseen, LinesAgree}
use Rattle.matchstate.specs.Beginnings.{AlikeThroughout}
use Rattle.matchstate.proofs.Growing.{same_length}
use Rattle.match_log.specs.Check.{DealsFairly}
use Rattle.paxos_wire.proofs.Steps.{then_some}
use Rattle.protocol_model.specs.Sets.{In, IsBeginning}
use Rattle.dealer_kind.specs.Kind.{Setting}
use Rattle.dealer_world.specs.Records.{Line, Written, lines_of, logs_of}
use Rattle.dealer_world.specs.Headline.{Era, InEach, InSome, dealer_in, IsLineOf, IsLogOf, IsOfOneList, OneList}
use Rattle.dealer_world.specs.RecordLaws.{HasLine, HasLog, LinesOfRecordsAgree, AlikeListsShowTheSame, CompleteLogsAreMatchLogs}
use Rattle.dealer_world.proofs.Dealt.{DrawsAreDeals, deals_fairly}

some_of_each : (IsSo IsThere : Era → Type 0) (eras : List Era) (Goal : Type 0) → ((era : Era) → IsSo era → IsThere era → Goal) → InEach IsSo eras → InSome IsThere eras → Goal
some_of_each IsSo IsThere [] Goal gives each some = absurd some
some_of_each IsSo IsThere (era ∷ before) Goal gives (is, each) (inl here) = gives era is here
some_of_each IsSo IsThere (era ∷ before) Goal gives (is, each) (inr there) = some_of_each IsSo IsThere before Goal gives each there

line_of_record : (setting : Setting) (n : ℕ) (eras : List Era) (found : Line) → (one : OneList (dealer_in setting eras) n eras) → HasLine eras found
    → IsLineOf (dealer_in setting eras) one.commands found
line_of_record setting n eras found one has =
    some_of_each (λ era. IsOfOneList (dealer_in setting eras) one.commands era.record_of) (λ era. In found (lines_of era.record_of.shown)) eras
    (IsLineOf (dealer_in setting eras) one.commands found) (λ era is there. is.lines found there) one.shown has

log_of_record : (setting : Setting) (n : ℕ) (eras : List Era) (found : Written) → (one : OneList (dealer_in setting eras) n eras) → HasLog eras found
    → IsLogOf (dealer_in setting eras) one.commands found
log_of_record setting n eras found one has =
    some_of_each (λ era. IsOfOneList (dealer_in setting eras) one.commands era.record_of) (λ era. In found (logs_of era.record_of)) eras
    (IsLogOf (dealer_in setting eras) one.commands found) (λ era is there. is.logs found there) one.shown has

view_by : (seated : Bool) (view : Option View) (text : List ℕ) → cond seated (option_map line_text view) None ≡ Some text → (found : View) × (view ≡ Some found) × (text ≡ line_text found)
view_by true None text is = absurd cc
view_by true (Some found) text is = (found, refl, cc)
view_by false view text is = absurd cc

pub lines_agree : LinesAgree → LinesOfRecordsAgree
lines_agree law setting n eras first second one has_first has_second =
    let a = line_of_record setting n eras first one has_first in
    let b = line_of_record setting n eras second one has_second in
    let v = view_by (nat_lt first.seat setting.game.players) (seat_view setting.game (hands_of setting.game setting.title.hands a.0) first.seat) first.text a.2 in
    let w = view_by (nat_lt second.seat setting.game.players) (seat_view setting.game (hands_of setting.game setting.title.hands b.0) second.seat) second.text b.2 in
    let agree = law setting.game setting.title.hands one.commands a.0 b.0 a.1 b.1 first.seat second.seat v.0 w.0 v.1 w.1 in
    (v.0, w.0, v.2, w.2, agree.2)

beginning_of : (Seen : ℕ → Place → Type 0) (newer first second : List Command) → AllSameButUnseen Seen (newer ++ first) second
    → (before : List Command) × IsBeginning before second × (length before ≡ length first)
beginning_of Seen [] first second same = (second, ([], refl), sym (same_length Seen first second same))
beginning_of Seen (command ∷ newer) first [] same = absurd same
beginning_of Seen (command ∷ newer) first (other ∷ others) (is, same) =
    let found = beginning_of Seen newer first others same in
    (found.0, (other ∷ found.1.0, ap (λ cs. other ∷ cs) found.1.1), found.2)

pub alike_lists : AlikeThroughout → AlikeListsShowTheSame
alike_lists law setting n eras other found one alike has =
    let is = line_of_record setting n eras found one has in
    let seated = then_some (nat_lt found.seat setting.game.players) (line setting.game setting.title.hands is.0 found.seat) found.text is.2 in
    let Seen : ℕ → Place → Type 0 = λ number place.
    SeatSees setting.game (hands_of setting.game setting.title.hands one.commands) found.seat number place ⊎ SeatSees setting.game (hands_of setting.game setting.title.hands other) found.seat number place in
    let before = beginning_of Seen is.1.0 is.0 other (subst (λ (cs : List Command). AllSameButUnseen Seen cs other) is.1.1 alike) in
    let same = law setting.game setting.title.hands found.seat one.commands other is.0 before.0 alike is.1 before.1 (sym before.2) in (
      is.0,
      before.0,
      is.1,
      before.1,
      before.2,
      is.2,
      ap (λ b. cond b (line setting.game setting.title.hands before.0 found.seat) None) seated.0 ∙ (sym same ∙ seated.1),
    )

all_of_beginning : (newer first : List Command) → AllByRecursion DealsFairly (newer ++ first) → AllByRecursion DealsFairly first
all_of_beginning [] first all = all
all_of_beginning (command ∷ newer) first all = all_of_beginning newer first all.1

pub complete_logs : DrawsAreDeals → CompleteLogsAreMatchLogs
complete_logs draws setting n eras log kept have one has =
    let fair = deals_fairly draws setting n eras kept.is_game.most_players have one in
    let is = log_of_record setting n eras log one has in (
      is.0,
      is.1,
      is.2,
      λ over. record {
        title = setting.title;
        is_title = record { name = kept.match_name; game = kept.game_word; least = kept.least; most = kept.most };
        names = setting.names;
        are_names = kept.seat_names;
        commands = is.0;
        deals = all_of_beginning is.1.0 is.0 (subst (AllByRecursion DealsFairly) is.1.1 fair);
        over = over;
        lines = sym is.2;
      },
    )
