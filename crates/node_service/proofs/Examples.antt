-- Definitions on values, each beside a near miss.
use Rattle.std.proofs.Common.{◌≡◌, ◌≢◌, ℕ, ◌+◌, ◌≤◌, ◌==◌, if◌then◌else◌, Bool, true, false, List, [], ◌∷◌, ◌++◌, length, take, Some, None, inl, inr, refl, sym, ap, ◌∙◌, subst, arith}
use Rattle.std.proofs.lemmas.List.{length-append}
use Rattle.protocol_model.specs.Dealers.{Seat, Log}
use Rattle.protocol_model.specs.Sets.{In}
use Rattle.node_wires.specs.declared.line.Line.TheVariants as line
use Rattle.node_wires.specs.Passages.{Began, Came as PieceCame, Wrote, Called, calls_in}
use Rattle.dealer_world.specs.Records.{Delivered, Came, Connected}
use Rattle.stations.specs.Deeds.{Deed}
use Rattle.node_service.specs.Parts.{IsPartOf}
use Rattle.node_service.specs.Showing.{shown_log, LogGains}
use Rattle.node_service.specs.Logging.{HasNoStart, StartedOnce}
use Rattle.node_service.specs.Handed.{frames_by}
use Rattle.node_seats.specs.declared.seat.Seat.{Seat as Place}
use Rattle.node_seats.specs.Seating.{newcomer, nobody as empty_seat}
use Rattle.node_service.specs.Arriving.{Incoming, OfSeat, OfPeer, incoming_in, incoming_of, came_by}
use Rattle.node_service.specs.Calling.{called_if}
use Rattle.node_service.specs.Going.{GoesOn}
use Rattle.node_service.specs.Served.{Served}
use Rattle.node_service.specs.Timing.{with_callers}
use Rattle.node_seats.specs.declared.seat_notice.SeatNotice.TheVariants as seat_notices
use Rattle.node_service.specs.Turns.{ComeOfSeats, IsOneAt}
use Rattle.node_service.specs.Sessions.{Without, With, Astray, session_of, IsBeginning, AreGiven}
use Rattle.node_service.specs.Fitting.{FitsAt}
use Rattle.node_service.specs.declared.sitting.Sitting.TheVariants.{Here, LetGo}
use Rattle.node_service.specs.declared.wrong_tokens.Untold.{Untold}
use Rattle.node_peers.specs.declared.notice.Notice.TheVariants as notices
use Rattle.node_service.specs.declared.server_notice.ServerNotice.TheVariants as tells
use Rattle.node_service.specs.Company.{joined_in}
use Rattle.betting.specs.declared.action.Action.TheVariants.{Fold}
use Rattle.slot_log.specs.Hand.{Hand}
use Rattle.line_cursor.specs.Cursors.{cursor_at}
use Rattle.line_cursor.specs.declared.cursor.Cursor.{Cursor}
use Rattle.promise_store.specs.declared.disk.Disk.{Ghosts}
use Rattle.slot_log.specs.Hand.{Match}
use Rattle.dealer_node.specs.Nodes.{Node}
use Rattle.stations.specs.Moments.{Moment}
use Rattle.stations.specs.Stations.{Look}
use Rattle.node_seats.specs.declared.bot.Bot.{Bot}
use Rattle.node_seats.specs.declared.bot.Parting.TheVariants.{Other}
use Rattle.node_seats.specs.declared.bot.Telling.{Telling}
use Rattle.node_seats.specs.declared.words.Asked.{Asked}
use Rattle.node_seats.specs.declared.words.Asked.TheVariants as asks
use Rattle.node_seats.specs.Words.{Reading}
use Rattle.node_seats.specs.Seating.{gone}
use Rattle.node_seats.specs.Telling.{telling_from}
use Rattle.node_service.specs.Bots.{newest_place, IsRefusedBy, HadBegun, HadParted, HadTableSince, BeginsSince, PartsSince}
use Rattle.node_service.specs.WrongTokens.{nobody, and_one, due_of, told_at}
use Rattle.node_service.specs.Taking.{is_enough}
use Rattle.node_service.specs.Unread.{nothing_read, slept_in, read_in, may_be_read}

-- ---- two deeds of node 0: seat 1 sent 7 8, upon which the node sent a frame to node 2 and showed a line to seat 0 and text to its log; before that seat 1 connected

unfoldable first : Deed
first = record { arrived = Connected 0 1 ∷ []; made = record { frames = []; texts = (record { reader = Log; text = 1 ∷ [] }) ∷ []; began = false } }

unfoldable later : Deed
later = record {
  arrived = Came 0 1 (7 ∷ 8 ∷ []) ∷ [];
  made = record {
    frames = (record { from = 0; to = 2; bytes = 6 ∷ [] }) ∷ [];
    texts = (record { reader = Seat 0; text = 5 ∷ [] }) ∷ (record { reader = Log; text = 2 ∷ 3 ∷ [] }) ∷ [];
    began = false;
  };
}

-- the log gets the texts of the earlier deed first
the_log : shown_log (later ∷ first ∷ []) ≡ 1 ∷ 2 ∷ 3 ∷ []
unfolding first later
the_log = refl

-- and no line of a seat
no_line_of_a_seat : shown_log (later ∷ first ∷ []) ≡ 1 ∷ 5 ∷ 2 ∷ 3 ∷ [] → ⊥
unfolding first later
no_line_of_a_seat is = cc

-- frames go to the peers
handed_on : frames_by (later ∷ first ∷ []) ≡ Wrote (line.Peer 2) (6 ∷ []) ∷ []
unfolding first later
handed_on = refl

-- a frame isn't handed on for another node
for_its_own_node : frames_by (later ∷ first ∷ []) ≡ Wrote (line.Peer 1) (6 ∷ []) ∷ [] → ⊥
unfolding first later
for_its_own_node is = cc

-- what came of seat 1: it was taken in, and then its bytes came
came : came_by (later ∷ first ∷ []) ≡ OfSeat (Began (line.Seat 1)) ∷ OfSeat (PieceCame (line.Seat 1) (7 ∷ 8 ∷ [])) ∷ []
unfolding first later
came = refl

-- a frame is of the peer that it names, and of no other
frame_came : incoming_in (Delivered (record { from = 2; to = 0; bytes = 6 ∷ [] }) ∷ []) ≡ OfPeer 2 (6 ∷ []) ∷ []
frame_came = refl

of_no_other_peer : incoming_in (Delivered (record { from = 2; to = 0; bytes = 6 ∷ [] }) ∷ []) ≡ OfPeer 1 (6 ∷ []) ∷ [] → ⊥
of_no_other_peer is = cc

-- ---- sessions of seats

session_of_one_that_came : session_of 1 (later ∷ first ∷ []) ≡ With (7 ∷ 8 ∷ [])
unfolding first later
session_of_one_that_came = refl

-- bytes without a session are given to none
session_of_none : session_of 1 (later ∷ []) ≡ Astray
unfolding later
session_of_none = refl

of_no_other_seat : session_of 0 (later ∷ first ∷ []) ≡ Without
unfolding first later
of_no_other_seat = refl

-- all that came was given, when it came
given_when_it_came : AreGiven 1 (later ∷ first ∷ []) (Began (line.Seat 1) ∷ PieceCame (line.Seat 1) (7 ∷ 8 ∷ []) ∷ [])
unfolding first later
given_when_it_came = record {
  by_then = Began (line.Seat 1) ∷ PieceCame (line.Seat 1) (7 ∷ 8 ∷ []) ∷ [];
  since = [];
  passed_is = refl;
  given = ([], refl);
  earlier = record { by_then = Began (line.Seat 1) ∷ []; since = PieceCame (line.Seat 1) (7 ∷ 8 ∷ []) ∷ []; passed_is = refl; given = ([], refl); earlier = tt };
}

-- more may have come
beginning : IsBeginning (With (7 ∷ [])) (7 ∷ 8 ∷ [])
beginning = (8 ∷ [], refl)

-- but no piece before it that was left out, nor one in the middle
nothing_before_it : IsBeginning (With (7 ∷ 8 ∷ [])) (6 ∷ 7 ∷ 8 ∷ []) → ⊥
nothing_before_it (rest, is) = cc

nothing_in_the_middle : IsBeginning (With (6 ∷ 8 ∷ [])) (6 ∷ 7 ∷ 8 ∷ []) → ⊥
nothing_in_the_middle (rest, is) = cc

-- a bot that is here was given all
not_a_beginning_of_one_that_is_here : FitsAt Here (With (7 ∷ [])) (7 ∷ 8 ∷ []) → ⊥
not_a_beginning_of_one_that_is_here is = cc

one_that_is_let_go_of : FitsAt LetGo (With (7 ∷ [])) (7 ∷ 8 ∷ [])
one_that_is_let_go_of = tt

-- ---- parts of lists

one_left_out : IsPartOf {A = ℕ} (1 ∷ 3 ∷ []) (1 ∷ 2 ∷ 3 ∷ [])
one_left_out = inl (refl, inr (inl (refl, tt)))

-- not in another order
in_this_order : IsPartOf {A = ℕ} (3 ∷ 1 ∷ []) (1 ∷ 3 ∷ []) → ⊥
in_this_order (inl (is, more)) = cc
in_this_order (inr (inl (is, more))) = absurd more
in_this_order (inr (inr more)) = absurd more

-- and not twice what stands there once
not_twice : IsPartOf {A = ℕ} (1 ∷ 1 ∷ []) (1 ∷ []) → ⊥
not_twice (inl (is, more)) = absurd more
not_twice (inr more) = absurd more

-- ---- the log

all_of_it_is_there : LogGains false false (2 ∷ 3 ∷ []) (1 ∷ []) (1 ∷ 2 ∷ 3 ∷ [])
all_of_it_is_there = refl

a_beginning_is_there : LogGains false true (2 ∷ 3 ∷ []) (1 ∷ []) (1 ∷ 2 ∷ [])
a_beginning_is_there = (2 ∷ [], 3 ∷ [], refl, (λ none. cc), refl)

-- a log that could be written has no beginning alone
not_a_beginning_alone : LogGains false false (2 ∷ 3 ∷ []) (1 ∷ []) (1 ∷ 2 ∷ []) → ⊥
not_a_beginning_alone is = cc

-- nor has one that couldn't be written all of it
not_failed_for_nothing : LogGains false true (2 ∷ []) [] (2 ∷ []) → ⊥
not_failed_for_nothing (given, rest, is, some, has) = some (cc)

-- and once it couldn't, it gains nothing
nothing_more_once_it_failed : LogGains true true (2 ∷ []) (1 ∷ []) (1 ∷ 2 ∷ []) → ⊥
nothing_more_once_it_failed (failed, is) = cc

-- ---- nodes that are told to be there

-- behind all that is told stands what the peers told of them, and nothing else
one_is_there : joined_in (tells.Seated 0 ∷ tells.Joined 1 None ∷ tells.Gone 2 ∷ []) ≡ notices.Joined 1 None ∷ []
one_is_there = refl

no_other_node : joined_in (tells.Joined 1 None ∷ []) ≡ notices.Joined 2 None ∷ [] → ⊥
no_other_node is = cc

-- ---- who came to a seat without its token

-- the first is told at once
first_told_at_once : due_of (and_one None nobody) 7 ≡ 1
first_told_at_once = refl

-- two more within the second behind that note aren't, but once it has passed
abbrev two_more : Untold
two_more = and_one None (and_one None (told_at 5000))

not_told_yet : due_of two_more 1004999 ≡ 0
not_told_yet = refl

told_a_second_later : due_of two_more 1005000 ≡ 2
told_a_second_later = refl

-- and behind that note nobody is to be told, however late it is
none_told_again : due_of (told_at 1005000) 9000000 ≡ 0
none_told_again = refl

-- ---- starts

abbrev begun : Deed
begun = record { arrived = []; made = record { frames = []; texts = []; began = true } }

abbrev quiet : Deed
quiet = record { arrived = []; made = record { frames = []; texts = []; began = false } }

abbrev newest_began : List Deed → Bool
newest_began [] = false
newest_began (deed ∷ before) = deed.made.began

started_once : StartedOnce (quiet ∷ begun ∷ [])
started_once = record { later = quiet ∷ []; first = begun; deeds_are = refl; begins = refl; no_other = (refl, tt) }

-- not twice, and not behind other deeds
not_started_twice : StartedOnce (begun ∷ begun ∷ []) → ⊥
not_started_twice once = by once.later once.first once.deeds_are once.no_other
  where
    by : (later : List Deed) (first : Deed) → begun ∷ begun ∷ [] ≡ later ++ first ∷ [] → HasNoStart later → ⊥
    by [] first is none = cc
    by (deed ∷ later) first is none = let never : true ≡ false = ap newest_began is ∙ none.0 in absurd (cc)

not_started_behind : StartedOnce (begun ∷ quiet ∷ []) → ⊥
not_started_behind once = by once.later once.first once.deeds_are once.no_other
  where
    by : (later : List Deed) (first : Deed) → begun ∷ quiet ∷ [] ≡ later ++ first ∷ [] → HasNoStart later → ⊥
    by [] first is none = cc
    by (deed ∷ later) first is none = let never : true ≡ false = ap newest_began is ∙ none.0 in absurd (cc)

-- ---- where the lines of a bot begin

-- two hands were dealt, of the newer of which one action was taken
abbrev two_hands : List Hand
two_hands = (record { deal = []; past = Fold ∷ [] }) ∷ (record { deal = []; past = [] }) ∷ []

at_the_newest : newest_place two_hands ≡ cursor_at 1 1
at_the_newest = refl

at_the_first_that_comes : newest_place [] ≡ cursor_at 0 0
at_the_first_that_comes = refl

-- ---- what began of a bot meanwhile

-- it asked for the newest line and has named the version
abbrev asks_newest : Reading
asks_newest = record { line = []; named = []; asked = asks.Newest; is_over = true }

abbrev silent : Bot
silent = record { sits = true; words = asks_newest; telling = None; parting = None }

-- its lines begin at the first
abbrev from_the_first : Telling
from_the_first = telling_from (cursor_at 0 0)

abbrev at_the_first : Bot
at_the_first = record { sits = true; words = asks_newest; telling = Some from_the_first; parting = None }

-- lines that had begun before
begun_before : HadBegun at_the_first at_the_first from_the_first
begun_before = (record { sits = λ is. is; words = refl }, refl)

-- a bot that is gone meanwhile
begun_before_it_went : HadBegun at_the_first (gone at_the_first) from_the_first
begun_before_it_went = (record { sits = λ is. refl; words = refl }, refl)

other_hand : ◌≡◌ {A = ℕ} 0 1 → ⊥
other_hand is = cc

-- not those of one that was told none
not_begun_before : HadBegun silent at_the_first from_the_first → ⊥
not_begun_before had = had.1

-- nor of one that came where another was gone, though it was told the same
not_of_who_was_gone : HadBegun (gone at_the_first) at_the_first from_the_first → ⊥
not_of_who_was_gone had = let sat : false ≡ true = had.0.sits refl in absurd (cc)

-- nor those that had begun elsewhere
not_begun_elsewhere : HadBegun (record at_the_first { telling = Some (telling_from (cursor_at 1 1)) }) at_the_first from_the_first → ⊥
not_begun_elsewhere had = other_hand (sym (ap (λ (c : Cursor). c.hand) had.1))

-- that its line is none it hadn't been told
not_parted_before : HadParted newcomer (record newcomer { parting = Some Other }) → ⊥
not_parted_before had = let told : None ≡ Some Other = had.1 in absurd (cc)

module _ {N : Type 0} where
  -- where each table since has these two hands, the newest line isn't the first
  not_at_the_first : (first : List Moment) (look : Look N) (seat : ℕ) → ((table : Match) → HadTableSince first look table → table.hands ≡ two_hands) → BeginsSince first look seat silent at_the_first (Some from_the_first) → ⊥
  not_at_the_first first look seat all (inl had) = not_begun_before had
  not_at_the_first first look seat all (inr (table, (had, starts))) =
      other_hand (ap (λ (c : Cursor). c.hand) starts ∙ ap (λ (hands : List Hand). (newest_place hands).hand) (all table had))

  -- where each has the line that it named, it isn't told that this is none
  not_refused : (first : List Moment) (look : Look N) (seat : ℕ) (old new : Bot) → old.parting ≡ None → new.words.asked ≡ asks.Line
      → ((table : Match) → HadTableSince first look table → IsRefusedBy table seat asks.Line new.words.named → ⊥) → PartsSince first look seat old new (Some Other) → ⊥
  not_refused first look seat old new none named all (inl had) = let told : None ≡ Some Other = sym none ∙ had.1 in absurd (cc)
  not_refused first look seat old new none named all (inr (table, (had, refused))) = all table had (subst (λ (a : Asked). IsRefusedBy table seat a new.words.named) named refused)

-- of a node that had had two tables when a turn began the newer counts in it, and not the older
module _ {N : Type 0} (look : Look N) (newer older : Moment) (both : look.moments ≡ newer ∷ older ∷ []) where
  the_table_of_its_beginning : HadTableSince look.moments look newer.table
  the_table_of_its_beginning = record {
    since = [];
    moments = refl;
    moment = newer;
    was = subst (λ (moments : List Moment). In newer (take 1 moments)) (sym both) (inl refl);
    table_is = refl;
  }

  none_before : (since : List Moment) (moment : Moment) → look.moments ≡ since ++ look.moments → In moment (since ++ take 1 look.moments) → moment.table ≡ older.table → older.table ≢ newer.table → ⊥
  none_before [] moment same there is other = elim (subst (λ (moments : List Moment). In moment (take 1 moments)) both there) as (λ _. ⊥) [
    | inl now ↦ other (sym is ∙ ap (λ (m : Moment). m.table) now)
    | inr none ↦ absurd none
  ]
  none_before (later ∷ since) moment same there is other =
      let longer = ap length same ∙ length-append (later ∷ since) look.moments in omega (arith, longer)

  a_table_before_it_began : older.table ≢ newer.table → HadTableSince look.moments look older.table → ⊥
  a_table_before_it_began other had = none_before had.since had.moment had.moments had.was had.table_is other

-- ---- who comes in a turn

-- a bot sits at seat 0, and nobody at others
abbrev one_sits : List Place
one_sits = (record { bot = newcomer; since = empty_seat.since; waiting = empty_seat.waiting }) ∷ empty_seat ∷ []

abbrev comes_to : ℕ → Incoming
comes_to seat = OfSeat (Began (line.Seat seat))

-- one comes where nobody sat
at_most_one : (is : Bool) → ((if is then 1 else 0) + 0) + 0 ≤ 1
at_most_one true = omega arith
at_most_one false = omega arith

comes_to_a_free_seat : IsOneAt [] (comes_to 1 ∷ [])
comes_to_a_free_seat seat within = at_most_one (1 == seat)

-- but not where a bot sat
follows_within_the_turn : IsOneAt one_sits (comes_to 0 ∷ []) → ⊥
follows_within_the_turn is = let one = is 0 (omega arith) in omega (arith, one)

-- nor two
two_come_to_a_free_seat : IsOneAt one_sits (comes_to 1 ∷ comes_to 1 ∷ []) → ⊥
two_come_to_a_free_seat is = let one = is 1 (omega arith) in omega (arith, one)

-- nor is anything read of one that came
piece_of_who_came : ComeOfSeats (comes_to 1 ∷ OfSeat (PieceCame (line.Seat 1) (7 ∷ [])) ∷ []) → ⊥
piece_of_who_came come = let one = come.one 1 (omega arith) in omega (arith, one)

-- ---- how much is taken in a turn

-- one thing is taken in any case
first_is_taken : is_enough 0 false 5 9000000 ≡ false
first_is_taken = refl

-- the next one isn't once 20 ms have passed, where it may cost syncs
next_that_may_sync : is_enough 1 false 5 20005 ≡ true
next_that_may_sync = refl

-- up to four that cost none are
fourth_without_a_sync : is_enough 3 true 5 9000000 ≡ false
fourth_without_a_sync = refl

fifth_waits : is_enough 4 true 5 20005 ≡ true
fifth_waits = refl

-- and all that come earlier
within_the_time : is_enough 900 false 5 20004 ≡ false
within_the_time = refl

-- ---- what lay there as a process woke

-- it counts as read once nothing is left, and else behind 64 turns in which what came next of each seat was taken
nothing_is_left : may_be_read true nothing_read ≡ true
nothing_is_left = refl

read_too_little : may_be_read false (read_in true (record { turns = 62 })) ≡ false
read_too_little = refl

read_enough : may_be_read false (read_in true (record { turns = 63 })) ≡ true
read_enough = refl

-- a turn in which it wasn't read doesn't count
seats_were_not_read : may_be_read false (read_in false (record { turns = 63 })) ≡ false
seats_were_not_read = refl

-- nor one before a sleep
read_before_it_slept : may_be_read false (read_in true (slept_in (record { turns = 64 }) 100001)) ≡ false
read_before_it_slept = refl

-- ---- what those took who came to ports

-- it isn't sleep, nor what wasn't before, up to 25 ms
all_of_it : with_callers 7000 25000 ≡ 32000
all_of_it = refl

no_more_of_it : with_callers 7000 90000 ≡ 32000
no_more_of_it = refl

-- ---- calls that are put down

one_call : calls_in (called_if true) ≡ 1
one_call = refl

-- none for which there was no memory
no_call : calls_in (called_if false) ≡ 0
no_call = refl

module _ {D : Type 0} (g : Ghosts D) where
  -- nor one by which nothing was done
  called_in_vain : (old new : Served (Node D)) (goes : GoesOn g [] old new) → old.passed ≡ [] → new.passed ≡ Called ∷ [] → goes.since ≡ [] → ⊥
  called_in_vain old new goes none one nothing =
      let calls = goes.calls in
      let before = ap calls_in none in
      let after = ap calls_in one in
      let deeds = ap (λ (m : List Deed). length m) nothing in
      omega (arith, calls, before, after, deeds)

-- ---- a seat that couldn't be read

nothing_is_told : incoming_of (seat_notices.Unread 1) ≡ []
nothing_is_told = refl
