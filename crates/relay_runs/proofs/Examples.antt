-- What the definitions say of small cases, and what they don't.
use Rattle.std.proofs.Common.{◌≡◌, ℕ, ◌==◌, ◌||◌, Bool, true, false, ◌<◌, ◌≤◌, length, get_or, append-nil, List, [], ◌∷◌, ◌++◌, drop, codes, option_to_list, Option, None, Some, inl, inr, refl, ap, sym, subst, ◌∙◌, arith}
use Rattle.std.proofs.lemmas.Bool.{cases_eq, eq-eqb, ne_eqb, false≢true}
use Rattle.matchstate.specs.Free.{IsFreeOf}
use Rattle.seat_relay.specs.declared.mode.Mode.{Mode}
use Rattle.seat_relay.specs.Relaying.{Line, Story, Event, Begins, Ends, Tells, Says, Pushes, happens, answered, all_given}
use Rattle.seat_relay.specs.Laws.{fresh, begun, Word, Shows, Over, words_over}
use Rattle.node_wires.specs.declared.line.Line.TheVariants.{Peer, Seat, Guest}
use Rattle.node_wires.specs.declared.way.Way.TheVariants.{Writing}
use Rattle.node_wires.specs.Passages.{Passage, Began, Came, Wrote, Tried, Closed, Saw, Waited, Called, came_over}
use Rattle.relay_runs.specs.declared.desk.Desk.{Desk}
use Rattle.relay_runs.specs.Since.{since_bot, bots_in, begun_over}
use Rattle.relay_runs.specs.Said.{bytes_of_lines, token_line, greeting, asks, asked_behind, asked_over, over_behind, said_over, waits_at}
use Rattle.relay_runs.specs.declared.holding.Holding.{Holding}
use Rattle.relay_runs.specs.declared.node_state.NodeState.{NodeState}
use Rattle.relay_runs.specs.Holds.{Holds, HoldsOn, IsLeft}
use Rattle.relay_runs.specs.Heard.{with_feeds, IsTextOf, IsLineOf, Adds, AreHeard, IsHeardOf, is_comment, IsPassedOver, IsVersion, IsNoQuorumText, IsMendedBy, IsSaidFor, AddsSaid, AreSaid, IsSaidOf, sayings_in}
use Rattle.relay_runs.specs.Few.{last_said, IsTail, IsFew}
use Rattle.relay_runs.specs.Course.{Explains, ComesBehind, IsNext, CameFrom}
use Rattle.relay_runs.specs.Told.{CameFromBot, WasCurrent}
use Rattle.relay_runs.specs.Own.{IsOwn, was_dialled, IsOwned}
use Rattle.relay_runs.specs.Meant.{IsRight}
use Rattle.game_def.specs.Game.{Game}
use Rattle.seat_relay.specs.Mending.{IsMendedAnswer}
use Rattle.std.specs.List.{AllByRecursion}
use Rattle.relay_runs.specs.Kept.{GoesOn, BeginsAnew}
use Rattle.relay_runs.proofs.Lines.{one_text, is_heard}

-- ---- since a bot was taken in

abbrev one_bot : List Passage
one_bot = Began (Peer 0) ∷ Came (Peer 0) (7 ∷ []) ∷ Began (Seat 0) ∷ Began (Peer 0) ∷ Came (Peer 0) (8 ∷ []) ∷ []

what_passed_before_counts_for_nothing : since_bot one_bot ≡ Began (Peer 0) ∷ Came (Peer 0) (8 ∷ []) ∷ []
what_passed_before_counts_for_nothing = refl

another_seat_is_no_bot : since_bot (Wrote (Peer 0) (7 ∷ []) ∷ Began (Seat 1) ∷ []) ≡ Wrote (Peer 0) (7 ∷ []) ∷ Began (Seat 1) ∷ []
another_seat_is_no_bot = refl

a_node_that_is_dialled_is_no_bot : bots_in one_bot ≡ 1
a_node_that_is_dialled_is_no_bot = refl

each_dial_counts : begun_over one_bot (Peer 0) ≡ 2
each_dial_counts = refl

of_its_own_node : begun_over one_bot (Peer 1) ≡ 0
of_its_own_node = refl

-- ---- whose lines, and which nodes'

the_bots_line_and_nodes : AllByRecursion IsOwn (Came (Seat 0) (7 ∷ []) ∷ Began (Peer 2) ∷ Wrote (Peer 2) (8 ∷ []) ∷ [])
the_bots_line_and_nodes = (refl, (refl, (refl, tt)))

-- a turn: it is waited, the bot has no room, and a node is hung up
nothing_of_others_in_a_turn : AllByRecursion IsOwn (Saw 1 ∷ Waited 5 ∷ Saw 6 ∷ Tried (Seat 0) Writing ∷ Closed (Peer 2) ∷ [])
nothing_of_others_in_a_turn = (tt, (tt, (tt, (refl, (refl, tt)))))

no_node_is_called : IsOwn Called → ⊥
no_node_is_called own = own

no_guests_line : IsOwn (Wrote (Guest 0) (7 ∷ [])) → ⊥
no_guests_line own = cc

one_of_two_is_dialled : was_dialled (false ∷ true ∷ []) 1 ≡ true
one_of_two_is_dialled = refl

no_event : (front behind : List Event) → [] ≡ front ++ Pushes 0 ∷ behind → ⊥
no_event [] behind same = cc
no_event (e ∷ front) behind same = cc

no_byte : (byte : ℕ) (more : List ℕ) → byte ∷ more ≡ [] → ⊥
no_byte byte more none = cc

nothing_came_over_an_old_connection : (desk : Desk) → IsOwned desk (Came (Peer 0) (7 ∷ []) ∷ []) → ⊥
nothing_came_over_an_old_connection desk owned = no_byte 7 [] (owned.nothing 0 refl).0

nothing_was_written_to_an_old_connection : (desk : Desk) → IsOwned desk (Wrote (Peer 0) (7 ∷ []) ∷ []) → ⊥
nothing_was_written_to_an_old_connection desk owned = no_byte 7 [] (owned.nothing 0 refl).1

-- ---- lines and answers

abbrev line : ℕ → ℕ → Line
line hand len = record { text = hand ∷ len ∷ []; place = record { hand = hand; len = len } }

abbrev answer : List ℕ
answer = 0 ∷ 0 ∷ 58 ∷ 99 ∷ []

-- node 0 is dialled, tells a line and is told the answer twice; it is dialled again, and tells a further line
abbrev events : List Event
events = Begins 0 ∷ Tells 0 (line 0 0) ∷ Says answer ∷ Pushes 0 ∷ Pushes 0 ∷ []

abbrev further : List Event
further = events ++ Begins 0 ∷ Tells 0 (line 1 0) ∷ []

lines_over_the_last_connection : words_over 0 further ≡ Shows (line 1 0) ∷ []
lines_over_the_last_connection = refl

no_lines_of_another : words_over 1 further ≡ []
no_lines_of_another = refl

what_the_bot_says : sayings_in further ≡ answer ∷ []
what_the_bot_says = refl

abbrev from_the_first : Mode
from_the_first = record { newest = false; first_stands = false }

abbrev from_anywhere : Mode
from_anywhere = record { newest = true; first_stands = false }

-- a relay of two nodes to which this happened
abbrev of_two : List Event → Story
of_two what = record { nodes = 2; mode = from_the_first; standing = fresh from_the_first 2; events = what }

an_answer_is_said_once : said_over 0 (of_two events) ≡ answer ∷ []
unfolding over_behind happens answered
an_answer_is_said_once = refl

over_the_next_connection_none : said_over 0 (of_two further) ≡ []
unfolding over_behind happens answered
over_the_next_connection_none = refl

-- the first connection asks for the first line, the next one for the last line that the bot was given
the_first_line_is_asked_for : asked_over 0 (of_two events) ≡ Some (codes "FIRST")
unfolding asked_behind happens
the_first_line_is_asked_for = refl

then_the_last_line : asked_over 0 (of_two further) ≡ Some (0 ∷ 0 ∷ [])
unfolding asked_behind happens
then_the_last_line = refl

nobody_else_is_asked : asked_over 1 (of_two further) ≡ None
unfolding asked_behind happens
nobody_else_is_asked = refl

a_late_relay_asks_for_the_newest : asks (fresh from_anywhere 2) ≡ codes "NEWEST"
a_late_relay_asks_for_the_newest = refl

lines_end_so : bytes_of_lines (line 3 4 ∷ line 5 6 ∷ []) ≡ 3 ∷ 4 ∷ 13 ∷ 10 ∷ 5 ∷ 6 ∷ 13 ∷ 10 ∷ []
lines_end_so = refl

the_token_comes_first : greeting (token_line (Some (codes "abc"))) (codes "FIRST") ≡ codes "#TOKEN abc\r\n#RESUME FIRST\r\nVERSION:2.0.0\r\n"
the_token_comes_first = refl

without_a_token : greeting (token_line None) (codes "MATCHSTATE:0:0::5d5c|") ≡ codes "#RESUME MATCHSTATE:0:0::5d5c|\r\nVERSION:2.0.0\r\n"
without_a_token = refl

-- ---- texts

a_carriage_return_is_left_out : IsTextOf (codes "abc\r") (codes "abc")
a_carriage_return_is_left_out = inl refl

it_does_not_stay : IsTextOf (codes "abc\r") (codes "abc\r") → ⊥
it_does_not_stay is = let same : codes "abc\r" ≡ codes "abc" = one_text (codes "abc\r") (codes "abc\r") (codes "abc") is (inl refl) in absurd cc

a_comment : is_comment (codes "# hello") ≡ true
a_comment = refl

an_answer_is_none : is_comment (codes "c") ≡ false
an_answer_is_none = refl

feeds_stand_behind : with_feeds (codes "ab" ∷ [] ∷ codes "c" ∷ []) ≡ codes "ab\n\nc\n"
feeds_stand_behind = refl

-- without a game nothing is mended
nothing_is_mended : (text said : List ℕ) → IsMendedBy None text said → ⊥
nothing_is_mended text said by = let none = by.by_it in absurd cc

its_own_text_is_said : IsSaidFor None (codes "ab\r") (codes "ab")
its_own_text_is_said = record { text = codes "ab"; is_text = inl refl; meant = inl refl }

another_text_is_not : IsSaidFor None (codes "ab\r") (codes "a") → ⊥
another_text_is_not is =
    elim is.meant [
      | inl same ↦ let text : codes "a" ≡ codes "ab" = same ∙ one_text (codes "ab\r") is.text (codes "ab") is.is_text (inl refl) in absurd cc
      | inr by ↦ nothing_is_mended is.text (codes "a") by
    ]

-- ---- the bot's whole lines

abbrev has_feed : List ℕ → Bool
has_feed [] = false
has_feed (byte ∷ rest) = (byte == 10) || has_feed rest

no_feed : (text : List ℕ) → has_feed text ≡ false → IsFreeOf 10 text
no_feed [] none = tt
no_feed (byte ∷ rest) none =
    elim (cases_eq byte 10) [
      | inl is ↦ absurd (false≢true (sym none ∙ ap (λ (t : Bool). t || has_feed rest) (eq-eqb byte 10 is)))
      | inr isnt ↦ (isnt, no_feed rest (sym (ap (λ (t : Bool). t || has_feed rest) (ne_eqb byte 10 isnt)) ∙ none))
    ]

a_comment_is_passed_over : IsPassedOver (codes "# hello\r")
a_comment_is_passed_over = record { text = codes "# hello"; is_text = inl refl; reason = inl refl }

an_answer_is_not_passed_over : IsPassedOver (codes "ab\r") → ⊥
an_answer_is_not_passed_over = is_heard (codes "ab\r") (codes "ab") (inl refl) refl (omega arith)

a_revision_of_one_digit : IsVersion (codes "VERSION:2.0.0")
a_revision_of_one_digit = record { revision = codes "0"; whole = refl; some = omega arith; few = omega arith; digits = refl }

another_text_is_no_version : IsVersion (codes "c") → ⊥
another_text_is_no_version is = let one : 99 ≡ 86 = ap (λ (l : List ℕ). get_or l 0 0) is.whole in absurd cc

behind_its_version_a_text_is_said : AreSaid None false (codes "# hello\r" ∷ codes "VERSION:2.0.0\r" ∷ codes "ab\r" ∷ []) true (codes "ab" ∷ [])
behind_its_version_a_text_is_said = (
  [],
  codes "ab" ∷ [],
  false,
  refl,
  no_feed (codes "# hello\r") refl,
  AddsSaid.passed false a_comment_is_passed_over,
  (
    [],
    codes "ab" ∷ [],
    true,
    refl,
    no_feed (codes "VERSION:2.0.0\r") refl,
    AddsSaid.greets (codes "VERSION:2.0.0") (inl refl) a_revision_of_one_digit,
    (codes "ab" ∷ [], [], true, refl, no_feed (codes "ab\r") refl, AddsSaid.says (codes "ab") an_answer_is_not_passed_over its_own_text_is_said, (refl, refl)),
  ),
)

no_text : (one : List ℕ) (rest : List (List ℕ)) → [] ≡ one ∷ rest → ⊥
no_text one rest same = cc

-- how a text would be left out
left_out : (middle : Bool) (own rest : List (List ℕ)) → [] ≡ own ++ rest → AddsSaid None (codes "ab\r") true middle own → ⊥
left_out middle own rest none (AddsSaid.passed seated is) = an_answer_is_not_passed_over is
left_out middle own rest none (AddsSaid.says one heard meant) = no_text one rest none

no_text_is_left_out : (new : Bool) → AreSaid None true (codes "ab\r" ∷ []) new [] → ⊥
no_text_is_left_out new said = left_out said.2 said.0 said.1 said.3 said.5

said_early : (raw : List ℕ) (old new : Bool) (own : List (List ℕ)) → AddsSaid None raw old new own → old ≡ false → (one : List ℕ) → own ≡ one ∷ [] → ⊥
said_early raw old new own (AddsSaid.passed seated is) off one some = no_text one [] some
said_early raw old new own (AddsSaid.greets text is version) off one some = no_text one [] some
said_early raw old new own (AddsSaid.says other heard meant) off one some = absurd (false≢true (sym off))

nothing_is_said_before_the_version : (raw one : List ℕ) (new : Bool) → AddsSaid None raw false new (one ∷ []) → ⊥
nothing_is_said_before_the_version raw one new adds = said_early raw false new (one ∷ []) adds refl one refl

-- ---- how much waits

the_last_answer_counts : last_said (codes "first") (codes "a" ∷ codes "b" ∷ []) ≡ codes "b\r\n"
the_last_answer_counts = refl

before_any_the_first_lines : last_said (codes "first") [] ≡ codes "first"
before_any_the_first_lines = refl

an_end : IsTail (codes "bc") (codes "abc")
an_end = (codes "a", refl)

too_much_for_a_bot : (desk : Desk) → length desk.to_bot.waiting ≡ 70000 → IsFew desk → ⊥
too_much_for_a_bot desk much few = let bound : length desk.to_bot.waiting < 69634 = few.bot in omega arith

nothing_comes_behind_a_whole_line : (desk : Desk) → desk.from_bot.waiting ≡ 97 ∷ 10 ∷ [] → ComesBehind desk (Came (Seat 0) (98 ∷ [])) → ⊥
nothing_comes_behind_a_whole_line desk waits behind = (subst (IsFreeOf 10) waits behind.free).1.0 refl

-- ---- the newest line

it_answers_the_newest_line : WasCurrent from_the_first 2 events 0 answer
unfolding all_given happens
it_answers_the_newest_line = record {
  front = Begins 0 ∷ Tells 0 (line 0 0) ∷ Says answer ∷ [];
  behind = Pushes 0 ∷ [];
  moment = refl;
  lines = [];
  line = line 0 0;
  given_last = refl;
  field = 99 ∷ [];
  whole = refl;
}

nothing_is_said_by_no_event : (text : List ℕ) → WasCurrent from_the_first 2 [] 0 text → ⊥
nothing_is_said_by_no_event text was = no_event was.front was.behind was.moment

-- ---- what is heard

no_line_of_nothing : (one : Line) → AreHeard [] (Shows one ∷ []) → ⊥
no_line_of_nothing one heard = absurd cc

no_word : (word : Word) (own rest : List Word) → [] ≡ (word ∷ own) ++ rest → ⊥
no_word word own rest same = cc

-- how a line would be left out
line_left_out : (raw : List ℕ) (one : Line) (own rest : List Word) → IsLineOf raw one → [] ≡ own ++ rest → Adds raw own → ⊥
line_left_out raw one own rest is none (Adds.shows line shown) = no_word (Shows line) [] rest none
line_left_out raw one own rest is none (Adds.closes text is_text over) = no_word Over [] rest none
line_left_out raw one own rest is none (Adds.nothing text is_text no_line not_over) = no_line one is

no_line_is_left_out : (raw : List ℕ) (one : Line) → IsLineOf raw one → AreHeard (raw ∷ []) [] → ⊥
no_line_is_left_out raw one is heard = line_left_out raw one heard.0 heard.1 is heard.2 heard.4

-- that the match is over is said by these bytes alone
the_end_is_heard : Adds (codes "#OVER\r") (Over ∷ [])
the_end_is_heard = Adds.closes (codes "#OVER") (inl refl) refl

-- ---- what happened and what passed

-- no line is told of a node over whose connection nothing came
nothing_came : (raws : List (List ℕ)) (waiting : List ℕ) (one : Line) → [] ≡ with_feeds raws ++ waiting → AreHeard raws (Shows one ∷ []) → ⊥
nothing_came [] waiting one whole heard = absurd cc
nothing_came ([] ∷ more) waiting one whole heard = absurd cc
nothing_came ((byte ∷ raw) ∷ more) waiting one whole heard = absurd cc

an_invented_line_is_refused : (desk : Desk) (one : Line) → desk.relay.events ≡ Tells 0 one ∷ [] → Explains desk [] → ⊥
an_invented_line_is_refused desk one story explains =
    let h : IsHeardOf [] (waits_at desk.from_nodes.items 0) (words_over 0 desk.relay.events) = explains.heard.nodes 0 in
    nothing_came h.raws (waits_at desk.from_nodes.items 0) one h.whole (subst (AreHeard h.raws) (ap (words_over 0) story) h.heard)

none_is_not_one : (n : ℕ) → n ≡ 1 → n ≡ 0 → ⊥
none_is_not_one n one none = omega arith

nobody_is_dialled_before_the_version : (desk : Desk) → desk.is_seated ≡ false → IsOwned desk (Began (Peer 0) ∷ []) → ⊥
nobody_is_dialled_before_the_version desk off owned = none_is_not_one (begun_over (Began (Peer 0) ∷ []) (Peer 0)) refl (owned.greeted off 0)

an_invented_connection_is_refused : (desk : Desk) → desk.relay.events ≡ Begins 0 ∷ [] → Explains desk [] → ⊥
an_invented_connection_is_refused desk story explains = none_is_not_one (begun 0 desk.relay.events) (ap (λ (es : List Event). begun 0 es) story) (explains.begun 0)

from_none : (front behind : List Passage) (raws : List (List ℕ)) (raw rest : List ℕ) (node : ℕ) → [] ≡ front ++ behind → came_over front (Peer node) ≡ with_feeds (raws ++ raw ∷ []) ++ rest → ⊥
from_none [] behind [] [] rest node moment came = absurd cc
from_none [] behind [] (byte ∷ raw) rest node moment came = absurd cc
from_none [] behind ([] ∷ raws) raw rest node moment came = absurd cc
from_none [] behind ((byte ∷ one) ∷ raws) raw rest node moment came = absurd cc
from_none (p ∷ front) behind raws raw rest node moment came = absurd cc

nothing_came_from_nobody : (one : Line) → CameFrom [] one → ⊥
nothing_came_from_nobody one from = from_none from.front from.behind from.raws from.raw from.rest from.node from.moment from.came

one_event : (event : Option Event) → Begins 0 ∷ Ends 0 ∷ [] ≡ option_to_list event → ⊥
one_event None same = absurd cc
one_event (Some e) same = let behind : Ends 0 ∷ [] ≡ [] = ap (λ (es : List Event). drop 1 es) same in absurd cc

two_events_are_no_step : (old new : Desk) (x y : List Passage) → old.relay.events ≡ [] → new.relay.events ≡ Begins 0 ∷ Ends 0 ∷ [] → IsNext old new x y → ⊥
two_events_are_no_step old new x y none two next = one_event next.event (sym two ∙ (next.happened ∙ ap (λ (es : List Event). es ++ option_to_list next.event) none))

what_happened_is_not_forgotten : (old new : Desk) (x y : List Passage) → old.relay.events ≡ Begins 0 ∷ [] → new.relay.events ≡ [] → GoesOn old new x y → ⊥
what_happened_is_not_forgotten old new x y one none on = let same : [] ≡ Begins 0 ∷ on.more = sym none ∙ (on.happened ∙ ap (λ (es : List Event). es ++ on.more) one) in absurd cc

without_a_bot_nothing_begins_anew : (new : Desk) → BeginsAnew new [] (Began (Peer 0) ∷ []) → ⊥
without_a_bot_nothing_begins_anew new anew = let more : 0 < 0 = anew.bots in omega arith

fits_behind : (front part : List ℕ) → length part ≤ length (front ++ (part ++ []))
fits_behind [] part = subst (λ (l : List ℕ). length part ≤ length l) (sym (append-nil part)) (omega arith)
fits_behind (byte ∷ front) part = let h : length part ≤ length (front ++ (part ++ [])) = fits_behind front part in omega arith

short_beginnings_are_kept : IsSaidOf None (codes "ab") [] true true [] → ⊥
short_beginnings_are_kept is =
    let long : 4097 < length is.passed_over = is.long refl in
    let fits : length is.passed_over ≤ 2 = subst (λ (l : List ℕ). length is.passed_over ≤ length l) (sym is.whole) (fits_behind (with_feeds is.raws) is.passed_over) in
    omega arith

nothing_said_by_nobody : (text : List ℕ) → CameFromBot None [] text → ⊥
nothing_said_by_nobody text from = from_none [] [] from.raws from.raw from.rest 0 refl from.came

no_game : (game : Game) → None ≡ Some game → ⊥
no_game game none = cc

-- where answers aren't mended each text is right
without_a_game_each_text_is_right : (last : Option (List ℕ)) (text : List ℕ) → IsRight None last text
without_a_game_each_text_is_right last text = λ game line field other none given whole is. absurd (no_game game none)

-- a text that is mended to another, and not to itself, isn't
what_is_mended_to_another_is_not_right : (game : Game) (other : List ℕ) → IsMendedAnswer game [] (120 ∷ []) other → (IsMendedAnswer game [] (120 ∷ []) (58 ∷ 120 ∷ []) → ⊥) → IsRight (Some game) (Some []) (58 ∷ 120 ∷ []) → ⊥
what_is_mended_to_another_is_not_right game other is isnt right = isnt (right game [] (120 ∷ []) other refl refl refl is)

-- ---- how long nobody is dialled

who_has_no_quorum_says_so : IsNoQuorumText (codes "#WAIT")
who_has_no_quorum_says_so = refl

who_says_more_says_something_else : IsNoQuorumText (codes "#WAIT:") → ⊥
who_says_more_says_something_else said = cc

abbrev held : (nodes pause until : ℕ) → Holding
held nodes pause until = record { nodes = nodes; pause = pause; until = until }

a_hold_begins : Holds (held 3 5_000_000 0) (held 0 10_000_000 5_020_000) 5_000_000 20_000
a_hold_begins = record { length = refl; until = refl; next = refl }

none_is_longer_than_a_minute : Holds (held 3 40_000_000 0) (held 0 60_000_000 40_000_001) 40_000_000 1
none_is_longer_than_a_minute = record { length = refl; until = refl; next = refl }

five_is_not_ten : (pause : ℕ) → pause ≡ 5_000_000 → pause ≡ 10_000_000 → ⊥
five_is_not_ten pause five ten = omega arith

the_next_one_is_twice_as_long : Holds (held 3 5_000_000 0) (held 0 5_000_000 5_020_000) 5_000_000 20_000 → ⊥
the_next_one_is_twice_as_long holds = five_is_not_ten 5_000_000 refl holds.next

where_none_begins_the_next_is_no_longer : HoldsOn (held 1 5_000_000 0) (held 3 10_000_000 0) → ⊥
where_none_begins_the_next_is_no_longer on = five_is_not_ten 10_000_000 on.next refl

no_sooner : (moment : ℕ) → moment ≡ 1_200_000 → moment ≡ 1_500_000 → ⊥
no_sooner moment soon then = omega arith

it_is_not_dialled_sooner : (state : NodeState) → state.dial_at ≡ 1_200_000 → IsLeft state 500_000 1_000_000 → ⊥
it_is_not_dialled_sooner state soon left = no_sooner state.dial_at soon left.dial_at
