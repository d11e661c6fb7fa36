-- Lines as they go to a bot, lines that show tokens, and who is let in, on values.
use Rattle.std.proofs.Common.{◌≡◌, ◌<◌, ◌⊎◌, inl, inr, ℕ, true, false, List, [], ◌∷◌, ◌++◌, length, replicate, refl, ap, ◌∙◌, arith}
use Rattle.std.specs.Prelude.{codes, Option, Some, None}
use Rattle.std.proofs.lemmas.List.{length-append}
use Rattle.sha2.specs.Sha256.{sha256}
use Rattle.node_wires.specs.declared.line.Line.TheVariants.{Guest, Seat}
use Rattle.node_wires.specs.declared.way.Way.TheVariants.{Reading as ByReading}
use Rattle.node_wires.specs.Passages.{Passage, Began, Came, Wrote, Gave, Tried, came_over}
use Rattle.node_seats.specs.declared.token_digest.TokenDigest.{TokenDigest}
use Rattle.node_seats.specs.declared.seat_notice.SeatNotice.TheVariants as notices
use Rattle.node_seats.specs.Lines.{line_of}
use Rattle.node_seats.specs.Others.{TellsNoGuest}
use Rattle.node_seats.specs.Passing.{ReadsSeat}
use Rattle.node_seats.specs.Writing.{AreToSeats, WritesToSeats}
use Rattle.node_seats.specs.Tokens.{is_token_digit, IsTokenLine, is_open}
use Rattle.node_seats.specs.declared.guest.Guest.{Guest as Stranger}
use Rattle.node_seats.specs.declared.crowds.Crowds.{Crowds}
use Rattle.node_seats.specs.declared.bot.Parting.TheVariants.{Wait}
use Rattle.node_seats.specs.Keeping.{IsFit, waits_for, KeepsFit, IsNewest, IsOneASeat}
use Rattle.node_seats.specs.Crowding.{crowded_at, CountsAway, CountsCalled}
use Rattle.node_seats.specs.Guesting.{ShowsToken, IsToldOf, IsGuested, Passes}
use Rattle.node_seats.specs.declared.seat.Seat.{Seat as SeatOf}
use Rattle.node_seats.specs.Seating.{newcomer, nobody, KeepsClosed}
use Rattle.node_seats.specs.Telling.{IsAsked, AreSaid, parting_line, MayPart}
use Rattle.node_seats.specs.Hurrying.{HasTime, Hurries}
use Rattle.node_seats.specs.declared.words.Asked.{Asked}
use Rattle.node_seats.specs.declared.words.Asked.TheVariants as asks
use Rattle.node_seats.specs.Words.{Reading, fresh, read_of}
use Rattle.node_seats.proofs.Tokens.{token_length}

end_of_a_line : line_of (65 ∷ []) ≡ 65 ∷ 13 ∷ 10 ∷ []
end_of_a_line = refl

-- ---- tokens

last_digit : is_token_digit 102 ≡ true
last_digit = refl

no_digit : is_token_digit 103 ≡ false
no_digit = refl

-- a capital letter
no_small_letter : is_token_digit 65 ≡ false
no_small_letter = refl

-- 64 times the digit 7
abbrev pub sevens : List ℕ
sevens = replicate 64 55

abbrev pub shown : List ℕ
shown = codes "#TOKEN " ++ (sevens ++ 10 ∷ [])

pub shows_sevens : IsTokenLine (sha256 sevens) shown
shows_sevens = record { digits = sevens; count = refl; are = refl; right = refl; end = 10 ∷ []; ends = inl refl; text = refl }

-- without its end
pub unended : IsTokenLine (sha256 sevens) (codes "#TOKEN " ++ sevens) → ⊥
unended token = omega (arith, (token_length (sha256 sevens) (codes "#TOKEN " ++ sevens) token).0)

-- a byte stands behind its end
pub behind_it : IsTokenLine (sha256 sevens) (codes "#TOKEN " ++ (sevens ++ 13 ∷ 10 ∷ 86 ∷ [])) → ⊥
behind_it token = omega (arith, (token_length (sha256 sevens) (codes "#TOKEN " ++ (sevens ++ 13 ∷ 10 ∷ 86 ∷ [])) token).1)

-- ---- who is let in

abbrev pub tokens : List TokenDigest
tokens = record { bytes = [] } ∷ record { bytes = sha256 sevens } ∷ []

-- a guest says the line in two pieces
abbrev pub said : List Passage
said = Began (Guest 3) ∷ Came (Guest 3) (codes "#TOKEN ") ∷ Came (Guest 3) (sevens ++ 10 ∷ []) ∷ []

-- and is given seat 1
pub let_in : Passes (Some tokens) (Some (notices.Came 1)) [] (said ++ Gave 3 1 ∷ []) [] (said ++ Gave 3 1 ∷ [])
let_in = record {
  more = said ++ Gave 3 1 ∷ [];
  guested = record { place = 3; front = said; of_guests = (tt, (tt, (tt, tt))); given = refl; shows = record { has_one = omega arith; shown = shows_sevens } };
  put_down = refl;
  behind = [];
  by_it = refl;
  wired = refl;
}

-- seat 2 has no token, so it takes nobody
pub none_for_seat_2 : (came : List ℕ) → ShowsToken tokens 2 came → ⊥
none_for_seat_2 came shows = omega (arith, shows.has_one)

-- a bot that is taken in without tokens isn't let in with them
pub not_taken_in : (old : List Passage) → IsGuested (Some tokens) (Some (notices.Came 1)) old [] → ⊥
not_taken_in old seated = omega (arith, ap length seated.given ∙ length-append seated.front (Gave seated.place 1 ∷ []))

-- of the seats 0 and 2, which are closed, and of seat 1
open_at_seat_1 : KeepsClosed 5 (Some (notices.Came 1))
open_at_seat_1 = refl

taken_in_at_seat_2 : KeepsClosed 5 (Some (notices.Came 2)) → ⊥
taken_in_at_seat_2 none = absurd (cc none)

-- ---- what is told of guests

makes_room : IsToldOf tokens shown (Some (notices.Gone 1))
makes_room = record { has_one = omega arith; shown = shows_sevens }

-- who says something else doesn't throw out who sits there
throws_nobody_out : IsToldOf tokens (codes "VERSION:2.0.0\n") (Some (notices.Gone 1)) → ⊥
throws_nobody_out shows = omega (arith, (token_length (sha256 sevens) (codes "VERSION:2.0.0\n") shows.shown).0)

right_one_is_not_refused : IsToldOf tokens shown (Some (notices.Refused 1 None)) → ⊥
right_one_is_not_refused refused = refused makes_room

-- ---- what is read where somebody sits

found_nothing : ReadsSeat 1 None said (said ++ Tried (Seat 1) ByReading ∷ [])
found_nothing = refl

not_read : ReadsSeat 1 (Some (notices.Unread 1)) said said
not_read = (refl, refl)

-- memory was refused, and that isn't told
not_told : ReadsSeat 1 None said said → ⊥
not_told e = omega (arith, ap length e)

-- ---- what is written

told_to_a_seat : WritesToSeats said (said ++ Wrote (Seat 1) (65 ∷ []) ∷ [])
told_to_a_seat = record { more = Wrote (Seat 1) (65 ∷ []) ∷ []; to_seats = (tt, tt); passed = refl }

not_to_a_guest : AreToSeats (Wrote (Guest 3) (65 ∷ []) ∷ []) → ⊥
not_to_a_guest are = are.0

a_guest_is_told : TellsNoGuest said (said ++ Wrote (Guest 3) (65 ∷ []) ∷ []) → ⊥
a_guest_is_told none = omega (arith, ap length (none 3 refl))

-- ---- the time for the version

has_time : HasTime false 9999999 (Some 0)
has_time = let e : 9999999 < 10000000 = omega arith in inr e

over_by : (false ≡ true) ⊎ (10000000 < 10000000) → ⊥
over_by (inl e) = absurd cc
over_by (inr e) = omega (arith, e)

time_is_over : HasTime false 10000000 (Some 0) → ⊥
time_is_over time = over_by time

needs_none : HasTime true 10000000 None
needs_none = refl

-- a bot whose time was over
abbrev pub silent_bot : SeatOf
silent_bot = record { bot = newcomer; since = None; waiting = record { waiting = []; room = 0 } }

-- one that was taken in at the first moment
abbrev pub newest_bot : SeatOf
newest_bot = record { bot = newcomer; since = Some 0; waiting = record { waiting = []; room = 0 } }

silent_bot_stays : Hurries false 20000000 1 None silent_bot silent_bot → ⊥
silent_bot_stays hurries = let e = hurries.over refl refl refl in absurd (cc e)

time_begins_anew : Hurries false 10000000 1 None newest_bot newest_bot → ⊥
time_begins_anew hurries = let e = hurries.ends 0 refl refl refl (omega arith) in absurd (cc e)

let_go_too_early : Hurries false 9999999 1 None newest_bot silent_bot → ⊥
let_go_too_early hurries = let e = hurries.lasts has_time in absurd (cc e)

-- ---- what a bot asks before it names the version

abbrev asked_by_all : List ℕ → Asked
asked_by_all came = (read_of came).asked

asks_nothing : asked_by_all (codes "VERSION:2.0.0\r\n#RESUME FIRST\r\n") ≡ asks.Nothing
asks_nothing = refl

asks_for_all : asked_by_all (codes "#TOKEN 7\r\n#RESUME FIRST\r\nVERSION:2.0.0\r\n") ≡ asks.First
asks_for_all = refl

-- without a carriage return, and behind another line that is skipped
asks_for_the_newest : asked_by_all (codes "; a\n#RESUME NEWEST\n") ≡ asks.Newest
asks_for_the_newest = refl

asks_by_a_line : read_of (codes "#RESUME MATCHSTATE:0:7::TdAs|\r\nV") ≡ record { line = codes "V"; named = codes "MATCHSTATE:0:7::TdAs|"; asked = asks.Line; is_over = false }
asks_by_a_line = refl

asks_twice : asked_by_all (codes "#RESUME FIRST\r\n#RESUME NEWEST\r\n") ≡ asks.Other
asks_twice = refl

-- ---- what is known of a bot

-- one that showed its token asks in two pieces: what came of it behind the token is all that is read
abbrev pub asked_in_two : List Passage
asked_in_two = said ++ Gave 3 1 ∷ Came (Seat 1) (codes "#RESUME F") ∷ Came (Seat 1) (codes "IRST\r\n") ∷ []

came_behind_its_token : came_over asked_in_two (Seat 1) ≡ codes "#RESUME FIRST\r\n"
came_behind_its_token = refl

abbrev pub asks_first : Reading
asks_first = record { line = []; named = codes "FIRST"; asked = asks.First; is_over = false }

read_off_both : IsAsked (came_over asked_in_two (Seat 1)) asks_first
read_off_both = refl

-- the first piece isn't forgotten
second_piece_alone : IsAsked (came_over asked_in_two (Seat 1)) (read_of (codes "IRST\r\n")) → ⊥
second_piece_alone is = let over : true ≡ false = ap (λ (r : Reading). r.is_over) is in absurd (cc over)

-- and of who sat there before nothing is kept, by whichever way the next one came
next_one_asked_nothing : IsAsked (came_over (asked_in_two ++ Gave 4 1 ∷ []) (Seat 1)) fresh
next_one_asked_nothing = refl

asked_by_who_sat_there : IsAsked (came_over (asked_in_two ++ Began (Seat 1) ∷ []) (Seat 1)) asks_first → ⊥
asked_by_who_sat_there is = let asked : asks.First ≡ asks.Nothing = ap (λ (r : Reading). r.asked) is in absurd (cc asked)

-- a seat whose bot is told nothing yet, and asked so
abbrev pub seat_of : Reading → SeatOf
seat_of words = record { bot = record { sits = true; words = words; telling = None; parting = None }; since = None; waiting = record { waiting = []; room = 0 } }

its_words_are_lost : AreSaid asked_in_two (nobody ∷ seat_of fresh ∷ []) → ⊥
its_words_are_lost are = let asked : asks.Nothing ≡ asks.First = ap (λ (r : Reading). r.asked) (are 1).1 in absurd (cc asked)

-- ---- who keeps a place

-- one who said nothing yet, and one who said half a line
nothing_said : is_open [] ≡ true
nothing_said = refl

half_a_line : is_open (codes "#TOKEN 77") ≡ true
half_a_line = refl

wrong_first_byte : is_open (codes "G") ≡ false
wrong_first_byte = refl

wrong_word : is_open (codes "#TOKEX 77") ≡ false
wrong_word = refl

whole_line : is_open (codes "#TOKEN " ++ (55 ∷ 10 ∷ [])) ≡ false
whole_line = refl

abbrev one_who_said : ℕ → List ℕ → Option Stranger
one_who_said seat line = Some (record { seat = seat; came = 0; line = record { items = line } })

waits_for_his_seat : waits_for 1 (one_who_said 1 shown) ≡ true
waits_for_his_seat = refl

waits_for_no_other : waits_for 2 (one_who_said 1 shown) ≡ false
waits_for_no_other = refl

silent_waits_for_none : waits_for 1 (one_who_said 1 []) ≡ false
silent_waits_for_none = refl

fit_by_his_token : IsFit tokens (one_who_said 1 shown)
fit_by_his_token = inr (record { has_one = omega arith; shown = shows_sevens })

-- too short a token
unfit : IsFit tokens (one_who_said 1 (codes "#TOKEN " ++ (55 ∷ 10 ∷ []))) → ⊥
unfit (inl is) = let e : false ≡ true = is in cc
unfit (inr shows) = omega (arith, (token_length (sha256 sevens) (codes "#TOKEN " ++ (55 ∷ 10 ∷ [])) shows.shown).0)

-- two wait for one seat
two_wait : IsOneASeat (one_who_said 1 shown ∷ one_who_said 1 shown ∷ []) → ⊥
two_wait one = let e : 0 ≡ 1 = one 0 1 1 (omega arith) (omega arith) refl refl in omega (arith, e)

-- at another place somebody waits for it too
not_the_newest : IsNewest 1 (one_who_said 1 shown ∷ one_who_said 1 shown ∷ []) → ⊥
not_the_newest newest = let e : true ≡ false = newest 1 refl 0 (omega arith) (λ e. omega (arith, e)) in cc

wrong_keeps : IsFit tokens (one_who_said 1 (codes "G")) → ⊥
wrong_keeps (inl is) = let e : false ≡ true = is in cc
wrong_keeps (inr shows) = omega (arith, (token_length (sha256 sevens) (codes "G") shows.shown).0)

-- one came to a place and said something wrong
not_kept : KeepsFit tokens (None ∷ []) (one_who_said 1 (codes "G") ∷ []) → ⊥
not_kept keeps = elim (keeps 0) [ inl same ↦ let e : one_who_said 1 (codes "G") ≡ None = same in cc | inr came ↦ wrong_keeps came.0 ]

-- ---- what a bot is told whose node has no quorum

line_of_wait : parting_line Wait ≡ codes "#WAIT"
line_of_wait = refl

who_asked_is_told : MayPart Wait (record newcomer { words = read_of (codes "#RESUME FIRST" ++ (10 ∷ [])) })
who_asked_is_told = refl

who_asked_nothing_isnt : MayPart Wait (record newcomer { words = read_of (codes "VERSION:2.0.0" ++ (10 ∷ [])) }) → ⊥
who_asked_nothing_isnt may = let e : false ≡ true = may in cc

-- ---- who is turned away

abbrev quiet : Crowds
quiet = record { counts = 0 ∷ 7 ∷ []; moments = None ∷ Some 4 ∷ [] }

not_counted : CountsAway true 1 9 quiet quiet → ⊥
not_counted counts = let e : Some 4 ≡ Some 9 = counts.here (omega arith) in grind (arith, e)

-- a guest of seat 0 made room, and isn't counted
room_not_counted : CountsCalled false (Some 0) 1 9 quiet quiet → ⊥
room_not_counted counts = let e : crowded_at quiet 0 ≡ Some 9 = counts.1.1.here (omega arith) in cc
