-- What came of seats, as several calls are one, and what is left of it of seats and of the log.
use Rattle.std.proofs.Common.{◌≡◌, ℕ, List, [], ◌∷◌, ◌++◌, append_assoc, append-nil, inl, refl, ap, sym, ◌∙◌, subst}
use Rattle.std.specs.Prelude.{Option, Some, None, is_some, Bool, true, false, not}
use Rattle.std.specs.declared.net.ip_addr.IpAddr.{IpAddr}
use Rattle.node_wires.specs.Passages.{Passage, Began, Came, Wrote, Gave, Logged, Tried, Ended, Closed, Saw, Waited, Called, of_seat, seats_in, logged_in, came_over}
use Rattle.node_wires.specs.declared.line.Line.TheVariants.{Guest, Peer, Caller, Seat, Asker}
use Rattle.node_seats.specs.declared.seats.Seats.{Seats}
use Rattle.node_seats.specs.declared.guests.Guests.{Guests}
use Rattle.node_seats.specs.declared.seat_notice.SeatNotice.{SeatNotice}
use Rattle.node_seats.specs.declared.seat_notice.SeatNotice.TheVariants as notices
use Rattle.node_seats.specs.declared.token_digest.TokenDigest.{TokenDigest}
use Rattle.node_seats.specs.Passing.{passed_by, IsPassedBy, Passed, TakesNobody, AreOfGuests, Grows}
use Rattle.node_seats.specs.Guesting.{ShowsToken, IsGuested, IsToldOf, IsBehind, behind_by, Passes}
use Rattle.node_seats.specs.Pieces.{IsPieceOf}
use Rattle.node_seats.specs.declared.seat.Seat.{Seat as SeatOf}
use Rattle.node_seats.specs.declared.bot.Bot.{Bot}
use Rattle.node_seats.specs.Seating.{bot_at, gone, heard, Changes}
use Rattle.node_seats.specs.Coming.{passed_in, tokens_in, Comes}
use Rattle.node_seats.proofs.Passing.{both_of_guests, grown_on}
use Rattle.node_seats.proofs.Others.{behind_alike}

-- ---- one call behind another

guested_on : (tokens : Option (List TokenDigest)) (notice : Option SeatNotice) (a one two : List Passage) → IsGuested tokens None a one → IsGuested tokens notice (a ++ one) two → IsGuested tokens notice a (one ++ two)
guested_on None notice a one two is_one is_two = ap (λ (ps : List Passage). ps ++ two) is_one ∙ is_two
guested_on (Some tokens) None a one two is_one is_two = both_of_guests one two is_one is_two
guested_on (Some tokens) (Some (notices.Came seat)) a one two is_one is_two = record {
  place = is_two.place;
  front = one ++ is_two.front;
  of_guests = both_of_guests one is_two.front is_one is_two.of_guests;
  given = ap (λ (ps : List Passage). one ++ ps) is_two.given ∙ sym (append_assoc one is_two.front (Gave is_two.place seat ∷ []));
  shows = subst (λ (ps : List Passage). ShowsToken tokens seat (came_over ps (Guest is_two.place))) (append_assoc a one is_two.front) is_two.shows;
}
guested_on (Some tokens) (Some (notices.Piece seat bytes)) a one two is_one is_two = both_of_guests one two is_one is_two
guested_on (Some tokens) (Some (notices.Gone seat)) a one two is_one is_two = both_of_guests one two is_one is_two
guested_on (Some tokens) (Some (notices.Refused seat source)) a one two is_one is_two = both_of_guests one two is_one is_two
guested_on (Some tokens) (Some (notices.Unread seat)) a one two is_one is_two = both_of_guests one two is_one is_two

-- guests were taken in or heard, and then this
pub passed_on : (tokens : List TokenDigest) (notice : Option SeatNotice) (a b c x y z : List Passage) → Grows a b x y → Passes (Some tokens) notice b c y z → Passes (Some tokens) notice a c x z
passed_on tokens notice a b c x y z one two = record {
  more = one.more ++ two.more;
  guested = guested_on (Some tokens) notice a one.more two.more one.of_guests (subst (λ (ps : List Passage). IsGuested (Some tokens) notice ps two.more) one.put_down two.guested);
  put_down = two.put_down ∙ (ap (λ (ps : List Passage). ps ++ two.more) one.put_down ∙ append_assoc a one.more two.more);
  behind = two.behind;
  by_it = two.by_it;
  wired =
      two.wired
      ∙ (ap (λ (ps : List Passage). ps ++ (two.more ++ two.behind)) one.wired ∙ (append_assoc x one.more (two.more ++ two.behind) ∙ ap (λ (ps : List Passage). x ++ ps) (sym (append_assoc one.more two.more two.behind))));
}

-- ---- what one call is

pub plain_passes : (notice : Option SeatNotice) (old new wired_old wired_new : List Passage) → new ≡ old → Passed notice wired_old wired_new → Passes None notice old new wired_old wired_new
plain_passes notice old new wired_old wired_new same passed = record { more = []; guested = refl; put_down = same ∙ sym (append-nil old); behind = passed.more; by_it = passed.by_it; wired = passed.behind }

nothing_guested : (tokens : Option (List TokenDigest)) (old : List Passage) → IsGuested tokens None old []
nothing_guested None old = refl
nothing_guested (Some tokens) old = tt

nothing_behind : (tokens : Option (List TokenDigest)) → IsBehind tokens None []
nothing_behind None = inl refl
nothing_behind (Some tokens) = inl refl

pub nothing_passes : (tokens : Option (List TokenDigest)) (old new wired_old wired_new : List Passage) → new ≡ old → wired_new ≡ wired_old → Passes tokens None old new wired_old wired_new
nothing_passes tokens old new wired_old wired_new same stays = record {
  more = [];
  guested = nothing_guested tokens old;
  put_down = same ∙ sym (append-nil old);
  behind = [];
  by_it = nothing_behind tokens;
  wired = stays ∙ sym (append-nil wired_old);
}

guested_by : (tokens : List TokenDigest) (notice : Option SeatNotice) (old more : List Passage) → TakesNobody notice → AreOfGuests more → IsGuested (Some tokens) notice old more
guested_by tokens None old more takes are = are
guested_by tokens (Some (notices.Piece seat bytes)) old more takes are = are
guested_by tokens (Some (notices.Gone seat)) old more takes are = are
guested_by tokens (Some (notices.Refused seat source)) old more takes are = absurd takes
guested_by tokens (Some (notices.Unread seat)) old more takes are = are
guested_by tokens (Some (notices.Came seat)) old more takes are = absurd takes

behind_of : (tokens : List TokenDigest) (notice : Option SeatNotice) (behind : List Passage) → TakesNobody notice → IsPassedBy notice behind → IsBehind (Some tokens) notice behind
behind_of tokens None behind takes is = is
behind_of tokens (Some (notices.Piece seat bytes)) behind takes is = is
behind_of tokens (Some (notices.Gone seat)) behind takes is = is
behind_of tokens (Some (notices.Refused seat source)) behind takes is = absurd takes
behind_of tokens (Some (notices.Unread seat)) behind takes is = is
behind_of tokens (Some (notices.Came seat)) behind takes is = absurd takes

-- something came of a bot alone
pub bot_alone_passes : (tokens : List TokenDigest) (notice : Option SeatNotice) (old new wired_old wired_new : List Passage) → TakesNobody notice → new ≡ old → Passed notice wired_old wired_new
    → Passes (Some tokens) notice old new wired_old wired_new
bot_alone_passes tokens notice old new wired_old wired_new takes same passed = record {
  more = [];
  guested = guested_by tokens notice old [] takes tt;
  put_down = same ∙ sym (append-nil old);
  behind = passed.more;
  by_it = behind_of tokens notice passed.more takes passed.by_it;
  wired = passed.behind;
}

-- the same of a node's seats, without tokens and with them
pub plain_comes : (guests : Option Guests) (notice : Option SeatNotice) (wired_old wired_new : List Passage) → guests ≡ None → Passed notice wired_old wired_new
    → Passes (tokens_in guests) notice (passed_in guests) (passed_in guests) wired_old wired_new
plain_comes None notice wired_old wired_new none passed = plain_passes notice [] [] wired_old wired_new refl passed
plain_comes (Some guests) notice wired_old wired_new none passed = absurd cc

pub bot_comes : (guests : Option Guests) (one : Guests) (notice : Option SeatNotice) (wired_old wired_new : List Passage) → guests ≡ Some one → TakesNobody notice → Passed notice wired_old wired_new
    → Passes (tokens_in guests) notice (passed_in guests) (passed_in guests) wired_old wired_new
bot_comes None one notice wired_old wired_new is takes passed = absurd cc
bot_comes (Some guests) one notice wired_old wired_new is takes passed = bot_alone_passes guests.tokens.items notice guests.passed.items guests.passed.items wired_old wired_new takes refl passed

pub heard_passes : (tokens : List TokenDigest) (old new wired_old wired_new : List Passage) → Grows old new wired_old wired_new → Passes (Some tokens) None old new wired_old wired_new
heard_passes tokens old new wired_old wired_new grows = record { more = grows.more; guested = grows.of_guests; put_down = grows.put_down; behind = []; by_it = inl refl; wired = grows.wired ∙ ap (λ (ps : List Passage). wired_old ++ ps) (sym (append-nil grows.more)) }

pub refused_passes : (tokens : List TokenDigest) (seat : ℕ) (source : Option IpAddr) (old new wired_old wired_new : List Passage) → Grows old new wired_old wired_new → Passes (Some tokens) (Some (notices.Refused seat source)) old new wired_old wired_new
refused_passes tokens seat source old new wired_old wired_new grows = record { more = grows.more; guested = grows.of_guests; put_down = grows.put_down; behind = []; by_it = refl; wired = grows.wired ∙ ap (λ (ps : List Passage). wired_old ++ ps) (sym (append-nil grows.more)) }

pub given_passes : (tokens : List TokenDigest) (seat place : ℕ) (old new wired_old wired_new : List Passage) → ShowsToken tokens seat (came_over old (Guest place)) → new ≡ old ++ Gave place seat ∷ [] → wired_new ≡ wired_old ++ Gave place seat ∷ []
    → Passes (Some tokens) (Some (notices.Came seat)) old new wired_old wired_new
given_passes tokens seat place old new wired_old wired_new shows given wired = record {
  more = Gave place seat ∷ [];
  guested = record { place = place; front = []; of_guests = tt; given = refl; shows = subst (λ (ps : List Passage). ShowsToken tokens seat (came_over ps (Guest place))) (sym (append-nil old)) shows };
  put_down = given;
  behind = [];
  by_it = refl;
  wired = wired;
}

pub gone_passes : (tokens : List TokenDigest) (seat : ℕ) (old new wired_old wired_new : List Passage) → new ≡ old → wired_new ≡ wired_old ++ Closed (Seat seat) ∷ [] → Passes (Some tokens) (Some (notices.Gone seat)) old new wired_old wired_new
gone_passes tokens seat old new wired_old wired_new same closed = record { more = []; guested = tt; put_down = same ∙ sym (append-nil old); behind = Closed (Seat seat) ∷ []; by_it = inl refl; wired = closed }

-- the same of where a call began
pub passes_from : (tokens other : List TokenDigest) (notice : Option SeatNotice) (a was b x wired y : List Passage) → other ≡ tokens → was ≡ a → wired ≡ x → Passes (Some other) notice was b wired y → Passes (Some tokens) notice a b x y
passes_from tokens other notice a was b x wired y tokens_same same wired_same passes =
    subst (λ (ts : List TokenDigest). Passes (Some ts) notice a b x y) tokens_same
    (subst (λ (ps : List Passage). Passes (Some other) notice ps b x y) same (subst (λ (ps : List Passage). Passes (Some other) notice was b ps y) wired_same passes))

-- and of where it ended
pub passes_to : (tokens : Option (List TokenDigest)) (notice : Option SeatNotice) (a b is x y wired : List Passage) → is ≡ b → wired ≡ y → Passes tokens notice a b x y → Passes tokens notice a is x wired
passes_to tokens notice a b is x y wired same wired_same passes =
    subst (λ (ps : List Passage). Passes tokens notice a ps x wired) (sym same) (subst (λ (ps : List Passage). Passes tokens notice a b x ps) (sym wired_same) passes)

pub none_of : (notice : Option SeatNotice) (is_quiet : Bool) → is_some notice ≡ not is_quiet → is_quiet ≡ true → notice ≡ None
none_of None is_quiet e quiet = refl
none_of (Some told) is_quiet e quiet = let never : true ≡ false = e ∙ ap not quiet in absurd cc

-- nothing is told of a guest, who may be let go of
pub quiet_passes : (tokens : List TokenDigest) (notice : Option SeatNotice) (a b c x y z : List Passage) → notice ≡ None → (notice ≡ None → Grows a b x y) → Grows b c y z → Passes (Some tokens) notice a c x z
quiet_passes tokens notice a b c x y z none one two =
    subst (λ (n : Option SeatNotice). Passes (Some tokens) n a c x z) (sym none) (heard_passes tokens a c x z (grown_on a b c x y z (one none) two))

-- ---- what is left of seats and of the log

seats_of_both : (xs ys : List Passage) → seats_in (xs ++ ys) ≡ seats_in xs ++ seats_in ys
seats_of_both [] ys = refl
seats_of_both (p ∷ xs) ys = ap (λ (ps : List Passage). of_seat p ++ ps) (seats_of_both xs ys) ∙ sym (append_assoc (of_seat p) (seats_in xs) (seats_in ys))

no_seats : (more : List Passage) → AreOfGuests more → seats_in more ≡ []
no_seats [] are = refl
no_seats (Began (Guest place) ∷ more) are = no_seats more are.1
no_seats (Came (Guest place) bytes ∷ more) are = no_seats more are.1
no_seats (Began (Peer n) ∷ more) are = absurd are.0
no_seats (Began (Caller n) ∷ more) are = absurd are.0
no_seats (Began (Seat n) ∷ more) are = absurd are.0
no_seats (Began (Asker n) ∷ more) are = absurd are.0
no_seats (Came (Peer n) bytes ∷ more) are = absurd are.0
no_seats (Came (Caller n) bytes ∷ more) are = absurd are.0
no_seats (Came (Seat n) bytes ∷ more) are = absurd are.0
no_seats (Came (Asker n) bytes ∷ more) are = absurd are.0
no_seats (Wrote line bytes ∷ more) are = absurd are.0
no_seats (Gave place seat ∷ more) are = absurd are.0
no_seats (Logged text ∷ more) are = absurd are.0
no_seats (Tried line way ∷ more) are = no_seats more are.1
no_seats (Ended line way ∷ more) are = no_seats more are.1
no_seats (Closed line ∷ more) are = no_seats more are.1
no_seats (Saw moment ∷ more) are = absurd are.0
no_seats (Waited most ∷ more) are = absurd are.0
no_seats (Called ∷ more) are = absurd are.0

log_of_both : (xs ys : List Passage) → logged_in (xs ++ ys) ≡ logged_in xs ++ logged_in ys
log_of_both [] ys = refl
log_of_both (Began line ∷ xs) ys = log_of_both xs ys
log_of_both (Came line bytes ∷ xs) ys = log_of_both xs ys
log_of_both (Wrote line bytes ∷ xs) ys = log_of_both xs ys
log_of_both (Gave place seat ∷ xs) ys = log_of_both xs ys
log_of_both (Tried line way ∷ xs) ys = log_of_both xs ys
log_of_both (Ended line way ∷ xs) ys = log_of_both xs ys
log_of_both (Closed line ∷ xs) ys = log_of_both xs ys
log_of_both (Saw moment ∷ xs) ys = log_of_both xs ys
log_of_both (Waited most ∷ xs) ys = log_of_both xs ys
log_of_both (Called ∷ xs) ys = log_of_both xs ys
log_of_both (Logged text ∷ xs) ys = ap (λ (ls : List ℕ). text ++ ls) (log_of_both xs ys) ∙ sym (append_assoc text (logged_in xs) (logged_in ys))

no_log : (more : List Passage) → AreOfGuests more → logged_in more ≡ []
no_log [] are = refl
no_log (Began line ∷ more) are = no_log more are.1
no_log (Came line bytes ∷ more) are = no_log more are.1
no_log (Wrote line bytes ∷ more) are = absurd are.0
no_log (Gave place seat ∷ more) are = absurd are.0
no_log (Logged text ∷ more) are = absurd are.0
no_log (Tried line way ∷ more) are = no_log more are.1
no_log (Ended line way ∷ more) are = no_log more are.1
no_log (Closed line ∷ more) are = no_log more are.1
no_log (Saw moment ∷ more) are = absurd are.0
no_log (Waited most ∷ more) are = absurd are.0
no_log (Called ∷ more) are = absurd are.0

no_log_by : (notice : Option SeatNotice) → logged_in (passed_by notice) ≡ []
no_log_by None = refl
no_log_by (Some (notices.Came seat)) = refl
no_log_by (Some (notices.Piece seat bytes)) = refl
no_log_by (Some (notices.Gone seat)) = refl
no_log_by (Some (notices.Refused seat source)) = refl
no_log_by (Some (notices.Unread seat)) = refl

seats_of_guests : (notice : Option SeatNotice) (more : List Passage) (behind : List Passage) → AreOfGuests more → behind ≡ passed_by notice → seats_in (more ++ behind) ≡ seats_in (passed_by notice)
seats_of_guests notice more behind are e = seats_of_both more behind ∙ (ap (λ (ps : List Passage). ps ++ seats_in behind) (no_seats more are) ∙ ap seats_in e)

seats_of_more : (tokens : Option (List TokenDigest)) (notice : Option SeatNotice) (old more : List Passage) → IsGuested tokens notice old more → seats_in (more ++ behind_by tokens notice) ≡ seats_in (passed_by notice)
seats_of_more None notice old more is = ap (λ (ps : List Passage). seats_in (ps ++ passed_by notice)) is
seats_of_more (Some tokens) None old more is = seats_of_guests None more [] is refl
seats_of_more (Some tokens) (Some (notices.Came seat)) old more is =
    ap seats_in (append-nil more ∙ is.given) ∙ (seats_of_both is.front (Gave is.place seat ∷ []) ∙ ap (λ (ps : List Passage). ps ++ Began (Seat seat) ∷ []) (no_seats is.front is.of_guests))
seats_of_more (Some tokens) (Some (notices.Piece seat bytes)) old more is = seats_of_guests (Some (notices.Piece seat bytes)) more (Came (Seat seat) bytes.items ∷ []) is refl
seats_of_more (Some tokens) (Some (notices.Gone seat)) old more is = seats_of_guests (Some (notices.Gone seat)) more [] is refl
seats_of_more (Some tokens) (Some (notices.Refused seat source)) old more is = seats_of_guests (Some (notices.Refused seat source)) more [] is refl
seats_of_more (Some tokens) (Some (notices.Unread seat)) old more is = seats_of_guests (Some (notices.Unread seat)) more [] is refl

log_of_guests : (more behind : List Passage) → AreOfGuests more → logged_in behind ≡ [] → logged_in (more ++ behind) ≡ []
log_of_guests more behind are e = log_of_both more behind ∙ (ap (λ (ls : List ℕ). ls ++ logged_in behind) (no_log more are) ∙ e)

log_of_more : (tokens : Option (List TokenDigest)) (notice : Option SeatNotice) (old more : List Passage) → IsGuested tokens notice old more → logged_in (more ++ behind_by tokens notice) ≡ []
log_of_more None notice old more is = ap (λ (ps : List Passage). logged_in (ps ++ passed_by notice)) is ∙ no_log_by notice
log_of_more (Some tokens) None old more is = log_of_guests more [] is refl
log_of_more (Some tokens) (Some (notices.Came seat)) old more is =
    ap logged_in (append-nil more ∙ is.given) ∙ log_of_guests is.front (Gave is.place seat ∷ []) is.of_guests refl
log_of_more (Some tokens) (Some (notices.Piece seat bytes)) old more is = log_of_guests more (Came (Seat seat) bytes.items ∷ []) is refl
log_of_more (Some tokens) (Some (notices.Gone seat)) old more is = log_of_guests more [] is refl
log_of_more (Some tokens) (Some (notices.Refused seat source)) old more is = log_of_guests more [] is refl
log_of_more (Some tokens) (Some (notices.Unread seat)) old more is = log_of_guests more [] is refl

pub seats_come : (notice : Option SeatNotice) (old new : Seats) (wired_old wired_new : List Passage) → Comes notice old new wired_old wired_new → seats_in wired_new ≡ seats_in wired_old ++ seats_in (passed_by notice)
seats_come notice old new wired_old wired_new comes =
    let more : List Passage = comes.passes.more in
    ap seats_in comes.passes.wired
    ∙ (seats_of_both wired_old (more ++ comes.passes.behind)
    ∙ (ap (λ (ps : List Passage). seats_in wired_old ++ ps)
    (seats_of_both more comes.passes.behind
    ∙ (ap (λ (ps : List Passage). seats_in more ++ ps) ((behind_alike (tokens_in old.guests) notice comes.passes.behind comes.passes.by_it).seats) ∙ sym (seats_of_both more (behind_by (tokens_in old.guests) notice))))
    ∙ ap (λ (ps : List Passage). seats_in wired_old ++ ps) (seats_of_more (tokens_in old.guests) notice (passed_in old.guests) more comes.passes.guested)))

pub log_stays : (notice : Option SeatNotice) (old new : Seats) (wired_old wired_new : List Passage) → Comes notice old new wired_old wired_new → logged_in wired_new ≡ logged_in wired_old
log_stays notice old new wired_old wired_new comes =
    let more : List Passage = comes.passes.more in
    ap logged_in comes.passes.wired
    ∙ (log_of_both wired_old (more ++ comes.passes.behind)
    ∙ (ap (λ (ls : List ℕ). logged_in wired_old ++ ls)
    (log_of_both more comes.passes.behind
    ∙ (ap (λ (ls : List ℕ). logged_in more ++ ls) ((behind_alike (tokens_in old.guests) notice comes.passes.behind comes.passes.by_it).log) ∙ sym (log_of_both more (behind_by (tokens_in old.guests) notice))))
    ∙ (ap (λ (ls : List ℕ). logged_in wired_old ++ ls) (log_of_more (tokens_in old.guests) notice (passed_in old.guests) more comes.passes.guested) ∙ append-nil (logged_in wired_old))))

-- ---- without tokens

passed_without : (tokens : Option (List TokenDigest)) (notice : Option SeatNotice) (old new wired_old wired_new : List Passage) → Passes tokens notice old new wired_old wired_new → tokens ≡ None → Passed notice wired_old wired_new
passed_without None notice old new wired_old wired_new passes without = record {
  more = passes.behind;
  behind = passes.wired ∙ ap (λ (ps : List Passage). wired_old ++ (ps ++ passes.behind)) passes.guested;
  by_it = passes.by_it;
}
passed_without (Some tokens) notice old new wired_old wired_new passes without = absurd cc

pub plain_passed : (notice : Option SeatNotice) (old new : Seats) (wired_old wired_new : List Passage) → Comes notice old new wired_old wired_new → tokens_in old.guests ≡ None → Passed notice wired_old wired_new
plain_passed notice old new wired_old wired_new comes without = passed_without (tokens_in old.guests) notice (passed_in old.guests) (passed_in new.guests) wired_old wired_new comes.passes without

-- ---- one seat behind another

pub changes_on : (notice : Option SeatNotice) (a b c : List SeatOf) → ((seat : ℕ) → bot_at b seat ≡ bot_at a seat) → Changes notice b c → Changes notice a c
changes_on None a b c one two = λ seat. two seat ∙ one seat
changes_on (Some (notices.Piece number bytes)) a b c one two = (two.0 ∙ ap (heard bytes.items) (one number), λ seat differs. two.1 seat differs ∙ one seat)
changes_on (Some (notices.Refused number source)) a b c one two = λ seat. two seat ∙ one seat
changes_on (Some (notices.Unread number)) a b c one two = λ seat. two seat ∙ one seat
changes_on (Some (notices.Came number)) a b c one two = (sym (ap (λ (b : Bot). b.sits) (one number)) ∙ two.0, (two.1.0, λ seat differs. two.1.1 seat differs ∙ one seat))
changes_on (Some (notices.Gone number)) a b c one two = (two.0 ∙ ap gone (one number), λ seat differs. two.1 seat differs ∙ one seat)

-- ---- pieces

-- of a guest none is told
pub no_piece : (tokens : List TokenDigest) (came : List ℕ) (notice : Option SeatNotice) (seat most : ℕ) → IsToldOf tokens came notice → IsPieceOf seat most notice
no_piece tokens came None seat most told = tt
no_piece tokens came (Some (notices.Came at)) seat most told = tt
no_piece tokens came (Some (notices.Piece at bytes)) seat most told = absurd told
no_piece tokens came (Some (notices.Gone at)) seat most told = tt
no_piece tokens came (Some (notices.Refused at source)) seat most told = tt
no_piece tokens came (Some (notices.Unread at)) seat most told = absurd told
