-- What crosses the wires of a process, call by call.
use Rattle.std.proofs.Common.{◌≡◌, ◌⊎◌, inl, inr, ℕ, nat_lt, Bool, true, false, if◌then◌else◌, List, [], ◌∷◌, ◌++◌, append_assoc, length, refl, ap, sym, subst, ◌∙◌}
use Rattle.std.proofs.Math.Logic.{∥∥₁_map}
use Rattle.std.proofs.lemmas.Bool.{ltb-true, ltb-false}
use Rattle.std.proofs.lemmas.Bool.Decides.{eqb_tells}
use Rattle.std.proofs.lemmas.List.{append-nil}
use Rattle.std.specs.Prelude.{Option, Some, None, IfSome, Result, Ok, Err}
use Rattle.std.specs.declared.alloc.AllocError.{AllocError}
use Rattle.node_wires.specs.declared.line.Line.{Line}
use Rattle.node_wires.specs.declared.line.Line.TheVariants.{Peer, Caller, Seat as SeatOf, Guest, Asker as AskerAt}
use Rattle.node_wires.specs.Passages.{Passage, Began, Came, Wrote, Gave, Logged, Saw, Waited, Called, came_by, came_behind, came_over, wrote_by, wrote_behind, wrote_over, seats_in, logged_in, calls_in}
use Rattle.peer_codes.specs.declared.frame.Frame.{Frame}
use Rattle.peer_codes.specs.declared.hello.Life.{Life}
use Rattle.node_links.specs.declared.own.Own.{Own}
use Rattle.node_peers.specs.Adding.{IsPeers, AreOfPeers, Adds}
use Rattle.node_peers.specs.Hearing.{Told, Joins, IsTold}
use Rattle.node_peers.specs.declared.notice.Notice.{Notice}
use Rattle.node_peers.specs.declared.notice.Notice.TheVariants as notices
use Rattle.node_seats.specs.declared.seat.Seat.{Seat}
use Rattle.node_seats.specs.Others as seats
use Rattle.node_seats.specs.Seating.{waits_at, sits_at, bot_at}
use Rattle.node_seats.specs.Telling.{text_for, IsSaid, AreSaid}
use Rattle.node_seats.specs.Words.{read_of}
use Rattle.node_status.specs.declared.asker.Asker.{Asker}
use Rattle.node_status.specs.Asking as status
use Rattle.node_status.specs.Asking.{AreAnswered, is_asker, Arrivals, Comes, IsGiven, arrived}
use Rattle.node_status.specs.Given.{Given, given_at, waits, with_line}
use Rattle.node_service.specs.Arriving.{Incoming, OfSeat, OfPeer, OfJoined}
use Rattle.node_service.specs.Telling.{told_of, told_by}
use Rattle.node_service.specs.Company.{Hears}
use Rattle.node_service.specs.Asking.{line_given, GivesOnly, IsNoLine}
use Rattle.node_service.specs.Crossing.{IsCarried, KeepsLines, IsHeard, AreHeard, HasNoLife, EndsAtLife}
use Rattle.node_service.specs.Calling.{called_if}
use Rattle.node_service.proofs.Asking.{gives_alike}
use Rattle.node_service.proofs.Calls.{calls_kept}
use Rattle.node_service.proofs.Showing.{log_of_both, seats_of_both}

-- ---- several passages

wrote_both : (line : Line) (before : List ℕ) (xs ys : List Passage) → wrote_behind line before (xs ++ ys) ≡ wrote_behind line (wrote_behind line before xs) ys
wrote_both line before [] ys = refl
wrote_both line before (x ∷ xs) ys = wrote_both line (wrote_by line before x) xs ys

came_both : (line : Line) (before : List ℕ) (xs ys : List Passage) → came_behind line before (xs ++ ys) ≡ came_behind line (came_behind line before xs) ys
came_both line before [] ys = refl
came_both line before (x ∷ xs) ys = came_both line (came_by line before x) xs ys

-- over lines of peers nothing is written to those who ask
not_asked : (place : ℕ) (before : List ℕ) (ys : List Passage) → AreOfPeers ys → wrote_behind (AskerAt place) before ys ≡ before
not_asked place before [] are = refl
not_asked place before (Began (AskerAt n) ∷ ys) are = absurd are.0
not_asked place before (Wrote (AskerAt n) bytes ∷ ys) are = absurd are.0
not_asked place before (other ∷ ys) are = not_asked place before ys are.1

-- nor to guests
not_guests : (place : ℕ) (before : List ℕ) (ys : List Passage) → AreOfPeers ys → wrote_behind (Guest place) before ys ≡ before
not_guests place before [] are = refl
not_guests place before (Began (Guest n) ∷ ys) are = absurd are.0
not_guests place before (Wrote (Guest n) bytes ∷ ys) are = absurd are.0
not_guests place before (Gave at number ∷ ys) are = absurd are.0
not_guests place before (other ∷ ys) are = not_guests place before ys are.1

-- and nothing comes of seats
none_of_seats : (seat : ℕ) (before : List ℕ) (ys : List Passage) → AreOfPeers ys → came_behind (SeatOf seat) before ys ≡ before
none_of_seats seat before [] are = refl
none_of_seats seat before (Began (SeatOf n) ∷ ys) are = absurd are.0
none_of_seats seat before (Came (SeatOf n) bytes ∷ ys) are = absurd are.0
none_of_seats seat before (Gave at number ∷ ys) are = absurd are.0
none_of_seats seat before (other ∷ ys) are = none_of_seats seat before ys are.1

-- ---- where nothing changes but what is said of it

said_so : (seat : ℕ) (old new : List Passage) (bots : List Seat) → wrote_over new (SeatOf seat) ≡ wrote_over old (SeatOf seat)
    → IsSaid (sits_at bots seat) (wrote_over old (SeatOf seat)) (waits_at bots seat) (text_for (bot_at bots seat)) → IsSaid (sits_at bots seat) (wrote_over new (SeatOf seat)) (waits_at bots seat) (text_for (bot_at bots seat))
said_so seat old new bots e is = subst (λ (w : List ℕ). IsSaid (sits_at bots seat) w (waits_at bots seat) (text_for (bot_at bots seat))) (sym e) is

pub said_alike : (old new : List Passage) (bots : List Seat) → ((seat : ℕ) → wrote_over new (SeatOf seat) ≡ wrote_over old (SeatOf seat)) → ((seat : ℕ) → came_over new (SeatOf seat) ≡ came_over old (SeatOf seat)) → AreSaid old bots → AreSaid new bots
said_alike old new bots wrote came are seat = (said_so seat old new bots (wrote seat) (are seat).0, (are seat).1 ∙ ap read_of (sym (came seat)))

-- ---- peers

pub carried_grown : (old new wired_old wired_new : List Passage) (bots : List Seat) (askers : List Asker) → Adds old new wired_old wired_new → ((seat : ℕ) → wrote_over wired_new (SeatOf seat) ≡ wrote_over wired_old (SeatOf seat))
    → IsCarried wired_old old bots askers → IsCarried wired_new new bots askers
carried_grown old new wired_old wired_new bots askers adds writing is = record {
  peers = λ line of_peers. (
    ap (λ (ps : List Passage). wrote_over ps line) adds.wired
        ∙ (wrote_both line [] wired_old adds.more
        ∙ (ap (λ (b : List ℕ). wrote_behind line b adds.more) (is.peers line of_peers).0 ∙ (sym (wrote_both line [] old adds.more) ∙ ap (λ (ps : List Passage). wrote_over ps line) (sym adds.put_down)))),
    ap (λ (ps : List Passage). came_over ps line) adds.wired
        ∙ (came_both line [] wired_old adds.more
        ∙ (ap (λ (b : List ℕ). came_behind line b adds.more) (is.peers line of_peers).1 ∙ (sym (came_both line [] old adds.more) ∙ ap (λ (ps : List Passage). came_over ps line) (sym adds.put_down)))),
  );
  said = said_alike wired_old wired_new bots writing
      (λ seat. ap (λ (ps : List Passage). came_over ps (SeatOf seat)) adds.wired ∙ (came_both (SeatOf seat) [] wired_old adds.more ∙ none_of_seats seat (came_over wired_old (SeatOf seat)) adds.more adds.of_peers)) is.said;
  guests = λ place.
      ap (λ (ps : List Passage). wrote_over ps (Guest place)) adds.wired ∙ (wrote_both (Guest place) [] wired_old adds.more ∙ (not_guests place (wrote_over wired_old (Guest place)) adds.more adds.of_peers ∙ is.guests place));
  answered = λ place.
      ap (λ (ps : List Passage). wrote_over ps (AskerAt place)) adds.wired ∙ (wrote_both (AskerAt place) [] wired_old adds.more ∙ (not_asked place (wrote_over wired_old (AskerAt place)) adds.more adds.of_peers ∙ is.answered place));
}

-- ---- seats

not_bots : (line : Line) → IsPeers line → seats.is_bots line ≡ false
not_bots (Peer n) is = refl
not_bots (Caller n) is = refl
not_bots (SeatOf n) is = absurd is
not_bots (Guest n) is = absurd is
not_bots (AskerAt n) is = absurd is

pub carried_seated : (old new lines : List Passage) (bots now : List Seat) (askers : List Asker) → seats.KeepsOthers old new → seats.TellsNoGuest old new → (AreSaid old bots → AreSaid new now)
    → IsCarried old lines bots askers → IsCarried new lines now askers
carried_seated old new lines bots now askers keeps unsaid said is = record {
  peers = λ line of_peers. (keeps.wrote line (not_bots line of_peers) ∙ (is.peers line of_peers).0, keeps.came line (not_bots line of_peers) ∙ (is.peers line of_peers).1);
  said = said is.said;
  guests = λ place. unsaid place (is.guests place);
  answered = λ place. keeps.wrote (AskerAt place) refl ∙ is.answered place;
}

-- ---- those who ask

no_asker : (line : Line) → IsPeers line → is_asker line ≡ false
no_asker (Peer n) is = refl
no_asker (Caller n) is = refl
no_asker (SeatOf n) is = absurd is
no_asker (Guest n) is = absurd is
no_asker (AskerAt n) is = absurd is

pub carried_asked : (old new lines : List Passage) (bots : List Seat) (askers now : List Asker) → status.KeepsOthers old new → (AreAnswered old askers → AreAnswered new now) → IsCarried old lines bots askers
    → IsCarried new lines bots now
carried_asked old new lines bots askers now keeps answered is = record {
  peers = λ line of_peers. (keeps.wrote line (no_asker line of_peers) ∙ (is.peers line of_peers).0, keeps.came line (no_asker line of_peers) ∙ (is.peers line of_peers).1);
  said = said_alike old new bots (λ seat. keeps.wrote (SeatOf seat) refl) (λ seat. keeps.came (SeatOf seat) refl) is.said;
  guests = λ place. keeps.wrote (Guest place) refl ∙ is.guests place;
  answered = answered is.answered;
}

by_size : (low : Bool) (place : ℕ) (askers now : List Asker) (at : ℕ) → nat_lt place (length askers) ≡ low → Comes at place askers now → (line_given now place ≡ line_given askers place) ⊎ IsNoLine (line_given now place)
by_size true place askers now at e comes = inr (ap (λ (g : Given). g.line) (comes.here (ltb-true place (length askers) e)))
by_size false place askers now at e comes = inl (ap (λ (g : Given). g.line) (comes.beyond (ltb-false place (length askers) e)))

come_there : (place other at : ℕ) (askers now : List Asker) → Comes at place askers now → (line_given now other ≡ line_given askers other) ⊎ IsNoLine (line_given now other)
come_there place other at askers now comes = elim (eqb_tells other place) as (λ _. (line_given now other ≡ line_given askers other) ⊎ IsNoLine (line_given now other)) [
  | inl here ↦ subst (λ (n : ℕ). (line_given now n ≡ line_given askers n) ⊎ IsNoLine (line_given now n)) (sym here.1) (by_size (nat_lt place (length askers)) place askers now at refl comes)
  | inr there ↦ inl (ap (λ (g : Given). g.line) (comes.others other there.1))
]

pub none_given : (at : ℕ) (places : List ℕ) (askers now : List Asker) (old new : List Passage) → Arrivals at places askers now old new → GivesOnly IsNoLine askers now
none_given at [] askers now old new came = λ place within. inl (ap (λ (all : List Asker). line_given all place) came.1)
none_given at (there ∷ more) askers now old new came =
    gives_alike IsNoLine askers came.0 now (λ place within. come_there there place at askers came.0 came.1.0) (none_given at more came.0 now (old ++ arrived askers there) new came.1.1)

line_or : (is_waiting : Bool) (line : List ℕ) (g : Given) → waits g ≡ is_waiting → ((with_line line g).line ≡ g.line) ⊎ ((with_line line g).line ≡ line)
line_or true line g e = inr (ap (λ (b : Bool). (if b then record { is_here = true; since = g.since; line = line; written = 0 } else g).line) e)
line_or false line g e = inl (ap (λ (b : Bool). (if b then record { is_here = true; since = g.since; line = line; written = 0 } else g).line) e)

with_or : (line : List ℕ) (before after : Given) → after ≡ with_line line before → (after.line ≡ before.line) ⊎ (after.line ≡ line)
with_or line before after e = subst (λ (g : Given). (g.line ≡ before.line) ⊎ (g.line ≡ line)) (sym e) (line_or (waits before) line before refl)

given_or : (line : List ℕ) (result : Result Unit AllocError) (before after : Given) → IsGiven line result before after → (after.line ≡ before.line) ⊎ (after.line ≡ line)
given_or line (Ok done) before after is = with_or line before after is
given_or line (Err refused) before after (inl same) = inl (ap (λ (g : Given). g.line) same)
given_or line (Err refused) before after (inr has) = with_or line before after has

pub line_alone : (line : List ℕ) (result : Result Unit AllocError) (askers now : List Asker) → status.Answers line result askers now → GivesOnly (λ given. given ≡ line) askers now
line_alone line result askers now answers place within = given_or line result (given_at askers place) (given_at now place) (answers.given place within)

-- ---- what moves nothing

rests_by : (p : Passage) (old new : List Passage) → ((line : Line) (before : List ℕ) → wrote_by line before p ≡ before) → ((line : Line) (before : List ℕ) → came_by line before p ≡ before) → seats_in (p ∷ []) ≡ [] → logged_in (p ∷ []) ≡ []
    → new ≡ old ++ p ∷ [] → seats.Rests old new
rests_by p old new wrote came seat text e = record {
  wrote = λ line. ap (λ (ps : List Passage). wrote_over ps line) e ∙ (wrote_both line [] old (p ∷ []) ∙ wrote line (wrote_over old line));
  came = λ line. ap (λ (ps : List Passage). came_over ps line) e ∙ (came_both line [] old (p ∷ []) ∙ came line (came_over old line));
  seats = ap seats_in e ∙ (seats_of_both old (p ∷ []) ∙ (ap (λ (ps : List Passage). seats_in old ++ ps) seat ∙ append-nil (seats_in old)));
  log = ap logged_in e ∙ (log_of_both old (p ∷ []) ∙ (ap (λ (t : List ℕ). logged_in old ++ t) text ∙ append-nil (logged_in old)));
}

pub rests_same : (old new : List Passage) → new ≡ old → seats.Rests old new
rests_same old new e = record { wrote = λ line. ap (λ (ps : List Passage). wrote_over ps line) e; came = λ line. ap (λ (ps : List Passage). came_over ps line) e; seats = ap seats_in e; log = ap logged_in e }

pub rests_saw : (old new : List Passage) (moment : ℕ) → new ≡ old ++ Saw moment ∷ [] → seats.Rests old new
rests_saw old new moment e = rests_by (Saw moment) old new (λ line before. refl) (λ line before. refl) refl refl e

pub rests_waited : (old new : List Passage) (most : ℕ) → new ≡ old ++ Waited most ∷ [] → seats.Rests old new
rests_waited old new most e = rests_by (Waited most) old new (λ line before. refl) (λ line before. refl) refl refl e

pub rests_called : (given : Bool) (old new : List Passage) → new ≡ old ++ called_if given → seats.Rests old new
rests_called true old new e = rests_by Called old new (λ line before. refl) (λ line before. refl) refl refl e
rests_called false old new e = rests_same old new (e ∙ append-nil old)

-- ---- the log

pub lines_same : (old new : List Passage) → new ≡ old → KeepsLines old new
lines_same old new e = record { wrote = λ line. ap (λ (ps : List Passage). wrote_over ps line) e; came = λ line. ap (λ (ps : List Passage). came_over ps line) e; calls = ap calls_in e }

pub lines_saw : (old new : List Passage) (moment : ℕ) → new ≡ old ++ Saw moment ∷ [] → KeepsLines old new
lines_saw old new moment e = let rests = rests_saw old new moment e in record { wrote = rests.wrote; came = rests.came; calls = calls_kept old new (Saw moment ∷ []) e refl }

pub lines_logged : (old new : List Passage) (text : List ℕ) → new ≡ old ++ Logged text ∷ [] → KeepsLines old new
lines_logged old new text e = record {
  wrote = λ line. ap (λ (ps : List Passage). wrote_over ps line) e ∙ wrote_both line [] old (Logged text ∷ []);
  came = λ line. ap (λ (ps : List Passage). came_over ps line) e ∙ came_both line [] old (Logged text ∷ []);
  calls = calls_kept old new (Logged text ∷ []) e refl;
}

pub lines_on : (a b c : List Passage) → KeepsLines a b → KeepsLines b c → KeepsLines a c
lines_on a b c one two = record { wrote = λ line. two.wrote line ∙ one.wrote line; came = λ line. two.came line ∙ one.came line; calls = two.calls ∙ one.calls }

pub said_along : (old new : List Passage) (bots : List Seat) → KeepsLines old new → AreSaid old bots → AreSaid new bots
said_along old new bots keeps are = said_alike old new bots (λ seat. keeps.wrote (SeatOf seat)) (λ seat. keeps.came (SeatOf seat)) are

pub carried_shown : (old new lines : List Passage) (bots now : List Seat) (askers : List Asker) → ((line : Line) → wrote_over new line ≡ wrote_over old line) → ((line : Line) → came_over new line ≡ came_over old line)
    → (AreSaid old bots → AreSaid new now) → IsCarried old lines bots askers → IsCarried new lines now askers
carried_shown old new lines bots now askers wrote came said is = record {
  peers = λ line of_peers. (wrote line ∙ (is.peers line of_peers).0, came line ∙ (is.peers line of_peers).1);
  said = said is.said;
  guests = λ place. wrote (Guest place) ∙ is.guests place;
  answered = λ place. wrote (AskerAt place) ∙ is.answered place;
}

pub carried_rested : (old new lines : List Passage) (bots : List Seat) (askers : List Asker) → seats.Rests old new → IsCarried old lines bots askers → IsCarried new lines bots askers
carried_rested old new lines bots askers rests is =
    carried_shown old new lines bots bots askers rests.wrote rests.came (said_alike old new bots (λ seat. rests.wrote (SeatOf seat)) (λ seat. rests.came (SeatOf seat))) is

-- ---- what was told of peers

frame_more : (own_old own_new : Own) (old new : List Passage) (from : ℕ) (frame : Frame) → Hears own_old own_new old new → Told own_old old from frame → Told own_new new from frame
frame_more own_old own_new old new from frame hears told =
    subst (λ (o : Own). Told o new from frame) (sym hears.own)
    (record { place = told.place; before = told.before; since = told.since ++ hears.more; passed_is = hears.lines ∙ (ap (λ (ps : List Passage). ps ++ hears.more) told.passed_is ∙ append_assoc told.before told.since hears.more); says = told.says })

joined_more : (own_old own_new : Own) (old new : List Passage) (peer : ℕ) (life : Option Life) → Hears own_old own_new old new → Joins own_old old peer life → Joins own_new new peer life
joined_more own_old own_new old new peer life hears joins =
    subst (λ (o : Own). Joins o new peer life) (sym hears.own)
    (record {
      hello = joins.hello;
      from_is = joins.from_is;
      life_is = joins.life_is;
      opened = record {
        place = joins.opened.place;
        before = joins.opened.before;
        since = joins.opened.since ++ hears.more;
        passed_is = hears.lines ∙ (ap (λ (ps : List Passage). ps ++ hears.more) joins.opened.passed_is ∙ append_assoc joins.opened.before joins.opened.since hears.more);
        opens = joins.opened.opens;
      };
    })

one_heard : (own_old own_new : Own) (old new : List Passage) (thing : Incoming) → Hears own_old own_new old new → IsHeard own_old old thing → IsHeard own_new new thing
one_heard own_old own_new old new (OfSeat passage) hears is = tt
one_heard own_old own_new old new (OfPeer from bytes) hears is = ∥∥₁_map is (λ found. (found.0, (found.1.0, frame_more own_old own_new old new from found.0 hears found.1.1)))
one_heard own_old own_new old new (OfJoined peer) hears is = ∥∥₁_map is (λ found. (found.0, joined_more own_old own_new old new peer (Some found.0) hears found.1))

pub heard_further : (own_old own_new : Own) (old new : List Passage) (things : List Incoming) → Hears own_old own_new old new → AreHeard own_old old things → AreHeard own_new new things
heard_further own_old own_new old new [] hears are = tt
heard_further own_old own_new old new (thing ∷ things) hears are = (one_heard own_old own_new old new thing hears are.0, heard_further own_old own_new old new things hears are.1)

pub heard_both : (own : Own) (lines : List Passage) (xs ys : List Incoming) → AreHeard own lines xs → AreHeard own lines ys → AreHeard own lines (xs ++ ys)
heard_both own lines [] ys are others = others
heard_both own lines (x ∷ xs) ys are others = (are.0, heard_both own lines xs ys are.1 others)

heard_notice : (own : Own) (lines : List Passage) (notice : Notice) → IsTold own lines notice → AreHeard own lines (told_of notice)
heard_notice own lines (notices.Frame from frame) is = (∥∥₁_map is (λ told. (frame, (refl, told))), tt)
heard_notice own lines (notices.Joined peer (Some life)) is = (∥∥₁_map is (λ joins. (life, joins)), tt)
heard_notice own lines (notices.Joined peer None) is = tt
heard_notice own lines (notices.Gone peer) is = tt
heard_notice own lines (notices.Refused peer fault source) is = tt
heard_notice own lines (notices.Strangers peer count fault) is = tt
heard_notice own lines (notices.Settings peer settings) is = tt
heard_notice own lines (notices.Unreached peer refuses) is = tt

pub heard_now : (own : Own) (lines : List Passage) (notice : Option Notice) → IfSome notice (λ n. IsTold own lines n) → AreHeard own lines (told_by notice)
heard_now own lines None is = tt
heard_now own lines (Some notice) is = heard_notice own lines notice is

-- ---- lives that are to be kept

pub no_life_both : (xs ys : List Passage) → HasNoLife xs → HasNoLife ys → HasNoLife (xs ++ ys)
no_life_both [] ys none others = others
no_life_both (Began line ∷ xs) ys none others = absurd none
no_life_both (other ∷ xs) ys none others = no_life_both xs ys none others

pub ends_both : (xs ys : List Passage) → HasNoLife xs → EndsAtLife ys → EndsAtLife (xs ++ ys)
ends_both [] ys none ends = ends
ends_both (Began line ∷ xs) ys none ends = absurd none
ends_both (other ∷ xs) ys none ends = ends_both xs ys none ends

pub no_life_ends : (xs : List Passage) → HasNoLife xs → EndsAtLife xs
no_life_ends [] none = tt
no_life_ends (Began line ∷ xs) none = absurd none
no_life_ends (other ∷ xs) none = no_life_ends xs none

pub others_same : (passed : List Passage) → status.KeepsOthers passed passed
others_same passed = record { more = []; passed = sym (append-nil passed); of_askers = tt; wrote = λ line off. refl; came = λ line off. refl; seats = refl; log = refl }

pub none_unsaid : (old new : List Passage) → new ≡ old → seats.TellsNoGuest old new
none_unsaid old new same place none = ap (λ (ps : List Passage). wrote_over ps (Guest place)) same ∙ none

-- over new wires all is carried
pub carried_first : (bots : List Seat) (askers : List Asker) → AreSaid [] bots → AreAnswered [] askers → IsCarried [] [] bots askers
carried_first bots askers said answered = record { peers = λ line of_peers. (refl, refl); said = said; guests = λ place. refl; answered = answered }
