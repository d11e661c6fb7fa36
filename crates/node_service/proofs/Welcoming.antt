-- Who was taken in at a seat, call by call.
use Rattle.std.proofs.Common.{◌≡◌, ℕ, List, [], ◌∷◌, ◌++◌, append_assoc, append-nil, ap, sym, subst, ◌∙◌}
use Rattle.std.specs.Prelude.{Option, Some, None}
use Rattle.node_wires.specs.declared.line.Line.{Line}
use Rattle.node_wires.specs.declared.line.Line.TheVariants.{Peer, Caller, Seat, Guest, Asker}
use Rattle.node_wires.specs.Passages.{Passage, Began, Came, Gave}
use Rattle.node_seats.specs.declared.guests.Guests.{Guests}
use Rattle.node_seats.specs.declared.seat_notice.SeatNotice.{SeatNotice}
use Rattle.node_seats.specs.declared.seat_notice.SeatNotice.TheVariants as notices
use Rattle.node_seats.specs.declared.seats.Seats.{Seats}
use Rattle.node_seats.specs.declared.token_digest.TokenDigest.{TokenDigest}
use Rattle.node_seats.specs.Coming.{tokens_in, passed_in, Comes}
use Rattle.node_seats.specs.Guesting.{IsGuested}
use Rattle.node_service.specs.Arriving.{Incoming, OfSeat, OfPeer, OfJoined}
use Rattle.node_service.specs.Telling.{incoming_by, told_by, told_of}
use Rattle.node_service.specs.Welcoming.{Hosts, IsLetInAt, IsLetInBy, IsLetIn, AreLetIn}
use Rattle.node_peers.specs.declared.notice.Notice.{Notice}
use Rattle.node_peers.specs.declared.notice.Notice.TheVariants as tells

pub hosts_none : (old new : Option Guests) → new ≡ old → Hosts old new
hosts_none old new same = record { tokens = ap tokens_in same; more = []; passed = ap passed_in same ∙ sym (append-nil (passed_in old)) }

pub hosts_on : (one two three : Option Guests) → Hosts one two → Hosts two three → Hosts one three
hosts_on one two three first then_on = record {
  tokens = then_on.tokens ∙ first.tokens;
  more = first.more ++ then_on.more;
  passed = then_on.passed ∙ (ap (λ (m : List Passage). m ++ then_on.more) first.passed ∙ append_assoc (passed_in one) first.more then_on.more);
}

-- ---- it stays so, also while more passes

line_on : (tokens : List TokenDigest) (old new more : List Passage) (line : Line) → new ≡ old ++ more → IsLetInAt tokens old line → IsLetInAt tokens new line
line_on tokens old new more (Seat number) e is = record {
  place = is.place;
  before = is.before;
  since = is.since ++ more;
  passed_is = e ∙ (ap (λ (m : List Passage). m ++ more) is.passed_is ∙ append_assoc is.before (Gave is.place number ∷ is.since) more);
  shows = is.shows;
}
line_on tokens old new more (Peer number) e is = tt
line_on tokens old new more (Caller place) e is = tt
line_on tokens old new more (Guest place) e is = tt
line_on tokens old new more (Asker place) e is = tt

passage_on : (tokens : List TokenDigest) (old new more : List Passage) (passage : Passage) → new ≡ old ++ more → IsLetInBy tokens old passage → IsLetInBy tokens new passage
passage_on tokens old new more (Began line) e is = line_on tokens old new more line e is
passage_on tokens old new more other e is = tt

thing_on : (tokens : Option (List TokenDigest)) (old new more : List Passage) (thing : Incoming) → new ≡ old ++ more → IsLetIn tokens old thing → IsLetIn tokens new thing
thing_on None old new more thing e is = tt
thing_on (Some tokens) old new more (OfSeat passage) e is = passage_on tokens old new more passage e is
thing_on (Some tokens) old new more (OfPeer from frame) e is = tt
thing_on (Some tokens) old new more (OfJoined peer) e is = tt

pub let_in_on : (old new : Option Guests) (things : List Incoming) → Hosts old new → AreLetIn old things → AreLetIn new things
let_in_on old new [] hosts are = tt
let_in_on old new (thing ∷ things) hosts are = (
  subst (λ (t : Option (List TokenDigest)). IsLetIn t (passed_in new) thing) (sym hosts.tokens) (thing_on (tokens_in old) (passed_in old) (passed_in new) hosts.more thing hosts.passed are.0),
  let_in_on old new things hosts are.1,
)

pub let_in_both : (guests : Option Guests) (xs ys : List Incoming) → AreLetIn guests xs → AreLetIn guests ys → AreLetIn guests (xs ++ ys)
let_in_both guests [] ys are others = others
let_in_both guests (x ∷ xs) ys are others = (are.0, let_in_both guests xs ys are.1 others)

-- ---- what comes of seats

pub hosts_coming : (notice : Option SeatNotice) (old new : Seats) (wired_old wired_new : List Passage) → Comes notice old new wired_old wired_new → Hosts old.guests new.guests
hosts_coming notice old new wired_old wired_new comes = record { tokens = comes.tokens; more = comes.passes.more; passed = comes.passes.put_down }

-- a bot that is taken in
one_let_in : (tokens : Option (List TokenDigest)) (seat : ℕ) (old new more : List Passage) → new ≡ old ++ more → IsGuested tokens (Some (notices.Came seat)) old more → IsLetIn tokens new (OfSeat (Began (Seat seat)))
one_let_in None seat old new more e is = tt
one_let_in (Some tokens) seat old new more e is = record {
  place = is.place;
  before = old ++ is.front;
  since = [];
  passed_is = e ∙ (ap (λ (m : List Passage). old ++ m) is.given ∙ sym (append_assoc old is.front (Gave is.place seat ∷ [])));
  shows = is.shows;
}

-- nothing else is
no_seat : (tokens : Option (List TokenDigest)) (passed : List Passage) (seat : ℕ) (bytes : List ℕ) → IsLetIn tokens passed (OfSeat (Came (Seat seat) bytes))
no_seat None passed seat bytes = tt
no_seat (Some tokens) passed seat bytes = tt

pub let_in_coming : (notice : Option SeatNotice) (old new : Seats) (wired_old wired_new : List Passage) → Comes notice old new wired_old wired_new → AreLetIn new.guests (incoming_by notice)
let_in_coming None old new wired_old wired_new comes = tt
let_in_coming (Some (notices.Came seat)) old new wired_old wired_new comes = (
  subst (λ (t : Option (List TokenDigest)). IsLetIn t (passed_in new.guests) (OfSeat (Began (Seat seat)))) (sym comes.tokens)
      (one_let_in (tokens_in old.guests) seat (passed_in old.guests) (passed_in new.guests) comes.passes.more comes.passes.put_down comes.passes.guested),
  tt,
)
let_in_coming (Some (notices.Piece seat bytes)) old new wired_old wired_new comes = (no_seat (tokens_in new.guests) (passed_in new.guests) seat bytes.items, tt)
let_in_coming (Some other) old new wired_old wired_new comes = tt

-- ---- what is told of peers

no_seat_of_peers : (tokens : Option (List TokenDigest)) (passed : List Passage) (from : ℕ) (frame : List ℕ) → IsLetIn tokens passed (OfPeer from frame)
no_seat_of_peers None passed from frame = tt
no_seat_of_peers (Some tokens) passed from frame = tt

no_seat_of_lives : (tokens : Option (List TokenDigest)) (passed : List Passage) (peer : ℕ) → IsLetIn tokens passed (OfJoined peer)
no_seat_of_lives None passed peer = tt
no_seat_of_lives (Some tokens) passed peer = tt

of_notice : (guests : Option Guests) (notice : Notice) → AreLetIn guests (told_of notice)
of_notice guests (tells.Frame from frame) = (no_seat_of_peers (tokens_in guests) (passed_in guests) from frame.bytes.items, tt)
of_notice guests (tells.Joined peer (Some life)) = (no_seat_of_lives (tokens_in guests) (passed_in guests) peer, tt)
of_notice guests (tells.Joined peer None) = tt
of_notice guests (tells.Gone peer) = tt
of_notice guests (tells.Refused peer fault source) = tt
of_notice guests (tells.Strangers peer count fault) = tt
of_notice guests (tells.Settings peer settings) = tt
of_notice guests (tells.Unreached peer refuses) = tt

pub let_in_of_peers : (guests : Option Guests) (notice : Option Notice) → AreLetIn guests (told_by notice)
let_in_of_peers guests None = tt
let_in_of_peers guests (Some notice) = of_notice guests notice
