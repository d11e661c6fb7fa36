-- What calls leave that call no node.
use Rattle.std.proofs.Common.{◌≡◌, ◌⊎◌, ◌+◌, inl, inr, ℕ, Bool, true, false, List, [], ◌++◌, length, map, refl, ap, sym, ◌∙◌, subst}
use Rattle.std.proofs.lemmas.List.{append-nil}
use Rattle.std.specs.Prelude.{Option, Result, IfSome, IsNone}
use Rattle.promise_store.specs.declared.disk.Disk.{Ghosts}
use Rattle.node_wires.specs.declared.wire.Wire.{Ghosts as OfWire}
use Rattle.node_wires.specs.Passages.{Passage, logged_in, seats_in, calls_in, wrote_over}
use Rattle.dealer_node.specs.Nodes.{Node}
use Rattle.dealer_node.specs.Seeing.{begun_of}
use Rattle.dealer_node.specs.Outs.{Told, nothing_told}
use Rattle.dealer_node.specs.declared.fault.NodeFault.{NodeFault}
use Rattle.dealer_world.specs.Recordings.{text_by}
use Rattle.dealer_world.specs.declared.event.Event.{Event}
use Rattle.stations.specs.Stations.{Look, Acts}
use Rattle.stations.specs.Looking.{look_of}
use Rattle.node_service.specs.declared.desk.Desk.{Desk}
use Rattle.node_service.specs.declared.local_node.LocalNode.{LocalNode}
use Rattle.node_service.specs.Showing.{shown_log, added, LogGains}
use Rattle.node_service.specs.Bots.{KeepBots}
use Rattle.node_service.specs.Handed.{frames_by}
use Rattle.node_service.specs.Arriving.{Incoming, seats_of, peers_of, taken_for}
use Rattle.node_service.specs.Served.{Served}
use Rattle.node_service.specs.Desks.{served_by, IsUntouched, IsKeptWith, IsKept}
use Rattle.node_service.specs.Going.{GoesOn, Does}
use Rattle.node_service.specs.Sittings.{sitting_at, seat_in, Loosens, IsGivenBy, Refuses}
use Rattle.node_service.specs.Seated.{IsFree, SatBefore}
use Rattle.node_service.specs.Fitting.{FitsFor, FitsBut}
use Rattle.node_service.specs.declared.sitting.Sitting.{Sitting}
use Rattle.node_service.specs.declared.sitting.Sitting.TheVariants.{Here, LetGo}
use Rattle.node_service.specs.declared.sitting.Sittings.{Sittings}
use Rattle.node_peers.specs.declared.peers.Peers.{Peers}
use Rattle.node_peers.specs.Peering.{own_of, passed_of, frames_of, heard_of, Grew, Stays}
use Rattle.node_wires.specs.declared.line.Line.TheVariants.{Seat as SeatOf}
use Rattle.node_wires.specs.declared.passages.Passages.{Passages}
use Rattle.node_seats.specs.declared.seats.Seats.{Seats}
use Rattle.node_seats.specs.Others.{KeepsOthers, Rests, TellsNoGuest}
use Rattle.node_seats.proofs.Others.{keeps_same}
use Rattle.node_seats.specs.Telling.{AreSaid}
use Rattle.node_status.specs.declared.askers.Askers.{Askers}
use Rattle.node_status.specs.Asking.{AreAnswered, KeepsOthers as OthersKept}
use Rattle.node_service.specs.declared.company.Company.{Company}
use Rattle.node_service.specs.Asking.{line_given, GivesOnly, IsNoLine, IsReply, IsStatusLine}
use Rattle.node_service.specs.Apartness.{PutsOffApart}
use Rattle.node_service.proofs.Apartness.{waits_same, waits_still, waits_on}
use Rattle.node_service.specs.Calling.{called_if}
use Rattle.node_service.specs.Crossing.{IsCarried, Carries}
use Rattle.node_service.specs.Handing.{HandsOn}
use Rattle.stations.proofs.OwnTables.{beginning_on}
use Rattle.node_service.proofs.Bots.{LooksOn, as_before, keep_on, bots_still}
use Rattle.node_service.proofs.Asking.{gives_alike, gives_weaker, none_gives_on}
use Rattle.node_service.proofs.Calls.{by_peers, by_bots, by_askers, and_none, calls_put}
use Rattle.node_service.proofs.Crossing.{carried_grown, carried_seated, carried_asked, carried_rested, none_unsaid, rests_called}
use Rattle.node_service.specs.Company.{HearsOn}
use Rattle.node_service.proofs.Hearing.{hears_none, hears_on, heard_on}
use Rattle.node_service.proofs.Fitting.{fits_moved}
use Rattle.node_service.proofs.Seated.{sat_still, sat_on, still_but}
use Rattle.node_service.proofs.Going.{once_kept, looks_on, still, does_on, let_go_so}
use Rattle.node_service.proofs.Showing.{nothing_shown}
use Rattle.node_service.proofs.Welcoming.{hosts_none, hosts_on}
use Rattle.node_service.proofs.Stepping.{unstepped, unstepped_if_not}

loosened_by : (one two three : Sitting) → (two ≡ one) ⊎ ((one ≡ Here) × (two ≡ LetGo)) → (three ≡ two) ⊎ ((two ≡ Here) × (three ≡ LetGo)) → (three ≡ one) ⊎ ((one ≡ Here) × (three ≡ LetGo))
loosened_by one two three (inl e) (inl f) = inl (f ∙ e)
loosened_by one two three (inl e) (inr f) = inr (sym e ∙ f.0, f.1)
loosened_by one two three (inr e) (inl f) = inr (e.0, f ∙ e.1)
loosened_by one two three (inr e) (inr f) = inr (e.0, f.1)

loosened_on : (one two three : Sittings) → Loosens one two → Loosens two three → Loosens one three
loosened_on one two three first then_on seat = loosened_by (sitting_at one seat) (sitting_at two seat) (sitting_at three seat) (first seat) (then_on seat)

pub heard_either : (old new : Peers) → (new ≡ old) ⊎ HearsOn old new → HearsOn old new
heard_either old new (inl same) = hears_none (own_of old) (own_of new) (passed_of old) (passed_of new) (ap own_of same) (ap passed_of same)
heard_either old new (inr hears) = hears

module _ {D W : Type 0} {disk : Ghosts D} (wire : OfWire W) where
  pub carried_as : (old new : Desk D W disk) → IsUntouched wire old new ⊎ (Carries (served_by wire old) → Carries (served_by wire new)) → Carries (served_by wire old)
      → Carries (served_by wire new)
  carried_as old new (inr carries) is = carries is
  carried_as old new (inl same) is =
      subst (λ (m : List Passage). IsCarried m (passed_of new.company.peers) new.seats.seats.items new.askers.askers.items) (sym same.0)
      (subst (λ (m : List Passage). IsCarried (wire.passed old.wire) m new.seats.seats.items new.askers.askers.items) (sym same.1.0)
      (subst (λ (s : Seats). IsCarried (wire.passed old.wire) (passed_of old.company.peers) s.seats.items new.askers.askers.items) (sym same.1.1.0)
      (subst (λ (a : Askers). IsCarried (wire.passed old.wire) (passed_of old.company.peers) old.seats.seats.items a.askers.items) (sym same.1.1.1) is)))

  pub members_on : (old new : Desk D W disk) → new.member ≡ old.member → LooksOn (look_of old.member.station) (look_of new.member.station)
  members_on old new member = as_before (look_of old.member.station) (look_of new.member.station) (ap (λ (m : LocalNode D disk). look_of m.station) member)

  pub carries : {such : List ℕ → Type 0} {old new : Desk D W disk} → IsKeptWith wire such old new → Carries (served_by wire old) → Carries (served_by wire new)
  carries {old = old} {new} is = carried_as old new is.carried

  pub kept_on : {such : List ℕ → Type 0} {one two three : Desk D W disk} → IsKeptWith wire such one two → IsKeptWith wire such two three → IsKeptWith wire such one three
  kept_on {such} {one} {two} {three} first then_on = record {
    member = then_on.member ∙ first.member;
    calls = then_on.calls ∙ first.calls;
    log_failed = then_on.log_failed ∙ first.log_failed;
    sent = then_on.sent ∙ first.sent;
    bots = keep_on (members_on one two first.member) (members_on two three then_on.member) first.bots then_on.bots;
    sat = sat_on one.seats.seats.items two.seats.seats.items three.seats.seats.items first.sat then_on.sat;
    guests = then_on.guests ∙ first.guests;
    heard = then_on.heard ∙ first.heard;
    log = then_on.log ∙ first.log;
    seats = then_on.seats ∙ first.seats;
    sittings = loosened_on one.sittings two.sittings three.sittings first.sittings then_on.sittings;
    hears = inr (heard_on one.company.peers two.company.peers three.company.peers (heard_either one.company.peers two.company.peers first.hears)
        (heard_either two.company.peers three.company.peers then_on.hears));
    asked = gives_alike such one.askers.askers.items two.askers.askers.items three.askers.askers.items first.asked then_on.asked;
    waits = waits_on one.apart two.apart three.apart one.seats.seats.items two.seats.seats.items three.seats.seats.items first.waits then_on.waits;
    carried = inr (λ is. carries then_on (carries first is));
  }

  pub as_it_was : {such : List ℕ → Type 0} {old new : Desk D W disk} → new ≡ old → IsKeptWith wire such old new
  as_it_was {such} {old} {new} is = record {
    member = ap (λ (d : Desk D W disk). d.member) is;
    calls = ap (λ (d : Desk D W disk). calls_in (wire.passed d.wire)) is;
    log_failed = ap (λ (d : Desk D W disk). d.log_failed) is;
    sent = ap (λ (d : Desk D W disk). frames_of d.company.peers) is;
    bots = subst (λ (d : Desk D W disk). KeepBots (look_of old.member.station) (look_of d.member.station) old.seats.seats.items d.seats.seats.items) (sym is) (bots_still (look_of old.member.station) old.seats.seats.items);
    sat = subst (λ (d : Desk D W disk). SatBefore old.seats.seats.items d.seats.seats.items) (sym is) (sat_still old.seats.seats.items);
    guests = ap (λ (d : Desk D W disk). d.seats.guests) is;
    heard = ap (λ (d : Desk D W disk). heard_of d.company.peers) is;
    log = ap (λ (d : Desk D W disk). logged_in (wire.passed d.wire)) is;
    seats = ap (λ (d : Desk D W disk). seats_in (wire.passed d.wire)) is;
    sittings = λ seat. inl (ap (λ (d : Desk D W disk). sitting_at d.sittings seat) is);
    hears = inl (ap (λ (d : Desk D W disk). d.company.peers) is);
    asked = λ place within. inl (ap (λ (d : Desk D W disk). line_given d.askers.askers.items place) is);
    waits = subst (λ (d : Desk D W disk). PutsOffApart old.apart d.apart old.seats.seats.items d.seats.seats.items) (sym is) (waits_same old.apart old.seats.seats.items);
    carried = inl (ap (λ (d : Desk D W disk). wire.passed d.wire) is, (ap (λ (d : Desk D W disk). passed_of d.company.peers) is, (ap (λ (d : Desk D W disk). d.seats) is, ap (λ (d : Desk D W disk). d.askers) is)));
  }

  -- ---- one call

  bots_kept : (old new : Desk D W disk) → new.member ≡ old.member → new.seats ≡ old.seats → KeepBots (look_of old.member.station) (look_of new.member.station) old.seats.seats.items new.seats.seats.items
  bots_kept old new member seats =
      let look : Look (Node D) = look_of old.member.station in
      subst (λ (m : LocalNode D disk). KeepBots look (look_of m.station) old.seats.seats.items new.seats.seats.items) (sym member)
      (subst (λ (s : Seats). KeepBots look look old.seats.seats.items s.seats.items) (sym seats) (bots_still look old.seats.seats.items))

  waits_kept : (old new : Desk D W disk) → new.apart ≡ old.apart → new.seats ≡ old.seats → PutsOffApart old.apart new.apart old.seats.seats.items new.seats.seats.items
  waits_kept old new apart seats = subst (λ (s : Seats). PutsOffApart old.apart new.apart old.seats.seats.items s.seats.items) (sym seats) (waits_still old.apart new.apart old.seats.seats.items apart)

  sat_kept : (old new : Desk D W disk) → new.seats ≡ old.seats → SatBefore old.seats.seats.items new.seats.seats.items
  sat_kept old new seats = subst (λ (s : Seats). SatBefore old.seats.seats.items s.seats.items) (sym seats) (sat_still old.seats.seats.items)

  -- of the peers nothing passed
  pub kept_still : {old new : Desk D W disk} → new.apart ≡ old.apart → new.member ≡ old.member → new.log_failed ≡ old.log_failed → new.sittings ≡ old.sittings → new.seats ≡ old.seats → new.askers ≡ old.askers
      → wire.passed new.wire ≡ wire.passed old.wire → Stays old.company.peers new.company.peers → HearsOn old.company.peers new.company.peers → IsKept wire old new
  kept_still {old} {new} apart member log_failed sittings seats askers passed stays hears = record {
    member = member;
    log_failed = log_failed;
    sent = ap (λ (p : Passages). p.items) stays.1.1.0;
    bots = bots_kept old new member seats;
    sat = sat_kept old new seats;
    guests = ap (λ (s : Seats). s.guests) seats;
    heard = ap (λ (p : Passages). p.items) stays.1.1.1;
    calls = ap calls_in passed;
    log = ap logged_in passed;
    seats = ap seats_in passed;
    sittings = λ seat. inl (ap (λ (s : Sittings). sitting_at s seat) sittings);
    hears = inr hears;
    asked = λ place within. inl (ap (λ (a : Askers). line_given a.askers.items place) askers);
    waits = waits_kept old new apart seats;
    carried = inl (passed, (ap (λ (p : Passages). p.items) stays.1.0, (seats, askers)));
  }

  -- something did
  pub kept_grown : {old new : Desk D W disk} → new.apart ≡ old.apart → new.member ≡ old.member → new.log_failed ≡ old.log_failed → new.sittings ≡ old.sittings → new.seats ≡ old.seats → new.askers ≡ old.askers
      → Grew old.company.peers new.company.peers (wire.passed old.wire) (wire.passed new.wire) → HearsOn old.company.peers new.company.peers
      → seats_in (wire.passed new.wire) ≡ seats_in (wire.passed old.wire) → logged_in (wire.passed new.wire) ≡ logged_in (wire.passed old.wire)
      → ((seat : ℕ) → wrote_over (wire.passed new.wire) (SeatOf seat) ≡ wrote_over (wire.passed old.wire) (SeatOf seat)) → IsKept wire old new
  kept_grown {old} {new} apart member log_failed sittings seats askers grew hears of_seats log writing = record {
    member = member;
    log_failed = log_failed;
    sent = ap (λ (p : Passages). p.items) grew.1.1.0;
    bots = bots_kept old new member seats;
    sat = sat_kept old new seats;
    guests = ap (λ (s : Seats). s.guests) seats;
    heard = ap (λ (p : Passages). p.items) grew.1.1.1;
    calls = by_peers (passed_of old.company.peers) (passed_of new.company.peers) (wire.passed old.wire) (wire.passed new.wire) grew.1.0;
    log = log;
    seats = of_seats;
    sittings = λ seat. inl (ap (λ (s : Sittings). sitting_at s seat) sittings);
    hears = inr hears;
    asked = λ place within. inl (ap (λ (a : Askers). line_given a.askers.items place) askers);
    waits = waits_kept old new apart seats;
    carried = inr (λ is.
        subst (λ (s : Seats). IsCarried (wire.passed new.wire) (passed_of new.company.peers) s.seats.items new.askers.askers.items) (sym seats)
        (subst (λ (a : Askers). IsCarried (wire.passed new.wire) (passed_of new.company.peers) old.seats.seats.items a.askers.items) (sym askers)
        (carried_grown (passed_of old.company.peers) (passed_of new.company.peers) (wire.passed old.wire) (wire.passed new.wire) old.seats.seats.items old.askers.askers.items grew.1.0 writing is)));
  }

  -- the clock was looked at, or something was waited for
  pub kept_rested : (old : Desk D W disk) (after : W) → Rests (wire.passed old.wire) (wire.passed after) → calls_in (wire.passed after) ≡ calls_in (wire.passed old.wire) → IsKept wire old (record old { wire = after })
  kept_rested old after rests calls = record {
    member = refl;
    log_failed = refl;
    sent = refl;
    bots = bots_still (look_of old.member.station) old.seats.seats.items;
    sat = sat_still old.seats.seats.items;
    guests = refl;
    heard = refl;
    calls = calls;
    log = rests.log;
    seats = rests.seats;
    sittings = λ seat. inl refl;
    hears = inl refl;
    asked = λ place within. inl refl;
    waits = waits_same old.apart old.seats.seats.items;
    carried = inr (carried_rested (wire.passed old.wire) (wire.passed after) (passed_of old.company.peers) old.seats.seats.items old.askers.askers.items rests);
  }

  -- something was written to seats, or one was let go of
  pub kept_seated : {old new : Desk D W disk} → PutsOffApart old.apart new.apart old.seats.seats.items new.seats.seats.items → new.member ≡ old.member → new.log_failed ≡ old.log_failed → new.company ≡ old.company → new.askers ≡ old.askers → Loosens old.sittings new.sittings
      → KeepBots (look_of old.member.station) (look_of old.member.station) old.seats.seats.items new.seats.seats.items → new.seats.guests ≡ old.seats.guests → logged_in (wire.passed new.wire) ≡ logged_in (wire.passed old.wire) → seats_in (wire.passed new.wire) ≡ seats_in (wire.passed old.wire)
      → KeepsOthers (wire.passed old.wire) (wire.passed new.wire) → TellsNoGuest (wire.passed old.wire) (wire.passed new.wire)
      → (AreSaid (wire.passed old.wire) old.seats.seats.items → AreSaid (wire.passed new.wire) new.seats.seats.items) → SatBefore old.seats.seats.items new.seats.seats.items → IsKept wire old new
  kept_seated {old} {new} waits member log_failed company askers loosened bots guests log seats others unsaid said sat = record {
    member = member;
    log_failed = log_failed;
    sent = ap (λ (c : Company). frames_of c.peers) company;
    bots = subst (λ (m : LocalNode D disk). KeepBots (look_of old.member.station) (look_of m.station) old.seats.seats.items new.seats.seats.items) (sym member) bots;
    sat = sat;
    guests = guests;
    heard = ap (λ (c : Company). heard_of c.peers) company;
    calls = by_bots (wire.passed old.wire) (wire.passed new.wire) others;
    log = log;
    seats = seats;
    sittings = loosened;
    hears = inl (ap (λ (c : Company). c.peers) company);
    asked = λ place within. inl (ap (λ (a : Askers). line_given a.askers.items place) askers);
    waits = waits;
    carried = inr (λ is.
        subst (λ (c : Company). IsCarried (wire.passed new.wire) (passed_of c.peers) new.seats.seats.items new.askers.askers.items) (sym company)
        (subst (λ (a : Askers). IsCarried (wire.passed new.wire) (passed_of old.company.peers) new.seats.seats.items a.askers.items) (sym askers)
        (carried_seated (wire.passed old.wire) (wire.passed new.wire) (passed_of old.company.peers) old.seats.seats.items new.seats.seats.items old.askers.askers.items others unsaid said is)));
  }

  -- bots were told something
  pub kept_told : {old new : Desk D W disk} → PutsOffApart old.apart new.apart old.seats.seats.items new.seats.seats.items → new.member ≡ old.member → new.log_failed ≡ old.log_failed → new.company ≡ old.company → new.askers ≡ old.askers → new.sittings ≡ old.sittings → new.wire ≡ old.wire
      → KeepBots (look_of old.member.station) (look_of old.member.station) old.seats.seats.items new.seats.seats.items → new.seats.guests ≡ old.seats.guests
      → ((passed : List Passage) → AreSaid passed old.seats.seats.items → AreSaid passed new.seats.seats.items) → SatBefore old.seats.seats.items new.seats.seats.items → IsKept wire old new
  kept_told {old} {new} waits member log_failed company askers sittings same bots guests said sat =
      let passed : wire.passed new.wire ≡ wire.passed old.wire = ap wire.passed same in
      kept_seated waits member log_failed company askers (λ seat. inl (ap (λ (s : Sittings). sitting_at s seat) sittings)) bots guests (ap logged_in passed) (ap seats_in passed)
      (keeps_same (wire.passed old.wire) (wire.passed new.wire) passed)
      (none_unsaid (wire.passed old.wire) (wire.passed new.wire) passed)
      (λ are. subst (λ (ps : List Passage). AreSaid ps new.seats.seats.items) (sym passed) (said (wire.passed old.wire) are)) sat

  -- something passed over lines of those who ask, or they were given such lines
  pub kept_asked : {such : List ℕ → Type 0} {old new : Desk D W disk} → new.apart ≡ old.apart → new.member ≡ old.member → new.log_failed ≡ old.log_failed → new.company ≡ old.company → new.seats ≡ old.seats → new.sittings ≡ old.sittings
      → OthersKept (wire.passed old.wire) (wire.passed new.wire) → (AreAnswered (wire.passed old.wire) old.askers.askers.items → AreAnswered (wire.passed new.wire) new.askers.askers.items)
      → GivesOnly such old.askers.askers.items new.askers.askers.items → IsKeptWith wire such old new
  kept_asked {such} {old} {new} apart member log_failed company seats sittings others answered asked = record {
    member = member;
    log_failed = log_failed;
    sent = ap (λ (c : Company). frames_of c.peers) company;
    bots = bots_kept old new member seats;
    sat = sat_kept old new seats;
    guests = ap (λ (s : Seats). s.guests) seats;
    heard = ap (λ (c : Company). heard_of c.peers) company;
    calls = by_askers (wire.passed old.wire) (wire.passed new.wire) others;
    log = others.log;
    seats = others.seats;
    sittings = λ seat. inl (ap (λ (s : Sittings). sitting_at s seat) sittings);
    hears = inl (ap (λ (c : Company). c.peers) company);
    asked = asked;
    waits = waits_kept old new apart seats;
    carried = inr (λ is.
        subst (λ (c : Company). IsCarried (wire.passed new.wire) (passed_of c.peers) new.seats.seats.items new.askers.askers.items) (sym company)
        (subst (λ (s : Seats). IsCarried (wire.passed new.wire) (passed_of old.company.peers) s.seats.items new.askers.askers.items) (sym seats)
        (carried_asked (wire.passed old.wire) (wire.passed new.wire) (passed_of old.company.peers) old.seats.seats.items old.askers.askers.items new.askers.askers.items others answered is)));
  }

  -- ---- as part of what is done

  goes_with : {such : List ℕ → Type 0} {old new : Desk D W disk} → ((line : List ℕ) → such line → IsReply (look_of new.member.station) line) → IsKeptWith wire such old new
      → Does disk [] (served_by wire old) (served_by wire new)
  unfolding still
  goes_with {such} {old} {new} replies is = (
    still (served_by wire old) (served_by wire new) (ap (λ (m : LocalNode D disk). look_of m.station) is.member) is.log_failed is.sent is.bots is.heard is.log is.seats is.calls is.sittings
        (heard_either old.company.peers new.company.peers is.hears)
        (gives_weaker such (IsReply (look_of new.member.station)) old.askers.askers.items new.askers.askers.items replies is.asked) (carries is)
        (ap (λ (m : LocalNode D disk). m.is_started) is.member) (ap (λ (m : LocalNode D disk). m.terms) is.member) is.guests is.waits is.sat,
    refl,
  )

  pub goes_kept : {old new : Desk D W disk} → IsKept wire old new → Does disk [] (served_by wire old) (served_by wire new)
  goes_kept is = goes_with (λ line e. inl e) is

  -- they were given a status line
  pub goes_answered : (line : List ℕ) (old new : Desk D W disk) → IsStatusLine (look_of old.member.station) line → IsKeptWith wire (λ given. given ≡ line) old new
      → Does disk [] (served_by wire old) (served_by wire new)
  goes_answered line old new is_status is =
      goes_with
      (λ given e.
      inr (subst (λ (l : List ℕ). IsStatusLine (look_of new.member.station) l) (sym e)
      (subst (λ (m : LocalNode D disk). IsStatusLine (look_of m.station) line) (sym is.member) is_status))) is

  pub taken_kept : (taken : List Incoming) (old new : Desk D W disk) → IsKept wire old new → FitsBut taken (served_by wire old) → FitsBut taken (served_by wire new)
  taken_kept taken old new is but = (
    but.0,
    (
      is.seats ∙ but.1.0,
      subst (λ (m : LocalNode D disk). FitsFor (look_of m.station).deeds new.sittings but.0) (sym is.member) (fits_moved (look_of old.member.station).deeds old.sittings new.sittings but.0 is.sittings but.1.1),
    ),
  )

  -- it was kept, and then something was done
  unfoldable pub all_kept_then : {taken : List Incoming} {one two : Desk D W disk} {three : Served (Node D)} → IsKept wire one two → GoesOn disk taken (served_by wire two) three
      → GoesOn disk taken (served_by wire one) three
  all_kept_then {taken} {one} {two} {three} is goes = record {
    config = goes.config ∙ ap (λ (m : LocalNode D disk). (look_of m.station).config) is.member;
    number = goes.number ∙ ap (λ (m : LocalNode D disk). (look_of m.station).number) is.member;
    begun = goes.begun ∙ ap (λ (m : LocalNode D disk). begun_of disk (look_of m.station).node) is.member;
    terms = goes.terms ∙ ap (λ (m : LocalNode D disk). m.terms) is.member;
    since = goes.since;
    deeds = goes.deeds ∙ ap (λ (m : LocalNode D disk). goes.since ++ (look_of m.station).deeds) is.member;
    moments = beginning_on (look_of one.member.station).moments (look_of two.member.station).moments three.look.moments (members_on one two is.member) goes.moments;
    calls = goes.calls ∙ ap (λ (n : ℕ). n + length goes.since) is.calls;
    log = subst (λ (b : Bool). LogGains b three.log_failed (shown_log goes.since) (logged_in (wire.passed one.wire)) (logged_in three.passed)) is.log_failed
        (subst (λ (m : List ℕ). LogGains two.log_failed three.log_failed (shown_log goes.since) m (logged_in three.passed)) is.log goes.log);
    sent = goes.sent ∙ ap (λ (m : List Passage). m ++ frames_by goes.since) is.sent;
    bots = keep_on (members_on one two is.member) (looks_on goes) is.bots goes.bots;
    gained = goes.gained;
    seats = goes.seats ∙ ap (λ (m : List Passage). m ++ seats_of goes.gained) is.seats;
    heard = goes.heard ∙ ap (λ (m : List Passage). m ++ peers_of goes.gained) is.heard;
    were = goes.were;
    hosts = hosts_on one.seats.guests two.seats.guests three.guests (hosts_none one.seats.guests two.seats.guests is.guests) goes.hosts;
    let_in = goes.let_in;
    came = goes.came;
    given = λ but. goes.given (taken_kept taken one two is but);
    somebody = λ but. goes.somebody (still_but (seats_of taken) one.seats.seats.items two.seats.seats.items one.sittings two.sittings is.sat is.sittings but);
    hears = hears_on (own_of one.company.peers) (own_of two.company.peers) three.own (passed_of one.company.peers) (passed_of two.company.peers) three.lines
        (heard_either one.company.peers two.company.peers is.hears) goes.hears;
    asked = none_gives_on three.look one.askers.askers.items two.askers.askers.items three.askers is.asked goes.asked;
    waits = waits_on one.apart two.apart three.apart one.seats.seats.items two.seats.seats.items three.bots is.waits goes.waits;
    carried = λ held. goes.carried (carries is held);
    once = λ was. goes.once (once_kept (served_by wire one) (served_by wire two) (ap (λ (m : LocalNode D disk). look_of m.station) is.member) (ap (λ (m : LocalNode D disk). m.is_started) is.member) was);
  }

  pub kept_then : {taken : List Incoming} {one two : Desk D W disk} {three : Served (Node D)} → IsKept wire one two → Does disk taken (served_by wire two) three → Does disk taken (served_by wire one) three
  unfolding all_kept_then
  kept_then is does = (all_kept_then is does.0, does.1)

  -- and the other way round
  pub then_kept : {taken : List Incoming} {one : Served (Node D)} {two three : Desk D W disk} → Does disk taken one (served_by wire two) → IsKept wire two three
      → Does disk taken one (served_by wire three)
  then_kept does is = does_on does (goes_kept is)

  -- what was taken isn't of seats, and is let go of
  pub kept_only : {taken : List Incoming} {old new : Desk D W disk} → seats_of taken ≡ [] → IsKept wire old new → Does disk taken (served_by wire old) (served_by wire new)
  kept_only none is = let_go_so none (goes_kept is)

  -- what a call made was handed on, and then it was kept
  pub hands_kept : {count : ℕ} {told : Told} {one : Served (Node D)} {two three : Desk D W disk} → HandsOn disk count told one (served_by wire two) → IsKept wire two three → HandsOn disk count told one (served_by wire three)
  hands_kept {count} {told} {one} {two} {three} hands is = record {
    calls = is.calls ∙ hands.calls;
    log = subst (λ (b : Bool). LogGains one.log_failed b (added (map text_by told.shown)) (logged_in one.passed) (logged_in (wire.passed three.wire))) (sym is.log_failed)
        (subst (λ (m : List ℕ). LogGains one.log_failed two.log_failed (added (map text_by told.shown)) (logged_in one.passed) m) (sym is.log) hands.log);
    sent = is.sent ∙ hands.sent;
    bots =
        subst (λ (m : LocalNode D disk). KeepBots (look_of m.station) (look_of three.member.station) one.bots three.seats.seats.items) (sym is.member)
        (keep_on (as_before (look_of two.member.station) (look_of two.member.station) refl) (members_on two three is.member) hands.bots is.bots);
    sat = sat_on one.bots two.seats.seats.items three.seats.seats.items hands.sat is.sat;
    seats = is.seats ∙ hands.seats;
    heard = is.heard ∙ hands.heard;
    guests = is.guests ∙ hands.guests;
    hears = hears_on one.own (own_of two.company.peers) (own_of three.company.peers) one.lines (passed_of two.company.peers) (passed_of three.company.peers) hands.hears (heard_either two.company.peers three.company.peers is.hears);
    asked = gives_alike IsNoLine one.askers two.askers.askers.items three.askers.askers.items hands.asked is.asked;
    waits = waits_on one.apart two.apart three.apart one.bots two.seats.seats.items three.seats.seats.items hands.waits is.waits;
    carried = λ held. carries is (hands.carried held);
  }

  -- how bots are is of no account for that
  pub settled : {count : ℕ} {told : Told} {one : Served (Node D)} (two : Desk D W disk) (sittings : Sittings) → HandsOn disk count told one (served_by wire two) → HandsOn disk count told one (served_by wire (record two { sittings = sittings }))
  settled two sittings hands = record { calls = hands.calls; log = hands.log; sent = hands.sent; bots = hands.bots; sat = hands.sat; seats = hands.seats; heard = hands.heard; guests = hands.guests; hears = hands.hears; asked = hands.asked; waits = hands.waits; carried = hands.carried }

  -- nor is the node that was called, which was put down
  pub of_called : {told : Told} {three : Served (Node D)} (given : Bool) (one : Desk D W disk) (member : LocalNode D disk) (called : W) → wire.passed called ≡ wire.passed one.wire ++ called_if given
      → HandsOn disk 0 told (served_by wire (record one { member = member; wire = called })) three → HandsOn disk (calls_in (called_if given)) told (served_by wire one) three
  of_called {told} {three} given one member called put hands =
      let before = wire.passed one.wire in
      let rests = rests_called given before (wire.passed called) put in
      record {
        calls = calls_put before (wire.passed called) (called_if given) three.passed put hands.calls;
        log = subst (λ (m : List ℕ). LogGains one.log_failed three.log_failed (added (map text_by told.shown)) m (logged_in three.passed)) rests.log hands.log;
        sent = hands.sent;
        bots = hands.bots;
        sat = hands.sat;
        seats = hands.seats ∙ rests.seats;
        heard = hands.heard;
        guests = hands.guests;
        hears = hands.hears;
        asked = hands.asked;
        waits = hands.waits;
        carried = λ is. hands.carried (carried_rested before (wire.passed called) (passed_of one.company.peers) one.seats.seats.items one.askers.askers.items rests is);
      }

  -- nothing was made
  hands_nothing : {old new : Desk D W disk} → IsKept wire old new → HandsOn disk 0 nothing_told (served_by wire old) (served_by wire new)
  hands_nothing {old} {new} is =
      hands_kept (record {
        calls = and_none (calls_in (wire.passed old.wire)) (calls_in (wire.passed old.wire)) refl;
        log = nothing_shown old.log_failed (logged_in (wire.passed old.wire));
        sent = sym (append-nil (frames_of old.company.peers));
        bots = bots_still (look_of old.member.station) old.seats.seats.items;
        sat = sat_still old.seats.seats.items;
        seats = refl;
        heard = refl;
        guests = refl;
        hears = hears_none (own_of old.company.peers) (own_of old.company.peers) (passed_of old.company.peers) (passed_of old.company.peers) refl refl;
        asked = λ place within. inl refl;
        waits = waits_same old.apart old.seats.seats.items;
        carried = λ held. held;
      }) is

  -- and what an event would be made of isn't given: the bot that it is of is let go of
  pub refused : (e : Event) {old new : Desk D W disk} → IsKept wire old new → Refuses e old.sittings new.sittings → IsFree (seat_in e) new.seats.seats.items
      → Does disk (taken_for e) (served_by wire old) (served_by wire new)
  refused e {old} {new} is refuses free =
      let look : look_of new.member.station ≡ look_of old.member.station = ap (λ (m : LocalNode D disk). look_of m.station) is.member in
      unstepped e nothing_told (served_by wire old) (served_by wire new) (ap (λ (l : Look (Node D)). l.config) look) (ap (λ (l : Look (Node D)). l.number) look)
      (ap (λ (l : Look (Node D)). begun_of disk l.node) look) (ap (λ (l : Look (Node D)). l.deeds) look) (as_before (look_of old.member.station) (look_of new.member.station) look) refl (hands_nothing is) refuses free
      (λ was. ap (λ (m : LocalNode D disk). m.is_started) is.member ∙ was) (ap (λ (m : LocalNode D disk). m.terms) is.member)

  -- the node was called, but not given what the event is made of, and then its bot was let go of
  pub unstepped_then : (e : Event) (told : Told) (result : Option (Result (Unit {0}) NodeFault)) (old : Served (Node D)) (mid new : Desk D W disk) → IsGivenBy false result
      → IfSome result (λ answer. Acts disk e told answer old.look (look_of mid.member.station)) → (IsNone result → look_of mid.member.station ≡ old.look) → (IsNone result → told ≡ nothing_told)
      → HandsOn disk 0 told old (served_by wire mid) → mid.sittings ≡ old.sittings → IsKept wire mid new → Refuses e mid.sittings new.sittings → IsFree (seat_in e) new.seats.seats.items → (old.started ≡ true → mid.member.is_started ≡ true)
      → mid.member.terms ≡ old.terms → Does disk (taken_for e) old (served_by wire new)
  unstepped_then e told result old mid new given acts same unmade hands sittings is refuses free started terms =
      let look : look_of new.member.station ≡ look_of mid.member.station = ap (λ (m : LocalNode D disk). look_of m.station) is.member in
      unstepped_if_not e told result old (served_by wire new) given
      (subst (λ (l : Look (Node D)). IfSome result (λ answer. Acts disk e told answer old.look l)) (sym look) acts) (λ none. look ∙ same none) unmade (hands_kept hands is)
      (subst (λ (s : Sittings). Refuses e s new.sittings) sittings refuses) free (λ was. ap (λ (m : LocalNode D disk). m.is_started) is.member ∙ started was)
      (ap (λ (m : LocalNode D disk). m.terms) is.member ∙ terms)
