-- What comes of seats, on the path of a call.
use Rattle.std.proofs.Common.{◌≡◌, ℕ, ◌<◌, inl, inr, Bool, true, false, true≢false, not, if◌then◌else◌, ◌==◌, ◌&&◌, List, [], ◌∷◌, ◌++◌, Option, Some, None, Result, Ok, Err, refl, sym, ap, subst, ◌∙◌, length, arith}
use Rattle.std.specs.Prelude.{nat_lt, is_none}
use Rattle.std.proofs.lemmas.List.{append-nil}
use Rattle.std.proofs.lemmas.Bool.{ltb-true, eqb-false, not-true, and_parts}
use Rattle.game_def.specs.Game.{Game}
use Rattle.paxos_wire.specs.declared.ballot.Ballot.{Ballot}
use Rattle.paxos_wire.specs.declared.message.Message.TheVariants as frame
use Rattle.slot_log.specs.Hand.{Hand}
use Rattle.slot_log.specs.declared.command.Command.{Command}
use Rattle.protocol_model.specs.Sets.{In}
use Rattle.protocol_model.specs.Messages.{Forward, Said}
use Rattle.protocol_model.specs.Dealers.{HasLine}
use Rattle.protocol_model.specs.Nodes.{Node}
use Rattle.protocol_model.specs.Arrivals.{Arrival, Event}
use Rattle.protocol_model.specs.Moves.{Move, taking as comes, more, notes, forwards}
use Rattle.learner.specs.Learning.{Learned}
use Rattle.seat_session.specs.Session.{Standing as Talk, is_closed, Answers}
use Rattle.seat_session.specs.Laws.{Event as Happening, asked, joined as joined_pieces, Happens, IsRestOf}
use Rattle.seat_session.specs.declared.said.Said.{Said as Saying}
use Rattle.seat_session.specs.declared.said.Said.TheVariants.{Ready, Act}
use Rattle.seat_session.specs.declared.session_fault.SessionFault.{SessionFault}
use Rattle.dealer_kind.specs.Kind.{fits, says, log_of, hands_after}
use Rattle.node_rules.specs.Standings.{Place, Standing, applied, front_of, hands_at}
use Rattle.node_rules.specs.Sending.{one}
use Rattle.node_rules.specs.Showing.{Piece, SeatFault, seat_line}
use Rattle.node_rules.specs.Turns.{Turn, sending, joined}
use Rattle.node_rules.specs.Seats.{waiting, pending_act, is_others, forwarding, answering, answering_all, Drains}
use Rattle.node_rules.specs.Being.{IsPending}
use Rattle.node_rules.specs.LawsSeats.{asked_each}
use Rattle.node_rules.specs.Given.{Given}
use Rattle.node_rules.proofs.Carrying.{note_carry, note_all}
use Rattle.node_rules.proofs.Paths.{Hearing, Scope, dealer_in, Path}
use Rattle.node_rules.proofs.Proposed.{waiting_value}
use Rattle.node_rules.proofs.Keeping.{others_proposer, others_pending}
use Rattle.node_rules.proofs.Steps.{Says, send_said, send_one, unsent, go_on}
use Rattle.node_rules.proofs.Showing.{Shows, show_line}
use Rattle.node_rules.proofs.Settling.{showing}
use Rattle.node_rules.proofs.Asking.{joined_assoc, with_pending}
use Rattle.node_rules.proofs.Answering.{answer_heard}

-- ---- something is shown, and told

show_path : (x : Scope) (came : List Arrival) (heard : Hearing) (upto : List Command) (t : Turn) (pieces : List Piece) (faults : List SeatFault) (p : Path x came heard upto t)
    → (x.ends ≡ true → Shows x came p.node p.sent upto (log_of x.place.setting upto) (t.shown ++ pieces))
    → Path x came heard upto (joined t (record { after = t.after; frames = []; shown = pieces; faults = faults }))
show_path x came heard upto t pieces faults p =
    showing x came heard upto upto t (joined t (record { after = t.after; frames = []; shown = pieces; faults = faults })) p refl refl p.unbegun (append-nil t.frames) (omega arith) p.commands
    (λ last low. record {
      up = p.knows.up;
      store = p.knows.store;
      within = p.knows.within;
      proposer = others_proposer x.place.nodes x.place.node p.node p.node.known p.node.heard last (front_of t.after) (front_of t.after) t.after.campaign (omega arith) p.knows.proposer;
      learner = p.knows.learner;
      pending = others_pending (dealer_in x) x.place.node p.node p.node.known p.node.heard last upto t.after.pending p.knows.pending;
      places = p.knows.places;
      shown = low;
      seen = p.knows.seen;
      proposals = p.knows.proposals;
    })

showing_so_far : (x : Scope) (came : List Arrival) (heard : Hearing) (upto : List Command) (t : Turn) (p : Path x came heard upto t) → x.ends ≡ true
    → Shows x came p.node p.sent upto (log_of x.place.setting upto) t.shown
showing_so_far x came heard upto t p ends = record { shown = p.shown; last = p.node.shown; low = p.knows.shown; chain = p.chain; are = p.pieces ends; logged = p.logged ends }

-- ---- an act

pub forward_by : (x : Scope) (came : List Arrival) (heard : Hearing) (upto : List Command) (t : Turn) (act : Command) (b : Bool) → is_others x.place t.after.store.promise ≡ b
    → (p : Path x came heard upto t) → In (Said x.place.node act) p.node.sent
    → Path x came heard upto (joined t (sending (if b then one t.after.store.promise.node (frame.Forward act) else []) t.after))
forward_by x came heard upto t act false e p said = go_on x came heard upto t p
forward_by x came heard upto t act true e p said =
    let promise : Ballot = t.after.store.promise in
    let a = and_parts (nat_lt 0 promise.round) (nat_lt promise.node x.place.nodes && not (promise.node == x.place.node)) e in
    let b = and_parts (nat_lt promise.node x.place.nodes) (not (promise.node == x.place.node)) a.1 in
    send_one x came heard upto t (Forward x.place.node act) promise.node (frame.Forward act) p tt (λ q. tt) (forwards act p.knows.up said refl refl) refl (λ all. all) refl
    (ltb-true promise.node x.place.nodes b.0) (eqb-false promise.node x.place.node (not-true (promise.node == x.place.node) b.1))

pub waits_by : (x : Scope) (came : List Arrival) (heard : Hearing) (t : Turn) (p : Path x came heard (applied t.after) t) (act : Command) (a b : Bool)
    → fits x.place.setting (applied t.after) act ≡ b → In (Said x.place.node act) p.node.sent
    → IsPending (dealer_in x) x.place.node p.node (applied t.after) (if a && b then Some act else t.after.pending)
waits_by x came heard t p act true true e said = (inr (inl said), e)
waits_by x came heard t p act true false e said = p.knows.pending
waits_by x came heard t p act false b e said = p.knows.pending

-- the node notes the act, keeps it, and hands it on
take_act : (x : Scope) (came : List Arrival) (heard : Hearing) (t : Turn) (seat : ℕ) (bytes : List ℕ) (cur new : Talk) (act : Command) (p : Path x came heard (applied t.after) t)
    → seat < x.place.setting.game.players → heard.bytes seat ≡ Some bytes → IsRestOf bytes cur
    → Answers x.place.setting.game (hands_at x.place t.after) seat cur (Some (Ok (Act act))) new
    → Path x came heard (applied t.after) (joined t (sending (forwarding x.place act t.after) (pending_act x.place act t.after)))
unfolding with_pending unsent
take_act x came heard t seat bytes cur new act p seated here rest answers =
    subst (Path x came heard (applied t.after)) (joined_assoc t (sending [] after) (sending (forwarding x.place act t.after) after))
    (forward_by x came heard (applied t.after) (joined t (sending [] after)) act (is_others x.place t.after.store.promise) refl kept noted.said)
  where
    after : Standing
    after = pending_act x.place act t.after

    line : (line : List ℕ) × HasLine bytes line × (says x.place.setting (applied t.after) seat line act ≡ true)
    line = answer_heard x.given x.place.setting (applied t.after) seat bytes cur new act seated rest answers

    noted : Says x came heard (applied t.after) (joined t (sending [] t.after)) (Said x.place.node act)
    noted = send_said x came heard (applied t.after) t (Said x.place.node act) [] p tt (λ q. tt)
        (notes seat bytes (applied t.after) line.0 act p.knows.up (ap (λ (h : ℕ → Option (List ℕ)). h seat) p.hears ∙ here) p.commands line.1 line.2 refl refl)
        (note_carry x.place.nodes x.place.node (Said x.place.node act) tt refl) (note_all x.place.nodes x.place.node (Said x.place.node act) tt)

    kept : Path x came heard (applied t.after) (joined t (sending [] after))
    kept = with_pending x came heard (applied t.after) (joined t (sending [] t.after)) (waiting x.place act t.after) noted.path
        (waits_by x came heard (joined t (sending [] t.after)) noted.path act (is_none t.after.pending) (fits x.place.setting (applied t.after) act) refl noted.said) (waiting_value x.place act t.after)

-- ---- answers, one after another

answer : (x : Scope) (came : List Arrival) (heard : Hearing) (t : Turn) (seat : ℕ) (bytes : List ℕ) (cur new : Talk) (said : Result Saying SessionFault) (p : Path x came heard (applied t.after) t)
    → seat < x.place.setting.game.players → heard.bytes seat ≡ Some bytes → IsRestOf bytes cur
    → Answers x.place.setting.game (hands_at x.place t.after) seat cur (Some said) new
    → Path x came heard (applied (answering x.place seat said t.after).after) (joined t (answering x.place seat said t.after))
answer x came heard t seat bytes cur new (Ok Ready) p seated here rest answers =
    show_path x came heard (applied t.after) t (seat_line x.place.setting (hands_at x.place t.after) seat) [] p
    (λ ends. show_line x came p.node p.sent (applied t.after) (log_of x.place.setting (applied t.after)) t.shown seat seated p.knows.up p.starts p.commands
    (showing_so_far x came heard (applied t.after) t p ends))
answer x came heard t seat bytes cur new (Ok (Act act)) p seated here rest answers = take_act x came heard t seat bytes cur new act p seated here rest answers
answer x came heard t seat bytes cur new (Err fault) p seated here rest answers =
    show_path x came heard (applied t.after) t [] ((record { seat = seat; fault = fault }) ∷ []) p
    (λ ends. subst (Shows x came p.node p.sent (applied t.after) (log_of x.place.setting (applied t.after))) (sym (append-nil t.shown)) (showing_so_far x came heard (applied t.after) t p ends))

-- an answer changes nothing that is known, and no session
pub same_learned : (place : Place) (seat : ℕ) (said : Result Saying SessionFault) (s : Standing) → (answering place seat said s).after.learned ≡ s.learned
same_learned place seat (Ok Ready) s = refl
same_learned place seat (Ok (Act act)) s = refl
same_learned place seat (Err fault) s = refl

pub same_hands : (place : Place) (seat : ℕ) (said : Result Saying SessionFault) (s : Standing) → hands_at place (answering place seat said s).after ≡ hands_at place s
same_hands place seat said s = ap (λ (l : Learned). hands_after place.setting l.log.below) (same_learned place seat said s)

pub drain : (x : Scope) (came : List Arrival) (heard : Hearing) (t : Turn) (seat : ℕ) (bytes : List ℕ) (answers : List (Result Saying SessionFault)) (cur new : Talk) (p : Path x came heard (applied t.after) t)
    → seat < x.place.setting.game.players → heard.bytes seat ≡ Some bytes → IsRestOf bytes cur
    → Drains x.place.setting.game (hands_at x.place t.after) seat cur answers new
    → Path x came heard (applied (answering_all x.place seat answers t).after) (answering_all x.place seat answers t)
unfolding Drains answering_all
drain x came heard t seat bytes [] cur new p seated here rest drains = p
drain x came heard t seat bytes (said ∷ more_said) cur new p seated here rest (between, one, inl last) =
    subst (λ (l : List (Result Saying SessionFault)). Path x came heard (applied (answering_all x.place seat l (joined t (answering x.place seat said t.after))).after) (answering_all x.place seat l (joined t (answering x.place seat said t.after))))
    (sym last.1) (answer x came heard t seat bytes cur between said p seated here rest one)
drain x came heard t seat bytes (said ∷ more_said) cur new p seated here rest (between, one, inr later) =
    drain x came heard (joined t (answering x.place seat said t.after)) seat bytes more_said between new
    (answer x came heard t seat bytes cur between said p seated here rest one) seated here
    (x.given.whole.answered x.place.setting.game (hands_at x.place t.after) seat bytes cur (Some said) between rest one)
    (subst (λ (h : List Hand). Drains x.place.setting.game h seat between more_said new) (sym (same_hands x.place seat said t.after)) later.1)

-- where the session stands then

-- it was asked until there was no answer
abbrev pub asks : List Hand → List (Result Saying SessionFault) → List Happening
asks hands answers = asked_each hands answers ++ asked hands None ∷ []

pub no_pieces : (hands : List Hand) (answers : List (Result Saying SessionFault)) → joined_pieces (asks hands answers) ≡ []
no_pieces hands [] = refl
no_pieces hands (said ∷ more_said) = no_pieces hands more_said

-- one that goes on gave these answers, and had none then
pub record Drained (game : Game) (hands : List Hand) (seat : ℕ) (cur : Talk) (answers : List (Result Saying SessionFault)) (new : Talk) : Type 0 where
  pub talk : Talk
  pub happened : Happens game seat cur (asked_each hands answers) talk
  pub last : Answers game hands seat talk None new

pub drained : (game : Game) (hands : List Hand) (seat : ℕ) (answers : List (Result Saying SessionFault)) (cur new : Talk) → Drains game hands seat cur answers new → is_closed new.phase ≡ false
    → Drained game hands seat cur answers new
unfolding Drains
drained game hands seat [] cur new drains goes_on = record { talk = cur; happened = refl; last = drains }
drained game hands seat (said ∷ more_said) cur new (between, one, inl last) goes_on =
    absurd (true≢false (sym last.0 ∙ (ap (λ (k : Talk). is_closed k.phase) (sym last.2) ∙ goes_on)))
drained game hands seat (said ∷ more_said) cur new (between, one, inr later) goes_on =
    let d = drained game hands seat more_said between new later.1 goes_on in record { talk = d.talk; happened = (between, one, d.happened); last = d.last }

pub drained_asked : (g : Given) (game : Game) (hands : List Hand) (seat : ℕ) (answers : List (Result Saying SessionFault)) (cur new : Talk) → Drains game hands seat cur answers new
    → is_closed new.phase ≡ false → Happens game seat cur (asks hands answers) new
drained_asked g game hands seat answers cur new drains goes_on =
    let d = drained game hands seat answers cur new drains goes_on in
    (g.runs_on game seat cur (asked_each hands answers) d.talk (asked hands None ∷ []) new d.happened (new, d.last, refl)).0

pub rest_drained : (g : Given) (game : Game) (hands : List Hand) (seat : ℕ) (bytes : List ℕ) (answers : List (Result Saying SessionFault)) (cur new : Talk) → Drains game hands seat cur answers new
    → IsRestOf bytes cur → IsRestOf bytes new
unfolding Drains
rest_drained g game hands seat bytes [] cur new drains rest = g.whole.answered game hands seat bytes cur None new rest drains
rest_drained g game hands seat bytes (said ∷ more_said) cur new (between, one, inl last) rest =
    subst (IsRestOf bytes) (sym last.2) (g.whole.answered game hands seat bytes cur (Some said) between rest one)
rest_drained g game hands seat bytes (said ∷ more_said) cur new (between, one, inr later) rest =
    rest_drained g game hands seat bytes more_said between new later.1 (g.whole.answered game hands seat bytes cur (Some said) between rest one)

-- ---- what is heard of seats changes

abbrev pub with_heard : Node → (ℕ → Option (List ℕ)) → Node
with_heard node heard = record node { heard = heard }

-- a seat's event: the node hears this of seats from then on, and its sessions are these
pub sit : (x : Scope) (came : List Arrival) (heard : Hearing) (upto : List Command) (t : Turn) (p : Path x came heard upto t) (event : Event) (after : Hearing)
    → length after.talks ≡ x.place.setting.game.players
    → Move (dealer_in x) x.place.nodes x.place.node (p.sent ++ x.world.ever) p.node (comes (p.sent ++ x.world.ever) event) (with_heard p.node after.bytes)
    → Path x ((record { event = event; sent = length (p.sent ++ x.world.ever) }) ∷ came) after upto (record t { after = record t.after { sessions = after.talks } })
sit x came heard upto t p event after places move = record {
  sent = p.sent;
  shown = p.shown;
  got = p.got;
  node = with_heard p.node after.bytes;
  chain = more _ p.node (comes (p.sent ++ x.world.ever) event) _ _ p.chain move refl;
  knows = record {
    up = p.knows.up;
    store = p.knows.store;
    within = p.knows.within;
    proposer = others_proposer x.place.nodes x.place.node p.node p.node.known after.bytes p.node.shown (front_of t.after) (front_of t.after) t.after.campaign (omega arith) p.knows.proposer;
    learner = p.knows.learner;
    pending = others_pending (dealer_in x) x.place.node p.node p.node.known after.bytes p.node.shown upto t.after.pending p.knows.pending;
    places = places;
    shown = p.knows.shown;
    seen = p.knows.seen;
    proposals = p.knows.proposals;
  };
  commands = p.commands;
  hears = refl;
  talks = refl;
  runs = p.runs;
  begun = p.begun;
  unbegun = p.unbegun;
  starts = p.starts;
  has = p.has;
  carry = p.carry;
  all = p.all;
  pieces = p.pieces;
  logged = p.logged;
  unshown = p.unshown;
  unvoted = p.unvoted;
  unstored = p.unstored;
  got_only = p.got_only;
  got_all = p.got_all;
}
