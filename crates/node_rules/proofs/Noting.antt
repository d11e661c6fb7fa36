-- An order that the player to act is played for, on the path of a call.
use Rattle.std.proofs.Common.{◌≡◌, ℕ, inl, inr, true, true≢false, List, [], ◌∷◌, ◌++◌, Option, Some, None, refl, sym, ap, subst, ◌∙◌, length}
use Rattle.std.specs.Prelude.{is_none}
use Rattle.std.proofs.lemmas.List.{append-nil}
use Rattle.slot_log.specs.declared.command.Command.{Command}
use Rattle.slot_log.specs.declared.command.Command.TheVariants.{Deal, Act, Away}
use Rattle.protocol_model.specs.Sets.{In}
use Rattle.protocol_model.specs.Messages.{Message, Said}
use Rattle.protocol_model.specs.Arrivals.{Arrival, Event, Ordered}
use Rattle.protocol_model.specs.Moves.{with_sent, more, ordered}
use Rattle.dealer_kind.specs.Kind.{Setting, fits, orders}
use Rattle.node_rules.specs.Standings.{Place, Standing, applied, front_of}
use Rattle.node_rules.specs.Showing.{Piece}
use Rattle.node_rules.specs.Turns.{Turn, still, sending, joined}
use Rattle.node_rules.specs.Seats.{waiting, pending_act, is_others, forwarding, away_at}
use Rattle.node_rules.specs.Called.{AreShown, log_after}
use Rattle.node_rules.proofs.Carrying.{joined_carry, joined_all, note_carry, note_all}
use Rattle.node_rules.proofs.Paths.{Hearing, Scope, first_in, dealer_in, Path}
use Rattle.node_rules.proofs.Proposed.{waiting_value}
use Rattle.node_rules.proofs.Keeping.{sent_knows}
use Rattle.node_rules.proofs.Steps.{IsNoVote, Says, unsent}
use Rattle.node_rules.proofs.Asking.{joined_assoc, with_pending}
use Rattle.node_rules.proofs.Sitting.{forward_by, waits_by}
use Rattle.node_rules.proofs.Beginning.{Runs, hearing_of, begin}
use Rattle.node_rules.proofs.Hearing.{Sits}

-- ---- what it means

-- what an order means fits
pub ordered_fits : (setting : Setting) (before : List Command) (act : Command) → orders setting before act ≡ true → fits setting before act ≡ true
ordered_fits setting before (Deal hand deal) e = absurd (true≢false (sym e))
ordered_fits setting before (Act hand index action) e = absurd (true≢false (sym e))
ordered_fits setting before (Away hand index) e = e

-- ---- it is noted

-- the order, at a node with this front that has sent this since the world that it found
abbrev pub arrival_at : Scope → ℕ → List Message → Arrival
arrival_at x front sent = record { event = Ordered x.place.node front; sent = length (sent ++ x.world.ever) }

note : (x : Scope) (came : List Arrival) (heard : Hearing) (t : Turn) (act : Command) → orders x.place.setting (applied t.after) act ≡ true
    → (p : Path x came heard (applied t.after) t)
    → Says x (arrival_at x (front_of t.after) p.sent ∷ came) heard (applied t.after) (joined t (sending [] t.after)) (Said x.place.node act)
note x came heard t act meant p = record {
  path = record {
    sent = m ∷ p.sent;
    shown = p.shown;
    got = p.got;
    node = with_sent p.node (m ∷ []);
    chain = more _ p.node (record { sent = m ∷ []; shown = []; came = arrival_at x (front_of t.after) p.sent ∷ [] }) _ _ p.chain
        (ordered (applied t.after) act p.knows.up p.commands hole meant refl refl) refl;
    knows = sent_knows x.given (dealer_in x) x.place (applied t.after) t.after p.node m tt p.knows;
    commands = p.commands;
    hears = p.hears;
    talks = p.talks;
    runs = p.runs;
    begun = p.begun;
    unbegun = p.unbegun;
    starts = p.starts;
    has = p.has;
    carry = joined_carry x.place.nodes x.place.node t.frames [] p.sent (m ∷ []) p.carry (note_carry x.place.nodes x.place.node m tt refl);
    all = joined_all x.place.nodes x.place.node t.frames [] p.sent (m ∷ []) p.all (note_all x.place.nodes x.place.node m tt);
    pieces = λ ends. subst (λ (l : List Piece). AreShown x.place.node x.start x.log l p.shown) (sym (append-nil t.shown)) (p.pieces ends);
    logged = λ ends. ap (log_after x.log) (append-nil t.shown) ∙ p.logged ends;
    unshown = p.unshown;
    unvoted = λ q k b l c h. elim h [ inl e ↦ absurd (subst IsNoVote (sym e) tt) | inr old ↦ p.unvoted q k b l c old ];
    unstored = p.unstored;
    got_only = λ o h. elim (p.got_only o h) [ inl a ↦ inl a | inr b ↦ inr (inr b) ];
    got_all = p.got_all;
  };
  said = inl refl;
}
  where
    m : Message
    m = Said x.place.node act

    hole : (other : Command) → In (length (applied t.after), other) p.node.known → ⊥
    hole other known =
        let unknown = (x.given.hole t.after.learned.log p.knows.learner.log).1 in
        let clash : ◌≡◌ {A = Option Command} None (Some other) = sym unknown ∙ p.knows.learner.only (front_of t.after) other known in
        cc

-- ---- it waits, and goes on

-- the turn of an order that means this
abbrev pub played_for : Place → Command → Standing → Turn
played_for place act s = sending (forwarding place act s) (pending_act place act s)

order : (x : Scope) (came : List Arrival) (heard : Hearing) (t : Turn) (act : Command) → orders x.place.setting (applied t.after) act ≡ true
    → (p : Path x came heard (applied t.after) t)
    → Path x (arrival_at x (front_of t.after) p.sent ∷ came) heard (applied t.after) (joined t (played_for x.place act t.after))
unfolding with_pending unsent
order x came heard t act meant p =
    subst (Path x now heard (applied t.after)) (joined_assoc t (sending [] after) (sending (forwarding x.place act t.after) after))
    (forward_by x now heard (applied t.after) (joined t (sending [] after)) act (is_others x.place t.after.store.promise) refl kept noted.said)
  where
    now : List Arrival
    now = arrival_at x (front_of t.after) p.sent ∷ came

    after : Standing
    after = pending_act x.place act t.after

    noted : Says x now heard (applied t.after) (joined t (sending [] t.after)) (Said x.place.node act)
    noted = note x came heard t act meant p

    kept : Path x now heard (applied t.after) (joined t (sending [] after))
    kept = with_pending x now heard (applied t.after) (joined t (sending [] t.after)) (waiting x.place act t.after) noted.path
        (waits_by x now heard (joined t (sending [] t.after)) noted.path act (is_none t.after.pending) (fits x.place.setting (applied t.after) act) refl noted.said) (waiting_value x.place act t.after)

-- ---- the rule of an order

-- the events of one that was taken
abbrev pub order_events : Scope → Standing → List (List Event)
order_events x s = (Ordered x.place.node (front_of s) ∷ []) ∷ []

pub order_meant : (x : Scope) (s : Standing) (act : Command) → away_at x.place s ≡ Some act → orders x.place.setting (applied s) act ≡ true
order_meant x s act next = (x.given.orders x.place.setting (applied s) act x.is_place.match).1 next

pub order_sits : (x : Scope) (s : Standing) (act : Command) → Runs x s → x.messages ≡ [] → away_at x.place s ≡ Some act → Sits x (played_for x.place act s) (order_events x s)
order_sits x s act r quiet next =
    let p = begin x s r quiet in
    record {
      came = arrival_at x (front_of s) p.sent ∷ [];
      heard = hearing_of s (first_in x);
      path = order x [] (hearing_of s (first_in x)) (still s) act (order_meant x s act next) p;
      sessions = (r.of.runs r.up).sessions;
      happened = inl refl;
    }
