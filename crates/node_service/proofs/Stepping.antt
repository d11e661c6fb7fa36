-- What a call of the node makes of a process.
use Rattle.std.proofs.Common.{◌≡◌, ℕ, Bool, true, false, List, [], ◌∷◌, ◌++◌, map, inl, refl, sym, ◌∙◌, ap, subst}
use Rattle.std.specs.Prelude.{Option, Some, None, IfSome, IsNone, Result, Ok, Err, IsErr}
use Rattle.std.proofs.lemmas.List.{append-nil}
use Rattle.promise_store.specs.declared.disk.Disk.{Ghosts}
use Rattle.slot_log.specs.Beginnings.{IsBeginning}
use Rattle.dealer_node.specs.Nodes.{Node}
use Rattle.dealer_node.specs.declared.fault.NodeFault.{NodeFault}
use Rattle.dealer_node.specs.declared.fault.NodeFault.TheVariants.{OutOfMemory}
use Rattle.dealer_node.specs.Outs.{Told, nothing_told}
use Rattle.dealer_node.specs.Texts.{Marked}
use Rattle.dealer_node.specs.Seeing.{runs, front_in, begun_of}
use Rattle.dealer_world.specs.declared.event.Event.{Event}
use Rattle.dealer_world.specs.declared.event.Event.TheVariants as event
use Rattle.dealer_world.specs.Stepping.{arrived_by_event, begins_by_event}
use Rattle.dealer_world.specs.Recordings.{frame_by, text_by}
use Rattle.node_wires.specs.Passages.{Passage, logged_in, seats_in}
use Rattle.stations.specs.Deeds.{Deed}
use Rattle.stations.specs.Moments.{moment_now}
use Rattle.stations.specs.Stations.{Look, Acts, deed_by, nothing, call}
use Rattle.node_service.specs.Parts.{IsPartOf}
use Rattle.node_service.specs.Showing.{added, LogGains}
use Rattle.node_service.specs.Handed.{frame_handed, mark_handed}
use Rattle.node_service.specs.Arriving.{incoming_in, seats_of, taken_for}
use Rattle.node_service.specs.Calling.{MayBeGiven}
use Rattle.node_service.specs.Logging.{StartedOnce}
use Rattle.node_service.specs.Served.{Served}
use Rattle.node_service.specs.Sittings.{seat_in, Admits, IsGivenBy, Settles, Refuses}
use Rattle.node_service.specs.Seated.{seat_left, IsFree}
use Rattle.node_service.specs.Fitting.{FitsFor}
use Rattle.node_service.specs.Handing.{HandsOn}
use Rattle.node_service.specs.Going.{Does}
use Rattle.node_service.proofs.Asking.{none_gives}
use Rattle.node_service.specs.Bots.{KeepBots}
use Rattle.node_service.proofs.Bots.{LooksOn, as_before, keep_on, bots_then}
use Rattle.node_service.proofs.Welcoming.{hosts_none}
use Rattle.node_service.proofs.Fitting.{fits_given, fits_refused}
use Rattle.node_service.proofs.Seated.{given_somebody, refused_somebody}

-- what an event brings to a node is what it was made of
pub brought_is_taken : (up : Bool) (front : ℕ) (e : Event) → IsPartOf (incoming_in (arrived_by_event up front e)) (taken_for e ++ [])
brought_is_taken false front e = tt
brought_is_taken true front (event.Frame from to bytes) = inl (refl, tt)
brought_is_taken true front (event.Line node seat bytes) = inl (refl, tt)
brought_is_taken true front (event.Tick node) = tt
brought_is_taken true front (event.Away node) = tt
brought_is_taken true front (event.Connect node seat) = inl (refl, tt)
brought_is_taken true front (event.Drop node seat) = tt
brought_is_taken true front (event.Stop node pick) = tt
brought_is_taken true front (event.Start node) = tt

-- by an event that may be given to a node that was started no start begins
pub begins_none : (up : Bool) (e : Event) (answer : Result (Unit {0}) NodeFault) → MayBeGiven true e → begins_by_event up e answer ≡ false
begins_none up (event.Frame from to bytes) (Ok done) may = refl
begins_none up (event.Line node seat bytes) (Ok done) may = refl
begins_none up (event.Tick node) (Ok done) may = refl
begins_none up (event.Away node) (Ok done) may = refl
begins_none up (event.Connect node seat) (Ok done) may = refl
begins_none up (event.Drop node seat) (Ok done) may = refl
begins_none up (event.Stop node pick) (Ok done) may = absurd may
begins_none up (event.Start node) (Ok done) may = absurd (cc)
begins_none up e (Err fault) may = refl

pub once_more : (deeds : List Deed) (deed : Deed) → deed.made.began ≡ false → StartedOnce deeds → StartedOnce (deed ∷ deeds)
once_more deeds deed none once = record {
  later = deed ∷ once.later;
  first = once.first;
  deeds_are = ap (λ (m : List Deed). deed ∷ m) once.deeds_are;
  begins = once.begins;
  no_other = (none, once.no_other);
}

pub same_frames : (node : ℕ) (frames : List (Marked ℕ)) → map frame_handed (map (frame_by node) frames) ≡ map mark_handed frames
same_frames node [] = refl
same_frames node (frame ∷ frames) = ap (λ (m : List Passage). mark_handed frame ∷ m) (same_frames node frames)

-- the node did more, and then its bots were told what there is to tell
then_handed : {N : Type 0} (old new : Served N) → LooksOn old.look new.look → KeepBots new.look new.look old.bots new.bots → KeepBots old.look new.look old.bots new.bots
then_handed old new on hands = keep_on on (as_before new.look new.look refl) (bots_then old.look new.look on old.bots) hands

module _ {D : Type 0} {g : Ghosts D} where
  -- an event was given to the node, and what it made of it was handed on
  stepped : (e : Event) (told : Told) (answer : Result (Unit {0}) NodeFault) (old new : Served (Node D)) → (answer ≡ Err OutOfMemory → ⊥) → Acts g e told answer old.look new.look
      → HandsOn g 1 told old new
      → Admits (runs old.look.node) e old.sittings → Settles e old.sittings new.sittings → MayBeGiven old.started e → (old.started ≡ true → new.started ≡ true) → new.terms ≡ old.terms → IsFree (seat_left e) new.bots → Does g (taken_for e) old new
  stepped e told answer old new was_given acts hands admitted settled may started terms left =
      elim acts.gains as (λ _. Does g (taken_for e) old new) [
        | nothing refused same ↦ absurd (was_given refused)
        | call taken is ↦ (
          record {
            config = acts.config;
            number = acts.number;
            begun = acts.given.stays.begun;
            terms = terms;
            since = deed_by (runs old.look.node) (front_in old.look.node) e told answer ∷ [];
            deeds = is;
            moments = (moment_now new.look.node new.look.deeds ∷ [], acts.moments);
            calls = hands.calls;
            log = hands.log;
            sent = hands.sent ∙ ap (λ (m : List Passage). old.sent ++ m) (sym (same_frames _ told.frames));
            bots = then_handed old new (moment_now new.look.node new.look.deeds ∷ [], acts.moments) hands.bots;
            gained = [];
            seats = hands.seats ∙ sym (append-nil (seats_in old.passed));
            heard = hands.heard ∙ sym (append-nil old.heard);
            were = tt;
            hosts = hosts_none old.guests new.guests hands.guests;
            let_in = tt;
            came = brought_is_taken (runs old.look.node) (front_in old.look.node) e;
            given = λ but.
                subst (λ (m : List Passage). FitsFor new.look.deeds new.sittings m) (sym (hands.seats ∙ but.1.0))
                (subst (λ (m : List Deed). FitsFor m new.sittings (but.0 ++ seats_of (taken_for e))) (sym is)
                (fits_given (runs old.look.node) (front_in old.look.node) e told answer old.look.deeds old.sittings new.sittings but.0 admitted settled but.1.1));
            somebody = λ but. given_somebody e old.bots new.bots old.sittings new.sittings hands.sat left settled but;
            hears = hands.hears;
            asked = none_gives new.look old.askers new.askers hands.asked;
            waits = hands.waits;
            carried = hands.carried;
            once = λ was. (
              started was.0,
              subst StartedOnce (sym is)
                  (once_more old.look.deeds (deed_by (runs old.look.node) (front_in old.look.node) e told answer)
                  (begins_none (runs old.look.node) e answer (subst (λ (b : Bool). MayBeGiven b e) was.0 may)) was.1),
            );
          },
          refl,
        )
      ]

  -- none was given, and nothing made
  pub unstepped : (e : Event) (told : Told) (old new : Served (Node D)) → new.look.config ≡ old.look.config → new.look.number ≡ old.look.number
      → begun_of g new.look.node ≡ begun_of g old.look.node → new.look.deeds ≡ old.look.deeds → IsBeginning old.look.moments new.look.moments → told ≡ nothing_told
      → HandsOn g 0 told old new
      → Refuses e old.sittings new.sittings → IsFree (seat_in e) new.bots → (old.started ≡ true → new.started ≡ true) → new.terms ≡ old.terms → Does g (taken_for e) old new
  unstepped e told old new config number begun deeds moments unmade hands refused free started terms = (
    record {
      config = config;
      number = number;
      begun = begun;
      terms = terms;
      since = [];
      deeds = deeds;
      calls = hands.calls;
      log = subst (λ (t : Told). LogGains old.log_failed new.log_failed (added (map text_by t.shown)) (logged_in old.passed) (logged_in new.passed)) unmade hands.log;
      sent = subst (λ (t : Told). new.sent ≡ old.sent ++ map mark_handed t.frames) unmade hands.sent;
      moments = moments;
      bots = then_handed old new moments hands.bots;
      gained = [];
      seats = hands.seats ∙ sym (append-nil (seats_in old.passed));
      heard = hands.heard ∙ sym (append-nil old.heard);
      were = tt;
      hosts = hosts_none old.guests new.guests hands.guests;
      let_in = tt;
      came = tt;
      given = λ but.
          subst (λ (m : List Passage). FitsFor new.look.deeds new.sittings m) (sym (hands.seats ∙ but.1.0))
          (subst (λ (m : List Deed). FitsFor m new.sittings (but.0 ++ seats_of (taken_for e))) (sym deeds)
          (fits_refused e old.look.deeds old.sittings new.sittings but.0 refused but.1.1));
      somebody = λ but. refused_somebody e old.bots new.bots old.sittings new.sittings hands.sat free refused but;
      hears = hands.hears;
      asked = none_gives new.look old.askers new.askers hands.asked;
      waits = hands.waits;
      carried = hands.carried;
      once = λ was. (started was.0, subst StartedOnce (sym deeds) was.1);
    },
    refl,
  )

  -- by whether it was
  pub stepped_if_given : (e : Event) (told : Told) (result : Option (Result (Unit {0}) NodeFault)) (old new : Served (Node D)) → IsGivenBy true result
      → IfSome result (λ answer. Acts g e told answer old.look new.look)
      → HandsOn g 1 told old new
      → Admits (runs old.look.node) e old.sittings → Settles e old.sittings new.sittings → MayBeGiven old.started e → (old.started ≡ true → new.started ≡ true) → new.terms ≡ old.terms → IsFree (seat_left e) new.bots → Does g (taken_for e) old new
  stepped_if_given e told None old new given acts hands admitted settled may started terms left = absurd given
  stepped_if_given e told (Some answer) old new given acts hands admitted settled may started terms left =
      stepped e told answer old new given acts hands admitted settled may started terms left

  pub unstepped_if_not : (e : Event) (told : Told) (result : Option (Result (Unit {0}) NodeFault)) (old new : Served (Node D)) → IsGivenBy false result
      → IfSome result (λ answer. Acts g e told answer old.look new.look) → (IsNone result → new.look ≡ old.look) → (IsNone result → told ≡ nothing_told)
      → HandsOn g 0 told old new
      → Refuses e old.sittings new.sittings → IsFree (seat_in e) new.bots → (old.started ≡ true → new.started ≡ true) → new.terms ≡ old.terms → Does g (taken_for e) old new
  unstepped_if_not e told None old new given acts same unmade hands refused free started terms =
      let look : new.look ≡ old.look = same refl in
      unstepped e told old new (ap (λ (l : Look (Node D)). l.config) look) (ap (λ (l : Look (Node D)). l.number) look) (ap (λ (l : Look (Node D)). begun_of g l.node) look)
      (ap (λ (l : Look (Node D)). l.deeds) look) (as_before old.look new.look look) (unmade refl) hands refused free started terms
  unstepped_if_not e told (Some answer) old new given acts same unmade hands refused free started terms =
      elim acts.gains as (λ _. Does g (taken_for e) old new) [
        | nothing no_memory is ↦
            unstepped e told old new acts.config acts.number acts.given.stays.begun is (moment_now new.look.node new.look.deeds ∷ [], acts.moments) (acts.given.stays.unmade (subst (λ (a : Result (Unit {0}) NodeFault). IsErr a) (sym no_memory) refl)) hands refused free started terms
        | call taken is ↦ absurd (taken given)
      ]
