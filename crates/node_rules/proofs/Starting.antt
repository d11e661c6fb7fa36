-- Starts and stops.
use Rattle.std.proofs.Common.{◌≡◌, ℕ, zero, suc, ◌≤◌, ◌⊎◌, inl, inr, Bool, true, false, true≢false, if◌then◌else◌, List, [], ◌∷◌, ◌++◌, Option, Some, None, refl, sym, ap, subst, ◌∙◌, arith, length, replicate}
use Rattle.std.specs.Prelude.{nat_lt, slice_get, reverse}
use Rattle.std.proofs.lemmas.List.{length-replicate}
use Rattle.paxos_wire.specs.declared.limits.TheConstants.{NODES}
use Rattle.paxos_wire.specs.declared.message.Message.TheVariants as frame
use Rattle.slot_log.specs.Slots.{find, known_at}
use Rattle.slot_log.specs.declared.command.Command.{Command}
use Rattle.protocol_model.specs.Sets.{In}
use Rattle.protocol_model.specs.Messages.{Message, Ask}
use Rattle.protocol_model.specs.Dealers.{Log as ToLog}
use Rattle.protocol_model.specs.Stores.{Store, unchanged}
use Rattle.protocol_model.specs.Nodes.{Node}
use Rattle.protocol_model.specs.Arrivals.{Arrival, Event, Started}
use Rattle.protocol_model.specs.Moves.{Shown, taking as comes, more, none, starts, stops, shows, asks}
use Rattle.seat_session.specs.Session.{Standing as Talk}
use Rattle.dealer_kind.specs.Kind.{log_of}
use Rattle.learner.specs.Learning.{new_learned}
use Rattle.node_rules.specs.Standings.{Place, Standing, applied, started, stopped, no_sessions}
use Rattle.node_rules.specs.Sending.{to_others}
use Rattle.node_rules.specs.Showing.{header}
use Rattle.node_rules.specs.Turns.{Turn, sending, joined}
use Rattle.node_rules.specs.Rules.{starting}
use Rattle.node_rules.specs.Seats.{session_at}
use Rattle.node_rules.specs.Being.{IsLearner, IsSession, AreSessions, IsOf}
use Rattle.node_rules.specs.Called.{Called, Taken}
use Rattle.node_rules.specs.Given.{Given}
use Rattle.node_rules.proofs.Carrying.{nothing_carried, nothing_lost, others_carry, others_all}
use Rattle.node_rules.proofs.Telling.{nothing_shown, shown_more}
use Rattle.node_rules.proofs.Paths.{Hearing, Scope, dealer_in, first_in, Path, three_in}
use Rattle.node_rules.proofs.Steps.{send, go_on}

-- ---- nothing is known at a start

nothing_by : (b : Bool) (slot : ℕ) (command : Command) → (if b then slice_get (reverse (let l : List Command = [] in l)) slot else find [] slot) ≡ Some command → ⊥
nothing_by true slot command e = cc
nothing_by false slot command e = cc

nothing_known : (slot : ℕ) (command : Command) → known_at (record { below = []; beyond = [] }) slot ≡ Some command → ⊥
nothing_known slot command e = nothing_by (nat_lt slot 0) slot command e

new_learner : (g : Given) (n : ℕ) (has : List Message) → n ≤ NODES → IsLearner n has [] (new_learned n)
new_learner g n has few = record {
  nodes = refl;
  log = record { below = omega arith; beyond = tt };
  knows = λ slot command e. absurd (nothing_known slot command e);
  only = λ slot command h. absurd h;
  in_time = [];
  came = λ m h. absurd h;
  counts = g.new_counts [] n;
  counts_all = g.new_counts_all n few;
  knows_chosen = g.new_knows n;
}

pub none_seated : (k seat : ℕ) → session_at (replicate k (let none : Option Talk = None in none)) seat ≡ None
none_seated zero seat = refl
none_seated (suc k) zero = refl
none_seated (suc k) (suc seat) = none_seated k seat

pub nobody : (place : Place) → AreSessions place.setting.game (no_sessions place) (λ seat. None)
nobody place seat = subst (λ (o : Option Talk). IsSession place.setting.game seat o None) (sym (none_seated place.setting.game.players seat)) tt

-- ---- a start

-- the log's header is shown first
begun : (x : Scope) (s : Standing) (found : Store) → IsOf x.own x.place s (first_in x) → s.up ≡ false → (found ≡ s.store) ⊎ (found ≡ s.begun)
    → x.ends ≡ true → x.start ≡ suc (first_in x).starts → x.had ≡ [] → x.log ≡ [] → x.messages ≡ []
    → Path x ((record { event = Started x.place.node; sent = length x.world.ever }) ∷ []) (record { bytes = λ seat. None; talks = no_sessions x.place }) []
    (record { after = started x.place found; frames = []; shown = header x.place.setting ∷ []; faults = [] })
begun x s found of down left ends start had log quiet = record {
  sent = [];
  shown = text ∷ [];
  got = [];
  node = record woken { shown = 0 };
  chain = more _ woken (record { sent = []; shown = text ∷ []; came = [] }) _ _
      (more _ (first_in x) (comes x.world.ever (Started x.place.node)) _ _ (none _ _ refl refl)
      (starts found (of.up ∙ down) found_left refl refl) refl)
      (shows [] ToLog (log_of x.place.setting []) refl tt (omega arith) refl refl refl) refl;
  knows = record {
    up = refl;
    store = refl;
    within = x.given.within (dealer_in x) x.place.nodes x.place.node x.world found x.reached (inr (of.up ∙ down, found_left));
    proposer = record {
      is_campaign = tt;
      began = λ b f h. absurd h;
      proposed = λ b k c h. absurd h;
      stands = λ b f st near less. absurd st.began;
    };
    learner = new_learner x.given x.place.nodes [] (x.given.most_nodes x.place.nodes x.is_place.few);
    pending = tt;
    places = length-replicate x.place.setting.game.players None;
    shown = omega arith;
    seen = record { all = λ b h. absurd h.1; some = inl refl };
    proposals = record { ballots = λ b k c h. absurd h; voted = λ k c h. absurd h; told = λ k c h. absurd h; by_rule = λ c h. absurd h };
  };
  commands = tt;
  hears = refl;
  talks = refl;
  runs = refl;
  begun = refl;
  unbegun = refl;
  starts = sym start;
  has = sym had;
  carry = nothing_carried x.place.nodes x.place.node;
  all = nothing_lost x.place.nodes x.place.node;
  pieces = λ y. shown_more x.place.node x.start x.log [] [] (header x.place.setting) text (nothing_shown x.place.node x.start x.log)
      (ap (λ (l : List ℕ). record { reader = ToLog; text = l }) (logs ∙ ap (λ (l : List ℕ). l ++ (header x.place.setting).text) (sym log))) refl (sym start);
  logged = λ y. ap (λ (l : List ℕ). l ++ (header x.place.setting).text) log ∙ sym logs;
  unshown = λ q. absurd (true≢false (sym ends ∙ q));
  unvoted = λ q k b l c h. absurd h;
  unstored = λ q. absurd (true≢false (sym ends ∙ q));
  got_only = λ m h. absurd h;
  got_all = λ m h. subst (λ (l : List Message). In m l) quiet h;
}
  where
    found_left : (found ≡ (first_in x).store) ⊎ (found ≡ (first_in x).begun)
    found_left = elim left [ inl e ↦ inl (e ∙ sym of.store) | inr e ↦ inr (e ∙ sym of.begun) ]

    woken : Node
    woken = record {
      store = found;
      begun = found;
      up = true;
      starts = suc (first_in x).starts;
      has = [];
      sent = [];
      known = [];
      shown = 0;
      heard = λ seat. None;
    }

    text : Shown
    text = record { node = x.place.node; start = suc (first_in x).starts; reader = ToLog; count = 0; text = log_of x.place.setting [] }

    logs : log_of x.place.setting [] ≡ (header x.place.setting).text
    logs = x.given.header x.place.setting.game x.place.setting.title x.place.setting.names x.is_place.match.least

asks_by : (x : Scope) (came : List Arrival) (heard : Hearing) (upto : List Command) (t : Turn) (b : Bool) → Path x came heard upto t
    → Path x came heard upto (joined t (sending (if b then to_others x.place (frame.Ask 0) else []) t.after))
asks_by x came heard upto t true p =
    send x came heard upto t (Ask x.place.node 0) (to_others x.place (frame.Ask 0)) p tt (λ q. tt) (asks 0 p.knows.up refl refl)
    (others_carry x.place.nodes x.place.node (frame.Ask 0) (Ask x.place.node 0) (three_in x) refl tt refl) (others_all x.place.nodes x.place.node (frame.Ask 0) (Ask x.place.node 0) (three_in x) refl)
asks_by x came heard upto t false p = go_on x came heard upto t p

-- a node that was down starts
pub start_goes : (x : Scope) (s : Standing) (found : Store) → IsOf x.own x.place s (first_in x) → s.up ≡ false → (found ≡ s.store) ⊎ (found ≡ s.begun)
    → x.ends ≡ true → x.start ≡ suc (first_in x).starts → x.had ≡ [] → x.log ≡ [] → x.messages ≡ []
    → Path x ((record { event = Started x.place.node; sent = length x.world.ever }) ∷ []) (record { bytes = λ seat. None; talks = no_sessions x.place }) [] (starting x.place found)
start_goes x s found of down left ends start had log quiet =
    asks_by x ((record { event = Started x.place.node; sent = length x.world.ever }) ∷ []) (record { bytes = λ seat. None; talks = no_sessions x.place }) []
    (record { after = started x.place found; frames = []; shown = header x.place.setting ∷ []; faults = [] }) (nat_lt 0 found.promise.round)
    (begun x s found of down left ends start had log quiet)

-- ---- a stop, and calls that change nothing

-- nothing was done
unfoldable pub nothing_taken : (own : ℕ → Command → Bool) (place : Place) (ever : List Message) (first : Node) (log : List ℕ) (came : List Message) (events : List (List Event)) (s : Standing)
    → IsOf own place s first → (s.up ≡ true → log ≡ log_of place.setting (applied s)) → In [] events
    → Called own place ever first log came events [] [] s
nothing_taken own place ever first log came events s of logged happened = record {
  output = record { sent = []; shown = []; came = [] };
  last = first;
  chain = none _ _ refl refl;
  of = of;
  carry = nothing_carried place.nodes place.node;
  shown = nothing_shown place.node first.starts log;
  logged = logged;
  got = λ m h. inl h;
  happened = happened;
}

pub nothing_all : (own : ℕ → Command → Bool) (place : Place) (ever : List Message) (first : Node) (log : List ℕ) (events : List (List Event)) (s : Standing)
    → IsOf own place s first → (s.up ≡ true → log ≡ log_of place.setting (applied s)) → In [] events
    → Taken own place ever first log [] events [] [] s
unfolding nothing_taken
nothing_all own place ever first log events s of logged happened = record {
  called = nothing_taken own place ever first log [] events s of logged happened;
  all_carried = nothing_lost place.nodes place.node;
  all_got = λ m h. absurd h;
}

-- a node that ran goes down
pub stop_taken : (own : ℕ → Command → Bool) (place : Place) (ever : List Message) (first : Node) (log : List ℕ) (events : List (List Event)) (s : Standing)
    → IsOf own place s first → s.up ≡ true → In [] events
    → Taken own place ever first log [] events [] [] (stopped place s.store s.store)
stop_taken own place ever first log events s of up happened = record {
  called = record {
    output = record { sent = []; shown = []; came = [] };
    last = record first { begun = s.store; up = false };
    chain = more _ first (record { sent = []; shown = []; came = [] }) _ _ (none _ _ refl refl) (stops s.store (of.up ∙ up) (unchanged _ (sym of.store)) refl refl) refl;
    of = record { up = refl; store = of.store; begun = refl; runs = λ e. absurd (true≢false (sym e)) };
    carry = nothing_carried place.nodes place.node;
    shown = nothing_shown place.node first.starts log;
    logged = λ e. absurd (true≢false (sym e));
    got = λ m h. inl h;
    happened = happened;
  };
  all_carried = nothing_lost place.nodes place.node;
  all_got = λ m h. absurd h;
}
