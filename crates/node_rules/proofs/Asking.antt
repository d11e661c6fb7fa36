-- Asking and telling on the path of a call, and rules that say nothing.
use Rattle.std.proofs.Common.{◌≡◌, ◌≢◌, ℕ, zero, suc, ◌<◌, ◌+◌, ◌-◌, Bool, true, false, if◌then◌else◌, List, Option, Some, None, Result, Ok, Err, refl, subst, append_assoc}
use Rattle.std.specs.Prelude.{min, nat_lt}
use Rattle.paxos_wire.specs.declared.message.Message.TheVariants as frame
use Rattle.slot_log.specs.Slots.{known_at}
use Rattle.slot_log.specs.declared.command.Command.{Command}
use Rattle.protocol_model.specs.Messages.{Chosen, Ask}
use Rattle.protocol_model.specs.Arrivals.{Arrival}
use Rattle.protocol_model.specs.Moves.{asks, tells}
use Rattle.proposer.specs.declared.campaign.Campaign.{Campaign}
use Rattle.node_rules.specs.Standings.{Standing, applied, front_of}
use Rattle.node_rules.specs.Sending.{one}
use Rattle.node_rules.specs.Turns.{Turn, Refusal, still, sending, joined, behind}
use Rattle.node_rules.specs.Learning.{comes_to_window, asking_on, told_of, telling_from, next_window, telling, asking_above}
use Rattle.node_rules.specs.Being.{IsProposer, IsPending}
use Rattle.node_rules.specs.Proposing.{own_value}
use Rattle.node_rules.proofs.Proposed.{pending_proposed}
use Rattle.node_rules.proofs.Paths.{Hearing, Scope, dealer_in, Path, Goes}
use Rattle.node_rules.proofs.Steps.{send_one, unsent, go_on}

-- turns in any grouping are one
pub joined_assoc : (t u v : Turn) → joined (joined t u) v ≡ joined t (joined u v)
joined_assoc t u v = λ i. record {
  after = v.after;
  frames = append_assoc t.frames u.frames v.frames i;
  shown = append_assoc t.shown u.shown v.shown i;
  faults = append_assoc t.faults u.faults v.faults i;
}

pub behind_still : (s : Standing) (r : Result Turn Refusal) → behind (still s) r ≡ r
behind_still s (Ok u) = refl
behind_still s (Err e) = refl

-- ---- asking

ask : (x : Scope) (came : List Arrival) (heard : Hearing) (upto : List Command) (t : Turn) (from slot : ℕ)
    → Path x came heard upto t → from < x.place.nodes → from ≢ x.place.node → Path x came heard upto (joined t (sending (one from (frame.Ask slot)) t.after))
ask x came heard upto t from slot p below other =
    send_one x came heard upto t (Ask x.place.node slot) from (frame.Ask slot) p tt (λ q. tt) (asks slot p.knows.up refl refl) refl (λ all. all) refl below other

ask_if : (x : Scope) (came : List Arrival) (heard : Hearing) (t : Turn) (from slot : ℕ) (b : Bool)
    → Path x came heard (applied t.after) t → from < x.place.nodes → from ≢ x.place.node
    → Goes x came heard (behind t (Ok (if b then sending (one from (frame.Ask slot)) t.after else still t.after)))
ask_if x came heard t from slot true p below other = ask x came heard (applied t.after) t from slot p below other
ask_if x came heard t from slot false p below other = go_on x came heard (applied t.after) t p

pub ask_on : (x : Scope) (came : List Arrival) (heard : Hearing) (t : Turn) (from old : ℕ)
    → Path x came heard (applied t.after) t → from < x.place.nodes → from ≢ x.place.node → Goes x came heard (behind t (Ok (asking_on from old t.after)))
ask_on x came heard t from old p below other = ask_if x came heard t from (front_of t.after) (comes_to_window old (front_of t.after)) p below other

pub ask_above : (x : Scope) (came : List Arrival) (heard : Hearing) (t : Turn) (from slot : ℕ)
    → Path x came heard (applied t.after) t → from < x.place.nodes → from ≢ x.place.node → Goes x came heard (behind t (Ok (asking_above from slot t.after)))
ask_above x came heard t from slot p below other = ask_if x came heard t from (front_of t.after) (nat_lt (front_of t.after) slot) p below other

-- ---- telling

tell_by : (x : Scope) (came : List Arrival) (heard : Hearing) (upto : List Command) (t : Turn) (to slot : ℕ) (known : Option Command)
    → known_at t.after.learned.log slot ≡ known → Path x came heard upto t → to < x.place.nodes → to ≢ x.place.node
    → Path x came heard upto (joined t (sending (told_of to slot known) t.after))
tell_by x came heard upto t to slot None e p below other = go_on x came heard upto t p
tell_by x came heard upto t to slot (Some command) e p below other =
    send_one x came heard upto t (Chosen x.place.node slot command) to (frame.Chosen slot command) p tt (λ q. tt)
    (tells slot command p.knows.up (p.knows.learner.knows slot command e) refl refl) refl (λ all. all) refl below other

tell_all : (x : Scope) (came : List Arrival) (heard : Hearing) (upto : List Command) (t : Turn) (to slot k : ℕ)
    → Path x came heard upto t → to < x.place.nodes → to ≢ x.place.node → Path x came heard upto (joined t (sending (telling_from t.after.learned.log to slot k) t.after))
unfolding telling_from
tell_all x came heard upto t to slot zero p below other = go_on x came heard upto t p
tell_all x came heard upto t to slot (suc k) p below other =
    subst (Path x came heard upto)
    (joined_assoc t (sending (told_of to slot (known_at t.after.learned.log slot)) t.after) (sending (telling_from t.after.learned.log to (slot + 1) k) t.after))
    (tell_all x came heard upto (joined t (sending (told_of to slot (known_at t.after.learned.log slot)) t.after)) to (slot + 1) k
    (tell_by x came heard upto t to slot (known_at t.after.learned.log slot) refl p below other) below other)

pub tell_known : (x : Scope) (came : List Arrival) (heard : Hearing) (t : Turn) (from slot : ℕ)
    → Path x came heard (applied t.after) t → from < x.place.nodes → from ≢ x.place.node → Goes x came heard (behind t (Ok (telling from slot t.after)))
tell_known x came heard t from slot p below other = tell_all x came heard (applied t.after) t from slot (min (front_of t.after) (next_window slot) - slot) p below other

-- ---- the campaign changes, and nothing else

pub with_campaign : (x : Scope) (came : List Arrival) (heard : Hearing) (upto : List Command) (t : Turn) (c : Option Campaign) → (p : Path x came heard upto t)
    → IsProposer x.place.nodes x.place.node p.node (front_of t.after) c
    → Path x came heard upto (record t { after = record t.after { campaign = c } })
with_campaign x came heard upto t c p proposer =
    unsent x came heard upto upto t (record t { after = record t.after { campaign = c } }) p p.node.known p.shown p.node.shown refl refl p.unbegun refl p.chain
    (record {
      up = p.knows.up;
      store = p.knows.store;
      within = p.knows.within;
      proposer = proposer;
      learner = p.knows.learner;
      pending = p.knows.pending;
      places = p.knows.places;
      shown = p.knows.shown;
      seen = p.knows.seen;
      proposals = p.knows.proposals;
    }) p.commands p.pieces p.logged p.unshown

-- the act that waits changes, and nothing else
unfoldable pub with_pending : (x : Scope) (came : List Arrival) (heard : Hearing) (upto : List Command) (t : Turn) (act : Option Command) → (p : Path x came heard upto t)
    → IsPending (dealer_in x) x.place.node p.node upto act → ((c : Command) → own_value x.place t.after ≡ Some c → own_value x.place (record t.after { pending = act }) ≡ Some c)
    → Path x came heard upto (record t { after = record t.after { pending = act } })
with_pending x came heard upto t act p pending same =
    unsent x came heard upto upto t (record t { after = record t.after { pending = act } }) p p.node.known p.shown p.node.shown refl refl p.unbegun refl p.chain
    (record {
      up = p.knows.up;
      store = p.knows.store;
      within = p.knows.within;
      proposer = p.knows.proposer;
      learner = p.knows.learner;
      pending = pending;
      places = p.knows.places;
      shown = p.knows.shown;
      seen = p.knows.seen;
      proposals = pending_proposed x.place.nodes x.place.node upto (front_of t.after) (own_value x.place t.after) (own_value x.place (record t.after { pending = act })) p.node.store p.node.has p.node.sent
          same p.knows.proposals;
    }) p.commands p.pieces p.logged p.unshown
