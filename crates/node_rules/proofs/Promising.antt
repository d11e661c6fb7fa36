-- Promises and refusals on the path of a call.
use Rattle.std.proofs.Common.{◌≡◌, ◌≢◌, ℕ, ◌<◌, Bool, true, false, true≢false, if◌then◌else◌, List, ◌∷◌, Ok, refl, sym, ap, subst, ◌∙◌}
use Rattle.paxos_wire.specs.declared.ballot.Ballot.{Ballot}
use Rattle.paxos_wire.specs.declared.message.Message.{Message as Wire}
use Rattle.paxos_wire.specs.declared.message.Message.TheVariants as frame
use Rattle.slot_log.specs.declared.command.Command.{Command}
use Rattle.protocol_model.specs.Sets.{In}
use Rattle.protocol_model.specs.Ballots.{Below}
use Rattle.protocol_model.specs.Messages.{Message, Prepare, Promise, Refuse}
use Rattle.protocol_model.specs.Stores.{Store, promised, Tells}
use Rattle.protocol_model.specs.Arrivals.{Arrival}
use Rattle.protocol_model.specs.Moves.{with_store, refuses, promises}
use Rattle.paxos_wire.specs.Order.{is_below}
use Rattle.node_rules.specs.Standings.{applied, front_of}
use Rattle.node_rules.specs.Proposing.{own_value}
use Rattle.node_rules.proofs.Proposed.{promised_proposed}
use Rattle.node_rules.specs.Sending.{one}
use Rattle.node_rules.specs.Turns.{Turn, joined, behind}
use Rattle.protocol_model.specs.Votes.{told_by}
use Rattle.node_rules.specs.Accepting.{refusing, promising, preparing}
use Rattle.node_rules.proofs.Carrying.{one_carry, one_all}
use Rattle.protocol_model.proofs.Votes.{tells}
use Rattle.protocol_model.proofs.Backing.{promise_within}
use Rattle.protocol_model.proofs.Ballots.{at_most_trans, at_most_of_below, not_below, below_if}
use Rattle.node_rules.proofs.Ordering.{sees_up}
use Rattle.node_rules.proofs.Keeping.{sent_pending, stored_pending, prepared_before, proposed_before}
use Rattle.node_rules.proofs.Paths.{Hearing, Scope, dealer_in, Path, Goes}
use Rattle.node_rules.proofs.Steps.{say, send_one}

-- ---- refusing

pub refuse : (x : Scope) (came : List Arrival) (heard : Hearing) (upto : List Command) (t : Turn) (from : ℕ) (ballot : Ballot) (slot : ℕ)
    → Path x came heard upto t → from < x.place.nodes → from ≢ x.place.node → Path x came heard upto (joined t (refusing from ballot slot t.after))
refuse x came heard upto t from ballot slot p below other =
    send_one x came heard upto t (Refuse x.place.node ballot slot t.after.store.promise) from (frame.Refuse ballot slot t.after.store.promise) p tt (λ q. tt)
    (refuses ballot slot t.after.store.promise p.knows.up refl refl) refl (λ all. all) refl below other

-- ---- promising

promise : (x : Scope) (came : List Arrival) (heard : Hearing) (upto : List Command) (t : Turn) (from : ℕ) (ballot : Ballot) (slot : ℕ) → x.ends ≡ true
    → (p : Path x came heard upto t) → In (Prepare ballot slot) p.node.has → Below t.after.store.promise ballot → from < x.place.nodes → from ≢ x.place.node
    → Path x came heard upto (joined t (promising from ballot slot t.after))
promise x came heard upto t from ballot slot ends p had above below other =
    (say x came heard upto t m (one from w) (promising from ballot slot t.after).after (promised p.node.store ballot) (promised p.node.store ballot) p
    refl refl refl refl (λ q. absurd (true≢false (sym ends ∙ q)))
    (promises ballot slot (told_by t.after.store slot) p.knows.up had up
    (subst (λ (st : Store). Tells st slot (told_by t.after.store slot)) (sym p.knows.store) (tells t.after.store slot)) refl refl)
    (record {
      up = p.knows.up;
      store = ap (λ (st : Store). promised st ballot) p.knows.store;
      within = promise_within p.node.store ballot p.knows.within up;
      proposer = record {
        is_campaign = tt;
        began = λ b f h. let old = p.knows.proposer.began b f (prepared_before p.node m b f tt h) in
            (at_most_trans b p.node.store.promise ballot old.0 (at_most_of_below p.node.store.promise ballot up), old.1, old.2);
        proposed = λ b s c h. at_most_trans b p.node.store.promise ballot (p.knows.proposer.proposed b s c (proposed_before p.node m b s c tt h)) (at_most_of_below p.node.store.promise ballot up);
        stands = λ b f st. absurd (not_below b p.node.store.promise (p.knows.proposer.began b f (prepared_before p.node m b f tt st.began)).0
            (subst (λ (c : Ballot). Below p.node.store.promise c) st.promised up));
      };
      learner = p.knows.learner;
      pending = sent_pending (dealer_in x) x.place.node (with_store p.node (promised p.node.store ballot)) m upto t.after.pending
          (stored_pending (dealer_in x) x.place.node p.node (promised p.node.store ballot) upto t.after.pending p.knows.pending);
      places = p.knows.places;
      shown = p.knows.shown;
      seen = sees_up p.node.has p.node.store.promise ballot t.after.seen (at_most_of_below p.node.store.promise ballot up) p.knows.seen;
      proposals = promised_proposed x.place.nodes x.place.node upto (front_of t.after) (own_value x.place t.after) p.node.store ballot p.node.has p.node.has p.node.sent (m ∷ p.node.sent) up
          p.knows.proposer.proposed (λ b s c h. proposed_before p.node m b s c tt h) p.knows.proposals;
    })
    (one_carry x.place.nodes i from w m refl (λ all. all) refl below other) (one_all x.place.nodes i from w m refl (λ all. all))).path
  where
    i : ℕ
    i = x.place.node

    w : Wire
    w = frame.Promise ballot slot (told_by t.after.store slot)

    m : Message
    m = Promise x.place.node ballot slot (told_by t.after.store slot)

    up : Below p.node.store.promise ballot
    up = subst (λ (st : Store). Below st.promise ballot) (sym p.knows.store) above

prepare_by : (x : Scope) (came : List Arrival) (heard : Hearing) (t : Turn) (from : ℕ) (ballot : Ballot) (slot : ℕ) (b : Bool) → x.ends ≡ true
    → is_below t.after.store.promise ballot ≡ b
    → (p : Path x came heard (applied t.after) t) → In (Prepare ballot slot) p.node.has → from < x.place.nodes → from ≢ x.place.node
    → Goes x came heard (behind t (Ok (if b then promising from ballot slot t.after else refusing from ballot slot t.after)))
prepare_by x came heard t from ballot slot true ends e p had below other =
    promise x came heard (applied t.after) t from ballot slot ends p had (below_if t.after.store.promise ballot e) below other
prepare_by x came heard t from ballot slot false ends e p had below other = refuse x came heard (applied t.after) t from ballot slot p below other

pub prepare : (x : Scope) (came : List Arrival) (heard : Hearing) (t : Turn) (from : ℕ) (ballot : Ballot) (slot : ℕ) → x.ends ≡ true
    → (p : Path x came heard (applied t.after) t) → In (Prepare ballot slot) p.node.has → from < x.place.nodes → from ≢ x.place.node
    → Goes x came heard (behind t (Ok (preparing from ballot slot t.after)))
prepare x came heard t from ballot slot ends p had below other =
    prepare_by x came heard t from ballot slot (is_below t.after.store.promise ballot) ends refl p had below other
