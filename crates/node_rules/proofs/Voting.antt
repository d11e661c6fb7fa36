-- Votes for other nodes' proposals on the path of a call.
use Rattle.std.proofs.Common.{◌≡◌, ◌≢◌, ℕ, ◌<◌, ◌⊎◌, inl, inr, Bool, true, false, true≢false, if◌then◌else◌, List, ◌∷◌, ◌++◌, Option, Some, None, Ok, refl, sym, ap, subst, ◌∙◌}
use Rattle.std.proofs.lemmas.Option.{same_Some}
use Rattle.paxos_wire.specs.declared.ballot.Ballot.{Ballot}
use Rattle.paxos_wire.specs.declared.message.Message.{Message as Wire}
use Rattle.paxos_wire.specs.declared.message.Message.TheVariants as frame
use Rattle.slot_log.specs.declared.command.Command.{Command}
use Rattle.protocol_model.specs.Sets.{In}
use Rattle.protocol_model.specs.Ballots.{AtMost}
use Rattle.protocol_model.specs.Messages.{Vote, Message, Prepare, Accept, sender_of}
use Rattle.protocol_model.specs.Frames.{proposals, answers}
use Rattle.protocol_model.specs.CommandRuns.{answered}
use Rattle.protocol_model.specs.Votes.{command_run_at, taking_command_run}
use Rattle.protocol_model.specs.Stores.{Store, voted}
use Rattle.protocol_model.specs.Nodes.{Node}
use Rattle.protocol_model.specs.Arrivals.{Arrival}
use Rattle.protocol_model.specs.Moves.{with_store}
use Rattle.proposer.specs.declared.campaign.Campaign.{Campaign}
use Rattle.paxos_wire.specs.Order.{is_below}
use Rattle.node_rules.specs.Standings.{Place, Standing, applied, front_of, with_stored, idle}
use Rattle.node_rules.specs.Sending.{to_others}
use Rattle.node_rules.specs.Turns.{Turn, sending, joined, behind}
use Rattle.node_rules.specs.Accepting.{refusing, voting, accepting}
use Rattle.node_rules.specs.Learning.{counting_votes}
use Rattle.node_rules.specs.Proposing.{own_value}
use Rattle.node_rules.specs.Seen.{ballots_in}
use Rattle.node_rules.specs.Being.{IsProposer}
use Rattle.protocol_model.proofs.Sets.{Within, in_first, in_split, put_cases}
use Rattle.protocol_model.proofs.Ballots.{at_most_trans, at_most_self, at_most_if_not}
use Rattle.node_rules.proofs.Carrying.{IsNoProposal}
use Rattle.node_rules.proofs.Ordering.{sees_up}
use Rattle.node_rules.proofs.Keeping.{IsNoAnswer, pending_all, stored_pending}
use Rattle.node_rules.proofs.Proposed.{none_proposed}
use Rattle.node_rules.proofs.Paths.{Hearing, Scope, dealer_in, Path, Goes, regroup, three_in}
use Rattle.node_rules.proofs.Together.{with_said_all, say_all, LeadsAll, AreLow, get_own_all, others_carry_all, others_lose_nothing, answer_is, in_answered, in_answers, answered_is}
use Rattle.node_rules.proofs.Promising.{refuse}
use Rattle.node_rules.proofs.Learning.{count}

-- a slot has the new vote, or what it had
pub voted_is : (store : Store) (slot : ℕ) (vote found : Vote) (k : ℕ) → (voted store slot vote).votes k ≡ Some found
    → ((k ≡ slot) × (found ≡ vote)) ⊎ (store.votes k ≡ Some found)
voted_is store slot vote found k h = elim (put_cases store.votes slot (Some vote) k) [
  | inl new ↦ inl (new.0, same_Some found vote (sym h ∙ new.1))
  | inr same ↦ inr (sym same ∙ h)
]

-- a proposer that promised another node's ballot has none to stand for
gone : (n i : ℕ) (node new : Node) (front : ℕ) (ballot : Ballot) → ballot.node ≢ i → AtMost node.store.promise ballot → new.store.promise ≡ ballot
    → ((b : Ballot) (f : ℕ) → In (Prepare b f) new.sent → In (Prepare b f) node.sent)
    → ((b : Ballot) (s : ℕ) (c : Command) → In (Accept b s c) new.sent → In (Accept b s c) node.sent) → (c : Option Campaign)
    → IsProposer n i node front c → IsProposer n i new front None
gone n i node new front ballot other up same before made c p = record {
  is_campaign = tt;
  began = λ b f h. let old = p.began b f (before b f h) in
      (subst (AtMost b) (sym same) (at_most_trans b node.store.promise ballot old.0 up), old.1, old.2);
  proposed = λ b s k h. subst (AtMost b) (sym same) (at_most_trans b node.store.promise ballot (p.proposed b s k (made b s k h)) up);
  stands = λ b f st. absurd (other (ap (λ (y : Ballot). y.node) (sym same ∙ st.promised) ∙ (p.began b f (before b f st.began)).1));
}

-- ---- votes say nothing else

no_prepare : (i : ℕ) (ballot : Ballot) (slot : ℕ) (commands : List Command) (sent : List Message) (b : Ballot) (f : ℕ)
    → In (Prepare b f) (answered i ballot slot commands ++ sent) → In (Prepare b f) sent
no_prepare i ballot slot commands sent b f h = elim (in_split (answered i ballot slot commands) sent (Prepare b f) h) [
  | inl new ↦ (let e = (answered_is i ballot slot commands (Prepare b f) new).2 in absurd (cc))
  | inr old ↦ old
]

no_proposal : (i : ℕ) (ballot : Ballot) (slot : ℕ) (commands : List Command) (sent : List Message) (b : Ballot) (s : ℕ) (c : Command)
    → In (Accept b s c) (answered i ballot slot commands ++ sent) → In (Accept b s c) sent
no_proposal i ballot slot commands sent b s c h = elim (in_split (answered i ballot slot commands) sent (Accept b s c) h) [
  | inl new ↦ (let e = (answered_is i ballot slot commands (Accept b s c) new).2 in absurd (cc))
  | inr old ↦ old
]

own_votes : (i : ℕ) (ballot : Ballot) (slot : ℕ) (commands : List Command) (m : Message) → In m (answered i ballot slot commands) → IsNoProposal m × (sender_of m ≡ i)
own_votes i ballot slot commands m h =
    let e = (answered_is i ballot slot commands m h).2 in (subst IsNoProposal (sym e) tt, ap sender_of e)

-- none is an answer to a Prepare, and they tell of the ballot alone
pub low_votes : (i : ℕ) (ballot promise : Ballot) (slot : ℕ) (commands : List Command) → promise ≡ ballot → AreLow promise (answers i ballot slot commands)
low_votes i ballot promise slot commands same m h =
    let e = (answer_is i ballot slot commands m h).2 in (
      subst IsNoAnswer (sym e) tt,
      λ b inside. elim (subst (λ (o : Message). In b (ballots_in o)) e inside) [
        | inl is ↦ subst (λ (y : Ballot). AtMost y promise) (sym is) (subst (AtMost ballot) (sym same) (at_most_self ballot))
        | inr none ↦ absurd none
      ],
    )

-- ---- votes for another node's proposals

-- what is sent and stored of them
abbrev pub vote_turn : Place → Standing → Ballot → ℕ → List Command → Turn
vote_turn place s ballot slot commands =
    sending (to_others place (frame.Accepted ballot slot (command_run_at s.store ballot slot commands)))
    (with_stored (idle s) (taking_command_run s.store ballot slot commands))

-- another node's proposals in a ballot that isn't below the promise are voted for, as far as they are taken, and the votes are got
pub vote : (x : Scope) (came : List Arrival) (heard : Hearing) (upto : List Command) (t : Turn) (ends : x.ends ≡ true) (ballot : Ballot) (slot : ℕ) (command : Command) (later : List Command)
    (p : Path x came heard upto t) → Within (proposals ballot slot (command ∷ later)) p.node.has → AtMost t.after.store.promise ballot → ballot.node ≢ x.place.node
    → LeadsAll x came heard upto (joined t (vote_turn x.place t.after ballot slot (command ∷ later)))
    (answers x.place.node ballot slot (command_run_at t.after.store ballot slot (command ∷ later)))
unfolding say_all
vote x came heard upto t ends ballot slot command later p had above other =
    get_own_all x came heard upto _ (answers i ballot slot told) path (λ m h. in_first said p.sent m (inside m h)) (low_votes i ballot stored.promise slot told promise_now)
  where
    i : ℕ
    i = x.place.node

    commands : List Command
    commands = command ∷ later

    -- by the node's store, and by that of the standing
    here : List Command
    here = command_run_at p.node.store ballot slot (command ∷ later)

    told : List Command
    told = command_run_at t.after.store ballot slot (command ∷ later)

    same : command_run_at p.node.store ballot slot (command ∷ later) ≡ command_run_at t.after.store ballot slot (command ∷ later)
    same = ap (λ (st : Store). command_run_at st ballot slot (command ∷ later)) p.knows.store

    said : List Message
    said = answered x.place.node ballot slot (command_run_at p.node.store ballot slot (command ∷ later))

    stored : Store
    stored = taking_command_run p.node.store ballot slot (command ∷ later)

    w : Wire
    w = frame.Accepted ballot slot (command_run_at t.after.store ballot slot (command ∷ later))

    up : AtMost p.node.store.promise ballot
    up = subst (λ (st : Store). AtMost st.promise ballot) (sym p.knows.store) above

    promise_now : (taking_command_run p.node.store ballot slot (command ∷ later)).promise ≡ ballot
    promise_now = x.given.command_run_promised p.node.store ballot slot command later p.knows.within up

    inside : Within (answers x.place.node ballot slot (command_run_at t.after.store ballot slot (command ∷ later))) (answered x.place.node ballot slot (command_run_at p.node.store ballot slot (command ∷ later)))
    inside m h = in_answered i ballot slot here m (subst (λ (cs : List Command). In m (answers x.place.node ballot slot cs)) (sym same) h)

    outside : Within (answered x.place.node ballot slot (command_run_at p.node.store ballot slot (command ∷ later))) (answers x.place.node ballot slot (command_run_at t.after.store ballot slot (command ∷ later)))
    outside m h = subst (λ (cs : List Command). In m (answers x.place.node ballot slot cs)) same (in_answers i ballot slot here m h)

    path : Path x came heard upto (joined t (sending (to_others x.place w) (with_stored (idle t.after) (taking_command_run t.after.store ballot slot (command ∷ later)))))
    path = say_all x came heard upto t said (to_others x.place w) (with_stored (idle t.after) (taking_command_run t.after.store ballot slot (command ∷ later))) stored stored p refl refl refl refl
        (λ q. absurd (true≢false (sym ends ∙ q)))
        (x.given.command_run_votes (dealer_in x) x.place.nodes x.place.node (p.sent ++ x.world.ever) p.node ballot slot (command ∷ later) p.knows.up p.begun up had)
        (record {
          up = p.knows.up;
          store = ap (λ (st : Store). taking_command_run st ballot slot (command ∷ later)) p.knows.store;
          within = x.given.command_run_within p.node.store ballot slot (command ∷ later) p.knows.within up;
          proposer = gone x.place.nodes i p.node (with_said_all p.node stored stored said) (front_of t.after) ballot other up promise_now
              (no_prepare i ballot slot here p.node.sent) (no_proposal i ballot slot here p.node.sent) t.after.campaign p.knows.proposer;
          learner = p.knows.learner;
          pending = pending_all (dealer_in x) i (with_store p.node stored) said upto t.after.pending (stored_pending (dealer_in x) i p.node stored upto t.after.pending p.knows.pending);
          places = p.knows.places;
          shown = p.knows.shown;
          seen = sees_up p.node.has p.node.store.promise stored.promise t.after.seen (subst (AtMost p.node.store.promise) (sym promise_now) up) p.knows.seen;
          proposals = none_proposed x.place.nodes i upto (front_of t.after) (own_value x.place t.after) stored p.node.has (said ++ p.node.sent)
              (λ b s c h. p.knows.proposals.ballots b s c (no_proposal i ballot slot here p.node.sent b s c h))
              (λ s c h. other (sym (ap (λ (b : Ballot). b.node) promise_now) ∙ p.knows.proposals.ballots stored.promise s c (no_proposal i ballot slot here p.node.sent stored.promise s c h)));
        })
        (others_carry_all x.place.nodes i w said (three_in x) inside outside (own_votes i ballot slot here))
        (others_lose_nothing x.place.nodes i w said (three_in x) outside)

-- ---- an Accept of another node

accept_by : (x : Scope) (came : List Arrival) (heard : Hearing) (t : Turn) (ends : x.ends ≡ true) (from : ℕ) (ballot : Ballot) (slot : ℕ) (command : Command) (later : List Command) (b : Bool)
    → is_below ballot t.after.store.promise ≡ b
    → (p : Path x came heard (applied t.after) t) → Within (proposals ballot slot (command ∷ later)) p.node.has → from < x.place.nodes → from ≢ x.place.node → ballot.node ≢ x.place.node
    → Goes x came heard (behind t (if b then Ok (refusing from ballot slot t.after) else voting x.place ballot slot (command ∷ later) (idle t.after)))
accept_by x came heard t ends from ballot slot command later true e p had below other strange = refuse x came heard (applied t.after) t from ballot slot p below other
accept_by x came heard t ends from ballot slot command later false e p had below other strange =
    let told : List Command = command_run_at t.after.store ballot slot (command ∷ later) in
    let turn : Turn = vote_turn x.place t.after ballot slot (command ∷ later) in
    let voted_now = vote x came heard (applied t.after) t ends ballot slot command later p had (at_most_if_not ballot t.after.store.promise e) strange in
    subst (Goes x came heard) (regroup t turn (counting_votes x.place x.place.node ballot slot told turn.after))
    (count x came heard (joined t turn) x.place.node ballot slot told voted_now.path voted_now.had x.is_place.node)

-- a ballot that isn't below the promise is voted for, any other is refused
pub accept : (x : Scope) (came : List Arrival) (heard : Hearing) (t : Turn) (ends : x.ends ≡ true) (from : ℕ) (ballot : Ballot) (slot : ℕ) (command : Command) (later : List Command)
    → (p : Path x came heard (applied t.after) t) → Within (proposals ballot slot (command ∷ later)) p.node.has → from < x.place.nodes → from ≢ x.place.node → ballot.node ≢ x.place.node
    → Goes x came heard (behind t (accepting x.place from ballot slot (command ∷ later) t.after))
accept x came heard t ends from ballot slot command later p had below other strange =
    accept_by x came heard t ends from ballot slot command later (is_below ballot t.after.store.promise) refl p had below other strange
