-- One step further on the path of a call: several messages sent at once, by a chain of moves, in frames that carry them all; or several got.
use Rattle.std.proofs.Common.{◌≡◌, ◌≢◌, ℕ, ◌+◌, ◌<◌, ◌≤◌, inl, inr, true, false, List, [], ◌∷◌, ◌++◌, refl, sym, ap, subst, ◌∙◌, arith, append_assoc}
use Rattle.std.proofs.lemmas.List.{append-nil}
use Rattle.paxos_wire.specs.declared.ballot.Ballot.{Ballot}
use Rattle.paxos_wire.specs.declared.message.Message.{Message as Wire}
use Rattle.slot_log.specs.declared.command.Command.{Command}
use Rattle.protocol_model.specs.Sets.{In}
use Rattle.protocol_model.specs.Ballots.{AtMost}
use Rattle.protocol_model.specs.Messages.{Message, Accept, Accepted, sender_of}
use Rattle.protocol_model.specs.Frames.{carried, proposals, answers}
use Rattle.protocol_model.specs.CommandRuns.{proposed, answered, sending_all}
use Rattle.protocol_model.specs.Stores.{Store}
use Rattle.protocol_model.specs.Dealers.{Dealer}
use Rattle.protocol_model.specs.Nodes.{Node}
use Rattle.protocol_model.specs.Arrivals.{Arrival}
use Rattle.protocol_model.specs.Moves.{Output, Chain, nothing, more, gets}
use Rattle.node_rules.specs.Standings.{Place, Standing}
use Rattle.node_rules.specs.Sending.{Frame, to_first}
use Rattle.node_rules.specs.Showing.{Piece}
use Rattle.node_rules.specs.Turns.{Turn, sending, joined}
use Rattle.node_rules.specs.Seen.{ballots_in}
use Rattle.node_rules.specs.Being.{Knows}
use Rattle.node_rules.specs.Called.{IsSaid, IsSaidTo, Carry, CarryAll, AreShown, log_after}
use Rattle.node_rules.specs.Given.{Given}
use Rattle.protocol_model.proofs.Sets.{Within, in_first, in_later, in_split, only_in}
use Rattle.node_rules.proofs.Carrying.{joined_carry, joined_all, in_to, has_to, another, said_later, said_split, IsNoProposal}
use Rattle.node_rules.proofs.OwnRuns.{proposal_is, in_proposed, in_proposals, answer_of}
use Rattle.node_rules.proofs.Ordering.{sees_own}
use Rattle.node_rules.proofs.Keeping.{IsNoAnswer, got_knows}
use Rattle.node_rules.proofs.Paths.{Hearing, Scope, dealer_in, first_in, Path}
use Rattle.node_rules.proofs.Steps.{IsNoVote}

-- ---- several messages are sent

abbrev pub AreNoVotes : List Message → Type 0
AreNoVotes [] = Unit {0}
AreNoVotes (m ∷ messages) = IsNoVote m × AreNoVotes messages

pub no_vote_in : (messages : List Message) (m : Message) → AreNoVotes messages → In m messages → IsNoVote m
no_vote_in [] m none h = absurd h
no_vote_in (first ∷ messages) m none (inl e) = subst IsNoVote (sym e) none.0
no_vote_in (first ∷ messages) m none (inr h) = no_vote_in messages m none.1 h

-- the node has sent these messages, and holds this
abbrev pub with_said_all : Node → Store → Store → List Message → Node
with_said_all node store begun messages = record node { store = store; begun = begun; sent = messages ++ node.sent }

-- messages are sent by a chain of moves, in frames that carry them, and the store may change: with a call that stops in its append neither, where one is a
-- vote
unfoldable pub say_all : (x : Scope) (came : List Arrival) (heard : Hearing) (upto : List Command) (t : Turn) (messages : List Message) (frames : List Frame)
    (after : Standing) (store begun : Store) (p : Path x came heard upto t) → begun ≡ store → after.sessions ≡ t.after.sessions → after.up ≡ t.after.up → after.begun ≡ after.store
    → (x.ends ≡ false → AreNoVotes messages × (store ≡ (first_in x).store))
    → Chain (dealer_in x) x.place.nodes x.place.node (p.sent ++ x.world.ever) p.node (sending_all messages) (with_said_all p.node store begun messages)
    → Knows (dealer_in x) x.place upto after (with_said_all p.node store begun messages)
    → Carry x.place.nodes x.place.node frames messages → CarryAll x.place.nodes x.place.node frames messages
    → Path x came heard upto (joined t (sending frames after))
say_all x came heard upto t messages frames after store begun p same sessions up unbegun silent moves knows carry all = record {
  sent = messages ++ p.sent;
  shown = p.shown;
  got = p.got;
  node = with_said_all p.node store begun messages;
  chain = x.given.join (dealer_in x) x.place.nodes x.place.node x.world.ever (first_in x) (record { sent = p.sent; shown = p.shown; came = came }) p.node (sending_all messages) _ p.chain moves;
  knows = knows;
  commands = p.commands;
  hears = p.hears;
  talks = sessions ∙ p.talks;
  runs = up ∙ p.runs;
  begun = same;
  unbegun = unbegun;
  starts = p.starts;
  has = p.has;
  carry = joined_carry x.place.nodes x.place.node t.frames frames p.sent messages p.carry carry;
  all = joined_all x.place.nodes x.place.node t.frames frames p.sent messages p.all all;
  pieces = λ ends. subst (λ (l : List Piece). AreShown x.place.node x.start x.log l p.shown) (sym (append-nil t.shown)) (p.pieces ends);
  logged = λ ends. ap (log_after x.log) (append-nil t.shown) ∙ p.logged ends;
  unshown = p.unshown;
  unvoted = λ q k b l c h. elim (in_split messages p.sent (Accepted k b l c) h) [
    | inl new ↦ no_vote_in messages (Accepted k b l c) (silent q).0 new
    | inr old ↦ p.unvoted q k b l c old
  ];
  unstored = λ q. (silent q).1;
  got_only = λ o h. elim (p.got_only o h) [ inl a ↦ inl a | inr b ↦ inr (in_later messages p.sent o b) ];
  got_all = p.got_all;
}

-- ---- several messages are got

-- the first of them last
abbrev pub with_got_each : Node → List Message → Node
with_got_each node messages = record node { has = messages ++ node.has }

-- a path on which messages are had
pub record LeadsAll (x : Scope) (came : List Arrival) (heard : Hearing) (upto : List Command) (turn : Turn) (messages : List Message) : Type 0 where
  pub path : Path x came heard upto turn
  pub had : Within messages path.node.has

-- no answers to a Prepare, which tell of no ballot above the promise
abbrev pub AreLow : Ballot → List Message → Type 0
AreLow promise messages = (m : Message) → In m messages → IsNoAnswer m × ((b : Ballot) → In b (ballots_in m) → AtMost b promise)

pub own_knows : (g : Given) (d : Dealer) (place : Place) (upto : List Command) (s : Standing) (node : Node) (messages : List Message) → AreLow node.store.promise messages
    → Knows d place upto s node → Knows d place upto s (with_got_each node messages)
own_knows g d place upto s node [] low k = k
own_knows g d place upto s node (m ∷ messages) low k =
    let rest = own_knows g d place upto s node messages (λ o h. low o (inr h)) k in
    got_knows g d place upto s (with_got_each node messages) m s.seen (low m (inl refl)).0
    (sees_own (messages ++ node.has) m node.store.promise s.seen (low m (inl refl)).1 rest.seen) rest

-- what a node sent on its way it gets
pub own_chain : (d : Dealer) (n i : ℕ) (ever : List Message) (first : Node) (out : Output) (node : Node) (messages : List Message) → node.up ≡ true → Within messages out.sent
    → Chain d n i ever first out node → Chain d n i ever first out (with_got_each node messages)
own_chain d n i ever first out node [] up sent chain = chain
own_chain d n i ever first out node (m ∷ messages) up sent chain =
    more _ (with_got_each node messages) nothing _ _ (own_chain d n i ever first out node messages up (λ o h. sent o (inr h)) chain)
    (gets m up (in_first out.sent ever m (sent m (inl refl))) refl refl) refl

-- the node gets messages of its own
pub get_own_all : (x : Scope) (came : List Arrival) (heard : Hearing) (upto : List Command) (t : Turn) (messages : List Message) (p : Path x came heard upto t)
    → Within messages p.sent → AreLow p.node.store.promise messages → LeadsAll x came heard upto t messages
get_own_all x came heard upto t messages p sent low = record {
  path = record {
    sent = p.sent;
    shown = p.shown;
    got = messages ++ p.got;
    node = with_got_each p.node messages;
    chain = own_chain (dealer_in x) x.place.nodes x.place.node x.world.ever (first_in x) _ p.node messages p.knows.up sent p.chain;
    knows = own_knows x.given (dealer_in x) x.place upto t.after p.node messages low p.knows;
    commands = p.commands;
    hears = p.hears;
    talks = p.talks;
    runs = p.runs;
    begun = p.begun;
    unbegun = p.unbegun;
    starts = p.starts;
    has = ap (λ (l : List Message). messages ++ l) p.has ∙ sym (append_assoc messages p.got x.had);
    carry = p.carry;
    all = p.all;
    pieces = p.pieces;
    logged = p.logged;
    unshown = p.unshown;
    unvoted = p.unvoted;
    unstored = p.unstored;
    got_only = λ o h. elim (in_split messages p.got o h) [ inl new ↦ inr (sent o new) | inr old ↦ p.got_only o old ];
    got_all = λ o h. in_later messages p.got o (p.got_all o h);
  };
  had = λ m h. in_first messages p.node.has m h;
}

-- ---- frames of a list of messages to each other node

says_all_to : (n i to : ℕ) (w : Wire) (m : Message) → In m (carried i w) → to < n → to ≢ i → IsSaidTo i (to_first n i w) to m
says_all_to n i to w m had l ne = (record { to = to; message = w }, has_to n i to w l ne, refl, had)

pub said_all : (n i : ℕ) (w : Wire) (m : Message) → 3 ≤ n → In m (carried i w) → IsSaid i (to_first n i w) m
said_all n i w m three had = let j = another i in (j.0, says_all_to n i j.0 w m had (let l = j.1 in omega (arith, three, l)) j.2)

pub all_said : (n i : ℕ) (w : Wire) (m : Message) → IsSaid i (to_first n i w) m → In m (carried i w)
all_said n i w m h = let t = in_to n n i w h.1.0 (omega arith) h.1.1 in subst (λ (l : List Message). In m l) (ap (carried i) t.2) h.1.3

pub others_carry_all : (n i : ℕ) (w : Wire) (messages : List Message) → 3 ≤ n → Within (carried i w) messages → Within messages (carried i w)
    → ((m : Message) → In m messages → IsNoProposal m × (sender_of m ≡ i)) → Carry n i (to_first n i w) messages
others_carry_all n i w messages three out within own = record {
  others = λ f h. let t = in_to n n i w f (omega arith) h in (t.0, t.1);
  said = λ o h. out o (all_said n i w o h);
  own = λ o h. (own o h).1;
  accepted = λ s b k c h. said_all n i w (Accepted s b k c) three (within (Accepted s b k c) h);
  accepts = λ b k c h. absurd ((own (Accept b k c) (out (Accept b k c) (all_said n i w (Accept b k c) h))).0);
}

pub others_lose_nothing : (n i : ℕ) (w : Wire) (messages : List Message) → 3 ≤ n → Within messages (carried i w) → CarryAll n i (to_first n i w) messages
others_lose_nothing n i w messages three within = record {
  covers = λ o h. inr (said_all n i w o three (within o h));
  to_all = λ o h all to below other. says_all_to n i to w o (within o h) below other;
}

-- ---- the answers for commands at slots that follow one another

-- each is one
pub answer_is : (i : ℕ) (ballot : Ballot) (slot : ℕ) (commands : List Command) (m : Message) → In m (answers i ballot slot commands) → (k : ℕ) × (c : Command) × (m ≡ Accepted i ballot k c)
answer_is i ballot slot [] m h = absurd h
answer_is i ballot slot (command ∷ more_commands) m (inl e) = (slot, command, e)
answer_is i ballot slot (command ∷ more_commands) m (inr h) = answer_is i ballot (slot + 1) more_commands m h

-- as a frame carries them, and as moves send them
pub in_answered : (i : ℕ) (ballot : Ballot) (slot : ℕ) (commands : List Command) → Within (answers i ballot slot commands) (answered i ballot slot commands)
in_answered i ballot slot [] m h = absurd h
in_answered i ballot slot (command ∷ more_commands) m (inl e) = in_later (answered i ballot (slot + 1) more_commands) (Accepted i ballot slot command ∷ []) m (inl e)
in_answered i ballot slot (command ∷ more_commands) m (inr h) =
    in_first (answered i ballot (slot + 1) more_commands) (Accepted i ballot slot command ∷ []) m (in_answered i ballot (slot + 1) more_commands m h)

pub in_answers : (i : ℕ) (ballot : Ballot) (slot : ℕ) (commands : List Command) → Within (answered i ballot slot commands) (answers i ballot slot commands)
in_answers i ballot slot [] m h = absurd h
in_answers i ballot slot (command ∷ more_commands) m h = elim (in_split (answered i ballot (slot + 1) more_commands) (Accepted i ballot slot command ∷ []) m h) [
  | inl later ↦ inr (in_answers i ballot (slot + 1) more_commands m later)
  | inr first ↦ inl (only_in m (Accepted i ballot slot command) first)
]

pub answered_is : (i : ℕ) (ballot : Ballot) (slot : ℕ) (commands : List Command) (m : Message) → In m (answered i ballot slot commands) → (k : ℕ) × (c : Command) × (m ≡ Accepted i ballot k c)
answered_is i ballot slot commands m h = answer_is i ballot slot commands m (in_answers i ballot slot commands m h)

-- ---- proposals to all, and then the votes for them

vote_is : (i : ℕ) (ballot : Ballot) (slot : ℕ) (commands : List Command) (b : Ballot) (k : ℕ) (c : Command) → In (Accept b k c) (answers i ballot slot commands) → ⊥
vote_is i ballot slot commands b k c h = let e = (answer_is i ballot slot commands (Accept b k c) h).2 in cc

pub no_answer : (ballot : Ballot) (slot : ℕ) (commands : List Command) (s : ℕ) (b : Ballot) (k : ℕ) (c : Command) → In (Accepted s b k c) (proposals ballot slot commands) → ⊥
no_answer ballot slot commands s b k c h = let e = (proposal_is ballot slot commands (Accepted s b k c) h).2 in cc

pub proposals_own : (i : ℕ) (ballot : Ballot) (slot : ℕ) (commands : List Command) → ballot.node ≡ i → (m : Message) → In m (proposed ballot slot commands) → sender_of m ≡ i
proposals_own i ballot slot commands mine m h = ap sender_of (proposal_is ballot slot commands m (in_proposals ballot slot commands m h)).2 ∙ mine

pub proposal_carry : (n i : ℕ) (u v : Wire) (ballot : Ballot) (slot : ℕ) (commands : List Command) → 3 ≤ n → carried i u ≡ proposals ballot slot commands
    → carried i v ≡ answers i ballot slot commands → ballot.node ≡ i
    → Carry n i (to_first n i u ++ to_first n i v) (answered i ballot slot commands ++ proposed ballot slot commands)
proposal_carry n i u v ballot slot commands three eu ev mine = record {
  others = λ f h. elim (in_split (to_first n i u) (to_first n i v) f h) [
    | inl x ↦ (let t = in_to n n i u f (omega arith) x in (t.0, t.1))
    | inr x ↦ (let t = in_to n n i v f (omega arith) x in (t.0, t.1))
  ];
  said = λ o h. elim (said_split i (to_first n i u) (to_first n i v) o h) [
    | inl x ↦ in_later (answered i ballot slot commands) (proposed ballot slot commands) o (in_proposed ballot slot commands o (of_proposals o x))
    | inr x ↦ in_first (answered i ballot slot commands) (proposed ballot slot commands) o (in_answered i ballot slot commands o (of_answers o x))
  ];
  own = λ o h. elim (in_split (answered i ballot slot commands) (proposed ballot slot commands) o h) [
    | inl x ↦ ap sender_of (answered_is i ballot slot commands o x).2
    | inr x ↦ proposals_own i ballot slot commands mine o x
  ];
  accepted = λ s b k c h. elim (in_split (answered i ballot slot commands) (proposed ballot slot commands) (Accepted s b k c) h) [
    | inl x ↦ voted (Accepted s b k c) (in_answers i ballot slot commands (Accepted s b k c) x)
    | inr x ↦ absurd (no_answer ballot slot commands s b k c (in_proposals ballot slot commands (Accepted s b k c) x))
  ];
  accepts = λ b k c h. elim (said_split i (to_first n i u) (to_first n i v) (Accept b k c) h) [
    | inl x ↦ voted (Accepted i b k c) (answer_of i ballot slot commands b k c (of_proposals (Accept b k c) x))
    | inr x ↦ absurd (vote_is i ballot slot commands b k c (of_answers (Accept b k c) x))
  ];
}
  where
    of_proposals : (o : Message) → IsSaid i (to_first n i u) o → In o (proposals ballot slot commands)
    of_proposals o h = subst (λ (l : List Message). In o l) eu (all_said n i u o h)

    of_answers : (o : Message) → IsSaid i (to_first n i v) o → In o (answers i ballot slot commands)
    of_answers o h = subst (λ (l : List Message). In o l) ev (all_said n i v o h)

    voted : (o : Message) → In o (answers i ballot slot commands) → IsSaid i (to_first n i u ++ to_first n i v) o
    voted o h = said_later i (to_first n i u) (to_first n i v) o (said_all n i v o three (subst (λ (l : List Message). In o l) (sym ev) h))

pub proposal_all : (n i : ℕ) (u v : Wire) (ballot : Ballot) (slot : ℕ) (commands : List Command) → 3 ≤ n → carried i u ≡ proposals ballot slot commands
    → carried i v ≡ answers i ballot slot commands
    → CarryAll n i (to_first n i u ++ to_first n i v) (answered i ballot slot commands ++ proposed ballot slot commands)
proposal_all n i u v ballot slot commands three eu ev =
    joined_all n i (to_first n i u) (to_first n i v) (proposed ballot slot commands) (answered i ballot slot commands)
    (others_lose_nothing n i u (proposed ballot slot commands) three (λ m h. subst (λ (l : List Message). In m l) (sym eu) (in_proposals ballot slot commands m h)))
    (others_lose_nothing n i v (answered i ballot slot commands) three (λ m h. subst (λ (l : List Message). In m l) (sym ev) (in_answers i ballot slot commands m h)))
