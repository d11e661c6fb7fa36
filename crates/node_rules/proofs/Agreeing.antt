-- In a reached world a ballot has one command at a slot, proposed and voted for.
use Rattle.std.proofs.Common.{◌≡◌, ◌≢◌, ℕ, ◌⊎◌, inl, inr, true, false, ◌==◌, List, [], ◌∷◌, Some, sym, subst, ◌∙◌}
use Rattle.std.specs.List.{AllByRecursion}
use Rattle.std.proofs.lemmas.Bool.Decides.{eqb_tells}
use Rattle.paxos_wire.specs.declared.ballot.Ballot.{Ballot}
use Rattle.slot_log.specs.declared.command.Command.{Command}
use Rattle.protocol_model.specs.Sets.{In}
use Rattle.protocol_model.specs.Messages.{Vote, Message, Prepare, Accept}
use Rattle.protocol_model.specs.Dealers.{Dealer}
use Rattle.protocol_model.specs.Stores.{Store, voted, StoreMove, own_promise, promise, vote, Append, unchanged, moved}
use Rattle.protocol_model.specs.Nodes.{Node}
use Rattle.protocol_model.specs.Moves.{Output, Move, gets, connects, drops, closes, hears, notes, ordered, begins, promises, proposes, accepts, repeats, refuses, learns, believes, tells, asks, forwards, shows, stops, starts}
use Rattle.protocol_model.specs.Worlds.{World, start, more as further, IsAfter, Reached}
use Rattle.node_rules.specs.Given.{Given}
use Rattle.protocol_model.proofs.Sets.{in_later, in_split}
use Rattle.node_rules.proofs.Carrying.{IsNoProposal}
use Rattle.node_rules.proofs.Proposed.{accept_is}
use Rattle.node_rules.proofs.Sourcing.{had_was_sent}
use Rattle.node_rules.proofs.Voting.{voted_is}

-- ---- a proposal is sent by a move that proposes

none_among : (ms : List Message) (ballot : Ballot) (slot : ℕ) (command : Command) → AllByRecursion IsNoProposal ms → In (Accept ballot slot command) ms → ⊥
none_among [] ballot slot command other h = h
none_among (m ∷ ms) ballot slot command other (inl e) = subst IsNoProposal (sym e) other.0
none_among (m ∷ ms) ballot slot command other (inr h) = none_among ms ballot slot command other.1 h

-- the node began the ballot, and had proposed nothing there
pub record IsNew (old : Node) (ballot : Ballot) (slot : ℕ) : Type 0 where
  pub first : ℕ
  pub began : In (Prepare ballot first) old.sent
  pub once : (other : Command) → In (Accept ballot slot other) old.sent → ⊥

-- the one that is sent by it, too
pub record ProposedBy (old : Node) (out : Output) (ballot : Ballot) (slot : ℕ) (command : Command) : Type 0 where
  pub new : IsNew old ballot slot
  pub only : (other : Command) → In (Accept ballot slot other) out.sent → other ≡ command

proposed_only : (old : Node) (out : Output) (b : Ballot) (first k : ℕ) (d : Command) (ballot : Ballot) (slot : ℕ) (command : Command) → out ≡ record { sent = Accept b k d ∷ []; shown = []; came = [] }
    → In (Prepare b first) old.sent → ((other : Command) → In (Accept b k other) old.sent → ⊥) → In (Accept ballot slot command) out.sent → ProposedBy old out ballot slot command
proposed_only old out b first k d ballot slot command e began once h =
    elim (subst (λ (o : Output). In (Accept ballot slot command) o.sent) e h) [
      | inl same ↦ (let is = accept_is ballot b slot k command d same in
          record {
            new = record {
              first = first;
              began = subst (λ (y : Ballot). In (Prepare y first) old.sent) (sym is.0) began;
              once = λ other o. once other (subst (λ (y : Ballot). In (Accept y k other) old.sent) is.0 (subst (λ (y : ℕ). In (Accept ballot y other) old.sent) is.1 o));
            };
            only = λ other o. elim (subst (λ (y : Output). In (Accept ballot slot other) y.sent) e o) [
              | inl one ↦ (accept_is ballot b slot k other d one).2 ∙ sym is.2
              | inr none ↦ absurd none
            ];
          })
      | inr none ↦ absurd none
    ]

other_sent : (old : Node) (out other : Output) (ballot : Ballot) (slot : ℕ) (command : Command) → out ≡ other → AllByRecursion IsNoProposal other.sent → In (Accept ballot slot command) out.sent → ProposedBy old out ballot slot command
other_sent old out other ballot slot command e are h = absurd (none_among other.sent ballot slot command are (subst (λ (o : Output). In (Accept ballot slot command) o.sent) e h))

proposed_by : (dealer : Dealer) (n i : ℕ) (ever : List Message) (old : Node) (out : Output) (new : Node) (ballot : Ballot) (slot : ℕ) (command : Command) → Move dealer n i ever old out new
    → In (Accept ballot slot command) out.sent → ProposedBy old out ballot slot command
proposed_by dealer n i ever old out new b l c (gets message up sent eo en) h = other_sent old out _ b l c eo tt h
proposed_by dealer n i ever old out new b l c (connects seat up eo en) h = other_sent old out _ b l c eo tt h
proposed_by dealer n i ever old out new b l c (drops seat up eo en) h = other_sent old out _ b l c eo tt h
proposed_by dealer n i ever old out new b l c (closes seat up eo en) h = other_sent old out _ b l c eo tt h
proposed_by dealer n i ever old out new b l c (hears seat bytes up eo en) h = other_sent old out _ b l c eo tt h
proposed_by dealer n i ever old out new b l c (notes seat bytes before line command up heard knows line_had says eo en) h = other_sent old out _ b l c eo (tt, tt) h
proposed_by dealer n i ever old out new b l c (ordered before command up knows hole orders eo en) h = other_sent old out _ b l c eo (tt, tt) h
proposed_by dealer n i ever old out new b l c (begins ballot slot told up mine above tells_it eo en) h = other_sent old out _ b l c eo (tt, (tt, tt)) h
proposed_by dealer n i ever old out new b l c (promises ballot slot told up had above tells_it eo en) h = other_sent old out _ b l c eo (tt, tt) h
proposed_by dealer n i ever old out new b l c (proposes ballot first slot command up began once mine may eo en) h = proposed_only old out ballot first slot command b l c eo began once h
proposed_by dealer n i ever old out new b l c (accepts ballot slot command up had above eo en) h = other_sent old out _ b l c eo (tt, tt) h
proposed_by dealer n i ever old out new b l c (repeats ballot slot command up held above eo en) h = other_sent old out _ b l c eo (tt, tt) h
proposed_by dealer n i ever old out new b l c (refuses ballot slot greater up eo en) h = other_sent old out _ b l c eo (tt, tt) h
proposed_by dealer n i ever old out new b l c (learns slot command up chosen eo en) h = other_sent old out _ b l c eo tt h
proposed_by dealer n i ever old out new b l c (believes sender slot command up had eo en) h = other_sent old out _ b l c eo tt h
proposed_by dealer n i ever old out new b l c (tells slot command up known eo en) h = other_sent old out _ b l c eo (tt, tt) h
proposed_by dealer n i ever old out new b l c (asks slot up eo en) h = other_sent old out _ b l c eo (tt, tt) h
proposed_by dealer n i ever old out new b l c (forwards command up said eo en) h = other_sent old out _ b l c eo (tt, tt) h
proposed_by dealer n i ever old out new b l c (shows commands reader text up knows low is eo en) h = other_sent old out _ b l c eo tt h
proposed_by dealer n i ever old out new b l c (stops begun up append eo en) h = other_sent old out _ b l c eo tt h
proposed_by dealer n i ever old out new b l c (starts store down found eo en) h = other_sent old out _ b l c eo tt h

one_after : (g : Given) (dealer : Dealer) (n : ℕ) (old new : World) (i : ℕ) (out : Output) (node : Node) (ballot : Ballot) (slot : ℕ) (a b : Command) → Reached dealer n old
    → Move dealer n i old.ever (old.nodes i) out node → IsAfter old i out node new
    → (In (Accept ballot slot a) old.ever → In (Accept ballot slot b) old.ever → a ≡ b)
    → In (Accept ballot slot a) new.ever → In (Accept ballot slot b) new.ever → a ≡ b
one_after g dealer n old new i out node ballot slot a b reached move after before ha hb = by_new (split a ha) (split b hb)
  where
    split : (c : Command) → In (Accept ballot slot c) new.ever → In (Accept ballot slot c) out.sent ⊎ In (Accept ballot slot c) old.ever
    split c h = in_split out.sent old.ever (Accept ballot slot c) (subst (λ (l : List Message). In (Accept ballot slot c) l) after.ever h)

    clash : (c d : Command) → In (Accept ballot slot c) out.sent → In (Accept ballot slot d) old.ever → ⊥
    clash c d now earlier =
        let p = proposed_by dealer n i old.ever (old.nodes i) out node ballot slot c move now in
        p.new.once d (g.own_proposal dealer n i old ballot p.new.first slot d reached p.new.began earlier)

    by_new : In (Accept ballot slot a) out.sent ⊎ In (Accept ballot slot a) old.ever → In (Accept ballot slot b) out.sent ⊎ In (Accept ballot slot b) old.ever → a ≡ b
    by_new (inl x) (inl y) = (proposed_by dealer n i old.ever (old.nodes i) out node ballot slot b move y).only a x
    by_new (inl x) (inr y) = absurd (clash a b x y)
    by_new (inr x) (inl y) = absurd (clash b a y x)
    by_new (inr x) (inr y) = before x y

-- a ballot has one proposal at a slot
pub one_proposal : (g : Given) (dealer : Dealer) (n : ℕ) (world : World) (ballot : Ballot) (slot : ℕ) (a b : Command) → Reached dealer n world
    → In (Accept ballot slot a) world.ever → In (Accept ballot slot b) world.ever → a ≡ b
one_proposal g dealer n world ballot slot a b start ha hb = absurd ha
one_proposal g dealer n world ballot slot a b (further between j out node last run is move after) ha hb =
    one_after g dealer n between world j out node ballot slot a b run move after (λ x y. one_proposal g dealer n between ballot slot a b run x y) ha hb

-- ---- a vote is for a proposal

-- each vote of a store is for a proposal among these
abbrev pub AreFor : Store → List Message → Type 0
AreFor store messages = (slot : ℕ) (v : Vote) → store.votes slot ≡ Some v → In (Accept v.ballot slot v.command) messages

voted_for : (store : Store) (messages : List Message) (slot : ℕ) (ballot : Ballot) (command : Command) → In (Accept ballot slot command) messages → AreFor store messages
    → AreFor (voted store slot (record { ballot = ballot; command = command })) messages
voted_for store messages slot ballot command had are k v e = elim (voted_is store slot (record { ballot = ballot; command = command }) v k e) [
  | inl new ↦ subst (λ (m : Message). In m messages) (λ j. Accept ((sym new.1 j).ballot) (sym new.0 j) ((sym new.1 j).command)) had
  | inr old ↦ are k v old
]

stored_for : (node : ℕ) (has messages : List Message) (old new : Store) → StoreMove node has old new → ((m : Message) → In m has → In m messages) → AreFor old messages → AreFor new messages
stored_for node has messages old new (own_promise ballot mine above e) sent are = subst (λ (s : Store). AreFor s messages) (sym e) are
stored_for node has messages old new (promise ballot slot had above e) sent are = subst (λ (s : Store). AreFor s messages) (sym e) are
stored_for node has messages old new (vote ballot slot command had above e) sent are =
    subst (λ (s : Store). AreFor s messages) (sym e) (voted_for old messages slot ballot command (sent (Accept ballot slot command) had) are)

appended_for : (node : ℕ) (has messages : List Message) (old new : Store) → Append node has old new → ((m : Message) → In m has → In m messages) → AreFor old messages → AreFor new messages
appended_for node has messages old new (unchanged s e) sent are = subst (λ (y : Store). AreFor y messages) (sym e) are
appended_for node has messages old new (moved between s append move) sent are =
    stored_for node has messages between new move sent (appended_for node has messages old between append sent are)

-- both stores of a node
abbrev pub BothFor : Node → List Message → Type 0
BothFor node messages = AreFor node.store messages × AreFor node.begun messages

same_for : (old new : Node) (messages : List Message) → new ≡ old → BothFor old messages → BothFor new messages
same_for old new messages e are = subst (λ (k : Node). BothFor k messages) (sym e) are

for_after : (dealer : Dealer) (n i : ℕ) (ever messages : List Message) (old : Node) (out : Output) (new : Node) → Move dealer n i ever old out new → ((m : Message) → In m old.has → In m messages)
    → BothFor old messages → BothFor new messages
for_after dealer n i ever messages old out new (gets message up had eo en) sent are = same_for _ new messages en are
for_after dealer n i ever messages old out new (connects seat up eo en) sent are = same_for _ new messages en are
for_after dealer n i ever messages old out new (drops seat up eo en) sent are = same_for _ new messages en are
for_after dealer n i ever messages old out new (closes seat up eo en) sent are = same_for _ new messages en are
for_after dealer n i ever messages old out new (hears seat bytes up eo en) sent are = same_for _ new messages en are
for_after dealer n i ever messages old out new (notes seat bytes before line command up heard knows line_had says eo en) sent are = same_for _ new messages en are
for_after dealer n i ever messages old out new (ordered before command up knows hole orders eo en) sent are = same_for _ new messages en are
for_after dealer n i ever messages old out new (begins ballot slot told up mine above tells_it eo en) sent are = same_for _ new messages en (are.0, are.0)
for_after dealer n i ever messages old out new (promises ballot slot told up had above tells_it eo en) sent are = same_for _ new messages en (are.0, are.0)
for_after dealer n i ever messages old out new (proposes ballot first slot command up began once mine may eo en) sent are = same_for _ new messages en are
for_after dealer n i ever messages old out new (accepts ballot slot command up had above eo en) sent are =
    let v = voted_for old.store messages slot ballot command (sent (Accept ballot slot command) had) are.0 in same_for _ new messages en (v, v)
for_after dealer n i ever messages old out new (repeats ballot slot command up held above eo en) sent are = same_for _ new messages en are
for_after dealer n i ever messages old out new (refuses ballot slot greater up eo en) sent are = same_for _ new messages en are
for_after dealer n i ever messages old out new (learns slot command up chosen eo en) sent are = same_for _ new messages en are
for_after dealer n i ever messages old out new (believes sender slot command up had eo en) sent are = same_for _ new messages en are
for_after dealer n i ever messages old out new (tells slot command up known eo en) sent are = same_for _ new messages en are
for_after dealer n i ever messages old out new (asks slot up eo en) sent are = same_for _ new messages en are
for_after dealer n i ever messages old out new (forwards command up said eo en) sent are = same_for _ new messages en are
for_after dealer n i ever messages old out new (shows commands reader text up knows low is eo en) sent are = same_for _ new messages en are
for_after dealer n i ever messages old out new (stops begun up append eo en) sent are = same_for _ new messages en (are.0, appended_for i old.has messages old.store begun append sent are.0)
for_after dealer n i ever messages old out new (starts store down found eo en) sent are =
    let here : AreFor store messages = elim found [ inl e ↦ subst (λ (s : Store). AreFor s messages) (sym e) are.0 | inr e ↦ subst (λ (s : Store). AreFor s messages) (sym e) are.1 ] in
    same_for _ new messages en (here, here)

more_for : (node : Node) (messages all : List Message) → ((m : Message) → In m messages → In m all) → BothFor node messages → BothFor node all
more_for node messages all inside are = (λ s v e. inside (Accept v.ballot s v.command) (are.0 s v e), λ s v e. inside (Accept v.ballot s v.command) (are.1 s v e))

world_after : (dealer : Dealer) (n : ℕ) (old new : World) (i j : ℕ) (out : Output) (node : Node) → Reached dealer n old → Move dealer n j old.ever (old.nodes j) out node → IsAfter old j out node new
    → ((k : ℕ) → BothFor (old.nodes k) old.ever) → BothFor (new.nodes i) new.ever
world_after dealer n old new i j out node reached move after before = by_node (eqb_tells i j)
  where
    later : (m : Message) → In m old.ever → In m new.ever
    later m h = subst (λ (l : List Message). In m l) (sym after.ever) (in_later out.sent old.ever m h)

    by_node : ((i == j) ≡ true) × (i ≡ j) ⊎ ((i == j) ≡ false) × (i ≢ j) → BothFor (new.nodes i) new.ever
    by_node (inl same) = subst (λ (k : ℕ). BothFor (new.nodes k) new.ever) (sym same.1)
        (subst (λ (k : Node). BothFor k new.ever) (sym after.moved)
        (for_after dealer n j old.ever new.ever (old.nodes j) out node move (λ m h. later m (had_was_sent dealer n j old m reached h)) (more_for (old.nodes j) old.ever new.ever later (before j))))
    by_node (inr other) = subst (λ (k : Node). BothFor k new.ever) (sym (after.others i other.1)) (more_for (old.nodes i) old.ever new.ever later (before i))

pub votes_are_for : (dealer : Dealer) (n : ℕ) (world : World) (i : ℕ) → Reached dealer n world → BothFor (world.nodes i) world.ever
votes_are_for dealer n world i start = (λ s v e. absurd (cc), λ s v e. absurd (cc))
votes_are_for dealer n world i (further between j out node last run is move after) =
    world_after dealer n between world i j out node run move after (λ k. votes_are_for dealer n between k run)

-- two nodes' votes of one ballot at a slot are for one command
pub votes_agree : (g : Given) (dealer : Dealer) (n : ℕ) (world : World) (i j slot : ℕ) (v w : Vote) → Reached dealer n world → (world.nodes i).store.votes slot ≡ Some v → (world.nodes j).store.votes slot ≡ Some w
    → v.ballot ≡ w.ballot → v.command ≡ w.command
votes_agree g dealer n world i j slot v w reached ev ew same =
    one_proposal g dealer n world w.ballot slot v.command w.command reached
    (subst (λ (b : Ballot). In (Accept b slot v.command) world.ever) same ((votes_are_for dealer n world i reached).0 slot v ev))
    ((votes_are_for dealer n world j reached).0 slot w ew)
