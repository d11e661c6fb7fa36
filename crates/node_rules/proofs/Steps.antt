-- One step further on the path of a call: a message got or sent, or neither.
use Rattle.std.proofs.Common.{◌≡◌, ◌≢◌, ℕ, ◌<◌, inl, inr, true, false, List, [], ◌∷◌, ◌++◌, refl, sym, ap, subst, ◌∙◌}
use Rattle.paxos_wire.specs.declared.ballot.Ballot.{Ballot}
use Rattle.paxos_wire.specs.declared.message.Message.{Message as Wire}
use Rattle.slot_log.specs.declared.command.Command.{Command}
use Rattle.protocol_model.specs.Sets.{In}
use Rattle.protocol_model.specs.Ballots.{AtMost}
use Rattle.protocol_model.specs.Messages.{Message, Prepare, Promise, Refuse, Accept, Accepted, Chosen, Ask, Forward, Said, sender_of}
use Rattle.protocol_model.specs.Frames.{carried}
use Rattle.protocol_model.specs.Stores.{Store}
use Rattle.protocol_model.specs.Nodes.{Node, Knows as KnowsCommands}
use Rattle.protocol_model.specs.Arrivals.{Arrival}
use Rattle.protocol_model.specs.Moves.{Shown, Chain, Move, nothing, sending as sends, with_sent, more, gets}
use Rattle.dealer_kind.specs.Kind.{log_of}
use Rattle.node_rules.specs.Standings.{Standing}
use Rattle.node_rules.specs.Sending.{Frame, one}
use Rattle.node_rules.specs.Showing.{Piece}
use Rattle.node_rules.specs.Turns.{Turn, sending, joined}
use Rattle.node_rules.specs.Seen.{ballots_in}
use Rattle.node_rules.specs.Being.{Knows}
use Rattle.node_rules.specs.Called.{IsForAll, Carry, CarryAll, AreShown, log_after}
use Rattle.protocol_model.proofs.Sets.{in_first}
use Rattle.node_rules.proofs.Carrying.{joined_carry, joined_all, one_carry, one_all}
use Rattle.node_rules.proofs.Ordering.{sees_own}
use Rattle.node_rules.proofs.Keeping.{with_others, with_got, IsNoAnswer, got_knows, IsQuiet, sent_knows}
use Rattle.node_rules.proofs.Paths.{Hearing, Scope, dealer_in, first_in, Path}
use Rattle.std.proofs.lemmas.List.{append-nil}

-- ---- nothing is got or sent

-- more is known or shown, or another standing is its own
unfoldable pub unsent : (x : Scope) (came : List Arrival) (heard : Hearing) (upto further : List Command) (t u : Turn) (p : Path x came heard upto t)
    (known : List (ℕ × Command)) (shown : List Shown) (last : ℕ)
    → u.after.sessions ≡ t.after.sessions → u.after.up ≡ t.after.up → u.after.begun ≡ u.after.store → u.frames ≡ t.frames
    → Chain (dealer_in x) x.place.nodes x.place.node x.world.ever (first_in x) (record { sent = p.sent; shown = shown; came = came }) (with_others p.node known p.node.heard last)
    → Knows (dealer_in x) x.place further u.after (with_others p.node known p.node.heard last) → KnowsCommands known further
    → (x.ends ≡ true → AreShown x.place.node x.start x.log u.shown shown) → (x.ends ≡ true → log_after x.log u.shown ≡ log_of x.place.setting further) → (x.ends ≡ false → shown ≡ [])
    → Path x came heard further u
unsent x came heard upto further t u p known shown last sessions up unbegun frames chain knows commands pieces logged unshown = record {
  sent = p.sent;
  shown = shown;
  got = p.got;
  node = with_others p.node known p.node.heard last;
  chain = chain;
  knows = knows;
  commands = commands;
  hears = p.hears;
  talks = sessions ∙ p.talks;
  runs = up ∙ p.runs;
  begun = p.begun;
  unbegun = unbegun;
  starts = p.starts;
  has = p.has;
  carry = subst (λ (l : List Frame). Carry x.place.nodes x.place.node l p.sent) (sym frames) p.carry;
  all = subst (λ (l : List Frame). CarryAll x.place.nodes x.place.node l p.sent) (sym frames) p.all;
  pieces = pieces;
  logged = logged;
  unshown = unshown;
  unvoted = p.unvoted;
  unstored = p.unstored;
  got_only = p.got_only;
  got_all = p.got_all;
}

-- nothing is sent or shown
pub go_on : (x : Scope) (came : List Arrival) (heard : Hearing) (upto : List Command) (t : Turn) → Path x came heard upto t
    → Path x came heard upto (joined t (sending [] t.after))
go_on x came heard upto t p =
    unsent x came heard upto upto t (joined t (sending [] t.after)) p p.node.known p.shown p.node.shown refl refl p.unbegun (append-nil t.frames) p.chain p.knows p.commands
    (λ ends. subst (λ (l : List Piece). AreShown x.place.node x.start x.log l p.shown) (sym (append-nil t.shown)) (p.pieces ends))
    (λ ends. ap (log_after x.log) (append-nil t.shown) ∙ p.logged ends) p.unshown

-- ---- getting

-- the path, with another turn that shows and sends the same
pub record Leads (x : Scope) (came : List Arrival) (heard : Hearing) (upto : List Command) (turn : Turn) (m : Message) : Type 0 where
  pub path : Path x came heard upto turn
  pub had : In m path.node.has

-- the node gets a message of its own
pub get_own : (x : Scope) (came : List Arrival) (heard : Hearing) (upto : List Command) (t : Turn) (m : Message) (p : Path x came heard upto t)
    → IsNoAnswer m → In m p.sent → ((b : Ballot) → In b (ballots_in m) → AtMost b p.node.store.promise)
    → Leads x came heard upto t m
get_own x came heard upto t m p other sent low = record {
  path = record {
    sent = p.sent;
    shown = p.shown;
    got = m ∷ p.got;
    node = with_got p.node m;
    chain = more _ p.node nothing _ _ p.chain (gets m p.knows.up (in_first p.sent x.world.ever m sent) refl refl) refl;
    knows = got_knows x.given (dealer_in x) x.place upto t.after p.node m t.after.seen other (sees_own p.node.has m p.node.store.promise t.after.seen low p.knows.seen) p.knows;
    commands = p.commands;
    hears = p.hears;
    talks = p.talks;
    runs = p.runs;
    begun = p.begun;
    unbegun = p.unbegun;
    starts = p.starts;
    has = ap (λ l. m ∷ l) p.has;
    carry = p.carry;
    all = p.all;
    pieces = p.pieces;
    logged = p.logged;
    unshown = p.unshown;
    unvoted = p.unvoted;
    unstored = p.unstored;
    got_only = λ o h. elim h [ inl e ↦ inr (subst (λ (y : Message). In y p.sent) (sym e) sent) | inr old ↦ p.got_only o old ];
    got_all = λ o h. inr (p.got_all o h);
  };
  had = inl refl;
}

-- ---- sending

-- it doesn't say that something was accepted
abbrev pub IsNoVote : Message → Type 0
IsNoVote (Prepare ballot slot) = Unit {0}
IsNoVote (Promise sender ballot slot told) = Unit {0}
IsNoVote (Refuse sender ballot slot promised) = Unit {0}
IsNoVote (Accept ballot slot command) = Unit {0}
IsNoVote (Accepted sender ballot slot command) = ⊥
IsNoVote (Chosen sender slot command) = Unit {0}
IsNoVote (Ask sender slot) = Unit {0}
IsNoVote (Forward sender command) = Unit {0}
IsNoVote (Said sender command) = Unit {0}

-- the node has sent the message, and holds this
abbrev with_said : Node → Store → Store → Message → Node
with_said node store begun m = record node { store = store; begun = begun; sent = m ∷ node.sent }

-- a path on which a message was sent
pub record Says (x : Scope) (came : List Arrival) (heard : Hearing) (upto : List Command) (turn : Turn) (m : Message) : Type 0 where
  pub path : Path x came heard upto turn
  pub said : In m path.node.sent

-- a message is sent, with frames that carry it, and the store may change: with a call that stops in its append neither, where it is a vote
unfoldable pub say : (x : Scope) (came : List Arrival) (heard : Hearing) (upto : List Command) (t : Turn) (m : Message) (frames : List Frame) (after : Standing) (store begun : Store)
    (p : Path x came heard upto t) → begun ≡ store → after.sessions ≡ t.after.sessions → after.up ≡ t.after.up → after.begun ≡ after.store
    → (x.ends ≡ false → IsNoVote m × (store ≡ (first_in x).store))
    → Move (dealer_in x) x.place.nodes x.place.node (p.sent ++ x.world.ever) p.node (sends m) (with_said p.node store begun m)
    → Knows (dealer_in x) x.place upto after (with_said p.node store begun m)
    → Carry x.place.nodes x.place.node frames (m ∷ []) → CarryAll x.place.nodes x.place.node frames (m ∷ [])
    → Says x came heard upto (joined t (sending frames after)) m
say x came heard upto t m frames after store begun p same sessions up unbegun silent move knows carry all = record {
  path = record {
    sent = m ∷ p.sent;
    shown = p.shown;
    got = p.got;
    node = with_said p.node store begun m;
    chain = more _ p.node (sends m) _ _ p.chain move refl;
    knows = knows;
    commands = p.commands;
    hears = p.hears;
    talks = sessions ∙ p.talks;
    runs = up ∙ p.runs;
    begun = same;
    unbegun = unbegun;
    starts = p.starts;
    has = p.has;
    carry = joined_carry x.place.nodes x.place.node t.frames frames p.sent (m ∷ []) p.carry carry;
    all = joined_all x.place.nodes x.place.node t.frames frames p.sent (m ∷ []) p.all all;
    pieces = λ ends. subst (λ (l : List Piece). AreShown x.place.node x.start x.log l p.shown) (sym (append-nil t.shown)) (p.pieces ends);
    logged = λ ends. ap (log_after x.log) (append-nil t.shown) ∙ p.logged ends;
    unshown = p.unshown;
    unvoted = λ q k b l c h. elim h [ inl e ↦ absurd (subst IsNoVote (sym e) (silent q).0) | inr old ↦ p.unvoted q k b l c old ];
    unstored = λ q. (silent q).1;
    got_only = λ o h. elim (p.got_only o h) [ inl a ↦ inl a | inr b ↦ inr (inr b) ];
    got_all = p.got_all;
  };
  said = inl refl;
}

-- a quiet message is sent
pub send_said : (x : Scope) (came : List Arrival) (heard : Hearing) (upto : List Command) (t : Turn) (m : Message) (frames : List Frame)
    (p : Path x came heard upto t) → IsQuiet m → (x.ends ≡ false → IsNoVote m)
    → Move (dealer_in x) x.place.nodes x.place.node (p.sent ++ x.world.ever) p.node (sends m) (with_sent p.node (m ∷ []))
    → Carry x.place.nodes x.place.node frames (m ∷ []) → CarryAll x.place.nodes x.place.node frames (m ∷ [])
    → Says x came heard upto (joined t (sending frames t.after)) m
send_said x came heard upto t m frames p quiet silent move carry all =
    say x came heard upto t m frames t.after p.node.store p.node.begun p p.begun refl refl p.unbegun (λ q. (silent q, p.unstored q)) move
    (sent_knows x.given (dealer_in x) x.place upto t.after p.node m quiet p.knows) carry all

pub send : (x : Scope) (came : List Arrival) (heard : Hearing) (upto : List Command) (t : Turn) (m : Message) (frames : List Frame)
    (p : Path x came heard upto t) → IsQuiet m → (x.ends ≡ false → IsNoVote m)
    → Move (dealer_in x) x.place.nodes x.place.node (p.sent ++ x.world.ever) p.node (sends m) (with_sent p.node (m ∷ []))
    → Carry x.place.nodes x.place.node frames (m ∷ []) → CarryAll x.place.nodes x.place.node frames (m ∷ [])
    → Path x came heard upto (joined t (sending frames t.after))
send x came heard upto t m frames p quiet silent move carry all = (send_said x came heard upto t m frames p quiet silent move carry all).path

-- to one other node
pub send_one : (x : Scope) (came : List Arrival) (heard : Hearing) (upto : List Command) (t : Turn) (m : Message) (to : ℕ) (w : Wire)
    (p : Path x came heard upto t) → IsQuiet m → (x.ends ≡ false → IsNoVote m)
    → Move (dealer_in x) x.place.nodes x.place.node (p.sent ++ x.world.ever) p.node (sends m) (with_sent p.node (m ∷ []))
    → carried x.place.node w ≡ m ∷ [] → (IsForAll m → ⊥) → sender_of m ≡ x.place.node → to < x.place.nodes → to ≢ x.place.node
    → Path x came heard upto (joined t (sending (one to w) t.after))
send_one x came heard upto t m to w p quiet silent move e alone own below other =
    send x came heard upto t m (one to w) p quiet silent move (one_carry x.place.nodes x.place.node to w m e alone own below other) (one_all x.place.nodes x.place.node to w m e alone)
