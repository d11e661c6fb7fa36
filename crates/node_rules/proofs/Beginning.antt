-- Where the path of a call begins, and what it is when it ends.
use Rattle.std.proofs.Common.{◌≡◌, ℕ, ◌+◌, inl, inr, Bool, true, false, if◌then◌else◌, List, [], ◌∷◌, ◌++◌, Option, Some, None, Result, Ok, Err, refl, sym, ap, subst, ◌∙◌, arith, length, reverse}
use Rattle.std.specs.Prelude.{slice_get}
use Rattle.std.proofs.lemmas.List.{reverse-append, length-reverse}
use Rattle.std.proofs.lemmas.Option.{same_Some, slice_get_within}
use Rattle.paxos_wire.specs.declared.ballot.Ballot.{Ballot}
use Rattle.paxos_wire.specs.declared.entry.Entry.{Entry}
use Rattle.slot_log.specs.Slots.{Log, front, known_at}
use Rattle.slot_log.specs.declared.command.Command.{Command}
use Rattle.slot_log.proofs.Hands.{got_before, at_end}
use Rattle.protocol_model.specs.Sets.{In}
use Rattle.protocol_model.specs.Ballots.{Below}
use Rattle.protocol_model.specs.Messages.{Message, Prepare, Promise, Refuse, Accept}
use Rattle.protocol_model.specs.Calls.{HasGotAtMost}
use Rattle.protocol_model.specs.Nodes.{Node, Knows as KnowsCommands}
use Rattle.protocol_model.specs.Arrivals.{Arrival, Event}
use Rattle.protocol_model.specs.Frames.{proposals, answers}
use Rattle.protocol_model.specs.Dealers.{Dealer}
use Rattle.protocol_model.specs.Moves.{Chain, nothing, more, none, gets}
use Rattle.proposer.specs.declared.campaign.Campaign.{Campaign}
use Rattle.paxos_wire.specs.Order.{is_below}
use Rattle.proposer.specs.Campaigns.{with_promise, counting_from, refused_from}
use Rattle.seat_session.specs.Session.{Standing as Talk}
use Rattle.dealer_kind.specs.Kind.{log_of}
use Rattle.node_rules.specs.Standings.{Place, Standing, applied, front_of}
use Rattle.node_rules.specs.Turns.{Turn, Refusal, still, behind, and_then}
use Rattle.node_rules.specs.Rules.{highest}
use Rattle.node_rules.specs.Seen.{ballots_in}
use Rattle.node_rules.specs.Being.{Campaigns, IsProposer, AreSessions, Knows, IsOf}
use Rattle.node_rules.specs.Called.{AreShown, events_of, Taken}
use Rattle.protocol_model.proofs.Sets.{Within, in_split}
use Rattle.node_rules.proofs.Carrying.{nothing_carried, nothing_lost}
use Rattle.node_rules.proofs.Telling.{nothing_shown}
use Rattle.protocol_model.proofs.Ballots.{below_if, at_most_if_not, not_below}
use Rattle.node_rules.proofs.Ordering.{highest_all, sees_more, sees_again}
use Rattle.node_rules.specs.Given.{Given}
use Rattle.node_rules.proofs.Keeping.{with_got, IsNoAnswer, stood_before, got_knows, got_learner, got_pending}
use Rattle.node_rules.proofs.Paths.{Hearing, Scope, dealer_in, first_in, Path, Goes, has_in}
use Rattle.node_rules.proofs.Together.{with_got_each}
use Rattle.node_rules.proofs.Settling.{below_front}
use Rattle.node_rules.specs.Proposing.{own_value}
use Rattle.node_rules.specs.Proposed.{IsSettled}
use Rattle.node_rules.proofs.Proposed.{got_proposed}

-- ---- the commands below the front are known

below_known : (known : List (ℕ × Command)) (below : List Command) → ((slot : ℕ) (c : Command) → slice_get (reverse below) slot ≡ Some c → In (slot, c) known)
    → KnowsCommands known below
below_known known [] h = tt
below_known known (c ∷ rest) h = (
  h (length rest) c (ap (λ (l : List Command). slice_get l (length rest)) (reverse-append (c ∷ []) rest)
      ∙ (ap (λ k. slice_get (reverse rest ++ c ∷ []) k) (sym (length-reverse rest)) ∙ at_end (reverse rest) c)),
  below_known known rest (λ slot d e. h slot d (ap (λ (l : List Command). slice_get l slot) (reverse-append (c ∷ []) rest) ∙ got_before (reverse rest) (c ∷ []) slot d e)),
)

pub commands_known : (log : Log) (known : List (ℕ × Command)) → ((slot : ℕ) (c : Command) → known_at log slot ≡ Some c → In (slot, c) known) → KnowsCommands known log.below
commands_known log known h =
    below_known known log.below (λ slot c e. h slot c (below_front log slot
    (let w = slice_get_within (reverse log.below) slot c e in let l = length-reverse log.below in omega arith) ∙ e))

-- ---- a path begins

abbrev pub hearing_of : Standing → Node → Hearing
hearing_of s node = record { bytes = node.heard; talks = s.sessions }

-- the node runs, and the scope is that of its call
pub record Runs (x : Scope) (s : Standing) : Type 0 where
  pub of : IsOf x.own x.place s (first_in x)
  pub up : s.up ≡ true
  pub log : x.log ≡ log_of x.place.setting (applied s)
  pub start : (first_in x).starts ≡ x.start
  pub had : (first_in x).has ≡ x.had

-- nothing came
pub begin : (x : Scope) (s : Standing) → Runs x s → x.messages ≡ [] → Path x [] (hearing_of s (first_in x)) (applied s) (still s)
begin x s r quiet = record {
  sent = [];
  shown = [];
  got = [];
  node = first_in x;
  chain = none _ _ refl refl;
  knows = (r.of.runs r.up).knows;
  commands = commands_known s.learned.log (first_in x).known (r.of.runs r.up).knows.learner.knows;
  hears = refl;
  talks = refl;
  runs = r.up;
  begun = r.of.begun ∙ ((r.of.runs r.up).unbegun ∙ sym r.of.store);
  unbegun = (r.of.runs r.up).unbegun;
  starts = r.start;
  has = r.had;
  carry = nothing_carried x.place.nodes x.place.node;
  all = nothing_lost x.place.nodes x.place.node;
  pieces = λ ends. nothing_shown x.place.node x.start x.log;
  logged = λ ends. r.log;
  unshown = λ q. refl;
  unvoted = λ q k b l c h. absurd h;
  unstored = λ q. refl;
  got_only = λ m h. absurd h;
  got_all = λ m h. absurd (subst (λ (l : List Message). In m l) quiet h);
}

-- messages are got, the first of them last
got_chain : (x : Scope) (messages : List Message) → (first_in x).up ≡ true → Within messages x.world.ever
    → Chain (dealer_in x) x.place.nodes x.place.node x.world.ever (first_in x) nothing (with_got_each (first_in x) messages)
got_chain x [] up sent = none _ _ refl refl
got_chain x (m ∷ messages) up sent =
    more _ (with_got_each (first_in x) messages) nothing _ _ (got_chain x messages up (λ o h. sent o (inr h))) (gets m up (sent m (inl refl)) refl refl) refl

-- messages came, and the standing has them
begin_with : (x : Scope) (s after : Standing) (messages : List Message) → Runs x s → x.messages ≡ messages
    → Within messages x.world.ever → after.sessions ≡ s.sessions → after.up ≡ true → after.begun ≡ after.store → after.learned ≡ s.learned
    → Knows (dealer_in x) x.place (applied s) after (with_got_each (first_in x) messages)
    → Path x [] (hearing_of s (first_in x)) (applied s) (still after)
begin_with x s after messages r are sent talks runs unbegun learned knows = record {
  sent = [];
  shown = [];
  got = messages;
  node = with_got_each (first_in x) messages;
  chain = got_chain x messages (r.of.up ∙ r.up) sent;
  knows = knows;
  commands = commands_known s.learned.log (first_in x).known (r.of.runs r.up).knows.learner.knows;
  hears = refl;
  talks = talks;
  runs = runs;
  begun = r.of.begun ∙ ((r.of.runs r.up).unbegun ∙ sym r.of.store);
  unbegun = unbegun;
  starts = r.start;
  has = ap (λ (l : List Message). messages ++ l) r.had;
  carry = nothing_carried x.place.nodes x.place.node;
  all = nothing_lost x.place.nodes x.place.node;
  pieces = λ ends. nothing_shown x.place.node x.start x.log;
  logged = λ ends. r.log;
  unshown = λ q. refl;
  unvoted = λ q k b l c h. absurd h;
  unstored = λ q. refl;
  got_only = λ o h. inl (subst (λ (l : List Message). In o l) (sym are) h);
  got_all = λ o h. subst (λ (l : List Message). In o l) are h;
}

one_within : (m : Message) (ever : List Message) → In m ever → Within (m ∷ []) ever
one_within m ever sent o (inl e) = subst (λ (y : Message). In y ever) (sym e) sent
one_within m ever sent o (inr h) = absurd h

-- a message of another node that is no answer to a Prepare
pub begin_frame : (x : Scope) (s : Standing) (m : Message) (bs : List Ballot) → Runs x s → x.messages ≡ m ∷ []
    → In m x.world.ever → IsNoAnswer m → ballots_in m ≡ bs
    → Path x [] (hearing_of s (first_in x)) (applied s) (still (record s { seen = highest s.seen bs }))
begin_frame x s m bs r one sent other ballots =
    begin_with x s (record s { seen = highest s.seen bs }) (m ∷ []) r one (one_within m x.world.ever sent) refl r.up (r.of.runs r.up).unbegun refl
    (got_knows x.given (dealer_in x) x.place (applied s) s (first_in x) m (highest s.seen bs) other
    (sees_more (first_in x).has m (first_in x).store.promise s.seen bs ballots (r.of.runs r.up).knows.seen) (r.of.runs r.up).knows)

-- messages of a frame that tells this ballot, none of them an answer to a Prepare
abbrev pub AreOfFrame : Ballot → List Message → Type 0
AreOfFrame ballot [] = Unit {0}
AreOfFrame ballot (m ∷ messages) = IsNoAnswer m × (ballots_in m ≡ ballot ∷ []) × AreOfFrame ballot messages

pub of_proposals : (ballot : Ballot) (slot : ℕ) (commands : List Command) → AreOfFrame ballot (proposals ballot slot commands)
of_proposals ballot slot [] = tt
of_proposals ballot slot (command ∷ later) = (tt, refl, of_proposals ballot (slot + 1) later)

pub of_answers : (from : ℕ) (ballot : Ballot) (slot : ℕ) (commands : List Command) → AreOfFrame ballot (answers from ballot slot commands)
of_answers from ballot slot [] = tt
of_answers from ballot slot (command ∷ later) = (tt, refl, of_answers from ballot (slot + 1) later)

frame_knows : (g : Given) (d : Dealer) (place : Place) (upto : List Command) (s : Standing) (node : Node) (ballot : Ballot) (m : Message) (messages : List Message) → AreOfFrame ballot (m ∷ messages)
    → Knows d place upto s node → Knows d place upto (record s { seen = highest s.seen (ballot ∷ []) }) (with_got_each node (m ∷ messages))
frame_knows g d place upto s node ballot m [] are k =
    got_knows g d place upto s node m (highest s.seen (ballot ∷ [])) are.0 (sees_more node.has m node.store.promise s.seen (ballot ∷ []) are.1 k.seen) k
frame_knows g d place upto s node ballot m (next ∷ messages) are k =
    let rest = frame_knows g d place upto s node ballot next messages are.2 k in
    got_knows g d place upto (record s { seen = highest s.seen (ballot ∷ []) }) (with_got_each node (next ∷ messages)) m (highest s.seen (ballot ∷ [])) are.0
    (sees_again (next ∷ messages ++ node.has) m node.store.promise (highest s.seen (ballot ∷ []))
    (λ b h. highest_all s.seen (ballot ∷ []) b (subst (In b) are.1 h)) rest.seen)
    rest

-- they came
pub begin_frames : (x : Scope) (s : Standing) (ballot : Ballot) (m : Message) (messages : List Message) → Runs x s → x.messages ≡ m ∷ messages
    → Within (m ∷ messages) x.world.ever → AreOfFrame ballot (m ∷ messages)
    → Path x [] (hearing_of s (first_in x)) (applied s) (still (record s { seen = highest s.seen (ballot ∷ []) }))
begin_frames x s ballot m messages r are sent of_frame =
    begin_with x s (record s { seen = highest s.seen (ballot ∷ []) }) (m ∷ messages) r are sent refl r.up (r.of.runs r.up).unbegun refl
    (frame_knows x.given (dealer_in x) x.place (applied s) s (first_in x) ballot m messages of_frame (r.of.runs r.up).knows)

-- an answer to a Prepare came, and the campaign is what it makes of it
begin_answer : (x : Scope) (s : Standing) (m : Message) (bs : List Ballot) (campaign : Option Campaign) → Runs x s → x.messages ≡ m ∷ [] → In m x.world.ever → ballots_in m ≡ bs
    → (IsProposer x.place.nodes x.place.node (first_in x) (front_of s) s.campaign → IsProposer x.place.nodes x.place.node (with_got (first_in x) m) (front_of s) campaign)
    → Path x [] (hearing_of s (first_in x)) (applied s) (still (record s { seen = highest s.seen bs; campaign = campaign }))
begin_answer x s m bs campaign r one sent ballots proposer =
    begin_with x s (record s { seen = highest s.seen bs; campaign = campaign }) (m ∷ []) r one (one_within m x.world.ever sent) refl r.up (r.of.runs r.up).unbegun refl
    (record {
      up = k.up;
      store = k.store;
      within = k.within;
      proposer = proposer k.proposer;
      learner = got_learner x.place.nodes (first_in x).has (first_in x).known m s k.learner;
      pending = got_pending (dealer_in x) x.place.node (first_in x) m (applied s) s.pending k.pending;
      places = k.places;
      shown = k.shown;
      seen = sees_more (first_in x).has m (first_in x).store.promise s.seen bs ballots k.seen;
      proposals = got_proposed x.place.nodes x.place.node (applied s) (front_of s) (own_value x.place s) (first_in x).store (first_in x).has (first_in x).sent m k.proposals;
    })
  where
    k : Knows (dealer_in x) x.place (applied s) s (first_in x)
    k = (r.of.runs r.up).knows

-- ---- a promise is got and counted

told_promise : (a b : ℕ) (c d : Ballot) (s t : ℕ) (e f : Ballot) → Refuse a c s e ≡ Refuse b d t f → e ≡ f
told_promise a b c d s t e f same = cc

promise_campaign : (g : Given) (n i : ℕ) (node : Node) (front : ℕ) (c : Campaign) (from : ℕ) (ballot : Ballot) (first : ℕ) (told : List Entry)
    → Campaigns n i node c → Campaigns n i (with_got node (Promise from ballot first told)) (with_promise n c from ballot first told)
promise_campaign g n i node front c from ballot first told h = record {
  own = ap (λ (b : Ballot). b.node) stays.0 ∙ h.own;
  promised = h.promised ∙ sym stays.0;
  prepared = subst (λ (b : Ballot). In (Prepare b (with_promise n c from ballot first told).first) node.sent) (sym stays.0)
      (subst (λ (k : ℕ). In (Prepare c.ballot k) node.sent) (sym stays.1) h.prepared);
  counts = g.promise n (m ∷ node.has) c from ballot first told (inl refl) (g.others node.has c m h.counts);
  counts_all = g.promise_all n node.has c from ballot first told h.counts_all;
  marks = g.promise_marks n node.sent c from ballot first told h.marks;
  votes = λ s v e b. subst (λ (y : Ballot). In (Accept y s v.command) node.sent) (sym stays.0) (h.votes s v e (b ∙ stays.0));
  unrefused = λ k r s up had low. elim had [ inl e ↦ absurd (cc) | inr old ↦ h.unrefused k r s up old (subst (λ (y : Ballot). Below y up) stays.0 low) ];
}
  where
    m : Message
    m = Promise from ballot first told

    stays : ((with_promise n c from ballot first told).ballot ≡ c.ballot) × ((with_promise n c from ballot first told).first ≡ c.first)
    stays = g.promise_stays n c from ballot first told

promise_proposer : (g : Given) (n i : ℕ) (node : Node) (front : ℕ) (c : Option Campaign) (from : ℕ) (ballot : Ballot) (first : ℕ) (told : List Entry)
    → IsProposer n i node front c → IsProposer n i (with_got node (Promise from ballot first told)) front (counting_from n c from ballot first told)
promise_proposer g n i node front None from ballot first told p = record {
  is_campaign = tt;
  began = p.began;
  proposed = p.proposed;
  stands = λ b f st near left. let found = p.stands b f (record { began = st.began; promised = st.promised; unrefused = λ k r s up h. st.unrefused k r s up (inr h) }) near left in
      absurd (let e = found.1 in cc);
}
promise_proposer g n i node front (Some c) from ballot first told p = record {
  is_campaign = promise_campaign g n i node front c from ballot first told p.is_campaign;
  began = p.began;
  proposed = p.proposed;
  stands = λ b f st near left.
      let found = p.stands b f (record { began = st.began; promised = st.promised; unrefused = λ k r s up h. st.unrefused k r s up (inr h) }) near left in
      let same : c ≡ found.0 = same_Some c found.0 found.1 in
      let stays = g.promise_stays n c from ballot first told in
      (with_promise n c from ballot first told, refl, stays.0 ∙ (ap (λ (y : Campaign). y.ballot) same ∙ found.2), stays.1 ∙ (ap (λ (y : Campaign). y.first) same ∙ found.3));
}

pub begin_promise : (x : Scope) (s : Standing) (from : ℕ) (ballot : Ballot) (first : ℕ) (told : List Entry) (bs : List Ballot) → Runs x s
    → x.messages ≡ Promise from ballot first told ∷ [] → In (Promise from ballot first told) x.world.ever
    → ballots_in (Promise from ballot first told) ≡ bs
    → Path x [] (hearing_of s (first_in x)) (applied s)
    (still (record s { seen = highest s.seen bs; campaign = counting_from x.place.nodes s.campaign from ballot first told }))
begin_promise x s from ballot first told bs r one sent ballots =
    begin_answer x s (Promise from ballot first told) bs (counting_from x.place.nodes s.campaign from ballot first told) r one sent ballots
    (promise_proposer x.given x.place.nodes x.place.node (first_in x) (front_of s) s.campaign from ballot first told)

-- ---- a refusal is got, and a ballot that is outbid is given up

refused_by : (g : Given) (n i : ℕ) (node : Node) (front : ℕ) (c : Campaign) (from : ℕ) (refused : Ballot) (slot : ℕ) (promised : Ballot) (b : Bool)
    → is_below c.ballot promised ≡ b → IsProposer n i node front (Some c)
    → IsProposer n i (with_got node (Refuse from refused slot promised)) front (if b then None else Some c)
refused_by g n i node front c from refused slot promised false e p = record {
  is_campaign = record {
    own = p.is_campaign.own;
    promised = p.is_campaign.promised;
    prepared = p.is_campaign.prepared;
    counts = g.others node.has c (Refuse from refused slot promised) p.is_campaign.counts;
    counts_all = g.others_all n node.has c (Refuse from refused slot promised) (λ k told same. absurd (cc)) p.is_campaign.counts_all;
    marks = p.is_campaign.marks;
    votes = p.is_campaign.votes;
    unrefused = λ k r s up had low. elim had [
      | inl same ↦ not_below promised c.ballot (at_most_if_not c.ballot promised e) (subst (λ (y : Ballot). Below c.ballot y) (told_promise k from r refused s slot up promised same) low)
      | inr old ↦ p.is_campaign.unrefused k r s up old low
    ];
  };
  began = p.began;
  proposed = p.proposed;
  stands = λ b f st. p.stands b f (stood_before node (Refuse from refused slot promised) b f st);
}
refused_by g n i node front c from refused slot promised true e p = record {
  is_campaign = tt;
  began = p.began;
  proposed = p.proposed;
  stands = λ b f st near left. let found = p.stands b f (stood_before node (Refuse from refused slot promised) b f st) near left in
      absurd (st.unrefused from refused slot promised (inl refl)
      (subst (λ (y : Ballot). Below y promised) (ap (λ (y : Campaign). y.ballot) (same_Some c found.0 found.1) ∙ found.2) (below_if c.ballot promised e)));
}

refused_proposer : (g : Given) (n i : ℕ) (node : Node) (front : ℕ) (c : Option Campaign) (from : ℕ) (refused : Ballot) (slot : ℕ) (promised : Ballot)
    → IsProposer n i node front c → IsProposer n i (with_got node (Refuse from refused slot promised)) front (refused_from c promised)
refused_proposer g n i node front None from refused slot promised p = record {
  is_campaign = tt;
  began = p.began;
  proposed = p.proposed;
  stands = λ b f st. p.stands b f (stood_before node (Refuse from refused slot promised) b f st);
}
refused_proposer g n i node front (Some c) from refused slot promised p = refused_by g n i node front c from refused slot promised (is_below c.ballot promised) refl p

pub begin_refusal : (x : Scope) (s : Standing) (from : ℕ) (refused : Ballot) (slot : ℕ) (promised : Ballot) (bs : List Ballot) → Runs x s
    → x.messages ≡ Refuse from refused slot promised ∷ [] → In (Refuse from refused slot promised) x.world.ever
    → ballots_in (Refuse from refused slot promised) ≡ bs
    → Path x [] (hearing_of s (first_in x)) (applied s) (still (record s { seen = highest s.seen bs; campaign = refused_from s.campaign promised }))
begin_refusal x s from refused slot promised bs r one sent ballots =
    begin_answer x s (Refuse from refused slot promised) bs (refused_from s.campaign promised) r one sent ballots
    (refused_proposer x.given x.place.nodes x.place.node (first_in x) (front_of s) s.campaign from refused slot promised)

-- ---- stages one after another

pub and_goes : (x : Scope) (came : List Arrival) (heard : Hearing) (r : Result Turn Refusal) (next : Standing → Result Turn Refusal) → Goes x came heard r
    → ((u : Turn) → Path x came heard (applied u.after) u → Goes x came heard (behind u (next u.after))) → Goes x came heard (and_then r next)
and_goes x came heard (Ok u) next goes step = step u goes
and_goes x came heard (Err e) next goes step = goes

-- ---- a path ends

pub finish : (x : Scope) (came : List Arrival) (heard : Hearing) (turn : Turn) (events : List (List Event)) → x.ends ≡ true → Path x came heard (applied turn.after) turn
    → ((m : Message) → In m x.had → In m (first_in x).has)
    → AreSessions x.place.setting.game heard.talks heard.bytes → In (events_of came) events → IsSettled x.place turn.after
    → Taken x.own x.place x.world.ever (first_in x) x.log x.messages events turn.frames turn.shown turn.after
finish x came heard turn events ends p kept sessions happened settled = record {
  called = record {
    output = record { sent = p.sent; shown = p.shown; came = came };
    last = p.node;
    chain = p.chain;
    of = record {
      up = p.knows.up ∙ sym p.runs;
      store = p.knows.store;
      begun = p.begun ∙ (p.knows.store ∙ sym p.unbegun);
      runs = λ up. record {
        unbegun = p.unbegun;
        knows = p.knows;
        sessions = subst (λ (h : ℕ → Option (List ℕ)). AreSessions x.place.setting.game turn.after.sessions h) (sym p.hears)
            (subst (λ (l : List (Option Talk)). AreSessions x.place.setting.game l heard.bytes) (sym p.talks) sessions);
        settled = settled;
      };
    };
    carry = p.carry;
    shown = subst (λ (k : ℕ). AreShown x.place.node k x.log turn.shown p.shown) (sym p.starts) (p.pieces ends);
    logged = λ up. p.logged ends;
    got = got_from;
    happened = happened;
  };
  all_carried = p.all;
  all_got = λ m h. has_in x came heard (applied turn.after) turn p m h;
}
  where
    got_from : HasGotAtMost (first_in x).has x.messages p.sent p.node.has
    got_from m h = elim (in_split p.got x.had m (subst (λ (l : List Message). In m l) p.has h)) [
      | inl new ↦ elim (p.got_only m new) [ inl a ↦ inr (inl a) | inr b ↦ inr (inr b) ]
      | inr old ↦ inl (kept m old)
    ]
