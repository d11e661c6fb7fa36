-- Members at rest in the world: what their standings are.
use Rattle.std.proofs.Common.{◌≡◌, ℕ, ◌+◌, ◌<◌, ◌≤◌, ◌-◌, ◌^◌, ◌||◌, ◌==◌, inl, inr, Bool, true, false, List, [], ◌∷◌, Option, Some, None, refl, sym, ap, subst, ◌∙◌, arith, length}
use Rattle.std.specs.Prelude.{nat_le}
use Rattle.std.proofs.lemmas.Bool.{eqb-true, leb-true}
use Rattle.paxos_wire.specs.declared.limits.TheConstants.{SLOTS, WINDOW}
use Rattle.paxos_wire.specs.declared.ballot.Ballot.{Ballot}
use Rattle.paxos_wire.specs.declared.entry.Entry.{Entry}
use Rattle.slot_log.specs.Slots.{IsLog, known_at, front}
use Rattle.slot_log.specs.declared.command.Command.{Command}
use Rattle.protocol_model.specs.Sets.{In}
use Rattle.protocol_model.specs.Ballots.{Below, AtMost}
use Rattle.protocol_model.specs.Messages.{Vote, Message, Prepare, Promise, Accept, Accepted}
use Rattle.protocol_model.specs.Stores.{Store, promised}
use Rattle.protocol_model.specs.Backing.{IsWithinPromise}
use Rattle.protocol_model.specs.Nodes.{Node}
use Rattle.protocol_model.specs.Dealers.{Dealer}
use Rattle.protocol_model.specs.Moves.{Output, nothing, with_store, with_sent, Chain, none, more, begins}
use Rattle.protocol_model.specs.Worlds.{World, Reached, IsAfter, new_world}
use Rattle.dealer_kind.specs.Kind.{Setting, dealer_of}
use Rattle.learner.specs.Learning.{Learned}
use Rattle.node_rules.specs.Standings.{Place, Standing, applied, front_of}
use Rattle.protocol_model.specs.Votes.{told_by}
use Rattle.node_rules.specs.Proposing.{greatest_seen, is_spent}
use Rattle.node_rules.specs.Being.{IsLearner, Knows}
use Rattle.node_rules.specs.Calm.{IsLeastQuorum, AreGreatestHeld, ballot_after, WouldPropose}
use Rattle.node_rules.specs.CalmRound.{place_in, AreOf}
use Rattle.node_rules.specs.Ways.{Movable, AreUnpromised}
use Rattle.node_rules.specs.Given.{Given}
use Rattle.protocol_model.proofs.Sets.{in_later}
use Rattle.node_rules.proofs.Sourcing.{had_was_sent}
use Rattle.protocol_model.proofs.Ballots.{at_most_trans, below_of_at_most, not_below}
use Rattle.protocol_model.proofs.Votes.{tells}
use Rattle.node_rules.proofs.Agreeing.{votes_agree}
use Rattle.node_rules.proofs.Members.{above_all}
use Rattle.node_rules.proofs.HeldKnown.{held_is_known}
use Rattle.node_rules.proofs.RunHeard.{KnowsOnly}
use Rattle.node_rules.proofs.Counting.{Counts}
use Rattle.node_rules.proofs.KeptVotes.{KeepsVotes, over_same, proposes_same}
use Rattle.node_rules.proofs.CalmTurns.{IsRest}

-- ---- a ballot that its node may begin has no proposal

unproposed : (g : Given) (dealer : Dealer) (n i : ℕ) (world : World) (ballot : Ballot) (slot : ℕ) (c : Command) → Reached dealer n world → i < n → (world.nodes i).up ≡ true
    → ballot.node ≡ i → Below (world.nodes i).store.promise ballot → ((b : Ballot) (s : ℕ) (d : Command) → In (Accept b s d) (world.nodes i).sent → Below (world.nodes i).store.promise b → ⊥)
    → In (Accept ballot slot c) world.ever → ⊥
unproposed g dealer n i world ballot slot c reached low up mine above none_above had = by_sent (subst (λ (k : Node). In (Accept ballot slot c) k.sent) after.moved own)
  where
    told : List Entry
    told = told_by (world.nodes i).store slot

    out : Output
    out = record { sent = Promise i ballot slot (told_by (world.nodes i).store slot) ∷ Prepare ballot slot ∷ []; shown = []; came = [] }

    begun : Node
    begun = with_sent (with_store (world.nodes i) (promised (world.nodes i).store ballot)) (Promise i ballot slot (told_by (world.nodes i).store slot) ∷ Prepare ballot slot ∷ [])

    chain : Chain dealer n i world.ever (world.nodes i)
        (record { sent = Promise i ballot slot (told_by (world.nodes i).store slot) ∷ Prepare ballot slot ∷ []; shown = []; came = [] })
        (with_sent (with_store (world.nodes i) (promised (world.nodes i).store ballot)) (Promise i ballot slot (told_by (world.nodes i).store slot) ∷ Prepare ballot slot ∷ []))
    chain = more nothing (world.nodes i) out out begun (none nothing (world.nodes i) refl refl)
        (begins ballot slot told up mine above (tells (world.nodes i).store slot) refl refl) refl

    later : (new : World) × Reached dealer n new × IsAfter world i
        (record { sent = Promise i ballot slot (told_by (world.nodes i).store slot) ∷ Prepare ballot slot ∷ []; shown = []; came = [] })
        (with_sent (with_store (world.nodes i) (promised (world.nodes i).store ballot)) (Promise i ballot slot (told_by (world.nodes i).store slot) ∷ Prepare ballot slot ∷ [])) new
    later = g.reach dealer n i new_world world out begun reached low chain

    after : IsAfter world i
        (record { sent = Promise i ballot slot (told_by (world.nodes i).store slot) ∷ Prepare ballot slot ∷ []; shown = []; came = [] })
        (with_sent (with_store (world.nodes i) (promised (world.nodes i).store ballot)) (Promise i ballot slot (told_by (world.nodes i).store slot) ∷ Prepare ballot slot ∷ [])) later.0
    after = later.2

    own : In (Accept ballot slot c) (later.0.nodes i).sent
    own = g.own_proposal dealer n i later.0 ballot slot slot c later.1
        (subst (λ (k : Node). In (Prepare ballot slot) k.sent) (sym after.moved) (inr (inl refl)))
        (subst (λ (l : List Message). In (Accept ballot slot c) l) (sym after.ever) (in_later out.sent world.ever (Accept ballot slot c) had))

    by_sent : In (Accept ballot slot c) (Promise i ballot slot (told_by (world.nodes i).store slot) ∷ Prepare ballot slot ∷ (world.nodes i).sent) → ⊥
    by_sent (inl e) = cc
    by_sent (inr (inl e)) = cc
    by_sent (inr (inr h)) = none_above ballot slot c h above

-- ---- the members

or_false : (a b : Bool) → (a ≡ true → ⊥) → (b ≡ true → ⊥) → (a || b) ≡ false
or_false true b x y = absurd (x refl)
or_false false true x y = absurd (y refl)
or_false false false x y = refl

pub unspent : (i : ℕ) (s : Standing) → (ballot_after i s).round < 2 ^ 32 → front_of s < SLOTS → is_spent s ≡ false
unspent i s round_left slot_left =
    or_false ((greatest_seen s).round == 2 ^ 32 - 1) (nat_le SLOTS (front_of s))
    (λ e. let k = eqb-true (greatest_seen s).round (2 ^ 32 - 1) e in omega (arith, k))
    (λ e. let k = leb-true SLOTS (front_of s) e in omega arith)

-- how many commands a round has
record HasMany (standings : ℕ → Standing) (i : ℕ) (commands : List Command) : Type 0 where
  pub least : 1 ≤ length commands
  pub most : length commands ≤ WINDOW
  pub slots : front_of (standings i) + length commands ≤ SLOTS

many_of : (place : Place) (standings : ℕ → Standing) (i : ℕ) (members : List ℕ) (commands : List Command)
    → front_of (standings i) < SLOTS → WouldPropose place standings i members commands → HasMany standings i commands
many_of place standings i members commands left (inl told) = record { least = told.least; most = told.most; slots = told.slots }
many_of place standings i members commands left (inr mine) =
    let one : length commands ≡ 1 = ap (λ (cs : List Command). length cs) mine.1 in
    record { least = omega (arith, one); most = omega (arith, one); slots = omega (arith, one, left) }

-- where the node knows a command at a slot, it is what a quorum holds highest there
known_held : (g : Given) (own : ℕ → Command → Bool) (setting : Setting) (n : ℕ) (deals : ℕ → ℕ → Option (List ℕ)) (world : World) (standings : ℕ → Standing) (i : ℕ) (members : List ℕ)
    → AreOf own setting n deals world standings members → IsLeastQuorum n members → ((slot : ℕ) (known : Command) → known_at (standings i).learned.log slot ≡ Some known → In (slot, known) (world.nodes i).known)
    → (slot : ℕ) (commands : List Command) → AreGreatestHeld standings members slot commands → KnowsOnly (standings i).learned.log slot commands
known_held g own setting n deals world standings i members are quorum knows slot [] held = tt
known_held g own setting n deals world standings i members are quorum knows slot (command ∷ later) held = (
  (λ known e. sym (held_is_known g own setting n deals world standings members slot i command known are quorum held.0 (knows slot known e))),
  known_held g own setting n deals world standings i members are quorum knows (slot + 1) later held.1,
)

-- what node i knows at the slots of the commands are these
known_only : (g : Given) (own : ℕ → Command → Bool) (setting : Setting) (n : ℕ) (deals : ℕ → ℕ → Option (List ℕ)) (world : World) (standings : ℕ → Standing) (i : ℕ) (members : List ℕ) (commands : List Command)
    → AreOf own setting n deals world standings members → IsLeastQuorum n members → IsLearner n (world.nodes i).has (world.nodes i).known (standings i).learned
    → WouldPropose (place_in setting n deals i) standings i members commands → KnowsOnly (standings i).learned.log (front_of (standings i)) commands
known_only g own setting n deals world standings i members commands are quorum l (inl told) =
    known_held g own setting n deals world standings i members are quorum l.knows (front_of (standings i)) commands told.held
known_only g own setting n deals world standings i members commands are quorum l (inr mine) =
    subst (λ (cs : List Command). KnowsOnly (standings i).learned.log (front_of (standings i)) cs) (sym mine.1)
    ((λ known e. absurd (let clash : ◌≡◌ {A = Option Command} None (Some known) = sym (g.hole (standings i).learned.log l.log).1 ∙ e in cc)), tt)

-- members that keep their votes, and have promised only ballots below node i's next one, are at rest
pub rest_by : (g : Given) (own : ℕ → Command → Bool) (setting : Setting) (n : ℕ) (deals : ℕ → ℕ → Option (List ℕ)) (world : World) (standings new : ℕ → Standing) (i : ℕ) (members : List ℕ) (commands : List Command)
    → AreOf own setting n deals world standings members → Movable (place_in setting n deals i) standings i members commands → ((k : ℕ) → In k members → KeepsVotes (standings k) (new k))
    → (ballot_after i (new i)).round < 2 ^ 32 → AreUnpromised new i members
    → IsRest (record { given = g; setting = setting; n = n; deals = deals; standings = new; i = i; members = members; commands = commands })
rest_by g own setting n deals world standings new i members commands are movable keeps round_left unpromised = record {
  few = (are.is_place i movable.member).few;
  low = λ k h. (above_all 0 n members k movable.quorum.rise h).1;
  quorum = movable.quorum;
  member = movable.member;
  up = λ k h. (keeps k h).up ∙ movable.up k h;
  slot_left = slot_left;
  above = unpromised;
  not_over = over_same (place_in setting n deals i) (new i) (standings i) mine.learned ∙ movable.goes_on;
  not_spent = unspent i (new i) round_left slot_left;
  within = λ k h slot v e. at_most_trans v.ballot (standings k).store.promise (new k).store.promise
      (within k h slot v (ap (λ (votes : ℕ → Option Vote). votes slot) (sym (keeps k h).votes) ∙ e)) (keeps k h).promise;
  agree = λ slot m k hm hk v w ev ew same. votes_agree g dealer n world m k slot v w are.reached (vote_in_world m hm slot v ev) (vote_in_world k hk slot w ew) same;
  least = many.least;
  most = many.most;
  slots = many.slots;
  value = value;
  known_so = subst (λ (l : Learned). KnowsOnly l.log (front l.log) commands) (sym mine.learned)
      (known_only g own setting n deals world standings i members commands are movable.quorum (knows i movable.member).learner movable.value);
  came = λ k h. (knows k h).learner.in_time;
  nodes = λ k h. ap (λ (l : Learned). l.nodes) (keeps k h).learned ∙ (knows k h).learner.nodes;
  log = λ k h. subst (λ (l : Learned). IsLog l.log) (sym (keeps k h).learned) (knows k h).learner.log;
  counts = λ k h. subst (Counts (knows k h).learner.in_time) (sym (keeps k h).learned)
      (record { counts_from = (knows k h).learner.counts; counts_all = (knows k h).learner.counts_all; knows_chosen = (knows k h).learner.knows_chosen });
  unvoted = λ k h voter slot c had.
      unproposed g dealer n i world (ballot_after i (new i)) slot c are.reached (are.is_place i movable.member).node ((are.of i movable.member).up ∙ movable.up i movable.member) refl above_old
      (λ b s d sent up. not_below b (world.nodes i).store.promise ((knows i movable.member).proposer.proposed b s d sent) up)
      (g.proposed dealer n voter world (ballot_after i (new i)) slot c are.reached
      (had_was_sent dealer n k world (Accepted voter (ballot_after i (new i)) slot c) are.reached ((knows k h).learner.came (Accepted voter (ballot_after i (new i)) slot c) had)));
}
  where
    dealer : Dealer
    dealer = dealer_of setting own

    mine : KeepsVotes (standings i) (new i)
    mine = keeps i movable.member

    knows : (k : ℕ) (h : In k members) → Knows (dealer_of setting own) (place_in setting n deals k) (applied (standings k)) (standings k) (world.nodes k)
    knows k h = ((are.of k h).runs (movable.up k h)).knows

    slot_left : front_of (new i) < SLOTS
    slot_left = subst (λ (l : Learned). front l.log < SLOTS) (sym mine.learned) movable.slot_left

    value : WouldPropose (place_in setting n deals i) new i members commands
    value = proposes_same (place_in setting n deals i) standings new i members commands (λ k h. (keeps k h).votes) mine.learned mine.pending movable.value

    many : HasMany new i commands
    many = many_of (place_in setting n deals i) new i members commands slot_left value

    within : (k : ℕ) → In k members → IsWithinPromise (standings k).store
    within k h = subst IsWithinPromise (are.of k h).store (knows k h).within

    vote_in_world : (k : ℕ) → In k members → (slot : ℕ) (v : Vote) → (new k).store.votes slot ≡ Some v → (world.nodes k).store.votes slot ≡ Some v
    vote_in_world k h slot v e = ap (λ (st : Store). st.votes slot) (are.of k h).store ∙ (ap (λ (votes : ℕ → Option Vote). votes slot) (sym (keeps k h).votes) ∙ e)

    above_old : Below (world.nodes i).store.promise (ballot_after i (new i))
    above_old = below_of_at_most (world.nodes i).store.promise (new i).store.promise (ballot_after i (new i))
        (subst (λ (st : Store). AtMost st.promise (new i).store.promise) (sym (are.of i movable.member).store) mine.promise) (unpromised i movable.member)
