-- The two ways on, and that there is always one.
use Rattle.std.proofs.Common.{◌≡◌, ◌≢◌, ℕ, suc, ◌+◌, ◌*◌, ◌^◌, ◌<◌, ◌≤◌, ◌⊎◌, inl, inr, Bool, true, false, List, [], ◌∷◌, ◌++◌, Option, map, length, length-append, refl, sym, ap, subst, arith}
use Rattle.std.proofs.lemmas.List.{length-map}
use Rattle.std.proofs.lemmas.Bool.Decides.{eqb_tells}
use Rattle.paxos_wire.specs.declared.ballot.Ballot.{Ballot}
use Rattle.paxos_wire.specs.declared.message.Message.TheVariants.{Prepare, Promise, Accept, Accepted}
use Rattle.paxos_wire.specs.Order.{is_below}
use Rattle.slot_log.specs.Slots.{front}
use Rattle.slot_log.specs.declared.command.Command.{Command}
use Rattle.protocol_model.specs.Sets.{In}
use Rattle.protocol_model.specs.Ballots.{Below, AtMost}
use Rattle.protocol_model.specs.Stores.{Store}
use Rattle.protocol_model.specs.Votes.{told_by}
use Rattle.protocol_model.specs.Worlds.{World}
use Rattle.protocol_model.proofs.Ballots.{at_most_self, at_most_trans, at_most_of_below, below_of_at_most, not_below, below_cases}
use Rattle.proposer.specs.Campaigns.{next_ballot}
use Rattle.learner.specs.Learning.{Learned}
use Rattle.dealer_kind.specs.Kind.{Setting}
use Rattle.node_rules.specs.Standings.{Place, Standing, front_of}
use Rattle.node_rules.specs.Proposing.{greatest_seen}
use Rattle.node_rules.specs.Calm.{without, ballot_after, Event, Ticks, delivers, round_by, round}
use Rattle.node_rules.specs.CalmRound.{place_in, GoOn, HasMovedOn, AreOf, CalmRoundMoves}
use Rattle.node_rules.specs.Ways.{Movable, AreUnpromised, PromisedMost, Outbids, two_ballots, IsWay, at_once, outbid, HasShortWay, NoDeadEnd, MostIsUnpromised, CalmIsMovable}
use Rattle.node_rules.specs.Given.{Given}
use Rattle.node_rules.proofs.NextBallots.{below_next, promise_below, seen_below}
use Rattle.node_rules.proofs.Members.{above_all, rise_distinct, without_in, in_without, without_length}
use Rattle.node_rules.proofs.KeptVotes.{KeepsVotes, keeps_self}
use Rattle.node_rules.proofs.CalmTurns.{Round, IsRest}
use Rattle.node_rules.proofs.CalmSteps.{go_on_to, with_more_sent}
use Rattle.node_rules.proofs.CalmRound.{MovedLow, rounds_go_on}
use Rattle.node_rules.proofs.Calming.{unspent, rest_by}
use Rattle.node_rules.proofs.OutbidTurns.{outbid_standings, outbid_own, stored_same, outbid_keeps, next_is, outbid_goes}

-- ---- who promised most

pub most_is_unpromised : MostIsUnpromised
most_is_unpromised standings members j most node h =
    below_of_at_most (standings node).store.promise (standings j).store.promise (ballot_after j (standings j)) (most node h) (promise_below j (standings j))

record HasMost (standings : ℕ → Standing) (members : List ℕ) : Type 0 where
  node : ℕ
  member : In node members
  most : PromisedMost standings members node

-- of the first and of those behind it
most_step : (standings : ℕ → Standing) (m : ℕ) (members : List ℕ) (later : HasMost standings members)
    → ((is_below (standings m).store.promise (standings later.node).store.promise ≡ true) × Below (standings m).store.promise (standings later.node).store.promise)
    ⊎ ((is_below (standings m).store.promise (standings later.node).store.promise ≡ false) × AtMost (standings later.node).store.promise (standings m).store.promise)
    → HasMost standings (m ∷ members)
most_step standings m members later (inl low) = record {
  node = later.node;
  member = inr later.member;
  most = λ k h. elim h [
    | inl e ↦ subst (λ (x : ℕ). AtMost (standings x).store.promise (standings later.node).store.promise) (sym e)
        (at_most_of_below (standings m).store.promise (standings later.node).store.promise low.1)
    | inr there ↦ later.most k there
  ];
}
most_step standings m members later (inr high) = record {
  node = m;
  member = inl refl;
  most = λ k h. elim h [
    | inl e ↦ subst (λ (x : ℕ). AtMost (standings x).store.promise (standings m).store.promise) (sym e) (at_most_self (standings m).store.promise)
    | inr there ↦ at_most_trans (standings k).store.promise (standings later.node).store.promise (standings m).store.promise (later.most k there) high.1
  ];
}

most_of : (standings : ℕ → Standing) (m : ℕ) (members : List ℕ) → HasMost standings (m ∷ members)
most_of standings m [] = record {
  node = m;
  member = inl refl;
  most = λ k h. elim h [ inl e ↦ subst (λ (x : ℕ). AtMost (standings x).store.promise (standings m).store.promise) (sym e) (at_most_self (standings m).store.promise) | inr none ↦ absurd none ];
}
most_of standings m (next ∷ members) =
    let later = most_of standings next members in
    most_step standings m (next ∷ members) later (below_cases (standings m).store.promise (standings later.node).store.promise)

-- of some members
most_among : (standings : ℕ → Standing) (i : ℕ) (members : List ℕ) → In i members → HasMost standings members
most_among standings i [] h = absurd h
most_among standings i (m ∷ members) h = most_of standings m members

-- ---- how long they are

pub length_round : (ballot : Ballot) (standings : ℕ → Standing) (i : ℕ) (members : List ℕ) (commands : List Command) → length (round_by ballot standings i members commands) ≡ 1 + 4 * length (without i members)
length_round ballot standings i members commands =
    let others : List ℕ = without i members in
    let asks : ℕ → Event = λ j. delivers i j (Prepare ballot (front_of (standings i))) in
    let promises : ℕ → Event = λ j. delivers j i (Promise ballot (front_of (standings i)) (told_by (standings j).store (front_of (standings i)))) in
    let proposes : ℕ → Event = λ j. delivers i j (Accept ballot (front_of (standings i)) commands) in
    let accepts : ℕ → Event = λ j. delivers j i (Accepted ballot (front_of (standings i)) commands) in
    omega (
      arith,
      length-map others asks,
      length-map others promises,
      length-map others proposes,
      length-map others accepts,
      length-append (map asks others) (map promises others ++ (map proposes others ++ map accepts others)),
      length-append (map promises others) (map proposes others ++ map accepts others),
      length-append (map proposes others) (map accepts others),
    )

pub short_way : (place : Place) (standings : ℕ → Standing) (i : ℕ) (members : List ℕ) (commands : List Command) → Movable place standings i members commands → HasShortWay standings i members commands
short_way place standings i members commands movable = by_order (below_cases (standings j).store.promise (ballot_after i (standings i)))
  where
    top : HasMost standings members
    top = most_among standings i members movable.member

    j : ℕ
    j = (most_among standings i members movable.member).node

    count : suc (length (without i members)) ≡ length members
    count = without_length i place.nodes members (rise_distinct 0 place.nodes members movable.quorum.rise) movable.member

    other : AtMost (ballot_after i (standings i)) (standings (most_among standings i members movable.member).node).store.promise → (most_among standings i members movable.member).node ≢ i
    other above e = not_below (ballot_after i (standings i)) (standings i).store.promise
        (subst (λ (k : ℕ). AtMost (ballot_after i (standings i)) (standings k).store.promise) e above) (promise_below i (standings i))

    by_order : ((is_below (standings (most_among standings i members movable.member).node).store.promise (ballot_after i (standings i)) ≡ true)
        × Below (standings (most_among standings i members movable.member).node).store.promise (ballot_after i (standings i)))
        ⊎ ((is_below (standings (most_among standings i members movable.member).node).store.promise (ballot_after i (standings i)) ≡ false)
        × AtMost (ballot_after i (standings i)) (standings (most_among standings i members movable.member).node).store.promise)
        → HasShortWay standings i members commands
    by_order (inl low) = (
      round standings i members commands,
      at_once (λ k h. below_of_at_most (standings k).store.promise (standings j).store.promise (ballot_after i (standings i)) (top.most k h) low.1) refl,
      omega (arith, count, length_round (ballot_after i (standings i)) standings i members commands),
    )
    by_order (inr high) = (
      two_ballots standings i members commands j,
      outbid j (record { member = in_without i members j top.member (other high.1); most = top.most; above = λ low. not_below (ballot_after i (standings i)) (standings j).store.promise high.1 low }) refl,
      omega (arith, count, length_round (next_ballot i (standings j).store.promise) standings i members commands),
    )

-- ---- where they lead

pub map_same : {A : Type 0} (f h : ℕ → A) (js : List ℕ) → ((j : ℕ) → In j js → f j ≡ h j) → map f js ≡ map h js
map_same f h [] same = refl
map_same f h (j ∷ js) same = λ k. same j (inl refl) k ∷ map_same f h js (λ m i. same m (inr i)) k

-- a round by its ballot, its slot, and what the other members have stored
pub round_same : (ballot other : Ballot) (a b : ℕ → Standing) (i : ℕ) (members : List ℕ) (commands : List Command) → ballot ≡ other → front_of (a i) ≡ front_of (b i)
    → ((k : ℕ) → In k (without i members) → (a k).store ≡ (b k).store) → round_by ballot a i members commands ≡ round_by other b i members commands
round_same ballot other a b i members commands same fronts stores = λ k.
    Ticks i ∷ (map (λ j. delivers i j (Prepare (same k) (fronts k))) (without i members)
    ++ (told k
    ++ (map (λ j. delivers i j (Accept (same k) (fronts k) commands)) (without i members)
    ++ map (λ j. delivers j i (Accepted (same k) (fronts k) commands)) (without i members))))
  where
    told : map (λ j. delivers j i (Promise ballot (front_of (a i)) (told_by (a j).store (front_of (a i))))) (without i members)
        ≡ map (λ j. delivers j i (Promise other (front_of (b i)) (told_by (b j).store (front_of (b i))))) (without i members)
    told = map_same _ _ (without i members) (λ j h k. delivers j i (Promise (same k) (fronts k) (told_by (stores j h k) (fronts k))))

-- where a way leads: the front has passed the commands, and no member has promised a ballot above the last one, nor has the node seen one, which it has promised
-- itself and which isn't of a round above this one
pub record MovesLow (i : ℕ) (members : List ℕ) (slot : ℕ) (commands : List Command) (most : ℕ) (new : ℕ → Standing) : Type 0 where
  pub moved : HasMovedOn i slot commands new
  pub ballot : Ballot
  pub round : ballot.round ≤ most
  pub seen : AtMost (new i).seen ballot
  pub own : (new i).store.promise ≡ ballot
  pub promises : (k : ℕ) → In k members → AtMost (new k).store.promise ballot

-- in one round
pub one_round : (g : Given) (own : ℕ → Command → Bool) (setting : Setting) (n : ℕ) (deals : ℕ → ℕ → Option (List ℕ)) (world : World) (standings : ℕ → Standing) (i : ℕ) (members : List ℕ) (commands : List Command)
    (most : ℕ) → AreOf own setting n deals world standings members → Movable (place_in setting n deals i) standings i members commands → AreUnpromised standings i members
    → (greatest_seen (standings i)).round < most
    → GoOn (place_in setting n deals) (MovesLow i members (front_of (standings i)) commands most) standings [] (round standings i members commands)
one_round g own setting n deals world standings i members commands most are movable unpromised low =
    go_on_to (place_in setting n deals) (MovedLow r) (MovesLow i members (front_of (standings i)) commands most) standings [] (round standings i members commands)
    (λ new so. let end = so.1 in record { moved = so.0; ballot = ballot_after i (standings i); round = omega (arith, low); seen = end.seen; own = end.own; promises = end.promises })
    (rounds_go_on r (rest_by g own setting n deals world standings standings i members commands are movable (λ k h. keeps_self (standings k)) movable.seen_left unpromised))
  where
    r : Round
    r = record { given = g; setting = setting; n = n; deals = deals; standings = standings; i = i; members = members; commands = commands }

-- by a ballot that is refused, and the round of the next
pub by_two_ballots : (g : Given) (own : ℕ → Command → Bool) (setting : Setting) (n : ℕ) (deals : ℕ → ℕ → Option (List ℕ)) (world : World) (standings : ℕ → Standing) (i : ℕ) (members : List ℕ) (commands : List Command)
    (most j : ℕ) → AreOf own setting n deals world standings members → Movable (place_in setting n deals i) standings i members commands → Outbids standings i members j
    → (standings j).store.promise.round < most
    → GoOn (place_in setting n deals) (MovesLow i members (front_of (standings i)) commands most) standings [] (two_ballots standings i members commands j)
by_two_ballots g own setting n deals world standings i members commands top j are movable bid told_low =
    outbid_goes r j low other (movable.up i movable.member) (movable.up j member) (are.is_place i movable.member).few movable.goes_on (unspent i (standings i) movable.seen_left movable.slot_left)
    bid.above ((are.of j member).runs (movable.up j member)).settled Ended (round_by (next_ballot i promise) standings i members commands)
    (λ more. with_more_sent (place_in setting n deals) Ended (outbid_standings r j) [] more (round_by (next_ballot i promise) standings i members commands) (λ x h. absurd h)
    (subst (GoOn (place_in setting n deals) Ended (outbid_standings r j) []) same_round
    (go_on_to (place_in setting n deals) (MovedLow (record r { standings = outbid_standings r j })) Ended (outbid_standings r j) [] (round (outbid_standings r j) i members commands)
    (λ new so. let end = so.1 in record {
      moved = subst (λ (slot : ℕ). HasMovedOn i slot commands new) same_front so.0;
      ballot = ballot_after i (outbid_standings r j i);
      round = subst (λ (b : Ballot). b.round ≤ top) (sym next) (omega (arith, told_low));
      seen = end.seen;
      own = end.own;
      promises = end.promises;
    })
    (rounds_go_on (record r { standings = outbid_standings r j }) rest))))
  where
    r : Round
    r = record { given = g; setting = setting; n = n; deals = deals; standings = standings; i = i; members = members; commands = commands }

    Ended : (ℕ → Standing) → Type 0
    Ended = MovesLow i members (front_of (standings i)) commands top

    promise : Ballot
    promise = (standings j).store.promise

    member : In j members
    member = (without_in i members j bid.member).0

    other : j ≢ i
    other = (without_in i members j bid.member).1

    low : j < n
    low = (above_all 0 n members j movable.quorum.rise (without_in i members j bid.member).0).1

    high : AtMost (ballot_after i (standings i)) (standings j).store.promise
    high = elim (below_cases (standings j).store.promise (ballot_after i (standings i))) [ inl below ↦ absurd (bid.above below.1) | inr most ↦ most.1 ]

    keeps : (k : ℕ) → In k members → KeepsVotes (standings k) (outbid_standings r j k)
    keeps k h = outbid_keeps r j k other (at_most_of_below (standings i).store.promise (ballot_after i (standings i)) (promise_below i (standings i)))

    next : ballot_after i (outbid_standings r j i) ≡ next_ballot i (standings j).store.promise
    next = next_is r j (at_most_of_below (standings i).seen (ballot_after i (standings i)) (seen_below i (standings i))) high

    same_front : front_of (outbid_standings r j i) ≡ front_of (standings i)
    same_front = ap (λ (l : Learned). front l.log) (keeps i movable.member).learned

    same_round : round (outbid_standings r j) i members commands ≡ round_by (next_ballot i (standings j).store.promise) standings i members commands
    same_round = round_same (ballot_after i (outbid_standings r j i)) (next_ballot i (standings j).store.promise) (outbid_standings r j) standings i members commands next same_front
        (λ k h. stored_same r j k other (without_in i members k h).1)

    -- no promise behind it is above the one that was told
    most : (k : ℕ) → In k members → AtMost (outbid_standings r j k).store.promise (standings j).store.promise
    most k h = elim (compared k) [
      | inl e ↦ subst (λ (m : ℕ). AtMost (outbid_standings r j m).store.promise (standings j).store.promise) (sym e)
          (subst (λ (s : Standing). AtMost s.store.promise (standings j).store.promise) (sym (outbid_own r j)) high)
      | inr ne ↦ subst (λ (st : Store). AtMost st.promise (standings j).store.promise) (sym (stored_same r j k other ne)) (bid.most k h)
    ]
      where
        compared : (m : ℕ) → (m ≡ i) ⊎ (m ≢ i)
        compared m = elim (eqb_tells m i) [ inl same ↦ inl same.1 | inr other ↦ inr other.1 ]

    left : (standings j).store.promise.round + 1 < 2 ^ 32
    left = elim (movable.promises_left j member) [ inl below ↦ absurd (bid.above below) | inr round_left ↦ round_left ]

    rest : IsRest (record r { standings = outbid_standings r j })
    rest = rest_by g own setting n deals world standings (outbid_standings r j) i members commands are movable keeps
        (subst (λ (b : Ballot). b.round < 2 ^ 32) (sym next) left)
        (λ k h. subst (Below (outbid_standings r j k).store.promise) (sym next)
        (below_of_at_most (outbid_standings r j k).store.promise (standings j).store.promise (next_ballot i (standings j).store.promise) (most k h) (below_next i (standings j).store.promise)))

-- of either, where this round is above all that the node has met and that the members have promised
pub way_low : (g : Given) (own : ℕ → Command → Bool) (setting : Setting) (n : ℕ) (deals : ℕ → ℕ → Option (List ℕ)) (world : World) (standings : ℕ → Standing) (i : ℕ) (members : List ℕ) (commands : List Command)
    (most : ℕ) → AreOf own setting n deals world standings members → Movable (place_in setting n deals i) standings i members commands
    → (greatest_seen (standings i)).round < most → ((k : ℕ) → In k members → (standings k).store.promise.round < most)
    → (events : List Event) → IsWay standings i members commands events
    → GoOn (place_in setting n deals) (MovesLow i members (front_of (standings i)) commands most) standings [] events
way_low g own setting n deals world standings i members commands most are movable met promises events (at_once unpromised e) =
    subst (GoOn (place_in setting n deals) (MovesLow i members (front_of (standings i)) commands most) standings []) (sym e)
    (one_round g own setting n deals world standings i members commands most are movable unpromised met)
way_low g own setting n deals world standings i members commands most are movable met promises events (outbid j bid e) =
    subst (GoOn (place_in setting n deals) (MovesLow i members (front_of (standings i)) commands most) standings []) (sym e)
    (by_two_ballots g own setting n deals world standings i members commands most j are movable bid (promises j (without_in i members j bid.member).0))

-- ---- the laws

-- a round above all that some members have promised
record HasTop (standings : ℕ → Standing) (members : List ℕ) (least : ℕ) : Type 0 where
  most : ℕ
  above : least < most
  promises : (k : ℕ) → In k members → (standings k).store.promise.round < most

top_of : (standings : ℕ → Standing) (least : ℕ) (members : List ℕ) → HasTop standings members least
top_of standings least [] = record { most = least + 1; above = omega arith; promises = λ k h. absurd h }
top_of standings least (m ∷ members) =
    let later = top_of standings least members in
    let above = later.above in
    record {
      most = later.most + (standings m).store.promise.round + 1;
      above = omega (arith, above);
      promises = λ k h. elim h [
        | inl e ↦ subst (λ (x : ℕ). (standings x).store.promise.round < later.most + (standings m).store.promise.round + 1) (sym e) (omega arith)
        | inr there ↦ (let l = later.promises k there in omega (arith, l))
      ];
    }

way_goes : (g : Given) (own : ℕ → Command → Bool) (setting : Setting) (n : ℕ) (deals : ℕ → ℕ → Option (List ℕ)) (world : World) (standings : ℕ → Standing) (i : ℕ) (members : List ℕ) (commands : List Command)
    → AreOf own setting n deals world standings members → Movable (place_in setting n deals i) standings i members commands → (events : List Event) → IsWay standings i members commands events
    → GoOn (place_in setting n deals) (HasMovedOn i (front_of (standings i)) commands) standings [] events
way_goes g own setting n deals world standings i members commands are movable events way =
    let top = top_of standings (greatest_seen (standings i)).round members in
    go_on_to (place_in setting n deals) (MovesLow i members (front_of (standings i)) commands top.most) (HasMovedOn i (front_of (standings i)) commands) standings [] events (λ new low. low.moved)
    (way_low g own setting n deals world standings i members commands top.most are movable top.above top.promises events way)

pub no_dead_end : Given → NoDeadEnd
no_dead_end g own setting n deals world standings i members commands are movable = (
  short_way (place_in setting n deals i) standings i members commands movable,
  λ events way. way_goes g own setting n deals world standings i members commands are movable events way,
)

pub calm_is_movable : CalmIsMovable
calm_is_movable place standings i members commands calm = (
  record {
    of_node = calm.of_node;
    quorum = calm.quorum;
    member = calm.member;
    up = calm.up;
    seen_left = calm.round_left;
    promises_left = λ k h. inl (calm.unpromised k h);
    slot_left = calm.slot_left;
    goes_on = calm.goes_on;
    value = calm.value;
  },
  at_once calm.unpromised refl,
)

-- a cluster at rest moves
pub calm_round_moves : NoDeadEnd → CalmIsMovable → CalmRoundMoves
calm_round_moves law is_movable own setting n deals world standings i members commands are calm =
    let m = is_movable (place_in setting n deals i) standings i members commands calm in
    (law own setting n deals world standings i members commands are m.0).1 (round standings i members commands) m.1
