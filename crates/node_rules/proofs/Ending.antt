-- Every match can be ended.
use Rattle.std.proofs.Common.{◌≡◌, ◌≢◌, ℕ, Option, zero, suc, ◌+◌, ◌*◌, ◌-◌, ◌^◌, ◌<◌, ◌≤◌, ◌⊎◌, inl, inr, Bool, true, false, ◌==◌, if◌then◌else◌, List, [], ◌∷◌, ◌++◌, length, Result, Ok, refl, sym, ap, subst, ◌∙◌, arith}
use Rattle.std.proofs.lemmas.Bool.Decides.{eqb_tells}
use Rattle.paxos_wire.specs.declared.limits.TheConstants.{SLOTS}
use Rattle.paxos_wire.specs.declared.ballot.Ballot.{Ballot}
use Rattle.betting.specs.Laws.{HandsEnd}
use Rattle.slot_log.specs.Slots.{Log}
use Rattle.slot_log.specs.Dealer.{is_match_over}
use Rattle.slot_log.specs.declared.command.Command.{Command}
use Rattle.protocol_model.specs.Sets.{In, put}
use Rattle.protocol_model.specs.Ballots.{Below, AtMost}
use Rattle.protocol_model.specs.Stores.{Store}
use Rattle.protocol_model.specs.Worlds.{World}
use Rattle.protocol_model.proofs.Sets.{put_same, put_other}
use Rattle.protocol_model.proofs.Ballots.{below_of_at_most}
use Rattle.proposer.specs.Campaigns.{next_ballot}
use Rattle.dealer_kind.specs.Kind.{Setting, hands_after}
use Rattle.node_rules.specs.Standings.{Place, Standing, front_of}
use Rattle.node_rules.specs.Turns.{Turn, Refusal}
use Rattle.node_rules.specs.Proposing.{higher, greatest_seen, is_over}
use Rattle.node_rules.specs.Calls.{Call, Start, Away}
use Rattle.node_rules.specs.Rules.{starting, IsTurnBy, IsTurn}
use Rattle.node_rules.specs.Calm.{IsLeastQuorum, without, ballot_after, WouldPropose, Event, round}
use Rattle.node_rules.specs.CalmRound.{place_in, Sent, sent_by, AreReadBack, AreOf}
use Rattle.node_rules.specs.Ways.{Movable, AreUnpromised, IsWay, at_once}
use Rattle.node_rules.specs.Cases.{HasEachDeal, AwaitsBot, Case, proposes, awaits, over}
use Rattle.node_rules.specs.Endings.{Starts, Orders, CanEnd, most_commands, front_now, MetAtMost, MatchesCanEnd}
use Rattle.node_rules.specs.Given.{Given}
use Rattle.node_rules.specs.Sound.{Stands}
use Rattle.node_rules.proofs.Ordering.{higher_is}
use Rattle.node_rules.proofs.NextBallots.{promise_below}
use Rattle.node_rules.proofs.Members.{rise_distinct, without_length}
use Rattle.node_rules.proofs.Led.{order_turn}
use Rattle.node_rules.proofs.CalmSteps.{with_more_sent}
use Rattle.node_rules.proofs.Ways.{MovesLow, way_low, short_way, length_round}
use Rattle.node_rules.proofs.WayMembers.{way_in, some_command}
use Rattle.node_rules.proofs.Cases.{each_has_a_case, orders_help, ordered_log, ordered_met}
use Rattle.node_rules.proofs.Afterwards.{Behind, behind_call, Live, live_behind, go_in_worlds}
use Rattle.node_rules.proofs.Fitting.{AllShowOneList, front_low, room_for_more}
use Rattle.node_rules.proofs.EndingSteps.{can_end_le, ended_now, can_end_by, way_own, can_end_on}

-- ---- the match, its node and its quorum

record Match : Type 0 where
  given : Given
  one : AllShowOneList
  ends : HandsEnd
  own : ℕ → Command → Bool
  setting : Setting
  n : ℕ
  deals : ℕ → ℕ → Option (List ℕ)
  i : ℕ
  members : List ℕ
  quorum : IsLeastQuorum n members
  member : In i members
  has : HasEachDeal (place_in setting n deals i)

abbrev places_of : Match → ℕ → Place
places_of m = place_in m.setting m.n m.deals

abbrev IsLive : Match → (ℕ → Standing) → Type 0
IsLive m st = Live m.own m.setting m.n m.deals st m.members

-- of rounds up to this one the node has met some, and the members have promised some
record MetSome (m : Match) (st : ℕ → Standing) (most : ℕ) : Type 0 where
  seen : (greatest_seen (st m.i)).round ≤ most
  promises : (k : ℕ) → In k m.members → (st k).store.promise.round ≤ most

round_low : (a b : Ballot) (most : ℕ) → AtMost a b → b.round ≤ most → a.round ≤ most
round_low a b most (inl less) low = omega arith
round_low a b most (inr same) low = let e = same.0 in omega (arith, e)

met_greatest : (s : Standing) (most : ℕ) → s.seen.round ≤ most → s.store.promise.round ≤ most → (greatest_seen s).round ≤ most
met_greatest s most seen promise = elim (higher_is s.seen s.store.promise).2 [
  | inl e ↦ subst (λ (b : Ballot). b.round ≤ most) (sym e) seen
  | inr e ↦ subst (λ (b : Ballot). b.round ≤ most) (sym e) promise
]

others_count : (m : Match) → suc (length (without m.i m.members)) ≡ length m.members
others_count m = without_length m.i m.n m.members (rise_distinct 0 m.n m.members m.quorum.rise) m.member

slot_left : (m : Match) (st : ℕ → Standing) (live : IsLive m st) → is_over (places_of m m.i) (st m.i) ≡ false → front_of (st m.i) < SLOTS
slot_left m st live goes_on =
    let room = room_for_more m.given m.one m.ends m.own m.setting m.n m.deals live.world st m.i m.members live.are m.member (live.up m.i m.member) m.has goes_on in
    let hands = (live.are.is_place m.i m.member).match.most in omega (arith, room, hands)

-- ---- one way

-- what holds behind a way, and then so many events suffice
abbrev GoesOnBy : Match → ℕ → ℕ → ℕ → Type 0
GoesOnBy m k front most = (new : ℕ → Standing) (more : List Sent) → IsLive m new → AreUnpromised new m.i m.members → MetSome m new most → front < front_of (new m.i)
    → CanEnd (places_of m) m.i m.members k new more

one_way : (m : Match) (st : ℕ → Standing) (sent : List Sent) (commands : List Command) (most k : ℕ) (live : IsLive m st) → is_over (places_of m m.i) (st m.i) ≡ false
    → WouldPropose (places_of m m.i) st m.i m.members commands → MetSome m st most → most + 1 < 2 ^ 32 → (events : List Event) → IsWay st m.i m.members commands events
    → GoesOnBy m k (front_of (st m.i)) (most + 1) → CanEnd (places_of m) m.i m.members (length events + k) st sent
one_way m st sent commands most k live goes_on value met room events way later =
    can_end_on (places_of m) m.i m.members k Leads events st sent (way_own st m.i m.members commands events way)
    (with_more_sent (places_of m) Leads st [] sent events (λ x h. absurd h)
    (go_in_worlds m.given m.own m.setting m.n m.deals m.members (MovesLow m.i m.members (front_of (st m.i)) commands (most + 1)) st [] events (way_in st m.i m.members commands events m.member way) live (λ s h. absurd h)
    (way_low m.given m.own m.setting m.n m.deals live.world st m.i m.members commands (most + 1) live.are movable (let low = met.seen in omega arith) (λ j h. let low = met.promises j h in omega arith) events way)))
    (λ new more so. by_low new more so.0 so.1)
  where
    Leads : (ℕ → Standing) → Type 0
    Leads new = MovesLow m.i m.members (front_of (st m.i)) commands (most + 1) new × Live m.own m.setting m.n m.deals new m.members

    movable : Movable (places_of m m.i) st m.i m.members commands
    movable = record {
      of_node = refl;
      quorum = m.quorum;
      member = m.member;
      up = live.up;
      seen_left = (let low = met.seen in omega arith);
      promises_left = λ j h. inr (let low = met.promises j h in omega arith);
      slot_left = slot_left m st live goes_on;
      goes_on = goes_on;
      value = value;
    }

    by_low : (new : ℕ → Standing) (more : List Sent) → MovesLow m.i m.members (front_of (st m.i)) commands (most + 1) new → IsLive m new → CanEnd (places_of m) m.i m.members k new more
    by_low new more low there =
        later new more there
        (λ j h. below_of_at_most (new j).store.promise (new m.i).store.promise (ballot_after m.i (new m.i))
        (subst (AtMost (new j).store.promise) (sym low.own) (low.promises j h)) (promise_below m.i (new m.i)))
        (record {
          seen = met_greatest (new m.i) (most + 1) (round_low (new m.i).seen low.ballot (most + 1) low.seen low.round)
              (subst (λ (b : Ballot). b.round ≤ most + 1) (sym low.own) low.round);
          promises = λ j h. round_low (new j).store.promise low.ballot (most + 1) (low.promises j h) low.round;
        })
        (let passed = low.moved.0 in let some = some_command (places_of m m.i) st m.i m.members commands value in omega (arith, passed, some))

-- ---- one way, behind an order where nothing is proposed

-- of each proposal there is a way of so many events
abbrev HasWays : Match → (ℕ → Standing) → ℕ → Type 0
HasWays m st count = (commands : List Command) → WouldPropose (places_of m m.i) st m.i m.members commands
    → (events : List Event) × IsWay st m.i m.members commands events × (length events ≤ count)

-- an order's turn keeps what was met
record Kept (m : Match) (st : ℕ → Standing) (turn : Turn) : Type 0 where
  live : IsLive m (put st m.i turn.after)
  met : (turn.after.store.promise ≡ (st m.i).store.promise) × (turn.after.seen ≡ (st m.i).seen)
  log : turn.after.learned.log ≡ (st m.i).learned.log

ordered_kept : (m : Match) (st : ℕ → Standing) (live : IsLive m st) (turn : Turn) → IsTurn (places_of m m.i) (st m.i) Away (Ok turn) → Kept m st turn
ordered_kept m st live turn rule = record {
  live = live_behind m.own m.setting m.n m.deals live.world st m.members m.i turn live.up
      (behind_call m.given m.own m.setting m.n m.deals live.world st m.members m.i Away turn live.are m.member tt tt rule);
  met = ordered_met m.given m.own (places_of m m.i) live.world (st m.i) turn stands
      (order_turn m.given m.own (places_of m m.i) live.world (st m.i) stands up turn (subst (λ (b : Bool). IsTurnBy b (places_of m m.i) (st m.i) Away (Ok turn)) up rule));
  log = ordered_log m.given m.own (places_of m m.i) live.world (st m.i) turn stands
      (order_turn m.given m.own (places_of m m.i) live.world (st m.i) stands up turn (subst (λ (b : Bool). IsTurnBy b (places_of m m.i) (st m.i) Away (Ok turn)) up rule));
}
  where
    up : (st m.i).up ≡ true
    up = live.up m.i m.member

    stands : Stands m.own (places_of m m.i) live.world (st m.i)
    stands = record { is_place = live.are.is_place m.i m.member; reached = live.are.reached; of = live.are.of m.i m.member }

-- so a store's promise and what was seen are as before at all members
kept_promise : (m : Match) (st : ℕ → Standing) (turn : Turn) → Kept m st turn → (k : ℕ) → (put st m.i turn.after k).store.promise ≡ (st k).store.promise
kept_promise m st turn kept k = by_node (eqb_tells k m.i)
  where
    by_node : ((k == m.i) ≡ true) × (k ≡ m.i) ⊎ ((k == m.i) ≡ false) × (k ≢ m.i) → (put st m.i turn.after k).store.promise ≡ (st k).store.promise
    by_node (inl same) = subst (λ (j : ℕ). (put st m.i turn.after j).store.promise ≡ (st j).store.promise) (sym same.1)
        (ap (λ (s : Standing). s.store.promise) (put_same st m.i turn.after) ∙ kept.met.0)
    by_node (inr other) = ap (λ (s : Standing). s.store.promise) (put_other st m.i turn.after k other.1)

kept_seen : (m : Match) (st : ℕ → Standing) (turn : Turn) → Kept m st turn → greatest_seen (put st m.i turn.after m.i) ≡ greatest_seen (st m.i)
kept_seen m st turn kept =
    ap greatest_seen (put_same st m.i turn.after) ∙ (λ j. higher (kept.met.1 j) (kept.met.0 j))

kept_met : (m : Match) (st : ℕ → Standing) (turn : Turn) (most : ℕ) → Kept m st turn → MetSome m st most → MetSome m (put st m.i turn.after) most
kept_met m st turn most kept met = record {
  seen = subst (λ (b : Ballot). b.round ≤ most) (sym (kept_seen m st turn kept)) met.seen;
  promises = λ k h. subst (λ (b : Ballot). b.round ≤ most) (sym (kept_promise m st turn kept k)) (met.promises k h);
}

-- nor is the match over then
kept_over : (m : Match) (st : ℕ → Standing) (turn : Turn) → Kept m st turn → is_over (places_of m m.i) (put st m.i turn.after m.i) ≡ is_over (places_of m m.i) (st m.i)
kept_over m st turn kept =
    ap (is_over (places_of m m.i)) (put_same st m.i turn.after)
    ∙ ap (λ (l : Log). is_match_over m.setting.game m.setting.title.hands (hands_after m.setting l.below)) kept.log

-- one way, or an order and a way
next_way : (m : Match) (st : ℕ → Standing) (sent : List Sent) (most k count : ℕ) (live : IsLive m st) → is_over (places_of m m.i) (st m.i) ≡ false → MetSome m st most → most + 1 < 2 ^ 32
    → HasWays m st count → ((turn : Turn) → Kept m st turn → HasWays m (put st m.i turn.after) count)
    → GoesOnBy m k (front_of (st m.i)) (most + 1) → CanEnd (places_of m) m.i m.members (suc (count + k)) st sent
next_way m st sent most k count live goes_on met room ways ways_then later = by_case (each_has_a_case (places_of m m.i) st m.i m.members m.has (slot_left m st live goes_on))
  where
    by_order : AwaitsBot (places_of m m.i) st m.i m.members → (called : Call) (outcome : Result Turn Refusal) → called ≡ Away → IsTurn (places_of m m.i) (st m.i) called outcome
        → (turn : Turn) × (outcome ≡ Ok turn) × (AreReadBack turn.frames → CanEnd (places_of m) m.i m.members (count + k) (put st m.i turn.after) (sent_by m.i turn.frames ++ sent))
    by_order waits called outcome is rule =
        let rule_away : IsTurn (places_of m m.i) (st m.i) Away outcome = subst (λ (c : Call). IsTurn (places_of m m.i) (st m.i) c outcome) is rule in
        let h = orders_help m.given m.own m.setting m.n m.deals live.world st m.i m.members outcome live.are m.member (live.up m.i m.member) (slot_left m st live goes_on) waits rule_away in
        let kept = ordered_kept m st live h.0 (subst (IsTurn (places_of m m.i) (st m.i) Away) h.1 rule_away) in
        let new : ℕ → Standing = put st m.i (h.0).after in
        let here : new m.i ≡ (h.0).after = put_same st m.i (h.0).after in
        let front : front_of (new m.i) ≡ front_of (st m.i) = ap (λ (s : Standing). front_of s) here ∙ h.2 in
        let w = ways_then h.0 kept (h.4).0 (h.4).1 in (
          h.0,
          h.1,
          λ back. can_end_le (places_of m) m.i m.members (length w.0 + k) (count + k) (let few = w.2 in omega (arith, few)) new (sent_by m.i (h.0).frames ++ sent)
              (one_way m new (sent_by m.i (h.0).frames ++ sent) (h.4).0 most k kept.live (ap (is_over (places_of m m.i)) here ∙ (h.3 ∙ goes_on)) (h.4).1 (kept_met m st h.0 most kept met) room w.0 w.1
              (subst (λ (f : ℕ). GoesOnBy m k f (most + 1)) (sym front) later)),
        )

    by_case : Case (places_of m m.i) st m.i m.members → CanEnd (places_of m) m.i m.members (suc (count + k)) st sent
    by_case (over e) = ended_now (places_of m) m.i m.members (suc (count + k)) st sent (live.up m.i m.member, e)
    by_case (proposes (commands, value)) =
        let w = ways commands value in
        can_end_le (places_of m) m.i m.members (length w.0 + k) (suc (count + k)) (let few = w.2 in omega (arith, few)) st sent
        (one_way m st sent commands most k live goes_on value met room w.0 w.1 later)
    by_case (awaits waits) = can_end_by (places_of m) m.i m.members (count + k) st sent (Orders m.i) refl (λ called outcome is rule. by_order waits called outcome is rule)

-- ---- all ways

-- so many events for each command
abbrev events_for : ℕ → ℕ → ℕ
events_for zero count = 0
events_for (suc left) count = count + events_for left count

-- the round of an unpromised node
rounds_are_ways : (m : Match) (st : ℕ → Standing) → AreUnpromised st m.i m.members → HasWays m st (4 * length m.members - 3)
rounds_are_ways m st unpromised commands value = (
  round st m.i m.members commands,
  at_once unpromised refl,
  (let size = length_round (ballot_after m.i (st m.i)) st m.i m.members commands in let count = others_count m in omega (arith, size, count)),
)

kept_unpromised : (m : Match) (st : ℕ → Standing) (turn : Turn) → Kept m st turn → AreUnpromised st m.i m.members → AreUnpromised (put st m.i turn.after) m.i m.members
kept_unpromised m st turn kept unpromised k h =
    subst (λ (b : Ballot). Below b (ballot_after m.i (put st m.i turn.after m.i))) (sym (kept_promise m st turn kept k))
    (subst (λ (b : Ballot). Below (st k).store.promise (next_ballot m.i b)) (sym (kept_seen m st turn kept)) (unpromised k h))

some_members : (m : Match) → 1 ≤ length m.members
some_members m = let count = others_count m in omega (arith, count)

-- from a node that is unpromised
by_rounds : (m : Match) (left : ℕ) (st : ℕ → Standing) (sent : List Sent) (most : ℕ) (live : IsLive m st) → AreUnpromised st m.i m.members → MetSome m st most → most + left < 2 ^ 32
    → most_commands m.setting ≤ front_of (st m.i) + left → CanEnd (places_of m) m.i m.members (events_for left (4 * length m.members - 2)) st sent
by_rounds m zero st sent most live unpromised met room commands = by_over (is_over (places_of m m.i) (st m.i)) refl
  where
    by_over : (b : Bool) → is_over (places_of m m.i) (st m.i) ≡ b → CanEnd (places_of m) m.i m.members 0 st sent
    by_over true e = ended_now (places_of m) m.i m.members 0 st sent (live.up m.i m.member, e)
    by_over false e = absurd (let more = room_for_more m.given m.one m.ends m.own m.setting m.n m.deals live.world st m.i m.members live.are m.member (live.up m.i m.member) m.has e in omega (arith, more, commands))
by_rounds m (suc left) st sent most live unpromised met room commands =
    by_over (λ new more there below met_then further. by_rounds m left new more (most + 1) there below met_then (omega (arith, room)) (omega (arith, further, commands)))
    (is_over (places_of m m.i) (st m.i)) refl
  where
    by_over : GoesOnBy m (events_for left (4 * length m.members - 2)) (front_of (st m.i)) (most + 1) → (b : Bool) → is_over (places_of m m.i) (st m.i) ≡ b
        → CanEnd (places_of m) m.i m.members (4 * length m.members - 2 + events_for left (4 * length m.members - 2)) st sent
    by_over later true e = ended_now (places_of m) m.i m.members (4 * length m.members - 2 + events_for left (4 * length m.members - 2)) st sent (live.up m.i m.member, e)
    by_over later false e =
        can_end_le (places_of m) m.i m.members (suc (4 * length m.members - 3 + events_for left (4 * length m.members - 2))) (4 * length m.members - 2 + events_for left (4 * length m.members - 2))
        (let some = some_members m in omega (arith, some)) st sent
        (next_way m st sent most (events_for left (4 * length m.members - 2)) (4 * length m.members - 3) live e met (omega (arith, room)) (rounds_are_ways m st unpromised)
        (λ turn kept. rounds_are_ways m (put st m.i turn.after) (kept_unpromised m st turn kept unpromised)) later)

-- from any other, whose first ballot may be refused
ways_are_short : (m : Match) (st : ℕ → Standing) (most : ℕ) (live : IsLive m st) → is_over (places_of m m.i) (st m.i) ≡ false → MetSome m st most → most + 1 < 2 ^ 32 → HasWays m st (4 * length m.members)
ways_are_short m st most live goes_on met room commands value =
    short_way (places_of m m.i) st m.i m.members commands (record {
      of_node = refl;
      quorum = m.quorum;
      member = m.member;
      up = live.up;
      seen_left = (let low = met.seen in omega arith);
      promises_left = λ j h. inr (let low = met.promises j h in omega arith);
      slot_left = slot_left m st live goes_on;
      goes_on = goes_on;
      value = value;
    })

by_ways : (m : Match) (st : ℕ → Standing) (sent : List Sent) (most left : ℕ) (live : IsLive m st) → MetSome m st most → most + left + 1 < 2 ^ 32 → most_commands m.setting ≡ front_of (st m.i) + left
    → CanEnd (places_of m) m.i m.members (3 + events_for left (4 * length m.members - 2)) st sent
by_ways m st sent most left live met room commands = by_over (is_over (places_of m m.i) (st m.i)) refl left commands room
  where
    by_over : (b : Bool) → is_over (places_of m m.i) (st m.i) ≡ b → (count : ℕ) → most_commands m.setting ≡ front_of (st m.i) + count → most + count + 1 < 2 ^ 32
        → CanEnd (places_of m) m.i m.members (3 + events_for count (4 * length m.members - 2)) st sent
    by_over true e count total rounds = ended_now (places_of m) m.i m.members (3 + events_for count (4 * length m.members - 2)) st sent (live.up m.i m.member, e)
    by_over false e zero total rounds =
        absurd (let more = room_for_more m.given m.one m.ends m.own m.setting m.n m.deals live.world st m.i m.members live.are m.member (live.up m.i m.member) m.has e in omega (arith, more, total))
    by_over false e (suc count) total rounds =
        can_end_le (places_of m) m.i m.members (suc (4 * length m.members + events_for count (4 * length m.members - 2))) (3 + (4 * length m.members - 2 + events_for count (4 * length m.members - 2)))
        (let some = some_members m in omega (arith, some)) st sent
        (next_way m st sent most (events_for count (4 * length m.members - 2)) (4 * length m.members) live e met (omega (arith, rounds)) (ways_are_short m st most live e met (omega (arith, rounds)))
        (λ turn kept. ways_are_short m (put st m.i turn.after) most kept.live (kept_over m st turn kept ∙ e) (kept_met m st turn most kept met) (omega (arith, rounds)))
        (λ new more there below met_then further. by_rounds m count new more (most + 1) there below met_then (omega (arith, rounds)) (omega (arith, further, total))))

-- ---- starts

-- the members that aren't started yet are among these
record Starting (m : Match) (todo : List ℕ) (st : ℕ → Standing) (most : ℕ) : Type 0 where
  world : World
  are : AreOf m.own m.setting m.n m.deals world st m.members
  met : (k : ℕ) → In k m.members → MetAtMost most (st k)
  up : (k : ℕ) → In k m.members → In k todo ⊎ ((st k).up ≡ true)

-- from there on the match can be ended
abbrev EndsFrom : Match → List ℕ → ℕ → ℕ → Type 0
EndsFrom m todo most left = (st : ℕ → Standing) (sent : List Sent) → Starting m todo st most → most_commands m.setting ≡ front_now (st m.i) + left
    → CanEnd (places_of m) m.i m.members (length todo + (3 + events_for left (4 * length m.members - 2))) st sent

-- what a start leaves at a node that was down
started_met : (place : Place) (s : Standing) (found : Store) (most : ℕ) → MetAtMost most s → (found ≡ s.store) ⊎ (found ≡ s.begun) → MetAtMost most (starting place found).after
started_met place s found most met from = record { seen = omega arith; promised = low; found = low }
  where
    low : found.promise.round ≤ most
    low = elim from [
      | inl e ↦ subst (λ (x : Store). x.promise.round ≤ most) (sym e) met.promised
      | inr e ↦ subst (λ (x : Store). x.promise.round ≤ most) (sym e) met.found
    ]

-- what holds of the node that was started, and of the others
at_node : (P : ℕ → Standing → Type 0) (st : ℕ → Standing) (node : ℕ) (after : Standing) → P node after → (k : ℕ) → ((k ≢ node) → P k (st k)) → P k (put st node after k)
at_node P st node after here k there = by_node (eqb_tells k node)
  where
    by_node : ((k == node) ≡ true) × (k ≡ node) ⊎ ((k == node) ≡ false) × (k ≢ node) → P k (put st node after k)
    by_node (inl same) = subst (λ (j : ℕ). P j (put st node after j)) (sym same.1) (subst (P node) (sym (put_same st node after)) here)
    by_node (inr other) = subst (P k) (sym (put_other st node after k other.1)) (there other.1)

-- one member more runs
started_more : (m : Match) (node : ℕ) (todo : List ℕ) (st : ℕ → Standing) (most : ℕ) → Starting m (node ∷ todo) st most → In node m.members → (st node).up ≡ false
    → (found : Store) → (found ≡ (st node).store) ⊎ (found ≡ (st node).begun) → IsTurn (places_of m node) (st node) (Start found) (Ok (starting (places_of m node) found))
    → Starting m todo (put st node (starting (places_of m node) found).after) most
started_more m node todo st most s among down found from rule = record {
  world = b.world;
  are = b.are;
  met = λ k h. at_node (λ (j : ℕ) (x : Standing). MetAtMost most x) st node (starting (places_of m node) found).after (started_met (places_of m node) (st node) found most (s.met node among) from) k (λ other. s.met k h);
  up = λ k h. at_node (λ (j : ℕ) (x : Standing). In j todo ⊎ (x.up ≡ true)) st node (starting (places_of m node) found).after (inr refl) k (λ other. elim (s.up k h) [
    | inl there ↦ elim there [ inl e ↦ absurd (other e) | inr later ↦ inl later ]
    | inr up ↦ inr up
  ]);
}
  where
    b : Behind m.own m.setting m.n m.deals s.world m.members node (starting (places_of m node) found) (put st node (starting (places_of m node) found).after)
    b = behind_call m.given m.own m.setting m.n m.deals s.world st m.members node (Start found) (starting (places_of m node) found) s.are among tt tt rule

-- and the fronts are as before: a node that was down had none
started_front : (m : Match) (node : ℕ) (st : ℕ → Standing) (found : Store) → (st node).up ≡ false → front_now (put st node (starting (places_of m node) found).after m.i) ≡ front_now (st m.i)
started_front m node st found down =
    at_node (λ (j : ℕ) (x : Standing). (j ≡ m.i) → front_now x ≡ front_now (st m.i)) st node (starting (places_of m node) found).after
    (λ e. sym (subst (λ (j : ℕ). front_now (st j) ≡ 0) e (ap (λ (b : Bool). if b then front_of (st node) else 0) down)))
    m.i (λ other e. refl) refl

start_step : (m : Match) (node : ℕ) (todo : List ℕ) (most left : ℕ) → ((k : ℕ) → In k (node ∷ todo) → In k m.members) → EndsFrom m todo most left → EndsFrom m (node ∷ todo) most left
start_step m node todo most left inside later st sent s total = by_up (st node).up refl
  where
    by_up : (b : Bool) → (st node).up ≡ b → CanEnd (places_of m) m.i m.members (length (node ∷ todo) + (3 + events_for left (4 * length m.members - 2))) st sent
    by_up true up =
        can_end_le (places_of m) m.i m.members (length todo + (3 + events_for left (4 * length m.members - 2))) (length (node ∷ todo) + (3 + events_for left (4 * length m.members - 2))) (omega arith) st sent
        (later st sent (record {
          world = s.world;
          are = s.are;
          met = s.met;
          up = λ k h. elim (s.up k h) [
            | inl there ↦ elim there [ inl e ↦ inr (subst (λ (j : ℕ). (st j).up ≡ true) (sym e) up) | inr more ↦ inl more ]
            | inr runs ↦ inr runs
          ];
        }) total)
    by_up false down =
        can_end_le (places_of m) m.i m.members (suc (length todo + (3 + events_for left (4 * length m.members - 2)))) (length (node ∷ todo) + (3 + events_for left (4 * length m.members - 2))) (omega arith) st sent
        (can_end_by (places_of m) m.i m.members (length todo + (3 + events_for left (4 * length m.members - 2))) st sent (Starts node) (inside node (inl refl)) (λ called outcome is rule.
        let found : Store = is.0 in
        let rule_start : IsTurn (places_of m node) (st node) (Start found) outcome = subst (λ (c : Call). IsTurn (places_of m node) (st node) c outcome) is.1 rule in
        let starts = subst (λ (b : Bool). IsTurnBy b (places_of m node) (st node) (Start found) outcome) down rule_start in (
          starting (places_of m node) found,
          starts.1,
          λ back. later (put st node (starting (places_of m node) found).after) (sent_by node (starting (places_of m node) found).frames ++ sent)
              (started_more m node todo st most s (inside node (inl refl)) down found starts.0 (subst (IsTurn (places_of m node) (st node) (Start found)) starts.1 rule_start))
              (total ∙ ap (λ (f : ℕ). f + left) (sym (started_front m node st found down))),
        )))

all_started : (m : Match) (most left : ℕ) → most + left + 1 < 2 ^ 32 → EndsFrom m [] most left
all_started m most left room st sent s total =
    can_end_le (places_of m) m.i m.members (3 + events_for left (4 * length m.members - 2)) (0 + (3 + events_for left (4 * length m.members - 2))) (omega arith) st sent
    (by_ways m st sent most left live (record {
      seen = (let met = s.met m.i m.member in met_greatest (st m.i) most met.seen met.promised);
      promises = λ k h. (s.met k h).promised;
    }) room (total ∙ ap (λ (b : Bool). (if b then front_of (st m.i) else 0) + left) (up m.i m.member)))
  where
    up : (k : ℕ) → In k m.members → (st k).up ≡ true
    up k h = elim (s.up k h) [ inl none ↦ absurd none | inr runs ↦ runs ]

    live : IsLive m st
    live = record { world = s.world; are = s.are; up = up }

start_all : (m : Match) (todo : List ℕ) (most left : ℕ) → ((k : ℕ) → In k todo → In k m.members) → most + left + 1 < 2 ^ 32 → EndsFrom m todo most left
start_all m [] most left inside room = all_started m most left room
start_all m (node ∷ todo) most left inside room = start_step m node todo most left inside (start_all m todo most left (λ k h. inside k (inr h)) room)

-- ---- the law

events_times : (left count : ℕ) → events_for left count ≡ left * count
events_times zero count = omega arith
events_times (suc left) count = let later = events_times left count in omega (arith, later)

front_now_low : (m : Match) (world : World) (st : ℕ → Standing) → AreOf m.own m.setting m.n m.deals world st m.members → front_now (st m.i) ≤ most_commands m.setting
front_now_low m world st are = by_up (st m.i).up refl
  where
    by_up : (b : Bool) → (st m.i).up ≡ b → (if b then front_of (st m.i) else 0) ≤ most_commands m.setting
    by_up true up = front_low m.given m.one m.ends m.own m.setting m.n m.deals world st m.i m.members are m.member up
    by_up false down = omega arith

pub matches_can_end : Given → AllShowOneList → HandsEnd → MatchesCanEnd
matches_can_end g one ends own setting n deals world standings i members round are quorum member has met room =
    let m : Match = record { given = g; one = one; ends = ends; own = own; setting = setting; n = n; deals = deals; i = i; members = members; quorum = quorum; member = member; has = has } in
    let left : ℕ = most_commands setting - front_now (standings i) in
    let low = front_now_low m world standings are in
    subst (λ (k : ℕ). CanEnd (place_in setting n deals) i members (length members + (3 + k)) standings []) (events_times left (4 * length members - 2))
    (start_all m members round left (λ k h. h) (omega (arith, room)) standings [] (record { world = world; are = are; met = met; up = λ k h. inl h }) (omega (arith, low)))
