-- Ticks.
use Rattle.std.proofs.Common.{◌≡◌, ℕ, ◌+◌, ◌-◌, ◌^◌, ◌≤◌, ◌⊎◌, inl, inr, ◌==◌, ◌||◌, ◌&&◌, Bool, true, false, true≢false, not, if◌then◌else◌, Option, None, Result, Ok, Err, refl, sym, ap, subst, ◌∙◌, arith, eqb-true, eq-eqb}
use Rattle.std.specs.Prelude.{nat_le}
use Rattle.std.proofs.lemmas.Bool.{leb-true, leb-false, or_cases}
use Rattle.std.proofs.lemmas.List.{append-nil}
use Rattle.paxos_wire.specs.declared.limits.TheConstants.{SLOTS}
use Rattle.paxos_wire.specs.declared.ballot.Ballot.{Ballot}
use Rattle.slot_log.specs.Slots.{IsLog}
use Rattle.protocol_model.specs.Ballots.{AtMost}
use Rattle.protocol_model.specs.Nodes.{Node}
use Rattle.protocol_model.specs.Stores.{Store, promised}
use Rattle.proposer.specs.declared.accept_run.AcceptRun.{AcceptRun}
use Rattle.proposer.specs.declared.fault.ProposeFault.{ProposeFault}
use Rattle.proposer.specs.declared.fault.ProposeFault.TheVariants.{OutOfWindow}
use Rattle.proposer.specs.Campaigns.{leads, next_ballot, has_quorum, is_covered, is_proposed}
use Rattle.proposer.specs.CommandRuns.{commands_at, accept_run_of}
use Rattle.dealer_kind.specs.Plans.{HasNodes}
use Rattle.node_rules.specs.Standings.{Place, Standing, front_of}
use Rattle.node_rules.specs.Turns.{Turn, Refusal, Spent, still, joined, behind, and_then}
use Rattle.protocol_model.specs.Votes.{told_by}
use Rattle.node_rules.specs.Proposing.{higher, greatest_seen, is_over, is_spent, prepared, beginning, ticking, own_value, closing}
use Rattle.node_rules.specs.Seen.{Sees}
use Rattle.node_rules.specs.Proposed.{IsSettled}
use Rattle.node_rules.specs.Calls.{Tick}
use Rattle.node_rules.specs.Rules.{IsTurnBy}
use Rattle.node_rules.specs.Given.{Given}
use Rattle.node_rules.specs.LawsTick.{IsGreatestRound, IsSpent, Ticks, TicksPrepare}
use Rattle.node_rules.proofs.Ordering.{higher_is}
use Rattle.node_rules.proofs.Asking.{behind_still}
use Rattle.node_rules.proofs.Results.{ok_not}
use Rattle.node_rules.proofs.Resting.{IsRest, rest_closes}
use Rattle.node_rules.proofs.Led.{tick_splits}
use Rattle.node_rules.proofs.Halting.{unled_by}

-- ---- the round

round_low : (a b : Ballot) → AtMost a b → a.round ≤ b.round
round_low a b (inl l) = omega arith
round_low a b (inr t) = let e = t.0 in omega (arith, e)

-- the round of the greatest ballot seen is the greatest of all that the node has met
greatest_is : (node : Node) (s : Standing) (round : ℕ) → node.store ≡ s.store → Sees node.has node.store.promise s.seen → IsGreatestRound node round
    → (greatest_seen s).round ≡ round
greatest_is node s round stored sees most = let l = least in let g = greatest in omega (arith, l, g)
  where
    same : node.store.promise ≡ s.store.promise
    same = ap (λ (st : Store). st.promise) stored

    by_promise : s.store.promise.round ≤ round
    by_promise = subst (λ (b : Ballot). b.round ≤ round) same (most.above node.store.promise (inr refl))

    by_seen : s.seen.round ≤ round
    by_seen = elim sees.some [
      | inl none ↦ (let e : s.seen.round ≡ 0 = ap (λ (b : Ballot). b.round) none in omega (arith, e))
      | inr told ↦ most.above s.seen (inl told)
    ]

    greatest : (greatest_seen s).round ≤ round
    greatest = elim (higher_is s.seen s.store.promise).2 [
      | inl e ↦ subst (λ (b : Ballot). b.round ≤ round) (sym e) by_seen
      | inr e ↦ subst (λ (b : Ballot). b.round ≤ round) (sym e) by_promise
    ]

    least : round ≤ (greatest_seen s).round
    least = subst (λ k. k ≤ (greatest_seen s).round) most.same (elim most.met [
      | inl told ↦ elim (sees.all most.ballot told) [
        | inl low ↦ (let a = round_low most.ballot s.seen low in let b = round_low s.seen (higher s.seen s.store.promise) (higher_is s.seen s.store.promise).0 in omega (arith, a, b))
        | inr low ↦ (let a = round_low most.ballot s.store.promise (subst (AtMost most.ballot) same low) in let b = round_low s.store.promise (higher s.seen s.store.promise) (higher_is s.seen s.store.promise).1 in omega (arith, a, b))
      ]
      | inr promise ↦ (let a : most.ballot.round ≡ s.store.promise.round = ap (λ (b : Ballot). b.round) (promise ∙ same) in
          let b = round_low s.store.promise (higher s.seen s.store.promise) (higher_is s.seen s.store.promise).1 in omega (arith, a, b))
    ])

-- ---- no round or no slot is left

or_by : (a b : Bool) → (a ≡ true) ⊎ (b ≡ true) → (a || b) ≡ true
or_by true b h = refl
or_by false b (inl h) = absurd (true≢false (sym h))
or_by false b (inr h) = h

le_at : (a b : ℕ) → a ≡ b → nat_le a b ≡ true
le_at a b e = by_test (nat_le a b) refl
  where
    by_test : (t : Bool) → nat_le a b ≡ t → nat_le a b ≡ true
    by_test true h = h
    by_test false h = absurd (let l = leb-false a b h in omega (arith, l, e))

spent_is : (s : Standing) (round : ℕ) → IsLog s.learned.log → (greatest_seen s).round ≡ round → is_spent s ≡ true → IsSpent round (front_of s)
spent_is s round log same h = elim (or_cases ((greatest_seen s).round == 2 ^ 32 - 1) (nat_le SLOTS (front_of s)) h) [
  | inl e ↦ inl (sym same ∙ eqb-true (greatest_seen s).round (2 ^ 32 - 1) e)
  | inr e ↦ inr (let a = leb-true SLOTS (front_of s) e in let b = log.below in omega (arith, a, b))
]

spent_if : (s : Standing) (round : ℕ) → (greatest_seen s).round ≡ round → IsSpent round (front_of s) → is_spent s ≡ true
spent_if s round same (inl e) = or_by ((greatest_seen s).round == 2 ^ 32 - 1) (nat_le SLOTS (front_of s)) (inl (eq-eqb (greatest_seen s).round (2 ^ 32 - 1) (same ∙ e)))
spent_if s round same (inr e) = or_by ((greatest_seen s).round == 2 ^ 32 - 1) (nat_le SLOTS (front_of s)) (inr (le_at SLOTS (front_of s) (sym e)))

-- ---- the own promise alone is no quorum

no_quorum : (g : Given) (place : Place) (ballot : Ballot) (s : Standing) → HasNodes place.nodes → has_quorum place.nodes (prepared place ballot s) ≡ false
no_quorum g place ballot s few = g.alone place.nodes place.node ballot ballot (front_of s) (front_of s) (told_by s.store (front_of s)) (g.least_nodes place.nodes few)

waits_by : (quorum covered done : Bool) (value : Option AcceptRun) → quorum ≡ false
    → ◌≡◌ {A = Result (Option AcceptRun) ProposeFault} (if not quorum then Ok None else if not covered then Err OutOfWindow else if done then Ok None else Ok value) (Ok None)
waits_by false covered done value e = refl
waits_by true covered done value e = absurd (true≢false e)

-- nor is anything left to propose between calls
settled_rests : (place : Place) (s : Standing) → IsSettled place s → IsRest place s
settled_rests place s settled = by_lead (leads place.nodes s.campaign) refl
  where
    by_lead : (b : Bool) → leads place.nodes s.campaign ≡ b → IsRest place s
    by_lead true e = record { in_range = ap (λ b. b && nat_le SLOTS (front_of s)) e ∙ (settled e).0; nothing = (settled e).1 }
    by_lead false e = record { in_range = ap (λ b. b && nat_le SLOTS (front_of s)) e; nothing = unled_by place.nodes s.campaign (front_of s) (own_value place s) e }

-- a ballot that was just begun has nothing to propose
begun_rests : (g : Given) (place : Place) (ballot : Ballot) (s : Standing) → HasNodes place.nodes → IsRest place (beginning place ballot s).after
begun_rests g place ballot s few =
    let c = prepared place ballot s in
    let after : Standing = (beginning place ballot s).after in
    record {
      in_range = ap (λ b. b && nat_le SLOTS (front_of s)) (no_quorum g place ballot s few);
      nothing = waits_by (has_quorum place.nodes c) (is_covered c.first (front_of s)) (is_proposed c (front_of s))
          (accept_run_of c (front_of s) (commands_at place.nodes c (front_of s) (own_value place after))) (no_quorum g place ballot s few);
    }

-- ---- the turn

joined_still : (t : Turn) → joined t (still t.after) ≡ t
joined_still t = λ i. record { after = t.after; frames = append-nil t.frames i; shown = append-nil t.shown i; faults = append-nil t.faults i }

pub ticks_prepare : Given → TicksPrepare
ticks_prepare g own place world s outcome round st up turn most = by_case (is_over place s) (is_spent s) refl refl
  where
    node : Node
    node = world.nodes place.node

    is_turn : outcome ≡ and_then (ticking place s) (closing place)
    is_turn = subst (λ b. IsTurnBy b place s Tick outcome) up turn

    same : (greatest_seen s).round ≡ round
    same = greatest_is (world.nodes place.node) s round st.of.store (st.of.runs up).knows.seen most

    log : IsLog s.learned.log
    log = (st.of.runs up).knows.learner.log

    ballot : Ballot
    ballot = record { round = round + 1; node = place.node }

    by_case : (over spent : Bool) → is_over place s ≡ over → is_spent s ≡ spent → Ticks own place (world.nodes place.node) round s outcome
    by_case over spent eo es = by_rule over spent eo es
        (is_turn ∙ (ap (λ b. and_then (if b then Ok (still s) else if is_spent s then Err Spent else Ok (beginning place (next_ballot place.node (greatest_seen s)) s)) (closing place)) eo
        ∙ ap (λ b. and_then (if over then Ok (still s) else if b then Err Spent else Ok (beginning place (next_ballot place.node (greatest_seen s)) s)) (closing place)) es))
      where
        by_rule : (over spent : Bool) → is_over place s ≡ over → is_spent s ≡ spent
            → outcome ≡ and_then (if over then Ok (still s) else if spent then Err Spent else Ok (beginning place (next_ballot place.node (greatest_seen s)) s)) (closing place)
            → Ticks own place (world.nodes place.node) round s outcome
        by_rule true spent eo es h = record {
          over = λ ended. h ∙ (behind_still s (closing place s) ∙ rest_closes place s (settled_rests place s (st.of.runs up).settled));
          spent = λ goes sp. absurd (true≢false (sym eo ∙ goes));
          only_spent = λ e. elim (tick_splits g own place world s st up) [
            | inl split ↦ absurd (ok_not (joined split.first split.closes.turn) Spent (sym split.whole ∙ (sym is_turn ∙ e)))
            | inr none ↦ absurd (ok_not (still s) none.0 (sym (ap (λ b. if b then Ok (still s) else if is_spent s then Err Spent else Ok (beginning place (next_ballot place.node (greatest_seen s)) s)) eo) ∙ none.1))
          ];
          begins = λ goes sp. absurd (true≢false (sym eo ∙ goes));
        }
        by_rule false true eo es h = record {
          over = λ ended. absurd (true≢false (sym ended ∙ eo));
          spent = λ goes sp. h;
          only_spent = λ e. (eo, spent_is s round log same es);
          begins = λ goes left. absurd (left (spent_is s round log same es));
        }
        by_rule false false eo es h = record {
          over = λ ended. absurd (true≢false (sym ended ∙ eo));
          spent = λ goes sp. absurd (true≢false (sym (spent_if s round same sp) ∙ es));
          only_spent = λ e. absurd (ok_not (beginning place ballot s) Spent (sym is_begun ∙ e));
          begins = λ goes left. (
            beginning place ballot s,
            is_begun,
            record {
              frames = refl;
              unshown = refl;
              untold = refl;
              stored = λ after of. of.store ∙ ap (λ (store : Store). promised store ballot) (sym st.of.store);
            },
          );
        }
          where
            is_begun : outcome ≡ Ok (beginning place ballot s)
            is_begun = h ∙ (ap (λ k. let b : Ballot = record { round = k + 1; node = place.node } in behind (beginning place b s) (closing place (beginning place b s).after)) same
                ∙ (ap (λ (r : Result Turn Refusal). behind (beginning place ballot s) r) (rest_closes place (beginning place ballot s).after (begun_rests g place ballot s st.is_place.few))
                ∙ ap (λ (t : Turn). let r : Result Turn Refusal = Ok t in r) (joined_still (beginning place ballot s))))
