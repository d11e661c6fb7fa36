-- Events that may come on the way to the end of a match, one after another.
use Rattle.std.proofs.Common.{◌≡◌, ℕ, zero, suc, ◌+◌, ◌≤◌, inl, inr, List, [], ◌∷◌, ◌++◌, map, length, Result, Ok, refl, sym, subst, arith}
use Rattle.paxos_wire.specs.declared.ballot.Ballot.{Ballot}
use Rattle.paxos_wire.specs.declared.message.Message.TheVariants.{Prepare, Promise, Accept, Accepted}
use Rattle.slot_log.specs.declared.command.Command.{Command}
use Rattle.protocol_model.specs.Sets.{In, put}
use Rattle.protocol_model.specs.Votes.{told_by}
use Rattle.protocol_model.proofs.Sets.{in_split}
use Rattle.proposer.specs.Campaigns.{next_ballot}
use Rattle.node_rules.specs.Standings.{Place, Standing, front_of}
use Rattle.node_rules.specs.Turns.{Turn, Refusal}
use Rattle.node_rules.specs.Calls.{Call}
use Rattle.node_rules.specs.Rules.{IsTurn}
use Rattle.node_rules.specs.Calm.{without, ballot_after, Event, Ticks, Delivers, delivers, round_by}
use Rattle.node_rules.specs.CalmRound.{node_of, Sent, sent_by, IsOnItsWay, AreReadBack, GoOn}
use Rattle.node_rules.specs.Ways.{two_ballots, IsWay, at_once, outbid}
use Rattle.node_rules.specs.Endings.{Help, Gives, node_helped, IsCall, MayCome, HasEnded, CanEnd}

-- ---- fewer events suffice

pub can_end_le : (places : ℕ → Place) (i : ℕ) (members : List ℕ) (k m : ℕ) → k ≤ m → (st : ℕ → Standing) (sent : List Sent) → CanEnd places i members k st sent → CanEnd places i members m st sent
unfolding CanEnd
can_end_le places i members zero zero le st sent ended = ended
can_end_le places i members zero (suc m) le st sent ended = inl ended
can_end_le places i members (suc k) zero le st sent ended = absurd (omega (arith, le))
can_end_le places i members (suc k) (suc m) le st sent (inl ended) = inl ended
can_end_le places i members (suc k) (suc m) le st sent (inr (help, may, goes)) = inr (
  help,
  may,
  λ called outcome is rule. let h = goes called outcome is rule in (
    h.0,
    h.1,
    λ back. can_end_le places i members k m (omega (arith, le)) (put st (node_helped help) (h.0).after) (sent_by (node_helped help) (h.0).frames ++ sent) (h.2 back),
  ),
)

-- where it has ended nothing is left
pub ended_now : (places : ℕ → Place) (i : ℕ) (members : List ℕ) (k : ℕ) (st : ℕ → Standing) (sent : List Sent) → HasEnded (places i) (st i) → CanEnd places i members k st sent
unfolding CanEnd
ended_now places i members zero st sent ended = ended
ended_now places i members (suc k) st sent ended = inl ended

-- one event
pub can_end_by : (places : ℕ → Place) (i : ℕ) (members : List ℕ) (k : ℕ) (st : ℕ → Standing) (sent : List Sent) (help : Help) → MayCome i members sent help
    → ((called : Call) (outcome : Result Turn Refusal) → IsCall help called → IsTurn (places (node_helped help)) (st (node_helped help)) called outcome
    → (turn : Turn) × (outcome ≡ Ok turn)
    × (AreReadBack turn.frames → CanEnd places i members k (put st (node_helped help) turn.after) (sent_by (node_helped help) turn.frames ++ sent)))
    → CanEnd places i members (suc k) st sent
unfolding CanEnd
can_end_by places i members k st sent help may goes = inr (help, may, goes)

-- ---- a way's events may come

abbrev pub IsOwnTick : ℕ → Event → Type 0
IsOwnTick i (Ticks node) = node ≡ i
IsOwnTick i (Delivers from to bytes) = Unit {0}

own_map : (i : ℕ) (f : ℕ → Event) (js : List ℕ) → ((j : ℕ) → IsOwnTick i (f j)) → (y : Event) → In y (map f js) → IsOwnTick i y
own_map i f [] all y h = absurd h
own_map i f (j ∷ js) all y (inl e) = subst (IsOwnTick i) (sym e) (all j)
own_map i f (j ∷ js) all y (inr h) = own_map i f js all y h

round_own : (ballot : Ballot) (standings : ℕ → Standing) (i : ℕ) (members : List ℕ) (commands : List Command) (y : Event) → In y (round_by ballot standings i members commands) → IsOwnTick i y
round_own ballot standings i members commands y (inl e) = subst (IsOwnTick i) (sym e) refl
round_own ballot standings i members commands y (inr h) = elim (in_split (map asks (without i members)) _ y h) [
  | inl a ↦ own_map i asks (without i members) (λ j. tt) y a
  | inr h ↦ elim (in_split (map promises (without i members)) _ y h) [
    | inl a ↦ own_map i promises (without i members) (λ j. tt) y a
    | inr h ↦ elim (in_split (map accepts (without i members)) _ y h) [
      | inl a ↦ own_map i accepts (without i members) (λ j. tt) y a
      | inr a ↦ own_map i votes (without i members) (λ j. tt) y a
    ]
  ]
]
  where
    asks : ℕ → Event
    asks j = delivers i j (Prepare ballot (front_of (standings i)))

    promises : ℕ → Event
    promises j = delivers j i (Promise ballot (front_of (standings i)) (told_by (standings j).store (front_of (standings i))))

    accepts : ℕ → Event
    accepts j = delivers i j (Accept ballot (front_of (standings i)) commands)

    votes : ℕ → Event
    votes j = delivers j i (Accepted ballot (front_of (standings i)) commands)

two_own : (standings : ℕ → Standing) (i : ℕ) (members : List ℕ) (commands : List Command) (j : ℕ) (y : Event) → In y (two_ballots standings i members commands j) → IsOwnTick i y
two_own standings i members commands j y (inl e) = subst (IsOwnTick i) (sym e) refl
two_own standings i members commands j y (inr (inl e)) = subst (IsOwnTick i) (sym e) tt
two_own standings i members commands j y (inr (inr (inl e))) = subst (IsOwnTick i) (sym e) tt
two_own standings i members commands j y (inr (inr (inr h))) = round_own (next_ballot i (standings j).store.promise) standings i members commands y h

pub way_own : (standings : ℕ → Standing) (i : ℕ) (members : List ℕ) (commands : List Command) (events : List Event) → IsWay standings i members commands events → (y : Event) → In y events → IsOwnTick i y
way_own standings i members commands events (at_once unpromised e) y h = round_own (ballot_after i (standings i)) standings i members commands y (subst (In y) e h)
way_own standings i members commands events (outbid j bid e) y h = two_own standings i members commands j y (subst (In y) e h)

may_give : (i : ℕ) (members : List ℕ) (sent : List Sent) (event : Event) → IsOwnTick i event → IsOnItsWay sent event → MayCome i members sent (Gives event)
may_give i members sent (Ticks node) own way = own
may_give i members sent (Delivers from to bytes) own way = way

-- what goes on by events ends by as many more
pub can_end_on : (places : ℕ → Place) (i : ℕ) (members : List ℕ) (k : ℕ) (IsSo : (ℕ → Standing) → Type 0) (events : List Event) (st : ℕ → Standing) (sent : List Sent) → ((y : Event) → In y events → IsOwnTick i y)
    → GoOn places IsSo st sent events → ((new : ℕ → Standing) (more : List Sent) → IsSo new → CanEnd places i members k new more) → CanEnd places i members (length events + k) st sent
unfolding GoOn
can_end_on places i members k IsSo [] st sent owns go later = can_end_le places i members k (0 + k) (omega arith) st sent (later st sent go)
can_end_on places i members k IsSo (event ∷ events) st sent owns (way, goes) later =
    can_end_le places i members (suc (length events + k)) (length (event ∷ events) + k) (omega arith) st sent
    (can_end_by places i members (length events + k) st sent (Gives event) (may_give i members sent event (owns event (inl refl)) way)
    (λ called outcome is rule. let h = goes outcome (subst (λ (c : Call). IsTurn (places (node_of event)) (st (node_of event)) c outcome) is rule) in (
      h.0,
      h.1,
      λ back. can_end_on places i members k IsSo events (put st (node_of event) (h.0).after) (sent_by (node_of event) (h.0).frames ++ sent) (λ y there. owns y (inr there)) (h.2 back) later,
    )))
