-- Near misses of the laws of turns: what wrong nodes would do, refused.
use Rattle.std.proofs.Common.{◌≡◌, ℕ, ◌≤◌, inl, inr, Bool, true, false, List, [], ◌∷◌, ◌++◌, Option, Some, None, Ok, Err, Result, refl, ap, sym, ◌∙◌, subst, arith, length}
use Rattle.std.specs.Prelude.{codes}
use Rattle.betting.specs.declared.action.Action.TheVariants.{Fold, Call}
use Rattle.paxos_wire.specs.declared.ballot.Ballot.{Ballot}
use Rattle.paxos_wire.specs.declared.message.Message.TheVariants as frame
use Rattle.slot_log.specs.declared.command.Command.{Command}
use Rattle.slot_log.specs.declared.command.Command.TheVariants.{Act}
use Rattle.protocol_model.specs.Messages.{Message, Promise, Refuse, Accepted}
use Rattle.protocol_model.specs.Nodes.{Node, new_node}
use Rattle.protocol_model.specs.Dealers.{Seat, Log}
use Rattle.protocol_model.specs.Stores.{empty_store, promised, voted}
use Rattle.paxos_wire.specs.declared.message.Message.{Message as Wire}
use Rattle.protocol_model.specs.Sets.{In}
use Rattle.seat_session.specs.Session.{Standing as Talk}
use Rattle.seat_session.specs.Laws.{Event}
use Rattle.seat_session.specs.declared.said.Said.{Said}
use Rattle.seat_session.specs.declared.said.Said.TheVariants.{Ready}
use Rattle.seat_session.specs.declared.session_fault.SessionFault.{SessionFault}
use Rattle.seat_session.specs.declared.session_fault.SessionFault.TheVariants.{BadVersion, NotCurrent}
use Rattle.dealer_kind.specs.Kind.{dealer_of}
use Rattle.node_rules.specs.Standings.{Standing}
use Rattle.node_rules.specs.Showing.{Piece}
use Rattle.node_rules.specs.Calls as call
use Rattle.node_rules.specs.Seen.{ballots_in}
use Rattle.node_rules.specs.Sending.{Frame, one}
use Rattle.node_rules.specs.Turns.{Turn, Refusal, Down, BadFrame, still}
use Rattle.protocol_model.specs.Votes.{told_by, stored_in}
use Rattle.node_rules.specs.Being.{IsTalk}
use Rattle.node_rules.specs.LawsRefused.{RefusesUp}
use Rattle.match_log.proofs.Examples.{two_players}
use Rattle.seat_session.specs.declared.phase.Phase.TheVariants.{Ready as InPlay}
use Rattle.node_rules.specs.LawsTick.{HasMet, IsGreatestRound, IsSpent, Ticks}
use Rattle.node_rules.specs.LawsAnswers.{AnswersPrepare, AnswersAccept, accepts, IsAnswered}
use Rattle.node_rules.specs.LawsAnswers as answers
use Rattle.node_rules.specs.LawsBacking.{IsBacked}
use Rattle.node_rules.specs.LawsShown.{IsShownOf}
use Rattle.node_rules.specs.LawsPending.{first_of, kept_over, WaitsUp}
use Rattle.node_rules.specs.LawsSeats.{IsUnconnected, Leaves, goes_on, closes, faults_in}
use Rattle.node_rules.proofs.Examples.{opened, setting, place, ballot, dealt, two, to, first, store_0, dealt_0}

abbrev pub runs : Node
runs = record new_node { up = true }

pub no_own : ℕ → Command → Bool
no_own node command = false

abbrev frames_of : Result Turn Refusal → List Frame
frames_of (Ok turn) = turn.frames
frames_of (Err refusal) = []

-- ---- ticks

-- a node that promised its own ballot (1, 0), and was refused by one who had promised (4, 1)
abbrev outbid : Node
outbid = record runs { store = promised empty_store (ballot 1 0); begun = promised empty_store (ballot 1 0); has = Refuse 1 (ballot 1 0) 0 (ballot 4 1) ∷ [] }

told_round : (other : Ballot) → In other (ballot 1 0 ∷ ballot 4 1 ∷ []) → other.round ≤ 4
told_round other (inl e) = let r : other.round ≡ 1 = ap (λ (b : Ballot). b.round) e in omega (arith, r)
told_round other (inr (inl e)) = let r : other.round ≡ 4 = ap (λ (b : Ballot). b.round) e in omega (arith, r)
told_round other (inr (inr none)) = absurd none

met_before : (other : Ballot) → HasMet outbid other → other.round ≤ 4
met_before other (inr e) = let r : other.round ≡ 1 = ap (λ (b : Ballot). b.round) e in omega (arith, r)
met_before other (inl (message, inr none, told)) = absurd none
met_before other (inl (message, inl e, told)) = told_round other (subst (λ (m : Message). In other (ballots_in m)) e told)

refusal_is_met : HasMet outbid (ballot 4 1)
refusal_is_met = inl (Refuse 1 (ballot 1 0) 0 (ballot 4 1), inl refl, inr (inl refl))

round_of_a_refusal_counts : IsGreatestRound outbid 4
round_of_a_refusal_counts = record { ballot = ballot 4 1; met = refusal_is_met; same = refl; above = met_before }

-- so its next ballot is none of round 2
own_round_is_not_all : IsGreatestRound outbid 1 → ⊥
own_round_is_not_all most = let l = most.above (ballot 4 1) refusal_is_met in omega (arith, l)

not_spent : IsSpent 0 0 → ⊥
not_spent (inl e) = omega (arith, e)
not_spent (inr e) = omega (arith, e)

-- a tick that prepares nothing
tick_without_prepare : Ticks no_own (place 0) runs 0 (first 0) (Ok (still (first 0))) → ⊥
unfolding opened
tick_without_prepare ticks =
    let begun = ticks.begins refl not_spent in
    let clash : ◌≡◌ {A = List Frame} [] (to 1 (frame.Prepare (ballot 1 0) 0) ∷ to 2 (frame.Prepare (ballot 1 0) 0) ∷ []) = ap frames_of begun.1 ∙ begun.2.frames in cc

abbrev round_in : Wire → ℕ
round_in (frame.Prepare b k) = b.round
round_in other = 0

-- a tick that prepares a ballot that it has met
tick_with_an_old_ballot : (turn : Turn) → turn.frames ≡ to 1 (frame.Prepare (ballot 1 0) 0) ∷ to 2 (frame.Prepare (ballot 1 0) 0) ∷ []
    → Ticks no_own (place 0) outbid 1 (first 0) (Ok turn) → ⊥
unfolding opened
tick_with_an_old_ballot turn e ticks =
    let begun = ticks.begins refl spent_later in
    let clash : to 1 (frame.Prepare (ballot 1 0) 0) ∷ to 2 (frame.Prepare (ballot 1 0) 0) ∷ [] ≡ to 1 (frame.Prepare (ballot 2 0) 0) ∷ to 2 (frame.Prepare (ballot 2 0) 0) ∷ [] =
    sym e ∙ (ap frames_of begun.1 ∙ begun.2.frames) in
    rounds (ballot 1 0) (ballot 2 0) (first_of clash)
  where
    spent_later : IsSpent 1 0 → ⊥
    spent_later (inl h) = omega (arith, h)
    spent_later (inr h) = omega (arith, h)

    rounds : (a b : Ballot) → ◌≡◌ {A = ℕ} 1 2 → ⊥
    rounds a b h = omega (arith, h)

    first_of : to 1 (frame.Prepare (ballot 1 0) 0) ∷ to 2 (frame.Prepare (ballot 1 0) 0) ∷ [] ≡ to 1 (frame.Prepare (ballot 2 0) 0) ∷ to 2 (frame.Prepare (ballot 2 0) 0) ∷ [] → ◌≡◌ {A = ℕ} 1 2
    first_of h = ap (λ (l : List Frame). elim l [ [] ↦ 0 | f ∷ others ↦ round_in f.message ]) h

-- ---- answers

-- a Prepare that is passed over
silent_on_a_prepare : IsAnswered (place 1) (first 1) runs 0 (frame.Prepare (ballot 1 0) 0) (still (first 1)) → ⊥
unfolding opened
silent_on_a_prepare (sent, answer, sends) = by_answer answer (nothing sent (sends.closing ++ []) sends.frames)
  where
    nothing : (xs ys : List Frame) → [] ≡ xs ++ ys → xs ≡ []
    nothing [] ys e = refl
    nothing (x ∷ xs) ys e = absurd (cc)

    by_answer : AnswersPrepare empty_store 0 (ballot 1 0) 0 sent → sent ≡ [] → ⊥
    by_answer (answers.promises told above tells e) h = let clash : ◌≡◌ {A = List Frame} [] (one 0 (frame.Promise (ballot 1 0) 0 told)) = sym h ∙ e in cc
    by_answer (answers.AnswersPrepare.refuses low e) h = let clash : ◌≡◌ {A = List Frame} [] (one 0 (frame.Refuse (ballot 1 0) 0 empty_store.promise)) = sym h ∙ e in cc

-- a vote that is told to its proposer alone
vote_told_to_one : AnswersAccept (place 1) empty_store 0 (ballot 1 0) 0 (dealt 0 ∷ []) (one 0 (frame.Accepted (ballot 1 0) 0 (dealt 0 ∷ []))) → ⊥
unfolding opened
vote_told_to_one (answers.accepts above e) =
    let clash : one 0 (frame.Accepted (ballot 1 0) 0 (dealt 0 ∷ [])) ≡ to 0 (frame.Accepted (ballot 1 0) 0 (dealt 0 ∷ [])) ∷ to 2 (frame.Accepted (ballot 1 0) 0 (dealt 0 ∷ [])) ∷ [] = e in cc
vote_told_to_one (answers.AnswersAccept.refuses low e) =
    let clash : frame.Accepted (ballot 1 0) 0 (dealt 0 ∷ []) ≡ frame.Refuse (ballot 1 0) 0 empty_store.promise = ap (λ (l : List Frame). elim l [ [] ↦ frame.Ask 0 | f ∷ others ↦ f.message ]) e in cc

abbrev told_in : Wire → ℕ
told_in (frame.Accepted ballot slot commands) = length commands
told_in other = 0

abbrev told_first : List Frame → ℕ
told_first [] = 0
told_first (f ∷ others) = told_in f.message

-- an answer for all of two commands, of which the second isn't taken, since the first stands in the store already
answer_beyond_what_is_taken : AnswersAccept (place 1) store_0 0 (ballot 1 0) 0 two (to 0 (frame.Accepted (ballot 1 0) 0 two) ∷ to 2 (frame.Accepted (ballot 1 0) 0 two) ∷ []) → ⊥
unfolding opened
answer_beyond_what_is_taken (answers.accepts above e) =
    let clash : to 0 (frame.Accepted (ballot 1 0) 0 two) ∷ to 2 (frame.Accepted (ballot 1 0) 0 two) ∷ []
    ≡ to 0 (frame.Accepted (ballot 1 0) 0 (dealt 0 ∷ [])) ∷ to 2 (frame.Accepted (ballot 1 0) 0 (dealt 0 ∷ [])) ∷ [] = e in
    let few : 2 ≡ 1 = ap told_first clash in absurd (omega (arith, few))
answer_beyond_what_is_taken (answers.AnswersAccept.refuses low e) = let few : 2 ≡ 1 = ap length e in absurd (omega (arith, few))

abbrev told_commands_in : Wire → List Command
told_commands_in (frame.Accepted ballot slot commands) = commands
told_commands_in other = []

abbrev told_commands_first : List Frame → List Command
told_commands_first [] = []
told_commands_first (f ∷ others) = told_commands_in f.message

-- what came where the store has another command of the ballot
answer_with_what_came : AnswersAccept (place 1) store_0 0 (ballot 1 0) 0 (dealt 2 ∷ [])
    (to 0 (frame.Accepted (ballot 1 0) 0 (dealt 2 ∷ [])) ∷ to 2 (frame.Accepted (ballot 1 0) 0 (dealt 2 ∷ [])) ∷ []) → ⊥
unfolding opened
answer_with_what_came (answers.accepts high e) =
    let same : to 0 (frame.Accepted (ballot 1 0) 0 (dealt 2 ∷ [])) ∷ to 2 (frame.Accepted (ballot 1 0) 0 (dealt 2 ∷ [])) ∷ []
    ≡ to 0 (frame.Accepted (ballot 1 0) 0 (dealt 0 ∷ [])) ∷ to 2 (frame.Accepted (ballot 1 0) 0 (dealt 0 ∷ [])) ∷ [] = e in
    let clash : dealt 2 ∷ [] ≡ dealt 0 ∷ [] = ap told_commands_first same in cc
answer_with_what_came (answers.AnswersAccept.refuses low e) = let few : 2 ≡ 1 = ap length e in absurd (omega (arith, few))

-- ---- backing

-- a promise that was sent and isn't stored
unstored_promise : IsBacked runs (Promise 1 (ballot 1 0) 0 []) → ⊥
unstored_promise backed = elim (backed empty_store (inl refl)) [ inl l ↦ omega (arith, l) | inr e ↦ (let h = e.0 in omega (arith, h)) ]

-- a vote that one of two stores has, which the next start may find
abbrev half_stored : Node
half_stored = record runs { up = false; begun = voted empty_store 0 (record { ballot = ballot 1 0; command = dealt 0 }) }

vote_in_one_store : IsBacked half_stored (Accepted 1 (ballot 1 0) 0 (dealt 0)) → ⊥
vote_in_one_store backed = elim ((backed empty_store (inl refl)).0) [ inl l ↦ omega (arith, l) | inr e ↦ (let h = e.0 in omega (arith, h)) ]

-- ---- what is shown

everyone : ℕ → Bool
everyone seat = true

nobody : ℕ → Bool
nobody seat = false

-- the deal's line to seat 0
abbrev first_line : Piece
first_line = record { reader = Seat 0; text = codes "MATCHSTATE:0:0::TdAs|" }

-- a deal without its lines
lines_left_out : IsShownOf (dealer_of setting no_own) everyone 2 [] (dealt 0) [] → ⊥
unfolding opened everyone
lines_left_out (inl shown) = let clash : true ≡ false = shown.0 in cc
lines_left_out (inr (log, fits, added, shown)) =
    let clash : ◌≡◌ {A = List Piece} [] (first_line ∷ (record { reader = Seat 1; text = codes "MATCHSTATE:1:0::|8hTc" }) ∷ log) = shown in cc

-- a line to a seat that isn't connected
line_to_nobody : IsShownOf (dealer_of setting no_own) nobody 2 [] (dealt 0) (first_line ∷ []) → ⊥
unfolding opened nobody
line_to_nobody (inl shown) = let clash : ◌≡◌ {A = List Piece} (first_line ∷ []) [] = shown.1 in cc
line_to_nobody (inr (log, fits, added, shown)) = elim added [
  | inl none ↦ (let clash : ◌≡◌ {A = List Piece} (first_line ∷ []) [] = shown ∙ none.0 in cc)
  | inr some ↦ (let clash : ◌≡◌ {A = List Piece} (first_line ∷ []) ((record { reader = Log; text = some.0 }) ∷ []) = shown ∙ some.2 in
      let readers : Seat 0 ≡ Log = ap (λ (l : List Piece). elim l [ [] ↦ Log | piece ∷ others ↦ piece.reader ]) clash in cc)
]

-- ---- the act that waits

-- a second act doesn't take the first one's place
first_act_stays : first_of (Some (Act 0 0 Fold)) (Act 0 0 Call ∷ []) ≡ Some (Act 0 0 Fold)
first_act_stays = refl

first_of_two_waits : first_of None (Act 0 0 Fold ∷ Act 0 0 Call ∷ []) ≡ Some (Act 0 0 Fold)
first_of_two_waits = refl

-- it is forgotten once it was applied, and not before
applied_act_fits_no_more : kept_over (dealer_of setting no_own) (dealt 0 ∷ []) (Act 0 0 Fold ∷ []) (Some (Act 0 0 Fold)) ≡ None
unfolding opened
applied_act_fits_no_more = refl

act_outlasts_what_has_no_effect : kept_over (dealer_of setting no_own) (dealt 0 ∷ []) (dealt 1 ∷ []) (Some (Act 0 0 Fold)) ≡ Some (Act 0 0 Fold)
unfolding opened
act_outlasts_what_has_no_effect = refl

-- an act that is forgotten at a tick
forgotten_act : (turn : Turn) → turn.after.pending ≡ None → WaitsUp no_own (place 0) (record dealt_0 { pending = Some (Act 0 0 Fold) }) runs call.Tick turn → ⊥
forgotten_act turn e waits = let clash : ◌≡◌ {A = Option Command} None (Some (Act 0 0 Fold)) = sym e ∙ waits in cc

-- ---- seats

faults_in_order : faults_in 1 (Ok Ready ∷ Err NotCurrent ∷ Err BadVersion ∷ []) ≡ (record { seat = 1; fault = NotCurrent }) ∷ (record { seat = 1; fault = BadVersion }) ∷ []
faults_in_order = refl

-- a seat that is dropped, where no answer closed its session
dropped_without_a_fault : (after : Standing) (events : List Event) → IsUnconnected after 0 → Leaves (place 0) after 0 events [] [] [] → ⊥
dropped_without_a_fault after events unconnected (goes_on led) = let clash : ◌≡◌ {A = Option Talk} None (Some led.talk) = sym unconnected ∙ led.session in cc
dropped_without_a_fault after events unconnected (closes before last talk closed whole happened open_then answers over gone) = ends_in before last whole
  where
    ends_in : (xs : List (Result Said SessionFault)) (x : Result Said SessionFault) → [] ≡ xs ++ x ∷ [] → ⊥
    ends_in [] x e = cc
    ends_in (y ∷ ys) x e = cc

-- a session in which a whole line waits for its answer stands nowhere between calls
unanswered_line : (bytes : List ℕ) → IsTalk two_players 0 (record { phase = InPlay; waiting = 35 ∷ 10 ∷ [] }) bytes → ⊥
unanswered_line bytes talk = talk.answered.one_line.1.0 refl

-- ---- refusals

-- a node that runs and says that it is down
running_node_that_is_down : (from : ℕ) (bytes : List ℕ) → RefusesUp (call.Frame from bytes) Down → ⊥
running_node_that_is_down from bytes (fault, read, why) = let clash : Down ≡ BadFrame fault = why in cc

-- ---- the 64 slots

-- a vote in the last of the 64 slots is told, the one behind it isn't
last_slot_is_told : told_by (voted empty_store 63 (record { ballot = ballot 1 0; command = dealt 0 })) 0 ≡ (record { slot = 63; ballot = ballot 1 0; command = dealt 0 }) ∷ []
unfolding opened
last_slot_is_told = refl

next_slot_is_not : told_by (voted empty_store 64 (record { ballot = ballot 1 0; command = dealt 0 })) 0 ≡ []
unfolding opened
next_slot_is_not = refl

-- what a ballot has at a slot stays, another ballot's command doesn't
stored_command : (stored_in (Some (record { ballot = ballot 1 0; command = dealt 0 })) (ballot 1 0) (dealt 1) ≡ dealt 0)
    × (stored_in (Some (record { ballot = ballot 1 0; command = dealt 0 })) (ballot 2 0) (dealt 1) ≡ dealt 1)
unfolding opened
stored_command = (refl, refl)
