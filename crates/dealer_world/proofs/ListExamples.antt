-- A match of one hand: a record of the frames of three nodes, of what came, and of what they showed. None of its frames is forged, and one list is
-- behind it, of the deal that is drawn from seed 0. Behind no record that differs in a card, an action or a payoff, by a hidden card, or by a line whose
-- command nobody had accepted, is any list.
use Rattle.std.proofs.Common.{◌≡◌, ℕ, zero, suc, ◌+◌, ◌*◌, ◌<◌, ◌≤◌, ◌⊎◌, inl, inr, Bool, true, false, true≢false, not, ◌&&◌, eqb, if◌then◌else◌, Option, Some, None, List, [], ◌∷◌, ◌++◌, length, take, refl, ap, sym, ◌∙◌, subst, arith}
use Rattle.std.specs.Prelude.{codes, bytes_eq, ◌||◌}
use Rattle.std.proofs.lemmas.Bool.{false≢true}
use Rattle.std.proofs.lemmas.Slice.Eq.{bytes_eq-Decides}
use Rattle.betting.specs.declared.action.Action.TheVariants.{Fold}
use Rattle.slot_log.specs.declared.command.Command.{Command}
use Rattle.slot_log.specs.declared.command.Command.TheVariants.{Deal, Act}
use Rattle.match_log.proofs.Examples.{opened, two_players, alice_and_bob}
use Rattle.deck_draw.proofs.Examples.{drawn_of_zero}
use Rattle.paxos_wire.specs.declared.ballot.Ballot.{Ballot}
use Rattle.paxos_wire.specs.Reading.{body_of, message_at, of_ballot_at, ballot_at, below_at, promise_at, entries_at, accept_at, proposed_at, behind_count, commands_at, command_at, dealt_at, deal_at, deal_of, acted_at, action_at, action_of, ask_at}
use Rattle.paxos_wire.specs.Faults.{header_fault, reading}
use Rattle.protocol_model.specs.Sets.{In, IsBeginning}
use Rattle.protocol_model.specs.Messages.{Message, Prepare, Promise, Accept, Accepted, Ask}
use Rattle.protocol_model.specs.Quorums.{count, IsChosen, AreChosen}
use Rattle.protocol_model.specs.Dealers.{Dealer, HasNoFeed, Seat, Log}
use Rattle.protocol_model.specs.Moves.{Shown}
use Rattle.protocol_model.specs.Laws.{IsOfBeginning, NeverGoesBack}
use Rattle.dealer_kind.specs.Kind.{Setting, line_of, log_of}
use Rattle.dealer_kind.specs.Sources.{deal_of as own_deal, is_deal}
use Rattle.dealer_kind.specs.declared.source.Source.{Source}
use Rattle.dealer_kind.specs.declared.source.Source.TheVariants.{Seed}
use Rattle.dealer_world.specs.Records.{Frame, Arrived, Delivered, Came, Connected, Arrival, Start, Piece, Record, Line, Written, lines_of, logs_of, said_by, said}
use Rattle.dealer_world.specs.Unforged.{IsAmong, IsUnforged}
use Rattle.dealer_world.specs.Headline.{Era, dealer_in, AreTexts, IsLineOf, IsLogOf, HasOrigin, OneList}

-- ---- the match

abbrev pub setting : Setting
setting = record { game = two_players; title = record { name = codes "m"; game = codes "l2.game"; hands = 1 }; names = alice_and_bob }

-- 6d4h|2d9d/TdAdAc/3h/Ts, the first hand of seed 0
abbrev cards : List ℕ
cards = 17 ∷ 10 ∷ 1 ∷ 29 ∷ 33 ∷ 49 ∷ 48 ∷ 6 ∷ 35 ∷ []

abbrev pub deal : Command
deal = Deal 0 cards

-- bob's, the first to act
abbrev fold : Command
fold = Act 0 0 Fold

abbrev header : List ℕ
header = codes "# name/game/hands m l2.game 1\n"

-- what bob is shown after the deal, and after his fold
abbrev deal_line : List ℕ
deal_line = codes "MATCHSTATE:1:0::|2d9d"

abbrev fold_line : List ℕ
fold_line = codes "MATCHSTATE:1:0:f:|2d9d"

abbrev finished : List ℕ
finished = codes "STATE:0:f:6d4h|2d9d:5|-5:alice|bob\nSCORE:5|-5:alice|bob\n"

no_line_yet : line_of setting [] 1 ≡ None
unfolding opened
no_line_yet = refl

line_after_the_deal : line_of setting (deal ∷ []) 1 ≡ Some deal_line
unfolding opened
line_after_the_deal = refl

line_after_the_fold : line_of setting (fold ∷ deal ∷ []) 1 ≡ Some fold_line
unfolding opened
line_after_the_fold = refl

log_at_first : log_of setting [] ≡ header
unfolding opened
log_at_first = refl

log_after_the_deal : log_of setting (deal ∷ []) ≡ header
unfolding opened
log_after_the_deal = refl

log_after_the_fold : log_of setting (fold ∷ deal ∷ []) ≡ header ++ finished
unfolding opened
log_after_the_fold = refl

-- ---- the frames, byte for byte

abbrev pub ballot : Ballot
ballot = record { round = 1; node = 0 }

pub prepare : List ℕ
prepare = 0 ∷ 0 ∷ 0 ∷ 11 ∷ 2 ∷ 1 ∷ 0 ∷ 0 ∷ 0 ∷ 1 ∷ 0 ∷ 0 ∷ 0 ∷ 0 ∷ 0 ∷ []

pub promise : List ℕ
promise = 0 ∷ 0 ∷ 0 ∷ 12 ∷ 2 ∷ 2 ∷ 0 ∷ 0 ∷ 0 ∷ 1 ∷ 0 ∷ 0 ∷ 0 ∷ 0 ∷ 0 ∷ 0 ∷ []

pub accept_deal : List ℕ
accept_deal = 0 ∷ 0 ∷ 0 ∷ 27 ∷ 2 ∷ 4 ∷ 0 ∷ 0 ∷ 0 ∷ 1 ∷ 0 ∷ 0 ∷ 0 ∷ 0 ∷ 0 ∷ 1 ∷ 1 ∷ 0 ∷ 0 ∷ 0 ∷ 0 ∷ 9 ∷ 17 ∷ 10 ∷ 1 ∷ 29 ∷ 33 ∷ 49 ∷ 48 ∷ 6 ∷ 35 ∷ []

pub accepted_deal : List ℕ
accepted_deal = 0 ∷ 0 ∷ 0 ∷ 27 ∷ 2 ∷ 5 ∷ 0 ∷ 0 ∷ 0 ∷ 1 ∷ 0 ∷ 0 ∷ 0 ∷ 0 ∷ 0 ∷ 1 ∷ 1 ∷ 0 ∷ 0 ∷ 0 ∷ 0 ∷ 9 ∷ 17 ∷ 10 ∷ 1 ∷ 29 ∷ 33 ∷ 49 ∷ 48 ∷ 6 ∷ 35 ∷ []

accept_fold : List ℕ
accept_fold = 0 ∷ 0 ∷ 0 ∷ 24 ∷ 2 ∷ 4 ∷ 0 ∷ 0 ∷ 0 ∷ 1 ∷ 0 ∷ 0 ∷ 0 ∷ 0 ∷ 1 ∷ 1 ∷ 2 ∷ 0 ∷ 0 ∷ 0 ∷ 0 ∷ 0 ∷ 0 ∷ 0 ∷ 0 ∷ 0 ∷ 0 ∷ 0 ∷ []

accepted_fold : List ℕ
accepted_fold = 0 ∷ 0 ∷ 0 ∷ 24 ∷ 2 ∷ 5 ∷ 0 ∷ 0 ∷ 0 ∷ 1 ∷ 0 ∷ 0 ∷ 0 ∷ 0 ∷ 1 ∷ 1 ∷ 2 ∷ 0 ∷ 0 ∷ 0 ∷ 0 ∷ 0 ∷ 0 ∷ 0 ∷ 0 ∷ 0 ∷ 0 ∷ 0 ∷ []

asking : List ℕ
asking = 0 ∷ 0 ∷ 0 ∷ 6 ∷ 2 ∷ 7 ∷ 0 ∷ 0 ∷ 0 ∷ 0 ∷ []

abbrev pub from_to : ℕ → ℕ → List ℕ → Frame
from_to from to bytes = record { from = from; to = to; bytes = bytes }

-- node 0 begins a ballot, node 1 promises it, and both accept the deal
abbrev pub sent_before_the_fold : List Frame
sent_before_the_fold =
    from_to 0 1 prepare ∷ from_to 0 2 prepare ∷ from_to 1 0 promise ∷ from_to 0 1 accept_deal ∷ from_to 0 2 accept_deal ∷ from_to 0 1 accepted_deal ∷ from_to 0 2 accepted_deal
    ∷ from_to 1 0 accepted_deal ∷ from_to 1 2 accepted_deal ∷ []

-- and then bob's fold; node 1 asks what was chosen before
abbrev sent : List Frame
sent =
    sent_before_the_fold ++ from_to 0 1 accept_fold ∷ from_to 0 2 accept_fold ∷ from_to 0 1 accepted_fold ∷ from_to 0 2 accepted_fold ∷ from_to 1 0 accepted_fold ∷ from_to 1 2 accepted_fold
    ∷ from_to 1 0 asking ∷ []

abbrev pub messages_before_the_fold : List Message
messages_before_the_fold =
    Prepare ballot 0 ∷ Prepare ballot 0 ∷ Promise 1 ballot 0 [] ∷ Accept ballot 0 deal ∷ Accept ballot 0 deal ∷ Accepted 0 ballot 0 deal ∷ Accepted 0 ballot 0 deal ∷ Accepted 1 ballot 0 deal
    ∷ Accepted 1 ballot 0 deal ∷ []

abbrev messages : List Message
messages =
    messages_before_the_fold ++ Accept ballot 1 fold ∷ Accept ballot 1 fold ∷ Accepted 0 ballot 1 fold ∷ Accepted 0 ballot 1 fold ∷ Accepted 1 ballot 1 fold ∷ Accepted 1 ballot 1 fold ∷ Ask 1 0 ∷ []

pub said_before_the_fold : said sent_before_the_fold ≡ messages_before_the_fold
unfolding prepare promise accept_deal accepted_deal reading header_fault body_of message_at of_ballot_at ballot_at below_at promise_at entries_at accept_at proposed_at behind_count commands_at command_at dealt_at deal_at deal_of
said_before_the_fold = refl

all_said : said sent ≡ messages
unfolding prepare promise accept_deal accepted_deal accept_fold accepted_fold asking reading header_fault body_of message_at of_ballot_at ballot_at below_at promise_at entries_at accept_at proposed_at behind_count commands_at command_at dealt_at deal_at deal_of acted_at action_at action_of ask_at
all_said = refl

pub prepare_said : said_by (from_to 0 1 prepare) ≡ Prepare ballot 0 ∷ []
unfolding prepare reading header_fault body_of message_at of_ballot_at ballot_at below_at
prepare_said = refl

-- ---- what came, and what was shown

-- with CR LF behind it
abbrev ended : List ℕ → List ℕ
ended line = line ++ 13 ∷ 10 ∷ []

abbrev folding : List ℕ
folding = codes "MATCHSTATE:1:0::|2d9d:f"

abbrev at : ℕ → Arrived → Arrival
at count what = record { what = what; sent_before = count }

abbrev came : List Arrival
came =
    at 0 (Connected 0 1) ∷ at 0 (Came 0 1 (ended (codes "VERSION:2.0.0"))) ∷ at 2 (Delivered (from_to 0 1 prepare)) ∷ at 3 (Delivered (from_to 1 0 promise))
    ∷ at 7 (Delivered (from_to 0 1 accept_deal)) ∷ at 9 (Delivered (from_to 1 0 accepted_deal)) ∷ at 9 (Came 0 1 (ended folding))
    ∷ at 13 (Delivered (from_to 0 1 accept_fold)) ∷ at 16 (Delivered (from_to 1 0 accepted_fold)) ∷ []

abbrev logged : ℕ → List ℕ → Piece
logged node text = record { node = node; start = 0; reader = Log; text = text }

abbrev line_of_bob : List ℕ → Piece
line_of_bob text = record { node = 0; start = 0; reader = Seat 1; text = text }

abbrev headers : List Piece
headers = logged 0 header ∷ logged 1 header ∷ logged 2 header ∷ []

abbrev pub started : List Start
started = (record { node = 0; start = 0 }) ∷ (record { node = 1; start = 0 }) ∷ (record { node = 2; start = 0 }) ∷ []

-- the record of a match that sent these frames, and showed these pieces behind the headers of its logs
abbrev with_shown : List Frame → List Piece → Record
with_shown frames pieces = record { sent = frames; delivered = came; starts = started; shown = headers ++ pieces }

abbrev kept : Record
kept = with_shown sent (line_of_bob deal_line ∷ line_of_bob fold_line ∷ logged 0 finished ∷ [])

-- ---- each of a list

abbrev AllOf : {A : Type 0} → (A → Type 0) → List A → Type 0
AllOf IsSo [] = Unit {0}
AllOf IsSo (x ∷ xs) = IsSo x × AllOf IsSo xs

each_in : {A : Type 0} (IsSo : A → Type 0) (xs : List A) → AllOf IsSo xs → (x : A) → In x xs → IsSo x
each_in IsSo [] all x there = elim there [ ]
each_in IsSo (y ∷ ys) (first, rest) x (inl is) = subst IsSo (sym is) first
each_in IsSo (y ∷ ys) (first, rest) x (inr there) = each_in IsSo ys rest x there

-- no frame of it is forged
not_forged : IsUnforged kept.sent kept.delivered
not_forged arrival there = each_in (λ (a : Arrival). IsAmong (take a.sent_before sent) a.what) came (
  tt,
  (
    tt,
    (
      inl refl,
      (
        inr (inr (inl refl)),
        (
          inr (inr (inr (inl refl))),
          (
            inr (inr (inr (inr (inr (inr (inr (inl refl))))))),
            (tt, (inr (inr (inr (inr (inr (inr (inr (inr (inr (inl refl))))))))), (inr (inr (inr (inr (inr (inr (inr (inr (inr (inr (inr (inr (inr (inl refl))))))))))))), tt))),
          ),
        ),
      ),
    ),
  ),
) arrival there

-- ---- what was chosen

-- nodes 0 and 1
abbrev pub both : ℕ → Bool
both zero = true
both (suc zero) = true
both (suc (suc node)) = false

deal_votes : (node : ℕ) → node < 3 → both node ≡ true → In (Accepted node ballot 0 deal) messages
deal_votes zero less is = inr (inr (inr (inr (inr (inl refl)))))
deal_votes (suc zero) less is = inr (inr (inr (inr (inr (inr (inr (inl refl)))))))
deal_votes (suc (suc node)) less is = absurd (true≢false (sym is))

fold_votes : (node : ℕ) → node < 3 → both node ≡ true → In (Accepted node ballot 1 fold) messages
fold_votes zero less is = inr (inr (inr (inr (inr (inr (inr (inr (inr (inr (inr (inl refl)))))))))))
fold_votes (suc zero) less is = inr (inr (inr (inr (inr (inr (inr (inr (inr (inr (inr (inr (inr (inl refl)))))))))))))
fold_votes (suc (suc node)) less is = absurd (true≢false (sym is))

chosen : AreChosen 3 messages (fold ∷ deal ∷ [])
chosen = ((ballot, (both, omega arith, fold_votes)), ((ballot, (both, omega arith, deal_votes)), tt))

-- a quorum of three has a member
none_of_three : (quorum : ℕ → Bool) → quorum 0 ≡ false → quorum 1 ≡ false → quorum 2 ≡ false → count quorum 3 ≡ 0
none_of_three quorum a b c =
    ap (λ x. if x then 1 + count quorum 2 else count quorum 2) c
    ∙ (ap (λ x. if x then 1 + count quorum 1 else count quorum 1) b ∙ ap (λ x. if x then 1 + count quorum 0 else count quorum 0) a)

pub some_member : (quorum : ℕ → Bool) → 3 < 2 * count quorum 3 → (node : ℕ) × (node < 3) × (quorum node ≡ true)
some_member quorum most = by_tests (quorum 0) (quorum 1) (quorum 2) refl refl refl
  where
    by_tests : (a b c : Bool) → quorum 0 ≡ a → quorum 1 ≡ b → quorum 2 ≡ c → (node : ℕ) × (node < 3) × (quorum node ≡ true)
    by_tests true b c is_a is_b is_c = (0, omega arith, is_a)
    by_tests false true c is_a is_b is_c = (1, omega arith, is_b)
    by_tests false false true is_a is_b is_c = (2, omega arith, is_c)
    by_tests false false false is_a is_b is_c = let none = none_of_three quorum is_a is_b is_c in absurd (omega (arith, most, none))

-- the votes of these messages
abbrev IsVote : Message → Type 0
IsVote (Accepted sender voted slot command) = ((slot ≡ 0) × (command ≡ deal)) ⊎ ((slot ≡ 1) × (command ≡ fold))
IsVote other = Unit {0}

abbrev IsVoteForTheDeal : Message → Type 0
IsVoteForTheDeal (Accepted sender voted slot command) = (slot ≡ 0) × (command ≡ deal)
IsVoteForTheDeal other = Unit {0}

all_votes : AllOf IsVote messages
all_votes = (tt, (tt, (tt, (tt, (tt, (inl (refl, refl), (inl (refl, refl), (inl (refl, refl), (inl (refl, refl), (tt, (tt, (inr (refl, refl), (inr (refl, refl), (inr (refl, refl), (inr (refl, refl), (tt, tt))))))))))))))))

all_votes_for_the_deal : AllOf IsVoteForTheDeal messages_before_the_fold
all_votes_for_the_deal = (tt, (tt, (tt, (tt, (tt, ((refl, refl), ((refl, refl), ((refl, refl), ((refl, refl), tt)))))))))

chosen_is : (slot : ℕ) (command : Command) → IsChosen 3 messages slot command → ((slot ≡ 0) × (command ≡ deal)) ⊎ ((slot ≡ 1) × (command ≡ fold))
chosen_is slot command (voted, (quorum, most, members)) =
    let member = some_member quorum most in each_in IsVote messages all_votes (Accepted member.0 voted slot command) (members member.0 member.1 member.2)

chosen_before_is : (slot : ℕ) (command : Command) → IsChosen 3 messages_before_the_fold slot command → (slot ≡ 0) × (command ≡ deal)
chosen_before_is slot command (voted, (quorum, most, members)) =
    let member = some_member quorum most in
    each_in IsVoteForTheDeal messages_before_the_fold all_votes_for_the_deal (Accepted member.0 voted slot command) (members member.0 member.1 member.2)

-- the lists that may be behind the record
abbrev IsOneOf : List Command → Type 0
IsOneOf commands = (commands ≡ []) ⊎ ((commands ≡ deal ∷ []) ⊎ (commands ≡ fold ∷ deal ∷ []))

abbrev pub IsAtMostTheDeal : List Command → Type 0
IsAtMostTheDeal commands = (commands ≡ []) ⊎ (commands ≡ deal ∷ [])

nothing_of_no_length : {A : Type 0} (xs : List A) → length xs ≡ 0 → xs ≡ []
nothing_of_no_length [] none = refl
nothing_of_no_length (x ∷ xs) some = absurd (omega (arith, some))

only_these : (commands : List Command) → AreChosen 3 messages commands → IsOneOf commands
only_these [] chosen_so = inl refl
only_these (command ∷ before) (here, rest) = by_slot (chosen_is (length before) command here) (only_these before rest)
  where
    by_slot : ((length before ≡ 0) × (command ≡ deal)) ⊎ ((length before ≡ 1) × (command ≡ fold)) → IsOneOf before → IsOneOf (command ∷ before)
    by_slot (inl (none, is)) earlier = inr (inl (ap (λ c. c ∷ before) is ∙ ap (λ (b : List Command). deal ∷ b) (nothing_of_no_length before none)))
    by_slot (inr (one, is)) (inl empty) = let none : length before ≡ 0 = ap length empty in absurd (omega (arith, one, none))
    by_slot (inr (one, is)) (inr (inl first)) = inr (inr (ap (λ c. c ∷ before) is ∙ ap (λ (b : List Command). fold ∷ b) first))
    by_slot (inr (one, is)) (inr (inr both_of)) = let two : length before ≡ 2 = ap length both_of in absurd (omega (arith, one, two))

pub only_the_deal : (commands : List Command) → AreChosen 3 messages_before_the_fold commands → IsAtMostTheDeal commands
only_the_deal [] chosen_so = inl refl
only_the_deal (command ∷ before) (here, rest) =
    let is = chosen_before_is (length before) command here in
    inr (ap (λ c. c ∷ before) is.1 ∙ ap (λ (b : List Command). deal ∷ b) (nothing_of_no_length before is.0))

-- ---- what they begin with

behind_nothing : {A : Type 0} (newer first : List A) → [] ≡ newer ++ first → first ≡ []
behind_nothing [] first is = sym is
behind_nothing (x ∷ newer) first is = absurd cc

behind_one : {A : Type 0} (x : A) (xs newer first : List A) → x ∷ xs ≡ newer ++ first → (first ≡ x ∷ xs) ⊎ IsBeginning first xs
behind_one x xs [] first is = inl (sym is)
behind_one x xs (y ∷ newer) first is = let rest : xs ≡ newer ++ first = cc in inr (newer, rest)

begins_nothing : (first commands : List Command) → commands ≡ [] → IsBeginning first commands → first ≡ []
begins_nothing first commands empty (newer, is) = behind_nothing newer first (sym empty ∙ is)

begins_the_deal : (first commands : List Command) → commands ≡ deal ∷ [] → IsBeginning first commands → IsAtMostTheDeal first
begins_the_deal first commands one (newer, is) = elim (behind_one deal [] newer first (sym one ∙ is)) [
  | inl all ↦ inr all
  | inr (more, rest) ↦ inl (behind_nothing more first rest)
]

begins_both : (first commands : List Command) → commands ≡ fold ∷ deal ∷ [] → IsBeginning first commands → IsOneOf first
begins_both first commands two (newer, is) = elim (behind_one fold (deal ∷ []) newer first (sym two ∙ is)) [
  | inl all ↦ inr (inr all)
  | inr rest ↦ elim (begins_the_deal first (deal ∷ []) refl rest) [ inl empty ↦ inl empty | inr one ↦ inr (inl one) ]
]

begins_one_of : (first commands : List Command) → IsOneOf commands → IsBeginning first commands → IsOneOf first
begins_one_of first commands (inl empty) begins = inl (begins_nothing first commands empty begins)
begins_one_of first commands (inr (inl one)) begins = elim (begins_the_deal first commands one begins) [ inl empty ↦ inl empty | inr all ↦ inr (inl all) ]
begins_one_of first commands (inr (inr two)) begins = begins_both first commands two begins

begins_at_most : (first commands : List Command) → IsAtMostTheDeal commands → IsBeginning first commands → IsAtMostTheDeal first
begins_at_most first commands (inl empty) begins = inl (begins_nothing first commands empty begins)
begins_at_most first commands (inr one) begins = begins_the_deal first commands one begins

-- ---- feeds

abbrev has_no_feed : List ℕ → Bool
has_no_feed [] = true
has_no_feed (byte ∷ bytes) = not (eqb byte 10) && has_no_feed bytes

feeds_decided : (bytes : List ℕ) → has_no_feed bytes ≡ true → HasNoFeed bytes
feeds_decided [] none = tt
feeds_decided (byte ∷ bytes) none =
    let parts = both_parts (eqb byte 10) (has_no_feed bytes) none in
    ((λ (feed : byte ≡ 10). false≢true (sym parts.0 ∙ ap (λ b. eqb b 10) feed)), feeds_decided bytes parts.1)
  where
    both_parts : (a b : Bool) → (not a && b) ≡ true → (a ≡ false) × (b ≡ true)
    both_parts true b e = cc
    both_parts false b e = (refl, e)

-- ---- texts that differ

other_bytes : (a b : List ℕ) → bytes_eq a b ≡ false → a ≡ b → ⊥
other_bytes a b differ same = true≢false (sym ((bytes_eq-Decides a b).1 same) ∙ differ)

text_in : Option (List ℕ) → List ℕ
text_in None = []
text_in (Some text) = text

other_text : (a b : List ℕ) → bytes_eq a b ≡ false → Some a ≡ Some b → ⊥
unfolding text_in
other_text a b differ same = other_bytes a b differ (ap text_in same)

no_text : (text : List ℕ) → None ≡ Some text → ⊥
no_text text same = cc

-- ---- the list

-- the nodes' own deals are in their lists, of which the first is node 0's
module _ (first : Source) (others : List Source) where
  abbrev era_of : Record → Era
  era_of all = record { sources = first ∷ others; record_of = all }

  abbrev dealer_of : Record → Dealer
  dealer_of all = dealer_in setting (era_of all ∷ [])

  abbrev whole_log : List ℕ
  whole_log = header ++ finished

  abbrev header_at : ℕ → Shown
  header_at node = record { node = node; start = 0; reader = Log; count = 0; text = header }

  -- what was shown, newest first
  abbrev of_headers : List Shown
  of_headers = header_at 2 ∷ header_at 1 ∷ header_at 0 ∷ []

  abbrev of_the_deal : List Shown
  of_the_deal = (record { node = 0; start = 0; reader = Seat 1; count = 1; text = deal_line }) ∷ of_headers

  abbrev of_the_fold : List Shown
  of_the_fold = (record { node = 0; start = 0; reader = Seat 1; count = 2; text = fold_line }) ∷ of_the_deal

  abbrev texts : List Shown
  texts = (record { node = 0; start = 0; reader = Log; count = 2; text = whole_log }) ∷ of_the_fold

  no_commands : IsBeginning [] (fold ∷ deal ∷ [])
  no_commands = (fold ∷ deal ∷ [], refl)

  the_deal : IsBeginning (deal ∷ []) (fold ∷ deal ∷ [])
  the_deal = (fold ∷ [], refl)

  both_commands : IsBeginning (fold ∷ deal ∷ []) (fold ∷ deal ∷ [])
  both_commands = ([], refl)

  of_beginnings : AllOf (IsOfBeginning (dealer_of kept) (fold ∷ deal ∷ [])) texts
  of_beginnings = (
    (fold ∷ deal ∷ [], both_commands, refl, ap Some log_after_the_fold),
    (
      (fold ∷ deal ∷ [], both_commands, refl, line_after_the_fold),
      (
        (deal ∷ [], the_deal, refl, line_after_the_deal),
        (([], no_commands, refl, ap Some log_at_first), (([], no_commands, refl, ap Some log_at_first), (([], no_commands, refl, ap Some log_at_first), tt))),
      ),
    ),
  )

  are_texts : AreTexts texts (logged 0 finished ∷ line_of_bob fold_line ∷ line_of_bob deal_line ∷ logged 2 header ∷ logged 1 header ∷ logged 0 header ∷ [])
  are_texts = (
    record { node = refl; start = refl; reader = refl; whole = refl },
    (
      record { node = refl; start = refl; reader = refl; whole = refl },
      (
        record { node = refl; start = refl; reader = refl; whole = refl },
        (
          record { node = refl; start = refl; reader = refl; whole = refl },
          (record { node = refl; start = refl; reader = refl; whole = refl }, (record { node = refl; start = refl; reader = refl; whole = refl }, tt)),
        ),
      ),
    ),
  )

  -- none of these shows more than so many commands
  abbrev AreAtMost : ℕ → ℕ → Shown → Type 0
  AreAtMost node most shown = shown.node ≡ node → shown.start ≡ 0 → shown.count ≤ most

  never_back : NeverGoesBack texts
  never_back = (
    each_in (AreAtMost 0 2) of_the_fold ((λ n s. omega arith), ((λ n s. omega arith), ((λ n s. omega arith), ((λ n s. omega arith), ((λ n s. omega arith), tt))))),
    (
      each_in (AreAtMost 0 2) of_the_deal ((λ n s. omega arith), ((λ n s. omega arith), ((λ n s. omega arith), ((λ n s. omega arith), tt)))),
      (
        each_in (AreAtMost 0 1) of_headers ((λ n s. omega arith), ((λ n s. omega arith), ((λ n s. omega arith), tt))),
        (
          each_in (AreAtMost 2 0) (header_at 1 ∷ header_at 0 ∷ []) ((λ n s. omega arith), ((λ n s. omega arith), tt)),
          (each_in (AreAtMost 1 0) (header_at 0 ∷ []) ((λ n s. omega arith), tt), ((λ shown there. elim there [ ]), tt)),
        ),
      ),
    ),
  )

  abbrev written : ℕ → List ℕ → Written
  written node text = record { node = node; start = 0; text = text }

  no_feed : HasNoFeed (folding ++ 13 ∷ [])
  no_feed = feeds_decided (folding ++ 13 ∷ []) refl

  bob_says : (dealer_of kept).says (deal ∷ []) 1 (folding ++ 13 ∷ []) fold ≡ true
  unfolding opened
  bob_says = refl

  deal_fits : (dealer_of kept).fits [] deal ≡ true
  unfolding opened
  deal_fits = refl

  fold_fits : (dealer_of kept).fits (deal ∷ []) fold ≡ true
  unfolding opened
  fold_fits = refl

  -- the deal is node 0's own, and bob said that he folds
  origin : is_deal (own_deal 2 first 0) cards ≡ true → (slot : ℕ) (command : Command) → IsChosen 3 messages slot command → HasOrigin (dealer_of kept) 3 (era_of kept ∷ []) command
  origin own slot command is_chosen = elim (chosen_is slot command is_chosen) [
    | inl (at_0, is) ↦ subst (HasOrigin (dealer_of kept) 3 (era_of kept ∷ [])) (sym is) (0, omega arith, ap (λ b. b || false) own)
    | inr (at_1, is) ↦ subst (HasOrigin (dealer_of kept) 3 (era_of kept ∷ [])) (sym is) (record {
      node = 0;
      is_node = omega arith;
      seat = 1;
      bytes = ended (codes "VERSION:2.0.0") ++ ended folding;
      heard = inl (7, refl);
      line = folding ++ 13 ∷ [];
      holds = record {
        before = ended (codes "VERSION:2.0.0");
        after = [];
        whole = refl;
        starts = inr (codes "VERSION:2.0.0" ++ 13 ∷ [], refl);
        one_line = no_feed;
      };
      before = deal ∷ [];
      chosen = subst (λ ms. AreChosen 3 ms (deal ∷ [])) (sym all_said) chosen.1;
      says = bob_says;
    })
  ]

  -- where the deal of the cards is the first source's own
  one_list_of : is_deal (own_deal 2 first 0) cards ≡ true → OneList (dealer_of kept) 3 (era_of kept ∷ [])
  one_list_of own = record {
    commands = fold ∷ deal ∷ [];
    chosen = subst (λ ms. AreChosen 3 ms (fold ∷ deal ∷ [])) (sym all_said) chosen;
    fitting = (fold_fits, (deal_fits, tt));
    shown = (
      record {
        lines = each_in (IsLineOf (dealer_of kept) (fold ∷ deal ∷ [])) (lines_of kept.shown) ((deal ∷ [], the_deal, line_after_the_deal), ((fold ∷ deal ∷ [], both_commands, line_after_the_fold), tt));
        logs = each_in (IsLogOf (dealer_of kept) (fold ∷ deal ∷ [])) (logs_of kept)
            ((fold ∷ deal ∷ [], both_commands, log_after_the_fold), (([], no_commands, log_at_first), (([], no_commands, log_at_first), tt)));
        texts = texts;
        are_texts = are_texts;
        of_beginnings = each_in (IsOfBeginning (dealer_of kept) (fold ∷ deal ∷ [])) texts of_beginnings;
        forward = never_back;
      },
      tt,
    );
    origin = λ slot command is_chosen. origin own slot command (subst (λ ms. IsChosen 3 ms slot command) all_said is_chosen);
  }

  -- ---- and no other

  -- a line of bob that is neither of his two
  no_such_line : (all : Record) (text : List ℕ) → all.sent ≡ sent → In (record { node = 0; start = 0; seat = 1; text = text }) (lines_of all.shown) → bytes_eq deal_line text ≡ false
      → bytes_eq fold_line text ≡ false → OneList (dealer_of all) 3 (era_of all ∷ []) → ⊥
  no_such_line all text frames there after_deal after_fold one =
      let line : Line = record { node = 0; start = 0; seat = 1; text = text } in
      let is = one.shown.0.lines line there in
      let these = only_these one.commands (subst (λ ms. AreChosen 3 ms one.commands) (ap said frames ∙ all_said) one.chosen) in
      elim (begins_one_of is.0 one.commands these is.1) [
        | inl empty ↦ no_text text (sym no_line_yet ∙ (ap (λ (cs : List Command). line_of setting cs 1) (sym empty) ∙ is.2))
        | inr some ↦ elim some [
          | inl one_command ↦ other_text deal_line text after_deal (sym line_after_the_deal ∙ (ap (λ (cs : List Command). line_of setting cs 1) (sym one_command) ∙ is.2))
          | inr two_commands ↦ other_text fold_line text after_fold (sym line_after_the_fold ∙ (ap (λ (cs : List Command). line_of setting cs 1) (sym two_commands) ∙ is.2))
        ]
      ]

  -- another card
  abbrev with_another_card : Record
  with_another_card = with_shown sent (line_of_bob (codes "MATCHSTATE:1:0::|2d9c") ∷ line_of_bob fold_line ∷ logged 0 finished ∷ [])

  no_other_card : OneList (dealer_of with_another_card) 3 (era_of with_another_card ∷ []) → ⊥
  no_other_card = no_such_line with_another_card (codes "MATCHSTATE:1:0::|2d9c") refl (inl refl) refl refl

  -- a call in place of the fold
  abbrev with_a_call : Record
  with_a_call = with_shown sent (line_of_bob deal_line ∷ line_of_bob (codes "MATCHSTATE:1:0:c:|2d9d") ∷ logged 0 finished ∷ [])

  no_other_action : OneList (dealer_of with_a_call) 3 (era_of with_a_call ∷ []) → ⊥
  no_other_action = no_such_line with_a_call (codes "MATCHSTATE:1:0:c:|2d9d") refl (inr (inl refl)) refl refl

  -- alice's cards, which are hidden from bob
  abbrev with_hidden_cards : Record
  with_hidden_cards = with_shown sent (line_of_bob (codes "MATCHSTATE:1:0::6d4h|2d9d") ∷ line_of_bob fold_line ∷ logged 0 finished ∷ [])

  no_hidden_card : OneList (dealer_of with_hidden_cards) 3 (era_of with_hidden_cards ∷ []) → ⊥
  no_hidden_card = no_such_line with_hidden_cards (codes "MATCHSTATE:1:0::6d4h|2d9d") refl (inl refl) refl refl

  -- another payoff
  abbrev paid_wrongly : List ℕ
  paid_wrongly = codes "STATE:0:f:6d4h|2d9d:6|-6:alice|bob\nSCORE:6|-6:alice|bob\n"

  abbrev with_another_payoff : Record
  with_another_payoff = with_shown sent (line_of_bob deal_line ∷ line_of_bob fold_line ∷ logged 0 paid_wrongly ∷ [])

  no_other_payoff : OneList (dealer_of with_another_payoff) 3 (era_of with_another_payoff ∷ []) → ⊥
  no_other_payoff one =
      let is = one.shown.0.logs (written 0 (header ++ paid_wrongly)) (inl refl) in
      let these = only_these one.commands (subst (λ ms. AreChosen 3 ms one.commands) all_said one.chosen) in
      elim (begins_one_of is.0 one.commands these is.1) [
        | inl empty ↦ other_bytes header (header ++ paid_wrongly) refl (sym log_at_first ∙ (ap (log_of setting) (sym empty) ∙ is.2))
        | inr some ↦ elim some [
          | inl one_command ↦ other_bytes header (header ++ paid_wrongly) refl (sym log_after_the_deal ∙ (ap (log_of setting) (sym one_command) ∙ is.2))
          | inr two_commands ↦ other_bytes (header ++ finished) (header ++ paid_wrongly) refl (sym log_after_the_fold ∙ (ap (log_of setting) (sym two_commands) ∙ is.2))
        ]
      ]

  -- the line after the fold, once bob had said it and before anybody accepted it
  abbrev too_early : Record
  too_early = record (with_shown sent_before_the_fold (line_of_bob deal_line ∷ line_of_bob fold_line ∷ [])) { delivered = take 7 came }

  too_early_not_forged : IsUnforged too_early.sent too_early.delivered
  too_early_not_forged arrival there = each_in (λ (a : Arrival). IsAmong (take a.sent_before sent_before_the_fold) a.what) (take 7 came) (
    tt,
    (tt, (inl refl, (inr (inr (inl refl)), (inr (inr (inr (inl refl))), (inr (inr (inr (inr (inr (inr (inr (inl refl))))))), (tt, tt)))))),
  ) arrival there

  no_line_before_its_command : OneList (dealer_of too_early) 3 (era_of too_early ∷ []) → ⊥
  no_line_before_its_command one =
      let line : Line = record { node = 0; start = 0; seat = 1; text = fold_line } in
      let is = one.shown.0.lines line (inr (inl refl)) in
      let these = only_the_deal one.commands (subst (λ ms. AreChosen 3 ms one.commands) said_before_the_fold one.chosen) in
      elim (begins_at_most is.0 one.commands these is.1) [
        | inl empty ↦ no_text fold_line (sym no_line_yet ∙ (ap (λ (cs : List Command). line_of setting cs 1) (sym empty) ∙ is.2))
        | inr one_command ↦ other_text deal_line fold_line refl (sym line_after_the_deal ∙ (ap (λ (cs : List Command). line_of setting cs 1) (sym one_command) ∙ is.2))
      ]

-- the deal is that of seed 0, whatever the other nodes deal
one_list : (others : List Source) → OneList (dealer_of (Seed 0) others kept) 3 (era_of (Seed 0) others kept ∷ [])
one_list others = one_list_of (Seed 0) others (ap (λ drawn. is_deal (Some drawn) cards) drawn_of_zero)
