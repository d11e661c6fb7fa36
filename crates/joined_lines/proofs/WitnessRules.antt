-- The calls by which two of three nodes choose the deal of the first hand of a match, by the rules.
use Rattle.std.proofs.Common.{◌≡◌, ℕ, zero, suc, true, false, List, [], ◌∷◌, Option, Some, None, Ok, refl, ap, sym, subst, replicate, inl, arith, inr, Result, codes, ◌∙◌, rules}
use Rattle.std.proofs.lemmas.List.Elements.{All-from_recursion}
use Rattle.paxos_wire.specs.declared.ballot.Ballot.{Ballot}
use Rattle.paxos_wire.specs.declared.message.Message.{Message}
use Rattle.paxos_wire.specs.declared.message.Message.TheVariants.{Prepare, Promise, Accept, Accepted}
use Rattle.paxos_wire.specs.Faults.{reading}
use Rattle.paxos_wire.specs.Spelling.{frame as bytes_of}
use Rattle.slot_log.specs.declared.command.Command.{Command}
use Rattle.slot_log.specs.declared.command.Command.TheVariants.{Deal}
use Rattle.learner.specs.declared.tally.Tally.{Tally}
use Rattle.learner.specs.Learning.{new_learned}
use Rattle.match_log.proofs.Examples.{two_names}
use Rattle.matchstate.proofs.OneAnswer.{answers_read_one_way}
use Rattle.betting.proofs.LegalLaws.{allowed_without_fault}
use Rattle.slot_log.specs.Hand.{Hand}
use Rattle.seat_session.specs.Session.{Standing as Talk, fresh, with_piece, is_closed, Answers}
use Rattle.seat_session.specs.Laws.{OneAnswer}
use Rattle.seat_session.specs.declared.phase.Phase.TheVariants.{Ready as InPlay}
use Rattle.seat_session.specs.declared.said.Said.{Said}
use Rattle.seat_session.specs.declared.said.Said.TheVariants.{Ready}
use Rattle.seat_session.specs.declared.session_fault.SessionFault.{SessionFault}
use Rattle.seat_session.proofs.Examples.{version_zero}
use Rattle.seat_session.proofs.Skipping.{skips_none}
use Rattle.seat_session.proofs.OneAnswer.{one_answer}
use Rattle.deck_draw.specs.Deck.{drawn}
use Rattle.deck_draw.proofs.Examples.{drawn_of_zero}
use Rattle.protocol_model.specs.Dealers.{Seat}
use Rattle.protocol_model.specs.Sets.{In}
use Rattle.protocol_model.specs.Stores.{Store, empty_store, promised}
use Rattle.protocol_model.specs.Votes.{taking_command_run}
use Rattle.dealer_kind.specs.Plans.{Plan, IsPlan}
use Rattle.dealer_kind.specs.Sources.{HasDeals}
use Rattle.dealer_kind.specs.declared.source.Source.{Source}
use Rattle.dealer_kind.specs.declared.source.Source.TheVariants.{Seed}
use Rattle.node_rules.specs.Standings.{Place, Standing, place_of, started}
use Rattle.node_rules.specs.Sending.{Frame}
use Rattle.node_rules.specs.Turns.{Turn, and_then}
use Rattle.node_rules.specs.Proposing.{ticking, closing}
use Rattle.node_rules.specs.Rules.{on_message}
use Rattle.node_rules.specs.Seats.{connecting, hearing, Drains}
use Rattle.node_rules.proofs.Examples.{opened, setting, ballot, to}

-- ---- the match: one hand, and three nodes with seeds of their own

abbrev pub sources : List Source
sources = Seed 0 ∷ Seed 1 ∷ Seed 2 ∷ []

abbrev pub plan : Plan
plan = record { setting = setting; sources = sources }

abbrev pub place : ℕ → Place
place i = place_of plan i

pub is_plan : IsPlan plan
is_plan = record {
  within = record {
    is_game = record {
      least_players = omega arith;
      most_players = omega arith;
      stack_each = refl;
      blind_each = refl;
      stacks_fit = (omega arith, (omega arith, tt));
      stacks_above = (omega arith, (omega arith, tt));
      some_blind = omega arith;
      four_sizes = refl;
      sizes_fit = (omega arith, (omega arith, (omega arith, (omega arith, tt))));
      some_size = (omega arith, (omega arith, (omega arith, (omega arith, tt))));
      first_each = refl;
      firsts_play = (omega arith, (omega arith, (omega arith, (omega arith, tt))));
      raises_each = refl;
      raises_fit = (omega arith, (omega arith, (omega arith, (omega arith, tt))));
    };
    match_name = record { least = omega arith; most = omega arith; bytes = (refl, tt) };
    game_word = record {
      least = omega arith;
      most = omega arith;
      printable = (
        (omega arith, omega arith),
        ((omega arith, omega arith), ((omega arith, omega arith), ((omega arith, omega arith), ((omega arith, omega arith), ((omega arith, omega arith), ((omega arith, omega arith), tt)))))),
      );
    };
    least = omega arith;
    most = omega arith;
    seat_names = two_names;
  };
  nodes = inl refl;
  deals = All-from_recursion (HasDeals 2 1) sources (tt, (tt, (tt, tt)));
}

-- 6d4h|2d9d/TdAdAc/3h/Ts, the first deal of node 0
abbrev pub cards : List ℕ
cards = 17 ∷ 10 ∷ 1 ∷ 29 ∷ 33 ∷ 49 ∷ 48 ∷ 6 ∷ 35 ∷ []

abbrev pub dealt : Command
dealt = Deal 0 cards

-- node 0 with these deals
abbrev with_deals : (ℕ → Option (List ℕ)) → Place
with_deals deals = record { setting = setting; nodes = 3; node = 0; deals = deals }

abbrev its_deals : ℕ → Option (List ℕ)
its_deals zero = Some cards
its_deals (suc hand) = Some (drawn 0 (suc hand) 2)

deals_are : (hand : ℕ) → its_deals hand ≡ (place 0).deals hand
deals_are zero = ap (λ (deal : List ℕ). Some deal) (sym drawn_of_zero)
deals_are (suc hand) = refl

place_is : with_deals its_deals ≡ place 0
place_is = λ i. with_deals (λ hand. deals_are hand i)

-- ---- what they say

abbrev pub first_ballot : Ballot
first_ballot = ballot 1 0

abbrev pub prepare : Message
prepare = Prepare first_ballot 0

abbrev pub promise : Message
promise = Promise first_ballot 0 []

abbrev pub accept : Message
accept = Accept first_ballot 0 (dealt ∷ [])

abbrev pub accepted : Message
accepted = Accepted first_ballot 0 (dealt ∷ [])

-- each of these frames reads back as its message
abbrev pub AreRead : List Frame → Type 0
AreRead frames = (one : Frame) → In one frames → reading (bytes_of one.message) ≡ Ok one.message

-- ---- a bot at seat 0 of node 0

-- it asks for the first line, and names the version
abbrev pub said_by_bot : List ℕ
said_by_bot = codes "#RESUME FIRST\r\nVERSION:2.0.0\r\n"

abbrev pub connected : Talk
connected = fresh

abbrev pub ready : Talk
ready = record { phase = InPlay; waiting = [] }

greets : (hands : List Hand) → Answers setting.game hands 0 (with_piece connected said_by_bot) (Some (Ok Ready)) ready
greets hands =
    inr (record {
      rest = codes "VERSION:2.0.0\r\n";
      skips = record { lines = codes "#RESUME FIRST\r" ∷ []; each = (record { one_line = search rules; short = omega arith; skipped = refl }, tt); joined = refl };
      line = record { line = codes "VERSION:2.0.0\r"; behind = []; begins = record { breaks = record { joined = refl; one_line = search rules }; short = omega arith }; says = version_zero };
      counts = refl;
      after = refl;
    })

no_more : (hands : List Hand) → Answers setting.game hands 0 ready None ready
no_more hands = record { skips = skips_none []; partial = record { one_line = tt; short = omega arith }; same_phase = refl }

abbrev Answer : Type 0
Answer = Result Said SessionFault

pub drains : (hands : List Hand) → Drains setting.game hands 0 (with_piece connected said_by_bot) (Ok Ready ∷ []) ready
unfolding Drains
drains hands = (ready, greets hands, inr (refl, no_more hands))

one : OneAnswer
one = one_answer answers_read_one_way allowed_without_fault

some_answer : Answer → Option Answer → Answer
some_answer other None = other
some_answer other (Some answer) = answer

-- and nothing else comes of it
ends_so : (hands : List Hand) (more : List Answer) (new : Talk) → Drains setting.game hands 0 ready more new → (more ≡ []) × (new ≡ ready)
unfolding Drains
ends_so hands [] new none = (refl, (one setting.game hands 0 ready None None new ready is_plan.within.is_game none (no_more hands)).1)
ends_so hands (said ∷ more) new (between, answers, rest) =
    absurd (let some : ◌≡◌ {A = Option Answer} (Some said) None = (one setting.game hands 0 ready (Some said) None between ready is_plan.within.is_game answers (no_more hands)).0 in cc)

pub drains_so : (hands : List Hand) (answers : List Answer) (new : Talk) → Drains setting.game hands 0 (with_piece connected said_by_bot) answers new → (answers ≡ Ok Ready ∷ []) × (new ≡ ready)
unfolding Drains some_answer
drains_so hands [] new none =
    absurd (let some : ◌≡◌ {A = Option Answer} None (Some (Ok Ready)) = (one setting.game hands 0 (with_piece connected said_by_bot) None (Some (Ok Ready)) new ready is_plan.within.is_game none (greets hands)).0 in cc)
drains_so hands (said ∷ more) new (between, answers, inl (closed, none, is)) =
    let same = one setting.game hands 0 (with_piece connected said_by_bot) (Some said) (Some (Ok Ready)) between ready is_plan.within.is_game answers (greets hands) in
    absurd (let not_closed : false ≡ true = sym (ap (λ (t : Talk). is_closed t.phase) same.1) ∙ closed in cc)
drains_so hands (said ∷ more) new (between, answers, inr (goes_on, rest)) =
    let same = one setting.game hands 0 (with_piece connected said_by_bot) (Some said) (Some (Ok Ready)) between ready is_plan.within.is_game answers (greets hands) in
    let ends = ends_so hands more new (subst (λ (t : Talk). Drains setting.game hands 0 t more new) same.1 rest) in
    (ap (λ (first : Answer). first ∷ more) (ap (some_answer said) same.0) ∙ ap (λ (rest : List Answer). Ok Ready ∷ rest) ends.0, ends.1)

-- ---- what they hold

-- node i, just started over a new store
abbrev pub first : ℕ → Standing
first i = started (place i) empty_store

abbrev pub promise_store : Store
promise_store = promised empty_store first_ballot

abbrev pub vote_store : Store
vote_store = taking_command_run promise_store first_ballot 0 (dealt ∷ [])

-- a bot is connected to seat 0 of node 0, and has named the version
abbrev pub is_connected : Standing
is_connected = record (first 0) { sessions = Some connected ∷ None ∷ [] }

abbrev pub is_ready : Standing
is_ready = record (first 0) { sessions = Some ready ∷ None ∷ [] }

-- node 0 prepares its ballot, which it promised itself
abbrev pub prepares : Standing
prepares = record is_ready {
  store = promise_store;
  begun = promise_store;
  campaign = Some (record { ballot = first_ballot; first = 0; promises = Some [] ∷ None ∷ None ∷ None ∷ None ∷ None ∷ None ∷ []; proposed = replicate 64 false });
}

abbrev vote_of_0 : Tally
vote_of_0 = record { ballot = first_ballot; command = dealt; nodes = true ∷ false ∷ false ∷ false ∷ false ∷ false ∷ false ∷ [] }

-- it leads, and voted for its own deal
abbrev pub leads : Standing
leads = record is_ready {
  store = vote_store;
  begun = vote_store;
  campaign = Some (record {
    ballot = first_ballot;
    first = 0;
    promises = Some [] ∷ Some [] ∷ None ∷ None ∷ None ∷ None ∷ None ∷ [];
    proposed = true ∷ replicate 63 false;
  });
  learned = record (new_learned 3) { cells = (vote_of_0 ∷ []) ∷ replicate 63 [] };
  seen = first_ballot;
}

-- the deal is known to it, and applied
abbrev pub knows : Standing
knows = record leads { learned = record (new_learned 3) { log = record { below = dealt ∷ []; beyond = [] } } }

-- node 1 promised the ballot
abbrev pub has_promised : Standing
has_promised = record (first 1) { store = promise_store; begun = promise_store; seen = first_ballot }

-- and voted for the deal
abbrev pub has_voted : Standing
has_voted = record (first 1) {
  store = vote_store;
  begun = vote_store;
  learned = record (new_learned 3) { cells = (record vote_of_0 { nodes = false ∷ true ∷ false ∷ false ∷ false ∷ false ∷ false ∷ [] } ∷ []) ∷ replicate 63 [] };
  seen = first_ballot;
}

-- ---- what their calls come to

abbrev pub turn_to : Standing → List Frame → Turn
turn_to after frames = record { after = after; frames = frames; shown = []; faults = [] }

abbrev pub ticked : Turn
ticked = turn_to prepares (to 1 prepare ∷ to 2 prepare ∷ [])

abbrev pub promising : Turn
promising = turn_to has_promised (to 0 promise ∷ [])

abbrev pub leading : Turn
leading = turn_to leads (to 1 accept ∷ to 2 accept ∷ to 1 accepted ∷ to 2 accepted ∷ [])

abbrev pub voting : Turn
voting = turn_to has_voted (to 0 accepted ∷ to 2 accepted ∷ [])

-- the seat is shown its line
abbrev pub first_line : List ℕ
first_line = codes "MATCHSTATE:0:0::6d4h|"

abbrev pub learning : Turn
learning = record { after = knows; frames = []; shown = (record { reader = Seat 0; text = first_line }) ∷ []; faults = [] }

abbrev pub connecting_0 : Turn
connecting_0 = turn_to is_connected []

abbrev pub greeting : Turn
greeting = turn_to is_ready []

-- a bot connects to seat 0 of node 0, and its bytes come
pub connect_taken : connecting 0 (first 0) ≡ connecting_0
unfolding opened
connect_taken = refl

greeting_by : and_then (Ok (hearing (with_deals its_deals) 0 (Ok Ready ∷ []) ready is_connected)) (closing (with_deals its_deals)) ≡ Ok greeting
unfolding opened
greeting_by = refl

pub greeting_taken : and_then (Ok (hearing (place 0) 0 (Ok Ready ∷ []) ready is_connected)) (closing (place 0)) ≡ Ok greeting
greeting_taken = subst (λ (p : Place). and_then (Ok (hearing p 0 (Ok Ready ∷ []) ready is_connected)) (closing p) ≡ Ok greeting) place_is greeting_by

-- node 0 ticks
tick_by : and_then (ticking (with_deals its_deals) is_ready) (closing (with_deals its_deals)) ≡ Ok ticked
unfolding opened
tick_by = refl

pub tick_taken : and_then (ticking (place 0) is_ready) (closing (place 0)) ≡ Ok ticked
tick_taken = subst (λ (p : Place). and_then (ticking p is_ready) (closing p) ≡ Ok ticked) place_is tick_by

-- node 1 gets its Prepare
pub prepare_taken : on_message (place 1) 0 prepare (first 1) ≡ Ok promising
unfolding opened
prepare_taken = refl

-- node 0 gets the Promise, and proposes its deal
promise_by : on_message (with_deals its_deals) 1 promise prepares ≡ Ok leading
unfolding opened
promise_by = refl

pub promise_taken : on_message (place 0) 1 promise prepares ≡ Ok leading
promise_taken = subst (λ (p : Place). on_message p 1 promise prepares ≡ Ok leading) place_is promise_by

-- node 1 gets the Accept, and votes
pub accept_taken : on_message (place 1) 0 accept has_promised ≡ Ok voting
unfolding opened
accept_taken = refl

-- node 0 gets its vote: the deal is chosen
accepted_by : on_message (with_deals its_deals) 1 accepted leads ≡ Ok learning
unfolding opened
accepted_by = refl

pub accepted_taken : on_message (place 0) 1 accepted leads ≡ Ok learning
accepted_taken = subst (λ (p : Place). on_message p 1 accepted leads ≡ Ok learning) place_is accepted_by
