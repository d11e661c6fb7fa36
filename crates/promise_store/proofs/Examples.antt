-- A journal byte by byte, near misses, what it holds, and images of writes cut short.
use Rattle.std.proofs.Common.{◌≡◌, inl, inr, ℕ, length, List, [], ◌∷◌, ◌++◌, take, drop, Some, None, true, false, get_or, refl, sym, ◌∙◌, arith, ap, length-append, Vec, Global}
use Rattle.std.specs.Prelude.{codes}
use Rattle.std.specs.List.{AllByRecursion}
use Rattle.std.proofs.lemmas.Option.{none-some}
use Rattle.slot_log.specs.declared.command.Command.{Command}
use Rattle.slot_log.specs.declared.command.Command.TheVariants.{Deal, Act, Away}
use Rattle.betting.specs.declared.action.Action.TheVariants.{Call}
use Rattle.paxos_wire.specs.declared.ballot.Ballot.{Ballot}
use Rattle.paxos_wire.specs.declared.entry.Entry.{Entry}
use Rattle.paxos_wire.specs.Fits.{IsCommandRun}
use Rattle.paxos_wire.proofs.Examples.{first_ballot, cards, ballot_fits, deal_is_command, away_is_command}
use Rattle.protocol_model.specs.Messages.{Vote}
use Rattle.promise_store.specs.declared.call.Call.TheVariants.{Wrote, Synced}
use Rattle.promise_store.specs.declared.records.Record.{Record}
use Rattle.promise_store.specs.declared.records.Record.TheVariants.{Promised, VotedOne, Opened, Voted}
use Rattle.promise_store.specs.declared.stage.Stage.{Stage}
use Rattle.promise_store.specs.declared.stage.Stage.TheVariants.{Old, New}
use Rattle.promise_store.specs.declared.fault.StoreFault.TheVariants.{NoStore, BadHeader, Closed}
use Rattle.promise_store.specs.Disks.{Torn, Holds, Rose, Picks}
use Rattle.promise_store.specs.Calls.{wrote, synced, contents, landed, replayed, picked, IsImage}
use Rattle.promise_store.specs.Records.{IsRecord, payload, record_text}
use Rattle.promise_store.specs.Stages.{head_of, stage_behind, marked}
use Rattle.promise_store.specs.Journals.{header, gated, IsJournalOf, IsJournal, OpensFrom}
use Rattle.promise_store.specs.Holding.{holding, store_of, placed_of}
use Rattle.promise_store.specs.Refusals.{HasHead, Refuses}
use Rattle.promise_store.specs.Laws.{Says}
use Rattle.promise_store.specs.FaultText.{code_of, fault_text}
use Rattle.promise_store.specs.Media.{passes_with, burnt, burnt_once}
use Rattle.promise_store.specs.Ranges.{IsBallotOrNone}
use Rattle.promise_store.proofs.Opening.{head_within}
use Rattle.promise_store.proofs.Journals.{one_reading, opens_apart, one_journal}

-- ---- a journal

abbrev pub deal : Command
deal = Deal 0 cards

abbrev pub call : Command
call = Act 0 0 Call

-- a promise of (1, 0), and the accept of the deal in it at slot 0
abbrev pub records : List Record
records = Promised first_ballot ∷ Voted first_ballot 0 (deal ∷ []) ∷ []

abbrev pub bytes : List ℕ
bytes =
    72 ∷ 68 ∷ 74 ∷ 50 ∷ 0 ∷ 3 ∷ 0 ∷ 0
    ∷ 1 ∷ 0 ∷ 6 ∷ 1 ∷ 0 ∷ 0 ∷ 0 ∷ 1 ∷ 0
    ∷ 1 ∷ 0 ∷ 26 ∷ 4 ∷ 0 ∷ 0 ∷ 0 ∷ 1 ∷ 0 ∷ 0 ∷ 0 ∷ 0 ∷ 0 ∷ 1
    ∷ 1 ∷ 0 ∷ 0 ∷ 0 ∷ 0 ∷ 9 ∷ 33 ∷ 51 ∷ 26 ∷ 32 ∷ 0 ∷ 24 ∷ 6 ∷ 28 ∷ 46
    ∷ 0 ∷ []

pub payload_of_the_promise : payload (Promised first_ballot) ≡ 1 ∷ 0 ∷ 0 ∷ 0 ∷ 1 ∷ 0 ∷ []
payload_of_the_promise = refl

pub record_of_the_promise : record_text (Promised first_ballot) ≡ 0 ∷ 6 ∷ 1 ∷ 0 ∷ 0 ∷ 0 ∷ 1 ∷ 0 ∷ []
record_of_the_promise = refl

pub forty_seven_bytes : length bytes ≡ 47
forty_seven_bytes = refl

deal_fits : IsCommandRun 0 (deal ∷ [])
deal_fits = record { least = omega arith; most = omega arith; slots = omega arith; each = (deal_is_command.numbers, tt) }

pub journal : IsJournal (header 0 3) bytes records
journal = (
  New,
  New,
  record {
    gate = 0;
    rest = [];
    stands = refl;
    shut = λ e. omega (arith, e);
    each = (ballot_fits, ((ballot_fits, deal_fits, (deal_is_command.cards, tt)), tt));
    text = refl;
  },
)

-- what stands behind a shut gate is free
pub journal_cut_short : IsJournal (header 0 3) (take 17 bytes ++ 2 ∷ drop 18 bytes) (Promised first_ballot ∷ [])
journal_cut_short = (New, New, record { gate = 2; rest = drop 18 bytes; stands = refl; shut = λ e. omega (arith, e); each = (ballot_fits, tt); text = refl })

-- with a shut gate in front of the accept it is no journal of both records
pub shut_gate-none : IsJournal (header 0 3) (take 17 bytes ++ 2 ∷ drop 18 bytes) records → ⊥
shut_gate-none both = absurd (let same = one_journal (header 0 3) (take 17 bytes ++ 2 ∷ drop 18 bytes) records (Promised first_ballot ∷ []) both journal_cut_short in omega (arith, ap length same))

-- a length that says one byte more than the promise has
abbrev pub length_one_more : List ℕ
length_one_more = 72 ∷ 68 ∷ 74 ∷ 50 ∷ 0 ∷ 3 ∷ 0 ∷ 0 ∷ 1 ∷ 0 ∷ 7 ∷ 1 ∷ 0 ∷ 0 ∷ 0 ∷ 1 ∷ 0 ∷ 0 ∷ []

-- what stands behind the head of no journal
behind_head-none : (file : List ℕ) → ((found : List Record) → OpensFrom (drop 8 file) found → ⊥) → (found : List Record) → IsJournal (header 0 3) file found → ⊥
behind_head-none file none found (first, last, is) = none found (opens_apart first last (header 0 3) file found is)

one_more-none : (found : List Record) → OpensFrom (drop 8 length_one_more) found → ⊥
one_more-none [] is = is.shut (sym (ap (λ (l : List ℕ). get_or l 0 0) is.text))
one_more-none (Promised ballot ∷ found) is = absurd (let six = ap (λ (l : List ℕ). get_or l 2 0) is.text in omega (arith, six))
one_more-none (VotedOne ballot slot command ∷ found) is = absurd (let kind = ap (λ (l : List ℕ). get_or l 3 0) is.text in omega (arith, kind))
one_more-none (Opened ∷ found) is = absurd (let kind = ap (λ (l : List ℕ). get_or l 3 0) is.text in omega (arith, kind))
one_more-none (Voted ballot slot commands ∷ found) is = absurd (let kind = ap (λ (l : List ℕ). get_or l 3 0) is.text in omega (arith, kind))

pub length_one_more-none : (found : List Record) → IsJournal (header 0 3) length_one_more found → ⊥
length_one_more-none = behind_head-none length_one_more one_more-none

-- no gate behind the promise
no_gate-none : (found : List Record) → OpensFrom (drop 8 (take 17 bytes)) found → ⊥
no_gate-none [] is = is.shut (sym (ap (λ (l : List ℕ). get_or l 0 0) is.text))
no_gate-none (Promised ballot ∷ found) is = absurd (let long = ap length is.text in omega (arith, long, length-append (gated found) (is.gate ∷ is.rest)))
no_gate-none (VotedOne ballot slot command ∷ found) is = absurd (let kind = ap (λ (l : List ℕ). get_or l 3 0) is.text in omega (arith, kind))
no_gate-none (Opened ∷ found) is = absurd (let kind = ap (λ (l : List ℕ). get_or l 3 0) is.text in omega (arith, kind))
no_gate-none (Voted ballot slot commands ∷ found) is = absurd (let kind = ap (λ (l : List ℕ). get_or l 3 0) is.text in omega (arith, kind))

pub no_next_gate-none : (found : List Record) → IsJournal (header 0 3) (take 17 bytes) found → ⊥
no_next_gate-none = behind_head-none (take 17 bytes) no_gate-none

-- another node's header
pub other_node-none : (found : List Record) → IsJournal (header 1 3) bytes found → ⊥
other_node-none found (Old, last, is) = absurd (let version = ap (λ (l : List ℕ). get_or l 3 0) is.text in omega (arith, version))
other_node-none found (New, last, is) = absurd (let node = ap (λ (l : List ℕ). get_or l 4 0) is.text in omega (arith, node))

pub created : IsJournal (header 0 3) (72 ∷ 68 ∷ 74 ∷ 50 ∷ 0 ∷ 3 ∷ 0 ∷ 0 ∷ 0 ∷ []) []
created = (New, New, record { gate = 0; rest = []; stands = refl; shut = λ e. omega (arith, e); each = tt; text = refl })

-- ---- a run in one record

abbrev pub third_node : Ballot
third_node = record { round = 1; node = 2 }

pub run_of_two : record_text (Voted third_node 0 (deal ∷ call ∷ []))
    ≡ 0 ∷ 38 ∷ 4 ∷ 0 ∷ 0 ∷ 0 ∷ 1 ∷ 2 ∷ 0 ∷ 0 ∷ 0 ∷ 0 ∷ 2
    ∷ 1 ∷ 0 ∷ 0 ∷ 0 ∷ 0 ∷ 9 ∷ 33 ∷ 51 ∷ 26 ∷ 32 ∷ 0 ∷ 24 ∷ 6 ∷ 28 ∷ 46
    ∷ 2 ∷ 0 ∷ 0 ∷ 0 ∷ 0 ∷ 0 ∷ 0 ∷ 1 ∷ 0 ∷ 0 ∷ 0 ∷ 0 ∷ []
run_of_two = refl

-- 64 deals of ten players make the longest payload, 1995 bytes; a run of none, and one past the last slot, are none
pub run_of_none-none : (slot : ℕ) → IsRecord (Voted first_ballot slot []) → ⊥
run_of_none-none slot is = omega (arith, is.1.least)

pub past_the_last_slot-none : IsRecord (Voted first_ballot 3999999 (call ∷ call ∷ [])) → ⊥
past_the_last_slot-none is = omega (arith, is.1.slots)

-- ---- journals of version 1

-- the same promise and deal as version 1 wrote them
abbrev pub old_records : List Record
old_records = Promised first_ballot ∷ VotedOne first_ballot 0 deal ∷ []

abbrev pub version_1 : List ℕ
version_1 =
    72 ∷ 68 ∷ 74 ∷ 49 ∷ 0 ∷ 3 ∷ 0 ∷ 0
    ∷ 1 ∷ 0 ∷ 6 ∷ 1 ∷ 0 ∷ 0 ∷ 0 ∷ 1 ∷ 0
    ∷ 1 ∷ 0 ∷ 25 ∷ 2 ∷ 0 ∷ 0 ∷ 0 ∷ 1 ∷ 0 ∷ 0 ∷ 0 ∷ 0 ∷ 0
    ∷ 1 ∷ 0 ∷ 0 ∷ 0 ∷ 0 ∷ 9 ∷ 33 ∷ 51 ∷ 26 ∷ 32 ∷ 0 ∷ 24 ∷ 6 ∷ 28 ∷ 46 ∷ []

old_each : AllByRecursion IsRecord old_records
old_each = (ballot_fits, ((ballot_fits, omega arith, deal_is_command), tt))

pub old_journal : IsJournalOf Old Old (header 0 3) (version_1 ++ 0 ∷ []) old_records
old_journal = record { gate = 0; rest = []; stands = refl; shut = λ e. omega (arith, e); each = old_each; text = refl }

-- and that journal opened: one record more
pub opened_journal : IsJournalOf Old New (header 0 3) (version_1 ++ 1 ∷ 0 ∷ 1 ∷ 3 ∷ 0 ∷ []) (marked Old old_records)
opened_journal = record { gate = 0; rest = []; stands = refl; shut = λ e. omega (arith, e); each = (ballot_fits, ((ballot_fits, omega arith, deal_is_command), (tt, tt))); text = refl }

pub marked_once : marked New (marked Old old_records) ≡ old_records ++ Opened ∷ []
marked_once = refl

-- the first player to act is away, accepted at slot 1
abbrev pub away_bytes : List ℕ
away_bytes =
    72 ∷ 68 ∷ 74 ∷ 49 ∷ 0 ∷ 3 ∷ 0 ∷ 0
    ∷ 1 ∷ 0 ∷ 6 ∷ 1 ∷ 0 ∷ 0 ∷ 0 ∷ 1 ∷ 0
    ∷ 1 ∷ 0 ∷ 17 ∷ 2 ∷ 0 ∷ 0 ∷ 0 ∷ 1 ∷ 0 ∷ 0 ∷ 0 ∷ 0 ∷ 1
    ∷ 3 ∷ 0 ∷ 0 ∷ 0 ∷ 0 ∷ 0 ∷ 0
    ∷ 0 ∷ []

pub journal_of_an_away : IsJournal (header 0 3) away_bytes (Promised first_ballot ∷ VotedOne first_ballot 1 (Away 0 0) ∷ [])
journal_of_an_away = (
  Old,
  Old,
  record {
    gate = 0;
    rest = [];
    stands = refl;
    shut = λ e. omega (arith, e);
    each = (ballot_fits, ((ballot_fits, omega arith, away_is_command), tt));
    text = refl;
  },
)

-- what may not stand in a stage: a run before the record that opens the journal, an accept of one command behind it, that record twice or in a journal of version 2, a promise of node 5 before it
pub run_too_early : stage_behind Old (Voted first_ballot 0 (deal ∷ []) ∷ []) ≡ None
run_too_early = refl

pub accept_too_late : stage_behind Old (Opened ∷ VotedOne first_ballot 0 deal ∷ []) ≡ None
accept_too_late = refl

pub opened_twice : stage_behind Old (Opened ∷ Opened ∷ []) ≡ None
opened_twice = refl

pub opened_new : stage_behind New (Opened ∷ []) ≡ None
opened_new = refl

pub node_of_no_version_1 : stage_behind Old (Promised (record { round = 1; node = 5 }) ∷ []) ≡ None
node_of_no_version_1 = refl

-- so the bytes of a run right behind the head of version 1 are no journal
abbrev pub early : List ℕ
early = 72 ∷ 68 ∷ 74 ∷ 49 ∷ 0 ∷ 3 ∷ 0 ∷ 0 ∷ drop 17 bytes

pub early-none : (found : List Record) → IsJournal (header 0 3) early found → ⊥
early-none found (first, last, is) =
    let run : OpensFrom (drop 8 early) (Voted first_ballot 0 (deal ∷ []) ∷ []) = record { gate = 0; rest = []; shut = λ e. omega (arith, e); each = ((ballot_fits, deal_fits, (deal_is_command.cards, tt)), tt); text = refl } in
    let same = one_reading (drop 8 early) found (Voted first_ballot 0 (deal ∷ []) ∷ []) (opens_apart first last (header 0 3) early found is) run in
    by first last (is.gate ∷ is.rest) (ap (λ (l : List Record). stage_behind first l) (sym same) ∙ is.stands) is.text
  where
    by : (first last : Stage) (rest : List ℕ) → stage_behind first (Voted first_ballot 0 (deal ∷ []) ∷ []) ≡ Some last → early ≡ (head_of first (header 0 3) ++ gated found) ++ rest → ⊥
    by Old last rest stands text = none-some last stands
    by New last rest stands text = absurd (let version = ap (λ (l : List ℕ). get_or l 3 0) text in omega (arith, version))

-- ---- what it holds

abbrev pub first_vote : Vote
first_vote = record { ballot = first_ballot; command = deal }

pub promise_held : (store_of (holding (header 0 3) records)).promise ≡ first_ballot
promise_held = refl

pub vote_held : (store_of (holding (header 0 3) records)).votes 0 ≡ Some first_vote
vote_held = refl

pub no_other_vote : (store_of (holding (header 0 3) records)).votes 1 ≡ None
no_other_vote = refl

pub place_held : placed_of ((holding (header 0 3) records).entries 0) ≡ Some (record { place = 20; ballot = first_ballot; slot = 0; length = 26; inside = 11 })
place_held = refl

pub old_place_held : placed_of ((holding (header 0 3) old_records).entries 0) ≡ Some (record { place = 20; ballot = first_ballot; slot = 0; length = 25; inside = 10 })
old_place_held = refl

-- and what the two hold is the same, also once the one of version 1 is opened
pub same_promise_held : (store_of (holding (header 0 3) (marked Old old_records))).promise ≡ first_ballot
same_promise_held = refl

pub same_vote_held : (store_of (holding (header 0 3) (marked Old old_records))).votes 0 ≡ Some first_vote
same_vote_held = refl

-- each command of a run has a place of its own in the same payload
pub first_of_two : placed_of ((holding (header 0 3) (Voted third_node 0 (deal ∷ call ∷ []) ∷ [])).entries 0) ≡ Some (record { place = 11; ballot = third_node; slot = 0; length = 38; inside = 11 })
first_of_two = refl

pub second_of_two : placed_of ((holding (header 0 3) (Voted third_node 0 (deal ∷ call ∷ []) ∷ [])).entries 1) ≡ Some (record { place = 11; ballot = third_node; slot = 1; length = 38; inside = 26 })
second_of_two = refl

-- a run of three behind an accept of a greater ballot at its second slot, which stays
abbrev pub later_ballot : Ballot
later_ballot = record { round = 2; node = 0 }

abbrev pub three_behind : List Record
three_behind = Voted later_ballot 1 (call ∷ []) ∷ Voted first_ballot 0 (deal ∷ deal ∷ deal ∷ []) ∷ []

pub first_of_three : placed_of ((holding (header 0 3) three_behind).entries 0) ≡ Some (record { place = 37; ballot = first_ballot; slot = 0; length = 56; inside = 11 })
first_of_three = refl

pub second_of_three : placed_of ((holding (header 0 3) three_behind).entries 1) ≡ Some (record { place = 11; ballot = later_ballot; slot = 1; length = 23; inside = 11 })
second_of_three = refl

pub third_of_three : placed_of ((holding (header 0 3) three_behind).entries 2) ≡ Some (record { place = 37; ballot = first_ballot; slot = 2; length = 56; inside = 41 })
third_of_three = refl

abbrev pub other_deal : Command
other_deal = Deal 1 cards

abbrev pub second_ballot : Ballot
second_ballot = record { round = 1; node = 1 }

-- of two entries of one ballot the last
pub last_of_one_ballot : (store_of (holding (header 0 3) (records ++ Voted first_ballot 0 (other_deal ∷ []) ∷ []))).votes 0 ≡ Some (record { ballot = first_ballot; command = other_deal })
last_of_one_ballot = refl

-- an entry raises the promise to its ballot, and stays in front of one of a lower ballot
pub vote_raises : (store_of (holding (header 0 3) (Voted second_ballot 0 (other_deal ∷ []) ∷ records))).promise ≡ second_ballot
vote_raises = refl

pub greater_vote_stays : (store_of (holding (header 0 3) (Voted second_ballot 0 (other_deal ∷ []) ∷ records))).votes 0 ≡ Some (record { ballot = second_ballot; command = other_deal })
greater_vote_stays = refl

-- what a run says was accepted, and where it isn't said
pub second_is_said : Says three_behind first_ballot 2 deal
second_is_said = inr (inr (inr (inl refl)))

pub not_at_the_next_slot-none : Says three_behind first_ballot 3 deal → ⊥
not_at_the_next_slot-none (inl is) = omega (arith, ap (λ (e : Entry). e.slot) is)
not_at_the_next_slot-none (inr (inl is)) = omega (arith, ap (λ (e : Entry). e.slot) is)
not_at_the_next_slot-none (inr (inr (inl is))) = omega (arith, ap (λ (e : Entry). e.slot) is)
not_at_the_next_slot-none (inr (inr (inr (inl is)))) = omega (arith, ap (λ (e : Entry). e.slot) is)
not_at_the_next_slot-none (inr (inr (inr (inr none)))) = absurd none

-- ---- disks

-- of a file of three bytes a write of two bytes at offset 2 that was cut short
pub torn : Torn 2 2 (5 ∷ 6 ∷ 7 ∷ []) (5 ∷ 6 ∷ 9 ∷ [])
torn = record { before = refl; after = refl; no_shorter = omega arith; no_longer = omega arith }

pub torn_longer : Torn 2 2 (5 ∷ 6 ∷ 7 ∷ []) (5 ∷ 6 ∷ 9 ∷ 0 ∷ [])
torn_longer = record { before = refl; after = refl; no_shorter = omega arith; no_longer = omega arith }

-- a byte in front of the range doesn't change
pub torn_in_front-none : Torn 2 2 (5 ∷ 6 ∷ 7 ∷ []) (5 ∷ 8 ∷ 7 ∷ []) → ⊥
torn_in_front-none is = absurd (let front = is.before in cc)

pub torn_too_long-none : Torn 2 2 (5 ∷ 6 ∷ 7 ∷ []) (5 ∷ 6 ∷ 7 ∷ 0 ∷ 0 ∷ []) → ⊥
torn_too_long-none is = omega (arith, is.no_longer)

pub written : Holds (5 ∷ 6 ∷ 7 ∷ []) 1 (8 ∷ []) (5 ∷ 8 ∷ 7 ∷ [])
written = refl

-- a failure counts, but for the last value
pub rose : Rose 4 5
rose = omega arith

pub rose-none : Rose 4 4 → ⊥
rose-none is = omega (arith, is)

-- a stop left what was picked; or it was refused, which is counted, and nothing else changed
pub stop_picked : Picks (1 ∷ []) (2 ∷ []) (1 ∷ []) 4 4
stop_picked = inl (refl, refl)

pub stop_refused : Picks (1 ∷ []) (2 ∷ []) (2 ∷ []) 4 5
stop_refused = inr (refl, rose)

-- one that did nothing, and one that left something else
pub stop_passed_over-none : Picks (1 ∷ []) (2 ∷ []) (2 ∷ []) 4 4 → ⊥
stop_passed_over-none (inl same) = absurd (let byte = ap (λ (l : List ℕ). get_or l 0 0) same.0 in omega (arith, byte))
stop_passed_over-none (inr refused) = rose-none refused.1

pub stop_elsewhere-none : Picks (1 ∷ []) (2 ∷ []) (3 ∷ []) 4 5 → ⊥
stop_elsewhere-none (inl same) = absurd (let byte = ap (λ (l : List ℕ). get_or l 0 0) same.0 in omega (arith, byte))
stop_elsewhere-none (inr refused) = absurd (let byte = ap (λ (l : List ℕ). get_or l 0 0) refused.0 in omega (arith, byte))

-- digits 0, 1 and 2 of a write of two bytes at offset 1 of a file of two
pub old_bytes : picked (5 ∷ 6 ∷ []) ((1, 8 ∷ 9 ∷ []) ∷ []) 0 ≡ 5 ∷ 6 ∷ 0 ∷ []
old_bytes = refl

pub new_bytes : picked (5 ∷ 6 ∷ []) ((1, 8 ∷ 9 ∷ []) ∷ []) 1 ≡ 5 ∷ 8 ∷ 9 ∷ []
new_bytes = refl

pub ones : picked (5 ∷ 6 ∷ []) ((1, 8 ∷ 9 ∷ []) ∷ []) 2 ≡ 5 ∷ 1 ∷ 1 ∷ []
ones = refl

-- the oldest write takes the lowest digit
pub two_writes : picked [] ((0, 8 ∷ []) ∷ (0, 9 ∷ []) ∷ []) 1 ≡ 8 ∷ []
two_writes = refl

-- after a write that failed a read gives the old bytes, and a crash may leave the new ones
pub failed_write : (contents (wrote 0 (8 ∷ []) false ∷ [])).seen ≡ []
failed_write = refl

pub failed_write_left : IsImage (contents (wrote 0 (8 ∷ []) false ∷ [])) (8 ∷ [])
failed_write_left = inr (8 ∷ [], record { before = refl; after = refl; no_shorter = omega arith; no_longer = omega arith }, refl)

-- calls again on the file that a stop left: a write that was done gives its bytes, one that failed none, and a sync nothing
pub replayed_calls : (first failed : Vec ℕ Global) → first.items ≡ 8 ∷ 9 ∷ [] → replayed (5 ∷ 6 ∷ []) (Wrote 1 first true ∷ Synced ∷ Wrote 0 failed false ∷ []) ≡ 5 ∷ 8 ∷ 9 ∷ []
replayed_calls first failed is = ap (λ (l : List ℕ). landed 1 (5 ∷ 6 ∷ []) 1 l) is

-- the last of two writes at one place stays
pub replayed_twice : (first second : Vec ℕ Global) → first.items ≡ 8 ∷ [] → second.items ≡ 9 ∷ [] → replayed [] (Wrote 0 first true ∷ Wrote 0 second true ∷ []) ≡ 9 ∷ []
replayed_twice first second is same = ap (λ (l : List ℕ). landed 1 (landed 1 [] 0 l) 0 second.items) is ∙ ap (landed 1 (8 ∷ []) 0) same

-- after a sync nothing but what a read gives
pub synced_write-none : IsImage (contents (synced ∷ wrote 0 (8 ∷ []) true ∷ [])) [] → ⊥
synced_write-none (inl is) = cc
synced_write-none (inr is) = cc

-- a fuse of 1 lets one call pass, and then none does; where one call alone fails, all pass behind it
pub one_passes : passes_with (Some 1) ≡ true
one_passes = refl

pub fuse_burns : burnt (Some 1) ≡ Some 0
fuse_burns = refl

pub burnt_fails : passes_with (Some 0) ≡ false
burnt_fails = refl

pub burnt_stays : burnt (Some 0) ≡ Some 0
burnt_stays = refl

pub once_burnt_passes : passes_with (burnt_once (Some 0)) ≡ true
once_burnt_passes = refl

-- ---- ranges

-- none was promised
pub none_promised : IsBallotOrNone (record { round = 0; node = 0 })
none_promised = record { last = omega arith; node = omega arith; none = λ first. refl }

pub round_0_of_node_1-none : IsBallotOrNone (record { round = 0; node = 1 }) → ⊥
round_0_of_node_1-none is = absurd (let zero_node = is.none refl in omega (arith, zero_node))

-- ---- files that are no store

pub empty_file : Refuses (header 0 3) [] NoStore
empty_file = refl

pub header_alone : Refuses (header 0 3) (header 0 3) BadHeader
header_alone = (λ e. absurd (omega (arith, ap length e)), λ has. omega (arith, head_within (header 0 3) (header 0 3) has))

-- of a version that there is none of
pub version_3 : Refuses (header 0 3) (72 ∷ 68 ∷ 74 ∷ 51 ∷ 0 ∷ 3 ∷ 0 ∷ 0 ∷ 0 ∷ []) BadHeader
version_3 = (λ e. absurd (omega (arith, ap length e)), λ has. none has)
  where
    none : HasHead (header 0 3) (72 ∷ 68 ∷ 74 ∷ 51 ∷ 0 ∷ 3 ∷ 0 ∷ 0 ∷ 0 ∷ []) → ⊥
    none (Old, gate, rest, is) = absurd (let version = ap (λ (l : List ℕ). get_or l 3 0) is in omega (arith, version))
    none (New, gate, rest, is) = absurd (let version = ap (λ (l : List ℕ). get_or l 3 0) is in omega (arith, version))

pub closed_is_64 : code_of Closed ≡ 64
closed_is_64 = refl

pub closed_prints : fault_text Closed ≡ codes "64 Closed"
closed_prints = refl
