-- Frames of command runs, byte for byte, and bytes that are none.
use Rattle.std.proofs.Common.{◌≡◌, length, replicate, lit<, lit≤, List, [], ◌∷◌, Some, None, Ok, Err, refl, codes, arith, inl, inr}
use Rattle.std.specs.Fmt.{digits}
use Rattle.betting.specs.declared.action.Action.TheVariants.{Fold, Call}
use Rattle.slot_log.specs.declared.command.Command.{Command}
use Rattle.slot_log.specs.declared.command.Command.TheVariants.{Deal, Act, Away}
use Rattle.paxos_wire.specs.declared.limits.TheConstants.{WINDOW, MOST_RUN_FRAME}
use Rattle.paxos_wire.specs.declared.fault.FrameFault.TheVariants.{BadBody}
use Rattle.paxos_wire.specs.declared.message.Message.TheVariants.{Accept, Accepted}
use Rattle.paxos_wire.specs.declared.version.Version.TheVariants.{Old, New}
use Rattle.paxos_wire.specs.Fits.{IsSingle, IsOld, HasCommands, most_bytes}
use Rattle.paxos_wire.specs.Spelling.{frame_of, frame, IsText}
use Rattle.paxos_wire.specs.Reading.{below_at, ballot_at, command_at, away_at, commands_at, behind_count, proposed_at, accept_at, of_ballot_at, message_at, body_of}
use Rattle.paxos_wire.specs.Faults.{header_fault, reading}
use Rattle.paxos_wire.specs.Lines.{message_line}
use Rattle.paxos_wire.proofs.Examples.{first_ballot, cards, many_cards}

-- who is away at the first two acts of hand 0
abbrev aways : List Command
aways = Away 0 0 ∷ Away 0 1 ∷ []

-- ---- texts

-- the deal at slot 0 and a call at slot 1, asked for at once in ballot (1, 2)
pub accept_of_two : frame (Accept (record { round = 1; node = 2 }) 0 (Deal 0 cards ∷ Act 0 0 Call ∷ [])) ≡ 0 ∷ 0 ∷ 0 ∷ 39 ∷ 2 ∷ 4 ∷ 0 ∷ 0 ∷ 0 ∷ 1 ∷ 2 ∷ 0 ∷ 0 ∷ 0 ∷ 0 ∷ 2 ∷ 1 ∷ 0 ∷ 0 ∷ 0 ∷ 0 ∷ 9 ∷ 33 ∷ 51 ∷ 26 ∷ 32 ∷ 0 ∷ 24 ∷ 6 ∷ 28 ∷ 46 ∷ 2 ∷ 0 ∷ 0 ∷ 0 ∷ 0 ∷ 0 ∷ 0 ∷ 1 ∷ 0 ∷ 0 ∷ 0 ∷ 0 ∷ []
unfolding frame_of
accept_of_two = refl

-- two commands have no text of the old version, which has no count
pub two_is_text : IsText (Accept first_ballot 0 aways) (0 ∷ 0 ∷ 0 ∷ 26 ∷ 2 ∷ 4 ∷ 0 ∷ 0 ∷ 0 ∷ 1 ∷ 0 ∷ 0 ∷ 0 ∷ 0 ∷ 0 ∷ 2 ∷ 3 ∷ 0 ∷ 0 ∷ 0 ∷ 0 ∷ 0 ∷ 0 ∷ 3 ∷ 0 ∷ 0 ∷ 0 ∷ 0 ∷ 0 ∷ 1 ∷ [])
unfolding frame_of
two_is_text = inl refl

pub old_of_two-no_text : IsText (Accept first_ballot 0 aways) (0 ∷ 0 ∷ 0 ∷ 25 ∷ 1 ∷ 4 ∷ 0 ∷ 0 ∷ 0 ∷ 1 ∷ 0 ∷ 0 ∷ 0 ∷ 0 ∷ 0 ∷ 3 ∷ 0 ∷ 0 ∷ 0 ∷ 0 ∷ 0 ∷ 0 ∷ 3 ∷ 0 ∷ 0 ∷ 0 ∷ 0 ∷ 0 ∷ 1 ∷ []) → ⊥
unfolding frame_of
old_of_two-no_text (inl new) = absurd cc
old_of_two-no_text (inr old) = let one = old.0.1 in absurd (omega arith)

-- ---- ranges

-- an Accept and an Accepted have one command there
pub accepted_of_one : IsOld (Accepted (record { round = 1; node = 4 }) 0 (Away 0 0 ∷ []))
accepted_of_one = (lit< tt, refl)

pub accepted_of_two-not_old : IsOld (Accepted (record { round = 1; node = 4 }) 0 aways) → ⊥
accepted_of_two-not_old old = let one = old.1 in absurd (omega arith)

-- no Accept is longer than that of 64 deals for ten players
pub longest_run : length (frame (Accept first_ballot 0 (replicate WINDOW (Deal 0 many_cards)))) ≡ MOST_RUN_FRAME
unfolding frame_of
longest_run = refl

pub most_of_64 : most_bytes (Accept first_ballot 0 (replicate WINDOW (Deal 0 many_cards))) ≡ MOST_RUN_FRAME
most_of_64 = refl

-- two commands may be 78 bytes, and are no message of one
pub most_of_two : most_bytes (Accepted first_ballot 0 aways) ≡ 78
most_of_two = refl

pub two-not_single : IsSingle (Accepted first_ballot 0 aways) → ⊥
two-not_single single = absurd (omega arith)

pub two_are_commands : HasCommands (Accept first_ballot 0 aways)
two_are_commands = (lit≤ tt, lit≤ tt)

pub no_commands-none : HasCommands (Accept first_ballot 0 []) → ⊥
no_commands-none has = let least = has.0 in absurd (omega arith)

pub commands_65_told-none : HasCommands (Accepted first_ballot 0 (replicate 65 (Away 0 0))) → ⊥
commands_65_told-none has = let most = has.1 in absurd (omega arith)

-- ---- reading

-- the commands of two slots
pub accept_of_two_read : reading (0 ∷ 0 ∷ 0 ∷ 26 ∷ 2 ∷ 4 ∷ 0 ∷ 0 ∷ 0 ∷ 1 ∷ 0 ∷ 0 ∷ 0 ∷ 0 ∷ 1 ∷ 2 ∷ 3 ∷ 0 ∷ 0 ∷ 0 ∷ 0 ∷ 0 ∷ 0 ∷ 3 ∷ 0 ∷ 0 ∷ 0 ∷ 0 ∷ 0 ∷ 1 ∷ []) ≡ Ok (Accept first_ballot 1 aways)
unfolding reading header_fault body_of message_at of_ballot_at ballot_at accept_at proposed_at behind_count commands_at command_at away_at below_at
accept_of_two_read = refl

-- a count of two with one command behind it, and of one with two
pub second_of_two_missing : reading (0 ∷ 0 ∷ 0 ∷ 19 ∷ 2 ∷ 4 ∷ 0 ∷ 0 ∷ 0 ∷ 1 ∷ 0 ∷ 0 ∷ 0 ∷ 0 ∷ 1 ∷ 2 ∷ 3 ∷ 0 ∷ 0 ∷ 0 ∷ 0 ∷ 0 ∷ 0 ∷ []) ≡ Err BadBody
unfolding reading header_fault body_of message_at of_ballot_at ballot_at accept_at proposed_at behind_count commands_at command_at away_at below_at
second_of_two_missing = refl

pub second_of_one : reading (0 ∷ 0 ∷ 0 ∷ 26 ∷ 2 ∷ 4 ∷ 0 ∷ 0 ∷ 0 ∷ 1 ∷ 0 ∷ 0 ∷ 0 ∷ 0 ∷ 1 ∷ 1 ∷ 3 ∷ 0 ∷ 0 ∷ 0 ∷ 0 ∷ 0 ∷ 0 ∷ 3 ∷ 0 ∷ 0 ∷ 0 ∷ 0 ∷ 0 ∷ 1 ∷ []) ≡ Err BadBody
unfolding reading header_fault body_of message_at of_ballot_at ballot_at accept_at proposed_at behind_count commands_at command_at away_at below_at
second_of_one = refl

-- the count goes from 1 to 64, whatever stands behind it
pub counts_from_1_to_64 : (behind_count New (0 ∷ []) ≡ None) × (behind_count New (1 ∷ []) ≡ Some (1, [])) × (behind_count New (64 ∷ 9 ∷ []) ≡ Some (64, 9 ∷ [])) × (behind_count New (65 ∷ []) ≡ None)
unfolding behind_count
counts_from_1_to_64 = (refl, refl, refl, refl)

pub old_count : (behind_count Old (65 ∷ []) ≡ Some (1, 65 ∷ [])) × (behind_count New [] ≡ None)
unfolding behind_count
old_count = (refl, refl)

-- one command for the last slot, and two of which the second would be for the one behind it
pub last_slot_read : accept_at New Accept first_ballot 3999999 (1 ∷ 3 ∷ 0 ∷ 0 ∷ 0 ∷ 0 ∷ 0 ∷ 0 ∷ []) ≡ Some (Accept first_ballot 3999999 (Away 0 0 ∷ []), [])
unfolding accept_at proposed_at behind_count commands_at command_at away_at below_at
last_slot_read = refl

pub past_the_last_slot : accept_at New Accept first_ballot 3999999 (2 ∷ 3 ∷ 0 ∷ 0 ∷ 0 ∷ 0 ∷ 0 ∷ 0 ∷ 3 ∷ 0 ∷ 0 ∷ 0 ∷ 0 ∷ 0 ∷ 1 ∷ []) ≡ None
unfolding accept_at proposed_at behind_count commands_at command_at away_at below_at
past_the_last_slot = refl

-- ---- printed lines

pub accepted_line_of_three : message_line (Accepted (record { round = 3; node = 1 }) 7 (Deal 0 cards ∷ Act 0 0 Call ∷ Act 0 1 Fold ∷ [])) ≡ codes "Accepted (3, 1) at 7 to 9: deal of hand 0, act 0 of hand 0: call, act 1 of hand 0: fold"
unfolding digits
accepted_line_of_three = refl
