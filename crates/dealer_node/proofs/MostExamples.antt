-- How much is shown at most, on values.
use Rattle.std.proofs.Common.{◌≡◌, ◌+◌, Bool, false, if◌then◌else◌, [], ◌∷◌, length, refl, ap, arith}
use Rattle.std.specs.Prelude.{Option, None}
use Rattle.paxos_wire.specs.declared.ballot.Ballot.{Ballot}
use Rattle.paxos_wire.specs.declared.entry.Entry.{Entry}
use Rattle.paxos_wire.specs.declared.message.Message.TheVariants.{Accepted, Ask, Promise}
use Rattle.slot_log.specs.declared.command.Command.{Command}
use Rattle.proposer.specs.declared.campaign.Campaign.{Campaign}
use Rattle.proposer.specs.Campaigns.{leads}
use Rattle.proposer.specs.CommandRuns.{most_commands}
use Rattle.dealer_node.specs.declared.running.Running.{Running}
use Rattle.dealer_node.specs.declared.most_shown.MostShown.{MostShown}
use Rattle.dealer_node.specs.declared.reader.Reader.TheVariants.{Seat, Log}
use Rattle.dealer_node.specs.Texts.{byte_total}
use Rattle.dealer_node.specs.Outs.{Told, nothing_told}
use Rattle.dealer_node.specs.Running.{ahead_of}
use Rattle.dealer_node.specs.Calling.{close_need, frames_behind}
use Rattle.dealer_node.specs.Most.{most_after, most_applied, most_applied_behind, ShowsWithin}

-- a line alone, where nothing is applied
abbrev of_none : MostShown
of_none = record { pieces = 1; bytes = 4096 }

nothing_applied : most_after 0 ≡ of_none
nothing_applied = refl

-- and what one command shows, as in a call of which the close proposes one; and two, as where a vote is counted before it
abbrev of_one : MostShown
of_one = record { pieces = 12; bytes = 49812 }

one_applied : most_after 1 ≡ of_one
one_applied = refl

abbrev of_two : MostShown
of_two = record { pieces = 23; bytes = 95528 }

two_applied : most_after 2 ≡ of_two
two_applied = refl

-- ---- how many commands a call counts

-- a node without a ballot counts one beside those that it knows beyond its front
idle_counts_one : (running : Running) → running.proposer.campaign ≡ None → most_applied running ≡ ahead_of running + 1
idle_counts_one running none = ap (λ (c : Option Campaign). ahead_of running + (if leads running.proposer.nodes c then most_commands (record running.proposer { campaign = c }) 0 else 1)) none

-- and so does one whose ballot no quorum has promised, whatever it was told
candidate_counts_one : (running : Running) → leads running.proposer.nodes running.proposer.campaign ≡ false → most_applied running ≡ ahead_of running + 1
candidate_counts_one running unled = ap (λ (b : Bool). ahead_of running + (if b then most_commands running.proposer 0 else 1)) unled

-- but not 64
idle_counts_not_64 : (running : Running) → running.proposer.campaign ≡ None → most_applied running ≡ ahead_of running + 64 → ⊥
idle_counts_not_64 running none many = let one = idle_counts_one running none in absurd (omega (arith, one, many))

-- it counts three with an Accepted of two, as many with a promise of two entries, and two with a question
votes_of_two : (running : Running) (ballot : Ballot) (command : Command) → running.proposer.campaign ≡ None → most_applied_behind running (Accepted ballot 0 (command ∷ command ∷ [])) ≡ ahead_of running + 3
votes_of_two running ballot command none =
    ap (λ (c : Option Campaign). ahead_of running + (2 + (if leads running.proposer.nodes c then most_commands (record running.proposer { campaign = c }) 0 else 1))) none

promise_of_two : (running : Running) (ballot : Ballot) (entry : Entry) → running.proposer.campaign ≡ None → most_applied_behind running (Promise ballot 0 (entry ∷ entry ∷ [])) ≡ ahead_of running + 3
promise_of_two running ballot entry none = ap (λ (c : Option Campaign). ahead_of running + (1 + most_commands (record running.proposer { campaign = c }) 2)) none

question : (running : Running) → running.proposer.campaign ≡ None → most_applied_behind running (Ask 0) ≡ ahead_of running + 2
question running none = ap (λ (c : Option Campaign). ahead_of running + (1 + (if leads running.proposer.nodes c then most_commands (record running.proposer { campaign = c }) 0 else 1))) none

-- ---- and how many frames

frames_of_one : frames_behind 1 1 ≡ 86
frames_of_one = refl

frames_of_64 : frames_behind 64 64 ≡ 1409
frames_of_64 = refl

frames_of_a_close : (running : Running) → (close_need running 1).frames ≡ 14
frames_of_a_close running = refl

-- ---- what was shown

-- a line of three bytes was shown, and before it a text of one
abbrev before : Told
before = record { frames = []; shown = (record { mark = Log; text = 10 ∷ [] }) ∷ []; faults = [] }

abbrev later : Told
later = record { frames = []; shown = (record { mark = Log; text = 10 ∷ [] }) ∷ (record { mark = Seat 1; text = 65 ∷ 66 ∷ 67 ∷ [] }) ∷ []; faults = [] }

abbrev most : MostShown
most = record { pieces = 1; bytes = 3 }

a_line_more : ShowsWithin most before later
a_line_more = record { more = (record { mark = Seat 1; text = 65 ∷ 66 ∷ 67 ∷ [] }) ∷ []; behind = refl; pieces = omega arith; bytes = omega arith }

-- but behind nothing both pieces were shown: they aren't one, though of four bytes, nor have they three bytes, though they are two
not_one_piece : ShowsWithin (record { pieces = 1; bytes = 4 }) nothing_told later → ⊥
not_one_piece shows = let same = ap length shows.behind in absurd (omega (arith, same, shows.pieces))

not_three_bytes : ShowsWithin (record { pieces = 2; bytes = 3 }) nothing_told later → ⊥
not_three_bytes shows = let same = ap byte_total shows.behind in absurd (omega (arith, same, shows.bytes))
