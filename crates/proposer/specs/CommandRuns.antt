-- What a campaign proposes at a slot and at those behind it, all at once: a command run.
use Rattle.std.specs.Prelude.{◌≡◌, ℕ, zero, suc, ◌+◌, ◌-◌, ◌≤◌, Bool, true, false, not, nat_lt, if◌then◌else◌, max, min, List, [], ◌∷◌, length, Option, Some, None, is_some, slice_set, Result, Ok, Err}
use Rattle.std.specs.Option.{option_map}
use Rattle.paxos_wire.specs.declared.limits.TheConstants.{WINDOW, SLOTS}
use Rattle.paxos_wire.specs.declared.entry.Entry.{Entry}
use Rattle.slot_log.specs.declared.command.Command.{Command}
use Rattle.protocol_model.specs.Quorums.{count}
use Rattle.proposer.specs.declared.campaign.Campaign.{Campaign}
use Rattle.proposer.specs.declared.accept.Accept.{Accept}
use Rattle.proposer.specs.declared.accept_run.AcceptRun.{AcceptRun}
use Rattle.proposer.specs.declared.fault.ProposeFault.{ProposeFault}
use Rattle.proposer.specs.declared.fault.ProposeFault.TheVariants.{OutOfWindow}
use Rattle.proposer.specs.Campaigns.{Proposing, has_quorum, is_covered, is_proposed, greatest_told}

-- ---- what is proposed

-- a further command may follow at the slot: it is covered, there is such a slot, and nothing was proposed there
abbrev pub may_follow : Campaign → ℕ → Bool
may_follow campaign slot =
    if not (is_covered campaign.first slot) then false
    else if not (nat_lt slot SLOTS) then false
    else not (is_proposed campaign slot)

abbrev pub in_front : Option Entry → List Command → List Command
in_front None behind = []
in_front (Some entry) behind = entry.command ∷ behind

-- the told commands of so many slots at most, from this one on: up to the first slot where none may follow, or of which none is told
unfoldable pub told_commands : ℕ → Campaign → ℕ → ℕ → List Command
told_commands n campaign zero slot = []
told_commands n campaign (suc more) slot =
    if may_follow campaign slot then in_front (greatest_told campaign slot n) (told_commands n campaign more (slot + 1)) else []

abbrev pub alone : Option Command → List Command
alone None = []
alone (Some command) = command ∷ []

-- the told command of the slot with those told behind it, or where none is told there the own one, alone
abbrev pub commands_of : Option Entry → List Command → Option Command → List Command
commands_of None behind own = alone own
commands_of (Some entry) behind own = entry.command ∷ behind

abbrev pub commands_at : ℕ → Campaign → ℕ → Option Command → List Command
commands_at n campaign slot own = commands_of (greatest_told campaign slot n) (told_commands n campaign (WINDOW - 1) (slot + 1)) own

abbrev pub accept_run_of : Campaign → ℕ → List Command → Option AcceptRun
accept_run_of campaign slot [] = None
accept_run_of campaign slot (command ∷ more) = Some (record { ballot = campaign.ballot; slot = slot; commands = command ∷ more })

-- what a campaign proposes from the slot on: commands where a quorum has promised, the slot is covered, nothing was proposed there and there is a
-- value
abbrev pub run_by : ℕ → Campaign → ℕ → Option Command → Result (Option AcceptRun) ProposeFault
run_by n campaign slot own =
    if not (has_quorum n campaign) then Ok None
    else if not (is_covered campaign.first slot) then Err OutOfWindow
    else if is_proposed campaign slot then Ok None
    else Ok (accept_run_of campaign slot (commands_at n campaign slot own))

abbrev pub run_from_campaign : ℕ → Option Campaign → ℕ → Option Command → Result (Option AcceptRun) ProposeFault
run_from_campaign n None slot own = Ok None
run_from_campaign n (Some campaign) slot own = run_by n campaign slot own

-- what a proposer proposes from the slot on: nothing where no ballot was begun
abbrev pub run_of : Proposing → ℕ → Option Command → Result (Option AcceptRun) ProposeFault
run_of p slot own = run_from_campaign p.nodes p.campaign slot own

-- the command run of a single proposal
abbrev pub run_of_one : Result (Option Accept) ProposeFault → Result (Option AcceptRun) ProposeFault
run_of_one (Ok (Some made)) = Ok (Some (record { ballot = made.ballot; slot = made.slot; commands = made.command ∷ [] }))
run_of_one (Ok None) = Ok None
run_of_one (Err fault) = Err fault

-- ---- what is marked

-- so many places from this one on are marked
abbrev pub marked_places : List Bool → ℕ → ℕ → List Bool
marked_places marks place zero = marks
marked_places marks place (suc more) = marked_places (slice_set marks place true) (place + 1) more

abbrev pub with_marks : Campaign → Result (Option AcceptRun) ProposeFault → Campaign
with_marks campaign (Ok (Some run)) = record campaign { proposed = marked_places campaign.proposed (run.slot - campaign.first) (length run.commands) }
with_marks campaign (Ok None) = campaign
with_marks campaign (Err fault) = campaign

abbrev pub marked_run_from : Option Campaign → Result (Option AcceptRun) ProposeFault → Option Campaign
marked_run_from campaign run = option_map (λ c. with_marks c run) campaign

-- what is proposed is marked at each of its slots
abbrev pub marked_run : Proposing → Result (Option AcceptRun) ProposeFault → Proposing
marked_run p run = record p { campaign = marked_run_from p.campaign run }

-- ---- how many commands the next command run may have

-- a told command may follow at the slot
abbrev pub is_waiting : ℕ → Campaign → ℕ → Bool
is_waiting n campaign slot = if may_follow campaign slot then is_some (greatest_told campaign slot n) else false

-- at how many of the 64 slots one may
unfoldable pub waiting_by : ℕ → Campaign → ℕ
waiting_by n campaign = count (λ place. is_waiting n campaign (campaign.first + place)) WINDOW

abbrev pub waiting_in : ℕ → Option Campaign → ℕ
waiting_in n None = 0
waiting_in n (Some campaign) = waiting_by n campaign

-- the same of a proposer
abbrev pub waiting_told : Proposing → ℕ
waiting_told p = waiting_in p.nodes p.campaign

-- a bound for the next command run, once so many further entries were told
abbrev pub most_commands : Proposing → ℕ → ℕ
most_commands p further = max 1 (min WINDOW (waiting_told p + further))

-- whatever is proposed next, it has no more commands than this
abbrev pub IsBounded : Proposing → ℕ → Type 0
IsBounded p most = (slot : ℕ) (own : Option Command) (run : AcceptRun) → run_of p slot own ≡ Ok (Some run) → length run.commands ≤ most
