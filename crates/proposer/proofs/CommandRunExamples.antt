-- Command runs, worked out.
use Rattle.std.proofs.Common.{◌≡◌, ℕ, inl, inr, true, false, List, [], ◌∷◌, Option, Some, None, Result, Ok, Err, refl, ap, arith, length, replicate}
use Rattle.paxos_wire.specs.declared.entry.Entry.{Entry}
use Rattle.slot_log.specs.declared.command.Command.{Command}
use Rattle.proposer.specs.declared.campaign.Campaign.{Campaign}
use Rattle.proposer.specs.declared.accept_run.AcceptRun.{AcceptRun}
use Rattle.proposer.specs.declared.fault.ProposeFault.{ProposeFault}
use Rattle.proposer.specs.declared.fault.ProposeFault.TheVariants.{OutOfWindow}
use Rattle.proposer.specs.Campaigns.{Proposing, begun, counting, proposal_of, marked}
use Rattle.proposer.specs.CommandRuns.{told_commands, run_of, run_of_one, marked_run, waiting_by, waiting_told, most_commands, IsBounded}
use Rattle.proposer.specs.CommandRunLaws.{Ends}
use Rattle.proposer.proofs.Examples.{ballot, fold, call, entry, new, preparing, leading}

abbrev run : ℕ → List Command → AcceptRun
run slot commands = record { ballot = ballot 5 1; slot = slot; commands = commands }

-- ---- two of three nodes promised (5, 1) from slot 10 on, and tell of slots 12 and 13

pub no_quorum_no_run : run_of preparing 12 (Some fold) ≡ Ok None
no_quorum_no_run = refl

pub idle_proposes_no_run : run_of new 12 (Some fold) ≡ Ok None
idle_proposes_no_run = refl

pub told_ones_together : run_of leading 12 (Some fold) ≡ Ok (Some (run 12 (call ∷ call ∷ [])))
unfolding told_commands
told_ones_together = refl

pub told_ones_without_an_own : run_of leading 12 None ≡ Ok (Some (run 12 (call ∷ call ∷ [])))
unfolding told_commands
told_ones_without_an_own = refl

pub last_told_one : run_of leading 13 (Some fold) ≡ Ok (Some (run 13 (call ∷ [])))
unfolding told_commands
last_told_one = refl

-- the told ones behind a slot of which none is told wait
pub own_alone : run_of leading 11 (Some fold) ≡ Ok (Some (run 11 (fold ∷ [])))
own_alone = refl

pub none_without_an_own : run_of leading 11 None ≡ Ok None
none_without_an_own = refl

pub past_the_slots_covered : run_of leading 74 (Some fold) ≡ Err OutOfWindow
past_the_slots_covered = refl

abbrev count_in : Result (Option AcceptRun) ProposeFault → ℕ
count_in (Ok (Some made)) = length made.commands
count_in (Ok None) = 0
count_in (Err fault) = 0

-- the own one is never behind told ones
pub own_behind_told : run_of leading 12 (Some fold) ≡ Ok (Some (run 12 (call ∷ call ∷ fold ∷ []))) → ⊥
unfolding told_commands
own_behind_told h = let two : 2 ≡ 3 = ap count_in h in omega (arith, two)

-- ---- where a command run ends

pub ends_at_a_mark : run_of (marked leading (proposal_of leading 13 None)) 12 None ≡ Ok (Some (run 12 (call ∷ [])))
unfolding told_commands
ends_at_a_mark = refl

-- of (6, 1), whose Prepare covers the slots from this one on, two of three nodes tell so much
abbrev of_two : ℕ → List Entry → Proposing
of_two first told = counting (counting (begun new (ballot 5 0) first) 1 (ballot 6 1) first []) 2 (ballot 6 1) first told

abbrev ending : ℕ → ℕ → List Command → Option AcceptRun
ending first slot commands = Some (record { ballot = ballot 6 1; slot = slot; commands = commands })

-- a slot of which none is told stands between
abbrev gapped : Proposing
gapped = of_two 0 (entry 0 (ballot 1 0) fold ∷ entry 1 (ballot 1 0) call ∷ entry 2 (ballot 1 0) fold ∷ entry 4 (ballot 1 0) call ∷ entry 63 (ballot 1 0) fold ∷ [])

pub ends_at_a_gap : run_of gapped 0 None ≡ Ok (ending 0 0 (fold ∷ call ∷ fold ∷ []))
unfolding told_commands
ends_at_a_gap = refl

pub own_in_the_gap : run_of gapped 3 (Some call) ≡ Ok (ending 0 3 (call ∷ []))
own_in_the_gap = refl

pub behind_the_gap : run_of gapped 4 None ≡ Ok (ending 0 4 (call ∷ []))
unfolding told_commands
behind_the_gap = refl

pub last_slot_covered : run_of gapped 63 None ≡ Ok (ending 0 63 (fold ∷ []))
unfolding told_commands
last_slot_covered = refl

-- an entry of a slot that isn't covered is never proposed
abbrev past : Proposing
past = of_two 0 (entry 63 (ballot 1 0) fold ∷ entry 64 (ballot 1 0) call ∷ [])

pub ends_with_the_slots_covered : run_of past 63 None ≡ Ok (ending 0 63 (fold ∷ []))
unfolding told_commands
ends_with_the_slots_covered = refl

-- nor one of a slot that there isn't, but alone
abbrev last : Proposing
last = of_two 3999990 (entry 3999999 (ballot 1 0) fold ∷ entry 4000000 (ballot 1 0) call ∷ entry 4000001 (ballot 1 0) call ∷ [])

pub ends_with_the_last_slot : run_of last 3999999 None ≡ Ok (ending 3999990 3999999 (fold ∷ []))
unfolding told_commands
ends_with_the_last_slot = refl

pub alone_past_the_last_slot : run_of last 4000000 None ≡ Ok (ending 3999990 4000000 (call ∷ []))
unfolding told_commands
alone_past_the_last_slot = refl

-- a command run of one is a single proposal
pub one_is_a_proposal : run_of leading 13 (Some fold) ≡ run_of_one (proposal_of leading 13 (Some fold))
unfolding told_commands
one_is_a_proposal = refl

-- ---- marks

abbrev done : Proposing
done = marked_run leading (run_of leading 12 None)

pub not_twice : run_of done 12 (Some fold) ≡ Ok None
unfolding told_commands
not_twice = refl

pub nor_behind : run_of done 13 (Some fold) ≡ Ok None
unfolding told_commands
nor_behind = refl

pub next_slot_stays_free : run_of done 14 (Some fold) ≡ Ok (Some (run 14 (fold ∷ [])))
unfolding told_commands
next_slot_stays_free = refl

-- ---- bounds

pub idle_bound : most_commands new 0 ≡ 1
idle_bound = refl

pub two_wait : waiting_told leading ≡ 2
unfolding waiting_by
two_wait = refl

pub bound_of_two : most_commands leading 0 ≡ 2
unfolding waiting_by
bound_of_two = refl

pub bound_with_more_told : most_commands leading 3 ≡ 5
unfolding waiting_by
bound_with_more_told = refl

pub bound_of_the_slots_covered : most_commands leading 64 ≡ 64
unfolding waiting_by
bound_of_the_slots_covered = refl

-- what was proposed doesn't wait any more
pub bound_once_proposed : most_commands done 0 ≡ 1
unfolding told_commands waiting_by
bound_once_proposed = refl

-- one is no bound where two wait
pub two_are_more_than_one : IsBounded leading 1 → ⊥
unfolding told_commands
two_are_more_than_one h = let two = h 12 None (run 12 (call ∷ call ∷ [])) refl in omega (arith, two)

-- ---- where it ends

abbrev told_two : Campaign
told_two = record { ballot = ballot 5 1; first = 10; promises = None ∷ Some [] ∷ Some (entry 12 (ballot 4 0) call ∷ entry 13 (ballot 1 0) call ∷ []) ∷ []; proposed = replicate 64 false }

pub ends_behind_the_last_told : Ends 3 told_two 14
ends_behind_the_last_told = inr (inr (inr refl))

-- a command run that is cut short: of the slot behind it one is told
pub cut_short : Ends 3 told_two 13 → ⊥
cut_short (inl e) = omega (arith, e)
cut_short (inr (inl past)) = omega (arith, past)
cut_short (inr (inr (inl marked))) = absurd (let clash : false ≡ true = marked in cc)
cut_short (inr (inr (inr untold))) = absurd (let clash : Some (entry 13 (ballot 1 0) call) ≡ None = untold in cc)
