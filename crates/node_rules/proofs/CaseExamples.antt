-- The three cases of a member, worked out.
use Rattle.std.proofs.Common.{◌≡◌, ℕ, zero, suc, inl, inr, true, [], ◌∷◌, Option, Some, None, refl, arith}
use Rattle.paxos_wire.specs.declared.message.Message.TheVariants.{Accept, Accepted}
use Rattle.slot_log.specs.declared.command.Command.{Command}
use Rattle.slot_log.specs.declared.command.Command.TheVariants.{Away}
use Rattle.protocol_model.specs.Messages.{Vote}
use Rattle.node_rules.specs.Standings.{Standing}
use Rattle.node_rules.specs.Turns.{Turn, and_then}
use Rattle.node_rules.specs.Proposing.{is_over, closing}
use Rattle.node_rules.specs.Seats.{ordering}
use Rattle.node_rules.specs.Cases.{HasProposal, AwaitsBot}
use Rattle.node_rules.proofs.Examples.{opened, place, ballot, to, done, first, voted_1, dealt_0, over_0}

-- ---- node 0 knows its deal, node 1 voted for it, and nobody has acted

abbrev dealt_at : ℕ → Standing
dealt_at zero = dealt_0
dealt_at (suc zero) = voted_1
dealt_at (suc (suc node)) = first 2

none_behind : (node : ℕ) (vote : Vote) → (dealt_at node).store.votes 1 ≡ Some vote → ⊥
none_behind zero vote e = cc
none_behind (suc zero) vote e = cc
none_behind (suc (suc node)) vote e = cc

dealt_awaits_a_bot : AwaitsBot (place 0) dealt_at 0 (0 ∷ 1 ∷ [])
unfolding opened
dealt_awaits_a_bot = record { next = (Away 0 0, refl); nothing_waits = refl; unheld = λ vote h. none_behind h.0 vote h.2 }

-- so it has nothing to propose
dealt_has_nothing : HasProposal (place 0) dealt_at 0 (0 ∷ 1 ∷ []) → ⊥
unfolding opened
dealt_has_nothing ([], inl run) = let least = run.least in omega (arith, least)
dealt_has_nothing (command ∷ more, inl run) = none_behind run.held.0.held.0 run.held.0.greatest run.held.0.held.2
dealt_has_nothing (commands, inr own) = let none : ◌≡◌ {A = Option Command} None (Some own.0) = own.2.1 in cc

-- an order helps: it leads, and proposes the command by which alice is played for
abbrev ordered : Turn
ordered = done (and_then (ordering (place 0) dealt_0) (closing (place 0)))

order_is_proposed : ordered.frames
    ≡ to 1 (Accept (ballot 1 0) 1 (Away 0 0 ∷ [])) ∷ to 2 (Accept (ballot 1 0) 1 (Away 0 0 ∷ []))
    ∷ to 1 (Accepted (ballot 1 0) 1 (Away 0 0 ∷ [])) ∷ to 2 (Accepted (ballot 1 0) 1 (Away 0 0 ∷ [])) ∷ []
unfolding opened
order_is_proposed = refl

order_waits : ordered.after.pending ≡ Some (Away 0 0)
unfolding opened
order_waits = refl

-- where an act waits it awaits no bot
waiting_is_refuted : AwaitsBot (place 0) (λ node. record (dealt_at node) { pending = Some (Away 0 0) }) 0 (0 ∷ 1 ∷ []) → ⊥
waiting_is_refuted waits = let none : ◌≡◌ {A = Option Command} (Some (Away 0 0)) None = waits.nothing_waits in cc

-- ---- between hands, and at the end, it awaits none

fresh_awaits_none : AwaitsBot (place 0) first 0 (0 ∷ 1 ∷ []) → ⊥
unfolding opened
fresh_awaits_none waits = let none : ◌≡◌ {A = Option Command} None (Some waits.next.0) = waits.next.1 in cc

match_is_over : is_over (place 0) over_0 ≡ true
unfolding opened
match_is_over = refl

over_awaits_none : AwaitsBot (place 0) (λ node. over_0) 0 (0 ∷ 1 ∷ []) → ⊥
unfolding opened
over_awaits_none waits = let none : ◌≡◌ {A = Option Command} None (Some waits.next.0) = waits.next.1 in cc
