-- What members hold at a slot, and from it on, can be told.
use Rattle.std.proofs.Common.{◌≡◌, ℕ, zero, suc, ◌+◌, ◌<◌, ◌≤◌, ◌⊎◌, inl, inr, true, false, List, [], ◌∷◌, Option, Some, None, refl, sym, ap, subst, ◌∙◌, arith, length}
use Rattle.paxos_wire.specs.declared.limits.TheConstants.{SLOTS, WINDOW}
use Rattle.paxos_wire.specs.Order.{is_below}
use Rattle.slot_log.specs.declared.command.Command.{Command}
use Rattle.protocol_model.specs.Ballots.{Below, AtMost}
use Rattle.protocol_model.specs.Messages.{Vote}
use Rattle.protocol_model.proofs.Ballots.{at_most_self, at_most_trans, at_most_of_below, below_cases}
use Rattle.node_rules.specs.Standings.{Standing}
use Rattle.node_rules.specs.Calm.{IsGreatestHeld, AreGreatestHeld, IsUnheld, IsToldCommandRun}

-- ---- one slot

abbrev pub Holding : (ℕ → Standing) → List ℕ → ℕ → Type 0
Holding standings members slot = ((command : Command) × IsGreatestHeld standings members slot command) ⊎ IsUnheld standings members slot

no_vote : (v : Vote) → ◌≡◌ {A = Option Vote} None (Some v) → ⊥
no_vote v e = cc

one_vote : (v w : Vote) → ◌≡◌ {A = Option Vote} (Some v) (Some w) → v ≡ w
one_vote v w e = cc

-- the greater of one more member's vote and the greatest of the others
greater : (standings : ℕ → Standing) (m : ℕ) (members : List ℕ) (slot : ℕ) (v : Vote) (command : Command) → (standings m).store.votes slot ≡ Some v → (held : IsGreatestHeld standings members slot command)
    → ((is_below v.ballot held.greatest.ballot ≡ true) × Below v.ballot held.greatest.ballot) ⊎ ((is_below v.ballot held.greatest.ballot ≡ false) × AtMost held.greatest.ballot v.ballot)
    → Holding standings (m ∷ members) slot
greater standings m members slot v command e held (inl low) = inl (
  command,
  record {
    greatest = held.greatest;
    held = (held.held.0, inr held.held.1, held.held.2);
    same = held.same;
    above = λ w h. elim h.1 [
      | inl here ↦ subst (λ (x : Vote). AtMost x.ballot held.greatest.ballot) (one_vote v w (sym e ∙ (ap (λ (k : ℕ). (standings k).store.votes slot) (sym here) ∙ h.2)))
          (at_most_of_below v.ballot held.greatest.ballot low.1)
      | inr there ↦ held.above w (h.0, there, h.2)
    ];
  },
)
greater standings m members slot v command e held (inr high) = inl (
  v.command,
  record {
    greatest = v;
    held = (m, inl refl, e);
    same = refl;
    above = λ w h. elim h.1 [
      | inl here ↦ subst (λ (x : Vote). AtMost x.ballot v.ballot) (one_vote v w (sym e ∙ (ap (λ (k : ℕ). (standings k).store.votes slot) (sym here) ∙ h.2))) (at_most_self v.ballot)
      | inr there ↦ at_most_trans w.ballot held.greatest.ballot v.ballot (held.above w (h.0, there, h.2)) high.1
    ];
  },
)

one_more : (standings : ℕ → Standing) (m : ℕ) (members : List ℕ) (slot : ℕ) (o : Option Vote) → (standings m).store.votes slot ≡ o → Holding standings members slot → Holding standings (m ∷ members) slot
one_more standings m members slot None e (inr none) =
    inr (λ w h. elim h.1 [ inl here ↦ no_vote w (sym e ∙ (ap (λ (k : ℕ). (standings k).store.votes slot) (sym here) ∙ h.2)) | inr there ↦ none w (h.0, there, h.2) ])
one_more standings m members slot None e (inl (command, held)) = inl (
  command,
  record {
    greatest = held.greatest;
    held = (held.held.0, inr held.held.1, held.held.2);
    same = held.same;
    above = λ w h. elim h.1 [
      | inl here ↦ absurd (no_vote w (sym e ∙ (ap (λ (k : ℕ). (standings k).store.votes slot) (sym here) ∙ h.2)))
      | inr there ↦ held.above w (h.0, there, h.2)
    ];
  },
)
one_more standings m members slot (Some v) e (inr none) = inl (
  v.command,
  record {
    greatest = v;
    held = (m, inl refl, e);
    same = refl;
    above = λ w h. elim h.1 [
      | inl here ↦ subst (λ (x : Vote). AtMost x.ballot v.ballot) (one_vote v w (sym e ∙ (ap (λ (k : ℕ). (standings k).store.votes slot) (sym here) ∙ h.2))) (at_most_self v.ballot)
      | inr there ↦ absurd (none w (h.0, there, h.2))
    ];
  },
)
one_more standings m members slot (Some v) e (inl (command, held)) = greater standings m members slot v command e held (below_cases v.ballot held.greatest.ballot)

-- the members' greatest vote at the slot, or that they have none
pub holding : (standings : ℕ → Standing) (members : List ℕ) (slot : ℕ) → Holding standings members slot
holding standings [] slot = inr (λ vote h. absurd h.1)
holding standings (m ∷ members) slot = one_more standings m members slot ((standings m).store.votes slot) refl (holding standings members slot)

-- ---- from a slot on

-- of so many slots from this one on, as far as the members have votes
record HeldRun (standings : ℕ → Standing) (members : List ℕ) (more slot : ℕ) : Type 0 where
  commands : List Command
  most : length commands ≤ more
  slots : slot + length commands ≤ SLOTS
  held : AreGreatestHeld standings members slot commands
  ends : (length commands ≡ more) ⊎ ((slot + length commands ≡ SLOTS) ⊎ IsUnheld standings members (slot + length commands))

held_run : (standings : ℕ → Standing) (members : List ℕ) (more slot : ℕ) → slot ≤ SLOTS → HeldRun standings members more slot
held_run standings members zero slot low = record { commands = []; most = omega arith; slots = omega arith; held = tt; ends = inl refl }
held_run standings members (suc more) slot low = by_slot (λ l. held_run standings members more (slot + 1) l) room
  where
    room : (slot ≡ SLOTS) ⊎ (slot < SLOTS)
    room = grind arith

    by_holding : slot < SLOTS → Holding standings members slot → (slot + 1 ≤ SLOTS → HeldRun standings members more (slot + 1)) → HeldRun standings members (suc more) slot
    by_holding less (inr none) later = record {
      commands = [];
      most = omega arith;
      slots = omega arith;
      held = tt;
      ends = inr (inr (let same : slot ≡ slot + 0 = omega arith in subst (IsUnheld standings members) same none));
    }
    by_holding less (inl (command, held)) later =
        let r = later (omega arith) in
        let most = r.most in
        let slots = r.slots in
        record {
          commands = command ∷ r.commands;
          most = omega (arith, most);
          slots = omega (arith, slots);
          held = (held, r.held);
          ends = elim r.ends [
            | inl full ↦ inl (omega (arith, full))
            | inr other ↦ elim other [
              | inl last ↦ inr (inl (omega (arith, last)))
              | inr none ↦ inr (inr (let same : slot + 1 + length r.commands ≡ slot + length (command ∷ r.commands) = omega arith in subst (IsUnheld standings members) same none))
            ]
          ];
        }

    by_slot : (slot + 1 ≤ SLOTS → HeldRun standings members more (slot + 1)) → (slot ≡ SLOTS) ⊎ (slot < SLOTS) → HeldRun standings members (suc more) slot
    by_slot later (inl last) = record { commands = []; most = omega arith; slots = omega (arith, last); held = tt; ends = inr (inl (omega (arith, last))) }
    by_slot later (inr less) = by_holding less (holding standings members slot) later

-- where a member has a vote at the slot, there is such a run of commands
pub told_run : (standings : ℕ → Standing) (members : List ℕ) (slot : ℕ) (command : Command) → slot < SLOTS → IsGreatestHeld standings members slot command
    → (commands : List Command) × IsToldCommandRun standings members slot commands
told_run standings members slot command less first = by_run (held_run standings members WINDOW slot (omega arith))
  where
    by_commands : (r : HeldRun standings members WINDOW slot) (commands : List Command) → r.commands ≡ commands → 1 ≤ length commands
    by_commands r [] e = elim (subst (λ (cs : List Command). (length cs ≡ WINDOW) ⊎ ((slot + length cs ≡ SLOTS) ⊎ IsUnheld standings members (slot + length cs))) e r.ends) [
      | inl full ↦ absurd (omega (arith, full))
      | inr other ↦ elim other [
        | inl last ↦ absurd (omega (arith, last))
        | inr none ↦ absurd (let same : slot + 0 ≡ slot = omega arith in subst (IsUnheld standings members) same none first.greatest first.held)
      ]
    ]
    by_commands r (command ∷ more) e = omega arith

    by_run : HeldRun standings members WINDOW slot → (commands : List Command) × IsToldCommandRun standings members slot commands
    by_run r = (r.commands, record { least = by_commands r r.commands refl; most = r.most; slots = r.slots; held = r.held; ends = r.ends })
