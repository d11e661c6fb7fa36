-- Standings of a quorum's members that keep their votes and what they know, and may promise more: what they would propose stays.
use Rattle.std.proofs.Common.{◌≡◌, ℕ, ◌+◌, ◌⊎◌, inl, inr, List, [], ◌∷◌, Option, refl, sym, ap, subst, ◌∙◌, length}
use Rattle.paxos_wire.specs.declared.limits.TheConstants.{SLOTS, WINDOW}
use Rattle.slot_log.specs.Slots.{front}
use Rattle.slot_log.specs.declared.command.Command.{Command}
use Rattle.protocol_model.specs.Sets.{In}
use Rattle.protocol_model.specs.Ballots.{AtMost}
use Rattle.protocol_model.specs.Messages.{Vote}
use Rattle.protocol_model.proofs.Ballots.{at_most_self}
use Rattle.learner.specs.Learning.{Learned}
use Rattle.node_rules.specs.Standings.{Place, Standing, front_of}
use Rattle.node_rules.specs.Proposing.{is_over, own_value}
use Rattle.node_rules.specs.Calm.{IsHeld, IsGreatestHeld, AreGreatestHeld, IsUnheld, IsToldCommandRun, WouldPropose}

-- the votes stay, what is known and the act that waits, and no promise falls
pub record KeepsVotes (old new : Standing) : Type 0 where
  pub up : new.up ≡ old.up
  pub votes : new.store.votes ≡ old.store.votes
  pub promise : AtMost old.store.promise new.store.promise
  pub learned : new.learned ≡ old.learned
  pub pending : new.pending ≡ old.pending

pub keeps_self : (s : Standing) → KeepsVotes s s
keeps_self s = record { up = refl; votes = refl; promise = at_most_self s.store.promise; learned = refl; pending = refl }

-- ---- what one node has to propose

pub own_same : (place : Place) (s t : Standing) → s.learned ≡ t.learned → s.pending ≡ t.pending → own_value place s ≡ own_value place t
own_same place s t el ep = λ j. own_value place (record t { learned = el j; pending = ep j })

pub over_same : (place : Place) (s t : Standing) → s.learned ≡ t.learned → is_over place s ≡ is_over place t
over_same place s t el = λ j. is_over place (record t { learned = el j })

-- ---- what the members hold

-- the same votes at all members
abbrev pub HoldTheSame : (ℕ → Standing) → (ℕ → Standing) → List ℕ → Type 0
HoldTheSame a b members = (k : ℕ) → In k members → (b k).store.votes ≡ (a k).store.votes

pub held_same : (a b : ℕ → Standing) (members : List ℕ) (slot : ℕ) (vote : Vote) → HoldTheSame a b members → IsHeld a members slot vote → IsHeld b members slot vote
held_same a b members slot vote same (node, among, e) = (node, among, ap (λ (votes : ℕ → Option Vote). votes slot) (same node among) ∙ e)

pub held_back : (a b : ℕ → Standing) (members : List ℕ) (slot : ℕ) (vote : Vote) → HoldTheSame a b members → IsHeld b members slot vote → IsHeld a members slot vote
held_back a b members slot vote same (node, among, e) = (node, among, ap (λ (votes : ℕ → Option Vote). votes slot) (sym (same node among)) ∙ e)

greatest_same : (a b : ℕ → Standing) (members : List ℕ) (slot : ℕ) (command : Command) → HoldTheSame a b members → IsGreatestHeld a members slot command → IsGreatestHeld b members slot command
greatest_same a b members slot command same held = record {
  greatest = held.greatest;
  held = held_same a b members slot held.greatest same held.held;
  same = held.same;
  above = λ v h. held.above v (held_back a b members slot v same h);
}

all_greatest_same : (a b : ℕ → Standing) (members : List ℕ) (slot : ℕ) (commands : List Command) → HoldTheSame a b members
    → AreGreatestHeld a members slot commands → AreGreatestHeld b members slot commands
all_greatest_same a b members slot [] same held = tt
all_greatest_same a b members slot (command ∷ later) same (first, rest) = (greatest_same a b members slot command same first, all_greatest_same a b members (slot + 1) later same rest)

unheld_same : (a b : ℕ → Standing) (members : List ℕ) (slot : ℕ) → HoldTheSame a b members → IsUnheld a members slot → IsUnheld b members slot
unheld_same a b members slot same unheld = λ v h. unheld v (held_back a b members slot v same h)

ends_same : (a b : ℕ → Standing) (members : List ℕ) (slot count : ℕ) → HoldTheSame a b members → (count ≡ WINDOW) ⊎ ((slot ≡ SLOTS) ⊎ IsUnheld a members slot)
    → (count ≡ WINDOW) ⊎ ((slot ≡ SLOTS) ⊎ IsUnheld b members slot)
ends_same a b members slot count same (inl window) = inl window
ends_same a b members slot count same (inr (inl last)) = inr (inl last)
ends_same a b members slot count same (inr (inr unheld)) = inr (inr (unheld_same a b members slot same unheld))

told_same : (a b : ℕ → Standing) (members : List ℕ) (slot : ℕ) (commands : List Command) → HoldTheSame a b members → IsToldCommandRun a members slot commands
    → IsToldCommandRun b members slot commands
told_same a b members slot commands same told = record {
  least = told.least;
  most = told.most;
  slots = told.slots;
  held = all_greatest_same a b members slot commands same told.held;
  ends = ends_same a b members (slot + length commands) (length commands) same told.ends;
}

-- ---- what node i would propose

pub proposes_same : (place : Place) (a b : ℕ → Standing) (i : ℕ) (members : List ℕ) (commands : List Command) → HoldTheSame a b members → (b i).learned ≡ (a i).learned → (b i).pending ≡ (a i).pending
    → WouldPropose place a i members commands → WouldPropose place b i members commands
proposes_same place a b i members commands same learned pending (inl told) =
    inl (subst (λ (l : Learned). IsToldCommandRun b members (front l.log) commands) (sym learned) (told_same a b members (front_of (a i)) commands same told))
proposes_same place a b i members commands same learned pending (inr own) =
    inr (
      own.0,
      own.1,
      (
        subst (λ (l : Learned). IsUnheld b members (front l.log)) (sym learned) (unheld_same a b members (front_of (a i)) same own.2.0),
        own_same place (b i) (a i) learned pending ∙ own.2.1,
      ),
    )
