-- The messages of a command run are those of its slots.
use Rattle.std.proofs.Common.{◌≡◌, ◌≢◌, ℕ, suc, ◌+◌, ◌-◌, ◌<◌, ◌≤◌, ◌⊎◌, ◌↔◌, ◌==◌, inl, inr, true, false, Some, List, [], ◌∷◌, length, slice_get, refl, sym, ap, subst, ◌∙◌, arith}
use Rattle.std.proofs.lemmas.Bool.Decides.{eqb_tells}
use Rattle.std.proofs.lemmas.Option.{same_Some}
use Rattle.paxos_wire.specs.declared.ballot.Ballot.{Ballot}
use Rattle.slot_log.specs.declared.command.Command.{Command}
use Rattle.protocol_model.specs.Sets.{In}
use Rattle.protocol_model.specs.Messages.{Message, Accept, Accepted}
use Rattle.protocol_model.specs.Frames.{proposals, answers}

-- what is made of each command and its slot, the first slot being this one
abbrev numbered : (ℕ → Command → Message) → ℕ → List Command → List Message
numbered make slot [] = []
numbered make slot (command ∷ later) = make slot command ∷ numbered make (slot + 1) later

proposals_are : (ballot : Ballot) (slot : ℕ) (commands : List Command) → proposals ballot slot commands ≡ numbered (Accept ballot) slot commands
proposals_are ballot slot [] = refl
proposals_are ballot slot (command ∷ later) = ap (λ l. Accept ballot slot command ∷ l) (proposals_are ballot (slot + 1) later)

answers_are : (sender : ℕ) (ballot : Ballot) (slot : ℕ) (commands : List Command) → answers sender ballot slot commands ≡ numbered (Accepted sender ballot) slot commands
answers_are sender ballot slot [] = refl
answers_are sender ballot slot (command ∷ later) = ap (λ l. Accepted sender ballot slot command ∷ l) (answers_are sender ballot (slot + 1) later)

-- the command has a place in the command run, and the slot k belongs to it
record Placed (slot : ℕ) (commands : List Command) (k : ℕ) (command : Command) : Type 0 where
  pub low : slot ≤ k
  pub high : k < slot + length commands
  pub here : slice_get commands (k - slot) ≡ Some command

later_placed : (slot : ℕ) (first : Command) (later : List Command) (k : ℕ) (command : Command) → Placed (slot + 1) later k command → Placed slot (first ∷ later) k command
later_placed slot first later k command p =
    let l = p.low in
    let h = p.high in
    let one : k - slot ≡ suc (k - (slot + 1)) = omega arith in
    record { low = omega arith; high = omega arith; here = ap (slice_get (first ∷ later)) one ∙ p.here }

in_numbered : (make : ℕ → Command → Message) (slot : ℕ) (commands : List Command) (message : Message) → In message (numbered make slot commands)
    → (k : ℕ) × (command : Command) × (message ≡ make k command) × Placed slot commands k command
in_numbered make slot [] message h = absurd h
in_numbered make slot (first ∷ later) message (inl e) =
    let none : slot - slot ≡ 0 = omega arith in
    (slot, first, e, record { low = omega arith; high = omega arith; here = ap (slice_get (first ∷ later)) none })
in_numbered make slot (first ∷ later) message (inr h) = let t = in_numbered make (slot + 1) later message h in (t.0, t.1, t.2, later_placed slot first later t.0 t.1 t.3)

-- it is the first command's slot, or one behind
numbered_step : (make : ℕ → Command → Message) (slot : ℕ) (first : Command) (later : List Command) (k : ℕ) (command : Command) → slot ≤ k
    → slice_get (first ∷ later) (k - slot) ≡ Some command
    → (slot + 1 ≤ k → slice_get later (k - (slot + 1)) ≡ Some command → In (make k command) (numbered make (slot + 1) later))
    → ((k == slot) ≡ true) × (k ≡ slot) ⊎ ((k == slot) ≡ false) × (k ≢ slot) → In (make k command) (numbered make slot (first ∷ later))
numbered_step make slot first later k command low here behind (inl same) =
    let is = same.1 in
    let none : 0 ≡ k - slot = omega (arith, is) in
    let one : first ≡ command = same_Some first command (ap (slice_get (first ∷ later)) none ∙ here) in
    inl (λ i. make (is i) (sym one i))
numbered_step make slot first later k command low here behind (inr other) =
    let ne = other.1 in
    let one : suc (k - (slot + 1)) ≡ k - slot = omega (arith, ne) in
    inr (behind (omega (arith, ne)) (ap (slice_get (first ∷ later)) one ∙ here))

numbered_in : (make : ℕ → Command → Message) (slot : ℕ) (commands : List Command) (k : ℕ) (command : Command) → slot ≤ k
    → slice_get commands (k - slot) ≡ Some command → In (make k command) (numbered make slot commands)
numbered_in make slot [] k command low here = absurd (cc)
numbered_in make slot (first ∷ later) k command low here =
    numbered_step make slot first later k command low here (λ above at. numbered_in make (slot + 1) later k command above at) (eqb_tells k slot)

-- ---- proposals, and answers

placed_as : (slot : ℕ) (commands : List Command) (k j : ℕ) (command other : Command) → j ≡ k → other ≡ command → Placed slot commands k command → Placed slot commands j other
placed_as slot commands k j command other at same p = subst (λ (c : Command). Placed slot commands j c) (sym same) (subst (λ (x : ℕ). Placed slot commands x command) (sym at) p)

pub proposals_carry : (ballot other : Ballot) (slot k : ℕ) (command : Command) (commands : List Command)
    → In (Accept other k command) (proposals ballot slot commands)
    ↔ (other ≡ ballot) × (slot ≤ k) × (k < slot + length commands) × (slice_get commands (k - slot) ≡ Some command)
proposals_carry ballot other slot k command commands = (there, back)
  where
    there : In (Accept other k command) (proposals ballot slot commands)
        → (other ≡ ballot) × (slot ≤ k) × (k < slot + length commands) × (slice_get commands (k - slot) ≡ Some command)
    there h =
        let t = in_numbered (Accept ballot) slot commands (Accept other k command) (subst (In (Accept other k command)) (proposals_are ballot slot commands) h) in
        let e = t.2 in
        let its : other ≡ ballot = cc in
        let at : k ≡ t.0 = cc in
        let same : command ≡ t.1 = cc in
        let p = placed_as slot commands t.0 k t.1 command at same t.3 in
        (its, p.low, p.high, p.here)

    back : (other ≡ ballot) × (slot ≤ k) × (k < slot + length commands) × (slice_get commands (k - slot) ≡ Some command)
        → In (Accept other k command) (proposals ballot slot commands)
    back h =
        subst (In (Accept other k command)) (sym (proposals_are ballot slot commands))
        (subst (λ (b : Ballot). In (Accept b k command) (numbered (Accept ballot) slot commands)) (sym h.0) (numbered_in (Accept ballot) slot commands k command h.1 h.3))

pub only_proposals : (ballot : Ballot) (slot : ℕ) (commands : List Command) (message : Message) → In message (proposals ballot slot commands)
    → (k : ℕ) × (command : Command) × (message ≡ Accept ballot k command)
only_proposals ballot slot commands message h =
    let t = in_numbered (Accept ballot) slot commands message (subst (In message) (proposals_are ballot slot commands) h) in (t.0, t.1, t.2)

pub answers_carry : (sender from : ℕ) (ballot other : Ballot) (slot k : ℕ) (command : Command) (commands : List Command)
    → In (Accepted from other k command) (answers sender ballot slot commands)
    ↔ (from ≡ sender) × (other ≡ ballot) × (slot ≤ k) × (k < slot + length commands) × (slice_get commands (k - slot) ≡ Some command)
answers_carry sender from ballot other slot k command commands = (there, back)
  where
    there : In (Accepted from other k command) (answers sender ballot slot commands)
        → (from ≡ sender) × (other ≡ ballot) × (slot ≤ k) × (k < slot + length commands) × (slice_get commands (k - slot) ≡ Some command)
    there h =
        let t = in_numbered (Accepted sender ballot) slot commands (Accepted from other k command) (subst (In (Accepted from other k command)) (answers_are sender ballot slot commands) h) in
        let e = t.2 in
        let who : from ≡ sender = cc in
        let its : other ≡ ballot = cc in
        let at : k ≡ t.0 = cc in
        let same : command ≡ t.1 = cc in
        let p = placed_as slot commands t.0 k t.1 command at same t.3 in
        (who, its, p.low, p.high, p.here)

    back : (from ≡ sender) × (other ≡ ballot) × (slot ≤ k) × (k < slot + length commands) × (slice_get commands (k - slot) ≡ Some command)
        → In (Accepted from other k command) (answers sender ballot slot commands)
    back h =
        subst (In (Accepted from other k command)) (sym (answers_are sender ballot slot commands))
        (subst (λ (f : ℕ). In (Accepted f other k command) (numbered (Accepted sender ballot) slot commands)) (sym h.0)
        (subst (λ (b : Ballot). In (Accepted sender b k command) (numbered (Accepted sender ballot) slot commands)) (sym h.1)
        (numbered_in (Accepted sender ballot) slot commands k command h.2 h.4)))

pub only_answers : (sender : ℕ) (ballot : Ballot) (slot : ℕ) (commands : List Command) (message : Message) → In message (answers sender ballot slot commands)
    → (k : ℕ) × (command : Command) × (message ≡ Accepted sender ballot k command)
only_answers sender ballot slot commands message h =
    let t = in_numbered (Accepted sender ballot) slot commands message (subst (In message) (answers_are sender ballot slot commands) h) in (t.0, t.1, t.2)

-- ---- one for each command

pub as_many_proposals : (ballot : Ballot) (slot : ℕ) (commands : List Command) → length (proposals ballot slot commands) ≡ length commands
as_many_proposals ballot slot [] = refl
as_many_proposals ballot slot (command ∷ later) = ap suc (as_many_proposals ballot (slot + 1) later)

pub as_many_answers : (sender : ℕ) (ballot : Ballot) (slot : ℕ) (commands : List Command) → length (answers sender ballot slot commands) ≡ length commands
as_many_answers sender ballot slot [] = refl
as_many_answers sender ballot slot (command ∷ later) = ap suc (as_many_answers sender ballot (slot + 1) later)
