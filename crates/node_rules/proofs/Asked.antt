-- A question leaves the standing of the node that asks it, and shows nothing.
use Rattle.std.proofs.Common.{◌≡◌, ℕ, ◌⊎◌, inl, inr, [], Bool, true, false, if◌then◌else◌, refl, ap}
use Rattle.std.specs.Prelude.{nat_lt}
use Rattle.paxos_wire.specs.declared.message.Message.{Message as Wire}
use Rattle.paxos_wire.specs.declared.message.Message.TheVariants as frame
use Rattle.node_rules.specs.Standings.{Standing, front_of}
use Rattle.node_rules.specs.Sending.{one}
use Rattle.node_rules.specs.Turns.{Turn, still, sending}
use Rattle.node_rules.specs.Learning.{comes_to_window, asking_on}
use Rattle.node_rules.specs.Rules.{asking}

-- the turn asks for the front's slot, or nothing
abbrev pub IsQuestion : ℕ → Standing → Turn → Type 0
IsQuestion from s turn = (turn ≡ still s) ⊎ (turn ≡ sending (one from (frame.Ask (front_of s))) s)

question_if : (from : ℕ) (s : Standing) (b : Bool) → IsQuestion from s (if b then sending (one from (frame.Ask (front_of s))) s else still s)
question_if from s true = inr refl
question_if from s false = inl refl

pub question : (from : ℕ) (message : Wire) (s : Standing) → IsQuestion from s (asking from message s)
question from (frame.Prepare ballot slot) s = question_if from s (nat_lt (front_of s) slot)
question from (frame.Promise ballot slot told) s = inl refl
question from (frame.Refuse ballot slot promised) s = inl refl
question from (frame.Accept ballot slot commands) s = question_if from s (nat_lt (front_of s) slot)
question from (frame.Accepted ballot slot commands) s = question_if from s (nat_lt (front_of s) slot)
question from (frame.Chosen slot command) s = inl refl
question from (frame.Ask slot) s = inl refl
question from (frame.Forward command) s = inl refl

pub question_on : (from old : ℕ) (s : Standing) → IsQuestion from s (asking_on from old s)
question_on from old s = question_if from s (comes_to_window old (front_of s))

-- ---- what it leaves, and that it shows and tells nothing

question_after : (from : ℕ) (s : Standing) (turn : Turn) → IsQuestion from s turn → turn.after ≡ s
question_after from s turn (inl e) = ap (λ (t : Turn). t.after) e
question_after from s turn (inr e) = ap (λ (t : Turn). t.after) e

pub question_faults : (from : ℕ) (s : Standing) (turn : Turn) → IsQuestion from s turn → turn.faults ≡ []
question_faults from s turn (inl e) = ap (λ (t : Turn). t.faults) e
question_faults from s turn (inr e) = ap (λ (t : Turn). t.faults) e

pub asked_same : (from : ℕ) (message : Wire) (s : Standing) → (asking from message s).after ≡ s
asked_same from message s = question_after from s (asking from message s) (question from message s)

pub asked_on : (from old : ℕ) (s : Standing) → (asking_on from old s).after ≡ s
asked_on from old s = question_after from s (asking_on from old s) (question_on from old s)

pub asked_shown : (from : ℕ) (message : Wire) (s : Standing) → (asking from message s).shown ≡ []
asked_shown from message s = elim (question from message s) [ inl e ↦ ap (λ (t : Turn). t.shown) e | inr e ↦ ap (λ (t : Turn). t.shown) e ]
