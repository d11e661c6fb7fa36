-- Frames whose messages have a frame.
use Rattle.std.proofs.Common.{◌≡◌, ℕ, ◌+◌, List, [], ◌++◌, refl, ap, sym, ◌∙◌, subst, inl, inr, add-one, eq-eqb, Bool, true, false}
use Rattle.std.specs.Prelude.{◌==◌, if◌then◌else◌, nat_lt}
use Rattle.std.proofs.lemmas.Bool.{ne_eqb}
use Rattle.paxos_wire.specs.Fits.{IsMessage}
use Rattle.paxos_wire.specs.declared.message.Message.{Message}
use Rattle.paxos_wire.specs.declared.message.Message.TheVariants.{Ask}
use Rattle.protocol_model.specs.Sets.{In}
use Rattle.protocol_model.proofs.Sets.{in_split}
use Rattle.protocol_model.specs.Stores.{Store}
use Rattle.node_rules.specs.Standings.{Place}
use Rattle.node_rules.specs.Sending.{Frame, one, to_first, to_others}
use Rattle.node_rules.specs.Rules.{asking_all}
use Rattle.dealer_node.specs.Fitting.{AreMessages}

pub no_messages : AreMessages []
no_messages = λ frame there. absurd there

one_said : (to : ℕ) (message : Message) → IsMessage message → (frame : Frame) → In frame (one to message) → IsMessage frame.message
one_said to message is frame (inl e) = subst (λ (f : Frame). IsMessage f.message) (sym e) is
one_said to message is frame (inr there) = absurd there

pub one_message : (to : ℕ) (message : Message) → IsMessage message → AreMessages (one to message)
one_message to message is = λ frame there. one_said to message is frame there

pub both_messages : (first next : List Frame) → AreMessages first → AreMessages next → AreMessages (first ++ next)
both_messages first next a b frame there = elim (in_split first next frame there) [ inl i ↦ a frame i | inr j ↦ b frame j ]

-- ---- to all nodes but one

pub one_more : (other node : ℕ) (message : Message) → to_first (other + 1) node message ≡ to_first other node message ++ (if other == node then [] else one other message)
unfolding to_first
one_more other node message = rw add-one refl

pub to_none : (node : ℕ) (message : Message) → AreMessages (to_first 0 node message)
unfolding to_first
to_none node message = no_messages

pub to_one_more : (other node : ℕ) (message : Message) → AreMessages (to_first other node message) → IsMessage message → (other ≡ node → ⊥) → AreMessages (to_first (other + 1) node message)
to_one_more other node message before is differ =
    let all : to_first (other + 1) node message ≡ to_first other node message ++ one other message =
    one_more other node message ∙ ap (λ b. to_first other node message ++ (if b then [] else one other message)) (ne_eqb other node differ) in
    subst (λ (fs : List Frame). AreMessages fs) (sym all) (both_messages (to_first other node message) (one other message) before (one_message other message is))

pub to_same : (other node : ℕ) (message : Message) → AreMessages (to_first other node message) → other ≡ node → AreMessages (to_first (other + 1) node message)
to_same other node message before same =
    let all : to_first (other + 1) node message ≡ to_first other node message ++ [] =
    one_more other node message ∙ ap (λ b. to_first other node message ++ (if b then [] else one other message)) (eq-eqb other node same) in
    subst (λ (fs : List Frame). AreMessages fs) (sym all) (both_messages (to_first other node message) [] before no_messages)

-- ---- the questions of a start

asks_by : (b : Bool) (frames : List Frame) → AreMessages frames → AreMessages (if b then frames else [])
asks_by true frames are = are
asks_by false frames are = no_messages

pub asks_fit : (place : Place) (found : Store) (nodes number : ℕ) → nodes ≡ place.nodes → number ≡ place.node → AreMessages (to_first nodes number (Ask 0)) → AreMessages (asking_all place found)
asks_fit place found nodes number many own are =
    asks_by (nat_lt 0 found.promise.round) (to_others place (Ask 0)) (subst (λ n. AreMessages (to_first place.nodes n (Ask 0))) own (subst (λ n. AreMessages (to_first n number (Ask 0))) many are))
