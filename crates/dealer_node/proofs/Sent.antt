-- Frames to all nodes but one.
use Rattle.std.proofs.Common.{◌≡◌, ℕ, ◌+◌, List, [], ◌++◌, refl, ap, sym, ◌∙◌, append_assoc, eq-eqb}
use Rattle.std.specs.Prelude.{map, if◌then◌else◌}
use Rattle.std.proofs.lemmas.Bool.{ne_eqb}
use Rattle.std.proofs.lemmas.List.{map-append, append-nil}
use Rattle.paxos_wire.specs.declared.message.Message.{Message}
use Rattle.node_rules.specs.Sending.{one, to_first}
use Rattle.dealer_node.specs.Texts.{Marked}
use Rattle.dealer_node.specs.Turned.{framed}
use Rattle.dealer_node.proofs.Messages.{one_more}

pub to_none : (node : ℕ) (message : Message) → map framed (to_first 0 node message) ≡ []
unfolding to_first
to_none node message = refl

-- the next node gets one
pub sent_on : (old texts new : List (Marked ℕ)) (other node : ℕ) (message : Message) → texts ≡ old ++ map framed (to_first other node message) → new ≡ texts ++ map framed (one other message)
    → (other ≡ node → ⊥) → new ≡ old ++ map framed (to_first (other + 1) node message)
sent_on old texts new other node message before e differ =
    let all : to_first (other + 1) node message ≡ to_first other node message ++ one other message =
    one_more other node message ∙ ap (λ b. to_first other node message ++ (if b then [] else one other message)) (ne_eqb other node differ) in
    e ∙ ap (λ t. t ++ map framed (one other message)) before ∙ append_assoc old (map framed (to_first other node message)) (map framed (one other message))
    ∙ ap (λ t. old ++ t) (sym (map-append framed (to_first other node message) (one other message)) ∙ ap (map framed) (sym all))

-- and the node itself none
pub kept_on : (old texts new : List (Marked ℕ)) (other node : ℕ) (message : Message) → texts ≡ old ++ map framed (to_first other node message) → new ≡ texts
    → other ≡ node → new ≡ old ++ map framed (to_first (other + 1) node message)
kept_on old texts new other node message before e same =
    let all : to_first (other + 1) node message ≡ to_first other node message =
    one_more other node message ∙ ap (λ b. to_first other node message ++ (if b then [] else one other message)) (eq-eqb other node same) ∙ append-nil (to_first other node message) in
    e ∙ before ∙ ap (λ t. old ++ map framed t) (sym all)
