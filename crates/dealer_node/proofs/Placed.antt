-- The place of a node, from its member.
use Rattle.std.proofs.Common.{◌≡◌, ℕ, List, length, ap, ◌∙◌}
use mathlib.Core.Path.{fun_ext}
use Rattle.std.specs.Prelude.{Option, slice_get}
use Rattle.dealer_kind.specs.Kind.{Setting}
use Rattle.dealer_kind.specs.Plans.{Plan}
use Rattle.dealer_kind.specs.Sources.{deal_of}
use Rattle.node_rules.specs.Standings.{Place, place_of, deals_from}
use Rattle.dealer_node.specs.Members.{Membership, place_at}

abbrev place_with : Setting → ℕ → ℕ → (ℕ → Option (List ℕ)) → Place
place_with setting nodes node deals = record { setting = setting; nodes = nodes; node = node; deals = deals }

same_place : (a b : Setting) (m n i j : ℕ) (d e : ℕ → Option (List ℕ)) → a ≡ b → m ≡ n → i ≡ j → d ≡ e → place_with a m i d ≡ place_with b n j e
same_place a b m n i j d e p q r s = ap (λ x. place_with x m i d) p ∙ ap (λ x. place_with b x i d) q ∙ ap (λ x. place_with b n x d) r ∙ ap (place_with b n j) s

pub placed : (member : Membership) (plan : Plan) (node : ℕ) → member.setting ≡ plan.setting → member.nodes ≡ length plan.sources → member.node ≡ node
    → ((hand : ℕ) → deal_of plan.setting.game.players member.source hand ≡ deals_from plan.setting.game.players (slice_get plan.sources node) hand) → place_at member ≡ place_of plan node
placed member plan node a b c d =
    same_place member.setting plan.setting member.nodes (length plan.sources) member.node node _ _ a b c
    (fun_ext (λ hand. ap (λ (s : Setting). deal_of s.game.players member.source hand) a ∙ d hand))
