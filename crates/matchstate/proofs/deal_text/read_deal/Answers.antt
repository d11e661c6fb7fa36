use Rattle.std.proofs.Common.{◌≡◌, ℕ, List, Option, Some, None, IfSome, IsSomeAnd, ap, sym, ◌∙◌}
use Rattle.card_core.specs.Deal.{IsDeal}
use Rattle.matchstate.specs.Cards.{holes_of, boards_of, all_cards}
use Rattle.matchstate.proofs.Dealt.{all_of}
use Rattle.matchstate.proofs.deal_text.read_deal.Goals as goal

same_deal : (players : ℕ) (found : Option (List ℕ)) (deal : List ℕ) → IsDeal players deal → IfSome found (λ d. IsDeal players d) → IsSomeAnd found (λ d. (holes_of players d ≡ holes_of players deal) × (boards_of d ≡ boards_of deal)) → found ≡ Some deal
same_deal players None deal dealt other same = absurd same
same_deal players (Some found) deal dealt other same =
    ap Some (sym (all_of players found other) ∙ ap (λ h. all_cards h (boards_of found)) same.0 ∙ ap (all_cards (holes_of players deal)) same.1 ∙ all_of players deal dealt)

pub returns-clause-only : goal.returns-clause-only
returns-clause-only c =
    λ deal dealt is.
    same_deal c.args.players c.read_shown.result deal dealt c.read_shown.ensures.deal (c.read_shown.ensures.only deal dealt is)
