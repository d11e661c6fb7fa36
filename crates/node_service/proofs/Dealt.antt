-- The hands of a table, the oldest first, have deals.
use Rattle.std.proofs.Common.{◌≡◌, ℕ, ◌+◌, ◌<◌, List, [], Option, Some, None, sym, ap, subst, ◌∙◌, arith, length, reverse, get_or}
use Rattle.std.specs.Prelude.{IfSome}
use Rattle.std.specs.List.{AllByRecursion}
use Rattle.std.specs.Option.{option_map}
use Rattle.std.proofs.lemmas.List.{length-reverse}
use Rattle.std.proofs.lemmas.Option.{slice_get-get_or}
use Rattle.card_core.specs.Deal.{IsDeal}
use Rattle.slot_log.specs.Hand.{Hand}
use Rattle.slot_log.specs.Dealer.{hand_at}
use Rattle.match_log.proofs.Tallies.{older, older_more}

-- the deal is one for so many players
abbrev pub IsDealt : ℕ → Hand → Type 0
IsDealt players hand = IsDeal players hand.deal

pub dealt_of : {X : Type 0} (cards : X → List ℕ) (players : ℕ) (result : Option X) → IfSome result (λ (deal : X). IsDeal players (cards deal)) → IfSome (option_map cards result) (IsDeal players)
dealt_of cards players None is = tt
dealt_of cards players (Some deal) is = is

-- one hand more
pub dealt_on : (players : ℕ) (hands : List Hand) (number : ℕ) (deal : Option (List ℕ)) → number < length hands → deal ≡ option_map (λ (found : Hand). found.deal) (hand_at hands number)
    → IfSome deal (IsDeal players) → AllByRecursion (IsDealt players) (older hands number) → AllByRecursion (IsDealt players) (older hands (number + 1))
dealt_on players hands number deal within read is before =
    let count = length-reverse hands in
    let found : Hand = get_or (reverse hands) number (record { deal = []; past = [] }) in
    let there : hand_at hands number ≡ Some found = slice_get-get_or (reverse hands) number (record { deal = []; past = [] }) (omega (arith, count)) in
    subst (AllByRecursion (IsDealt players)) (sym (older_more hands number found within there))
    (subst (λ (o : Option (List ℕ)). IfSome o (IsDeal players)) (read ∙ ap (option_map (λ (h : Hand). h.deal)) there) is, before)
