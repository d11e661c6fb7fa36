use Rattle.std.proofs.Common.{◌≡◌, ◌+◌, ◌*◌, true, false, nat_eq, length, take, ap, sym, subst, ◌∙◌, rules}
use Rattle.std.specs.List.{IsDistinct}
use Rattle.matchstate.specs.Cards.{cards_field, holes_of, boards_of, all_cards}
use Rattle.matchstate.specs.SeenCards.{holes_in, boards_in}
use Rattle.matchstate.proofs.Shown.{shown_counted, shown_from_filled}
use Rattle.matchstate.proofs.Missing.{missing}
use Rattle.matchstate.proofs.deal_text.read_shown.Goals as goal

pub returns-in_err-seen-clause-only : goal.returns-in_err-seen-clause-only
returns-in_err-seen-clause-only c =
    λ deal dealt is.
    let shown = shown_counted c.args.players c.args.rounds deal c.requires.most dealt in
    absurd (missing _ c.in_err-seen.was
    (c.read_seen.ensures.only (holes_of c.args.players deal) (take c.args.rounds (boards_of deal)) shown.0 is))

pub returns-in-Ok-clause-found : goal.returns-in-Ok-clause-found
returns-in-Ok-clause-found c =
    let seen = c.in_ok-seen.seen in
    let again = shown_from_filled c.args.players c.args.rounds c.gather-cards.result.1 (holes_in c.args.players seen) (boards_in seen) c.gather-cards.result.0 c.fill_up.new.cards c.in-Ok.deal
    c.requires.most c.requires.rounds c.in_ok-seen.ensures.counted c.gather-cards.ensures.value c.fill_up.ensures.kept (search rules) c.in-Ok.ensures.value (ap length c.in-Ok.ensures.value ∙ c.in-Ok.ensures.deal.count) in
    c.in_ok-seen.ensures.found ∙ ap (λ h. cards_field h (boards_in seen)) (sym again.0) ∙ ap (cards_field (holes_of c.args.players c.in-Ok.deal)) (sym again.1)

pub returns-in-Ok-clause-only : goal.returns-in-Ok-clause-only
returns-in-Ok-clause-only c =
    λ deal dealt is.
    let seen = c.in_ok-seen.seen in
    let shown = shown_counted c.args.players c.args.rounds deal c.requires.most dealt in
    let same = c.in_ok-seen.ensures.only (holes_of c.args.players deal) (take c.args.rounds (boards_of deal)) shown.0 is in
    let again = shown_from_filled c.args.players c.args.rounds c.gather-cards.result.1 (holes_in c.args.players seen) (boards_in seen) c.gather-cards.result.0 c.fill_up.new.cards c.in-Ok.deal
    c.requires.most c.requires.rounds c.in_ok-seen.ensures.counted c.gather-cards.ensures.value c.fill_up.ensures.kept (search rules) c.in-Ok.ensures.value (ap length c.in-Ok.ensures.value ∙ c.in-Ok.ensures.deal.count) in
    (again.0 ∙ same.0, again.1 ∙ same.1)

pub returns-in-Err-clause-only : goal.returns-in-Err-clause-only
returns-in-Err-clause-only c =
    λ deal dealt is.
    let seen = c.in_ok-seen.seen in
    let shown = shown_counted c.args.players c.args.rounds deal c.requires.most dealt in
    let same = c.in_ok-seen.ensures.only (holes_of c.args.players deal) (take c.args.rounds (boards_of deal)) shown.0 is in
    let cards : take c.gather-cards.result.1 c.gather-cards.result.0 ≡ all_cards (holes_of c.args.players deal) (take c.args.rounds (boards_of deal)) =
    c.gather-cards.ensures.value ∙ ap (λ h. all_cards h (boards_in seen)) same.0 ∙ ap (λ b. all_cards (holes_of c.args.players deal) b) same.1 in
    let filled : IsDistinct nat_eq (take (2 * c.args.players + 5) c.fill_up.new.cards) = c.fill_up.ensures.distinct (subst (IsDistinct nat_eq) (sym cards) shown.1) in
    let clash : false ≡ true = c.in-Err.ensures.ok.1 (search rules, filled) in
    cc
