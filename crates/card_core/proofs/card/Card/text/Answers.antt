use Rattle.std.proofs.Common.{◌≡◌, ◌<◌, rules, ◌∙◌}
use Rattle.card_core.specs.Card.{text_of}
use Rattle.card_core.proofs.card.Card.text.Goals as goal
use Rattle.card_core.proofs.Letters.{text_of-one}

pub returns-clause-one : goal.returns-clause-one
returns-clause-one c other below same =
    let range : c.args.self < 52 = search rules in
    let texts : text_of other ≡ text_of c.args.self = same ∙ search rules in
    text_of-one _ _ below range texts
