use Rattle.std.proofs.Common.{ℕ, List, ◌∷◌, ◌++◌, codes, ap, ◌∙◌}
use Rattle.line_cursor.proofs.naming.place_fields.Goals as goal

pub returns-clause-found : goal.returns-clause-found
returns-clause-found c =
    let position = c.in_ok-rest-2.field-0-0.now in
    let hand = c.in_ok-hand.hand.now in
    let betting = c.in_ok-betting.betting.now in
    record {
      position = position;
      cards = c.in_ok-betting.field-0-1.now;
      whole = c.in_ok-rest.ensures.found
          ∙ ap (λ (l : List ℕ). codes "MATCHSTATE:" ++ l) (c.in_ok-rest-2.ensures.found.0
          ∙ ap (λ (l : List ℕ). position ++ 58 ∷ l) (c.in_ok-hand.ensures.found.0
          ∙ ap (λ (l : List ℕ). hand ++ 58 ∷ l) c.in_ok-betting.ensures.found.0));
      position_field = c.in_ok-rest-2.ensures.found.1;
      hand_field = c.in_ok-hand.ensures.found.1;
      betting_field = c.in_ok-betting.ensures.found.1;
    }
