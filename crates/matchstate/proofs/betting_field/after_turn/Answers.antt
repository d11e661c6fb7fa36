use Rattle.std.proofs.Common.{◌≡◌, List, ℕ, ◌++◌, replicate, Option, Some, None, IfSome, ap, ◌∙◌}
use Rattle.std.specs.Borrow.{Bor}
use Rattle.betting.specs.Text.{action_text}
use Rattle.matchstate.proofs.Missing.{missing}
use Rattle.matchstate.proofs.betting_field.after_turn.Goals as goal

behind_front : (r : Option (Bor (List ℕ))) (bytes front rest slashes : List ℕ) → bytes ≡ front ++ rest → IfSome r (λ x. rest ≡ slashes ++ x.now) → IfSome r (λ x. bytes ≡ front ++ (slashes ++ x.now))
behind_front None bytes front rest slashes whole stood = tt
behind_front (Some x) bytes front rest slashes whole stood = whole ∙ ap (λ t. front ++ t) stood

pub returns-in_err-rest-clause-only : goal.returns-in_err-rest-clause-only
returns-in_err-rest-clause-only c = λ behind is. absurd (missing _ c.in_err-rest.was (c.after_action.ensures.only _ is))

pub returns-clause-found : goal.returns-clause-found
returns-clause-found c =
    behind_front c.after_slashes.result c.args.bytes.now (action_text c.args.game.now c.args.action) c.in_ok-rest.rest.now (replicate c.args.slashes 47) c.in_ok-rest.ensures.found c.after_slashes.ensures.found

pub returns-clause-only : goal.returns-clause-only
returns-clause-only c = λ behind is. c.after_slashes.ensures.only behind (c.in_ok-rest.ensures.only (replicate c.args.slashes 47 ++ behind) is)
