use Rattle.std.proofs.Common.{◌≡◌, take, Option, Some, None, IsSomeAnd, IfSome, sym, ap, ◌∙◌, subst}
use Rattle.match_log.specs.Reading.{Fields, AreOfHand}
use Rattle.match_log.proofs.States.{fields_apart}
use Rattle.match_log.proofs.state_fields.read_state.Goals as goal

pub returns-in_err-fields-clause-only : goal.returns-in_err-fields-clause-only
returns-in_err-fields-clause-only c =
    λ fields behind hand values by_position is of. absurd (c.in_err-fields.ensures.only fields behind (fields_apart c.args.game.now fields hand values by_position of) is)

some_both : {X : Type 0} (r : Option X) (P Q R : X → Type 0) → ((x : X) → P x → Q x → R x) → IsSomeAnd r P → IfSome r Q → IsSomeAnd r R
some_both None P Q R so p q = p
some_both (Some x) P Q R so p q = so x p q

pub returns-clause-only : goal.returns-clause-only
returns-clause-only c =
    λ fields behind hand values by_position is of.
    let same = c.in_ok-fields.ensures.only fields behind (fields_apart c.args.game.now fields hand values by_position of) is in
    let read = c.read_fields.ensures.only hand values by_position (subst (λ (f : Fields). AreOfHand c.args.game.now f hand values by_position) (sym same) of) in
    some_both c.read_fields.result (λ line. take c.args.game.now.players line.names ≡ by_position) _ (λ line. (line.number.now ≡ fields.number) × (take c.args.game.now.players line.names ≡ by_position))
    (λ line named kept. (kept.0 ∙ ap (λ (f : Fields). f.number) same, named)) read c.read_fields.ensures.same
