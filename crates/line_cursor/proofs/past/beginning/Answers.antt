use Rattle.std.proofs.Common.{◌≡◌, ℕ, ◌<◌, ◌≤◌, List, reverse, length, take, get_or, sym, ap, ◌∙◌, subst, arith}
use Rattle.std.proofs.lemmas.List.{get_or-take, length-take-le, length-reverse}
use Rattle.betting.specs.declared.action.Action.{Action}
use Rattle.betting.specs.declared.action.Action.TheVariants.{Fold}
use Rattle.betting.specs.Betting.{Betting, history}
use Rattle.betting.specs.Legal.{CanAct}
use Rattle.line_cursor.proofs.PastPlay.{first_actions, next_allowed}
use Rattle.line_cursor.proofs.past.beginning.Goals as goal

pub take_action-requires : goal.take_action-requires
take_action-requires c =
    let play = c.args.play.now in
    let value : c.actions.result.now ≡ reverse play.past = c.actions.ensures.value in
    let many : length (reverse play.past) ≡ length play.past = length-reverse play.past in
    let index : ℕ = c.loop-action.action-index in
    let few : c.args.count ≤ length c.actions.result.now = let e = ap length value in omega arith in
    let long : length (take c.args.count c.actions.result.now) ≡ c.args.count = length-take-le c.args.count c.actions.result.now few in
    let less : index < c.args.count = omega arith in
    let within : index < length (reverse play.past) = omega arith in
    let action : get_or (take c.args.count c.actions.result.now) index Fold ≡ get_or (reverse play.past) index Fold =
    get_or-take c.args.count c.actions.result.now index Fold less ∙ ap (λ (l : List Action). get_or l index Fold) value in
    let allowed = next_allowed play.game play.past index c.actions.ensures.legal within in
    subst (λ (b : Betting). CanAct b.game (history b) (get_or (take c.args.count c.actions.result.now) index Fold)) (sym c.loop-action.invariant)
    (subst (λ (a : Action). CanAct play.game (history (let b : Betting = record { game = play.game; past = reverse (take index (reverse play.past)) } in b)) a) (sym action) allowed)

pub returns : goal.returns
returns c =
    let play = c.args.play.now in
    let value : c.actions.result.now ≡ reverse play.past = c.actions.ensures.value in
    let many : length (reverse play.past) ≡ length play.past = length-reverse play.past in
    let few : c.args.count ≤ length c.actions.result.now = let e = ap length value in omega arith in
    let long : length (take c.args.count c.actions.result.now) ≡ c.args.count = length-take-le c.args.count c.actions.result.now few in
    let all : c.loop-action.action-index ≡ c.args.count = omega arith in
    c.loop-action.invariant
    ∙ (ap (λ (n : ℕ). let b : Betting = record { game = play.game; past = reverse (take n (reverse play.past)) } in b) all
    ∙ ap (λ (l : List Action). let b : Betting = record { game = play.game; past = l } in b) (first_actions play.past c.args.count c.requires))
