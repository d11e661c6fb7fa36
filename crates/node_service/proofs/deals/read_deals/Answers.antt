use Rattle.std.proofs.Common.{◌≡◌, ◌<◌, length, sym, ◌∙◌, ap, subst, arith}
use Rattle.std.specs.List.{AllByRecursion}
use Rattle.match_log.proofs.Tallies.{older, older_none, older_all}
use Rattle.node_service.proofs.Dealt.{IsDealt, dealt_of, dealt_on}
use Rattle.node_service.proofs.deals.read_deals.Goals as goal

pub loop-hand-init : goal.loop-hand-init
loop-hand-init c = subst (AllByRecursion (IsDealt c.args.table.now.game.players)) (sym (older_none c.args.table.now.hands)) tt

pub loop-hand-preserved : goal.loop-hand-preserved
loop-hand-preserved c =
    let within : c.loop-hand.hand < length c.args.table.now.hands = omega (arith, c.dealt-hand-end.ensures.value) in
    dealt_on c.args.table.now.game.players c.args.table.now.hands c.loop-hand.hand _ within c.deal.ensures.value (dealt_of _ c.args.table.now.game.players c.deal.result c.deal.ensures.deal) c.loop-hand.invariant

pub returns : goal.returns
returns c =
    let all : c.loop-hand.hand ≡ length c.args.table.now.hands = omega (arith, c.dealt-hand-end.ensures.value) in
    subst (AllByRecursion (IsDealt c.args.table.now.game.players)) (ap (older c.args.table.now.hands) all ∙ older_all c.args.table.now.hands) c.loop-hand.invariant
