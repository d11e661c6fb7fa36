use Rattle.std.proofs.Common.{◌≡◌, true, sym, subst, ◌∙◌}
use Rattle.std.specs.Prelude.{is_none}
use Rattle.slot_log.specs.Dealer.{reason_of, hands_of, with_command}
use Rattle.slot_log.specs.declared.command.Command.{Command}
use Rattle.node_service.specs.Acts.{IsNewestOf}
use Rattle.node_service.proofs.Acting.{untaken, taken, dealt_more, act_fits, away_fits}
use Rattle.node_service.proofs.newest_hand.NewestHand.take.Goals as goal

pub returns-then-not-fits-clause-by : goal.returns-then-not-fits-clause-by
returns-then-not-fits-clause-by c =
    λ commands is.
    let old = c.args.self.now in
    let are = c.commands_make_hands.ensures old.game old.count commands in
    untaken old commands c.args.command.now (sym (c.fits.ensures (hands_of old.game old.count commands) are is) ∙ c.if-not-fits.true) is

pub returns-in-Deal-clause-by : goal.returns-in-Deal-clause-by
returns-in-Deal-clause-by c =
    λ commands is.
    let old = c.args.self.now in
    let are = c.commands_make_hands.ensures old.game old.count commands in
    dealt_more old commands c.args.command.now c.in-Deal.hand c.in-Deal.deal c.in-Deal.is old.most are (sym (c.fits.ensures (hands_of old.game old.count commands) are is) ∙ c.if-not-fits.false) is c.deal.new.self c.deal.ensures

pub returns-in-Act-clause-by : goal.returns-in-Act-clause-by
returns-in-Act-clause-by c =
    λ commands is.
    let old = c.args.self.now in
    let hands = hands_of old.game old.count commands in
    let are = c.commands_make_hands.ensures old.game old.count commands in
    let fits = sym (c.fits.ensures hands are is) ∙ c.if-not-fits.false in
    let its = act_fits old.game old.count hands c.in-Act.hand c.in-Act.index c.in-Act.action (subst (λ (x : Command). is_none (reason_of old.game old.count hands x) ≡ true) c.in-Act.is fits) in
    taken c.act.new.self old.game old.count commands c.args.command.now c.act.ensures.game c.act.ensures.count fits
    (subst (λ (x : Command). IsNewestOf c.act.new.self (with_command old.game hands x)) (sym c.in-Act.is) (c.act.ensures.plays hands c.in-Act.hand c.in-Act.index is its))

pub returns-in-Away-clause-by : goal.returns-in-Away-clause-by
returns-in-Away-clause-by c =
    λ commands is.
    let old = c.args.self.now in
    let hands = hands_of old.game old.count commands in
    let are = c.commands_make_hands.ensures old.game old.count commands in
    let fits = sym (c.fits.ensures hands are is) ∙ c.if-not-fits.false in
    let its = away_fits old.game old.count hands c.in-Away.hand c.in-Away.index (subst (λ (x : Command). is_none (reason_of old.game old.count hands x) ≡ true) c.in-Away.is fits) in
    let same = c.away_action.ensures hands is in
    taken c.act-in-Away.new.self old.game old.count commands c.args.command.now c.act-in-Away.ensures.game c.act-in-Away.ensures.count fits
    (subst (λ (x : Command). IsNewestOf c.act-in-Away.new.self (with_command old.game hands x)) (sym c.in-Away.is)
    (rw (← same) (c.act-in-Away.ensures.plays hands c.in-Away.hand c.in-Away.index is (rw same its))))
