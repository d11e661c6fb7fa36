use Rattle.std.proofs.Common.{◌≡◌, ℕ, ◌-◌, ◌<◌, ◌≤◌, List, length, drop, Some, None, sym, ap, ◌∙◌, subst, arith}
use Rattle.std.specs.Option.{option_map}
use Rattle.std.proofs.lemmas.List.{length-reverse}
use Rattle.game_def.specs.Game.{Game}
use Rattle.betting.specs.Legal.{Legal}
use Rattle.betting.specs.declared.action.Action.{Action}
use Rattle.slot_log.specs.Hand.{Hand}
use Rattle.slot_log.specs.Dealer.{hand_at}
use Rattle.matchstate.specs.Line.{line_text}
use Rattle.matchstate.specs.View.{view_of, position_of, last_hand}
use Rattle.line_cursor.proofs.PastFound.{none_dealt, none_there, none_so_far}
use Rattle.line_cursor.proofs.PastSeen.{line_there, line_seen, none_seen}
use Rattle.line_cursor.proofs.past.write_line_at.Goals as goal

pub returns-then-dealt-hand-clause-none : goal.returns-then-dealt-hand-clause-none
returns-then-dealt-hand-clause-none c = λ e.
    let table = c.args.table.now in
    let dealt = c.dealt.ensures.value in
    let more : length table.hands ≤ c.args.hand = omega arith in
    sym (none_seen table.game table.hands c.args.seat c.args.hand c.args.actions (none_dealt table.game table.hands c.args.seat c.args.hand c.args.actions more))

pub returns-in_default-clause-none : goal.returns-in_default-clause-none
returns-in_default-clause-none c = λ e.
    let table = c.args.table.now in
    let got : None ≡ option_map (λ found. found.deal) (hand_at table.hands c.args.hand) = c.in_default.ensures.value in
    sym (none_seen table.game table.hands c.args.seat c.args.hand c.args.actions (none_there table.game table.hands c.args.seat c.args.hand c.args.actions got))

pub returns-then-actions-clause-none : goal.returns-then-actions-clause-none
returns-then-actions-clause-none c = λ e.
    let table = c.args.table.now in
    let past = c.in-Some-play.play.now.past in
    let its_deal : Some c.in-Some.deal.now ≡ option_map (λ found. found.deal) (hand_at table.hands c.args.hand) = c.in-Some.ensures.value in
    let its_past : Some past ≡ option_map (λ found. found.past) (hand_at table.hands c.args.hand) = c.in-Some-play.ensures.value in
    let count : length c.actions.result.now ≡ length past = ap length c.actions.ensures.value ∙ length-reverse past in
    let few : length past < c.args.actions = omega arith in
    sym (none_seen table.game table.hands c.args.seat c.args.hand c.args.actions
    (none_so_far table.game table.hands c.args.seat c.args.hand c.args.actions c.in-Some.deal.now past its_deal its_past few))

pub returns-clause-told : goal.returns-clause-told
returns-clause-told c = λ e.
    let table = c.args.table.now in
    let hand = c.args.hand in
    let deal = c.in-Some.deal.now in
    let past = c.in-Some-play.play.now.past in
    let its_deal : Some deal ≡ option_map (λ found. found.deal) (hand_at table.hands hand) = c.in-Some.ensures.value in
    let its_past : Some past ≡ option_map (λ found. found.past) (hand_at table.hands hand) = c.in-Some-play.ensures.value in
    let count : length c.actions.result.now ≡ length past = ap length c.actions.ensures.value ∙ length-reverse past in
    let few : c.args.actions ≤ length past = omega arith in
    let cut : List Action = drop (length past - c.args.actions) past in
    let same : c.in-Some-play.play.now.game ≡ table.game = c.in-Some-play.ensures.game in
    let position = c.position_of-position.ensures.value ∙ ap (λ n. position_of n hand c.args.seat) (c.players.ensures.value ∙ ap (λ (g : Game). g.players) c.game.ensures) in
    let is = c.write_line_of.ensures ∙ ap (λ (g : Game). line_text (view_of g c.position_of-position.result hand (let h : Hand = record { deal = deal; past = cut } in h))) same in
    sym (line_there table.game table.hands c.args.seat hand c.args.actions deal past c.write_line_of.new.line c.position_of-position.result its_deal its_past few position is)

pub returns-clause-seen : goal.returns-clause-seen
returns-clause-seen c = λ e.
    let table = c.args.table.now in
    let hand = c.args.hand in
    let deal = c.in-Some.deal.now in
    let past = c.in-Some-play.play.now.past in
    let its_deal : Some deal ≡ option_map (λ found. found.deal) (hand_at table.hands hand) = c.in-Some.ensures.value in
    let its_past : Some past ≡ option_map (λ found. found.past) (hand_at table.hands hand) = c.in-Some-play.ensures.value in
    let count : length c.actions.result.now ≡ length past = ap length c.actions.ensures.value ∙ length-reverse past in
    let few : c.args.actions ≤ length past = omega arith in
    let cut : List Action = drop (length past - c.args.actions) past in
    let same : c.in-Some-play.play.now.game ≡ table.game = c.in-Some-play.ensures.game in
    let players : c.players.result ≡ table.game.players = c.players.ensures.value ∙ ap (λ (g : Game). g.players) c.game.ensures in
    let position = c.position_of-position.ensures.value ∙ ap (λ n. position_of n hand c.args.seat) players in
    let is = c.write_line_of.ensures ∙ ap (λ (g : Game). line_text (view_of g c.position_of-position.result hand (let h : Hand = record { deal = deal; past = cut } in h))) same in
    let below : c.position_of-position.result < table.game.players = subst (λ (n : ℕ). c.position_of-position.result < n) players c.position_of-position.ensures.below in
    let most = c.dealt.ensures.most in
    let numbered : hand ≤ last_hand = omega arith in
    let legal : Legal table.game past = subst (λ (g : Game). Legal g past) same c.actions.ensures.legal in
    line_seen table.game table.hands c.args.seat hand c.args.actions deal past c.write_line_of.new.line c.position_of-position.result its_deal its_past few position is below numbered legal c.in-Some.ensures.deal
