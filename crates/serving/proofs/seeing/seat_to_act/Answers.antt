use Rattle.std.proofs.Common.{◌≡◌, ◌+◌, ◌%◌, length, Some, ap, ◌∙◌, arith}
use Rattle.std.specs.Option.{option_map}
use Rattle.game_def.specs.Game.{Game}
use Rattle.betting.specs.Rounds.{to_act, turns}
use Rattle.matchstate.specs.View.{seat_of}
use Rattle.serving.proofs.Sights.{acts_in}
use Rattle.serving.proofs.seeing.seat_to_act.Goals as goal

pub returns : goal.returns
returns c =
    let game = c.args.table.now.game in
    let hand = c.in_ok-hand.hand in
    let past = c.in_ok-play.play.now.past in
    let count : length c.args.table.now.hands ≡ hand + 1 = omega (arith, c.in_ok-hand.ensures, c.dealt.ensures.value) in
    let players : c.players-players.result ≡ game.players = c.players-players.ensures.value ∙ ap (λ (g : Game). g.players) c.in_ok-play.ensures.game in
    let acts : Some c.in_ok-position.position ≡ to_act game (turns game past) =
    c.in_ok-position.ensures.value ∙ ap (λ (g : Game). to_act g (turns g past)) c.in_ok-play.ensures.game in
    ap (λ n. Some ((c.in_ok-position.position + hand) % n)) players
    ∙ ap (option_map (seat_of game.players hand)) acts ∙ acts_in game c.args.table.now.hands hand past count c.in_ok-play.ensures.value
