use Rattle.std.proofs.Common.{◌≡◌, ◌∙◌, ℕ, List, sym, ap, subst, arith}
use Rattle.card_core.specs.Deal.{IsDeal}
use Rattle.betting.specs.Betting.{Betting}
use Rattle.betting.specs.Rounds.{current_round, turns}
use Rattle.matchstate.specs.Cards.{holes_of, board_shown, shown_text}
use Rattle.matchstate.specs.View.{rounds_seen}
use Rattle.luck.proofs.Lined.{fields_of}
use Rattle.luck.proofs.reading.read_hand.Goals as goal

pub returns-in_err-line : goal.returns-in_err-line
returns-in_err-line c = λ names number hand behind are played is.
    let fields = fields_of c.args.game.now names number hand c.args.bytes.now behind (omega (arith, c.players-players.ensures.value, c.players-players.ensures.least)) are is in
    absurd (c.in_err-line.ensures _ fields.whole)

pub returns-in_err-_number : goal.returns-in_err-_number
returns-in_err-_number c = λ names number hand behind are played is.
    let fields = fields_of c.args.game.now names number hand c.args.bytes.now behind (omega (arith, c.players-players.ensures.value, c.players-players.ensures.least)) are is in
    absurd (c.in_err-_number.ensures.only _ _ fields.number_ends (c.in_ok-line.ensures _ fields.whole))

pub returns-in_err-betting : goal.returns-in_err-betting
returns-in_err-betting c = λ names number hand behind are played is.
    let fields = fields_of c.args.game.now names number hand c.args.bytes.now behind (omega (arith, c.players-players.ensures.value, c.players-players.ensures.least)) are is in
    let first = c.in_ok-_number.ensures.only _ _ fields.number_ends (c.in_ok-line.ensures _ fields.whole) in
    absurd (c.in_err-betting.ensures.only _ _ fields.betting_ends first.1)

pub returns-in_err-cards : goal.returns-in_err-cards
returns-in_err-cards c = λ names number hand behind are played is.
    let fields = fields_of c.args.game.now names number hand c.args.bytes.now behind (omega (arith, c.players-players.ensures.value, c.players-players.ensures.least)) are is in
    let first = c.in_ok-_number.ensures.only _ _ fields.number_ends (c.in_ok-line.ensures _ fields.whole) in
    let second = c.in_ok-betting.ensures.only _ _ fields.betting_ends first.1 in
    absurd (c.in_err-cards.ensures.only _ _ fields.cards_end second.1)

pub returns-in_err-_values : goal.returns-in_err-_values
returns-in_err-_values c = λ names number hand behind are played is.
    let fields = fields_of c.args.game.now names number hand c.args.bytes.now behind (omega (arith, c.players-players.ensures.value, c.players-players.ensures.least)) are is in
    let first = c.in_ok-_number.ensures.only _ _ fields.number_ends (c.in_ok-line.ensures _ fields.whole) in
    let second = c.in_ok-betting.ensures.only _ _ fields.betting_ends first.1 in
    let third = c.in_ok-cards.ensures.only _ _ fields.cards_end second.1 in
    absurd (c.in_err-_values.ensures.only _ _ fields.values_end third.1)

pub returns-in_err-names : goal.returns-in_err-names
returns-in_err-names c = λ names number hand behind are played is.
    let fields = fields_of c.args.game.now names number hand c.args.bytes.now behind (omega (arith, c.players-players.ensures.value, c.players-players.ensures.least)) are is in
    let first = c.in_ok-_number.ensures.only _ _ fields.number_ends (c.in_ok-line.ensures _ fields.whole) in
    let second = c.in_ok-betting.ensures.only _ _ fields.betting_ends first.1 in
    let third = c.in_ok-cards.ensures.only _ _ fields.cards_end second.1 in
    let fourth = c.in_ok-_values.ensures.only _ _ fields.values_end third.1 in
    absurd (c.in_err-names.ensures.only _ _ fields.names_end fourth.1)

pub returns-in_err-play : goal.returns-in_err-play
returns-in_err-play c = λ names number hand behind are played is.
    let fields = fields_of c.args.game.now names number hand c.args.bytes.now behind (omega (arith, c.players-players.ensures.value, c.players-players.ensures.least)) are is in
    let first = c.in_ok-_number.ensures.only _ _ fields.number_ends (c.in_ok-line.ensures _ fields.whole) in
    let second = c.in_ok-betting.ensures.only _ _ fields.betting_ends first.1 in
    let read = c.in_err-play.ensures.only hand.past played.legal second.0 in
    cc

-- ---- what the hand's deal shows

shown_as : (players rounds others later : ℕ) (deal bytes : List ℕ) → players ≡ others → rounds ≡ later → bytes ≡ shown_text others later deal → bytes ≡ shown_text players rounds deal
shown_as players rounds others later deal bytes same_players same_rounds is =
    is ∙ sym (ap (λ n. shown_text n later deal) same_players) ∙ sym (ap (λ n. shown_text players n deal) same_rounds)

pub returns-in_err-deal : goal.returns-in_err-deal
returns-in_err-deal c = λ names number hand behind are played is.
    let game = c.args.game.now in
    let fields = fields_of game names number hand c.args.bytes.now behind (omega (arith, c.players-players.ensures.value, c.players-players.ensures.least)) are is in
    let first = c.in_ok-_number.ensures.only _ _ fields.number_ends (c.in_ok-line.ensures _ fields.whole) in
    let second = c.in_ok-betting.ensures.only _ _ fields.betting_ends first.1 in
    let third = c.in_ok-cards.ensures.only _ _ fields.cards_end second.1 in
    let read = c.in_ok-play.ensures.only hand.past played.legal second.0 in
    let play_is : c.in_ok-play.play ≡ record { game = game; past = hand.past } = cc in
    let rounds : c.round.result ≡ rounds_seen game hand.past = c.round.ensures.value ∙ ap (λ (b : Betting). current_round b.game (turns b.game b.past)) play_is in
    let shown = shown_as c.players-players.result c.round.result game.players (rounds_seen game hand.past) hand.deal c.in_ok-cards.cards.now c.players-players.ensures.value rounds third.0 in
    absurd (c.in_err-deal.ensures.only hand.deal (subst (λ n. IsDeal n hand.deal) (sym c.players-players.ensures.value) played.dealt) shown)

pub returns : goal.returns
returns c = λ names number hand behind are played is.
    let game = c.args.game.now in
    let fields = fields_of game names number hand c.args.bytes.now behind (omega (arith, c.players-players.ensures.value, c.players-players.ensures.least)) are is in
    let first = c.in_ok-_number.ensures.only _ _ fields.number_ends (c.in_ok-line.ensures _ fields.whole) in
    let second = c.in_ok-betting.ensures.only _ _ fields.betting_ends first.1 in
    let third = c.in_ok-cards.ensures.only _ _ fields.cards_end second.1 in
    let fourth = c.in_ok-_values.ensures.only _ _ fields.values_end third.1 in
    let fifth = c.in_ok-names.ensures.only _ _ fields.names_end fourth.1 in
    let read = c.in_ok-play.ensures.only hand.past played.legal second.0 in
    let play_is : c.in_ok-play.play ≡ record { game = game; past = hand.past } = cc in
    let rounds : c.round.result ≡ rounds_seen game hand.past = c.round.ensures.value ∙ ap (λ (b : Betting). current_round b.game (turns b.game b.past)) play_is in
    let shown = shown_as c.players-players.result c.round.result game.players (rounds_seen game hand.past) hand.deal c.in_ok-cards.cards.now c.players-players.ensures.value rounds third.0 in
    let found = c.in_ok-deal.ensures.only hand.deal (subst (λ n. IsDeal n hand.deal) (sym c.players-players.ensures.value) played.dealt) shown in (
      play_is,
      subst (λ n. IsDeal n c.in_ok-deal.deal) c.players-players.ensures.value c.in_ok-deal.ensures.deal,
      subst (λ n. holes_of n c.in_ok-deal.deal ≡ holes_of n hand.deal) c.players-players.ensures.value found.0,
      subst (λ n. board_shown n c.in_ok-deal.deal ≡ board_shown n hand.deal) rounds found.1,
      fifth.0,
      fifth.1,
    )
