use Rattle.std.proofs.Common.{◌≡◌, ℕ, List, length, ◌∙◌, ap}
use Rattle.betting.specs.Rounds.{current_round, turns}
use Rattle.betting.specs.Text.{text}
use Rattle.matchstate.specs.View.{rounds_seen}
use Rattle.match_log.specs.Lines.{values_field, names_field}
use Rattle.match_log.specs.Names.{names_by_position}
use Rattle.match_log.proofs.Written.{and_then, shown_as, state_line_written}
use Rattle.match_log.proofs.state_lines.put_hand.Goals as goal

pub returns-clause-items : goal.returns-clause-items
returns-clause-items c =
    let before : List ℕ = c.args.out.now.items in
    let rounds : c.round.result ≡ rounds_seen c.args.game.now c.args.play.now.past = c.round.ensures.value ∙ ap (λ g. current_round g (turns g c.args.play.now.past)) c.requires.same_game in
    let written =
    and_then before _ _ _ _ (and_then before _ _ _ _ (and_then before _ _ _ _ (and_then before _ _ _ _ (and_then before _ _ _ _
    (and_then before _ _ _ _ (and_then before _ _ _ _ (and_then before _ _ _ _ (and_then before _ _ _ _ (and_then before _ _ _ _
    c.put.ensures.items c.put_number.ensures.items) c.put-2.ensures.items) c.betting_text_reserved.ensures.items) c.put-3.ensures.items) c.put_shown.ensures.items)
    c.put-4.ensures.items) c.put_values.ensures.items) c.put-5.ensures.items) c.put_names.ensures.items) c.put-6.ensures.items in
    state_line_written c.args.game.now c.args.names.now c.args.number (record { deal = c.args.deal.now; past = c.args.play.now.past }) before c.put-6.new.out.items _ _ _ _ written
    (ap (λ g. text g c.args.play.now.past) c.requires.same_game)
    (shown_as c.args.game.now c.args.play.now.past c.args.deal.now c.round.result c.requires.dealt rounds)
    (ap values_field (c.as_slice.ensures.value ∙ c.payoffs-payoffs.ensures.value))
    (ap (λ (names : List (List ℕ)). names_field (names_by_position (length names) c.args.number names)) c.as_slice-2.ensures.value
    ∙ ap (λ (n : ℕ). names_field (names_by_position n c.args.number c.args.names.now)) c.requires.names)
