use Rattle.std.proofs.Common.{◌≡◌, ℕ, List, length, ◌∙◌, ap}
use Rattle.match_log.specs.Lines.{values_field, names_field}
use Rattle.match_log.specs.Names.{names_by_position}
use Rattle.match_log.proofs.Tallies.{totals_as, names_in_seat_order}
use Rattle.match_log.proofs.Written.{and_then, score_line_written}
use Rattle.match_log.proofs.score_lines.score_line_reserved.Goals as goal

pub returns-clause-items : goal.returns-clause-items
returns-clause-items c =
    let before : List ℕ = c.args.out.now.items in
    let players : c.players.result ≡ c.args.table.now.game.players = c.players.ensures.value ∙ ap (λ g. g.players) c.game.ensures in
    let written =
    and_then before _ _ _ _ (and_then before _ _ _ _ (and_then before _ _ _ _ (and_then before _ _ _ _ c.put.ensures.items c.put_values.ensures.items) c.put-2.ensures.items) c.put_names.ensures.items) c.put-3.ensures.items in
    score_line_written c.args.table.now.game c.args.names.now c.args.table.now.hands before c.put-3.new.out.items _ _ written
    (ap values_field (totals_as c.args.table.now.game c.args.table.now.hands c.score_of-score.result c.totals.result.now c.score_of-score.ensures
    (c.totals.ensures.value ∙ ap (λ (n : ℕ). Rattle.std.specs.Prelude.take n c.score_of-score.result.totals) players) (c.totals.ensures.count ∙ players)))
    (ap (λ (names : List (List ℕ)). names_field (names_by_position (length names) 0 names)) c.as_slice.ensures.value ∙ ap names_field (names_in_seat_order c.args.names.now))
