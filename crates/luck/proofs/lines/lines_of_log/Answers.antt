use Rattle.std.proofs.Common.{ℕ, List, sym, subst, arith}
use Rattle.card_core.specs.Deal.{IsDeal}
use Rattle.betting.specs.Betting.{Betting}
use Rattle.luck.proofs.Told.{behind_title, title_is, IsTold, nothing_told, all_told, all_sum_to_zero}
use Rattle.luck.proofs.Telling.{line_there, told_more, hands_count}
use Rattle.luck.proofs.lines.lines_of_log.Goals as goal

pub unreachable-requires : goal.unreachable-requires
unreachable-requires c =
    c.in_default.ensures c.requires.title (behind_title c.args.game.now c.args.log.now c.requires) (title_is c.args.game.now c.args.log.now c.requires)

pub loop-number-init : goal.loop-number-init
loop-number-init c = λ read.
    let facts = c.in-Some.ensures read.title (behind_title c.args.game.now c.args.log.now read) (title_is c.args.game.now c.args.log.now read) in
    subst (λ (told : List ℕ). IsTold c.args.game.now c.args.log.now read 0 c.in-Some.rest.now told) (sym c.new-lines.ensures.items)
    (nothing_told c.args.game.now c.args.log.now read c.in-Some.rest.now facts.1)

pub unreachable-requires-in_default-read_hand : goal.unreachable-requires-in_default-read_hand
unreachable-requires-in_default-read_hand c =
    let game = c.args.game.now in
    let log = c.args.log.now in
    let read = c.requires in
    let title = c.in-Some.ensures read.title (behind_title game log read) (title_is game log read) in
    let there = line_there game log read c.hands_end_finished.ensures c.payoffs_are_those_of_what_is_shown.ensures c.limits.ensures c.loop-number.number c.loop-number.rest.now
    c.loop-number.lines.items (omega (arith, title.0, c.loop-number-test.true)) (c.loop-number.invariant read) in
    c.in_default-read_hand.ensures read.names c.loop-number.number there.0 there.1 read.are_names there.2.0 there.2.1

pub put_hand-requires : goal.put_hand-requires
put_hand-requires c =
    let game = c.args.game.now in
    let log = c.args.log.now in
    let read = c.requires in
    let title = c.in-Some.ensures read.title (behind_title game log read) (title_is game log read) in
    let there = line_there game log read c.hands_end_finished.ensures c.payoffs_are_those_of_what_is_shown.ensures c.limits.ensures c.loop-number.number c.loop-number.rest.now
    c.loop-number.lines.items (omega (arith, title.0, c.loop-number-test.true)) (c.loop-number.invariant read) in
    let facts = c.in-Some-read_hand.ensures read.names c.loop-number.number there.0 there.1 read.are_names there.2.0 there.2.1 in
    subst (λ (b : Betting). IsDeal b.game.players c.in-Some-read_hand.line.deal) (sym facts.0) facts.1

pub loop-number-preserved : goal.loop-number-preserved
loop-number-preserved c = λ read.
    let game = c.args.game.now in
    let log = c.args.log.now in
    let title = c.in-Some.ensures read.title (behind_title game log read) (title_is game log read) in
    told_more game log read c.hands_end_finished.ensures c.payoffs_are_those_of_what_is_shown.ensures c.limits.ensures c.loop-number.number c.loop-number.rest.now
    c.loop-number.lines.items c.in-Some-read_hand.line.behind.now c.put_hand.new.out.items c.digest-key.result c.in-Some-read_hand.line.play c.in-Some-read_hand.line.deal c.in-Some-read_hand.line.names.now
    (omega (arith, title.0, c.loop-number-test.true)) (c.loop-number.invariant read) c.digest-key.ensures c.rounds_go_on.ensures c.in-Some-read_hand.ensures c.in_ok-put_hand.ensures.lines c.in_ok-put_hand.ensures.zero_sum

pub returns-clause-lines : goal.returns-clause-lines
returns-clause-lines c = λ read.
    let game = c.args.game.now in
    let log = c.args.log.now in
    let title = c.in-Some.ensures read.title (behind_title game log read) (title_is game log read) in
    all_told game log read c.loop-number.number c.loop-number.rest.now c.loop-number.lines.items
    (omega (arith, title.0, hands_count game log read c.hands_end_finished.ensures, c.loop-number-test.false, c.loop-number.auto.number-end)) (c.loop-number.invariant read)

pub returns-clause-zero_sum : goal.returns-clause-zero_sum
returns-clause-zero_sum c = λ read.
    let game = c.args.game.now in
    let log = c.args.log.now in
    let title = c.in-Some.ensures read.title (behind_title game log read) (title_is game log read) in
    all_sum_to_zero game log read c.loop-number.number c.loop-number.rest.now c.loop-number.lines.items
    (omega (arith, title.0, hands_count game log read c.hands_end_finished.ensures, c.loop-number-test.false, c.loop-number.auto.number-end)) (c.loop-number.invariant read)
