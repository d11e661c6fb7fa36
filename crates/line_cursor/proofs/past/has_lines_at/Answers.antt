use Rattle.std.proofs.Common.{◌≡◌, ℕ, ◌<◌, ◌≤◌, length, Some, leb, true, false, ap, ◌∙◌, arith}
use Rattle.std.proofs.lemmas.Bool.Decides.{nat_tests}
use Rattle.std.specs.Option.{option_map}
use Rattle.std.proofs.lemmas.List.{length-reverse}
use Rattle.slot_log.specs.Dealer.{hand_at}
use Rattle.line_cursor.proofs.PastSeen.{lines_there, none_yet, none_undealt}
use Rattle.line_cursor.proofs.past.has_lines_at.Goals as goal

at_most : (n k : ℕ) → leb n k ≡ true → n ≤ k
at_most n k e = grind (arith, nat_tests)

above : (n k : ℕ) → leb n k ≡ false → k < n
above n k e = grind (arith, nat_tests)

pub returns-in-Some-clause-come : goal.returns-in-Some-clause-come
returns-in-Some-clause-come c = λ e.
    let table = c.args.table.now in
    let play = c.in-Some.play.now in
    let its_past : Some play.past ≡ option_map (λ found. found.past) (hand_at table.hands c.args.hand) = c.in-Some.ensures.value in
    let count : length c.actions.result.now ≡ length play.past = ap length c.actions.ensures.value ∙ length-reverse play.past in
    let enough : c.args.actions ≤ length c.actions.result.now = at_most c.args.actions (length c.actions.result.now) e in
    let few : c.args.actions ≤ length play.past = omega arith in
    lines_there table.game table.hands c.args.hand c.args.actions play.past its_past few

pub returns-in-Some-clause-none : goal.returns-in-Some-clause-none
returns-in-Some-clause-none c = λ e.
    let table = c.args.table.now in
    let play = c.in-Some.play.now in
    let its_past : Some play.past ≡ option_map (λ found. found.past) (hand_at table.hands c.args.hand) = c.in-Some.ensures.value in
    let count : length c.actions.result.now ≡ length play.past = ap length c.actions.ensures.value ∙ length-reverse play.past in
    let less : length c.actions.result.now < c.args.actions = above c.args.actions (length c.actions.result.now) e in
    let more : length play.past < c.args.actions = omega arith in
    none_yet table.game table.hands c.args.hand c.args.actions play.past its_past more

pub returns-in-None-clause-none : goal.returns-in-None-clause-none
returns-in-None-clause-none c = λ e. none_undealt c.args.table.now.game c.args.table.now.hands c.args.hand c.args.actions c.in-None.ensures.value
