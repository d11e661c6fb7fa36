use Rattle.std.proofs.Common.{◌≡◌, ℕ, ◌<◌, ◌≤◌, length, Some, leb, false, ap, ◌∙◌, arith}
use Rattle.std.proofs.lemmas.Bool.Decides.{nat_tests}
use Rattle.std.specs.Option.{option_map}
use Rattle.std.proofs.lemmas.List.{length-reverse}
use Rattle.slot_log.specs.Dealer.{hand_at}
use Rattle.line_cursor.proofs.Reading.{over_none, over_before, over_then}
use Rattle.line_cursor.proofs.cursor.is_over_after.Goals as goal

over_count : (n k : ℕ) → k < n → leb n k ≡ false
over_count n k less = grind (arith, nat_tests)

pub returns-then-actions : goal.returns-then-actions
returns-then-actions c =
    let table = c.args.table.now in
    let play = c.in-Some.play.now in
    let its_past : Some play.past ≡ option_map (λ found. found.past) (hand_at table.hands c.args.hand) = c.in-Some.ensures.value in
    let count : length c.actions.result.now ≡ length play.past = ap length c.actions.ensures.value ∙ length-reverse play.past in
    let all : length play.past ≤ c.args.actions = omega arith in
    over_then table.game table.hands c.args.hand c.args.actions play.game play.past c.finished.result its_past c.in-Some.ensures.game all c.finished.ensures

pub returns-else-actions : goal.returns-else-actions
returns-else-actions c =
    let table = c.args.table.now in
    let play = c.in-Some.play.now in
    let its_past : Some play.past ≡ option_map (λ found. found.past) (hand_at table.hands c.args.hand) = c.in-Some.ensures.value in
    let count : length c.actions.result.now ≡ length play.past = ap length c.actions.ensures.value ∙ length-reverse play.past in
    let less : c.args.actions < length play.past = omega arith in
    let more : c.args.actions < length c.actions.result.now = omega arith in
    let no : leb (length c.actions.result.now) c.args.actions ≡ false = over_count (length c.actions.result.now) c.args.actions more in
    no ∙ over_before table.game table.hands c.args.hand c.args.actions play.past its_past less

pub returns-in-None : goal.returns-in-None
returns-in-None c = over_none c.args.table.now.game c.args.table.now.hands c.args.hand c.args.actions c.in-None.ensures.value
