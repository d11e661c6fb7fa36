use Rattle.std.proofs.Common.{◌≡◌, ℕ, decimal, Some, sym, ap, ◌∙◌}
use Rattle.std.specs.List.{count_by}
use Rattle.line_cursor.specs.declared.cursor.Cursor.{Cursor}
use Rattle.line_cursor.specs.Cursors.{cursor_at}
use Rattle.line_cursor.specs.Naming.{is_action_letter}
use Rattle.line_cursor.proofs.naming.place_named.Goals as goal

same_place : (hand actions : ℕ) (cursor : Cursor) → Some hand ≡ Some cursor.hand → actions ≡ cursor.actions → Some (cursor_at hand actions) ≡ Some cursor
same_place hand actions cursor h a =
    let e : hand ≡ cursor.hand = cc in
    ap (λ (n : ℕ). Some (cursor_at n actions)) e ∙ ap (λ (n : ℕ). Some (cursor_at cursor.hand n)) a

pub returns-in_err-number-clause-only : goal.returns-in_err-number-clause-only
returns-in_err-number-clause-only c = λ cursor is. absurd (c.in_err-number.ensures.only (decimal cursor.hand) is.betting is.has_fields)

pub returns-in_err-hand-clause-only : goal.returns-in_err-hand-clause-only
returns-in_err-hand-clause-only c = λ cursor is.
    let same = c.in_ok-number.ensures.only (decimal cursor.hand) is.betting is.has_fields in
    let got = c.in_err-hand.ensures.only cursor.hand is.hand_below same.0 in
    cc

pub returns-clause-only : goal.returns-clause-only
returns-clause-only c = λ cursor is.
    let same = c.in_ok-number.ensures.only (decimal cursor.hand) is.betting is.has_fields in
    let got : Some c.in_ok-hand.hand ≡ Some cursor.hand = c.in_ok-hand.ensures.only cursor.hand is.hand_below same.0 in
    same_place c.in_ok-hand.hand c.action_count.result cursor got (c.action_count.ensures ∙ (ap (count_by is_action_letter) same.1 ∙ sym is.action_count))
