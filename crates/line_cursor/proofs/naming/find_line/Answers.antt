use Rattle.std.proofs.Common.{◌≡◌, Some, None, sym, ap, ◌∙◌, subst}
use Rattle.matchstate.proofs.Positions.{seats_have_one_position}
use Rattle.line_cursor.specs.declared.cursor.Cursor.{Cursor}
use Rattle.line_cursor.specs.declared.named_line.NamedLine.TheVariants.{Told}
use Rattle.line_cursor.specs.Past.{seat_line_at}
use Rattle.line_cursor.specs.Naming.{NamesPlace}
use Rattle.line_cursor.proofs.Names.{found_names}
use Rattle.line_cursor.proofs.naming.find_line.Goals as goal

one_cursor : (x y : Cursor) → Some x ≡ Some y → y ≡ x
one_cursor x y e = cc

no_cursor : (x : Cursor) → None ≡ Some x → ⊥
no_cursor x e = cc

pub find_line_at-requires-clause-only : goal.find_line_at-requires-clause-only
find_line_at-requires-clause-only c = λ other names. one_cursor c.in-Some.cursor other (c.in-Some.ensures.only other names)

pub returns-in-Some-clause-told : goal.returns-in-Some-clause-told
returns-in-Some-clause-told c = λ cursor e.
    let table = c.args.table.now in
    let names : NamesPlace c.args.line.now cursor =
    found_names table.game table.count table.hands c.args.seat cursor.hand cursor.actions c.args.line.now c.limits.ensures.game c.limits.ensures.hands c.limits.ensures.most
    (λ number. (seats_have_one_position table.game.players number c.args.seat c.requires).0) e in
    let same : cursor ≡ c.in-Some.cursor = one_cursor c.in-Some.cursor cursor (c.in-Some.ensures.only cursor names) in
    c.find_line_at.ensures.told (subst (λ (x : Cursor). seat_line_at table.game table.hands c.args.seat x.hand x.actions ≡ Some c.args.line.now) same e) ∙ ap Told (sym same)

pub returns-in-None-clause-is : goal.returns-in-None-clause-is
returns-in-None-clause-is c = λ cursor names. absurd (no_cursor cursor (c.in-None.ensures.only cursor names))

pub returns-in-None-clause-told : goal.returns-in-None-clause-told
returns-in-None-clause-told c = λ cursor e.
    let table = c.args.table.now in
    let names : NamesPlace c.args.line.now cursor =
    found_names table.game table.count table.hands c.args.seat cursor.hand cursor.actions c.args.line.now c.limits.ensures.game c.limits.ensures.hands c.limits.ensures.most
    (λ number. (seats_have_one_position table.game.players number c.args.seat c.requires).0) e in
    absurd (no_cursor cursor (c.in-None.ensures.only cursor names))
