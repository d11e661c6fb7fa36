use Rattle.std.proofs.Common.{ℕ, List, ap, subst, sym, ◌∙◌}
use Rattle.std.specs.Prelude.{Some, Option}
use Rattle.node_seats.specs.declared.guest.Guest.{Guest as OneGuest}
use Rattle.node_seats.specs.declared.token_digest.TokenDigest.{TokenDigest}
use Rattle.node_seats.specs.Keeping.{IsShown, stands_at}
use Rattle.node_wires.specs.declared.line.Line.TheVariants.{Guest}
use Rattle.node_wires.specs.Passages.{came_over}
use Rattle.node_seats.specs.Guesting.{ShowsToken, Passes}
use Rattle.node_seats.proofs.Coming.{passed_on}
use Rattle.node_seats.proofs.Passing.{grown_on}
use Rattle.node_seats.proofs.Keeping.{but_on, leaves_of, nobody_fit, fit_open, fit_shown, fit_still, newest_gone, newest_open, newest_shown, newest_still}
use Rattle.node_seats.proofs.seats.hear_guest.Goals as goal

pub returns-in-Nothing-clause-fit : goal.returns-in-Nothing-clause-fit
returns-in-Nothing-clause-fit g c = fit_open c.args.guests.now.tokens.items (stands_at c.hear.new.self.guests.items c.args.place) c.in-Nothing.ensures.left

pub returns-in-Nothing-clause-newest : goal.returns-in-Nothing-clause-newest
returns-in-Nothing-clause-newest g c = newest_open c.args.place c.hear.new.self.guests.items c.in-Nothing.ensures.left

pub returns-in-Refused-clause-fit : goal.returns-in-Refused-clause-fit
returns-in-Refused-clause-fit g c = nobody_fit c.args.guests.now.tokens.items (stands_at c.dismiss.new.self.guests.items c.args.place) c.dismiss.ensures.gone

pub returns-in-Refused-clause-newest : goal.returns-in-Refused-clause-newest
returns-in-Refused-clause-newest g c = newest_gone c.args.place c.dismiss.new.self.guests.items c.dismiss.ensures.gone

pub returns-in-Refused-clause-kept : goal.returns-in-Refused-clause-kept
returns-in-Refused-clause-kept g c =
    but_on c.args.place c.args.guests.now.guests.items c.hear.new.self.guests.items c.dismiss.new.self.guests.items c.hear.ensures.kept
    (leaves_of c.hear.new.self.guests.items c.dismiss.new.self.guests.items c.args.place c.dismiss.ensures.gone c.dismiss.ensures.others)

pub returns-in-Shown-clause-fit : goal.returns-in-Shown-clause-fit
returns-in-Shown-clause-fit g c =
    let tokens : List TokenDigest = c.args.guests.now.tokens.items in
    fit_still tokens c.prefer.new.self.guests.items c.welcome.new.guests.guests.items c.args.place
    (fit_still tokens c.hear.new.self.guests.items c.prefer.new.self.guests.items c.args.place (fit_shown tokens c.in-Shown.seat (stands_at c.hear.new.self.guests.items c.args.place) c.in-Shown.ensures.left) c.prefer.ensures.left)
    c.welcome.ensures.left

pub returns-in-Shown-clause-newest : goal.returns-in-Shown-clause-newest
returns-in-Shown-clause-newest g c =
    let tokens : List TokenDigest = c.args.guests.now.tokens.items in
    newest_still c.prefer.new.self.guests.items c.welcome.new.guests.guests.items c.args.place
    (newest_shown tokens c.in-Shown.seat c.args.place c.prefer.new.self.guests.items (subst (λ (one : Option OneGuest). IsShown tokens c.in-Shown.seat one) (sym c.prefer.ensures.here) c.in-Shown.ensures.left) c.prefer.ensures.alone)
    c.welcome.ensures.left

pub returns-in-Shown-clause-kept : goal.returns-in-Shown-clause-kept
returns-in-Shown-clause-kept g c =
    but_on c.args.place c.args.guests.now.guests.items c.prefer.new.self.guests.items c.welcome.new.guests.guests.items
    (but_on c.args.place c.args.guests.now.guests.items c.hear.new.self.guests.items c.prefer.new.self.guests.items c.hear.ensures.kept c.prefer.ensures.left)
    c.welcome.ensures.left

pub returns-in-Shown-clause-passes : goal.returns-in-Shown-clause-passes
returns-in-Shown-clause-passes g c =
    let tokens : List TokenDigest = c.args.guests.now.tokens.items in
    passed_on tokens c.welcome.result c.args.guests.now.passed.items c.prefer.new.self.passed.items c.welcome.new.guests.passed.items (g.W.Wire.passed c.args.wire.now) (g.W.Wire.passed c.prefer.new.wire) (g.W.Wire.passed c.welcome.new.wire)
    (grown_on c.args.guests.now.passed.items c.hear.new.self.passed.items c.prefer.new.self.passed.items (g.W.Wire.passed c.args.wire.now) (g.W.Wire.passed c.hear.new.wire) (g.W.Wire.passed c.prefer.new.wire) c.hear.ensures.grows c.prefer.ensures.grows)
    (subst (λ (ts : List TokenDigest). Passes (Some ts) c.welcome.result c.prefer.new.self.passed.items c.welcome.new.guests.passed.items (g.W.Wire.passed c.prefer.new.wire) (g.W.Wire.passed c.welcome.new.wire))
    (ap (λ ts. ts.items) (c.prefer.ensures.tokens ∙ c.hear.ensures.tokens)) c.welcome.ensures.passes)

pub welcome-requires : goal.welcome-requires
welcome-requires g c =
    subst (λ (ts : List TokenDigest). ShowsToken ts c.in-Shown.seat (came_over c.prefer.new.self.passed.items (Guest c.args.place))) (sym (ap (λ ts. ts.items) (c.prefer.ensures.tokens ∙ c.hear.ensures.tokens)))
    (subst (λ (came : List ℕ). ShowsToken c.args.guests.now.tokens.items c.in-Shown.seat came) (sym (c.prefer.ensures.came c.args.place)) c.in-Shown.ensures.found)

pub returns-in-Refused-clause-told : goal.returns-in-Refused-clause-told
returns-in-Refused-clause-told g c =
    subst (λ (came : List ℕ). ShowsToken c.args.guests.now.tokens.items c.in-Refused.seat came → ⊥) (sym (c.dismiss.ensures.came c.args.place)) c.in-Refused.ensures.found

pub returns-in-Shown-clause-quiet : goal.returns-in-Shown-clause-quiet
returns-in-Shown-clause-quiet g c = λ none. grown_on _ _ _ _ _ _ (grown_on _ _ _ _ _ _ c.hear.ensures.grows c.prefer.ensures.grows) (c.welcome.ensures.quiet none)
