use Rattle.std.proofs.Common.{List, ap, subst, inl, inr}
use Rattle.std.proofs.lemmas.Bool.{cases_Bool}
use Rattle.std.specs.Prelude.{Some}
use Rattle.node_seats.specs.declared.token_digest.TokenDigest.{TokenDigest}
use Rattle.node_seats.specs.Guesting.{Passes}
use Rattle.node_seats.specs.Keeping.{IsFit, stands_at}
use Rattle.node_seats.proofs.Coming.{passed_on, passes_to, quiet_passes, none_of}
use Rattle.node_seats.proofs.Keeping.{but_on, but_again, fit_still, newest_still, all_fit}
use Rattle.node_seats.proofs.seats.take_guest.Goals as goal

pub returns-clause-passes : goal.returns-clause-passes
returns-clause-passes g c =
    let tokens : List TokenDigest = c.args.guests.now.tokens.items in
    let passes : Passes (Some tokens) c.hear_guest-notice.result c.accept.new.self.passed.items c.hear_guest-notice.new.guests.passed.items (g.W.Wire.passed c.accept.new.wire) (g.W.Wire.passed c.hear_guest-notice.new.wire) =
    subst (λ (ts : List TokenDigest). Passes (Some ts) c.hear_guest-notice.result c.accept.new.self.passed.items c.hear_guest-notice.new.guests.passed.items (g.W.Wire.passed c.accept.new.wire) (g.W.Wire.passed c.hear_guest-notice.new.wire))
    (ap (λ ts. ts.items) c.accept.ensures.tokens) c.hear_guest-notice.ensures.passes in
    passed_on tokens c.hear_guest-notice.result c.args.guests.now.passed.items c.accept.new.self.passed.items c.turn_away-turned_away.new.self.passed.items (g.W.Wire.passed c.args.wire.now) (g.W.Wire.passed c.accept.new.wire)
    (g.W.Wire.passed c.turn_away-turned_away.new.wire) c.accept.ensures.grows
    (elim (cases_Bool c.turn_away-turned_away.result)
    as (λ _. Passes (Some tokens) c.hear_guest-notice.result c.accept.new.self.passed.items c.turn_away-turned_away.new.self.passed.items (g.W.Wire.passed c.accept.new.wire) (g.W.Wire.passed c.turn_away-turned_away.new.wire)) [
      | inl is ↦
          quiet_passes tokens c.hear_guest-notice.result c.accept.new.self.passed.items c.hear_guest-notice.new.guests.passed.items c.turn_away-turned_away.new.self.passed.items (g.W.Wire.passed c.accept.new.wire)
          (g.W.Wire.passed c.hear_guest-notice.new.wire) (g.W.Wire.passed c.turn_away-turned_away.new.wire) (none_of c.hear_guest-notice.result c.is_none-is_quiet.result c.is_none-is_quiet.ensures (c.turn_away-turned_away.ensures.quiet is))
          c.hear_guest-notice.ensures.quiet c.turn_away-turned_away.ensures.grows
      | inr not ↦
          passes_to (Some tokens) c.hear_guest-notice.result c.accept.new.self.passed.items c.hear_guest-notice.new.guests.passed.items c.turn_away-turned_away.new.self.passed.items (g.W.Wire.passed c.accept.new.wire)
          (g.W.Wire.passed c.hear_guest-notice.new.wire) (g.W.Wire.passed c.turn_away-turned_away.new.wire) (ap (λ ps. ps.items) (c.turn_away-turned_away.ensures.passed not)) (c.turn_away-turned_away.ensures.wired not) passes
    ])

pub returns-clause-kept : goal.returns-clause-kept
returns-clause-kept g c =
    let tokens : List TokenDigest = c.args.guests.now.tokens.items in
    all_fit tokens c.args.guests.now.guests.items c.turn_away-turned_away.new.self.guests.items c.in-Some.place
    (but_on c.in-Some.place c.args.guests.now.guests.items c.hear_guest-notice.new.guests.guests.items c.turn_away-turned_away.new.self.guests.items
    (but_again c.in-Some.place c.args.guests.now.guests.items c.accept.new.self.guests.items c.hear_guest-notice.new.guests.guests.items c.in-Some.ensures.kept c.hear_guest-notice.ensures.kept) c.turn_away-turned_away.ensures.left)
    (fit_still tokens c.hear_guest-notice.new.guests.guests.items c.turn_away-turned_away.new.self.guests.items c.in-Some.place
    (subst (λ (ts : List TokenDigest). IsFit ts (stands_at c.hear_guest-notice.new.guests.guests.items c.in-Some.place)) (ap (λ ts. ts.items) c.accept.ensures.tokens) c.hear_guest-notice.ensures.fit) c.turn_away-turned_away.ensures.left)
    (newest_still c.hear_guest-notice.new.guests.guests.items c.turn_away-turned_away.new.self.guests.items c.in-Some.place c.hear_guest-notice.ensures.newest c.turn_away-turned_away.ensures.left)
