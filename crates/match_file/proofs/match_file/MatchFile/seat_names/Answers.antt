use Rattle.std.proofs.Common.{map, refl, sym, subst}
use Rattle.std.proofs.lemmas.Result.{err_from_is_err_and}
use Rattle.toml.specs.View.{view}
use Rattle.match_log.specs.Names.{AreNames}
use Rattle.match_file.specs.MatchFile.{members}
use Rattle.match_file.specs.Matches.{SaysNames}
use Rattle.match_file.specs.Said.{IsAbsent, EachSays, SaysName}
use Rattle.match_file.specs.declared.key.Key.TheVariants.{Names}
use Rattle.match_file.proofs.Told.{told_wider, no_names, no_seats}
use Rattle.match_file.proofs.match_file.MatchFile.seat_names.Goals as goal

pub returns-in_err-names_of-in-Some : goal.returns-in_err-names_of-in-Some
returns-in_err-names_of-in-Some c =
    let p = err_from_is_err_and c.from_residual.result c.from_residual.ensures.1 in
    let same = c.deref.ensures.value in
    rw (p.1, p.2) (
    told_wider Names (IsAbsent (EachSays SaysName (map view c.deref.result.now))) (IsAbsent (SaysNames c.args.players (members c.args.self.now))) c.in_err-names_of-in-Some.field-0.0
    (no_names c.args.players (members c.args.self.now) (map view c.deref.result.now) (rw same c.in-Some.ensures)) c.in_err-names_of-in-Some.ensures
    )

pub returns-in-Some : goal.returns-in-Some
returns-in-Some c = (
  refl,
  no_seats c.args.players (members c.args.self.now) (map view c.deref.result.now) c.in_ok-names_of-in-Some.field-0.items (rw c.deref.ensures.value c.in-Some.ensures) c.in_ok-names_of-in-Some.ensures
      (λ are. let found = c.in-None-new.ensures.found.1 (subst (AreNames c.args.players) (sym c.deref-in-Some.ensures.value) are) in cc),
)
