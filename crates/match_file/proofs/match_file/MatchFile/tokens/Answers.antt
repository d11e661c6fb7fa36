use Rattle.std.proofs.Common.{◌≡◌, map, length, refl, ap, sym, ◌∙◌, arith, Some}
use Rattle.std.proofs.lemmas.Result.{err_from_is_err_and}
use Rattle.std.proofs.lemmas.List.{length-map}
use Rattle.toml.specs.Data.{array}
use Rattle.toml.specs.View.{view, items_of}
use Rattle.match_file.specs.Said.{IsAbsent, EachSays}
use Rattle.match_file.specs.Matches.{entry_at}
use Rattle.match_file.specs.MatchFile.{members}
use Rattle.match_file.specs.Tokens.{SaysDigest, SaysTokens}
use Rattle.match_file.specs.declared.key.Key.TheVariants.{Tokens}
use Rattle.match_file.proofs.Told.{told_wider}
use Rattle.match_file.proofs.Tokening.{no_list, no_digests, other_count, has_digests}
use Rattle.match_file.proofs.match_file.MatchFile.tokens.Goals as goal
use Rattle.match_file.proofs.match_file.MatchFile.tokens.Goals.{in_default-via-in-Some-array_of+else-len-players, in_default-via-in_default}

pub returns-in_err-digests_of-in-Some-array_of : goal.returns-in_err-digests_of-in-Some-array_of
returns-in_err-digests_of-in-Some-array_of c =
    let table = members c.args.self.now in
    let ds = map view c.deref.result.now in
    let p = err_from_is_err_and c.from_residual.result c.from_residual.ensures.1 in
    let there : entry_at Tokens table ≡ Some (array (items_of ds)) = rw c.deref.ensures.value (sym c.in-Some.ensures ∙ ap Some c.in-Some-array_of.ensures) in
    rw (p.1, p.2) (
    told_wider Tokens (IsAbsent (EachSays SaysDigest ds)) (IsAbsent (SaysTokens c.args.players c.args.seats.now table)) c.in_err-digests_of-in-Some-array_of.field-0.0
    (no_digests c.args.players c.args.seats.now table ds there) c.in_err-digests_of-in-Some-array_of.ensures
    )

pub returns-in_ok-digests_of-in-Some-array_of : goal.returns-in_ok-digests_of-in-Some-array_of
returns-in_ok-digests_of-in-Some-array_of c =
    let table = members c.args.self.now in
    let values = c.deref.result.now in
    let same = c.deref.ensures.value in
    let counted = c.len.ensures in
    let right = c.if-len-players.true in
    let there : entry_at Tokens table ≡ Some (array (items_of (map view values))) = rw same (sym c.in-Some.ensures ∙ ap Some c.in-Some-array_of.ensures) in
    let many : length (map view values) ≡ c.args.players = rw (length-map values view, same) (omega arith) in
    has_digests c.args.players c.args.seats.now table (map view values) c.in_ok-digests_of-in-Some-array_of.field-0.items there many c.in_ok-digests_of-in-Some-array_of.ensures

pub returns-in_default : goal.returns-in_default
returns-in_default c =
    elim c.in_default.branch [
      | in_default-via-in-Some-array_of+else-len-players w ↦ (
        refl,
        other_count c.args.players c.args.seats.now (members c.args.self.now) (map view w.in-Some-array_of.values.now.items) (sym c.in-Some.ensures ∙ ap Some w.in-Some-array_of.ensures)
            (λ many. let counted = w.len.ensures in let other = w.if-len-players.false in let views = length-map w.in-Some-array_of.values.now.items view in omega arith),
      )
      | in_default-via-in_default w ↦ (refl, no_list c.args.players c.args.seats.now (members c.args.self.now) (view c.in-Some.value.now) (sym c.in-Some.ensures) w.in_default.ensures)
    ]
