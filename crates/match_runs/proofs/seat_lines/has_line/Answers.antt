use Rattle.std.proofs.Common.{Some, sym, ◌∙◌}
use Rattle.std.proofs.lemmas.Bool.{false≢true}
use Rattle.std.proofs.lemmas.Option.{same_Some}
use Rattle.match_runs.proofs.seat_lines.has_line.Goals as goal

pub returns-in-Some-clause-other : goal.returns-in-Some-clause-other
returns-in-Some-clause-other g c = λ differs. record {
  newest = Some c.in-Some.newest.now;
  has = c.in-Some.ensures.found;
  other = λ same. false≢true (sym differs ∙ c.is_same.ensures.1 (same_Some c.in-Some.newest.now c.args.line.now same));
}
