use Rattle.std.proofs.lemmas.Bool.{true≢false}
use Rattle.match_file.specs.Kept.{kept_of}
use Rattle.match_file.specs.KeptMatch.{kept_in}
use Rattle.match_file.proofs.Keeping.{keeps_it}
use Rattle.match_file.proofs.kept.kept_difference.Goals as goal

pub returns-in-Some-clause-same : goal.returns-in-Some-clause-same
returns-in-Some-clause-same c =
    let new = kept_of c.args.config.now in
    keeps_it c.difference.result c.args.text.now (kept_in c.in-Some.kept) new c.in-Some.ensures.found (c.in-Some.ensures.only new) c.difference.ensures

pub returns-in-None-clause-same : goal.returns-in-None-clause-same
returns-in-None-clause-same c = (λ none. absurd (true≢false none), λ keeps. absurd (c.in-None.ensures.only (kept_of c.args.config.now) keeps))
