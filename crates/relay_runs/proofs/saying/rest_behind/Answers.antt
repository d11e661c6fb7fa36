use Rattle.std.proofs.Common.{refl}
use Rattle.std.proofs.lemmas.Slice.Eq.{strip_prefix_is}
use Rattle.std.proofs.lemmas.Bool.Decides.{Decides-eqb}
use Rattle.matchstate.proofs.Stripped.{stands, stood}
use Rattle.relay_runs.proofs.saying.rest_behind.Goals as goal

pub returns-clause-found : goal.returns-clause-found
returns-clause-found c =
    stood c.strip_prefix.result c.args.text.now c.args.line.now c.args.line.now
    (strip_prefix_is Decides-eqb c.args.text.now _ c.strip_prefix.result c.strip_prefix.ensures.cases) refl

pub returns-clause-only : goal.returns-clause-only
returns-clause-only c = λ rest is.
    stands c.strip_prefix.result c.args.text.now c.args.line.now rest
    (strip_prefix_is Decides-eqb c.args.text.now _ c.strip_prefix.result c.strip_prefix.ensures.cases) is
