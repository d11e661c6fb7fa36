use Rattle.std.proofs.Common.{refl}
use Rattle.std.proofs.lemmas.Slice.Eq.{strip_prefix_is}
use Rattle.std.proofs.lemmas.Bool.Decides.{Decides-eqb}
use Rattle.matchstate.proofs.Stripped.{stands, stood}
use Rattle.operator_notes.proofs.log_names.after.Goals as goal

pub returns-clause-only : goal.returns-clause-only
returns-clause-only c =
    λ behind is.
    stands c.strip_prefix.result c.args.bytes.now c.args.front.now behind
    (strip_prefix_is Decides-eqb c.args.bytes.now _ c.strip_prefix.result c.strip_prefix.ensures.cases) is

pub returns-clause-found : goal.returns-clause-found
returns-clause-found c =
    stood c.strip_prefix.result c.args.bytes.now c.args.front.now c.args.front.now
    (strip_prefix_is Decides-eqb c.args.bytes.now _ c.strip_prefix.result c.strip_prefix.ensures.cases) refl
