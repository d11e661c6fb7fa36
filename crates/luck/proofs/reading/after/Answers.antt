use Rattle.std.proofs.lemmas.Slice.Eq.{strip_prefix_is}
use Rattle.std.proofs.lemmas.Bool.Decides.{Decides-eqb}
use Rattle.matchstate.proofs.Stripped.{stands}
use Rattle.luck.proofs.reading.after.Goals as goal

pub returns : goal.returns
returns c =
    λ behind is.
    stands c.strip_prefix.result c.args.bytes.now c.args.front.now behind
    (strip_prefix_is Decides-eqb c.args.bytes.now _ c.strip_prefix.result c.strip_prefix.ensures.cases) is
