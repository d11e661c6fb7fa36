use Rattle.std.proofs.Common.{decimal, ◌++◌, sym, ap, ◌∙◌}
use Rattle.std.proofs.lemmas.Slice.Eq.{strip_prefix_is}
use Rattle.std.proofs.lemmas.Bool.Decides.{Decides-eqb}
use Rattle.matchstate.proofs.Stripped.{stands, stood}
use Rattle.matchstate.proofs.number.after_number.Goals as goal

pub returns-clause-found : goal.returns-clause-found
returns-clause-found c =
    stood c.strip_prefix.result c.args.bytes.now c.as_bytes.result.now (decimal c.args.number)
    (strip_prefix_is Decides-eqb c.args.bytes.now _ c.strip_prefix.result c.strip_prefix.ensures.cases)
    (c.as_bytes.ensures.value ∙ c.format.ensures.text)

pub returns-clause-only : goal.returns-clause-only
returns-clause-only c =
    λ behind is.
    stands c.strip_prefix.result c.args.bytes.now c.as_bytes.result.now behind
    (strip_prefix_is Decides-eqb c.args.bytes.now _ c.strip_prefix.result c.strip_prefix.ensures.cases)
    (is ∙ ap (λ s. s ++ behind) (sym (c.as_bytes.ensures.value ∙ c.format.ensures.text)))
