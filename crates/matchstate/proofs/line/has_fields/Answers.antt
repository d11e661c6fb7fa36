use Rattle.std.proofs.lemmas.Bool.{false≢true}
use Rattle.matchstate.proofs.line.has_fields.Goals as goal

pub returns-in-None : goal.returns-in-None
returns-in-None c = (
  λ t. absurd (false≢true t),
  λ some. absurd (c.in-None.ensures.only some.0 some.1),
)
