use Rattle.std.proofs.Common.{◌∙◌, ap, sym}
use Rattle.promise_store.specs.Holding.{holding, store_of}
use Rattle.promise_store.proofs.Journals.{one_journal}
use Rattle.promise_store.proofs.laws.journals_have_one_reading.Goals as goal

pub returns-clause-records : goal.returns-clause-records
returns-clause-records c head bytes a b is_a is_b = one_journal head bytes a b is_a is_b

pub returns-clause-stores : goal.returns-clause-stores
returns-clause-stores c head bytes a b is_a is_b =
    is_a.is ∙ ap (λ records. store_of (holding head records)) (one_journal head bytes is_a.records is_b.records is_a.journal is_b.journal) ∙ sym is_b.is
