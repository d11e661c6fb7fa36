use Rattle.std.proofs.Common.{List, ◌∷◌, ◌++◌, [], refl, sym, ◌∙◌, ap}
use Rattle.promise_store.specs.declared.records.Record.{Record}
use Rattle.promise_store.specs.declared.records.Record.TheVariants.{Opened}
use Rattle.promise_store.specs.Holding.{holding, store_of}
use Rattle.promise_store.proofs.Holding.{next_is}
use Rattle.promise_store.proofs.Journals.{one_journal}
use Rattle.promise_store.proofs.laws.stages_hold_nothing.Goals as goal

pub returns-clause-journals : goal.returns-clause-journals
returns-clause-journals c head bytes longer records store journal opened = (
  λ stands. record {
    records = records ++ Opened ∷ [];
    journal = opened;
    is = stands.is ∙ ap (λ (l : List Record). store_of (holding head l)) (one_journal head bytes stands.records records stands.journal journal)
        ∙ next_is head records (store_of (holding head records)) refl Opened;
  },
  λ stands. record {
    records = records;
    journal = journal;
    is = stands.is ∙ ap (λ (l : List Record). store_of (holding head l)) (one_journal head longer stands.records (records ++ Opened ∷ []) stands.journal opened)
        ∙ sym (next_is head records (store_of (holding head records)) refl Opened);
  },
)
