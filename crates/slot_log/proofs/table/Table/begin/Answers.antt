use Rattle.std.proofs.Common.{◌≡◌, ◌<◌, [], ◌∷◌, ◌++◌, sym, ap, subst, refl, ◌∙◌, false, rules}
use Rattle.slot_log.specs.Hand.{Match}
use Rattle.slot_log.specs.Dealer.{is_running, finished_count}
use Rattle.slot_log.specs.declared.table.Table.TheInside.{Inside}
use Rattle.slot_log.proofs.Begin.{kept_first, kept_next}
use Rattle.slot_log.proofs.table.Table.begin.Goals as goal
use Rattle.slot_log.proofs.table.Table.begin.Goals.{in-Some, in_default}

pub invariant_of-self-2 : goal.invariant_of-self-2
invariant_of-self-2 c =
    let new = c.match-take.self-inside in
    elim c.match-take.branch [
      | in-Some w ↦
          let is = w.self-inside-is in
          kept_next c.self.inside _ c.new.result c.self.invariant (ap (λ (i : Inside). i.game) is) (ap (λ (i : Inside). i.count) is) refl c.new.ensures.kept w.in-Some.finished
          (sym c.take.ensures.value ∙ w.in-Some.is)
          (ap (λ (i : Inside). i.earlier.items) is ∙ w.push_reserved.ensures.items ∙ ap (λ items. items ++ w.in-Some.finished ∷ []) c.reserve.ensures.items)
          (subst (λ (m : Match). is_running m.game m.hands ≡ false) (sym c.self.view_is) c.requires.none_runs)
          (subst (λ (m : Match). finished_count m.game m.hands < m.count) (sym c.self.view_is) c.requires.goes_on)
      | in_default w ↦
          let is = w.self-inside-is in
          kept_first c.self.inside _ c.new.result c.self.invariant (ap (λ (i : Inside). i.game) is) (ap (λ (i : Inside). i.count) is) refl c.new.ensures.kept
          (sym c.take.ensures.value ∙ w.in_default.is)
          (ap (λ (i : Inside). i.earlier.items) is ∙ c.reserve.ensures.items)
    ]

pub returns-in_err-reserve-clause-full : goal.returns-in_err-reserve-clause-full
returns-in_err-reserve-clause-full c = search rules
