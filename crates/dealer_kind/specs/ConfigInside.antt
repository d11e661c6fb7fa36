-- What a config's fields keep, and the plan that they hold.
use Rattle.dealer_kind.specs.declared.config.Config.TheInside.{Inside}
use Rattle.dealer_kind.specs.Plans.{Plan, plan, IsPlan}

abbrev pub plan_of : Inside → Plan
plan_of d = plan d.game d.name d.game_word.items d.names d.hands d.sources.items

-- they are within the limits
pub record IsKept (d : Inside) : Type 0 where
  pub kept : IsPlan (plan_of d)
