use Rattle.dealer_kind.specs.Kind.{dealer_of}
use Rattle.dealer_kind.proofs.Owning.{lines_say_acts, lines_say_no_away, origins, sources_own_deals}
use Rattle.dealer_kind.proofs.laws.deals_are_owned_acts_are_said_and_aways_are_ordered.Goals as goal

pub returns-clause-acts : goal.returns-clause-acts
returns-clause-acts c = lines_say_acts

pub returns-clause-no_away : goal.returns-clause-no_away
returns-clause-no_away c = lines_say_no_away

pub returns-clause-origins : goal.returns-clause-origins
returns-clause-origins c = origins

pub returns-clause-chosen : goal.returns-clause-chosen
returns-clause-chosen c setting own n world slot command deals reached chosen =
    origins setting own n world.ever world.came command deals (c.one_dealer.ensures.origin (dealer_of setting own) n world slot command reached chosen)

pub returns-clause-sources : goal.returns-clause-sources
returns-clause-sources c = sources_own_deals
