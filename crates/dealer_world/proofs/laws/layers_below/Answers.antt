use Rattle.dealer_world.proofs.laws.layers_below.Goals as goal

pub returns : goal.returns
returns c = record {
  reach = c.chains_reach.ensures.reach;
  known = c.known_is_chosen.ensures.known;
  calls = c.calls_are_sound.ensures.calls;
  refused_down = c.calls_are_sound.ensures.lines;
  appends = c.calls_are_sound.ensures.appends;
  widen = c.owners_may_change.ensures;
  source_deals = c.deals_are_owned_acts_are_said_and_aways_are_ordered.ensures.sources;
  both_deal = c.owners_may_widen.ensures.deals;
  second = c.owners_may_widen.ensures.second;
}
