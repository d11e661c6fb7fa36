use Rattle.std.proofs.Common.{◌∙◌}
use Rattle.dealer_node.specs.Turned.{talks}
use Rattle.dealer_node.proofs.Applied.{scene_after}
use Rattle.dealer_node.proofs.applying.apply_command.Goals as goal

pub returns-clause-scene : goal.returns-clause-scene
returns-clause-scene c = λ scene before is.
    scene_after c.args.member.now.setting (talks c.args.sessions.now) scene c.args.table.now c.apply_reserved.new.self c.args.pending.now c.forget.new.pending before c.args.shown.now.texts c.show_news.new.shown.texts
    c.args.command.now c.took_effect-took.result is (c.took_effect-took.ensures c.args.table.now.game c.args.table.now.count c.args.table.now.hands c.args.command.now c.apply_reserved.ensures.effect) c.apply_reserved.ensures.game c.apply_reserved.ensures.count c.apply_reserved.ensures.hands c.show_news.ensures.texts (c.forget.ensures.kept c.args.member.now.setting)

pub show_news-requires-clause-played : goal.show_news-requires-clause-played
show_news-requires-clause-played c = record {
  game = c.apply_reserved.ensures.game ∙ c.requires.played.game;
  count = c.apply_reserved.ensures.count ∙ c.requires.played.count;
  seats = c.requires.played.seats;
}
