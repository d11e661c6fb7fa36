use Rattle.std.proofs.Common.{◌∙◌, sym, subst, arith}
use Rattle.dealer_kind.specs.Kind.{Setting}
use Rattle.dealer_kind.specs.Plans.{IsSetting}
use Rattle.dealer_kind.specs.Sources.{HasDeals}
use Rattle.dealer_node.proofs.MemberMade.{same_setting}
use Rattle.dealer_node.proofs.member.Member.new.Goals as goal

pub invariant_of-result : goal.invariant_of-result
invariant_of-result c =
    let s = c.args.config.now.setting in
    let same = same_setting s c.game.result.now c.name.result.now c.in_ok-game_word.game_word.items c.names.result.now c.hands.result
    c.game.ensures.value c.name.ensures.value (c.in_ok-game_word.ensures.items ∙ c.game_word.ensures.value) c.hands.ensures.value c.names.ensures.value in
    record {
      kept = record {
        within = subst IsSetting (sym same) c.limits.ensures.within;
        nodes = c.nodes.ensures.nodes;
        node = omega (arith, c.requires, c.nodes.ensures.value);
        deals = subst (λ (t : Setting). HasDeals t.game.players t.title.hands c.in_ok-source.source) (sym same) (c.in_ok-source.ensures.kept s.game.players s.title.hands c.source.ensures.deals);
      };
    }
