use Rattle.std.proofs.Common.{ℕ, ap, sym, ◌∙◌, refl, subst}
use Rattle.slot_log.specs.Hand.{Match}
use Rattle.slot_log.specs.Dealer.{hands_of}
use Rattle.promise_store.specs.Journals.{header}
use Rattle.promise_store.specs.Keeping.{Leaves}
use Rattle.node_rules.specs.Standings.{Place, stopped}
use Rattle.dealer_node.proofs.Placed.{placed}
use Rattle.dealer_node.proofs.node.Node.new.Goals as goal

pub invariant_of-result : goal.invariant_of-result
unfolding hands_of
invariant_of-result g c = record {
  at = tt;
  has_disk = refl;
  blank = record {
    game = ap (λ (m : Match). m.game) c.new-blank.ensures ∙ c.game.ensures;
    count = ap (λ (m : Match). m.count) c.new-blank.ensures ∙ c.hands.ensures.value;
    hands = ap (λ (m : Match). m.hands) c.new-blank.ensures;
  };
}

pub returns-clause-place : goal.returns-clause-place
returns-clause-place g c = placed c.in_ok-member.member c.args.config.now c.args.node c.in_ok-member.ensures.setting c.in_ok-member.ensures.nodes c.in_ok-member.ensures.node c.in_ok-member.ensures.deals

pub returns-clause-seen : goal.returns-clause-seen
unfolding hands_of
returns-clause-seen g c store begun leaves =
    let p = placed c.in_ok-member.member c.args.config.now c.args.node c.in_ok-member.ensures.setting c.in_ok-member.ensures.nodes c.in_ok-member.ensures.node c.in_ok-member.ensures.deals in
    let P : ℕ → Type 0 = λ n. Leaves g.D.Disk (header n c.in_ok-member.member.nodes) store begun c.args.disk in
    let Q : ℕ → Type 0 = λ n. Leaves g.D.Disk (header c.args.node n) store begun c.args.disk in
    record {
      by = record {
        stopped = ap (λ (place : Place). stopped place store begun) (sym p);
        leaves = subst P (sym c.in_ok-member.ensures.node) (subst Q (sym c.in_ok-member.ensures.nodes) leaves);
      };
      blank = record {
        game = ap (λ (m : Match). m.game) c.new-blank.ensures ∙ c.game.ensures;
        count = ap (λ (m : Match). m.count) c.new-blank.ensures ∙ c.hands.ensures.value;
        hands = ap (λ (m : Match). m.hands) c.new-blank.ensures;
      };
    }
