use Rattle.std.proofs.Common.{true, ℕ, List, ◌++◌, ap, subst, ◌∙◌, rules}
use Rattle.dealer_world.specs.Events.{node_of}
use Rattle.dealer_world.specs.Viewing.{view_of}
use Rattle.match_links.specs.Passages.{Passage}
use Rattle.serving.specs.Giving.{Gives, to_give}
use Rattle.serving.specs.Going.{OnlyLeave}
use Rattle.serving.specs.Placed.{places_in}
use Rattle.serving.specs.Turned.{Mends}
use Rattle.serving.proofs.Turns.{mended_ends}
use Rattle.serving.proofs.server.Server.close_refused_turn.Goals as goal

pub returns-clause-closes : goal.returns-clause-closes
returns-clause-closes g c =
    let w = c.args.waiting.now in
    let old = c.args.self.now.desk.progress in
    let between = c.begin_repair_after.new.self.desk.progress in
    let new = c.show.new.self.progress in
    let pieces = (view_of c.begin_repair_after.new.self.cluster).all.shown in
    let to = c.show.new.self.shown in
    let given = c.show.ensures.given in
    let shown = c.begin_repair_after.ensures.shown in
    let mended : Mends c.args.fault (node_of w.event) old true between = search rules in
    let leave = subst (λ (k : ℕ). OnlyLeave (to_give pieces k to) given.given (places_in between.places) (places_in new.places)) shown given.leave in
    record {
      passes = record {
        given = given.given;
        passed = given.passed ∙ ap (λ (ps : List Passage). ps ++ given.given) c.begin_repair_after.ensures.passed;
        gives = subst (λ (k : ℕ). Gives (places_in new.places) pieces k to given.given) shown given.gives;
      };
      ends = mended_ends c.args.fault w (to_give pieces c.args.self.now.desk.shown to) given.given old between new mended c.show.ensures.uncalled.kept leave;
      all_given = search rules;
      tells = search rules;
    }
