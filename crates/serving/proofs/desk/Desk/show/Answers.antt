use Rattle.std.proofs.Common.{◌++◌, ◌∷◌, [], ℕ, List, ap, sym, subst, rules, ◌∙◌}
use Rattle.std.proofs.lemmas.List.{append_assoc}
use Rattle.dealer_world.specs.KeptShown.{piece_by}
use Rattle.dealer_world.specs.Viewing.{view_of}
use Rattle.match_links.specs.Passages.{Passage}
use Rattle.serving.specs.declared.place.Place.{Place}
use Rattle.serving.specs.Giving.{Gives, given_as, to_give}
use Rattle.serving.specs.Going.{OnlyLeave}
use Rattle.serving.specs.Placed.{places_in}
use Rattle.serving.proofs.Giving.{gives_still, gives_next, next_to_give}
use Rattle.serving.proofs.Leaving.{all_within, piece_within, leave_twice}
use Rattle.serving.proofs.desk.Desk.show.Goals as goal

-- what failed gave nothing and moved nobody
pub returns-in_err-hand_on-clause-given : goal.returns-in_err-hand_on-clause-given
returns-in_err-hand_on-clause-given g c =
    let first = places_in c.args.self.now.progress.places in
    let now = places_in c.hand_on.new.self.progress.places in
    let pieces = (view_of c.args.cluster.now).all.shown in
    let from = c.args.self.now.shown in
    let before = c.loop-number.invariant.given in
    let shown = c.loop-number.self.shown in
    let reached = sym c.hand_on.ensures.shown in
    let nothing = c.in_err-hand_on.ensures.failed in
    let stay = sym nothing.stay in
    record {
      given = before.given;
      passed = nothing.passed ∙ before.passed;
      gives = subst (λ (k : ℕ). Gives now pieces from k before.given) reached (subst (λ (places : List Place). Gives places pieces from shown before.given) stay before.gives);
      leave = subst (λ (k : ℕ). OnlyLeave (to_give pieces from k) before.given first now) reached
          (subst (OnlyLeave (to_give pieces from shown) before.given first) stay before.leave);
    }

pub loop-number-preserved : goal.loop-number-preserved
loop-number-preserved g c =
    let first = places_in c.args.self.now.progress.places in
    let old = places_in c.loop-number.self.progress.places in
    let new = places_in c.hand_on.new.self.progress.places in
    let pieces = (view_of c.args.cluster.now).all.shown in
    let from = c.args.self.now.shown in
    let number = c.loop-number.number in
    let reached = c.loop-number.invariant.reached in
    let before = c.loop-number.invariant.given in
    let gives = subst (λ (k : ℕ). Gives old pieces from k before.given) reached before.gives in
    let left = subst (λ (k : ℕ). OnlyLeave (to_give pieces from k) before.given first old) reached before.leave in
    let now = c.in_ok-hand_on.ensures.given in
    let piece = piece_by c.in-Some.piece.node c.in-Some.piece.start c.in-Some.piece.reader c.in-Some.piece.text.now in
    let lines = to_give pieces from number in
    let still = gives_still (given_as piece ∷ []) now.given old new pieces from number before.given now.leave gives in
    let leave = leave_twice lines before.given (given_as piece ∷ []) now.given first old new (λ node seat. all_within old _ before.given node seat gives.each)
    (piece_within new piece now.given now.is_given) left now.leave in
    record {
      uncalled = search rules;
      reached = search rules;
      low = search rules;
      given = record {
        given = before.given ++ now.given;
        passed = now.passed ∙ ap (λ (ps : List Passage). ps ++ now.given) before.passed ∙ append_assoc (g.L.Links.passed c.args.self.now.links) before.given now.given;
        gives = gives_next new pieces from number before.given now.given piece still c.in-Some.ensures.found now.is_given;
        leave = subst (λ (all : List Passage). OnlyLeave all (before.given ++ now.given) first new) (sym (next_to_give pieces from number piece gives.onwards c.in-Some.ensures.found)) leave;
      };
    }
