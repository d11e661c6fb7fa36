use Rattle.std.proofs.Common.{◌≡◌, ◌≤◌, ℕ, [], Vec, Global, Err, length, refl, ap, sym, subst, ◌∙◌, rules}
use Rattle.std.proofs.lemmas.Result.{on_ok_weaker}
use Rattle.std.proofs.lemmas.List.{append-nil}
use Rattle.dealer_node.specs.declared.fault.NodeFault.TheVariants as fault
use Rattle.dealer_world.specs.Viewing.{view_of}
use Rattle.serving.specs.Giving.{to_give}
use Rattle.serving.specs.Going.{piece_after}
use Rattle.serving.specs.Serving.{served_of}
use Rattle.serving.specs.Turned.{Ends}
use Rattle.serving.proofs.Turns.{passes_from, passes_none, still_within}
use Rattle.serving.proofs.server.Server.give.Goals as goal

pub returns-then-is_out_of_memory-clause-gave : goal.returns-then-is_out_of_memory-clause-gave
returns-then-is_out_of_memory-clause-gave g c =
    let none : c.step-answer.result ≡ Err fault.OutOfMemory = search rules in
    let old = view_of c.args.self.now.cluster in
    let new = view_of c.step-answer.new.self in
    record {
      called = c.step-answer.result;
      of_match = c.requires;
      stepped = c.step-answer.ensures.stepped;
      tells = none;
      again = λ same. (refl, refl, refl);
      given = λ ample. absurd (ample none);
      passes = passes_none (served_of c.args.self.now) _ refl refl
          (still_within g.D.Disk c.args.self.now.desk.shown old new c.args.waiting.event c.step-answer.result c.step-answer.ensures.stepped c.args.self.now.shown);
      went = tt;
      all_given = tt;
      refused = search rules;
      named = λ ample. absurd (ample none);
      piece = λ ample. absurd (ample none);
    }

pub invariant_of-self-2-clause-shown : goal.invariant_of-self-2-clause-shown
invariant_of-self-2-clause-shown g c =
    let old = view_of c.args.self.now.cluster in
    let new = view_of c.step-answer.new.self in
    subst (λ (k : ℕ). k ≤ length new.all.shown) (sym c.settle_event.ensures.shown)
    (still_within g.D.Disk c.args.self.now.desk.shown old new c.args.waiting.event c.step-answer.result c.step-answer.ensures.stepped c.args.self.now.shown)

pub returns-clause-gave : goal.returns-clause-gave
returns-clause-gave g c =
    let ample : c.step-answer.result ≡ Err fault.OutOfMemory → ⊥ = search rules in
    let closed = c.close_turn-turn.ensures.closes in
    let still = c.close_turn-turn.ensures.still in
    let now = view_of c.close_turn-turn.new.self.cluster in
    let shown = c.close_turn-turn.new.self.desk.shown in
    let passes = passes_from [] _ (served_of c.args.self.now) (served_of c.close_turn-turn.new.self) c.settle_event.ensures.shown
    (c.settle_event.ensures.passed ∙ sym (append-nil _)) closed.passes in
    record {
      called = c.step-answer.result;
      of_match = c.requires;
      stepped = rw still.cluster c.step-answer.ensures.stepped;
      tells = closed.tells;
      again = λ none. absurd (ample none);
      given = λ _. c.close_turn-turn.ensures.waiting;
      passes = record { given = closed.passes.given; passed = passes.passed; gives = passes.gives };
      went = on_ok_weaker c.close_turn-turn.result (λ ends. record {
        settled = c.settle_event.new.self.progress;
        settles = rw still.cluster c.settle_event.ensures.settled;
        ends = subst (λ (k : ℕ). Ends c.step-answer.result c.args.waiting (to_give now.all.shown k shown) closed.passes.given c.settle_event.new.self.progress c.close_turn-turn.new.self.desk.progress)
            c.settle_event.ensures.shown ends;
      }) closed.ends;
      all_given = closed.all_given;
      refused = still.refused ∙ (c.settle_event.ensures.refused ∙ search rules);
      named = λ _. still.called ∙ c.settle_event.ensures.called;
      piece = λ _. c.keep_piece.ensures ∙ ap (λ (kept : Vec ℕ Global). piece_after c.args.waiting.event kept.items) still.piece;
    }
