use Rattle.std.proofs.Common.{◌≡◌, ℕ, List, ◌++◌, ◌<◌, length, get_or, Some, refl, ap, sym, ◌∙◌, arith}
use Rattle.std.proofs.lemmas.Grind.{common_steps}
use Rattle.std.proofs.lemmas.List.{get_or_default}
use Rattle.byte_queue.specs.Queued.{Queued}
use Rattle.relay_runs.specs.Said.{ended, nothing_waits, waits_at}
use Rattle.relay_runs.proofs.Waiting.{set_back}
use Rattle.relay_runs.proofs.Hearing.{heard_pushes}
use Rattle.relay_runs.proofs.Keeping.{kept_said, kept_unsaid, kept_idle}
use Rattle.relay_runs.proofs.desk.Desk.say.Goals as goal

pub returns-then-may : goal.returns-then-may
returns-then-may c = record {
  kept = λ passed.
      let within : c.args.node < length c.args.self.now.to_nodes.items = grind (arith, common_steps) in
      let slot : c.in-Some.waiting.now ≡ get_or c.args.self.now.to_nodes.items c.args.node nothing_waits = c.in-Some.ensures.value ∙ get_or_default c.args.self.now.to_nodes.items c.args.node c.in-Some.waiting.now nothing_waits within in
      let waited : c.reserve.new.self.waiting ≡ waits_at c.args.self.now.to_nodes.items c.args.node = c.reserve.ensures.waiting ∙ ap (λ (q : Queued). q.waiting) slot in
      kept_said _ _ passed c.args.node c.put_line.new.waiting c.in_ok-answer.answer.items c.pushes-may.ensures.new c.follows_events.ensures refl refl refl refl refl within
      (c.put_line.ensures ∙ (ap (λ (l : List ℕ). l ++ ended c.deref.result.now) waited ∙ ap (λ (l : List ℕ). waits_at c.args.self.now.to_nodes.items c.args.node ++ ended l) c.deref.ensures.value))
      (sym c.in-Some-answer.ensures ∙ ap Some (sym c.in_ok-answer.ensures.items)) (sym c.pushes-may.ensures.may ∙ c.if-may.true) (grind (arith, common_steps)) refl (heard_pushes _ _ _ _ refl c.pushes-may.ensures.new refl refl refl refl);
}

pub returns : goal.returns
returns c = record {
  kept = λ passed.
      let within : c.args.node < length c.args.self.now.to_nodes.items = grind (arith, common_steps) in
      let slot : c.in-Some.waiting.now ≡ get_or c.args.self.now.to_nodes.items c.args.node nothing_waits = c.in-Some.ensures.value ∙ get_or_default c.args.self.now.to_nodes.items c.args.node c.in-Some.waiting.now nothing_waits within in
      let waited : c.reserve.new.self.waiting ≡ waits_at c.args.self.now.to_nodes.items c.args.node = c.reserve.ensures.waiting ∙ ap (λ (q : Queued). q.waiting) slot in
      kept_unsaid _ _ passed c.args.node c.reserve.new.self c.pushes-may.ensures.new c.follows_events.ensures refl refl refl refl refl within waited (sym c.pushes-may.ensures.may ∙ c.if-may.false) refl (heard_pushes _ _ _ _ refl c.pushes-may.ensures.new refl refl refl refl);
}

pub returns-in_default-answer : goal.returns-in_default-answer
returns-in_default-answer c = record {
  kept = λ passed.
      let within : c.args.node < length c.args.self.now.to_nodes.items = grind (arith, common_steps) in
      let slot : c.in-Some.waiting.now ≡ get_or c.args.self.now.to_nodes.items c.args.node nothing_waits = c.in-Some.ensures.value ∙ get_or_default c.args.self.now.to_nodes.items c.args.node c.in-Some.waiting.now nothing_waits within in
      kept_idle _ _ passed passed refl refl refl refl refl (set_back _ _ _ within (ap (λ (q : Queued). q.waiting) slot)) (λ other. refl) refl refl refl refl;
}

pub returns-in_err-answer : goal.returns-in_err-answer
returns-in_err-answer c = record {
  kept = λ passed.
      let within : c.args.node < length c.args.self.now.to_nodes.items = grind (arith, common_steps) in
      let slot : c.in-Some.waiting.now ≡ get_or c.args.self.now.to_nodes.items c.args.node nothing_waits = c.in-Some.ensures.value ∙ get_or_default c.args.self.now.to_nodes.items c.args.node c.in-Some.waiting.now nothing_waits within in
      kept_idle _ _ passed passed refl refl refl refl refl (set_back _ _ _ within (ap (λ (q : Queued). q.waiting) slot)) (λ other. refl) refl refl refl refl;
}

pub returns-then-not-is_empty : goal.returns-then-not-is_empty
returns-then-not-is_empty c = record {
  kept = λ passed.
      let within : c.args.node < length c.args.self.now.to_nodes.items = grind (arith, common_steps) in
      let slot : c.in-Some.waiting.now ≡ get_or c.args.self.now.to_nodes.items c.args.node nothing_waits = c.in-Some.ensures.value ∙ get_or_default c.args.self.now.to_nodes.items c.args.node c.in-Some.waiting.now nothing_waits within in
      kept_idle _ _ passed passed refl refl refl refl refl (set_back _ _ _ within (ap (λ (q : Queued). q.waiting) slot)) (λ other. refl) refl refl refl refl;
}

pub returns-in_err-reserve : goal.returns-in_err-reserve
returns-in_err-reserve c = record {
  kept = λ passed.
      let within : c.args.node < length c.args.self.now.to_nodes.items = grind (arith, common_steps) in
      let slot : c.in-Some.waiting.now ≡ get_or c.args.self.now.to_nodes.items c.args.node nothing_waits = c.in-Some.ensures.value ∙ get_or_default c.args.self.now.to_nodes.items c.args.node c.in-Some.waiting.now nothing_waits within in
      kept_idle _ _ passed passed refl refl refl refl refl (set_back _ _ _ within (c.reserve.ensures.waiting ∙ ap (λ (q : Queued). q.waiting) slot)) (λ other. refl) refl refl refl refl;
}
