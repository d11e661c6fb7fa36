use Rattle.std.proofs.Common.{◌≡◌, ℕ, ◌+◌, List, ◌∷◌, ◌++◌, ◌<◌, drop, length, get_or, refl, ap, sym, ◌∙◌, arith}
use Rattle.std.proofs.lemmas.Grind.{common_steps}
use Rattle.std.proofs.lemmas.List.{get_or_default}
use Rattle.byte_queue.specs.Queued.{Queued}
use Rattle.seat_relay.specs.Relaying.{with_place}
use Rattle.relay_runs.specs.Said.{ended, nothing_waits}
use Rattle.relay_runs.specs.Heard.{IsLineOf}
use Rattle.relay_runs.proofs.Lines.{behind_line, no_line}
use Rattle.relay_runs.proofs.Waiting.{set_back}
use Rattle.relay_runs.proofs.Hearing.{heard_told, heard_closes, heard_passed}
use Rattle.relay_runs.proofs.Keeping.{kept_quiet, kept_closes, kept_given, kept_old, kept_idle}
use Rattle.relay_runs.proofs.desk.Desk.take_line.Goals as goal

pub returns-then-is_over : goal.returns-then-is_over
returns-then-is_over c = record {
  kept = λ passed.
      let within : c.args.node < length c.args.self.now.from_nodes.items = grind (arith, common_steps) in
      let slot : c.in-Some.came.now ≡ get_or c.args.self.now.from_nodes.items c.args.node nothing_waits = c.in-Some.ensures.value ∙ get_or_default c.args.self.now.from_nodes.items c.args.node c.in-Some.came.now nothing_waits within in
      let whole : c.in-Some.came.now.waiting ≡ c.in-Some-cut.raw.now ++ 10 ∷ c.in-Some-cut.field-0-1.now = sym c.waiting.ensures ∙ c.in-Some-cut.ensures.found.0 in
      kept_closes _ _ passed _ c.closes.ensures c.follows_events.ensures refl refl refl refl refl refl
      (heard_closes _ _ _ c.args.node c.skip.new.self c.in-Some-cut.raw.now c.in-Some-cut.field-0-1.now c.text_of-text.result.now refl c.closes.ensures refl within (ap (λ (q : Queued). q.waiting) (sym slot) ∙ whole)
      (c.skip.ensures.waiting ∙ (ap (λ (l : List ℕ). drop (length c.in-Some-cut.raw.now + 1) l) whole ∙ behind_line c.in-Some-cut.raw.now c.in-Some-cut.field-0-1.now))
      c.in-Some-cut.ensures.found.1 c.text_of-text.ensures (c.is_over.ensures.yes c.if-is_over.true) refl refl refl);
}

pub returns-in_default-place_of : goal.returns-in_default-place_of
returns-in_default-place_of c = record {
  kept = λ passed.
      let within : c.args.node < length c.args.self.now.from_nodes.items = grind (arith, common_steps) in
      let slot : c.in-Some.came.now ≡ get_or c.args.self.now.from_nodes.items c.args.node nothing_waits = c.in-Some.ensures.value ∙ get_or_default c.args.self.now.from_nodes.items c.args.node c.in-Some.came.now nothing_waits within in
      let whole : c.in-Some.came.now.waiting ≡ c.in-Some-cut.raw.now ++ 10 ∷ c.in-Some-cut.field-0-1.now = sym c.waiting.ensures ∙ c.in-Some-cut.ensures.found.0 in
      kept_quiet _ _ passed refl refl refl refl refl refl (λ off. off)
      (heard_passed _ _ _ c.args.node c.skip-in_default-place_of.new.self c.in-Some-cut.raw.now c.in-Some-cut.field-0-1.now c.text_of-text.result.now refl refl refl within (ap (λ (q : Queued). q.waiting) (sym slot) ∙ whole)
      (c.skip-in_default-place_of.ensures.waiting ∙ (ap (λ (l : List ℕ). drop (length c.in-Some-cut.raw.now + 1) l) whole ∙ behind_line c.in-Some-cut.raw.now c.in-Some-cut.field-0-1.now))
      c.in-Some-cut.ensures.found.1 c.text_of-text.ensures (no_line _ _ _ c.text_of-text.ensures c.in_default-place_of.is c.place_of.ensures.only) (c.is_over.ensures.no c.if-is_over.false) refl refl refl);
}

pub returns-then-not-is_taken : goal.returns-then-not-is_taken
returns-then-not-is_taken c = record {
  kept = λ passed.
      let within : c.args.node < length c.args.self.now.from_nodes.items = grind (arith, common_steps) in
      let slot : c.in-Some.came.now ≡ get_or c.args.self.now.from_nodes.items c.args.node nothing_waits = c.in-Some.ensures.value ∙ get_or_default c.args.self.now.from_nodes.items c.args.node c.in-Some.came.now nothing_waits within in
      kept_idle _ _ passed passed refl refl refl refl refl (λ other. refl) (set_back _ _ _ within (ap (λ (q : Queued). q.waiting) slot)) refl refl refl refl;
}

pub returns-then-given : goal.returns-then-given
returns-then-given c = record {
  kept = λ passed.
      let within : c.args.node < length c.args.self.now.from_nodes.items = grind (arith, common_steps) in
      let slot : c.in-Some.came.now ≡ get_or c.args.self.now.from_nodes.items c.args.node nothing_waits = c.in-Some.ensures.value ∙ get_or_default c.args.self.now.from_nodes.items c.args.node c.in-Some.came.now nothing_waits within in
      let whole : c.in-Some.came.now.waiting ≡ c.in-Some-cut.raw.now ++ 10 ∷ c.in-Some-cut.field-0-1.now = sym c.waiting.ensures ∙ c.in-Some-cut.ensures.found.0 in
      let is_line : IsLineOf c.in-Some-cut.raw.now (with_place c.text_of-text.result.now c.in-Some-place_of.place) =
      record { text = c.text_of-text.ensures; short = grind (arith, common_steps); placed = c.in-Some-place_of.ensures.found } in
      kept_given _ _ passed _ _ c.in_ok-given.ensures.ok c.follows_events-2.ensures refl refl refl (c.put_line.ensures ∙ ap (λ (l : List ℕ). l ++ ended c.text_of-text.result.now) c.reserve.ensures.waiting) refl
      (sym c.in_ok-given.ensures.given ∙ c.if-given.true) (grind (arith, common_steps)) (grind (arith, common_steps)) refl
      (heard_told _ _ _ c.args.node c.skip-then-given.new.self c.in-Some-cut.raw.now c.in-Some-cut.field-0-1.now _ refl c.in_ok-given.ensures.ok refl within (ap (λ (q : Queued). q.waiting) (sym slot) ∙ whole)
      (c.skip-then-given.ensures.waiting ∙ (ap (λ (l : List ℕ). drop (length c.in-Some-cut.raw.now + 1) l) whole ∙ behind_line c.in-Some-cut.raw.now c.in-Some-cut.field-0-1.now))
      c.in-Some-cut.ensures.found.1 is_line refl refl refl);
}

pub returns : goal.returns
returns c = record {
  kept = λ passed.
      let within : c.args.node < length c.args.self.now.from_nodes.items = grind (arith, common_steps) in
      let slot : c.in-Some.came.now ≡ get_or c.args.self.now.from_nodes.items c.args.node nothing_waits = c.in-Some.ensures.value ∙ get_or_default c.args.self.now.from_nodes.items c.args.node c.in-Some.came.now nothing_waits within in
      let whole : c.in-Some.came.now.waiting ≡ c.in-Some-cut.raw.now ++ 10 ∷ c.in-Some-cut.field-0-1.now = sym c.waiting.ensures ∙ c.in-Some-cut.ensures.found.0 in
      let is_line : IsLineOf c.in-Some-cut.raw.now (with_place c.text_of-text.result.now c.in-Some-place_of.place) =
      record { text = c.text_of-text.ensures; short = grind (arith, common_steps); placed = c.in-Some-place_of.ensures.found } in
      kept_old _ _ passed _ _ c.in_ok-given.ensures.ok c.follows_events-2.ensures refl refl refl c.reserve.ensures.waiting refl (sym c.in_ok-given.ensures.given ∙ c.if-given.false) refl
      (heard_told _ _ _ c.args.node c.skip-2.new.self c.in-Some-cut.raw.now c.in-Some-cut.field-0-1.now _ refl c.in_ok-given.ensures.ok refl within (ap (λ (q : Queued). q.waiting) (sym slot) ∙ whole)
      (c.skip-2.ensures.waiting ∙ (ap (λ (l : List ℕ). drop (length c.in-Some-cut.raw.now + 1) l) whole ∙ behind_line c.in-Some-cut.raw.now c.in-Some-cut.field-0-1.now))
      c.in-Some-cut.ensures.found.1 is_line refl refl refl);
}

pub returns-in_default-cut : goal.returns-in_default-cut
returns-in_default-cut c = record {
  kept = λ passed.
      let within : c.args.node < length c.args.self.now.from_nodes.items = grind (arith, common_steps) in
      let slot : c.in-Some.came.now ≡ get_or c.args.self.now.from_nodes.items c.args.node nothing_waits = c.in-Some.ensures.value ∙ get_or_default c.args.self.now.from_nodes.items c.args.node c.in-Some.came.now nothing_waits within in
      kept_idle _ _ passed passed refl refl refl refl refl (λ other. refl) (set_back _ _ _ within (ap (λ (q : Queued). q.waiting) slot)) refl refl refl refl;
}

pub returns-then-text-gt-LONGEST_LINE : goal.returns-then-text-gt-LONGEST_LINE
returns-then-text-gt-LONGEST_LINE c = record {
  kept = λ passed.
      let within : c.args.node < length c.args.self.now.from_nodes.items = grind (arith, common_steps) in
      let slot : c.in-Some.came.now ≡ get_or c.args.self.now.from_nodes.items c.args.node nothing_waits = c.in-Some.ensures.value ∙ get_or_default c.args.self.now.from_nodes.items c.args.node c.in-Some.came.now nothing_waits within in
      kept_idle _ _ passed passed refl refl refl refl refl (λ other. refl) (set_back _ _ _ within (ap (λ (q : Queued). q.waiting) slot)) refl refl refl refl;
}

pub returns-then-not-is_comment : goal.returns-then-not-is_comment
returns-then-not-is_comment c = record {
  kept = λ passed.
      let within : c.args.node < length c.args.self.now.from_nodes.items = grind (arith, common_steps) in
      let slot : c.in-Some.came.now ≡ get_or c.args.self.now.from_nodes.items c.args.node nothing_waits = c.in-Some.ensures.value ∙ get_or_default c.args.self.now.from_nodes.items c.args.node c.in-Some.came.now nothing_waits within in
      kept_idle _ _ passed passed refl refl refl refl refl (λ other. refl) (set_back _ _ _ within (ap (λ (q : Queued). q.waiting) slot)) refl refl refl refl;
}

pub returns-in_err-reserve : goal.returns-in_err-reserve
returns-in_err-reserve c = record {
  kept = λ passed.
      let within : c.args.node < length c.args.self.now.from_nodes.items = grind (arith, common_steps) in
      let slot : c.in-Some.came.now ≡ get_or c.args.self.now.from_nodes.items c.args.node nothing_waits = c.in-Some.ensures.value ∙ get_or_default c.args.self.now.from_nodes.items c.args.node c.in-Some.came.now nothing_waits within in
      kept_idle _ _ passed passed refl refl refl refl c.reserve.ensures.waiting (λ other. refl) (set_back _ _ _ within (ap (λ (q : Queued). q.waiting) slot)) refl refl refl refl;
}

pub returns-in_err-given : goal.returns-in_err-given
returns-in_err-given c = record {
  kept = λ passed.
      let within : c.args.node < length c.args.self.now.from_nodes.items = grind (arith, common_steps) in
      let slot : c.in-Some.came.now ≡ get_or c.args.self.now.from_nodes.items c.args.node nothing_waits = c.in-Some.ensures.value ∙ get_or_default c.args.self.now.from_nodes.items c.args.node c.in-Some.came.now nothing_waits within in
      kept_idle _ _ passed passed refl refl refl c.in_err-given.ensures.err c.reserve.ensures.waiting (λ other. refl) (set_back _ _ _ within (ap (λ (q : Queued). q.waiting) slot)) refl refl refl refl;
}

pub returns-then-waiting-ge-BACKLOG : goal.returns-then-waiting-ge-BACKLOG
returns-then-waiting-ge-BACKLOG c = record {
  kept = λ passed.
      let within : c.args.node < length c.args.self.now.from_nodes.items = grind (arith, common_steps) in
      let slot : c.in-Some.came.now ≡ get_or c.args.self.now.from_nodes.items c.args.node nothing_waits = c.in-Some.ensures.value ∙ get_or_default c.args.self.now.from_nodes.items c.args.node c.in-Some.came.now nothing_waits within in
      kept_idle _ _ passed passed refl refl refl refl refl (λ other. refl) (set_back _ _ _ within (ap (λ (q : Queued). q.waiting) slot)) refl refl refl refl;
}
