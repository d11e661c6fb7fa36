use Rattle.std.proofs.Common.{◌≡◌, ℕ, ◌+◌, List, ◌∷◌, ◌++◌, drop, length, inl, inr, refl, ap, sym, ◌∙◌, arith}
use Rattle.std.proofs.lemmas.Grind.{common_steps}
use Rattle.relay_runs.specs.Heard.{AddsSaid}
use Rattle.relay_runs.proofs.Lines.{behind_line, meant_as, seats, is_heard}
use Rattle.relay_runs.proofs.Hearing.{heard_rest, heard_quiet, heard_says}
use Rattle.relay_runs.proofs.Keeping.{kept_quiet, kept_says}
use Rattle.relay_runs.proofs.desk.Desk.take_saying.Goals as goal

pub returns-then-self-clause-stays : goal.returns-then-self-clause-stays
returns-then-self-clause-stays c = record {
  kept = λ passed.
      let raw : List ℕ = c.in-Some.raw.now in
      let rest : List ℕ = c.in-Some.field-0-1.now in
      let front : c.args.self.now.from_bot.waiting ≡ raw ++ 10 ∷ rest = sym c.waiting.ensures ∙ c.in-Some.ensures.found.0 in
      kept_quiet _ _ passed refl refl refl refl refl refl (λ off. off)
      (heard_rest _ _ _ raw rest refl refl refl front (c.skip.ensures.waiting ∙ (ap (λ (l : List ℕ). drop (length raw + 1) l) front ∙ behind_line raw rest)) c.if-self.true refl refl c.in-Some.ensures.found.1);
}

pub returns-then-text-gt-LONGEST_LINE-clause-stays : goal.returns-then-text-gt-LONGEST_LINE-clause-stays
returns-then-text-gt-LONGEST_LINE-clause-stays c = record {
  kept = λ passed.
      let raw : List ℕ = c.in-Some.raw.now in
      let rest : List ℕ = c.in-Some.field-0-1.now in
      let front : c.args.self.now.from_bot.waiting ≡ raw ++ 10 ∷ rest = sym c.waiting.ensures ∙ c.in-Some.ensures.found.0 in
      kept_quiet _ _ passed refl refl refl refl refl refl (λ off. off)
      (heard_quiet _ _ _ raw rest refl refl refl front (c.skip-then-text-gt-LONGEST_LINE.ensures.waiting ∙ (ap (λ (l : List ℕ). drop (length raw + 1) l) front ∙ behind_line raw rest)) refl c.if-self.false c.in-Some.ensures.found.1
      (AddsSaid.passed _ (record { text = c.text_of-text.result.now; is_text = c.text_of-text.ensures; reason = inr (grind (arith, common_steps)) })));
}

pub returns-then-is_comment-clause-stays : goal.returns-then-is_comment-clause-stays
returns-then-is_comment-clause-stays c = record {
  kept = λ passed.
      let raw : List ℕ = c.in-Some.raw.now in
      let rest : List ℕ = c.in-Some.field-0-1.now in
      let front : c.args.self.now.from_bot.waiting ≡ raw ++ 10 ∷ rest = sym c.waiting.ensures ∙ c.in-Some.ensures.found.0 in
      kept_quiet _ _ passed refl refl refl refl refl refl (λ off. off)
      (heard_quiet _ _ _ raw rest refl refl refl front (c.skip-then-is_comment.ensures.waiting ∙ (ap (λ (l : List ℕ). drop (length raw + 1) l) front ∙ behind_line raw rest)) refl c.if-self.false c.in-Some.ensures.found.1
      (AddsSaid.passed _ (record { text = c.text_of-text.result.now; is_text = c.text_of-text.ensures; reason = inl (sym c.is_comment.ensures ∙ c.if-is_comment.true) })));
}

pub returns-then-not-self-clause-stays : goal.returns-then-not-self-clause-stays
returns-then-not-self-clause-stays c = record {
  kept = λ passed.
      let raw : List ℕ = c.in-Some.raw.now in
      let rest : List ℕ = c.in-Some.field-0-1.now in
      let front : c.args.self.now.from_bot.waiting ≡ raw ++ 10 ∷ rest = sym c.waiting.ensures ∙ c.in-Some.ensures.found.0 in
      kept_quiet _ _ passed refl refl refl refl refl refl (λ off. c.if-not-self.true)
      (heard_quiet _ _ _ raw rest refl refl refl front (c.skip-then-not-self.ensures.waiting ∙ (ap (λ (l : List ℕ). drop (length raw + 1) l) front ∙ behind_line raw rest)) refl c.if-self.false c.in-Some.ensures.found.1
      (seats _ _ _ _ c.if-not-self.true c.text_of-text.ensures (c.is_version.ensures c.if-not-is_version.false)));
}

pub returns-clause-stays : goal.returns-clause-stays
returns-clause-stays c = record {
  kept = λ passed.
      let raw : List ℕ = c.in-Some.raw.now in
      let rest : List ℕ = c.in-Some.field-0-1.now in
      let front : c.args.self.now.from_bot.waiting ≡ raw ++ 10 ∷ rest = sym c.waiting.ensures ∙ c.in-Some.ensures.found.0 in
      kept_says _ _ passed _ c.in_ok-kept.ensures.ok c.follows_events.ensures refl refl refl refl refl refl
      (heard_says _ _ _ raw rest _ refl c.in_ok-kept.ensures.ok refl front (c.skip-2.ensures.waiting ∙ (ap (λ (l : List ℕ). drop (length raw + 1) l) front ∙ behind_line raw rest)) refl c.if-self.false refl c.if-not-self.false c.in-Some.ensures.found.1
      (is_heard _ _ c.text_of-text.ensures (sym c.is_comment.ensures ∙ c.if-is_comment.false) (grind (arith, common_steps)))
      (record { text = c.text_of-text.result.now; is_text = c.text_of-text.ensures; meant = meant_as _ _ _ _ c.in_ok-instead.ensures.some c.said_for.ensures.own c.said_for.ensures.other }));
}
