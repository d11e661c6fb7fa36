use Rattle.std.proofs.Common.{◌∙◌, ap, length, Option, ℕ}
use Rattle.std.specs.Prelude.{unwrap_or}
use Rattle.game_def.proofs.Splitting.{end_by_position, end_within}
use Rattle.game_def.proofs.text.word_len.Goals as goal

pub returns-clause-value : goal.returns-clause-value
returns-clause-value c = c.unwrap_or.ensures ∙ ap (λ (o : Option ℕ). unwrap_or o (length c.args.text.now)) c.word_end.ensures ∙ end_by_position c.args.text.now

pub returns-clause-within : goal.returns-clause-within
returns-clause-within c =
    rw (c.unwrap_or.ensures ∙ ap (λ (o : Option ℕ). unwrap_or o (length c.args.text.now)) c.word_end.ensures ∙ end_by_position c.args.text.now) (end_within c.args.text.now)
