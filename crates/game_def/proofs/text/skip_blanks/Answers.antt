use Rattle.std.proofs.Common.{◌∙◌, sym}
use Rattle.game_def.proofs.Splitting.{words_skip, skip_first, skip_none, skip_some, from_place}
use Rattle.game_def.proofs.text.skip_blanks.Goals as goal

pub returns-in-Some-clause-same : goal.returns-in-Some-clause-same
returns-in-Some-clause-same c =
    let at = skip_some c.args.line.now c.in-Some.start (sym c.word_start.ensures ∙ c.in-Some.is) in
    rw (from_place c.in-Some.start c.args.line.now, ← at) (words_skip c.args.line.now)

pub returns-in-Some-clause-first : goal.returns-in-Some-clause-first
returns-in-Some-clause-first c =
    let at = skip_some c.args.line.now c.in-Some.start (sym c.word_start.ensures ∙ c.in-Some.is) in
    rw (from_place c.in-Some.start c.args.line.now, ← at) (skip_first c.args.line.now)

pub returns-in-None-clause-same : goal.returns-in-None-clause-same
returns-in-None-clause-same c = skip_none c.args.line.now (sym c.word_start.ensures ∙ c.in-None.is)
