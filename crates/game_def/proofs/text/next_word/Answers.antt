use Rattle.std.proofs.Common.{◌∙◌, ap, sym}
use Rattle.game_def.specs.Text.{words}
use Rattle.game_def.proofs.Splitting.{words_nil, words_comment, words_sign, words_first, no_text, some_text}
use Rattle.game_def.proofs.text.next_word.Goals as goal

pub returns-then-is_empty : goal.returns-then-is_empty
returns-then-is_empty c =
    sym c.skip_blanks-rest.ensures.same ∙ ap words (no_text c.skip_blanks-rest.result.now (sym c.is_empty.ensures ∙ c.if-is_empty.true)) ∙ words_nil

pub returns-then-rest-eq35 : goal.returns-then-rest-eq35
returns-then-rest-eq35 c =
    sym c.skip_blanks-rest.ensures.same ∙ words_comment c.skip_blanks-rest.result.now (some_text c.skip_blanks-rest.result.now (sym c.is_empty.ensures ∙ c.if-is_empty.false)) c.if-rest-eq35.true

pub returns-then-rest-eq61 : goal.returns-then-rest-eq61
returns-then-rest-eq61 c =
    let some = some_text c.skip_blanks-rest.result.now (sym c.is_empty.ensures ∙ c.if-is_empty.false) in
    rw (c.split_at.ensures.front, c.split_at.ensures.back) (sym c.skip_blanks-rest.ensures.same ∙ words_sign c.skip_blanks-rest.result.now some c.if-rest-eq61.true)

pub returns : goal.returns
returns c =
    let some = some_text c.skip_blanks-rest.result.now (sym c.is_empty.ensures ∙ c.if-is_empty.false) in
    rw (c.split_at-2.ensures.front, c.split_at-2.ensures.back, c.word_len.ensures.value)
    (sym c.skip_blanks-rest.ensures.same ∙ words_first c.skip_blanks-rest.result.now some (c.skip_blanks-rest.ensures.first some) c.if-rest-eq35.false c.if-rest-eq61.false)
