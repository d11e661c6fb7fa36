use Rattle.std.proofs.Common.{◌∙◌, sym, ap, arith}
use Rattle.game_def.specs.Text.{lines}
use Rattle.game_def.specs.Reading.{gamedef_from}
use Rattle.game_def.proofs.Following.{gamedef_found, gamedef_missing, gamedef_later, gamedef_none}
use Rattle.game_def.proofs.body.after_gamedef.Goals as goal

pub returns-then-is_gamedef-clause-value : goal.returns-then-is_gamedef-clause-value
returns-then-is_gamedef-clause-value c =
    sym c.loop-line.invariant.whole ∙ ap (gamedef_from c.loop-line.read) c.in-Some.ensures.value
    ∙ gamedef_found c.loop-line.read c.in-Some.line.now (lines c.in-Some.after.now) (sym c.is_gamedef.ensures ∙ c.if-is_gamedef.true)

pub returns-then-not-is_blank-clause-value : goal.returns-then-not-is_blank-clause-value
returns-then-not-is_blank-clause-value c = rw c.at.ensures (sym c.loop-line.invariant.whole ∙ ap (gamedef_from c.loop-line.read) c.in-Some.ensures.value
    ∙ gamedef_missing c.loop-line.read c.in-Some.line.now (lines c.in-Some.after.now) (sym c.is_gamedef.ensures ∙ c.if-is_gamedef.false) (sym c.is_blank.ensures ∙ c.if-not-is_blank.true))

pub loop-line-preserved : goal.loop-line-preserved
loop-line-preserved c =
    record {
      whole = sym (gamedef_later c.loop-line.read c.in-Some.line.now (lines c.in-Some.after.now) (sym c.is_blank.ensures ∙ c.if-not-is_blank.false))
          ∙ ap (gamedef_from c.loop-line.read) (sym c.in-Some.ensures.value) ∙ c.loop-line.invariant.whole;
      within = omega (arith, c.loop-line.invariant.within, c.in-Some.ensures.shorter);
    }

pub returns-clause-value : goal.returns-clause-value
returns-clause-value c = rw c.at-2.ensures (sym c.loop-line.invariant.whole ∙ ap (gamedef_from c.loop-line.read) c.in_default.ensures.value ∙ gamedef_none c.loop-line.read)
