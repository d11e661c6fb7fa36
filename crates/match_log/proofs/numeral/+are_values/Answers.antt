use Rattle.std.proofs.Common.{◌-◌, sym, ◌∙◌, subst}
use Rattle.std.proofs.lemmas.Bool.{false≢true}
use Rattle.match_log.specs.Numeral.{IsWhole}
use Rattle.match_log.proofs.Decimals.{AreValues, one_value, the_one_value, more_values, first_value}
use Rattle.match_log.proofs.numeral.+are_values.Goals as goal

pub returns-then-count-eq1 : goal.returns-then-count-eq1
returns-then-count-eq1 t c =
    (λ passed. one_value c.args.count c.args.bytes.now c.if-count-eq1.true (c.is_whole.ensures.0 passed), λ are. c.is_whole.ensures.1 (the_one_value c.args.count c.args.bytes.now c.if-count-eq1.true are))

pub returns-then-is_whole : goal.returns-then-is_whole
returns-then-is_whole t c =
    let bytes = c.args.bytes.now in (
      λ passed. more_values c.args.count bytes c.in-Some.first.now c.in-Some.later.now c.requires c.if-count-eq1.false c.in-Some.ensures.found.0 (c.is_whole-in-Some.ensures.0 c.if-is_whole.true) (c.are_values.ensures.0 passed),
      λ are.
          let parts = first_value c.args.count bytes c.requires c.if-count-eq1.false are in
          let cut = c.in-Some.ensures.only parts.first parts.later parts.free parts.is in
          c.are_values.ensures.1 (subst (AreValues (c.args.count - 1)) (sym cut.1) parts.others),
    )

pub returns-else-is_whole : goal.returns-else-is_whole
returns-else-is_whole t c =
    let bytes = c.args.bytes.now in (
      λ passed. absurd (false≢true (sym c.if-is_whole.false ∙ passed)),
      λ are.
          let parts = first_value c.args.count bytes c.requires c.if-count-eq1.false are in
          let cut = c.in-Some.ensures.only parts.first parts.later parts.free parts.is in
          c.is_whole-in-Some.ensures.1 (subst IsWhole (sym cut.0) parts.whole),
    )

pub returns-in-None : goal.returns-in-None
returns-in-None t c = (
  λ passed. absurd (false≢true passed),
  λ are.
      let parts = first_value c.args.count c.args.bytes.now c.requires c.if-count-eq1.false are in
      absurd (c.in-None.ensures.only parts.first parts.later parts.free parts.is),
)
