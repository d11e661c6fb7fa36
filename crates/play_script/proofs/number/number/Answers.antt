use Rattle.std.proofs.Common.{◌≡◌, sym}
use Rattle.play_script.proofs.Numbers.{number_absent, digits_are_text}
use Rattle.play_script.proofs.number.number.Goals as goal

pub returns-in-Err-parse : goal.returns-in-Err-parse
returns-in-Err-parse c =
    let text : c.in-Ok.text.now ≡ c.args.bytes.now = c.in-Ok.ensures.cases.0 in
    rw (← text) (number_absent c.in-Ok.text.now c.parse.result c.parse.ensures.value.0 (λ n e. let was = c.in-Err-parse.is in cc))

pub returns-in-Err : goal.returns-in-Err
returns-in-Err c = absurd (c.in-Err.ensures.cases.0 (digits_are_text c.args.bytes.now (sym c.if-not-are_digits.ensures)))
