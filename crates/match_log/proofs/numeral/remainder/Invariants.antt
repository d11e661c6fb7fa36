use Rattle.std.proofs.Common.{◌≡◌, ◌%◌, ◌<◌, take}
use Rattle.std.specs.Str.Parse.{digits_value}
use Rattle.match_log.proofs.numeral.remainder.Given as goal

abbrev pub invariant-loop-digit : goal.invariant-loop-digit
invariant-loop-digit l = record {
  value : l.left ≡ digits_value 10 (take l.digit-index l.digits) % l.divisor;
  small : l.left < 10;
}
