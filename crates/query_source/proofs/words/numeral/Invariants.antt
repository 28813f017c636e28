use Rattle.std.proofs.Common.{◌≡◌, take, ◌<◌, ◌^◌}
use Rattle.std.specs.Str.Parse.{digits_value}
use Rattle.query_source.specs.Tokens.{AreAll, is_digit}
use Rattle.query_source.proofs.words.numeral.Given as goal

abbrev pub invariant-loop-digit : goal.invariant-loop-digit
invariant-loop-digit l = record {
  all_digits : AreAll is_digit (take l.digit-index l.digits);
  value : l.number ≡ digits_value 10 (take l.digit-index l.digits);
  small : l.number < 2 ^ 63;
}
