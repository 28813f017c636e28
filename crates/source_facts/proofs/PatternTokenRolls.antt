-- What is read off a pattern, by its layers: tokens.
use Rattle.std.proofs.Common.{◌≡◌}
use Rattle.mo_syntax.specs.declared.patterns.Pattern.{Pattern, Pattern-F, roll-Pattern, fold-roll-Pattern, map-Pattern}
use Rattle.mo_syntax.specs.declared.patterns.PatternField.{PatternField, roll-PatternField, fold-roll-PatternField, map-PatternField}
use Rattle.mo_syntax.specs.declared.patterns.Pattern.TheOpen as F
use Rattle.mo_syntax.specs.PatternGrammar.{pattern_tokens, pattern_field_tokens, pattern_step, pattern_field_step}
use Rattle.mo_syntax.specs.Writing.{Writing}

pub rolled_pattern : (y : Pattern-F Pattern PatternField) → pattern_tokens (roll-Pattern y) ≡ pattern_step (map-Pattern Pattern PatternField Writing Writing pattern_tokens pattern_field_tokens y)
unfolding pattern_tokens pattern_field_tokens
rolled_pattern y = fold-roll-Pattern Writing Writing pattern_step pattern_field_step y

pub rolled_field : (y : F.PatternField-F Pattern PatternField) → pattern_field_tokens (roll-PatternField y) ≡ pattern_field_step (map-PatternField Pattern PatternField Writing Writing pattern_tokens pattern_field_tokens y)
unfolding pattern_tokens pattern_field_tokens
rolled_field y = fold-roll-PatternField Writing Writing pattern_step pattern_field_step y
