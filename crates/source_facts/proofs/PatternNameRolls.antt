-- What is read off a pattern, by its layers: names that are found.
use Rattle.std.proofs.Common.{◌≡◌}
use Rattle.mo_syntax.specs.declared.patterns.Pattern.{Pattern, Pattern-F, roll-Pattern, fold-roll-Pattern, map-Pattern}
use Rattle.mo_syntax.specs.declared.patterns.PatternField.{PatternField, roll-PatternField, fold-roll-PatternField, map-PatternField}
use Rattle.mo_syntax.specs.declared.patterns.Pattern.TheOpen as F
use Rattle.mo_pattern_names.specs.PatternNames.{Binder, in_pattern, in_pattern_field, pattern_step, pattern_field_step}

pub rolled_pattern : (y : Pattern-F Pattern PatternField) → in_pattern (roll-Pattern y) ≡ pattern_step (map-Pattern Pattern PatternField Binder Binder in_pattern in_pattern_field y)
unfolding in_pattern in_pattern_field
rolled_pattern y = fold-roll-Pattern Binder Binder pattern_step pattern_field_step y

pub rolled_field : (y : F.PatternField-F Pattern PatternField) → in_pattern_field (roll-PatternField y) ≡ pattern_field_step (map-PatternField Pattern PatternField Binder Binder in_pattern in_pattern_field y)
unfolding in_pattern in_pattern_field
rolled_field y = fold-roll-PatternField Binder Binder pattern_step pattern_field_step y
