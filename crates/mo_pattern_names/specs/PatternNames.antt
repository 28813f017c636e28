-- The names in a pattern (Motoko language manual, "Patterns").
use Rattle.std.specs.Prelude.{List, [], ◌∷◌, ◌++◌, Option, Some, None, map}
use Rattle.std.specs.List.{flat_map}
use Rattle.mo_syntax.specs.declared.name.Name.{Name}
use Rattle.mo_syntax.specs.declared.patterns.Pattern.{Pattern, Pattern-F, fold-Pattern}
use Rattle.mo_syntax.specs.declared.patterns.PatternField.{PatternField, fold-PatternField}
use Rattle.mo_syntax.specs.declared.patterns.Parameters.{Parameters}
use Rattle.mo_syntax.specs.declared.patterns.Parameters.TheVariants as parameters
use Rattle.mo_syntax.specs.declared.patterns.Pattern.TheOpen as F
use Rattle.mo_scopes.specs.Findings.{Names, InScope, identifier, label, together, nothing}
use Rattle.mo_pattern_names.specs.TypeNames.{in_type}

-- the names that a part binds, and what is found in it
pub record Binder : Type 0 where
  pub names : Names
  pub finds : InScope

abbrev pub bound_names : List Binder → Names
bound_names binders = flat_map (λ b. b.names) binders

abbrev pub each_binder : List Binder → InScope
each_binder binders s = flat_map (λ b. b.finds s) binders

abbrev pub optional : Option Binder → Binder
optional None = record { names = []; finds = nothing }
optional (Some p) = p

-- ---- by one layer of the pattern over its parts

abbrev pub pattern_step : Pattern-F Binder Binder → Binder
pattern_step (F.Annotated p a) = record { names = p.names; finds = λ s. p.finds s ++ in_type a s }
pattern_step (F.Alternative p q) = record { names = p.names ++ q.names; finds = λ s. p.finds s ++ q.finds s }
pattern_step (F.Optional p) = p
pattern_step (F.Tagged x p) = record { names = (optional p).names; finds = λ s. label x ++ (optional p).finds s }
pattern_step (F.Variable x) = record { names = x ∷ []; finds = λ s. identifier x }
pattern_step F.Wildcard = record { names = []; finds = nothing }
pattern_step (F.Constant minus literal) = record { names = []; finds = nothing }
pattern_step (F.Parenthesized items) = record { names = bound_names items; finds = each_binder items }
pattern_step (F.Object fields last) = record { names = bound_names fields; finds = each_binder fields }

-- A field without a pattern binds its own name.
abbrev pub field_binder : Name → Option Binder → Binder
field_binder x None = record { names = x ∷ []; finds = λ s. label x }
field_binder x (Some p) = record { names = p.names; finds = λ s. label x ++ p.finds s }

abbrev pub pattern_field_step : F.PatternField-F Binder Binder → Binder
pattern_field_step x = field_binder x.name x.pattern

unfoldable pub in_pattern : Pattern → Binder
in_pattern = fold-Pattern Binder Binder pattern_step pattern_field_step

unfoldable pub in_pattern_field : PatternField → Binder
in_pattern_field = fold-PatternField Binder Binder pattern_step pattern_field_step

-- ---- parameters

abbrev pub in_parameters : Parameters → Binder
in_parameters (parameters.List patterns) = record { names = bound_names (map in_pattern patterns); finds = each_binder (map in_pattern patterns) }
in_parameters (parameters.Single x) = record { names = x ∷ []; finds = λ s. identifier x }

-- A whole pattern, or a whole list of parameters, binds no name twice.
abbrev pub whole : Binder → InScope
whole b s = b.finds s ++ together b.names
