-- Types and patterns that are written are as the rules' laws ask.
use Rattle.std.specs.Prelude.{ℕ}
use Rattle.mo_pattern_names.specs.PatternNames as pattern_names
use Rattle.mo_pattern_names.specs.TypeNames as type_names
use Rattle.mo_scopes.specs.declared.scope.Scope.{Scope}
use Rattle.mo_syntax.specs.declared.patterns.Pattern.{Pattern}
use Rattle.mo_syntax.specs.declared.types.TypeExpression.{TypeExpression}
use Rattle.mo_syntax.specs.PatternGrammar.{pattern_tokens}
use Rattle.mo_syntax.specs.TypeGrammar.{type_tokens}
use Rattle.typing_rules.specs.AbstractPatterns.{in_pattern}
use Rattle.typing_rules.specs.AbstractTypes.{in_type}
use Rattle.proper_laws.specs.Source.{IsTypeSource, IsPatternSource}
use Rattle.type_sources.specs.Shown.{NothingBroken, AreNameTokens}

-- where no rule on names is broken in them, wherever they stand
abbrev pub TypesAreSources : Type 0
TypesAreSources = (a : TypeExpression) (s : Scope) → NothingBroken (type_names.in_type a s) → AreNameTokens (type_tokens a) → (k : ℕ) → IsTypeSource ((in_type a).from k)

abbrev pub PatternsAreSources : Type 0
PatternsAreSources = (q : Pattern) (s : Scope) → NothingBroken ((pattern_names.in_pattern q).finds s) → AreNameTokens (pattern_tokens q) → (k : ℕ) → IsPatternSource ((in_pattern q).from k)
