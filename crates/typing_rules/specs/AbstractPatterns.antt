-- The abstract syntax of patterns (Motoko language manual, section "Patterns").
use Rattle.std.specs.Prelude.{ℕ, ◌+◌, List, [], ◌∷◌, Option, Some, None, map}
use Rattle.mo_syntax.specs.declared.name.Name.{Name}
use Rattle.mo_syntax.specs.declared.patterns.Pattern as syntax
use Rattle.mo_syntax.specs.declared.patterns.Pattern.TheOpen as Q
use Rattle.mo_syntax.specs.declared.patterns.PatternField as pattern_field
use Rattle.mo_syntax.specs.declared.patterns.Parameters.{Parameters}
use Rattle.mo_syntax.specs.declared.patterns.Parameters.TheVariants as parameters
use Rattle.typing_rules.specs.AbstractSyntax.{Pattern, Patterns, PatternFields}
use Rattle.typing_rules.specs.AbstractSyntax as p
use Rattle.typing_rules.specs.Spans.{Span, one, name_at, literal_of, flag, listed_from, listed_size}
use Rattle.typing_rules.specs.AbstractTypes.{in_type}

abbrev pub PatternSpan : Type 0
PatternSpan = Span (Pattern ℕ)

abbrev pub patterns : List (Pattern ℕ) → Patterns ℕ
patterns [] = p.Nil
patterns (q ∷ rest) = p.Cons q (patterns rest)

abbrev pub PatternFieldSpan : Type 0
PatternFieldSpan = Span (PatternFields ℕ → PatternFields ℕ)

abbrev pub pattern_fields : List (PatternFields ℕ → PatternFields ℕ) → PatternFields ℕ
pattern_fields [] = p.NoFields
pattern_fields (f ∷ rest) = f (pattern_fields rest)

abbrev pub pattern_items : List PatternSpan → ℕ → Pattern ℕ
pattern_items (q ∷ []) k = q.from (k + 1)
pattern_items items k = p.pattern k (p.Tuple (patterns (listed_from items (k + 1))))

abbrev pub tagged_pattern : Name → Option PatternSpan → PatternSpan
tagged_pattern x None = record { size = 2; from = λ k. p.pattern k (p.Tag x.bytes) }
tagged_pattern x (Some q) = record { size = 2 + q.size; from = λ k. p.pattern k (p.Tagged x.bytes (q.from (k + 2))) }

abbrev pub pattern_step : syntax.Pattern-F PatternSpan PatternFieldSpan → PatternSpan
pattern_step (Q.Annotated q a) = record { size = q.size + 1 + (in_type a).size; from = λ k. p.pattern k (p.Annotated (q.from k) ((in_type a).from (k + q.size + 1))) }
pattern_step (Q.Alternative q r) = record { size = q.size + 1 + r.size; from = λ k. p.pattern k (p.Alternative (q.from k) (r.from (k + q.size + 1))) }
pattern_step (Q.Optional q) = record { size = 1 + q.size; from = λ k. p.pattern k (p.Optional (q.from (k + 1))) }
pattern_step (Q.Tagged x payload) = tagged_pattern x payload
pattern_step (Q.Variable x) = one (λ k. p.pattern k (p.Variable x.bytes))
pattern_step Q.Wildcard = one (λ k. p.pattern k p.Wildcard)
pattern_step (Q.Constant minus literal) = record { size = flag minus + 1; from = λ k. p.pattern k (p.Constant minus (literal_of literal)) }
pattern_step (Q.Parenthesized items) = record { size = 2 + listed_size items; from = pattern_items items }
pattern_step (Q.Object fields last) = record { size = 2 + listed_size fields + flag last; from = λ k. p.pattern k (p.Object (pattern_fields (listed_from fields (k + 1)))) }

abbrev pub field_pattern : Name → Option PatternSpan → PatternFieldSpan
field_pattern x None = one (λ k rest. p.Field (name_at x k) (p.pattern k (p.Variable x.bytes)) rest)
field_pattern x (Some q) = record { size = 2 + q.size; from = λ k rest. p.Field (name_at x k) (q.from (k + 2)) rest }

abbrev pub pattern_field_step : Q.PatternField-F PatternSpan PatternFieldSpan → PatternFieldSpan
pattern_field_step x = field_pattern x.name x.pattern

unfoldable pub in_pattern : syntax.Pattern → PatternSpan
in_pattern = syntax.fold-Pattern PatternSpan PatternFieldSpan pattern_step pattern_field_step

unfoldable pub in_pattern_field : pattern_field.PatternField → PatternFieldSpan
in_pattern_field = pattern_field.fold-PatternField PatternSpan PatternFieldSpan pattern_step pattern_field_step

abbrev pub in_parameters : Parameters → Span (Patterns ℕ)
in_parameters (parameters.List qs) = record { size = 2 + listed_size (map in_pattern qs); from = λ k. patterns (listed_from (map in_pattern qs) (k + 1)) }
in_parameters (parameters.Single x) = one (λ k. p.Cons (p.pattern k (p.Variable x.bytes)) p.Nil)
