-- In the writing of a pattern each mark `#` of a tag has its identifier behind it.
use Rattle.std.proofs.Common.{List, [], ◌∷◌, sym, subst, map, option_map}
use Rattle.mo_syntax.specs.declared.word.Word.TheVariants as w
use Rattle.mo_syntax.specs.declared.mark.Mark.TheVariants as m
use Rattle.mo_syntax.specs.declared.token.TokenKind.TheVariants as t
use Rattle.mo_syntax.specs.declared.patterns.Pattern.{Pattern}
use Rattle.mo_syntax.specs.declared.patterns.PatternField.{PatternField}
use Rattle.mo_syntax.specs.declared.patterns.Parameters.{Parameters}
use Rattle.mo_syntax.specs.declared.patterns.Parameters.TheVariants as parameters
use Rattle.mo_syntax.specs.Writing.{marked, led, optional, commas, semicolons, literal_token}
use Rattle.mo_syntax.specs.TypeGrammar.{type_tokens}
use Rattle.mo_syntax.specs.PatternGrammar.{pattern_tokens, pattern_field_tokens, parameters_tokens}
use Rattle.mo_syntax.specs.Parts.{Each}
use Rattle.mo_syntax.proofs.PatternEquations as eq
use Rattle.mo_syntax.proofs.PatternInduction.{Claims, Cases, holds_Pattern, holds_PatternField}
use Rattle.mo_unparse.proofs.TaggedLemmas.{Closed, none, one, both, tagged, if_marked, if_led, if_some, all_commas, all_semicolons, in_parens, in_braces, a_literal, each_mapped, within_mapped, each_of}
use Rattle.mo_unparse.proofs.TaggedTypes.{of_type}

abbrev claims : Claims
claims = record {
  of_Pattern = λ x. Closed (pattern_tokens x);
  of_PatternField = λ x. Closed (pattern_field_tokens x);
}

cases : Cases claims
cases = record {
  Annotated = λ p a cp. subst Closed (sym (eq.tokens_Annotated p a)) (both (pattern_tokens p) (t.Mark m.Colon ∷ (type_tokens a)) cp (one (t.Mark m.Colon) (type_tokens a) tt (of_type a)));
  Alternative = λ p q cp cq. subst Closed (sym (eq.tokens_Alternative p q)) (both (pattern_tokens p) (t.Reserved w.Or ∷ (pattern_tokens q)) cp (one (t.Reserved w.Or) (pattern_tokens q) tt cq));
  Optional = λ p cp. subst Closed (sym (eq.tokens_Optional p)) (one (t.Mark m.Question) (pattern_tokens p) tt cp);
  Tagged = λ x payload c. subst Closed (sym (eq.tokens_Tagged x payload)) (tagged x (optional (option_map pattern_tokens payload)) (if_some (option_map pattern_tokens payload) (within_mapped pattern_tokens payload c)));
  Variable = λ x. subst Closed (sym (eq.tokens_Variable x)) (one (t.Identifier x) [] tt none);
  Wildcard = subst Closed (sym eq.tokens_Wildcard) (one (t.Mark m.Underscore) [] tt none);
  Constant = λ minus literal. subst Closed (sym (eq.tokens_Constant minus literal)) (both (marked minus (t.Mark m.Minus)) (literal_token literal ∷ []) (if_marked minus (t.Mark m.Minus) tt) (a_literal literal));
  Parenthesized = λ items c. subst Closed (sym (eq.tokens_Parenthesized items)) (in_parens (commas (map pattern_tokens items)) (all_commas (map pattern_tokens items) (each_mapped pattern_tokens items c)));
  Object = λ fields last c. subst Closed (sym (eq.tokens_Object fields last)) (in_braces (semicolons (map pattern_field_tokens fields) last) (all_semicolons (map pattern_field_tokens fields) last (each_mapped pattern_field_tokens fields c)));
  PatternField_ = λ name_ pattern c. subst Closed (sym (eq.tokens_PatternField name_ pattern)) (one (t.Identifier name_) (led (t.Mark m.EqualSign) (option_map pattern_tokens pattern)) tt (if_led (t.Mark m.EqualSign) (option_map pattern_tokens pattern) tt (within_mapped pattern_tokens pattern c)));
}

pub of_pattern : (x : Pattern) → Closed (pattern_tokens x)
of_pattern = holds_Pattern claims cases

pub of_pattern_fields : (fields : List PatternField) → Each Closed (map pattern_field_tokens fields)
of_pattern_fields fields = each_mapped pattern_field_tokens fields (each_of (λ x. Closed (pattern_field_tokens x)) (holds_PatternField claims cases) fields)

pub of_parameters : (x : Parameters) → Closed (parameters_tokens x)
of_parameters (parameters.List patterns) = (in_parens (commas (map pattern_tokens patterns)) (all_commas (map pattern_tokens patterns) (each_mapped pattern_tokens patterns (each_of (λ x. Closed (pattern_tokens x)) of_pattern patterns))))
of_parameters (parameters.Single x) = (one (t.Identifier x) [] tt none)
