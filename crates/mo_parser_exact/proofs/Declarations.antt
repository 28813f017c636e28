-- The parts of declarations are read exactly.
use Rattle.std.proofs.Common.{◌≡◌, ℕ, Bool, List, [], ◌∷◌, ◌++◌, map, option_map, Option, Some, None, refl}
use Rattle.std.specs.Prelude.{◌≢◌}
use Rattle.mo_syntax.specs.declared.token.TokenKind.TheVariants as t
use Rattle.mo_syntax.specs.declared.word.Word.TheVariants as w
use Rattle.mo_syntax.specs.declared.mark.Mark.TheVariants as m
use Rattle.mo_syntax.specs.declared.types.TypeExpression.{TypeExpression}
use Rattle.mo_syntax.specs.declared.patterns.Parameters.{Parameters}
use Rattle.mo_syntax.specs.declared.patterns.Parameters.TheVariants as parameters
use Rattle.mo_syntax.specs.declared.declarations.Declaration.{Declaration}
use Rattle.mo_syntax.specs.declared.declarations.DeclarationField.{DeclarationField}
use Rattle.mo_syntax.specs.declared.expressions.Expression.{Expression}
use Rattle.mo_syntax.specs.Writing as W
use Rattle.mo_syntax.specs.Writing.{literal_token}
use Rattle.mo_syntax.specs.Parts.{Within, Listed, MayEnd}
use Rattle.mo_syntax.specs.TypeGrammar.{type_tokens, type_parameters_tokens, IsType, AreTypeParameters}
use Rattle.mo_syntax.specs.PatternGrammar.{pattern_tokens, parameters_tokens, IsPattern, AreParameters}
use Rattle.mo_syntax.specs.ExpressionGrammar.{first, behind_last, expression_tokens, declaration_field_tokens, IsExpression, IsDeclarationField}
use Rattle.mo_parser_base.specs.Input.{Input, Parser, ◌&◌, ◌▸◌, identifier, semicolon, brace}
use Rattle.mo_parser_base.proofs.Exact.{Exact, Any, both, led_by, a_name, fewer, ahead}
use Rattle.mo_parser_base.proofs.Made.{ends_by}
use Rattle.mo_parser_types.specs.Types.{a_type, annotation}
use Rattle.mo_parser_types.specs.Generics.{type_parameters, type_names}
use Rattle.mo_parser_types.proofs.Whole.{a_type_exact, annotation_exact}
use Rattle.mo_parser_types.proofs.Angles.{type_parameters_exact, type_names_exact}
use Rattle.mo_parser_expressions.specs.Expressions as p
use Rattle.mo_parser_exact.specs.Ends.{EndsExpression}
use Rattle.mo_parser_patterns.specs.Patterns.{a_pattern, a_list}
use Rattle.mo_parser_patterns.proofs.Whole.{a_pattern_exact, parameters_exact}
use Rattle.mo_parser_exact.proofs.Operands.{At, Inner, ends_type}
use Rattle.mo_parser_exact.proofs.Bodies.{SignedAt, signature_written, signed_exact}
use Rattle.mo_parser_exact.proofs.Members.{members_exact}

abbrev Fields : List DeclarationField × Bool → Input
Fields z = t.Mark m.BraceOpen ∷ (W.semicolons (map declaration_field_tokens z.0) z.1 ++ brace ∷ [])

abbrev FieldsAt : List DeclarationField × Bool → Type 0
FieldsAt z = Listed (λ x k. IsDeclarationField x (Some k)) semicolon (behind_last z.1) z.0 × MayEnd z.0 z.1

not_angle : (x : Parameters) (v r : Input) → ahead (parameters_tokens x ++ v) (first r) ≢ Some (t.Mark m.AngleOpen)
not_angle (parameters.List xs) v r = λ u. cc
not_angle (parameters.Single x) v r = λ u. cc

not_angle_signed : (z : (Parameters × (Option TypeExpression × Bool)) × Expression) (r : Input) → ahead (signature_written z.0 ++ expression_tokens z.1) (first r) ≢ Some (t.Mark m.AngleOpen)
not_angle_signed ((parameters.List xs, y), a) r = λ u. cc
not_angle_signed ((parameters.Single x, y), a) r = λ u. cc

module _ (b : ℕ) (P : ℕ → Parser Expression) (D : Parser Declaration) (h : Inner b P D)
    (no_public : (j : Input) → D (t.Reserved w.Public ∷ j) ≡ None) (no_private : (j : Input) → D (t.Reserved w.Private ∷ j) ≡ None) where
  equals_expression : Exact b (t.Mark m.EqualSign ▸ P 0) (λ x. t.Mark m.EqualSign ∷ expression_tokens x) (At 0) EndsExpression
  equals_expression = fewer (led_by (t.Mark m.EqualSign) tt h.whole)

  pub let_parts : Exact b (a_pattern & (t.Mark m.EqualSign ▸ P 0)) (λ z. pattern_tokens z.0 ++ t.Mark m.EqualSign ∷ expression_tokens z.1) (λ z n. IsPattern z.0 0 × IsExpression z.1 0 n) EndsExpression
  let_parts = both (a_pattern_exact b) equals_expression (λ y r short good stops. ((refl, λ u. cc), (λ u. cc, (λ u. cc, λ u. cc))))

  pub var_parts : Exact b (identifier & (annotation & (t.Mark m.EqualSign ▸ P 0))) (λ z. (t.Identifier z.0 ∷ []) ++ (W.annotation (option_map type_tokens z.1.0) ++ t.Mark m.EqualSign ∷ expression_tokens z.1.1))
      (λ z n. Unit {0} × (Within (λ y. IsType y 0) z.1.0 × IsExpression z.1.1 0 n)) EndsExpression
  var_parts = both (a_name b) (both (annotation_exact b) equals_expression (λ y r short good stops. (λ u. cc, (λ u. cc, λ u. cc)))) (λ y r short good stops. tt)

  pub type_parts : Exact b (identifier & (type_names & (t.Mark m.EqualSign ▸ a_type))) (λ z. (t.Identifier z.0 ∷ []) ++ (W.angles (option_map (map (λ y. t.Identifier y ∷ [])) z.1.0) ++ t.Mark m.EqualSign ∷ type_tokens z.1.1))
      (λ z n. Unit {0} × (Unit {0} × IsType z.1.1 0)) EndsExpression
  type_parts = both (a_name b) (both (type_names_exact b) (fewer (led_by (t.Mark m.EqualSign) tt (ends_by (a_type_exact b) ends_type))) (λ y r short good stops u. cc)) (λ y r short good stops. tt)

  pub func_parts : Exact b (identifier & (type_parameters & p.signed P D)) (λ z. (t.Identifier z.0 ∷ []) ++ (type_parameters_tokens z.1.0 ++ (signature_written z.1.1.0 ++ expression_tokens z.1.1.1)))
      (λ z n. Unit {0} × (AreTypeParameters z.1.0 × SignedAt z.1.1 n)) EndsExpression
  func_parts = both (a_name b) (both (type_parameters_exact b) (signed_exact b P D h) (λ y r short good stops. not_angle_signed y r)) (λ y r short good stops. tt)

  fields_exact : Exact b (t.Mark m.BraceOpen ▸ p.members P D) Fields (λ z n. FieldsAt z) Any
  fields_exact = fewer (led_by (t.Mark m.BraceOpen) tt (members_exact b P D h no_public no_private))

  pub class_parts : Exact b (identifier & (type_parameters & (a_list & (t.Mark m.BraceOpen ▸ p.members P D))))
      (λ z. (t.Identifier z.0 ∷ []) ++ (type_parameters_tokens z.1.0 ++ (parameters_tokens z.1.1.0 ++ Fields z.1.1.1)))
      (λ z n. Unit {0} × (AreTypeParameters z.1.0 × (AreParameters z.1.1.0 × FieldsAt z.1.1.1))) Any
  class_parts = both (a_name b) (both (type_parameters_exact b) (both (parameters_exact b) fields_exact (λ y r short good stops. tt)) (λ y r short good stops. not_angle y.0 (Fields y.1) r)) (λ y r short good stops. tt)

  pub object_parts : Exact b (identifier & (t.Mark m.BraceOpen ▸ p.members P D)) (λ z. (t.Identifier z.0 ∷ []) ++ Fields z.1) (λ z n. Unit {0} × FieldsAt z.1) Any
  object_parts = both (a_name b) fields_exact (λ y r short good stops. tt)
