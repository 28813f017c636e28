-- Cases, fields and declarations are read exactly.
use Rattle.std.proofs.Common.{◌≡◌, ℕ, ◌<◌, [], ◌∷◌, ◌++◌, length, map, Option, Some, None, refl, sym, ap, subst}
use Rattle.std.specs.Prelude.{◌≢◌}
use Rattle.mo_syntax.specs.declared.token.TokenKind.TheVariants as t
use Rattle.mo_syntax.specs.declared.word.Word.TheVariants as w
use Rattle.mo_syntax.specs.declared.patterns.Pattern.{Pattern}
use Rattle.mo_syntax.specs.declared.declarations.Declaration.{Declaration}
use Rattle.mo_syntax.specs.declared.declarations.DeclarationField.{DeclarationField}
use Rattle.mo_syntax.specs.declared.declarations.Visibility.{Visibility}
use Rattle.mo_syntax.specs.declared.declarations.Visibility.TheVariants as visible
use Rattle.mo_syntax.specs.declared.expressions.Expression.{Expression}
use Rattle.mo_syntax.specs.declared.expressions.Case.{Case}
use Rattle.mo_syntax.specs.Writing as W
use Rattle.mo_syntax.specs.Writing.{literal_token}
use Rattle.mo_syntax.specs.Parts.{Listed, MayEnd}
use Rattle.mo_syntax.specs.ExpressionGrammar.{first, visibility_tokens, behind_last, declaration_tokens, declaration_field_tokens, case_tokens, IsDeclaration, IsDeclarationField, IsCase}
use Rattle.mo_syntax.proofs.ExpressionEquations as eq
use Rattle.mo_syntax.proofs.ExpressionInduction.{Claims, Cases, holds_DeclarationField, holds_Case}
use Rattle.mo_parser_base.specs.declared.look.Look.{Look}
use Rattle.mo_parser_base.specs.declared.look.Look.TheVariants as l
use Rattle.mo_parser_base.specs.Input.{Input, Parser, and_then, pure, look, next, expect, semicolon, brace, semicolons}
use Rattle.mo_parser_base.proofs.Steps.{look_word}
use Rattle.mo_parser_base.proofs.Exact.{Took, Exact, Always, Any, took_as, both, led_by, fewer, ahead, ahead_not, not_first, semicolons_exact}
use Rattle.mo_parser_base.proofs.Made.{mapped}
use Rattle.mo_parser_expressions.specs.Expressions as p
use Rattle.mo_parser_exact.specs.Ends.{EndsExpression}
use Rattle.mo_parser_exact.proofs.Levels.{Next}
use Rattle.mo_parser_patterns.proofs.Whole.{a_case_pattern_exact}
use Rattle.mo_parser_exact.proofs.StepsMore.{cut}
use Rattle.mo_parser_exact.proofs.Operands.{Inner, ends_semicolon, ends_brace}
use Rattle.mo_parser_exact.proofs.Blocks.{nested_exact}

abbrev part_claims : Claims
part_claims = record {
  of_Declaration = λ x. Unit {0};
  of_Expression = λ x. Unit {0};
  of_DeclarationField = λ y. (z : Option Visibility × Declaration) × (y ≡ p.to_member z);
  of_Case = λ y. (z : Pattern × Expression) × (y ≡ p.to_case z);
  of_ExpressionField = λ x. Unit {0};
}

part_cases : Cases part_claims
part_cases = record {
  Let = λ x0 x1 h0. tt;
  Var = λ x0 x1 x2 h0. tt;
  Func = λ x0 x1 x2 x3 x4 x5 h0. tt;
  TypeAlias = λ x0 x1 x2. tt;
  Class = λ x0 x1 x2 x3 x4 h0. tt;
  NamedObject = λ x0 x1 x2 h0. tt;
  Evaluate = λ x0 h0. tt;
  Assign = λ x0 x1 x2 h0 h1. tt;
  Annotated = λ x0 x1 h0. tt;
  Binary = λ x0 x1 x2 h0 h1. tt;
  If = λ x0 x1 x2 h0 h1 h2. tt;
  Switch = λ x0 x1 x2 h0 h1. tt;
  While = λ x0 x1 h0 h1. tt;
  Loop = λ x0 x1 h0 h1. tt;
  For = λ x0 x1 x2 h0 h1. tt;
  Label = λ x0 x1 x2 h0. tt;
  Break = λ x0 x1 h0. tt;
  Continue = λ x0. tt;
  Return = λ x0 h0. tt;
  Do = λ x0 h0. tt;
  DoOptional = λ x0 h0. tt;
  Await = λ x0 h0. tt;
  Throw = λ x0 h0. tt;
  Try = λ x0 x1 x2 h0 h1. tt;
  Assert = λ x0 h0. tt;
  Ignore = λ x0 h0. tt;
  Debug = λ x0 h0. tt;
  Function = λ x0 x1 x2 x3 h0. tt;
  ObjectBlock = λ x0 x1 h0. tt;
  Optional = λ x0 h0. tt;
  Negative = λ x0 h0. tt;
  Not = λ x0 h0. tt;
  Tagged = λ x0 x1 h0. tt;
  Member = λ x0 x1 h0. tt;
  Projection = λ x0 x1 h0. tt;
  Index = λ x0 x1 h0 h1. tt;
  Call = λ x0 x1 x2 h0 h1. tt;
  Bang = λ x0 h0. tt;
  Constant = λ x0. tt;
  Variable = λ x0. tt;
  Parenthesized = λ x0 h0. tt;
  Array = λ x0 x1 h0. tt;
  Object = λ x0 x1 h0. tt;
  ActorReference = λ x0 x1. tt;
  Block = λ x0 x1 h0. tt;
  DeclarationField_ = λ x0 x1 h0. ((x0, x1), refl);
  Case_ = λ x0 x1 h0. ((x0, x1), refl);
  ExpressionField_ = λ x0 x1 x2 x3 h0. tt;
}

member_of : (y : DeclarationField) → (z : Option Visibility × Declaration) × (y ≡ p.to_member z)
member_of = holds_DeclarationField part_claims part_cases

case_of : (y : Case) → (z : Pattern × Expression) × (y ≡ p.to_case z)
case_of = holds_Case part_claims part_cases

at_next : {R S : Next → Type 0} → R ≡ S → (n : Next) → S n → R n
at_next e n h = subst (λ (r : Next → Type 0). r n) (sym e) h

from_next : {R S : Next → Type 0} → R ≡ S → (n : Next) → R n → S n
from_next e n h = subst (λ (r : Next → Type 0). r n) e h

module _ (b : ℕ) (P : ℕ → Parser Expression) (D : Parser Declaration) (h : Inner b P D)
    (no_public : (j : Input) → D (t.Reserved w.Public ∷ j) ≡ None) (no_private : (j : Input) → D (t.Reserved w.Private ∷ j) ≡ None) where
  -- ---- fields of objects and classes

  visibility_ok : (a : Look) (i : Input) (y : Option Visibility) (r : Input) → look i ≡ a → p.visibility_by P D a i ≡ Some (y, r) → Took visibility_tokens Always y i r
  visibility_ok (l.Reserved w.Public) i y r is h0 = took_as (Some visible.Public) (next i) y r (record { text = look_word i w.Public is; good = tt }) h0
  visibility_ok (l.Reserved w.Private) i y r is h0 = took_as (Some visible.Private) (next i) y r (record { text = look_word i w.Private is; good = tt }) h0
  visibility_ok _ i y r is h0 = took_as None i y r (record { text = refl; good = tt }) h0

  visibility_none : (i : Input) → first i ≢ Some (t.Reserved w.Public) → first i ≢ Some (t.Reserved w.Private) → p.visibility P D i ≡ Some (None, i)
  unfolding p.visibility
  visibility_none [] a c = refl
  visibility_none (t.Reserved w.Public ∷ i) a c = absurd (a refl)
  visibility_none (t.Reserved w.Private ∷ i) a c = absurd (c refl)
  visibility_none (_ ∷ i) a c = refl

  visibility_done : (c : ℕ) (x : Option Visibility) (r : Input) → length (visibility_tokens x) < c → Unit {0} → (first r ≢ Some (t.Reserved w.Public)) × (first r ≢ Some (t.Reserved w.Private)) → p.visibility P D (visibility_tokens x ++ r) ≡ Some (x, r)
  unfolding p.visibility
  visibility_done c None r short good stops = visibility_none r stops.0 stops.1
  visibility_done c (Some visible.Public) r short good stops = refl
  visibility_done c (Some visible.Private) r short good stops = refl

  visibility_exact : (c : ℕ) → Exact c (p.visibility P D) visibility_tokens Always (λ n. (n ≢ Some (t.Reserved w.Public)) × (n ≢ Some (t.Reserved w.Private)))
  unfolding p.visibility
  visibility_exact c = record { sound = λ i y r h0. visibility_ok (look i) i y r refl h0; complete = visibility_done c }

  declaration_first : (y : Declaration) (r : Input) → length (declaration_tokens y) < h.bound → IsDeclaration y (first r) → EndsExpression (first r) →
      (ahead (declaration_tokens y) (first r) ≢ Some (t.Reserved w.Public)) × (ahead (declaration_tokens y) (first r) ≢ Some (t.Reserved w.Private))
  declaration_first y r short good stops = let done = h.declaration.complete y r short good stops in (
    ahead_not (declaration_tokens y) r (t.Reserved w.Public) (not_first D (t.Reserved w.Public) y (declaration_tokens y ++ r) r no_public done),
    ahead_not (declaration_tokens y) r (t.Reserved w.Private) (not_first D (t.Reserved w.Private) y (declaration_tokens y ++ r) r no_private done),
  )

  member_exact : Exact h.bound (p.member P D) declaration_field_tokens (λ x n. IsDeclarationField x n) EndsExpression
  unfolding p.member
  member_exact = mapped (both (visibility_exact h.bound) h.declaration declaration_first) p.to_member declaration_field_tokens (λ x n. IsDeclarationField x n) member_of (λ z. eq.tokens_DeclarationField z.0 z.1)
      (λ z n good. at_next (eq.rule_DeclarationField _) n good.1)
      (λ z n good. (tt, from_next (eq.rule_DeclarationField _) n good))

  no_member : (j : Input) → p.member P D (brace ∷ j) ≡ None
  unfolding p.member p.visibility
  no_member j = ap (λ o. and_then (and_then o (λ y k. Some ((None, y), k))) (λ z. pure (p.to_member z))) (h.no_end j)

  pub members_exact : Exact b (p.members P D) (λ z. W.semicolons (map declaration_field_tokens z.0) z.1 ++ brace ∷ [])
      (λ z n. Listed (λ x k. IsDeclarationField x (Some k)) semicolon (behind_last z.1) z.0 × MayEnd z.0 z.1) Any
  unfolding p.members
  members_exact = cut h.enough (semicolons_exact member_exact ends_semicolon ends_brace no_member)

  -- ---- cases

  one_case_exact : Exact b (p.one_case P D) case_tokens (λ x n. IsCase x n) EndsExpression
  unfolding p.one_case
  one_case_exact = mapped (fewer (led_by (t.Reserved w.Case) tt (both (a_case_pattern_exact b) (nested_exact b P D h) (λ y r short good stops. tt))))
      p.to_case case_tokens (λ x n. IsCase x n) case_of (λ z. eq.tokens_Case z.0 z.1)
      (λ z n good. at_next (eq.rule_Case _) n good)
      (λ z n good. from_next (eq.rule_Case _) n good)

  no_case : (j : Input) → p.one_case P D (brace ∷ j) ≡ None
  unfolding p.one_case expect
  no_case j = refl

  pub cases_exact : Exact b (semicolons (p.one_case P D)) (λ z. W.semicolons (map case_tokens z.0) z.1 ++ brace ∷ [])
      (λ z n. Listed (λ x k. IsCase x (Some k)) semicolon (behind_last z.1) z.0 × MayEnd z.0 z.1) Any
  cases_exact = fewer (semicolons_exact one_case_exact ends_semicolon ends_brace no_case)
