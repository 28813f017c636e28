-- What the functions that read owe, where the parser that they follow is exact.
use Rattle.std.proofs.Common.{◌≡◌, ℕ, suc, Bool, true, false, Result, Ok, Err, ◌++◌, length, refl, sym, ap, ◌∙◌, arith}
use Rattle.std.specs.Prelude.{IfOk}
use Rattle.mo_syntax.specs.declared.declarations.Declaration.{Declaration}
use Rattle.mo_syntax.specs.declared.expressions.Expression.{Expression}
use Rattle.mo_syntax.specs.ExpressionGrammar.{first, expression_tokens, declaration_tokens, IsExpression, IsDeclaration}
use Rattle.mo_parser_base.specs.declared.stop.Stop.{Stop}
use Rattle.mo_parser_base.specs.declared.stop.Stop.TheVariants as stops
use Rattle.mo_parser_base.specs.Input.{Input, Parser, Reads}
use Rattle.mo_parser_base.proofs.Steps.{some_is}
use Rattle.mo_parser_base.proofs.Exact.{Next, Exact}
use Rattle.mo_parser_expressions.specs.Expressions as p
use Rattle.mo_parser_exact.specs.Ends.{EndsExpression}
use Rattle.mo_parser_exact.specs.Fronts.{IsFront, IsDeclared, Finds, body_level}
use Rattle.mo_parser_exact.proofs.Blocks.{BodyAt}
use Rattle.mo_parser_exact.proofs.Depths.{an_expression_exact, a_declaration_exact, a_body_exact}

module _ {A : Type 0} (q : Parser A) (w : A → Input) (V : A → Next → Type 0) (S : Next → Type 0) (exact : (b : ℕ) → Exact b q w V S) where
  finds : (i : Input) (r : Result A Stop) (new : Input) → Reads (q i) r new → (x : A) (rest : Input) → i ≡ w x ++ rest → V x (first rest) → S (first rest) → Finds x rest r new
  finds i (Ok y) new h x rest text good ends =
      let done = ap q text ∙ (exact (suc (length (w x)))).complete x rest (omega arith) good ends in
      let same = some_is (y, new) (x, rest) (sym h ∙ done) in (ap (λ z. z.0) same, ap (λ z. z.1) same)
  finds i (Err stops.Memory) new h x rest text good ends = refl
  finds i (Err stops.Refused) new h x rest text good ends =
      let done = ap q text ∙ (exact (suc (length (w x)))).complete x rest (omega arith) good ends in
      let none = h (λ u. cc) in absurd (cc)

-- ---- expressions

pub found_expression : (i : Input) (r : Result Expression Stop) (new : Input) → Reads (p.an_expression i) r new → IfOk r (λ x. IsFront 0 x i new)
found_expression i (Ok x) new h = let took = (an_expression_exact 0).sound i x new h in record { text = took.text; good = took.good }
found_expression i (Err stop) new h = tt

pub only_expression : (i : Input) (r : Result Expression Stop) (new : Input) → Reads (p.an_expression i) r new →
    (x : Expression) (rest : Input) → IsFront 0 x i rest → EndsExpression (first rest) → Finds x rest r new
only_expression i r new h x rest front ends = finds p.an_expression expression_tokens (λ y n. IsExpression y 0 n) EndsExpression an_expression_exact i r new h x rest front.text front.good ends

-- ---- declarations

pub found_declaration : (i : Input) (r : Result Declaration Stop) (new : Input) → Reads (p.a_declaration i) r new → IfOk r (λ x. IsDeclared x i new)
found_declaration i (Ok x) new h = let took = (a_declaration_exact 0).sound i x new h in record { text = took.text; good = took.good }
found_declaration i (Err stop) new h = tt

pub only_declaration : (i : Input) (r : Result Declaration Stop) (new : Input) → Reads (p.a_declaration i) r new →
    (x : Declaration) (rest : Input) → IsDeclared x i rest → EndsExpression (first rest) → Finds x rest r new
only_declaration i r new h x rest front ends = finds p.a_declaration declaration_tokens (λ y n. IsDeclaration y n) EndsExpression a_declaration_exact i r new h x rest front.text front.good ends

-- ---- bodies

body_out : (equal_sign : Bool) (x : Expression) (n : Next) → BodyAt equal_sign x n → IsExpression x (body_level equal_sign) n
body_out true x n good = good
body_out false x n good = good

body_in : (equal_sign : Bool) (x : Expression) (n : Next) → IsExpression x (body_level equal_sign) n → BodyAt equal_sign x n
body_in true x n good = good
body_in false x n good = good

pub found_body : (equal_sign : Bool) (i : Input) (r : Result Expression Stop) (new : Input) → Reads (p.a_body equal_sign i) r new → IfOk r (λ x. IsFront (body_level equal_sign) x i new)
found_body equal_sign i (Ok x) new h = let took = (a_body_exact 0 equal_sign).sound i x new h in record { text = took.text; good = body_out equal_sign x (first new) took.good }
found_body equal_sign i (Err stop) new h = tt

pub only_body : (equal_sign : Bool) (i : Input) (r : Result Expression Stop) (new : Input) → Reads (p.a_body equal_sign i) r new →
    (x : Expression) (rest : Input) → IsFront (body_level equal_sign) x i rest → EndsExpression (first rest) → Finds x rest r new
only_body equal_sign i r new h x rest front ends =
    finds (p.a_body equal_sign) expression_tokens (BodyAt equal_sign) EndsExpression (λ b. a_body_exact b equal_sign) i r new h x rest front.text (body_in equal_sign x (first rest) front.good) ends
