-- Expressions, by how many expressions are their parts.
use Rattle.std.proofs.Common.{◌≡◌, ℕ, ◌+◌, List, [], ◌∷◌, Result, IfOk, length, map, ap, ◌∙◌, sym, refl, arith}
use Rattle.mo_num.specs.declared.memory.Memory.{Memory}
use Rattle.mo_syntax.specs.declared.declarations.Declaration.TheOpen as written
use Rattle.mo_syntax.specs.declared.expressions.Expression as written_expression
use Rattle.typing_rules.specs.AbstractSyntax as p
use Rattle.typing_rules.specs.Spans.{listed_from, listed_size}
use Rattle.typing_rules.specs.AbstractExpressions.{ExpressionSpan, behind, between, expressions, expression_step, in_expression, parenthesized}
use Rattle.abstract_tree.specs.declared.expressions.Expression.{Expression}
use Rattle.abstract_tree.specs.declared.expressions.ExpressionForm.{ExpressionForm}
use Rattle.abstract_tree.specs.declared.expressions.ExpressionForm.TheVariants as e
use Rattle.abstract_tree.specs.TreeView.{plain, plain_form}
use Rattle.abstract_tree.proofs.TreeViews as V
use Rattle.abstract_type_walk.specs.Stands.{Is, Stands, Lists}
use Rattle.abstract_type_walk.proofs.Spanning.{stands}
use Rattle.abstract_parts.specs.Shapes.{ahead}

module _ (a : ExpressionSpan) where
  module _ (form : p.Expression ℕ → p.Form ℕ) (made : ExpressionForm ℕ) (at tokens last : ℕ) (of : Expression ℕ) (r : Result (Expression ℕ × ℕ) Memory) where
    pub behind_made : Stands plain a (at + tokens) (of, last) → plain_form made ≡ form (plain of)
        → IfOk r (Is plain (p.exp at (plain_form made)) (last + 0)) → IfOk r (Stands plain (behind tokens a form) at)
    behind_made h f k =
        let n : last ≡ at + tokens + a.size = h.next in
        let m : last + 0 ≡ at + (tokens + a.size) = omega arith in
        stands plain (behind tokens a form) (behind tokens a form) at _ _ r k refl (ap (p.exp at) (f ∙ ap form h.part)) m

    pub ahead_made : Stands plain a (at + 0) (of, last) → plain_form made ≡ form (plain of)
        → IfOk r (Is plain (p.exp at (plain_form made)) (last + tokens)) → IfOk r (Stands plain (ahead a tokens form) at)
    ahead_made h f k =
        let n : last ≡ at + 0 + a.size = h.next in
        let z : at + 0 ≡ at = omega arith in
        let m : last + tokens ≡ at + (a.size + tokens) = omega arith in
        stands plain (ahead a tokens form) (ahead a tokens form) at _ _ r k refl (ap (p.exp at) (f ∙ ap form (h.part ∙ ap a.from z))) m

  pub between_made : (b : ExpressionSpan) (form : p.Expression ℕ → p.Expression ℕ → p.Form ℕ) (made : ExpressionForm ℕ) (at n m l middle last : ℕ) (left right : Expression ℕ)
      (r : Result (Expression ℕ × ℕ) Memory) → Stands plain a (at + n) (left, middle) → Stands plain b (middle + m) (right, last) → plain_form made ≡ form (plain left) (plain right)
      → IfOk r (Is plain (p.exp at (plain_form made)) (last + l)) → IfOk r (Stands plain (between n a m b l form) at)
  between_made b form made at n m l middle last left right r h g f k =
      let u : middle ≡ at + n + a.size = h.next in
      let v : last ≡ middle + m + b.size = g.next in
      let o : middle + m ≡ at + n + a.size + m = omega arith in
      let q : last + l ≡ at + (n + a.size + m + b.size + l) = omega arith in
      stands plain (between n a m b l form) (between n a m b l form) at _ _ r k refl
      (ap (p.exp at) (f ∙ ap (λ (y : p.Expression ℕ). form y (plain right)) h.part ∙ ap (form (a.from (at + n))) (g.part ∙ ap b.from o))) q

-- ---- parentheses

several : (xs : List ExpressionSpan) (k : ℕ) → (length xs ≡ 1 → ⊥) → parenthesized xs k ≡ p.exp k (p.Tuple (expressions (listed_from xs (k + 1))))
several [] k h = refl
several (x ∷ []) k h = absurd (h refl)
several (x ∷ y ∷ xs) k h = refl

length_map : {A B : Type 0} (f : A → B) (xs : List A) → length (map f xs) ≡ length xs
length_map f [] = refl
length_map f (x ∷ xs) = let h : length (map f xs) ≡ length xs = length_map f xs in omega arith

-- no expressions in parentheses, or several
pub tuple_made : (xs : List written_expression.Expression) (at close : ℕ) (made : List (Expression ℕ)) (r : Result (Expression ℕ × ℕ) Memory) → (length xs ≡ 1 → ⊥)
    → Lists plain (map in_expression xs) (at + 1) (made, close) → IfOk r (Is plain (p.exp at (plain_form (e.Tuple made))) (close + 1))
    → IfOk r (Stands plain (expression_step (written.Parenthesized (map in_expression xs))) at)
tuple_made xs at close made r d h k =
    let n : close ≡ at + 1 + listed_size (map in_expression xs) = h.next in
    let m : close + 1 ≡ at + (2 + listed_size (map in_expression xs)) = omega arith in
    let s = expression_step (written.Parenthesized (map in_expression xs)) in
    stands plain s s at _ _ r k refl
    (ap (p.exp at) (V.seen_Tuple made ∙ ap (λ zs. p.Tuple (expressions zs)) h.parts) ∙ sym (several (map in_expression xs) at (λ q. d (sym (length_map in_expression xs) ∙ q)))) m

-- one expression in parentheses
pub one_made : (a : ExpressionSpan) (at close last : ℕ) (made : Expression ℕ) → Stands plain a (at + 1) (made, close) → last ≡ close + 1
    → Stands plain (expression_step (written.Parenthesized (a ∷ []))) at (made, last)
one_made a at close last made h l =
    let n : close ≡ at + 1 + a.size = h.next in
    record { part = h.part; next = omega arith }
