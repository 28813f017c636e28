-- Lists of declarations and names, and cases and fields, by what is made of their parts.
use Rattle.std.proofs.Common.{◌≡◌, ℕ, ◌+◌, Bool, false, List, [], ◌∷◌, Option, None, Some, Result, IfOk, map, option_map, ap, ◌∙◌, refl, arith}
use Rattle.mo_num.specs.declared.memory.Memory.{Memory}
use Rattle.mo_syntax.specs.declared.declarations.Declaration as written_declaration
use Rattle.mo_syntax.specs.declared.declarations.DeclarationField as written_member
use Rattle.mo_syntax.specs.declared.expressions.Case as written_case
use Rattle.mo_syntax.specs.declared.expressions.Expression as written_expression
use Rattle.mo_syntax.specs.declared.expressions.ExpressionField as written_field
use Rattle.mo_syntax.specs.declared.name.Name.{Name}
use Rattle.typing_rules.specs.AbstractSyntax.{Named, Cases, Declarations, ObjectFields}
use Rattle.typing_rules.specs.AbstractSyntax as p
use Rattle.typing_rules.specs.Spans.{flag, led, at_led, one, name_at, listed_from, listed_size}
use Rattle.typing_rules.specs.AbstractTypes.{annotation}
use Rattle.typing_rules.specs.AbstractPatterns.{in_pattern}
use Rattle.typing_rules.specs.AbstractExpressions.{CaseSpan, DeclarationSpan, ExpressionSpan, MemberSpan, ObjectFieldSpan, case_step, declaration_step, expression_step, declaration_field_step, expression_field_step, field_value, in_case, in_declaration, in_expression, in_member, in_object_field, is_public, visibility_size}
use Rattle.typing_rules.specs.AbstractExpressions as rules
use Rattle.abstract_types.specs.declared.names.PlacedName.{PlacedName}
use Rattle.abstract_types.specs.declared.patterns.Pattern.{Pattern}
use Rattle.abstract_types.specs.declared.types.TypeNode.{TypeNode}
use Rattle.abstract_types.specs.TypeView.{named, type_node}
use Rattle.abstract_types.specs.TypeView as view
use Rattle.abstract_types.specs.PatternView as pattern_view
use Rattle.abstract_tree.specs.declared.declarations.Declaration.{Declaration}
use Rattle.abstract_tree.specs.declared.declarations.DeclarationForm.{DeclarationForm}
use Rattle.abstract_tree.specs.declared.expressions.Case.{roll-Case}
use Rattle.abstract_tree.specs.declared.expressions.Expression.{Expression}
use Rattle.abstract_tree.specs.declared.expressions.ObjectField.{roll-ObjectField}
use Rattle.abstract_tree.specs.TreeView.{declarations, plain, plain_case, plain_declaration, plain_declaration_form, plain_field}
use Rattle.abstract_tree.proofs.TreeViews as V
use Rattle.abstract_type_walk.specs.Stands.{Stands, Lists, MayStand}
use Rattle.abstract_type_walk.proofs.Spanning.{if_ok, as_stands}
use Rattle.abstract_parts.specs.TreeWalks.{AreDeclarations, AreNames, IsFieldValue, in_block, in_object}

-- ---- declarations

block_is : (ds : List written_declaration.Declaration) (k : ℕ) → declarations (listed_from (map (λ z. in_block (in_declaration z)) ds) k) ≡ rules.declarations (map in_declaration ds) k
block_is [] k = refl
block_is (x ∷ ds) k = ap (λ rest. p.Then false k ((in_declaration x).from k) rest) (block_is ds (k + (in_declaration x).size + 1))

block_size : (ds : List written_declaration.Declaration) → listed_size (map (λ z. in_block (in_declaration z)) ds) ≡ listed_size (map in_declaration ds)
block_size [] = refl
block_size (x ∷ []) = refl
block_size (x ∷ y ∷ ds) = ap (λ n. (in_declaration x).size + 1 + n) (block_size (y ∷ ds))

pub block_made : (ds : List written_declaration.Declaration) (k end : ℕ) (made : List (Declaration ℕ)) → Lists plain_declaration (map (λ z. in_block (in_declaration z)) ds) k (made, end)
    → AreDeclarations (rules.declarations (map in_declaration ds) k) (listed_size (map in_declaration ds)) k (made, end)
block_made ds k end made h = record {
  parts = ap declarations h.parts ∙ block_is ds k;
  next = h.next ∙ ap (λ n. k + n) (block_size ds);
}

module _ {X : Type 0} (f : X → MemberSpan) where
  pub object_is : (xs : List X) (k : ℕ) → declarations (listed_from (map (λ z. in_object (f z)) xs) k) ≡ rules.members (map f xs) k
  object_is [] k = refl
  object_is (x ∷ xs) k = ap (λ rest. p.Then ((f x).from k).0 k ((f x).from k).1 rest) (object_is xs (k + (f x).size + 1))

  object_size : (xs : List X) → listed_size (map (λ z. in_object (f z)) xs) ≡ listed_size (map f xs)
  object_size [] = refl
  object_size (x ∷ []) = refl
  object_size (x ∷ y ∷ xs) = ap (λ n. (f x).size + 1 + n) (object_size (y ∷ xs))

  pub object_made : (xs : List X) (k end : ℕ) (made : List (Declaration ℕ)) → Lists plain_declaration (map (λ z. in_object (f z)) xs) k (made, end)
      → AreDeclarations (rules.members (map f xs) k) (listed_size (map f xs)) k (made, end)
  object_made xs k end made h = record {
    parts = ap declarations h.parts ∙ object_is xs k;
    next = h.next ∙ ap (λ n. k + n) (object_size xs);
  }

-- a declaration of a block
pub declared_made : (d : DeclarationSpan) (at place last : ℕ) (form : DeclarationForm ℕ) (made : Declaration ℕ) → place ≡ at → Stands plain_declaration_form d (place + 0) (form, last)
    → plain_declaration made ≡ (λ (rest : Declarations ℕ). p.Then false place (plain_declaration_form form) rest) → Stands plain_declaration (in_block d) at (made, last)
declared_made d at place last form made o h m =
    let n : last ≡ place + 0 + d.size = h.next in
    let z : place + 0 ≡ at = omega arith in
    record {
      part = m ∙ ap {B = Declarations ℕ → Declarations ℕ} (λ (k : ℕ) (rest : Declarations ℕ). p.Then false k (plain_declaration_form form) rest) o
          ∙ ap {B = Declarations ℕ → Declarations ℕ} (λ (y : p.Declaration ℕ) (rest : Declarations ℕ). p.Then false at y rest) (h.part ∙ ap d.from z);
      next = omega arith;
    }

member_is : (x : written_member.DeclarationField) → in_member x ≡ declaration_field_step (record { visibility = x.visibility; declaration = in_declaration x.declaration })
unfolding in_expression in_declaration in_member in_case in_object_field
member_is x = written_member.fold_out-DeclarationField DeclarationSpan ExpressionSpan MemberSpan CaseSpan ObjectFieldSpan declaration_step expression_step declaration_field_step case_step expression_field_step x

-- a declaration of an object
pub member_made : (x : written_member.DeclarationField) (public : Bool) (at place words last : ℕ) (form : DeclarationForm ℕ) (made : Declaration ℕ) → place ≡ at → words ≡ visibility_size x.visibility
    → public ≡ is_public x.visibility → Stands plain_declaration_form (in_declaration x.declaration) (place + words) (form, last)
    → plain_declaration made ≡ (λ (rest : Declarations ℕ). p.Then public place (plain_declaration_form form) rest) → Stands plain_declaration (in_object (in_member x)) at (made, last)
member_made x public at place words last form made o w b h m =
    let s = declaration_field_step (record { visibility = x.visibility; declaration = in_declaration x.declaration }) in
    let n : last ≡ place + words + (in_declaration x.declaration).size = h.next in
    let z : place + words ≡ at + visibility_size x.visibility = omega arith in
    as_stands plain_declaration (in_object s) (in_object (in_member x)) at (made, last) (ap in_object (member_is x))
    (record {
      part = m ∙ ap {B = Declarations ℕ → Declarations ℕ} (λ (y : Bool) (rest : Declarations ℕ). p.Then y place (plain_declaration_form form) rest) b
          ∙ ap {B = Declarations ℕ → Declarations ℕ} (λ (k : ℕ) (rest : Declarations ℕ). p.Then (is_public x.visibility) k (plain_declaration_form form) rest) o
          ∙ ap {B = Declarations ℕ → Declarations ℕ} (λ (y : p.Declaration ℕ) (rest : Declarations ℕ). p.Then (is_public x.visibility) at y rest) (h.part ∙ ap (in_declaration x.declaration).from z);
      next = omega arith;
    })

-- ---- names

pub if_named : (x : Name) (at place : ℕ) (r : Result PlacedName Memory) → place ≡ at → IfOk r (λ made. named made ≡ name_at x place) → IfOk r (λ made. named made ≡ name_at x at)
if_named x at place r o h = if_ok r (λ made. named made ≡ name_at x place) (λ made. named made ≡ name_at x at) h (λ made m. m ∙ ap (name_at x) o)

pub name_made : (x : Name) (at place last : ℕ) (made : PlacedName) → place ≡ at → named made ≡ name_at x place → last ≡ place + 1 → Stands named (one (name_at x)) at (made, last)
name_made x at place last made o m n = record { part = m ∙ ap (name_at x) o; next = omega arith }

pub no_names_made : (at angle : ℕ) (made : List PlacedName) → angle ≡ at → made ≡ [] → AreNames None at (made, angle)
no_names_made at angle made o m = record { parts = ap (map named) m; next = omega arith }

pub names_made : (xs : List Name) (at angle close last : ℕ) (made : List PlacedName) → angle ≡ at → Lists named (map (λ y. one (name_at y)) xs) (angle + 1) (made, close)
    → last ≡ close + 1 → AreNames (Some xs) at (made, last)
names_made xs at angle close last made o h l =
    let n : close ≡ angle + 1 + listed_size (map (λ y. one (name_at y)) xs) = h.next in
    record { parts = h.parts ∙ ap (λ k. listed_from (map (λ y. one (name_at y)) xs) (k + 1)) o; next = omega arith }

-- ---- cases and fields

case_is : (x : written_case.Case) → in_case x ≡ case_step (record { pattern = x.pattern; body = in_expression x.body })
unfolding in_expression in_declaration in_member in_case in_object_field
case_is x = written_case.fold_out-Case DeclarationSpan ExpressionSpan MemberSpan CaseSpan ObjectFieldSpan declaration_step expression_step declaration_field_step case_step expression_field_step x

pub case_made : (x : written_case.Case) (at word middle last : ℕ) (pattern : Pattern ℕ) (body : Expression ℕ) → word ≡ at
    → Stands pattern_view.plain (in_pattern x.pattern) (word + 1) (pattern, middle) → Stands plain (in_expression x.body) (middle + 0) (body, last)
    → Stands plain_case (in_case x) at (roll-Case ℕ (record { pattern = pattern; body = body }), last)
case_made x at word middle last pattern body o h g =
    let s = case_step (record { pattern = x.pattern; body = in_expression x.body }) in
    let n : middle ≡ word + 1 + (in_pattern x.pattern).size = h.next in
    let m : last ≡ middle + 0 + (in_expression x.body).size = g.next in
    let u : middle + 0 ≡ at + 1 + (in_pattern x.pattern).size = omega arith in
    as_stands plain_case s (in_case x) at (roll-Case ℕ (record { pattern = pattern; body = body }), last) (case_is x)
    (record {
      part = V.seen_case pattern body ∙ ap {B = Cases ℕ → Cases ℕ} (λ (y : p.Pattern ℕ) (rest : Cases ℕ). p.Case y (plain body) rest) (h.part ∙ ap (λ k. (in_pattern x.pattern).from (k + 1)) o)
          ∙ ap {B = Cases ℕ → Cases ℕ} (λ (y : p.Expression ℕ) (rest : Cases ℕ). p.Case ((in_pattern x.pattern).from (at + 1)) y rest) (g.part ∙ ap (in_expression x.body).from u);
      next = omega arith;
    })

pub no_value_made : (x : Name) (place mark : ℕ) (made : Expression ℕ) → plain made ≡ p.exp place (p.Name x.bytes) → IsFieldValue x place None mark (made, mark)
no_value_made x place mark made m = let z : mark ≡ mark + 0 = omega arith in record { part = m; next = z }

pub value_made : (x : Name) (a : ExpressionSpan) (place mark : ℕ) (r : Result (Expression ℕ × ℕ) Memory) → IfOk r (Stands plain a (mark + 1)) → IfOk r (IsFieldValue x place (Some a) mark)
value_made x a place mark r h = if_ok r (Stands plain a (mark + 1)) (IsFieldValue x place (Some a) mark) h (λ made k.
    let n : made.1 ≡ mark + 1 + a.size = k.next in
    record { part = k.part; next = omega arith })

same_field : (x : written_field.ExpressionField) (o : Option written_expression.Expression) → expression_field_step (written_field.map-ExpressionField written_declaration.Declaration written_expression.Expression written_member.DeclarationField written_case.Case written_field.ExpressionField
    DeclarationSpan ExpressionSpan MemberSpan CaseSpan ObjectFieldSpan in_declaration in_expression in_member in_case in_object_field (record { mutable = x.mutable; name = x.name; annotation = x.annotation; value = o }))
    ≡ expression_field_step (record { mutable = x.mutable; name = x.name; annotation = x.annotation; value = option_map in_expression o })
same_field x None = refl
same_field x (Some a) = refl

field_is : (x : written_field.ExpressionField) → in_object_field x ≡ expression_field_step (record { mutable = x.mutable; name = x.name; annotation = x.annotation; value = option_map in_expression x.value })
unfolding in_expression in_declaration in_member in_case in_object_field
field_is x = written_field.fold_out-ExpressionField DeclarationSpan ExpressionSpan MemberSpan CaseSpan ObjectFieldSpan declaration_step expression_step declaration_field_step case_step expression_field_step x ∙ same_field x x.value

pub field_made : (x : written_field.ExpressionField) (at start count place mark last : ℕ) (name : PlacedName) (kind : Option TypeNode) (value : Expression ℕ) → start ≡ at → count ≡ flag x.mutable
    → place ≡ start + count → named name ≡ name_at x.name place → MayStand type_node (annotation x.annotation) (place + 1) (kind, mark)
    → IsFieldValue x.name place (option_map in_expression x.value) mark (value, last)
    → Stands plain_field (in_object_field x) at (roll-ObjectField ℕ (record { mutable = x.mutable; name = name; annotation = kind; value = value }), last)
field_made x at start count place mark last name kind value s c q n h g =
    let v = option_map in_expression x.value in
    let w = expression_field_step (record { mutable = x.mutable; name = x.name; annotation = x.annotation; value = v }) in
    let b : mark ≡ place + 1 + led 1 (annotation x.annotation) = h.next in
    let l : last ≡ mark + led 1 v = g.next in
    let o : place ≡ at + flag x.mutable = omega arith in
    let u : place + 1 + 1 ≡ at + flag x.mutable + 2 = omega arith in
    let y : mark + 1 ≡ at + flag x.mutable + 1 + led 1 (annotation x.annotation) + 1 = omega arith in
    as_stands plain_field w (in_object_field x) at (roll-ObjectField ℕ (record { mutable = x.mutable; name = name; annotation = kind; value = value }), last) (field_is x)
    (record {
      part = V.seen_field x.mutable name kind value
          ∙ ap {B = ObjectFields ℕ → ObjectFields ℕ} (λ (z : Named) (rest : ObjectFields ℕ). p.Field x.mutable z (view.annotation kind) (plain value) rest) (n ∙ ap (name_at x.name) o)
          ∙ ap {B = ObjectFields ℕ → ObjectFields ℕ} (λ (z : Option p.TypeNode) (rest : ObjectFields ℕ). p.Field x.mutable (name_at x.name (at + flag x.mutable)) z (plain value) rest) (h.part ∙ ap (at_led (annotation x.annotation)) u)
          ∙ ap {B = ObjectFields ℕ → ObjectFields ℕ} (λ (z : p.Expression ℕ) (rest : ObjectFields ℕ). p.Field x.mutable (name_at x.name (at + flag x.mutable)) (at_led (annotation x.annotation) (at + flag x.mutable + 2)) z rest)
          (g.part ∙ ap (λ k. field_value x.name k (mark + 1) v) o ∙ ap (λ k. field_value x.name (at + flag x.mutable) k v) y);
      next = omega arith;
    })
