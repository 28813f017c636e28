-- The fields of an actor, by what is made of their parts.
use Rattle.std.proofs.Common.{◌≡◌, ℕ, ◌+◌, Bool, true, false, Option, option_map, ap, ◌∙◌, arith}
use Rattle.mo_syntax.specs.declared.declarations.Declaration as written_declaration
use Rattle.mo_syntax.specs.declared.expressions.Expression as written_expression
use Rattle.mo_syntax.specs.declared.name.Name.{Name}
use Rattle.mo_syntax.specs.declared.program.ActorField.TheVariants as field
use Rattle.mo_syntax.specs.declared.types.TypeExpression.{TypeExpression}
use Rattle.typing_rules.specs.AbstractSyntax.{Named, Declarations}
use Rattle.typing_rules.specs.AbstractSyntax as p
use Rattle.typing_rules.specs.Spans.{Span, flag, led, at_led, name_at}
use Rattle.typing_rules.specs.AbstractTypes.{annotation}
use Rattle.typing_rules.specs.AbstractExpressions.{ExpressionSpan, MemberSpan, in_declaration, in_expression}
use Rattle.typing_rules.specs.AbstractPrograms.{Prefix, in_field, method_span}
use Rattle.abstract_types.specs.declared.names.PlacedName.{PlacedName}
use Rattle.abstract_types.specs.declared.patterns.Pattern.{Pattern}
use Rattle.abstract_types.specs.declared.patterns.Signature.{Signature}
use Rattle.abstract_types.specs.declared.types.TypeNode.{TypeNode}
use Rattle.abstract_types.specs.TypeView.{named, type_node}
use Rattle.abstract_types.specs.TypeView as view
use Rattle.abstract_types.specs.PatternView.{plain_signature}
use Rattle.abstract_types.specs.PatternView as pattern_view
use Rattle.abstract_tree.specs.declared.declarations.Declaration.{Declaration}
use Rattle.abstract_tree.specs.declared.declarations.DeclarationForm.{DeclarationForm}
use Rattle.abstract_tree.specs.declared.declarations.DeclarationForm.TheVariants as d
use Rattle.abstract_tree.specs.declared.expressions.Expression.{Expression}
use Rattle.abstract_tree.specs.TreeView.{plain, plain_declaration, plain_declaration_form}
use Rattle.abstract_tree.proofs.TreeViews as V
use Rattle.abstract_type_walk.specs.Stands.{Stands, MayStand}
use Rattle.abstract_parts.specs.TreeWalks.{in_object}
use Rattle.abstract_programs.specs.ProgramWalks.{IsPrefix}

-- a field of this form
field_of : (s : MemberSpan) (at last : ℕ) (form : DeclarationForm ℕ) (made : Declaration ℕ) → plain_declaration made ≡ (λ (rest : Declarations ℕ). p.Then (s.from at).0 at (plain_declaration_form form) rest)
    → plain_declaration_form form ≡ (s.from at).1 → last ≡ at + s.size → Stands plain_declaration (in_object s) at (made, last)
field_of s at last form made m f n = record {
  part = m ∙ ap {B = Declarations ℕ → Declarations ℕ} (λ (y : p.Declaration ℕ) (rest : Declarations ℕ). p.Then (s.from at).0 at y rest) f;
  next = n;
}

pub method_made : (before : Prefix) (x : Name) (g : Span (p.Signature ℕ)) (b : ExpressionSpan) (at start word place opened middle last : ℕ) (query : Bool) (context : Option (Pattern ℕ)) (name : PlacedName)
    (signature : Signature ℕ) (body : Expression ℕ) (made : Declaration ℕ) → start ≡ at + 1 → IsPrefix before start (query, context, word) → place ≡ word + 1 → named name ≡ name_at x place → opened ≡ place + 1
    → Stands plain_signature g opened (signature, middle) → Stands plain b (middle + 0) (body, last)
    → plain_declaration made ≡ (λ (rest : Declarations ℕ). p.Then true at (plain_declaration_form (d.Method query context name signature body)) rest)
    → Stands plain_declaration (in_object (method_span before x g b)) at (made, last)
method_made before x g b at start word place opened middle last query context name signature body made s i q n o h k m =
    let w : word ≡ start + before.words + led 0 before.context = i.next in
    let u : middle ≡ opened + g.size = h.next in
    let l : last ≡ middle + 0 + b.size = k.next in
    let c : start + before.words ≡ at + 1 + before.words = omega arith in
    let y : place ≡ at + 1 + before.words + led 0 before.context + 1 = omega arith in
    let z : opened ≡ at + 1 + before.words + led 0 before.context + 2 = omega arith in
    let v : middle + 0 ≡ at + 1 + before.words + led 0 before.context + 2 + g.size = omega arith in
    let e : last ≡ at + (1 + before.words + led 0 before.context + 2 + g.size + b.size) = omega arith in
    field_of (method_span before x g b) at last (d.Method query context name signature body) made m
    (V.seen_Method query context name signature body
    ∙ ap (λ (t : Bool). p.Method t (option_map pattern_view.plain context) (named name) (plain_signature signature) (plain body)) i.query
    ∙ ap (λ (t : Option (p.Pattern ℕ)). p.Method before.query t (named name) (plain_signature signature) (plain body)) (i.context ∙ ap (at_led before.context) c)
    ∙ ap (λ (t : Named). p.Method before.query (at_led before.context (at + 1 + before.words)) t (plain_signature signature) (plain body)) (n ∙ ap (name_at x) y)
    ∙ ap (λ (t : p.Signature ℕ). p.Method before.query (at_led before.context (at + 1 + before.words)) (name_at x (at + 1 + before.words + led 0 before.context + 1)) t (plain body)) (h.part ∙ ap g.from z)
    ∙ ap (p.Method before.query (at_led before.context (at + 1 + before.words)) (name_at x (at + 1 + before.words + led 0 before.context + 1)) (g.from (at + 1 + before.words + led 0 before.context + 2)))
    (k.part ∙ ap b.from v)) e

pub system_made : (x : Name) (equal_sign : Bool) (b : written_expression.Expression) (at place count last : ℕ) (name : PlacedName) (body : Expression ℕ) (made : Declaration ℕ) → place ≡ at + 2
    → named name ≡ name_at x place → count ≡ flag equal_sign → Stands plain (in_expression b) (at + (5 + count)) (body, last)
    → plain_declaration made ≡ (λ (rest : Declarations ℕ). p.Then false at (plain_declaration_form (d.System name body)) rest)
    → Stands plain_declaration (in_object (in_field (field.System x equal_sign b))) at (made, last)
system_made x equal_sign b at place count last name body made q n c h m =
    let l : last ≡ at + (5 + count) + (in_expression b).size = h.next in
    let u : at + (5 + count) ≡ at + 5 + flag equal_sign = omega arith in
    let e : last ≡ at + (5 + flag equal_sign + (in_expression b).size) = omega arith in
    field_of (in_field (field.System x equal_sign b)) at last (d.System name body) made m
    (V.seen_System name body ∙ ap (λ (t : Named). p.System t (plain body)) (n ∙ ap (name_at x) q) ∙ ap (p.System (name_at x (at + 2))) (h.part ∙ ap (in_expression b).from u)) e

pub declared_made : (private : Bool) (w : written_declaration.Declaration) (at count last : ℕ) (form : DeclarationForm ℕ) (made : Declaration ℕ) → count ≡ flag private
    → Stands plain_declaration_form (in_declaration w) (at + count) (form, last) → plain_declaration made ≡ (λ (rest : Declarations ℕ). p.Then false at (plain_declaration_form form) rest)
    → Stands plain_declaration (in_object (in_field (field.Declared private w))) at (made, last)
declared_made private w at count last form made c h m =
    let l : last ≡ at + count + (in_declaration w).size = h.next in
    let u : at + count ≡ at + flag private = omega arith in
    let e : last ≡ at + (flag private + (in_declaration w).size) = omega arith in
    field_of (in_field (field.Declared private w)) at last form made m (h.part ∙ ap (in_declaration w).from u) e

pub stable_made : (private : Bool) (x : Name) (t : Option TypeExpression) (a : written_expression.Expression) (at count place mark last : ℕ) (name : PlacedName) (kind : Option TypeNode) (value : Expression ℕ)
    (made : Declaration ℕ) → count ≡ flag private → place ≡ at + (2 + count) → named name ≡ name_at x place → MayStand type_node (annotation t) (place + 1) (kind, mark)
    → Stands plain (in_expression a) (mark + 1) (value, last)
    → plain_declaration made ≡ (λ (rest : Declarations ℕ). p.Then false at (plain_declaration_form (d.Var true name kind value)) rest)
    → Stands plain_declaration (in_object (in_field (field.Stable private x t a))) at (made, last)
stable_made private x t a at count place mark last name kind value made c q n h k m =
    let b : mark ≡ place + 1 + led 1 (annotation t) = h.next in
    let l : last ≡ mark + 1 + (in_expression a).size = k.next in
    let u : place ≡ at + flag private + 2 = omega arith in
    let v : place + 1 + 1 ≡ at + flag private + 4 = omega arith in
    let w : mark + 1 ≡ at + flag private + 4 + led 1 (annotation t) = omega arith in
    let e : last ≡ at + (flag private + 4 + led 1 (annotation t) + (in_expression a).size) = omega arith in
    field_of (in_field (field.Stable private x t a)) at last (d.Var true name kind value) made m
    (V.seen_Var true name kind value ∙ ap (λ (y : Named). p.Var true y (view.annotation kind) (plain value)) (n ∙ ap (name_at x) u)
    ∙ ap (λ (y : Option p.TypeNode). p.Var true (name_at x (at + flag private + 2)) y (plain value)) (h.part ∙ ap (at_led (annotation t)) v)
    ∙ ap (p.Var true (name_at x (at + flag private + 2)) (at_led (annotation t) (at + flag private + 4))) (k.part ∙ ap (in_expression a).from w)) e
