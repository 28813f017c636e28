-- Declarations, by what is made of their parts.
use Rattle.std.proofs.Common.{◌≡◌, ℕ, ◌+◌, Bool, false, List, [], Option, None, Some, Result, IfOk, map, ap, ◌∙◌, arith}
use Rattle.mo_num.specs.declared.memory.Memory.{Memory}
use Rattle.mo_syntax.specs.declared.declarations.Declaration as written_declaration
use Rattle.mo_syntax.specs.declared.declarations.Declaration.TheOpen as written
use Rattle.mo_syntax.specs.declared.name.Name.{Name}
use Rattle.mo_syntax.specs.declared.patterns.Parameters.{Parameters}
use Rattle.mo_syntax.specs.declared.patterns.Pattern as written_pattern
use Rattle.mo_syntax.specs.declared.types.TypeExpression.{TypeExpression}
use Rattle.mo_syntax.specs.declared.types.TypeParameter as generic
use Rattle.typing_rules.specs.AbstractSyntax.{Named}
use Rattle.typing_rules.specs.AbstractSyntax as p
use Rattle.typing_rules.specs.Spans.{flag, led, at_led, one, name_at, listed_from, listed_size}
use Rattle.typing_rules.specs.AbstractTypes.{annotation, in_type}
use Rattle.typing_rules.specs.AbstractPatterns.{in_pattern}
use Rattle.typing_rules.specs.AbstractExpressions.{DeclarationSpan, ExpressionSpan, MemberSpan, declaration_step, in_declaration, members, signature_span}
use Rattle.abstract_types.specs.declared.names.PlacedName.{PlacedName}
use Rattle.abstract_types.specs.declared.patterns.Pattern.{Pattern}
use Rattle.abstract_types.specs.declared.patterns.Signature.{Signature}
use Rattle.abstract_types.specs.declared.types.TypeNode.{TypeNode}
use Rattle.abstract_types.specs.TypeView.{named, type_node}
use Rattle.abstract_types.specs.TypeView as view
use Rattle.abstract_types.specs.PatternView.{plain_signature}
use Rattle.abstract_types.specs.PatternView as pattern_view
use Rattle.abstract_tree.specs.declared.declarations.Declaration.{Declaration}
use Rattle.abstract_tree.specs.declared.declarations.DeclarationForm.{DeclarationForm}
use Rattle.abstract_tree.specs.declared.declarations.DeclarationForm.TheVariants as d
use Rattle.abstract_tree.specs.declared.expressions.Expression.{Expression}
use Rattle.abstract_tree.specs.TreeView.{declarations, plain, plain_declaration, plain_declaration_form}
use Rattle.abstract_tree.proofs.TreeViews as V
use Rattle.abstract_type_walk.specs.Stands.{Stands, MayStand}
use Rattle.abstract_type_walk.proofs.Spanning.{if_ok, as_stands}
use Rattle.abstract_parts.specs.TreeWalks.{AreDeclarations, AreNames}

pub let_made : (x : written_pattern.Pattern) (a : ExpressionSpan) (at mark last : ℕ) (pattern : Pattern ℕ) (value : Expression ℕ) → Stands pattern_view.plain (in_pattern x) (at + 1) (pattern, mark)
    → Stands plain a (mark + 1) (value, last) → Stands plain_declaration_form (declaration_step (written.Let x a)) at (d.Let pattern value, last)
let_made x a at mark last pattern value h g =
    let n : mark ≡ at + 1 + (in_pattern x).size = h.next in
    let m : last ≡ mark + 1 + a.size = g.next in
    let o : mark + 1 ≡ at + 2 + (in_pattern x).size = omega arith in
    record {
      part = V.seen_Let pattern value ∙ ap (λ (y : p.Pattern ℕ). p.Let y (plain value)) h.part ∙ ap (p.Let ((in_pattern x).from (at + 1))) (g.part ∙ ap a.from o);
      next = omega arith;
    }

pub var_made : (x : Name) (t : Option TypeExpression) (a : ExpressionSpan) (at mark last : ℕ) (name : PlacedName) (kind : Option TypeNode) (value : Expression ℕ) → named name ≡ name_at x (at + 1)
    → MayStand type_node (annotation t) (at + 2) (kind, mark) → Stands plain a (mark + 1) (value, last)
    → Stands plain_declaration_form (declaration_step (written.Var x t a)) at (d.Var false name kind value, last)
var_made x t a at mark last name kind value q h g =
    let n : mark ≡ at + 2 + led 1 (annotation t) = h.next in
    let m : last ≡ mark + 1 + a.size = g.next in
    let u : at + 2 + 1 ≡ at + 3 = omega arith in
    let o : mark + 1 ≡ at + 3 + led 1 (annotation t) = omega arith in
    record {
      part = V.seen_Var false name kind value ∙ ap (λ (y : Named). p.Var false y (view.annotation kind) (plain value)) q
          ∙ ap (λ (y : Option p.TypeNode). p.Var false (name_at x (at + 1)) y (plain value)) (h.part ∙ ap (at_led (annotation t)) u)
          ∙ ap (p.Var false (name_at x (at + 1)) (at_led (annotation t) (at + 3))) (g.part ∙ ap a.from o);
      next = omega arith;
    }

pub func_made : (x : Name) (gs : Option (List generic.TypeParameter)) (qs : Parameters) (t : Option TypeExpression) (equal_sign : Bool) (a : ExpressionSpan) (at start middle last : ℕ) (name : PlacedName)
    (g : Signature ℕ) (body : Expression ℕ) → named name ≡ name_at x (at + 1) → start ≡ at + 2 → Stands plain_signature (signature_span gs qs t equal_sign) start (g, middle)
    → Stands plain a (middle + 0) (body, last) → Stands plain_declaration_form (declaration_step (written.Func x gs qs t equal_sign a)) at (d.Func name g body, last)
func_made x gs qs t equal_sign a at start middle last name g body q o h i =
    let w = signature_span gs qs t equal_sign in
    let n : middle ≡ start + w.size = h.next in
    let m : last ≡ middle + 0 + a.size = i.next in
    let u : middle + 0 ≡ at + 2 + w.size = omega arith in
    record {
      part = V.seen_Func name g body ∙ ap (λ (y : Named). p.Func y (plain_signature g) (plain body)) q
          ∙ ap (λ (y : p.Signature ℕ). p.Func (name_at x (at + 1)) y (plain body)) (h.part ∙ ap w.from o) ∙ ap (p.Func (name_at x (at + 1)) (w.from (at + 2))) (i.part ∙ ap a.from u);
      next = omega arith;
    }

-- a type definition
pub alias_made : (x : Name) (names : Option (List Name)) (kind : TypeExpression) (at mark last : ℕ) (n : PlacedName) (ps : List PlacedName) (t : TypeNode)
    → named n ≡ name_at x (at + 1) → AreNames names (at + 2) (ps, mark) → Stands type_node (in_type kind) (mark + 1) (t, last)
    → Stands plain_declaration_form (declaration_step (written.TypeAlias x names kind)) at (d.TypeAlias n ps t, last)
alias_made x None kind at mark last n ps t i a g =
    let u : mark ≡ at + 2 + 0 = a.next in
    let v : mark + 1 ≡ at + 3 + 0 = omega arith in
    let w : last ≡ mark + 1 + (in_type kind).size = g.next in
    record {
      part = V.seen_TypeAlias n ps t ∙ ap (λ (y : Named). p.TypeAlias y (map named ps) (type_node t)) i ∙ ap (λ ys. p.TypeAlias (name_at x (at + 1)) ys (type_node t)) a.parts
          ∙ ap (p.TypeAlias (name_at x (at + 1)) []) (g.part ∙ ap (in_type kind).from v);
      next = omega arith;
    }
alias_made x (Some xs) kind at mark last n ps t i a g =
    let u : mark ≡ at + 2 + (2 + listed_size (map (λ y. one (name_at y)) xs)) = a.next in
    let v : mark + 1 ≡ at + 3 + (2 + listed_size (map (λ y. one (name_at y)) xs)) = omega arith in
    let z : at + 2 + 1 ≡ at + 3 = omega arith in
    let w : last ≡ mark + 1 + (in_type kind).size = g.next in
    record {
      part = V.seen_TypeAlias n ps t ∙ ap (λ (y : Named). p.TypeAlias y (map named ps) (type_node t)) i
          ∙ ap (λ ys. p.TypeAlias (name_at x (at + 1)) ys (type_node t)) (a.parts ∙ ap (listed_from (map (λ y. one (name_at y)) xs)) z)
          ∙ ap (p.TypeAlias (name_at x (at + 1)) (listed_from (map (λ y. one (name_at y)) xs) (at + 3))) (g.part ∙ ap (in_type kind).from v);
      next = omega arith;
    }

pub class_made : (x : Name) (gs : Option (List generic.TypeParameter)) (qs : Parameters) (fields : List MemberSpan) (close : Bool) (at start brace end count last : ℕ) (name : PlacedName) (g : Signature ℕ)
    (made : List (Declaration ℕ)) → named name ≡ name_at x (at + 1) → start ≡ at + 2 → Stands plain_signature (signature_span gs qs None false) start (g, brace)
    → AreDeclarations (members fields (brace + 1)) (listed_size fields) (brace + 1) (made, end) → count ≡ flag close → last ≡ end + (1 + count)
    → Stands plain_declaration_form (declaration_step (written.Class x gs qs fields close)) at (d.Class name g made, last)
class_made x gs qs fields close at start brace end count last name g made q o h i c l =
    let w = signature_span gs qs None false in
    let n : brace ≡ start + w.size = h.next in
    let m : end ≡ brace + 1 + listed_size fields = i.next in
    let u : brace + 1 ≡ at + 2 + w.size + 1 = omega arith in
    record {
      part = V.seen_Class name g made ∙ ap (λ (y : Named). p.Class y (plain_signature g) (declarations (map plain_declaration made))) q
          ∙ ap (λ (y : p.Signature ℕ). p.Class (name_at x (at + 1)) y (declarations (map plain_declaration made))) (h.part ∙ ap w.from o)
          ∙ ap (p.Class (name_at x (at + 1)) (w.from (at + 2))) (i.parts ∙ ap (members fields) u);
      next = omega arith;
    }

pub named_object_made : (x : Name) (fields : List MemberSpan) (close : Bool) (at end count last : ℕ) (name : PlacedName) (made : List (Declaration ℕ)) → named name ≡ name_at x (at + 1)
    → AreDeclarations (members fields (at + 3)) (listed_size fields) (at + 3) (made, end) → count ≡ flag close → last ≡ end + (1 + count)
    → Stands plain_declaration_form (declaration_step (written.NamedObject x fields close)) at (d.NamedObject name made, last)
named_object_made x fields close at end count last name made q h c l =
    let n : end ≡ at + 3 + listed_size fields = h.next in
    record {
      part = V.seen_NamedObject name made ∙ ap (λ (y : Named). p.NamedObject y (declarations (map plain_declaration made))) q ∙ ap (p.NamedObject (name_at x (at + 1))) h.parts;
      next = omega arith;
    }

pub evaluate_made : (a : ExpressionSpan) (at last : ℕ) (of : Expression ℕ) → Stands plain a (at + 0) (of, last) → Stands plain_declaration_form (declaration_step (written.Evaluate a)) at (d.Evaluate of, last)
evaluate_made a at last of h =
    let n : last ≡ at + 0 + a.size = h.next in
    let z : at + 0 ≡ at = omega arith in
    record { part = V.seen_Evaluate of ∙ ap p.Evaluate (h.part ∙ ap a.from z); next = omega arith }

-- ---- a form that a function of its own makes

pub layer_made : (x : written_declaration.Declaration) (s : DeclarationSpan) (at : ℕ) (r : Result (DeclarationForm ℕ × ℕ) Memory) → in_declaration x ≡ s → IfOk r (Stands plain_declaration_form s at)
    → IfOk r (Stands plain_declaration_form (in_declaration x) at)
layer_made x s at r w h = if_ok r (Stands plain_declaration_form s at) (Stands plain_declaration_form (in_declaration x) at) h (λ made k. as_stands plain_declaration_form s (in_declaration x) at made w k)
