-- Expressions that patterns, types or lists are parts of, by what is made of these.
use Rattle.std.proofs.Common.{◌≡◌, ℕ, ◌+◌, Bool, List, Option, None, Some, Result, IfOk, map, option_map, ap, ◌∙◌, refl, arith}
use Rattle.mo_num.specs.declared.memory.Memory.{Memory}
use Rattle.mo_syntax.specs.declared.declarations.Declaration.TheOpen as written
use Rattle.mo_syntax.specs.declared.name.Name.{Name}
use Rattle.mo_syntax.specs.declared.patterns.Parameters.{Parameters}
use Rattle.mo_syntax.specs.declared.patterns.Pattern as written_pattern
use Rattle.mo_syntax.specs.declared.types.TypeExpression.{TypeExpression}
use Rattle.typing_rules.specs.AbstractSyntax as p
use Rattle.typing_rules.specs.Spans.{flag, led, at_led, listed_from, listed_size}
use Rattle.typing_rules.specs.AbstractTypes.{annotation, in_type}
use Rattle.typing_rules.specs.AbstractPatterns.{in_pattern}
use Rattle.typing_rules.specs.AbstractExpressions.{CaseSpan, DeclarationSpan, ExpressionSpan, MemberSpan, ObjectFieldSpan, arguments_size, braces_size, conditional, expressions, expression_step, signature_span, type_arguments}
use Rattle.typing_rules.specs.AbstractExpressions as rules
use Rattle.abstract_types.specs.declared.patterns.Pattern.{Pattern}
use Rattle.abstract_types.specs.declared.patterns.Signature.{Signature}
use Rattle.abstract_types.specs.declared.types.TypeNode.{TypeNode}
use Rattle.abstract_types.specs.TypeView.{type_node}
use Rattle.abstract_types.specs.TypeView as view
use Rattle.abstract_types.specs.PatternView.{plain_signature}
use Rattle.abstract_types.specs.PatternView as pattern_view
use Rattle.abstract_tree.specs.declared.declarations.Declaration.{Declaration}
use Rattle.abstract_tree.specs.declared.expressions.Case.{Case}
use Rattle.abstract_tree.specs.declared.expressions.Expression.{Expression}
use Rattle.abstract_tree.specs.declared.expressions.ExpressionForm.TheVariants as e
use Rattle.abstract_tree.specs.declared.expressions.ObjectField.{ObjectField}
use Rattle.abstract_tree.specs.TreeView.{plain, plain_case, plain_field, plain_form}
use Rattle.abstract_tree.proofs.TreeViews as V
use Rattle.abstract_type_walk.specs.Stands.{Is, Stands, Lists, MayStand}
use Rattle.abstract_type_walk.specs.TypeWalks.{AreTypeArguments}
use Rattle.abstract_type_walk.proofs.Spanning.{stands}
use Rattle.abstract_parts.specs.TreeWalks.{AreDeclarations}

pub annotated_made : (a : ExpressionSpan) (t : TypeExpression) (at colon last : ℕ) (of : Expression ℕ) (node : TypeNode) (r : Result (Expression ℕ × ℕ) Memory)
    → Stands plain a (at + 0) (of, colon) → Stands type_node (in_type t) (colon + 1) (node, last)
    → IfOk r (Is plain (p.exp at (plain_form (e.Annotated of node))) (last + 0)) → IfOk r (Stands plain (expression_step (written.Annotated a t)) at)
annotated_made a t at colon last of node r h g k =
    let n : colon ≡ at + 0 + a.size = h.next in
    let m : last ≡ colon + 1 + (in_type t).size = g.next in
    let z : at + 0 ≡ at = omega arith in
    let o : colon + 1 ≡ at + a.size + 1 = omega arith in
    let q : last + 0 ≡ at + (a.size + 1 + (in_type t).size) = omega arith in
    let s = expression_step (written.Annotated a t) in
    stands plain s s at _ _ r k refl
    (ap (p.exp at) (V.seen_Annotated of node ∙ ap (λ (y : p.Expression ℕ). p.Annotated y (type_node node)) (h.part ∙ ap a.from z) ∙ ap (p.Annotated (a.from at)) (g.part ∙ ap (in_type t).from o))) q

pub either_made : (c a b : ExpressionSpan) (at middle word last : ℕ) (condition left right : Expression ℕ) (r : Result (Expression ℕ × ℕ) Memory)
    → Stands plain c (at + 1) (condition, middle) → Stands plain a (middle + 0) (left, word) → Stands plain b (word + 1) (right, last)
    → IfOk r (Is plain (p.exp at (plain_form (e.If condition left right))) (last + 0)) → IfOk r (Stands plain (conditional c a (Some b)) at)
either_made c a b at middle word last condition left right r h g i k =
    let n : middle ≡ at + 1 + c.size = h.next in
    let m : word ≡ middle + 0 + a.size = g.next in
    let l : last ≡ word + 1 + b.size = i.next in
    let o : middle + 0 ≡ at + 1 + c.size = omega arith in
    let u : word + 1 ≡ at + 1 + c.size + a.size + 1 = omega arith in
    let q : last + 0 ≡ at + (1 + c.size + a.size + 1 + b.size) = omega arith in
    stands plain (conditional c a (Some b)) (conditional c a (Some b)) at _ _ r k refl
    (ap (p.exp at) (V.seen_If condition left right ∙ ap (λ (y : p.Expression ℕ). p.If y (plain left) (plain right)) h.part
    ∙ ap (λ (y : p.Expression ℕ). p.If (c.from (at + 1)) y (plain right)) (g.part ∙ ap a.from o) ∙ ap (p.If (c.from (at + 1)) (a.from (at + 1 + c.size))) (i.part ∙ ap b.from u))) q

pub switch_made : (a : ExpressionSpan) (cs : List CaseSpan) (close : Bool) (at count opened last : ℕ) (of : Expression ℕ) (cases : List (Case ℕ)) (r : Result (Expression ℕ × ℕ) Memory)
    → count ≡ flag close → Stands plain a (at + 1) (of, opened) → Lists plain_case cs (opened + 1) (cases, last)
    → IfOk r (Is plain (p.exp at (plain_form (e.Switch of cases))) (last + (1 + count))) → IfOk r (Stands plain (expression_step (written.Switch a cs close)) at)
switch_made a cs close at count opened last of cases r c h g k =
    let n : opened ≡ at + 1 + a.size = h.next in
    let m : last ≡ opened + 1 + listed_size cs = g.next in
    let o : opened + 1 ≡ at + 1 + a.size + 1 = omega arith in
    let q : last + (1 + count) ≡ at + (1 + a.size + braces_size cs close) = omega arith in
    let s = expression_step (written.Switch a cs close) in
    stands plain s s at _ _ r k refl
    (ap (p.exp at) (V.seen_Switch of cases ∙ ap (λ (y : p.Expression ℕ). p.Switch y (rules.cases (map plain_case cases))) h.part
    ∙ ap (λ zs. p.Switch (a.from (at + 1)) (rules.cases zs)) (g.parts ∙ ap (listed_from cs) o))) q

pub for_made : (x : written_pattern.Pattern) (a b : ExpressionSpan) (at word close last : ℕ) (pattern : Pattern ℕ) (of body : Expression ℕ) (r : Result (Expression ℕ × ℕ) Memory)
    → Stands pattern_view.plain (in_pattern x) (at + 2) (pattern, word) → Stands plain a (word + 1) (of, close) → Stands plain b (close + 1) (body, last)
    → IfOk r (Is plain (p.exp at (plain_form (e.For pattern of body))) (last + 0)) → IfOk r (Stands plain (expression_step (written.For x a b)) at)
for_made x a b at word close last pattern of body r h g i k =
    let n : word ≡ at + 2 + (in_pattern x).size = h.next in
    let m : close ≡ word + 1 + a.size = g.next in
    let l : last ≡ close + 1 + b.size = i.next in
    let o : word + 1 ≡ at + 2 + (in_pattern x).size + 1 = omega arith in
    let u : close + 1 ≡ at + 2 + (in_pattern x).size + 1 + a.size + 1 = omega arith in
    let q : last + 0 ≡ at + (4 + (in_pattern x).size + a.size + b.size) = omega arith in
    let s = expression_step (written.For x a b) in
    stands plain s s at _ _ r k refl
    (ap (p.exp at) (V.seen_For pattern of body ∙ ap (λ (y : p.Pattern ℕ). p.For y (plain of) (plain body)) h.part
    ∙ ap (λ (y : p.Expression ℕ). p.For ((in_pattern x).from (at + 2)) y (plain body)) (g.part ∙ ap a.from o)
    ∙ ap (p.For ((in_pattern x).from (at + 2)) (a.from (at + 2 + (in_pattern x).size + 1))) (i.part ∙ ap b.from u))) q

pub label_made : (x : Name) (t : Option TypeExpression) (a : ExpressionSpan) (bytes : List ℕ) (at middle last : ℕ) (kind : Option TypeNode) (body : Expression ℕ) (r : Result (Expression ℕ × ℕ) Memory)
    → bytes ≡ x.bytes → MayStand type_node (annotation t) (at + 2) (kind, middle) → Stands plain a (middle + 0) (body, last)
    → IfOk r (Is plain (p.exp at (plain_form (e.Label bytes kind body))) (last + 0)) → IfOk r (Stands plain (expression_step (written.Label x t a)) at)
label_made x t a bytes at middle last kind body r b h g k =
    let n : middle ≡ at + 2 + led 1 (annotation t) = h.next in
    let m : last ≡ middle + 0 + a.size = g.next in
    let o : at + 2 + 1 ≡ at + 3 = omega arith in
    let u : middle + 0 ≡ at + 2 + led 1 (annotation t) = omega arith in
    let q : last + 0 ≡ at + (2 + led 1 (annotation t) + a.size) = omega arith in
    let s = expression_step (written.Label x t a) in
    stands plain s s at _ _ r k refl
    (ap (p.exp at) (V.seen_Label bytes kind body ∙ ap (λ y. p.Label y (view.annotation kind) (plain body)) b
    ∙ ap (λ (y : Option p.TypeNode). p.Label x.bytes y (plain body)) (h.part ∙ ap (at_led (annotation t)) o) ∙ ap (p.Label x.bytes (at_led (annotation t) (at + 3))) (g.part ∙ ap a.from u))) q

pub try_made : (a : ExpressionSpan) (x : written_pattern.Pattern) (b : ExpressionSpan) (at word middle last : ℕ) (body : Expression ℕ) (pattern : Pattern ℕ) (handler : Expression ℕ) (r : Result (Expression ℕ × ℕ) Memory)
    → Stands plain a (at + 1) (body, word) → Stands pattern_view.plain (in_pattern x) (word + 1) (pattern, middle) → Stands plain b (middle + 0) (handler, last)
    → IfOk r (Is plain (p.exp at (plain_form (e.Try body pattern handler))) (last + 0)) → IfOk r (Stands plain (expression_step (written.Try a x b)) at)
try_made a x b at word middle last body pattern handler r h g i k =
    let n : word ≡ at + 1 + a.size = h.next in
    let m : middle ≡ word + 1 + (in_pattern x).size = g.next in
    let l : last ≡ middle + 0 + b.size = i.next in
    let o : word + 1 ≡ at + 1 + a.size + 1 = omega arith in
    let u : middle + 0 ≡ at + 1 + a.size + 1 + (in_pattern x).size = omega arith in
    let q : last + 0 ≡ at + (2 + a.size + (in_pattern x).size + b.size) = omega arith in
    let s = expression_step (written.Try a x b) in
    stands plain s s at _ _ r k refl
    (ap (p.exp at) (V.seen_Try body pattern handler ∙ ap (λ (y : p.Expression ℕ). p.Try y (pattern_view.plain pattern) (plain handler)) h.part
    ∙ ap (λ (y : p.Pattern ℕ). p.Try (a.from (at + 1)) y (plain handler)) (g.part ∙ ap (in_pattern x).from o)
    ∙ ap (p.Try (a.from (at + 1)) ((in_pattern x).from (at + 1 + a.size + 1))) (i.part ∙ ap b.from u))) q

pub function_made : (qs : Parameters) (t : Option TypeExpression) (equal_sign : Bool) (a : ExpressionSpan) (at start middle last : ℕ) (g : Signature ℕ) (body : Expression ℕ) (r : Result (Expression ℕ × ℕ) Memory)
    → start ≡ at + 1 → Stands plain_signature (signature_span None qs t equal_sign) start (g, middle) → Stands plain a (middle + 0) (body, last)
    → IfOk r (Is plain (p.exp at (plain_form (e.Function g body))) (last + 0)) → IfOk r (Stands plain (expression_step (written.Function qs t equal_sign a)) at)
function_made qs t equal_sign a at start middle last g body r o h i k =
    let w = signature_span None qs t equal_sign in
    let n : middle ≡ start + w.size = h.next in
    let m : last ≡ middle + 0 + a.size = i.next in
    let u : middle + 0 ≡ at + 1 + w.size = omega arith in
    let q : last + 0 ≡ at + (1 + w.size + a.size) = omega arith in
    let s = expression_step (written.Function qs t equal_sign a) in
    stands plain s s at _ _ r k refl
    (ap (p.exp at) (V.seen_Function g body ∙ ap (λ (y : p.Signature ℕ). p.Function y (plain body)) (h.part ∙ ap w.from o) ∙ ap (p.Function (w.from (at + 1))) (i.part ∙ ap a.from u))) q

pub call_made : (a : ExpressionSpan) (ts : Option (List TypeExpression)) (xs : List ExpressionSpan) (at angle opened close : ℕ) (function : Expression ℕ) (types : Option (List TypeNode))
    (arguments : List (Expression ℕ)) (r : Result (Expression ℕ × ℕ) Memory)
    → Stands plain a (at + 0) (function, angle) → AreTypeArguments (type_arguments ts) angle (types, opened) → Lists plain xs (opened + 1) (arguments, close)
    → IfOk r (Is plain (p.exp at (plain_form (e.Call function types arguments))) (close + 1)) → IfOk r (Stands plain (expression_step (written.Call a ts xs)) at)
call_made a ts xs at angle opened close function types arguments r h g i k =
    let n : angle ≡ at + 0 + a.size = h.next in
    let m : opened ≡ angle + arguments_size (type_arguments ts) = g.next in
    let l : close ≡ opened + 1 + listed_size xs = i.next in
    let z : at + 0 ≡ at = omega arith in
    let o : angle ≡ at + a.size = omega arith in
    let u : opened + 1 ≡ at + a.size + arguments_size (type_arguments ts) + 1 = omega arith in
    let q : close + 1 ≡ at + (a.size + arguments_size (type_arguments ts) + 2 + listed_size xs) = omega arith in
    let s = expression_step (written.Call a ts xs) in
    stands plain s s at _ _ r k refl
    (ap (p.exp at) (V.seen_Call function types arguments ∙ ap (λ (y : p.Expression ℕ). p.Call y (option_map (map type_node) types) (expressions (map plain arguments))) (h.part ∙ ap a.from z)
    ∙ ap (λ (y : Option (List p.TypeNode)). p.Call (a.from at) y (expressions (map plain arguments))) (g.parts ∙ ap (λ j. option_map (λ us. listed_from us (j + 1)) (type_arguments ts)) o)
    ∙ ap (λ zs. p.Call (a.from at) (option_map (λ us. listed_from us (at + a.size + 1)) (type_arguments ts)) (expressions zs)) (i.parts ∙ ap (listed_from xs) u))) q

-- ---- lists

pub array_made : (mutable : Bool) (xs : List ExpressionSpan) (at count close : ℕ) (made : List (Expression ℕ)) (r : Result (Expression ℕ × ℕ) Memory) → count ≡ flag mutable
    → Lists plain xs (at + (1 + count)) (made, close) → IfOk r (Is plain (p.exp at (plain_form (e.Array mutable made))) (close + 1))
    → IfOk r (Stands plain (expression_step (written.Array mutable xs)) at)
array_made mutable xs at count close made r c h k =
    let n : close ≡ at + (1 + count) + listed_size xs = h.next in
    let o : at + (1 + count) ≡ at + 1 + flag mutable = omega arith in
    let q : close + 1 ≡ at + (2 + flag mutable + listed_size xs) = omega arith in
    let s = expression_step (written.Array mutable xs) in
    stands plain s s at _ _ r k refl (ap (p.exp at) (V.seen_Array mutable made ∙ ap (λ zs. p.Array mutable (expressions zs)) (h.parts ∙ ap (listed_from xs) o))) q

pub object_made : (xs : List ObjectFieldSpan) (last : Bool) (at count close : ℕ) (made : List (ObjectField ℕ)) (r : Result (Expression ℕ × ℕ) Memory) → count ≡ flag last
    → Lists plain_field xs (at + 1) (made, close) → IfOk r (Is plain (p.exp at (plain_form (e.Object made))) (close + (1 + count)))
    → IfOk r (Stands plain (expression_step (written.Object xs last)) at)
object_made xs last at count close made r c h k =
    let n : close ≡ at + 1 + listed_size xs = h.next in
    let q : close + (1 + count) ≡ at + braces_size xs last = omega arith in
    let s = expression_step (written.Object xs last) in
    stands plain s s at _ _ r k refl (ap (p.exp at) (V.seen_Object made ∙ ap (λ zs. p.Object (rules.object_fields zs)) h.parts)) q

pub block_made : (ds : List DeclarationSpan) (last : Bool) (at count close : ℕ) (made : List (Declaration ℕ)) (r : Result (Expression ℕ × ℕ) Memory) → count ≡ flag last
    → AreDeclarations (rules.declarations ds (at + 1)) (listed_size ds) (at + 1) (made, close) → IfOk r (Is plain (p.exp at (plain_form (e.Block made))) (close + (1 + count)))
    → IfOk r (Stands plain (expression_step (written.Block ds last)) at)
block_made ds last at count close made r c h k =
    let n : close ≡ at + 1 + listed_size ds = h.next in
    let q : close + (1 + count) ≡ at + braces_size ds last = omega arith in
    let s = expression_step (written.Block ds last) in
    stands plain s s at _ _ r k refl (ap (p.exp at) (V.seen_Block made ∙ ap p.Block h.parts)) q

pub object_block_made : (ds : List MemberSpan) (last : Bool) (at count close : ℕ) (made : List (Declaration ℕ)) (r : Result (Expression ℕ × ℕ) Memory) → count ≡ flag last
    → AreDeclarations (rules.members ds (at + 2)) (listed_size ds) (at + 2) (made, close) → IfOk r (Is plain (p.exp at (plain_form (e.ObjectBlock made))) (close + (1 + count)))
    → IfOk r (Stands plain (expression_step (written.ObjectBlock ds last)) at)
object_block_made ds last at count close made r c h k =
    let n : close ≡ at + 2 + listed_size ds = h.next in
    let q : close + (1 + count) ≡ at + (1 + braces_size ds last) = omega arith in
    let s = expression_step (written.ObjectBlock ds last) in
    stands plain s s at _ _ r k refl (ap (p.exp at) (V.seen_ObjectBlock made ∙ ap p.ObjectBlock h.parts)) q
