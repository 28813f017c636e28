-- Patterns, parameters and signatures, by what is made of their parts.
use Rattle.std.proofs.Common.{◌≡◌, ℕ, ◌+◌, Bool, List, [], ◌∷◌, Option, None, Some, Result, IfOk, length, map, option_map, ap, ◌∙◌, sym, refl, arith}
use Rattle.mo_num.specs.declared.memory.Memory.{Memory}
use Rattle.mo_syntax.specs.declared.literal.Literal as written_literal
use Rattle.mo_syntax.specs.declared.name.Name.{Name}
use Rattle.mo_syntax.specs.declared.patterns.Parameters.TheVariants as parameters
use Rattle.mo_syntax.specs.declared.patterns.Pattern as written_pattern
use Rattle.mo_syntax.specs.declared.patterns.Pattern.TheOpen as written
use Rattle.mo_syntax.specs.declared.patterns.Pattern.TheVariants as e
use Rattle.mo_syntax.specs.declared.patterns.PatternField as written_field
use Rattle.mo_syntax.specs.declared.types.TypeExpression.{TypeExpression}
use Rattle.typing_rules.specs.AbstractSyntax.{Named, PatternFields}
use Rattle.typing_rules.specs.AbstractSyntax as p
use Rattle.typing_rules.specs.Spans.{Span, flag, literal_of, name_at, listed_from, listed_size}
use Rattle.typing_rules.specs.AbstractTypes.{in_type}
use Rattle.typing_rules.specs.AbstractPatterns.{PatternFieldSpan, PatternSpan, pattern_field_step, patterns, pattern_fields, pattern_items, pattern_step, field_pattern, in_pattern, in_pattern_field, in_parameters}
use Rattle.typing_rules.proofs.PatternSpans as S
use Rattle.abstract_types.specs.declared.names.PlacedName.{PlacedName}
use Rattle.abstract_types.specs.declared.patterns.Pattern.{Pattern}
use Rattle.abstract_types.specs.declared.patterns.PatternField.{PatternField, roll-PatternField}
use Rattle.abstract_types.specs.declared.patterns.PatternForm.TheVariants as t
use Rattle.abstract_types.specs.declared.types.TypeNode.{TypeNode}
use Rattle.abstract_types.specs.TypeView.{named, type_node}
use Rattle.abstract_types.specs.PatternView.{plain, plain_field, plain_form}
use Rattle.abstract_types.proofs.PatternViews as V
use Rattle.abstract_type_walk.specs.Stands.{Is, Stands, Lists}
use Rattle.abstract_type_walk.proofs.Spanning.{if_ok, stands, as_stands}
use Rattle.abstract_pattern_walk.specs.PatternWalks.{ArePatterns}

several : (xs : List (Span (p.Pattern ℕ))) (k : ℕ) → (length xs ≡ 1 → ⊥) → pattern_items xs k ≡ p.pattern k (p.Tuple (patterns (listed_from xs (k + 1))))
several [] k h = refl
several (x ∷ []) k h = absurd (h refl)
several (x ∷ y ∷ xs) k h = refl

length_map : {A B : Type 0} (f : A → B) (xs : List A) → length (map f xs) ≡ length xs
length_map f [] = refl
length_map f (x ∷ xs) = let h : length (map f xs) ≡ length xs = length_map f xs in omega arith

-- no patterns in parentheses, or several
pub tuple_made : (xs : List written_pattern.Pattern) (at close : ℕ) (made : List (Pattern ℕ)) (r : Result (Pattern ℕ × ℕ) Memory) → (length xs ≡ 1 → ⊥)
    → Lists plain (map in_pattern xs) (at + 1) (made, close) → IfOk r (Is plain (p.pattern at (plain_form (t.Tuple made))) (close + 1))
    → IfOk r (Stands plain (pattern_step (written.Parenthesized (map in_pattern xs))) at)
tuple_made xs at close made r d h k =
    let n : close ≡ at + 1 + listed_size (map in_pattern xs) = h.next in
    let s = pattern_step (written.Parenthesized (map in_pattern xs)) in
    stands plain s s at _ _ r k refl
    (ap (p.pattern at) (V.seen_Tuple made ∙ ap (λ zs. p.Tuple (patterns zs)) h.parts) ∙ sym (several (map in_pattern xs) at (λ q. d (sym (length_map in_pattern xs) ∙ q))))
    (omega arith)

-- one pattern in parentheses
pub one_made : (x : written_pattern.Pattern) (at close last : ℕ) (made : Pattern ℕ) → Stands plain (in_pattern x) (at + 1) (made, close) → last ≡ close + 1
    → Stands plain (pattern_step (written.Parenthesized (in_pattern x ∷ []))) at (made, last)
one_made x at close last made h l =
    let n : close ≡ at + 1 + (in_pattern x).size = h.next in
    record { part = h.part; next = omega arith }

-- parameters in parentheses
pub parameters_made : (xs : List written_pattern.Pattern) (at close last : ℕ) (made : List (Pattern ℕ)) → Lists plain (map in_pattern xs) (at + 1) (made, close)
    → last ≡ close + 1 → ArePatterns (in_parameters (parameters.List xs)) at (made, last)
parameters_made xs at close last made h l =
    let n : close ≡ at + 1 + listed_size (map in_pattern xs) = h.next in
    record {
      parts = V.listed_is (map plain made) ∙ ap patterns h.parts;
      next = omega arith;
    }

-- ---- the other forms

pub annotated_made : (q : written_pattern.Pattern) (r : written_pattern.Pattern) (a : TypeExpression) (at colon last : ℕ) (of : Pattern ℕ) (node : TypeNode) (made : Result (Pattern ℕ × ℕ) Memory)
    → q ≡ e.Annotated r a → Stands plain (in_pattern r) (at + 0) (of, colon) → Stands type_node (in_type a) (colon + 1) (node, last)
    → IfOk made (Is plain (p.pattern at (plain_form (t.Annotated of node))) (last + 0)) → IfOk made (Stands plain (in_pattern q) at)
annotated_made q r a at colon last of node made is h g k =
    let n : colon ≡ at + 0 + (in_pattern r).size = h.next in
    let m : last ≡ colon + 1 + (in_type a).size = g.next in
    let z : at + 0 ≡ at = omega arith in
    let o : colon + 1 ≡ at + (in_pattern r).size + 1 = omega arith in
    stands plain (pattern_step (written.Annotated (in_pattern r) a)) (in_pattern q) at _ _ made k (ap in_pattern is ∙ S.seen_Annotated r a)
    (ap (p.pattern at) (V.seen_Annotated of node ∙ ap (λ (y : p.Pattern ℕ). p.Annotated y (type_node node)) (h.part ∙ ap (in_pattern r).from z)
    ∙ ap (p.Annotated ((in_pattern r).from at)) (g.part ∙ ap (in_type a).from o))) (omega arith)

pub alternative_made : (q a b : written_pattern.Pattern) (at word last : ℕ) (left right : Pattern ℕ) (made : Result (Pattern ℕ × ℕ) Memory) → q ≡ e.Alternative a b
    → Stands plain (in_pattern a) (at + 0) (left, word) → Stands plain (in_pattern b) (word + 1) (right, last)
    → IfOk made (Is plain (p.pattern at (plain_form (t.Alternative left right))) (last + 0)) → IfOk made (Stands plain (in_pattern q) at)
alternative_made q a b at word last left right made is h g k =
    let n : word ≡ at + 0 + (in_pattern a).size = h.next in
    let m : last ≡ word + 1 + (in_pattern b).size = g.next in
    let z : at + 0 ≡ at = omega arith in
    let o : word + 1 ≡ at + (in_pattern a).size + 1 = omega arith in
    stands plain (pattern_step (written.Alternative (in_pattern a) (in_pattern b))) (in_pattern q) at _ _ made k (ap in_pattern is ∙ S.seen_Alternative a b)
    (ap (p.pattern at) (V.seen_Alternative left right ∙ ap (λ (y : p.Pattern ℕ). p.Alternative y (plain right)) (h.part ∙ ap (in_pattern a).from z)
    ∙ ap (p.Alternative ((in_pattern a).from at)) (g.part ∙ ap (in_pattern b).from o))) (omega arith)

pub optional_made : (q a : written_pattern.Pattern) (at last : ℕ) (of : Pattern ℕ) (made : Result (Pattern ℕ × ℕ) Memory) → q ≡ e.Optional a
    → Stands plain (in_pattern a) (at + 1) (of, last) → IfOk made (Is plain (p.pattern at (plain_form (t.Optional of))) (last + 0)) → IfOk made (Stands plain (in_pattern q) at)
optional_made q a at last of made is h k =
    let n : last ≡ at + 1 + (in_pattern a).size = h.next in
    stands plain (pattern_step (written.Optional (in_pattern a))) (in_pattern q) at _ _ made k (ap in_pattern is ∙ S.seen_Optional a)
    (ap (p.pattern at) (V.seen_Optional of ∙ ap p.Optional h.part)) (omega arith)

pub tag_made : (x : Name) (o : Option written_pattern.Pattern) (bytes : List ℕ) (at : ℕ) (made : Result (Pattern ℕ × ℕ) Memory) → o ≡ None → bytes ≡ x.bytes
    → IfOk made (Is plain (p.pattern at (plain_form (t.Tag bytes))) (at + 2)) → IfOk made (Stands plain (pattern_step (written.Tagged x (option_map in_pattern o))) at)
tag_made x o bytes at made is b k =
    stands plain (pattern_step (written.Tagged x None)) (pattern_step (written.Tagged x (option_map in_pattern o))) at _ _ made k
    (ap (λ (z : Option written_pattern.Pattern). pattern_step (written.Tagged x (option_map in_pattern z))) is) (ap (p.pattern at) (V.seen_Tag bytes ∙ ap p.Tag b)) refl

pub tagged_made : (a : written_pattern.Pattern) (x : Name) (o : Option written_pattern.Pattern) (bytes : List ℕ) (at last : ℕ) (of : Pattern ℕ) (made : Result (Pattern ℕ × ℕ) Memory) → o ≡ Some a → bytes ≡ x.bytes
    → Stands plain (in_pattern a) (at + 2) (of, last) → IfOk made (Is plain (p.pattern at (plain_form (t.Tagged bytes of))) (last + 0))
    → IfOk made (Stands plain (pattern_step (written.Tagged x (option_map in_pattern o))) at)
tagged_made a x o bytes at last of made is b h k =
    let n : last ≡ at + 2 + (in_pattern a).size = h.next in
    let m : last + 0 ≡ at + (2 + (in_pattern a).size) = omega arith in
    stands plain (pattern_step (written.Tagged x (Some (in_pattern a)))) (pattern_step (written.Tagged x (option_map in_pattern o))) at _ _ made k
    (ap (λ (z : Option written_pattern.Pattern). pattern_step (written.Tagged x (option_map in_pattern z))) is)
    (ap (p.pattern at) (V.seen_Tagged bytes of ∙ ap (λ y. p.Tagged y (plain of)) b ∙ ap (p.Tagged x.bytes) h.part)) m

pub variable_made : (q : written_pattern.Pattern) (x : Name) (bytes : List ℕ) (at : ℕ) (made : Result (Pattern ℕ × ℕ) Memory) → q ≡ e.Variable x → bytes ≡ x.bytes
    → IfOk made (Is plain (p.pattern at (plain_form (t.Variable bytes))) (at + 1)) → IfOk made (Stands plain (in_pattern q) at)
variable_made q x bytes at made is b k =
    stands plain (pattern_step (written.Variable x)) (in_pattern q) at _ _ made k (ap in_pattern is ∙ S.seen_Variable x)
    (ap (p.pattern at) (V.seen_Variable bytes ∙ ap p.Variable b)) refl

pub wildcard_made : (q : written_pattern.Pattern) (at : ℕ) (made : Result (Pattern ℕ × ℕ) Memory) → q ≡ e.Wildcard
    → IfOk made (Is plain (p.pattern at (plain_form t.Wildcard)) (at + 1)) → IfOk made (Stands plain (in_pattern q) at)
wildcard_made q at made is k =
    stands plain (pattern_step written.Wildcard) (in_pattern q) at _ _ made k (ap in_pattern is ∙ S.seen_Wildcard) (ap (p.pattern at) V.seen_Wildcard) refl

pub constant_made : (q : written_pattern.Pattern) (minus : Bool) (l copy : written_literal.Literal) (at count : ℕ) (made : Result (Pattern ℕ × ℕ) Memory) → q ≡ e.Constant minus l
    → literal_of copy ≡ literal_of l → count ≡ flag minus → IfOk made (Is plain (p.pattern at (plain_form (t.Constant minus copy))) (at + (1 + count)))
    → IfOk made (Stands plain (in_pattern q) at)
constant_made q minus l copy at count made is b c k =
    stands plain (pattern_step (written.Constant minus l)) (in_pattern q) at _ _ made k (ap in_pattern is ∙ S.seen_Constant minus l)
    (ap (p.pattern at) (V.seen_Constant minus copy ∙ ap (p.Constant minus) b)) (omega arith)

pub object_made : (last : Bool) (xs : List written_field.PatternField) (at counted end : ℕ) (made : List (PatternField ℕ)) (r : Result (Pattern ℕ × ℕ) Memory)
    → counted ≡ flag last → Lists plain_field (map in_pattern_field xs) (at + 1) (made, end) → IfOk r (Is plain (p.pattern at (plain_form (t.Object made))) (end + (1 + counted)))
    → IfOk r (Stands plain (pattern_step (written.Object (map in_pattern_field xs) last)) at)
object_made last xs at counted end made r d h k =
    let n : end ≡ at + 1 + listed_size (map in_pattern_field xs) = h.next in
    let s = pattern_step (written.Object (map in_pattern_field xs) last) in
    stands plain s s at _ _ r k refl (ap (p.pattern at) (V.seen_Object made ∙ ap (λ zs. p.Object (pattern_fields zs)) h.parts)) (omega arith)

-- ---- fields

same_field : (n : Name) (o : Option written_pattern.Pattern) → pattern_field_step (written_field.map-PatternField written_pattern.Pattern written_field.PatternField PatternSpan PatternFieldSpan in_pattern in_pattern_field (record { name = n; pattern = o }))
    ≡ field_pattern n (option_map in_pattern o)
same_field n None = refl
same_field n (Some q) = refl

field_is : (x : written_field.PatternField) → in_pattern_field x ≡ field_pattern x.name (option_map in_pattern x.pattern)
unfolding in_pattern in_pattern_field
field_is x = written_field.fold_out-PatternField PatternSpan PatternFieldSpan pattern_step pattern_field_step x ∙ same_field x.name x.pattern

pub punned_made : (x : written_field.PatternField) (at place last : ℕ) (name : PlacedName) (of : Pattern ℕ) → x.pattern ≡ None → place ≡ at → named name ≡ name_at x.name place
    → plain of ≡ p.pattern place (p.Variable x.name.bytes) → last ≡ place + 1 → Stands plain_field (in_pattern_field x) at (roll-PatternField ℕ (record { name = name; pattern = of }), last)
punned_made x at place last name of is o n h l =
    as_stands plain_field (field_pattern x.name None) (in_pattern_field x) at (roll-PatternField ℕ (record { name = name; pattern = of }), last)
    (field_is x ∙ ap (λ (z : Option written_pattern.Pattern). field_pattern x.name (option_map in_pattern z)) is)
    (record {
      part = V.seen_field name of ∙ ap {B = PatternFields ℕ → PatternFields ℕ} (λ (y : Named) (rest : PatternFields ℕ). p.Field y (plain of) rest) (n ∙ ap (name_at x.name) o)
          ∙ ap {B = PatternFields ℕ → PatternFields ℕ} (λ (z : p.Pattern ℕ) (rest : PatternFields ℕ). p.Field (name_at x.name at) z rest) (h ∙ ap (λ k. p.pattern k (p.Variable x.name.bytes)) o);
      next = omega arith;
    })

pub field_made : (x : written_field.PatternField) (a : written_pattern.Pattern) (at place last : ℕ) (name : PlacedName) (of : Pattern ℕ) → x.pattern ≡ Some a → place ≡ at
    → named name ≡ name_at x.name place → Stands plain (in_pattern a) (place + 2) (of, last) → Stands plain_field (in_pattern_field x) at (roll-PatternField ℕ (record { name = name; pattern = of }), last)
field_made x a at place last name of is o n h =
    let k : last ≡ place + 2 + (in_pattern a).size = h.next in
    as_stands plain_field (field_pattern x.name (Some (in_pattern a))) (in_pattern_field x) at (roll-PatternField ℕ (record { name = name; pattern = of }), last)
    (field_is x ∙ ap (λ (z : Option written_pattern.Pattern). field_pattern x.name (option_map in_pattern z)) is)
    (record {
      part = V.seen_field name of ∙ ap {B = PatternFields ℕ → PatternFields ℕ} (λ (y : Named) (rest : PatternFields ℕ). p.Field y (plain of) rest) (n ∙ ap (name_at x.name) o)
          ∙ ap {B = PatternFields ℕ → PatternFields ℕ} (λ (z : p.Pattern ℕ) (rest : PatternFields ℕ). p.Field (name_at x.name at) z rest) (h.part ∙ ap (λ k. (in_pattern a).from (k + 2)) o);
      next = omega arith;
    })

-- ---- a form that a function of its own makes

pub layer_made : (q : written_pattern.Pattern) (s : Span (p.Pattern ℕ)) (at : ℕ) (r : Result (Pattern ℕ × ℕ) Memory) → in_pattern q ≡ s → IfOk r (Stands plain s at) → IfOk r (Stands plain (in_pattern q) at)
layer_made q s at r w h = if_ok r (Stands plain s at) (Stands plain (in_pattern q) at) h (λ made k. as_stands plain s (in_pattern q) at made w k)
