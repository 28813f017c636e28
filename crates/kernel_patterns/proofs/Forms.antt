-- What each form of pattern is written out to.
use Rattle.std.proofs.Common.{◌≡◌, ◌∙◌, ℕ, Bool, List, [], ◌∷◌, map, cond, refl, ap, sym}
use Rattle.std.specs.Prelude.{Result, Ok, Err, IfOk}
use Rattle.mo_syntax.specs.declared.literal.Literal as syntax
use Rattle.mo_types.specs.declared.node.Node.{Node}
use Rattle.mo_types.specs.declared.node.Node.TheVariants as node
use Rattle.mo_types.specs.declared.node.TypeId.{TypeId}
use Rattle.mo_types.specs.Heads.{is_blob}
use Rattle.mo_subtype.specs.Renamed.{on_node}
use Rattle.type_terms.specs.declared.form.TermId.{TermId}
use Rattle.typed_tree.specs.declared.literal.Literal.{Literal}
use Rattle.typed_tree.specs.declared.literal.Literal.TheVariants as literal
use Rattle.typed_tree.specs.declared.pattern.TypedPattern.{TypedPattern}
use Rattle.typed_tree.specs.declared.pattern.PatternForm as typed
use Rattle.typed_tree.specs.declared.pattern.PatternForm.TheVariants as f
use Rattle.typed_tree.specs.declared.pattern.PatternForm.TheOpen as P
use Rattle.typed_tree.specs.declared.pattern.PatternField as typed_field
use Rattle.typing_rules.specs.AbstractSyntax as p
use Rattle.typing_rules.specs.Graphs.{term_of}
use Rattle.typing_rules.specs.Spans.{literal_of}
use Rattle.typing_rules.specs.Terms.{unit}
use Rattle.typing_rules.specs.TypedTrees as trees
use Rattle.abstract_types.specs.declared.types.TypeNode.{TypeNode}
use Rattle.abstract_types.specs.declared.patterns.Pattern.{Pattern}
use Rattle.abstract_types.specs.declared.patterns.PatternForm.{PatternForm}
use Rattle.abstract_types.specs.declared.patterns.PatternForm.TheVariants as e
use Rattle.abstract_types.specs.declared.patterns.PatternField.{PatternField}
use Rattle.abstract_types.specs.PatternView.{fields, pattern_field, pattern_form}
use Rattle.abstract_types.specs.TypeView.{type_node}
use Rattle.value_scopes.specs.declared.note.Note.{Note}
use Rattle.value_scopes.specs.Values.{noted}
use Rattle.met_types.specs.States.{State}
use Rattle.judged_parts.proofs.PatternViews.{field_is, pattern_is, seen_Alternative, seen_Annotated, seen_Constant, seen_Object, seen_Optional, seen_Tag, seen_Tagged, seen_Tuple, seen_Variable, seen_Wildcard}
use Rattle.desugaring.specs.Nodes.{literal_at}
use Rattle.desugaring.specs.Patterns.{fields_of, pattern}
use Rattle.kernel_types.specs.Numbers.{IsHead, definitions, graph_terms, head_of, number, number_of}
use Rattle.kernel_patterns.specs.Written.{empty_tag, field_of, on, pattern_in, pattern_of, patterns_in, patterns_of, text_value}

if_ok : {A E : Type 0} (r : Result A E) (P Q : A → Type 0) → IfOk r P → ((a : A) → P a → Q a) → IfOk r Q
if_ok (Ok a) P Q h k = k a h
if_ok (Err x) P Q h k = tt

-- ---- literals

module _ {A B : Type 0} (g : A → B) where
  blob_seen : (y : Node A) → is_blob (on_node g y) ≡ is_blob y
  blob_seen (node.Number k) = refl
  blob_seen node.Bool = refl
  blob_seen node.Char = refl
  blob_seen node.Text = refl
  blob_seen node.Blob = refl
  blob_seen node.Principal = refl
  blob_seen node.Error = refl
  blob_seen node.Null = refl
  blob_seen node.Any = refl
  blob_seen node.Bottom = refl
  blob_seen (node.Opt a) = refl
  blob_seen (node.Array a) = refl
  blob_seen (node.MutArray a) = refl
  blob_seen (node.Tuple ts) = refl
  blob_seen (node.Object fs) = refl
  blob_seen (node.Actor fs) = refl
  blob_seen (node.Variant fs) = refl
  blob_seen (node.Func s ps rs) = refl
  blob_seen (node.Async a) = refl
  blob_seen (node.Variable v b) = refl

-- whether the type is Blob
pub blob_is : (s : State) (id : TermId) (y : Node TypeId) → IsHead s id y → is_blob (head_of s id) ≡ is_blob y
blob_is s id y h = ap is_blob h.is ∙ blob_seen (term_of (graph_terms s)) y

pub value_is : (s : State) (id : TermId) (y : Node TypeId) (b : Bool) (x : List ℕ) → IsHead s id y → b ≡ is_blob y → text_value x (head_of s id) ≡ cond b (literal.Blob x) (literal.Text x)
value_is s id y b x h l = ap (λ (c : Bool). cond c (literal.Blob x) (literal.Text x)) (blob_is s id y h ∙ sym l)

-- ---- several

module _ (s : State) where
  each_of : (qs : List (Pattern Note)) → patterns_of s qs ≡ map (pattern_of s) qs
  each_of [] = refl
  each_of (q ∷ qs) = ap (λ (rest : List TypedPattern). pattern_of s q ∷ rest) (each_of qs)

  pub each_made : {E : Type 0} (qs : List (Pattern Note)) (r : Result (List TypedPattern) E) → IfOk r (λ m. m ≡ map (pattern_of s) qs) → IfOk r (λ m. m ≡ patterns_of s qs)
  each_made qs r h = if_ok r (λ m. m ≡ map (pattern_of s) qs) (λ m. m ≡ patterns_of s qs) h (λ m l. l ∙ sym (each_of qs))

  each_field : (fs : List (PatternField Note)) → fields_of (definitions s) (number s) (fields (map (pattern_field (noted s.forms)) fs)) ≡ map (field_of s) fs
  each_field [] = refl
  each_field (x ∷ fs) =
      ap (λ (g : p.PatternFields trees.Note → p.PatternFields trees.Note). fields_of (definitions s) (number s) (g (fields (map (pattern_field (noted s.forms)) fs)))) (field_is (noted s.forms) x)
      ∙ ap (λ (rest : List typed_field.PatternField). field_of s x ∷ rest) (each_field fs)

  -- ---- form by form

  form_is : (q : Pattern Note) (g : PatternForm Note) (y : p.PatternForm trees.Note) → q.form ≡ g → pattern_form (noted s.forms) g ≡ y → pattern_of s q ≡ pattern (definitions s) (number s) (p.pattern (noted s.forms q.note) y)
  form_is q g y h k = ap (pattern (definitions s) (number s)) (pattern_is (noted s.forms) q g h ∙ ap (p.pattern (noted s.forms q.note)) k)

  abbrev here : Pattern Note → typed.PatternForm → TypedPattern
  here q g = on (number_of s q.note.kind) g

  module _ {E : Type 0} (q : Pattern Note) (r : Result TypedPattern E) where
    made_as : (g h : typed.PatternForm) → g ≡ h → pattern_of s q ≡ here q h → IfOk r (λ m. m ≡ here q g) → IfOk r (λ m. m ≡ pattern_of s q)
    made_as g h k l i = if_ok r (λ m. m ≡ here q g) (λ m. m ≡ pattern_of s q) i (λ m j. j ∙ (ap (here q) k ∙ sym l))

    pub annotated_of : (a : Pattern Note) (t : TypeNode) → q.form ≡ e.Annotated a t → IfOk r (λ m. m ≡ pattern_of s a) → IfOk r (λ m. m ≡ pattern_of s q)
    annotated_of a t h i = if_ok r (λ m. m ≡ pattern_of s a) (λ m. m ≡ pattern_of s q) i (λ m j. j ∙ sym (form_is q (e.Annotated a t) (p.Annotated (pattern_in a s.forms) (type_node t)) h (seen_Annotated (noted s.forms) a t)))

    pub alternative_of : (a b : Pattern Note) (x y : TypedPattern) → q.form ≡ e.Alternative a b → x ≡ pattern_of s a → y ≡ pattern_of s b → IfOk r (λ m. m ≡ here q (f.Either x y)) → IfOk r (λ m. m ≡ pattern_of s q)
    alternative_of a b x y h k l = made_as (f.Either x y) (f.Either (pattern_of s a) (pattern_of s b)) (ap (λ z. f.Either z y) k ∙ ap (λ z. f.Either (pattern_of s a) z) l)
        (form_is q (e.Alternative a b) (p.Alternative (pattern_in a s.forms) (pattern_in b s.forms)) h (seen_Alternative (noted s.forms) a b) ∙ ap (here q) (f.rolls-Either (pattern_of s a) (pattern_of s b)))

    pub optional_of : (a : Pattern Note) (x : TypedPattern) → q.form ≡ e.Optional a → x ≡ pattern_of s a → IfOk r (λ m. m ≡ here q (f.Present x)) → IfOk r (λ m. m ≡ pattern_of s q)
    optional_of a x h k = made_as (f.Present x) (f.Present (pattern_of s a)) (ap (λ z. f.Present z) k)
        (form_is q (e.Optional a) (p.Optional (pattern_in a s.forms)) h (seen_Optional (noted s.forms) a) ∙ ap (here q) (f.rolls-Present (pattern_of s a)))

    pub tag_of : (x : List ℕ) → q.form ≡ e.Tag x → IfOk r (λ m. m ≡ here q (empty_tag s x)) → IfOk r (λ m. m ≡ pattern_of s q)
    tag_of x h = made_as (empty_tag s x) (empty_tag s x) refl
        (form_is q (e.Tag x) (p.Tag x) h (seen_Tag (noted s.forms) x)
        ∙ (ap (here q) (f.rolls-Tagged x (on (number s unit) (typed.roll-PatternForm (P.Constant literal.Unit)))) ∙ ap (λ (z : typed.PatternForm). here q (f.Tagged x (on (number s unit) z))) (f.rolls-Constant literal.Unit)))

    pub tagged_of : (x y : List ℕ) (a : Pattern Note) (z : TypedPattern) → q.form ≡ e.Tagged x a → y ≡ x → z ≡ pattern_of s a → IfOk r (λ m. m ≡ here q (f.Tagged y z)) → IfOk r (λ m. m ≡ pattern_of s q)
    tagged_of x y a z h l k = made_as (f.Tagged y z) (f.Tagged x (pattern_of s a)) (ap (λ w. f.Tagged w z) l ∙ ap (λ w. f.Tagged x w) k)
        (form_is q (e.Tagged x a) (p.Tagged x (pattern_in a s.forms)) h (seen_Tagged (noted s.forms) x a) ∙ ap (here q) (f.rolls-Tagged x (pattern_of s a)))

    pub variable_of : (x : List ℕ) → q.form ≡ e.Variable x → IfOk r (λ m. m ≡ here q f.Bind) → IfOk r (λ m. m ≡ pattern_of s q)
    variable_of x h = made_as f.Bind f.Bind refl (form_is q (e.Variable x) (p.Variable x) h (seen_Variable (noted s.forms) x) ∙ ap (here q) f.rolls-Bind)

    pub wildcard_of : q.form ≡ e.Wildcard → IfOk r (λ m. m ≡ here q f.Wildcard) → IfOk r (λ m. m ≡ pattern_of s q)
    wildcard_of h = made_as f.Wildcard f.Wildcard refl (form_is q e.Wildcard p.Wildcard h (seen_Wildcard (noted s.forms)) ∙ ap (here q) f.rolls-Wildcard)

    pub constant_of : (minus : Bool) (l : syntax.Literal) (x : Literal) → q.form ≡ e.Constant minus l → x ≡ literal_at minus (literal_of l) (head_of s q.note.kind) → IfOk r (λ m. m ≡ here q (f.Constant x)) → IfOk r (λ m. m ≡ pattern_of s q)
    constant_of minus l x h k = made_as (f.Constant x) (f.Constant (literal_at minus (literal_of l) (head_of s q.note.kind))) (ap (λ z. f.Constant z) k)
        (form_is q (e.Constant minus l) (p.Constant minus (literal_of l)) h (seen_Constant (noted s.forms) minus l) ∙ ap (here q) (f.rolls-Constant (literal_at minus (literal_of l) (head_of s q.note.kind))))

    pub tuple_of : (qs : List (Pattern Note)) (xs : List TypedPattern) → q.form ≡ e.Tuple qs → xs ≡ map (pattern_of s) qs → IfOk r (λ m. m ≡ here q (f.Parts xs)) → IfOk r (λ m. m ≡ pattern_of s q)
    tuple_of qs xs h k = made_as (f.Parts xs) (f.Parts (patterns_of s qs)) (ap (λ z. f.Parts z) (k ∙ sym (each_of qs)))
        (form_is q (e.Tuple qs) (p.Tuple (patterns_in qs s.forms)) h (seen_Tuple (noted s.forms) qs) ∙ ap (here q) (f.rolls-Parts (patterns_of s qs)))

    pub object_of : (fs : List (PatternField Note)) (xs : List typed_field.PatternField) → q.form ≡ e.Object fs → xs ≡ map (field_of s) fs → IfOk r (λ m. m ≡ here q (f.Fields xs)) → IfOk r (λ m. m ≡ pattern_of s q)
    object_of fs xs h k = made_as (f.Fields xs) (f.Fields (map (field_of s) fs)) (ap (λ z. f.Fields z) k)
        (form_is q (e.Object fs) (p.Object (fields (map (pattern_field (noted s.forms)) fs))) h (seen_Object (noted s.forms) fs)
        ∙ (ap (here q) (f.rolls-Fields (fields_of (definitions s) (number s) (fields (map (pattern_field (noted s.forms)) fs)))) ∙ ap (λ z. here q (f.Fields z)) (each_field fs)))
