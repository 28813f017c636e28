-- Patterns with their types, made of their parts.
use Rattle.std.proofs.Common.{◌≡◌, ◌∙◌, ℕ, Bool, List, Ok, Err, ap, sym}
use Rattle.std.specs.Prelude.{Result, IfOk}
use Rattle.mo_syntax.specs.declared.literal.Literal.{Literal}
use Rattle.type_terms.specs.declared.form.Form.{Form}
use Rattle.typing_rules.specs.AbstractSyntax as p
use Rattle.typing_rules.specs.AbstractSyntax.{TypeNode}
use Rattle.typing_rules.specs.Spans.{literal_of}
use Rattle.typing_rules.specs.TypedTrees.{Note}
use Rattle.abstract_types.specs.declared.types.TypeNode as value_type
use Rattle.abstract_types.specs.declared.patterns.Pattern as value
use Rattle.abstract_types.specs.declared.patterns.PatternField.{PatternField}
use Rattle.abstract_types.specs.declared.patterns.PatternForm.{PatternForm}
use Rattle.abstract_types.specs.declared.patterns.PatternForm.TheVariants as e
use Rattle.abstract_types.specs.TypeView.{type_node}
use Rattle.value_scopes.specs.declared.note.Note as value_note
use Rattle.value_scopes.specs.Values.{noted}
use Rattle.typed_patterns.specs.Binding.{fields_in, patterns_in}
use Rattle.typed_patterns.specs.Making.{IsMade, form_in, pattern_in}
use Rattle.typed_patterns.proofs.Views.{pattern_is, seen_Alternative, seen_Annotated, seen_Constant, seen_Object, seen_Optional, seen_Tag, seen_Tagged, seen_Tuple, seen_Variable, seen_Wildcard}

if_ok : {A E : Type 0} (r : Result A E) (P Q : A → Type 0) → IfOk r P → ((a : A) → P a → Q a) → IfOk r Q
if_ok (Ok a) P Q h f = f a h
if_ok (Err x) P Q h f = tt

module _ {E : Type 0} (n : value_note.Note) (r : Result (value.Pattern value_note.Note) E) where
  pub made_of : (f : PatternForm value_note.Note) → IfOk r (λ m. (m.note ≡ n) × (m.form ≡ f)) → IfOk r (IsMade n (form_in f))
  made_of f h = if_ok r (λ m. (m.note ≡ n) × (m.form ≡ f)) (IsMade n (form_in f)) h (λ m k later. pattern_is (noted later) m f k.1 ∙ ap (λ (x : value_note.Note). p.pattern (noted later x) (form_in f later)) k.0)

  -- of a form that is seen so
  made_as : (f : PatternForm value_note.Note) (g : List Form → p.PatternForm Note) → ((later : List Form) → form_in f later ≡ g later) → IfOk r (IsMade n (form_in f)) → IfOk r (IsMade n g)
  made_as f g e h = if_ok r (IsMade n (form_in f)) (IsMade n g) h (λ m k later. k later ∙ ap (p.pattern (noted later n)) (e later))

  pub annotated_made : (q : value.Pattern value_note.Note) (a b : value_type.TypeNode) → type_node a ≡ type_node b → IfOk r (IsMade n (form_in (e.Annotated q a))) → IfOk r (IsMade n (λ later. p.Annotated (pattern_in q later) (type_node b)))
  annotated_made q a b h = made_as (e.Annotated q a) (λ later. p.Annotated (pattern_in q later) (type_node b)) (λ later. seen_Annotated (noted later) q a ∙ ap (p.Annotated (pattern_in q later)) h)

  pub tag_made : (x y : List ℕ) → x ≡ y → IfOk r (IsMade n (form_in (e.Tag x))) → IfOk r (IsMade n (λ later. p.Tag y))
  tag_made x y h = made_as (e.Tag x) (λ later. p.Tag y) (λ later. seen_Tag (noted later) x ∙ ap (λ (z : List ℕ). p.Tag z) h)

  pub tagged_made : (x y : List ℕ) (q : value.Pattern value_note.Note) → x ≡ y → IfOk r (IsMade n (form_in (e.Tagged x q))) → IfOk r (IsMade n (λ later. p.Tagged y (pattern_in q later)))
  tagged_made x y q h = made_as (e.Tagged x q) (λ later. p.Tagged y (pattern_in q later)) (λ later. seen_Tagged (noted later) x q ∙ ap (λ (z : List ℕ). p.Tagged z (pattern_in q later)) h)

  pub variable_made : (x y : List ℕ) → x ≡ y → IfOk r (IsMade n (form_in (e.Variable x))) → IfOk r (IsMade n (λ later. p.Variable y))
  variable_made x y h = made_as (e.Variable x) (λ later. p.Variable y) (λ later. seen_Variable (noted later) x ∙ ap (λ (z : List ℕ). p.Variable z) h)

  pub constant_made : (minus : Bool) (l m : Literal) → literal_of l ≡ literal_of m → IfOk r (IsMade n (form_in (e.Constant minus l))) → IfOk r (IsMade n (λ later. p.Constant minus (literal_of m)))
  constant_made minus l m h = made_as (e.Constant minus l) (λ later. p.Constant minus (literal_of m)) (λ later. seen_Constant (noted later) minus l ∙ ap (p.Constant minus) h)

-- ---- forms of patterns that are made

module _ (n : value_note.Note) where
  pub wildcard_seen : (m : value.Pattern value_note.Note) → IsMade n (form_in e.Wildcard) m → (later : List Form) → p.pattern (noted later n) p.Wildcard ≡ pattern_in m later
  wildcard_seen m h later = sym (h later ∙ ap (p.pattern (noted later n)) (seen_Wildcard (noted later)))

  pub optional_seen : (q m : value.Pattern value_note.Note) → IsMade n (form_in (e.Optional q)) m → (later : List Form) → p.pattern (noted later n) (p.Optional (pattern_in q later)) ≡ pattern_in m later
  optional_seen q m h later = sym (h later ∙ ap (p.pattern (noted later n)) (seen_Optional (noted later) q))

  pub alternative_seen : (q r m : value.Pattern value_note.Note) → IsMade n (form_in (e.Alternative q r)) m → (later : List Form) → p.pattern (noted later n) (p.Alternative (pattern_in q later) (pattern_in r later)) ≡ pattern_in m later
  alternative_seen q r m h later = sym (h later ∙ ap (p.pattern (noted later n)) (seen_Alternative (noted later) q r))

  pub tuple_seen : (items : List (value.Pattern value_note.Note)) (m : value.Pattern value_note.Note) → IsMade n (form_in (e.Tuple items)) m → (later : List Form) → p.pattern (noted later n) (p.Tuple (patterns_in items later)) ≡ pattern_in m later
  tuple_seen items m h later = sym (h later ∙ ap (p.pattern (noted later n)) (seen_Tuple (noted later) items))

  pub object_seen : (fs : List (PatternField value_note.Note)) (m : value.Pattern value_note.Note) → IsMade n (form_in (e.Object fs)) m → (later : List Form) → p.pattern (noted later n) (p.Object (fields_in fs later)) ≡ pattern_in m later
  object_seen fs m h later = sym (h later ∙ ap (p.pattern (noted later n)) (seen_Object (noted later) fs))
