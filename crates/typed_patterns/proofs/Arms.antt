-- What the function of a form comes to, that of the pattern comes to.
use Rattle.std.proofs.Common.{◌≡◌, ℕ, Bool, List, map, sym, ap, ◌∙◌, subst}
use Rattle.std.specs.Prelude.{Result}
use Rattle.mo_syntax.specs.declared.literal.Literal.{Literal}
use Rattle.type_terms.specs.declared.form.TermId.{TermId}
use Rattle.typing_rules.specs.AbstractSyntax.{Pattern}
use Rattle.typing_rules.specs.AbstractSyntax as p
use Rattle.typing_rules.specs.Spans.{literal_of}
use Rattle.typing_rules.specs.TypeScopes.{TypeScope}
use Rattle.met_types.specs.States.{State}
use Rattle.shareable_types.specs.declared.sharing.Sharing.{Sharing}
use Rattle.abstract_types.specs.declared.types.TypeNode.{TypeNode}
use Rattle.abstract_types.specs.declared.patterns.Pattern as value
use Rattle.abstract_types.specs.declared.patterns.PatternForm.{PatternForm}
use Rattle.abstract_types.specs.declared.patterns.PatternForm.TheVariants as e
use Rattle.abstract_types.specs.declared.patterns.PatternField.{PatternField}
use Rattle.abstract_types.specs.TypeView.{type_node}
use Rattle.abstract_types.specs.PatternView.{fields, listed, plain, plain_field, plain_form}
use Rattle.type_judgements.specs.declared.refusal.Refusal.{Refusal}
use Rattle.value_scopes.specs.declared.note.Note as value_note
use Rattle.typed_patterns.specs.Binding.{Names, Pushes, stands}
use Rattle.typed_patterns.specs.Making.{pattern_in}
use Rattle.typed_patterns.proofs.Joining.{pushes_as}
use Rattle.typed_patterns.proofs.Views.{pattern_is, seen_Annotated, seen_Alternative, seen_Optional, seen_Tag, seen_Tagged, seen_Variable, seen_Wildcard, seen_Constant, seen_Tuple, seen_Object}

module _ (s : TypeScope) (id : TermId) (old new : State) (c : Sharing) (before after : Names) (r : Result (value.Pattern value_note.Note) Refusal) (q : value.Pattern ℕ) where
  abbrev same : ℕ → ℕ
  same n = n

  -- the form stands, and so the pattern does
  abbrev of_form : p.PatternForm ℕ → Type 0
  of_form g = Pushes (stands s (p.pattern q.note g) id) old new c before after pattern_in r

  abbrev of_pattern : Type 0
  of_pattern = Pushes (stands s (plain q) id) old new c before after pattern_in r

  arm : (f : PatternForm ℕ) (g : p.PatternForm ℕ) → q.form ≡ f → plain_form f ≡ g → of_form g → of_pattern
  arm f g h k w = pushes_as (stands s (p.pattern q.note g) id) (stands s (plain q) id) old new c before after pattern_in (λ l later. ap (λ (m : Pattern ℕ). stands s m id l later) (sym (pattern_is same q f h ∙ ap (p.pattern q.note) k))) r w

  pub annotated_arm : (a : value.Pattern ℕ) (t : TypeNode) → q.form ≡ e.Annotated a t → of_form (p.Annotated (plain a) (type_node t)) → of_pattern
  annotated_arm a t h w = arm (e.Annotated a t) (p.Annotated (plain a) (type_node t)) h (seen_Annotated same a t) w

  pub alternative_arm : (a b : value.Pattern ℕ) → q.form ≡ e.Alternative a b → of_form (p.Alternative (plain a) (plain b)) → of_pattern
  alternative_arm a b h w = arm (e.Alternative a b) (p.Alternative (plain a) (plain b)) h (seen_Alternative same a b) w

  pub optional_arm : (a : value.Pattern ℕ) → q.form ≡ e.Optional a → of_form (p.Optional (plain a)) → of_pattern
  optional_arm a h w = arm (e.Optional a) (p.Optional (plain a)) h (seen_Optional same a) w

  pub tag_arm : (x : List ℕ) → q.form ≡ e.Tag x → of_form (p.Tag x) → of_pattern
  tag_arm x h w = arm (e.Tag x) (p.Tag x) h (seen_Tag same x) w

  pub tagged_arm : (x : List ℕ) (a : value.Pattern ℕ) → q.form ≡ e.Tagged x a → of_form (p.Tagged x (plain a)) → of_pattern
  tagged_arm x a h w = arm (e.Tagged x a) (p.Tagged x (plain a)) h (seen_Tagged same x a) w

  pub variable_arm : (x : List ℕ) → q.form ≡ e.Variable x → of_form (p.Variable x) → of_pattern
  variable_arm x h w = arm (e.Variable x) (p.Variable x) h (seen_Variable same x) w

  pub wildcard_arm : q.form ≡ e.Wildcard → of_form p.Wildcard → of_pattern
  wildcard_arm h w = arm e.Wildcard p.Wildcard h (seen_Wildcard same) w

  pub constant_arm : (minus : Bool) (l : Literal) → q.form ≡ e.Constant minus l → of_form (p.Constant minus (literal_of l)) → of_pattern
  constant_arm minus l h w = arm (e.Constant minus l) (p.Constant minus (literal_of l)) h (seen_Constant same minus l) w

  pub tuple_arm : (xs ys : List (value.Pattern ℕ)) → q.form ≡ e.Tuple xs → ys ≡ xs → of_form (p.Tuple (listed (map plain ys))) → of_pattern
  tuple_arm xs ys h z w = arm (e.Tuple xs) (p.Tuple (listed (map plain xs))) h (seen_Tuple same xs) (subst (λ (zs : List (value.Pattern ℕ)). of_form (p.Tuple (listed (map plain zs)))) z w)

  pub object_arm : (xs ys : List (PatternField ℕ)) → q.form ≡ e.Object xs → ys ≡ xs → of_form (p.Object (fields (map plain_field ys))) → of_pattern
  object_arm xs ys h z w = arm (e.Object xs) (p.Object (fields (map plain_field xs))) h (seen_Object same xs) (subst (λ (zs : List (PatternField ℕ)). of_form (p.Object (fields (map plain_field zs)))) z w)
