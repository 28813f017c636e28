-- The rules of patterns at each layer of a pattern.
use Rattle.std.proofs.Common.{◌≡◌, ℕ, List, [], ◌∷◌, map, refl}
use Rattle.mo_types.specs.declared.node.Field.{Field}
use Rattle.mo_types.specs.declared.node.Node.TheVariants as node
use Rattle.mo_types.specs.declared.node.TypeId.{TypeId}
use Rattle.mo_types.specs.Graph.{Slot, head_at}
use Rattle.typed_tree.specs.declared.pattern.TypedPattern.{TypedPattern, roll-TypedPattern, rec-roll-TypedPattern, map-TypedPattern}
use Rattle.typed_tree.specs.declared.pattern.PatternForm.{PatternForm, roll-PatternForm, rec-roll-PatternForm, map-PatternForm}
use Rattle.typed_tree.specs.declared.pattern.PatternForm.TheOpen as P
use Rattle.typed_tree.specs.declared.pattern.PatternField.{PatternField, roll-PatternField, rec-roll-PatternField, map-PatternField}
use Rattle.typed_tree.specs.PatternTypes.{Standing, StandingFields, Beside, EachStands, FieldsStand, form_rule, labelled_rule, whole_rule, Stands, FormStands, FieldStands}
use Rattle.typed_tree.specs.TypingLaws.{form_standing, field_standing, pattern_standing}
use Rattle.typed_tree.specs.Wants.{Want}

each_stands : {X Y : Type 0} (v : X → Y) (q : Y → Standing) (ps : List X) (ts : List TypeId) (ns : List (Want TypeId)) → EachStands (λ x. q (v x)) ps ts ns ≡ EachStands q (map v ps) ts ns
each_stands v q [] [] ns = refl
each_stands v q [] (t ∷ ts) ns = refl
each_stands v q (p ∷ ps) [] ns = refl
each_stands v q (p ∷ ps) (t ∷ ts) ns = λ i. Beside ns (q (v p) t) (λ ls. each_stands v q ps ts ls i)

fields_stand : {X Y : Type 0} (v : X → Y) (q : Y → StandingFields) (xs : List X) (fs : List (Field TypeId)) (ns : List (Want TypeId)) → FieldsStand (λ x. q (v x)) xs fs ns ≡ FieldsStand q (map v xs) fs ns
fields_stand v q [] fs ns = refl
fields_stand v q (x ∷ xs) fs ns = λ i. Beside ns (q (v x) fs) (λ ls. fields_stand v q xs fs ls i)

module _ (types : List Slot) (parameters : List ℕ) where
  module _ (A B C : Type 0) (v0 : A → PatternForm) (v1 : B → PatternField) (v2 : C → TypedPattern) (q0 : PatternForm → Standing) (q1 : PatternField → StandingFields) (q2 : TypedPattern → Standing) where
    form_steps : (x : P.PatternForm-F A B C) → form_rule types parameters A B C (λ p. q0 (v0 p)) (λ p. q1 (v1 p)) (λ p. q2 (v2 p)) x ≡ form_rule types parameters PatternForm PatternField TypedPattern q0 q1 q2 (map-PatternForm A B C PatternForm PatternField TypedPattern v0 v1 v2 x)
    form_steps P.Wildcard = refl
    form_steps P.Bind = refl
    form_steps (P.Constant l) = refl
    form_steps (P.Present p) = refl
    form_steps (P.Tagged l p) = refl
    form_steps (P.Parts ps) = λ i t ns. (ts : List TypeId) × (head_at types t ≡ node.Tuple ts) × each_stands v2 q2 ps ts ns i
    form_steps (P.Fields xs) = λ i t ns. (fs : List (Field TypeId)) × (head_at types t ≡ node.Object fs) × fields_stand v1 q1 xs fs ns i
    form_steps (P.Either p q) = refl

    field_steps : (x : P.PatternField-F A B C) → labelled_rule types parameters A B C (λ p. q0 (v0 p)) (λ p. q1 (v1 p)) (λ p. q2 (v2 p)) x ≡ labelled_rule types parameters PatternForm PatternField TypedPattern q0 q1 q2 (map-PatternField A B C PatternForm PatternField TypedPattern v0 v1 v2 x)
    field_steps x = refl

    pattern_steps : (x : P.TypedPattern-F A B C) → whole_rule types parameters A B C (λ p. q0 (v0 p)) (λ p. q1 (v1 p)) (λ p. q2 (v2 p)) x ≡ whole_rule types parameters PatternForm PatternField TypedPattern q0 q1 q2 (map-TypedPattern A B C PatternForm PatternField TypedPattern v0 v1 v2 x)
    pattern_steps x = refl

  pub form_is : (x : P.PatternForm-F PatternForm PatternField TypedPattern) → FormStands types parameters (roll-PatternForm x) ≡ form_standing types parameters x
  unfolding Stands FormStands FieldStands
  form_is = rec-roll-PatternForm Standing StandingFields Standing
      (λ F L W _ _ _. form_rule types parameters F L W) (λ F L W _ _ _. labelled_rule types parameters F L W) (λ F L W _ _ _. whole_rule types parameters F L W) form_steps

  pub field_is : (x : P.PatternField-F PatternForm PatternField TypedPattern) → FieldStands types parameters (roll-PatternField x) ≡ field_standing types parameters x
  unfolding Stands FormStands FieldStands
  field_is = rec-roll-PatternField Standing StandingFields Standing
      (λ F L W _ _ _. form_rule types parameters F L W) (λ F L W _ _ _. labelled_rule types parameters F L W) (λ F L W _ _ _. whole_rule types parameters F L W) field_steps

  pub pattern_is : (x : P.TypedPattern-F PatternForm PatternField TypedPattern) → Stands types parameters (roll-TypedPattern x) ≡ pattern_standing types parameters x
  unfolding Stands FormStands FieldStands
  pattern_is = rec-roll-TypedPattern Standing StandingFields Standing
      (λ F L W _ _ _. form_rule types parameters F L W) (λ F L W _ _ _. labelled_rule types parameters F L W) (λ F L W _ _ _. whole_rule types parameters F L W) pattern_steps
