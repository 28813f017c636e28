-- On which types patterns stand, and what their names stand for (Motoko language manual, section "Patterns").
use Rattle.std.specs.Prelude.{◌≡◌, ℕ, List, [], ◌∷◌, ◌++◌, Some}
use Rattle.mo_types.specs.declared.node.Node.{Node}
use Rattle.mo_types.specs.declared.node.Node.TheVariants as node
use Rattle.mo_types.specs.declared.node.Field.{Field}
use Rattle.mo_types.specs.declared.node.TypeId.{TypeId}
use Rattle.mo_types.specs.Graph.{Slot, node_at, head_at}
use Rattle.mo_types.specs.Sub.{IsSomething, find}
use Rattle.mo_types.specs.Values.{IsPartOf}
use Rattle.typed_tree.specs.declared.literal.Literal.{Literal}
use Rattle.typed_tree.specs.declared.literal.Literal.TheVariants as literal
use Rattle.typed_tree.specs.declared.pattern.TypedPattern.{TypedPattern, rec-TypedPattern}
use Rattle.typed_tree.specs.declared.pattern.PatternForm.{PatternForm, rec-PatternForm}
use Rattle.typed_tree.specs.declared.pattern.PatternForm.TheOpen as P
use Rattle.typed_tree.specs.declared.pattern.PatternField.{PatternField, rec-PatternField}
use Rattle.typed_tree.specs.Has.{IsLeafPart}
use Rattle.typed_tree.specs.Instances.{MentionsOnly}
use Rattle.typed_tree.specs.MemberTypes.{IsUnit, IsField}
use Rattle.typed_tree.specs.PatternView.{literal_part}
use Rattle.typed_tree.specs.Wants.{Want, Of, Below}

-- what the names of a pattern stand for, where it stands on a type
abbrev pub Standing : Type 1
Standing = TypeId → List (Want TypeId) → Type 0

-- the same of the fields of an object pattern, where it stands on an object type with these fields
abbrev pub StandingFields : Type 1
StandingFields = List (Field TypeId) → List (Want TypeId) → Type 0

-- a type of the graph in which no type parameters but these are met
abbrev pub IsInScope : List Slot → List ℕ → TypeId → Type 0
IsInScope types parameters t = IsSomething (node_at types t) × MentionsOnly (head_at types) parameters t

-- a literal is a value of the type
abbrev pub LiteralOf : (TypeId → Node TypeId) → Literal → TypeId → Type 0
LiteralOf head literal.Unit t = IsUnit head t
LiteralOf head l t = IsLeafPart (literal_part l) × IsPartOf (head t) (literal_part l)

-- a literal that a pattern may have, which is no actor
abbrev pub IsPlainLiteral : Literal → Type 0
IsPlainLiteral (literal.Actor x) = ⊥
IsPlainLiteral l = Unit {0}

-- names of patterns one after another
abbrev pub Beside : List (Want TypeId) → (List (Want TypeId) → Type 0) → (List (Want TypeId) → Type 0) → Type 0
Beside ns first others = (ms ls : List (Want TypeId)) × (ns ≡ ms ++ ls) × first ms × others ls

-- as many patterns as types
abbrev pub EachStands : {X : Type 0} → (X → Standing) → List X → List TypeId → List (Want TypeId) → Type 0
EachStands Is [] [] ns = ns ≡ []
EachStands Is (p ∷ ps) (t ∷ ts) ns = Beside ns (Is p t) (EachStands Is ps ts)
EachStands Is _ _ ns = ⊥

-- each under its own label
abbrev pub FieldsStand : {X : Type 0} → (X → StandingFields) → List X → StandingFields
FieldsStand Is [] fs ns = ns ≡ []
FieldsStand Is (x ∷ xs) fs ns = Beside ns (Is x fs) (FieldsStand Is xs fs)

module _ (types : List Slot) (parameters : List ℕ) (Form Labelled Whole : Type 0) (IsForm : Form → Standing) (IsLabelled : Labelled → StandingFields) (Is : Whole → Standing) where
  abbrev pub form_rule : P.PatternForm-F Form Labelled Whole → Standing
  form_rule P.Wildcard t ns = ns ≡ []
  form_rule P.Bind t ns = ns ≡ Of t ∷ []
  form_rule (P.Constant l) t ns = LiteralOf (head_at types) l t × IsPlainLiteral l × (ns ≡ [])
  form_rule (P.Present p) t ns = (u : TypeId) × (head_at types t ≡ node.Opt u) × Is p u ns
  form_rule (P.Tagged l p) t ns = (fs : List (Field TypeId)) × (f : Field TypeId) × (head_at types t ≡ node.Variant fs) × (find l fs ≡ Some f) × Is p f.part ns
  form_rule (P.Parts ps) t ns = (ts : List TypeId) × (head_at types t ≡ node.Tuple ts) × EachStands Is ps ts ns
  form_rule (P.Fields xs) t ns = (fs : List (Field TypeId)) × (head_at types t ≡ node.Object fs) × FieldsStand IsLabelled xs fs ns
  form_rule (P.Either p q) t ns = Is p t [] × Is q t [] × (ns ≡ [])

  -- of a field that is no `var` field
  abbrev pub labelled_rule : P.PatternField-F Form Labelled Whole → StandingFields
  labelled_rule x fs ns = (t : TypeId) × IsField (head_at types) fs x.label t × Is x.pattern t ns

  -- a pattern of a type stands on each type below it
  abbrev pub whole_rule : P.TypedPattern-F Form Labelled Whole → Standing
  whole_rule x t ns = Below (head_at types) t x.of_type × IsInScope types parameters x.of_type × IsForm x.form x.of_type ns

-- the pattern stands on a type, in the scope of these type parameters
unfoldable pub Stands : List Slot → List ℕ → TypedPattern → Standing
Stands types parameters = rec-TypedPattern Standing StandingFields Standing
    (λ F L W _ _ _. form_rule types parameters F L W) (λ F L W _ _ _. labelled_rule types parameters F L W) (λ F L W _ _ _. whole_rule types parameters F L W)

unfoldable pub FormStands : List Slot → List ℕ → PatternForm → Standing
FormStands types parameters = rec-PatternForm Standing StandingFields Standing
    (λ F L W _ _ _. form_rule types parameters F L W) (λ F L W _ _ _. labelled_rule types parameters F L W) (λ F L W _ _ _. whole_rule types parameters F L W)

unfoldable pub FieldStands : List Slot → List ℕ → PatternField → StandingFields
FieldStands types parameters = rec-PatternField Standing StandingFields Standing
    (λ F L W _ _ _. form_rule types parameters F L W) (λ F L W _ _ _. labelled_rule types parameters F L W) (λ F L W _ _ _. whole_rule types parameters F L W)

-- patterns of parameters of these types
abbrev pub AllStand : List Slot → List ℕ → List TypedPattern → List TypeId → List (Want TypeId) → Type 0
AllStand types parameters ps ts ns = EachStands (Stands types parameters) ps ts ns
