-- Fields of objects, as they are judged and written out.
use Rattle.std.specs.Prelude.{◌≡◌, ℕ, true, false, List, [], ◌∷◌, Option, Some, None}
use Rattle.mo_types.specs.declared.node.Node.TheVariants as node
use Rattle.mo_types.specs.declared.node.TypeId.{TypeId}
use Rattle.mo_types.specs.Graph.{Slot}
use Rattle.subtype_laws.specs.Reached.{Among}
use Rattle.typed_tree.specs.ActionTypes as typed
use Rattle.typing_rules.specs.AbstractSyntax.{Named, Declarations}
use Rattle.typing_rules.specs.AbstractSyntax as p
use Rattle.typing_rules.specs.AsyncPlaces.{Other}
use Rattle.typing_rules.specs.Contexts.{Context, directly}
use Rattle.typing_rules.specs.DeclaredTypes.{with_list, member_fields}
use Rattle.typing_rules.specs.Definitions.{Definitions}
use Rattle.typing_rules.specs.Expressions.{JudgeOrder, JudgeBodies, JudgeOne}
use Rattle.typing_rules.specs.Heads.{head}
use Rattle.typing_rules.specs.Judgements.{Judgement}
use Rattle.typing_rules.specs.Lists.{Listed}
use Rattle.typing_rules.specs.PublicFields.{PublicFields}
use Rattle.typing_rules.specs.Terms.{Term, Fields, unit, listed_fields}
use Rattle.typing_rules.specs.TypedTrees.{Note}
use Rattle.typing_rules.specs.TypeScopes.{TypeScope}
use Rattle.desugaring.specs.Expressions.{public_names, pieces, block_of, object_of_names}
use Rattle.desugaring.specs.FreeNames.{names_of_list, in_declaration, in_declarations, without}
use Rattle.desugaring.specs.Frames.{Frame}
use Rattle.desugaring.specs.Pieces.{arranged}
use Rattle.desugaring_laws.specs.GraphOf.{IsGraphOf}
use Rattle.desugaring_laws.specs.Known.{IsKnown}
use Rattle.desugaring_laws.specs.Yields.{Yields}
use Rattle.expression_laws.specs.Fitting.{Fits}
use Rattle.expression_laws.specs.Results.{IsBelowWanted, GivesValue, AreTyped}
use Rattle.declaration_laws.specs.Made.{StepMade, OneMade}

-- the fields of an object in order, and then the bodies of its functions and classes
abbrev pub FieldsJudged : Definitions → Context → ℕ → Declarations ℕ → Judgement (Term × Declarations Note)
FieldsJudged defs e at fields = Listed defs e fields (λ known. JudgeOrder defs known at false fields None None) (λ known made. JudgeBodies defs known fields made)

-- a block in order, and then the bodies of its functions and classes
abbrev pub BlockJudged : Definitions → Context → ℕ → Declarations ℕ → Option Term → Judgement (Term × Declarations Note)
BlockJudged defs e at ds w = Listed defs e ds (λ known. JudgeOrder defs known at true ds None w) (λ known made. JudgeBodies defs known ds made)

-- the fields that objects have by what is written of them
abbrev pub written_fields : TypeScope → Declarations ℕ → Fields
written_fields s fields = member_fields (with_list s fields) fields

module _ (defs : Definitions) (slots : List Slot) (terms : List Term) (number : Term → TypeId) where
  -- these become an object, as a value of each type that has the fields
  abbrev pub BecomeObject : Frame → typed.Context → Fields → Declarations Note → Type 0
  BecomeObject f c fs made =
      (u : Term) → IsKnown defs terms c.parameters u → head defs u ≡ node.Object (listed_fields fs) → GivesValue defs slots terms number c u (object_of_names defs number u (public_names made) (arranged false (pieces defs number made) f))

  -- Wherever they stand, fields that are judged become an object.
  abbrev pub AreFieldsTyped : TypeScope → Declarations ℕ → Type 0
  AreFieldsTyped scope fields =
      (e : Context) (f : Frame) (c : typed.Context) (at : ℕ) → Fits defs slots terms number scope (without (names_of_list fields) (in_declarations fields)) (directly Other e) f c
      → Yields defs terms (PublicFields fields) (λ u. Yields defs terms (FieldsJudged defs (directly Other e) at fields) (λ q. BecomeObject f c (written_fields scope fields) q.1))

  -- Wherever it stands, a list that is judged becomes a block of the type that it gives.
  abbrev pub AreBlocksTyped : TypeScope → Declarations ℕ → Type 0
  AreBlocksTyped scope ds =
      (e : Context) (f : Frame) (c : typed.Context) (at : ℕ) → Fits defs slots terms number scope (without (names_of_list ds) (in_declarations ds)) (directly Other e) f c
      → (w : Option Term) → ((u : Term) → w ≡ Some u → IsKnown defs terms c.parameters u)
      → Yields defs terms (BlockJudged defs (directly Other e) at ds w) (λ q. IsBelowWanted defs slots terms number w q.0 × GivesValue defs slots terms number c q.0 (block_of defs number q.0 (arranged true (pieces defs number q.1) f)))

-- A block, whose list becomes one wherever it stands, becomes a typed tree.
abbrev pub BlocksAreTyped : Type 0
BlocksAreTyped =
    (defs : Definitions) (slots : List Slot) (terms : List Term) (number : Term → TypeId) → IsGraphOf defs slots terms number → Among unit terms → (scope : TypeScope) (n : ℕ) (ds : Declarations ℕ)
    → AreBlocksTyped defs slots terms number scope ds → AreTyped defs slots terms number scope (p.exp n (p.Block ds))

-- An object with declarations, whose fields become an object wherever they stand, becomes a typed tree.
abbrev pub ObjectsAreTyped : Type 0
ObjectsAreTyped =
    (defs : Definitions) (slots : List Slot) (terms : List Term) (number : Term → TypeId) → IsGraphOf defs slots terms number → Among unit terms → (scope : TypeScope) (n : ℕ) (fields : Declarations ℕ)
    → AreFieldsTyped defs slots terms number scope fields → AreTyped defs slots terms number scope (p.exp n (p.ObjectBlock fields))

-- So does one with a name.
abbrev pub NamedObjectsAreTyped : Type 0
NamedObjectsAreTyped =
    (defs : Definitions) (slots : List Slot) (terms : List Term) (number : Term → TypeId) → IsGraphOf defs slots terms number → Among unit terms → (vs : List ℕ) (e : Context) (n : ℕ) (x : Named) (fields : Declarations ℕ)
    → AreFieldsTyped defs slots terms number e.types fields → (w : Option Term)
    → Yields defs terms (JudgeOne defs (directly Other e) n (p.NamedObject x fields) w) (λ one. OneMade defs slots terms number
    (StepMade defs slots terms number vs (in_declaration (p.NamedObject x fields)) (directly Other e) (x.bytes ∷ []) one.scope) one)
