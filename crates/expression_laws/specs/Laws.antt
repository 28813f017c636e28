-- What is written out of each form is typed.
use Rattle.std.specs.Prelude.{◌≡◌, ℕ, List, [], ◌∷◌, map, None}
use Rattle.mo_types.specs.declared.node.TypeId.{TypeId}
use Rattle.mo_types.specs.Graph.{Slot}
use Rattle.mo_types.specs.Label.{label_id}
use Rattle.subtype_laws.specs.Reached.{Among}
use Rattle.typed_tree.specs.OperationTypes.{Distinct}
use Rattle.typing_rules.specs.AbstractSyntax.{Bytes, Pattern, Expression, Form, Expressions, Cases, ObjectFields}
use Rattle.typing_rules.specs.AbstractSyntax as p
use Rattle.typing_rules.specs.Definitions.{Definitions}
use Rattle.typing_rules.specs.Expressions.{actor_text}
use Rattle.typing_rules.specs.Terms.{Term, unit}
use Rattle.typing_rules.specs.TypeScopes.{TypeScope}
use Rattle.desugaring.specs.FreeNames.{names_in}
use Rattle.desugaring_laws.specs.GraphOf.{IsGraphOf}
use Rattle.desugaring_laws.specs.Written.{IsWritten, PatternIsWritten}
use Rattle.expression_laws.specs.Results.{AreTyped}

-- a pattern as it is written: its characters can be, and its names differ
pub record IsPatternFine (q : Pattern ℕ) : Type 0 where
  pub written : PatternIsWritten q
  pub distinct : Distinct (names_in q)

-- the labels of fields
abbrev pub labels_in : {N : Type 0} → ObjectFields N → List Bytes
labels_in p.NoFields = []
labels_in (p.Field mutable x u a rest) = x.bytes ∷ labels_in rest

module _ (Q : Expression ℕ → Type 0) where
  abbrev pub EachIs : Expressions ℕ → Type 0
  EachIs p.Nil = Unit {0}
  EachIs (p.Cons a rest) = Q a × EachIs rest

  abbrev pub EachCaseIs : Cases ℕ → Type 0
  EachCaseIs p.NoCases = Unit {0}
  EachCaseIs (p.Case q a rest) = IsPatternFine q × Q a × EachCaseIs rest

  abbrev pub EachFieldIs : ObjectFields ℕ → Type 0
  EachFieldIs p.NoFields = Unit {0}
  EachFieldIs (p.Field mutable x u a rest) = Q a × EachFieldIs rest

  -- of the parts of what is assigned to
  abbrev pub PlaceIs : Expression ℕ → Type 0
  PlaceIs (p.exp n (p.Member a x)) = Q a
  PlaceIs (p.exp n (p.Index a i)) = Q a × Q i
  PlaceIs _ = Unit {0}

  -- Q holds of the parts of a form, and of the form what the rules on names see to. Not of these forms yet: blocks, functions, objects with declarations,
  -- calls and actor references.
  abbrev pub PartsAre : Form ℕ → Type 0
  PartsAre (p.Constant l) = IsWritten l
  PartsAre (p.Name x) = Unit {0}
  PartsAre (p.Tuple items) = EachIs items
  PartsAre (p.Optional a) = Q a
  PartsAre (p.Tag x) = Unit {0}
  PartsAre (p.Tagged x a) = Q a
  PartsAre (p.Array mutable items) = EachIs items
  PartsAre (p.Object fields) = EachFieldIs fields × Distinct (map label_id (labels_in fields))
  PartsAre (p.Member a x) = Q a
  PartsAre (p.Projection a n) = Q a
  PartsAre (p.Index a i) = Q a × Q i
  PartsAre (p.Annotated a u) = Q a × (actor_text a ≡ None)
  PartsAre (p.Negative a) = Q a
  PartsAre (p.Binary o a b) = Q a × Q b
  PartsAre (p.Not a) = Q a
  PartsAre (p.Assign q a) = PlaceIs q × Q a
  PartsAre (p.AssignBy o q a) = PlaceIs q × Q a
  PartsAre (p.When c a) = Q c × Q a
  PartsAre (p.If c a b) = Q c × Q a × Q b
  PartsAre (p.Switch a cases) = Q a × EachCaseIs cases
  PartsAre (p.Try a q b) = Q a × IsPatternFine q × Q b
  PartsAre (p.While c a) = Q c × Q a
  PartsAre (p.Loop a) = Q a
  PartsAre (p.LoopWhile a c) = Q a × Q c
  PartsAre (p.For q a b) = IsPatternFine q × Q a × Q b
  PartsAre (p.Label x u a) = Q a
  PartsAre (p.Break x) = Unit {0}
  PartsAre (p.BreakWith x a) = Q a
  PartsAre (p.Continue x) = Unit {0}
  PartsAre p.Return = Unit {0}
  PartsAre (p.ReturnWith a) = Q a
  PartsAre (p.Throw a) = Q a
  PartsAre (p.Do a) = Q a
  PartsAre (p.DoOption a) = Q a
  PartsAre (p.Bang a) = Q a
  PartsAre (p.Assert a) = Q a
  PartsAre (p.Ignore a) = Q a
  PartsAre (p.Debug a) = Q a
  PartsAre (p.Await a) = Q a
  PartsAre _ = ⊥

-- Over a graph of the types that are met and of (), an expression of one of these forms whose parts become typed trees wherever they stand becomes one.
abbrev pub FormsAreTyped : Type 0
FormsAreTyped =
    (defs : Definitions) (slots : List Slot) (terms : List Term) (number : Term → TypeId) → IsGraphOf defs slots terms number → Among unit terms → (scope : TypeScope)
    → (n : ℕ) (x : Form ℕ) → PartsAre (AreTyped defs slots terms number scope) x → AreTyped defs slots terms number scope (p.exp n x)
