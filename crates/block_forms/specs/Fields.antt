-- Lists of which it is asked that their names differ and are used where they stand, as the fields of objects.
use Rattle.std.specs.Prelude.{ℕ, true, false, List, [], ◌++◌, map}
use Rattle.mo_types.specs.declared.node.TypeId.{TypeId}
use Rattle.mo_types.specs.Graph.{Slot}
use Rattle.mo_types.specs.Label.{label_id}
use Rattle.subtype_laws.specs.Reached.{Among}
use Rattle.typed_tree.specs.OperationTypes.{Distinct}
use Rattle.typing_rules.specs.AbstractSyntax.{Bytes, Declarations}
use Rattle.typing_rules.specs.AbstractSyntax as p
use Rattle.typing_rules.specs.Definitions.{Definitions}
use Rattle.typing_rules.specs.Terms.{Term, unit}
use Rattle.typing_rules.specs.TypeScopes.{TypeScope}
use Rattle.desugaring.specs.FreeNames.{field_names}
use Rattle.desugaring_laws.specs.GraphOf.{IsGraphOf}
use Rattle.declaration_laws.specs.Objects.{AreFieldsTyped}
use Rattle.block_forms.specs.Blocks.{IsListReady}

-- the fields that public declarations give an object
abbrev pub public_fields : {N : Type 0} → Declarations N → List Bytes
public_fields p.End = []
public_fields (p.Then true n d rest) = field_names d ++ public_fields rest
public_fields (p.Then false n d rest) = public_fields rest

-- Fields of which also the numbers of their labels differ become an object wherever they stand.
abbrev pub FieldsAreObjects : Type 0
FieldsAreObjects =
    (defs : Definitions) (slots : List Slot) (terms : List Term) (number : Term → TypeId) → IsGraphOf defs slots terms number → Among unit terms → (scope : TypeScope) (fields : Declarations ℕ)
    → IsListReady defs slots terms number false scope fields → Distinct (map label_id (public_fields fields)) → AreFieldsTyped defs slots terms number scope fields
