-- Types as terms that are as types of values have to be, whatever the definitions are that they use.
use Rattle.std.specs.Prelude.{◌≡◌, ◌≢◌, ◌∷◌, length, true}
use Rattle.mo_types.specs.declared.node.Sort.TheVariants as sort
use Rattle.mo_types.specs.Sub.{Each}
use Rattle.mo_types.specs.Values.{is_method_name}
use Rattle.typed_tree.specs.Shareable.{IsSharedFunction, IsShareable}
use Rattle.typed_tree.specs.Types.{LabelsDiffer, AreConstant}
use Rattle.typing_rules.specs.Definitions.{Definitions}
use Rattle.typing_rules.specs.Heads.{head}
use Rattle.typing_rules.specs.Terms.{Term, Terms, Fields, listed, listed_fields}
use Rattle.typing_rules.specs.Terms as t
use Rattle.typing_rules.specs.Types.{ends}

module _ (defs : Definitions) where
  abbrev mutual
    -- A future stands nowhere in it, also in the arguments of names. Tuples are not of one part, labels differ, tags and methods are no `var` fields, each method
    -- has a name of one and stands for a shared function, and what shared functions take and give is shareable.
    pub IsProper : Term → Type 0
    IsProper (t.Optional a) = IsProper a
    IsProper (t.Array a) = IsProper a
    IsProper (t.MutableArray a) = IsProper a
    IsProper (t.Tuple parts) = AreProper parts × (length (listed parts) ≢ 1)
    IsProper (t.Object fields) = FieldsAreProper fields × LabelsDiffer (listed_fields fields)
    IsProper (t.Actor methods) =
        FieldsAreProper methods × LabelsDiffer (listed_fields methods) × AreConstant (listed_fields methods)
        × Each (λ f. IsSharedFunction (head defs f.part) × (is_method_name f.label ≡ true)) (listed_fields methods)
    IsProper (t.Variant tags) = FieldsAreProper tags × LabelsDiffer (listed_fields tags) × AreConstant (listed_fields tags)
    IsProper (t.Function ps r) = AreProper ps × IsProper r
    IsProper (t.Shared how ps r) = AreProper ps × IsProper r × (how ≢ sort.Local) × Each (IsShareable (head defs)) (r ∷ listed ps)
    IsProper (t.Async a) = ⊥
    IsProper (t.Use at arguments) = AreProper arguments
    IsProper _ = Unit {0}

    pub AreProper : Terms → Type 0
    AreProper t.Nil = Unit {0}
    AreProper (t.Cons u rest) = IsProper u × AreProper rest

    pub FieldsAreProper : Fields → Type 0
    FieldsAreProper t.NoFields = Unit {0}
    FieldsAreProper (t.WithField l mutable u rest) = IsProper u × FieldsAreProper rest

  -- such a type, or that of a future of one
  abbrev pub IsMet : Term → Type 0
  IsMet (t.Async a) = IsProper a
  IsMet u = IsProper u

  -- definitions with such right sides, and type parameters with such bounds, which lead to a type that is no type parameter
  abbrev pub ArePartsProper : Definitions → Type 0
  ArePartsProper part = Each (λ d. IsProper d.right) part.types × Each (λ b. IsProper b.bound × (ends defs b.at ≡ true)) part.parameters
