-- Patterns on a type: what they look into is there in each value of the type (Motoko language manual, section "Patterns").
use Rattle.std.specs.Prelude.{◌≡◌, List, [], ◌∷◌, false, Option, Some, None}
use Rattle.mo_types.specs.declared.datum.Datum.{Datum}
use Rattle.mo_types.specs.declared.datum.Datum.TheVariants as part
use Rattle.mo_types.specs.declared.node.Field.{Field}
use Rattle.mo_types.specs.declared.node.Node.{Node}
use Rattle.mo_types.specs.declared.node.Node.TheVariants as node
use Rattle.mo_types.specs.Sub.{AtSome, find}
use Rattle.mo_values.specs.Shapes.{Bytes}
use Rattle.typed_tree.specs.Patterns.{Pat, Pats, Wildcard, Bind, Constant, Present?, Tagged, Parts, Fields, Either, NoPat, APat}

module _ {A : Type 0} where
  -- the form of the type says which values there are
  abbrev pub IsTold : Node A → Type 0
  IsTold node.Any = ⊥
  IsTold (node.Variable v b) = ⊥
  IsTold _ = Unit {0}

  -- a literal of a type whose literals are counted
  abbrev pub IsConstantOn : Node A → Datum → Type 0
  IsConstantOn x (part.Actor p) = ⊥
  IsConstantOn x (part.Principal p) = ⊥
  IsConstantOn x (part.Method p m) = ⊥
  IsConstantOn x c = IsTold x

  abbrev pub OnOption : (A → Type 0) → Node A → Type 0
  OnOption P (node.Opt u) = P u
  OnOption P x = IsTold x

  abbrev pub OnPart : (A → Type 0) → Option (Field A) → Type 0
  OnPart P None = Unit {0}
  OnPart P (Some f) = P f.part

  abbrev pub OnVariant : (A → Type 0) → Bytes → Node A → Type 0
  OnVariant P l (node.Variant fs) = OnPart P (find l fs)
  OnVariant P l x = IsTold x

  abbrev pub OnTuple : (List A → Type 0) → Node A → Type 0
  OnTuple P (node.Tuple ts) = P ts
  OnTuple P node.Bottom = Unit {0}
  OnTuple P x = ⊥

  abbrev pub OnObject : (List (Field A) → Type 0) → Node A → Type 0
  OnObject P (node.Object fs) = P fs
  OnObject P node.Bottom = Unit {0}
  OnObject P x = ⊥

module _ {A : Type 0} (head : A → Node A) where
  abbrev mutual
    pub IsOn : Pat → A → Type 0
    IsOn Wildcard t = Unit {0}
    IsOn Bind t = Unit {0}
    IsOn (Constant c) t = IsConstantOn (head t) c
    IsOn (Present? p) t = OnOption (λ u. IsOn p u) (head t)
    IsOn (Tagged l p) t = OnVariant (λ u. IsOn p u) l (head t)
    IsOn (Parts ps) t = OnTuple (λ ts. AreOn ps ts) (head t)
    IsOn (Fields ls ps) t = OnObject (λ fs. FieldsOn ls ps fs) (head t)
    IsOn (Either p q) t = IsOn p t × IsOn q t

    -- as many as types
    pub AreOn : Pats → List A → Type 0
    AreOn NoPat [] = Unit {0}
    AreOn NoPat (t ∷ ts) = ⊥
    AreOn (APat p ps) [] = ⊥
    AreOn (APat p ps) (t ∷ ts) = IsOn p t × AreOn ps ts

    -- on fields that are no `var` fields
    pub FieldsOn : List Bytes → Pats → List (Field A) → Type 0
    FieldsOn [] NoPat fs = Unit {0}
    FieldsOn [] (APat p ps) fs = ⊥
    FieldsOn (l ∷ ls) NoPat fs = ⊥
    FieldsOn (l ∷ ls) (APat p ps) fs = AtSome (find l fs) (λ f. (f.mutable ≡ false) × IsOn p f.part) × FieldsOn ls ps fs

-- ---- type parameters

abbrev pub IsNoParameter : {A : Type 0} → Node A → Type 0
IsNoParameter (node.Variable v b) = ⊥
IsNoParameter _ = Unit {0}
