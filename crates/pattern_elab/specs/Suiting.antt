-- Values that a pattern may stand on: those with the parts that it looks into (Motoko language manual, section "Patterns"). A value of
-- the pattern's type is one.
use Rattle.std.specs.Prelude.{List, [], ◌∷◌, Option, Some, None}
use Rattle.mo_types.specs.Sub.{AtSome}
use Rattle.mo_values.specs.Shapes.{Bytes, Shape}
use Rattle.mo_values.specs.Views.{tuple_of, field_of}
use Rattle.typed_tree.specs.Patterns.{Pat, Pats, Wildcard, Bind, Constant, Present?, Tagged, Parts, Fields, Either, NoPat, APat, present_of, tagged_of}

-- of the value that is there, if one is
abbrev pub Within : {V : Type 0} → (V → Type 0) → Option V → Type 0
Within P None = Unit {0}
Within P (Some v) = P v

module _ {F : Type 0} where
  abbrev mutual
    pub Suits : Pat → Shape F → Type 0
    Suits Wildcard v = Unit {0}
    Suits Bind v = Unit {0}
    Suits (Constant c) v = Unit {0}
    Suits (Present? p) v = Within (λ w. Suits p w) (present_of v)
    Suits (Tagged l p) v = Within (λ w. Suits p w) (tagged_of l v)
    Suits (Parts ps) v = AtSome (tuple_of v) (λ vs. SuitAll ps vs)
    Suits (Fields ls ps) v = SuitFields ls ps v
    Suits (Either p q) v = Suits p v × Suits q v

    pub SuitAll : Pats → List (Shape F) → Type 0
    SuitAll NoPat [] = Unit {0}
    SuitAll NoPat (v ∷ vs) = ⊥
    SuitAll (APat p ps) [] = ⊥
    SuitAll (APat p ps) (v ∷ vs) = Suits p v × SuitAll ps vs

    pub SuitFields : List Bytes → Pats → Shape F → Type 0
    SuitFields [] NoPat v = Unit {0}
    SuitFields [] (APat p ps) v = ⊥
    SuitFields (l ∷ ls) NoPat v = ⊥
    SuitFields (l ∷ ls) (APat p ps) v = AtSome (field_of l v) (λ w. Suits p w) × SuitFields ls ps v
