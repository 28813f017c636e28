-- What is known of a value, and of which values it holds: the shape of a value that a `switch` misses.
use Rattle.std.specs.Prelude.{◌≡◌, List, [], ◌∷◌, true, false, None}
use Rattle.mo_types.specs.declared.datum.Datum.{Datum}
use Rattle.mo_types.specs.Sub.{AtSome, Each}
use Rattle.mo_values.specs.Shapes.{Bytes, Shape}
use Rattle.mo_values.specs.Views.{leaf_of, tuple_of, field_of}
use Rattle.typed_tree.specs.Patterns.{is_literal, present_of, tagged_of}

mutual
  pub data Known : Type 0 where
    -- nothing
    Unknown : Known
    -- it is this literal, or a literal but none of these
    Is : (part : Datum) → Known
    IsNot : (parts : List Datum) → Known
    -- it is an option that holds a value of which this is known
    Holds : (inside : Known) → Known
    -- it has this tag, with a value of which this is known; or a tag but none of these
    Under : (label : Bytes) → (inside : Known) → Known
    NotUnder : (labels : List Bytes) → Known
    -- it is a tuple
    Parts : (parts : Knowns) → Known
    -- it is an object, and has fields with these labels
    Fields : (labels : List Bytes) → (parts : Knowns) → Known

  pub data Knowns : Type 0 where
    NoKnown : Knowns
    AKnown : (first : Known) → (others : Knowns) → Knowns

module _ {F : Type 0} where
  abbrev mutual
    pub Describes : Known → Shape F → Type 0
    Describes Unknown v = Unit {0}
    Describes (Is c) v = is_literal c (leaf_of v) ≡ true
    Describes (IsNot cs) v = Each (λ c. is_literal c (leaf_of v) ≡ false) cs
    Describes (Holds k) v = AtSome (present_of v) (λ w. Describes k w)
    Describes (Under l k) v = AtSome (tagged_of l v) (λ w. Describes k w)
    Describes (NotUnder ls) v = Each (λ l. tagged_of l v ≡ None) ls
    Describes (Parts ks) v = AtSome (tuple_of v) (λ vs. DescribeAll ks vs)
    Describes (Fields ls ks) v = DescribeFields ls ks v

    -- as many values
    pub DescribeAll : Knowns → List (Shape F) → Type 0
    DescribeAll NoKnown [] = Unit {0}
    DescribeAll NoKnown (v ∷ vs) = ⊥
    DescribeAll (AKnown k ks) [] = ⊥
    DescribeAll (AKnown k ks) (v ∷ vs) = Describes k v × DescribeAll ks vs

    pub DescribeFields : List Bytes → Knowns → Shape F → Type 0
    DescribeFields [] NoKnown v = Unit {0}
    DescribeFields [] (AKnown k ks) v = ⊥
    DescribeFields (l ∷ ls) NoKnown v = ⊥
    DescribeFields (l ∷ ls) (AKnown k ks) v = AtSome (field_of l v) (λ w. Describes k w) × DescribeFields ls ks v
