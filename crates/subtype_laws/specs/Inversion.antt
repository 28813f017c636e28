-- What stands above a type and what stands below it, by its head (Motoko language manual, section "Subtyping").
use Rattle.std.specs.Prelude.{◌≡◌, ◌⊎◌, ℕ, List}
use Rattle.mo_num.specs.declared.kind.Kind.{Kind}
use Rattle.mo_types.specs.declared.node.Node.{Node}
use Rattle.mo_types.specs.declared.node.Node.TheVariants as node
use Rattle.mo_types.specs.declared.node.Field.{Field}
use Rattle.mo_types.specs.Sub.{Pairwise, NumberBelow, FieldsBelow, TagsBelow}

module _ {A : Type 0} (R : A → A → Type 0) (u : A) where
  -- u is no Any and has the head y, above a type with the head x
  abbrev pub OtherAbove : Node A → Node A → Type 0
  OtherAbove (node.Number k) y = (j : Kind) × (y ≡ node.Number j) × NumberBelow k j
  OtherAbove node.Bool y = y ≡ node.Bool
  OtherAbove node.Char y = y ≡ node.Char
  OtherAbove node.Text y = y ≡ node.Text
  OtherAbove node.Blob y = y ≡ node.Blob
  OtherAbove node.Principal y = y ≡ node.Principal
  OtherAbove node.Error y = y ≡ node.Error
  OtherAbove node.Null y = (y ≡ node.Null) ⊎ ((b : A) × (y ≡ node.Opt b))
  OtherAbove node.Any y = ⊥
  OtherAbove node.Bottom y = Unit {0}
  OtherAbove (node.Opt a) y = (b : A) × (y ≡ node.Opt b) × R a b
  OtherAbove (node.Array a) y = (b : A) × (y ≡ node.Array b) × R a b
  OtherAbove (node.MutArray a) y = (b : A) × (y ≡ node.MutArray b) × R a b × R b a
  OtherAbove (node.Tuple ts) y = (us : List A) × (y ≡ node.Tuple us) × Pairwise R ts us
  OtherAbove (node.Object fs) y = (gs : List (Field A)) × (y ≡ node.Object gs) × FieldsBelow R fs gs
  OtherAbove (node.Actor fs) y = (gs : List (Field A)) × (y ≡ node.Actor gs) × FieldsBelow R fs gs
  OtherAbove (node.Variant fs) y = (gs : List (Field A)) × (y ≡ node.Variant gs) × TagsBelow R fs gs
  OtherAbove (node.Func s ps rs) y = (qs : List A) × (ss : List A) × (y ≡ node.Func s qs ss) × Pairwise R qs ps × Pairwise R rs ss
  OtherAbove (node.Async a) y = (b : A) × (y ≡ node.Async b) × R a b
  OtherAbove (node.Variable v b) y = ((c : A) × (y ≡ node.Variable v c)) ⊎ R b u

  -- u has the head y, above a type with the head x
  abbrev pub IsAbove : Node A → Node A → Type 0
  IsAbove x y = (y ≡ node.Any) ⊎ OtherAbove x y

  -- x is the head of a type below u, which has the head y, and is neither that of None nor that of a type parameter with a
  -- bound below u
  abbrev pub OtherBelow : Node A → Node A → Type 0
  OtherBelow (node.Number j) x = (k : Kind) × (x ≡ node.Number k) × NumberBelow k j
  OtherBelow node.Bool x = x ≡ node.Bool
  OtherBelow node.Char x = x ≡ node.Char
  OtherBelow node.Text x = x ≡ node.Text
  OtherBelow node.Blob x = x ≡ node.Blob
  OtherBelow node.Principal x = x ≡ node.Principal
  OtherBelow node.Error x = x ≡ node.Error
  OtherBelow node.Null x = x ≡ node.Null
  OtherBelow node.Any x = Unit {0}
  OtherBelow node.Bottom x = ⊥
  OtherBelow (node.Opt b) x = (x ≡ node.Null) ⊎ ((a : A) × (x ≡ node.Opt a) × R a b)
  OtherBelow (node.Array b) x = (a : A) × (x ≡ node.Array a) × R a b
  OtherBelow (node.MutArray b) x = (a : A) × (x ≡ node.MutArray a) × R a b × R b a
  OtherBelow (node.Tuple us) x = (ts : List A) × (x ≡ node.Tuple ts) × Pairwise R ts us
  OtherBelow (node.Object gs) x = (fs : List (Field A)) × (x ≡ node.Object fs) × FieldsBelow R fs gs
  OtherBelow (node.Actor gs) x = (fs : List (Field A)) × (x ≡ node.Actor fs) × FieldsBelow R fs gs
  OtherBelow (node.Variant gs) x = (fs : List (Field A)) × (x ≡ node.Variant fs) × TagsBelow R fs gs
  OtherBelow (node.Func s qs ss) x = (ps : List A) × (rs : List A) × (x ≡ node.Func s ps rs) × Pairwise R qs ps × Pairwise R rs ss
  OtherBelow (node.Async b) x = (a : A) × (x ≡ node.Async a) × R a b
  OtherBelow (node.Variable w c) x = (b : A) × (x ≡ node.Variable w b)

  -- x is the head of a type below u, which has the head y
  abbrev pub IsBelow : Node A → Node A → Type 0
  IsBelow y x = (x ≡ node.Bottom) ⊎ ((v : ℕ) × (b : A) × (x ≡ node.Variable v b) × R b u) ⊎ OtherBelow y x
