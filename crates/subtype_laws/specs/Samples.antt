-- Small types that show their heads (Motoko language manual, section "Types"). One letter names a type that has a
-- definition.
use Rattle.std.specs.Prelude.{ℕ, true, false, [], ◌∷◌}
use Rattle.mo_num.specs.declared.kind.Kind.TheVariants as kind
use Rattle.mo_types.specs.declared.node.Node.{Node}
use Rattle.mo_types.specs.declared.node.Node.TheVariants as node
use Rattle.mo_types.specs.declared.node.Field.{Field}
use Rattle.mo_types.specs.declared.node.Sort.TheVariants as sort

pub data Sample : Type 0 where
  -- `Nat`
  ANat : Sample
  -- `Int`
  AnInt : Sample
  -- `Text`
  AText : Sample
  -- `None`
  ANone : Sample
  -- `Any`
  AnAny : Sample
  -- `Null`
  ANull : Sample
  -- `?Nat`
  OptNat : Sample
  -- `?Int`
  OptInt : Sample
  -- `?Text`
  OptText : Sample
  -- `[Nat]`
  Nats : Sample
  -- `[Int]`
  Ints : Sample
  -- `[var Nat]`
  VarNats : Sample
  -- `[var Int]`
  VarInts : Sample
  -- `()`
  AUnit : Sample
  -- `(Nat, Nat)`
  TwoNats : Sample
  -- `(Int, Int)`
  TwoInts : Sample
  -- `{}`
  NoFields : Sample
  -- `{a : Nat}`
  FieldNat : Sample
  -- `{a : Int}`
  FieldInt : Sample
  -- `{var a : Nat}`
  CellNat : Sample
  -- `{var a : Int}`
  CellInt : Sample
  -- `{#b : Int}`
  TagInt : Sample
  -- `V = {#a; #b : Nat}`
  V : Sample
  -- `{#a; #b : Int; #c}`
  Wider : Sample
  -- `Nat -> Nat`
  NatToNat : Sample
  -- `Nat -> Int`
  NatToInt : Sample
  -- `Int -> Nat`
  IntToNat : Sample
  -- `(Int -> Nat) -> Nat`
  OfIntToNat : Sample
  -- `(Nat -> Nat) -> Nat`
  OfNatToNat : Sample
  -- `shared query Nat -> async Nat`
  QueryNat : Sample
  -- `shared Nat -> async Nat`
  SharedNat : Sample
  -- `actor {a : shared Nat -> async Nat}`
  OneMethod : Sample
  -- `actor {a : shared Nat -> async Nat; b : shared Nat -> async Nat}`
  TwoMethods : Sample
  -- `async Nat`
  AsyncNat : Sample
  -- `async Int`
  AsyncInt : Sample
  -- `A = ?A`
  A : Sample
  -- `L = ?(Nat, L)`
  L : Sample
  -- `(Nat, L)`
  LPair : Sample
  -- `M = ?(Int, ?(Nat, M))`
  M : Sample
  -- `(Int, ?(Nat, M))`
  MPair : Sample
  -- `?(Nat, M)`
  MInner : Sample
  -- `(Nat, M)`
  MLast : Sample
  -- `N = ?(Nat, ?(Nat, N))`
  N : Sample
  -- `(Nat, ?(Nat, N))`
  NPair : Sample
  -- `?(Nat, N)`
  NInner : Sample
  -- `(Nat, N)`
  NLast : Sample
  -- `T = {#l; #n : (T, T)}`
  T : Sample
  -- `(T, T)`
  TPair : Sample
  -- `C = {var c : ?C}`
  C : Sample
  -- `?C`
  OptC : Sample
  -- `D = {var c : ?D; d : Nat}`
  D : Sample
  -- `?D`
  OptD : Sample
  -- `?(Nat, ?(Nat, ?Text))`
  Short : Sample
  -- `(Nat, ?(Nat, ?Text))`
  ShortPair : Sample
  -- `?(Nat, ?Text)`
  ShortInner : Sample
  -- `(Nat, ?Text)`
  ShortLast : Sample
  -- a type parameter 0 with the bound Nat
  LooseNat : Sample
  -- a type parameter of the same number with the bound Text
  LooseText : Sample
  -- `{a : Nat; a : Text}`, which no program can write
  TwiceA : Sample
  -- `{a : Nat; a : Nat}`, which no program can write either
  TwiceNat : Sample

-- a field or a tag of this label
abbrev labelled : ℕ → Sample → Field Sample
labelled letter t = record { label = letter ∷ []; mutable = false; part = t }

-- a `var` field of this label
abbrev variable : ℕ → Sample → Field Sample
variable letter t = record { label = letter ∷ []; mutable = true; part = t }

abbrev pub field_a : Sample → Field Sample
field_a t = labelled 97 t

abbrev pub label_b : Sample → Field Sample
label_b t = labelled 98 t

abbrev pub label_c : Sample → Field Sample
label_c t = labelled 99 t

abbrev pub label_d : Sample → Field Sample
label_d t = labelled 100 t

abbrev pub label_l : Sample → Field Sample
label_l t = labelled 108 t

abbrev pub label_n : Sample → Field Sample
label_n t = labelled 110 t

abbrev pub cell_a : Sample → Field Sample
cell_a t = variable 97 t

abbrev pub cell_c : Sample → Field Sample
cell_c t = variable 99 t

abbrev pub sample_head : Sample → Node Sample
sample_head ANat = node.Number kind.Nat
sample_head AnInt = node.Number kind.Int
sample_head AText = node.Text
sample_head ANone = node.Bottom
sample_head AnAny = node.Any
sample_head ANull = node.Null
sample_head OptNat = node.Opt ANat
sample_head OptInt = node.Opt AnInt
sample_head OptText = node.Opt AText
sample_head Nats = node.Array ANat
sample_head Ints = node.Array AnInt
sample_head VarNats = node.MutArray ANat
sample_head VarInts = node.MutArray AnInt
sample_head AUnit = node.Tuple []
sample_head TwoNats = node.Tuple (ANat ∷ ANat ∷ [])
sample_head TwoInts = node.Tuple (AnInt ∷ AnInt ∷ [])
sample_head NoFields = node.Object []
sample_head FieldNat = node.Object (field_a ANat ∷ [])
sample_head FieldInt = node.Object (field_a AnInt ∷ [])
sample_head CellNat = node.Object (cell_a ANat ∷ [])
sample_head CellInt = node.Object (cell_a AnInt ∷ [])
sample_head TagInt = node.Variant (label_b AnInt ∷ [])
sample_head V = node.Variant (field_a AUnit ∷ label_b ANat ∷ [])
sample_head Wider = node.Variant (field_a AUnit ∷ label_b AnInt ∷ label_c AUnit ∷ [])
sample_head NatToNat = node.Func sort.Local (ANat ∷ []) (ANat ∷ [])
sample_head NatToInt = node.Func sort.Local (ANat ∷ []) (AnInt ∷ [])
sample_head IntToNat = node.Func sort.Local (AnInt ∷ []) (ANat ∷ [])
sample_head OfIntToNat = node.Func sort.Local (IntToNat ∷ []) (ANat ∷ [])
sample_head OfNatToNat = node.Func sort.Local (NatToNat ∷ []) (ANat ∷ [])
sample_head QueryNat = node.Func sort.Query (ANat ∷ []) (ANat ∷ [])
sample_head SharedNat = node.Func sort.Shared (ANat ∷ []) (ANat ∷ [])
sample_head OneMethod = node.Actor (field_a SharedNat ∷ [])
sample_head TwoMethods = node.Actor (field_a SharedNat ∷ label_b SharedNat ∷ [])
sample_head AsyncNat = node.Async ANat
sample_head AsyncInt = node.Async AnInt
sample_head A = node.Opt A
sample_head L = node.Opt LPair
sample_head LPair = node.Tuple (ANat ∷ L ∷ [])
sample_head M = node.Opt MPair
sample_head MPair = node.Tuple (AnInt ∷ MInner ∷ [])
sample_head MInner = node.Opt MLast
sample_head MLast = node.Tuple (ANat ∷ M ∷ [])
sample_head N = node.Opt NPair
sample_head NPair = node.Tuple (ANat ∷ NInner ∷ [])
sample_head NInner = node.Opt NLast
sample_head NLast = node.Tuple (ANat ∷ N ∷ [])
sample_head T = node.Variant (label_l AUnit ∷ label_n TPair ∷ [])
sample_head TPair = node.Tuple (T ∷ T ∷ [])
sample_head C = node.Object (cell_c OptC ∷ [])
sample_head OptC = node.Opt C
sample_head D = node.Object (cell_c OptD ∷ label_d ANat ∷ [])
sample_head OptD = node.Opt D
sample_head Short = node.Opt ShortPair
sample_head ShortPair = node.Tuple (ANat ∷ ShortInner ∷ [])
sample_head ShortInner = node.Opt ShortLast
sample_head ShortLast = node.Tuple (ANat ∷ OptText ∷ [])
sample_head LooseNat = node.Variable 0 ANat
sample_head LooseText = node.Variable 0 AText
sample_head TwiceA = node.Object (field_a ANat ∷ field_a AText ∷ [])
sample_head TwiceNat = node.Object (field_a ANat ∷ field_a ANat ∷ [])
