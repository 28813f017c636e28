-- The types that stand in a type, at any depth (Motoko language manual, section "Types").
use Rattle.std.specs.Prelude.{◌≡◌, ◌⊎◌, List, [], ◌∷◌, ◌++◌}
use Rattle.mo_types.specs.declared.node.Node.{Node}
use Rattle.mo_types.specs.declared.node.Node.TheVariants as node
use Rattle.mo_types.specs.Values.{types_of}

module _ {A : Type 0} where
  abbrev pub Among : A → List A → Type 0
  Among a [] = ⊥
  Among a (b ∷ bs) = (b ≡ a) ⊎ Among a bs

  -- the types of a head's parts; a type parameter is one whatever its bound
  abbrev pub parts : Node A → List A
  parts (node.Opt a) = a ∷ []
  parts (node.Array a) = a ∷ []
  parts (node.MutArray a) = a ∷ []
  parts (node.Tuple ts) = ts
  parts (node.Object fs) = types_of fs
  parts (node.Actor fs) = types_of fs
  parts (node.Variant fs) = types_of fs
  parts (node.Func s ps rs) = ps ++ rs
  parts (node.Async a) = a ∷ []
  parts _ = []

  module _ (head : A → Node A) where
    -- the type itself, and the parts of what it reaches
    pub data Reached : A → A → Type 0 where
      Itself : {t : A} → Reached t t
      Part : {t u v : A} → Among v (parts (head t)) → Reached v u → Reached t u
