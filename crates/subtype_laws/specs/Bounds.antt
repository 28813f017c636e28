-- Bounds of type parameters (Motoko language manual, section "Type parameters").
use Rattle.std.specs.Prelude.{◌≡◌, ℕ}
use Rattle.mo_types.specs.declared.node.Node.{Node}
use Rattle.mo_types.specs.declared.node.Node.TheVariants as node
use Rattle.mo_types.specs.Sub.{IsSubtype}

module _ {A : Type 0} (head : A → Node A) where
  -- type parameters of one number have equal bounds: each is below the other
  abbrev pub OneBound : Type 0
  OneBound = (t u b c : A) (n : ℕ) → head t ≡ node.Variable n b → head u ≡ node.Variable n c → IsSubtype head b c

  -- type parameters of one number have one bound
  abbrev pub SameBound : Type 0
  SameBound = (t u b c : A) (n : ℕ) → head t ≡ node.Variable n b → head u ≡ node.Variable n c → b ≡ c
