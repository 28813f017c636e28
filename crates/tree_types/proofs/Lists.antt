-- Lists of types that are types of the graph.
use Rattle.std.proofs.Common.{List, [], ◌∷◌, ◌++◌}
use Rattle.mo_types.specs.declared.node.TypeId.{TypeId}
use Rattle.mo_types.specs.Sub.{Each}

module _ (There : TypeId → Type 0) where
  pub both : (ts us : List TypeId) → Each There ts → Each There us → Each There (ts ++ us)
  both [] us h i = i
  both (t ∷ ts) us h i = (h.0, both ts us h.1 i)
