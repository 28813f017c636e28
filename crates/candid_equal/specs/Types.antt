-- The pairs of a header's types and declared ones.
use Rattle.std.specs.Prelude.{List, [], ◌∷◌}
use Rattle.mo_types.specs.declared.node.TypeId.{TypeId}
use Rattle.mo_types.specs.declared.wire.TableRef.{TableRef}
use Rattle.candid_types.specs.Shapes.{number_of}
use Rattle.candid_equal.specs.declared.pair.Pair.{Pair}
use Rattle.candid_equal.specs.Pairs.{pair}

abbrev pub pairs_of : List TableRef → List TypeId → List Pair
pairs_of (r ∷ rs) (t ∷ ts) = pair r (number_of t) ∷ pairs_of rs ts
pairs_of [] ts = []
pairs_of (r ∷ rs) [] = []
