-- Where there are no types, labels tell fields apart.
use Rattle.std.proofs.Common.{◌≡◌, List, [], sym, subst}
use Rattle.mo_types.specs.Graph.{Slot}
use Rattle.arena_equality.specs.Own.{AreOwnLabels}

none_own : AreOwnLabels []
none_own t = tt

pub no_labels : (types : List Slot) → types ≡ [] → AreOwnLabels types
no_labels types is = let Of : List Slot → Type 0 = λ l. AreOwnLabels l in subst Of (sym is) none_own
