-- The labels of well-typed programs tell their fields apart.
use Rattle.std.specs.Prelude.{List, [], ◌∷◌, ◌++◌}
use Rattle.mo_types.specs.Sub.{Each}
use Rattle.typed_tree.specs.declared.program.Program.{Program as Written}
use Rattle.typed_tree.specs.WellTyped.{WellTyped}
use Rattle.typed_tree.proofs.OwnLabels.{labels_own}
use Rattle.stepper.specs.Standing.{AreOwned}

pub all_owned : (ps : List Written) → Each WellTyped ps → AreOwned ps
all_owned [] w = tt
all_owned (p ∷ ps) w = (labels_own p.types (w.0).types, all_owned ps w.1)

-- with one more behind them
pub owned_more : (ps : List Written) (p : Written) → AreOwned ps → WellTyped p → AreOwned (ps ++ p ∷ [])
owned_more [] p owned w = (labels_own p.types w.types, tt)
owned_more (q ∷ ps) p owned w = (owned.0, owned_more ps p owned.1 w)
