-- What the body of a shared function comes to: one value of its results (Motoko language manual, section "Shared functions").
use Rattle.std.specs.Prelude.{List}
use Rattle.mo_types.specs.declared.node.TypeId.{TypeId}
use Rattle.typed_tree.specs.ActionTypes.{ResultOf}
use Rattle.typed_tree.specs.Language.{Value, Exp}
use Rattle.typed_tree.specs.Wants.{Of}
use Rattle.program_soundness.specs.Runs.{Fitting, Gives, IsValueOf}
use Rattle.mo_soundness.specs.Worlds.{World}

module _ (world : World) (results : List TypeId) where
  abbrev pub GivesResults : Fitting Exp
  GivesResults answers kinds e = (r : TypeId) × ResultOf world.head results r × Gives world (Of r) answers kinds e

  abbrev pub AreResults : Fitting Value
  AreResults answers kinds v = (r : TypeId) × ResultOf world.head results r × IsValueOf world (Of r) answers kinds v
