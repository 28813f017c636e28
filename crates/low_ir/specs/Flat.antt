-- Low code as the list that the code holds: a construct is its opening and closing marks, and the arguments of a call stand
-- before it.
use Rattle.std.specs.Prelude.{List, [], ◌∷◌, ◌++◌, map}
use Rattle.low_ir.specs.declared.op.LowOp.{LowOp}
use Rattle.low_ir.specs.declared.op.LowOp.TheVariants as op
use Rattle.low_ir.specs.declared.module_parts.LowFunction.{LowFunction}
use Rattle.low_ir.specs.declared.module_parts.LowModule.{LowModule}
use Rattle.low_ir.specs.Tree.{Code, Stop, Return, Branch, Trap, Set, SetGlobal, Store, Grow, GrowStable, Block, Loop, If, BranchIf, Call, CallIndirect, Function, Module}

abbrev pub flat : Code → List LowOp
flat Stop = []
flat (Return value) = op.Return value ∷ []
flat (Branch label) = op.Branch label ∷ []
flat (Trap a b) = op.Trap a b ∷ []
flat (Set x o rest) = op.Set x o ∷ flat rest
flat (SetGlobal x a rest) = op.SetGlobal x a ∷ flat rest
flat (Store kind a offset b rest) = op.Store kind a offset b ∷ flat rest
flat (Grow a rest) = op.Grow a ∷ flat rest
flat (GrowStable a rest) = op.GrowStable a ∷ flat rest
flat (Block body rest) = op.Block ∷ (flat body ++ op.End ∷ flat rest)
flat (Loop body rest) = op.Loop ∷ (flat body ++ op.End ∷ flat rest)
flat (If a first second rest) = op.If a ∷ (flat first ++ op.Else ∷ (flat second ++ op.End ∷ flat rest))
flat (BranchIf a label rest) = op.BranchIf a label ∷ flat rest
flat (Call result f args rest) = map op.Argument args ++ op.Call result f ∷ flat rest
flat (CallIndirect result x args a rest) = map op.Argument args ++ op.CallIndirect result x a ∷ flat rest

abbrev pub flat_function : Function → LowFunction
flat_function f = record { signature = f.signature; locals = f.locals; body = flat f.body }

-- The module as the code holds it.
abbrev pub flat_module : Module → LowModule
flat_module m = record {
  types = m.types;
  functions = map flat_function m.functions;
  table = m.table;
  globals = m.globals;
  pages = m.pages;
  bytes = m.bytes;
  exports = m.exports;
}
