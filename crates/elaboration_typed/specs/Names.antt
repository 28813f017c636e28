-- The names of an elaborated well-typed program (Motoko language manual, sections "Actors" and "Shared functions").
use Rattle.typed_tree.specs.declared.program.Program.{Program}
use Rattle.typed_tree.specs.ProgramView.{program}
use Rattle.typed_tree.specs.WellTyped.{WellTyped}
use Rattle.core_ir.specs.Expressions.{Body}
use Rattle.core_ir.specs.Formed.{NamedMethods}
use Rattle.elaboration.specs.Programs.{elaborated}
use Rattle.elaboration_names.specs.Names.{NamedCore}
use Rattle.elaboration_starts.specs.Starts.{ActorStands}

-- its methods have different names, by which they may be called, and `__resume` is one of them
abbrev pub MethodsAreNamed : Type 0
MethodsAreNamed = (p : Program) → WellTyped p → NamedMethods {B = Body} (elaborated (program p))

-- all that is named in code is there
abbrev pub CodeIsNamed : Type 0
CodeIsNamed = (p : Program) → WellTyped p → (a : ActorStands (program p)) → NamedCore a.total (elaborated (program p))
