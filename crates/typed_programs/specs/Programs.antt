-- What is made of a syntax tree.
use Rattle.std.specs.Prelude.{Result, Ok, Err}
use Rattle.mo_syntax.specs.declared.program.Tree.{Tree}
use Rattle.typed_tree.specs.declared.program.Program as typed
use Rattle.typing_rules.specs.Answers.{fault}
use Rattle.typing_rules.specs.Programs.{Refused}
use Rattle.tree_programs.specs.Programs.{IsProgramOf}
use Rattle.mo_check.specs.declared.fault.TypeFault.{TypeFault}
use Rattle.mo_check.specs.declared.fault.TypeFault.TheVariants as type_fault

-- its typed program, or the condition of typing that is false; want of memory names none
abbrev pub Makes : Tree → Result typed.Program TypeFault → Type 0
Makes tree (Ok p) = IsProgramOf tree p
Makes tree (Err (type_fault.False place c)) = Refused tree (fault c place)
Makes tree (Err type_fault.Memory) = Unit {0}
