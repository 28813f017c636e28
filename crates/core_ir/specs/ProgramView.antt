-- The programs that those of the code stand for.
use Rattle.std.specs.Prelude.{ℕ, length, map}
use Rattle.mo_types.specs.Graph.{head_at}
use Rattle.core_ir.specs.declared.program.Program.{Program as ProgramTree}
use Rattle.core_ir.specs.declared.program.Group.{Group as GroupTree}
use Rattle.core_ir.specs.declared.program.Method.{Method as MethodTree}
use Rattle.core_ir.specs.declared.program.StableVariable.{StableVariable as VariableTree}
use Rattle.core_ir.specs.declared.program.Core.{Core as CoreTree}
use Rattle.core_ir.specs.declared.program.SplitCore.{SplitCore}
use Rattle.core_ir.specs.declared.program.Flat.{Flat}
use Rattle.core_ir.specs.Programs.{Group, Method, StableVariable, Program}
use Rattle.core_ir.specs.Expressions.{Core}
use Rattle.core_ir.specs.Code.{CodeProgram}
use Rattle.core_ir.specs.View.{signature, core_body}
use Rattle.core_ir.specs.CodeView.{code_body}

abbrev pub stable_variable : VariableTree → StableVariable
stable_variable v = record { name = v.name; of_type = v.of_type }

-- the body is one of a group of so many functions, which sees so many values
module _ {B C : Type 0} (body : ℕ → ℕ → B → C) where
  abbrev pub group : GroupTree B → Group C
  group g = record { sees = g.sees; bodies = map (body (length g.bodies) g.sees) g.bodies }

  abbrev pub method : MethodTree B → Method C
  method m = record { name = m.name; query = m.query; signature = signature m.signature; body = body 0 0 m.body }

  abbrev pub program : ProgramTree B → Program C
  program p = record {
    head = head_at p.types;
    groups = map group p.groups;
    methods = map method p.methods;
    stable = map stable_variable p.stable;
    save = body 0 0 p.save;
    start = body 0 0 p.start;
  }

abbrev pub core : CoreTree → Core
core p = program (λ functions sees. core_body) p.program

abbrev pub split_core : SplitCore → CodeProgram
split_core p = program code_body p.program

abbrev pub flat : Flat → CodeProgram
flat p = program code_body p.program
