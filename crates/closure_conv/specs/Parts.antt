-- Parts of programs of structured code.
use Rattle.core_ir.specs.declared.code.CodeBody.{CodeBody}
use Rattle.core_ir.specs.declared.program.Group.{Group as GroupTree}
use Rattle.core_ir.specs.declared.program.Method.{Method as MethodTree}
use Rattle.core_ir.specs.Programs.{Group, Method}
use Rattle.core_ir.specs.Code.{Body}
use Rattle.core_ir.specs.CodeView.{code_body}
use Rattle.core_ir.specs.ProgramView.{group, method}

abbrev pub group_view : GroupTree CodeBody → Group Body
group_view = group code_body

abbrev pub method_view : MethodTree CodeBody → Method Body
method_view = method code_body
