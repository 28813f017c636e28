-- Parts of programs, before and after splitting.
use Rattle.std.specs.Prelude.{◌≡◌, ℕ, List, length, map}
use Rattle.core_ir.specs.declared.code.CodeBody.{CodeBody}
use Rattle.core_ir.specs.declared.expression.CoreBody.{CoreBody}
use Rattle.core_ir.specs.declared.program.Group.{Group as GroupTree}
use Rattle.core_ir.specs.declared.program.Method.{Method as MethodTree}
use Rattle.core_ir.specs.declared.program.Program.{Program as ProgramTree}
use Rattle.core_ir.specs.declared.program.SplitCore.{SplitCore}
use Rattle.core_ir.specs.Programs.{Group, Method}
use Rattle.core_ir.specs.Expressions as tree
use Rattle.core_ir.specs.Code as code
use Rattle.core_ir.specs.CodeView.{code_body}
use Rattle.core_ir.specs.ProgramView.{group, method}
use Rattle.core_ir.specs.View.{core_body}
use Rattle.core_laws.specs.Split.{split_body, split_group, split_method}

abbrev pub code_group : GroupTree CodeBody → Group code.Body
code_group = group code_body

abbrev pub code_method : MethodTree CodeBody → Method code.Body
code_method = method code_body

abbrev pub core_group : GroupTree CoreBody → Group tree.Body
core_group = group (λ functions sees. core_body)

abbrev pub core_method : MethodTree CoreBody → Method tree.Body
core_method = method (λ functions sees. core_body)

-- how many functions each group has
abbrev pub sizes_of : List (GroupTree CoreBody) → List ℕ
sizes_of gs = map (λ g. length g.bodies) gs

-- the parts of a split program, of groups of these sizes
pub record SplitBy (sizes : ℕ → ℕ) (p : ProgramTree CoreBody) (q : SplitCore) : Type 0 where
  pub types : q.program.types ≡ p.types
  pub groups : map code_group q.program.groups ≡ map (λ g. split_group sizes (core_group g)) p.groups
  pub methods : map code_method q.program.methods ≡ map (λ m. split_method sizes (core_method m)) p.methods
  pub stable : q.program.stable ≡ p.stable
  pub save : code_body 0 0 q.program.save ≡ split_body sizes 0 0 (core_body p.save)
  pub start : code_body 0 0 q.program.start ≡ split_body sizes 0 0 (core_body p.start)
