-- Programs whose bodies keep within their measures: what splitting asks of a program besides its names.
use Rattle.std.specs.Prelude.{ℕ, ◌+◌, ◌*◌, ◌≤◌, max, List, []}
use Rattle.std.specs.List.{AllByRecursion}
use Rattle.core_ir.specs.declared.expression.CoreBody.{CoreBody}
use Rattle.core_ir.specs.declared.program.Group.{Group as GroupTree}
use Rattle.core_ir.specs.declared.program.Method.{Method as MethodTree}
use Rattle.core_ir.specs.declared.program.Program.{Program as ProgramTree}
use Rattle.core_ir.specs.Expressions.{Body, Core}
use Rattle.core_ir.specs.Formed.{PaidCoreGroups, counted_program, most_functions, size_at}
use Rattle.core_ir.specs.FormedExpressions.{nest, width, arguments, depth, points}
use Rattle.core_ir.specs.Outward.{outward_of}
use Rattle.core_ir.specs.Programs.{Group, Method}
use Rattle.core_ir.specs.ProgramView.{group, method, program}
use Rattle.core_ir.specs.View.{core_body}

module _ (sizes : ℕ → ℕ) where
  -- the words of a frame are the values that stand ready at once, the arguments of an action, and how deep it stands
  pub record WithinBody (b : Body) : Type 0 where
    pub frame : b.parameters + width sizes b.expression + 2 * max 2 (arguments b.expression) + depth b.expression ≤ 4 * b.nodes + 50

  -- where an execution begins or goes on
  pub record WithinOuter (b : Body) : Type 0 where
    pub nested : nest b.expression ≤ b.nodes
    pub within : WithinBody b

  abbrev pub AllWithin : List Body → Type 0
  AllWithin bodies = AllByRecursion WithinBody bodies

  abbrev pub GroupsWithin : List (Group Body) → Type 0
  GroupsWithin groups = AllByRecursion (λ (g : Group Body). AllWithin g.bodies) groups

  abbrev pub MethodsWithin : List (Method Body) → Type 0
  MethodsWithin methods = AllByRecursion (λ (m : Method Body). WithinOuter m.body) methods

-- how often a body counts: once, and once for each place where it waits
abbrev pub segments : Body → ℕ
segments b = 1 + points b.expression

-- where groups have these sizes
module _ (sizes : ℕ → ℕ) (p : Core) where
  pub record BodiesWithin : Type 0 where
    pub groups : GroupsWithin sizes p.groups
    pub methods : MethodsWithin sizes p.methods
    pub save : WithinOuter sizes p.save
    pub start : WithinOuter sizes p.start

  pub record WithinBy : Type 0 where
    pub bodies : BodiesWithin
    -- groups pay for what their functions name of what they see
    pub paid : PaidCoreGroups 0 p (outward_of sizes [] p.groups) p.groups
    pub few : counted_program segments p ≤ most_functions

abbrev pub Within : Core → Type 0
Within p = WithinBy (size_at p.groups) p

-- ---- parts of a program

abbrev pub core_group : GroupTree CoreBody → Group Body
core_group g = group (λ functions sees. core_body) g

abbrev pub core_method : MethodTree CoreBody → Method Body
core_method m = method (λ functions sees. core_body) m

abbrev pub core_program : ProgramTree CoreBody → Core
core_program p = program (λ functions sees. core_body) p
