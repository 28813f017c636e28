-- What is made of parts of a typed program, with the groups of functions that it adds.
use Rattle.std.specs.Prelude.{◌≡◌, ℕ, ◌+◌, List, [], ◌∷◌, ◌++◌, length, map}
use Rattle.core_ir.specs.declared.expression.CoreBody.{CoreBody}
use Rattle.core_ir.specs.declared.expression.Expression.{Expression}
use Rattle.core_ir.specs.declared.program.Group.{Group as GroupTree}
use Rattle.core_ir.specs.Expressions as core
use Rattle.core_ir.specs.Expressions.{Body}
use Rattle.core_ir.specs.Programs.{Group}
use Rattle.core_ir.specs.View.{core_body, exps, expression}
use Rattle.typed_tree.specs.Language.{Exp, Cases, Functions, Switch, NoCase, ACase}
use Rattle.typed_tree.specs.Language as source
use Rattle.typed_tree.specs.Patterns.{Pat}
use Rattle.typed_tree.specs.Substitution.{count}
use Rattle.typed_tree.specs.View.{FunctionView}
use Rattle.elaboration.specs.Checks.{Checked, Named, around, around_all, behind, check, fails}
use Rattle.elaboration.specs.Elaboration.{BodiesElaborated, ManyElaborated, break_with, changed, elaborate, elaborate_cases, elaborate_functions, number_of_parameters, on_nearest, on_parameters}
use Rattle.elaboration.specs.Members.{Elaborated, let_in}
use Rattle.elaboration.specs.Scopes.{Scope, beside, in_body, inside, nothing, under}
use Rattle.core_layers.specs.declared.layer.Layer.{Layer}
use Rattle.core_layers.specs.Layers.{layered}
use Rattle.core_members.specs.Seen.{seen_groups}

abbrev pub Groups : Type 0
Groups = List (GroupTree CoreBody)

-- these groups are added
abbrev pub Added : List (Group Body) → (old new : Groups) → Type 0
Added gs old new = seen_groups new ≡ seen_groups old ++ gs

-- this expression, and these groups are added
abbrev pub IsMade : Elaborated → (old new : Groups) → Expression → Type 0
IsMade d old new e = (expression e ≡ d.exp) × Added d.groups old new

-- these operands
abbrev pub AreMade : ManyElaborated → (old new : Groups) → List Expression → Type 0
AreMade d old new es = (exps (map expression es) ≡ d.exps) × Added d.groups old new

-- these bodies
abbrev pub BodiesMade : BodiesElaborated → (old new : Groups) → List CoreBody → Type 0
BodiesMade d old new bs = (map core_body bs ≡ d.bodies) × Added d.groups old new

-- ---- cases

-- what stands under the value
abbrev pub cases_under : Scope → ℕ → Cases → Elaborated
cases_under s n (ACase p b NoCase) =
    let c : Checked = on_nearest p s in
    changed (around_all c.checks fails) (elaborate (behind c s) n b)
cases_under s n cases = changed core.Label (elaborate_cases s.names (inside (beside 1 s)) n cases)

-- a case that leaves the label, or else gives `()`
abbrev pub case_tried : ℕ → Scope → ℕ → Pat → Exp → Elaborated
case_tried level s n p b =
    let c : Checked = check p (Named level) s.names in
    changed (λ x. around_all c.checks nothing (break_with x)) (elaborate (behind c s) n b)

-- ---- functions

pub record BodyElaborated : Type 0 where
  pub body : Body
  pub groups : List (Group Body)

-- a function of a group that is in scope
abbrev pub elaborate_body : Scope → ℕ → FunctionView → BodyElaborated
elaborate_body s n f =
    let c : Checked = on_parameters f.parameters s in
    let d : Elaborated = elaborate (behind c (in_body (number_of_parameters f.parameters) s)) n f.body in
    record { body = record { parameters = number_of_parameters f.parameters; nodes = f.nodes; expression = around_all c.checks fails d.exp }; groups = d.groups }

abbrev pub BodyMade : BodyElaborated → (old new : Groups) → CoreBody → Type 0
BodyMade d old new b = (core_body b ≡ d.body) × Added d.groups old new

-- ---- declarations

pub data Turn : Type 0 where
  -- the pattern meets the value
  Matched : (p : Pat) → (e : Exp) → Turn
  Grouped : (fns : Functions) → Turn

abbrev pub around_turn : Turn → Exp → Exp
around_turn (Matched p e) b = Switch e (ACase p b NoCase)
around_turn (Grouped fns) b = source.Group fns b

-- what it is around what follows it, and in which scope that stands
pub record Begun : Type 0 where
  pub scope : Scope
  pub start : core.Exp → core.Exp
  pub groups : List (Group Body)

abbrev pub begun : Turn → Scope → ℕ → Begun
begun (Matched p e) s n =
    let d : Elaborated = elaborate s n e in
    let c : Checked = on_nearest p s in
    record { scope = behind c s; start = λ y. let_in d.exp (around_all c.checks fails y); groups = d.groups }
begun (Grouped fns) s n =
    let f : BodiesElaborated = elaborate_functions (under (count fns) s) n fns in
    record { scope = under (count fns) s; start = core.Functions (n + length f.groups); groups = f.groups ++ record { sees = s.names; bodies = f.bodies } ∷ [] }

-- layers so far stand around this
abbrev pub Surrounds : List Layer → (core.Exp → core.Exp) → List Layer → Type 0
Surrounds outer start layers = (e : core.Exp) → layered layers fails e ≡ layered outer fails (start e)

-- a declaration, which stands around what follows it, is further layers and groups, and leads to the scope of what follows
pub record Declares (declaration : Exp → Exp) (s t : Scope) (old new : Groups) (outer layers : List Layer) : Type 0 where
  pub turn : Turn
  pub is : (b : Exp) → declaration b ≡ around_turn turn b
  pub scope : t ≡ (begun turn s (length old)).scope
  pub around : Surrounds outer (begun turn s (length old)).start layers
  pub groups : Added (begun turn s (length old)).groups old new
