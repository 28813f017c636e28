-- How many operands actions of typed programs have (Motoko language manual, sections "Expressions" and "Function calls").
use Rattle.std.specs.Prelude.{◌≡◌, ℕ, suc, ◌≤◌, length}
use Rattle.core_ir.specs.Arities.{Takes, operation_arity}
use Rattle.typed_tree.specs.declared.action.Action.{Action}
use Rattle.typed_tree.specs.declared.action.Action.TheVariants as action
use Rattle.typed_tree.specs.Language.{Exp, Exps, Cases, Functions, Val, Name, Do, If, Switch, Group, Frame, Label, While, Repeat, For, Try, Update, NoExp, AnExp, NoCase, ACase, NoFunction, AFunction}
use Rattle.elaboration.specs.Members.{Form, Does, Calls, Iterates, Steps, form_of}
use Rattle.elaboration.specs.Elaboration.{count_of}

-- how many values a built-in function holds, and how many arguments it takes
abbrev pub held : Form → ℕ
held (Does goal holds parameters) = holds
held (Calls goal parameters) = 0
held (Iterates over) = 1
held (Steps over) = 2

abbrev pub taken : Form → ℕ
taken (Does goal holds parameters) = parameters
taken (Calls goal parameters) = parameters
taken (Iterates over) = 0
taken (Steps over) = 0

abbrev pub ActionTakes : Action → ℕ → Type 0
ActionTakes (action.Operate o) n = Takes (operation_arity o) n
ActionTakes (action.BuiltIn m) n = n ≡ held (form_of m)
ActionTakes action.Write n = n ≡ 2
ActionTakes action.WriteElement n = n ≡ 3
ActionTakes action.Call n = 1 ≤ n
ActionTakes (action.Send ps rs) n = n ≡ suc (length ps)
ActionTakes a n = n ≡ 1

-- where a built-in function is called at once, it has its arguments
abbrev pub CalledWith : Exps → Type 0
CalledWith (AnExp (Do (action.BuiltIn m) es) args) = count_of args ≡ taken (form_of m)
CalledWith es = Unit {0}

abbrev pub ActionCalls : Action → Exps → Type 0
ActionCalls action.Call es = CalledWith es
ActionCalls a es = Unit {0}

-- each action has its operands
abbrev mutual
  pub Shaped : Exp → Type 0
  Shaped (Val v) = Unit {0}
  Shaped (Name x) = Unit {0}
  Shaped (Do a es) = ActionTakes a (count_of es) × ActionCalls a es × ShapedAll es
  Shaped (If c a b) = Shaped c × Shaped a × Shaped b
  Shaped (Switch e cases) = Shaped e × ShapedCases cases
  Shaped (Group fns b) = ShapedFunctions fns × Shaped b
  Shaped (Frame n e) = Shaped e
  Shaped (Label e) = Shaped e
  Shaped (While c b) = Shaped c × Shaped b
  Shaped (Repeat b c) = Shaped b × Shaped c
  Shaped (For p e b) = Shaped e × Shaped b
  Shaped (Try e p b) = Shaped e × Shaped b
  Shaped (Update o e f) = (Takes (operation_arity o) 2) × Shaped e × Shaped f

  pub ShapedAll : Exps → Type 0
  ShapedAll NoExp = Unit {0}
  ShapedAll (AnExp e es) = Shaped e × ShapedAll es

  pub ShapedCases : Cases → Type 0
  ShapedCases NoCase = Unit {0}
  ShapedCases (ACase p e cases) = Shaped e × ShapedCases cases

  pub ShapedFunctions : Functions → Type 0
  ShapedFunctions NoFunction = Unit {0}
  ShapedFunctions (AFunction how n ps body fns) = Shaped body × ShapedFunctions fns
