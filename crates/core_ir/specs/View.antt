-- The expression that a tree stands for: bindings stand around those behind them.
use Rattle.std.specs.Prelude.{List, [], ◌∷◌}
use Rattle.core_ir.specs.declared.expression.Expression.{Expression, fold-Expression}
use Rattle.core_ir.specs.declared.expression.Binding.TheOpen as E
use Rattle.core_ir.specs.declared.expression.Goal.{Goal, fold-Goal}
use Rattle.core_ir.specs.declared.expression.Binding.{Binding, fold-Binding}
use Rattle.core_ir.specs.declared.expression.CoreBody.{CoreBody}
use Rattle.core_ir.specs.declared.program.Signature.{Signature}
use Rattle.core_ir.specs.Programs as program
use Rattle.core_ir.specs.Expressions as tree
use Rattle.core_ir.specs.Expressions.{Exp, Exps, NoExp, AnExp, Body}

abbrev pub exps : List Exp → Exps
exps [] = NoExp
exps (e ∷ es) = AnExp e (exps es)

abbrev pub signature : Signature → program.Signature
signature s = record { parameters = s.parameters; results = s.results }

-- a binding around what stands behind it
abbrev pub BindingView : Type 0
BindingView = Exp → Exp

abbrev pub block : List BindingView → Exp → Exp
block [] e = e
block (b ∷ bs) e = b (block bs e)

abbrev pub binding_step : E.Binding-F BindingView Exp tree.Goal → BindingView
binding_step (E.Value e) b = tree.Do (tree.Bind b) (AnExp e NoExp)
binding_step (E.Functions k) b = tree.Functions k b

abbrev pub expression_step : E.Expression-F BindingView Exp tree.Goal → Exp
expression_step (E.Constant k) = tree.Constant? k
expression_step (E.Name x) = tree.Name x
expression_step (E.Global i) = tree.Global i
expression_step (E.Do goal es) = tree.Do goal (exps es)
expression_step (E.Block bs e) = block bs e
expression_step (E.Loop b) = tree.Loop b
expression_step (E.Label b) = tree.Label b
expression_step (E.Try a b) = tree.Try a b

abbrev pub goal_step : E.Goal-F BindingView Exp tree.Goal → tree.Goal
goal_step (E.Operate p) = tree.Operate p
goal_step (E.Choose p a b) = tree.Choose p a b
goal_step (E.Match k a b) = tree.Match k a b
goal_step E.Call = tree.Call
goal_step E.Tabulate = tree.Tabulate
goal_step (E.Send s) = tree.Send (signature s)
goal_step E.Throw = tree.Throw
goal_step E.Await = tree.Await
goal_step (E.Break l) = tree.Break l
goal_step E.Return = tree.Return

unfoldable pub expression : Expression → Exp
expression = fold-Expression BindingView Exp tree.Goal binding_step expression_step goal_step

unfoldable pub goal : Goal → tree.Goal
goal = fold-Goal BindingView Exp tree.Goal binding_step expression_step goal_step

unfoldable pub binding : Binding → BindingView
binding = fold-Binding BindingView Exp tree.Goal binding_step expression_step goal_step

abbrev pub core_body : CoreBody → Body
core_body b = record { parameters = b.parameters; nodes = b.nodes; expression = expression b.expression }
