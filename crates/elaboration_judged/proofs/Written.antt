-- Code that is shaped writes no `next` of an iterator.
use Rattle.typed_tree.specs.declared.action.Action.{Action}
use Rattle.typed_tree.specs.declared.action.Action.TheVariants as action
use Rattle.typed_tree.specs.declared.action.Member.TheVariants as member
use Rattle.typed_tree.specs.Language.{Exp, Exps, Cases, Functions, Val, Name, Do, If, Switch, Group, Frame, Label, While, Repeat, For, Try, Update, NoExp, AnExp, NoCase, ACase, NoFunction, AFunction}
use Rattle.nesting.specs.Shapes.{Shaped, ShapedAll, ShapedCases, ShapedFunctions}
use Rattle.nesting.specs.Shapes as shape
use Rattle.elaboration_premises.specs.Scoped.{IsWritten, Written, WrittenAll, WrittenCases, WrittenFunctions}

action_written : (a : Action) → shape.IsWritten a → IsWritten a
action_written (action.BuiltIn member.NextVal) h = h
action_written (action.BuiltIn member.NextKey) h = h
action_written (action.BuiltIn member.NextChar) h = h
action_written _ h = tt

mutual
  pub shaped_written : (e : Exp) → Shaped e → Written e
  shaped_written (Val v) h = tt
  shaped_written (Name x) h = tt
  shaped_written (Do a es) h = (action_written a h.0, all_written es h.1)
  shaped_written (If c a b) h = (shaped_written c h.0, shaped_written a h.1, shaped_written b h.2)
  shaped_written (Switch e cases) h = (shaped_written e h.0, cases_written cases h.1)
  shaped_written (Group fns b) h = (functions_written fns h.0, shaped_written b h.1)
  shaped_written (Frame n e) h = absurd h
  shaped_written (Label e) h = shaped_written e h
  shaped_written (While c b) h = (shaped_written c h.0, shaped_written b h.1)
  shaped_written (Repeat b c) h = (shaped_written b h.0, shaped_written c h.1)
  shaped_written (For p e b) h = (shaped_written e h.0, shaped_written b h.1)
  shaped_written (Try e p b) h = (shaped_written e h.0, shaped_written b h.1)
  shaped_written (Update o e f) h = (shaped_written e h.0, shaped_written f h.1)

  all_written : (es : Exps) → ShapedAll es → WrittenAll es
  all_written NoExp h = tt
  all_written (AnExp e es) h = (shaped_written e h.0, all_written es h.1)

  cases_written : (cases : Cases) → ShapedCases cases → WrittenCases cases
  cases_written NoCase h = tt
  cases_written (ACase p e cases) h = (shaped_written e h.0, cases_written cases h.1)

  functions_written : (fns : Functions) → ShapedFunctions fns → WrittenFunctions fns
  functions_written NoFunction h = tt
  functions_written (AFunction how n ps body fns) h = (shaped_written body h.2, functions_written fns h.3)
