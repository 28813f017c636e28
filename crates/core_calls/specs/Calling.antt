-- Calls of built-in functions, which are done at once, and other calls.
use Rattle.std.specs.Prelude.{◌≡◌, ℕ, Option, Some, None, map}
use Rattle.core_ir.specs.Expressions as core
use Rattle.typed_tree.specs.declared.action.Action.TheVariants as action
use Rattle.typed_tree.specs.declared.action.Member.{Member}
use Rattle.typed_tree.specs.Language.{Exp, Exps, Do, AnExp}
use Rattle.typed_tree.specs.View.{exps, expression}
use Rattle.elaboration.specs.Elaboration.{ManyElaborated, elaborate, elaborate_operands}
use Rattle.elaboration.specs.Members.{Elaborated}
use Rattle.elaboration.specs.Scopes.{Scope}
use Rattle.core_calls.specs.declared.callee.Held.{Held}

-- a built-in function, and what it holds
pub record Holding : Type 0 where
  pub member : Member
  pub holds : Exps

abbrev pub held_in : Exp → Option Holding
held_in (Do (action.BuiltIn m) es) = Some (record { member = m; holds = es })
held_in _ = None

abbrev pub seen_held : Option Held → Option Holding
seen_held None = None
seen_held (Some h) = Some (record { member = h.member; holds = exps (map expression h.holds.now) })

abbrev pub called_at_once : Member → Exps → Exps → Exps
called_at_once m es args = AnExp (Do (action.BuiltIn m) es) args

-- a goal on the values of operands
abbrev pub plain : core.Goal → ManyElaborated → Elaborated
plain g d = record { exp = core.Do g d.exps; groups = d.groups }

-- the call is made by its values
abbrev pub IsPlainCall : Exps → Type 0
IsPlainCall es = (s : Scope) (n : ℕ) → elaborate s n (Do action.Call es) ≡ plain core.Call (elaborate_operands s n es)
