use Rattle.std.proofs.Common.{◌≡◌, drop, map}
use Rattle.core_ir.specs.View.{binding, block, exps, expression}
use Rattle.core_ir.specs.Expressions.{Exp}
use Rattle.core_laws.specs.Split.{awaits, awaits_all}
use Rattle.suspend_split.proofs.awaits.+awaits.Given as goal

abbrev pub invariant-any_awaits-loop-argument : goal.invariant-any_awaits-loop-argument
invariant-any_awaits-loop-argument l = awaits_all (exps (map expression (drop l.argument-index l.arguments))) ≡ awaits_all (exps (map expression l.arguments))

abbrev pub invariant-any_binding_awaits-loop-binding : goal.invariant-any_binding_awaits-loop-binding
invariant-any_binding_awaits-loop-binding l = (e : Exp) → awaits (block (map binding (drop l.binding-index l.bindings)) e) ≡ awaits (block (map binding l.bindings) e)
