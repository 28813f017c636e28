-- An `await` in a body itself; those of its functions stand in bodies of their own.
use Rattle.std.specs.Prelude.{◌||◌, Bool, true, false}
use Rattle.core_ir.specs.Expressions.{Exp, Do, Functions, Loop, Label, Try, Exps, NoExp, AnExp, Goal, Choose, Match, Bind, Await}

abbrev mutual
  pub awaits : Exp → Bool
  awaits (Do goal es) = awaits_goal goal || awaits_all es
  awaits (Functions k b) = awaits b
  awaits (Loop b) = awaits b
  awaits (Label b) = awaits b
  awaits (Try a b) = awaits a || awaits b
  awaits e = false

  pub awaits_all : Exps → Bool
  awaits_all NoExp = false
  awaits_all (AnExp e es) = awaits e || awaits_all es

  pub awaits_goal : Goal → Bool
  awaits_goal (Choose p a b) = awaits a || awaits b
  awaits_goal (Match k a b) = awaits a || awaits b
  awaits_goal (Bind b) = awaits b
  awaits_goal Await = true
  awaits_goal g = false
