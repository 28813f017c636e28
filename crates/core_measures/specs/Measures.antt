-- The measures of an expression from those of its parts.
use Rattle.std.specs.Prelude.{ℕ, suc, ◌+◌, ◌||◌, max, true, false, cond}
use Rattle.core_ir.specs.Awaits.{awaits, awaits_all, awaits_goal}
use Rattle.core_ir.specs.Expressions.{Exp, Exps, Goal}
use Rattle.core_ir.specs.FormedExpressions as measure
use Rattle.core_measures.specs.declared.measures.Measures.{Measures}

module _ (sizes : ℕ → ℕ) where
  abbrev pub measures : Exp → Measures
  measures e = record { nest = measure.nest e; width = measure.width sizes e; arguments = measure.arguments e; depth = measure.depth e; points = measure.points e; awaits = awaits e }

  abbrev pub measures_all : Exps → Measures
  measures_all es = record { nest = measure.nest_all es; width = measure.width_all sizes es; arguments = measure.arguments_all es; depth = measure.depth_all es; points = measure.points_all es; awaits = awaits_all es }

  abbrev pub measures_goal : Goal → Measures
  measures_goal g = record { nest = measure.nest_goal g; width = measure.width_goal sizes g; arguments = measure.arguments_goal g; depth = measure.depth_goal g; points = measure.points_goal g; awaits = awaits_goal g }

-- constants and names, and no arguments
abbrev pub nothing : Measures
nothing = record { nest = 0; width = 0; arguments = 0; depth = 0; points = 0; awaits = false }

-- an action that gives a value
abbrev pub one_value : Measures
one_value = record nothing { width = 1 }

abbrev pub one_await : Measures
one_await = record one_value { nest = 1; points = 1; awaits = true }

-- an argument before others
abbrev pub before : Measures → Measures → Measures
before m n = record {
  nest = max m.nest n.nest;
  width = suc (max m.width n.width);
  arguments = max m.arguments n.arguments;
  depth = max m.depth n.depth;
  points = m.points + n.points;
  awaits = m.awaits || n.awaits;
}

-- a goal with so many arguments
abbrev pub done : Measures → Measures → ℕ → Measures
done g m n = record {
  nest = max g.nest m.nest;
  width = max m.width (n + g.width);
  arguments = max n (max g.arguments m.arguments);
  depth = max g.depth m.depth;
  points = g.points + m.points;
  awaits = g.awaits || m.awaits;
}

abbrev pub looped : Measures → Measures
looped m = record m { depth = suc m.depth; points = cond m.awaits 1 0 + m.points }

abbrev pub labelled : Measures → Measures
labelled m = record m { nest = suc m.nest; depth = suc m.depth; points = cond m.awaits 1 0 + m.points }

abbrev pub tried : Measures → Measures → Measures
tried m n = record {
  nest = max m.nest (suc n.nest);
  width = suc (max m.width n.width);
  arguments = max m.arguments n.arguments;
  depth = suc (max (suc m.depth) n.depth);
  points = cond (m.awaits || n.awaits) 2 0 + (m.points + n.points);
  awaits = m.awaits || n.awaits;
}

abbrev pub chosen : Measures → Measures → Measures
chosen m n = record {
  nest = suc (max m.nest n.nest);
  width = max m.width n.width;
  arguments = max m.arguments n.arguments;
  depth = suc (max m.depth n.depth);
  points = cond (m.awaits || n.awaits) 1 0 + (m.points + n.points);
  awaits = m.awaits || n.awaits;
}

-- what is inside has a name
abbrev pub matched : Measures → Measures → Measures
matched m n = record (chosen m n) { width = suc (max m.width n.width) }

-- under so many names more
abbrev pub widened : ℕ → Measures → Measures
widened n m = record m { width = n + m.width }
