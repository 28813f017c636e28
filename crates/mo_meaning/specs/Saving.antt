-- What an upgrade keeps of the old program: Motoko language manual, section "Stable variables"; base library, system
-- functions `preupgrade` and `postupgrade`. The hook runs first; then each stable variable goes out at its type.
use Rattle.std.specs.Prelude.{ℕ, ◌+◌, List, [], ◌∷◌, length, Option, Some, None}
use Rattle.mo_types.specs.declared.node.TypeId.{TypeId}
use Rattle.mo_types.specs.Calls.{no_calls}
use Rattle.mo_types.specs.Code.{Variable}
use Rattle.mo_types.specs.Values as message
use Rattle.mo_values.specs.Costs.{Cost, sizes, most_levels}
use Rattle.mo_values.specs.Shapes.{Bytes}
use Rattle.mo_actor.specs.Executions.{Progress, Execution, Completion, Completes}
use Rattle.mo_actor.specs.Executions as execution
use Rattle.typed_tree.specs.declared.action.Action.TheVariants as action
use Rattle.typed_tree.specs.Language.{Value, Exp, Val, Do, Frame, unit}
use Rattle.typed_tree.specs.Opening.{shapes_list}
use Rattle.typed_tree.specs.Programs.{Program, StableVariable}
use Rattle.mo_meaning.specs.Acts.{Store}
use Rattle.mo_meaning.specs.Places.{one}
use Rattle.mo_meaning.specs.Cells.{cell_of, held}
use Rattle.mo_meaning.specs.Coding.{Types, Coding, stable_memory}
use Rattle.mo_meaning.specs.Messages.{plain_values}
use Rattle.mo_meaning.specs.Kernel.{Fields, Kept}
use Rattle.mo_meaning.specs.Exports.{before_upgrade, stable_cells}
use Rattle.mo_meaning.specs.Configurations.{Configuration, Returns, Traps, Run, Still, Ended, Surroundings, beginning, weighed}
use Rattle.mo_meaning.specs.Bodies.{progress}
use Rattle.mo_meaning.specs.Turns.{turns}

-- what an execution knows that calls nothing
abbrev pub alone : Coding → Types → Bytes → Surroundings
alone coding types own = record { types = types; coding = coding; own = own; table = no_calls 0 }

-- the hook, if there is one, is called in a body of so many nodes
abbrev pub hook : ℕ → Option Value → Exp
hook nodes None = Frame nodes (Val unit)
hook nodes (Some f) = Frame nodes (Do action.Call (one (Val f)))

-- the body that saves: a node for each stable variable, whose value it takes
abbrev pub saving_from : Program → Fields → Configuration
saving_from p fields = beginning (length p.stable) fields.cells (hook (length p.stable) (before_upgrade fields.exports))

-- ---- the stable variables with their values

abbrev pub and_variable : StableVariable → Option message.Values → Option (List (Variable TypeId)) → Option (List (Variable TypeId))
and_variable v None rest = None
and_variable v (Some values) None = None
and_variable v (Some values) (Some rest) = Some (record { name = v.name; type = v.of_type; value = values } ∷ rest)

-- none where a cell is missing, or holds no value of its type
abbrev pub variables_of : Types → List StableVariable → List Value → Option (List (Variable TypeId))
variables_of types [] vs = Some []
variables_of types (v ∷ stable) [] = None
variables_of types (v ∷ stable) (w ∷ vs) = and_variable v (plain_values types (v.of_type ∷ []) (w ∷ [])) (variables_of types stable vs)

abbrev pub and_held : Option Value → List Value → List Value
and_held None vs = vs
and_held (Some v) vs = v ∷ vs

-- what cells hold
abbrev pub held_in : Store → List Value → List Value
held_in store [] = []
held_in store (c ∷ cells) = and_held (held store (cell_of c)) (held_in store cells)

-- the values whole, and the bytes of stable memory
abbrev pub saving_cost : List Value → Bytes → Cost
saving_cost vs memory = record { weight = sizes (shapes_list vs) + length memory; levels = most_levels (shapes_list vs) }

module _ (coding : Coding) (types : Types) (p : Program) where
  abbrev pub saved_progress : List Value → Configuration → Option (List (Variable TypeId)) → Progress Kept
  saved_progress vs c None = progress c None
  saved_progress vs c (Some variables) =
      progress (weighed (saving_cost vs (stable_memory (coding.save types variables))) c) (Some (Completes (record { types = types; variables = variables })))

  abbrev pub saved : List Value → Configuration → Progress Kept
  saved vs c = saved_progress vs c (variables_of types p.stable vs)

  abbrev pub kept_progress : Value → Run → Progress Kept
  kept_progress exports (Still c) = progress c None
  kept_progress exports (Ended c (Returns v)) = saved (held_in c.store (stable_cells exports)) c
  kept_progress exports (Ended c (Traps text)) = progress c (Some (execution.Traps text))
  kept_progress exports (Ended c end) = progress c None

  -- the hook before an upgrade, and then what is kept
  abbrev pub save : Bytes → Fields → Execution Kept
  save own fields n = kept_progress fields.exports (turns (alone coding types own) n (saving_from p fields))
