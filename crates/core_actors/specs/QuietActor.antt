-- An actor without methods, and the states in which it may be.
use Rattle.std.specs.Prelude.{Bool, true, false, List, [], ◌∷◌}
use Rattle.play_script.specs.declared.event.Event.{Event}
use Rattle.mo_types.specs.declared.node.Node.TheVariants as node
use Rattle.mo_values.specs.declared.operation.Operation.TheVariants as op
use Rattle.mo_actor.specs.Passes.{CommittedState}
use Rattle.core_ir.specs.Values.{Value}
use Rattle.core_ir.specs.Expressions.{Core}
use Rattle.core_ir.specs.CoreMachine.{Waiting}
use Rattle.core_ir.specs.Actor.{core_language}
use Rattle.core_ir.specs.Writing.{body, operation}

-- its start and its save give no values
abbrev pub quiet : Core
quiet = record {
  head = λ t. node.Any;
  groups = [];
  methods = [];
  stable = [];
  save = body 0 2 (operation op.MakeTuple []);
  start = body 1 2 (operation op.MakeTuple []);
}

abbrev pub is_none : {A : Type 0} → List A → Bool
is_none [] = true
is_none (x ∷ xs) = false

abbrev pub any_event : Event → Bool
any_event e = true

-- it makes no calls
abbrev pub quiet_state : CommittedState (core_language Waiting (List Value)) → Bool
quiet_state s = is_none s.calls

abbrev pub quiet_kept : List Value → Bool
quiet_kept vs = is_none vs
