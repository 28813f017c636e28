-- What it means that the machine goes by the language's reductions: a move changes nothing of the expression that its state
-- stands for, and a reduction of the machine is the reduction of that expression.
use Rattle.std.specs.Prelude.{◌≡◌, Option}
use Rattle.mo_types.specs.declared.node.Node.{Node}
use Rattle.mo_types.specs.declared.node.TypeId.{TypeId}
use Rattle.typed_tree.specs.Language.{Exp, Val}
use Rattle.mo_meaning.specs.Acts.{Given}
use Rattle.mo_meaning.specs.Acts as meaning
use Rattle.mo_meaning.specs.Reduce.{reduce}
use Rattle.mo_machine.specs.Acts.{Store, Request, Act, Goes, Prints, Asks, Awaits, Leaves, Throws, Traps, Stuck}
use Rattle.mo_machine.specs.Frames.{Stack, Focus}
use Rattle.mo_machine.specs.Moves.{Move, Moved, Ends, Reduces}
use Rattle.mo_machine.specs.Reductions.{reduces}
use Rattle.mo_machine.specs.Unload.{unload, unload_list, unload_state}

abbrev pub unload_request : Request → meaning.Request
unload_request r = record { callee = r.callee; method = r.method; parameters = r.parameters; results = r.results; arguments = unload_list r.arguments }

-- the reduction of the language that one of the machine stands for
abbrev pub unload_act : Act → meaning.Act
unload_act (Goes cost store f k) = meaning.Goes cost (unload_list store) (unload_state f k)
unload_act (Prints cost text f k) = meaning.Prints cost text (unload_state f k)
unload_act (Asks request) = meaning.Asks (unload_request request)
unload_act (Awaits nodes call) = meaning.Awaits nodes call
unload_act (Leaves labels v) = meaning.Leaves labels (unload v)
unload_act (Throws cost error) = meaning.Throws cost (unload error)
unload_act (Traps cost text) = meaning.Traps cost text
unload_act Stuck = meaning.Stuck

-- not a value, so that it has a reduction or is stuck
abbrev pub IsNoValue : Exp → Type 0
IsNoValue (Val v) = ⊥
IsNoValue _ = Unit {0}

module _ (head : TypeId → Node TypeId) (given : Option Given) (store : Store) where
  abbrev pub Agrees : Move → Focus → Stack → Type 0
  Agrees (Moved f k) at around = unload_state f k ≡ unload_state at around
  Agrees (Ends v) at around = unload_state at around ≡ Val (unload v)
  Agrees Reduces at around =
      IsNoValue (unload_state at around) × (reduce head given (unload_list store) (unload_state at around) ≡ unload_act (reduces head given store at around))
