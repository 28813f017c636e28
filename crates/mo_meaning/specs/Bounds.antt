-- What a completed execution leaves is within the limits of an actor: IC interface specification, section "Inter-canister
-- calls". At most 500 calls are open, and no message is longer than 2,097,152 bytes.
use Rattle.std.specs.Prelude.{◌≡◌, ℕ, ◌+◌, ◌<◌, ◌≤◌, List, length, Some, None, codes}
use Rattle.mo_types.specs.declared.node.TypeId.{TypeId}
use Rattle.mo_types.specs.Calls.{CallTable, open_count}
use Rattle.mo_types.specs.Sub.{Each}
use Rattle.mo_values.specs.Shapes.{Bytes}
use Rattle.mo_actor.specs.Executions.{Completes}
use Rattle.mo_actor.specs.Programs.{Answer, Replies, Rejects, Effects, Ending, Answers, Awaits, AwaitsNothing, Unchanged}
use Rattle.mo_actor.specs.Programs as actor
use Rattle.mo_meaning.specs.Acts.{Given}
use Rattle.mo_meaning.specs.Kernel.{kernel, Outgoing, Fields, Body}
use Rattle.mo_meaning.specs.Configurations.{Configuration, Run, Traps, Ended}
use Rattle.mo_meaning.specs.Turns.{if_short}

abbrev pub IsShort : Bytes → Type 0
IsShort bytes = length bytes ≤ 2097152

-- of a call of the program's own; a call of `__resume` has the message of no values
abbrev pub IsShortCall : Outgoing → Type 0
IsShortCall call = call.resumes ≡ None → IsShort call.argument

abbrev pub IsShortAnswer : Answer → Type 0
IsShortAnswer (Replies bytes) = IsShort bytes
IsShortAnswer (Rejects code text) = IsShort text

abbrev pub IsShortEnding : Ending kernel → Type 0
IsShortEnding (Answers answer) = IsShortAnswer answer
IsShortEnding (Awaits number waiting) = Unit {0}
IsShortEnding AwaitsNothing = Unit {0}
IsShortEnding Unchanged = Unit {0}

pub record KeepsBounds (table : CallTable (List TypeId) Given) (effects : Effects kernel) : Type 0 where
  pub few : open_count table + length effects.calls ≤ 500
  pub calls : Each IsShortCall effects.calls
  pub ending : IsShortEnding effects.ending

-- each execution of the program for an incoming call, where at most 500 calls were open before it
abbrev pub AllKeepBounds : actor.Program kernel → Type 0
AllKeepBounds p =
    (own : Bytes) (table : CallTable (List TypeId) Given) (fields : Fields) (body : Body) (n : ℕ) (effects : Effects kernel)
    → open_count table ≤ 500 → (p.run own table fields body n).completion ≡ Some (Completes effects) → KeepsBounds table effects

-- where a message goes out, or its execution traps, the test is exact
abbrev pub LongMessagesTrap : Type 0
LongMessagesTrap =
    (bytes : Bytes) (c : Configuration) (r : Run)
    → (length bytes ≤ 2097152 → if_short bytes c r ≡ r) × (2097152 < length bytes → if_short bytes c r ≡ Ended c (Traps (codes "message too long")))
