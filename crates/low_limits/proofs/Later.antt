-- The host's world only goes on: what was printed stays, whatever code does.
use Rattle.std.proofs.Common.{ℕ, zero, suc, ◌+◌, ◌-◌, ◌*◌, ◌^◌, List, [], ◌∷◌, ◌++◌, length, take, drop, reverse, replicate, nat_eq, Bool, true, false, ◌&&◌, cond, nat_lt, nat_le, Option, Some, None, slice_get, Result, Ok, Err}
use Rattle.std.specs.Prelude.{⊤}
use Rattle.wasm_tree.specs.declared.trap.Trap.{Trap}
use Rattle.wasm_tree.specs.declared.trap.Trap.TheVariants as trap
use Rattle.wasm_tree.specs.declared.types.ValueType.TheVariants.{I32, I64}
use Rattle.wasm_tree.specs.declared.types.FunctionType.{FunctionType}
use Rattle.wasm_tree.specs.declared.op.LoadKind.{LoadKind}
use Rattle.wasm_tree.specs.declared.op.StoreKind.{StoreKind}
use Rattle.wasm_tree.specs.Numeric.{low, binary}
use Rattle.wasm_tree.specs.Exec.{Store, State, HostAnswer, Answers, Refuses, pages_of, load_size, extended, number_of, store_size, bytes_of, with_memory, with_refusal, if_zero, same_type, entry}
use Rattle.ic0_world.specs.declared.world.World.{World}
use Rattle.ic0_world.specs.Names.{functions}
use Rattle.module_laws.specs.Prints.{IsLater, AnswerIsLater}
use Rattle.module_laws.proofs.HostPrints.{now, later, calls_are_later}
use Rattle.low_ir.specs.declared.op.Operand.{Operand}
use Rattle.low_ir.specs.declared.op.Operand.TheVariants.{Local, Word, Long}
use Rattle.low_ir.specs.declared.op.Operation.{Operation}
use Rattle.low_ir.specs.declared.op.Operation.TheVariants.{Copy, IsZero, Compare, Unary, Binary, Convert, Load, Global, Size}
use Rattle.low_ir.specs.Tree.{Code, Stop, Return, Branch, Set, SetGlobal, Grow, GrowStable, Block, Loop, If, BranchIf, Call, CallIndirect, Function, Module}
use Rattle.low_ir.specs.Tree as code
use Rattle.low_ir.specs.Numbering.{all_types, type_of, defined, stable_grow, host_trap}
use Rattle.low_ir.specs.Meaning.{Outcome, Ends, Jumps, Gives, Breaks, Astray, Called, Gave, Fell, Lost, Calls, tick_of, tick, onward, again, turns, operand, operands, or_traps, loaded, stored, computed, grown, on_return, result_to, unless_refused, chosen, run}
use Rattle.low_ir.specs.Frames.{words, finish, host_gives, enter_as, enter}
use Rattle.low_execution.specs.Host.{low_host}

-- The state with so many steps left.
abbrev pub at : ℕ → State World → State World
at left s = record { left = left; store = s.store; locals = s.locals }

abbrev pub EndsLater : World → Outcome World → Type 0
EndsLater w (Ends s) = IsLater w s.store.world
EndsLater w (Jumps label s) = IsLater w s.store.world
EndsLater w (Gives s value) = IsLater w s.store.world
EndsLater w (Breaks cause store) = IsLater w store.world
EndsLater w Astray = ⊤

abbrev pub CallIsLater : World → Called World → Type 0
CallIsLater w (Gave left store value) = IsLater w store.world
CallIsLater w (Fell cause store) = IsLater w store.world
CallIsLater w Lost = ⊤

abbrev pub CallsAreLater : Calls World → Type 0
CallsAreLater calls = (f left : ℕ) (store : Store World) (args : List ℕ) → CallIsLater store.world (calls f left store args)

-- What follows goes on from each later world.
abbrev pub GoesOn : (State World → Outcome World) → Type 0
GoesOn g = (w : World) (s : State World) → IsLater w s.store.world → EndsLater w (g s)

pub tick_of_later : (n : ℕ) (w : World) (s : State World) (g : State World → Outcome World) → IsLater w s.store.world → ((left : ℕ) → EndsLater w (g (at left s))) → EndsLater w (tick_of n s g)
tick_of_later zero w s g p h = p
tick_of_later (suc n) w s g p h = h n

pub tick_later : (w : World) (s : State World) (g : State World → Outcome World) → IsLater w s.store.world → ((left : ℕ) → EndsLater w (g (at left s))) → EndsLater w (tick s g)
tick_later w s g p h = tick_of_later s.left w s g p h

pub operand_later : (w : World) (a : Operand) (s : State World) (g : State World → ℕ → Outcome World) → IsLater w s.store.world → ((left v : ℕ) → EndsLater w (g (at left s) v)) → EndsLater w (operand a s g)
operand_later w (Local x) s g p h = tick_later w s _ p (λ left. h left _)
operand_later w (Word z) s g p h = tick_later w s _ p (λ left. h left _)
operand_later w (Long z) s g p h = tick_later w s _ p (λ left. h left _)

pub operands_later : (w : World) (args : List Operand) (s : State World) (before : List ℕ) (g : State World → List ℕ → Outcome World) → IsLater w s.store.world → ((left : ℕ) (vs : List ℕ) → EndsLater w (g (at left s) vs)) → EndsLater w (operands args s before g)
operands_later w [] s before g p h = h s.left before
operands_later w (a ∷ args) s before g p h = operand_later w a s _ p (λ left v. operands_later w args (at left s) (v ∷ before) g p h)

pub traps_later : (w : World) (r : Result ℕ Trap) (s : State World) (g : ℕ → Outcome World) → IsLater w s.store.world → ((v : ℕ) → EndsLater w (g v)) → EndsLater w (or_traps s r g)
traps_later w (Ok v) s g p h = h v
traps_later w (Err cause) s g p h = p

pub either_later : (w : World) (t : Bool) (a b : Outcome World) → EndsLater w a → EndsLater w b → EndsLater w (cond t a b)
either_later w true a b p q = p
either_later w false a b p q = q

pub loaded_later : (w : World) (s : State World) (kind : LoadKind) (address : ℕ) (g : ℕ → Outcome World) → IsLater w s.store.world → ((v : ℕ) → EndsLater w (g v)) → EndsLater w (loaded s kind address g)
loaded_later w s kind address g p h = either_later w (nat_le (address + load_size kind) (length s.store.memory)) (g (extended kind (number_of (take (load_size kind) (drop address s.store.memory))))) (Breaks trap.Bounds s.store) (h _) p

pub stored_later : (w : World) (s : State World) (kind : StoreKind) (address value : ℕ) (g : State World → Outcome World) → IsLater w s.store.world → ((s : State World) → IsLater w s.store.world → EndsLater w (g s)) → EndsLater w (stored s kind address value g)
stored_later w s kind address value g p h =
    let after : State World = with_memory s (take address s.store.memory ++ bytes_of (store_size kind) value ++ drop (address + store_size kind) s.store.memory) in
    either_later w (nat_le (address + store_size kind) (length s.store.memory)) (g after) (Breaks trap.Bounds s.store) (h after p) p

pub zero_later : (w : World) (v : ℕ) (a b : Outcome World) → EndsLater w a → EndsLater w b → EndsLater w (if_zero v a b)
zero_later w v a b p q = either_later w (nat_eq (low I32 v) 0) a b p q

pub computed_later : (w : World) (o : Operation) (s : State World) (g : State World → ℕ → Outcome World) → IsLater w s.store.world → ((left v : ℕ) → EndsLater w (g (at left s) v)) → EndsLater w (computed o s g)
computed_later w (Copy a) s g p h = operand_later w a s g p h
computed_later w (IsZero kind a) s g p h = operand_later w a s _ p (λ left v. tick_later w (at left s) _ p (λ left. h left _))
computed_later w (Compare kind o a b) s g p h = operand_later w a s _ p (λ left v. operand_later w b (at left s) _ p (λ left v. tick_later w (at left s) _ p (λ left. h left _)))
computed_later w (Unary kind o a) s g p h = operand_later w a s _ p (λ left v. tick_later w (at left s) _ p (λ left. h left _))
computed_later w (Binary kind o a b) s g p h =
    operand_later w a s _ p (λ left u. operand_later w b (at left s) _ p (λ left v. tick_later w (at left s) _ p (λ left. traps_later w (binary kind o u v) (at left s) (g (at left s)) p (h left))))
computed_later w (Convert o a) s g p h = operand_later w a s _ p (λ left v. tick_later w (at left s) _ p (λ left. h left _))
computed_later w (Load kind a offset) s g p h = operand_later w a s _ p (λ left v. tick_later w (at left s) _ p (λ left. loaded_later w (at left s) kind _ (g (at left s)) p (h left)))
computed_later w (Global x) s g p h = tick_later w s _ p (λ left. h left _)
computed_later w Size s g p h = tick_later w s _ p (λ left. h left _)

pub onward_later : (w : World) (o : Outcome World) (g : State World → Outcome World) → EndsLater w o → ((s : State World) → IsLater w s.store.world → EndsLater w (g s)) → EndsLater w (onward o g)
onward_later w (Ends s) g p h = h s p
onward_later w (Jumps zero s) g p h = h s p
onward_later w (Jumps (suc label) s) g p h = p
onward_later w (Gives s value) g p h = p
onward_later w (Breaks cause store) g p h = p
onward_later w Astray g p h = tt

pub again_later : (w : World) (o : Outcome World) (g : State World → Outcome World) → EndsLater w o → ((s : State World) → IsLater w s.store.world → EndsLater w (g s)) → EndsLater w (again o g)
again_later w (Ends s) g p h = p
again_later w (Jumps zero s) g p h = h s p
again_later w (Jumps (suc label) s) g p h = p
again_later w (Gives s value) g p h = p
again_later w (Breaks cause store) g p h = p
again_later w Astray g p h = tt

pub turns_later : (w : World) (n : ℕ) (body : State World → Outcome World) → ((s : State World) → IsLater w s.store.world → EndsLater w (body s)) → (s : State World) → IsLater w s.store.world → EndsLater w (turns n body s)
turns_later w zero body h s p = p
turns_later w (suc n) body h s p = tick_later w s _ p (λ left. again_later w (body (at left s)) (turns n body) (h (at left s) p) (turns_later w n body h))

pub return_later : (w : World) (locals : List ℕ) (o : Called World) (g : State World → Option ℕ → Outcome World) → CallIsLater w o → ((s : State World) (value : Option ℕ) → IsLater w s.store.world → EndsLater w (g s value)) → EndsLater w (on_return locals o g)
return_later w locals (Gave left store value) g p h = h (record { left = left; store = store; locals = locals }) value p
return_later w locals (Fell cause store) g p h = p
return_later w locals Lost g p h = tt

pub result_later : (w : World) (result : Option ℕ) (s : State World) (value : Option ℕ) (g : State World → Outcome World) → IsLater w s.store.world → ((s : State World) → IsLater w s.store.world → EndsLater w (g s)) → EndsLater w (result_to result s value g)
result_later w None s None g p h = h s p
result_later w None s (Some v) g p h = tt
result_later w (Some x) s None g p h = tick_later w s _ p (λ left. tt)
result_later w (Some x) s (Some v) g p h = tick_later w s _ p (λ left. h _ p)

pub refused_later : (w : World) (s : State World) (value : Option ℕ) (g : State World → Outcome World) → IsLater w s.store.world → ((s : State World) → IsLater w s.store.world → EndsLater w (g s)) → EndsLater w (unless_refused s value g)
refused_later w s None g p h = tick_later w s _ p (λ left. tick_later w (at left s) _ p (λ left. tt))
refused_later w s (Some v) g p h =
    tick_later w s _ p (λ left. tick_later w (at left s) _ p (λ left. tick_later w (at left s) _ p (λ left.
    either_later w (nat_eq (low I64 v) (2 ^ 64 - 1)) (tick (at left s) (λ s. Breaks trap.Unreachable s.store)) (g (at left s)) (tick_later w (at left s) _ p (λ left. p)) (h _ p))))

-- Of a call that begins later.
pub from_later : (w : World) (o : Called World) (v : World) → IsLater w v → CallIsLater v o → CallIsLater w o
from_later w (Gave left store value) v p q = later w v store.world p q
from_later w (Fell cause store) v p q = later w v store.world p q
from_later w Lost v p q = tt

pub grown_later : (w : World) (pages : ℕ) (s : State World) (by : ℕ) (g : State World → Outcome World) → IsLater w s.store.world → ((s : State World) → IsLater w s.store.world → EndsLater w (g s)) → EndsLater w (grown pages s by g)
grown_later w pages s by g p h =
    let larger : State World = with_memory s (s.store.memory ++ replicate (65536 * by) 0) in
    let refused : State World = with_refusal s in
    either_later w (nat_le (pages_of s.store.memory + by) pages && nat_le (pages_of s.store.memory + by) 65536) _ _
    (tick_later w larger _ p (λ left. tick_later w (at left larger) _ p (λ left. tick_later w (at left larger) _ p (λ left. h _ p))))
    (tick_later w refused _ p (λ left. tick_later w (at left refused) _ p (λ left. tick_later w (at left refused) _ p (λ left. tick_later w (at left refused) _ p (λ left. p)))))

pub chosen_later : (m : Module) (w : World) (x : ℕ) (found : Option ℕ) (s : State World) (g : ℕ → Outcome World) → IsLater w s.store.world → ((f : ℕ) → EndsLater w (g f)) → EndsLater w (chosen m x found s g)
chosen_later m w x None s g p h = p
chosen_later m w x (Some f) s g p h = either_later w (same_type (type_of m f) (slice_get (all_types m) x)) (g f) (Breaks trap.Indirect s.store) (h f) p

module _ (m : Module) (pages : ℕ) (calls : Calls World) (goes : CallsAreLater calls) where
  call_later : (w : World) (f : ℕ) (s : State World) (args : List ℕ) (g : State World → Option ℕ → Outcome World) → IsLater w s.store.world → ((s : State World) (value : Option ℕ) → IsLater w s.store.world → EndsLater w (g s value)) → EndsLater w (on_return s.locals (calls f s.left s.store args) g)
  call_later w f s args g p h = return_later w s.locals _ g (from_later w (calls f s.left s.store args) s.store.world p (goes f s.left s.store args)) h

  pub run_later : (c : Code) → GoesOn (run pages m calls c)
  run_later Stop w s p = p
  run_later (Return None) w s p = tick_later w s _ p (λ left. p)
  run_later (Return (Some a)) w s p = operand_later w a s _ p (λ left v. tick_later w (at left s) _ p (λ left. p))
  run_later (Branch label) w s p = tick_later w s _ p (λ left. p)
  run_later (code.Trap a b) w s p =
      operand_later w a s _ p (λ left u. operand_later w b (at left s) _ p (λ left v. tick_later w (at left s) _ p (λ left.
      call_later w host_trap (at left s) (u ∷ v ∷ []) (λ s v. tick s (λ s. Breaks trap.Unreachable s.store)) p (λ s value p. tick_later w s _ p (λ left. p)))))
  run_later (Set x o rest) w s p = computed_later w o s _ p (λ left v. tick_later w (at left s) _ p (λ left. run_later rest w _ p))
  run_later (SetGlobal x a rest) w s p = operand_later w a s _ p (λ left v. tick_later w (at left s) _ p (λ left. run_later rest w _ p))
  run_later (code.Store kind a offset b rest) w s p =
      operand_later w a s _ p (λ left u. operand_later w b (at left s) _ p (λ left v. tick_later w (at left s) _ p (λ left. stored_later w (at left s) kind (low I32 u + offset) v (run pages m calls rest) p (run_later rest w))))
  run_later (Grow a rest) w s p = operand_later w a s _ p (λ left v. tick_later w (at left s) _ p (λ left. grown_later w pages (at left s) (low I32 v) (run pages m calls rest) p (run_later rest w)))
  run_later (GrowStable a rest) w s p =
      operand_later w a s _ p (λ left v. tick_later w (at left s) _ p (λ left.
      call_later w stable_grow (at left s) (v ∷ []) (λ s v. unless_refused s v (run pages m calls rest)) p (λ s value p. refused_later w s value (run pages m calls rest) p (run_later rest w))))
  run_later (Block body rest) w s p = tick_later w s _ p (λ left. onward_later w _ _ (run_later body w _ p) (run_later rest w))
  run_later (Loop body rest) w s p = onward_later w _ _ (turns_later w (suc s.left) (run pages m calls body) (run_later body w) s p) (run_later rest w)
  run_later (If a first second rest) w s p =
      operand_later w a s _ p (λ left v. tick_later w (at left s) _ p (λ left. onward_later w _ _ (zero_later w v _ _ (run_later second w (at left s) p) (run_later first w (at left s) p)) (run_later rest w)))
  run_later (BranchIf a label rest) w s p = operand_later w a s _ p (λ left v. tick_later w (at left s) _ p (λ left. zero_later w v _ (Jumps label (at left s)) (run_later rest w (at left s) p) p))
  run_later (Call result f args rest) w s p =
      operands_later w args s [] _ p (λ left vs. tick_later w (at left s) _ p (λ left.
      call_later w f (at left s) (reverse vs) (λ s v. result_to result s v (run pages m calls rest)) p (λ s value p. result_later w result s value (run pages m calls rest) p (run_later rest w))))
  run_later (CallIndirect result x args a rest) w s p =
      operands_later w args s [] _ p (λ left vs. operand_later w a (at left s) _ p (λ left v. tick_later w (at left s) _ p (λ left.
      chosen_later m w x (entry (slice_get s.store.table (low I32 v))) (at left s) _ p (λ f.
      call_later w f (at left s) (reverse vs) (λ s v. result_to result s v (run pages m calls rest)) p (λ s value p. result_later w result s value (run pages m calls rest) p (run_later rest w))))))

-- Calls of functions.

host_later : (w : World) (left : ℕ) (store : Store World) (a : HostAnswer World) → AnswerIsLater w a → CallIsLater w (host_gives left store a)
host_later w left store (Answers value memory world) p = p
host_later w left store (Refuses world) p = p

pub finish_later : (w : World) (t : FunctionType) (o : Outcome World) → EndsLater w o → CallIsLater w (finish t o)
finish_later w t (Ends s) p = p
finish_later w t (Jumps zero s) p = p
finish_later w t (Jumps (suc label) s) p = tt
finish_later w t (Gives s value) p = p
finish_later w t (Breaks cause store) p = p
finish_later w t Astray p = tt

room_later : (w : World) (b : Bool) (store : Store World) (o : Called World) → IsLater w store.world → CallIsLater w o → CallIsLater w (cond b (Fell trap.Stack store) o)
room_later w true store o p q = p
room_later w false store o p q = q

pub enter_as_later : (m : Module) (pages room f left : ℕ) (store : Store World) (args : List ℕ) (inner : ℕ → Calls World) → ((room : ℕ) → CallsAreLater (inner room)) → (found : Option FunctionType) (there : Option Function) → CallIsLater store.world (enter_as pages m low_host room inner found there f left store args)
enter_as_later m pages room f left store args inner h None there = tt
enter_as_later m pages room f left store args inner h (Some t) None = host_later store.world left store _ (calls_are_later (slice_get functions f) args store.memory store.world)
enter_as_later m pages room f left store args inner h (Some t) (Some fn) =
    room_later store.world (nat_lt room (words t fn)) store _ (now store.world) (finish_later store.world t _ (run_later m pages (inner (room - words t fn)) (h (room - words t fn)) fn.body store.world _ (now store.world)))

pub enter_later : (m : Module) (deep pages room : ℕ) → CallsAreLater (enter deep pages m low_host room)
enter_later m zero pages room f left store args = now store.world
enter_later m (suc deep) pages room f left store args =
    enter_as_later m pages room f left store args (λ room. enter deep pages m low_host room) (λ room. enter_later m deep pages room) (type_of m f) (defined m f)
