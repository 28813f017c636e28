-- The depth of calls is never what stops an execution, and no call gives steps back.
use Rattle.std.proofs.Common.{◌≡◌, ℕ, zero, suc, ◌-◌, ◌<◌, ◌≤◌, Bool, true, false, List, [], ◌++◌, length, Option, Some, None, refl, ap, arith, cond}
use Rattle.std.specs.Prelude.{nat_lt, replicate}
use Rattle.std.proofs.lemmas.Bool.{ltb-false}
use Rattle.wasm_tree.specs.declared.trap.Trap.{Trap}
use Rattle.wasm_tree.specs.declared.trap.Trap.TheVariants as trap
use Rattle.wasm_tree.specs.declared.types.FunctionType.{FunctionType}
use Rattle.wasm_tree.specs.declared.module_parts.Function.{Function}
use Rattle.wasm_tree.specs.declared.module_parts.Module.{Module}
use Rattle.wasm_tree.specs.Tree.{tree_of}
use Rattle.wasm_tree.specs.Valid.{grouped}
use Rattle.wasm_tree.specs.Exec.{ExecutionLimits, Store, HostAnswer, Answers, Refuses, Host, Outcome, Falls, Branches, Returns, Traps, Stuck, Called, Fell, Calls, type_of, exec}
use Rattle.wasm_tree.specs.Frames.{defined, frame_words, arguments, return_to, host_returns, enter_as, enter}
use Rattle.wasm_steps.specs.Follow.{CalledWithin, Frugal}
use Rattle.wasm_steps.specs.Calls.{invoke}
use Rattle.wasm_steps.proofs.Loops.{Within, within}

return_within : {World : Type 0} → (most : ℕ) (t : FunctionType) (operands : List ℕ) (o : Outcome World) → Within most o → CalledWithin most (return_to t operands o)
return_within most t operands (Falls s vs) w = w
return_within most t operands (Branches zero s vs) w = w
return_within most t operands (Branches (suc l) s vs) w = tt
return_within most t operands (Returns s vs) w = w
return_within most t operands (Traps cause store) w = tt
return_within most t operands Stuck w = tt

host_within : {World : Type 0} → (t : FunctionType) (operands : List ℕ) (left : ℕ) (store : Store World) (a : HostAnswer World) → CalledWithin left (host_returns t operands left store a)
host_within t operands left store (Answers result memory world) = omega arith
host_within t operands left store (Refuses world) = tt

cond_within : {World : Type 0} → (most : ℕ) (b : Bool) (cause : Trap) (store : Store World) (x : Called World) → CalledWithin most x → CalledWithin most (cond b (Fell cause store) x)
cond_within most true cause store x w = tt
cond_within most false cause store x w = w

-- a choice of which the one side is the same
side_same : {A : Type 0} → (b : Bool) (x y z : A) → (b ≡ false → y ≡ z) → cond b x y ≡ cond b x z
side_same true x y z h = refl
side_same false x y z h = h refl

module _ {World : Type 0} (limits : ExecutionLimits) (m : Module) (host : Host World) where
  -- what a function's body comes to for its caller
  abbrev pub entered : Calls World → FunctionType → Function → ℕ → Store World → List ℕ → Called World
  entered calls t fn left store operands =
      return_to t operands (exec limits m calls (tree_of fn.body) (record { left = left; store = store; locals = arguments t operands ++ replicate (length (grouped fn.locals)) 0 }) [])

  as_within : (o : Option FunctionType) (d : Option Function) (room : ℕ) (inner : ℕ → Calls World) (f left : ℕ) (store : Store World) (operands : List ℕ) → ((r : ℕ) → Frugal (inner r)) → CalledWithin left (enter_as limits m host room inner o d f left store operands)
  as_within None d room inner f left store operands h = tt
  as_within (Some t) None room inner f left store operands h = host_within t operands left store (host f (arguments t operands) store.memory store.world)
  as_within (Some t) (Some fn) room inner f left store operands h =
      cond_within left (nat_lt room (frame_words m t fn)) trap.Stack store (entered (inner (room - frame_words m t fn)) t fn left store operands)
      (return_within left t operands _ (within limits m (inner (room - frame_words m t fn)) (h (room - frame_words m t fn)) (tree_of fn.body) (record { left = left; store = store; locals = arguments t operands ++ replicate (length (grouped fn.locals)) 0 }) []))

  enter_frugal : (depth room : ℕ) → Frugal (enter depth limits m host room)
  enter_frugal zero room f left store operands = tt
  enter_frugal (suc depth) room f left store operands =
      as_within (type_of m f) (defined m f) room (λ r. enter depth limits m host r) f left store operands (λ r. enter_frugal depth r)

  pub frugal : (room : ℕ) → Frugal (invoke limits m host room)
  frugal room = enter_frugal (suc room) room

  as_same : (o : Option FunctionType) (d : Option Function) (room : ℕ) (one two : ℕ → Calls World) (f left : ℕ) (store : Store World) (operands : List ℕ) → ((r : ℕ) → r < room → one r ≡ two r) → enter_as limits m host room one o d f left store operands ≡ enter_as limits m host room two o d f left store operands
  as_same None d room one two f left store operands h = refl
  as_same (Some t) None room one two f left store operands h = refl
  as_same (Some t) (Some fn) room one two f left store operands h =
      side_same (nat_lt room (frame_words m t fn)) (Fell trap.Stack store) (entered (one (room - frame_words m t fn)) t fn left store operands) (entered (two (room - frame_words m t fn)) t fn left store operands)
      (λ e. let fits : frame_words m t fn ≤ room = ltb-false room (frame_words m t fn) e in
      ap (λ (calls : Calls World). entered calls t fn left store operands) (h (room - frame_words m t fn) (omega arith)))

  calls_same : (a b : Calls World) → ((f left : ℕ) (store : Store World) (operands : List ℕ) → a f left store operands ≡ b f left store operands) → a ≡ b
  calls_same a b h = λ i f left store operands. h f left store operands i

  enough : (d e room : ℕ) → room < d → room < e → enter d limits m host room ≡ enter e limits m host room
  enough zero e room ld le = absurd (omega arith)
  enough (suc d) zero room ld le = absurd (omega arith)
  enough (suc d) (suc e) room ld le =
      calls_same _ _ (λ f left store operands. as_same (type_of m f) (defined m f) room (λ r. enter d limits m host r) (λ r. enter e limits m host r) f left store operands (λ r less. enough d e r (omega arith) (omega arith)))

  -- a call runs the body with what room is left
  pub called : (room f left : ℕ) (store : Store World) (operands : List ℕ) → invoke limits m host room f left store operands ≡ enter_as limits m host room (invoke limits m host) (type_of m f) (defined m f) f left store operands
  called room f left store operands =
      as_same (type_of m f) (defined m f) room (λ r. enter room limits m host r) (invoke limits m host) f left store operands (λ r less. enough room (suc r) r (omega arith) (omega arith))
