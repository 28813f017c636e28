-- An execution with a host that is told by its replies is the execution with the host itself, where each reply that was
-- taken is the host's answer.
use Rattle.std.proofs.Common.{◌≡◌, ℕ, zero, suc, ◌+◌, ◌-◌, Bool, true, false, cond, List, [], ◌∷◌, ◌++◌, length, take, drop, reverse, replicate, Option, Some, None, Result, Ok, Err, nat_eq, nat_lt, nat_le, refl, sym, ap, subst, ◌∙◌, append_assoc, append-nil}
use Rattle.std.specs.Prelude.{⊤, slice_get, slice_index, ◌&&◌}
use Rattle.wasm_tree.specs.declared.trap.Trap.{Trap}
use Rattle.wasm_tree.specs.declared.trap.Trap.TheVariants as trap
use Rattle.wasm_tree.specs.declared.types.ValueType.TheVariants.{I32}
use Rattle.wasm_tree.specs.declared.types.FunctionType.{FunctionType}
use Rattle.wasm_tree.specs.declared.op.LoadKind.{LoadKind}
use Rattle.wasm_tree.specs.declared.op.StoreKind.{StoreKind}
use Rattle.wasm_tree.specs.declared.op.Plain.{Plain}
use Rattle.wasm_tree.specs.declared.op.Plain.TheVariants as plain
use Rattle.wasm_tree.specs.declared.module_parts.Function.{Function}
use Rattle.wasm_tree.specs.declared.module_parts.Module.{Module}
use Rattle.wasm_tree.specs.Code.{Code, Stop, Then, Unreachable, Block, Loop, If, IfElse, Br, BrIf, BrTable, Return, Call, CallIndirect}
use Rattle.wasm_tree.specs.Tree.{tree_of}
use Rattle.wasm_tree.specs.Valid.{grouped, results_of}
use Rattle.wasm_tree.specs.Numeric.{low, equals_zero, compare, unary, binary, convert}
use Rattle.wasm_tree.specs.Exec.{ExecutionLimits, Store, Host, HostAnswer, Answers, Refuses, State, Outcome, Falls, Branches, Returns, Traps, Stuck, Called, Back, Fell, Lost, Calls, Did, Goes, Fails, Lacks, bits32, bits64, unary_did, or_fails, binary_did, select_did, with_top, load_at, store_at, store_did, load_size, store_size, extended, number_of, bytes_of, with_memory, with_refusal, with_global, with_local, pages_of, most_pages, grow, act, tick_of, tick, then_do, leave, again, turns, on_top, if_zero, label_at, after_call, type_of, same_type, entry, indirect, exec}
use Rattle.wasm_tree.specs.Frames.{defined, frame_words, arguments, optional, return_to, host_returns, enter_as, enter}
use Rattle.wasm_machine.specs.Hosts as hosts
use Rattle.wasm_machine.specs.Hosts.{Reply, HostCall, Play, played, answered}
use Rattle.wasm_machine.specs.Told.{world_of, after, IsTold, AreTold, told_store, told_state, told_outcome, told_called, IsOutcomeTold, IsCalledTold}

pub record Extends (xs ys : List HostCall) : Type 0 where
  pub more : List HostCall
  pub is : ys ≡ xs ++ more

same_calls : (xs : List HostCall) → Extends xs xs
same_calls xs = record { more = []; is = sym (append-nil xs) }

equal_calls : (xs ys : List HostCall) → ys ≡ xs → Extends xs ys
equal_calls xs ys e = record { more = []; is = e ∙ sym (append-nil xs) }

one_more : (xs : List HostCall) (c : HostCall) → Extends xs (xs ++ c ∷ [])
one_more xs c = record { more = c ∷ []; is = refl }

longer : (xs ys zs : List HostCall) → Extends xs ys → Extends ys zs → Extends xs zs
longer xs ys zs a b = record { more = a.more ++ b.more; is = b.is ∙ (ap (λ l. l ++ b.more) a.is ∙ append_assoc xs a.more b.more) }

abbrev pub Grows : List HostCall → Outcome Play → Type 0
Grows xs (Falls s values) = Extends xs s.store.world.made
Grows xs (Branches label s values) = Extends xs s.store.world.made
Grows xs (Returns s values) = Extends xs s.store.world.made
Grows xs (Traps cause store) = Extends xs store.world.made
Grows xs Stuck = ⊤

grows_more : (xs ys : List HostCall) (o : Outcome Play) → Extends xs ys → Grows ys o → Grows xs o
grows_more xs ys (Falls s values) a g = longer xs ys s.store.world.made a g
grows_more xs ys (Branches label s values) a g = longer xs ys s.store.world.made a g
grows_more xs ys (Returns s values) a g = longer xs ys s.store.world.made a g
grows_more xs ys (Traps cause store) a g = longer xs ys store.world.made a g
grows_more xs ys Stuck a g = tt

abbrev pub CallGrows : List HostCall → Called Play → Type 0
CallGrows xs (Back left store operands) = Extends xs store.world.made
CallGrows xs (Fell cause store) = Extends xs store.world.made
CallGrows xs Lost = ⊤

abbrev pub Keeps : State Play → Did Play → Type 0
Keeps s (Goes next operands) = next.store.world ≡ s.store.world
Keeps s (Fails cause) = ⊤
Keeps s Lacks = ⊤

module _ (W : Type 0) (h : Host W) (w : W) where
  told_front : (v : W) (xs ys : List HostCall) → AreTold h v (xs ++ ys) → AreTold h v xs
  told_front v [] ys t = tt
  told_front v (c ∷ xs) ys t = (t.0, told_front (world_of (h c.function c.args c.memory v)) xs ys t.1)

  told_last : (v : W) (xs : List HostCall) (c : HostCall) → AreTold h v (xs ++ c ∷ []) → IsTold (h c.function c.args c.memory (after h v xs)) c.reply
  told_last v [] c t = t.0
  told_last v (x ∷ xs) c t = told_last (world_of (h x.function x.args x.memory v)) xs c t.1

  after_last : (v : W) (xs : List HostCall) (c : HostCall) → after h v (xs ++ c ∷ []) ≡ world_of (h c.function c.args c.memory (after h v xs))
  after_last v [] c = refl
  after_last v (x ∷ xs) c = after_last (world_of (h x.function x.args x.memory v)) xs c

  told_of : (xs ys : List HostCall) → Extends xs ys → AreTold h w ys → AreTold h w xs
  told_of xs ys e t = told_front w xs e.more (subst (AreTold h w) e.is t)

  told_before : (xs : List HostCall) (o : Outcome Play) → Grows xs o → IsOutcomeTold h w o → AreTold h w xs
  told_before xs (Falls s values) g t = told_of xs s.store.world.made g t
  told_before xs (Branches label s values) g t = told_of xs s.store.world.made g t
  told_before xs (Returns s values) g t = told_of xs s.store.world.made g t
  told_before xs (Traps cause store) g t = told_of xs store.world.made g t
  told_before xs Stuck g t = absurd t

  call_told_before : (xs : List HostCall) (o : Called Play) → CallGrows xs o → IsCalledTold h w o → AreTold h w xs
  call_told_before xs (Back left store operands) g t = told_of xs store.world.made g t
  call_told_before xs (Fell cause store) g t = told_of xs store.world.made g t
  call_told_before xs Lost g t = absurd t

  -- The outcome of the play, and that with the host.
  pub record IsSame (xs : List HostCall) (o : Outcome Play) (p : Outcome W) : Type 0 where
    pub grows : Grows xs o
    pub same : IsOutcomeTold h w o → p ≡ told_outcome h w o

  pub record IsSameCall (xs : List HostCall) (o : Called Play) (p : Called W) : Type 0 where
    pub grows : CallGrows xs o
    pub same : IsCalledTold h w o → p ≡ told_called h w o

  abbrev pub told_did : Did Play → Did W
  told_did (Goes s operands) = Goes (told_state h w s) operands
  told_did (Fails cause) = Fails cause
  told_did Lacks = Lacks

  pub record IsSameDid (s : State Play) (d : Did Play) (e : Did W) : Type 0 where
    pub keeps : Keeps s d
    pub same : e ≡ told_did d

  -- What goes on from a state with operands.
  abbrev pub AreSame : (State Play → List ℕ → Outcome Play) → (State W → List ℕ → Outcome W) → Type 0
  AreSame next then = (s : State Play) (operands : List ℕ) → IsSame s.store.world.made (next s operands) (then (told_state h w s) operands)

  more_same : (xs ys : List HostCall) (o : Outcome Play) (p : Outcome W) → Extends xs ys → IsSame ys o p → IsSame xs o p
  more_same xs ys o p e r = record { grows = grows_more xs ys o e r.grows; same = r.same }

  -- One after another: the first came to this state, and the second goes on there.
  both : (xs : List HostCall) (s : State Play) (o : Outcome Play) (p q : Outcome W) → Extends xs s.store.world.made
      → (AreTold h w s.store.world.made → p ≡ q) → IsSame s.store.world.made o q → IsSame xs o p
  both xs s o p q e first r = record {
    grows = grows_more xs s.store.world.made o e r.grows;
    same = λ t. first (told_before s.store.world.made o r.grows t) ∙ r.same t;
  }

  trapped : (cause : Trap) (store : Store Play) → IsSame store.world.made (Traps cause store) (Traps cause (told_store h w store))
  trapped cause store = record { grows = same_calls store.world.made; same = λ t. refl }

  tick_same : (left : ℕ) (s : State Play) (next : State Play → Outcome Play) (then : State W → Outcome W)
      → ((s : State Play) → IsSame s.store.world.made (next s) (then (told_state h w s))) → IsSame s.store.world.made (tick_of left s next) (tick_of left (told_state h w s) then)
  tick_same zero s next then n = trapped trap.Steps s.store
  tick_same (suc left) s next then n = n (record { left = left; store = s.store; locals = s.locals })

  leave_same : (xs : List HostCall) (keep : ℕ) (below : List ℕ) (o : Outcome Play) (p : Outcome W) (next : State Play → List ℕ → Outcome Play) (then : State W → List ℕ → Outcome W)
      → IsSame xs o p → AreSame next then → IsSame xs (leave keep below o next) (leave keep below p then)
  leave_same xs keep below (Falls s values) p next then r n =
      both xs s (next s (values ++ below)) (leave keep below p then) (then (told_state h w s) (values ++ below)) r.grows (λ t. ap (λ o. leave keep below o then) (r.same t)) (n s (values ++ below))
  leave_same xs keep below (Branches zero s values) p next then r n =
      both xs s (next s (take keep values ++ below)) (leave keep below p then) (then (told_state h w s) (take keep values ++ below)) r.grows (λ t. ap (λ o. leave keep below o then) (r.same t)) (n s (take keep values ++ below))
  leave_same xs keep below (Branches (suc label) s values) p next then r n = record { grows = r.grows; same = λ t. ap (λ o. leave keep below o then) (r.same t) }
  leave_same xs keep below (Returns s values) p next then r n = record { grows = r.grows; same = λ t. ap (λ o. leave keep below o then) (r.same t) }
  leave_same xs keep below (Traps cause store) p next then r n = record { grows = r.grows; same = λ t. ap (λ o. leave keep below o then) (r.same t) }
  leave_same xs keep below Stuck p next then r n = record { grows = tt; same = λ t. absurd t }

  again_same : (xs : List HostCall) (o : Outcome Play) (p : Outcome W) (next : State Play → Outcome Play) (then : State W → Outcome W)
      → IsSame xs o p → ((s : State Play) → IsSame s.store.world.made (next s) (then (told_state h w s))) → IsSame xs (again o next) (again p then)
  again_same xs (Branches zero s values) p next then r n = both xs s (next s) (again p then) (then (told_state h w s)) r.grows (λ t. ap (λ o. again o then) (r.same t)) (n s)
  again_same xs (Branches (suc label) s values) p next then r n = record { grows = r.grows; same = λ t. ap (λ o. again o then) (r.same t) }
  again_same xs (Falls s values) p next then r n = record { grows = r.grows; same = λ t. ap (λ o. again o then) (r.same t) }
  again_same xs (Returns s values) p next then r n = record { grows = r.grows; same = λ t. ap (λ o. again o then) (r.same t) }
  again_same xs (Traps cause store) p next then r n = record { grows = r.grows; same = λ t. ap (λ o. again o then) (r.same t) }
  again_same xs Stuck p next then r n = record { grows = tt; same = λ t. absurd t }

  turns_same : (most : ℕ) (body : State Play → Outcome Play) (other : State W → Outcome W)
      → ((s : State Play) → IsSame s.store.world.made (body s) (other (told_state h w s)))
      → (s : State Play) → IsSame s.store.world.made (turns most body s) (turns most other (told_state h w s))
  turns_same zero body other n s = trapped trap.Steps s.store
  turns_same (suc most) body other n s =
      tick_same s.left s (λ s. again (body s) (turns most body)) (λ s. again (other s) (turns most other))
      (λ s. again_same s.store.world.made (body s) (other (told_state h w s)) (turns most body) (turns most other) (n s) (turns_same most body other n))

  chosen_same : (b : Bool) (xs : List HostCall) (o p : Outcome Play) (q r : Outcome W) → IsSame xs o q → IsSame xs p r → IsSame xs (cond b o p) (cond b q r)
  chosen_same true xs o p q r first second = first
  chosen_same false xs o p q r first second = second

  top_same : (xs : List HostCall) (operands : List ℕ) (next : ℕ → List ℕ → Outcome Play) (then : ℕ → List ℕ → Outcome W)
      → ((v : ℕ) (rest : List ℕ) → IsSame xs (next v rest) (then v rest)) → IsSame xs (on_top operands next) (on_top operands then)
  top_same xs [] next then n = record { grows = tt; same = λ t. absurd t }
  top_same xs (v ∷ rest) next then n = n v rest

  called_same : (xs : List HostCall) (locals : List ℕ) (c : Called Play) (d : Called W) (next : State Play → List ℕ → Outcome Play) (then : State W → List ℕ → Outcome W)
      → IsSameCall xs c d → AreSame next then → IsSame xs (after_call locals c next) (after_call locals d then)
  called_same xs locals (Back left store operands) d next then r n =
      both xs (record { left = left; store = store; locals = locals }) (next (record { left = left; store = store; locals = locals }) operands) (after_call locals d then)
      (then (record { left = left; store = told_store h w store; locals = locals }) operands) r.grows (λ t. ap (λ c. after_call locals c then) (r.same t)) (n (record { left = left; store = store; locals = locals }) operands)
  called_same xs locals (Fell cause store) d next then r n = record { grows = r.grows; same = λ t. ap (λ c. after_call locals c then) (r.same t) }
  called_same xs locals Lost d next then r n = record { grows = tt; same = λ t. absurd t }

  did_same : (s : State Play) (d : Did Play) (e : Did W) (next : State Play → List ℕ → Outcome Play) (then : State W → List ℕ → Outcome W)
      → IsSameDid s d e → AreSame next then → IsSame s.store.world.made (then_do s d next) (then_do (told_state h w s) e then)
  did_same s (Goes new operands) e next then r n =
      both s.store.world.made new (next new operands) (then_do (told_state h w s) e then) (then (told_state h w new) operands)
      (equal_calls s.store.world.made new.store.world.made (ap (λ v. v.made) r.keeps)) (λ t. ap (λ d. then_do (told_state h w s) d then) r.same) (n new operands)
  did_same s (Fails cause) e next then r n = record { grows = same_calls s.store.world.made; same = λ t. ap (λ d. then_do (told_state h w s) d then) r.same }
  did_same s Lacks e next then r n = record { grows = tt; same = λ t. absurd t }

  goes : (s : State Play) (operands : List ℕ) → IsSameDid s (Goes s operands) (Goes (told_state h w s) operands)
  goes s operands = record { keeps = refl; same = refl }

  lacks : (s : State Play) → IsSameDid s Lacks Lacks
  lacks s = record { keeps = tt; same = refl }

  fails : (s : State Play) (cause : Trap) → IsSameDid s (Fails cause) (Fails cause)
  fails s cause = record { keeps = tt; same = refl }

  chosen_did : (b : Bool) (s : State Play) (d e : Did Play) (f g : Did W) → IsSameDid s d f → IsSameDid s e g → IsSameDid s (cond b d e) (cond b f g)
  chosen_did true s d e f g first second = first
  chosen_did false s d e f g first second = second

  top_did : (s : State Play) (operands : List ℕ) (next : ℕ → List ℕ → Did Play) (then : ℕ → List ℕ → Did W)
      → ((v : ℕ) (rest : List ℕ) → IsSameDid s (next v rest) (then v rest)) → IsSameDid s (with_top operands next) (with_top operands then)
  top_did s [] next then n = lacks s
  top_did s (v ∷ rest) next then n = n v rest

  unary_same : (f : ℕ → ℕ) (s : State Play) (operands : List ℕ) → IsSameDid s (unary_did f s operands) (unary_did f (told_state h w s) operands)
  unary_same f s [] = lacks s
  unary_same f s (x ∷ rest) = goes s (f x ∷ rest)

  result_same : (s : State Play) (r : Result ℕ Trap) (rest : List ℕ) → IsSameDid s (or_fails s r rest) (or_fails (told_state h w s) r rest)
  result_same s (Ok value) rest = goes s (value ∷ rest)
  result_same s (Err cause) rest = fails s cause

  binary_same : (f : ℕ → ℕ → Result ℕ Trap) (s : State Play) (operands : List ℕ) → IsSameDid s (binary_did f s operands) (binary_did f (told_state h w s) operands)
  binary_same f s [] = lacks s
  binary_same f s (y ∷ []) = lacks s
  binary_same f s (y ∷ x ∷ rest) = result_same s (f x y) rest

  select_same : (s : State Play) (operands : List ℕ) → IsSameDid s (select_did s operands) (select_did (told_state h w s) operands)
  select_same s [] = lacks s
  select_same s (c ∷ []) = lacks s
  select_same s (c ∷ y ∷ []) = lacks s
  select_same s (c ∷ y ∷ x ∷ rest) = goes s (cond (nat_eq (low I32 c) 0) y x ∷ rest)

  store_same : (s : State Play) (kind : StoreKind) (offset : ℕ) (operands : List ℕ) → IsSameDid s (store_did s kind offset operands) (store_did (told_state h w s) kind offset operands)
  store_same s kind offset [] = lacks s
  store_same s kind offset (value ∷ []) = lacks s
  store_same s kind offset (value ∷ x ∷ rest) =
      chosen_did (nat_le (low I32 x + offset + store_size kind) (length s.store.memory)) s _ _ _ _ (record { keeps = refl; same = refl }) (fails s trap.Bounds)

  act_same : (limits : ExecutionLimits) (m : Module) (p : Plain) (s : State Play) (operands : List ℕ) → IsSameDid s (act limits m p s operands) (act limits m p (told_state h w s) operands)
  act_same limits m plain.Nop s operands = goes s operands
  act_same limits m plain.Drop s operands = top_did s operands _ _ (λ v rest. goes s rest)
  act_same limits m plain.Select s operands = select_same s operands
  act_same limits m (plain.LocalGet x) s operands = goes s _
  act_same limits m (plain.LocalSet x) s operands = top_did s operands _ _ (λ v rest. record { keeps = refl; same = refl })
  act_same limits m (plain.LocalTee x) s operands = top_did s operands _ _ (λ v rest. record { keeps = refl; same = refl })
  act_same limits m (plain.GlobalGet x) s operands = goes s _
  act_same limits m (plain.GlobalSet x) s operands = top_did s operands _ _ (λ v rest. record { keeps = refl; same = refl })
  act_same limits m (plain.Load kind a) s operands =
      top_did s operands _ _ (λ x rest. chosen_did (nat_le (low I32 x + a.offset + load_size kind) (length s.store.memory)) s _ _ _ _ (record { keeps = refl; same = refl }) (fails s trap.Bounds))
  act_same limits m (plain.Store kind a) s operands = store_same s kind a.offset operands
  act_same limits m plain.MemorySize s operands = goes s _
  act_same limits m plain.MemoryGrow s operands =
      top_did s operands _ _ (λ by rest. chosen_did (nat_le (pages_of s.store.memory + low I32 by) limits.pages && nat_le (pages_of s.store.memory + low I32 by) (most_pages m.memories)) s _ _ _ _ (record { keeps = refl; same = refl }) (record { keeps = refl; same = refl }))
  act_same limits m (plain.I32Const z) s operands = goes s _
  act_same limits m (plain.I64Const z) s operands = goes s _
  act_same limits m (plain.EqualsZero kind) s operands = unary_same (equals_zero kind) s operands
  act_same limits m (plain.Compare kind c) s operands = binary_same (λ x y. Ok (compare kind c x y)) s operands
  act_same limits m (plain.Unary kind o) s operands = unary_same (unary kind o) s operands
  act_same limits m (plain.Binary kind o) s operands = binary_same (binary kind o) s operands
  act_same limits m (plain.Convert c) s operands = unary_same (convert c) s operands

  indirect_same : (m : Module) (x : ℕ) (found : Option ℕ) (s : State Play) (next : ℕ → Outcome Play) (then : ℕ → Outcome W)
      → ((f : ℕ) → IsSame s.store.world.made (next f) (then f)) → IsSame s.store.world.made (indirect m x found s next) (indirect m x found (told_state h w s) then)
  indirect_same m x None s next then n = trapped trap.Indirect s.store
  indirect_same m x (Some f) s next then n =
      chosen_same (same_type (type_of m f) (slice_get m.types x)) s.store.world.made _ _ _ _ (n f) (trapped trap.Indirect s.store)

  abbrev pub AreSameCalls : Calls Play → Calls W → Type 0
  AreSameCalls calls others = (f left : ℕ) (store : Store Play) (operands : List ℕ) → IsSameCall store.world.made (calls f left store operands) (others f left (told_store h w store) operands)

  exec_same : (limits : ExecutionLimits) (m : Module) (calls : Calls Play) (others : Calls W) → AreSameCalls calls others
      → (code : Code) → AreSame (exec limits m calls code) (exec limits m others code)
  exec_same limits m calls others cs Stop s operands = record { grows = same_calls s.store.world.made; same = λ t. refl }
  exec_same limits m calls others cs (Then p rest) s operands =
      tick_same s.left s _ _ (λ s. did_same s (act limits m p s operands) _ _ _ (act_same limits m p s operands) (exec_same limits m calls others cs rest))
  exec_same limits m calls others cs (Unreachable rest) s operands = tick_same s.left s _ _ (λ s. trapped trap.Unreachable s.store)
  exec_same limits m calls others cs (Block kind body rest) s operands =
      tick_same s.left s _ _ (λ s. leave_same s.store.world.made (length (results_of kind)) operands _ _ _ _ (exec_same limits m calls others cs body s []) (exec_same limits m calls others cs rest))
  exec_same limits m calls others cs (Loop kind body rest) s operands =
      leave_same s.store.world.made (length (results_of kind)) operands _ _ _ _
      (turns_same (suc s.left) (λ s. exec limits m calls body s []) (λ s. exec limits m others body s []) (λ s. exec_same limits m calls others cs body s []) s)
      (exec_same limits m calls others cs rest)
  exec_same limits m calls others cs (If kind first rest) s operands =
      tick_same s.left s _ _ (λ s. top_same s.store.world.made operands _ _ (λ v below. leave_same s.store.world.made (length (results_of kind)) below _ _ _ _
      (chosen_same (nat_eq (low I32 v) 0) s.store.world.made _ _ _ _ (record { grows = same_calls s.store.world.made; same = λ t. refl }) (exec_same limits m calls others cs first s []))
      (exec_same limits m calls others cs rest)))
  exec_same limits m calls others cs (IfElse kind first second rest) s operands =
      tick_same s.left s _ _ (λ s. top_same s.store.world.made operands _ _ (λ v below. leave_same s.store.world.made (length (results_of kind)) below _ _ _ _
      (chosen_same (nat_eq (low I32 v) 0) s.store.world.made _ _ _ _ (exec_same limits m calls others cs second s []) (exec_same limits m calls others cs first s []))
      (exec_same limits m calls others cs rest)))
  exec_same limits m calls others cs (Br label rest) s operands = tick_same s.left s _ _ (λ s. record { grows = same_calls s.store.world.made; same = λ t. refl })
  exec_same limits m calls others cs (BrIf label rest) s operands =
      tick_same s.left s _ _ (λ s. top_same s.store.world.made operands _ _ (λ v below.
      chosen_same (nat_eq (low I32 v) 0) s.store.world.made _ _ _ _ (exec_same limits m calls others cs rest s below) (record { grows = same_calls s.store.world.made; same = λ t. refl })))
  exec_same limits m calls others cs (BrTable labels last rest) s operands =
      tick_same s.left s _ _ (λ s. top_same s.store.world.made operands _ _ (λ v below. record { grows = same_calls s.store.world.made; same = λ t. refl }))
  exec_same limits m calls others cs (Return rest) s operands = tick_same s.left s _ _ (λ s. record { grows = same_calls s.store.world.made; same = λ t. refl })
  exec_same limits m calls others cs (Call f rest) s operands =
      tick_same s.left s _ _ (λ s. called_same s.store.world.made s.locals _ _ _ _ (cs f s.left s.store operands) (exec_same limits m calls others cs rest))
  exec_same limits m calls others cs (CallIndirect x rest) s operands =
      tick_same s.left s _ _ (λ s. top_same s.store.world.made operands _ _ (λ v below. indirect_same m x (entry (slice_get s.store.table (low I32 v))) s _ _
      (λ f. called_same s.store.world.made s.locals _ _ _ _ (cs f s.left s.store below) (exec_same limits m calls others cs rest))))

  result_called : (xs : List HostCall) (t : FunctionType) (operands : List ℕ) (o : Outcome Play) (p : Outcome W)
      → IsSame xs o p → IsSameCall xs (return_to t operands o) (return_to t operands p)
  result_called xs t operands (Falls s values) p r = record { grows = r.grows; same = λ told. ap (return_to t operands) (r.same told) }
  result_called xs t operands (Branches zero s values) p r = record { grows = r.grows; same = λ told. ap (return_to t operands) (r.same told) }
  result_called xs t operands (Branches (suc label) s values) p r = record { grows = tt; same = λ told. absurd told }
  result_called xs t operands (Returns s values) p r = record { grows = r.grows; same = λ told. ap (return_to t operands) (r.same told) }
  result_called xs t operands (Traps cause store) p r = record { grows = r.grows; same = λ told. ap (return_to t operands) (r.same told) }
  result_called xs t operands Stuck p r = record { grows = tt; same = λ told. absurd told }

  chosen_call : (b : Bool) (xs : List HostCall) (o p : Called Play) (q r : Called W) → IsSameCall xs o q → IsSameCall xs p r → IsSameCall xs (cond b o p) (cond b q r)
  chosen_call true xs o p q r first second = first
  chosen_call false xs o p q r first second = second

  -- What the host's answer gives the caller, where the reply tells it.
  gives_told : (t : FunctionType) (operands : List ℕ) (left : ℕ) (s : Store W) (result : Option ℕ) (new : List ℕ) (a : HostAnswer W) → IsTold a (hosts.Gives result new)
      → host_returns t operands left s a ≡ Back left (record { memory = new; globals = s.globals; table = s.table; refused = s.refused; world = world_of a }) (optional result ++ drop (length t.params) operands)
  gives_told t operands left s result new (Answers given memory v) told =
      ap (λ r. Back left (record { memory = memory; globals = s.globals; table = s.table; refused = s.refused; world = v }) (optional r ++ drop (length t.params) operands)) told.0
      ∙ ap (λ b. Back left (record { memory = b; globals = s.globals; table = s.table; refused = s.refused; world = v }) (optional result ++ drop (length t.params) operands)) told.1
  gives_told t operands left s result new (Refuses v) told = absurd told

  traps_told : (t : FunctionType) (operands : List ℕ) (left : ℕ) (s : Store W) (a : HostAnswer W) → IsTold a hosts.Traps
      → host_returns t operands left s a ≡ Fell trap.Host (record { memory = s.memory; globals = s.globals; table = s.table; refused = s.refused; world = world_of a })
  traps_told t operands left s (Answers given memory v) told = absurd told
  traps_told t operands left s (Refuses v) told = refl

  host_same : (t : FunctionType) (operands : List ℕ) (f left : ℕ) (args : List ℕ) (store : Store Play) (coming : List Reply)
      → IsSameCall store.world.made (host_returns t operands left store (answered store.world f args store.memory coming))
      (host_returns t operands left (told_store h w store) (h f args store.memory (after h w store.world.made)))
  host_same t operands f left args store [] =
      let c : HostCall = record { function = f; args = args; memory = store.memory; reply = hosts.Traps } in
      record {
        grows = one_more store.world.made c;
        same = λ told. traps_told t operands left (told_store h w store) (h f args store.memory (after h w store.world.made)) (told_last w store.world.made c told)
            ∙ ap (λ v. Fell trap.Host (record { memory = store.memory; globals = store.globals; table = store.table; refused = store.refused; world = v })) (sym (after_last w store.world.made c));
      }
  host_same t operands f left args store (hosts.Gives result new ∷ rest) =
      let c : HostCall = record { function = f; args = args; memory = store.memory; reply = hosts.Gives result new } in
      record {
        grows = one_more store.world.made c;
        same = λ told. gives_told t operands left (told_store h w store) result new (h f args store.memory (after h w store.world.made)) (told_last w store.world.made c told)
            ∙ ap (λ v. Back left (record { memory = new; globals = store.globals; table = store.table; refused = store.refused; world = v }) (optional result ++ drop (length t.params) operands)) (sym (after_last w store.world.made c));
      }
  host_same t operands f left args store (hosts.Traps ∷ rest) =
      let c : HostCall = record { function = f; args = args; memory = store.memory; reply = hosts.Traps } in
      record {
        grows = one_more store.world.made c;
        same = λ told. traps_told t operands left (told_store h w store) (h f args store.memory (after h w store.world.made)) (told_last w store.world.made c told)
            ∙ ap (λ v. Fell trap.Host (record { memory = store.memory; globals = store.globals; table = store.table; refused = store.refused; world = v })) (sym (after_last w store.world.made c));
      }

  enter_as_same : (limits : ExecutionLimits) (m : Module) (room : ℕ) (inner : ℕ → Calls Play) (other : ℕ → Calls W) → ((room : ℕ) → AreSameCalls (inner room) (other room))
      → (t : Option FunctionType) (fn : Option Function) → AreSameCalls (enter_as limits m played room inner t fn) (enter_as limits m h room other t fn)
  enter_as_same limits m room inner other cs None fn f left store operands = record { grows = tt; same = λ t. absurd t }
  enter_as_same limits m room inner other cs (Some t) None f left store operands = host_same t operands f left (arguments t operands) store store.world.coming
  enter_as_same limits m room inner other cs (Some t) (Some fn) f left store operands =
      chosen_call (nat_lt room (frame_words m t fn)) store.world.made _ _ _ _ (record { grows = same_calls store.world.made; same = λ t. refl })
      (result_called store.world.made t operands _ _
      (exec_same limits m (inner (room - frame_words m t fn)) (other (room - frame_words m t fn)) (cs (room - frame_words m t fn)) (tree_of fn.body)
      (record { left = left; store = store; locals = arguments t operands ++ replicate (length (grouped fn.locals)) 0 }) []))

  pub enter_same : (depth : ℕ) (limits : ExecutionLimits) (m : Module) (room : ℕ) → AreSameCalls (enter depth limits m played room) (enter depth limits m h room)
  enter_same zero limits m room f left store operands = record { grows = same_calls store.world.made; same = λ t. refl }
  enter_same (suc depth) limits m room f left store operands =
      enter_as_same limits m room (λ room. enter depth limits m played room) (λ room. enter depth limits m h room) (enter_same depth limits m) (type_of m f) (defined m f) f left store operands
