-- No execution of a formed module is lost: calls give values exactly where their functions have results.
use Rattle.std.proofs.Common.{◌≡◌, ◌<◌, ◌≤◌, ℕ, zero, suc, ◌+◌, ◌-◌, ◌*◌, ◌^◌, List, [], ◌∷◌, ◌++◌, length, map, reverse, replicate, nat_eq, nat_lt, nat_le, Bool, true, false, ◌&&◌, cond, Option, Some, None, slice_get, Result, Ok, Err, refl, sym, ap, ◌∙◌, subst, arith, take, drop}
use Rattle.std.specs.Prelude.{⊤}
use Rattle.std.proofs.lemmas.Bool.Decides.{nat_tests}
use Rattle.std.proofs.lemmas.List.{reverse-reverse}
use Rattle.wasm_tree.specs.Rules.{or_no}
use Rattle.std.specs.List.{AllByRecursion}
use Rattle.wasm_tree.specs.declared.trap.Trap.{Trap}
use Rattle.wasm_tree.specs.declared.trap.Trap.TheVariants as trap
use Rattle.wasm_tree.specs.declared.types.ValueType.{ValueType}
use Rattle.wasm_tree.specs.declared.types.ValueType.TheVariants.{I32, I64}
use Rattle.wasm_tree.specs.declared.types.FunctionType.{FunctionType}
use Rattle.wasm_tree.specs.Numeric.{low, binary}
use Rattle.wasm_tree.specs.Exec.{ExecutionLimits, Store, State, HostAnswer, pages_of, load_size, extended, number_of, store_size, bytes_of, with_memory, with_refusal, same_kinds, same_type, entry, Answers, Refuses}
use Rattle.wasm_tree.proofs.Asked.{all_at}
use Rattle.ic0_world.specs.declared.world.World.{World}
use Rattle.canister_host.specs.Execution.{Entry, entered_as}
use Rattle.low_ir.specs.declared.op.Operand.{Operand}
use Rattle.low_ir.specs.declared.op.Operand.TheVariants.{Local, Word, Long}
use Rattle.low_ir.specs.declared.op.Operation.{Operation}
use Rattle.low_ir.specs.declared.op.Operation.TheVariants.{Copy, IsZero, Compare, Unary, Binary, Convert, Load, Global, Size}
use Rattle.low_ir.specs.Tree.{Code, Stop, Return, Branch, Set, SetGlobal, Grow, GrowStable, Block, Loop, If, BranchIf, Call, CallIndirect, Function, Module}
use Rattle.low_ir.specs.Tree as code
use Rattle.low_ir.specs.Numbering.{host_count, host_signatures, all_types, all_signatures, type_of, defined, stable_grow, host_trap}
use Rattle.low_ir.specs.Meaning.{Outcome, Ends, Jumps, Gives, Breaks, Astray, Called, Gave, Fell, Lost, Calls, tick_of, tick, onward, again, turns, operand, operands, or_traps, computed, grown, on_return, result_to, unless_refused, chosen, run}
use Rattle.low_ir.specs.Frames.{words, kept, finish, host_gives, enter_as, enter}
use Rattle.low_ir.specs.Formed.{ResultIs, IsFormed, FunctionIsFormed}
use Rattle.low_execution.specs.Host.{low_host}
use Rattle.low_execution.specs.Execution.{then_go, low_run, IsEntry, IsNotLost, FormedAreNeverLost}
use Rattle.module_laws.proofs.HostResults.{ValueFits, AnswerFits}
use Rattle.low_ir.proofs.Numbers.{host_signatures_counted, stable_grow_type, stable_grow_typed, host_trap_typed}
use Rattle.wasm_tree.specs.Imports.{bytes_type}
use Rattle.low_execution.proofs.HostTypes.{host_fits}

-- A call gives what its function's type says.
abbrev pub CallFits : List ValueType → Called World → Type 0
CallFits results (Gave left store value) = ValueFits results value
CallFits results (Fell cause store) = ⊤
CallFits results Lost = ⊥

abbrev pub CallsFit : Module → Calls World → Type 0
CallsFit m calls = (f left : ℕ) (store : Store World) (args : List ℕ) (t : FunctionType) → type_of m f ≡ Some t → CallFits t.results (calls f left store args)

-- Code inside so many constructs of a function with these results ends as it is formed.
abbrev pub EndsWell : List ValueType → ℕ → List ValueType → Outcome World → Type 0
EndsWell results labels owed (Ends s) = owed ≡ []
EndsWell results labels owed (Jumps label s) = label < labels
EndsWell results labels owed (Gives s value) = ValueFits results value
EndsWell results labels owed (Breaks cause store) = ⊤
EndsWell results labels owed Astray = ⊥

module _ (results : List ValueType) (labels : ℕ) (owed : List ValueType) where
  abbrev Well : Outcome World → Type 0
  Well o = EndsWell results labels owed o

  tick_of_well : (n : ℕ) (s : State World) (g : State World → Outcome World) → ((s : State World) → Well (g s)) → Well (tick_of n s g)
  tick_of_well zero s g h = tt
  tick_of_well (suc n) s g h = h _

  tick_well : (s : State World) (g : State World → Outcome World) → ((s : State World) → Well (g s)) → Well (tick s g)
  tick_well s g h = tick_of_well s.left s g h

  operand_well : (a : Operand) (s : State World) (g : State World → ℕ → Outcome World) → ((s : State World) (v : ℕ) → Well (g s v)) → Well (operand a s g)
  operand_well (Local x) s g h = tick_well s _ (λ s. h s _)
  operand_well (Word z) s g h = tick_well s _ (λ s. h s _)
  operand_well (Long z) s g h = tick_well s _ (λ s. h s _)

  operands_well : (args : List Operand) (s : State World) (before : List ℕ) (g : State World → List ℕ → Outcome World) → ((s : State World) (vs : List ℕ) → Well (g s vs)) → Well (operands args s before g)
  operands_well [] s before g h = h s before
  operands_well (a ∷ args) s before g h = operand_well a s _ (λ s v. operands_well args s (v ∷ before) g h)

  traps_well : (r : Result ℕ Trap) (s : State World) (g : ℕ → Outcome World) → ((v : ℕ) → Well (g v)) → Well (or_traps s r g)
  traps_well (Ok v) s g h = h v
  traps_well (Err cause) s g h = tt

  either_well : (t : Bool) (a b : Outcome World) → Well a → Well b → Well (cond t a b)
  either_well true a b p q = p
  either_well false a b p q = q

  computed_well : (o : Operation) (s : State World) (g : State World → ℕ → Outcome World) → ((s : State World) (v : ℕ) → Well (g s v)) → Well (computed o s g)
  computed_well (Copy a) s g h = operand_well a s g h
  computed_well (IsZero kind a) s g h = operand_well a s _ (λ s v. tick_well s _ (λ s. h s _))
  computed_well (Compare kind o a b) s g h = operand_well a s _ (λ s u. operand_well b s _ (λ s v. tick_well s _ (λ s. h s _)))
  computed_well (Unary kind o a) s g h = operand_well a s _ (λ s v. tick_well s _ (λ s. h s _))
  computed_well (Binary kind o a b) s g h = operand_well a s _ (λ s u. operand_well b s _ (λ s v. tick_well s _ (λ s. traps_well (binary kind o u v) s (g s) (h s))))
  computed_well (Convert o a) s g h = operand_well a s _ (λ s v. tick_well s _ (λ s. h s _))
  computed_well (Load kind a offset) s g h =
      operand_well a s _ (λ s v. tick_well s _ (λ s. either_well (nat_le (low I32 v + offset + load_size kind) (length s.store.memory)) (g s (extended kind (number_of (take (load_size kind) (drop (low I32 v + offset) s.store.memory))))) (Breaks trap.Bounds s.store) (h s _) tt))
  computed_well (Global x) s g h = tick_well s _ (λ s. h s _)
  computed_well Size s g h = tick_well s _ (λ s. h s _)

  onward_well : (o : Outcome World) (g : State World → Outcome World) → EndsWell results (suc labels) [] o → ((s : State World) → Well (g s)) → Well (onward o g)
  onward_well (Ends s) g p h = h s
  onward_well (Jumps zero s) g p h = h s
  onward_well (Jumps (suc label) s) g p h = omega (arith, p)
  onward_well (Gives s value) g p h = p
  onward_well (Breaks cause store) g p h = tt
  onward_well Astray g p h = p

  return_well : (kinds : List ValueType) (locals : List ℕ) (o : Called World) (g : State World → Option ℕ → Outcome World) → CallFits kinds o → ((s : State World) (value : Option ℕ) → ValueFits kinds value → Well (g s value)) → Well (on_return locals o g)
  return_well kinds locals (Gave left store value) g p h = h (record { left = left; store = store; locals = locals }) value p
  return_well kinds locals (Fell cause store) g p h = tt
  return_well kinds locals Lost g p h = absurd p

  result_well : (kinds locals : List ValueType) (result : Option ℕ) → ResultIs locals result kinds → (s : State World) (value : Option ℕ) (g : State World → Outcome World) → ValueFits kinds value → ((s : State World) → Well (g s)) → Well (result_to result s value g)
  result_well kinds locals None is s None g p h = h s
  result_well kinds locals None is s (Some v) g p h = absurd (subst (λ kinds. ValueFits kinds (Some v)) is p)
  result_well kinds locals (Some x) is s None g p h = absurd (subst (λ kinds. ValueFits kinds None) is.1 p)
  result_well kinds locals (Some x) is s (Some v) g p h = tick_well s _ (λ s. h _)

  refused_well : (s : State World) (value : Option ℕ) (g : State World → Outcome World) → ValueFits (I64 ∷ []) value → ((s : State World) → Well (g s)) → Well (unless_refused s value g)
  refused_well s None g p h = absurd p
  refused_well s (Some v) g p h =
      tick_well s _ (λ s. tick_well s _ (λ s. tick_well s _ (λ s. either_well (nat_eq (low I64 v) (2 ^ 64 - 1)) (tick s (λ s. Breaks trap.Unreachable s.store)) (g s) (tick_well s _ (λ s. tt)) (h s))))

  grown_well : (pages : ℕ) (s : State World) (by : ℕ) (g : State World → Outcome World) → ((s : State World) → Well (g s)) → Well (grown pages s by g)
  grown_well pages s by g h =
      either_well (nat_le (pages_of s.store.memory + by) pages && nat_le (pages_of s.store.memory + by) 65536) _ _
      (tick_well (with_memory s (s.store.memory ++ replicate (65536 * by) 0)) _ (λ s. tick_well s _ (λ s. tick_well s _ h)))
      (tick_well (with_refusal s) _ (λ s. tick_well s _ (λ s. tick_well s _ (λ s. tick_well s _ (λ s. tt)))))

-- The turns of a loop.
again_well : (results : List ValueType) (labels : ℕ) (o : Outcome World) (g : State World → Outcome World) → EndsWell results (suc labels) [] o → ((s : State World) → EndsWell results (suc labels) [] (g s)) → EndsWell results (suc labels) [] (again o g)
again_well results labels (Ends s) g p h = p
again_well results labels (Jumps zero s) g p h = h s
again_well results labels (Jumps (suc label) s) g p h = p
again_well results labels (Gives s value) g p h = p
again_well results labels (Breaks cause store) g p h = tt
again_well results labels Astray g p h = p

turns_well : (results : List ValueType) (labels n : ℕ) (body : State World → Outcome World) → ((s : State World) → EndsWell results (suc labels) [] (body s)) → (s : State World) → EndsWell results (suc labels) [] (turns n body s)
turns_well results labels zero body h s = tt
turns_well results labels (suc n) body h s = tick_well results (suc labels) [] s _ (λ s. again_well results labels (body s) (turns n body) (h s) (turns_well results labels n body h))

-- A function that an indirect call finds gives what was asked for.

second_true : (a b : Bool) → (a && b) ≡ true → b ≡ true
second_true true b e = e
second_true false b e = absurd (cc)

alike_fits : (js ks : List ValueType) → same_kinds js ks ≡ true → (value : Option ℕ) → ValueFits js value → ValueFits ks value
alike_fits [] [] e value p = p
alike_fits [] (k ∷ ks) e value p = absurd (cc)
alike_fits (j ∷ js) [] e value p = absurd (cc)
alike_fits (j ∷ js) (k ∷ ks) e None p = p
alike_fits (j ∷ js) (k ∷ ks) e (Some v) p = tt

call_alike : (js ks : List ValueType) → same_kinds js ks ≡ true → (o : Called World) → CallFits js o → CallFits ks o
call_alike js ks e (Gave left store value) p = alike_fits js ks e value p
call_alike js ks e (Fell cause store) p = tt
call_alike js ks e Lost p = p

module _ (m : Module) (pages : ℕ) (calls : Calls World) (fits : CallsFit m calls) where
  found_fits : (f left : ℕ) (store : Store World) (args : List ℕ) (found asked : Option FunctionType) (t : FunctionType) → type_of m f ≡ found → asked ≡ Some t → same_type found asked ≡ true → CallFits t.results (calls f left store args)
  found_fits f left store args None asked t is there e = absurd (cc)
  found_fits f left store args (Some s) None t is there e = absurd (cc)
  found_fits f left store args (Some s) (Some u) t is there e =
      let same : u ≡ t = cc in
      subst (λ (t : FunctionType). CallFits t.results (calls f left store args)) same (call_alike s.results u.results (second_true _ _ e) _ (fits f left store args s is))

  chosen_well : (results : List ValueType) (labels : ℕ) (owed : List ValueType) (x : ℕ) (t : FunctionType) → slice_get (all_types m) x ≡ Some t → (found : Option ℕ) (s : State World) (g : ℕ → Outcome World)
      → ((f : ℕ) → ((left : ℕ) (store : Store World) (args : List ℕ) → CallFits t.results (calls f left store args)) → EndsWell results labels owed (g f)) → EndsWell results labels owed (chosen m x found s g)
  chosen_well results labels owed x t there None s g h = tt
  chosen_well results labels owed x t there (Some f) s g h = by (same_type (type_of m f) (slice_get (all_types m) x)) refl
    where
      by : (b : Bool) → same_type (type_of m f) (slice_get (all_types m) x) ≡ b → EndsWell results labels owed (cond b (g f) (Breaks trap.Indirect s.store))
      by true e = h f (λ left store args. found_fits f left store args (type_of m f) (slice_get (all_types m) x) t refl there e)
      by false e = tt

  module _ (locals results : List ValueType) where
    run_well : (labels : ℕ) (owed : List ValueType) (c : Code) → IsFormed m locals results labels owed c → (s : State World) → EndsWell results labels owed (run pages m calls c s)
    run_well labels owed Stop is s = sym is
    run_well labels owed (Return None) is s = tick_well results labels owed s _ (λ s. subst (λ results. ValueFits results None) (sym is) tt)
    run_well labels owed (Return (Some a)) is s = operand_well results labels owed a s _ (λ s v. tick_well results labels owed s _ (λ s. subst (λ results. ValueFits results (Some v)) (sym is.2) tt))
    run_well labels owed (Branch label) is s = tick_well results labels owed s _ (λ s. is)
    run_well labels owed (code.Trap a b) is s =
        operand_well results labels owed a s _ (λ s u. operand_well results labels owed b s _ (λ s v. tick_well results labels owed s _ (λ s.
        return_well results labels owed [] s.locals _ _ (fits host_trap s.left s.store (u ∷ v ∷ []) bytes_type (host_trap_typed m)) (λ s value p. tick_well results labels owed s _ (λ s. tt)))))
    run_well labels owed (Set x o rest) is s = computed_well results labels owed o s _ (λ s v. tick_well results labels owed s _ (λ s. run_well labels owed rest is.3 _))
    run_well labels owed (SetGlobal x a rest) is s = operand_well results labels owed a s _ (λ s v. tick_well results labels owed s _ (λ s. run_well labels owed rest is.3 _))
    run_well labels owed (code.Store kind a offset b rest) is s =
        operand_well results labels owed a s _ (λ s u. operand_well results labels owed b s _ (λ s v. tick_well results labels owed s _ (λ s.
        either_well results labels owed (nat_le (low I32 u + offset + store_size kind) (length s.store.memory)) (run pages m calls rest (with_memory s (take (low I32 u + offset) s.store.memory ++ bytes_of (store_size kind) v ++ drop (low I32 u + offset + store_size kind) s.store.memory))) (Breaks trap.Bounds s.store)
        (run_well labels owed rest is.3 _) tt)))
    run_well labels owed (Grow a rest) is s = operand_well results labels owed a s _ (λ s v. tick_well results labels owed s _ (λ s. grown_well results labels owed pages s (low I32 v) (run pages m calls rest) (run_well labels owed rest is.1)))
    run_well labels owed (GrowStable a rest) is s =
        operand_well results labels owed a s _ (λ s v. tick_well results labels owed s _ (λ s.
        return_well results labels owed (I64 ∷ []) s.locals _ _ (fits stable_grow s.left s.store (v ∷ []) stable_grow_type (stable_grow_typed m)) (λ s value p. refused_well results labels owed s value (run pages m calls rest) p (run_well labels owed rest is.1))))
    run_well labels owed (Block body rest) is s = tick_well results labels owed s _ (λ s. onward_well results labels owed _ _ (run_well (suc labels) [] body is.0 s) (run_well labels owed rest is.1))
    run_well labels owed (Loop body rest) is s = onward_well results labels owed _ _ (turns_well results labels (suc s.left) (run pages m calls body) (run_well (suc labels) [] body is.0) s) (run_well labels owed rest is.1)
    run_well labels owed (If a first second rest) is s =
        operand_well results labels owed a s _ (λ s v. tick_well results labels owed s _ (λ s.
        onward_well results labels owed _ _ (either_well results (suc labels) [] (nat_eq (low I32 v) 0) _ _ (run_well (suc labels) [] second is.2 s) (run_well (suc labels) [] first is.1 s)) (run_well labels owed rest is.3)))
    run_well labels owed (BranchIf a label rest) is s =
        operand_well results labels owed a s _ (λ s v. tick_well results labels owed s _ (λ s. either_well results labels owed (nat_eq (low I32 v) 0) _ (Jumps label s) (run_well labels owed rest is.2 s) is.1))
    run_well labels owed (Call result f args rest) is s =
        operands_well results labels owed args s [] _ (λ s vs. tick_well results labels owed s _ (λ s.
        return_well results labels owed is.0.type.results s.locals _ _ (fits f s.left s.store (reverse vs) is.0.type is.0.is) (λ s value p. result_well results labels owed is.0.type.results locals result is.0.gives s value (run pages m calls rest) p (run_well labels owed rest is.1))))
    run_well labels owed (CallIndirect result x args a rest) is s =
        operands_well results labels owed args s [] _ (λ s vs. operand_well results labels owed a s _ (λ s v. tick_well results labels owed s _ (λ s.
        chosen_well results labels owed x is.0.type is.0.is (entry (slice_get s.store.table (low I32 v))) s _ (λ f gives.
        return_well results labels owed is.0.type.results s.locals _ _ (gives s.left s.store (reverse vs)) (λ s value p. result_well results labels owed is.0.type.results locals result is.0.gives s value (run pages m calls rest) p (run_well labels owed rest is.2))))))

-- Calls of functions.

host_gives_well : (results : List ValueType) (left : ℕ) (store : Store World) (a : HostAnswer World) → AnswerFits results a → CallFits results (host_gives left store a)
host_gives_well results left store (Answers value memory w) h = h
host_gives_well results left store (Refuses w) h = tt

no_owed : (results : List ValueType) → reverse results ≡ [] → results ≡ []
no_owed results e = sym (reverse-reverse results) ∙ ap reverse e

finish_well : (t : FunctionType) (o : Outcome World) → EndsWell t.results 0 (reverse t.results) o → CallFits t.results (finish t o)
finish_well t (Ends s) p = subst (λ results. ValueFits results None) (sym (no_owed t.results p)) tt
finish_well t (Jumps label s) p = absurd (omega (arith, p))
finish_well t (Gives s value) p = kept_well t.results value p
  where
    kept_well : (results : List ValueType) (value : Option ℕ) → ValueFits results value → ValueFits results (kept (length results) value)
    kept_well [] None p = tt
    kept_well [] (Some v) p = tt
    kept_well (k ∷ ks) value p = p
finish_well t (Breaks cause store) p = tt
finish_well t Astray p = p

room_well : (results : List ValueType) (b : Bool) (store : Store World) (o : Called World) → CallFits results o → CallFits results (cond b (Fell trap.Stack store) o)
room_well results true store o p = tt
room_well results false store o p = p

behind : {A : Type 0} (xs ys : List A) (k : ℕ) → length xs ≤ k → slice_get (xs ++ ys) k ≡ slice_get ys (k - length xs)
behind [] ys k h = let none : k - 0 ≡ k = omega arith in ap (slice_get ys) (sym none)
behind (x ∷ xs) ys zero h = absurd (omega arith)
behind (x ∷ xs) ys (suc k) h = let same : suc k - suc (length xs) ≡ k - length xs = omega arith in behind xs ys k (omega arith) ∙ ap (slice_get ys) (sym same)

mapped : (fns : List Function) (k : ℕ) (fn : Function) → slice_get fns k ≡ Some fn → slice_get (map (λ f. f.signature) fns) k ≡ Some fn.signature
mapped [] k fn e = absurd (cc)
mapped (f ∷ fns) zero fn e = let same : f ≡ fn = cc in ap (λ (f : Function). Some f.signature) same
mapped (f ∷ fns) (suc k) fn e = mapped fns k fn e

not_below : (a b : ℕ) → nat_lt a b ≡ false → b ≤ a
not_below a b e = grind (arith, nat_tests)

-- The type by which a function is formed is that of its number.
own_type : (m : Module) (f : ℕ) (t : FunctionType) (fn : Function) → type_of m f ≡ Some t → defined m f ≡ Some fn → slice_get (all_types m) fn.signature ≡ Some t
own_type m f t fn is there = by (nat_lt f host_count) refl there
  where
    by : (b : Bool) → nat_lt f host_count ≡ b → cond b None (slice_get m.functions (f - host_count)) ≡ Some fn → slice_get (all_types m) fn.signature ≡ Some t
    by true e there = absurd (cc)
    by false e there =
        let past : host_count ≤ f = not_below f host_count e in
        let place : f - length host_signatures ≡ f - host_count = ap (λ n. f - n) host_signatures_counted in
        let signature : slice_get (all_signatures m) f ≡ Some fn.signature =
        behind host_signatures (map (λ f. f.signature) m.functions) f (omega (arith, past, host_signatures_counted)) ∙ ap (slice_get (map (λ f. f.signature) m.functions)) place ∙ mapped m.functions (f - host_count) fn there in
        ap (λ o. or_no o (slice_get (all_types m))) (sym signature) ∙ is

module _ (m : Module) (formed : AllByRecursion (FunctionIsFormed m) m.functions) where
  formed_at : (f : ℕ) (fn : Function) → defined m f ≡ Some fn → FunctionIsFormed m fn
  formed_at f fn e = by (nat_lt f host_count) e
    where
      by : (t : Bool) → cond t None (slice_get m.functions (f - host_count)) ≡ Some fn → FunctionIsFormed m fn
      by true e = absurd (cc)
      by false e = all_at (FunctionIsFormed m) m.functions (f - host_count) fn formed e

  enters : (pages room : ℕ) (inner : ℕ → Calls World) → ((room : ℕ) → CallsFit m (inner room)) → (f left : ℕ) (store : Store World) (args : List ℕ) (t : FunctionType) → type_of m f ≡ Some t → (there : Option Function) → defined m f ≡ there
      → CallFits t.results (enter_as pages m low_host room inner (Some t) there f left store args)
  enters pages room inner h f left store args t is None e = host_gives_well t.results left store _ (host_fits m f t is args store.memory store.world)
  enters pages room inner h f left store args t is (Some fn) e =
      let it : FunctionIsFormed m fn = formed_at f fn e in
      let both : Some it.type ≡ Some t = sym it.is ∙ own_type m f t fn is e in
      let same : it.type ≡ t = cc in
      let well : EndsWell it.type.results 0 (reverse it.type.results) (run pages m (inner (room - words t fn)) fn.body (record { left = left; store = store; locals = args ++ replicate (length fn.locals) 0 })) =
      run_well m pages (inner (room - words t fn)) (h (room - words t fn)) (it.type.params ++ fn.locals) it.type.results 0 (reverse it.type.results) fn.body it.body _ in
      room_well t.results (nat_lt room (words t fn)) store _ (finish_well t _ (subst (λ (u : FunctionType). EndsWell u.results 0 (reverse u.results) (run pages m (inner (room - words t fn)) fn.body (record { left = left; store = store; locals = args ++ replicate (length fn.locals) 0 }))) same well))

  pub enter_fits : (deep pages room : ℕ) → CallsFit m (enter deep pages m low_host room)
  enter_fits zero pages room f left store args t is = tt
  enter_fits (suc deep) pages room f left store args t is =
      subst (λ found. CallFits t.results (enter_as pages m low_host room (λ (room : ℕ). enter deep pages m low_host room) found (defined m f) f left store args)) (sym is)
      (enters pages room (λ (room : ℕ). enter deep pages m low_host room) (λ room. enter_fits deep pages room) f left store args t is (defined m f) refl)

  going : (kinds : List ValueType) (o : Called World) (g : ℕ → Store World → Called World) → CallFits kinds o → ((left : ℕ) (store : Store World) → IsNotLost (g left store)) → IsNotLost (then_go o g)
  going kinds (Gave left store value) g p h = h left store
  going kinds (Fell cause store) g p h = tt
  going kinds Lost g p h = p

  -- A whole execution.
  never_lost_from : (limits : ExecutionLimits) (entries : List Entry) → AllByRecursion (IsEntry m) entries → (left : ℕ) (store : Store World) → IsNotLost (low_run limits m entries left store)
  never_lost_from limits [] all left store = tt
  never_lost_from limits (e ∷ entries) all left store =
      going all.0.type.results _ (low_run limits m entries)
      (enter_fits (suc limits.stack) limits.pages limits.stack e.function left (entered_as e.kind store) (reverse e.operands) all.0.type all.0.is) (never_lost_from limits entries all.1)

pub never_lost : FormedAreNeverLost
never_lost m formed limits entries all left store = never_lost_from m formed.functions limits entries all left store
