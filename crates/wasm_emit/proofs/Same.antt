-- The emitted code has the meaning of the low code, step by step.
use Rattle.std.proofs.Common.{◌≡◌, ℕ, zero, suc, ◌+◌, ◌-◌, ◌*◌, ◌^◌, ◌%◌, ◌≤◌, List, [], ◌∷◌, ◌++◌, length, reverse, replicate, Bool, true, false, ◌&&◌, Option, Some, None, nat_le, nat_eq, cond, slice_get, slice_index, Result, Ok, Err, negsuc, add-zero, refl, sym, ap, ◌∙◌, subst, arith}
use Rattle.std.proofs.lemmas.Bool.Decides.{nat_tests}
use Rattle.std.proofs.lemmas.List.{append-nil}
use Rattle.std.proofs.Math.Nat.{mod-eq_of_lt}
use Rattle.wasm_tree.specs.declared.trap.Trap.{Trap}
use Rattle.wasm_tree.specs.declared.trap.Trap.TheVariants as trap
use Rattle.wasm_tree.specs.declared.types.ValueType.{ValueType}
use Rattle.wasm_tree.specs.declared.types.ValueType.TheVariants.{I32, I64}
use Rattle.wasm_tree.specs.declared.types.FunctionType.{FunctionType}
use Rattle.wasm_tree.specs.Imports.{bytes_type}
use Rattle.wasm_tree.specs.declared.op.Plain.TheVariants as plain
use Rattle.wasm_tree.specs.declared.op.Comparison.TheVariants.{Eq}
use Rattle.wasm_tree.specs.declared.module_parts.Module.{Module as WasmModule}
use Rattle.wasm_tree.specs.Code as wasm
use Rattle.wasm_tree.specs.Rules.{load_align, store_align, type_of as wasm_type_of}
use Rattle.wasm_tree.specs.Numeric.{low, compare, flag}
use Rattle.wasm_tree.specs.Frames.{optional}
use Rattle.wasm_tree.specs.Exec as machine
use Rattle.wasm_tree.specs.Exec.{ExecutionLimits, Store, State, Falls, Branches, Returns, Traps, Stuck, Back, Goes, Fails, pages_of, then_do, or_fails, if_zero, with_memory, with_refusal, most_pages, same_type, exec, entry}
use Rattle.low_ir.specs.declared.op.Operand.{Operand}
use Rattle.low_ir.specs.declared.op.Operand.TheVariants.{Local, Word, Long}
use Rattle.low_ir.specs.declared.op.Operation.{Operation}
use Rattle.low_ir.specs.declared.op.Operation.TheVariants.{Copy, IsZero, Compare, Unary, Binary, Convert, Load, Global, Size}
use Rattle.low_ir.specs.Tree.{Code, Stop, Return, Branch, Set, SetGlobal, Grow, GrowStable, Block, Loop, If, BranchIf, Call, CallIndirect, Module}
use Rattle.low_ir.specs.Tree as code
use Rattle.low_ir.specs.Numbering.{all_types, type_of, stable_grow, host_trap}
use Rattle.low_ir.specs.Meaning.{Outcome, Ends, Jumps, Gives, Breaks, Astray, Called, Gave, Fell, Lost, Calls, tick_of, tick, onward, again, turns, operand, operands, or_traps, computed, on_return, result_to, unless_refused, chosen, run}
use Rattle.low_ir.specs.Formed.{IsFormed}
use Rattle.wasm_emit.specs.Trees.{push, push_all, compute, take_result, unless, emit}
use Rattle.low_ir.proofs.Numbers.{stable_grow_type, stable_grow_typed, host_trap_typed}
use Rattle.wasm_emit.proofs.Asked.{GivesNone, HasArity, has_arity, no_results, IsAlike, alike}

-- An outcome of low code as one of the machine: code leaves no operands.
abbrev pub whole : {World : Type 0} → Outcome World → machine.Outcome World
whole (Ends s) = Falls s []
whole (Jumps label s) = Branches label s []
whole (Gives s value) = Returns s (optional value)
whole (Breaks cause store) = Traps cause store
whole Astray = Stuck

-- What a call gave, over the caller's operands below.
abbrev pub over : {World : Type 0} → List ℕ → Called World → machine.Called World
over below (Gave left store value) = Back left store (optional value ++ below)
over below (Fell cause store) = machine.Fell cause store
over below Lost = machine.Lost

ticked_of : {World : Type 0} (n : ℕ) (s : State World) (f : State World → machine.Outcome World) (g : State World → Outcome World) → ((s : State World) → f s ≡ whole (g s)) → machine.tick_of n s f ≡ whole (tick_of n s g)
ticked_of zero s f g h = refl
ticked_of (suc left) s f g h = h (record { left = left; store = s.store; locals = s.locals })

-- Whatever follows a step is the same.
pub ticked : {World : Type 0} (s : State World) (f : State World → machine.Outcome World) (g : State World → Outcome World) → ((s : State World) → f s ≡ whole (g s)) → machine.tick s f ≡ whole (tick s g)
ticked s f g h = ticked_of s.left s f g h

left_by : {World : Type 0} (o : Outcome World) (f : State World → List ℕ → machine.Outcome World) (g : State World → Outcome World) → ((s : State World) → f s [] ≡ whole (g s)) → machine.leave 0 [] (whole o) f ≡ whole (onward o g)
left_by (Ends s) f g h = h s
left_by (Jumps zero s) f g h = h s
left_by (Jumps (suc label) s) f g h = refl
left_by (Gives s value) f g h = refl
left_by (Breaks cause store) f g h = refl
left_by Astray f g h = refl

again_is : {World : Type 0} (o : Outcome World) (f : State World → machine.Outcome World) (g : State World → Outcome World) → ((s : State World) → f s ≡ whole (g s)) → machine.again (whole o) f ≡ whole (again o g)
again_is (Ends s) f g h = refl
again_is (Jumps zero s) f g h = h s
again_is (Jumps (suc label) s) f g h = refl
again_is (Gives s value) f g h = refl
again_is (Breaks cause store) f g h = refl
again_is Astray f g h = refl

turns_are : {World : Type 0} (n : ℕ) (f : State World → machine.Outcome World) (g : State World → Outcome World) → ((s : State World) → f s ≡ whole (g s)) → (s : State World) → machine.turns n f s ≡ whole (turns n g s)
turns_are zero f g h s = refl
turns_are (suc n) f g h s = ticked s _ _ (λ s. ap (λ o. machine.again o (machine.turns n f)) (h s) ∙ again_is (g s) (machine.turns n f) (turns n g) (turns_are n f g h))

if_zero_is : {World : Type 0} (v : ℕ) (p q : machine.Outcome World) (a b : Outcome World) → p ≡ whole a → q ≡ whole b → if_zero v p q ≡ whole (if_zero v a b)
if_zero_is v p q a b h k = by (nat_eq (low I32 v) 0)
  where
    by : (t : Bool) → cond t p q ≡ whole (cond t a b)
    by true = h
    by false = k

leave_tick : {World : Type 0} (n : ℕ) (s : State World) (f : State World → machine.Outcome World) (next : State World → List ℕ → machine.Outcome World) → machine.leave 0 [] (machine.tick_of n s f) next ≡ machine.tick_of n s (λ s. machine.leave 0 [] (f s) next)
leave_tick zero s f next = refl
leave_tick (suc n) s f next = refl

-- No number of pages is that of a refusal.
no_refusal : (pages : ℕ) → pages ≤ 65536 → compare I32 Eq pages (2 ^ 32 - 1) ≡ 0
no_refusal pages h =
    let small : pages % 2 ^ 32 ≡ pages = mod-eq_of_lt (omega (arith, h)) in
    let differs : nat_eq pages (2 ^ 32 - 1) ≡ false = grind (arith, nat_tests) in
    rw (small, differs) refl

few : (pages by : ℕ) → nat_le (pages + by) 65536 ≡ true → pages ≤ 65536
few pages by e = grind (arith, nat_tests)

module _ {World : Type 0} (limits : ExecutionLimits) (w : WasmModule) (m : Module) (calls : machine.Calls World) (low_calls : Calls World) where
  pushed : (a : Operand) (k : wasm.Code) (s : State World) (values : List ℕ) (g : State World → ℕ → Outcome World) → ((s : State World) (v : ℕ) → exec limits w calls k s (v ∷ values) ≡ whole (g s v)) → exec limits w calls (push a k) s values ≡ whole (operand a s g)
  pushed (Local x) k s values g h = ticked s _ _ (λ s. h s (slice_index s.locals x))
  pushed (Word z) k s values g h = ticked s _ _ (λ s. h s _)
  pushed (Long z) k s values g h = ticked s _ _ (λ s. h s _)

  pushed_all : (args : List Operand) (k : wasm.Code) (s : State World) (values : List ℕ) (g : State World → List ℕ → Outcome World) → ((s : State World) (vs : List ℕ) → length vs ≡ length args + length values → exec limits w calls k s vs ≡ whole (g s vs))
      → exec limits w calls (push_all args k) s values ≡ whole (operands args s values g)
  pushed_all [] k s values g h = h s values (omega arith)
  pushed_all (a ∷ args) k s values g h = pushed a (push_all args k) s values _ (λ s v. pushed_all args k s (v ∷ values) g (λ s vs e. h s vs (omega arith)))

  answered : (r : Result ℕ Trap) (k : wasm.Code) (s : State World) (g : ℕ → Outcome World) → ((v : ℕ) → exec limits w calls k s (v ∷ []) ≡ whole (g v)) → then_do s (or_fails s r []) (exec limits w calls k) ≡ whole (or_traps s r g)
  answered (Ok v) k s g h = h v
  answered (Err cause) k s g h = refl

  tested : (t : Bool) (s after : State World) (values : List ℕ) (cause : Trap) (next : State World → List ℕ → machine.Outcome World) (g : Outcome World) → next after values ≡ whole g
      → then_do s (cond t (Goes after values) (Fails cause)) next ≡ whole (cond t g (Breaks cause s.store))
  tested true s after values cause next g h = h
  tested false s after values cause next g h = refl

  computes : (o : Operation) (k : wasm.Code) (s : State World) (g : State World → ℕ → Outcome World) → ((s : State World) (v : ℕ) → exec limits w calls k s (v ∷ []) ≡ whole (g s v)) → exec limits w calls (compute o k) s [] ≡ whole (computed o s g)
  computes (Copy a) k s g h = pushed a k s [] g h
  computes (IsZero kind a) k s g h = pushed a (wasm.Then (plain.EqualsZero kind) k) s [] _ (λ s x. ticked s _ _ (λ s. h s _))
  computes (Compare kind o a b) k s g h =
      pushed a (push b (wasm.Then (plain.Compare kind o) k)) s [] _ (λ s x. pushed b (wasm.Then (plain.Compare kind o) k) s (x ∷ []) _ (λ s y. ticked s _ _ (λ s. h s _)))
  computes (Unary kind o a) k s g h = pushed a (wasm.Then (plain.Unary kind o) k) s [] _ (λ s x. ticked s _ _ (λ s. h s _))
  computes (Binary kind o a b) k s g h =
      pushed a (push b (wasm.Then (plain.Binary kind o) k)) s [] _ (λ s x. pushed b (wasm.Then (plain.Binary kind o) k) s (x ∷ []) _ (λ s y. ticked s _ _ (λ s. answered _ k s (g s) (h s))))
  computes (Convert o a) k s g h = pushed a (wasm.Then (plain.Convert o) k) s [] _ (λ s x. ticked s _ _ (λ s. h s _))
  computes (Load kind a offset) k s g h =
      pushed a (wasm.Then (plain.Load kind (record { align = load_align kind; offset = offset })) k) s [] _ (λ s x. ticked s _ _ (λ s. tested _ s s _ trap.Bounds (exec limits w calls k) _ (h s _)))
  computes (Global x) k s g h = ticked s _ _ (λ s. h s _)
  computes Size k s g h = ticked s _ _ (λ s. h s _)

  -- What the two meanings of calls have in common.
  pub record SameCalls : Type 0 where
    pub types : (f : ℕ) → wasm_type_of w f ≡ type_of m f
    pub same : (f left : ℕ) (store : Store World) (values below : List ℕ) (t : FunctionType) → type_of m f ≡ Some t → length values ≡ length t.params
        → calls f left store (values ++ below) ≡ over below (low_calls f left store (reverse values))
    pub none : (f left : ℕ) (store : Store World) (values : List ℕ) (t : FunctionType) → type_of m f ≡ Some t → t.results ≡ [] → GivesNone (low_calls f left store values)

  -- The operands of a call are all that there is.
  called : (c : SameCalls) (f left : ℕ) (store : Store World) (values : List ℕ) (t : FunctionType) → type_of m f ≡ Some t → length values ≡ length t.params
      → calls f left store values ≡ over [] (low_calls f left store (reverse values))
  called c f left store values t is n = ap (calls f left store) (sym (append-nil values)) ∙ c.same f left store values [] t is n

  returned : (locals : List ℕ) (o : Called World) (f : State World → List ℕ → machine.Outcome World) (g : State World → Option ℕ → Outcome World)
      → ((s : State World) (left : ℕ) (store : Store World) (value : Option ℕ) → o ≡ Gave left store value → f s (optional value ++ []) ≡ whole (g s value))
      → machine.after_call locals (over [] o) f ≡ whole (on_return locals o g)
  returned locals (Gave left store value) f g h = h (record { left = left; store = store; locals = locals }) left store value refl
  returned locals (Fell cause store) f g h = refl
  returned locals Lost f g h = refl

  resulted : (result value : Option ℕ) (k : wasm.Code) (rest : Code) (o : Called World) (left : ℕ) (store : Store World) → (result ≡ None → GivesNone o) → o ≡ Gave left store value → ((s : State World) → exec limits w calls k s [] ≡ whole (run limits.pages m low_calls rest s))
      → (s : State World) → exec limits w calls (take_result result k) s (optional value ++ []) ≡ whole (result_to result s value (run limits.pages m low_calls rest))
  resulted None None k rest o left store n is h s = h s
  resulted None (Some v) k rest o left store n is h s = absurd (subst GivesNone is (n refl))
  resulted (Some x) None k rest o left store n is h s = ticked s _ (λ s. Astray) (λ s. refl)
  resulted (Some x) (Some v) k rest o left store n is h s = ticked s _ _ (λ s. h _)

  breaks : (k : wasm.Code) (t : State World) → machine.leave 0 [] (exec limits w calls (wasm.Unreachable wasm.Stop) t []) (exec limits w calls k) ≡ whole (tick t (λ t. Breaks trap.Unreachable t.store))
  breaks k t = leave_tick t.left t (λ t. Traps trap.Unreachable t.store) (exec limits w calls k) ∙ ticked t (λ t. Traps trap.Unreachable t.store) (λ t. Breaks trap.Unreachable t.store) (λ t. refl)

  -- Growth of the memory: what follows a refusal, and what follows a count of pages.

  refused : (s : State World) (k : wasm.Code) → exec limits w calls (unless I32 (plain.I32Const (negsuc 0)) k) (with_refusal s) ((2 ^ 32 - 1) ∷ [])
      ≡ whole (tick (with_refusal s) (λ s. tick s (λ s. tick s (λ s. tick s (λ s. Breaks trap.Unreachable s.store)))))
  refused s k =
      ticked (with_refusal s) _ (λ s. tick s (λ s. tick s (λ s. tick s (λ s. Breaks trap.Unreachable s.store))))
      (λ t. ticked t _ (λ s. tick s (λ s. tick s (λ s. Breaks trap.Unreachable s.store))) (λ t. ticked t _ (λ s. tick s (λ s. Breaks trap.Unreachable s.store)) (breaks k)))

  grows : (a b : Bool) (s : State World) (by : ℕ) (k : wasm.Code) (g : State World → Outcome World) → (b ≡ true → pages_of s.store.memory ≤ 65536) → ((s : State World) → exec limits w calls k s [] ≡ whole (g s))
      → then_do s (cond (a && b) (Goes (with_memory s (s.store.memory ++ replicate (65536 * by) 0)) (pages_of s.store.memory ∷ [])) (Goes (with_refusal s) ((2 ^ 32 - 1) ∷ []))) (exec limits w calls (unless I32 (plain.I32Const (negsuc 0)) k))
      ≡ whole (cond (a && b) (tick (with_memory s (s.store.memory ++ replicate (65536 * by) 0)) (λ s. tick s (λ s. tick s g))) (tick (with_refusal s) (λ s. tick s (λ s. tick s (λ s. tick s (λ s. Breaks trap.Unreachable s.store))))))
  grows true true s by k g small h =
      ticked (with_memory s (s.store.memory ++ replicate (65536 * by) 0)) _ _ (λ t. ticked t _ _ (λ t. ticked t _ _ (λ t.
      ap (λ v. machine.leave 0 [] (if_zero v (Falls t []) (exec limits w calls (wasm.Unreachable wasm.Stop) t [])) (exec limits w calls k)) (no_refusal (pages_of s.store.memory) (small refl)) ∙ h t)))
  grows true false s by k g small h = refused s k
  grows false b s by k g small h = refused s k

  -- Growth of the stable memory gave a value, or none.
  stable_grows : (value : Option ℕ) (k : wasm.Code) (g : State World → Outcome World) → ((s : State World) → exec limits w calls k s [] ≡ whole (g s)) → (s : State World)
      → exec limits w calls (unless I64 (plain.I64Const (negsuc 0)) k) s (optional value ++ []) ≡ whole (unless_refused s value g)
  stable_grows None k g h s = ticked s _ (λ s. tick s (λ s. Astray)) (λ s. ticked s _ (λ s. Astray) (λ s. refl))
  stable_grows (Some v) k g h s = ticked s _ _ (λ s. ticked s _ _ (λ s. ticked s _ _ (λ s. by s (nat_eq (low I64 v) (2 ^ 64 - 1)))))
    where
      by : (s : State World) (t : Bool) → machine.leave 0 [] (if_zero (flag t) (Falls s []) (exec limits w calls (wasm.Unreachable wasm.Stop) s [])) (exec limits w calls k) ≡ whole (cond t (tick s (λ s. Breaks trap.Unreachable s.store)) (g s))
      by s true = breaks k s
      by s false = h s

  indirectly : (found : Option ℕ) (x : ℕ) (s : State World) (f : ℕ → machine.Outcome World) (g : ℕ → Outcome World) → SameCalls → w.types ≡ all_types m
      → ((n : ℕ) → same_type (type_of m n) (slice_get (all_types m) x) ≡ true → f n ≡ whole (g n)) → machine.indirect w x found s f ≡ whole (chosen m x found s g)
  indirectly None x s f g c e h = refl
  indirectly (Some n) x s f g c e h =
      (λ i. cond (same_type (c.types n i) (slice_get (e i) x)) (f n) (Traps trap.Indirect s.store)) ∙ by (same_type (type_of m n) (slice_get (all_types m) x)) refl
    where
      by : (t : Bool) → same_type (type_of m n) (slice_get (all_types m) x) ≡ t → cond t (f n) (Traps trap.Indirect s.store) ≡ whole (cond t (g n) (Breaks trap.Indirect s.store))
      by true e = h n e
      by false e = refl

  -- The whole meaning, by recursion on the code.
  module _ (locals results : List ValueType) (c : SameCalls) (e : w.types ≡ all_types m) (most : most_pages w.memories ≡ 65536) where
    pub same : (labels : ℕ) (owed : List ValueType) (k : Code) → IsFormed m locals results labels owed k → (s : State World) → exec limits w calls (emit k) s [] ≡ whole (run limits.pages m low_calls k s)
    same labels owed Stop is s = refl
    same labels owed (Return None) is s = ticked s _ _ (λ s. refl)
    same labels owed (Return (Some v)) is s = pushed v (wasm.Return wasm.Stop) s [] _ (λ s v. ticked s _ _ (λ s. refl))
    same labels owed (Branch label) is s = ticked s _ _ (λ s. refl)
    same labels owed (code.Trap a b) is s =
        pushed a (push b (wasm.Call host_trap (wasm.Unreachable wasm.Stop))) s [] _ (λ s x. pushed b (wasm.Call host_trap (wasm.Unreachable wasm.Stop)) s (x ∷ []) _ (λ s y. ticked s _ _ (λ s.
        ap (λ o. machine.after_call s.locals o (exec limits w calls (wasm.Unreachable wasm.Stop))) (called c host_trap s.left s.store (y ∷ x ∷ []) bytes_type (host_trap_typed m) refl)
        ∙ returned s.locals (low_calls host_trap s.left s.store (x ∷ y ∷ [])) (exec limits w calls (wasm.Unreachable wasm.Stop)) (λ s v. tick s (λ s. Breaks trap.Unreachable s.store))
        (λ s left store value there. ticked s _ (λ s. Breaks trap.Unreachable s.store) (λ s. refl)))))
    same labels owed (Set x o rest) is s = computes o (wasm.Then (plain.LocalSet x) (emit rest)) s _ (λ s v. ticked s _ _ (λ s. same labels owed rest is.3 _))
    same labels owed (SetGlobal x v rest) is s = pushed v (wasm.Then (plain.GlobalSet x) (emit rest)) s [] _ (λ s v. ticked s _ _ (λ s. same labels owed rest is.3 _))
    same labels owed (code.Store kind x offset v rest) is s =
        let store : wasm.Code = wasm.Then (plain.Store kind (record { align = store_align kind; offset = offset })) (emit rest) in
        pushed x (push v store) s [] _ (λ s x. pushed v store s (x ∷ []) _ (λ s v. ticked s _ _ (λ s. tested _ s _ [] trap.Bounds (exec limits w calls (emit rest)) _ (same labels owed rest is.3 _))))
    same labels owed (Grow by rest) is s =
        pushed by (wasm.Then plain.MemoryGrow (unless I32 (plain.I32Const (negsuc 0)) (emit rest))) s [] _ (λ s v. ticked s _ _ (λ s.
        ap (λ most. then_do s (cond (nat_le (pages_of s.store.memory + low I32 v) limits.pages && nat_le (pages_of s.store.memory + low I32 v) most) (Goes (with_memory s (s.store.memory ++ replicate (65536 * low I32 v) 0)) (pages_of s.store.memory ∷ [])) (Goes (with_refusal s) ((2 ^ 32 - 1) ∷ []))) (exec limits w calls (unless I32 (plain.I32Const (negsuc 0)) (emit rest)))) most
        ∙ grows (nat_le (pages_of s.store.memory + low I32 v) limits.pages) (nat_le (pages_of s.store.memory + low I32 v) 65536) s (low I32 v) (emit rest) _ (few (pages_of s.store.memory) (low I32 v)) (same labels owed rest is.1)))
    same labels owed (GrowStable by rest) is s =
        pushed by (wasm.Call stable_grow (unless I64 (plain.I64Const (negsuc 0)) (emit rest))) s [] _ (λ s v. ticked s _ _ (λ s.
        ap (λ o. machine.after_call s.locals o (exec limits w calls (unless I64 (plain.I64Const (negsuc 0)) (emit rest)))) (called c stable_grow s.left s.store (v ∷ []) stable_grow_type (stable_grow_typed m) refl)
        ∙ returned s.locals (low_calls stable_grow s.left s.store (v ∷ [])) (exec limits w calls (unless I64 (plain.I64Const (negsuc 0)) (emit rest))) (λ s v. unless_refused s v (run limits.pages m low_calls rest))
        (λ s left store value there. stable_grows value (emit rest) (run limits.pages m low_calls rest) (same labels owed rest is.1) s)))
    same labels owed (Block body rest) is s =
        ticked s _ _ (λ s. ap (λ o. machine.leave 0 [] o (exec limits w calls (emit rest))) (same (suc labels) [] body is.0 s) ∙ left_by _ _ _ (same labels owed rest is.1))
    same labels owed (Loop body rest) is s =
        ap (λ o. machine.leave 0 [] o (exec limits w calls (emit rest))) (turns_are (suc s.left) (λ s. exec limits w calls (emit body) s []) (run limits.pages m low_calls body) (same (suc labels) [] body is.0) s)
        ∙ left_by _ _ _ (same labels owed rest is.1)
    same labels owed (If v first second rest) is s =
        pushed v (wasm.IfElse None (emit first) (emit second) (emit rest)) s [] _ (λ s v. ticked s _ _ (λ s.
        ap (λ o. machine.leave 0 [] o (exec limits w calls (emit rest))) (if_zero_is v _ _ _ _ (same (suc labels) [] second is.2 s) (same (suc labels) [] first is.1 s)) ∙ left_by _ _ _ (same labels owed rest is.3)))
    same labels owed (BranchIf v label rest) is s =
        pushed v (wasm.BrIf label (emit rest)) s [] _ (λ s v. ticked s _ _ (λ s. if_zero_is v _ _ _ _ (same labels owed rest is.2 s) refl))
    same labels owed (Call result f args rest) is s =
        let a : HasArity (type_of m f) (length args) result = has_arity locals (type_of m f) args result is.0 in
        pushed_all args (wasm.Call f (take_result result (emit rest))) s [] _ (λ s values n. ticked s _ _ (λ s.
        ap (λ o. machine.after_call s.locals o (exec limits w calls (take_result result (emit rest)))) (called c f s.left s.store values a.type a.is (n ∙ add-zero _ ∙ a.arity))
        ∙ returned s.locals (low_calls f s.left s.store (reverse values)) (exec limits w calls (take_result result (emit rest))) (λ s v. result_to result s v (run limits.pages m low_calls rest)) (λ t left store value there.
        resulted result value (emit rest) rest (low_calls f s.left s.store (reverse values)) left store (λ none. c.none f s.left s.store (reverse values) a.type a.is (no_results _ _ a.results none)) there (same labels owed rest is.1) t)))
    same labels owed (CallIndirect result x args v rest) is s =
        let a : HasArity (slice_get (all_types m) x) (length args) result = has_arity locals (slice_get (all_types m) x) args result is.0 in
        pushed_all args (push v (wasm.CallIndirect x (take_result result (emit rest)))) s [] _ (λ s values n.
        pushed v (wasm.CallIndirect x (take_result result (emit rest))) s values _ (λ s v. ticked s _ _ (λ s.
        indirectly (entry (slice_get s.store.table (low I32 v))) x s _ _ c e (λ f there.
        let found : IsAlike m f a.type = alike m f x a.type a.is there in
        ap (λ o. machine.after_call s.locals o (exec limits w calls (take_result result (emit rest)))) (called c f s.left s.store values found.type found.is (n ∙ add-zero _ ∙ a.arity ∙ sym found.params))
        ∙ returned s.locals (low_calls f s.left s.store (reverse values)) (exec limits w calls (take_result result (emit rest))) (λ s v. result_to result s v (run limits.pages m low_calls rest)) (λ t left store value given.
        resulted result value (emit rest) rest (low_calls f s.left s.store (reverse values)) left store (λ none. c.none f s.left s.store (reverse values) found.type found.is (found.none (no_results _ _ a.results none))) given (same labels owed rest is.2) t)))))
