-- The meaning of one code after another.
use Rattle.std.proofs.Common.{◌≡◌, ℕ, zero, suc, ◌+◌, ◌*◌, List, [], ◌∷◌, ◌++◌, reverse, replicate, Bool, true, false, cond, Option, Some, None, Result, Ok, Err, nat_le, ◌&&◌, refl}
use Rattle.std.specs.Prelude.{slice_get, nat_eq, ◌^◌, ◌-◌}
use Rattle.wasm_tree.specs.declared.trap.Trap.{Trap}
use Rattle.wasm_tree.specs.declared.trap.Trap.TheVariants as trap
use Rattle.wasm_tree.specs.declared.types.ValueType.TheVariants.{I32, I64}
use Rattle.wasm_tree.specs.Numeric.{low, binary}
use Rattle.wasm_tree.specs.Exec.{State, Store, with_memory, with_refusal, with_global, with_local, pages_of, if_zero, entry}
use Rattle.low_ir.specs.declared.op.Operand.{Operand}
use Rattle.low_ir.specs.declared.op.Operand.TheVariants.{Local, Word, Long}
use Rattle.low_ir.specs.declared.op.Operation.{Operation}
use Rattle.low_ir.specs.declared.op.Operation.TheVariants.{Copy, IsZero, Compare, Unary, Binary, Convert, Load, Global, Size}
use Rattle.low_ir.specs.Tree.{Code, Stop, Return, Branch, Set, SetGlobal, Grow, GrowStable, Block, Loop, If, BranchIf, Call, CallIndirect, Module}
use Rattle.low_ir.specs.Tree as code
use Rattle.low_ir.specs.Numbering.{host_trap, stable_grow}
use Rattle.low_ir.specs.Meaning.{Called, Gave, Fell, Lost, Calls, Outcome, Ends, Jumps, Gives, Breaks, Astray, tick_of, tick, onward, operand, operands, or_traps, computed, grown, on_return, result_to, unless_refused, chosen, run}
use Rattle.code_sequences.specs.Sequences.{seq, then_run}
use Rattle.code_sequences.specs.Laws.{CodeRunsOn}

module _ {World : Type 0} where
  module _ (g : State World → Outcome World) where
    ticks_of : (n : ℕ) (s : State World) (f f' : State World → Outcome World) → ((s : State World) → then_run (f s) g ≡ f' s) → then_run (tick_of n s f) g ≡ tick_of n s f'
    ticks_of zero s f f' h = refl
    ticks_of (suc n) s f f' h = h _

    ticks : (s : State World) (f f' : State World → Outcome World) → ((s : State World) → then_run (f s) g ≡ f' s) → then_run (tick s f) g ≡ tick s f'
    ticks s f f' h = ticks_of s.left s f f' h

    one : (a : Operand) (s : State World) (f f' : State World → ℕ → Outcome World) → ((s : State World) (v : ℕ) → then_run (f s v) g ≡ f' s v) → then_run (operand a s f) g ≡ operand a s f'
    one (Local x) s f f' h = ticks s _ _ (λ s. h s _)
    one (Word z) s f f' h = ticks s _ _ (λ s. h s _)
    one (Long z) s f f' h = ticks s _ _ (λ s. h s _)

    all : (args : List Operand) (s : State World) (before : List ℕ) (f f' : State World → List ℕ → Outcome World) → ((s : State World) (vs : List ℕ) → then_run (f s vs) g ≡ f' s vs) → then_run (operands args s before f) g ≡ operands args s before f'
    all [] s before f f' h = h s before
    all (a ∷ args) s before f f' h = one a s _ _ (λ s v. all args s (v ∷ before) f f' h)

    result : (r : Result ℕ Trap) (s : State World) (f f' : ℕ → Outcome World) → ((v : ℕ) → then_run (f v) g ≡ f' v) → then_run (or_traps s r f) g ≡ or_traps s r f'
    result (Ok v) s f f' h = h v
    result (Err cause) s f f' h = refl

    tests : (t : Bool) (a a' : Outcome World) (cause : Trap) (store : Store World) → then_run a g ≡ a' → then_run (cond t a (Breaks cause store)) g ≡ cond t a' (Breaks cause store)
    tests true a a' cause store h = h
    tests false a a' cause store h = refl

    either : (t : Bool) (a a' b b' : Outcome World) → then_run a g ≡ a' → then_run b g ≡ b' → then_run (cond t a b) g ≡ cond t a' b'
    either true a a' b b' h k = h
    either false a a' b b' h k = k

    grows : (pages : ℕ) (s : State World) (by : ℕ) (f f' : State World → Outcome World) → ((s : State World) → then_run (f s) g ≡ f' s) → then_run (grown pages s by f) g ≡ grown pages s by f'
    grows pages s by f f' h =
        either (nat_le (pages_of s.store.memory + by) pages && nat_le (pages_of s.store.memory + by) 65536)
        (tick (with_memory s (s.store.memory ++ replicate (65536 * by) 0)) (λ s. tick s (λ s. tick s f)))
        (tick (with_memory s (s.store.memory ++ replicate (65536 * by) 0)) (λ s. tick s (λ s. tick s f')))
        (tick (with_refusal s) (λ s. tick s (λ s. tick s (λ s. tick s (λ s. Breaks trap.Unreachable s.store)))))
        (tick (with_refusal s) (λ s. tick s (λ s. tick s (λ s. tick s (λ s. Breaks trap.Unreachable s.store)))))
        (ticks (with_memory s (s.store.memory ++ replicate (65536 * by) 0)) _ _ (λ s. ticks s _ _ (λ s. ticks s _ _ h)))
        (ticks (with_refusal s) _ _ (λ s. ticks s _ _ (λ s. ticks s _ _ (λ s. ticks s _ _ (λ s. refl)))))

    branches : (label : ℕ) (s : State World) (v : ℕ) (f f' : State World → Outcome World) → ((s : State World) → then_run (f s) g ≡ f' s) → then_run (if_zero v (f s) (Jumps label s)) g ≡ if_zero v (f' s) (Jumps label s)
    branches label s v f f' h = either (nat_eq (low I32 v) 0) (f s) (f' s) (Jumps label s) (Jumps label s) (h s) refl

    computes : (o : Operation) (s : State World) (f f' : State World → ℕ → Outcome World) → ((s : State World) (v : ℕ) → then_run (f s v) g ≡ f' s v) → then_run (computed o s f) g ≡ computed o s f'
    computes (Copy a) s f f' h = one a s f f' h
    computes (IsZero kind a) s f f' h = one a s _ _ (λ s x. ticks s _ _ (λ s. h s _))
    computes (Compare kind o a b) s f f' h = one a s _ _ (λ s x. one b s _ _ (λ s y. ticks s _ _ (λ s. h s _)))
    computes (Unary kind o a) s f f' h = one a s _ _ (λ s x. ticks s _ _ (λ s. h s _))
    computes (Binary kind o a b) s f f' h = one a s _ _ (λ s x. one b s _ _ (λ s y. ticks s _ _ (λ s. result (binary kind o x y) s _ _ (h s))))
    computes (Convert o a) s f f' h = one a s _ _ (λ s x. ticks s _ _ (λ s. h s _))
    computes (Load kind a offset) s f f' h = one a s _ _ (λ s x. ticks s _ _ (λ s. tests _ _ _ trap.Bounds s.store (h s _)))
    computes (Global x) s f f' h = ticks s _ _ (λ s. h s _)
    computes Size s f f' h = ticks s _ _ (λ s. h s _)

    onwards : (o : Outcome World) (f f' : State World → Outcome World) → ((s : State World) → then_run (f s) g ≡ f' s) → then_run (onward o f) g ≡ onward o f'
    onwards (Ends s) f f' h = h s
    onwards (Jumps zero s) f f' h = h s
    onwards (Jumps (suc label) s) f f' h = refl
    onwards (Gives s value) f f' h = refl
    onwards (Breaks cause store) f f' h = refl
    onwards Astray f f' h = refl

    to_result : (x v : Option ℕ) (s : State World) (f f' : State World → Outcome World) → ((s : State World) → then_run (f s) g ≡ f' s) → then_run (result_to x s v f) g ≡ result_to x s v f'
    to_result None None s f f' h = h s
    to_result None (Some v) s f f' h = refl
    to_result (Some x) None s f f' h = ticks s _ _ (λ s. refl)
    to_result (Some x) (Some v) s f f' h = ticks s _ _ (λ s. h _)

    unless : (v : Option ℕ) (s : State World) (f f' : State World → Outcome World) → ((s : State World) → then_run (f s) g ≡ f' s) → then_run (unless_refused s v f) g ≡ unless_refused s v f'
    unless None s f f' h = ticks s _ _ (λ s. ticks s _ _ (λ s. refl))
    unless (Some v) s f f' h =
        ticks s _ _ (λ s. ticks s _ _ (λ s. ticks s _ _ (λ s. either (nat_eq (low I64 v) (2 ^ 64 - 1)) (tick s (λ s. Breaks trap.Unreachable s.store)) (tick s (λ s. Breaks trap.Unreachable s.store)) (f s) (f' s) (ticks s _ _ (λ s. refl)) (h s))))

    returned : (locals : List ℕ) (o : Called World) (f f' : State World → Option ℕ → Outcome World) → ((s : State World) (v : Option ℕ) → then_run (f s v) g ≡ f' s v) → then_run (on_return locals o f) g ≡ on_return locals o f'
    returned locals (Gave left store v) f f' h = h _ v
    returned locals (Fell cause store) f f' h = refl
    returned locals Lost f f' h = refl

  module _ (pages : ℕ) (m : Module) (calls : Calls World) (more : Code) where
    abbrev next : State World → Outcome World
    next s = run pages m calls more s

    finds : (x : ℕ) (found : Option ℕ) (s : State World) (f f' : ℕ → Outcome World) → ((k : ℕ) → then_run (f k) next ≡ f' k) → then_run (chosen m x found s f) next ≡ chosen m x found s f'
    finds x None s f f' h = refl
    finds x (Some k) s f f' h = tests next _ _ _ trap.Indirect s.store (h k)

    pub run_seq : (c : Code) (s : State World) → then_run (run pages m calls c s) next ≡ run pages m calls (seq c more) s
    run_seq Stop s = refl
    run_seq (Return None) s = ticks next s _ _ (λ s. refl)
    run_seq (Return (Some a)) s = one next a s _ _ (λ s v. ticks next s _ _ (λ s. refl))
    run_seq (Branch label) s = ticks next s _ _ (λ s. refl)
    run_seq (code.Trap a b) s = one next a s _ _ (λ s x. one next b s _ _ (λ s y. ticks next s _ _ (λ s. returned next s.locals (calls host_trap s.left s.store (x ∷ y ∷ [])) (λ s v. tick s (λ s. Breaks trap.Unreachable s.store)) (λ s v. tick s (λ s. Breaks trap.Unreachable s.store)) (λ s v. ticks next s (λ s. Breaks trap.Unreachable s.store) (λ s. Breaks trap.Unreachable s.store) (λ s. refl)))))
    run_seq (Set x o rest) s = computes next o s _ _ (λ s v. ticks next s _ _ (λ s. run_seq rest (with_local s x v)))
    run_seq (SetGlobal x a rest) s = one next a s _ _ (λ s v. ticks next s _ _ (λ s. run_seq rest (with_global s x v)))
    run_seq (code.Store kind a offset b rest) s = one next a s _ _ (λ s x. one next b s _ _ (λ s v. ticks next s _ _ (λ s. tests next _ _ _ trap.Bounds s.store (run_seq rest _))))
    run_seq (Grow a rest) s = one next a s _ _ (λ s by. ticks next s _ _ (λ s. grows next pages s (low I32 by) _ _ (run_seq rest)))
    run_seq (GrowStable a rest) s = one next a s _ _ (λ s by. ticks next s _ _ (λ s. returned next s.locals (calls stable_grow s.left s.store (by ∷ [])) (λ s v. unless_refused s v (run pages m calls rest)) (λ s v. unless_refused s v (run pages m calls (seq rest more))) (λ s v. unless next v s (run pages m calls rest) (run pages m calls (seq rest more)) (run_seq rest))))
    run_seq (Block body rest) s = ticks next s _ _ (λ s. onwards next _ _ _ (run_seq rest))
    run_seq (Loop body rest) s = onwards next _ _ _ (run_seq rest)
    run_seq (If a first second rest) s = one next a s _ _ (λ s v. ticks next s _ _ (λ s. onwards next _ _ _ (run_seq rest)))
    run_seq (BranchIf a label rest) s = one next a s _ _ (λ s v. ticks next s _ _ (λ s. branches next label s v _ _ (run_seq rest)))
    run_seq (Call x f args rest) s = all next args s [] _ _ (λ s vs. ticks next s _ _ (λ s. returned next s.locals (calls f s.left s.store (reverse vs)) (λ s v. result_to x s v (run pages m calls rest)) (λ s v. result_to x s v (run pages m calls (seq rest more))) (λ s v. to_result next x v s (run pages m calls rest) (run pages m calls (seq rest more)) (run_seq rest))))
    run_seq (CallIndirect x t args a rest) s =
        all next args s [] _ _ (λ s vs. one next a s _ _ (λ s v. ticks next s _ _ (λ s. finds t (entry (slice_get s.store.table (low I32 v))) s _ _
        (λ f. returned next s.locals (calls f s.left s.store (reverse vs)) (λ s v. result_to x s v (run pages m calls rest)) (λ s v. result_to x s v (run pages m calls (seq rest more))) (λ s v. to_result next x v s (run pages m calls rest) (run pages m calls (seq rest more)) (run_seq rest))))))

pub run_on : (World : Type 0) → CodeRunsOn World
run_on World pages m calls more c s = run_seq pages m calls more c s
