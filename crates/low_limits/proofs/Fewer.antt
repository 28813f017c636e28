-- With fewer steps, stack words or pages an execution ends as it would, or for want of these, at a moment that it passes.
use Rattle.std.proofs.Common.{◌≡◌, ◌⊎◌, inl, inr, ℕ, zero, suc, ◌+◌, ◌-◌, ◌*◌, ◌^◌, ◌<◌, ◌≤◌, List, [], ◌∷◌, ◌++◌, length, reverse, replicate, nat_eq, Bool, true, false, ◌&&◌, cond, nat_lt, nat_le, Option, Some, None, slice_get, slice_index, Result, Ok, Err, refl, sym, ap, ◌∙◌, subst, arith}
use Rattle.std.proofs.lemmas.Bool.Decides.{nat_tests}
use Rattle.wasm_tree.specs.declared.trap.Trap.{Trap}
use Rattle.wasm_tree.specs.declared.trap.Trap.TheVariants as trap
use Rattle.wasm_tree.specs.declared.types.ValueType.TheVariants.{I32, I64}
use Rattle.wasm_tree.specs.declared.types.FunctionType.{FunctionType}
use Rattle.wasm_tree.specs.Numeric.{low, equals_zero, compare, unary, binary, convert}
use Rattle.wasm_tree.specs.Exec.{Store, State, HostAnswer, Answers, Refuses, pages_of, load_size, store_size, with_memory, with_refusal, with_local, with_global, if_zero, same_type, entry}
use Rattle.ic0_world.specs.declared.world.World.{World}
use Rattle.module_laws.specs.Prints.{IsLater}
use Rattle.module_laws.proofs.HostPrints.{now}
use Rattle.low_ir.specs.declared.op.Operand.{Operand}
use Rattle.low_ir.specs.declared.op.Operand.TheVariants.{Local, Word, Long}
use Rattle.low_ir.specs.declared.op.Operation.{Operation}
use Rattle.low_ir.specs.declared.op.Operation.TheVariants.{Copy, IsZero, Compare, Unary, Binary, Convert, Load, Global, Size}
use Rattle.low_ir.specs.Tree.{Code, Stop, Return, Branch, Set, SetGlobal, Grow, GrowStable, Block, Loop, If, BranchIf, Call, CallIndirect, Function, Module}
use Rattle.low_ir.specs.Tree as code
use Rattle.low_ir.specs.Numbering.{all_types, type_of, defined, stable_grow, host_trap}
use Rattle.low_ir.specs.Meaning.{Outcome, Ends, Jumps, Gives, Breaks, Astray, Called, Gave, Fell, Lost, Calls, tick_of, tick, onward, again, turns, operand, operands, or_traps, loaded, stored, computed, grown, on_return, result_to, unless_refused, chosen, run}
use Rattle.low_ir.specs.Frames.{words, finish, host_gives, enter_as, enter}
use Rattle.low_execution.specs.Host.{low_host}
use Rattle.low_limits.proofs.Later.{at, EndsLater, CallIsLater, CallsAreLater, GoesOn, tick_of_later, tick_later, operand_later, operands_later, traps_later, either_later, loaded_later, stored_later, zero_later, onward_later, again_later, turns_later, return_later, result_later, refused_later, from_later, grown_later, chosen_later, run_later, finish_later, enter_as_later, enter_later}

-- What an execution lacked, where these say that there were fewer steps, stack words and pages.
abbrev pub IsWanting : Type 0 → Type 0 → Type 0 → Trap → Store World → Type 0
IsWanting S W P trap.Steps store = S ⊎ ((store.refused ≡ true) × P)
IsWanting S W P trap.Stack store = W
IsWanting S W P trap.Unreachable store = (store.refused ≡ true) × P
IsWanting S W P trap.Bounds store = ⊥
IsWanting S W P trap.DivideByZero store = ⊥
IsWanting S W P trap.Overflow store = ⊥
IsWanting S W P trap.Indirect store = ⊥
IsWanting S W P trap.Host store = ⊥

-- A scant execution beside an ample one, which has extra steps.
module _ (m : Module) (extra : ℕ) (S W P : Type 0) (fewer_steps : 0 < extra → S) where
  abbrev pub more : State World → State World
  more s = at (s.left + extra) s

  abbrev pub Close : Outcome World → Outcome World → Type 0
  Close (Ends s) a = a ≡ Ends (more s)
  Close (Jumps label s) a = a ≡ Jumps label (more s)
  Close (Gives s value) a = a ≡ Gives (more s) value
  Close (Breaks cause store) a = (a ≡ Breaks cause store) ⊎ (IsWanting S W P cause store × EndsLater store.world a)
  Close Astray a = a ≡ Astray

  abbrev pub CallClose : Called World → Called World → Type 0
  CallClose (Gave left store value) a = a ≡ Gave (left + extra) store value
  CallClose (Fell cause store) a = (a ≡ Fell cause store) ⊎ (IsWanting S W P cause store × CallIsLater store.world a)
  CallClose Lost a = a ≡ Lost

  abbrev Follows : (State World → Outcome World) → (State World → Outcome World) → Type 0
  Follows f g = (s : State World) → Close (f s) (g (more s))

  close_tick_of : (n k : ℕ) (s : State World) (f g : State World → Outcome World) → ((left : ℕ) → EndsLater s.store.world (g (at left s))) → ((left : ℕ) → Close (f (at left s)) (g (at (left + extra) s))) → Close (tick_of n s f) (tick_of (n + extra) (at k s) g)
  close_tick_of zero k s f g h c = out extra refl
    where
      out : (x : ℕ) → extra ≡ x → Close (Breaks trap.Steps s.store) (tick_of (0 + extra) (at k s) g)
      out zero e = let none : 0 + extra ≡ 0 = omega (arith, e) in inl (ap (λ x. tick_of x (at k s) g) none)
      out (suc x) e = inr (inl (fewer_steps (omega (arith, e))), tick_of_later (0 + extra) s.store.world (at k s) g (now s.store.world) h)
  close_tick_of (suc n) k s f g h c = let e : suc n + extra ≡ suc (n + extra) = omega arith in subst (λ x. Close (f (at n s)) (tick_of x (at k s) g)) (sym e) (c n)

  close_tick : (s : State World) (f g : State World → Outcome World) → ((left : ℕ) → EndsLater s.store.world (g (at left s))) → ((left : ℕ) → Close (f (at left s)) (g (at (left + extra) s))) → Close (tick s f) (tick (more s) g)
  close_tick s f g h c = close_tick_of s.left (s.left + extra) s f g h c

  close_operand : (a : Operand) (s : State World) (f g : State World → ℕ → Outcome World) → ((left v : ℕ) → EndsLater s.store.world (g (at left s) v)) → ((left v : ℕ) → Close (f (at left s) v) (g (at (left + extra) s) v)) → Close (operand a s f) (operand a (more s) g)
  close_operand (Local x) s f g h c = close_tick s _ (λ t. g t (slice_index t.locals x)) (λ left. h left _) (λ left. c left _)
  close_operand (Word z) s f g h c = close_tick s _ (λ t. g t _) (λ left. h left _) (λ left. c left _)
  close_operand (Long z) s f g h c = close_tick s _ (λ t. g t _) (λ left. h left _) (λ left. c left _)

  close_operands : (args : List Operand) (s : State World) (before : List ℕ) (f g : State World → List ℕ → Outcome World) → ((left : ℕ) (vs : List ℕ) → EndsLater s.store.world (g (at left s) vs)) → ((left : ℕ) (vs : List ℕ) → Close (f (at left s) vs) (g (at (left + extra) s) vs))
      → Close (operands args s before f) (operands args (more s) before g)
  close_operands [] s before f g h c = c s.left before
  close_operands (a ∷ args) s before f g h c =
      close_operand a s _ (λ t v. operands args t (v ∷ before) g) (λ left v. operands_later s.store.world args (at left s) (v ∷ before) g (now s.store.world) h) (λ left v. close_operands args (at left s) (v ∷ before) f g h c)

  close_traps : (r : Result ℕ Trap) (s : State World) (f g : ℕ → Outcome World) → ((v : ℕ) → Close (f v) (g v)) → Close (or_traps s r f) (or_traps (more s) r g)
  close_traps (Ok v) s f g c = c v
  close_traps (Err cause) s f g c = inl refl

  close_either : (t : Bool) (a b c d : Outcome World) → Close a c → Close b d → Close (cond t a b) (cond t c d)
  close_either true a b c d p q = p
  close_either false a b c d p q = q

  close_computed : (o : Operation) (s : State World) (f g : State World → ℕ → Outcome World) → ((left v : ℕ) → EndsLater s.store.world (g (at left s) v)) → ((left v : ℕ) → Close (f (at left s) v) (g (at (left + extra) s) v)) → Close (computed o s f) (computed o (more s) g)
  close_computed (Copy a) s f g h c = close_operand a s f g h c
  close_computed (IsZero kind a) s f g h c =
      close_operand a s _ _ (λ left u. tick_later s.store.world (at left s) _ (now s.store.world) (λ left. h left _)) (λ left u. close_tick (at left s) _ (λ t. g t (equals_zero kind u)) (λ left. h left _) (λ left. c left _))
  close_computed (Compare kind o a b) s f g h c =
      close_operand a s _ _ (λ left u. operand_later s.store.world b (at left s) _ (now s.store.world) (λ left v. tick_later s.store.world (at left s) _ (now s.store.world) (λ left. h left _)))
      (λ left u. close_operand b (at left s) _ _ (λ left v. tick_later s.store.world (at left s) _ (now s.store.world) (λ left. h left _)) (λ left v. close_tick (at left s) _ (λ t. g t (compare kind o u v)) (λ left. h left _) (λ left. c left _)))
  close_computed (Unary kind o a) s f g h c =
      close_operand a s _ _ (λ left u. tick_later s.store.world (at left s) _ (now s.store.world) (λ left. h left _)) (λ left u. close_tick (at left s) _ (λ t. g t (unary kind o u)) (λ left. h left _) (λ left. c left _))
  close_computed (Binary kind o a b) s f g h c =
      close_operand a s _ _ (λ left u. operand_later s.store.world b (at left s) _ (now s.store.world) (λ left v. tick_later s.store.world (at left s) _ (now s.store.world) (λ left. traps_later s.store.world (binary kind o u v) (at left s) (g (at left s)) (now s.store.world) (h left))))
      (λ left u. close_operand b (at left s) _ _ (λ left v. tick_later s.store.world (at left s) _ (now s.store.world) (λ left. traps_later s.store.world (binary kind o u v) (at left s) (g (at left s)) (now s.store.world) (h left)))
      (λ left v. close_tick (at left s) _ (λ t. or_traps t (binary kind o u v) (g t)) (λ left. traps_later s.store.world (binary kind o u v) (at left s) (g (at left s)) (now s.store.world) (h left))
      (λ left. close_traps (binary kind o u v) (at left s) (f (at left s)) (g (at (left + extra) s)) (c left))))
  close_computed (Convert o a) s f g h c =
      close_operand a s _ _ (λ left u. tick_later s.store.world (at left s) _ (now s.store.world) (λ left. h left _)) (λ left u. close_tick (at left s) _ (λ t. g t (convert o u)) (λ left. h left _) (λ left. c left _))
  close_computed (Load kind a offset) s f g h c =
      close_operand a s _ _ (λ left u. tick_later s.store.world (at left s) _ (now s.store.world) (λ left. loaded_later s.store.world (at left s) kind (low I32 u + offset) (g (at left s)) (now s.store.world) (h left)))
      (λ left u. close_tick (at left s) _ (λ t. loaded t kind (low I32 u + offset) (g t)) (λ left. loaded_later s.store.world (at left s) kind (low I32 u + offset) (g (at left s)) (now s.store.world) (h left))
      (λ left. close_either (nat_le (low I32 u + offset + load_size kind) (length s.store.memory)) _ _ _ _ (c left _) (inl refl)))
  close_computed (Global x) s f g h c = close_tick s _ (λ t. g t (slice_index t.store.globals x)) (λ left. h left _) (λ left. c left _)
  close_computed Size s f g h c = close_tick s _ (λ t. g t (pages_of t.store.memory)) (λ left. h left _) (λ left. c left _)

  close_onward : (o a : Outcome World) (f g : State World → Outcome World) → GoesOn g → Follows f g → Close o a → Close (onward o f) (onward a g)
  close_onward (Ends s) a f g h c e = subst (λ a. Close (f s) (onward a g)) (sym e) (c s)
  close_onward (Jumps zero s) a f g h c e = subst (λ a. Close (f s) (onward a g)) (sym e) (c s)
  close_onward (Jumps (suc label) s) a f g h c e = ap (λ a. onward a g) e
  close_onward (Gives s value) a f g h c e = ap (λ a. onward a g) e
  close_onward (Breaks cause store) a f g h c (inl e) = inl (ap (λ a. onward a g) e)
  close_onward (Breaks cause store) a f g h c (inr e) = inr (e.0, onward_later store.world a g e.1 (h store.world))
  close_onward Astray a f g h c e = ap (λ a. onward a g) e

  close_again : (o a : Outcome World) (f g : State World → Outcome World) → GoesOn g → Follows f g → Close o a → Close (again o f) (again a g)
  close_again (Ends s) a f g h c e = ap (λ a. again a g) e
  close_again (Jumps zero s) a f g h c e = subst (λ a. Close (f s) (again a g)) (sym e) (c s)
  close_again (Jumps (suc label) s) a f g h c e = ap (λ a. again a g) e
  close_again (Gives s value) a f g h c e = ap (λ a. again a g) e
  close_again (Breaks cause store) a f g h c (inl e) = inl (ap (λ a. again a g) e)
  close_again (Breaks cause store) a f g h c (inr e) = inr (e.0, again_later store.world a g e.1 (h store.world))
  close_again Astray a f g h c e = ap (λ a. again a g) e

  close_turns : (n k : ℕ) (f g : State World → Outcome World) → k ≡ n + extra → GoesOn g → Follows f g → (s : State World) → Close (turns n f s) (turns k g (more s))
  close_turns zero zero f g le h c s = inl refl
  close_turns zero (suc k) f g le h c s = inr (inl (fewer_steps (omega (arith, le))), turns_later s.store.world (suc k) g (h s.store.world) (more s) (now s.store.world))
  close_turns (suc n) zero f g le h c s = absurd (omega arith)
  close_turns (suc n) (suc k) f g le h c s =
      close_tick s (λ s. again (f s) (turns n f)) (λ s. again (g s) (turns k g))
      (λ left. again_later s.store.world (g (at left s)) (turns k g) (h s.store.world (at left s) (now s.store.world)) (turns_later s.store.world k g (h s.store.world)))
      (λ left. close_again (f (at left s)) (g (at (left + extra) s)) (turns n f) (turns k g) (λ w t p. turns_later w k g (h w) t p) (close_turns n k f g (omega arith) h c) (c (at left s)))

  close_return : (locals : List ℕ) (o a : Called World) (f g : State World → Option ℕ → Outcome World) → ((value : Option ℕ) → GoesOn (λ s. g s value)) → ((value : Option ℕ) → Follows (λ s. f s value) (λ s. g s value)) → CallClose o a → Close (on_return locals o f) (on_return locals a g)
  close_return locals (Gave left store value) a f g h c e = subst (λ a. Close (f (record { left = left; store = store; locals = locals }) value) (on_return locals a g)) (sym e) (c value (record { left = left; store = store; locals = locals }))
  close_return locals (Fell cause store) a f g h c (inl e) = inl (ap (λ a. on_return locals a g) e)
  close_return locals (Fell cause store) a f g h c (inr e) = inr (e.0, return_later store.world locals a g e.1 (λ s value p. h value store.world s p))
  close_return locals Lost a f g h c e = ap (λ a. on_return locals a g) e

  close_result : (result value : Option ℕ) (f g : State World → Outcome World) → GoesOn g → Follows f g → Follows (λ s. result_to result s value f) (λ s. result_to result s value g)
  close_result None None f g h c s = c s
  close_result None (Some v) f g h c s = refl
  close_result (Some x) None f g h c s = close_tick s _ (λ t. Astray) (λ left. tt) (λ left. refl)
  close_result (Some x) (Some v) f g h c s = close_tick s _ (λ t. g (with_local t x v)) (λ left. h s.store.world _ (now s.store.world)) (λ left. c (with_local (at left s) x v))

  goes_result : (result value : Option ℕ) (g : State World → Outcome World) → GoesOn g → GoesOn (λ s. result_to result s value g)
  goes_result result value g h w s p = result_later w result s value g p (h w)

  -- The stable memory is as large in both executions: either refuses to grow where the other one does.
  close_refused : (value : Option ℕ) (f g : State World → Outcome World) → GoesOn g → Follows f g → Follows (λ s. unless_refused s value f) (λ s. unless_refused s value g)
  close_refused None f g h c s = close_tick s _ (λ t. tick t (λ t. Astray)) (λ left. tick_later s.store.world (at left s) _ (now s.store.world) (λ left. tt)) (λ left. close_tick (at left s) _ (λ t. Astray) (λ left. tt) (λ left. refl))
  close_refused (Some v) f g h c s =
      let w : World = s.store.world in
      let refused : Bool = nat_eq (low I64 v) (2 ^ 64 - 1) in
      let last : (left : ℕ) → EndsLater w (cond refused (tick (at left s) (λ s. Breaks trap.Unreachable s.store)) (g (at left s))) =
      λ left. either_later w refused (tick (at left s) (λ s. Breaks trap.Unreachable s.store)) (g (at left s)) (tick_later w (at left s) _ (now w) (λ left. now w)) (h w (at left s) (now w)) in
      close_tick s _ (λ t. tick t (λ t. tick t (λ t. cond refused (tick t (λ s. Breaks trap.Unreachable s.store)) (g t)))) (λ left. tick_later w (at left s) _ (now w) (λ left. tick_later w (at left s) _ (now w) last))
      (λ left. close_tick (at left s) _ (λ t. tick t (λ t. cond refused (tick t (λ s. Breaks trap.Unreachable s.store)) (g t))) (λ left. tick_later w (at left s) _ (now w) last)
      (λ left. close_tick (at left s) _ (λ t. cond refused (tick t (λ s. Breaks trap.Unreachable s.store)) (g t)) last
      (λ left. close_either refused (tick (at left s) (λ s. Breaks trap.Unreachable s.store)) (f (at left s)) (tick (more (at left s)) (λ s. Breaks trap.Unreachable s.store)) (g (more (at left s)))
      (close_tick (at left s) _ (λ t. Breaks trap.Unreachable t.store) (λ left. now w) (λ left. inl refl)) (c (at left s)))))

  goes_refused : (value : Option ℕ) (g : State World → Outcome World) → GoesOn g → GoesOn (λ s. unless_refused s value g)
  goes_refused value g h w s p = refused_later w s value g p (h w)

  -- A scant execution that ends for want, beside any that goes on from here.
  dead : (n : ℕ) (s : State World) (f : State World → Outcome World) (a : Outcome World) → P → s.store.refused ≡ true → EndsLater s.store.world a → ((left : ℕ) → Close (f (at left s)) a) → Close (tick_of n s f) a
  dead zero s f a less r p h = inr (inr (r, less), p)
  dead (suc n) s f a less r p h = h n

  abbrev Dies : State World → Outcome World
  Dies s = tick (with_refusal s) (λ s. tick s (λ s. tick s (λ s. tick s (λ s. Breaks trap.Unreachable s.store))))

  refused_dead : (s : State World) (a : Outcome World) → P → EndsLater s.store.world a → Close (Dies s) a
  refused_dead s a less p =
      let r : State World = with_refusal s in
      dead r.left r _ a less refl p (λ left. dead left (at left r) _ a less refl p (λ left. dead left (at left r) _ a less refl p (λ left. dead left (at left r) _ a less refl p (λ left. inr ((refl, less), p)))))

  both_dead : (s : State World) → Close (Dies s) (Dies (more s))
  both_dead s =
      let r : State World = with_refusal s in
      let w : World = s.store.world in
      close_tick r _ (λ s. tick s (λ s. tick s (λ s. tick s (λ s. Breaks trap.Unreachable s.store)))) (λ left. tick_later w (at left r) _ (now w) (λ left. tick_later w (at left r) _ (now w) (λ left. tick_later w (at left r) _ (now w) (λ left. now w))))
      (λ left. close_tick (at left r) _ (λ s. tick s (λ s. tick s (λ s. Breaks trap.Unreachable s.store))) (λ left. tick_later w (at left r) _ (now w) (λ left. tick_later w (at left r) _ (now w) (λ left. now w)))
      (λ left. close_tick (at left r) _ (λ s. tick s (λ s. Breaks trap.Unreachable s.store)) (λ left. tick_later w (at left r) _ (now w) (λ left. now w))
      (λ left. close_tick (at left r) _ (λ s. Breaks trap.Unreachable s.store) (λ left. now w) (λ left. inl refl))))

  abbrev larger : State World → ℕ → State World
  larger s by = with_memory s (s.store.memory ++ replicate (65536 * by) 0)

  close_grown : (scant ample : ℕ) → scant ≤ ample → (scant < ample → P) → (s : State World) (by : ℕ) (f g : State World → Outcome World) → GoesOn g → Follows f g → Close (grown scant s by f) (grown ample (more s) by g)
  close_grown scant ample le less s by f g h c = cases (nat_le (pages_of s.store.memory + by) scant) (nat_le (pages_of s.store.memory + by) ample) (nat_le (pages_of s.store.memory + by) 65536) refl refl
    where
      on : (t : Bool) → EndsLater s.store.world (cond t (tick (more (larger s by)) (λ s. tick s (λ s. tick s g))) (tick (with_refusal (more s)) (λ s. tick s (λ s. tick s (λ s. tick s (λ s. Breaks trap.Unreachable s.store))))))
      on t =
          either_later s.store.world t _ _
          (tick_later s.store.world (more (larger s by)) _ (now s.store.world) (λ left. tick_later s.store.world (at left (larger s by)) _ (now s.store.world) (λ left. tick_later s.store.world (at left (larger s by)) _ (now s.store.world) (λ left. h s.store.world (at left (larger s by)) (now s.store.world)))))
          (tick_later s.store.world (with_refusal (more s)) _ (now s.store.world) (λ left. tick_later s.store.world (at left (with_refusal s)) _ (now s.store.world) (λ left. tick_later s.store.world (at left (with_refusal s)) _ (now s.store.world) (λ left. tick_later s.store.world (at left (with_refusal s)) _ (now s.store.world) (λ left. now s.store.world)))))

      fewer_pages : (n : ℕ) → nat_le n scant ≡ false → nat_le n ample ≡ true → scant < ample
      fewer_pages n p q = let a : scant < n = grind (arith, nat_tests, p) in let b : n ≤ ample = grind (arith, nat_tests, q) in omega (arith, a, b)

      more_pages : (n : ℕ) → nat_le n scant ≡ true → nat_le n ample ≡ false → ⊥
      more_pages n p q = let a : n ≤ scant = grind (arith, nat_tests, p) in let b : ample < n = grind (arith, nat_tests, q) in absurd (omega (arith, a, b, le))

      cases : (x y z : Bool) → nat_le (pages_of s.store.memory + by) scant ≡ x → nat_le (pages_of s.store.memory + by) ample ≡ y
          → Close (cond (x && z) (tick (larger s by) (λ s. tick s (λ s. tick s f))) (Dies s)) (cond (y && z) (tick (larger (more s) by) (λ s. tick s (λ s. tick s g))) (Dies (more s)))
      cases true true true p q =
          close_tick (larger s by) _ (λ s. tick s (λ s. tick s g)) (λ left. tick_later s.store.world (at left (larger s by)) _ (now s.store.world) (λ left. tick_later s.store.world (at left (larger s by)) _ (now s.store.world) (λ left. h s.store.world (at left (larger s by)) (now s.store.world))))
          (λ left. close_tick (at left (larger s by)) _ (λ s. tick s g) (λ left. tick_later s.store.world (at left (larger s by)) _ (now s.store.world) (λ left. h s.store.world (at left (larger s by)) (now s.store.world)))
          (λ left. close_tick (at left (larger s by)) f g (λ left. h s.store.world (at left (larger s by)) (now s.store.world)) (λ left. c (at left (larger s by)))))
      cases true true false p q = both_dead s
      cases true false z p q = absurd (more_pages _ p q)
      cases false false z p q = both_dead s
      cases false true z p q = refused_dead s _ (less (fewer_pages _ p q)) (on (true && z))

  close_chosen : (x : ℕ) (found : Option ℕ) (s : State World) (f g : ℕ → Outcome World) → ((n : ℕ) → Close (f n) (g n)) → Close (chosen m x found s f) (chosen m x found (more s) g)
  close_chosen x None s f g c = inl refl
  close_chosen x (Some n) s f g c = close_either (same_type (type_of m n) (slice_get (all_types m) x)) _ _ _ _ (c n) (inl refl)

  abbrev pub CallsClose : Calls World → Calls World → Type 0
  CallsClose scant ample = (f left : ℕ) (store : Store World) (args : List ℕ) → CallClose (scant f left store args) (ample f (left + extra) store args)

  module _ (scant ample : ℕ) (le : scant ≤ ample) (less : scant < ample → P) (few many : Calls World) (goes : CallsAreLater many) (calls : CallsClose few many) where
    after : (rest : Code) → GoesOn (run ample m many rest)
    after rest = run_later m ample many goes rest

    -- After a call of this function.
    call_goes : (f : ℕ) (args : List ℕ) (g : State World → Option ℕ → Outcome World) → ((value : Option ℕ) → GoesOn (λ s. g s value)) → GoesOn (λ s. on_return s.locals (many f s.left s.store args) g)
    call_goes f args g h w s p = return_later w s.locals _ g (from_later' w s p) (λ s value p. h value w s p)
      where
        from_later' : (w : World) (s : State World) → IsLater w s.store.world → CallIsLater w (many f s.left s.store args)
        from_later' w s p = from_later w (many f s.left s.store args) s.store.world p (goes f s.left s.store args)

    call_close : (f : ℕ) (args : List ℕ) (g h : State World → Option ℕ → Outcome World) → ((value : Option ℕ) → GoesOn (λ s. h s value)) → ((value : Option ℕ) → Follows (λ s. g s value) (λ s. h s value))
        → Follows (λ s. on_return s.locals (few f s.left s.store args) g) (λ s. on_return s.locals (many f s.left s.store args) h)
    call_close f args g h on c s = close_return s.locals _ _ g h on c (calls f s.left s.store args)

    -- What follows a trap with a text, if the host lets it go on.
    abbrev ends : State World → Option ℕ → Outcome World
    ends s v = tick s (λ s. Breaks trap.Unreachable s.store)

    goes_end : (value : Option ℕ) → GoesOn (λ s. ends s value)
    goes_end value w s p = tick_later w s _ p (λ left. p)

    pub close : (c : Code) → Follows (run scant m few c) (run ample m many c)
    close Stop s = refl
    close (Return None) s = close_tick s _ (λ t. Gives t None) (λ left. now s.store.world) (λ left. refl)
    close (Return (Some a)) s =
        close_operand a s _ _ (λ left v. tick_later s.store.world (at left s) _ (now s.store.world) (λ left. now s.store.world)) (λ left v. close_tick (at left s) _ (λ t. Gives t (Some v)) (λ left. now s.store.world) (λ left. refl))
    close (Branch label) s = close_tick s _ (λ t. Jumps label t) (λ left. now s.store.world) (λ left. refl)
    close (code.Trap a b) s =
        close_operand a s _ _ (λ left u. operand_later s.store.world b (at left s) _ (now s.store.world) (λ left v. tick_later s.store.world (at left s) _ (now s.store.world) (λ left. goes_on u v s.store.world (at left s) (now s.store.world))))
        (λ left u. close_operand b (at left s) _ _ (λ left v. tick_later s.store.world (at left s) _ (now s.store.world) (λ left. goes_on u v s.store.world (at left s) (now s.store.world)))
        (λ left v. close_tick (at left s) _ (λ t. on_return t.locals (many host_trap t.left t.store (u ∷ v ∷ [])) ends) (λ left. goes_on u v s.store.world (at left s) (now s.store.world))
        (λ left. call_close host_trap (u ∷ v ∷ []) ends ends goes_end (λ value s. close_tick s _ (λ t. Breaks trap.Unreachable t.store) (λ left. now s.store.world) (λ left. inl refl)) (at left s))))
      where
        goes_on : (u v : ℕ) → GoesOn (λ s. on_return s.locals (many host_trap s.left s.store (u ∷ v ∷ [])) ends)
        goes_on u v = call_goes host_trap (u ∷ v ∷ []) ends goes_end
    close (Set x o rest) s =
        close_computed o s _ _ (λ left v. tick_later s.store.world (at left s) _ (now s.store.world) (λ left. after rest s.store.world _ (now s.store.world)))
        (λ left v. close_tick (at left s) _ (λ t. run ample m many rest (with_local t x v)) (λ left. after rest s.store.world _ (now s.store.world)) (λ left. close rest (with_local (at left s) x v)))
    close (SetGlobal x a rest) s =
        close_operand a s _ _ (λ left v. tick_later s.store.world (at left s) _ (now s.store.world) (λ left. after rest s.store.world _ (now s.store.world)))
        (λ left v. close_tick (at left s) _ (λ t. run ample m many rest (with_global t x v)) (λ left. after rest s.store.world _ (now s.store.world)) (λ left. close rest (with_global (at left s) x v)))
    close (code.Store kind a offset b rest) s =
        close_operand a s _ _ (λ left u. operand_later s.store.world b (at left s) _ (now s.store.world) (λ left v. tick_later s.store.world (at left s) _ (now s.store.world) (λ left. stored_later s.store.world (at left s) kind (low I32 u + offset) v (run ample m many rest) (now s.store.world) (after rest s.store.world))))
        (λ left u. close_operand b (at left s) _ _ (λ left v. tick_later s.store.world (at left s) _ (now s.store.world) (λ left. stored_later s.store.world (at left s) kind (low I32 u + offset) v (run ample m many rest) (now s.store.world) (after rest s.store.world)))
        (λ left v. close_tick (at left s) _ (λ t. stored t kind (low I32 u + offset) v (run ample m many rest)) (λ left. stored_later s.store.world (at left s) kind (low I32 u + offset) v (run ample m many rest) (now s.store.world) (after rest s.store.world))
        (λ left. close_either (nat_le (low I32 u + offset + store_size kind) (length s.store.memory)) _ _ _ _ (close rest _) (inl refl))))
    close (Grow a rest) s =
        close_operand a s _ _ (λ left v. tick_later s.store.world (at left s) _ (now s.store.world) (λ left. grown_later s.store.world ample (at left s) (low I32 v) (run ample m many rest) (now s.store.world) (after rest s.store.world)))
        (λ left v. close_tick (at left s) _ (λ t. grown ample t (low I32 v) (run ample m many rest)) (λ left. grown_later s.store.world ample (at left s) (low I32 v) (run ample m many rest) (now s.store.world) (after rest s.store.world))
        (λ left. close_grown scant ample le less (at left s) (low I32 v) (run scant m few rest) (run ample m many rest) (after rest) (close rest)))
    close (GrowStable a rest) s =
        close_operand a s _ _ (λ left v. tick_later s.store.world (at left s) _ (now s.store.world) (λ left. goes_on v s.store.world (at left s) (now s.store.world)))
        (λ left v. close_tick (at left s) _ (λ t. on_return t.locals (many stable_grow t.left t.store (v ∷ [])) (λ s v. unless_refused s v (run ample m many rest))) (λ left. goes_on v s.store.world (at left s) (now s.store.world))
        (λ left. call_close stable_grow (v ∷ []) (λ s v. unless_refused s v (run scant m few rest)) (λ s v. unless_refused s v (run ample m many rest)) (λ value. goes_refused value (run ample m many rest) (after rest))
        (λ value. close_refused value (run scant m few rest) (run ample m many rest) (after rest) (close rest)) (at left s)))
      where
        goes_on : (v : ℕ) → GoesOn (λ s. on_return s.locals (many stable_grow s.left s.store (v ∷ [])) (λ s v. unless_refused s v (run ample m many rest)))
        goes_on v = call_goes stable_grow (v ∷ []) (λ s v. unless_refused s v (run ample m many rest)) (λ value. goes_refused value (run ample m many rest) (after rest))
    close (Block body rest) s =
        close_tick s _ (λ t. onward (run ample m many body t) (run ample m many rest)) (λ left. onward_later s.store.world _ _ (after body s.store.world _ (now s.store.world)) (after rest s.store.world))
        (λ left. close_onward _ _ _ _ (after rest) (close rest) (close body (at left s)))
    close (Loop body rest) s = close_onward _ _ _ _ (after rest) (close rest) (close_turns (suc s.left) (suc (s.left + extra)) _ _ (omega arith) (after body) (close body) s)
    close (If a first second rest) s =
        close_operand a s _ _ (λ left v. tick_later s.store.world (at left s) _ (now s.store.world) (λ left. sides left v))
        (λ left v. close_tick (at left s) _ (λ t. onward (if_zero v (run ample m many second t) (run ample m many first t)) (run ample m many rest)) (λ left. sides left v)
        (λ left. close_onward _ _ _ _ (after rest) (close rest) (close_either (nat_eq (low I32 v) 0) _ _ _ _ (close second (at left s)) (close first (at left s)))))
      where
        sides : (left v : ℕ) → EndsLater s.store.world (onward (if_zero v (run ample m many second (at left s)) (run ample m many first (at left s))) (run ample m many rest))
        sides left v = onward_later s.store.world _ _ (zero_later s.store.world v _ _ (after second s.store.world (at left s) (now s.store.world)) (after first s.store.world (at left s) (now s.store.world))) (after rest s.store.world)
    close (BranchIf a label rest) s =
        close_operand a s _ _ (λ left v. tick_later s.store.world (at left s) _ (now s.store.world) (λ left. zero_later s.store.world v _ (Jumps label (at left s)) (after rest s.store.world (at left s) (now s.store.world)) (now s.store.world)))
        (λ left v. close_tick (at left s) _ (λ t. if_zero v (run ample m many rest t) (Jumps label t)) (λ left. zero_later s.store.world v _ (Jumps label (at left s)) (after rest s.store.world (at left s) (now s.store.world)) (now s.store.world))
        (λ left. close_either (nat_eq (low I32 v) 0) _ _ _ _ (close rest (at left s)) refl))
    close (Call result f args rest) s =
        close_operands args s [] _ _ (λ left vs. tick_later s.store.world (at left s) _ (now s.store.world) (λ left. goes_on vs s.store.world (at left s) (now s.store.world)))
        (λ left vs. close_tick (at left s) _ (λ t. on_return t.locals (many f t.left t.store (reverse vs)) (λ s v. result_to result s v (run ample m many rest))) (λ left. goes_on vs s.store.world (at left s) (now s.store.world))
        (λ left. call_close f (reverse vs) (λ s v. result_to result s v (run scant m few rest)) (λ s v. result_to result s v (run ample m many rest)) (λ value. goes_result result value (run ample m many rest) (after rest))
        (λ value. close_result result value (run scant m few rest) (run ample m many rest) (after rest) (close rest)) (at left s)))
      where
        goes_on : (vs : List ℕ) → GoesOn (λ s. on_return s.locals (many f s.left s.store (reverse vs)) (λ s v. result_to result s v (run ample m many rest)))
        goes_on vs = call_goes f (reverse vs) (λ s v. result_to result s v (run ample m many rest)) (λ value. goes_result result value (run ample m many rest) (after rest))
    close (CallIndirect result x args a rest) s =
        close_operands args s [] _ _ (λ left vs. operand_later s.store.world a (at left s) _ (now s.store.world) (λ left v. tick_later s.store.world (at left s) _ (now s.store.world) (λ left. found left vs v)))
        (λ left vs. close_operand a (at left s) _ _ (λ left v. tick_later s.store.world (at left s) _ (now s.store.world) (λ left. found left vs v))
        (λ left v. close_tick (at left s) _ (λ t. chosen m x (entry (slice_get t.store.table (low I32 v))) t (λ f. on_return t.locals (many f t.left t.store (reverse vs)) (λ s v. result_to result s v (run ample m many rest)))) (λ left. found left vs v)
        (λ left. close_chosen x (entry (slice_get s.store.table (low I32 v))) (at left s) _ _ (λ f. call_close f (reverse vs) (λ s v. result_to result s v (run scant m few rest)) (λ s v. result_to result s v (run ample m many rest)) (λ value. goes_result result value (run ample m many rest) (after rest))
        (λ value. close_result result value (run scant m few rest) (run ample m many rest) (after rest) (close rest)) (at left s)))))
      where
        found : (left : ℕ) (vs : List ℕ) (v : ℕ) → EndsLater s.store.world (chosen m x (entry (slice_get s.store.table (low I32 v))) (at left s) (λ f. on_return s.locals (many f left s.store (reverse vs)) (λ s v. result_to result s v (run ample m many rest))))
        found left vs v =
            chosen_later m s.store.world x (entry (slice_get s.store.table (low I32 v))) (at left s) _ (now s.store.world)
            (λ f. call_goes f (reverse vs) (λ s v. result_to result s v (run ample m many rest)) (λ value. goes_result result value (run ample m many rest) (after rest)) s.store.world (at left s) (now s.store.world))

  -- Calls of functions.

  close_finish : (t : FunctionType) (o a : Outcome World) → Close o a → CallClose (finish t o) (finish t a)
  close_finish t (Ends s) a e = ap (finish t) e
  close_finish t (Jumps zero s) a e = ap (finish t) e
  close_finish t (Jumps (suc label) s) a e = ap (finish t) e
  close_finish t (Gives s value) a e = ap (finish t) e
  close_finish t (Breaks cause store) a (inl e) = inl (ap (finish t) e)
  close_finish t (Breaks cause store) a (inr e) = inr (e.0, finish_later store.world t a e.1)
  close_finish t Astray a e = ap (finish t) e

  close_answer : (left : ℕ) (store : Store World) (a : HostAnswer World) → CallClose (host_gives left store a) (host_gives (left + extra) store a)
  close_answer left store (Answers value memory world) = refl
  close_answer left store (Refuses world) = inl refl

  fits_too : (room larger w : ℕ) → room ≤ larger → nat_lt room w ≡ false → nat_lt larger w ≡ false
  fits_too room larger w le e = let a : w ≤ room = grind (arith, nat_tests, e) in grind (arith, nat_tests, a, le)

  close_room : (room large w : ℕ) (store : Store World) (o a : Called World) → room ≤ large → (room < large → W) → CallIsLater store.world (cond (nat_lt large w) (Fell trap.Stack store) a) → CallClose o a → CallClose (cond (nat_lt room w) (Fell trap.Stack store) o) (cond (nat_lt large w) (Fell trap.Stack store) a)
  close_room room large w store o a le less p c = by (nat_lt room w) (nat_lt large w) refl refl
    where
      by : (x y : Bool) → nat_lt room w ≡ x → nat_lt large w ≡ y → CallClose (cond x (Fell trap.Stack store) o) (cond y (Fell trap.Stack store) a)
      by true true e k = inl refl
      by true false e k = inr (less (let a : room < w = grind (arith, nat_tests, e) in let b : w ≤ large = grind (arith, nat_tests, k) in omega (arith, a, b)), subst (λ y. CallIsLater store.world (cond y (Fell trap.Stack store) a)) k p)
      by false y e k = subst (λ t. CallClose o (cond t (Fell trap.Stack store) a)) (sym (fits_too room large w le e) ∙ k) c

  entering : (scant ample room large f left : ℕ) → scant ≤ ample → (scant < ample → P) → room ≤ large → (room < large → W) → (store : Store World) (args : List ℕ) (few many : ℕ → Calls World) → ((room : ℕ) → CallsAreLater (many room)) → ((room large : ℕ) → room ≤ large → (room < large → W) → CallsClose (few room) (many large))
      → (found : Option FunctionType) (there : Option Function) → CallClose (enter_as scant m low_host room few found there f left store args) (enter_as ample m low_host large many found there f (left + extra) store args)
  entering scant ample room large f left le less wide short store args few many h c None there = refl
  entering scant ample room large f left le less wide short store args few many h c (Some t) None = close_answer left store _
  entering scant ample room large f left le less wide short store args few many h c (Some t) (Some fn) =
      let w : ℕ = words t fn in
      close_room room large w store _ _ wide short (enter_as_later m ample large f (left + extra) store args many h (Some t) (Some fn))
      (close_finish t _ _ (close scant ample le less (few (room - w)) (many (large - w)) (h (large - w)) (c (room - w) (large - w) (omega (arith, wide)) (λ lt. short (omega (arith, lt, wide)))) fn.body (record { left = left; store = store; locals = args ++ replicate (length fn.locals) 0 })))

  -- With fewer steps, pages and words.
  pub fewer : (deep scant ample room large : ℕ) → scant ≤ ample → (scant < ample → P) → room ≤ large → (room < large → W) → CallsClose (enter deep scant m low_host room) (enter deep ample m low_host large)
  fewer zero scant ample room large le less wide short f left store args = inl refl
  fewer (suc deep) scant ample room large le less wide short f left store args =
      entering scant ample room large f left le less wide short store args (λ room. enter deep scant m low_host room) (λ room. enter deep ample m low_host room) (λ room. enter_later m deep ample room)
      (λ room large wide short. fewer deep scant ample room large le less wide short) (type_of m f) (defined m f)
