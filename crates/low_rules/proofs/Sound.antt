-- The rule holds of the meaning.
use Rattle.std.proofs.Common.{◌≡◌, ℕ, zero, suc, ◌+◌, ◌*◌, ◌<◌, ◌^◌, ◌-◌, List, [], ◌∷◌, ◌++◌, length, reverse, replicate, Bool, true, false, Option, Some, None, cond, nat_eq, slice_get, slice_index, Result, Ok, Err, refl, ap, ◌∙◌, subst, arith}
use Rattle.wasm_tree.specs.declared.trap.Trap.{Trap}
use Rattle.wasm_tree.specs.declared.trap.Trap.TheVariants as trap
use Rattle.wasm_tree.specs.declared.types.ValueType.TheVariants.{I32, I64}
use Rattle.wasm_tree.specs.Numeric.{low, binary}
use Rattle.wasm_tree.specs.Exec.{State, same_type, entry}
use Rattle.low_ir.specs.declared.op.Operand.{Operand}
use Rattle.low_ir.specs.declared.op.Operand.TheVariants.{Local, Word, Long}
use Rattle.low_ir.specs.declared.op.Operation.{Operation}
use Rattle.low_ir.specs.declared.op.Operation.TheVariants.{Copy, IsZero, Compare, Unary, Binary, Convert, Load, Global, Size}
use Rattle.low_ir.specs.Tree.{Code, Stop, Return, Branch, Set, SetGlobal, Grow, GrowStable, Block, Loop, If, BranchIf, Call, CallIndirect, Module}
use Rattle.low_ir.specs.Tree as code
use Rattle.low_ir.specs.Numbering.{all_types, type_of, stable_grow, host_trap}
use Rattle.low_ir.specs.Meaning.{Calls, Outcome, Breaks, tick, onward, again, turns, operand, operands, or_traps, computed, on_return, result_to, unless_refused, chosen, run}
use Rattle.low_rules.specs.Rule.{At, state, CodeEnd, Next, Leaps, Yields, Stops, spent_of, outcome_of, CallEnd, Comes, Dies, cost_of, called_of, Contracts, value_of, values_of, cost, result_of, spend, set_memory, refused, OnTest, OnResult, is_zero, may_grow, after_block, after_turn, Within, after_call, ResultTo, UnlessRefused, target_of, OnFound, Before, Meets}

-- With at least so many steps it ends so, with the others left.
pub record Runs {World : Type 0} (p : CodeEnd World → Type 0) (spent : ℕ) (f : ℕ → Outcome World) : Type 0 where
  pub end : CodeEnd World
  pub holds : p end
  pub cost : ℕ
  pub total : spent_of end ≡ spent + cost
  pub by : (left n : ℕ) → left ≡ cost + n → f left ≡ outcome_of n end

at_once : {World : Type 0} (p : CodeEnd World → Type 0) (spent : ℕ) (f : ℕ → Outcome World) (end : CodeEnd World) → p end → spent_of end ≡ spent → ((n : ℕ) → f n ≡ outcome_of n end) → Runs p spent f
at_once p spent f end h e by = record { end = end; holds = h; cost = 0; total = omega (arith, e); by = λ left n same. ap f (omega (arith, same)) ∙ by n }

respent : {World : Type 0} {p : CodeEnd World → Type 0} {f : ℕ → Outcome World} (a b : ℕ) → a ≡ b → Runs p a f → Runs p b f
respent a b e r = record { end = r.end; holds = r.holds; cost = r.cost; total = omega (arith, r.total, e); by = r.by }

ticks : {World : Type 0} {p : CodeEnd World → Type 0} (spent : ℕ) (h : At World) (g : State World → Outcome World) → Runs p (spent + 1) (λ left. g (state left h)) → Runs p spent (λ left. tick (state left h) g)
ticks spent h g r = record { end = r.end; holds = r.holds; cost = suc r.cost; total = omega (arith, r.total); by = λ left n same. at left n same }
  where
    at : (left n : ℕ) → left ≡ suc r.cost + n → tick (state left h) g ≡ outcome_of n r.end
    at zero n same = absurd (omega arith)
    at (suc left) n same = r.by left n (omega arith)

with_operand : {World : Type 0} {p : CodeEnd World → Type 0} (a : Operand) (spent : ℕ) (h : At World) (g : State World → ℕ → Outcome World) → Runs p (spent + 1) (λ left. g (state left h) (value_of a h.locals)) → Runs p spent (λ left. operand a (state left h) g)
with_operand (Local x) spent h g r = ticks spent h (λ s. g s (slice_index s.locals x)) r
with_operand (Word z) spent h g r = ticks spent h (λ s. g s _) r
with_operand (Long z) spent h g r = ticks spent h (λ s. g s _) r

with_operands : {World : Type 0} {p : CodeEnd World → Type 0} (args : List Operand) (spent : ℕ) (h : At World) (before : List ℕ) (g : State World → List ℕ → Outcome World) → Runs p (spent + length args) (λ left. g (state left h) (values_of args h.locals before)) → Runs p spent (λ left. operands args (state left h) before g)
with_operands [] spent h before g r = respent (spent + 0) spent (omega arith) r
with_operands (a ∷ args) spent h before g r =
    with_operand a spent h (λ s v. operands args s (v ∷ before) g) (with_operands args (spent + 1) h (value_of a h.locals ∷ before) g (respent (spent + length (a ∷ args)) (spent + 1 + length args) (omega arith) r))

on_result : (r : Result ℕ Trap) (P P' : ℕ → Type 0) (Q : Trap → Type 0) → ((v : ℕ) → P v → P' v) → OnResult r P Q → OnResult r P' Q
on_result (Ok v) P P' Q f h = f v h
on_result (Err cause) P P' Q f h = h

-- A value, or a trap, that was worked out at this place.
results : {World : Type 0} (p : CodeEnd World → Type 0) (r : Result ℕ Trap) (spent : ℕ) (h : At World) (g : State World → ℕ → Outcome World) → OnResult r (λ v. Runs p spent (λ left. g (state left h) v)) (λ cause. p (Stops cause spent h.store))
    → Runs p spent (λ left. or_traps (state left h) r (g (state left h)))
results p (Ok v) spent h g b = b
results p (Err cause) spent h g b = at_once p spent _ (Stops cause spent h.store) b refl (λ n. refl)

-- Two tests of one truth: on types and on outcomes.
chooses : {World : Type 0} (p : CodeEnd World → Type 0) (t : Bool) (P Q : Type 0) (spent : ℕ) (f g : ℕ → Outcome World) → (P → Runs p spent f) → (Q → Runs p spent g) → OnTest t P Q → Runs p spent (λ left. cond t (f left) (g left))
chooses p true P Q spent f g a b h = a h
chooses p false P Q spent f g a b h = b h

loads_are : {World : Type 0} (p : CodeEnd World → Type 0) (t : Bool) (v spent : ℕ) (h : At World) (g : State World → ℕ → Outcome World) → OnResult (cond t (Ok v) (Err trap.Bounds)) (λ v. Runs p spent (λ left. g (state left h) v)) (λ cause. p (Stops cause spent h.store))
    → Runs p spent (λ left. cond t (g (state left h) v) (Breaks trap.Bounds h.store))
loads_are p true v spent h g b = b
loads_are p false v spent h g b = at_once p spent _ (Stops trap.Bounds spent h.store) b refl (λ n. refl)

on_cost : {World : Type 0} (p : CodeEnd World → Type 0) (r : Result ℕ Trap) (a b : ℕ) (h : At World) (f : ℕ → ℕ → Outcome World) → a ≡ b → OnResult r (λ v. Runs p a (f v)) (λ cause. p (Stops cause a h.store)) → OnResult r (λ v. Runs p b (f v)) (λ cause. p (Stops cause b h.store))
on_cost p r a b h f e o = subst (λ n. OnResult r (λ v. Runs p n (f v)) (λ cause. p (Stops cause n h.store))) e o

computes : {World : Type 0} (p : CodeEnd World → Type 0) (o : Operation) (h : At World) (g : State World → ℕ → Outcome World) → OnResult (result_of o h) (λ v. Runs p (h.spent + cost o) (λ left. g (state left h) v)) (λ cause. p (Stops cause (h.spent + cost o) h.store))
    → Runs p h.spent (λ left. computed o (state left h) g)
computes p (Copy a) h g b = with_operand a h.spent h g b
computes p (IsZero kind a) h g b = with_operand a h.spent h _ (ticks (h.spent + 1) h _ (respent (h.spent + 2) _ (omega arith) b))
computes p (Compare kind o a c) h g b = with_operand a h.spent h _ (with_operand c (h.spent + 1) h _ (ticks (h.spent + 1 + 1) h _ (respent (h.spent + 3) _ (omega arith) b)))
computes p (Unary kind o a) h g b = with_operand a h.spent h _ (ticks (h.spent + 1) h _ (respent (h.spent + 2) _ (omega arith) b))
computes p (Binary kind o a c) h g b =
    with_operand a h.spent h _ (with_operand c (h.spent + 1) h _ (ticks (h.spent + 1 + 1) h _
    (results p (binary kind o (value_of a h.locals) (value_of c h.locals)) (h.spent + 1 + 1 + 1) h g (on_cost p _ (h.spent + 3) (h.spent + 1 + 1 + 1) h (λ v left. g (state left h) v) (omega arith) b))))
computes p (Convert o a) h g b = with_operand a h.spent h _ (ticks (h.spent + 1) h _ (respent (h.spent + 2) _ (omega arith) b))
computes p (Load kind a offset) h g b =
    with_operand a h.spent h _ (ticks (h.spent + 1) h _
    (loads_are p _ _ (h.spent + 1 + 1) h g (on_cost p _ (h.spent + 2) (h.spent + 1 + 1) h (λ v left. g (state left h) v) (omega arith) b)))
computes p (Global x) h g b = ticks h.spent h _ b
computes p Size h g b = ticks h.spent h _ b

-- After a construct.
ahead : {World : Type 0} (p : CodeEnd World → Type 0) (r : At World → Type 0) (e : CodeEnd World) (spent cost : ℕ) (f : ℕ → Outcome World) (g : State World → Outcome World) → after_block r p e → spent_of e ≡ spent + cost → ((left n : ℕ) → left ≡ cost + n → f left ≡ outcome_of n e)
    → ((h : At World) → r h → Runs p h.spent (λ left. g (state left h))) → Runs p spent (λ left. onward (f left) g)
ahead p r (Next h) spent cost f g b total by ih =
    let more = ih h b in
    record { end = more.end; holds = more.holds; cost = cost + more.cost; total = omega (arith, total, more.total); by = λ left n e. ap (λ o. onward o g) (by left (more.cost + n) (omega arith)) ∙ more.by (more.cost + n) n refl }
ahead p r (Leaps zero h) spent cost f g b total by ih =
    let more = ih h b in
    record { end = more.end; holds = more.holds; cost = cost + more.cost; total = omega (arith, total, more.total); by = λ left n e. ap (λ o. onward o g) (by left (more.cost + n) (omega arith)) ∙ more.by (more.cost + n) n refl }
ahead p r (Leaps (suc label) h) spent cost f g b total by ih = record { end = Leaps label h; holds = b; cost = cost; total = total; by = λ left n e. ap (λ o. onward o g) (by left n e) }
ahead p r (Yields h value) spent cost f g b total by ih = record { end = Yields h value; holds = b; cost = cost; total = total; by = λ left n e. ap (λ o. onward o g) (by left n e) }
ahead p r (Stops cause k store) spent cost f g b total by ih = record { end = Stops cause k store; holds = b; cost = cost; total = total; by = λ left n e. ap (λ o. onward o g) (by left n e) }

onwards : {World : Type 0} (p : CodeEnd World → Type 0) (r : At World → Type 0) (spent : ℕ) (f : ℕ → Outcome World) (g : State World → Outcome World) → Runs (after_block r p) spent f → ((h : At World) → r h → Runs p h.spent (λ left. g (state left h))) → Runs p spent (λ left. onward (f left) g)
onwards p r spent f g b ih = ahead p r b.end spent b.cost f g b.holds b.total b.by ih

-- The turns of a loop, where as many are admitted as there are steps.
record Turns {World : Type 0} (p : CodeEnd World → Type 0) (spent : ℕ) (f : ℕ → ℕ → Outcome World) : Type 0 where
  end : CodeEnd World
  holds : p end
  cost : ℕ
  total : spent_of end ≡ spent + cost
  by : (most left n : ℕ) → left ≡ cost + n → left < most → f most left ≡ outcome_of n end

-- A turn that ends the loop.
last_turn : {World : Type 0} (body : State World → Outcome World) (h : At World) (e : CodeEnd World) (cost : ℕ) → ((left n : ℕ) → left ≡ cost + n → body (state left h) ≡ outcome_of n e) → ((n : ℕ) (g : State World → Outcome World) → again (outcome_of n e) g ≡ outcome_of n e)
    → (most left n : ℕ) → left ≡ suc cost + n → left < most → turns most body (state left h) ≡ outcome_of n e
last_turn body h e cost by out zero left n k lt = absurd (omega arith)
last_turn body h e cost by out (suc most) zero n k lt = absurd (omega arith)
last_turn body h e cost by out (suc most) (suc left) n k lt = ap (λ o. again o (turns most body)) (by left n (omega arith)) ∙ out n (turns most body)

turned : {World : Type 0} (p : CodeEnd World → Type 0) (r : At World → Type 0) (body : State World → Outcome World) (h : At World) (e : CodeEnd World) (cost : ℕ) → after_turn r p e → spent_of e ≡ h.spent + 1 + cost → ((left n : ℕ) → left ≡ cost + n → body (state left h) ≡ outcome_of n e)
    → ((h : At World) → r h → Turns p h.spent (λ most left. turns most body (state left h))) → Turns p h.spent (λ most left. turns most body (state left h))
turned p r body h (Leaps zero k) cost b total by ih =
    let more = ih k b in
    record { end = more.end; holds = more.holds; cost = suc cost + more.cost; total = omega (arith, total, more.total); by = λ most left n e lt. at more most left n e lt }
  where
    at : (more : Turns p k.spent (λ most left. turns most body (state left k))) (most left n : ℕ) → left ≡ suc cost + more.cost + n → left < most → turns most body (state left h) ≡ outcome_of n more.end
    at more zero left n e lt = absurd (omega arith)
    at more (suc most) zero n e lt = absurd (omega arith)
    at more (suc most) (suc left) n e lt = ap (λ o. again o (turns most body)) (by left (more.cost + n) (omega arith)) ∙ more.by most (more.cost + n) n refl (omega arith)
turned p r body h (Leaps (suc label) k) cost b total by ih = record { end = Leaps (suc label) k; holds = b; cost = suc cost; total = omega (arith, total); by = last_turn body h (Leaps (suc label) k) cost by (λ n g. refl) }
turned p r body h (Next k) cost b total by ih = record { end = Next k; holds = b; cost = suc cost; total = omega (arith, total); by = last_turn body h (Next k) cost by (λ n g. refl) }
turned p r body h (Yields k value) cost b total by ih = record { end = Yields k value; holds = b; cost = suc cost; total = omega (arith, total); by = last_turn body h (Yields k value) cost by (λ n g. refl) }
turned p r body h (Stops cause k store) cost b total by ih = record { end = Stops cause k store; holds = b; cost = suc cost; total = omega (arith, total); by = last_turn body h (Stops cause k store) cost by (λ n g. refl) }

loops : {World : Type 0} (body : State World → Outcome World) (before : (CodeEnd World → Type 0) → At World → Type 0) → ((p : CodeEnd World → Type 0) (h : At World) → before p h → Runs p h.spent (λ left. body (state left h)))
    → (most : ℕ) (p : CodeEnd World → Type 0) (h : At World) → Within most before p h → Turns p h.spent (λ most left. turns most body (state left h))
loops body before sound zero p h b = absurd b
loops body before sound (suc most) p h b =
    let one = sound (after_turn (Within most before p) p) (spend 1 h) b in
    turned p (Within most before p) body h one.end one.cost one.holds one.total one.by (loops body before sound most p)

whole_loop : {World : Type 0} (p : CodeEnd World → Type 0) (body : State World → Outcome World) (h : At World) → Turns p h.spent (λ most left. turns most body (state left h)) → Runs p h.spent (λ left. turns (suc left) body (state left h))
whole_loop p body h t = record { end = t.end; holds = t.holds; cost = t.cost; total = t.total; by = λ left n e. t.by (suc left) left n e (omega arith) }

-- After a call.

given : {World : Type 0} (p : CodeEnd World → Type 0) (result : Option ℕ) (r : At World → Type 0) (g : State World → Outcome World) → ((h : At World) → r h → Runs p h.spent (λ left. g (state left h)))
    → (h : At World) (value : Option ℕ) → ResultTo result r h value → Runs p h.spent (λ left. result_to result (state left h) value g)
given p None r g ih h None b = ih h b
given p None r g ih h (Some v) b = absurd b
given p (Some x) r g ih h None b = absurd b
given p (Some x) r g ih h (Some v) b = ticks h.spent h _ (ih _ b)

not_refused : {World : Type 0} (p : CodeEnd World → Type 0) (r : At World → Type 0) (g : State World → Outcome World) → ((h : At World) → r h → Runs p h.spent (λ left. g (state left h)))
    → (h : At World) (value : Option ℕ) → UnlessRefused r p h value → Runs p h.spent (λ left. unless_refused (state left h) value g)
not_refused p r g ih h None b = absurd b
not_refused p r g ih h (Some v) b =
    ticks h.spent h _ (ticks (h.spent + 1) h _ (ticks (h.spent + 1 + 1) h _ (respent (h.spent + 3) _ (omega arith)
    (chooses p (nat_eq (low I64 v) (2 ^ 64 - 1)) _ _ (h.spent + 3) _ _
    (λ c. ticks (h.spent + 3) h _ (respent (h.spent + 4) _ (omega arith) (at_once p (h.spent + 4) _ (Stops trap.Unreachable (h.spent + 4) h.store) c refl (λ n. refl)))) (λ c. ih (spend 3 h) c) b))))

called : {World : Type 0} (p : CodeEnd World → Type 0) (calls : Calls World) (f : ℕ) (args : List ℕ) (h : At World) (r : At World → Option ℕ → Type 0) (g : State World → Option ℕ → Outcome World) → ((h : At World) (value : Option ℕ) → r h value → Runs p h.spent (λ left. g (state left h) value))
    → (e : CallEnd World) → after_call h r p e → ((left n : ℕ) → left ≡ cost_of e + n → calls f left h.store args ≡ called_of n e) → Runs p h.spent (λ left. on_return h.locals (calls f left h.store args) g)
called p calls f args h r g ih (Comes cost store value) b by =
    let more = ih (record { spent = h.spent + cost; store = store; locals = h.locals }) value b in
    record {
      end = more.end;
      holds = more.holds;
      cost = cost + more.cost;
      total = omega (arith, more.total);
      by = λ left n e. ap (λ o. on_return h.locals o g) (by left (more.cost + n) (omega arith)) ∙ more.by (more.cost + n) n refl;
    }
called p calls f args h r g ih (Dies cause cost store) b by =
    record { end = Stops cause (h.spent + cost) store; holds = b; cost = cost; total = refl; by = λ left n e. ap (λ o. on_return h.locals o g) (by left n e) }

module _ {World : Type 0} (pages : ℕ) (m : Module) (calls : Calls World) (does : Contracts World) (meets : Meets calls does) where
  calling : (p : CodeEnd World → Type 0) (f : ℕ) (args : List ℕ) (h : At World) (r : At World → Option ℕ → Type 0) (g : State World → Option ℕ → Outcome World) → ((h : At World) (value : Option ℕ) → r h value → Runs p h.spent (λ left. g (state left h) value))
      → does f h.store args (after_call h r p) → Runs p h.spent (λ left. on_return h.locals (calls f left h.store args) g)
  calling p f args h r g ih b = let e = meets f h.store args (after_call h r p) b in called p calls f args h r g ih e.end e.holds e.by

  finds : (p : CodeEnd World → Type 0) (x : ℕ) (found : Option ℕ) (spent : ℕ) (h : At World) (g : ℕ → State World → Outcome World) (P : ℕ → Type 0) → ((f : ℕ) → P f → Runs p spent (λ left. g f (state left h)))
      → OnFound (target_of m x found) P (p (Stops trap.Indirect spent h.store)) → Runs p spent (λ left. chosen m x found (state left h) (λ f. g f (state left h)))
  finds p x None spent h g P ih b = at_once p spent _ (Stops trap.Indirect spent h.store) b refl (λ n. refl)
  finds p x (Some f) spent h g P ih b = by (same_type (type_of m f) (slice_get (all_types m) x)) b
    where
      by : (t : Bool) → OnFound (cond t (Some f) None) P (p (Stops trap.Indirect spent h.store)) → Runs p spent (λ left. cond t (g f (state left h)) (Breaks trap.Indirect h.store))
      by true b = ih f b
      by false b = at_once p spent _ (Stops trap.Indirect spent h.store) b refl (λ n. refl)

  pub sound : (c : Code) (p : CodeEnd World → Type 0) (h : At World) → Before pages m does c p h → Runs p h.spent (λ left. run pages m calls c (state left h))
  sound Stop p h b = at_once p h.spent _ (Next h) b refl (λ n. refl)
  sound (Return None) p h b = ticks h.spent h _ (at_once p (h.spent + 1) _ (Yields (spend 1 h) None) b refl (λ n. refl))
  sound (Return (Some a)) p h b =
      with_operand a h.spent h _ (ticks (h.spent + 1) h _ (respent (h.spent + 2) _ (omega arith) (at_once p (h.spent + 2) _ (Yields (spend 2 h) (Some (value_of a h.locals))) b refl (λ n. refl))))
  sound (Branch label) p h b = ticks h.spent h _ (at_once p (h.spent + 1) _ (Leaps label (spend 1 h)) b refl (λ n. refl))
  sound (code.Trap a c) p h b =
      with_operand a h.spent h _ (with_operand c (h.spent + 1) h _ (ticks (h.spent + 1 + 1) h _ (respent (h.spent + 3) _ (omega arith)
      (calling p host_trap (value_of a h.locals ∷ value_of c h.locals ∷ []) (spend 3 h) _ (λ s v. tick s (λ s. Breaks trap.Unreachable s.store))
      (λ k value d. ticks k.spent k _ (at_once p (k.spent + 1) _ (Stops trap.Unreachable (k.spent + 1) k.store) d refl (λ n. refl))) b))))
  sound (Set x o rest) p h b =
      computes p o h _ (on_result (result_of o h) _ _ _ (λ v c. ticks (h.spent + cost o) h _ (respent (h.spent + (cost o + 1)) _ (omega arith) (sound rest p _ c))) b)
  sound (SetGlobal x a rest) p h b = with_operand a h.spent h _ (ticks (h.spent + 1) h _ (respent (h.spent + 2) _ (omega arith) (sound rest p _ b)))
  sound (code.Store kind a offset v rest) p h b =
      with_operand a h.spent h _ (with_operand v (h.spent + 1) h _ (ticks (h.spent + 1 + 1) h _ (respent (h.spent + 3) _ (omega arith)
      (chooses p _ _ _ (h.spent + 3) _ _ (λ c. sound rest p _ c) (λ c. at_once p (h.spent + 3) _ (Stops trap.Bounds (h.spent + 3) h.store) c refl (λ n. refl)) b))))
  sound (Grow a rest) p h b =
      let more : At World = set_memory (h.store.memory ++ replicate (65536 * low I32 (value_of a h.locals)) 0) h in
      let less : At World = record { spent = h.spent; store = refused h.store; locals = h.locals } in
      with_operand a h.spent h _ (ticks (h.spent + 1) h _ (chooses p (may_grow pages h.store.memory (low I32 (value_of a h.locals))) _ _ (h.spent + 1 + 1) _ _
      (λ c. ticks (h.spent + 1 + 1) more _ (ticks (h.spent + 1 + 1 + 1) more _ (ticks (h.spent + 1 + 1 + 1 + 1) more _ (respent (h.spent + 5) _ (omega arith) (sound rest p (spend 5 more) c)))))
      (λ c. ticks (h.spent + 1 + 1) less _ (ticks (h.spent + 1 + 1 + 1) less _ (ticks (h.spent + 1 + 1 + 1 + 1) less _ (ticks (h.spent + 1 + 1 + 1 + 1 + 1) less _
      (respent (h.spent + 6) _ (omega arith) (at_once p (h.spent + 6) _ (Stops trap.Unreachable (h.spent + 6) (refused h.store)) c refl (λ n. refl)))))))
      b))
  sound (GrowStable a rest) p h b =
      with_operand a h.spent h _ (ticks (h.spent + 1) h _ (respent (h.spent + 2) _ (omega arith)
      (calling p stable_grow (value_of a h.locals ∷ []) (spend 2 h) _ (λ s v. unless_refused s v (run pages m calls rest)) (not_refused p (Before pages m does rest p) (run pages m calls rest) (sound rest p)) b)))
  sound (Block body rest) p h b = ticks h.spent h _ (onwards p (Before pages m does rest p) (h.spent + 1) _ _ (sound body _ _ b) (sound rest p))
  sound (Loop body rest) p h b =
      onwards p (Before pages m does rest p) h.spent _ _ (whole_loop _ _ h (loops (run pages m calls body) (Before pages m does body) (sound body) b.0 (after_block (Before pages m does rest p) p) h b.1)) (sound rest p)
  sound (If a first second rest) p h b =
      with_operand a h.spent h _ (ticks (h.spent + 1) h _ (respent (h.spent + 2) _ (omega arith)
      (onwards p (Before pages m does rest p) (h.spent + 2) _ _
      (chooses (after_block (Before pages m does rest p) p) (is_zero (value_of a h.locals)) _ _ (h.spent + 2) _ _ (λ c. sound second _ _ c) (λ c. sound first _ _ c) b) (sound rest p))))
  sound (BranchIf a label rest) p h b =
      with_operand a h.spent h _ (ticks (h.spent + 1) h _ (respent (h.spent + 2) _ (omega arith)
      (chooses p (is_zero (value_of a h.locals)) _ _ (h.spent + 2) _ _ (λ c. sound rest p _ c) (λ c. at_once p (h.spent + 2) _ (Leaps label (spend 2 h)) c refl (λ n. refl)) b)))
  sound (Call result f args rest) p h b =
      with_operands args h.spent h [] _ (ticks (h.spent + length args) h _ (respent (h.spent + (length args + 1)) _ (omega arith)
      (calling p f (reverse (values_of args h.locals [])) (spend (length args + 1) h) _ (λ s v. result_to result s v (run pages m calls rest)) (given p result (Before pages m does rest p) (run pages m calls rest) (sound rest p)) b)))
  sound (CallIndirect result x args a rest) p h b =
      with_operands args h.spent h [] _ (with_operand a (h.spent + length args) h _ (ticks (h.spent + length args + 1) h _ (respent (h.spent + (length args + 2)) _ (omega arith)
      (finds p x (entry (slice_get h.store.table (low I32 (value_of a h.locals)))) (h.spent + (length args + 2)) h (λ f s. on_return s.locals (calls f s.left s.store (reverse (values_of args h.locals []))) (λ s v. result_to result s v (run pages m calls rest))) _
      (λ f c. calling p f (reverse (values_of args h.locals [])) (spend (length args + 2) h) _ (λ s v. result_to result s v (run pages m calls rest)) (given p result (Before pages m does rest p) (run pages m calls rest) (sound rest p)) c) b))))
