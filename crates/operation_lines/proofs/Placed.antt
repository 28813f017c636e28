-- Code of a routine in a function's own locals, of which the routine needs only those that it sets: a result may then be made in the local of
-- a value that is no operand, and words that are not used have no local.
use Rattle.std.proofs.Common.{◌≡◌, ◌+◌, ◌<◌, ◌≤◌, ℕ, zero, suc, List, [], ◌∷◌, length, Bool, true, false, ◌&&◌, ◌||◌, nat_eq, nat_lt, Option, Some, Result, Ok, Err, refl, sym, ap, ◌∙◌, subst, arith}
use Rattle.std.specs.Prelude.{slice_index, slice_set}
use Rattle.std.proofs.lemmas.Bool.Decides.{nat_tests}
use Rattle.std.proofs.lemmas.List.{length-set}
use Rattle.wasm_tree.specs.declared.trap.Trap.{Trap}
use Rattle.wasm_tree.specs.declared.trap.Trap.TheVariants.{Unreachable}
use Rattle.wasm_tree.specs.Numeric.{low, equals_zero, compare, unary, binary, convert}
use Rattle.wasm_tree.specs.declared.types.ValueType.TheVariants.{I32}
use Rattle.wasm_tree.specs.Exec.{Store}
use Rattle.low_ir.specs.declared.op.Operand.{Operand}
use Rattle.low_ir.specs.declared.op.Operand.TheVariants.{Local, Word, Long}
use Rattle.low_ir.specs.declared.op.Operation.{Operation}
use Rattle.low_ir.specs.declared.op.Operation.TheVariants.{Copy, IsZero, Compare, Unary, Binary, Convert, Load, Global, Size}
use Rattle.low_ir.specs.Numbering.{host_trap}
use Rattle.low_ir.specs.Tree as code
use Rattle.low_ir.specs.Tree.{Code, Stop, Return, Set, If, Module}
use Rattle.low_rules.specs.Rule.{At, CodeEnd, Next, Yields, Stops, CallEnd, Comes, Dies, Contracts, OnTest, OnResult, is_zero, cost, result_of, loads, spend, after_call, after_block, Before, value_of}
use Rattle.low_rules.proofs.Steps.{lt_true}
use Rattle.inlined_code.specs.Inlining.{Places, operand_at, operation_at, code_at, with_known, reads, reads_all, IsApart, IsOwn}

-- What holds of ends holds of fewer.
abbrev pub IsMonotone : {World : Type 0} → Contracts World → Type 1
IsMonotone {World = World} does = (f : ℕ) (store : Store World) (args : List ℕ) (q r : CallEnd World → Type 0) → ((end : CallEnd World) → q end → r end) → does f store args q → does f store args r

-- Code that may go inline: it has neither loops nor calls, it returns at its own end alone, and of its locals, of so many, it sets those
-- that are its own and reads those that are known.
module _ (mine : ℕ → Bool) (count : ℕ) where
  abbrev pub is_plain : Code → (ℕ → Bool) → Bool
  is_plain Stop known = true
  is_plain (code.Trap a b) known = reads 0 0 known a && reads 0 0 known b
  is_plain (Set x o rest) known = mine x && (nat_lt x count && (reads_all 0 0 known o && is_plain rest (with_known known x)))
  is_plain (If a y n rest) known = reads 0 0 known a && (is_plain y known && (is_plain n known && is_plain rest known))
  is_plain code known = false

  abbrev pub goes_inline : Code → (ℕ → Bool) → Bool
  goes_inline (Return (Some a)) known = reads 0 0 known a
  goes_inline (code.Trap a b) known = reads 0 0 known a && reads 0 0 known b
  goes_inline (Set x o rest) known = mine x && (nat_lt x count && (reads_all 0 0 known o && goes_inline rest (with_known known x)))
  goes_inline (If a y n rest) known = reads 0 0 known a && (is_plain y known && (is_plain n known && goes_inline rest known))
  goes_inline code known = false

-- It begins with a local that is set.
abbrev pub begins_so : Code → Bool
begins_so (Set x o rest) = true
begins_so c = false

-- Other locals of the function are as they were.
abbrev pub KeepsRest : (at : Places) (mine : ℕ → Bool) → (start own : List ℕ) → Type 0
KeepsRest at mine start own = (z : ℕ) → ((x : ℕ) → mine x ≡ true → z ≡ at.write x → ⊥) → slice_index own z ≡ slice_index start z

pub record Agree (at : Places) (mine : ℕ → Bool) (count size : ℕ) (start : List ℕ) (known : ℕ → Bool) (locals own : List ℕ) : Type 0 where
  pub many : length locals ≡ count
  pub long : length own ≡ size
  pub few : (x : ℕ) → known x ≡ true → x < count
  pub same : (x : ℕ) → known x ≡ true → value_of (at.read x) own ≡ slice_index locals x
  pub others : KeepsRest at mine start own

-- ---- tests

both : (a b : Bool) → (a && b) ≡ true → (a ≡ true) × (b ≡ true)
both true b e = (refl, e)
both false b e = absurd (cc e)

set_parts : (count x : ℕ) (s o t : Bool) → (s && (nat_lt x count && (o && t))) ≡ true → (s ≡ true) × (x < count) × (o ≡ true) × (t ≡ true)
set_parts count x s o t e =
    let p = both s (nat_lt x count && (o && t)) e in
    let q = both (nat_lt x count) (o && t) p.1 in
    let r = both o t q.1 in
    (p.0, lt_true x count q.0, r.0, r.1)

choice_parts : (a y n t : Bool) → (a && (y && (n && t))) ≡ true → (a ≡ true) × (y ≡ true) × (n ≡ true) × (t ≡ true)
choice_parts a y n t e =
    let p = both a (y && (n && t)) e in
    let q = both y (n && t) p.1 in
    let r = both n t q.1 in
    (p.0, q.0, r.0, r.1)

or_known : (a b : Bool) → b ≡ true → (a || b) ≡ true
or_known true b e = refl
or_known false b e = e

-- ---- locals

here : (l : List ℕ) (x v : ℕ) → x < length l → slice_index (slice_set l x v) x ≡ v
here [] x v lt = absurd (omega arith)
here (y ∷ l) zero v lt = refl
here (y ∷ l) (suc x) v lt = here l x v (omega arith)

other : (l : List ℕ) (x y v : ℕ) → (y ≡ x → ⊥) → slice_index (slice_set l x v) y ≡ slice_index l y
other [] x y v ne = refl
other (z ∷ l) zero zero v ne = absurd (ne refl)
other (z ∷ l) zero (suc y) v ne = refl
other (z ∷ l) (suc x) zero v ne = refl
other (z ∷ l) (suc x) (suc y) v ne = other l x y v (λ e. ne (ap suc e))

still : (a : Operand) (own : List ℕ) (w v : ℕ) → IsApart a w → value_of a (slice_set own w v) ≡ value_of a own
still (Local z) own w v ne = other own w z v ne
still (Word z) own w v ne = refl
still (Long z) own w v ne = refl

module _ (at : Places) (mine : ℕ → Bool) (count size : ℕ) (start : List ℕ) (can : (x : ℕ) → mine x ≡ true → IsOwn at count size x) where
  operand_same : (known : ℕ → Bool) (a : Operand) → reads 0 0 known a ≡ true → (locals own : List ℕ) → Agree at mine count size start known locals own → value_of (operand_at at a) own ≡ value_of a locals
  operand_same known (Local x) r locals own g = g.same x r
  operand_same known (Word z) r locals own g = refl
  operand_same known (Long z) r locals own g = refl

  set_agree : (known : ℕ → Bool) (x v : ℕ) → mine x ≡ true → x < count → (locals own : List ℕ) → Agree at mine count size start known locals own → Agree at mine count size start (with_known known x) (slice_set locals x v) (slice_set own (at.write x) v)
  set_agree known x v own_it lt locals own g = record {
    many = length-set locals x v ∙ g.many;
    long = length-set own (at.write x) v ∙ g.long;
    few = λ y k. bound y (nat_eq y x) refl k;
    same = λ y k. by y (nat_eq y x) refl k;
    others = λ z ne. other own (at.write x) z v (ne x own_it) ∙ g.others z ne;
  }
    where
      is : IsOwn at count size x
      is = can x own_it

      this : value_of (at.read x) (slice_set own (at.write x) v) ≡ slice_index (slice_set locals x v) x
      this =
          let there = is.there in
          ap (λ a. value_of a (slice_set own (at.write x) v)) is.read ∙ here own (at.write x) v (let l = g.long in omega (arith, there, l)) ∙ sym (here locals x v (let l = g.many in omega (arith, lt, l)))

      equal : (y x : ℕ) → nat_eq y x ≡ true → y ≡ x
      equal y x e = grind (arith, nat_tests, e)

      unequal : (y x : ℕ) → nat_eq y x ≡ false → y ≡ x → ⊥
      unequal y x e k = grind (arith, nat_tests, e, k)

      bound : (y : ℕ) (t : Bool) → nat_eq y x ≡ t → (t || known y) ≡ true → y < count
      bound y true e k = subst (λ y. y < count) (sym (equal y x e)) lt
      bound y false e k = g.few y k

      by : (y : ℕ) (t : Bool) → nat_eq y x ≡ t → (t || known y) ≡ true → value_of (at.read y) (slice_set own (at.write x) v) ≡ slice_index (slice_set locals x v) y
      by y true e k = subst (λ y. value_of (at.read y) (slice_set own (at.write x) v) ≡ slice_index (slice_set locals x v) y) (sym (equal y x e)) this
      by y false e k = still (at.read y) own (at.write x) v (is.apart y (g.few y k) (unequal y x e)) ∙ g.same y k ∙ sym (other locals x y v (unequal y x e))

  -- what is known stays known
  fewer : (known more : ℕ → Bool) → ((x : ℕ) → known x ≡ true → more x ≡ true) → (locals own : List ℕ) → Agree at mine count size start more locals own → Agree at mine count size start known locals own
  fewer known more in_more locals own g = record { many = g.many; long = g.long; few = λ x k. g.few x (in_more x k); same = λ x k. g.same x (in_more x k); others = g.others }

  cost_same : (o : Operation) → cost (operation_at at o) ≡ cost o
  cost_same (Copy a) = refl
  cost_same (IsZero kind a) = refl
  cost_same (Compare kind o a b) = refl
  cost_same (Unary kind o a) = refl
  cost_same (Binary kind o a b) = refl
  cost_same (Convert o a) = refl
  cost_same (Load kind a offset) = refl
  cost_same (Global x) = refl
  cost_same Size = refl

  module _ {World : Type 0} (store : Store World) (known : ℕ → Bool) (locals own : List ℕ) (g : Agree at mine count size start known locals own) where
    result_same : (o : Operation) → reads_all 0 0 known o ≡ true → (s t : ℕ) → result_of (operation_at at o) (record { spent = s; store = store; locals = own }) ≡ result_of o (record { spent = t; store = store; locals = locals })
    result_same (Copy a) r s t = ap (λ v. Ok v) (operand_same known a r locals own g)
    result_same (IsZero kind a) r s t = ap (λ v. Ok (equals_zero kind v)) (operand_same known a r locals own g)
    result_same (Compare kind o a b) r s t = let p = both (reads 0 0 known a) (reads 0 0 known b) r in λ i. Ok (compare kind o (operand_same known a p.0 locals own g i) (operand_same known b p.1 locals own g i))
    result_same (Unary kind o a) r s t = ap (λ v. Ok (unary kind o v)) (operand_same known a r locals own g)
    result_same (Binary kind o a b) r s t = let p = both (reads 0 0 known a) (reads 0 0 known b) r in λ i. binary kind o (operand_same known a p.0 locals own g i) (operand_same known b p.1 locals own g i)
    result_same (Convert o a) r s t = ap (λ v. Ok (convert o v)) (operand_same known a r locals own g)
    result_same (Load kind a offset) r s t = ap (λ v. loads store.memory kind (low I32 v + offset)) (operand_same known a r locals own g)
    result_same (Global x) r s t = refl
    result_same Size r s t = refl

-- ---- tests and results

on_results : (r r' : Result ℕ Trap) (P P' : ℕ → Type 0) (Q Q' : Trap → Type 0) → r' ≡ r → ((v : ℕ) → P v → P' v) → ((c : Trap) → Q c → Q' c) → OnResult r P Q → OnResult r' P' Q'
on_results (Ok v) r' P P' Q Q' e f k h = subst (λ r. OnResult r P' Q') (sym e) (f v h)
on_results (Err c) r' P P' Q Q' e f k h = subst (λ r. OnResult r P' Q') (sym e) (k c h)

on_tests : (v w : ℕ) (P P' Q Q' : Type 0) → w ≡ v → (P → P') → (Q → Q') → OnTest (is_zero v) P Q → OnTest (is_zero w) P' Q'
on_tests v w P P' Q Q' e f k h = subst (λ w. OnTest (is_zero w) P' Q') (sym e) (by (is_zero v) h)
  where
    by : (t : Bool) → OnTest t P Q → OnTest t P' Q'
    by true h = f h
    by false h = k h

module _ {World : Type 0} (pages : ℕ) (m : Module) (does : Contracts World) (mono : IsMonotone does) (at : Places) (mine : ℕ → Bool) (count size : ℕ) (start : List ℕ) (can : (x : ℕ) → mine x ≡ true → IsOwn at count size x) (out : Operand → Code) (before : ℕ) where
  abbrev in_routine : ℕ → Store World → List ℕ → At World
  in_routine spent store locals = record { spent = spent; store = store; locals = locals }

  abbrev in_function : ℕ → Store World → List ℕ → At World
  in_function spent store own = record { spent = before + spent; store = store; locals = own }

  abbrev Stopping : (CodeEnd World → Type 0) → (CodeEnd World → Type 0) → Type 0
  Stopping p r = (cause : Trap) (spent : ℕ) (store : Store World) → p (Stops cause spent store) → r (Stops cause (before + spent) store)

  -- before code, wherever it stands, where so much is known
  abbrev Shifts : (ℕ → Bool) → (CodeEnd World → Type 0) → (CodeEnd World → Type 0) → Code → Type 0
  Shifts known p r c = (spent : ℕ) (store : Store World) (locals own : List ℕ) → 1 ≤ spent → Agree at mine count size start known locals own → Before pages m does c p (in_routine spent store locals) → Before pages m does (code_at at out c) r (in_function spent store own)

  -- before its first instruction
  abbrev Starts : (ℕ → Bool) → (CodeEnd World → Type 0) → (CodeEnd World → Type 0) → Code → Type 0
  Starts known p r c = (spent : ℕ) (store : Store World) (locals own : List ℕ) → Agree at mine count size start known locals own → Before pages m does c p (in_routine spent store locals) → Before pages m does (code_at at out c) r (in_function spent store own)

  -- at its end, where so much at least is known
  abbrev Going : (ℕ → Bool) → (CodeEnd World → Type 0) → (CodeEnd World → Type 0) → Type 0
  Going known p r = (spent : ℕ) (store : Store World) (locals own : List ℕ) → 1 ≤ spent → Agree at mine count size start known locals own → p (Next (in_routine spent store locals)) → r (Next (in_function spent store own))

  abbrev Giving : (CodeEnd World → Type 0) → (CodeEnd World → Type 0) → Type 0
  Giving p r =
      (a : Operand) (spent v : ℕ) (store : Store World) (locals own : List ℕ) → 1 ≤ spent → length own ≡ size → KeepsRest at mine start own → value_of a own ≡ v → p (Yields (in_routine (spent + 2) store locals) (Some v)) → Before pages m does (out a) r (in_function spent store own)

  traps_too : (known : ℕ → Bool) (p r : CodeEnd World → Type 0) → Stopping p r → (a b : Operand) → reads 0 0 known a ≡ true → reads 0 0 known b ≡ true → Starts known p r (code.Trap a b)
  traps_too known p r stops a b ra rb spent store locals own g h =
      let x = operand_same at mine count size start can known a ra locals own g in
      let y = operand_same at mine count size start can known b rb locals own g in
      subst (λ args. does host_trap store args (after_call (spend 3 (in_function spent store own)) (λ (k : At World) (value : Option ℕ). r (Stops Unreachable (k.spent + 1) k.store)) r)) (λ i. sym x i ∷ sym y i ∷ [])
      (mono host_trap store (value_of a locals ∷ value_of b locals ∷ []) _ _ ended h)
    where
      ended : (end : CallEnd World) → after_call (spend 3 (in_routine spent store locals)) (λ (k : At World) (value : Option ℕ). p (Stops Unreachable (k.spent + 1) k.store)) p end
          → after_call (spend 3 (in_function spent store own)) (λ (k : At World) (value : Option ℕ). r (Stops Unreachable (k.spent + 1) k.store)) r end
      ended (Comes taken store' value) k = let e : before + (spent + 3 + taken + 1) ≡ before + spent + 3 + taken + 1 = omega arith in subst (λ s. r (Stops Unreachable s store')) e (stops Unreachable (spent + 3 + taken + 1) store' k)
      ended (Dies cause taken store') k = let e : before + (spent + 3 + taken) ≡ before + spent + 3 + taken = omega arith in subst (λ s. r (Stops cause s store')) e (stops cause (spent + 3 + taken) store' k)

  -- after a local was set
  sets : (known : ℕ → Bool) (p r : CodeEnd World → Type 0) → Stopping p r → (x : ℕ) (o : Operation) (rest : Code) → mine x ≡ true → x < count → reads_all 0 0 known o ≡ true → Shifts (with_known known x) p r rest → Starts known p r (Set x o rest)
  sets known p r stops x o rest own_it lt reads then spent store locals own g h =
      on_results (result_of o (in_routine spent store locals)) (result_of (operation_at at o) (in_function spent store own)) _ _ _ _ (result_same at mine count size start can store known locals own g o reads (before + spent) spent)
      (λ v k.
      let e : before + (spent + (cost o + 1)) ≡ before + spent + (cost (operation_at at o) + 1) = let c = cost_same at mine count size start can o in omega (arith, c) in
      subst (λ s. Before pages m does (code_at at out rest) r (record { spent = s; store = store; locals = slice_set own (at.write x) v })) e
      (then (spent + (cost o + 1)) store (slice_set locals x v) (slice_set own (at.write x) v) (omega arith) (set_agree at mine count size start can known x v own_it lt locals own g) k))
      (λ c k. let e : before + (spent + cost o) ≡ before + spent + cost (operation_at at o) = let c = cost_same at mine count size start can o in omega (arith, c) in subst (λ s. r (Stops c s store)) e (stops c (spent + cost o) store k))
      h

  -- after a choice
  chooses : (known : ℕ → Bool) (p r : CodeEnd World → Type 0) (a : Operand) (one two rest : Code) → reads 0 0 known a ≡ true → Shifts known (after_block (Before pages m does rest p) p) (after_block (Before pages m does (code_at at out rest) r) r) one
      → Shifts known (after_block (Before pages m does rest p) p) (after_block (Before pages m does (code_at at out rest) r) r) two → Starts known p r (If a one two rest)
  chooses known p r a one two rest reads first_one second_one spent store locals own g h =
      let e : before + (spent + 2) ≡ before + spent + 2 = omega arith in
      on_tests (value_of a locals) (value_of (operand_at at a) own) _ _ _ _ (operand_same at mine count size start can known a reads locals own g)
      (λ k. subst (λ s. Before pages m does (code_at at out two) (after_block (Before pages m does (code_at at out rest) r) r) (record { spent = s; store = store; locals = own })) e (second_one (spent + 2) store locals own (omega arith) g k))
      (λ k. subst (λ s. Before pages m does (code_at at out one) (after_block (Before pages m does (code_at at out rest) r) r) (record { spent = s; store = store; locals = own })) e (first_one (spent + 2) store locals own (omega arith) g k))
      h

  -- Of code inside a choice: what was known before the choice is known at its end.
  plain : (c : Code) (known now : ℕ → Bool) → ((x : ℕ) → known x ≡ true → now x ≡ true) → is_plain mine count c now ≡ true → (p r : CodeEnd World → Type 0) → Stopping p r → Going known p r → Shifts now p r c
  plain Stop known now in_now k p r stops goes spent store locals own some g h = goes spent store locals own some (fewer at mine count size start can known now in_now locals own g) h
  plain (code.Trap a b) known now in_now k p r stops goes spent store locals own some g h = let t = both (reads 0 0 now a) (reads 0 0 now b) k in traps_too now p r stops a b t.0 t.1 spent store locals own g h
  plain (Set x o rest) known now in_now k p r stops goes spent store locals own some g h =
      let t = set_parts count x (mine x) (reads_all 0 0 now o) (is_plain mine count rest (with_known now x)) k in
      sets now p r stops x o rest t.0 t.1 t.2 (plain rest known (with_known now x) (λ y q. or_known (nat_eq y x) (now y) (in_now y q)) t.3 p r stops goes) spent store locals own g h
  plain (If a one two rest) known now in_now k p r stops goes spent store locals own some g h =
      let t = choice_parts (reads 0 0 now a) (is_plain mine count one now) (is_plain mine count two now) (is_plain mine count rest now) k in
      chooses now p r a one two rest t.0
      (plain one now now (λ x q. q) t.1 (after_block (Before pages m does rest p) p) (after_block (Before pages m does (code_at at out rest) r) r) stops (plain rest known now in_now t.3 p r stops goes))
      (plain two now now (λ x q. q) t.2 (after_block (Before pages m does rest p) p) (after_block (Before pages m does (code_at at out rest) r) r) stops (plain rest known now in_now t.3 p r stops goes))
      spent store locals own g h
  plain c known now in_now k p r stops goes spent store locals own some g h = absurd (cc k)

  pub inline : (c : Code) (known : ℕ → Bool) → goes_inline mine count c known ≡ true → (p r : CodeEnd World → Type 0) → Stopping p r → Giving p r → Shifts known p r c
  inline (Return (Some a)) known k p r stops gives spent store locals own some g h = gives (operand_at at a) spent (value_of a locals) store locals own some g.long g.others (operand_same at mine count size start can known a k locals own g) h
  inline (code.Trap a b) known k p r stops gives spent store locals own some g h = let t = both (reads 0 0 known a) (reads 0 0 known b) k in traps_too known p r stops a b t.0 t.1 spent store locals own g h
  inline (Set x o rest) known k p r stops gives spent store locals own some g h =
      let t = set_parts count x (mine x) (reads_all 0 0 known o) (goes_inline mine count rest (with_known known x)) k in
      sets known p r stops x o rest t.0 t.1 t.2 (inline rest (with_known known x) t.3 p r stops gives) spent store locals own g h
  inline (If a one two rest) known k p r stops gives spent store locals own some g h =
      let t = choice_parts (reads 0 0 known a) (is_plain mine count one known) (is_plain mine count two known) (goes_inline mine count rest known) k in
      chooses known p r a one two rest t.0
      (plain one known known (λ x q. q) t.1 (after_block (Before pages m does rest p) p) (after_block (Before pages m does (code_at at out rest) r) r) stops (inline rest known t.3 p r stops gives))
      (plain two known known (λ x q. q) t.2 (after_block (Before pages m does rest p) p) (after_block (Before pages m does (code_at at out rest) r) r) stops (inline rest known t.3 p r stops gives))
      spent store locals own g h
  inline c known k p r stops gives spent store locals own some g h = absurd (cc k)

  pub begins_inline : (c : Code) (known : ℕ → Bool) → begins_so c ≡ true → goes_inline mine count c known ≡ true → (p r : CodeEnd World → Type 0) → Stopping p r → Giving p r → Starts known p r c
  begins_inline (Set x o rest) known b k p r stops gives =
      let t = set_parts count x (mine x) (reads_all 0 0 known o) (goes_inline mine count rest (with_known known x)) k in
      sets known p r stops x o rest t.0 t.1 t.2 (inline rest (with_known known x) t.3 p r stops gives)
  begins_inline c known b k p r stops gives = absurd (cc b)
