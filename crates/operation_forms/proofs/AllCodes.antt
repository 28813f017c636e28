-- The codes of all primitives that are treated.
use Rattle.std.proofs.Common.{◌≡◌, ℕ, suc, ◌+◌, ◌-◌, ◌*◌, ◌<◌, ◌≤◌, ◌^◌, List, [], ◌∷◌, length, Bool, true, false, ◌&&◌, cond, nat_lt, nat_le, Some, ℤ, pos, negsuc, ◌-ℤ◌, refl, sym, subst, arith, FitsSigned}
use Rattle.std.specs.Prelude.{slice_get, int_le}
use Rattle.std.specs.Int.{w32, w64}
use Rattle.std.proofs.lemmas.Bool.Decides.{nat_tests}
use Rattle.std.proofs.lemmas.Int.{ints}
use Rattle.mo_num.specs.declared.kind.Kind.{Kind}
use Rattle.mo_num.specs.declared.operator.Operator.{Operator}
use Rattle.mo_types.specs.declared.datum.Datum.{Datum}
use Rattle.mo_types.specs.declared.datum.Datum.TheVariants as part
use Rattle.mo_types.specs.declared.node.Node.{Node}
use Rattle.mo_types.specs.declared.node.TypeId.{TypeId}
use Rattle.mo_types.specs.Label.{label_id}
use Rattle.mo_values.specs.declared.operation.Operation.{Operation}
use Rattle.mo_values.specs.declared.operation.Operation.TheVariants as op
use Rattle.mo_values.specs.Operations.{assertion_failed}
use Rattle.mo_values.specs.Shapes.{Bytes}
use Rattle.wasm_tree.specs.declared.types.ValueType.{ValueType}
use Rattle.wasm_tree.specs.declared.types.ValueType.TheVariants.{I32, I64}
use Rattle.wasm_tree.specs.declared.op.Comparison.{Comparison}
use Rattle.wasm_tree.specs.declared.op.Comparison.TheVariants.{Eq, Ne}
use Rattle.wasm_tree.specs.declared.op.Conversion.TheVariants.{ExtendU}
use Rattle.core_ir.specs.declared.primitive.Primitive.{Primitive}
use Rattle.core_ir.specs.declared.primitive.Primitive.TheVariants as primitive
use Rattle.low_ir.specs.declared.op.Operand.{Operand}
use Rattle.low_ir.specs.declared.op.Operand.TheVariants.{Local, Long}
use Rattle.low_ir.specs.declared.op.Operation.TheVariants.{Convert}
use Rattle.low_ir.specs.Tree.{Code, Stop, Set, Module}
use Rattle.low_ir.specs.Numbering.{host_types, host_signatures, type_of, all_types}
use Rattle.low_ir.specs.Formed.{OperandIs, IsFormed, FunctionIsFormed}
use Rattle.heap_layout.specs.Blocks.{text_words}
use Rattle.heap_layout.specs.Heaps.{Plan}
use Rattle.heap_layout.specs.Table.{host_print}
use Rattle.operation_codes.specs.Links.{Links, failing_routine, stands_ready}
use Rattle.operation_codes.specs.Codes as codes
use Rattle.operation_codes.specs.Codes.{Way, Inline, Spare, Calls, way, at_once, inline_spare, calculate_by, code_of, operation_of}
use Rattle.number_routines.specs.Codes.{calculate}
use Rattle.operation_codes.specs.Treated.{is_long, is_word_literal, is_treated, is_treated_operation}
use Rattle.operation_forms.specs.Laws.{of_words, of_address, of_text, TrapsFit, IsCalled, TypesFit, LocalsFit, AreWords, CodesAreFormed, RoutinesAreFormed}
use Rattle.operation_forms.proofs.Forms.{word, long, below_zero}
use Rattle.operation_forms.proofs.AllKinds.{AsWay, negated, wrapped, calculated, routine_formed}

print_type : (m : Module) → type_of m host_print ≡ Some (record { params = I32 ∷ I32 ∷ []; results = [] })
unfolding host_types host_signatures
print_type m = refl

both : (a b : Bool) → (a && b) ≡ true → (a ≡ true) × (b ≡ true)
both true b e = (refl, e)
both false b e = absurd (cc e)

at_most : (i n : ℕ) → nat_le i n ≡ true → i ≤ n
at_most i n e = grind (arith, nat_tests, e)

below : (i n : ℕ) → nat_lt i n ≡ true → i < n
below i n e = grind (arith, nat_tests, e)

-- A number of a kind has a literal.
pub number_fits : (n : ℤ) → is_long n ≡ true → FitsSigned w64 (codes.signed_long n)
number_fits (negsuc n) e =
    let p = both (int_le (negsuc (2 ^ 63 - 1)) (negsuc n)) _ e in
    let lo = p.0 in
    below_zero n (omega (arith, ints, lo))
number_fits (pos n) e = by (int_le (pos n) (pos (2 ^ 63 - 1))) refl
  where
    turned : (z : ℤ) → z ≡ pos n -ℤ pos (2 ^ 64) → int_le (pos n) (pos (2 ^ 64 - 1)) ≡ true → int_le (pos n) (pos (2 ^ 63 - 1)) ≡ false → FitsSigned w64 z
    turned (pos k) is hi other = absurd (omega (arith, ints, is, hi))
    turned (negsuc k) is hi other = below_zero k (omega (arith, ints, is, other))

    by : (t : Bool) → int_le (pos n) (pos (2 ^ 63 - 1)) ≡ t → FitsSigned w64 (cond t (pos n) (pos n -ℤ pos (2 ^ 64)))
    by true q = long n (omega (arith, ints, q))
    by false q = turned (pos n -ℤ pos (2 ^ 64)) refl (both (int_le (negsuc (2 ^ 63 - 1)) (pos n)) _ e).1 q

module _ (m : Module) (head : TypeId → Node TypeId) (plan : Plan) (links : Links) (types : TypesFit m links) (fit : TrapsFit links.traps) (low : 8 * plan.base ≤ 2 ^ 31) (locals results : List ValueType) (labels to free : ℕ) (there : LocalsFit locals to free) where
  abbrev Formed : Code → Type 0
  Formed c = IsFormed m locals results labels [] c

  abbrev IsWord : Operand → Type 0
  IsWord a = OperandIs locals a I64

  text_fits : (t : Bytes) → stands_ready plan (links.bytes_at t) t ≡ true → FitsSigned w32 (pos (8 * links.bytes_at t))
  text_fits t e =
      let p = both (nat_lt 0 (links.bytes_at t)) _ e in
      let q = both (nat_le (links.bytes_at t + text_words t) plan.base) _ p.1 in
      let le = at_most (links.bytes_at t + text_words t) plan.base q.0 in
      word (8 * links.bytes_at t) (omega (arith, le, low))

  fails_formed : (inner : ℕ) (t : Bytes) → stands_ready plan (links.bytes_at t) t ≡ true → IsFormed m locals results inner [] (codes.fails links t)
  fails_formed inner t e = (record { type = of_text; is = types.failing; kinds = ((refl, text_fits t e), tt); gives = refl }, refl)

  copied : (a : Operand) → IsWord a → Formed (codes.copies to a)
  copied a ia = (I64, there.value, ia, refl)

  unit_formed : Formed (codes.gives_unit to)
  unit_formed = copied (Long (pos 0)) (refl, long 0 (omega arith))

  tells_formed : (test : Comparison) (a b : Operand) → IsWord a → IsWord b → Formed (codes.tells test to free a b)
  tells_formed test a b ia ib = (I32, there.first, (ia, ib, refl), (I64, there.value, (there.first, refl), refl))

  loads_formed : (i : ℕ) → i < 2 ^ 29 → (a : Operand) → IsWord a → Formed (codes.loads to free i a)
  loads_formed i few a ia = (I32, there.first, (ia, refl), (I64, there.value, (there.first, omega (arith, few), refl), refl))

  stores_formed : (i : ℕ) (xs : List Operand) (rest : Code) → i + length xs ≤ 2 ^ 28 → AreWords locals xs → Formed rest → Formed (codes.stores free i xs rest)
  stores_formed i [] rest few are h = h
  stores_formed i (x ∷ xs) rest few are h = (there.first, omega (arith, few), are.0, stores_formed (1 + i) xs rest (omega (arith, few)) are.1 h)

  new_formed : (xs : List Operand) → length xs < 2 ^ 28 → AreWords locals xs → Formed (codes.new_block links to free xs)
  new_formed xs few are = (
    record { type = of_address; is = types.allocation; kinds = ((refl, word (8 * length xs) (omega (arith, few))), tt); gives = (I32, refl, there.first) },
    stores_formed 0 xs (Set to (Convert ExtendU (Local free)) Stop) (omega (arith, few)) are (I64, there.value, (there.first, refl), refl),
  )

  block_formed : (xs : List Operand) → AreWords locals xs → Formed (codes.block links to free xs)
  block_formed xs are = by (nat_lt (length xs) (2 ^ 28)) refl
    where
      by : (t : Bool) → nat_lt (length xs) (2 ^ 28) ≡ t → Formed (cond t (codes.new_block links to free xs) codes.too_large)
      by true e = new_formed xs (below (length xs) (2 ^ 28) e) are
      by false e = ((refl, word 65537 (omega arith)), refl)

  -- ---- arithmetic

  called_formed : (o : Operator) (k : Kind) → IsCalled (way o k) → (a b : Operand) → IsWord a → IsWord b → Formed (codes.calls (links.calculation o k) to (a ∷ b ∷ []))
  called_formed o k c a b ia ib = (record { type = of_words; is = types.calculation o k c; kinds = (ia, (ib, tt)); gives = (I64, refl, there.value) }, refl)

  module _ (a b : Operand) (ia : IsWord a) (ib : IsWord b) (o : Operator) (k : Kind) where
    abbrev Ways : Way → Type 0
    Ways w = AsWay m locals results labels links.traps fit to free there a b ia ib w o k

    called_by : (w : Way) → way o k ≡ w → IsCalled w → Formed (codes.calls (links.calculation o k) to (a ∷ b ∷ []))
    called_by w e c = called_formed o k (subst IsCalled (sym e) c) a b ia ib

    calculated_by : (w : Way) → way o k ≡ w → Ways w → Formed (calculate_by links w o k to free a b)
    calculated_by Inline e h = h
    calculated_by Calls e h = called_by Calls e tt
    calculated_by Spare e h = by (at_once to free (a ∷ b ∷ []))
      where
        by : (t : Bool) → Formed (cond t (inline_spare to free a b (calculate links.traps 2 3 4 5 6 o k)) (codes.calls (links.calculation o k) to (a ∷ b ∷ [])))
        by true = h
        by false = called_by Spare e tt

    arithmetic_formed : Formed (calculate_by links (way o k) o k to free a b)
    arithmetic_formed = calculated_by (way o k) refl (calculated m locals results labels links.traps fit to free there a b ia ib o k)

  -- ---- literals

  literal_fits : (c : Datum) → is_word_literal c ≡ true → FitsSigned w64 (codes.literal c)
  literal_fits (part.Number n) e = number_fits n e
  literal_fits (part.Flag true) e = long 1 (omega arith)
  literal_fits (part.Flag false) e = long 0 (omega arith)
  literal_fits (part.Char c) e = let lt = below c (2 ^ 32) e in long c (omega (arith, lt))
  literal_fits part.Null e = absurd (cc e)
  literal_fits (part.Text t) e = absurd (cc e)
  literal_fits (part.Blob t) e = absurd (cc e)
  literal_fits (part.Principal t) e = absurd (cc e)
  literal_fits (part.Actor t) e = absurd (cc e)
  literal_fits (part.Method t u) e = absurd (cc e)
  literal_fits part.Present e = absurd (cc e)
  literal_fits (part.Many n) e = absurd (cc e)
  literal_fits (part.Record n) e = absurd (cc e)
  literal_fits (part.Tag n) e = absurd (cc e)

  -- ---- all of them

  negates_formed : (a : Operand) → IsWord a → Formed (codes.negates to free a)
  negates_formed a ia = (I32, there.first, (ia, refl), (I64, there.value, (there.first, refl), refl))

  asserts_formed : stands_ready plan (links.bytes_at assertion_failed) assertion_failed ≡ true → (a : Operand) → IsWord a → Formed (codes.asserts links to free a)
  asserts_formed e a ia = (I32, there.first, (ia, refl), (there.first, fails_formed (suc labels) assertion_failed e, refl, unit_formed))

  traps_formed : (a : Operand) → IsWord a → Formed (codes.traps_with links free a)
  traps_formed a ia = (I32, there.first, (ia, refl), (record { type = of_text; is = types.failing; kinds = (there.first, tt); gives = refl }, refl))

  prints_formed : (a : Operand) → IsWord a → Formed (codes.prints to free a)
  prints_formed a ia = (
    I32,
    there.first,
    (ia, refl),
    (
      I64,
      there.third,
      (there.first, omega arith, refl),
      (
        I32,
        there.second,
        (there.third, refl),
        (
          I32,
          there.first,
          (there.first, (refl, word 8 (omega arith)), refl),
          (record { type = record { params = I32 ∷ I32 ∷ []; results = [] }; is = print_type m; kinds = (there.first, (there.second, tt)); gives = refl }, unit_formed),
        ),
      ),
    ),
  )

  writes_formed : (c v : Operand) → IsWord c → IsWord v → Formed (codes.writes to free c v)
  writes_formed c v ic iv = (I32, there.first, (ic, refl), (there.first, omega arith, iv, unit_formed))

  many_fits : (xs : List Operand) → length xs < 2 ^ 28 → FitsSigned w64 (pos (1 + length xs))
  many_fits xs few = long (1 + length xs) (omega (arith, few))

  label_fits : (l : Bytes) → FitsSigned w64 (pos (label_id l))
  label_fits l = long (label_id l) (omega arith)

  tuple_formed : (xs : List Operand) → AreWords locals xs → Formed (codes.tuple links to free xs)
  tuple_formed [] are = unit_formed
  tuple_formed (x ∷ xs) are = by (nat_lt (length (Long (pos (1 + length xs)) ∷ x ∷ xs)) (2 ^ 28)) refl
    where
      by : (t : Bool) → nat_lt (length (Long (pos (1 + length xs)) ∷ x ∷ xs)) (2 ^ 28) ≡ t → Formed (cond t (codes.new_block links to free (Long (pos (1 + length xs)) ∷ x ∷ xs)) codes.too_large)
      by true e = let few = below (length (Long (pos (1 + length xs)) ∷ x ∷ xs)) (2 ^ 28) e in new_formed (Long (pos (1 + length xs)) ∷ x ∷ xs) few ((refl, many_fits xs (omega (arith, few))), are)
      by false e = ((refl, word 65537 (omega arith)), refl)

  operation_formed : (o : Operation) → is_treated_operation head plan links o ≡ true → (xs : List Operand) → AreWords locals xs → Formed (operation_of links o to free xs)
  operation_formed (op.Arithmetic o k) e (a ∷ b ∷ []) are = arithmetic_formed a b are.0 are.1.0 o k
  operation_formed (op.Negate k) e (a ∷ []) are = negated m locals results labels links.traps fit to free there a are.0 k
  operation_formed (op.Wrap w k) e (a ∷ b ∷ []) are = wrapped m locals results labels links.traps fit to free there a b are.0 are.1.0 w k
  operation_formed (op.Compare o s) e (a ∷ b ∷ []) are = tells_formed (codes.order_test s o) a b are.0 are.1.0
  operation_formed (op.Same s) e (a ∷ b ∷ []) are = tells_formed Eq a b are.0 are.1.0
  operation_formed (op.Equal t) e (a ∷ b ∷ []) are = tells_formed Eq a b are.0 are.1.0
  operation_formed (op.Unequal t) e (a ∷ b ∷ []) are = tells_formed Ne a b are.0 are.1.0
  operation_formed op.Not e (a ∷ []) are = negates_formed a are.0
  operation_formed op.Assert e (a ∷ []) are = asserts_formed e a are.0
  operation_formed op.MakeTuple e xs are = tuple_formed xs are
  operation_formed op.MakeOption e (a ∷ []) are = new_formed (a ∷ []) (omega arith) (are.0, tt)
  operation_formed (op.MakeTag l) e (a ∷ []) are = new_formed (Long (pos (label_id l)) ∷ a ∷ []) (omega arith) ((refl, label_fits l), (are.0, tt))
  operation_formed (op.Project i) e (a ∷ []) are = loads_formed (1 + i) (let lt = below i (2 ^ 28) e in omega (arith, lt)) a are.0
  operation_formed op.Trap e (a ∷ []) are = traps_formed a are.0
  operation_formed (op.Fail t) e [] are = fails_formed labels t e
  operation_formed o e [] are = refl
  operation_formed o e (a ∷ []) are = refl
  operation_formed o e (a ∷ b ∷ []) are = refl
  operation_formed o e (a ∷ b ∷ x ∷ xs) are = refl

  pub primitive_formed : (p : Primitive) → is_treated head plan links p ≡ true → (xs : List Operand) → AreWords locals xs → Formed (code_of links p to free xs)
  primitive_formed (primitive.Operate o) e xs are = operation_formed o e xs are
  primitive_formed primitive.Copy e (a ∷ []) are = copied a are.0
  primitive_formed (primitive.Is c) e (a ∷ []) are = tells_formed Eq (Long (codes.literal c)) a (refl, literal_fits c e) are.0
  primitive_formed primitive.New e (a ∷ []) are = new_formed (a ∷ Long (pos 0) ∷ []) (omega arith) (are.0, ((refl, long 0 (omega arith)), tt))
  primitive_formed primitive.Read e (a ∷ []) are = loads_formed 0 (omega arith) a are.0
  primitive_formed primitive.Write e (c ∷ v ∷ []) are = writes_formed c v are.0 are.1.0
  primitive_formed primitive.Print e (a ∷ []) are = prints_formed a are.0
  primitive_formed p e [] are = refl
  primitive_formed p e (a ∷ []) are = refl
  primitive_formed p e (a ∷ b ∷ []) are = refl
  primitive_formed p e (a ∷ b ∷ x ∷ xs) are = refl

pub codes_formed : CodesAreFormed
codes_formed m head plan links types fit low p e locals results labels to free xs there are = primitive_formed m head plan links types fit low locals results labels to free there p e xs are

failing_formed : (m : Module) (signature : ℕ) → slice_get (all_types m) signature ≡ Some of_text → FunctionIsFormed m (failing_routine signature)
failing_formed m signature typed = record {
  type = of_text;
  is = typed;
  few = omega arith;
  body = (I64, refl, (refl, omega arith, refl), (I32, refl, (refl, refl), (I32, refl, (refl, (refl, word 8 (omega arith)), refl), (refl, refl))));
}

pub routines_formed : RoutinesAreFormed
routines_formed m signature = (λ at fit o k c typed. routine_formed m at fit signature typed o k c, failing_formed m signature)
