-- Each primitive that is treated: from words of its operands its code does what it does.
use Rattle.std.proofs.Common.{◌≡◌, ℕ, suc, ◌+◌, ◌<◌, ◌≤◌, ◌^◌, List, [], ◌∷◌, length, Bool, true, false, not, ◌&&◌, ◌||◌, cond, nat_eq, nat_lt, Some, ℤ, pos, refl, sym, ap, ◌∙◌, subst, arith}
use Rattle.std.specs.Ordering.{int_eq}
use Rattle.std.proofs.lemmas.Bool.Decides.{nat_tests}
use Rattle.mo_num.specs.declared.kind.Kind.{Kind}
use Rattle.mo_num.specs.declared.kind.Kind.TheVariants as kind
use Rattle.mo_num.specs.declared.operator.Operator.{Operator}
use Rattle.mo_num.specs.Kinds.{InRange}
use Rattle.mo_num.specs.Arith.{Arith, Negation}
use Rattle.mo_types.specs.declared.datum.Datum.{Datum}
use Rattle.mo_types.specs.declared.datum.Datum.TheVariants as part
use Rattle.mo_types.specs.declared.node.Node.{Node}
use Rattle.mo_types.specs.declared.node.TypeId.{TypeId}
use Rattle.mo_values.specs.declared.operation.Comparison.{Comparison}
use Rattle.mo_values.specs.declared.operation.Operation.TheVariants as op
use Rattle.mo_values.specs.declared.operation.Scalar.{Scalar}
use Rattle.mo_values.specs.declared.operation.Wrapping.{Wrapping}
use Rattle.mo_values.specs.Costs.{Cost, weighing, arithmetic_weight, operation_cost}
use Rattle.mo_values.specs.Messages.{only_if}
use Rattle.mo_values.specs.Numbers.{has_width, exact, wrapped, before, compared}
use Rattle.mo_values.specs.Operations as operations
use Rattle.mo_values.specs.Parts.{is_in_range, same_flag, same_part}
use Rattle.mo_values.specs.Shapes.{Bytes, leaf}
use Rattle.mo_values.specs.Views as views
use Rattle.mo_values.specs.Views.{Answer, given, number_of, scalar_of}
use Rattle.wasm_tree.specs.declared.op.Comparison.{Comparison as Test}
use Rattle.wasm_tree.specs.declared.op.Comparison.TheVariants.{Eq, Ne}
use Rattle.wasm_tree.specs.declared.types.ValueType.TheVariants.{I32, I64}
use Rattle.wasm_tree.specs.Numeric.{low, flag, equals_zero, compare}
use Rattle.wasm_tree.specs.Exec.{Host, Store, bits64}
use Rattle.core_ir.specs.declared.primitive.Primitive.{Primitive}
use Rattle.core_ir.specs.declared.primitive.Primitive.TheVariants as primitive
use Rattle.core_ir.specs.Primitives.{Done, Gives, Stuck, answered, perform, tested, comparable}
use Rattle.core_ir.specs.Values.{Handle, Value}
use Rattle.core_ir.specs.Worlds.{World}
use Rattle.low_ir.specs.declared.op.Operand.{Operand}
use Rattle.low_ir.specs.declared.op.Operand.TheVariants.{Long}
use Rattle.low_ir.specs.Tree.{Code, Module}
use Rattle.low_rules.specs.Rule.{value_of}
use Rattle.heap_layout.specs.Ghosts.{Ghost}
use Rattle.heap_layout.specs.Means.{Rep, Reps}
use Rattle.heap_layout.specs.Heaps.{Plan}
use Rattle.emitted_steps.specs.Operations as steps
use Rattle.emitted_steps.specs.Operations.{Clear, Light, HeapHeld, HostShows}
use Rattle.operation_codes.specs.Links.{Links}
use Rattle.operation_codes.specs.Codes as codes
use Rattle.operation_codes.specs.Codes.{code_of, order_test, way}
use Rattle.operation_codes.specs.Treated.{is_word, is_word_scalar, is_ordered_word, is_word_literal}
use Rattle.operation_lines.specs.Linked.{Linked}
use Rattle.operation_lines.proofs.Work.{Kept, Runs, kept_by, flag_rep, copy_runs, tells_runs, negates_runs}
use Rattle.operation_lines.proofs.Values.{in_range_of, range_small, by_scalar, by_number, by_flag, by_leaf, number_word, flag_word}
use Rattle.operation_lines.proofs.Numbers.{calculated_goes}
use Rattle.operation_lines.proofs.Arithmetic.{arithmetic_runs, wrapping_runs, negation_runs, negates_by}
use Rattle.operation_lines.proofs.Truths.{other_truth, literal_word}
use Rattle.operation_lines.proofs.Equalities.{numbers_same, flags_same, chars_same, scalars_same, scalars_ordered, by_equal}

module _ {W : Type 0} (head : TypeId → Node TypeId) (plan : Plan) (told fell : W → Bytes → W) (roof : ℕ) (g : Ghost) (world : World) (store : Store W) (top : ℕ) (heap : HeapHeld plan g world store top) (locals : List ℕ) (to free : ℕ) (pages : ℕ) (m : Module) (host : Host W) (deep room : ℕ) (to_fits : to < length locals) (free_fits : 3 + free ≤ length locals)
    (shows : HostShows host told fell) (links : Links) (linked : Linked plan pages roof m links) (deep_some : 4000 ≤ deep) (wide : 4000 ≤ room) where
  abbrev pub K : Done → Code → Type 0
  K d code = Kept plan told fell roof g world store top heap locals to free pages m host (suc (suc deep)) room d code

  abbrev pub R : Done → Code → Type 0
  R d code = Runs plan told fell roof g world store top heap locals to free pages m host (suc (suc deep)) room d code

  pub kept : (d : Done) (code : Code) → R d code → K d code
  kept d code r = kept_by plan told fell roof g world store top heap locals to free pages m host (suc (suc deep)) room d code r

  -- what is owed where a primitive has this answer, on so many operands
  abbrev pub Owed : ℕ → Done → Code → Type 0
  Owed n d code = (d ≡ Stuck → ⊥) → Light n d → K d code

  none_owed : (n : ℕ) (code : Code) → Owed n Stuck code
  none_owed n code ns = absurd (ns refl)

  abbrev pub RepOf : Operand → Value → Type 0
  RepOf a v = Rep g store.memory (value_of a locals) v

  -- ---- operands

  pub one_of : (B : List Operand → List Value → Type 0) → (B [] []) → ((a : Operand) (v : Value) → RepOf a v → B (a ∷ []) (v ∷ [])) → ((a b : Operand) (xs : List Operand) (v w : Value) (vs : List Value) → B (a ∷ b ∷ xs) (v ∷ w ∷ vs)) → (xs : List Operand) (vs : List Value) → Reps g store.memory (steps.given xs locals) vs → B xs vs
  one_of B none one more [] [] r = none
  one_of B none one more [] (v ∷ vs) r = absurd r
  one_of B none one more (a ∷ xs) [] r = absurd r
  one_of B none one more (a ∷ []) (v ∷ []) r = one a v r.0
  one_of B none one more (a ∷ []) (v ∷ w ∷ vs) r = absurd r.1
  one_of B none one more (a ∷ b ∷ xs) (v ∷ []) r = absurd r.1
  one_of B none one more (a ∷ b ∷ xs) (v ∷ w ∷ vs) r = more a b xs v w vs

  pub two_of : (B : List Operand → List Value → Type 0) → (B [] []) → ((a : Operand) (v : Value) → B (a ∷ []) (v ∷ [])) → ((a b : Operand) (v w : Value) → RepOf a v → RepOf b w → B (a ∷ b ∷ []) (v ∷ w ∷ []))
      → ((a b c : Operand) (xs : List Operand) (v w u : Value) (vs : List Value) → B (a ∷ b ∷ c ∷ xs) (v ∷ w ∷ u ∷ vs)) → (xs : List Operand) (vs : List Value) → Reps g store.memory (steps.given xs locals) vs → B xs vs
  two_of B none one two more [] [] r = none
  two_of B none one two more [] (v ∷ vs) r = absurd r
  two_of B none one two more (a ∷ xs) [] r = absurd r
  two_of B none one two more (a ∷ []) (v ∷ []) r = one a v
  two_of B none one two more (a ∷ []) (v ∷ w ∷ vs) r = absurd r.1
  two_of B none one two more (a ∷ b ∷ xs) (v ∷ []) r = absurd r.1
  two_of B none one two more (a ∷ b ∷ []) (v ∷ w ∷ []) r = two a b v w r.0 r.1.0
  two_of B none one two more (a ∷ b ∷ []) (v ∷ w ∷ u ∷ vs) r = absurd r.1.1
  two_of B none one two more (a ∷ b ∷ c ∷ xs) (v ∷ w ∷ []) r = absurd r.1.1
  two_of B none one two more (a ∷ b ∷ c ∷ xs) (v ∷ w ∷ u ∷ vs) r = more a b c xs v w u vs

  abbrev pub OwedOf : Primitive → List Operand → List Value → Type 0
  OwedOf p xs vs = Clear free xs → Owed (length vs) (perform head world.store p vs) (code_of links p to free xs)

  -- ---- arithmetic

  pub arithmetic_kept : (o : Operator) (k : Kind) (xs : List Operand) (vs : List Value) → Reps g store.memory (steps.given xs locals) vs → OwedOf (primitive.Operate (op.Arithmetic o k)) xs vs
  arithmetic_kept o k =
      two_of (OwedOf (primitive.Operate (op.Arithmetic o k))) (λ c ns. absurd (ns refl)) (λ a v c ns. absurd (ns refl))
      (λ a b v w r s clear.
      let B : Answer Handle → Type 0 = λ x. Owed 2 (answered head world.store (weighing (arithmetic_weight o)) x) (code_of links (primitive.Operate (op.Arithmetic o k)) to free (a ∷ b ∷ [])) in
      by_number B (none_owed 2 _) k v (λ x. given (number_of k w) (λ y. operations.number (Arith o k x y)))
      (λ x e i. by_number B (none_owed 2 _) k w (λ y. operations.number (Arith o k x y))
      (λ y f j there light.
      kept (answered head world.store (weighing (arithmetic_weight o)) (operations.number (Arith o k x y))) (code_of links (primitive.Operate (op.Arithmetic o k)) to free (a ∷ b ∷ []))
      (arithmetic_runs head plan told fell roof g world store top heap locals to free pages m host (suc deep) room to_fits free_fits shows links linked.texts a b clear x y (number_word g store.memory (value_of a locals) v x r e) (number_word g store.memory (value_of b locals) w y s f) o k i j
      (way o k) refl (calculated_goes links.traps o k) (linked.calculates o k) (omega arith) (omega (arith, wide))))))
      (λ a b c xs v w u vs clear ns. absurd (ns refl))

  pub negation_kept : (k : Kind) (xs : List Operand) (vs : List Value) → Reps g store.memory (steps.given xs locals) vs → OwedOf (primitive.Operate (op.Negate k)) xs vs
  negation_kept k =
      one_of (OwedOf (primitive.Operate (op.Negate k))) (λ c ns. absurd (ns refl))
      (λ a v r clear.
      let B : Answer Handle → Type 0 = λ x. Owed 1 (answered head world.store (weighing 1) x) (code_of links (primitive.Operate (op.Negate k)) to free (a ∷ [])) in
      by_number B (none_owed 1 _) k v (λ x. operations.number (Negation k x))
      (λ x e i there light.
      kept (answered head world.store (weighing 1) (operations.number (Negation k x))) (code_of links (primitive.Operate (op.Negate k)) to free (a ∷ []))
      (negation_runs head plan told fell roof g world store top heap locals to free pages m host (suc deep) room to_fits free_fits shows links linked.texts a clear x (number_word g store.memory (value_of a locals) v x r e) k i
      (negates_by head plan told fell roof g world store top heap locals to free pages m host (suc deep) room to_fits free_fits shows links linked.texts a clear x (number_word g store.memory (value_of a locals) v x r e) k i))))
      (λ a b xs v w vs clear ns. absurd (ns refl))

  pub wrapping_kept : (o : Wrapping) (k : Kind) (xs : List Operand) (vs : List Value) → Reps g store.memory (steps.given xs locals) vs → OwedOf (primitive.Operate (op.Wrap o k)) xs vs
  wrapping_kept o k =
      two_of (OwedOf (primitive.Operate (op.Wrap o k))) (λ c ns. absurd (ns refl)) (λ a v c ns. absurd (ns refl))
      (λ a b v w r s clear.
      let code : Code = code_of links (primitive.Operate (op.Wrap o k)) to free (a ∷ b ∷ []) in
      let B : Answer Handle → Type 0 = λ x. Owed 2 (answered head world.store (weighing 1) x) code in
      let F : Kind → Answer Handle = λ k. given (number_of k v) (λ x. given (number_of k w) (λ y. views.Gives (leaf (part.Number (wrapped k (exact o x y)))))) in
      by_width (λ t. B (given (only_if t k) F)) (none_owed 2 _) (has_width k)
      (λ has.
      by_number B (none_owed 2 _) k v (λ x. given (number_of k w) (λ y. views.Gives (leaf (part.Number (wrapped k (exact o x y))))))
      (λ x e i. by_number B (none_owed 2 _) k w (λ y. views.Gives (leaf (part.Number (wrapped k (exact o x y)))))
      (λ y f j there light.
      kept (Gives (weighing 1) (leaf (part.Number (wrapped k (exact o x y)))) world.store) code
      (wrapping_runs head plan told fell roof g world store top heap locals to free pages m host (suc deep) room to_fits free_fits shows links linked.texts a b clear x y (number_word g store.memory (value_of a locals) v x r e) (number_word g store.memory (value_of b locals) w y s f) o k has i j)))))
      (λ a b c xs v w u vs clear ns. absurd (ns refl))
    where
      by_width : (C : Bool → Type 0) → C false → (t : Bool) → (t ≡ true → C true) → C t
      by_width C none true some = some refl
      by_width C none false some = none

  -- ---- truth values

  tells : (cost : Cost) (n : ℕ) (test : Test) (a b : Operand) (t : Bool) → low I32 (compare I64 test (value_of a locals) (value_of b locals)) ≡ flag t → Owed n (Gives cost (leaf (part.Flag t)) world.store) (codes.tells test to free a b)
  tells cost n test a b t e there light = kept (Gives cost (leaf (part.Flag t)) world.store) (codes.tells test to free a b) (tells_runs plan told fell roof g world store top heap locals to free pages m host (suc (suc deep)) room to_fits free_fits cost light.0 test a b t e)

  pub order_kept : (o : Comparison) (s : Scalar) → is_ordered_word s ≡ true → (xs : List Operand) (vs : List Value) → Reps g store.memory (steps.given xs locals) vs → OwedOf (primitive.Operate (op.Compare o s)) xs vs
  order_kept o sc is =
      two_of (OwedOf (primitive.Operate (op.Compare o sc))) (λ c ns. absurd (ns refl)) (λ a v c ns. absurd (ns refl))
      (λ a b v w r s clear.
      let cost : Cost = operation_cost (op.Compare o sc) (v ∷ w ∷ []) views.Stuck in
      let B : Answer Handle → Type 0 = λ x. Owed 2 (answered head world.store cost x) (codes.tells (order_test sc o) to free a b) in
      by_scalar B (none_owed 2 _) sc v (λ p. given (scalar_of sc w) (λ q. given (before p q) (λ first. given (before q p) (λ second. operations.flag (compared o first second)))))
      (λ p e i. by_scalar B (none_owed 2 _) sc w (λ q. given (before p q) (λ first. given (before q p) (λ second. operations.flag (compared o first second))))
      (λ q f j. scalars_ordered pages m host store g B (λ t. operations.flag t) o (value_of a locals) (value_of b locals) sc is p q i j (subst (λ v. Rep g store.memory (value_of a locals) v) e r) (subst (λ v. Rep g store.memory (value_of b locals) v) f s) (λ t k. tells cost 2 (order_test sc o) a b t k))))
      (λ a b c xs v w u vs clear ns. absurd (ns refl))

  pub sameness_kept : (s : Scalar) → is_word_scalar s ≡ true → (xs : List Operand) (vs : List Value) → Reps g store.memory (steps.given xs locals) vs → OwedOf (primitive.Operate (op.Same s)) xs vs
  sameness_kept sc is =
      two_of (OwedOf (primitive.Operate (op.Same sc))) (λ c ns. absurd (ns refl)) (λ a v c ns. absurd (ns refl))
      (λ a b v w r s clear.
      let cost : Cost = operation_cost (op.Same sc) (v ∷ w ∷ []) views.Stuck in
      let B : Answer Handle → Type 0 = λ x. Owed 2 (answered head world.store cost x) (codes.tells Eq to free a b) in
      by_scalar B (none_owed 2 _) sc v (λ p. given (scalar_of sc w) (λ q. operations.flag (same_part p q)))
      (λ p e i. by_scalar B (none_owed 2 _) sc w (λ q. operations.flag (same_part p q))
      (λ q f j. tells cost 2 Eq a b (same_part p q) (scalars_same pages m host store g sc is p q i j (value_of a locals) (value_of b locals) (subst (λ v. Rep g store.memory (value_of a locals) v) e r) (subst (λ v. Rep g store.memory (value_of b locals) v) f s)))))
      (λ a b c xs v w u vs clear ns. absurd (ns refl))

  pub equal_kept : (t : TypeId) → is_word (head t) ≡ true → (xs : List Operand) (vs : List Value) → Reps g store.memory (steps.given xs locals) vs → OwedOf (primitive.Operate (op.Equal t)) xs vs
  equal_kept t is =
      two_of (OwedOf (primitive.Operate (op.Equal t))) (λ c ns. absurd (ns refl)) (λ a v c ns. absurd (ns refl))
      (λ a b v w r s clear.
      let cost : Cost = operation_cost (op.Equal t) (v ∷ w ∷ []) views.Stuck in
      by_equal head pages m host store g (λ x. Owed 2 (answered head world.store cost x) (codes.tells Eq to free a b)) (λ b. operations.flag b) (none_owed 2 _) v w (value_of a locals) (value_of b locals) r s t is (λ u k. tells cost 2 Eq a b u k))
      (λ a b c xs v w u vs clear ns. absurd (ns refl))

  pub unequal_kept : (t : TypeId) → is_word (head t) ≡ true → (xs : List Operand) (vs : List Value) → Reps g store.memory (steps.given xs locals) vs → OwedOf (primitive.Operate (op.Unequal t)) xs vs
  unequal_kept t is =
      two_of (OwedOf (primitive.Operate (op.Unequal t))) (λ c ns. absurd (ns refl)) (λ a v c ns. absurd (ns refl))
      (λ a b v w r s clear.
      let cost : Cost = operation_cost (op.Unequal t) (v ∷ w ∷ []) views.Stuck in
      by_equal head pages m host store g (λ x. Owed 2 (answered head world.store cost x) (codes.tells Ne to free a b)) (λ b. operations.flag (not b)) (none_owed 2 _) v w (value_of a locals) (value_of b locals) r s t is
      (λ u k. tells cost 2 Ne a b (not u) (other_truth (value_of a locals) (value_of b locals) u k)))
      (λ a b c xs v w u vs clear ns. absurd (ns refl))

  pub not_kept : (xs : List Operand) (vs : List Value) → Reps g store.memory (steps.given xs locals) vs → OwedOf (primitive.Operate op.Not) xs vs
  not_kept =
      one_of (OwedOf (primitive.Operate op.Not)) (λ c ns. absurd (ns refl))
      (λ a v r clear.
      let B : Answer Handle → Type 0 = λ x. Owed 1 (answered head world.store (weighing 1) x) (codes.negates to free a) in
      by_flag B (none_owed 1 _) v (λ b. operations.flag (not b))
      (λ b e there light.
      kept (Gives (weighing 1) (leaf (part.Flag (not b))) world.store) (codes.negates to free a)
      (negates_runs plan told fell roof g world store top heap locals to free pages m host (suc (suc deep)) room to_fits free_fits (weighing 1) (omega arith) a (not b) (ap (λ n. low I32 (equals_zero I64 n)) (flag_word g store.memory (value_of a locals) v b r e) ∙ turned b))))
      (λ a b xs v w vs clear ns. absurd (ns refl))
    where
      turned : (b : Bool) → low I32 (equals_zero I64 (flag b)) ≡ flag (not b)
      turned true = refl
      turned false = refl

  pub copy_kept : (xs : List Operand) (vs : List Value) → Reps g store.memory (steps.given xs locals) vs → OwedOf primitive.Copy xs vs
  copy_kept =
      one_of (OwedOf primitive.Copy) (λ c ns. absurd (ns refl))
      (λ a v r clear there light.
      kept (Gives (weighing 1) v world.store) (codes.copies to a) (copy_runs plan told fell roof g world store top heap locals to free pages m host (suc (suc deep)) room to_fits free_fits (weighing 1) (omega arith) a v r))
      (λ a b xs v w vs clear ns. absurd (ns refl))

  -- ---- literals

  in_either : (k l : Kind) (i j : ℤ) (C : Type 0) → ((k : Kind) → is_in_range k i ≡ true → is_in_range k j ≡ true → C) → (((is_in_range k i && is_in_range k j) || (is_in_range l i && is_in_range l j)) ≡ true) → C
  in_either k l i j C then e = by (is_in_range k i && is_in_range k j) refl e
    where
      both : (a b : Bool) → (a && b) ≡ true → (a ≡ true) × (b ≡ true)
      both true b e = (refl, e)
      both false b e = absurd (cc e)

      by : (t : Bool) → (is_in_range k i && is_in_range k j) ≡ t → (t || (is_in_range l i && is_in_range l j)) ≡ true → C
      by true p e = let q = both (is_in_range k i) (is_in_range k j) p in then k q.0 q.1
      by false p e = let q = both (is_in_range l i) (is_in_range l j) e in then l q.0 q.1

  pub literal_kept : (c : Datum) → is_word_literal c ≡ true → (xs : List Operand) (vs : List Value) → Reps g store.memory (steps.given xs locals) vs → OwedOf (primitive.Is c) xs vs
  literal_kept c is =
      one_of (OwedOf (primitive.Is c)) (λ c ns. absurd (ns refl))
      (λ a v r clear.
      by_leaf (λ o. Owed 1 (tested head world.store c v o) (codes.tells Eq to free (Long (codes.literal c)) a)) (none_owed 1 _) v
      (λ p e. by_literal c is a v p (subst (λ v. Rep g store.memory (value_of a locals) v) e r)))
      (λ a b xs v w vs clear ns. absurd (ns refl))
    where
      on_test : (t : Bool) (d : Done) (code : Code) → (t ≡ true → Owed 1 d code) → Owed 1 (cond t d Stuck) code
      on_test true d code then = then refl
      on_test false d code then = none_owed 1 code

      by_literal : (c : Datum) → is_word_literal c ≡ true → (a : Operand) (v : Value) (p : Datum) → RepOf a (leaf p) → Owed 1 (tested head world.store c v (Some p)) (codes.tells Eq to free (Long (codes.literal c)) a)
      by_literal (part.Number i) is a v (part.Number j) r =
          on_test (comparable (part.Number i) (part.Number j)) (Gives (weighing 1) (leaf (part.Flag (int_eq i j))) world.store) (codes.tells Eq to free (Long (codes.literal (part.Number i))) a)
          (λ e. in_either kind.Int kind.Nat64 i j (Owed 1 (Gives (weighing 1) (leaf (part.Flag (int_eq i j))) world.store) (codes.tells Eq to free (Long (codes.literal (part.Number i))) a))
          (λ k p q.
          let one : InRange k i = in_range_of k i p in
          let two : InRange k j = in_range_of k j q in
          let word : bits64 (codes.signed_long i) ≡ bits64 i = literal_word k i one in
          tells (weighing 1) 1 Eq (Long (codes.literal (part.Number i))) a (int_eq i j) (numbers_same pages m host store g k i j one two (bits64 (codes.signed_long i)) (value_of a locals) (record { small = subst (λ n. n < 2 ^ 64) (sym word) (range_small k i one); means = word }) r)) e)
      by_literal (part.Flag i) is a v (part.Flag j) r = tells (weighing 1) 1 Eq (Long (pos (flag i))) a (same_flag i j) (flags_same pages m host store g i j (flag i) (value_of a locals) (flag_rep plan told fell roof g world store top heap locals to free i) r)
      by_literal (part.Char i) is a v (part.Char j) r = tells (weighing 1) 1 Eq (Long (pos i)) a (nat_eq i j) (chars_same pages m host store g i j i (value_of a locals) (record { small = let lt = below i (2 ^ 32) is in omega (arith, lt); means = refl }) r)
        where
          below : (i n : ℕ) → nat_lt i n ≡ true → i < n
          below i n e = grind (arith, nat_tests, e)
      by_literal (part.Number i) is a v part.Null r = none_owed 1 _
      by_literal (part.Number i) is a v (part.Flag y) r = none_owed 1 _
      by_literal (part.Number i) is a v (part.Char y) r = none_owed 1 _
      by_literal (part.Number i) is a v (part.Text y) r = none_owed 1 _
      by_literal (part.Number i) is a v (part.Blob y) r = none_owed 1 _
      by_literal (part.Number i) is a v (part.Principal y) r = none_owed 1 _
      by_literal (part.Number i) is a v (part.Actor y) r = none_owed 1 _
      by_literal (part.Number i) is a v (part.Method y z) r = none_owed 1 _
      by_literal (part.Number i) is a v part.Present r = none_owed 1 _
      by_literal (part.Number i) is a v (part.Many y) r = none_owed 1 _
      by_literal (part.Number i) is a v (part.Record y) r = none_owed 1 _
      by_literal (part.Number i) is a v (part.Tag y) r = none_owed 1 _
      by_literal (part.Flag i) is a v part.Null r = none_owed 1 _
      by_literal (part.Flag i) is a v (part.Number y) r = none_owed 1 _
      by_literal (part.Flag i) is a v (part.Char y) r = none_owed 1 _
      by_literal (part.Flag i) is a v (part.Text y) r = none_owed 1 _
      by_literal (part.Flag i) is a v (part.Blob y) r = none_owed 1 _
      by_literal (part.Flag i) is a v (part.Principal y) r = none_owed 1 _
      by_literal (part.Flag i) is a v (part.Actor y) r = none_owed 1 _
      by_literal (part.Flag i) is a v (part.Method y z) r = none_owed 1 _
      by_literal (part.Flag i) is a v part.Present r = none_owed 1 _
      by_literal (part.Flag i) is a v (part.Many y) r = none_owed 1 _
      by_literal (part.Flag i) is a v (part.Record y) r = none_owed 1 _
      by_literal (part.Flag i) is a v (part.Tag y) r = none_owed 1 _
      by_literal (part.Char i) is a v part.Null r = none_owed 1 _
      by_literal (part.Char i) is a v (part.Flag y) r = none_owed 1 _
      by_literal (part.Char i) is a v (part.Number y) r = none_owed 1 _
      by_literal (part.Char i) is a v (part.Text y) r = none_owed 1 _
      by_literal (part.Char i) is a v (part.Blob y) r = none_owed 1 _
      by_literal (part.Char i) is a v (part.Principal y) r = none_owed 1 _
      by_literal (part.Char i) is a v (part.Actor y) r = none_owed 1 _
      by_literal (part.Char i) is a v (part.Method y z) r = none_owed 1 _
      by_literal (part.Char i) is a v part.Present r = none_owed 1 _
      by_literal (part.Char i) is a v (part.Many y) r = none_owed 1 _
      by_literal (part.Char i) is a v (part.Record y) r = none_owed 1 _
      by_literal (part.Char i) is a v (part.Tag y) r = none_owed 1 _
      by_literal part.Null is a v p r = absurd (cc is)
      by_literal (part.Text y) is a v p r = absurd (cc is)
      by_literal (part.Blob y) is a v p r = absurd (cc is)
      by_literal (part.Principal y) is a v p r = absurd (cc is)
      by_literal (part.Actor y) is a v p r = absurd (cc is)
      by_literal (part.Method y z) is a v p r = absurd (cc is)
      by_literal part.Present is a v p r = absurd (cc is)
      by_literal (part.Many y) is a v p r = absurd (cc is)
      by_literal (part.Record y) is a v p r = absurd (cc is)
      by_literal (part.Tag y) is a v p r = absurd (cc is)
