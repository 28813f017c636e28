-- The routine that writes a number keeps its line.
use Rattle.std.proofs.Common.{◌≡◌, ℕ, zero, suc, ◌+◌, ◌-◌, ◌*◌, ◌/◌, ◌%◌, ◌^◌, ◌<◌, ◌≤◌, List, [], ◌∷◌, ◌++◌, length, take, drop, true, false, nat_eq, nat_lt, cond, Some, refl, sym, ap, ◌∙◌, subst, arith, append_assoc, length-append, length-drop, pos}
use Rattle.std.specs.Fmt.{digit_glyph, digits_onto, digits, decimal}
use Rattle.std.proofs.lemmas.Bool.Decides.{nat_tests}
use Rattle.std.proofs.lemmas.List.{drop_at, length-take-le, take-append-le, take-append-drop, append-nil}
use Rattle.std.proofs.Math.Nat.{mod-eq_of_lt}
use native.Mathlib.Numerals.{unary_clauses}
use Rattle.wasm_tree.specs.declared.types.ValueType.TheVariants.{I32, I64}
use Rattle.wasm_tree.specs.declared.types.FunctionType.{FunctionType}
use Rattle.wasm_tree.specs.Numeric.{low, flag}
use Rattle.wasm_tree.specs.Exec.{Store}
use Rattle.module_laws.specs.Stored.{written}
use Rattle.wasm_tree.specs.declared.op.BinaryOperator.TheVariants.{DivU}
use Rattle.wasm_tree.specs.declared.op.StoreKind.TheVariants.{I64To8}
use Rattle.low_ir.specs.declared.op.Operand.TheVariants.{Local, Long}
use Rattle.low_ir.specs.declared.op.Operation.TheVariants.{IsZero, Binary}
use Rattle.low_ir.specs.Tree.{Code, Stop, Return, Branch, Set, Store as Stores, If, Module}
use Rattle.low_ir.specs.Frames.{kept}
use Rattle.low_rules.specs.Rule.{At, CodeEnd, CallEnd, Comes, Contracts, is_inside, after_block, after_turn, Within, Before, begins, ends}
use Rattle.low_rules.proofs.Steps.{on_true, on_flag, low_is, le_test}
use Rattle.memory_routines.specs.Numerals.{one_digit, write_digits, numeral, with_memory, between}
use Rattle.memory_routines.proofs.Counting.{counted}

long_is : (n : ℕ) → n < 2 ^ 64 → low I64 n ≡ n
long_is n h = mod-eq_of_lt h

-- One more digit before those that stand there.
more_before : (memory : List ℕ) (from to d : ℕ) (text : List ℕ) → suc from + length text ≡ to → to ≤ length memory → d < 256 → written (between memory (suc from) text to) from 1 d ≡ between memory from (d ∷ text) to
more_before memory from to d text e inside byte =
    let rest : List ℕ = text ++ drop to memory in
    let parts : between memory (suc from) text to ≡ take (suc from) memory ++ rest = append_assoc (take (suc from) memory) text (drop to memory) in
    let long : length (take (suc from) memory) ≡ suc from = length-take-le (suc from) memory (omega (arith, e, inside)) in
    let one : from + 1 ≡ suc from = omega arith in
    let front : take from (between memory (suc from) text to) ≡ take from memory = ap (take from) parts ∙ take-append-le from (take (suc from) memory) rest (omega (arith, long)) ∙ shorter memory from in
    let back : drop (from + 1) (between memory (suc from) text to) ≡ rest = ap (λ k. drop k (between memory (suc from) text to)) one ∙ ap (drop (suc from)) parts ∙ drop_at (take (suc from) memory) rest (suc from) long in
    let whole : d % 256 ≡ d = mod-eq_of_lt byte in
    (λ i. (front i ++ (whole i ∷ [])) ++ back i) ∙ sym (append_assoc (take from memory ++ (d ∷ [])) text (drop to memory)) ∙ ap (λ l. l ++ drop to memory) (append_assoc (take from memory) (d ∷ []) text)
  where
    shorter : (memory : List ℕ) (k : ℕ) → take k (take (suc k) memory) ≡ take k memory
    shorter memory zero = refl
    shorter [] (suc k) = refl
    shorter (x ∷ memory) (suc k) = ap (λ l. x ∷ l) (shorter memory k)

between_length : (memory : List ℕ) (from to : ℕ) (text : List ℕ) → from + length text ≡ to → to ≤ length memory → length (between memory from text to) ≡ length memory
between_length memory from to text e inside =
    length-append (take from memory ++ text) (drop to memory) ∙ omega (arith, length-append (take from memory) text, length-take-le from memory (omega (arith, e, inside)), length-drop to memory, e, inside)

glyph : (d : ℕ) → d < 10 → digit_glyph false d ≡ d + 48
glyph d h = let t : nat_lt d 10 ≡ true = grind (arith, nat_tests) in ap (λ t. cond t (48 + d) (87 + d)) t ∙ omega arith

at_last : (f n : ℕ) (text : List ℕ) → nat_eq (n / 10) 0 ≡ true → digits_onto (suc f) 10 false n text ≡ (n % 10 + 48) ∷ text
at_last f n text c = ap (λ t. cond t (digit_glyph false (n % 10) ∷ text) (digits_onto f 10 false (n / 10) (digit_glyph false (n % 10) ∷ text))) c ∙ ap (λ d. d ∷ text) (glyph (n % 10) (omega arith))

at_more : (f n : ℕ) (text : List ℕ) → nat_eq (n / 10) 0 ≡ false → digits_onto (suc f) 10 false n text ≡ digits_onto f 10 false (n / 10) ((n % 10 + 48) ∷ text)
at_more f n text c =
    ap (λ t. cond t (digit_glyph false (n % 10) ∷ text) (digits_onto f 10 false (n / 10) (digit_glyph false (n % 10) ∷ text))) c ∙ ap (λ d. digits_onto f 10 false (n / 10) (d ∷ text)) (glyph (n % 10) (omega arith))

abbrev again_at : ℕ → ℕ
again_at spent = spent + 1 + 4 + 4 + 4 + 3 + 4 + 3 + 2 + 1

abbrev end_at : ℕ → ℕ
end_at spent = spent + 1 + 4 + 4 + 4 + 3 + 4 + 3 + 2 + 2

fewer : (n k : ℕ) → n < 10 ^ suc (suc k) → n / 10 < 10 ^ suc k
fewer n k h = let h : n < 10 ^ k * 10 * 10 = simp unary_clauses at h in let r : n / 10 < 10 ^ k * 10 = omega (arith, h) in simp unary_clauses r

last : (n : ℕ) → n < 10 ^ 1 → n / 10 ≡ 0
last n h = omega (arith, h)

module _ {World : Type 0} (pages : ℕ) (m : Module) (does : Contracts World) (store : Store World) (to : ℕ) (inside : to ≤ length store.memory) (small : length store.memory < 2 ^ 32) where
  abbrev at : ℕ → ℕ → List ℕ → ℕ → ℕ → ℕ → At World
  at spent from text n x y = record { spent = spent; store = with_memory store (between store.memory from text to); locals = from ∷ n ∷ x ∷ y ∷ [] }

  abbrev outer : (CodeEnd World → Type 0) → CodeEnd World → Type 0
  outer p = after_block (Before pages m does (Return (Some (Local 0))) p) p

  abbrev tested_end : Code
  tested_end = If (Local 3) (Return (Some (Local 0))) Stop (Branch 0)

  abbrev divided : Code
  divided = Set 1 (Binary I64 DivU (Local 1) (Long (pos 10))) (Set 3 (IsZero I64 (Local 1)) tested_end)

  abbrev stores : Code
  stores = Stores I64To8 (Local 0) 0 (Local 2) divided

  abbrev Goes : FunctionType → (CallEnd World → Type 0) → ℕ → Code → At World → Type 0
  Goes t q k code h = Before pages m does code (after_turn (Within k (Before pages m does one_digit) (outer (ends t q))) (outer (ends t q))) h

  -- One turn: it is the last, or another follows.
  turn : (t : FunctionType) (q : CallEnd World → Type 0) (k from n x y spent : ℕ) (text : List ℕ) → n < 2 ^ 64 → suc from + length text ≡ to
      → (nat_eq (n / 10) 0 ≡ true → q (Comes (end_at spent) (with_memory store (between store.memory from ((n % 10 + 48) ∷ text) to)) (kept (length t.results) (Some from))))
      → ((z : ℕ) → nat_eq (n / 10) 0 ≡ false → Within k (Before pages m does one_digit) (outer (ends t q)) (at (again_at spent) from ((n % 10 + 48) ∷ text) (n / 10) (n % 10 + 48) z))
      → Within (suc k) (Before pages m does one_digit) (outer (ends t q)) (at spent (suc from) text n x y)
  turn t q k from n x y spent text long e ended again =
      let memory : List ℕ = store.memory in
      let now : List ℕ = between memory (suc from) text to in
      let d : ℕ = n % 10 + 48 in
      let after : List ℕ = between memory from (d ∷ text) to in
      let size : length now ≡ length memory = between_length memory (suc from) to text e inside in
      let word : low I64 n ≡ n = long_is n long in
      let digit : low I64 (low I64 n % 10 + 48) ≡ d = ap (λ n. low I64 (n % 10 + 48)) word ∙ long_is (n % 10 + 48) (omega arith) in
      let place : low I32 (low I32 (suc from) + 2 ^ 32 - 1) ≡ from = counted from (omega (arith, e, inside, small)) in
      let address : low I32 from + 0 ≡ from = ap (λ k. k + 0) (low_is from (omega (arith, e, inside, small))) ∙ omega arith in
      let left : low I64 n / 10 ≡ n / 10 = ap (λ n. n / 10) word in
      let there : is_inside now (low I32 from + 0) 1 ≡ true = ap (λ k. is_inside now k 1) address ∙ le_test (from + 1) (length now) (omega (arith, size, e, inside)) in
      let same : written now (low I32 from + 0) 1 d ≡ after = ap (λ k. written now k 1 d) address ∙ more_before memory from to d text e inside (omega arith) in
      let less : low I64 (n / 10) ≡ n / 10 = long_is (n / 10) (omega (arith, long)) in
      subst (λ l. Goes t q k stores (record { spent = spent + 1 + 4 + 4 + 4; store = with_memory store now; locals = l })) (λ i. sym place i ∷ n ∷ sym digit i ∷ y ∷ [])
      (on_true _ _ _ there
      (subst (λ l. Goes t q k divided (record { spent = spent + 1 + 4 + 4 + 4 + 3; store = with_memory store l; locals = from ∷ n ∷ d ∷ y ∷ [] })) (sym same)
      (subst (λ v. Goes t q k tested_end (record { spent = spent + 1 + 4 + 4 + 4 + 3 + 4 + 3; store = with_memory store after; locals = from ∷ v ∷ d ∷ flag (nat_eq (low I64 v) 0) ∷ [] })) (sym left)
      (on_flag _ _ (nat_eq (low I64 (n / 10)) 0)
      (λ c. again (flag (nat_eq (low I64 (n / 10)) 0)) (sym (ap (λ v. nat_eq v 0) less) ∙ c))
      (λ c. ended (sym (ap (λ v. nat_eq v 0) less) ∙ c))))))

  abbrev Answers : (CallEnd World → Type 0) → ℕ → List ℕ → Type 0
  Answers q most text = (from cost : ℕ) → cost ≤ most → from + length text ≡ to → q (Comes cost (with_memory store (between store.memory from text to)) (Some from))

  ended_so : (t : FunctionType) (q : CallEnd World → Type 0) (k f from n spent : ℕ) (text : List ℕ) → length t.results ≡ 1 → suc from + length text ≡ to
      → Answers q (spent + (26 * suc k + 1)) (digits_onto (suc f) 10 false n text) → nat_eq (n / 10) 0 ≡ true → q (Comes (end_at spent) (with_memory store (between store.memory from ((n % 10 + 48) ∷ text) to)) (kept (length t.results) (Some from)))
  ended_so t q k f from n spent text one e h c =
      let all : digits_onto (suc f) 10 false n text ≡ (n % 10 + 48) ∷ text = at_last f n text c in
      let count : length (digits_onto (suc f) 10 false n text) ≡ suc (length text) = ap length all in
      subst (λ l. q (Comes (end_at spent) (with_memory store (between store.memory from l to)) (kept (length t.results) (Some from)))) all
      (subst (λ v. q (Comes (end_at spent) (with_memory store (between store.memory from (digits_onto (suc f) 10 false n text) to)) v)) (sym (ap (λ k. kept k (Some from)) one))
      (h from (end_at spent) (omega arith) (omega (arith, count, e))))

  loop : (t : FunctionType) (q : CallEnd World → Type 0) (k f from n x y spent : ℕ) (text : List ℕ) → length t.results ≡ 1 → n < 2 ^ 64 → n < 10 ^ suc k → k ≤ f → k < from → from + length text ≡ to
      → Answers q (spent + (26 * suc k + 1)) (digits_onto (suc f) 10 false n text)
      → Within (suc k) (Before pages m does one_digit) (outer (ends t q)) (at spent from text n x y)
  loop t q k f zero n x y spent text one long short less room e h = absurd (omega arith)
  loop t q zero f (suc from) n x y spent text one long short less room e h =
      turn t q zero from n x y spent text long e (ended_so t q zero f from n spent text one e h)
      (λ z c. let no : true ≡ false = sym (ap (λ v. nat_eq v 0) (last n short)) ∙ c in absurd (cc no))
  loop t q (suc k) zero (suc from) n x y spent text one long short less room e h = absurd (omega arith)
  loop t q (suc k) (suc f) (suc from) n x y spent text one long short less room e h =
      turn t q (suc k) from n x y spent text long e (ended_so t q (suc k) (suc f) from n spent text one e h)
      (λ z c.
      let all : digits_onto (suc (suc f)) 10 false n text ≡ digits_onto (suc f) 10 false (n / 10) ((n % 10 + 48) ∷ text) = at_more (suc f) n text c in
      loop t q k f from (n / 10) (n % 10 + 48) z (again_at spent) ((n % 10 + 48) ∷ text) one (omega (arith, long)) (fewer n k short) (omega (arith, less)) (omega (arith, room)) (omega (arith, e))
      (subst (λ l. Answers q (again_at spent + (26 * suc k + 1)) l) all (λ from cost le e. h from cost (omega (arith, le)) e)))

  -- The whole routine, with its two arguments.
  pub writes : (t : FunctionType) (signature n : ℕ) (q : CallEnd World → Type 0) → length t.results ≡ 1 → n < 2 ^ 64 → 20 ≤ to → Answers q 521 (decimal n)
      → Before pages m does write_digits (ends t q) (begins (numeral signature) store (to ∷ n ∷ []))
  unfolding digits
  writes t signature n q one long room h =
      let memory : List ℕ = store.memory in
      let none : between memory to [] to ≡ memory = ap (λ l. l ++ drop to memory) (append-nil (take to memory)) ∙ take-append-drop to memory in (
        20,
        subst (λ l. Within 20 (Before pages m does one_digit) (outer (ends t q)) (record { spent = 0; store = with_memory store l; locals = to ∷ n ∷ 0 ∷ 0 ∷ [] })) none
            (loop t q 19 63 to n 0 0 0 [] one long (omega (arith, long)) (omega arith) (omega (arith, room)) (omega arith) (λ from cost le e. h from cost (omega (arith, le)) e)),
      )
