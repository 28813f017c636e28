-- Truth values of comparisons: two words are the same where what they stand for is, and are in the order of it.
use Rattle.std.proofs.Common.{◌≡◌, ℕ, ◌-◌, ◌<◌, ◌^◌, Bool, true, false, not, cond, nat_eq, nat_lt, nat_le, Some, None, ℤ, pos, negsuc, ◌-ℤ◌, ◌≤ℤ◌, refl, sym, ap, ◌∙◌, arith}
use Rattle.std.specs.Prelude.{int_lt, int_le}
use Rattle.std.specs.Bool.{Decides}
use Rattle.std.specs.Ordering.{int_eq}
use Rattle.std.proofs.lemmas.Bool.Decides.{nat_tests, Decides-int_eq}
use Rattle.std.proofs.lemmas.Int.{ints}
use Rattle.std.proofs.Math.Nat.{mod-eq_of_lt}
use Rattle.mo_num.specs.declared.kind.Kind.{Kind}
use Rattle.mo_num.specs.Kinds.{InRange}
use Rattle.mo_num.proofs.Ranges.{in_bounds}
use Rattle.mo_values.specs.declared.operation.Comparison.{Comparison}
use Rattle.mo_values.specs.declared.operation.Comparison.TheVariants as comparison
use Rattle.mo_values.specs.Numbers.{compared}
use Rattle.mo_values.specs.Parts.{same_flag}
use Rattle.wasm_tree.specs.declared.types.ValueType.TheVariants.{I32, I64}
use Rattle.wasm_tree.specs.declared.op.Comparison.TheVariants.{Eq, Ne}
use Rattle.wasm_tree.specs.Numeric.{low, flag, compare}
use Rattle.wasm_tree.specs.Exec.{Store, Host, bits64}
use Rattle.low_ir.specs.Tree.{Module}
use Rattle.low_rules.specs.Rule.{CallEnd, Contracts, Comes, Dies}
use Rattle.number_routines.specs.Codes.{test_of, unsigned_test}
use Rattle.number_routines.specs.Lines.{Tells}
use Rattle.number_routines.proofs.Comparisons.{order_runs, sameness_runs}
use Rattle.operation_codes.specs.Codes.{signed_long}

long_is : (n : ℕ) → n < 2 ^ 64 → low I64 n ≡ n
long_is n lt = mod-eq_of_lt lt

low_flag : (b : Bool) → low I32 (flag b) ≡ flag b
low_flag true = refl
low_flag false = refl

flag_one : (a b : Bool) → flag a ≡ flag b → a ≡ b
flag_one true true e = refl
flag_one false false e = refl
flag_one true false e = absurd (omega (arith, e))
flag_one false true e = absurd (omega (arith, e))

abbrev word_of : {W : Type 0} → CallEnd W → ℕ
word_of (Comes n store (Some w)) = w
word_of (Comes n store None) = 0
word_of (Dies cause n store) = 0

module _ {W : Type 0} (pages : ℕ) (m : Module) (host : Host W) (store : Store W) where
  abbrev none : Contracts W
  none f store args q = ⊥

  -- numbers of a kind
  pub order_is : (o : Comparison) (k : Kind) (a b : ℤ) → InRange k a → InRange k b → low I32 (compare I64 (test_of k o) (bits64 a) (bits64 b)) ≡ flag (compared o (int_lt a b) (int_lt b a))
  order_is o k a b r s = let t = order_runs pages m host none store (Tells store 60 (compared o (int_lt a b) (int_lt b a))) o k a b r s (λ end h. h) in ap word_of t.2

  pub same_numbers : (k : Kind) (a b : ℤ) → InRange k a → InRange k b → low I32 (compare I64 Eq (bits64 a) (bits64 b)) ≡ flag (int_eq a b)
  same_numbers k a b r s = let t = sameness_runs pages m host none store (Tells store 60 (int_eq a b)) k a b r s (λ end h. h) in ap word_of t.2

-- Where the words are the same, so are what they stand for; and where they are not.
pub other_truth : (x y : ℕ) (t : Bool) → low I32 (compare I64 Eq x y) ≡ flag t → low I32 (compare I64 Ne x y) ≡ flag (not t)
other_truth x y t e = let is : nat_eq (low I64 x) (low I64 y) ≡ t = flag_one (nat_eq (low I64 x) (low I64 y)) t (sym (low_flag (nat_eq (low I64 x) (low I64 y))) ∙ e) in ap (λ b. low I32 (flag (not b))) is ∙ low_flag (not t)

equal_number : (i : ℕ) → nat_eq i i ≡ true
equal_number i = grind (arith, nat_tests)

not_equal : (i j : ℕ) → (i ≡ j → ⊥) → nat_eq i j ≡ false
not_equal i j ne = by (nat_eq i j) refl
  where
    same : (i j : ℕ) → nat_eq i j ≡ true → i ≡ j
    same i j e = grind (arith, nat_tests, e)

    by : (t : Bool) → nat_eq i j ≡ t → nat_eq i j ≡ false
    by true e = absurd (ne (same i j e))
    by false e = e

same_words : (x y : ℕ) → x < 2 ^ 64 → y < 2 ^ 64 → low I32 (compare I64 Eq x y) ≡ flag (nat_eq x y)
same_words x y p q = (λ i. low I32 (flag (nat_eq (long_is x p i) (long_is y q i)))) ∙ low_flag (nat_eq x y)

pub same_flags : (a b : Bool) → low I32 (compare I64 Eq (flag a) (flag b)) ≡ flag (same_flag a b)
same_flags true true = refl
same_flags true false = refl
same_flags false true = refl
same_flags false false = refl

pub same_chars : (c d : ℕ) → c < 2 ^ 64 → d < 2 ^ 64 → low I32 (compare I64 Eq c d) ≡ flag (nat_eq c d)
same_chars c d p q = same_words c d p q

-- characters as numbers
pub char_numbers : (c d : ℕ) → int_eq (pos c) (pos d) ≡ nat_eq c d
char_numbers c d = decide (int_eq (pos c) (pos d)) (Decides-int_eq (pos c) (pos d))
  where
    number : ℤ → ℕ
    number (pos n) = n
    number (negsuc n) = 0

    decide : (t : Bool) → Decides t (pos c ≡ pos d) → t ≡ nat_eq c d
    decide true e = let is : c ≡ d = let k : pos c ≡ pos d = e.0 refl in cc k in sym (ap (nat_eq c) (sym is) ∙ equal_number c)
    decide false e = sym (not_equal c d (λ k. let no : false ≡ true = e.1 (ap pos k) in absurd (cc no)))

at_most : (a b : ℕ) → nat_le a b ≡ not (nat_lt b a)
at_most a b = by (nat_le a b) refl
  where
    by : (t : Bool) → nat_le a b ≡ t → nat_le a b ≡ not (nat_lt b a)
    by true e = let no : nat_lt b a ≡ false = grind (arith, nat_tests, e) in e ∙ sym (ap not no)
    by false e = let yes_it : nat_lt b a ≡ true = grind (arith, nat_tests, e) in e ∙ sym (ap not yes_it)

pub char_order : (o : Comparison) (a b : ℕ) → a < 2 ^ 64 → b < 2 ^ 64 → low I32 (compare I64 (unsigned_test o) a b) ≡ flag (compared o (nat_lt a b) (nat_lt b a))
char_order comparison.Less a b p q = (λ i. low I32 (flag (nat_lt (long_is a p i) (long_is b q i)))) ∙ low_flag (nat_lt a b)
char_order comparison.LessOrEqual a b p q = (λ i. low I32 (flag (nat_le (long_is a p i) (long_is b q i)))) ∙ low_flag (nat_le a b) ∙ ap flag (at_most a b)
char_order comparison.Greater a b p q = (λ i. low I32 (flag (nat_lt (long_is b q i) (long_is a p i)))) ∙ low_flag (nat_lt b a)
char_order comparison.GreaterOrEqual a b p q = (λ i. low I32 (flag (nat_le (long_is b q i) (long_is a p i)))) ∙ low_flag (nat_le b a) ∙ ap flag (at_most b a)

-- The literal of a number is its word.
pub literal_word : (k : Kind) (n : ℤ) → InRange k n → bits64 (signed_long n) ≡ bits64 n
literal_word k (negsuc n) r = refl
literal_word k (pos n) r = by (int_le (pos n) (pos (2 ^ 63 - 1))) refl
  where
    by : (t : Bool) → int_le (pos n) (pos (2 ^ 63 - 1)) ≡ t → bits64 (cond t (pos n) (pos n -ℤ pos (2 ^ 64))) ≡ n
    by true e = refl
    by false e = let b = in_bounds k (pos n) r in let hi = b.1 in turned (pos n -ℤ pos (2 ^ 64)) refl hi
      where
        turned : (z : ℤ) → z ≡ pos n -ℤ pos (2 ^ 64) → pos n ≤ℤ pos (2 ^ 64 - 1) → bits64 z ≡ n
        turned (pos k) is hi = absurd (omega (arith, ints, is, hi))
        turned (negsuc k) is hi = omega (arith, ints, is)
