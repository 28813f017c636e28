-- The routines read what the definition reads.
use Rattle.std.proofs.Common.{◌≡◌, ℕ, zero, suc, ◌+◌, ◌-◌, ◌*◌, ◌^◌, ◌<◌, ◌≤◌, List, [], ◌∷◌, length, get_or, Bool, true, false, not, cond, nat_le, nat_lt, nat_eq, Some, pos, ◌-ℤ◌, Result, Ok, Err, refl, sym, ap, ◌∙◌, subst, arith}
use Rattle.std.proofs.lemmas.Bool.Decides.{nat_tests}
use Rattle.mo_types.specs.declared.datum.Datum.{Datum}
use Rattle.mo_types.specs.declared.datum.Datum.TheVariants as part
use Rattle.candid_header.specs.declared.fault.Fault.{Fault}
use Rattle.candid_header.specs.declared.fault.Fault.TheVariants.{Short, BadValue, NumberLimit}
use Rattle.candid_header.specs.Reading.{first}
use Rattle.candid_read.specs.Parts.{natural, integer, nat_at, int_at, flag_by}
use Rattle.module_laws.specs.Stored.{written}
use Rattle.wasm_tree.specs.declared.types.ValueType.TheVariants.{I32, I64}
use Rattle.wasm_tree.specs.declared.types.FunctionType.{FunctionType}
use Rattle.wasm_tree.specs.Numeric.{low, flag}
use Rattle.wasm_tree.specs.Exec.{Store, bits64}
use Rattle.low_ir.specs.Tree.{Code, Stop, Module}
use Rattle.low_rules.specs.Rule.{At, CodeEnd, CallEnd, Comes, Contracts, Before, is_inside, after_block, ends}
use Rattle.low_rules.proofs.Steps.{on_true, on_flag, low_is, le_test, le_true, le_false}
use Rattle.memory_routines.specs.Laws.{word_of as type_of_word}
use Rattle.memory_routines.specs.Numerals.{with_memory}
use Rattle.wire_numbers.specs.Digits.{Digits, Ended, Open, Cut, digits}
use Rattle.wire_numbers.specs.Scanning.{byte}
use Rattle.wire_numbers.specs.Readers.{nine_digits, done, if_tenth, no_digit, read_natural, sign_digit, last_sign, read_integer, flag_digit, read_flag, word_of, IsRead}
use Rattle.wire_numbers.proofs.Bytes.{Stand, long_is, lt_test}
use Rattle.wire_numbers.proofs.Scanned.{Reach, Refused, point, byte_is, Onward, scans}
use Rattle.wire_numbers.proofs.Numbers.{Bytes, Sized, times, sized, natural_of, natural_is, after_nine, integer_of, integer_is, signed_after_nine}
use Rattle.wire_numbers.proofs.Words.{lowered as lowered_is}

abbrev pub gives_word : FunctionType
gives_word = type_of_word (I32 ∷ I32 ∷ I32 ∷ [])

-- nine digits and no fewer reach the limit
pub nine_reach : Reach (bits64 nine_digits) 8 1
nine_reach = (omega arith, (omega arith, (omega arith, (omega arith, (omega arith, (omega arith, (omega arith, (omega arith, refl))))))))

module _ {World : Type 0} (pages : ℕ) (m : Module) (does : Contracts World) (store : Store World) (small : length store.memory < 2 ^ 32) (bytes : (k : ℕ) → get_or store.memory k 0 < 256) (end to : ℕ) (far : end ≤ length store.memory) (place : to + 8 ≤ length store.memory) (q : CallEnd World → Type 0) where
  abbrev p : CodeEnd World → Type 0
  p = ends gives_word q

  abbrev at : ℕ → ℕ → ℕ → ℕ → ℕ → ℕ → ℕ → At World
  at spent a v s b t d = point pages m does store small bytes end to far [] p spent a v s b t d

  abbrev pub Answers : Result (Datum × List ℕ) Fault → Type 0
  Answers r = (e : CallEnd World) → IsRead store end to r e → q e

  -- The word is stored and the place is given.
  pub done_is : (now a v s b x d w : ℕ) (value : Datum) (rest : List ℕ) → Answers (Ok (value, rest)) → a ≡ end - length rest → v ≡ w → word_of value ≡ w → now ≤ 495 → Before pages m does done p (at now a v s b x d)
  done_is now a v s b x d w value rest h e same is le =
      let address : low I32 to + 0 ≡ to = ap (λ k. k + 0) (low_is to (omega (arith, place, small))) ∙ omega arith in
      on_true _ _ (is_inside store.memory (low I32 to + 0) 8) (ap (λ k. is_inside store.memory k 8) address ∙ le_test (to + 8) (length store.memory) place)
      (subst (λ (end : CallEnd World). q end) (λ i. Comes (now + 3 + 2) (with_memory store (written store.memory (sym address i) 8 ((is ∙ sym same) i))) (Some (sym e i))) (h _ (now + 3 + 2, omega (arith, le), refl)))

  pub refuses : (f : Fault) → Answers (Err f) → Refused pages m does store small bytes end to far [] p 500
  refuses f h spent locals le = h (Comes spent store (Some 0)) (spent, le, refl)

  within : (a b : ℕ) → b ≤ a → Refused pages m does store small bytes end to far [] p a → Refused pages m does store small bytes end to far [] p b
  within a b le h = λ spent locals l. h spent locals (omega (arith, l, le))

  same_place : (n scale : ℕ) → (0 + 1 * n ≡ n) × (1 * scale ≡ scale)
  same_place n scale = (omega arith, omega arith)

  large_is : (b : ℕ) → b < 256 → nat_le (low I64 128) (low I64 b) ≡ nat_le 128 b
  large_is b lt = ap (λ k. nat_le 128 k) (long_is b (omega (arith, lt)))

  zero_is : (b : ℕ) → b < 256 → not (nat_eq (low I64 b) (low I64 0)) ≡ not (nat_eq b 0)
  zero_is b lt = ap (λ k. not (nat_eq k 0)) (long_is b (omega (arith, lt)))

  turned : (x : Bool) → not x ≡ false → x ≡ true
  turned true e = refl
  turned false e = cc

  turned_back : (x : Bool) → not x ≡ true → x ≡ false
  turned_back true e = cc
  turned_back false e = refl

  -- ---- natural numbers

  abbrev inner : CodeEnd World → Type 0
  inner = after_block (Before pages m does done p) p

  abbrev Goes : Code → Digits → Type 0
  Goes rest found = Onward pages m does store small bytes end to far [] p nine_digits (omega arith) rest 392 0 1 found

  natural_onward : (found : Digits) (least : ℕ) → least ≤ end → Sized store.memory end least (times 9) found → Answers (natural_of found) → Goes (if_tenth (byte no_digit) Stop) found
  natural_onward (Ended n scale last rest) least fits size h =
      λ now x d le.
      on_flag _ _ (nat_le (low I64 128) (low I64 last))
      (λ c. done_is (now + 4 + 2) (end - length rest) (0 + 1 * n) (1 * scale) last (flag (nat_le (low I64 128) (low I64 last))) d n (natural n) rest h refl (same_place n scale).0 refl (omega (arith, le)))
      (λ c. absurd (let big : 128 ≤ last = le_true 128 last (sym (large_is last (omega (arith, size.2))) ∙ c) in omega (arith, big, size.2)))
  natural_onward (Open n scale rest) least fits size h =
      λ now b x d le big byte.
      on_flag _ _ (nat_le (low I64 128) (low I64 b))
      (λ c. absurd (let low_one : b < 128 = le_false 128 b (sym (large_is b byte) ∙ c) in omega (arith, low_one, big)))
      (λ c.
      byte_is pages m does store small bytes end to far [] inner no_digit (end - length rest) (0 + 1 * n) (1 * scale) b (flag (nat_le (low I64 128) (low I64 b))) d (now + 4 + 2) rest (omega (arith, size.2, fits)) size.3
      (λ e. within 500 (now + 4 + 2 + 8) (omega (arith, le)) (refuses Short (subst (λ l. Answers (after_nine n l)) e h)))
      (λ c now cs e byte long stands less.
      let h : Answers (after_nine n (c ∷ cs)) = subst (λ l. Answers (after_nine n l)) e h in
      on_flag _ _ (not (nat_eq (low I64 c) (low I64 0)))
      (λ t.
      let none : nat_eq c 0 ≡ true = turned (nat_eq c 0) (sym (zero_is c byte) ∙ t) in
      let h : Answers (Ok (natural n, cs)) = subst (λ t. Answers (cond t (Ok (natural n, cs)) (Err NumberLimit))) none h in
      done_is (now + 4 + 2) (suc (end - length rest)) (0 + 1 * n) (1 * scale) c (flag (not (nat_eq (low I64 c) (low I64 0)))) d n (natural n) cs h (omega (arith, long)) (same_place n scale).0 refl (omega (arith, le, less)))
      (λ t.
      let some : nat_eq c 0 ≡ false = turned_back (nat_eq c 0) (sym (zero_is c byte) ∙ t) in
      let h : Answers (Err NumberLimit) = subst (λ t. Answers (cond t (Ok (natural n, cs)) (Err NumberLimit))) some h in
      refuses NumberLimit h (now + 4 + 2 + 2) (suc (end - length rest) ∷ end ∷ to ∷ (0 + 1 * n) ∷ (1 * scale) ∷ c ∷ flag (not (nat_eq (low I64 c) (low I64 0))) ∷ d ∷ []) (omega (arith, le, less)))))
  natural_onward Cut least fits size h = within 500 392 (omega arith) (refuses Short h)

  pub natural_reads : (a : ℕ) (bs : List ℕ) → a + length bs ≡ end → Stand store.memory a bs → Bytes bs → Answers (nat_at bs) → Before pages m does read_natural p (at 0 a 0 0 0 0 0)
  natural_reads a bs long is all h =
      let size = sized store.memory end 9 a bs long is all in
      scans pages m does store small bytes end to far [] p nine_digits (omega arith) (if_tenth (byte no_digit) Stop) 8 a 0 0 0 0 0 0 bs nine_reach long is
      (natural_onward (digits 9 bs) (length bs) (omega (arith, long)) size (subst Answers (natural_is store.memory end bs all size) h))

  -- ---- numbers with a sign

  below_64 : (b : ℕ) → b < 256 → nat_le (low I64 64) (low I64 b) ≡ nat_le 64 b
  below_64 b lt = ap (λ k. nat_le 64 k) (long_is b (omega (arith, lt)))

  tests_127 : (b : ℕ) → b < 256 → not (nat_eq (low I64 b) (low I64 127)) ≡ not (nat_eq b 127)
  tests_127 b lt = ap (λ k. not (nat_eq k 127)) (long_is b (omega (arith, lt)))

  less_64 : (b : ℕ) → nat_le 64 b ≡ false → nat_lt b 64 ≡ true
  less_64 b h = grind (arith, nat_tests)

  not_less_64 : (b : ℕ) → nat_le 64 b ≡ true → nat_lt b 64 ≡ false
  not_less_64 b h = grind (arith, nat_tests)

  negative_word : (n scale : ℕ) → n < scale → scale ≤ 2 ^ 63 → low I64 (low I64 (0 + 1 * n) + 2 ^ 64 - low I64 (1 * scale)) ≡ bits64 (pos n -ℤ pos scale)
  negative_word n scale lt le = (λ i. low I64 (low I64 ((same_place n scale).0 i) + 2 ^ 64 - low I64 ((same_place n scale).1 i))) ∙ lowered_is n scale lt le

  integer_onward : (found : Digits) (least : ℕ) → least ≤ end → Sized store.memory end least (times 9) found → Answers (integer_of found) → Goes (if_tenth (byte sign_digit) last_sign) found
  integer_onward (Ended n scale last rest) least fits size h =
      λ now x d le.
      on_flag _ _ (nat_le (low I64 128) (low I64 last))
      (λ c.
      on_flag _ _ (nat_le (low I64 64) (low I64 last))
      (λ t.
      let positive : nat_lt last 64 ≡ true = less_64 last (sym (below_64 last (omega (arith, size.2))) ∙ t) in
      let h : Answers (Ok (integer (pos n), rest)) = subst (λ t. Answers (Ok (integer (cond t (pos n) (pos n -ℤ pos scale)), rest))) positive h in
      done_is (now + 4 + 2 + 4 + 2) (end - length rest) (0 + 1 * n) (1 * scale) last (flag (nat_le (low I64 64) (low I64 last))) d n (integer (pos n)) rest h refl (same_place n scale).0 refl (omega (arith, le)))
      (λ t.
      let negative : nat_lt last 64 ≡ false = not_less_64 last (sym (below_64 last (omega (arith, size.2))) ∙ t) in
      let h : Answers (Ok (integer (pos n -ℤ pos scale), rest)) = subst (λ t. Answers (Ok (integer (cond t (pos n) (pos n -ℤ pos scale)), rest))) negative h in
      done_is (now + 4 + 2 + 4 + 2 + 4) (end - length rest) (low I64 (low I64 (0 + 1 * n) + 2 ^ 64 - low I64 (1 * scale))) (1 * scale) last (flag (nat_le (low I64 64) (low I64 last))) d (bits64 (pos n -ℤ pos scale)) (integer (pos n -ℤ pos scale)) rest h refl (negative_word n scale size.0 size.1) refl (omega (arith, le))))
      (λ c. absurd (let big : 128 ≤ last = le_true 128 last (sym (large_is last (omega (arith, size.2))) ∙ c) in omega (arith, big, size.2)))
  integer_onward (Open n scale rest) least fits size h =
      λ now b x d le big byte.
      on_flag _ _ (nat_le (low I64 128) (low I64 b))
      (λ c. absurd (let low_one : b < 128 = le_false 128 b (sym (large_is b byte) ∙ c) in omega (arith, low_one, big)))
      (λ c.
      byte_is pages m does store small bytes end to far [] inner sign_digit (end - length rest) (0 + 1 * n) (1 * scale) b (flag (nat_le (low I64 128) (low I64 b))) d (now + 4 + 2) rest (omega (arith, size.2, fits)) size.3
      (λ e. within 500 (now + 4 + 2 + 8) (omega (arith, le)) (refuses Short (subst (λ l. Answers (signed_after_nine n scale l)) e h)))
      (λ c now cs e byte long stands less.
      let h : Answers (signed_after_nine n scale (c ∷ cs)) = subst (λ l. Answers (signed_after_nine n scale l)) e h in
      on_flag _ _ (not (nat_eq (low I64 c) (low I64 0)))
      (λ t.
      let none : nat_eq c 0 ≡ true = turned (nat_eq c 0) (sym (zero_is c byte) ∙ t) in
      let h : Answers (Ok (integer (pos n), cs)) = subst (λ t. Answers (cond t (Ok (integer (pos n), cs)) (cond (nat_eq c 127) (Ok (integer (pos n -ℤ pos scale), cs)) (Err NumberLimit)))) none h in
      done_is (now + 4 + 2) (suc (end - length rest)) (0 + 1 * n) (1 * scale) c (flag (not (nat_eq (low I64 c) (low I64 0)))) d n (integer (pos n)) cs h (omega (arith, long)) (same_place n scale).0 refl (omega (arith, le, less)))
      (λ t.
      let some : nat_eq c 0 ≡ false = turned_back (nat_eq c 0) (sym (zero_is c byte) ∙ t) in
      let h : Answers (cond (nat_eq c 127) (Ok (integer (pos n -ℤ pos scale), cs)) (Err NumberLimit)) = subst (λ t. Answers (cond t (Ok (integer (pos n), cs)) (cond (nat_eq c 127) (Ok (integer (pos n -ℤ pos scale), cs)) (Err NumberLimit)))) some h in
      on_flag _ _ (not (nat_eq (low I64 c) (low I64 127)))
      (λ u.
      let is : nat_eq c 127 ≡ true = turned (nat_eq c 127) (sym (tests_127 c byte) ∙ u) in
      let h : Answers (Ok (integer (pos n -ℤ pos scale), cs)) = subst (λ t. Answers (cond t (Ok (integer (pos n -ℤ pos scale), cs)) (Err NumberLimit))) is h in
      done_is (now + 4 + 2 + 4 + 2 + 4) (suc (end - length rest)) (low I64 (low I64 (0 + 1 * n) + 2 ^ 64 - low I64 (1 * scale))) (1 * scale) c (flag (not (nat_eq (low I64 c) (low I64 127)))) d (bits64 (pos n -ℤ pos scale)) (integer (pos n -ℤ pos scale)) cs h (omega (arith, long)) (negative_word n scale size.0 (let s : scale ≡ 2 ^ 63 = size.1 in omega (arith, s))) refl (omega (arith, le, less)))
      (λ u.
      let other : nat_eq c 127 ≡ false = turned_back (nat_eq c 127) (sym (tests_127 c byte) ∙ u) in
      let h : Answers (Err NumberLimit) = subst (λ t. Answers (cond t (Ok (integer (pos n -ℤ pos scale), cs)) (Err NumberLimit))) other h in
      refuses NumberLimit h (now + 4 + 2 + 4 + 2 + 2) (suc (end - length rest) ∷ end ∷ to ∷ (0 + 1 * n) ∷ (1 * scale) ∷ c ∷ flag (not (nat_eq (low I64 c) (low I64 127))) ∷ d ∷ []) (omega (arith, le, less))))))
  integer_onward Cut least fits size h = within 500 392 (omega arith) (refuses Short h)

  pub integer_reads : (a : ℕ) (bs : List ℕ) → a + length bs ≡ end → Stand store.memory a bs → Bytes bs → Answers (int_at bs) → Before pages m does read_integer p (at 0 a 0 0 0 0 0)
  integer_reads a bs long is all h =
      let size = sized store.memory end 9 a bs long is all in
      scans pages m does store small bytes end to far [] p nine_digits (omega arith) (if_tenth (byte sign_digit) last_sign) 8 a 0 0 0 0 0 0 bs nine_reach long is
      (integer_onward (digits 9 bs) (length bs) (omega (arith, long)) size (subst Answers (integer_is store.memory end bs all size) h))

  -- ---- truth values

  pub flag_reads : (a : ℕ) (bs : List ℕ) → a + length bs ≡ end → Stand store.memory a bs → Answers (first flag_by bs) → Before pages m does read_flag p (at 0 a 0 0 0 0 0)
  flag_reads a bs long is h =
      byte_is pages m does store small bytes end to far [] p flag_digit a 0 0 0 0 0 0 bs long is
      (λ e. within 500 8 (omega arith) (refuses Short (subst (λ l. Answers (first flag_by l)) e h)))
      (λ c now cs e byte on stands le. by c now cs byte on le (subst (λ l. Answers (first flag_by l)) e h))
    where
      by : (c now : ℕ) (cs : List ℕ) → c < 256 → suc a + length cs ≡ end → now ≤ 13 → Answers (flag_by c cs) → Before pages m does flag_digit p (at now (suc a) 0 0 c 0 0)
      by zero now cs byte on le h = done_is (now + 4 + 2 + 2) (suc a) 0 0 0 0 0 0 (part.Flag false) cs h (omega (arith, on)) refl refl (omega (arith, le))
      by (suc zero) now cs byte on le h = done_is (now + 4 + 2 + 2) (suc a) 1 0 1 0 0 1 (part.Flag true) cs h (omega (arith, on)) refl refl (omega (arith, le))
      by (suc (suc c)) now cs byte on le h =
          on_flag _ _ (nat_lt (low I64 1) (low I64 (suc (suc c))))
          (λ t. absurd (cc (sym (above (suc (suc c)) (omega arith) (omega (arith, byte))) ∙ t)))
          (λ t. refuses BadValue h (now + 4 + 2 + 2) (suc a ∷ end ∷ to ∷ 0 ∷ 0 ∷ suc (suc c) ∷ flag (nat_lt (low I64 1) (low I64 (suc (suc c)))) ∷ 0 ∷ []) (omega (arith, le)))
        where
          above : (c : ℕ) → 1 < c → c < 2 ^ 64 → nat_lt (low I64 1) (low I64 c) ≡ true
          above c lt le = ap (λ k. nat_lt 1 k) (long_is c le) ∙ lt_test 1 c lt
