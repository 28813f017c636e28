-- References are read.
use Rattle.std.proofs.Common.{◌≡◌, ◌⊎◌, inl, inr, ℕ, zero, suc, ◌+◌, ◌-◌, ◌*◌, ◌^◌, ◌<◌, ◌≤◌, List, [], ◌∷◌, length, get_or, Bool, true, false, not, cond, nat_le, nat_lt, nat_eq, Option, Some, None, ℤ, pos, negsuc, ◌-ℤ◌, Result, Ok, Err, refl, sym, ap, ◌∙◌, subst, arith}
use Rattle.std.proofs.lemmas.Bool.Decides.{nat_tests}
use Rattle.std.proofs.lemmas.Bool.{lt-ltb, le-ltb, ltb-true}
use Rattle.std.proofs.lemmas.Int.{ints}
use Rattle.exact_reading.specs.Reading.{◌>>=◌, signed_at, is_signed}
use Rattle.exact_reading.proofs.Numbers.{between_true}
use Rattle.mo_types.specs.declared.wire.Plain.{Plain}
use Rattle.mo_types.specs.declared.wire.Plain.TheVariants as plain
use Rattle.mo_types.specs.declared.wire.TableRef.{TableRef}
use Rattle.mo_types.specs.declared.wire.TableRef.TheVariants.{Plainly, At}
use Rattle.mo_types.specs.Wire.{plain_code, plain_of_code}
use Rattle.candid_header.specs.declared.fault.Fault.{Fault}
use Rattle.candid_header.specs.declared.fault.Fault.TheVariants.{Short, BadTable}
use Rattle.candid_header.specs.Table.{number_of, number_at, ref_by, ref_at}
use Rattle.candid_header.proofs.Refs.{code_of, code_range}
use Rattle.wasm_tree.specs.declared.types.ValueType.TheVariants.{I64}
use Rattle.wasm_tree.specs.Numeric.{low, flag}
use Rattle.wasm_tree.specs.Exec.{Store}
use Rattle.low_ir.specs.Tree.{Code, Module}
use Rattle.low_rules.specs.Rule.{At as Point, CodeEnd, Contracts, Before, after_block}
use Rattle.low_rules.proofs.Steps.{on_flag, le_true, le_false, lt_true, lt_false}
use Rattle.wire_numbers.specs.Digits.{Digits, Ended, Open, Cut, behind, digits}
use Rattle.wire_numbers.proofs.Bytes.{Stand, long_is}
use Rattle.wire_numbers.proofs.Scanned.{point, Onward, scans}
use Rattle.wire_numbers.proofs.Numbers.{Bytes, Sized, times, sized, by_signed, signed_is, with_sign}
use Rattle.wire_tables.specs.References.{five_digits, ref_word, entry_tests, code_tests, ref_tests, ref}
use Rattle.wire_tables.proofs.Referred.{five_reach, Goes}

-- ---- what a reference is read as, by its digits

abbrev pub plainly : List ℕ → Option Plain → Result (TableRef × List ℕ) Fault
plainly rest (Some p) = Ok (Plainly p, rest)
plainly rest None = Err BadTable

abbrev pub ref_of : ℕ → Digits → Result (TableRef × List ℕ) Fault
ref_of n (Ended v scale last rest) = cond (nat_lt last 64) (cond (nat_lt v n) (Ok (At v, rest)) (Err BadTable)) (cond (nat_eq scale 128) (plainly rest (plain_of_code last)) (Err BadTable))
ref_of n (Open v scale rest) = Err BadTable
ref_of n Cut = Err Short

-- further digits make the scale greater
abbrev Least : Digits → Type 0
Least (Ended n scale last rest) = 128 ≤ scale
Least (Open n scale rest) = Unit {0}
Least Cut = Unit {0}

behind_least : (low : ℕ) (found : Digits) → Least found → Least (behind low found)
behind_least low (Ended n scale last rest) h = omega (arith, h)
behind_least low (Open n scale rest) h = tt
behind_least low Cut h = tt

least : (k : ℕ) (bs : List ℕ) → Least (digits k bs)
least zero bs = tt
least (suc k) [] = tt
least (suc k) (b ∷ bs) = by (nat_lt b 128) (least k bs)
  where
    by : (t : Bool) → Least (digits k bs) → Least (cond t (Ended b 128 b bs) (behind (b - 128) (digits k bs)))
    by true h = omega arith
    by false h = behind_least (b - 128) (digits k bs) h

-- one digit alone is the first byte
abbrev First : ℕ → Digits → Type 0
First b (Ended n scale last rest) = nat_eq scale 128 ≡ true → last ≡ b
First b (Open n scale rest) = Unit {0}
First b Cut = Unit {0}

behind_first : (b low : ℕ) (found : Digits) → Least found → First b (behind low found)
behind_first b low (Ended n scale last rest) h = λ e. absurd (let s : 128 * scale ≡ 128 = grind (arith, nat_tests, e) in omega (arith, s, h))
behind_first b low (Open n scale rest) h = tt
behind_first b low Cut h = tt

first : (k b : ℕ) (bs : List ℕ) → First b (digits (suc k) (b ∷ bs))
first k b bs = by (nat_lt b 128)
  where
    by : (t : Bool) → First b (cond t (Ended b 128 b bs) (behind (b - 128) (digits k bs)))
    by true = λ e. refl
    by false = behind_first b (b - 128) (digits k bs) (least k bs)

abbrev numbered : ℕ → ℤ × List ℕ → Result (TableRef × List ℕ) Fault
numbered n z = number_of n z.0 >>= λ i. Ok (At i, z.1)

abbrev number_by : ℕ → Result (ℤ × List ℕ) Fault → Result (TableRef × List ℕ) Fault
number_by n r = (r >>= λ x. cond (is_signed 33 x.0) (Ok x) (Err BadTable)) >>= λ z. numbered n z

-- what is no number of an entry
out_of : (n : ℕ) (z : ℤ) (rest : List ℕ) → number_of n z ≡ Err BadTable → number_by n (Ok (z, rest)) ≡ Err BadTable
out_of n z rest e = by (is_signed 33 z)
  where
    by : (t : Bool) → ((cond {A = Result (ℤ × List ℕ) Fault} t (Ok (z, rest)) (Err BadTable)) >>= λ z. numbered n z) ≡ Err BadTable
    by true = ap (λ (r : Result ℕ Fault). r >>= λ i. Ok (At i, rest)) e
    by false = refl

number_ended : (n v scale last : ℕ) (rest : List ℕ) → n ≤ 4294967296 → v < scale → number_by n (Ok (with_sign v scale last, rest)) ≡ cond (nat_lt last 64) (cond (nat_lt v n) (Ok (At v, rest)) (Err BadTable)) (Err BadTable)
number_ended n v scale last rest few lt = by (nat_lt last 64) (nat_lt v n) refl
  where
    by : (t u : Bool) → nat_lt v n ≡ u → number_by n (Ok (cond t (pos v) (pos v -ℤ pos scale), rest)) ≡ cond t (cond u (Ok (At v, rest)) (Err BadTable)) (Err BadTable)
    by true true e =
        let less : v < n = ltb-true v n e in
        let small_one : is_signed 33 (pos v) ≡ true = between_true (negsuc (2 ^ 32 - 1)) (pos (2 ^ 32 - 1)) (pos v) (omega (arith, ints)) (omega (arith, ints, less, few)) in
        (λ i. cond {A = Result (ℤ × List ℕ) Fault} (small_one i) (Ok (pos v, rest)) (Err BadTable) >>= λ z. numbered n z) ∙ (λ i. cond {A = Result ℕ Fault} (e i) (Ok v) (Err BadTable) >>= λ i. Ok (At i, rest))
    by true false e = out_of n (pos v) rest (ap (λ t. cond t (Ok v) (Err BadTable)) e)
    by false u e = let z : pos v -ℤ pos scale ≡ negsuc (scale - v - 1) = omega (arith, ints, lt) in out_of n (pos v -ℤ pos scale) rest (ap (number_of n) z)

pub ref_is_of : (memory : List ℕ) (end n : ℕ) (bytes : List ℕ) → n ≤ 4294967296 → Bytes bytes → Sized memory end (length bytes) (times 5) (digits 5 bytes) → ref_at n bytes ≡ ref_of n (digits 5 bytes)
unfolding ref_at number_at signed_at
ref_is_of memory end n [] few all size = refl
ref_is_of memory end n (b ∷ rest) few all size = by (plain_of_code b) refl
  where
    pick_number : number_at n (b ∷ rest) ≡ number_by n (by_signed Short BadTable 0 (digits 5 (b ∷ rest)))
    pick_number = ap (number_by n) (signed_is Short BadTable 5 0 (b ∷ rest) all)

    number : plain_of_code b ≡ None → (found : Digits) → First b found → Sized memory end (length (b ∷ rest)) (times 5) found → number_by n (by_signed Short BadTable 0 found) ≡ ref_of n found
    number none (Ended v scale last after) one size = number_ended n v scale last after few size.0 ∙ no_code (nat_lt last 64) (nat_eq scale 128) refl
      where
        no_code : (t u : Bool) → nat_eq scale 128 ≡ u → cond {A = Result (TableRef × List ℕ) Fault} t (cond (nat_lt v n) (Ok (At v, after)) (Err BadTable)) (Err BadTable) ≡ cond t (cond (nat_lt v n) (Ok (At v, after)) (Err BadTable)) (cond u (plainly after (plain_of_code last)) (Err BadTable))
        no_code true u e = refl
        no_code false false e = refl
        no_code false true e = sym (ap (plainly after) (ap plain_of_code (one e) ∙ none))
    number none (Open v scale after) one size = refl
    number none Cut one size = refl

    by : (o : Option Plain) → plain_of_code b ≡ o → ref_by n b rest o ≡ ref_of n (digits 5 (b ∷ rest))
    by None e = pick_number ∙ number e (digits 5 (b ∷ rest)) (first 4 b rest) size
    by (Some p) e =
        let is : b ≡ plain_code p = code_of b p e in
        let range = code_range p in
        let low_one : nat_lt b 128 ≡ true = lt-ltb b 128 (subst (λ k. k < 128) (sym is) range.1) in
        let high_one : nat_lt b 64 ≡ false = le-ltb b 64 (subst (λ k. 64 ≤ k) (sym is) range.0) in
        sym (ap (λ t. ref_of n (cond t (Ended b 128 b rest) (behind (b - 128) (digits 4 rest)))) low_one ∙ ap (λ t. cond t (cond (nat_lt b n) (Ok (At b, rest)) (Err BadTable)) (plainly rest (plain_of_code b))) high_one ∙ ap (plainly rest) e)

-- ---- codes

code_high : (p : Plain) → (plain_code p ≡ 104) ⊎ (111 ≤ plain_code p)
code_high plain.Null = inr (omega arith)
code_high plain.Bool = inr (omega arith)
code_high plain.Nat = inr (omega arith)
code_high plain.Int = inr (omega arith)
code_high plain.Nat8 = inr (omega arith)
code_high plain.Nat16 = inr (omega arith)
code_high plain.Nat32 = inr (omega arith)
code_high plain.Nat64 = inr (omega arith)
code_high plain.Int8 = inr (omega arith)
code_high plain.Int16 = inr (omega arith)
code_high plain.Int32 = inr (omega arith)
code_high plain.Int64 = inr (omega arith)
code_high plain.Float32 = inr (omega arith)
code_high plain.Float64 = inr (omega arith)
code_high plain.Text = inr (omega arith)
code_high plain.Reserved = inr (omega arith)
code_high plain.Empty = inr (omega arith)
code_high plain.Principal = inl refl

no_code_low : (b : ℕ) → nat_eq b 104 ≡ false → b < 111 → plain_of_code b ≡ None
no_code_low b other lt = by (plain_of_code b) refl
  where
    by : (o : Option Plain) → plain_of_code b ≡ o → o ≡ None
    by None e = refl
    by (Some p) e = apart (code_of b p e) (code_high p)
      where
        apart : b ≡ plain_code p → (plain_code p ≡ 104) ⊎ (111 ≤ plain_code p) → Some p ≡ None
        apart is (inl h) = absurd (cc (sym other ∙ (let t : nat_eq b 104 ≡ true = ap (λ k. nat_eq k 104) (is ∙ h) in t)))
        apart is (inr h) = absurd (omega (arith, is, h, lt))

abbrev IsCoded : ℕ → Type 0
IsCoded b = (p : Plain) × (plain_of_code b ≡ Some p)

high_coded : (k : ℕ) → k < 17 → IsCoded (k + 111)
high_coded zero h = (plain.Empty, refl)
high_coded (suc zero) h = (plain.Reserved, refl)
high_coded (suc (suc zero)) h = (plain.Text, refl)
high_coded (suc (suc (suc zero))) h = (plain.Float64, refl)
high_coded (suc (suc (suc (suc zero)))) h = (plain.Float32, refl)
high_coded (suc (suc (suc (suc (suc zero))))) h = (plain.Int64, refl)
high_coded (suc (suc (suc (suc (suc (suc zero)))))) h = (plain.Int32, refl)
high_coded (suc (suc (suc (suc (suc (suc (suc zero))))))) h = (plain.Int16, refl)
high_coded (suc (suc (suc (suc (suc (suc (suc (suc zero)))))))) h = (plain.Int8, refl)
high_coded (suc (suc (suc (suc (suc (suc (suc (suc (suc zero))))))))) h = (plain.Nat64, refl)
high_coded (suc (suc (suc (suc (suc (suc (suc (suc (suc (suc zero)))))))))) h = (plain.Nat32, refl)
high_coded (suc (suc (suc (suc (suc (suc (suc (suc (suc (suc (suc zero))))))))))) h = (plain.Nat16, refl)
high_coded (suc (suc (suc (suc (suc (suc (suc (suc (suc (suc (suc (suc zero)))))))))))) h = (plain.Nat8, refl)
high_coded (suc (suc (suc (suc (suc (suc (suc (suc (suc (suc (suc (suc (suc zero))))))))))))) h = (plain.Int, refl)
high_coded (suc (suc (suc (suc (suc (suc (suc (suc (suc (suc (suc (suc (suc (suc zero)))))))))))))) h = (plain.Nat, refl)
high_coded (suc (suc (suc (suc (suc (suc (suc (suc (suc (suc (suc (suc (suc (suc (suc zero))))))))))))))) h = (plain.Bool, refl)
high_coded (suc (suc (suc (suc (suc (suc (suc (suc (suc (suc (suc (suc (suc (suc (suc (suc zero)))))))))))))))) h = (plain.Null, refl)
high_coded (suc (suc (suc (suc (suc (suc (suc (suc (suc (suc (suc (suc (suc (suc (suc (suc (suc k))))))))))))))))) h = absurd (omega arith)

there_coded : (b : ℕ) → 111 ≤ b → b < 128 → IsCoded b
there_coded b le lt = let e : b - 111 + 111 ≡ b = omega (arith, le) in subst IsCoded e (high_coded (b - 111) (omega (arith, le, lt)))

-- ---- what the code does

module _ {World : Type 0} (pages : ℕ) (m : Module) (does : Contracts World) (store : Store World) (small : length store.memory < 2 ^ 32) (bytes : (k : ℕ) → get_or store.memory k 0 < 256) (end other : ℕ) (far : end ≤ length store.memory) (n : ℕ) (few : n ≤ 4096) (more : List ℕ) (p : CodeEnd World → Type 0) (rest : Code) where
  abbrev at : ℕ → ℕ → ℕ → ℕ → ℕ → ℕ → ℕ → Point World
  at spent a v s b t d = point pages m does store small bytes end other far (n ∷ more) p spent a v s b t d

  abbrev pub Refers : ℕ → List ℕ → Result (TableRef × List ℕ) Fault → Type 0
  Refers spent bs r = Goes pages m does store small bytes end other far (n ∷ more) p rest ref_word spent bs r

  less_is : (a b : ℕ) → a < 2 ^ 64 → b < 2 ^ 64 → nat_lt (low I64 a) (low I64 b) ≡ nat_lt a b
  less_is a b la lb = λ i. nat_lt (long_is a la i) (long_is b lb i)

  most_is : (a b : ℕ) → a < 2 ^ 64 → b < 2 ^ 64 → nat_le (low I64 a) (low I64 b) ≡ nat_le a b
  most_is a b la lb = λ i. nat_le (long_is a la i) (long_is b lb i)

  same_is : (a b : ℕ) → a < 2 ^ 64 → b < 2 ^ 64 → nat_eq (low I64 a) (low I64 b) ≡ nat_eq a b
  same_is a b la lb = λ i. nat_eq (long_is a la i) (long_is b lb i)

  turned : (x : Bool) → not x ≡ false → x ≡ true
  turned true e = refl
  turned false e = cc

  turned_back : (x : Bool) → not x ≡ true → x ≡ false
  turned_back true e = cc
  turned_back false e = refl

  entry_is : (v scale last t d now spent : ℕ) (after bs : List ℕ) → now ≤ spent + 220 → v < 2 ^ 63 → length after < length bs → Stand store.memory (end - length after) after → Bytes after → Refers spent bs (cond (nat_lt v n) (Ok (At v, after)) (Err BadTable))
      → Before pages m does entry_tests (after_block (Before pages m does rest p) p) (at (now + 4 + 2) (end - length after) v scale last t d)
  entry_is v scale last t d now spent after bs le small_one shorter stands all h =
      on_flag _ _ (nat_le (low I64 n) (low I64 v))
      (λ c.
      let lt : v < n = le_false n v (sym (most_is n v (omega (arith, few)) (omega (arith, small_one))) ∙ c) in
      let h : Refers spent bs (Ok (At v, after)) = subst (λ t. Refers spent bs (cond t (Ok (At v, after)) (Err BadTable))) (lt-ltb v n lt) h in
      h (now + 4 + 2 + 4 + 2) scale last (flag (nat_le (low I64 n) (low I64 v))) d (omega (arith, le)) shorter stands all)
      (λ c.
      let ge : n ≤ v = le_true n v (sym (most_is n v (omega (arith, few)) (omega (arith, small_one))) ∙ c) in
      let h : Refers spent bs (Err BadTable) = subst (λ t. Refers spent bs (cond t (Ok (At v, after)) (Err BadTable))) (le-ltb v n ge) h in
      h (now + 4 + 2 + 4 + 2 + 2) ((end - length after) ∷ end ∷ other ∷ v ∷ scale ∷ last ∷ flag (nat_le (low I64 n) (low I64 v)) ∷ d ∷ n ∷ more) (omega (arith, le)))

  -- of a byte that is a code
  coded : (v scale last t d now spent : ℕ) (after bs : List ℕ) (p' : Plain) → plain_of_code last ≡ Some p' → now ≤ spent + 252 → last < 128 → length after < length bs → Stand store.memory (end - length after) after → Bytes after → Refers spent bs (plainly after (plain_of_code last))
      → Before pages m does rest p (at (now + 4) (end - length after) (low I64 (last + 4096)) scale last t d)
  coded v scale last t d now spent after bs p' e le byte shorter stands all h =
      let is : last ≡ plain_code p' = code_of last p' e in
      let h : Refers spent bs (Ok (Plainly p', after)) = subst (λ o. Refers spent bs (plainly after o)) e h in
      let word : 4096 + plain_code p' ≡ low I64 (last + 4096) = (let s : 4096 + plain_code p' ≡ last + 4096 = omega (arith, is) in s) ∙ sym (long_is (last + 4096) (omega (arith, byte))) in
      subst (λ v. Before pages m does rest p (at (now + 4) (end - length after) v scale last t d)) word (h (now + 4) scale last t d (omega (arith, le)) shorter stands all)

  code_is : (v scale last t d now spent : ℕ) (after bs : List ℕ) → now ≤ spent + 220 → 64 ≤ last → last < 128 → scale < 2 ^ 64 → length after < length bs → Stand store.memory (end - length after) after → Bytes after → Refers spent bs (cond (nat_eq scale 128) (plainly after (plain_of_code last)) (Err BadTable))
      → Before pages m does code_tests (after_block (Before pages m does rest p) p) (at (now + 4 + 2) (end - length after) v scale last t d)
  code_is v scale last t d now spent after bs le high byte small_scale shorter stands all h =
      on_flag _ _ (not (nat_eq (low I64 scale) (low I64 128)))
      (λ c.
      let one : nat_eq scale 128 ≡ true = turned (nat_eq scale 128) (sym (ap not (same_is scale 128 small_scale (omega arith))) ∙ c) in
      let h : Refers spent bs (plainly after (plain_of_code last)) = subst (λ t. Refers spent bs (cond t (plainly after (plain_of_code last)) (Err BadTable))) one h in
      on_flag _ _ (nat_eq (low I64 last) (low I64 104))
      (λ e.
      let other_code : nat_eq last 104 ≡ false = sym (same_is last 104 (omega (arith, byte)) (omega arith)) ∙ e in
      on_flag _ _ (nat_lt (low I64 last) (low I64 111))
      (λ f.
      let ge : 111 ≤ last = lt_false last 111 (sym (less_is last 111 (omega (arith, byte)) (omega arith)) ∙ f) in
      let there = there_coded last ge byte in
      coded v scale last (flag (nat_lt (low I64 last) (low I64 111))) d (now + 4 + 2 + 4 + 2 + 4 + 2 + 4 + 2) spent after bs there.0 there.1 (omega (arith, le)) byte shorter stands all h)
      (λ f.
      let lt : last < 111 = lt_true last 111 (sym (less_is last 111 (omega (arith, byte)) (omega arith)) ∙ f) in
      let h : Refers spent bs (Err BadTable) = subst (λ o. Refers spent bs (plainly after o)) (no_code_low last other_code lt) h in
      h (now + 4 + 2 + 4 + 2 + 4 + 2 + 4 + 2 + 2) ((end - length after) ∷ end ∷ other ∷ v ∷ scale ∷ last ∷ flag (nat_lt (low I64 last) (low I64 111)) ∷ d ∷ n ∷ more) (omega (arith, le))))
      (λ e.
      let is : nat_eq last 104 ≡ true = sym (same_is last 104 (omega (arith, byte)) (omega arith)) ∙ e in
      coded v scale last (flag (nat_eq (low I64 last) (low I64 104))) d (now + 4 + 2 + 4 + 2 + 4 + 2) spent after bs plain.Principal (principal last is) (omega (arith, le)) byte shorter stands all h))
      (λ c.
      let more_digits : nat_eq scale 128 ≡ false = turned_back (nat_eq scale 128) (sym (ap not (same_is scale 128 small_scale (omega arith))) ∙ c) in
      let h : Refers spent bs (Err BadTable) = subst (λ t. Refers spent bs (cond t (plainly after (plain_of_code last)) (Err BadTable))) more_digits h in
      h (now + 4 + 2 + 4 + 2 + 2) ((end - length after) ∷ end ∷ other ∷ v ∷ scale ∷ last ∷ flag (not (nat_eq (low I64 scale) (low I64 128))) ∷ d ∷ n ∷ more) (omega (arith, le)))
    where
      principal : (b : ℕ) → nat_eq b 104 ≡ true → plain_of_code b ≡ Some plain.Principal
      principal b e = ap plain_of_code (let s : b ≡ 104 = grind (arith, nat_tests, e) in s)

  ref_onward : (found : Digits) (spent : ℕ) (bs : List ℕ) → Sized store.memory end (length bs) (times 5) found → Refers spent bs (ref_of n found)
      → Onward pages m does store small bytes end other far (n ∷ more) p (pos five_digits) (omega arith) (ref_tests rest) (spent + 220) 0 1 found
  ref_onward (Ended v scale last after) spent bs size h =
      λ now t d le.
      let value : 0 + 1 * v ≡ v = omega arith in
      let width : 1 * scale ≡ scale = omega arith in
      subst (λ h. Before pages m does (ref_tests rest) p h) (λ i. at now (end - length after) (sym value i) (sym width i) last t d)
      (on_flag _ _ (nat_lt (low I64 last) (low I64 64))
      (λ c.
      let high : nat_lt last 64 ≡ false = sym (less_is last 64 (omega (arith, size.2)) (omega arith)) ∙ c in
      let h : Refers spent bs (cond (nat_eq scale 128) (plainly after (plain_of_code last)) (Err BadTable)) = subst (λ t. Refers spent bs (cond t (cond (nat_lt v n) (Ok (At v, after)) (Err BadTable)) (cond (nat_eq scale 128) (plainly after (plain_of_code last)) (Err BadTable)))) high h in
      code_is v scale last (flag (nat_lt (low I64 last) (low I64 64))) d now spent after bs le (lt_false last 64 high) size.2 (omega (arith, size.1)) size.3 size.4 size.5 h)
      (λ c.
      let low_one : nat_lt last 64 ≡ true = sym (less_is last 64 (omega (arith, size.2)) (omega arith)) ∙ c in
      let h : Refers spent bs (cond (nat_lt v n) (Ok (At v, after)) (Err BadTable)) = subst (λ t. Refers spent bs (cond t (cond (nat_lt v n) (Ok (At v, after)) (Err BadTable)) (cond (nat_eq scale 128) (plainly after (plain_of_code last)) (Err BadTable)))) low_one h in
      entry_is v scale last (flag (nat_lt (low I64 last) (low I64 64))) d now spent after bs le (omega (arith, size.0, size.1)) size.3 size.4 size.5 h))
  ref_onward (Open v scale after) spent bs size h =
      λ now b t d le big byte.
      let width : 1 * scale ≡ 34359738368 = (let s : 1 * scale ≡ scale = omega arith in s) ∙ size.1 in
      subst (λ h. Before pages m does (ref_tests rest) p h) (λ i. at now (end - length after) (0 + 1 * v) (sym width i) b t d)
      (on_flag _ _ (nat_lt (low I64 b) (low I64 64))
      (λ c. h (now + 4 + 2 + 4 + 2 + 2) ((end - length after) ∷ end ∷ other ∷ (0 + 1 * v) ∷ 34359738368 ∷ b ∷ 1 ∷ d ∷ n ∷ more) (omega (arith, le)))
      (λ c. absurd (let low_one : b < 64 = lt_true b 64 (sym (less_is b 64 (omega (arith, byte)) (omega arith)) ∙ c) in omega (arith, low_one, big))))
  ref_onward Cut spent bs size h = λ now locals le. h now locals (omega (arith, le))

  pub ref_is : (a v s b t d spent : ℕ) (bs : List ℕ) → a + length bs ≡ end → Stand store.memory a bs → Bytes bs → Refers spent bs (ref_at n bs) → Before pages m does (ref rest) p (at spent a v s b t d)
  ref_is a v s b t d spent bs long is all h =
      let size = sized store.memory end 5 a bs long is all in
      scans pages m does store small bytes end other far (n ∷ more) p (pos five_digits) (omega arith) (ref_tests rest) 4 a v s b t d spent bs five_reach long is
      (ref_onward (digits 5 bs) spent bs size (subst (Refers spent bs) (ref_is_of store.memory end n bs (omega (arith, few)) all size) h))
