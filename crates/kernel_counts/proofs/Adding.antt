-- Counting up to a number.
use Rattle.std.proofs.Common.{◌≡◌, ℕ, suc, ◌+◌, ◌<◌, ◌≤◌, List, [], ◌∷◌, Result, Ok, Err, IfOk, length, get_or, drop, refl, sym, ap, subst, ◌∙◌, arith}
use Rattle.mo_num.specs.declared.memory.Memory.{Memory}
use Rattle.std.proofs.lemmas.List.{drop_more, at_drop_all}
use Rattle.kernel_counts.specs.Counting.{Counts, CountsField}

pub counts_none : (a : ℕ) → Counts 0 a a
counts_none a = record { is = omega arith }

pub counts_then : (n m a b c : ℕ) → Counts n a b → Counts m b c → Counts (n + m) a c
counts_then n m a b c h k =
    let x : b ≡ a + n = h.is in
    let y : c ≡ b + m = k.is in
    record { is = omega arith }

pub counts_so : (n m a b : ℕ) → Counts n a b → n ≡ m → Counts m a b
counts_so n m a b h e = subst (λ (k : ℕ). Counts k a b) e h

if_ok : {A E : Type 0} (r : Result A E) (P Q : A → Type 0) → IfOk r P → ((a : A) → P a → Q a) → IfOk r Q
if_ok (Ok a) P Q h k = k a h
if_ok (Err e) P Q h k = tt

-- ---- a whole, of which the parts were counted

pub same_part : (whole n a : ℕ) (r : Result ℕ Memory) → IfOk r (Counts n a) → whole ≡ n → IfOk r (Counts whole a)
same_part whole n a r h e = if_ok r (Counts n a) (Counts whole a) h (λ c k. counts_so n whole a c k (sym e))

pub two_parts : (whole n m a b : ℕ) (r : Result ℕ Memory) → Counts n a b → IfOk r (Counts m b) → whole ≡ n + m → IfOk r (Counts whole a)
two_parts whole n m a b r h k e = if_ok r (Counts m b) (Counts whole a) k (λ c l. counts_so (n + m) whole a c (counts_then n m a b c h l) (sym e))

pub three_parts : (whole n m l a b c : ℕ) (r : Result ℕ Memory) → Counts n a b → Counts m b c → IfOk r (Counts l c) → whole ≡ n + m + l → IfOk r (Counts whole a)
three_parts whole n m l a b c r h k i e = two_parts whole (n + m) l a c r (counts_then n m a b c h k) i e

one_suc : (n : ℕ) → 1 + n ≡ suc n
one_suc n = omega arith

pub node_alone : (whole a b : ℕ) → Counts 1 a b → whole ≡ 1 → Counts whole a b
node_alone whole a b h e = counts_so 1 whole a b h (sym e)

pub node_one : (whole n a b : ℕ) (r : Result ℕ Memory) → Counts 1 a b → IfOk r (Counts n b) → whole ≡ suc n → IfOk r (Counts whole a)
node_one whole n a b r h k e = two_parts whole 1 n a b r h k (e ∙ sym (one_suc n))

pub node_two : (whole n m a b c : ℕ) (r : Result ℕ Memory) → Counts 1 a b → Counts n b c → IfOk r (Counts m c) → whole ≡ suc (n + m) → IfOk r (Counts whole a)
node_two whole n m a b c r h k l e =
    let z : suc (n + m) ≡ 1 + n + m = omega arith in
    three_parts whole 1 n m a b c r h k l (e ∙ z)

pub node_three : (whole n m l a b c d : ℕ) (r : Result ℕ Memory) → Counts 1 a b → Counts n b c → Counts m c d → IfOk r (Counts l d) → whole ≡ suc (n + m + l) → IfOk r (Counts whole a)
node_three whole n m l a b c d r h k i j e =
    let z : suc (n + m + l) ≡ 1 + n + m + l = omega arith in
    three_parts whole (1 + n) m l a c d r (counts_then 1 n a b c h k) i j (e ∙ z)

-- ---- a field, with the fields behind it

pub field_counted : {L : Type 0} (count : L → ℕ) (field : L → L) (n a c : ℕ) → Counts n a c → ((rest : L) → count (field rest) ≡ n + count rest) → CountsField count field a c
field_counted count field n a c h e = record {
  is = λ rest.
      let x : c ≡ a + n = h.is in
      let y : count (field rest) ≡ n + count rest = e rest in
      omega arith;
}

pub node_field : {L : Type 0} (count : L → ℕ) (field : L → L) (n a b : ℕ) (r : Result ℕ Memory) → Counts 1 a b → IfOk r (Counts n b) → ((rest : L) → count (field rest) ≡ suc (n + count rest))
    → IfOk r (CountsField count field a)
node_field count field n a b r h k e = if_ok r (Counts n b) (CountsField count field a) k (λ c l. field_counted count field (1 + n) a c (counts_then 1 n a b c h l) (λ rest.
    let z : suc (n + count rest) ≡ 1 + n + count rest = omega arith in
    e rest ∙ z))

pub empty_field : {L : Type 0} (count : L → ℕ) (field : L → L) (a b : ℕ) → Counts 1 a b → ((rest : L) → count (field rest) ≡ suc (count rest)) → CountsField count field a b
empty_field count field a b h e = field_counted count field 1 a b h (λ rest. e rest ∙ sym (one_suc (count rest)))

-- so many nodes are left of a list
module _ {X : Type 0} (nodes : List X → ℕ) where
  pub record Left (xs : List X) (a : ℕ) (rest : List X) (c : ℕ) : Type 0 where
    pub is : c + nodes rest ≡ a + nodes xs

  pub all_left : (xs : List X) (a : ℕ) → Left xs a xs a
  all_left xs a = record { is = refl }

  -- one turn
  pub one_less : (xs : List X) (a : ℕ) (i : ℕ) (x : X) (b c n : ℕ) → i < length xs → x ≡ get_or xs i x → Counts n b c → nodes (x ∷ drop (i + 1) xs) ≡ n + nodes (drop (i + 1) xs)
      → Left xs a (drop i xs) b → Left xs a (drop (i + 1) xs) c
  one_less xs a i x b c n h e k m l =
      let d : drop i xs ≡ x ∷ drop (i + 1) xs = drop_more xs i x h ∙ ap (λ z. z ∷ drop (i + 1) xs) (sym e) in
      let y : nodes (drop i xs) ≡ n + nodes (drop (i + 1) xs) = ap nodes d ∙ m in
      let z : c ≡ b + n = k.is in
      let w : b + nodes (drop i xs) ≡ a + nodes xs = l.is in
      record { is = omega arith }

  -- the same of a field
  pub field_less : {L : Type 0} (count : L → ℕ) (list : List X → L) (see : X → L → L) (same : (ys : List X) → nodes ys ≡ count (list ys)) (more : (y : X) (ys : List X) → list (y ∷ ys) ≡ see y (list ys))
      (xs : List X) (a : ℕ) (i : ℕ) (x : X) (b c : ℕ) → i < length xs → x ≡ get_or xs i x → CountsField count (see x) b c → Left xs a (drop i xs) b → Left xs a (drop (i + 1) xs) c
  field_less count list see same more xs a i x b c h e k l =
      let d : drop i xs ≡ x ∷ drop (i + 1) xs = drop_more xs i x h ∙ ap (λ z. z ∷ drop (i + 1) xs) (sym e) in
      let y : nodes (drop i xs) ≡ count (see x (list (drop (i + 1) xs))) = ap nodes d ∙ same (x ∷ drop (i + 1) xs) ∙ ap count (more x (drop (i + 1) xs)) in
      let q : nodes (drop (i + 1) xs) ≡ count (list (drop (i + 1) xs)) = same (drop (i + 1) xs) in
      let z : c + count (list (drop (i + 1) xs)) ≡ b + count (see x (list (drop (i + 1) xs))) = k.is (list (drop (i + 1) xs)) in
      let w : b + nodes (drop i xs) ≡ a + nodes xs = l.is in
      record { is = omega arith }

  pub none_left : (xs : List X) (a i c : ℕ) → length xs ≤ i → nodes [] ≡ 0 → Left xs a (drop i xs) c → Counts (nodes xs) a c
  none_left xs a i c h z l =
      let q : nodes (drop i xs) ≡ nodes [] = at_drop_all nodes xs i h in
      let w : c + nodes (drop i xs) ≡ a + nodes xs = l.is in
      record { is = omega arith }
