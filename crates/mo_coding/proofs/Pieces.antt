-- A piece that is made is the one that a relation allows.
use Rattle.std.proofs.Common.{◌≡◌, ℕ, ◌-◌, ◌^◌, ◌<◌, Bool, true, false, List, [], ◌∷◌, length, Some, None, Decides, refl, sym, ap, ◌∙◌, subst, arith, ℤ, pos, neg_ℤ, ◌-ℤ◌, ◌≤ℤ◌, ◌<ℤ◌}
use Rattle.std.specs.Prelude.{nat_lt}
use Rattle.std.proofs.lemmas.Int.{ints}
use Rattle.std.proofs.lemmas.Bool.Decides.{Decides-ltb}
use Rattle.mo_num.specs.LebRead.{IsSigned}
use Rattle.exact_reading.specs.Reading.{is_between, is_signed}
use Rattle.exact_reading.proofs.Numbers.{between_true, true_between}
use Rattle.mo_types.specs.Spelling.{Then, shortest, IsString}
use Rattle.mo_types.specs.Header.{IsEach, IsList}
use Rattle.candid_laws.proofs.Spelling.{one_unsigned, one_signed}
use Rattle.mo_coding.specs.Numbers.{leb, sleb}
use Rattle.mo_coding.specs.Pieces.{Piece, join, given, unsigned, signed, string, each, list}
use Rattle.mo_coding.proofs.Numbers.{shortest_is, signed_is}

-- what is made is allowed, and what is allowed is made
pub record Makes (P : List ℕ → Type 0) (o : Piece) : Type 0 where
  pub sound : (b : List ℕ) → o ≡ Some b → P b
  pub only : (b : List ℕ) → P b → o ≡ Some b

some_is : {x y : List ℕ} → ◌≡◌ {A = Piece} (Some x) (Some y) → x ≡ y
some_is e = cc

pub makes_bytes : (c : List ℕ) → Makes (λ b. b ≡ c) (Some c)
makes_bytes c = record { sound = λ b e. sym (some_is e); only = λ b e. ap (λ l. Some l) (sym e) }

pub makes_none : (P : List ℕ → Type 0) → ((b : List ℕ) → P b → ⊥) → Makes P None
makes_none P n = record { sound = λ b e. cc; only = λ b h. absurd (n b h) }

module _ {P Q : List ℕ → Type 0} where
  joined : (o p : Piece) → Makes P o → Makes Q p → (b : List ℕ) → join o p ≡ Some b → Then P Q b
  joined (Some x) (Some y) m n b e = record { front = x; back = y; whole = sym (some_is e); first = m.sound x refl; second = n.sound y refl }
  joined (Some x) None m n b e = cc
  joined None p m n b e = cc

  pub makes_join : {o p : Piece} → Makes P o → Makes Q p → Makes (Then P Q) (join o p)
  makes_join {o} {p} m n = record {
    sound = joined o p m n;
    only = λ b h. ap (λ z. join z p) (m.only h.front h.first) ∙ ap (λ z. join (Some h.front) z) (n.only h.back h.second) ∙ ap (λ l. Some l) (sym h.whole);
  }

pub makes_given : {P : List ℕ → Type 0} {T : Type 0} {o : Piece} → (t : Bool) → Decides t T → Makes P o → Makes (λ b. T × P b) (given t o)
makes_given true d m = record { sound = λ b e. (d.0 refl, m.sound b e); only = λ b h. m.only b h.1 }
makes_given false d m = record { sound = λ b e. cc; only = λ b h. let f : false ≡ true = d.1 h.0 in cc }

-- ---- numbers

pub between_decides : (a b z : ℤ) → Decides (is_between a b z) ((a ≤ℤ z) × (z ≤ℤ b))
between_decides a b z = (true_between a b z, λ h. between_true a b z h.0 h.1)

signed_decides : (bits : ℕ) (z : ℤ) → Decides (is_signed bits z) (IsSigned bits z)
signed_decides bits z = (λ e. let p = true_between (neg_ℤ (pos (2 ^ (bits - 1)))) (pos (2 ^ (bits - 1)) -ℤ pos 1) z e in (p.0, under z (pos (2 ^ (bits - 1))) p.1), λ h. between_true (neg_ℤ (pos (2 ^ (bits - 1)))) (pos (2 ^ (bits - 1)) -ℤ pos 1) z h.0 (below z (pos (2 ^ (bits - 1))) h.1)) where
  under : (z p : ℤ) → z ≤ℤ (p -ℤ pos 1) → z <ℤ p
  under z p h = omega (arith, ints, h)

  below : (z p : ℤ) → z <ℤ p → z ≤ℤ (p -ℤ pos 1)
  below z p h = omega (arith, ints, h)

pub makes_unsigned : (bits n : ℕ) → Makes (λ b. shortest.unsigned bits b n) (unsigned bits n)
makes_unsigned bits n = by (nat_lt n (2 ^ bits)) (Decides-ltb n (2 ^ bits)) where
  by : (t : Bool) → Decides t (n < 2 ^ bits) → Makes (λ b. shortest.unsigned bits b n) (given t (Some (leb n)))
  by true d = record { sound = λ b e. subst (λ l. shortest.unsigned bits l n) (some_is e) (shortest_is n, d.0 refl); only = λ b h. ap (λ l. Some l) (one_unsigned bits n (leb n) b (shortest_is n, d.0 refl) h) }
  by false d = record { sound = λ b e. cc; only = λ b h. let f : false ≡ true = d.1 h.1 in cc }

pub makes_signed : (bits : ℕ) (n : ℤ) → Makes (λ b. shortest.signed bits b n) (signed bits n)
makes_signed bits n = by (is_signed bits n) (signed_decides bits n) where
  by : (t : Bool) → Decides t (IsSigned bits n) → Makes (λ b. shortest.signed bits b n) (given t (Some (sleb n)))
  by true d = record { sound = λ b e. subst (λ l. shortest.signed bits l n) (some_is e) (signed_is n, d.0 refl); only = λ b h. ap (λ l. Some l) (one_signed bits n (sleb n) b (signed_is n, d.0 refl) h) }
  by false d = record { sound = λ b e. cc; only = λ b h. let f : false ≡ true = d.1 h.1 in cc }

-- ---- lists

pub makes_string : (text : List ℕ) → Makes (IsString shortest text) (string text)
makes_string text = makes_join (makes_unsigned 32 (length text)) (makes_bytes text)

module _ {X : Type 0} (P : X → List ℕ → Type 0) (f : X → Piece) (m : (x : X) → Makes (P x) (f x)) where
  makes_each : (xs : List X) → Makes (IsEach P xs) (each f xs)
  makes_each [] = makes_bytes []
  makes_each (x ∷ xs) = makes_join (m x) (makes_each xs)

  pub makes_list : (xs : List X) → Makes (IsList shortest P xs) (list f xs)
  makes_list xs = makes_join (makes_unsigned 32 (length xs)) (makes_each xs)
