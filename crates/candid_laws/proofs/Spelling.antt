-- A header in the shortest numbers has one spelling.
use Rattle.std.proofs.Common.{◌≡◌, ℕ, ◌≤◌, List, [], ◌∷◌, ◌++◌, length, inl, inr, sym, ap, ◌∙◌, subst, arith, ℤ}
use Rattle.std.proofs.lemmas.Int.{ints}
use Rattle.mo_num.specs.Leb.{IsLeb, IsSleb}
use Rattle.mo_types.specs.declared.wire.Entry.{Entry}
use Rattle.mo_types.specs.declared.wire.Method.{Method}
use Rattle.mo_types.specs.declared.wire.Wire.{Wire}
use Rattle.mo_types.specs.declared.wire.Wire.TheVariants.{Simple, Opt, Vec, Record, Variant, Func, Service}
use Rattle.mo_types.specs.Spelling.{shortest, Then, IsString}
use Rattle.mo_types.specs.Header.{magic, IsByte, IsEach, IsList, IsField, IsMethod, IsEntry, IsHeader}

-- ---- numbers

leb_same : (a b : List ℕ) (n : ℕ) → IsLeb a n → IsLeb b n → length a ≡ length b → a ≡ b
leb_same [] b n h k e = absurd h
leb_same (x ∷ a) [] n h k e = absurd k
leb_same (x ∷ []) (y ∷ []) n h k e = ap (λ (z : ℕ). z ∷ []) (sym h.1 ∙ k.1)
leb_same (x ∷ []) (y ∷ c ∷ b) n h k e = absurd (omega arith)
leb_same (x ∷ d ∷ a) (y ∷ []) n h k e = absurd (omega arith)
leb_same (x ∷ d ∷ a) (y ∷ c ∷ b) n h k e =
    let high : h.2 ≡ k.2 = omega (arith, h.0, h.1, h.3, k.0, k.1, k.3) in
    let low : x ≡ y = omega (arith, high, h.3, k.3) in
    let counts : length (d ∷ a) ≡ length (c ∷ b) = omega arith in
    ap (λ (z : ℕ). z ∷ d ∷ a) low ∙ ap (λ (l : List ℕ). y ∷ l) (leb_same (d ∷ a) (c ∷ b) k.2 (subst (λ (z : ℕ). IsLeb (d ∷ a) z) high h.4) k.4 counts)

sleb_same : (a b : List ℕ) (n : ℤ) → IsSleb a n → IsSleb b n → length a ≡ length b → a ≡ b
sleb_same [] b n h k e = absurd h
sleb_same (x ∷ a) [] n h k e = absurd k
sleb_same (x ∷ []) (y ∷ []) n (inl h) (inl k) e = let f : x ≡ y = omega (arith, ints, h.1, k.1) in ap (λ (z : ℕ). z ∷ []) f
sleb_same (x ∷ []) (y ∷ []) n (inl h) (inr k) e = absurd (omega (arith, ints, h.0, h.1, k.0, k.1, k.2))
sleb_same (x ∷ []) (y ∷ []) n (inr h) (inl k) e = absurd (omega (arith, ints, k.0, k.1, h.0, h.1, h.2))
sleb_same (x ∷ []) (y ∷ []) n (inr h) (inr k) e = let f : x ≡ y = omega (arith, ints, h.2, k.2) in ap (λ (z : ℕ). z ∷ []) f
sleb_same (x ∷ []) (y ∷ c ∷ b) n h k e = absurd (omega arith)
sleb_same (x ∷ d ∷ a) (y ∷ []) n h k e = absurd (omega arith)
sleb_same (x ∷ d ∷ a) (y ∷ c ∷ b) n h k e =
    let high : h.2 ≡ k.2 = omega (arith, ints, h.0, h.1, h.3, k.0, k.1, k.3) in
    let low : x ≡ y = omega (arith, ints, high, h.3, k.3) in
    let counts : length (d ∷ a) ≡ length (c ∷ b) = omega arith in
    ap (λ (z : ℕ). z ∷ d ∷ a) low ∙ ap (λ (l : List ℕ). y ∷ l) (sleb_same (d ∷ a) (c ∷ b) k.2 (subst (λ (z : ℤ). IsSleb (d ∷ a) z) high h.4) k.4 counts)

pub one_unsigned : (bits n : ℕ) (a b : List ℕ) → shortest.unsigned bits a n → shortest.unsigned bits b n → a ≡ b
one_unsigned bits n a b h k =
    let le : length a ≤ length b = h.0.least b k.0.spells in
    let ge : length b ≤ length a = k.0.least a h.0.spells in
    leb_same a b n h.0.spells k.0.spells (omega arith)

pub one_signed : (bits : ℕ) (n : ℤ) (a b : List ℕ) → shortest.signed bits a n → shortest.signed bits b n → a ≡ b
one_signed bits n a b h k =
    let le : length a ≤ length b = h.0.least b k.0.spells in
    let ge : length b ≤ length a = k.0.least a h.0.spells in
    sleb_same a b n h.0.spells k.0.spells (omega arith)

-- ---- headers

-- one at most
abbrev pub IsOne : (List ℕ → Type 0) → Type 0
IsOne P = (a b : List ℕ) → P a → P b → a ≡ b

then_one : (P Q : List ℕ → Type 0) → IsOne P → IsOne Q → IsOne (Then P Q)
then_one P Q p q a b h k = h.whole ∙ ap (λ (x : List ℕ). x ++ h.back) (p h.front k.front h.first k.first) ∙ ap (λ (x : List ℕ). k.front ++ x) (q h.back k.back h.second k.second) ∙ sym k.whole

is_one : (c : List ℕ) → IsOne (λ b. b ≡ c)
is_one c a b h k = h ∙ sym k

string_one : (text : List ℕ) → IsOne (IsString shortest text)
string_one text = then_one (λ b. shortest.unsigned 32 b (length text)) (λ b. b ≡ text) (one_unsigned 32 (length text)) (is_one text)

each_one : {X : Type 0} (P : X → List ℕ → Type 0) → ((x : X) → IsOne (P x)) → (xs : List X) → IsOne (IsEach P xs)
each_one P p [] = is_one []
each_one P p (x ∷ xs) = then_one (P x) (IsEach P xs) (p x) (each_one P p xs)

list_one : {X : Type 0} (P : X → List ℕ → Type 0) → ((x : X) → IsOne (P x)) → (xs : List X) → IsOne (IsList shortest P xs)
list_one P p xs = then_one (λ b. shortest.unsigned 32 b (length xs)) (IsEach P xs) (one_unsigned 32 (length xs)) (each_one P p xs)

byte_one : (c : ℕ) → IsOne (IsByte c)
byte_one c = is_one (c ∷ [])

module _ {B : Type 0} (P : B → List ℕ → Type 0) (p : (x : B) → IsOne (P x)) where
  field_one : (e : Entry B) → IsOne (IsField shortest P e)
  field_one e = then_one (λ b. shortest.unsigned 32 b e.id) (P e.part) (one_unsigned 32 e.id) (p e.part)

  method_one : (m : Method B) → IsOne (IsMethod shortest P m)
  method_one m = then_one (IsString shortest m.name) (P m.part) (string_one m.name) (p m.part)

  entry_one : (w : Wire B) → IsOne (IsEntry shortest P w)
  entry_one (Simple s) = λ a b h k. absurd h
  entry_one (Opt x) = then_one (IsByte 0x6e) (P x) (byte_one 0x6e) (p x)
  entry_one (Vec x) = then_one (IsByte 0x6d) (P x) (byte_one 0x6d) (p x)
  entry_one (Record es) = then_one (IsByte 0x6c) (IsList shortest (IsField shortest P) es) (byte_one 0x6c) (list_one (IsField shortest P) field_one es)
  entry_one (Variant es) = then_one (IsByte 0x6b) (IsList shortest (IsField shortest P) es) (byte_one 0x6b) (list_one (IsField shortest P) field_one es)
  entry_one (Func ps rs ns) = then_one (IsByte 0x6a) (λ b. Then (IsList shortest P ps) (λ c. Then (IsList shortest P rs) (IsList shortest IsByte ns) c) b) (byte_one 0x6a)
      (then_one (IsList shortest P ps) (λ c. Then (IsList shortest P rs) (IsList shortest IsByte ns) c) (list_one P p ps) (then_one (IsList shortest P rs) (IsList shortest IsByte ns) (list_one P p rs) (list_one IsByte byte_one ns)))
  entry_one (Service ms) = then_one (IsByte 0x69) (IsList shortest (IsMethod shortest P) ms) (byte_one 0x69) (list_one (IsMethod shortest P) method_one ms)

  pub header_one : (table : List (Wire B)) (args : List B) → IsOne (IsHeader shortest P table args)
  header_one table args = then_one (λ b. b ≡ magic) (λ b. Then (IsList shortest (IsEntry shortest P) table) (IsList shortest P args) b) (is_one magic)
      (then_one (IsList shortest (IsEntry shortest P) table) (IsList shortest P args) (list_one (IsEntry shortest P) entry_one table) (list_one P p args))
