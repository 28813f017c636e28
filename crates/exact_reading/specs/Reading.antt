-- Reading from left to right, with the first fault that is met: what stands at the front, and the bytes after it. The
-- faults are a parameter.
use Rattle.std.specs.Prelude.{◌≡◌, ℕ, zero, suc, ◌+◌, ◌-◌, ◌*◌, ◌^◌, List, [], ◌∷◌, Bool, ◌&&◌, length, take, drop, Result, Ok, Err, nat_lt, if◌then◌else◌, ℤ, pos, neg_ℤ, ◌+ℤ◌, ◌-ℤ◌, ◌*ℤ◌, int_le}
use Rattle.mo_num.specs.LebRead.{most}
use Rattle.exact_reading.specs.declared.stop.Stop.{Stop}
use Rattle.exact_reading.specs.declared.stop.Stop.TheVariants as stop

infixl 10 ◌>>=◌
abbrev pub ◌>>=◌ : {F A B : Type 0} → Result A F → (A → Result B F) → Result B F
(Ok x) >>= f = f x
(Err e) >>= f = Err e

-- Reading a value of this kind.
abbrev pub Reading : Type 0 → Type 0 → Type 0
Reading F X = List ℕ → Result (X × List ℕ) F

-- What a function returned, seen by view, is what reading gives.
abbrev pub Tells : {F X Y : Type 0} → (X → Y) → Result X F → Result Y F → Type 0
Tells view (Ok x) read = read ≡ Ok (view x)
Tells view (Err e) read = read ≡ Err e

-- The same of a function that takes memory, unless it ran out.
abbrev pub Fails : {F Y : Type 0} → Stop F → Result Y F → Type 0
Fails stop.Memory read = Unit {0}
Fails (stop.Fault f) read = read ≡ Err f

abbrev pub Gives : {F X Y : Type 0} → (X → Y) → Result X (Stop F) → Result Y F → Type 0
Gives view (Ok x) read = read ≡ Ok (view x)
Gives view (Err e) read = Fails e read

-- The value is made from what is read.
abbrev pub made : {F X Y : Type 0} → (X → Y) → Reading F X → Reading F Y
made f p bytes = p bytes >>= λ x. Ok (f x.0, x.1)

-- The one, and then the other.
abbrev pub both : {F X Y : Type 0} → Reading F X → Reading F Y → Reading F (X × Y)
both p q bytes = p bytes >>= λ x. q x.1 >>= λ y. Ok ((x.0, y.0), y.1)

-- A value of which the test holds, or else this fault.
abbrev pub kept : {F X : Type 0} → F → (X → Bool) → Reading F X → Reading F X
kept f test p bytes = p bytes >>= λ x. if test x.0 then Ok x else Err f

-- What its first byte tells.
abbrev pub first : {F Y : Type 0} → F → (ℕ → List ℕ → Result Y F) → List ℕ → Result Y F
first short f [] = Err short
first short f (b ∷ rest) = f b rest

-- So many items, each in the light of those before it.
abbrev pub many : {F S A : Type 0} → (S → Reading F A) → (S → A → S) → ℕ → S → Reading F (List A)
many item after zero s bytes = Ok ([], bytes)
many item after (suc n) s bytes = item s bytes >>= λ x. many item after n (after s x.0) x.1 >>= λ xs. Ok (x.0 ∷ xs.0, xs.1)

-- Numbers in base 128 (WebAssembly Core 1.0, section 5.2.2): at most k bytes, of which the first one below 128 is the
-- last.
abbrev pub digits_at : {F V : Type 0} → F → F → (ℕ → V) → (ℕ → V → V) → ℕ → Reading F V
digits_at short wide last more zero bytes = Err wide
digits_at short wide last more (suc k) [] = Err short
digits_at short wide last more (suc k) (b ∷ bs) =
    if nat_lt b 128 then Ok (last b, bs) else (if nat_lt b 256 then made (more b) (digits_at short wide last more k) bs else Err wide)

abbrev pub last_digit : ℕ → ℤ
last_digit b = if nat_lt b 64 then pos b else pos b -ℤ pos 128

abbrev pub is_between : ℤ → ℤ → ℤ → Bool
is_between least greatest z = int_le least z && int_le z greatest

-- an unsigned number of so many bits
unfoldable pub unsigned_at : {F : Type 0} → F → F → ℕ → Reading F ℕ
unsigned_at short wide bits = kept wide (λ n. nat_lt n (2 ^ bits)) (digits_at short wide (λ b. b) (λ b high. b - 128 + 128 * high) (most bits))

-- a signed number of so many bits
abbrev pub is_signed : ℕ → ℤ → Bool
is_signed bits = is_between (neg_ℤ (pos (2 ^ (bits - 1)))) (pos (2 ^ (bits - 1)) -ℤ pos 1)

unfoldable pub signed_at : {F : Type 0} → F → F → ℕ → Reading F ℤ
signed_at short wide bits = kept wide (is_signed bits) (digits_at short wide last_digit (λ b high. (pos b -ℤ pos 128) +ℤ (pos 128 *ℤ high)) (most bits))

abbrev pub u32_at : {F : Type 0} → F → F → Reading F ℕ
u32_at short wide = unsigned_at short wide 32

-- so many bytes
abbrev pub split_at : {F : Type 0} → F → ℕ → Reading F (List ℕ)
split_at short n bytes = if nat_lt (length bytes) n then Err short else Ok (take n bytes, drop n bytes)

-- bytes behind their number
unfoldable pub string_at : {F : Type 0} → F → F → Reading F (List ℕ)
string_at short wide bytes = u32_at short wide bytes >>= λ n. split_at short n.0 n.1

-- items behind their number
abbrev pub list_at : {F S A : Type 0} → F → F → (S → Reading F A) → (S → A → S) → S → Reading F (List A)
list_at short wide item after s bytes = u32_at short wide bytes >>= λ n. many item after n.0 s n.1
