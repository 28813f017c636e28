-- Bytes that are added one after another.
use Rattle.std.proofs.Common.{◌≡◌, ℕ, zero, suc, ◌+◌, ◌<◌, ◌≤◌, ◌^◌, List, [], ◌∷◌, ◌++◌, length, take, map, get_or, Result, Ok, Err, OnOk, ℤ, pos, refl, sym, ap, ◌∙◌, subst, arith, append_assoc}
use Rattle.std.proofs.lemmas.List.{append-nil, take_more, map_push}
use Rattle.std.proofs.lemmas.Int.{ints}
use Rattle.mo_num.specs.Leb.{AppendsLeb, AppendsSleb, IsShortestSleb}
use Rattle.mo_types.specs.Spelling.{Then, shortest, IsString}
use Rattle.mo_types.specs.Header.{IsByte, IsEach, IsList}
use Rattle.candid_write.specs.Appends.{Appends}

pub ok_then : {A E P Q : Type 0} (r : Result A E) → OnOk r P → (P → Q) → OnOk r Q
ok_then (Ok a) h f = f h
ok_then (Err e) h f = tt

pub then_is : {P Q : List ℕ → Type 0} {old mid new : List ℕ} → Appends P old mid → Appends Q mid new → Appends (λ b. Then P Q b) old new
then_is {P} {Q} {old} {mid} {new} a b = record {
  bytes = a.bytes ++ b.bytes;
  whole = b.whole ∙ ap (λ l. l ++ b.bytes) a.whole ∙ append_assoc old a.bytes b.bytes;
  fits = record { front = a.bytes; back = b.bytes; whole = refl; first = a.fits; second = b.fits };
}

pub weaker : {P Q : List ℕ → Type 0} {old new : List ℕ} → ((b : List ℕ) → P b → Q b) → Appends P old new → Appends Q old new
weaker f a = record { bytes = a.bytes; whole = a.whole; fits = f a.bytes a.fits }

pub byte_is : (c : ℕ) (old new : List ℕ) → new ≡ old ++ c ∷ [] → Appends (IsByte c) old new
byte_is c old new e = record { bytes = c ∷ []; whole = e; fits = refl }

pub text_is : (text old new : List ℕ) → new ≡ old ++ text → Appends (λ b. b ≡ text) old new
text_is text old new e = record { bytes = text; whole = e; fits = refl }

pub nothing_is : (old : List ℕ) → Appends (λ b. b ≡ []) old old
nothing_is old = record { bytes = []; whole = sym (append-nil old); fits = refl }

pub count_is : (n : ℕ) (old new : List ℕ) → n < 2 ^ 32 → AppendsLeb old new n → Appends (λ b. shortest.unsigned 32 b n) old new
count_is n old new l a = record { bytes = a.0; whole = a.1; fits = (a.2, l) }

pub place_is : (n : ℕ) (z : ℤ) (old new : List ℕ) → n < 2 ^ 32 → AppendsSleb old new z → z ≡ pos n → Appends (λ b. shortest.signed 33 b (pos n)) old new
place_is n z old new l a e = record { bytes = a.0; whole = a.1; fits = (subst (λ y. IsShortestSleb a.0 y) e a.2, (omega (arith, ints), omega (arith, ints))) }

each_byte : (bs : List ℕ) → IsEach IsByte bs bs
each_byte [] = refl
each_byte (b ∷ bs) = record { front = b ∷ []; back = bs; whole = refl; first = refl; second = each_byte bs }

pub bytes_each : (bs old new : List ℕ) → Appends (λ b. IsString shortest bs b) old new → Appends (λ b. IsList shortest IsByte bs b) old new
bytes_each bs old new a = weaker (λ b h. record { front = h.front; back = h.back; whole = h.whole; first = h.first; second = subst (IsEach IsByte bs) (sym h.second) (each_byte bs) }) a

module _ {X : Type 0} (Item : X → List ℕ → Type 0) where
  pub each_none : (old : List ℕ) → Appends (IsEach Item []) old old
  each_none old = nothing_is old

  each_push : (xs : List X) (x : X) (b c : List ℕ) → IsEach Item xs b → Item x c → IsEach Item (xs ++ x ∷ []) (b ++ c)
  each_push [] x b c h i = record { front = c; back = []; whole = ap (λ l. l ++ c) h ∙ sym (append-nil c); first = i; second = refl }
  each_push (y ∷ ys) x b c h i = record { front = h.front; back = h.back ++ c; whole = ap (λ l. l ++ c) h.whole ∙ append_assoc h.front h.back c; first = h.first; second = each_push ys x h.back c h.second i }

  pub each_push_is : (xs : List X) (x : X) (old mid new : List ℕ) → Appends (IsEach Item xs) old mid → Appends (Item x) mid new → Appends (IsEach Item (xs ++ x ∷ [])) old new
  each_push_is xs x old mid new a b = record {
    bytes = a.bytes ++ b.bytes;
    whole = b.whole ∙ ap (λ l. l ++ b.bytes) a.whole ∙ append_assoc old a.bytes b.bytes;
    fits = each_push xs x a.bytes b.bytes a.fits b.fits;
  }

  pub each_more : (xs : List X) (i : ℕ) (d : X) (old mid new : List ℕ) → i < length xs → Appends (IsEach Item (take i xs)) old mid → Appends (Item (get_or xs i d)) mid new → Appends (IsEach Item (take (i + 1) xs)) old new
  each_more xs i d old mid new l a b = subst (λ ys. Appends (IsEach Item ys) old new) (sym (take_more xs i d l)) (each_push_is (take i xs) (get_or xs i d) old mid new a b)

  take_whole : (xs : List X) (n : ℕ) → length xs ≤ n → take n xs ≡ xs
  take_whole [] zero h = refl
  take_whole [] (suc n) h = refl
  take_whole (x ∷ xs) zero h = absurd (omega arith)
  take_whole (x ∷ xs) (suc n) h = ap (λ l. x ∷ l) (take_whole xs n (omega arith))

  pub each_all : (xs : List X) (n : ℕ) (old new : List ℕ) → Appends (IsEach Item (take n xs)) old new → length xs ≤ n → Appends (IsEach Item xs) old new
  each_all xs n old new a l = subst (λ ys. Appends (IsEach Item ys) old new) (take_whole xs n l) a

pub mapped_more : {X Y : Type 0} (f : X → Y) (Item : Y → List ℕ → Type 0) (xs : List X) (i : ℕ) (d : X) (old mid new : List ℕ) → i < length xs → Appends (IsEach Item (map f (take i xs))) old mid → Appends (Item (f (get_or xs i d))) mid new →
    Appends (IsEach Item (map f (take (i + 1) xs))) old new
mapped_more f Item xs i d old mid new l a b =
    subst (λ ys. Appends (IsEach Item ys) old new) (sym (ap (map f) (take_more xs i d l) ∙ map_push f (take i xs) (get_or xs i d))) (each_push_is Item (map f (take i xs)) (f (get_or xs i d)) old mid new a b)
