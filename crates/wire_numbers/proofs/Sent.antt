-- Calls of the routines that write.
use Rattle.std.proofs.Common.{◌≡◌, ℕ, zero, suc, ◌+◌, ◌-◌, ◌*◌, ◌/◌, ◌%◌, ◌^◌, ◌≤◌, List, [], ◌∷◌, Bool, true, false, nat_lt, Option, Some, ℤ, pos, negsuc, ◌≤ℤ◌, refl, sym, ap, ◌∙◌, subst, arith}
use Rattle.std.proofs.lemmas.Int.{ints}
use Rattle.std.proofs.lemmas.Bool.{ltb-true}
use Rattle.std.proofs.Math.Nat.{mul_assoc}
use Rattle.mo_num.specs.declared.kind.Kind.{Kind}
use Rattle.mo_num.specs.declared.kind.Kind.TheVariants as kind
use Rattle.mo_num.specs.Kinds.{least, greatest}
use Rattle.exact_reading.specs.Reading.{is_between, is_signed}
use Rattle.exact_reading.proofs.Numbers.{true_between}
use Rattle.mo_types.specs.declared.datum.Datum.TheVariants as part
use Rattle.mo_types.specs.declared.wire.Plain.TheVariants as plain
use Rattle.mo_types.specs.Spelling.{bit, low_first, as_bytes}
use Rattle.mo_types.specs.Wire.{plain_number}
use Rattle.mo_coding.specs.Numbers.{leb, sleb}
use Rattle.mo_coding.specs.Pieces.{given}
use Rattle.mo_coding.specs.Values.{plain_part}
use Rattle.wasm_tree.specs.declared.op.StoreKind.{StoreKind}
use Rattle.wasm_tree.specs.declared.op.StoreKind.TheVariants as width
use Rattle.wasm_tree.specs.Numeric.{flag}
use Rattle.wasm_tree.specs.Exec.{Store, bits64, bytes_of, store_size}
use Rattle.low_ir.specs.Tree.{Module}
use Rattle.low_ir.specs.Frames.{words}
use Rattle.low_rules.specs.Rule.{CallEnd, Contracts, Before, begins, ends}
use Rattle.low_rules.proofs.Entering.{routine}
use Rattle.wire_numbers.specs.Writers.{writer, write_kind, write_fixed, write_flag, MayWrite, IsWritten}
use Rattle.wire_numbers.specs.Laws.{NumbersAreWritten, FlagsAreWritten}
use Rattle.wire_numbers.proofs.Words.{power}
use Rattle.wire_numbers.proofs.Wrote.{place_of, natural_writes, integer_writes, fixed_writes}

abbrev no_calls : {World : Type 0} → Contracts World
no_calls f store args q = ⊥

given_some : (t : Bool) (piece : Option (List ℕ)) (text : List ℕ) → given t piece ≡ Some text → (t ≡ true) × (piece ≡ Some text)
given_some true piece text e = (refl, e)
given_some false piece text e = cc

inside_some : (a b : List ℕ) → Some a ≡ Some b → a ≡ b
inside_some a b e = cc

low_same : (w n : ℕ) → bytes_of w n ≡ low_first w n
low_same zero n = refl
low_same (suc w) n = ap (λ l. n % 256 ∷ l) (low_same w (n / 256))

-- what stands above so many bytes is cut off
cut : (w y t : ℕ) → bytes_of w (y + power w * t) ≡ bytes_of w y
cut zero y t = refl
cut (suc w) y t =
    let u : ℕ = power w * t in
    let e : 256 * power w * t ≡ 256 * u = mul_assoc 256 (power w) t in
    let low : (y + 256 * power w * t) % 256 ≡ y % 256 = ap (λ k. (y + k) % 256) e ∙ omega arith in
    let high : (y + 256 * power w * t) / 256 ≡ y / 256 + u = ap (λ k. (y + k) / 256) e ∙ omega arith in
    (λ i. low i ∷ bytes_of w (high i)) ∙ ap (λ l. y % 256 ∷ l) (cut w (y / 256) t)

below_zero : (w n t : ℕ) → 2 ^ 64 - 1 - n ≡ (2 ^ (8 * w) - (n + 1)) + power w * t → bytes_of w (2 ^ 64 - 1 - n) ≡ low_first w (2 ^ (8 * w) - (n + 1))
below_zero w n t e = ap (bytes_of w) e ∙ cut w (2 ^ (8 * w) - (n + 1)) t ∙ low_same w (2 ^ (8 * w) - (n + 1))

spelled_1 : (z : ℤ) → negsuc (2 ^ 7 - 1) ≤ℤ z → bytes_of 1 (bits64 z) ≡ as_bytes 1 z
spelled_1 (pos n) least = low_same 1 n
spelled_1 (negsuc n) least = below_zero 1 n (2 ^ 56 - 1) (omega (arith, ints, least))

spelled_2 : (z : ℤ) → negsuc (2 ^ 15 - 1) ≤ℤ z → bytes_of 2 (bits64 z) ≡ as_bytes 2 z
spelled_2 (pos n) least = low_same 2 n
spelled_2 (negsuc n) least = below_zero 2 n (2 ^ 48 - 1) (omega (arith, ints, least))

spelled_4 : (z : ℤ) → negsuc (2 ^ 31 - 1) ≤ℤ z → bytes_of 4 (bits64 z) ≡ as_bytes 4 z
spelled_4 (pos n) least = low_same 4 n
spelled_4 (negsuc n) least = below_zero 4 n (2 ^ 32 - 1) (omega (arith, ints, least))

spelled_8 : (z : ℤ) → negsuc (2 ^ 63 - 1) ≤ℤ z → bytes_of 8 (bits64 z) ≡ as_bytes 8 z
spelled_8 (pos n) least = low_same 8 n
spelled_8 (negsuc n) least = below_zero 8 n 0 (omega (arith, ints, least))

module _ {World : Type 0} (pages : ℕ) (m : Module) (does : Contracts World) (store : Store World) (at : ℕ) (may : MayWrite store.memory at) (q : CallEnd World → Type 0) (signature : ℕ) where
  abbrev Asked : List ℕ → Type 0
  Asked text = (e : CallEnd World) → IsWritten store at text e → q e

  fixed : (k : Kind) (size : ℕ) (to : StoreKind) (z : ℤ) (text : List ℕ) → size ≤ 8 → store_size to ≡ size → (least k ≤ℤ z → bytes_of size (bits64 z) ≡ as_bytes size z) → given (is_between (least k) (greatest k) z) (Some (as_bytes size z)) ≡ Some text → Asked text
      → Before pages m does (write_fixed (pos size) to) (ends place_of q) (begins (writer (write_fixed (pos size) to) signature) store (at ∷ bits64 z ∷ []))
  fixed k size to z text few sized same e h =
      let g = given_some (is_between (least k) (greatest k) z) (Some (as_bytes size z)) text e in
      let range = true_between (least k) (greatest k) z g.0 in
      fixed_writes pages m does store at may q size to (bits64 z) text few sized (same range.0 ∙ inside_some (as_bytes size z) text g.1) h

  pub kind_writes : (k : Kind) (z : ℤ) (text : List ℕ) → plain_part (plain_number k) (part.Number z) ≡ Some text → Asked text → Before pages m does (write_kind k) (ends place_of q) (begins (writer (write_kind k) signature) store (at ∷ bits64 z ∷ []))
  kind_writes kind.Nat (pos n) text e h =
      let g = given_some (nat_lt n (2 ^ 63)) (given (nat_lt n (2 ^ 70)) (Some (leb n))) text e in
      let g2 = given_some (nat_lt n (2 ^ 70)) (Some (leb n)) text g.1 in
      natural_writes pages m does store at may q n (ltb-true n (2 ^ 63) g.0) (subst Asked (sym (inside_some (leb n) text g2.1)) h)
  kind_writes kind.Nat (negsuc n) text e h = cc
  kind_writes kind.Int z text e h =
      let g = given_some (is_between (least kind.Int) (greatest kind.Int) z) (given (is_signed 70 z) (Some (sleb z))) text e in
      let g2 = given_some (is_signed 70 z) (Some (sleb z)) text g.1 in
      let range = true_between (least kind.Int) (greatest kind.Int) z g.0 in
      integer_writes pages m does store at may q z range.0 range.1 (subst Asked (sym (inside_some (sleb z) text g2.1)) h)
  kind_writes kind.Nat8 z text e h = fixed kind.Nat8 1 width.I64To8 z text (omega arith) refl (λ l. spelled_1 z (omega (arith, ints, l))) e h
  kind_writes kind.Nat16 z text e h = fixed kind.Nat16 2 width.I64To16 z text (omega arith) refl (λ l. spelled_2 z (omega (arith, ints, l))) e h
  kind_writes kind.Nat32 z text e h = fixed kind.Nat32 4 width.I64To32 z text (omega arith) refl (λ l. spelled_4 z (omega (arith, ints, l))) e h
  kind_writes kind.Nat64 z text e h = fixed kind.Nat64 8 width.I64 z text (omega arith) refl (λ l. spelled_8 z (omega (arith, ints, l))) e h
  kind_writes kind.Int8 z text e h = fixed kind.Int8 1 width.I64To8 z text (omega arith) refl (λ l. spelled_1 z l) e h
  kind_writes kind.Int16 z text e h = fixed kind.Int16 2 width.I64To16 z text (omega arith) refl (λ l. spelled_2 z l) e h
  kind_writes kind.Int32 z text e h = fixed kind.Int32 4 width.I64To32 z text (omega arith) refl (λ l. spelled_4 z l) e h
  kind_writes kind.Int64 z text e h = fixed kind.Int64 8 width.I64 z text (omega arith) refl (λ l. spelled_8 z l) e h

  pub flag_writes : (b : Bool) (text : List ℕ) → plain_part plain.Bool (part.Flag b) ≡ Some text → Asked text → Before pages m does write_flag (ends place_of q) (begins (writer write_flag signature) store (at ∷ flag b ∷ []))
  flag_writes b text e h = fixed_writes pages m does store at may q 1 width.I64To8 (flag b) text (omega arith) refl (one b ∙ inside_some (bit b ∷ []) text e) h
    where
      one : (b : Bool) → bytes_of 1 (flag b) ≡ bit b ∷ []
      one true = refl
      one false = refl

fits : (k : Kind) (signature : ℕ) → words place_of (writer (write_kind k) signature) ≤ 20
fits kind.Nat signature = omega arith
fits kind.Int signature = omega arith
fits kind.Nat8 signature = omega arith
fits kind.Nat16 signature = omega arith
fits kind.Nat32 signature = omega arith
fits kind.Nat64 signature = omega arith
fits kind.Int8 signature = omega arith
fits kind.Int16 signature = omega arith
fits kind.Int32 signature = omega arith
fits kind.Int64 signature = omega arith

flag_fits : (signature : ℕ) → words place_of (writer write_flag signature) ≤ 20
flag_fits signature = omega arith

pub numbers_are_written : (World : Type 0) → NumbersAreWritten World
numbers_are_written World pages m host f signature k is zero room less fit store at z text e may = absurd (omega arith)
numbers_are_written World pages m host f signature k is (suc deep) room less fit store at z text e may =
    let most : words place_of (writer (write_kind k) signature) ≤ 20 = fits k signature in
    routine pages m host deep room f place_of (writer (write_kind k) signature) no_calls store (at ∷ bits64 z ∷ []) (IsWritten store at text) is.typed is.there (omega (arith, most, fit)) (λ f store args q d. absurd d)
    (kind_writes pages m no_calls store at may (IsWritten store at text) signature k z text e (λ e h. h))

pub flags_are_written : (World : Type 0) → FlagsAreWritten World
flags_are_written World pages m host f signature is zero room less fit store at b text e may = absurd (omega arith)
flags_are_written World pages m host f signature is (suc deep) room less fit store at b text e may =
    let most : words place_of (writer write_flag signature) ≤ 20 = flag_fits signature in
    routine pages m host deep room f place_of (writer write_flag signature) no_calls store (at ∷ flag b ∷ []) (IsWritten store at text) is.typed is.there (omega (arith, most, fit)) (λ f store args q d. absurd d)
    (flag_writes pages m no_calls store at may (IsWritten store at text) signature b text e (λ e h. h))
