-- Calls of the routines that read.
use Rattle.std.proofs.Common.{◌≡◌, ℕ, zero, suc, ◌+◌, ◌-◌, ◌≤◌, ◌^◌, ◌<◌, List, [], ◌∷◌, length, Result, pos, refl, arith}
use Rattle.mo_num.specs.declared.kind.Kind.{Kind}
use Rattle.mo_num.specs.declared.kind.Kind.TheVariants as kind
use Rattle.mo_types.specs.declared.datum.Datum.{Datum}
use Rattle.mo_types.specs.declared.datum.Datum.TheVariants as part
use Rattle.mo_types.specs.declared.wire.Plain.TheVariants as plain
use Rattle.candid_header.specs.declared.fault.Fault.{Fault}
use Rattle.exact_reading.specs.Reading.{made}
use Rattle.mo_types.specs.Wire.{plain_number}
use Rattle.candid_read.specs.Parts.{natural, signed, low_at, plain_at, unsigned_at, signed_at}
use Rattle.wasm_tree.specs.declared.op.LoadKind.{LoadKind}
use Rattle.wasm_tree.specs.declared.op.LoadKind.TheVariants as load
use Rattle.wasm_tree.specs.Exec.{Store, load_size, extended}
use Rattle.low_ir.specs.Tree.{Module}
use Rattle.low_ir.specs.Frames.{words}
use Rattle.low_rules.specs.Rule.{CallEnd, Contracts, Before, begins, ends}
use Rattle.low_rules.proofs.Entering.{routine}
use Rattle.wire_numbers.specs.Readers.{reader, read_kind, read_fixed, read_flag, word_of, bytes_between, MayRead, IsRead}
use Rattle.wire_numbers.specs.Laws.{NumbersAreRead, FlagsAreRead}
use Rattle.wire_numbers.proofs.Bytes.{Stand}
use Rattle.wire_numbers.proofs.Numbers.{Bytes}
use Rattle.wire_numbers.proofs.Words.{power, extends, whole_word, between_stands, stand_bytes}
use Rattle.wire_numbers.proofs.Took.{gives_word, natural_reads, integer_reads, flag_reads}
use Rattle.wire_numbers.proofs.Fixed.{fixed_reads}

abbrev no_calls : {World : Type 0} → Contracts World
no_calls f store args q = ⊥

module _ {World : Type 0} (pages : ℕ) (m : Module) (does : Contracts World) (store : Store World) (at end to : ℕ) (may : MayRead store.memory at end to) (q : CallEnd World → Type 0) (signature : ℕ) where
  abbrev bs : List ℕ
  bs = bytes_between store.memory at end

  there : (length bs ≡ end - at) × Stand store.memory at bs
  there = between_stands store.memory at (end - at) (omega (arith, may.order, may.inside))

  long : at + length bs ≡ end
  long = omega (arith, there.0, may.order)

  all : Bytes bs
  all = stand_bytes store.memory at bs may.bytes there.1

  abbrev Asked : Result (Datum × List ℕ) Fault → Type 0
  Asked r = (e : CallEnd World) → IsRead store end to r e → q e

  fixed : (size : ℕ) (of : LoadKind) (value : ℕ → Datum) → size ≤ 8 → load_size of ≡ size → ((n : ℕ) → n < power size → extended of n ≡ word_of (value n)) → Asked (made value (low_at size) bs)
      → Before pages m does (read_fixed (pos size) of) (ends gives_word q) (begins (reader (read_fixed (pos size) of) signature) store (at ∷ end ∷ to ∷ []))
  fixed size of value few sized words h = fixed_reads pages m does store may.small may.bytes end to may.inside may.place q size of value few sized words at bs long there.1 all h

  pub kind_reads : (k : Kind) → Asked (plain_at (plain_number k) bs) → Before pages m does (read_kind k) (ends gives_word q) (begins (reader (read_kind k) signature) store (at ∷ end ∷ to ∷ []))
  unfolding unsigned_at signed_at
  kind_reads kind.Nat h = natural_reads pages m does store may.small may.bytes end to may.inside may.place q at bs long there.1 all h
  kind_reads kind.Int h = integer_reads pages m does store may.small may.bytes end to may.inside may.place q at bs long there.1 all h
  kind_reads kind.Nat8 h = fixed 1 load.I64From8U natural (omega arith) refl (λ n lt. refl) h
  kind_reads kind.Nat16 h = fixed 2 load.I64From16U natural (omega arith) refl (λ n lt. refl) h
  kind_reads kind.Nat32 h = fixed 4 load.I64From32U natural (omega arith) refl (λ n lt. refl) h
  kind_reads kind.Nat64 h = fixed 8 load.I64 natural (omega arith) refl (λ n lt. refl) h
  kind_reads kind.Int8 h = fixed 1 load.I64From8S (λ n. part.Number (signed 8 n)) (omega arith) refl (λ n lt. extends (2 ^ 7) n (omega arith) (omega arith) lt) h
  kind_reads kind.Int16 h = fixed 2 load.I64From16S (λ n. part.Number (signed 16 n)) (omega arith) refl (λ n lt. extends (2 ^ 15) n (omega arith) (omega arith) lt) h
  kind_reads kind.Int32 h = fixed 4 load.I64From32S (λ n. part.Number (signed 32 n)) (omega arith) refl (λ n lt. extends (2 ^ 31) n (omega arith) (omega arith) lt) h
  kind_reads kind.Int64 h = fixed 8 load.I64 (λ n. part.Number (signed 64 n)) (omega arith) refl (λ n lt. whole_word n lt) h

  pub truth_reads : Asked (plain_at plain.Bool bs) → Before pages m does read_flag (ends gives_word q) (begins (reader read_flag signature) store (at ∷ end ∷ to ∷ []))
  truth_reads h = flag_reads pages m does store may.small may.bytes end to may.inside may.place q at bs long there.1 h

fits : (k : Kind) (signature : ℕ) → words gives_word (reader (read_kind k) signature) ≤ 24
fits kind.Nat signature = omega arith
fits kind.Int signature = omega arith
fits kind.Nat8 signature = omega arith
fits kind.Nat16 signature = omega arith
fits kind.Nat32 signature = omega arith
fits kind.Nat64 signature = omega arith
fits kind.Int8 signature = omega arith
fits kind.Int16 signature = omega arith
fits kind.Int32 signature = omega arith
fits kind.Int64 signature = omega arith

flag_fits : (signature : ℕ) → words gives_word (reader read_flag signature) ≤ 24
flag_fits signature = omega arith

pub numbers_are_read : (World : Type 0) → NumbersAreRead World
numbers_are_read World pages m host f signature k is zero room less fit store at end to may = absurd (omega arith)
numbers_are_read World pages m host f signature k is (suc deep) room less fit store at end to may =
    let most : words gives_word (reader (read_kind k) signature) ≤ 24 = fits k signature in
    routine pages m host deep room f gives_word (reader (read_kind k) signature) no_calls store (at ∷ end ∷ to ∷ []) (IsRead store end to (plain_at (plain_number k) (bytes_between store.memory at end))) is.typed is.there (omega (arith, most, fit)) (λ f store args q d. absurd d)
    (kind_reads pages m no_calls store at end to may (IsRead store end to (plain_at (plain_number k) (bytes_between store.memory at end))) signature k (λ e h. h))

pub flags_are_read : (World : Type 0) → FlagsAreRead World
flags_are_read World pages m host f signature is zero room less fit store at end to may = absurd (omega arith)
flags_are_read World pages m host f signature is (suc deep) room less fit store at end to may =
    let most : words gives_word (reader read_flag signature) ≤ 24 = flag_fits signature in
    routine pages m host deep room f gives_word (reader read_flag signature) no_calls store (at ∷ end ∷ to ∷ []) (IsRead store end to (plain_at plain.Bool (bytes_between store.memory at end))) is.typed is.there (omega (arith, most, fit)) (λ f store args q d. absurd d)
    (truth_reads pages m no_calls store at end to may (IsRead store end to (plain_at plain.Bool (bytes_between store.memory at end))) signature (λ e h. h))
