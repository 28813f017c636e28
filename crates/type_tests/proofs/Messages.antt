-- Kept values, messages and stable memory.
use Rattle.std.proofs.Common.{◌≡◌, ℕ, zero, suc, ◌<◌, ◌≤◌, List, [], ◌∷◌, ◌++◌, length, Some, None, refl, ap, subst, ◌∙◌, arith, pos, inl, inr}
use Rattle.std.proofs.lemmas.Int.{ints}
use Rattle.mo_num.specs.Leb.{IsLeb, IsSleb}
use Rattle.mo_types.specs.declared.datum.Datum.TheVariants as part
use Rattle.mo_types.specs.declared.wire.Plain.TheVariants.{Nat}
use Rattle.mo_types.specs.declared.wire.Wire.{Wire}
use Rattle.mo_types.specs.declared.wire.Ref.TheVariants.{Just, Of}
use Rattle.mo_types.specs.declared.wire.Plain.TheVariants as plain
use Rattle.mo_types.specs.declared.wire.TableRef.TheVariants.{Plainly}
use Rattle.mo_types.specs.Values.{Values, Nil, Value, HaveTypes, IsScalar}
use Rattle.mo_types.specs.Form.{form}
use Rattle.mo_types.specs.Wire.{wire, SameTo}
use Rattle.mo_types.specs.Header.{Done, Skip, New, IsKnown, IsAt, table_head}
use Rattle.mo_types.specs.Spelling.{Then, shortest}
use Rattle.mo_types.specs.Code.{Keep, Reads, StableBytes, Saved, Whole, Inner, saved_head}
use Rattle.type_tests.specs.Examples.{Small, ABlob, ABool, AChar, ANat, ANat32, ANat8, ByteArray, byte_array, byte_blob, message_of_seven, saved_memory, saved_message, seven, small_head, surrogate, surrogate_char, variable_ok, variable_x}

-- ---- keeping

mutual
  unfolding SameTo

  array_blob : (n : ℕ) → SameTo (wire small_head) (wire small_head) n (Of ByteArray) (Of ABlob)
  array_blob zero = tt
  array_blob (suc n) = byte_byte n

  byte_byte : (n : ℕ) → SameTo (wire small_head) (wire small_head) n (Of ANat8) (Just plain.Nat8)
  byte_byte zero = tt
  byte_byte (suc n) = refl

pub array_kept : Keep small_head small_head ByteArray ABlob byte_array byte_blob
array_kept = record {
  types = record { to = array_blob };
  old = (tt, ((omega arith, omega arith), tt, ((omega arith, omega arith), tt, tt)), tt);
  new = (tt, tt, tt);
  same = refl;
}

no_surrogate : IsScalar 55296 → ⊥
no_surrogate (inl h) = absurd (omega arith)
no_surrogate (inr (h, k)) = absurd (omega arith)

abbrev number_in : Values → ℕ
number_in (Value (part.Number (pos n)) inner others) = n
number_in _ = 0

abbrev Kept : Values → Type 0
Kept w = form small_head (AChar ∷ []) w ≡ surrogate

no_char : (w : Values) → HaveTypes small_head (AChar ∷ []) w → Kept w → ⊥
no_char Nil h e = h
no_char (Value (part.Char c) inner others) h e = let n : c ≡ 55296 = ap number_in e in no_surrogate (subst IsScalar n h.0)
no_char (Value part.Null inner others) h e = h.0
no_char (Value (part.Flag b) inner others) h e = h.0
no_char (Value (part.Number n) inner others) h e = h.0
no_char (Value (part.Text t) inner others) h e = h.0
no_char (Value (part.Blob t) inner others) h e = h.0
no_char (Value (part.Principal p) inner others) h e = h.0
no_char (Value (part.Actor p) inner others) h e = h.0
no_char (Value (part.Method p m) inner others) h e = h.0
no_char (Value part.Present inner others) h e = h.0
no_char (Value (part.Many n) inner others) h e = h.0
no_char (Value (part.Record n) inner others) h e = h.0
no_char (Value (part.Tag i) inner others) h e = h.0

pub surrogate_lost : (w : Values) → Keep small_head small_head ANat32 AChar surrogate w → ⊥
surrogate_lost w k = no_char w k.new k.same

-- ---- reading

first_then : {P Q : List ℕ → Type 0} (front back : List ℕ) → P front → Q back → Then P Q (front ++ back)
first_then front back p q = record { front = front; back = back; whole = refl; first = p; second = q }

nat_read : (n : ℕ) → SameTo (table_head []) (wire small_head) n (Plainly Nat) (Of ANat)
unfolding SameTo
nat_read zero = tt
nat_read (suc n) = refl

pub seven_read : Reads small_head (ANat ∷ []) message_of_seven seven
seven_read = record {
  typed = ((omega arith, omega arith), tt, tt);
  table = [];
  args = Plainly Nat ∷ [];
  few = omega arith;
  well_formed = record { sound = tt; within = (tt, tt) };
  same = (record { to = nat_read }, tt);
  spelled =
      first_then (0x44 ∷ 0x49 ∷ 0x44 ∷ 0x4c ∷ 0x00 ∷ 0x01 ∷ 0x7d ∷ []) (0x87 ∷ 0x00 ∷ [])
      (first_then (0x44 ∷ 0x49 ∷ 0x44 ∷ 0x4c ∷ []) (0x00 ∷ 0x01 ∷ 0x7d ∷ []) refl
      (first_then (0x00 ∷ []) (0x01 ∷ 0x7d ∷ [])
      (first_then (0x00 ∷ []) [] ((omega arith, refl), omega arith, omega arith) refl)
      (first_then (0x01 ∷ []) (0x7d ∷ []) ((omega arith, refl), omega arith, omega arith) (first_then (0x7d ∷ []) [] refl refl))))
      (first_then (0x87 ∷ 0x00 ∷ []) []
      (omega arith, ((omega arith, omega arith, 0, refl, (omega arith, refl)), omega arith, omega arith))
      (first_then [] [] refl refl));
}

pub surrogate_unread : (bytes : List ℕ) → Reads small_head (AChar ∷ []) bytes surrogate_char → ⊥
surrogate_unread bytes r = no_surrogate r.typed.0

abbrev first_byte : List ℕ → ℕ
first_byte [] = 0
first_byte (b ∷ bytes) = b

pub begins_with_magic : (b : ℕ) (bytes : List ℕ) (v : Values) → Reads small_head (ANat ∷ []) (b ∷ bytes) v → b ≡ 0x44
begins_with_magic b bytes v r =
    let back : List ℕ = r.spelled.back in
    let rest : List ℕ = r.spelled.first.back in
    ap first_byte r.spelled.whole ∙ ap (λ l. first_byte (l ++ back)) r.spelled.first.whole ∙ ap (λ l. first_byte ((l ++ rest) ++ back)) r.spelled.first.first

-- ---- stable memory

-- No number is spelled by no bytes.
leb_some : (n : ℕ) (other : List ℕ) → IsLeb other n → 1 ≤ length other
leb_some n [] none = absurd none
leb_some n (b ∷ bs) is = omega arith

unsigned_byte : (n : ℕ) → n < 128 → shortest.unsigned 32 (n ∷ []) n
unsigned_byte n small = (record { spells = (small, refl); least = leb_some n }, omega arith)

number_byte : (n : ℕ) → n < 128 → shortest.unsigned 70 (n ∷ []) n
number_byte n small = (record { spells = (small, refl); least = leb_some n }, omega arith)

sleb_some : (n : ℕ) (other : List ℕ) → IsSleb other (pos n) → 1 ≤ length other
sleb_some n [] none = absurd none
sleb_some n (b ∷ bs) is = omega arith

reference_byte : (n : ℕ) → n < 64 → shortest.signed 33 (n ∷ []) (pos n)
reference_byte n small = (record { spells = inl (small, refl); least = sleb_some n }, (omega (arith, ints), omega (arith, ints)))

ok_least : (other : List ℕ) → IsLeb other 24860 → 3 ≤ length other
ok_least [] none = absurd none
ok_least (b ∷ []) (small, is) = absurd (omega arith)
ok_least (b ∷ c ∷ []) (more, small, high, is, (last, top)) = absurd (omega arith)
ok_least (b ∷ c ∷ d ∷ bs) is = omega arith

ok_bytes : shortest.unsigned 32 (0x9c ∷ 0xc2 ∷ 0x01 ∷ []) 24860
ok_bytes = (
  record { spells = (omega arith, omega arith, 194, refl, (omega arith, omega arith, 1, refl, (omega arith, refl))); least = ok_least },
  omega arith,
)

abbrev saved : Saved Small → Wire (Saved Small)
saved = saved_head small_head (variable_ok ∷ variable_x ∷ [])

mutual
  unfolding SameTo

  whole_same : (n : ℕ) → SameTo saved saved n Whole Whole
  whole_same zero = tt
  whole_same (suc n) = (refl, number_same n, (refl, flag_same n, tt))

  number_same : (n : ℕ) → SameTo saved saved n (Inner (Of ANat)) (Inner (Of ANat))
  number_same zero = tt
  number_same (suc n) = refl

  flag_same : (n : ℕ) → SameTo saved saved n (Inner (Of ABool)) (Inner (Of ABool))
  flag_same zero = tt
  flag_same (suc n) = refl

none_saved : (t : Saved Small) → IsKnown saved [] t → ⊥
none_saved t k = let f : None ≡ Some k.1.other = k.1.there in cc

whole_at : IsAt saved (Whole ∷ []) Whole 0
whole_at = record { other = Whole; there = refl; same = record { to = whole_same } }

pub variables_saved : StableBytes small_head (variable_ok ∷ variable_x ∷ []) saved_memory
variables_saved = record {
  message = saved_message;
  free = 9 ∷ 9 ∷ [];
  whole = refl;
  typed = ((tt, tt, tt), (((omega arith, omega arith), tt, tt), tt));
  code =
      first_then (0x44 ∷ 0x49 ∷ 0x44 ∷ 0x4c ∷ 0x01 ∷ 0x6c ∷ 0x02 ∷ 120 ∷ 0x7d ∷ 0x9c ∷ 0xc2 ∷ 0x01 ∷ 0x7e ∷ 0x01 ∷ 0x00 ∷ []) (42 ∷ 1 ∷ [])
      (record {
        order = Whole ∷ [];
        visits = New Whole (λ h. h) (none_saved Whole) (Skip (Inner (Of ANat)) tt (Skip (Inner (Of ABool)) tt Done));
        header =
            first_then (0x44 ∷ 0x49 ∷ 0x44 ∷ 0x4c ∷ []) (0x01 ∷ 0x6c ∷ 0x02 ∷ 120 ∷ 0x7d ∷ 0x9c ∷ 0xc2 ∷ 0x01 ∷ 0x7e ∷ 0x01 ∷ 0x00 ∷ []) refl
            (first_then (0x01 ∷ 0x6c ∷ 0x02 ∷ 120 ∷ 0x7d ∷ 0x9c ∷ 0xc2 ∷ 0x01 ∷ 0x7e ∷ []) (0x01 ∷ 0x00 ∷ [])
            (first_then (0x01 ∷ []) (0x6c ∷ 0x02 ∷ 120 ∷ 0x7d ∷ 0x9c ∷ 0xc2 ∷ 0x01 ∷ 0x7e ∷ []) (unsigned_byte 1 (omega arith))
            (first_then (0x6c ∷ 0x02 ∷ 120 ∷ 0x7d ∷ 0x9c ∷ 0xc2 ∷ 0x01 ∷ 0x7e ∷ []) []
            (first_then (0x6c ∷ []) (0x02 ∷ 120 ∷ 0x7d ∷ 0x9c ∷ 0xc2 ∷ 0x01 ∷ 0x7e ∷ []) refl
            (first_then (0x02 ∷ []) (120 ∷ 0x7d ∷ 0x9c ∷ 0xc2 ∷ 0x01 ∷ 0x7e ∷ []) (unsigned_byte 2 (omega arith))
            (first_then (120 ∷ 0x7d ∷ []) (0x9c ∷ 0xc2 ∷ 0x01 ∷ 0x7e ∷ []) (first_then (120 ∷ []) (0x7d ∷ []) (unsigned_byte 120 (omega arith)) refl)
            (first_then (0x9c ∷ 0xc2 ∷ 0x01 ∷ 0x7e ∷ []) [] (first_then (0x9c ∷ 0xc2 ∷ 0x01 ∷ []) (0x7e ∷ []) ok_bytes refl) refl))))
            refl))
            (first_then (0x01 ∷ []) (0x00 ∷ []) (unsigned_byte 1 (omega arith))
            (first_then (0x00 ∷ []) [] (0, whole_at, reference_byte 0 (omega arith)) refl)));
      })
      (first_then [] (42 ∷ 1 ∷ []) (refl, refl)
      (first_then (42 ∷ 1 ∷ []) []
      (first_then (42 ∷ []) (1 ∷ []) (omega arith, number_byte 42 (omega arith))
      (first_then [] (1 ∷ []) refl
      (first_then (1 ∷ []) [] refl
      (first_then [] [] refl refl))))
      refl));
}
