-- Messages that are written out.
use Rattle.std.proofs.Common.{◌≡◌, ℕ, zero, suc, ◌<◌, ◌≤◌, List, [], ◌∷◌, ◌++◌, length, Some, None, refl, arith, pos, inl}
use Rattle.std.proofs.lemmas.Int.{ints}
use Rattle.mo_num.specs.Leb.{IsLeb, IsSleb}
use Rattle.mo_types.specs.declared.wire.Wire.{Wire}
use Rattle.mo_types.specs.declared.wire.Ref.TheVariants.{Of}
use Rattle.mo_types.specs.Wire.{wire, SameTo}
use Rattle.mo_types.specs.Header.{Done, Skip, New, IsKnown, IsAt}
use Rattle.mo_types.specs.Spelling.{Then, shortest}
use Rattle.mo_types.specs.Code.{Code, Keep, StableBytes, Saved, Whole, Inner, saved_head}
use Rattle.mo_types.specs.Examples.{list_head, list_of_one, message_of_a_list, letter_head, letter_a, ninety_seven, number_head, variable_n, stable_memory}
use Rattle.mo_types.proofs.Candid.{head, option_same, tuple_same, list_visited}

-- No number is spelled by no bytes.
leb_some : (n : ℕ) (other : List ℕ) → IsLeb other n → 1 ≤ length other
leb_some n [] none = absurd none
leb_some n (b ∷ bs) is = omega arith

unsigned_byte : (n : ℕ) → n < 128 → shortest.unsigned 32 (n ∷ []) n
unsigned_byte n small = (record { spells = (small, refl); least = leb_some n }, omega arith)

number_byte : (n : ℕ) → n < 128 → shortest.unsigned 70 (n ∷ []) n
number_byte n small = (record { spells = (small, refl); least = leb_some n }, omega arith)

sleb_some : (n : ℕ) (other : List ℕ) → IsSleb other (pos n) → 1 ≤ length other
sleb_some n [] none = absurd none
sleb_some n (b ∷ bs) is = omega arith

reference_byte : (n : ℕ) → n < 64 → shortest.signed 33 (n ∷ []) (pos n)
reference_byte n small = (record { spells = inl (small, refl); least = sleb_some n }, (omega (arith, ints), omega (arith, ints)))

first_then : {P Q : List ℕ → Type 0} (front back : List ℕ) → P front → Q back → Then P Q (front ++ back)
first_then front back p q = record { front = front; back = back; whole = refl; first = p; second = q }

option_at : IsAt head (Of 0 ∷ Of 1 ∷ []) (Of 0) 0
option_at = record { other = Of 0; there = refl; same = record { to = option_same } }

tuple_at : IsAt head (Of 0 ∷ Of 1 ∷ []) (Of 1) 1
tuple_at = record { other = Of 1; there = refl; same = record { to = tuple_same } }

pub list_written : Code list_head (0 ∷ []) list_of_one message_of_a_list
list_written = first_then (0x44 ∷ 0x49 ∷ 0x44 ∷ 0x4c ∷ 0x02 ∷ 0x6e ∷ 0x01 ∷ 0x6c ∷ 0x02 ∷ 0x00 ∷ 0x7d ∷ 0x01 ∷ 0x00 ∷ 0x01 ∷ 0x00 ∷ []) (0x01 ∷ 0x01 ∷ 0x00 ∷ [])
    (record {
      order = Of 0 ∷ Of 1 ∷ [];
      visits = list_visited;
      header =
          first_then (0x44 ∷ 0x49 ∷ 0x44 ∷ 0x4c ∷ []) (0x02 ∷ 0x6e ∷ 0x01 ∷ 0x6c ∷ 0x02 ∷ 0x00 ∷ 0x7d ∷ 0x01 ∷ 0x00 ∷ 0x01 ∷ 0x00 ∷ []) refl
          (first_then (0x02 ∷ 0x6e ∷ 0x01 ∷ 0x6c ∷ 0x02 ∷ 0x00 ∷ 0x7d ∷ 0x01 ∷ 0x00 ∷ []) (0x01 ∷ 0x00 ∷ [])
          (first_then (0x02 ∷ []) (0x6e ∷ 0x01 ∷ 0x6c ∷ 0x02 ∷ 0x00 ∷ 0x7d ∷ 0x01 ∷ 0x00 ∷ []) (unsigned_byte 2 (omega arith))
          (first_then (0x6e ∷ 0x01 ∷ []) (0x6c ∷ 0x02 ∷ 0x00 ∷ 0x7d ∷ 0x01 ∷ 0x00 ∷ [])
          (first_then (0x6e ∷ []) (0x01 ∷ []) refl (1, tuple_at, reference_byte 1 (omega arith)))
          (first_then (0x6c ∷ 0x02 ∷ 0x00 ∷ 0x7d ∷ 0x01 ∷ 0x00 ∷ []) []
          (first_then (0x6c ∷ []) (0x02 ∷ 0x00 ∷ 0x7d ∷ 0x01 ∷ 0x00 ∷ []) refl
          (first_then (0x02 ∷ []) (0x00 ∷ 0x7d ∷ 0x01 ∷ 0x00 ∷ []) (unsigned_byte 2 (omega arith))
          (first_then (0x00 ∷ 0x7d ∷ []) (0x01 ∷ 0x00 ∷ [])
          (first_then (0x00 ∷ []) (0x7d ∷ []) (unsigned_byte 0 (omega arith)) refl)
          (first_then (0x01 ∷ 0x00 ∷ []) []
          (first_then (0x01 ∷ []) (0x00 ∷ []) (unsigned_byte 1 (omega arith)) (0, option_at, reference_byte 0 (omega arith)))
          refl))))
          refl)))
          (first_then (0x01 ∷ []) (0x00 ∷ []) (unsigned_byte 1 (omega arith))
          (first_then (0x00 ∷ []) [] (0, option_at, reference_byte 0 (omega arith)) refl)));
    })
    (first_then (0x01 ∷ []) (0x01 ∷ 0x00 ∷ []) refl
    (first_then (0x01 ∷ 0x00 ∷ []) []
    (first_then [] (0x01 ∷ 0x00 ∷ []) (refl, refl)
    (first_then (0x01 ∷ 0x00 ∷ []) []
    (first_then (0x01 ∷ []) (0x00 ∷ []) (omega arith, number_byte 1 (omega arith))
    (first_then [] (0x00 ∷ []) refl
    (first_then (0x00 ∷ []) [] refl
    (first_then [] [] refl refl))))
    refl))
    refl))

-- ---- keeping

letter_same : (n : ℕ) → SameTo (wire letter_head) (wire number_head) n (Of 0) (Of 0)
unfolding SameTo
letter_same zero = tt
letter_same (suc n) = refl

pub letter_kept : Keep letter_head number_head 0 0 letter_a ninety_seven
letter_kept = record {
  types = record { to = letter_same };
  old = (inl (omega arith), tt, tt);
  new = ((omega arith, omega arith), tt, tt);
  same = refl;
}

-- ---- stable memory

abbrev saved : Saved ℕ → Wire (Saved ℕ)
saved = saved_head list_head (variable_n ∷ [])

mutual
  unfolding SameTo

  whole_same : (n : ℕ) → SameTo saved saved n Whole Whole
  whole_same zero = tt
  whole_same (suc n) = (refl, inner_same n, tt)

  inner_same : (n : ℕ) → SameTo saved saved n (Inner (Of 2)) (Inner (Of 2))
  inner_same zero = tt
  inner_same (suc n) = refl

none_saved : (t : Saved ℕ) → IsKnown saved [] t → ⊥
none_saved t k = let f : None ≡ Some k.1.other = k.1.there in cc

whole_at : IsAt saved (Whole ∷ []) Whole 0
whole_at = record { other = Whole; there = refl; same = record { to = whole_same } }

abbrev stable_message : List ℕ
stable_message = 0x44 ∷ 0x49 ∷ 0x44 ∷ 0x4c ∷ 0x01 ∷ 0x6c ∷ 0x01 ∷ 110 ∷ 0x7d ∷ 0x01 ∷ 0x00 ∷ 42 ∷ []

pub variable_saved : StableBytes list_head (variable_n ∷ []) stable_memory
variable_saved = record {
  message = stable_message;
  free = [];
  whole = refl;
  typed = (((omega arith, omega arith), tt, tt), tt);
  code =
      first_then (0x44 ∷ 0x49 ∷ 0x44 ∷ 0x4c ∷ 0x01 ∷ 0x6c ∷ 0x01 ∷ 110 ∷ 0x7d ∷ 0x01 ∷ 0x00 ∷ []) (42 ∷ [])
      (record {
        order = Whole ∷ [];
        visits = New Whole (λ h. h) (none_saved Whole) (Skip (Inner (Of 2)) tt Done);
        header =
            first_then (0x44 ∷ 0x49 ∷ 0x44 ∷ 0x4c ∷ []) (0x01 ∷ 0x6c ∷ 0x01 ∷ 110 ∷ 0x7d ∷ 0x01 ∷ 0x00 ∷ []) refl
            (first_then (0x01 ∷ 0x6c ∷ 0x01 ∷ 110 ∷ 0x7d ∷ []) (0x01 ∷ 0x00 ∷ [])
            (first_then (0x01 ∷ []) (0x6c ∷ 0x01 ∷ 110 ∷ 0x7d ∷ []) (unsigned_byte 1 (omega arith))
            (first_then (0x6c ∷ 0x01 ∷ 110 ∷ 0x7d ∷ []) []
            (first_then (0x6c ∷ []) (0x01 ∷ 110 ∷ 0x7d ∷ []) refl
            (first_then (0x01 ∷ []) (110 ∷ 0x7d ∷ []) (unsigned_byte 1 (omega arith))
            (first_then (110 ∷ 0x7d ∷ []) [] (first_then (110 ∷ []) (0x7d ∷ []) (unsigned_byte 110 (omega arith)) refl) refl)))
            refl))
            (first_then (0x01 ∷ []) (0x00 ∷ []) (unsigned_byte 1 (omega arith))
            (first_then (0x00 ∷ []) [] (0, whole_at, reference_byte 0 (omega arith)) refl)));
      })
      (first_then [] (42 ∷ []) (refl, refl)
      (first_then (42 ∷ []) [] (first_then (42 ∷ []) [] (omega arith, number_byte 42 (omega arith)) (first_then [] [] refl refl)) refl));
}
