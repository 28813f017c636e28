-- What a first byte chooses is read exactly.
use Rattle.std.proofs.Common.{◌≡◌, ℕ, Bool, true, false, cond, List, [], ◌∷◌, ◌++◌, Result, Ok, Err, Option, Some, None, refl, sym, ap, ◌∙◌, append_assoc}
use Rattle.std.specs.Prelude.{nat_eq}
use Rattle.wasm_tree.specs.declared.types.ValueType.{ValueType}
use Rattle.wasm_tree.specs.declared.types.ValueType.TheVariants.{I32, I64}
use Rattle.wasm_tree.specs.Spelling.{IsByte, Then, IsU32}
use Rattle.wasm_tree.specs.Binary.{IsValueType, IsBlockType}
use Rattle.wasm_read.specs.declared.fault.Fault.{Fault}
use Rattle.wasm_read.specs.declared.fault.Fault.TheVariants.{Malformed, Floats}
use Rattle.exact_reading.specs.Reading.{◌>>=◌, made}
use Rattle.wasm_read.specs.Fields.{Reading, first, behind, u32_at}
use Rattle.wasm_read.specs.Codes.{value_type_by, value_type_at, block_type_by, block_type_at, indirect_at}
use Rattle.exact_reading.proofs.Exact.{if_ok, not_ok, Front, Exact, bind_ok, same_pair, made_sound, eq_is}
use Rattle.wasm_read.proofs.Exact.{okay, behind_sound}
use Rattle.wasm_read.proofs.Numbers.{u32_exact}

-- One byte is all of it.
pub alone : {X : Type 0} (P : X → List ℕ → Type 0) (code b : ℕ) (x : X) (bs : List ℕ) (r : X × List ℕ) → b ≡ code → P x (code ∷ []) → okay (x, bs) ≡ okay r → Front P (b ∷ bs) r.0 r.1
alone P code b x bs r t p h = same_pair P (b ∷ bs) (x, bs) r h (record { front = code ∷ []; split = ap (λ c. c ∷ bs) t; spells = p })

-- A byte, and what it announces.
pub coded : (code : ℕ) (P : List ℕ → Type 0) (front : List ℕ) → P front → Then (IsByte code) P (code ∷ front)
coded code P front h = record { front = code ∷ []; back = front; whole = refl; first = refl; second = h }

pub uncoded : (code : ℕ) (P : List ℕ → Type 0) (front : List ℕ) → Then (IsByte code) P front → (back : List ℕ) × (front ≡ code ∷ back) × P back
uncoded code P front h = (h.back, h.whole ∙ ap (λ l. l ++ h.back) h.first, h.second)

-- What begins with a byte is read by what the byte chooses.
pub at_code : {Y : Type 0} (F : ℕ → List ℕ → Result Y Fault) (code : ℕ) (front back rest : List ℕ) → front ≡ code ∷ back → first F (front ++ rest) ≡ F code (back ++ rest)
at_code F code front back rest e = ap (λ l. first F (l ++ rest)) e

-- Types of values.
of_floats : (v w : Bool) (r : ValueType × List ℕ) → cond {A = Result (ValueType × List ℕ) Fault} v (Err Floats) (cond {A = Result (ValueType × List ℕ) Fault} w (Err Floats) (Err Malformed)) ≡ okay r → ⊥
of_floats true w r e = cc
of_floats false true r e = cc
of_floats false false r e = cc

pub value_type_sound : (b : ℕ) (bs : List ℕ) (r : ValueType × List ℕ) → value_type_by b bs ≡ okay r → Front IsValueType (b ∷ bs) r.0 r.1
value_type_sound b bs r e =
    if_ok e (λ t h. alone IsValueType 0x7f b I32 bs r (eq_is b 0x7f t) refl h)
    (λ _ e. if_ok e (λ t h. alone IsValueType 0x7e b I64 bs r (eq_is b 0x7e t) refl h)
    (λ _ e. absurd (of_floats (nat_eq b 0x7d) (nat_eq b 0x7c) r e)))

pub value_type_exact : Exact IsValueType value_type_at
value_type_exact = record { sound = sound; complete = complete }
  where
    sound : (bytes : List ℕ) (r : ValueType × List ℕ) → value_type_at bytes ≡ Ok r → Front IsValueType bytes r.0 r.1
    sound [] r e = absurd (not_ok e)
    sound (b ∷ bs) r e = value_type_sound b bs r e

    complete : (x : ValueType) (front rest : List ℕ) → IsValueType x front → value_type_at (front ++ rest) ≡ Ok (x, rest)
    complete I32 front rest h = at_code value_type_by 0x7f front [] rest h
    complete I64 front rest h = at_code value_type_by 0x7e front [] rest h

-- Results of blocks.
abbrev some_type : (X : Type 0) → X → Option X
some_type X x = Some x

pub block_type_exact : Exact IsBlockType block_type_at
block_type_exact = record { sound = sound; complete = complete }
  where
    sound : (bytes : List ℕ) (r : Option ValueType × List ℕ) → block_type_at bytes ≡ Ok r → Front IsBlockType bytes r.0 r.1
    sound [] r e = absurd (not_ok e)
    sound (b ∷ bs) r e =
        if_ok e (λ t h. alone IsBlockType 0x40 b None bs r (eq_is b 0x40 t) refl h)
        (λ _ e.
        let s = bind_ok (value_type_by b bs) _ r e in
        let a = value_type_sound b bs s.0 s.1 in
        same_pair IsBlockType (b ∷ bs) (Some s.0.0, s.0.1) r s.2 (record { front = a.front; split = a.split; spells = a.spells }))

    complete : (x : Option ValueType) (front rest : List ℕ) → IsBlockType x front → block_type_at (front ++ rest) ≡ Ok (x, rest)
    complete None front rest h = at_code block_type_by 0x40 front [] rest h
    complete (Some I32) front rest h = at_code block_type_by 0x7f front [] rest h
    complete (Some I64) front rest h = at_code block_type_by 0x7e front [] rest h

-- A number, and the byte 0.
pub indirect_exact : Exact (λ t. Then (IsU32 t) (IsByte 0x00)) indirect_at
indirect_exact = record {
  sound = λ bytes r e.
      let s = bind_ok (u32_at bytes) _ r e in
      let t = bind_ok (behind 0x00 s.0.1) _ r s.2 in
      let a = u32_exact.sound bytes s.0 s.1 in
      let b = behind_sound 0x00 s.0.1 t.0 t.1 in
      same_pair (λ t. Then (IsU32 t) (IsByte 0x00)) bytes (s.0.0, t.0) r t.2 (record {
        front = a.front ++ 0x00 ∷ [];
        split = a.split ∙ ap (λ l. a.front ++ l) b ∙ sym (append_assoc a.front (0x00 ∷ []) t.0);
        spells = record { front = a.front; back = 0x00 ∷ []; whole = refl; first = a.spells; second = refl };
      });
  complete = λ x front rest h.
      let e : front ++ rest ≡ h.front ++ (0x00 ∷ rest) = ap (λ l. l ++ rest) (h.whole ∙ ap (λ l. h.front ++ l) h.second) ∙ append_assoc h.front (0x00 ∷ []) rest in
      let a : u32_at (front ++ rest) ≡ Ok (x, 0x00 ∷ rest) = ap u32_at e ∙ u32_exact.complete x h.front (0x00 ∷ rest) h.first in
      ap (λ (s : Result (ℕ × List ℕ) Fault). s >>= λ t. behind 0x00 t.1 >>= λ rest. Ok (t.0, rest)) a;
}
