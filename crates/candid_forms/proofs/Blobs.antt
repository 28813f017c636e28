-- The bytes of a Blob, one by one and as one string.
use Rattle.std.proofs.Common.{◌≡◌, ℕ, ◌<◌, ◌%◌, List, [], ◌∷◌, ◌++◌, length, refl, sym, ap, ◌∙◌, arith}
use Rattle.std.proofs.lemmas.Int.{ints}
use Rattle.mo_types.specs.declared.node.Node.{Node}
use Rattle.mo_types.specs.declared.wire.Plain.TheVariants as plain
use Rattle.mo_types.specs.declared.wire.Ref.{Ref}
use Rattle.mo_types.specs.declared.wire.Ref.TheVariants.{Just}
use Rattle.mo_types.specs.Sub.{Each}
use Rattle.mo_types.specs.Wire.{wire}
use Rattle.mo_types.specs.Form.{bytes_one_by_one}
use Rattle.mo_types.specs.Values.{copies}
use Rattle.mo_types.specs.Spelling.{Numbers, Spell}

byte_itself : (c : ℕ) → c < 256 → c % 256 ≡ c
byte_itself c h = omega arith

module _ {A : Type 0} (N : Numbers) (Allowed : ℕ → Ref A → Type 0) (head : A → Node A) where
  abbrev Bytes : List ℕ → List ℕ → Type 0
  Bytes s bytes = Spell N Allowed (wire head) (copies (length s) (Just plain.Nat8)) (bytes_one_by_one s) bytes

  pub bytes_spelled : (s : List ℕ) → Each (λ c. c < 256) s → Bytes s s
  bytes_spelled [] h = refl
  bytes_spelled (c ∷ cs) h = record {
    front = c ∷ [];
    back = cs;
    whole = refl;
    first = ((omega (arith, ints), omega (arith, ints, h.0)), ap (λ (b : ℕ). b ∷ []) (sym (byte_itself c h.0)));
    second = record { front = []; back = cs; whole = refl; first = refl; second = bytes_spelled cs h.1 };
  }

  pub spelled_bytes : (s bytes : List ℕ) → Bytes s bytes → Each (λ c. c < 256) s × (bytes ≡ s)
  spelled_bytes [] bytes h = (tt, h)
  spelled_bytes (c ∷ cs) bytes h =
      let below : c < 256 = omega (arith, ints, h.first.0.1) in
      let i = spelled_bytes cs h.second.back h.second.second in
      let front : h.front ≡ c ∷ [] = h.first.1 ∙ ap (λ (b : ℕ). b ∷ []) (byte_itself c below) in
      let back : h.back ≡ cs = h.second.whole ∙ ap (λ (x : List ℕ). x ++ h.second.back) h.second.first ∙ i.1 in
      ((below, i.0), h.whole ∙ ap (λ (x : List ℕ). x ++ h.back) front ∙ ap (λ (x : List ℕ). c ∷ x) back)
