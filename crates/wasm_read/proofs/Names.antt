-- Byte vectors, names and what stands behind its size are read exactly.
use Rattle.std.proofs.Common.{◌≡◌, ℕ, ◌≤◌, Bool, true, false, cond, List, ◌++◌, length, take, drop, Result, Ok, Err, ◌⊎◌, inl, inr, refl, sym, ap, ◌∙◌, subst, append_assoc, length-append, arith}
use Rattle.std.specs.Prelude.{IsUtf8}
use Rattle.std.specs.Str.{is_utf8}
use Rattle.std.proofs.lemmas.Str.{is_utf8-from_IsUtf8, IsUtf8-from_is_utf8}
use Rattle.wasm_tree.specs.Spelling.{Exactly, Then, IsU32, IsByteVector, IsSized}
use Rattle.wasm_tree.specs.Binary.{IsName}
use Rattle.wasm_read.specs.declared.fault.Fault.{Fault}
use Rattle.wasm_read.specs.declared.fault.Fault.TheVariants.{Malformed}
use Rattle.exact_reading.specs.Reading.{◌>>=◌}
use Rattle.wasm_read.specs.Fields.{Reading, whole, byte_vector_at, sized, name_at}
use Rattle.exact_reading.proofs.Exact.{Joins, Exact, bind_ok, same_pair, kept_exact}
use Rattle.wasm_read.proofs.Exact.{whole_sound, whole_complete}
use Rattle.exact_reading.proofs.Numbers.{IsUnsigned}
use Rattle.exact_reading.proofs.Lists.{string_exact}
use Rattle.wasm_read.proofs.Numbers.{to_u32, from_u32}

pub name_ok : (bytes name rest : List ℕ) → byte_vector_at bytes ≡ Ok (name, rest) → IsUtf8 name → name_at bytes ≡ Ok (name, rest)
unfolding name_at
name_ok bytes name rest e h =
    ap (λ (s : Result (List ℕ × List ℕ) Fault). s >>= λ x. cond (is_utf8 x.0) (Ok x) (Err Malformed)) e
    ∙ ap (λ b. cond b (Ok (name, rest)) (Err Malformed)) (is_utf8-from_IsUtf8 name h)

pub name_err : (bytes name rest : List ℕ) → byte_vector_at bytes ≡ Ok (name, rest) → (IsUtf8 name → ⊥) → name_at bytes ≡ Err Malformed
unfolding name_at
name_err bytes name rest e h =
    ap (λ (s : Result (List ℕ × List ℕ) Fault). s >>= λ x. cond (is_utf8 x.0) (Ok x) (Err Malformed)) e ∙ by (is_utf8 name) refl
  where
    by : (b : Bool) → is_utf8 name ≡ b → cond {A = Result (List ℕ × List ℕ) Fault} b (Ok (name, rest)) (Err Malformed) ≡ Err Malformed
    by false t = refl
    by true t = absurd (h (IsUtf8-from_is_utf8 name t))

pub count_joins : (n : ℕ) (Q : List ℕ → Type 0) → Joins (IsUnsigned 32 n) Q (Then (IsU32 n) Q)
count_joins n Q = record {
  join = λ a b p q. record { front = a; back = b; whole = refl; first = to_u32 n a p; second = q };
  parts = λ l h. (h.front, h.back, h.whole, from_u32 n h.front h.first, h.second);
}

pub vector_exact : Exact IsByteVector byte_vector_at
vector_exact = string_exact Malformed Malformed IsByteVector (λ x. count_joins (length x) (Exactly x))

pub name_exact : Exact IsName name_at
unfolding name_at
name_exact = kept_exact IsByteVector IsName Malformed is_utf8 byte_vector_at vector_exact
    (λ x front h t. record { text = IsUtf8-from_is_utf8 x t; spells = h })
    (λ x front h. (h.spells, is_utf8-from_IsUtf8 x h.text))

pub sized_exact : {X : Type 0} (P : X → List ℕ → Type 0) (p : Reading X) → Exact P p → Exact (λ x. IsSized (P x)) (sized p)
sized_exact P p ep = record {
  sound = λ bytes r e.
      let s = bind_ok (byte_vector_at bytes) _ r e in
      let t = bind_ok (whole p s.0.0) _ r s.2 in
      let a = vector_exact.sound bytes s.0 s.1 in
      let w = whole_sound P p ep s.0.0 t.0 t.1 in
      same_pair (λ x. IsSized (P x)) bytes (t.0, s.0.1) r t.2 (record {
        front = a.front;
        split = a.split;
        spells = record { size = a.spells.front; contents = s.0.0; whole = a.spells.whole ∙ ap (λ l. a.spells.front ++ l) a.spells.second; count = a.spells.first; inner = w };
      });
  complete = λ x front rest h.
      let v : IsByteVector h.contents front = record { front = h.size; back = h.contents; whole = h.whole; first = h.count; second = refl } in
      ap (λ (s : Result (List ℕ × List ℕ) Fault). s >>= λ c. whole p c.0 >>= λ x. Ok (x, c.1)) (vector_exact.complete h.contents front rest v)
      ∙ ap (λ (s : Result _ Fault). s >>= λ x. Ok (x, rest)) (whole_complete P p ep x h.contents h.inner);
}
