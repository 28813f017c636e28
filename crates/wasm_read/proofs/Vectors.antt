-- Vectors are read exactly.
use Rattle.std.proofs.Common.{◌≡◌, ℕ, zero, suc, List, [], ◌∷◌, ◌++◌, length, map, Result, Ok, Err, refl, sym, ap, ◌∙◌, subst, append_assoc}
use Rattle.std.specs.Prelude.{nat_eq, if◌then◌else◌, cond}
use Rattle.std.proofs.lemmas.Bool.{eq-eqb}
use Rattle.wasm_tree.specs.declared.module_parts.Function.{Function}
use Rattle.wasm_tree.specs.Spelling.{IsU32, IsEach, IsVector}
use Rattle.wasm_tree.specs.Binary.{IsCode}
use Rattle.wasm_read.specs.declared.fault.Fault.{Fault}
use Rattle.wasm_read.specs.declared.fault.Fault.TheVariants.{Malformed}
use Rattle.exact_reading.specs.Reading.{◌>>=◌}
use Rattle.wasm_read.specs.Fields.{Reading, u32_at, vector_at}
use Rattle.wasm_read.specs.Parts.{code_at, codes_at, code_vector_at}
use Rattle.exact_reading.proofs.Exact.{Front, Exact, Joins, bind_ok, same_pair, eq_is, if_ok, not_ok, renamed}
use Rattle.exact_reading.proofs.Numbers.{IsUnsigned}
use Rattle.exact_reading.proofs.Lists.{Linked, Each, list_exact}
use Rattle.wasm_read.proofs.Exact.{okay, joins}
use Rattle.wasm_read.proofs.Names.{count_joins}
use Rattle.wasm_read.proofs.Numbers.{u32_exact}

pub each : {X : Type 0} (P : X → List ℕ → Type 0) → Each P (IsEach P)
each P = record { none = refl; nothing = λ l h. h; some = λ x xs. joins (P x) (IsEach P xs) }

pub count_of : {X : Type 0} (P : X → List ℕ → Type 0) (xs : List X) → Joins (IsUnsigned 32 (length xs)) (IsEach P xs) (IsVector P xs)
count_of P xs = count_joins (length xs) (IsEach P xs)

any_linked : {X : Type 0} (xs : List X) → Linked {S = Unit {0}} (λ _ _. Unit {0}) (λ _ _. tt) tt xs
any_linked [] = tt
any_linked (x ∷ xs) = (tt, any_linked xs)

pub vectors_exact : {X : Type 0} (P : X → List ℕ → Type 0) (p : Reading X) → Exact P p → Exact (IsVector P) (vector_at p)
vectors_exact {X} P p ep =
    renamed (λ xs b. IsVector P xs b × Linked {S = Unit {0}} {A = X} (λ _ _. Unit {0}) (λ _ _. tt) tt xs) (IsVector P) (vector_at p) (λ x front h. h.0) (λ x front h. (h, any_linked x))
    (list_exact Malformed Malformed (λ _. p) (λ _ _. tt) P (IsEach P) (λ _ _. Unit {0}) (each P) (λ _. renamed P (λ a b. P a b × Unit {0}) p (λ x front h. (h, tt)) (λ x front h. h.0) ep) (IsVector P) tt (count_of P))

-- The functions with these types.
abbrev pub signatures : List Function → List ℕ
signatures fs = map (λ f. f.signature) fs

abbrev IsOf : List ℕ → List Function → List ℕ → Type 0
IsOf ss fs l = IsEach IsCode fs l × (signatures fs ≡ ss)

module _ (ep : (s : ℕ) → Exact (λ f l. IsCode f l × (f.signature ≡ s)) (code_at s)) where
  codes_sound : (ss : List ℕ) (bytes : List ℕ) (r : List Function × List ℕ) → codes_at ss bytes ≡ okay r → Front (IsOf ss) bytes r.0 r.1
  codes_sound [] bytes r e = same_pair (IsOf []) bytes ([], bytes) r e (record { front = []; split = refl; spells = (refl, refl) })
  codes_sound (c ∷ ss) bytes r e =
      let s = bind_ok (code_at c bytes) _ r e in
      let t = bind_ok (codes_at ss s.0.1) _ r s.2 in
      let a = (ep c).sound bytes s.0 s.1 in
      let b = codes_sound ss s.0.1 t.0 t.1 in
      same_pair (IsOf (c ∷ ss)) bytes (s.0.0 ∷ t.0.0, t.0.1) r t.2 (record {
        front = a.front ++ b.front;
        split = a.split ∙ ap (λ l. a.front ++ l) b.split ∙ sym (append_assoc a.front b.front t.0.1);
        spells = (record { front = a.front; back = b.front; whole = refl; first = a.spells.0; second = b.spells.0 }, ap (λ n. n ∷ signatures t.0.0) a.spells.1 ∙ ap (λ l. c ∷ l) b.spells.1);
      })

  codes_complete : (fs : List Function) (front rest : List ℕ) → IsEach IsCode fs front → codes_at (signatures fs) (front ++ rest) ≡ Ok (fs, rest)
  codes_complete [] front rest h = ap (λ l. Ok ([], l ++ rest)) h
  codes_complete (f ∷ fs) front rest h =
      let e : front ++ rest ≡ h.front ++ (h.back ++ rest) = ap (λ l. l ++ rest) h.whole ∙ append_assoc h.front h.back rest in
      let a : code_at f.signature (front ++ rest) ≡ Ok (f, h.back ++ rest) = ap (λ l. code_at f.signature l) e ∙ (ep f.signature).complete f h.front (h.back ++ rest) (h.first, refl) in
      ap (λ (s : Result (Function × List ℕ) Fault). s >>= λ f. codes_at (signatures fs) f.1 >>= λ fs. Ok (f.0 ∷ fs.0, fs.1)) a
      ∙ ap (λ (s : Result (List Function × List ℕ) Fault). s >>= λ fs. Ok (f ∷ fs.0, fs.1)) (codes_complete fs h.back rest h.second)

  length_signatures : (fs : List Function) → length (signatures fs) ≡ length fs
  length_signatures [] = refl
  length_signatures (f ∷ fs) = ap suc (length_signatures fs)

  pub code_vector_exact : (ss : List ℕ) → Exact (λ fs l. IsVector IsCode fs l × (signatures fs ≡ ss)) (code_vector_at ss)
  unfolding code_vector_at
  code_vector_exact ss = record {
    sound = λ bytes r e.
        let s = bind_ok (u32_at bytes) _ r e in
        let a = u32_exact.sound bytes s.0 s.1 in
        if_ok s.2
        (λ t h.
        let b = codes_sound ss s.0.1 r h in
        let n : s.0.0 ≡ length r.0 = eq_is s.0.0 (length ss) t ∙ ap length (sym b.spells.1) ∙ length_signatures r.0 in
        record {
          front = a.front ++ b.front;
          split = a.split ∙ ap (λ l. a.front ++ l) b.split ∙ sym (append_assoc a.front b.front r.1);
          spells = (record { front = a.front; back = b.front; whole = refl; first = subst (λ n. IsU32 n a.front) n a.spells; second = b.spells.0 }, b.spells.1);
        })
        (λ _ h. absurd (not_ok h));
    complete = λ x front rest k.
        let h = k.0 in
        let e : front ++ rest ≡ h.front ++ (h.back ++ rest) = ap (λ l. l ++ rest) h.whole ∙ append_assoc h.front h.back rest in
        let a : u32_at (front ++ rest) ≡ Ok (length x, h.back ++ rest) = ap u32_at e ∙ u32_exact.complete (length x) h.front (h.back ++ rest) h.first in
        let n : length x ≡ length ss = sym (length_signatures x) ∙ ap length k.1 in
        ap (λ (s : Result (ℕ × List ℕ) Fault). s >>= λ n. if nat_eq n.0 (length ss) then codes_at ss n.1 else Err Malformed) a
        ∙ ap (λ b. cond b (codes_at ss (h.back ++ rest)) (Err Malformed)) (eq-eqb (length x) (length ss) n)
        ∙ ap (λ z. codes_at z (h.back ++ rest)) (sym k.1)
        ∙ codes_complete x h.back rest h.second;
  }
