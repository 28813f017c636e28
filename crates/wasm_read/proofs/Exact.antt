-- What is read is spelled at the front, and what is spelled at the front is read: the spellings of modules.
use Rattle.std.proofs.Common.{◌≡◌, ℕ, Bool, true, cond, List, [], ◌∷◌, ◌++◌, length, Result, Ok, Err, refl, sym, ap, ◌∙◌, subst, arith}
use Rattle.std.proofs.lemmas.Bool.{eq-eqb}
use Rattle.std.specs.Prelude.{nat_eq, if◌then◌else◌}
use Rattle.wasm_tree.specs.Spelling.{IsByte, Then}
use Rattle.exact_reading.specs.Reading.{◌>>=◌, both}
use Rattle.exact_reading.proofs.Exact as exact
use Rattle.exact_reading.proofs.Exact.{Joins, Exact, bind_ok, test_ok, eq_is}
use Rattle.wasm_read.specs.declared.fault.Fault.{Fault}
use Rattle.wasm_read.specs.declared.fault.Fault.TheVariants.{Malformed}
use Rattle.wasm_read.specs.Fields.{Reading, behind, after_code, whole}

abbrev pub okay : {A : Type 0} → A → Result A Fault
okay x = Ok x

pub joins : (P Q : List ℕ → Type 0) → Joins P Q (Then P Q)
joins P Q = record {
  join = λ a b p q. record { front = a; back = b; whole = refl; first = p; second = q };
  parts = λ l h. (h.front, h.back, h.whole, h.first, h.second);
}

-- The one, and then the other.
pub both_exact : {X Y : Type 0} (P : X → List ℕ → Type 0) (Q : Y → List ℕ → Type 0) (p : Reading X) (q : Reading Y) → Exact P p → Exact Q q → Exact (λ z. Then (P z.0) (Q z.1)) (both p q)
both_exact P Q p q ep eq = exact.both_exact P Q (λ z. Then (P z.0) (Q z.1)) p q (λ z. joins (P z.0) (Q z.1)) ep eq

-- A byte.
pub behind_sound : (code : ℕ) (bytes rest : List ℕ) → behind code bytes ≡ Ok rest → bytes ≡ code ∷ rest
behind_sound code [] rest e = cc
behind_sound code (b ∷ bs) rest e =
    let t = test_ok (nat_eq b code) bs rest Malformed e in
    let same : b ≡ code = eq_is b code t.0 in
    let tail : bs ≡ rest = t.1 in
    ap (λ c. c ∷ bs) same ∙ ap (λ l. code ∷ l) tail

pub behind_complete : (code : ℕ) (rest : List ℕ) → behind code (code ∷ rest) ≡ Ok rest
behind_complete code rest = ap (λ b. cond b (Ok rest) (Err Malformed)) (eq-eqb code code refl)

pub after_exact : {X : Type 0} (P : X → List ℕ → Type 0) (code : ℕ) (p : Reading X) → Exact P p → Exact (λ x. Then (IsByte code) (P x)) (after_code code p)
after_exact P code p ep = record {
  sound = λ bytes r e.
      let s = bind_ok (behind code bytes) _ r e in
      let b = behind_sound code bytes s.0 s.1 in
      let a = ep.sound s.0 r s.2 in
      record {
        front = code ∷ a.front;
        split = b ∙ ap (λ l. code ∷ l) a.split;
        spells = record { front = code ∷ []; back = a.front; whole = refl; first = refl; second = a.spells };
      };
  complete = λ x front rest h.
      let e : front ++ rest ≡ code ∷ (h.back ++ rest) = ap (λ l. l ++ rest) (h.whole ∙ ap (λ l. l ++ h.back) h.first) in
      ap (λ l. behind code l >>= p) e ∙ ap (λ (s : Result (List ℕ) Fault). s >>= p) (behind_complete code (h.back ++ rest)) ∙ ep.complete x h.back rest h.second;
}

-- Nothing is left.
pub nothing : (l : List ℕ) → nat_eq (length l) 0 ≡ true → l ≡ []
nothing [] e = refl
nothing (x ∷ l) e = let h : length (x ∷ l) ≡ 0 = eq_is (length (x ∷ l)) 0 e in absurd (omega arith)

pub append_nil : {X : Type 0} (l : List X) → l ++ [] ≡ l
append_nil [] = refl
append_nil (x ∷ l) = ap (λ k. x ∷ k) (append_nil l)

pub whole_sound : {X : Type 0} (P : X → List ℕ → Type 0) (p : Reading X) → Exact P p → (bytes : List ℕ) (x : X) → whole p bytes ≡ Ok x → P x bytes
whole_sound P p ep bytes x e =
    let s = bind_ok (p bytes) _ x e in
    let t = test_ok (nat_eq (length s.0.1) 0) s.0.0 x Malformed s.2 in
    let a = ep.sound bytes s.0 s.1 in
    let n : s.0.1 ≡ [] = nothing s.0.1 t.0 in
    let b : bytes ≡ a.front = a.split ∙ ap (λ l. a.front ++ l) n ∙ append_nil a.front in
    subst (λ l. P x l) (sym b) (subst (λ z. P z a.front) t.1 a.spells)

pub whole_complete : {X : Type 0} (P : X → List ℕ → Type 0) (p : Reading X) → Exact P p → (x : X) (bytes : List ℕ) → P x bytes → whole p bytes ≡ Ok x
whole_complete P p ep x bytes h =
    let e : p bytes ≡ Ok (x, []) = ap p (sym (append_nil bytes)) ∙ ep.complete x bytes [] h in
    ap (λ (s : Result (_ × List ℕ) Fault). s >>= λ x. if nat_eq (length x.1) 0 then Ok x.0 else Err Malformed) e
