-- Sections behind custom sections are read exactly, from the last one on.
use Rattle.std.proofs.Common.{◌≡◌, ℕ, suc, ◌≤◌, ◌<◌, Bool, true, false, cond, List, [], ◌∷◌, ◌++◌, length, Result, Ok, Err, Option, Some, None, ◌⊎◌, inl, inr, refl, sym, ap, ◌∙◌, subst, append_assoc, arith}
use Rattle.std.specs.Prelude.{nat_eq}
use Rattle.std.proofs.lemmas.Bool.{eq-eqb}
use Rattle.wasm_tree.specs.Spelling.{Then, IsByteVector, IsSized, IsSection, IsVector, IsVectorSection, IsMany}
use Rattle.wasm_tree.specs.Binary.{IsCustom, After}
use Rattle.wasm_read.specs.declared.fault.Fault.{Fault}
use Rattle.wasm_read.specs.declared.fault.Fault.TheVariants.{Malformed}
use Rattle.exact_reading.specs.Reading.{◌>>=◌}
use Rattle.wasm_read.specs.Fields.{Reading, whole, byte_vector_at, vector_at}
use Rattle.wasm_read.specs.Sections.{after_custom, made_some, skip_at, customs, opened, inside, section_at, finished, ends, then_at}
use Rattle.exact_reading.proofs.Exact.{Front, Exact, ok_is, bind_ok, test_ok, same_pair, eq_is, if_ok}
use Rattle.wasm_read.proofs.Exact.{okay, nothing, append_nil, whole_sound, whole_complete}
use Rattle.wasm_read.proofs.Names.{vector_exact}
use Rattle.wasm_read.proofs.Choices.{coded, uncoded}
use Rattle.wasm_read.proofs.Vectors.{vectors_exact}
use Rattle.wasm_read.proofs.Skipping.{customs_sound, customs_complete, many_append}

-- no section with a number below this one begins here
abbrev pub NotBefore : ℕ → List ℕ → Type 0
NotBefore i [] = Unit {0}
NotBefore i (b ∷ bs) = i ≤ b

differs : (a b : ℕ) → a < b → (t : Bool) → nat_eq b a ≡ t → t ≡ false
differs a b lt true e = let same : b ≡ a = eq_is b a e in absurd (omega (arith, lt, same))
differs a b lt false e = refl

pub not_custom : (i : ℕ) (rest : List ℕ) → 1 ≤ i → NotBefore i rest → skip_at rest ≡ Ok None
not_custom i [] some h = refl
not_custom i (b ∷ bs) some h = ap (λ t. cond t (made_some (after_custom bs)) (Ok None)) (differs 0 b (omega (arith, some, h)) (nat_eq b 0) refl)

not_open : (i : ℕ) (rest : List ℕ) → NotBefore (suc i) rest → opened i rest ≡ Ok None
unfolding opened
not_open i [] h = refl
not_open i (b ∷ bs) h = ap (λ t. cond t (made_some (byte_vector_at bs)) (Ok None)) (differs i b h (nat_eq b i) refl)

later : (i : ℕ) (rest : List ℕ) → NotBefore (suc i) rest → NotBefore i rest
later i [] h = tt
later i (b ∷ bs) h = omega (arith, h)

none_some : (c : List ℕ × List ℕ) → okay None ≡ okay (Some c) → ⊥
none_some c e = cc

unwrapped : Result (Option (List ℕ × List ℕ)) Fault → List ℕ × List ℕ
unwrapped (Ok (Some l)) = l
unwrapped (Ok None) = ([], [])
unwrapped (Err f) = ([], [])

open_sound : (i : ℕ) (bytes : List ℕ) (c : List ℕ × List ℕ) → opened i bytes ≡ okay (Some c) → (front : List ℕ) × (bytes ≡ i ∷ (front ++ c.1)) × IsByteVector c.0 front
unfolding opened unwrapped
open_sound i [] c e = absurd (none_some c e)
open_sound i (b ∷ bs) c e =
    if_ok e (λ t h.
    let s = bind_ok (byte_vector_at bs) _ (Some c) h in
    let same : s.0 ≡ c = ap (λ (r : Result (Option (List ℕ × List ℕ)) Fault). unwrapped r) s.2 in
    let a = vector_exact.sound bs c (s.1 ∙ ap (λ l. Ok l) same) in
    (a.front, ap (λ x. x ∷ bs) (eq_is b i t) ∙ ap (λ l. i ∷ l) a.split, a.spells))
    (λ _ h. absurd (none_some c h))

open_complete : (i : ℕ) (contents front rest : List ℕ) → IsByteVector contents front → opened i (i ∷ (front ++ rest)) ≡ Ok (Some (contents, rest))
unfolding opened
open_complete i contents front rest h =
    ap (λ t. cond t (made_some (byte_vector_at (front ++ rest))) (Ok None)) (eq-eqb i i refl) ∙ ap made_some (vector_exact.complete contents front rest h)

-- What a section says: what it spells, what it holds, and what it stands for where it is left out.
pub record Slot {X : Type 0} (i : ℕ) (S P : X → List ℕ → Type 0) (absent : Result X Fault) (p : Reading X) : Type 0 where
  pub exact : Exact P p
  pub left_out : (x : X) → absent ≡ Ok x → S x []
  pub stands : (x : X) (l : List ℕ) → IsSection i (P x) l → S x l
  pub cases : (x : X) (l : List ℕ) → S x l → ((l ≡ []) × (absent ≡ Ok x)) ⊎ IsSection i (P x) l

module _ {X : Type 0} (i : ℕ) (S P : X → List ℕ → Type 0) (absent : Result X Fault) (p : Reading X) (slot : Slot i S P absent p) where
  inside_sound : (rest : List ℕ) (o : Option (List ℕ × List ℕ)) (r : X × List ℕ) → opened i rest ≡ okay o → inside absent p rest o ≡ okay r → Front S rest r.0 r.1
  inside_sound rest None r o e =
      let s = bind_ok absent _ r e in
      same_pair S rest (s.0, rest) r s.2 (record { front = []; split = refl; spells = slot.left_out s.0 s.1 })
  inside_sound rest (Some c) r o e =
      let s = bind_ok (whole p c.0) _ r e in
      let b = open_sound i rest c o in
      let w = whole_sound P p slot.exact c.0 s.0 s.1 in
      let v = b.2 in
      same_pair S rest (s.0, c.1) r s.2 (record {
        front = i ∷ b.0;
        split = b.1;
        spells = slot.stands s.0 (i ∷ b.0) (coded i (IsSized (P s.0)) b.0 (record { size = v.front; contents = c.0; whole = v.whole ∙ ap (λ l. v.front ++ l) v.second; count = v.first; inner = w }));
      })

  section_sound : (bytes : List ℕ) (r : X × List ℕ) → section_at i absent p bytes ≡ okay r → Front (λ x. After (S x)) bytes r.0 r.1
  section_sound bytes r e =
      let s = bind_ok (customs bytes) _ r e in
      let t = bind_ok (opened i s.0) _ r s.2 in
      let k = customs_sound bytes s.0 s.1 in
      let a = inside_sound s.0 t.0 r t.1 t.2 in
      record {
        front = k.front ++ a.front;
        split = k.split ∙ ap (λ l. k.front ++ l) a.split ∙ sym (append_assoc k.front a.front r.1);
        spells = record { front = k.front; back = a.front; whole = refl; first = k.many; second = a.spells };
      }

  absent_complete : (x : X) (b rest : List ℕ) → absent ≡ Ok x → NotBefore (suc i) rest → customs b ≡ Ok rest → section_at i absent p b ≡ Ok (x, rest)
  absent_complete x b rest a n c =
      ap (λ (s : Result (List ℕ) Fault). s >>= λ rest. opened i rest >>= λ o. inside absent p rest o) c
      ∙ ap (λ (s : Result (Option (List ℕ × List ℕ)) Fault). s >>= λ o. inside absent p rest o) (not_open i rest n)
      ∙ ap (λ (s : Result X Fault). s >>= λ x. Ok (x, rest)) a

  present_complete : (x : X) (b back rest : List ℕ) → IsSized (P x) back → customs b ≡ Ok (i ∷ (back ++ rest)) → section_at i absent p b ≡ Ok (x, rest)
  present_complete x b back rest h c =
      let v : IsByteVector h.contents back = record { front = h.size; back = h.contents; whole = h.whole; first = h.count; second = refl } in
      ap (λ (s : Result (List ℕ) Fault). s >>= λ rest. opened i rest >>= λ o. inside absent p rest o) c
      ∙ ap (λ (s : Result (Option (List ℕ × List ℕ)) Fault). s >>= λ o. inside absent p (i ∷ (back ++ rest)) o) (open_complete i h.contents back rest v)
      ∙ ap (λ (s : Result X Fault). s >>= λ x. Ok (x, rest)) (whole_complete P p slot.exact x h.contents h.inner)

-- Where reading goes on behind the custom sections at the front.
pub record Ready {Y : Type 0} (i : ℕ) (k : List ℕ → Result Y Fault) (y : Y) (bytes : List ℕ) : Type 0 where
  pub front : List ℕ
  pub rest : List ℕ
  pub split : bytes ≡ front ++ rest
  pub many : IsMany IsCustom front
  pub begins : NotBefore i rest
  pub reads : (b : List ℕ) → customs b ≡ Ok rest → k b ≡ Ok y

pub record Tail {Y : Type 0} (i : ℕ) (W : Y → List ℕ → Type 0) (k : List ℕ → Result Y Fault) : Type 0 where
  pub sound : (bytes : List ℕ) (y : Y) → k bytes ≡ Ok y → W y bytes
  pub ready : (y : Y) (bytes : List ℕ) → W y bytes → Ready i k y bytes

pub tail_complete : {Y : Type 0} (i : ℕ) (W : Y → List ℕ → Type 0) (k : List ℕ → Result Y Fault) → 1 ≤ i → Tail i W k → (y : Y) (bytes : List ℕ) → W y bytes → k bytes ≡ Ok y
tail_complete i W k some t y bytes h =
    let r = t.ready y bytes h in
    r.reads bytes (ap customs r.split ∙ customs_complete r.front r.rest r.many (not_custom i r.rest some r.begins))

pub ends_tail : Tail 12 (λ _ l. IsMany IsCustom l) ends
unfolding ends
ends_tail = record {
  sound = λ bytes y e.
      let s = bind_ok (customs bytes) _ y e in
      let t = test_ok (nat_eq (length s.0) 0) tt y Malformed s.2 in
      let k = customs_sound bytes s.0 s.1 in
      let n : s.0 ≡ [] = nothing s.0 t.0 in
      let b : bytes ≡ k.front = k.split ∙ ap (λ l. k.front ++ l) n ∙ append_nil k.front in
      subst (λ l. IsMany IsCustom l) (sym b) k.many;
  ready = λ y bytes h. record {
    front = bytes;
    rest = [];
    split = sym (append_nil bytes);
    many = h;
    begins = tt;
    reads = λ b c. ap (λ (s : Result (List ℕ) Fault). s >>= finished) c;
  };
}

pub then_tail : {X Y : Type 0} (i : ℕ) (S P : X → List ℕ → Type 0) (absent : Result X Fault) (p : Reading X) (W : X → Y → List ℕ → Type 0) (next : X → List ℕ → Result Y Fault) → 1 ≤ i → Slot i S P absent p → ((x : X) → Tail (suc i) (W x) (next x)) → Tail i (λ z. Then (After (S z.0)) (W z.0 z.1)) (then_at (section_at i absent p) next)
then_tail {X} {Y} i S P absent p W next some slot tails = record { sound = sound; ready = ready }
  where
    sound : (bytes : List ℕ) (y : X × Y) → then_at (section_at i absent p) next bytes ≡ Ok y → Then (After (S y.0)) (W y.0 y.1) bytes
    sound bytes y e =
        let s = bind_ok (section_at i absent p bytes) _ y e in
        let t = bind_ok (next s.0.0 s.0.1) _ y s.2 in
        let a = section_sound i S P absent p slot bytes s.0 s.1 in
        let w = (tails s.0.0).sound s.0.1 t.0 t.1 in
        subst (λ z. Then (After (S z.0)) (W z.0 z.1) bytes) (ok_is (s.0.0, t.0) y t.2) (record { front = a.front; back = s.0.1; whole = a.split; first = a.spells; second = w })

    going : (x : X) (y : Y) (b left : List ℕ) → section_at i absent p b ≡ Ok (x, left) → next x left ≡ Ok y → then_at (section_at i absent p) next b ≡ Ok (x, y)
    going x y b left s n =
        ap (λ (s : Result (X × List ℕ) Fault). s >>= λ x. next x.0 x.1 >>= λ y. Ok (x.0, y)) s ∙ ap (λ (s : Result Y Fault). s >>= λ y. Ok (x, y)) n

    ready : (y : X × Y) (bytes : List ℕ) → Then (After (S y.0)) (W y.0 y.1) bytes → Ready i (then_at (section_at i absent p) next) y bytes
    ready y bytes h = by (slot.cases y.0 h.first.back h.first.second)
      where
        t : Ready (suc i) (next y.0) y.1 h.back
        t = (tails y.0).ready y.1 h.back h.second

        none : skip_at t.rest ≡ Ok None
        none = not_custom (suc i) t.rest (omega arith) t.begins

        parts : bytes ≡ h.first.front ++ (h.first.back ++ h.back)
        parts = h.whole ∙ ap (λ l. l ++ h.back) h.first.whole ∙ append_assoc h.first.front h.first.back h.back

        by : ((h.first.back ≡ []) × (absent ≡ Ok y.0)) ⊎ IsSection i (P y.0) h.first.back → Ready i (then_at (section_at i absent p) next) y bytes
        by (inl k) = record {
          front = h.first.front ++ t.front;
          rest = t.rest;
          split = parts ∙ ap (λ l. h.first.front ++ (l ++ h.back)) k.0 ∙ ap (λ l. h.first.front ++ l) t.split ∙ sym (append_assoc h.first.front t.front t.rest);
          many = many_append h.first.front t.front h.first.first t.many;
          begins = later i t.rest t.begins;
          reads = λ b c. going y.0 y.1 b t.rest (absent_complete i S P absent p slot y.0 b t.rest k.1 t.begins c) (t.reads t.rest (customs_complete [] t.rest ([], refl) none));
        }
        by (inr k) =
            let u = uncoded i (IsSized (P y.0)) h.first.back k in
            record {
              front = h.first.front;
              rest = i ∷ (u.0 ++ h.back);
              split = parts ∙ ap (λ l. h.first.front ++ (l ++ h.back)) u.1;
              many = h.first.first;
              begins = omega arith;
              reads = λ b c. going y.0 y.1 b h.back (present_complete i S P absent p slot y.0 b u.0 h.back u.2 c) (t.reads h.back (ap customs t.split ∙ customs_complete t.front t.rest t.many none));
            }

-- A section of a vector.
pub vector_slot : {X : Type 0} (i : ℕ) (P : X → List ℕ → Type 0) (p : Reading X) → Exact P p → Slot i (IsVectorSection i P) (IsVector P) (Ok []) (vector_at p)
vector_slot {X} i P p ep = record {
  exact = vectors_exact P p ep;
  left_out = λ x e. inl (sym (ok_is [] x e), refl);
  stands = λ x l h. inr h;
  cases = λ x l h. by x l h;
}
  where
    by : (x : List X) (l : List ℕ) → IsVectorSection i P x l → ((l ≡ []) × (okay [] ≡ okay x)) ⊎ IsSection i (IsVector P x) l
    by x l (inl k) = inl (k.1, ap (λ z. Ok z) (sym k.0))
    by x l (inr k) = inr k
