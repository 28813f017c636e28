-- Least spellings, one after another.
use Rattle.std.proofs.Common.{◌≡◌, ℕ, ◌+◌, ◌<◌, ◌≤◌, ◌^◌, List, [], ◌∷◌, ◌++◌, length, arith, refl, append_assoc, sym, ◌∙◌, ap, subst, inl, inr, ℤ, length-append, rules, drop, get_or, drop-cons, add-one, suc, FitsSigned, ◌==◌, false}
use Rattle.std.proofs.lemmas.List.{drop_all}
use Rattle.std.proofs.lemmas.Int.{ints}
use Rattle.std.specs.Int.{w32, w64}
use Rattle.mo_num.specs.Leb.{IsLeb, IsSleb, AppendsLeb, AppendsSleb}
use Rattle.mo_num.proofs.Bounds.{leb_within, sleb_within, leb_smaller}
use Rattle.wasm_tree.specs.declared.op.Op.{Op}
use Rattle.wasm_tree.specs.Spelling.{Exactly, IsByte, Then, IsU32, IsS32, IsS64, IsEach, IsVector, IsSized, IsSection, IsVectorSection, IsByteVector, IsMany, IsLeast, AppendsLeast, HasSpelling}
use Rattle.wasm_tree.specs.declared.module_parts.Function.{Function}
use Rattle.wasm_tree.specs.Binary.{IsName, IsOp, IsExpression, IsLocals, IsBody, IsCustom, After}

pub u32_appends : (old new : List ℕ) (n : ℕ) → n < 2 ^ 32 → AppendsLeb old new n → AppendsLeast (IsU32 n) old new
u32_appends old new n small a =
    let some : (bytes : List ℕ) × IsLeb bytes n × (length bytes ≤ 5) = leb_within 4 n (omega arith) in
    let le : length a.0 ≤ length some.0 = a.2.least some.0 some.1 in
    record {
      bytes = a.0;
      appended = a.1;
      least = record {
        spells = record { small = small; short = omega arith; spells = a.2.spells };
        least = λ other h. a.2.least other h.spells;
      };
    }

pub s32_appends : (old new : List ℕ) (z : ℤ) → FitsSigned w32 z → AppendsSleb old new z → AppendsLeast (IsS32 z) old new
s32_appends old new z small a =
    let some : (bytes : List ℕ) × IsSleb bytes z × (length bytes ≤ 5) = sleb_within 4 z (omega (arith, ints), omega (arith, ints)) in
    let le : length a.0 ≤ length some.0 = a.2.least some.0 some.1 in
    record {
      bytes = a.0;
      appended = a.1;
      least = record {
        spells = record { small = small; short = omega arith; spells = a.2.spells };
        least = λ other h. a.2.least other h.spells;
      };
    }

pub s64_appends : (old new : List ℕ) (z : ℤ) → FitsSigned w64 z → AppendsSleb old new z → AppendsLeast (IsS64 z) old new
s64_appends old new z small a =
    let some : (bytes : List ℕ) × IsSleb bytes z × (length bytes ≤ 10) = sleb_within 9 z (omega (arith, ints), omega (arith, ints)) in
    let le : length a.0 ≤ length some.0 = a.2.least some.0 some.1 in
    record {
      bytes = a.0;
      appended = a.1;
      least = record {
        spells = record { small = small; short = omega arith; spells = a.2.spells };
        least = λ other h. a.2.least other h.spells;
      };
    }

pub then_appends : (P Q : List ℕ → Type 0) (a b c : List ℕ) → AppendsLeast P a b → AppendsLeast Q b c → AppendsLeast (Then P Q) a c
then_appends P Q a b c p q = record {
  bytes = p.bytes ++ q.bytes;
  appended = q.appended ∙ ap (λ m. m ++ q.bytes) p.appended ∙ append_assoc a p.bytes q.bytes;
  least = record {
    spells = record { front = p.bytes; back = q.bytes; whole = refl; first = p.least.spells; second = q.least.spells };
    least = λ other h.
        let front : length p.bytes ≤ length h.front = p.least.least h.front h.first in
        let back : length q.bytes ≤ length h.back = q.least.least h.back h.second in
        let whole : length other ≡ length h.front + length h.back = ap length h.whole ∙ length-append h.front h.back in
        let mine : length (p.bytes ++ q.bytes) ≡ length p.bytes + length q.bytes = length-append p.bytes q.bytes in
        omega arith;
  };
}

pub nothing_appends : (P : List ℕ → Type 0) (a : List ℕ) → P [] → AppendsLeast P a a
nothing_appends P a p = record { bytes = []; appended = search rules; least = record { spells = p; least = λ other h. omega arith } }

pub exactly_appends : (these a b : List ℕ) → b ≡ a ++ these → AppendsLeast (Exactly these) a b
exactly_appends these a b e = record { bytes = these; appended = e; least = record { spells = refl; least = λ other h. omega (arith, ap length h) } }

-- Each part of what has a spelling has one.
pub first_has : (P Q : List ℕ → Type 0) → HasSpelling (Then P Q) → HasSpelling P
first_has P Q h = record { bytes = h.spells.front; spells = h.spells.first }

pub second_has : (P Q : List ℕ → Type 0) → HasSpelling (Then P Q) → HasSpelling Q
second_has P Q h = record { bytes = h.spells.back; spells = h.spells.second }

pub sized_has : (P : List ℕ → Type 0) → HasSpelling (IsSized P) → HasSpelling P
sized_has P h = record { bytes = h.spells.contents; spells = h.spells.inner }

-- What is least is short enough where something is.
pub sized_fits : (P : List ℕ → Type 0) (contents : List ℕ) → HasSpelling (IsSized P) → IsLeast P contents → length contents < 2 ^ 32
sized_fits P contents h l =
    let le : length contents ≤ length h.spells.contents = l.least h.spells.contents h.spells.inner in
    let small : length h.spells.contents < 2 ^ 32 = h.spells.count.small in
    omega arith

-- Around the least contents no spelling is longer than around others.
record IsNoLonger (P : List ℕ → Type 0) (other : List ℕ) : Type 0 where
  bytes : List ℕ
  spells : P bytes
  short : length bytes ≤ length other

sized_smaller : (P : List ℕ → Type 0) (contents other : List ℕ) → IsLeast P contents → IsSized P other → IsNoLonger (IsSized (Exactly contents)) other
sized_smaller P contents other l h =
    let le : length contents ≤ length h.contents = l.least h.contents h.inner in
    let size : (bytes : List ℕ) × IsLeb bytes (length contents) × (length bytes ≤ length h.size) = leb_smaller (length contents) (length h.contents) h.size le h.count.spells in
    let small : length h.contents < 2 ^ 32 = h.count.small in
    let short : length h.size ≤ 5 = h.count.short in
    let count : IsU32 (length contents) size.0 = record { small = omega arith; short = omega (arith, size.2); spells = size.1 } in
    let whole : length other ≡ length h.size + length h.contents = ap length h.whole ∙ length-append h.size h.contents in
    record {
      bytes = size.0 ++ contents;
      spells = record { size = size.0; contents = contents; whole = refl; count = count; inner = refl };
      short = omega (arith, length-append size.0 contents, size.2);
    }

sized_inner : (P : List ℕ → Type 0) (contents bytes : List ℕ) → P contents → IsSized (Exactly contents) bytes → IsSized P bytes
sized_inner P contents bytes p s = record { size = s.size; contents = s.contents; whole = s.whole; count = s.count; inner = subst P (sym s.inner) p }

pub sized_appends : (P : List ℕ → Type 0) (contents a b : List ℕ) → IsLeast P contents → AppendsLeast (IsSized (Exactly contents)) a b → AppendsLeast (IsSized P) a b
sized_appends P contents a b l p = record {
  bytes = p.bytes;
  appended = p.appended;
  least = record {
    spells = sized_inner P contents p.bytes l.spells p.least.spells;
    least = λ other h.
        let s : IsNoLonger (IsSized (Exactly contents)) other = sized_smaller P contents other l h in
        let mine : length p.bytes ≤ length s.bytes = p.least.least s.bytes s.spells in
        omega (arith, s.short);
  };
}

pub section_appends : (number : ℕ) (P : List ℕ → Type 0) (contents a b : List ℕ) → IsLeast P contents → AppendsLeast (IsSection number (Exactly contents)) a b → AppendsLeast (IsSection number P) a b
section_appends number P contents a b l p = record {
  bytes = p.bytes;
  appended = p.appended;
  least = record {
    spells = let t = p.least.spells in record { front = t.front; back = t.back; whole = t.whole; first = t.first; second = sized_inner P contents t.back l.spells t.second };
    least = λ other h.
        let s : IsNoLonger (IsSized (Exactly contents)) h.back = sized_smaller P contents h.back l h.second in
        let mine : length p.bytes ≤ length (h.front ++ s.bytes) = p.least.least (h.front ++ s.bytes) (record { front = h.front; back = s.bytes; whole = refl; first = h.first; second = s.spells }) in
        let whole : length other ≡ length h.front + length h.back = ap length h.whole ∙ length-append h.front h.back in
        omega (arith, length-append h.front s.bytes, s.short);
  };
}

-- What is left from i on begins with the item there.
drop_at : {X : Type 0} (xs : List X) (i : ℕ) (x : X) → i < length xs → x ≡ get_or xs i x → drop i xs ≡ x ∷ drop (i + 1) xs
drop_at xs i x h e = rw (add-one, drop-cons xs i x) (ap (λ y. y ∷ drop (suc i) xs) (sym e))

pub each_first : {X : Type 0} (P : X → List ℕ → Type 0) (xs : List X) (i : ℕ) (x : X) → i < length xs → x ≡ get_or xs i x → HasSpelling (IsEach P (drop i xs)) → HasSpelling (P x)
each_first P xs i x h e s =
    let t : HasSpelling (IsEach P (x ∷ drop (i + 1) xs)) = subst (λ ys. HasSpelling (IsEach P ys)) (drop_at xs i x h e) s in
    first_has (P x) (IsEach P (drop (i + 1) xs)) t

pub each_left : {X : Type 0} (P : X → List ℕ → Type 0) (xs : List X) (i : ℕ) (x : X) → i < length xs → x ≡ get_or xs i x → HasSpelling (IsEach P (drop i xs)) → HasSpelling (IsEach P (drop (i + 1) xs))
each_left P xs i x h e s =
    let t : HasSpelling (IsEach P (x ∷ drop (i + 1) xs)) = subst (λ ys. HasSpelling (IsEach P ys)) (drop_at xs i x h e) s in
    second_has (P x) (IsEach P (drop (i + 1) xs)) t

pub each_completes : {X : Type 0} (P : X → List ℕ → Type 0) (xs : List X) (i : ℕ) (x : X) (old out mid : List ℕ) → i < length xs → x ≡ get_or xs i x
    → ((end : List ℕ) → AppendsLeast (IsEach P (drop i xs)) out end → AppendsLeast (IsEach P xs) old end)
    → AppendsLeast (P x) out mid
    → (end : List ℕ) → AppendsLeast (IsEach P (drop (i + 1) xs)) mid end → AppendsLeast (IsEach P xs) old end
each_completes P xs i x old out mid h e completes put end rest =
    let both : AppendsLeast (IsEach P (x ∷ drop (i + 1) xs)) out end = then_appends (P x) (IsEach P (drop (i + 1) xs)) out mid end put rest in
    completes end (subst (λ ys. AppendsLeast (IsEach P ys) out end) (sym (drop_at xs i x h e)) both)

pub each_done : {X : Type 0} (P : X → List ℕ → Type 0) (xs : List X) (i : ℕ) (old out : List ℕ) → length xs ≤ i
    → ((end : List ℕ) → AppendsLeast (IsEach P (drop i xs)) out end → AppendsLeast (IsEach P xs) old end)
    → AppendsLeast (IsEach P xs) old out
each_done P xs i old out h completes =
    completes out (subst (λ ys. AppendsLeast (IsEach P ys) out out) (sym (drop_all i xs h)) (nothing_appends (IsEach P []) out refl))

-- What was put into an empty buffer is the least.
pub whole_least : (P : List ℕ → Type 0) (a b : List ℕ) → a ≡ [] → AppendsLeast P a b → IsLeast P b
whole_least P a b empty p =
    let e : p.bytes ≡ b = sym (p.appended ∙ ap (λ m. m ++ p.bytes) empty) in
    subst (λ m. IsLeast P m) e p.least

-- A section whose vector isn't empty stands there.
pub vector_section_has : {X : Type 0} (number : ℕ) (P : X → List ℕ → Type 0) (xs : List X) → (length xs == 0) ≡ false → HasSpelling (IsVectorSection number P xs) → HasSpelling (IsSection number (IsVector P xs))
vector_section_has number P [] e h = absurd (cc)
vector_section_has number P (x ∷ xs) e h = elim h.spells [
  | inl none ↦ absurd (let f : x ∷ xs ≡ [] = none.0 in cc)
  | inr there ↦ record { bytes = h.bytes; spells = there }
]

vector_section_least : {X : Type 0} (number : ℕ) (P : X → List ℕ → Type 0) (xs : List X) (bytes : List ℕ) → (length xs == 0) ≡ false → IsLeast (IsSection number (IsVector P xs)) bytes → (other : List ℕ) → IsVectorSection number P xs other → length bytes ≤ length other
vector_section_least number P [] bytes e l other h = absurd (cc)
vector_section_least number P (x ∷ xs) bytes e l other (inl none) = absurd (let f : x ∷ xs ≡ [] = none.0 in cc)
vector_section_least number P (x ∷ xs) bytes e l other (inr there) = l.least other there

pub vector_section_appends : {X : Type 0} (number : ℕ) (P : X → List ℕ → Type 0) (xs : List X) (a b : List ℕ) → (length xs == 0) ≡ false → AppendsLeast (IsSection number (IsVector P xs)) a b → AppendsLeast (IsVectorSection number P xs) a b
vector_section_appends number P xs a b e p = record {
  bytes = p.bytes;
  appended = p.appended;
  least = record { spells = inr p.least.spells; least = vector_section_least number P xs p.bytes e p.least };
}

-- Names are text, and expressions nest, whatever their bytes are.
pub name_has : (name : List ℕ) → HasSpelling (IsName name) → HasSpelling (IsByteVector name)
name_has name h = record { bytes = h.bytes; spells = h.spells.spells }

pub name_appends : (name a b : List ℕ) → HasSpelling (IsName name) → AppendsLeast (IsByteVector name) a b → AppendsLeast (IsName name) a b
name_appends name a b h p = record {
  bytes = p.bytes;
  appended = p.appended;
  least = record { spells = record { text = h.spells.text; spells = p.least.spells }; least = λ other o. p.least.least other o.spells };
}

pub expression_has : (ops : List Op) → HasSpelling (IsExpression ops) → HasSpelling (IsEach IsOp ops)
expression_has ops h = first_has (IsEach IsOp ops) (IsByte 0x0b) (record { bytes = h.bytes; spells = h.spells.spells })

pub expression_appends : (ops : List Op) (a b : List ℕ) → HasSpelling (IsExpression ops) → AppendsLeast (Then (IsEach IsOp ops) (IsByte 0x0b)) a b → AppendsLeast (IsExpression ops) a b
expression_appends ops a b h p = record {
  bytes = p.bytes;
  appended = p.appended;
  least = record { spells = record { tree = h.spells.tree; nested = h.spells.nested; spells = p.least.spells }; least = λ other o. p.least.least other o.spells };
}

pub body_has : (f : Function) → HasSpelling (IsBody f) → HasSpelling (Then (IsVector IsLocals f.locals) (IsExpression f.body))
body_has f h = record { bytes = h.bytes; spells = h.spells.spells }

pub body_appends : (f : Function) (a b : List ℕ) → HasSpelling (IsBody f) → AppendsLeast (Then (IsVector IsLocals f.locals) (IsExpression f.body)) a b → AppendsLeast (IsBody f) a b
body_appends f a b h p = record {
  bytes = p.bytes;
  appended = p.appended;
  least = record { spells = record { few = h.spells.few; spells = p.least.spells }; least = λ other o. p.least.least other o.spells };
}

-- No custom section is the least.
pub customs_append : (a : List ℕ) → AppendsLeast (IsMany IsCustom) a a
customs_append a = nothing_appends (IsMany IsCustom) a ([], refl)

pub after_appends : (P : List ℕ → Type 0) (a b : List ℕ) → AppendsLeast P a b → AppendsLeast (After P) a b
after_appends P a b p = then_appends (IsMany IsCustom) P a a b (customs_append a) p

pub after_has : (P : List ℕ → Type 0) → HasSpelling (After P) → HasSpelling P
after_has P h = second_has (IsMany IsCustom) P h
