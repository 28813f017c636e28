-- Equality of Candid types is decided.
use Rattle.std.proofs.Common.{◌≡◌, ℕ, zero, suc, inl, inr, true, false, ◌&&◌, List, [], ◌∷◌, ◌++◌, length, map, Decides, refl, sym, ap, ◌∙◌, subst, arith}
use Rattle.std.specs.Prelude.{nat_eq}
use Rattle.std.specs.Cmp.{unsigned_Decides}
use Rattle.std.specs.Cmp.Lexicographic.{pointwise}
use Rattle.mo_types.specs.declared.wire.Entry.{Entry}
use Rattle.mo_types.specs.declared.wire.Method.{Method}
use Rattle.mo_types.specs.declared.wire.Wire.{Wire}
use Rattle.mo_types.specs.declared.wire.Wire.TheVariants.{Simple, Opt, Vec, Record, Variant, Func, Service}
use Rattle.mo_types.specs.Wire.{plain_code, SameParts, SameEntries, SameMethods, SameHead, SameTo, SameWire}
use Rattle.mo_types.specs.Header.{parts_of}
use Rattle.mo_types.specs.Same.{pointwise_decides}
use Rattle.candid_equal.specs.Pairs.{code_once}
use Rattle.candid_laws.proofs.Same.{same_heads}
use Rattle.mo_coding.specs.Heads.{Heads}
use Rattle.mo_coding.specs.Equality.{pairs, products, alike, has_pair, asks, are_alike, met_pairs, same}
use Rattle.mo_coding.proofs.Members.{Has, has_left, has_right, has_either, has_mapped}
use Rattle.mo_coding.proofs.Heads.{AreFinite, mapped}
use Rattle.mo_coding.proofs.Truths.{both_true, true_both, or_either, or_left, or_right, all_true, true_all}
use Rattle.mo_coding.proofs.Walks.{Walk, walked, met, kept, closes}

-- ---- heads

module _ {A B : Type 0} (R : A → B → Type 0) where
  -- what holds of each pair of these
  abbrev Each : List (A × B) → Type 0
  Each ps = (p : A × B) → Has ps p → R p.0 p.1

  and_first : (q : A × B) (ps : List (A × B)) → R q.0 q.1 → Each ps → Each (q ∷ ps)
  and_first q ps r h p (inl e) = subst (λ (z : A × B). R z.0 z.1) e r
  and_first q ps r h p (inr i) = h p i

  parts_from : (xs : List A) (ys : List B) → length xs ≡ length ys → Each (pairs xs ys) → SameParts R xs ys
  parts_from [] [] e h = tt
  parts_from [] (y ∷ ys) e h = absurd (omega (arith, e))
  parts_from (x ∷ xs) [] e h = absurd (omega (arith, e))
  parts_from (x ∷ xs) (y ∷ ys) e h = (h (x, y) (inl refl), parts_from xs ys (omega (arith, e)) (λ p i. h p (inr i)))

  parts_to : (xs : List A) (ys : List B) → SameParts R xs ys → (length xs ≡ length ys) × Each (pairs xs ys)
  parts_to [] [] h = (refl, λ p i. absurd i)
  parts_to [] (y ∷ ys) h = absurd h
  parts_to (x ∷ xs) [] h = absurd h
  parts_to (x ∷ xs) (y ∷ ys) h = let i = parts_to xs ys h.1 in (ap suc i.0, and_first (x, y) (pairs xs ys) h.0 i.1)

  -- the first ones and then the others, of as many
  join_pairs : (xs xs' : List A) (ys ys' : List B) → length xs ≡ length ys → pairs (xs ++ xs') (ys ++ ys') ≡ pairs xs ys ++ pairs xs' ys'
  join_pairs [] xs' [] ys' e = refl
  join_pairs [] xs' (y ∷ ys) ys' e = absurd (omega (arith, e))
  join_pairs (x ∷ xs) xs' [] ys' e = absurd (omega (arith, e))
  join_pairs (x ∷ xs) xs' (y ∷ ys) ys' e = ap (λ l. (x, y) ∷ l) (join_pairs xs xs' ys ys' (omega (arith, e)))

  entries_from : (es : List (Entry A)) (fs : List (Entry B)) → map (λ e. e.id) es ≡ map (λ e. e.id) fs → Each (pairs (map (λ e. e.part) es) (map (λ e. e.part) fs)) → SameEntries R es fs
  entries_from [] [] e h = tt
  entries_from [] (y ∷ ys) e h = cc
  entries_from (x ∷ xs) [] e h = cc
  entries_from (x ∷ xs) (y ∷ ys) e h = let i : x.id ≡ y.id = cc in let j : map (λ e. e.id) xs ≡ map (λ e. e.id) ys = cc in (i, h (x.part, y.part) (inl refl), entries_from xs ys j (λ p k. h p (inr k)))

  entries_to : (es : List (Entry A)) (fs : List (Entry B)) → SameEntries R es fs → (map (λ e. e.id) es ≡ map (λ e. e.id) fs) × Each (pairs (map (λ e. e.part) es) (map (λ e. e.part) fs))
  entries_to [] [] h = (refl, λ p i. absurd i)
  entries_to [] (y ∷ ys) h = absurd h
  entries_to (x ∷ xs) [] h = absurd h
  entries_to (x ∷ xs) (y ∷ ys) h = let i = entries_to xs ys h.2 in (ap (λ n. n ∷ map (λ e. e.id) xs) h.0 ∙ ap (λ l. y.id ∷ l) i.0, and_first (x.part, y.part) (pairs (map (λ e. e.part) xs) (map (λ e. e.part) ys)) h.1 i.1)

  methods_from : (es : List (Method A)) (fs : List (Method B)) → map (λ m. m.name) es ≡ map (λ m. m.name) fs → Each (pairs (map (λ m. m.part) es) (map (λ m. m.part) fs)) → SameMethods R es fs
  methods_from [] [] e h = tt
  methods_from [] (y ∷ ys) e h = cc
  methods_from (x ∷ xs) [] e h = cc
  methods_from (x ∷ xs) (y ∷ ys) e h = let i : x.name ≡ y.name = cc in let j : map (λ m. m.name) xs ≡ map (λ m. m.name) ys = cc in (i, h (x.part, y.part) (inl refl), methods_from xs ys j (λ p k. h p (inr k)))

  methods_to : (es : List (Method A)) (fs : List (Method B)) → SameMethods R es fs → (map (λ m. m.name) es ≡ map (λ m. m.name) fs) × Each (pairs (map (λ m. m.part) es) (map (λ m. m.part) fs))
  methods_to [] [] h = (refl, λ p i. absurd i)
  methods_to [] (y ∷ ys) h = absurd h
  methods_to (x ∷ xs) [] h = absurd h
  methods_to (x ∷ xs) (y ∷ ys) h = let i = methods_to xs ys h.2 in (ap (λ n. n ∷ map (λ m. m.name) xs) h.0 ∙ ap (λ l. y.name ∷ l) i.0, and_first (x.part, y.part) (pairs (map (λ m. m.part) xs) (map (λ m. m.part) ys)) h.1 i.1)

  numbers_same : (xs ys : List ℕ) → Decides (pointwise nat_eq xs ys) (xs ≡ ys)
  numbers_same xs ys = pointwise_decides unsigned_Decides xs ys

  names_same : (xs ys : List (List ℕ)) → Decides (pointwise (λ a b. pointwise nat_eq a b) xs ys) (xs ≡ ys)
  names_same xs ys = pointwise_decides numbers_same xs ys

  abbrev Parted : Wire A → Wire B → Type 0
  Parted w v = Each (pairs (parts_of w) (parts_of v))

  pub head_from : (w : Wire A) (v : Wire B) → alike w v ≡ true → Parted w v → SameHead R w v
  head_from (Simple p) (Simple q) e h = code_once p q ((unsigned_Decides (plain_code p) (plain_code q)).0 e)
  head_from (Opt a) (Opt b) e h = h (a, b) (inl refl)
  head_from (Vec a) (Vec b) e h = h (a, b) (inl refl)
  head_from (Record es) (Record fs) e h = entries_from es fs ((numbers_same (map (λ e. e.id) es) (map (λ e. e.id) fs)).0 e) h
  head_from (Variant es) (Variant fs) e h = entries_from es fs ((numbers_same (map (λ e. e.id) es) (map (λ e. e.id) fs)).0 e) h
  head_from (Func ps rs ns) (Func qs ss ms) e h =
      let i = both_true (nat_eq (length ps) (length qs)) (nat_eq (length rs) (length ss) && pointwise nat_eq ns ms) e in
      let j = both_true (nat_eq (length rs) (length ss)) (pointwise nat_eq ns ms) i.1 in
      let l = (unsigned_Decides (length ps) (length qs)).0 i.0 in
      let k = subst Each (join_pairs ps rs qs ss l) h in
      (parts_from ps qs l (λ p x. k p (has_left (pairs ps qs) (pairs rs ss) p x)), parts_from rs ss ((unsigned_Decides (length rs) (length ss)).0 j.0) (λ p x. k p (has_right (pairs ps qs) (pairs rs ss) p x)), (numbers_same ns ms).0 j.1)
  head_from (Service es) (Service fs) e h = methods_from es fs ((names_same (map (λ m. m.name) es) (map (λ m. m.name) fs)).0 e) h
  head_from w v e h = absurd (let f : false ≡ true = e in cc)

  pub head_to : (w : Wire A) (v : Wire B) → SameHead R w v → (alike w v ≡ true) × Parted w v
  head_to (Simple p) (Simple q) h = ((unsigned_Decides (plain_code p) (plain_code q)).1 (ap plain_code h), λ p i. absurd i)
  head_to (Opt a) (Opt b) h = (refl, λ p i. elim i [ inl e ↦ subst (λ (q : A × B). R q.0 q.1) e h | inr j ↦ absurd j ])
  head_to (Vec a) (Vec b) h = (refl, λ p i. elim i [ inl e ↦ subst (λ (q : A × B). R q.0 q.1) e h | inr j ↦ absurd j ])
  head_to (Record es) (Record fs) h = let i = entries_to es fs h in ((numbers_same (map (λ e. e.id) es) (map (λ e. e.id) fs)).1 i.0, i.1)
  head_to (Variant es) (Variant fs) h = let i = entries_to es fs h in ((numbers_same (map (λ e. e.id) es) (map (λ e. e.id) fs)).1 i.0, i.1)
  head_to (Func ps rs ns) (Func qs ss ms) h =
      let i = parts_to ps qs h.0 in
      let j = parts_to rs ss h.1 in (
        true_both (nat_eq (length ps) (length qs)) (nat_eq (length rs) (length ss) && pointwise nat_eq ns ms) ((unsigned_Decides (length ps) (length qs)).1 i.0)
            (true_both (nat_eq (length rs) (length ss)) (pointwise nat_eq ns ms) ((unsigned_Decides (length rs) (length ss)).1 j.0) ((numbers_same ns ms).1 h.2)),
        subst Each (sym (join_pairs ps rs qs ss i.0)) (λ p x. elim (has_either (pairs ps qs) (pairs rs ss) p x) [ inl y ↦ i.1 p y | inr y ↦ j.1 p y ]),
      )
  head_to (Service es) (Service fs) h = let i = methods_to es fs h in ((names_same (map (λ m. m.name) es) (map (λ m. m.name) fs)).1 i.0, i.1)
  head_to w v h = absurd h

-- ---- all pairs

pair_left : {A B : Type 0} (xs : List A) (ys : List B) (p : A × B) → Has (pairs xs ys) p → Has xs p.0 × Has ys p.1
pair_left [] ys p h = absurd h
pair_left (x ∷ xs) [] p h = absurd h
pair_left (x ∷ xs) (y ∷ ys) p (inl e) = (inl (ap (λ q. q.0) e), inl (ap (λ q. q.1) e))
pair_left (x ∷ xs) (y ∷ ys) p (inr h) = let i = pair_left xs ys p h in (inr i.0, inr i.1)

product_has : {A B : Type 0} (xs : List A) (ys : List B) (p : A × B) → Has xs p.0 → Has ys p.1 → Has (products xs ys) p
product_has {A} {B} xs ys p h k = has_mapped (λ x. map (λ y. (x, y)) ys) xs p.0 p h (mapped (λ (y : B). (p.0, y)) ys p.1 k)

module _ {A B : Type 0} (g : Heads A) (k : Heads B) (fg : AreFinite g) (fk : AreFinite k) where
  pair_known : (order : List (A × B)) (p : A × B) → has_pair g k order p ≡ true → Has order p
  pair_known [] p e = cc
  pair_known (q ∷ qs) p e = elim (or_either (nat_eq (g.number q.0) (g.number p.0) && nat_eq (k.number q.1) (k.number p.1)) (has_pair g k qs p) e) [
    | inl f ↦ inl (one (both_true (nat_eq (g.number q.0) (g.number p.0)) (nat_eq (k.number q.1) (k.number p.1)) f))
    | inr f ↦ inr (pair_known qs p f)
  ] where
    one : (nat_eq (g.number q.0) (g.number p.0) ≡ true) × (nat_eq (k.number q.1) (k.number p.1) ≡ true) → q ≡ p
    one e =
        let x = fg.once q.0 p.0 ((unsigned_Decides (g.number q.0) (g.number p.0)).0 e.0) in
        let y = fk.once q.1 p.1 ((unsigned_Decides (k.number q.1) (k.number p.1)).0 e.1) in
        ap (λ a. (a, q.1)) x ∙ ap (λ b. (p.0, b)) y

  known_pair : (order : List (A × B)) (p : A × B) → Has order p → has_pair g k order p ≡ true
  known_pair [] p h = absurd h
  known_pair (q ∷ qs) p (inl e) = or_left (nat_eq (g.number q.0) (g.number p.0) && nat_eq (k.number q.1) (k.number p.1)) (has_pair g k qs p)
      (true_both (nat_eq (g.number q.0) (g.number p.0)) (nat_eq (k.number q.1) (k.number p.1)) ((unsigned_Decides (g.number q.0) (g.number p.0)).1 (ap (λ (z : A × B). g.number z.0) e)) ((unsigned_Decides (k.number q.1) (k.number p.1)).1 (ap (λ (z : A × B). k.number z.1) e)))
  known_pair (q ∷ qs) p (inr h) = or_right (nat_eq (g.number q.0) (g.number p.0) && nat_eq (k.number q.1) (k.number p.1)) (has_pair g k qs p) (known_pair qs p h)

  module _ (a : A) (b : B) where
    walk : Walk (has_pair g k) (asks g k) [] ((a, b) ∷ []) (met_pairs g k a b)
    walk = walked (has_pair g k) (asks g k) ((a, b) ∷ products g.parts k.parts)
        (λ order t x e. known_pair (order ++ t ∷ []) x (has_left order (t ∷ []) x (pair_known order x e)))
        (λ order t. known_pair (order ++ t ∷ []) t (has_right order (t ∷ []) t (inl refl)))
        (λ t x h. let i = pair_left (parts_of (g.head t.0)) (parts_of (k.head t.1)) x h in inr (product_has g.parts k.parts x (fg.closed t.0 x.0 i.0) (fk.closed t.1 x.1 i.1)))
        ((a, b) ∷ []) (λ x h. elim h [ inl e ↦ inl e | inr i ↦ absurd i ])

    down : (t x : A × B) → SameWire g.head k.head t.0 t.1 → Has (asks g k t) x → SameWire g.head k.head x.0 x.1
    down t x s i = record { to = (head_to (λ y z. (n : ℕ) → SameTo g.head k.head n y z) (g.head t.0) (k.head t.1) (same_heads g.head k.head t.0 t.1 s)).1 x i }

    pub same_from : SameWire g.head k.head a b → same g k a b ≡ true
    same_from s = true_all (are_alike g k) (met_pairs g k a b) (λ p h.
        let t = met (has_pair g k) (asks g k) (λ (q : A × B). SameWire g.head k.head q.0 q.1) down walk (λ x i. absurd i) (λ x i. elim i [ inl e ↦ subst (λ (q : A × B). SameWire g.head k.head q.0 q.1) e s | inr j ↦ absurd j ]) p h in
        (head_to (λ y z. (n : ℕ) → SameTo g.head k.head n y z) (g.head p.0) (k.head p.1) (same_heads g.head k.head p.0 p.1 t)).0)

    all_same : same g k a b ≡ true → (n : ℕ) (p : A × B) → Has (met_pairs g k a b) p → SameTo g.head k.head n p.0 p.1
    unfolding SameTo
    all_same e zero p h = tt
    all_same e (suc n) p h = head_from (SameTo g.head k.head n) (g.head p.0) (k.head p.1) (all_true (are_alike g k) (met_pairs g k a b) e p h)
        (λ q i. all_same e n q (closes (has_pair g k) (asks g k) pair_known walk (λ s x j l. absurd j) p q h i))

    pub same_to : same g k a b ≡ true → SameWire g.head k.head a b
    same_to e = record { to = λ n. all_same e n (a, b) (kept (has_pair g k) (asks g k) pair_known walk (a, b) (inr (inl refl))) }

  pub same_decides : (a b : _) → Decides (same g k a b) (SameWire g.head k.head a b)
  same_decides a b = (same_to a b, same_from a b)
