-- Sizes of groups.
use Rattle.std.proofs.Common.{◌≡◌, ℕ, zero, suc, ◌+◌, ◌<◌, ◌≤◌, List, [], ◌∷◌, ◌++◌, map, length, get_or, refl, sym, ap, ◌∙◌, subst, max, arith}
use Rattle.body_lists.specs.Counted.{AreCounted, all_of}
use Rattle.body_lists.specs.Known.{before_of, size_of}

abbrev pub sizes : List (ℕ × ℕ) → List ℕ
sizes gs = map (λ g. g.0) gs

added : (gs : List (ℕ × ℕ)) (before all size more : ℕ) → AreCounted before gs all → more ≡ all + size → AreCounted before (gs ++ (size, all) ∷ []) more
added [] before all size more h e = (sym h, ap (λ n. n + size) h ∙ sym e)
added (g ∷ gs) before all size more h e = (h.0, added gs (before + g.0) all size more h.1 e)

pub pushed : (gs new : List (ℕ × ℕ)) (all size more : ℕ) → new ≡ gs ++ (size, all) ∷ [] → AreCounted 0 gs all → more ≡ all + size → AreCounted 0 new more
pushed gs new all size more e h m = subst (λ l. AreCounted 0 l more) (sym e) (added gs 0 all size more h m)

counted : (gs : List (ℕ × ℕ)) (before all : ℕ) → AreCounted before gs all → all ≡ before + all_of (sizes gs)
counted [] before all h = omega (arith, h)
counted (g ∷ gs) before all h = let r = counted gs (before + g.0) all h.1 in omega (arith, r)

pub all_counted : (gs : List (ℕ × ℕ)) (all : ℕ) → AreCounted 0 gs all → all ≡ all_of (sizes gs)
all_counted gs all h = let r = counted gs 0 all h in omega (arith, r)

pub size_found : (gs : List (ℕ × ℕ)) (n : ℕ) (d : ℕ × ℕ) → n < length gs → (get_or gs n d).0 ≡ size_of (sizes gs) n
size_found [] n d l = absurd (omega (arith, l))
size_found (g ∷ gs) zero d l = refl
size_found (g ∷ gs) (suc n) d l = size_found gs n d (omega (arith, l))

pub size_missing : (gs : List (ℕ × ℕ)) (n : ℕ) → length gs ≤ n → 0 ≡ size_of (sizes gs) n
size_missing [] n l = refl
size_missing (g ∷ gs) zero l = absurd (omega (arith, l))
size_missing (g ∷ gs) (suc n) l = size_missing gs n (omega (arith, l))

before_at : (gs : List (ℕ × ℕ)) (before all n : ℕ) (d : ℕ × ℕ) → AreCounted before gs all → n < length gs → (get_or gs n d).1 ≡ before + before_of (sizes gs) n
before_at [] before all n d h l = absurd (omega (arith, l))
before_at (g ∷ gs) before all zero d h l = let r = h.0 in omega (arith, r)
before_at (g ∷ gs) before all (suc n) d h l = let r = before_at gs (before + g.0) all n d h.1 (omega (arith, l)) in omega (arith, r)

pub before_found : (gs : List (ℕ × ℕ)) (all n : ℕ) (d : ℕ × ℕ) → AreCounted 0 gs all → n < length gs → (get_or gs n d).1 ≡ before_of (sizes gs) n
before_found gs all n d h l = let r = before_at gs 0 all n d h l in omega (arith, r)

past : (gs : List (ℕ × ℕ)) (before all n : ℕ) → AreCounted before gs all → length gs ≤ n → all ≡ before + before_of (sizes gs) n
past [] before all n h l = omega (arith, h)
past (g ∷ gs) before all zero h l = absurd (omega (arith, l))
past (g ∷ gs) before all (suc n) h l = let r = past gs (before + g.0) all n h.1 (omega (arith, l)) in omega (arith, r)

pub before_missing : (gs : List (ℕ × ℕ)) (all n : ℕ) → AreCounted 0 gs all → length gs ≤ n → all ≡ before_of (sizes gs) n
before_missing gs all n h l = let r = past gs 0 all n h l in omega (arith, r)

pub max_more : (a b c : ℕ) → max (max a b) c ≡ max a (max b c)
max_more a b c = omega arith
