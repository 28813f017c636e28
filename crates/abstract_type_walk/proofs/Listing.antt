-- Loops that walk over one thing after another, with a separator between each two.
use Rattle.std.proofs.Common.{◌≡◌, ℕ, ◌+◌, ◌<◌, ◌≤◌, List, [], ◌∷◌, ◌++◌, length, get_or, drop, map, ap, sym, subst, ◌∙◌, append_assoc, append-nil, refl, arith}
use Rattle.std.proofs.lemmas.List.{drop_more, at_drop_all, map_push}
use Rattle.typing_rules.specs.Spans.{Span, listed_from, listed_size}
use Rattle.abstract_type_walk.specs.Stands.{Stands, Lists}

module _ {X A B : Type 0} (f : X → Span B) (see : A → B) where
  -- the tokens of these, of which the first is behind so many
  abbrev pub behind : ℕ → List X → ℕ
  behind mark [] = 0
  behind mark (x ∷ xs) = mark + listed_size (map f (x ∷ xs))

  -- what is made of the items before these, the number of the token behind the last of them, and how many tokens stand before the next
  pub record Along (items : List X) (start : ℕ) (rest : List X) (made : List A) (next mark : ℕ) : Type 0 where
    pub parts : map see made ++ listed_from (map f rest) (next + mark) ≡ listed_from (map f items) start
    pub size : next + behind mark rest ≡ start + listed_size (map f items)

  size_of : (x : X) (xs : List X) → listed_size (map f (x ∷ xs)) ≡ (f x).size + behind 1 xs
  size_of x [] = let h : (f x).size ≡ (f x).size + 0 = omega arith in h
  size_of x (y ∷ ys) = let h : (f x).size + 1 + listed_size (map f (y ∷ ys)) ≡ (f x).size + (1 + listed_size (map f (y ∷ ys))) = omega arith in h

  nothing_before : (items : List X) → behind 0 items ≡ listed_size (map f items)
  nothing_before [] = refl
  nothing_before (x ∷ xs) = let h : 0 + listed_size (map f (x ∷ xs)) ≡ listed_size (map f (x ∷ xs)) = omega arith in h

  -- the beginning
  pub none_made : (items : List X) (start : ℕ) (made : List A) → made ≡ [] → Along items start items made start 0
  none_made items start made m =
      let z : start + 0 ≡ start = omega arith in
      record {
        parts = ap (λ zs. map see zs ++ listed_from (map f items) (start + 0)) m ∙ ap (λ k. listed_from (map f items) k) z;
        size = ap (λ k. start + k) (nothing_before items);
      }

  -- one turn
  pub one_more : (items : List X) (start : ℕ) (xs : List X) (i : ℕ) (x : X) (made new : List A) (y : A) (next mark last : ℕ)
      → i < length xs → x ≡ get_or xs i x → Stands see (f x) (next + mark) (y, last) → new ≡ made ++ y ∷ []
      → Along items start (drop i xs) made next mark → Along items start (drop (i + 1) xs) new last 1
  one_more items start xs i x made new y next mark last h e s n a =
      let d : drop i xs ≡ x ∷ drop (i + 1) xs = drop_more xs i x h ∙ ap (λ z. z ∷ drop (i + 1) xs) (sym e) in
      let b : Along items start (x ∷ drop (i + 1) xs) made next mark = subst (λ (zs : List X). Along items start zs made next mark) d a in
      let l : last ≡ next + mark + (f x).size = s.next in
      let k : next + (mark + listed_size (map f (x ∷ drop (i + 1) xs))) ≡ start + listed_size (map f items) = b.size in
      let t : listed_size (map f (x ∷ drop (i + 1) xs)) ≡ (f x).size + behind 1 (drop (i + 1) xs) = size_of x (drop (i + 1) xs) in
      let g : last + 1 ≡ next + mark + (f x).size + 1 = omega arith in
      let rest = map f (drop (i + 1) xs) in
      record {
        parts = ap (λ zs. map see zs ++ listed_from rest (last + 1)) n
            ∙ ap (λ zs. zs ++ listed_from rest (last + 1)) (map_push see made y)
            ∙ append_assoc (map see made) (see y ∷ []) (listed_from rest (last + 1))
            ∙ ap (λ z. map see made ++ z ∷ listed_from rest (last + 1)) s.part
            ∙ ap (λ z. map see made ++ (f x).from (next + mark) ∷ listed_from rest z) g
            ∙ b.parts;
        size = omega arith;
      }

  -- the end
  pub all_made : (items : List X) (start wanted : ℕ) (xs : List X) (i : ℕ) (made : List A) (next mark : ℕ) → start ≡ wanted → length xs ≤ i → Along items start (drop i xs) made next mark
      → Lists see (map f items) wanted (made, next)
  all_made items start wanted xs i made next mark o h a =
      let p : listed_from (map f (drop i xs)) (next + mark) ≡ [] = at_drop_all (λ zs. listed_from (map f zs) (next + mark)) xs i h in
      let q : behind mark (drop i xs) ≡ 0 = at_drop_all (behind mark) xs i h in
      let k : next + behind mark (drop i xs) ≡ start + listed_size (map f items) = a.size in
      record {
        parts = sym (append-nil (map see made)) ∙ ap (λ zs. map see made ++ zs) (sym p) ∙ a.parts ∙ ap (listed_from (map f items)) o;
        next = omega arith;
      }
