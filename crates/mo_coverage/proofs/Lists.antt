-- Lists of what is known, and lists of columns.
use Rattle.std.proofs.Common.{◌≡◌, ℕ, zero, suc, List, [], ◌∷◌, ◌++◌, ◌≤◌, length, None, arith, refl, ap, ◌∙◌, append_assoc}
use Rattle.std.specs.Prelude.{slice_get, slice_set}
use Rattle.std.proofs.lemmas.Option.{slice_get_past}
use Rattle.std.proofs.lemmas.List.{map-append, map-set, length-map, length-append}
use Rattle.pattern_coverage.specs.Cutting.{Piece}
use Rattle.mo_types.specs.Values.{copies}
use Rattle.pattern_coverage.specs.Known.{Known, Unknown}
use Rattle.mo_coverage.specs.declared.columns.Column.{Column}
use Rattle.mo_coverage.specs.Columns as columns
use Rattle.mo_coverage.specs.Columns.{column, list_of, spread}
use Rattle.mo_coverage.specs.ColumnView.{column_in, columns_in}
use Rattle.mo_coverage.specs.Shapes.{all_known, known, knowns}
use Rattle.mo_coverage.specs.declared.shape.Shape.{Shape}

pub list_back : (ks : List Known) → list_of (knowns ks) ≡ ks
list_back [] = refl
list_back (k ∷ ks) = ap (λ z. k ∷ z) (list_back ks)

pub column_added : (ss : List Column) (s : Column) (rest : List columns.Column) → columns_in (ss ++ s ∷ []) ++ rest ≡ columns_in ss ++ column_in s ∷ rest
column_added ss s rest = ap (λ z. z ++ rest) (map-append column_in ss (s ∷ [])) ∙ append_assoc (columns_in ss) (column_in s ∷ []) rest

pub spread_added : (i : ℕ) (ks : List Known) (cs : List Piece) (c : Piece) → spread i ks (cs ++ c ∷ []) ≡ spread i ks cs ++ column c.matched (slice_set ks i c.known) ∷ []
spread_added i ks [] c = refl
spread_added i ks (d ∷ cs) c = ap (λ z. column d.matched (slice_set ks i d.known) ∷ z) (spread_added i ks cs c)

-- ---- one of them replaced

pub known_set : (ks : List Shape) (i : ℕ) (k : Shape) → all_known (slice_set ks i k) ≡ slice_set (all_known ks) i (known k)
known_set ks i k = map-set known ks i k

set_past : (ks : List Known) (i : ℕ) (k : Known) → length ks ≤ i → slice_set ks i k ≡ ks
set_past [] i k l = refl
set_past (j ∷ ks) zero k l = absurd (omega (arith, l))
set_past (j ∷ ks) (suc i) k l = ap (λ z. j ∷ z) (set_past ks i k (omega (arith, l)))

known_length : (ks : List Shape) (i : ℕ) → length ks ≤ i → length (all_known ks) ≤ i
known_length ks i l = let e : length (all_known ks) ≡ length ks = length-map ks known in omega (arith, l, e)

pub known_set_past : (ks : List Shape) (i : ℕ) (k : Known) → length ks ≤ i → slice_set (all_known ks) i k ≡ all_known ks
known_set_past ks i k l = set_past (all_known ks) i k (known_length ks i l)

pub known_get_past : (ks : List Shape) (i : ℕ) → length ks ≤ i → slice_get (all_known ks) i ≡ None
known_get_past ks i l = slice_get_past (all_known ks) i (known_length ks i l)

pub set_twice : (ks : List Known) (i : ℕ) (j k : Known) → slice_set (slice_set ks i j) i k ≡ slice_set ks i k
set_twice [] i j k = refl
set_twice (h ∷ ks) zero j k = refl
set_twice (h ∷ ks) (suc i) j k = ap (λ z. h ∷ z) (set_twice ks i j k)

pub spread_set : (i : ℕ) (ks : List Known) (j : Known) (cs : List Piece) → spread i (slice_set ks i j) cs ≡ spread i ks cs
spread_set i ks j [] = refl
spread_set i ks j (c ∷ cs) = ap (λ z. column c.matched z ∷ spread i (slice_set ks i j) cs) (set_twice ks i j c.known) ∙ ap (λ z. column c.matched (slice_set ks i c.known) ∷ z) (spread_set i ks j cs)

-- ---- copies

pub copies_more : {A : Type 0} (n : ℕ) (a : A) → copies n a ++ a ∷ [] ≡ copies (suc n) a
copies_more zero a = refl
copies_more (suc n) a = ap (λ z. a ∷ z) (copies_more n a)

pub one_more_byte : (bytes : List ℕ) (b : ℕ) → bytes ≡ copies (length bytes) b → bytes ++ b ∷ [] ≡ copies (length (bytes ++ b ∷ [])) b
one_more_byte bytes b e = ap (λ z. z ++ b ∷ []) e ∙ copies_more (length bytes) b ∙ ap (λ n. copies n b) (let h : suc (length bytes) ≡ length (bytes ++ b ∷ []) = omega (arith, length-append {A = ℕ}) in h)

pub one_more_unknown : (ks : List Shape) (k : Shape) → known k ≡ Unknown → all_known ks ≡ copies (length ks) Unknown → all_known (ks ++ k ∷ []) ≡ copies (length (ks ++ k ∷ [])) Unknown
one_more_unknown ks k v e =
    map-append known ks (k ∷ []) ∙ ap (λ z. z ++ known k ∷ []) e ∙ ap (λ z. copies (length ks) Unknown ++ z ∷ []) v ∙ copies_more (length ks) Unknown
    ∙ ap (λ n. copies n Unknown) (let h : suc (length ks) ≡ length (ks ++ k ∷ []) = omega (arith, length-append {A = Shape}) in h)

pub one_known_more : (ks : List Shape) (k : Shape) (rest : List Known) → all_known (ks ++ k ∷ []) ++ rest ≡ all_known ks ++ known k ∷ rest
one_known_more ks k rest = ap (λ z. z ++ rest) (map-append known ks (k ∷ [])) ∙ append_assoc (all_known ks) (known k ∷ []) rest
