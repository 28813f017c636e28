-- Types put in place of parameters, twice.
use Rattle.std.proofs.Common.{◌≡◌, ℕ, Bool, true, false, List, [], ◌∷◌, cond, nat_eq, refl, ap, ◌∙◌}
use Rattle.typing_rules.specs.Terms.{Term, Terms, Fields, put_in, each_put_in, fields_put_in, argument_of}
use Rattle.typing_rules.specs.Terms as t

module _ (s a b : ℕ → Term) (h : (q : ℕ) → put_in s (a q) ≡ b q) where
  mutual
    -- put in one after the other is put in at once
    pub twice : (u : Term) → put_in s (put_in a u) ≡ put_in b u
    twice (t.Number k) = refl
    twice t.Boolean = refl
    twice t.Character = refl
    twice t.Text = refl
    twice t.Blob = refl
    twice t.Principal = refl
    twice t.Error = refl
    twice t.Null = refl
    twice t.Any = refl
    twice t.Bottom = refl
    twice (t.Optional u) = ap t.Optional (twice u)
    twice (t.Array u) = ap t.Array (twice u)
    twice (t.MutableArray u) = ap t.MutableArray (twice u)
    twice (t.Tuple us) = ap t.Tuple (each_twice us)
    twice (t.Object fs) = ap t.Object (fields_twice fs)
    twice (t.Actor fs) = ap t.Actor (fields_twice fs)
    twice (t.Variant fs) = ap t.Variant (fields_twice fs)
    twice (t.Function us r) = ap (λ z. t.Function z (put_in s (put_in a r))) (each_twice us) ∙ ap (λ z. t.Function (each_put_in b us) z) (twice r)
    twice (t.Shared o us r) = ap (λ z. t.Shared o z (put_in s (put_in a r))) (each_twice us) ∙ ap (λ z. t.Shared o (each_put_in b us) z) (twice r)
    twice (t.Async u) = ap t.Async (twice u)
    twice (t.Parameter at) = h at
    twice (t.Use at us) = ap (t.Use at) (each_twice us)

    each_twice : (us : Terms) → each_put_in s (each_put_in a us) ≡ each_put_in b us
    each_twice t.Nil = refl
    each_twice (t.Cons u us) = ap (λ z. t.Cons z (each_put_in s (each_put_in a us))) (twice u) ∙ ap (t.Cons (put_in b u)) (each_twice us)

    fields_twice : (fs : Fields) → fields_put_in s (fields_put_in a fs) ≡ fields_put_in b fs
    fields_twice t.NoFields = refl
    fields_twice (t.WithField l m u fs) =
        ap (λ z. t.WithField l m z (fields_put_in s (fields_put_in a fs))) (twice u) ∙ ap (t.WithField l m (put_in b u)) (fields_twice fs)

-- what stands in the place of a parameter, when types are put into the arguments
pub argument_put : (s : ℕ → Term) (ps : List ℕ) (us : Terms) (q : ℕ) → put_in s (argument_of ps us q) ≡ argument_of ps (each_put_in s us) q
argument_put s [] us q = refl
argument_put s (p ∷ ps) t.Nil q = refl
argument_put s (p ∷ ps) (t.Cons u us) q = by (nat_eq p q) (argument_put s ps us q) where
  by : (c : Bool) → put_in s (argument_of ps us q) ≡ argument_of ps (each_put_in s us) q
      → put_in s (cond c u (argument_of ps us q)) ≡ cond c (put_in s u) (argument_of ps (each_put_in s us) q)
  by true h = refl
  by false h = h
