-- What types need into which others are put.
use Rattle.std.proofs.Common.{◌≡◌, ℕ, Bool, true, false, ◌&&◌, not, List, [], ◌∷◌, cond, nat_eq, refl, ap, ◌∙◌}
use Rattle.typing_rules.specs.Terms.{Term, Terms, Fields, put_in, each_put_in, fields_put_in, argument_of}
use Rattle.typing_rules.specs.Terms as t
use Rattle.shareable_types.specs.declared.needs.Needs.{Needs}
use Rattle.shareable_types.specs.Sharing.{every, allowed, of_argument, all_constant, shares, each_shares, fields_share}

mutual
  -- parameters in the place of themselves
  pub put_itself : (u : Term) → put_in t.Parameter u ≡ u
  put_itself (t.Number k) = refl
  put_itself t.Boolean = refl
  put_itself t.Character = refl
  put_itself t.Text = refl
  put_itself t.Blob = refl
  put_itself t.Principal = refl
  put_itself t.Error = refl
  put_itself t.Null = refl
  put_itself t.Any = refl
  put_itself t.Bottom = refl
  put_itself (t.Optional a) = ap t.Optional (put_itself a)
  put_itself (t.Array a) = ap t.Array (put_itself a)
  put_itself (t.MutableArray a) = ap t.MutableArray (put_itself a)
  put_itself (t.Tuple us) = ap t.Tuple (each_itself us)
  put_itself (t.Object fs) = ap t.Object (fields_itself fs)
  put_itself (t.Actor fs) = ap t.Actor (fields_itself fs)
  put_itself (t.Variant fs) = ap t.Variant (fields_itself fs)
  put_itself (t.Function us r) = ap (λ z. t.Function z (put_in t.Parameter r)) (each_itself us) ∙ ap (t.Function us) (put_itself r)
  put_itself (t.Shared s us r) = ap (λ z. t.Shared s z (put_in t.Parameter r)) (each_itself us) ∙ ap (t.Shared s us) (put_itself r)
  put_itself (t.Async a) = ap t.Async (put_itself a)
  put_itself (t.Parameter at) = refl
  put_itself (t.Use at us) = ap (t.Use at) (each_itself us)

  each_itself : (us : Terms) → each_put_in t.Parameter us ≡ us
  each_itself t.Nil = refl
  each_itself (t.Cons u us) = ap (λ z. t.Cons z (each_put_in t.Parameter us)) (put_itself u) ∙ ap (t.Cons u) (each_itself us)

  fields_itself : (fs : Fields) → fields_put_in t.Parameter fs ≡ fs
  fields_itself t.NoFields = refl
  fields_itself (t.WithField l m u fs) = ap (λ z. t.WithField l m z (fields_put_in t.Parameter fs)) (put_itself u) ∙ ap (t.WithField l m u) (fields_itself fs)

constant_put : (s : ℕ → Term) (fs : Fields) → all_constant (fields_put_in s fs) ≡ all_constant fs
constant_put s t.NoFields = refl
constant_put s (t.WithField l m u fs) = ap (λ b. not m && b) (constant_put s fs)

module _ (any : Bool) (parameters : ℕ → List ℕ) (needed : ℕ → Needs) where
  -- what is known of an argument is what is known of the type that it is
  pub argument_is : (x : ℕ → Bool) (qs : List ℕ) (us : Terms) (p : ℕ) → of_argument qs (each_shares any parameters needed x us) p ≡ shares any parameters needed x (argument_of qs us p)
  argument_is x [] us p = refl
  argument_is x (q ∷ qs) t.Nil p = refl
  argument_is x (q ∷ qs) (t.Cons u us) p = by (nat_eq q p) (argument_is x qs us p) where
    by : (c : Bool) → of_argument qs (each_shares any parameters needed x us) p ≡ shares any parameters needed x (argument_of qs us p)
        → cond c (shares any parameters needed x u) (of_argument qs (each_shares any parameters needed x us) p) ≡ shares any parameters needed x (cond c u (argument_of qs us p))
    by true h = refl
    by false h = h

  module _ (s : ℕ → Term) (x y : ℕ → Bool) (h : (q : ℕ) → shares any parameters needed x (s q) ≡ y q) where
    mutual
      -- it is so of a type with others put in as of the type, where it is so of its parameters as of those
      pub put : (u : Term) → shares any parameters needed x (put_in s u) ≡ shares any parameters needed y u
      put (t.Number k) = refl
      put t.Boolean = refl
      put t.Character = refl
      put t.Text = refl
      put t.Blob = refl
      put t.Principal = refl
      put t.Error = refl
      put t.Null = refl
      put t.Any = refl
      put t.Bottom = refl
      put (t.Optional a) = put a
      put (t.Array a) = put a
      put (t.MutableArray a) = refl
      put (t.Tuple us) = ap every (each_put us)
      put (t.Object fs) =
          ap (λ b. b && every (fields_share any parameters needed x (fields_put_in s fs))) (constant_put s fs) ∙ ap (λ bs. all_constant fs && every bs) (fields_put fs)
      put (t.Actor fs) = refl
      put (t.Variant fs) = ap every (fields_put fs)
      put (t.Function us r) = refl
      put (t.Shared o us r) = refl
      put (t.Async a) = refl
      put (t.Parameter at) = h at
      put (t.Use at us) = ap (λ bs. allowed (of_argument (parameters at) bs) (needed at)) (each_put us)

      each_put : (us : Terms) → each_shares any parameters needed x (each_put_in s us) ≡ each_shares any parameters needed y us
      each_put t.Nil = refl
      each_put (t.Cons u us) = ap (λ b. b ∷ each_shares any parameters needed x (each_put_in s us)) (put u) ∙ ap (λ bs. shares any parameters needed y u ∷ bs) (each_put us)

      fields_put : (fs : Fields) → fields_share any parameters needed x (fields_put_in s fs) ≡ fields_share any parameters needed y fs
      fields_put t.NoFields = refl
      fields_put (t.WithField l m u fs) = ap (λ b. b ∷ fields_share any parameters needed x (fields_put_in s fs)) (put u) ∙ ap (λ bs. shares any parameters needed y u ∷ bs) (fields_put fs)
