-- A name may be followed step by step, with its arguments put into its right side.
use Rattle.std.proofs.Common.{◌≡◌, ℕ, zero, suc, Bool, true, false, List, [], ◌∷◌, ◌++◌, length, Option, Some, None, cond, nat_eq, refl, sym, ap, ◌∙◌}
use Rattle.typing_rules.specs.Terms.{Term, Terms, put_in, each_put_in, argument_of}
use Rattle.typing_rules.specs.Terms as t
use Rattle.typing_rules.specs.Definitions.{Definition, definition_at, at_reached, found_of, parameters_of, followed, each_followed, followed_right, reaches, reached}
use Rattle.type_definitions.proofs.Putting.{twice, argument_put}

-- ---- what is put in

module _ (s a b : ℕ → Term) (h : (q : ℕ) → put_in s (a q) ≡ b q) (f g k : ℕ → Option Term) (e : (p : ℕ) → at_reached s k (f p) ≡ g p) where
  put_reached : (o : Option Term) → at_reached b g o ≡ at_reached s k (at_reached a f o)
  put_reached None = refl
  put_reached (Some (t.Parameter p)) = sym (e p)
  put_reached (Some (t.Number n)) = refl
  put_reached (Some u) = ap (λ (z : Term). Some z) (sym (twice s a b h u))

module _ (types : List Definition) (below : ℕ → Option Term) (s : ℕ → Term) where
  abbrev go : Term → Option Term
  go u = followed types below u

  abbrev on : Option Term → Option Term
  on o = at_reached s (λ p. go (s p)) o

  mutual
    -- what is followed with types put in is what is followed, with the types put in
    pub follow_put : (u : Term) → go (put_in s u) ≡ on (go u)
    follow_put (t.Use at us) =
        put_reached s (argument_of (ps at) us) (argument_of (ps at) (each_put_in s us)) (argument_put s (ps at) us)
        (found_of (ps at) (each_followed types below us)) (found_of (ps at) (each_followed types below (each_put_in s us))) (λ p. go (s p))
        (found_put (ps at) us) (below at)
      where
        ps : ℕ → List ℕ
        ps at = parameters_of (definition_at types at)
    follow_put (t.Parameter at) = refl
    follow_put (t.Number n) = refl
    follow_put u = refl

    found_put : (ps : List ℕ) (us : Terms) (p : ℕ) → on (found_of ps (each_followed types below us) p) ≡ found_of ps (each_followed types below (each_put_in s us)) p
    found_put [] us p = refl
    found_put (q ∷ ps) t.Nil p = refl
    found_put (q ∷ ps) (t.Cons u us) p = by (nat_eq q p) (follow_put u) (found_put ps us p) where
      by : (c : Bool) → go (put_in s u) ≡ on (go u) → on (found_of ps (each_followed types below us) p) ≡ found_of ps (each_followed types below (each_put_in s us)) p
          → on (cond c (go u) (found_of ps (each_followed types below us) p)) ≡ cond c (go (put_in s u)) (found_of ps (each_followed types below (each_put_in s us)) p)
      by true e f = sym e
      by false e f = f

-- ---- more definitions lead on

module _ (types : List Definition) (below above : ℕ → Option Term) (up : (at : ℕ) (u : Term) → below at ≡ Some u → above at ≡ Some u) where
  reached_up : (s : ℕ → Term) (f g : ℕ → Option Term) → ((p : ℕ) (u : Term) → f p ≡ Some u → g p ≡ Some u) → (o q : Option Term) (u : Term)
      → ((v : Term) → o ≡ Some v → q ≡ Some v) → at_reached s f o ≡ Some u → at_reached s g q ≡ Some u
  reached_up s f g e None q u h k = cc
  reached_up s f g e (Some (t.Parameter p)) q u h k = ap (at_reached s g) (h (t.Parameter p) refl) ∙ e p u k
  reached_up s f g e (Some (t.Number n)) q u h k = ap (at_reached s g) (h (t.Number n) refl) ∙ k
  reached_up s f g e (Some v) q u h k = ap (at_reached s g) (h v refl) ∙ k

  mutual
    pub follow_up : (v u : Term) → followed types below v ≡ Some u → followed types above v ≡ Some u
    follow_up (t.Use at us) u h =
        reached_up (argument_of (parameters_of (definition_at types at)) us)
        (found_of (parameters_of (definition_at types at)) (each_followed types below us)) (found_of (parameters_of (definition_at types at)) (each_followed types above us))
        (found_up (parameters_of (definition_at types at)) us) (below at) (above at) u (up at) h
    follow_up (t.Parameter at) u h = h
    follow_up (t.Number n) u h = h
    follow_up v u h = h

    found_up : (ps : List ℕ) (us : Terms) (p : ℕ) (u : Term) → found_of ps (each_followed types below us) p ≡ Some u → found_of ps (each_followed types above us) p ≡ Some u
    found_up [] us p u h = h
    found_up (q ∷ ps) t.Nil p u h = h
    found_up (q ∷ ps) (t.Cons v us) p u h = by (nat_eq q p) (follow_up v u) (found_up ps us p u) h where
      by : (c : Bool) → (followed types below v ≡ Some u → followed types above v ≡ Some u)
          → (found_of ps (each_followed types below us) p ≡ Some u → found_of ps (each_followed types above us) p ≡ Some u)
          → cond c (followed types below v) (found_of ps (each_followed types below us) p) ≡ Some u
          → cond c (followed types above v) (found_of ps (each_followed types above us) p) ≡ Some u
      by true e f k = e k
      by false e f k = f k

module _ (types : List Definition) where
  right_up : (below above : ℕ → Option Term) → ((at : ℕ) (u : Term) → below at ≡ Some u → above at ≡ Some u) → (d : Option Definition) (u : Term)
      → followed_right types below d ≡ Some u → followed_right types above d ≡ Some u
  right_up below above up None u h = h
  right_up below above up (Some d) u h = follow_up types below above up d.right u h

  pub reaches_on : (n at : ℕ) (u : Term) → reaches types n at ≡ Some u → reaches types (suc n) at ≡ Some u
  reaches_on zero at u h = cc
  reaches_on (suc n) at u h = right_up (reaches types n) (reaches types (suc n)) (reaches_on n) (definition_at types at) u h

  -- what a definition reaches is what its right side leads to
  pub reached_right : (at : ℕ) (u : Term) → reached types at ≡ Some u → followed_right types (reached types) (definition_at types at) ≡ Some u
  reached_right at u h = right_up (reaches types (length types)) (reached types) (reaches_on (length types)) (definition_at types at) u h

  -- ---- the use of a name

  abbrev follow : Term → Option Term
  follow u = followed types (reached types) u

  found_argument : (below : ℕ → Option Term) (ps : List ℕ) (us : Terms) (p : ℕ) → found_of ps (each_followed types below us) p ≡ followed types below (argument_of ps us p)
  found_argument below [] us p = refl
  found_argument below (q ∷ ps) t.Nil p = refl
  found_argument below (q ∷ ps) (t.Cons u us) p = by (nat_eq q p) (found_argument below ps us p) where
    by : (c : Bool) → found_of ps (each_followed types below us) p ≡ followed types below (argument_of ps us p)
        → cond c (followed types below u) (found_of ps (each_followed types below us) p) ≡ followed types below (cond c u (argument_of ps us p))
    by true e = refl
    by false e = e

  same_reached : (s : ℕ → Term) (f g : ℕ → Option Term) → ((p : ℕ) → f p ≡ g p) → (o : Option Term) → at_reached s f o ≡ at_reached s g o
  same_reached s f g e None = refl
  same_reached s f g e (Some (t.Parameter p)) = e p
  same_reached s f g e (Some (t.Number n)) = refl
  same_reached s f g e (Some u) = refl

  -- the use of a name whose definition comes to nothing
  pub use_of_none : (below : ℕ → Option Term) (at : ℕ) (us : Terms) → below at ≡ None → followed types below (t.Use at us) ≡ None
  use_of_none below at us h =
      ap (at_reached (argument_of (parameters_of (definition_at types at)) us) (found_of (parameters_of (definition_at types at)) (each_followed types below us))) h

  -- that of one whose definition comes to one of its parameters
  pub use_of_parameter : (below : ℕ → Option Term) (at p : ℕ) (us : Terms) → below at ≡ Some (t.Parameter p)
      → followed types below (t.Use at us) ≡ followed types below (argument_of (parameters_of (definition_at types at)) us p)
  use_of_parameter below at p us h =
      ap (at_reached (argument_of (parameters_of (definition_at types at)) us) (found_of (parameters_of (definition_at types at)) (each_followed types below us))) h
      ∙ found_argument below (parameters_of (definition_at types at)) us p

  -- in any case the use leads where the right side leads with the arguments put in
  pub use_of_right : (at : ℕ) (us : Terms) (d : Definition) (u : Term) → definition_at types at ≡ Some d → reached types at ≡ Some u
      → follow (t.Use at us) ≡ follow (put_in (argument_of (d.outer ++ d.own) us) d.right)
  use_of_right at us d u e h =
      let s : ℕ → Term = argument_of (parameters_of (definition_at types at)) us in
      let r : follow d.right ≡ Some u = ap (followed_right types (reached types)) (sym e) ∙ reached_right at u h in
      same_reached s (found_of (parameters_of (definition_at types at)) (each_followed types (reached types) us)) (λ p. follow (s p)) (λ p. found_argument (reached types) (parameters_of (definition_at types at)) us p) (reached types at)
      ∙ (ap (at_reached s (λ p. follow (s p))) (h ∙ sym r)
      ∙ (sym (follow_put types (reached types) s d.right)
      ∙ ap (λ (o : Option Definition). follow (put_in (argument_of (parameters_of o) us) d.right)) e))
