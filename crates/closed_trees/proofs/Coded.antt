-- Types in environments as numbers, and environments of bodies.
use Rattle.std.proofs.Common.{◌≡◌, ◌⊎◌, ◌∙◌, inl, inr, ℕ, List, [], ◌∷◌, ◌++◌, map, length, Bool, true, false, cond, refl, sym, ap, ap₂, subst, nat_eq}
use Rattle.std.specs.Cmp.{unsigned_Decides}
use Rattle.mo_types.specs.declared.node.TypeId.{TypeId}
use Rattle.mo_types.specs.Graph.{Slot}
use Rattle.typed_tree.specs.Instances.{IsAmong}
use Rattle.closed_types.specs.Environments.{IsEnvironment, IsInside, with_arguments}
use Rattle.closed_types.specs.Expanded.{Environment, written, read, none_id, value_in, close_in}
use Rattle.closed_types.proofs.Arguments.{among_right}
use Rattle.closed_types.proofs.Numbering.{number_back}
use Rattle.closed_trees.specs.Worlds.{first_type, behind_first, coded, type_of, environment_of, bound, Within, InstanceIn}

read_back : (e : Environment) → read (written e) ≡ e
read_back [] = refl
read_back (b ∷ e) = ap (λ (l : Environment). b ∷ l) (read_back e)

coded_type : (e : Environment) (t : TypeId) → type_of (coded e t) ≡ t
unfolding coded type_of
coded_type e t = ap first_type (number_back (t.index ∷ written e))

coded_environment : (e : Environment) (t : TypeId) → environment_of (coded e t) ≡ e
unfolding coded environment_of
coded_environment e t = ap (λ ns. read (behind_first ns)) (number_back (t.index ∷ written e)) ∙ read_back e

pub among_left : {V : Type 0} (x : V) (xs ys : List V) → IsAmong x xs → IsAmong x (xs ++ ys)
among_left x [] ys h = absurd h
among_left x (z ∷ xs) ys (inl e) = inl e
among_left x (z ∷ xs) ys (inr h) = inr (among_left x xs ys h)

among_or : (v : ℕ) (vs : List ℕ) → IsAmong v vs ⊎ (IsAmong v vs → ⊥)
among_or v [] = inr (λ h. h)
among_or v (w ∷ vs) = by (nat_eq v w) refl (among_or v vs) where
  by : (b : Bool) → nat_eq v w ≡ b → IsAmong v vs ⊎ (IsAmong v vs → ⊥) → IsAmong v (w ∷ vs) ⊎ (IsAmong v (w ∷ vs) → ⊥)
  by true e h = inl (inl ((unsigned_Decides v w).0 e))
  by false e (inl h) = inl (inr h)
  by false e (inr n) = inr neither where
    neither : IsAmong v (w ∷ vs) → ⊥
    neither (inl same) = let z : true ≡ false = sym ((unsigned_Decides v w).1 same) ∙ e in absurd cc
    neither (inr h) = n h

module _ (types : List Slot) (first : ℕ) where
  pub instance_at : (vs : List ℕ) (ts : List TypeId) (e : Environment) (t : TypeId) → length ts ≡ length vs → Within types first (bound vs ts e) → InstanceIn types first vs (coded e t) (close_in types first (bound vs ts e) t)
  instance_at vs ts e t l h = (
    ts,
    l,
    subst (λ (d : Environment). Within types first (bound vs ts d)) (sym (coded_environment e t)) h,
    ap₂ (λ (d : Environment) u. close_in types first (bound vs ts d) u) (sym (coded_environment e t)) (sym (coded_type e t)),
  )

  pub instance_from : (vs : List ℕ) (e : Environment) (t u : TypeId) → InstanceIn types first vs (coded e t) u
      → (ts : List TypeId) × (length ts ≡ length vs) × Within types first (bound vs ts e) × (u ≡ close_in types first (bound vs ts e) t)
  instance_from vs e t u i = (
    i.0,
    i.1,
    subst (λ (d : Environment). Within types first (bound vs i.0 d)) (coded_environment e t) i.2,
    i.3 ∙ ap₂ (λ (d : Environment) x. close_in types first (bound vs i.0 d) x) (coded_environment e t) (coded_type e t),
  )

  pub arguments_bound : (at : Environment) (vs : List ℕ) (ts : List TypeId) (e : Environment) → with_arguments types first at vs ts e ≡ bound vs (map (close_in types first at) ts) e
  arguments_bound at [] ts e = refl
  arguments_bound at (v ∷ vs) [] e = refl
  arguments_bound at (v ∷ vs) (t ∷ ts) e = ap (λ (d : Environment). record { parameter = v; argument = close_in types first at t } ∷ d) (arguments_bound at vs ts e)

  value_past : (vs : List ℕ) (ts : List TypeId) (e : Environment) (v : ℕ) → (IsAmong v vs → ⊥) → value_in types first (bound vs ts e) v ≡ value_in types first e v
  value_past [] ts e v n = refl
  value_past (w ∷ vs) [] e v n = refl
  value_past (w ∷ vs) (t ∷ ts) e v n = by (nat_eq v w) refl (value_past vs ts e v (λ h. n (inr h))) where
    by : (b : Bool) → nat_eq v w ≡ b → value_in types first (bound vs ts e) v ≡ value_in types first e v → cond b t (value_in types first (bound vs ts e) v) ≡ value_in types first e v
    by true q k = absurd (n (inl ((unsigned_Decides v w).0 q)))
    by false q k = k

  pub inside_bound : (scope vs : List ℕ) (ts : List TypeId) (e : Environment) → ((v : ℕ) → IsAmong v scope → IsAmong v vs → ⊥) → IsInside types first scope e (bound vs ts e)
  inside_bound scope vs ts e n v h = value_past vs ts e v (n v h)

  -- an environment stays one with more type parameters, for which nothing stands
  pub environment_more : (scope vs : List ℕ) (e : Environment) → IsEnvironment types first scope e → IsEnvironment types first (vs ++ scope) e
  environment_more scope vs e h = record { within = h.within; others = λ v. by v (h.others v) } where
    by : (v : ℕ) → IsAmong v scope ⊎ (value_in types first e v ≡ none_id types first) → IsAmong v (vs ++ scope) ⊎ (value_in types first e v ≡ none_id types first)
    by v (inl k) = inl (among_right v vs scope k)
    by v (inr k) = inr k

  pub environment_bound : (scope vs : List ℕ) (ts : List TypeId) (e : Environment) → IsEnvironment types first scope e → Within types first (bound vs ts e) → IsEnvironment types first (vs ++ scope) (bound vs ts e)
  environment_bound scope vs ts e h w = record { within = w; others = λ v. by v (among_or v vs) (h.others v) } where
    by : (v : ℕ) → IsAmong v vs ⊎ (IsAmong v vs → ⊥) → IsAmong v scope ⊎ (value_in types first e v ≡ none_id types first) → IsAmong v (vs ++ scope) ⊎ (value_in types first (bound vs ts e) v ≡ none_id types first)
    by v (inl a) k = inl (among_left v vs scope a)
    by v (inr n) (inl k) = inl (among_right v vs scope k)
    by v (inr n) (inr k) = inr (value_past vs ts e v n ∙ k)
