-- Type parameters in scope, and what a function's type mentions.
use Rattle.std.proofs.Common.{◌≡◌, ◌⊎◌, inl, inr, ℕ, zero, suc, List, [], ◌∷◌, ◌++◌, sym, subst}
use Rattle.mo_types.specs.declared.node.Node.{Node}
use Rattle.mo_types.specs.declared.node.Node.TheVariants as node
use Rattle.mo_types.specs.declared.node.TypeId.{TypeId}
use Rattle.mo_types.specs.Graph.{Slot, head_at}
use Rattle.mo_types.specs.Sub.{Each}
use Rattle.typed_tree.specs.Instances.{IsAmong, types_in, ParameterAmong, Mentions, MentionsOnly}
use Rattle.typed_tree.specs.MemberTypes as member
use Rattle.typed_tree.specs.PatternTypes.{IsInScope}
use Rattle.typed_tree.specs.Types.{AreLawful}
use Rattle.typed_tree.specs.Typing.{AreParameters}
use Rattle.closed_types.specs.Closings.{BoundsMention}
use Rattle.closed_types.specs.Environments.{HasParameters}
use Rattle.closed_types.specs.Expanded.{expanded}
use Rattle.closed_types.proofs.Arguments.{among_append, among_right}
use Rattle.closed_trees.specs.Seen.{Among}

module _ {A : Type 0} (head : A → Node A) where
  parameter_more : (vs ws : List ℕ) → Among vs ws → (x : Node A) → ParameterAmong vs x → ParameterAmong ws x
  parameter_more vs ws s (node.Variable v b) h = s v h
  parameter_more vs ws s x h = tt

  each_more : (P Q : A → Type 0) → ((a : A) → P a → Q a) → (ts : List A) → Each P ts → Each Q ts
  each_more P Q f [] h = tt
  each_more P Q f (t ∷ ts) h = (f t h.0, each_more P Q f ts h.1)

  more_at : (vs ws : List ℕ) → Among vs ws → (n : ℕ) (t : A) → Mentions head vs n t → Mentions head ws n t
  unfolding Mentions
  more_at vs ws s zero t h = tt
  more_at vs ws s (suc n) t h = (parameter_more vs ws s (head t) h.0, each_more (Mentions head vs n) (Mentions head ws n) (more_at vs ws s n) (types_in (head t)) h.1)

  pub mentions_more : (vs ws : List ℕ) → Among vs ws → (t : A) → MentionsOnly head vs t → MentionsOnly head ws t
  mentions_more vs ws s t h = record { by = λ n. more_at vs ws s n t (h.by n) }

  pub bound_mentions : (vs : List ℕ) (t b : A) (v : ℕ) → head t ≡ node.Variable v b → MentionsOnly head vs t → MentionsOnly head vs b
  unfolding Mentions
  bound_mentions vs t b v e h = record { by = λ n. (subst (λ (x : Node A). Each (Mentions head vs n) (types_in x)) e (h.by (suc n)).1).0 }

  parts_mention : (vs : List ℕ) (n : ℕ) (ps : List A) (r : A) → Each (MentionsOnly head vs) ps → MentionsOnly head vs r → Each (Mentions head vs n) (ps ++ r ∷ [])
  parts_mention vs n [] r h k = (k.by n, tt)
  parts_mention vs n (p ∷ ps) r h k = (h.0.by n, parts_mention vs n ps r h.1 k)

  pub function_mentions : (vs : List ℕ) (t : A) (ps : List A) (r : A) → head t ≡ member.Function ps r → Each (MentionsOnly head vs) ps → MentionsOnly head vs r → MentionsOnly head vs t
  unfolding Mentions
  function_mentions vs t ps r e h k = record { by = λ n. by n } where
    by : (n : ℕ) → Mentions head vs n t
    by zero = tt
    by (suc n) = subst (λ (x : Node A). ParameterAmong vs x × Each (Mentions head vs n) (types_in x)) (sym e) (tt, parts_mention vs n ps r h k)

module _ (types : List Slot) (first : ℕ) (lawful : AreLawful types) where
  abbrev pub Bounds : List ℕ → List ℕ → Type 0
  Bounds vs scope = BoundsMention (head_at types) (expanded types first) vs scope

  fresh_in : (scope : List ℕ) (ts : List TypeId) (vs : List ℕ) → AreParameters (head_at types) scope ts vs → (v : ℕ) → IsAmong v scope → IsAmong v vs → ⊥
  fresh_in scope [] [] h v i k = k
  fresh_in scope [] (w ∷ vs) h v i k = h
  fresh_in scope (t ∷ ts) [] h v i k = h
  fresh_in scope (t ∷ ts) (w ∷ vs) h v i (inl e) = h.2 (among_right w vs scope (subst (λ x. IsAmong x scope) e i))
  fresh_in scope (t ∷ ts) (w ∷ vs) h v i (inr k) = fresh_in scope ts vs h.3 v i k

  found_bound : (scope all : List ℕ) (ts : List TypeId) (vs : List ℕ) → AreParameters (head_at types) scope ts vs → Each (IsInScope types all) ts → (t b : TypeId) (v : ℕ) → head_at types t ≡ node.Variable v b → IsAmong v vs → MentionsOnly (head_at types) all b
  found_bound scope all [] [] h i t b v e k = absurd k
  found_bound scope all [] (w ∷ vs) h i t b v e k = absurd h
  found_bound scope all (u ∷ ts) [] h i t b v e k = absurd h
  found_bound scope all (u ∷ ts) (w ∷ vs) h i t b v e (inl q) =
      subst (MentionsOnly (head_at types) all) (sym (lawful.bounds t u b h.0 w (subst (λ x. head_at types t ≡ node.Variable x b) q e) h.1)) (bound_mentions (head_at types) all u h.0 w h.1 i.0.1)
  found_bound scope all (u ∷ ts) (w ∷ vs) h i t b v e (inr k) = found_bound scope all ts vs h.3 i.1 t b v e k

  pub has_parameters : (scope : List ℕ) (ts : List TypeId) (vs : List ℕ) → AreParameters (head_at types) scope ts vs → Each (IsInScope types (vs ++ scope)) ts → Bounds scope scope → HasParameters types first scope vs
  has_parameters scope ts vs h i outer = record { fresh = fresh_in scope ts vs h; inner = found_bound scope (vs ++ scope) ts vs h i; outer = outer }

  -- the bounds of all type parameters in scope in a body
  pub bounds_more : (scope vs : List ℕ) → HasParameters types first scope vs → Bounds (vs ++ scope) (vs ++ scope)
  bounds_more scope vs p t b v e h = by (among_append v vs scope h) where
    by : IsAmong v vs ⊎ IsAmong v scope → MentionsOnly (head_at types) (vs ++ scope) b
    by (inl k) = p.inner t b v e k
    by (inr k) = mentions_more (head_at types) scope (vs ++ scope) (λ w i. among_right w vs scope i) b (p.outer t b v e k)
