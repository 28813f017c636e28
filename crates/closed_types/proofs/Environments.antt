-- What stands around a body that is called.
use Rattle.std.proofs.Common.{◌≡◌, ◌⊎◌, ◌∙◌, ◌≤◌, inl, inr, ℕ, List, [], ◌∷◌, ◌++◌, length, Bool, true, false, cond, Option, Some, None, refl, sym, ap, nat_eq}
use Rattle.std.specs.Cmp.{unsigned_Decides}
use Rattle.mo_types.specs.declared.node.Node.TheVariants as node
use Rattle.mo_types.specs.declared.node.TypeId.{TypeId}
use Rattle.mo_types.specs.Graph.{Slot, head_at}
use Rattle.mo_types.specs.Sub.{IsSubtype}
use Rattle.typed_tree.specs.Instances.{IsAmong, MentionsOnly, argument_of, IsInstance}
use Rattle.typed_tree.specs.Types.{AreLawful}
use Rattle.typed_tree.specs.Wants.{Equal}
use Rattle.typed_tree.proofs.OwnLabels.{labels_own}
use Rattle.closed_types.specs.Closings.{AreClosed, BoundsEnd, Closing, Puts, put_value}
use Rattle.closed_types.specs.Environments.{IsEnvironment, IsInside, with_arguments, HasParameters, IsCall}
use Rattle.closed_types.specs.Expanded.{Environment, none_id, value_in, close_in, expanded}
use Rattle.closed_types.proofs.Arguments.{none_below, among_append, among_right, argument_found, stays_within}
use Rattle.closed_types.proofs.Expanded.{none_there, closing, expanded_closed}
use Rattle.closed_types.proofs.Instances.{agreeing, put_in}
use Rattle.closed_types.proofs.Substitution.{stays_below}

among_left : {V : Type 0} (x : V) (xs ys : List V) → IsAmong x xs → IsAmong x (xs ++ ys)
among_left x [] ys h = absurd h
among_left x (z ∷ xs) ys (inl e) = inl e
among_left x (z ∷ xs) ys (inr h) = inr (among_left x xs ys h)

-- a type parameter that has an argument is one of those
argument_among : {A : Type 0} (vs : List ℕ) (ts : List A) (v : ℕ) → IsAmong v vs ⊎ (argument_of vs ts v ≡ None)
argument_among [] ts v = inr refl
argument_among (w ∷ vs) [] v = inr refl
argument_among {A} (w ∷ vs) (t ∷ ts) v = by (nat_eq v w) refl (argument_among vs ts v) where
  by : (b : Bool) → nat_eq v w ≡ b → IsAmong v vs ⊎ (argument_of vs ts v ≡ None) → ((v ≡ w) ⊎ IsAmong v vs) ⊎ (cond b (Some t) (argument_of vs ts v) ≡ None)
  by true e h = inl (inl ((unsigned_Decides v w).0 e))
  by false e (inl h) = inl (inr h)
  by false e (inr h) = inr h

module _ (types : List Slot) (first : ℕ) (past : length types ≤ first) (lawful : AreLawful types) where
  pub ends : BoundsEnd (head_at types)
  ends = record { rank = lawful.rank; end = lawful.bounds_end }

  pub closed : AreClosed (expanded types first)
  closed = expanded_closed types first past (labels_own types lawful)

  pub empty : IsEnvironment types first [] []
  empty = record {
    within = λ t b v e. none_below (expanded types first) closed (none_id types first) (close_in types first [] b) (none_there types first past);
    others = λ v. inr refl;
  }

  pub below_there : (scope : List ℕ) (e : Environment) → IsEnvironment types first scope e → (t u : TypeId) → IsSubtype (head_at types) t u → IsSubtype (expanded types first) (close_in types first e t) (close_in types first e u)
  below_there scope e around t u s = stays_below (head_at types) (expanded types first) closed ends (closing types first past e) around.within t u s

  pub same_there : (scope : List ℕ) (e at : Environment) → IsInside types first scope e at → (t : TypeId) → MentionsOnly (head_at types) scope t → Equal (expanded types first) (close_in types first e t) (close_in types first at t)
  same_there scope e at inside t m = agreeing (head_at types) (expanded types first) closed (closing types first past e) (closing types first past at) scope inside t m

  abbrev value_or : Environment → ℕ → Environment → Option TypeId → TypeId
  value_or at v e None = value_in types first e v
  value_or at v e (Some t) = close_in types first at t

  value_there : (at : Environment) (vs : List ℕ) (ts : List TypeId) (e : Environment) (v : ℕ) → value_in types first (with_arguments types first at vs ts e) v ≡ value_or at v e (argument_of vs ts v)
  value_there at [] ts e v = refl
  value_there at (w ∷ vs) [] e v = refl
  value_there at (w ∷ vs) (t ∷ ts) e v = by (nat_eq v w) (value_there at vs ts e v) where
    by : (b : Bool) → value_in types first (with_arguments types first at vs ts e) v ≡ value_or at v e (argument_of vs ts v)
        → cond b (close_in types first at t) (value_in types first (with_arguments types first at vs ts e) v) ≡ value_or at v e (cond b (Some t) (argument_of vs ts v))
    by true h = refl
    by false h = h

  module _ (scope vs : List ℕ) (ts : List TypeId) (e at : Environment) (around : IsEnvironment types first scope e) (inside : IsInside types first scope e at) (parameters : HasParameters types first scope vs) (call : IsCall types first scope vs ts at) where
    abbrev body : Environment
    body = with_arguments types first at vs ts e

    kept : (v : ℕ) → IsAmong v scope → argument_of vs ts v ≡ None
    kept v m = by (argument_among vs ts v) where
      by : IsAmong v vs ⊎ (argument_of vs ts v ≡ None) → argument_of vs ts v ≡ None
      by (inl h) = absurd (parameters.fresh v m h)
      by (inr h) = h

    abbrev At : Closing (head_at types) (expanded types first)
    At = closing types first past at

    puts_at : (v : ℕ) (o : Option TypeId) → IsAmong v (vs ++ scope) → argument_of vs ts v ≡ o → value_or at v e o ≡ put_value (head_at types) (expanded types first) At v o
    puts_at v (Some t) m f = refl
    puts_at v None m f = by (among_append v vs scope m) where
      by : IsAmong v vs ⊎ IsAmong v scope → value_in types first e v ≡ value_in types first at v
      by (inl h) =
          let a = argument_found vs ts v call.many h in
          absurd (let z : None ≡ Some a.0 = sym f ∙ a.1 in cc)
      by (inr h) = sym (inside v h)

    puts : Puts (head_at types) (expanded types first) At vs ts (vs ++ scope) (closing types first past body)
    puts v m = value_there at vs ts e v ∙ puts_at v (argument_of vs ts v) m refl

    others : (v : ℕ) → IsAmong v (vs ++ scope) ⊎ (value_in types first body v ≡ none_id types first)
    others v = by (argument_among vs ts v) (around.others v) where
      by : IsAmong v vs ⊎ (argument_of vs ts v ≡ None) → IsAmong v scope ⊎ (value_in types first e v ≡ none_id types first) → IsAmong v (vs ++ scope) ⊎ (value_in types first body v ≡ none_id types first)
      by (inl h) k = inl (among_left v vs scope h)
      by (inr h) (inl k) = inl (among_right v vs scope k)
      by (inr h) (inr k) = inr (value_there at vs ts e v ∙ ap (value_or at v e) h ∙ k)

    none_among : (v : ℕ) → IsAmong v (vs ++ scope) ⊎ (expanded types first (value_in types first body v) ≡ node.Bottom)
    none_among v = by (others v) where
      by : IsAmong v (vs ++ scope) ⊎ (value_in types first body v ≡ none_id types first) → IsAmong v (vs ++ scope) ⊎ (expanded types first (value_in types first body v) ≡ node.Bottom)
      by (inl h) = inl h
      by (inr h) = inr (ap (expanded types first) h ∙ none_there types first past)

    pub entered : IsEnvironment types first (vs ++ scope) body
    entered = record {
      within = stays_within (head_at types) (expanded types first) closed ends At (closing types first past body) call.there.within vs ts scope puts kept parameters.inner parameters.outer none_among call.many call.bounds;
      others = others;
    }

    pub instance_there : (t u : TypeId) → MentionsOnly (head_at types) (vs ++ scope) t → IsInstance (head_at types) vs ts t u → Equal (expanded types first) (close_in types first at u) (close_in types first body t)
    instance_there t u m i = put_in (head_at types) (expanded types first) closed ends At (closing types first past body) call.there.within vs ts (vs ++ scope) puts t u m i
