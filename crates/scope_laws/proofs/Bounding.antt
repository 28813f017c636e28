-- Bounds of type parameters mention only those in scope.
use Rattle.std.proofs.Common.{◌≡◌, ◌⊎◌, inl, inr, ℕ, List, [], ◌∷◌, ◌++◌, Option, Some, None, sym, subst}
use Rattle.mo_types.specs.Sub.{Each}
use Rattle.typed_tree.specs.Instances.{IsAmong}
use Rattle.typing_rules.specs.AbstractSyntax.{TypeNode, TypeParameter}
use Rattle.typing_rules.specs.DeclaredTypes.{within}
use Rattle.typing_rules.specs.Definitions.{Definitions, bound_at}
use Rattle.typing_rules.specs.Gathered.{bounded}
use Rattle.typing_rules.specs.Terms.{Term, Terms, Fields}
use Rattle.typing_rules.specs.Terms as t
use Rattle.typing_rules.specs.TypeScopes.{TypeScope, names_of, places_of, term_or}
use Rattle.desugaring_laws.specs.Scopes.{IsIn, AreIn, FieldsAreIn, IsScopeFine}
use Rattle.desugaring_laws.proofs.Scoping.{names_in, written_in}
use Rattle.desugaring_laws.proofs.Weakening.{among_behind}
use Rattle.scope_laws.specs.Laws.{BoundsStayIn}
use Rattle.scope_laws.proofs.Parts.{among_split}
use Rattle.scope_laws.proofs.Scoped.{parameters_stay_fine}

-- more type parameters
module _ (vs ws : List ℕ) (sub : (v : ℕ) → IsAmong v vs → IsAmong v ws) where
  mutual
    pub is_in_more : (u : Term) → IsIn vs u → IsIn ws u
    is_in_more (t.Number k) h = tt
    is_in_more t.Boolean h = tt
    is_in_more t.Character h = tt
    is_in_more t.Text h = tt
    is_in_more t.Blob h = tt
    is_in_more t.Principal h = tt
    is_in_more t.Error h = tt
    is_in_more t.Null h = tt
    is_in_more t.Any h = tt
    is_in_more t.Bottom h = tt
    is_in_more (t.Optional a) h = is_in_more a h
    is_in_more (t.Array a) h = is_in_more a h
    is_in_more (t.MutableArray a) h = is_in_more a h
    is_in_more (t.Tuple parts) h = are_in_more parts h
    is_in_more (t.Object fields) h = fields_in_more fields h
    is_in_more (t.Actor methods) h = fields_in_more methods h
    is_in_more (t.Variant tags) h = fields_in_more tags h
    is_in_more (t.Function ps r) h = (are_in_more ps h.0, is_in_more r h.1)
    is_in_more (t.Shared how ps r) h = (are_in_more ps h.0, is_in_more r h.1)
    is_in_more (t.Async a) h = is_in_more a h
    is_in_more (t.Parameter v) h = sub v h
    is_in_more (t.Use at arguments) h = are_in_more arguments h

    are_in_more : (us : Terms) → AreIn vs us → AreIn ws us
    are_in_more t.Nil h = tt
    are_in_more (t.Cons u rest) h = (is_in_more u h.0, are_in_more rest h.1)

    fields_in_more : (fs : Fields) → FieldsAreIn vs fs → FieldsAreIn ws fs
    fields_in_more t.NoFields h = tt
    fields_in_more (t.WithField l mutable u rest) h = (is_in_more u h.0, fields_in_more rest h.1)

module _ (defs : Definitions) (vs : List ℕ) (s : TypeScope) (fine : IsScopeFine defs vs s) where
  pub written_or_in : (o : Option TypeNode) (u : Term) → IsIn vs u → IsIn vs (term_or s o u)
  written_or_in None u h = h
  written_or_in (Some a) u h = written_in vs s (names_in defs vs s fine) a

  -- a type parameter among these has a bound that is written there
  bound_in : (gs : List TypeParameter) → Each (λ b. bound_at defs.parameters b.at ≡ b.bound) (bounded s gs) → (v : ℕ) → IsAmong v (places_of (names_of gs)) → IsIn vs (bound_at defs.parameters v)
  bound_in [] h v m = absurd m
  bound_in (g ∷ gs) h v (inl e) = subst (λ n. IsIn vs (bound_at defs.parameters n)) (sym e) (subst (λ u. IsIn vs u) (sym h.0) (written_or_in g.bound t.Any tt))
  bound_in (g ∷ gs) h v (inr m) = bound_in gs h.1 v m

pub bounds_stay_in : BoundsStayIn
bounds_stay_in defs vs s fine bounds g h v m = by (among_split (places_of (names_of g.generics)) vs v m) where
  by : IsAmong v (places_of (names_of g.generics)) ⊎ IsAmong v vs → IsIn (places_of (names_of g.generics) ++ vs) (bound_at defs.parameters v)
  by (inl k) = bound_in defs (places_of (names_of g.generics) ++ vs) (within s g) (parameters_stay_fine defs vs s fine (names_of g.generics)) g.generics h.parameters v k
  by (inr k) = is_in_more vs (places_of (names_of g.generics) ++ vs) (λ w q. among_behind (places_of (names_of g.generics)) vs w q) (bound_at defs.parameters v) (bounds v k)
