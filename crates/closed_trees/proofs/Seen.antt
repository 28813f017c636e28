-- What stands for the names of a tree where it runs.
use Rattle.std.proofs.Common.{◌≡◌, ◌∙◌, ℕ, zero, suc, List, [], ◌∷◌, ◌++◌, map, Some, None, refl, sym, ap, subst, slice_get}
use Rattle.mo_types.specs.declared.node.TypeId.{TypeId}
use Rattle.mo_types.specs.Graph.{Slot, head_at}
use Rattle.typed_tree.specs.Instances.{MentionsOnly}
use Rattle.typed_tree.specs.Wants.{Want, Anything, Of, CellOf, FutureOf, KeptOf, Generic, in_function, Equal}
use Rattle.closed_types.specs.Environments.{IsInside}
use Rattle.closed_types.specs.Expanded.{Environment, close_in, expanded}
use Rattle.closed_types.proofs.Arguments.{among_right}
use Rattle.mo_soundness.specs.Lawful.{IsLawful}
use Rattle.mo_soundness.proofs.Wanted.{equal_self, equal_trans}
use Rattle.closed_trees.specs.Seen.{SeesAs, Sees, SeesAll}
use Rattle.closed_trees.proofs.Scopes.{mentions_more}

module _ (types : List Slot) (first : ℕ) where
  pub sees_append : (scope : List ℕ) (e : Environment) (ns ms ks ls : List (Want TypeId)) → SeesAll types first scope e ns ms → SeesAll types first scope e ks ls → SeesAll types first scope e (ns ++ ks) (ms ++ ls)
  sees_append scope e [] [] ks ls h i = i
  sees_append scope e [] (m ∷ ms) ks ls h i = absurd h
  sees_append scope e (n ∷ ns) [] ks ls h i = absurd h
  sees_append scope e (n ∷ ns) (m ∷ ms) ks ls h i = (h.0, sees_append scope e ns ms ks ls h.1 i)

  pub sees_at : (scope : List ℕ) (e : Environment) (ns ms : List (Want TypeId)) (x : ℕ) (w : Want TypeId) → SeesAll types first scope e ns ms → slice_get ns x ≡ Some w → (u : Want TypeId) × (slice_get ms x ≡ Some u) × Sees types first scope e w u
  sees_at scope e [] [] x w h q = absurd (let z : None ≡ Some w = q in cc)
  sees_at scope e [] (m ∷ ms) x w h q = absurd h
  sees_at scope e (n ∷ ns) [] x w h q = absurd h
  sees_at scope e (n ∷ ns) (m ∷ ms) zero w h q = let z : Some n ≡ Some w = q in let same : n ≡ w = cc in (m, refl, subst (λ k. Sees types first scope e k m) same h.0)
  sees_at scope e (n ∷ ns) (m ∷ ms) (suc x) w h q = sees_at scope e ns ms x w h.1 q

  pub sees_as : (scope : List ℕ) (e : Environment) (ns ks ms : List (Want TypeId)) → ns ≡ ks → SeesAll types first scope e ks ms → SeesAll types first scope e ns ms
  sees_as scope e ns ks ms q h = subst (λ (xs : List (Want TypeId)). SeesAll types first scope e xs ms) (sym q) h

  module _ (lawful : IsLawful (expanded types first)) where
    pub sees_self : (scope : List ℕ) (e : Environment) (t : TypeId) → MentionsOnly (head_at types) scope t → SeesAs types first scope e t (close_in types first e t)
    sees_self scope e t m = (m, equal_self (expanded types first) lawful (close_in types first e t))

    module _ (scope vs : List ℕ) (e at : Environment) (inside : IsInside types first scope e at)
        (same : (t : TypeId) → MentionsOnly (head_at types) scope t → Equal (expanded types first) (close_in types first e t) (close_in types first at t)) where
      as_inside : (t u : TypeId) → SeesAs types first scope e t u → SeesAs types first (vs ++ scope) at t u
      as_inside t u h =
          let k = same t h.0 in
          (mentions_more (head_at types) scope (vs ++ scope) (λ v i. among_right v vs scope i) t h.0, equal_trans (expanded types first) lawful (close_in types first at t) (close_in types first e t) u (k.1, k.0) h.1)

      -- what is seen from a body further inside
      sees_inside : (w u : Want TypeId) → Sees types first scope e w u → Sees types first (vs ++ scope) at (in_function w) (in_function u)
      sees_inside Anything u h = ap in_function h
      sees_inside (Of t) u h = (h.0, ap in_function h.1, as_inside t h.0 h.2)
      sees_inside (CellOf t) u h = (h.0, ap in_function h.1, as_inside t h.0 h.2)
      sees_inside (FutureOf t) u h = ap in_function h
      sees_inside (KeptOf t) u h = (h.0, ap in_function h.1, as_inside t h.0 h.2)
      sees_inside (Generic ws t) u h = record {
        outer = h.outer;
        at = h.at;
        around = h.around;
        inside = λ v i. inside v (h.among v i) ∙ h.inside v i;
        among = λ v i. among_right v vs scope (h.among v i);
        parameters = h.parameters;
        mentions = h.mentions;
        is = ap in_function h.is;
      }

      pub all_inside : (ns ms : List (Want TypeId)) → SeesAll types first scope e ns ms → SeesAll types first (vs ++ scope) at (map in_function ns) (map in_function ms)
      all_inside [] [] h = tt
      all_inside [] (m ∷ ms) h = absurd h
      all_inside (n ∷ ns) [] h = absurd h
      all_inside (n ∷ ns) (m ∷ ms) h = (sees_inside n m h.0, all_inside ns ms h.1)
