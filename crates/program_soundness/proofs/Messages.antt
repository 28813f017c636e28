-- Values of shareable types have messages, and results as they stand in one value.
use Rattle.std.proofs.Common.{◌≡◌, List, [], ◌∷◌, ◌++◌, map, Some, true, false, inl, inr, sym, ap, ◌∙◌, subst}
use Rattle.mo_types.specs.declared.datum.Datum.TheVariants as part
use Rattle.mo_types.specs.declared.node.Node.{Node}
use Rattle.mo_types.specs.declared.node.Node.TheVariants as node
use Rattle.mo_types.specs.declared.node.TypeId.{TypeId}
use Rattle.mo_types.specs.Graph.{head_at}
use Rattle.mo_types.specs.Sub.{Each, IsSubtype}
use Rattle.mo_types.specs.Values as message
use Rattle.mo_values.specs.Messages.{joined, plain_each}
use Rattle.mo_values.specs.Shapes.{Bytes, Leaf, Tuple, Array, Error, shapes}
use Rattle.subtype_laws.specs.Inversion.{IsAbove}
use Rattle.subtype_laws.proofs.Inversion.{to_above, from_above}
use Rattle.typed_tree.specs.ActionTypes.{ResultOf}
use Rattle.typed_tree.specs.Language.{Value, Values, Made, Function, BuiltIn, NoValue, AValue}
use Rattle.typed_tree.specs.Opening.{shapes_list}
use Rattle.typed_tree.specs.Shareable.{IsShareable}
use Rattle.typed_tree.specs.Wants.{Want, Of}
use Rattle.mo_meaning.specs.Coding.{Types, Coding}
use Rattle.mo_meaning.specs.Messages.{unpacked, packed, joined_values, coded, message_of}
use Rattle.mo_meaning.specs.Places.{value_list, values_of_list}
use Rattle.mo_soundness.specs.Keeps.{HasEach}
use Rattle.mo_soundness.specs.Lawful.{IsLawful}
use Rattle.mo_soundness.specs.Running.{AnswerTypes, HasValue, HaveValues, known}
use Rattle.mo_soundness.proofs.Found.{At, opened, made_at}
use Rattle.mo_soundness.proofs.Values.{there}
use Rattle.mo_soundness.proofs.Wanted.{reflexive}
use Rattle.program_soundness.proofs.Shareable.{HasThese, each_goes_in, match_each}
use Rattle.program_soundness.specs.Worlds.{running, IsCarried}
use Rattle.program_soundness.proofs.Carried.{all_shareable, out_each}
use Rattle.mo_soundness.specs.Worlds.{World, plain_world}
use Rattle.typed_tree.specs.Types.{AreLawful}

pub first_shareable : (P : TypeId → Type 0) (ps rs : List TypeId) → Each P (ps ++ rs) → Each P ps
first_shareable P [] rs h = tt
first_shareable P (p ∷ ps) rs h = (h.0, first_shareable P ps rs h.1)

pub last_shareable : (P : TypeId → Type 0) (ps rs : List TypeId) → Each P (ps ++ rs) → Each P rs
last_shareable P [] rs h = h
last_shareable P (p ∷ ps) rs h = last_shareable P ps rs h.1

module _ (head : TypeId → Node TypeId) (answers : AnswerTypes) (kinds : List TypeId) where
  has_these : (ws : List (Want TypeId)) (vs : List Value) → HasEach (plain_world head) answers kinds ws vs → HasThese head (known (plain_world head) answers kinds) kinds ws (shapes (shapes_list vs))
  has_these [] [] h = tt
  has_these [] (v ∷ vs) h = absurd h
  has_these (w ∷ ws) [] h = absurd h
  has_these (w ∷ ws) (v ∷ vs) h = (there (plain_world head) answers kinds v w h.0, has_these ws vs h.1)

  pub goes_out : (ts : List TypeId) (vs : List Value) → Each (IsShareable head) ts → HasEach (plain_world head) answers kinds (map (λ t. Of t) ts) vs
      → (ms : List message.Values) × (plain_each head (map (λ t. Some t) ts) (shapes (shapes_list vs)) ≡ Some ms)
  goes_out ts vs s h =
      each_goes_in head (known (plain_world head) answers kinds) kinds (shapes (shapes_list vs)) (map (λ t. Some t) ts) (map (λ t. Of t) ts) (match_each head ts s) (has_these (map (λ t. Of t) ts) vs h)

module _ (world : World) (answers : AnswerTypes) (kinds : List TypeId) where
  -- ---- results

  listed_have : (ws : List (Want TypeId)) (vs : Values) → HaveValues world answers kinds ws vs → HasEach world answers kinds ws (value_list vs)
  listed_have [] NoValue h = tt
  listed_have [] (AValue v vs) h = absurd h
  listed_have (w ∷ ws) NoValue h = absurd h
  listed_have (w ∷ ws) (AValue v vs) h = (h.0, listed_have ws vs h.1)

  pub have_listed : (ws : List (Want TypeId)) (vs : List Value) → HasEach world answers kinds ws vs → HaveValues world answers kinds ws (values_of_list vs)
  have_listed [] [] h = tt
  have_listed [] (v ∷ vs) h = absurd h
  have_listed (w ∷ ws) [] h = absurd h
  have_listed (w ∷ ws) (v ∷ vs) h = (h.0, have_listed ws vs h.1)

  tuple_unpacked : (t u : TypeId) (ts : List TypeId) (r : TypeId) (v : Value) → At world answers kinds (node.Tuple (t ∷ u ∷ ts)) r v → HasEach world answers kinds (map (λ t. Of t) (t ∷ u ∷ ts)) (unpacked (t ∷ u ∷ ts) v)
  tuple_unpacked t u ts r (Made Tuple inner) k = listed_have (map (λ t. Of t) (t ∷ u ∷ ts)) inner k.1
  tuple_unpacked t u ts r (Made (Leaf (part.Record n)) inner) k = absurd k.0.0
  tuple_unpacked t u ts r (Made (Leaf p) inner) k = absurd k.0.1
  tuple_unpacked t u ts r (Made Array inner) (inl e, k) = absurd e
  tuple_unpacked t u ts r (Made Array inner) (inr e, k) = absurd e
  tuple_unpacked t u ts r (Made (Error c m) inner) k = absurd (false_true k.0.0)
    where
      false_true : false ≡ true → ⊥
      false_true e = cc
  tuple_unpacked t u ts r (Made h inner) k = absurd k.0
  tuple_unpacked t u ts r (Function g n) k = absurd k
  tuple_unpacked t u ts r (BuiltIn m holds) k = absurd k

  -- what a shared body gives, as the values of its reply
  pub results_unpacked : (results : List TypeId) (r : TypeId) (v : Value) → ResultOf world.head results r → HasValue world answers kinds (Of r) v → HasEach world answers kinds (map (λ t. Of t) results) (unpacked results v)
  results_unpacked [] r v e h = tt
  results_unpacked (t ∷ []) r v e h = (subst (λ t. HasValue world answers kinds (Of t) v) (sym e) h, tt)
  results_unpacked (t ∷ u ∷ ts) r v e h = tuple_unpacked t u ts r v (opened world answers kinds r (node.Tuple (t ∷ u ∷ ts)) v e h)

  -- and the values of a reply as one
  pub results_packed : (results : List TypeId) (r : TypeId) (vs : List Value) → ResultOf world.head results r → HasEach world answers kinds (map (λ t. Of t) results) vs → HasValue world answers kinds (Of r) (packed vs)
  results_packed [] r [] e h = made_at world answers kinds r (node.Tuple []) Tuple NoValue e (tt, tt)
  results_packed [] r (v ∷ vs) e h = absurd h
  results_packed (t ∷ []) r [] e h = absurd h
  results_packed (t ∷ []) r (v ∷ []) e h = subst (λ t. HasValue world answers kinds (Of t) v) e h.0
  results_packed (t ∷ []) r (v ∷ u ∷ vs) e h = absurd h.1
  results_packed (t ∷ u ∷ ts) r [] e h = absurd h
  results_packed (t ∷ u ∷ ts) r (v ∷ []) e h = absurd h.1
  results_packed (t ∷ u ∷ ts) r (v ∷ w ∷ vs) e h =
      made_at world answers kinds r (node.Tuple (t ∷ u ∷ ts)) Tuple (values_of_list (v ∷ w ∷ vs)) e (tt, have_listed (map (λ t. Of t) (t ∷ u ∷ ts)) (v ∷ w ∷ vs) h)

-- tuple types with the same parts are equal
same_tuple : (head : TypeId → Node TypeId) (lawful : IsLawful head) (ts : List TypeId) (t u : TypeId) → head t ≡ node.Tuple ts → head u ≡ node.Tuple ts → IsSubtype head t u
same_tuple head lawful ts t u e f =
    let a : IsAbove (IsSubtype head) t (node.Tuple ts) (node.Tuple ts) = subst (λ x. IsAbove (IsSubtype head) t x x) e (to_above head t t (reflexive head lawful t)) in
    from_above head t u (subst (λ y. IsAbove (IsSubtype head) u (head t) y) (sym f) (subst (λ x. IsAbove (IsSubtype head) u x (node.Tuple ts)) (sym e) a))

-- two types of what the body of a shared function with these results gives are equal
pub result_below : (head : TypeId → Node TypeId) (lawful : IsLawful head) (rs : List TypeId) (t u : TypeId) → ResultOf head rs t → ResultOf head rs u → IsSubtype head t u
result_below head lawful [] t u h i = same_tuple head lawful [] t u h i
result_below head lawful (r ∷ []) t u h i = subst (λ u. IsSubtype head t u) (sym h ∙ i) (reflexive head lawful t)
result_below head lawful (r ∷ s ∷ rs) t u h i = same_tuple head lawful (r ∷ s ∷ rs) t u h i

-- values of shareable types have a message
pub plain_message : (coding : Coding) (types : Types) (answers : AnswerTypes) (kinds : List TypeId) (ts : List TypeId) (vs : List Value) → Each (IsShareable (head_at types)) ts → HasEach (plain_world (head_at types)) answers kinds (map (λ t. Of t) ts) vs
    → (bytes : Bytes) × (message_of coding types ts vs ≡ Some bytes)
plain_message coding types answers kinds ts vs s h = let m = goes_out (head_at types) answers kinds ts vs s h in (coding.code types ts (joined m.0), ap (λ o. coded coding types ts (joined_values o)) m.1)

-- and so have values of types that go into messages, where a program runs
pub message_there : (coding : Coding) (types : Types) (graph : AreLawful types) (answers : AnswerTypes) (kinds : List TypeId) (ts : List TypeId) (vs : List Value) → Each (IsCarried types) ts → HasEach (running types) answers kinds (map (λ t. Of t) ts) vs
    → (bytes : Bytes) × (message_of coding types ts vs ≡ Some bytes)
message_there coding types graph answers kinds ts vs s h = plain_message coding types answers kinds ts vs (all_shareable types ts s) (out_each types graph answers kinds ts vs s h)
