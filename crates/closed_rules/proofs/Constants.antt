-- Types that go into messages are themselves where nothing stands in the place of a type parameter.
use Rattle.std.proofs.Common.{◌≡◌, ◌⊎◌, ◌∙◌, ◌<◌, ◌≤◌, inl, inr, ℕ, zero, suc, List, [], ◌∷◌, ◌++◌, map, length, Option, Some, None, refl, sym, ap, ap₂, arith, subst, slice_get}
use Rattle.mo_types.specs.declared.node.Field.{Field}
use Rattle.mo_types.specs.declared.node.Node.{Node}
use Rattle.mo_types.specs.declared.node.Node.TheVariants as node
use Rattle.mo_types.specs.declared.node.Sort.{Sort}
use Rattle.mo_types.specs.declared.node.Sort.TheVariants as sort
use Rattle.mo_types.specs.declared.node.TypeId.{TypeId}
use Rattle.mo_types.specs.Graph.{Slot, node_of, node_of_slot, node_or_bottom, head_at}
use Rattle.mo_types.specs.Sub.{AtSome, Each}
use Rattle.mo_subtype.specs.Renamed.{on_field, on_node}
use Rattle.typed_tree.specs.declared.action.Action.TheVariants as action
use Rattle.typed_tree.specs.ActionTypes.{Context, ActionTyped, ResultOf}
use Rattle.typed_tree.specs.Instances.{types_in, field_types}
use Rattle.typed_tree.specs.Shareable.{HasShareableForm, Shares, IsShareable}
use Rattle.typed_tree.specs.Types.{IsLawfulNode, AllDefined, AreLawful}
use Rattle.typed_tree.specs.Wants.{Want, Of}
use Rattle.closed_types.specs.Closings.{IsNoVariable}
use Rattle.closed_types.specs.Expanded.{close_in, expanded}
use Rattle.closed_types.proofs.Constants.{parts_shareable}
use Rattle.closed_types.proofs.Expanded.{closing, itself}
use Rattle.closed_rules.specs.ClosedWants.{close_want, close_wants, close_context}
use Rattle.closed_rules.proofs.Heads.{types_map, at}

no_form : {A : Type 0} (x : Node A) → HasShareableForm x → IsNoVariable x
no_form (node.Variable v b) h = absurd h
no_form x h = refl

both_hold : {A : Type 0} (P Q : A → Type 0) (xs : List A) → Each P xs → Each Q xs → Each (λ x. P x × Q x) xs
both_hold P Q [] p q = tt
both_hold P Q (x ∷ xs) p q = ((p.0, q.0), both_hold P Q xs p.1 q.1)

left : {A : Type 0} (P : A → Type 0) (xs ys : List A) → Each P (xs ++ ys) → Each P xs
left P [] ys h = tt
left P (x ∷ xs) ys h = (h.0, left P xs ys h.1)

right : {A : Type 0} (P : A → Type 0) (xs ys : List A) → Each P (xs ++ ys) → Each P ys
right P [] ys h = h
right P (x ∷ xs) ys h = right P xs ys h.1

module _ (f : TypeId → TypeId) where
  abbrev Stay : List TypeId → Type 0
  Stay ts = Each (λ t. f t ≡ t) ts

  pub map_stays : (ts : List TypeId) → Stay ts → map f ts ≡ ts
  map_stays [] h = refl
  map_stays (t ∷ ts) h = ap₂ (λ u us. u ∷ us) h.0 (map_stays ts h.1)

  abbrev with_part : Field TypeId → TypeId → Field TypeId
  with_part x t = record { label = x.label; mutable = x.mutable; part = t }

  fields_stay : (fs : List (Field TypeId)) → Stay (field_types fs) → map (on_field f) fs ≡ fs
  fields_stay [] h = refl
  fields_stay (x ∷ fs) h = ap₂ (λ t gs. with_part x t ∷ gs) h.0 (fields_stay fs h.1)

  node_stays : (x : Node TypeId) → Stay (types_in x) → on_node f x ≡ x
  node_stays (node.Number k) h = refl
  node_stays node.Bool h = refl
  node_stays node.Char h = refl
  node_stays node.Text h = refl
  node_stays node.Blob h = refl
  node_stays node.Principal h = refl
  node_stays node.Error h = refl
  node_stays node.Null h = refl
  node_stays node.Any h = refl
  node_stays node.Bottom h = refl
  node_stays (node.Opt a) h = ap (λ t. node.Opt t) h.0
  node_stays (node.Array a) h = ap (λ t. node.Array t) h.0
  node_stays (node.MutArray a) h = ap (λ t. node.MutArray t) h.0
  node_stays (node.Tuple ts) h = ap (λ us. node.Tuple us) (map_stays ts h)
  node_stays (node.Object fs) h = ap (λ gs. node.Object gs) (fields_stay fs h)
  node_stays (node.Actor fs) h = ap (λ gs. node.Actor gs) (fields_stay fs h)
  node_stays (node.Variant fs) h = ap (λ gs. node.Variant gs) (fields_stay fs h)
  node_stays (node.Func s ps rs) h = ap₂ (λ qs ss. node.Func s qs ss) (map_stays ps (left (λ t. f t ≡ t) ps rs h)) (map_stays rs (right (λ t. f t ≡ t) ps rs h))
  node_stays (node.Async a) h = ap (λ t. node.Async t) h.0
  node_stays (node.Variable v b) h = ap (λ t. node.Variable v t) h.0

-- the types in a type of a graph are in the graph
parts_there : (n : ℕ) (o : Option (Node TypeId)) → AtSome o (λ x. Each (λ t. t.index < n) (types_in x)) → Each (λ t. t.index < n) (types_in (node_or_bottom o))
parts_there n None h = absurd h
parts_there n (Some x) h = h

all_there : (all slots : List Slot) (i : ℕ) → AllDefined all slots → Each (λ t. t.index < length all) (types_in (node_or_bottom (node_of_slot (slice_get slots i))))
all_there all [] i h = tt
all_there all (s ∷ slots) zero h = parts_there (length all) (node_of s) h.0
all_there all (s ∷ slots) (suc i) h = all_there all slots i h.1

-- what stands in a type of a graph has a number of the graph
pub parts_within : (types : List Slot) → AreLawful types → (t : TypeId) → Each (λ u. u.index < length types) (types_in (head_at types t))
parts_within types lawful t = all_there types types t.index lawful.defined

module _ (types : List Slot) (first : ℕ) (past : length types ≤ first) (lawful : AreLawful types) where
  -- a shareable type that is behind no number of the program
  abbrev pub IsConstant : TypeId → Type 0
  IsConstant t = IsShareable (head_at types) t × (t.index < first)

  earlier : (ts : List TypeId) → Each (λ t. t.index < length types) ts → Each (λ t. t.index < first) ts
  earlier [] h = tt
  earlier (t ∷ ts) h = (by t.index (length types) first h.0 past, earlier ts h.1) where
    by : (i n m : ℕ) → i < n → n ≤ m → i < m
    by i n m p q = omega arith

  no_variable : (t : TypeId) → IsShareable (head_at types) t → IsNoVariable (head_at types t)
  unfolding Shares
  no_variable t s = no_form (head_at types t) (s.by 1).0

  pub stays : (t : TypeId) → IsConstant t → close_in types first [] t ≡ t
  stays t c = itself types first t c.1 (no_variable t c.0)

  pub all_stay : (ts : List TypeId) → Each IsConstant ts → Each (λ t. close_in types first [] t ≡ t) ts
  all_stay [] h = tt
  all_stay (t ∷ ts) h = (stays t h.0, all_stay ts h.1)

  pub parts_constant : (t : TypeId) → IsConstant t → Each IsConstant (types_in (head_at types t))
  parts_constant t c =
      both_hold (IsShareable (head_at types)) (λ u. u.index < first) (types_in (head_at types t)) (parts_shareable (head_at types) (λ u. (lawful.nodes u).0) t c.0).1
      (earlier (types_in (head_at types t)) (all_there types types t.index lawful.defined))

  pub head_stays : (t : TypeId) → IsConstant t → expanded types first t ≡ head_at types t
  head_stays t c =
      ap (expanded types first) (sym (stays t c))
      ∙ (closing types first past []).others t (no_variable t c.0)
      ∙ node_stays (close_in types first []) (head_at types t) (all_stay (types_in (head_at types t)) (parts_constant t c))

  -- ---- calls of shared functions, where nothing is put in

  abbrev f : TypeId → TypeId
  f t = close_in types first [] t

  pub result_stays : (rs : List TypeId) (r : TypeId) → Each IsConstant rs → ResultOf (head_at types) rs r → ResultOf (expanded types first) rs (f r)
  result_stays [] r h e = at (head_at types) (expanded types first) (closing types first past []) r (node.Tuple []) e refl
  result_stays (s ∷ []) r h e = sym (stays s h.0) ∙ ap f e
  result_stays (s ∷ u ∷ rs) r h e =
      at (head_at types) (expanded types first) (closing types first past []) r (node.Tuple (s ∷ u ∷ rs)) e refl
      ∙ ap (λ us. node.Tuple us) (map_stays f (s ∷ u ∷ rs) (all_stay (s ∷ u ∷ rs) h))

  function_there : (t : TypeId) (s : Sort) (ps rs : List TypeId) → head_at types t ≡ node.Func s ps rs → Each IsConstant (ps ++ rs) → expanded types first (f t) ≡ node.Func s ps rs
  function_there t s ps rs e h =
      at (head_at types) (expanded types first) (closing types first past []) t (node.Func s ps rs) e refl
      ∙ node_stays f (node.Func s ps rs) (all_stay (ps ++ rs) h)

  shared_parts : (t : TypeId) (s : Sort) (ps rs : List TypeId) → head_at types t ≡ node.Func s ps rs → (IsLawfulNode (head_at types) (node.Func s ps rs) → Each (IsShareable (head_at types)) (ps ++ rs)) → Each IsConstant (ps ++ rs)
  shared_parts t s ps rs e k =
      both_hold (IsShareable (head_at types)) (λ u. u.index < first) (ps ++ rs) (k (subst (IsLawfulNode (head_at types)) e (lawful.nodes t).0))
      (subst (λ x. Each (λ u. u.index < first) (types_in x)) e (earlier (types_in (head_at types t)) (all_there types types t.index lawful.defined)))

  abbrev Shared : TypeId → List TypeId → List TypeId → Type 0
  Shared t ps rs = (head_at types t ≡ node.Func sort.Shared ps rs) ⊎ (head_at types t ≡ node.Func sort.Query ps rs)

  pub constants : (t : TypeId) (ps rs : List TypeId) → Shared t ps rs → Each IsConstant (ps ++ rs)
  constants t ps rs (inl e) = shared_parts t sort.Shared ps rs e (λ l. l)
  constants t ps rs (inr e) = shared_parts t sort.Query ps rs e (λ l. l)

  shared_there : (t : TypeId) (ps rs : List TypeId) → Each IsConstant (ps ++ rs) → Shared t ps rs → (expanded types first (f t) ≡ node.Func sort.Shared ps rs) ⊎ (expanded types first (f t) ≡ node.Func sort.Query ps rs)
  shared_there t ps rs h (inl e) = inl (function_there t sort.Shared ps rs e h)
  shared_there t ps rs h (inr e) = inr (function_there t sort.Query ps rs e h)

  pub send_stays : (x : Context) (ps rs : List TypeId) (ws : List (Want TypeId)) (w : Want TypeId) → ActionTyped (head_at types) x (action.Send ps rs) ws w
      → ActionTyped (expanded types first) (close_context f x) (action.Send ps rs) (close_wants f ws) (close_want f w)
  send_stays x ps rs ws w h =
      let k = constants h.0 ps rs h.3 in
      let p : map f ps ≡ ps = map_stays f ps (all_stay ps (left IsConstant ps rs k)) in (
        f h.0,
        f h.1,
        h.2,
        shared_there h.0 ps rs k h.3,
        ap (close_wants f) h.4 ∙ ap (λ (us : List (Want TypeId)). Of (f h.0) ∷ us) (types_map f ps ∙ ap (λ (us : List TypeId). map (λ t. Of t) us) p),
        result_stays rs h.1 (right IsConstant ps rs k) h.5,
        ap (close_want f) h.6,
      )
