-- Heads and their parts.
use Rattle.std.proofs.Common.{◌≡◌, ℕ, zero, suc, ◌+◌, List, [], ◌∷◌, ◌++◌, length, map, take, drop, refl, sym, ap, ◌∙◌, arith}
use Rattle.mo_types.specs.declared.node.Field.{Field}
use Rattle.mo_types.specs.declared.node.Node.{Node}
use Rattle.mo_types.specs.declared.node.Node.TheVariants as node
use Rattle.mo_types.specs.declared.node.TypeId.{TypeId}
use Rattle.mo_types.specs.Layout.{layout, entries}
use Rattle.mo_types.specs.Sub.{Each}
use Rattle.mo_subtype.specs.Renamed.{on_field, on_node}
use Rattle.typed_tree.specs.Instances.{types_in, field_types}
use Rattle.type_terms.specs.declared.form.TermId.{TermId}
use Rattle.met_types.specs.Nodes.{fields_typed, with_first, typed_node}

-- ---- heads with other parts

module _ {B : Type 0} (f : TypeId → B) (at : TermId → B) where
  one : (a : TermId) (ids : List TypeId) (k : TypeId → Node TypeId) (m : B → Node B) → ((i : TypeId) → on_node f (k i) ≡ m (f i)) → map f ids ≡ at a ∷ [] → on_node f (with_first ids k) ≡ m (at a)
  one a [] k m e h = cc
  one a (i ∷ ids) k m e h = e i ∙ ap m (let g : f i ≡ at a = cc in g)

  fields : (fs : List (Field TermId)) (ids : List TypeId) → map f ids ≡ map at (field_types fs) → map (on_field f) (fields_typed fs ids) ≡ map (on_field at) fs
  fields [] ids h = refl
  fields (x ∷ fs) [] h = cc
  fields (x ∷ fs) (i ∷ ids) h =
      let g : f i ≡ at x.part = cc in
      let k : map f ids ≡ map at (field_types fs) = cc in
      ap (λ p. made x p ∷ map (on_field f) (fields_typed fs ids)) g ∙ ap (λ l. made x (at x.part) ∷ l) (fields fs ids k)
    where
      made : Field TermId → B → Field B
      made x p = record { label = x.label; mutable = x.mutable; part = p }

  first_parts : (ps rs : List TermId) (ids : List TypeId) → map f ids ≡ map at (ps ++ rs) → map f (take (length ps) ids) ≡ map at ps
  first_parts [] rs ids h = refl
  first_parts (p ∷ ps) rs [] h = cc
  first_parts (p ∷ ps) rs (i ∷ ids) h =
      let g : f i ≡ at p = cc in
      let k : map f ids ≡ map at (ps ++ rs) = cc in
      ap (λ b. b ∷ map f (take (length ps) ids)) g ∙ ap (λ l. at p ∷ l) (first_parts ps rs ids k)

  last_parts : (ps rs : List TermId) (ids : List TypeId) → map f ids ≡ map at (ps ++ rs) → map f (drop (length ps) ids) ≡ map at rs
  last_parts [] rs ids h = h
  last_parts (p ∷ ps) rs [] h = cc
  last_parts (p ∷ ps) rs (i ∷ ids) h = last_parts ps rs ids (let k : map f ids ≡ map at (ps ++ rs) = cc in k)

  pub typed : (n : Node TermId) (ids : List TypeId) → map f ids ≡ map at (types_in n) → on_node f (typed_node n ids) ≡ on_node at n
  typed (node.Number k) ids h = refl
  typed node.Bool ids h = refl
  typed node.Char ids h = refl
  typed node.Text ids h = refl
  typed node.Blob ids h = refl
  typed node.Principal ids h = refl
  typed node.Error ids h = refl
  typed node.Null ids h = refl
  typed node.Any ids h = refl
  typed node.Bottom ids h = refl
  typed (node.Opt a) ids h = one a ids (λ i. node.Opt i) (λ b. node.Opt b) (λ i. refl) h
  typed (node.Array a) ids h = one a ids (λ i. node.Array i) (λ b. node.Array b) (λ i. refl) h
  typed (node.MutArray a) ids h = one a ids (λ i. node.MutArray i) (λ b. node.MutArray b) (λ i. refl) h
  typed (node.Tuple ts) ids h = ap (λ bs. node.Tuple bs) h
  typed (node.Object fs) ids h = ap (λ bs. node.Object bs) (fields fs ids h)
  typed (node.Actor fs) ids h = ap (λ bs. node.Actor bs) (fields fs ids h)
  typed (node.Variant fs) ids h = ap (λ bs. node.Variant bs) (fields fs ids h)
  typed (node.Func s ps rs) ids h = ap (λ bs. node.Func s bs (map f (drop (length ps) ids))) (first_parts ps rs ids h) ∙ ap (λ bs. node.Func s (map at ps) bs) (last_parts ps rs ids h)
  typed (node.Async a) ids h = one a ids (λ i. node.Async i) (λ b. node.Async b) (λ i. refl) h
  typed (node.Variable v b) ids h = one b ids (λ i. node.Variable v i) (λ b. node.Variable v b) (λ i. refl) h

-- ---- the parts that they have

one_part : (ids : List TypeId) (k : TypeId → Node TypeId) → ((i : TypeId) → types_in (k i) ≡ i ∷ []) → length ids ≡ 1 → types_in (with_first ids k) ≡ ids
one_part [] k e h = absurd (omega arith)
one_part (i ∷ []) k e h = e i
one_part (i ∷ j ∷ ids) k e h = absurd (omega arith)

field_parts : (fs : List (Field TermId)) (ids : List TypeId) → length ids ≡ length (field_types fs) → field_types (fields_typed fs ids) ≡ ids
field_parts [] [] h = refl
field_parts [] (i ∷ ids) h = absurd (omega arith)
field_parts (f ∷ fs) [] h = absurd (omega arith)
field_parts (f ∷ fs) (i ∷ ids) h = ap (λ l. i ∷ l) (field_parts fs ids (omega arith))

take_drop : {A : Type 0} (n : ℕ) (xs : List A) → take n xs ++ drop n xs ≡ xs
take_drop zero xs = refl
take_drop (suc n) [] = refl
take_drop (suc n) (x ∷ xs) = ap (λ l. x ∷ l) (take_drop n xs)

no_part : (ids : List TypeId) → length ids ≡ 0 → [] ≡ ids
no_part [] h = refl
no_part (i ∷ ids) h = absurd (omega arith)

pub typed_parts : (n : Node TermId) (ids : List TypeId) → length ids ≡ length (types_in n) → types_in (typed_node n ids) ≡ ids
typed_parts (node.Number k) ids h = no_part ids h
typed_parts node.Bool ids h = no_part ids h
typed_parts node.Char ids h = no_part ids h
typed_parts node.Text ids h = no_part ids h
typed_parts node.Blob ids h = no_part ids h
typed_parts node.Principal ids h = no_part ids h
typed_parts node.Error ids h = no_part ids h
typed_parts node.Null ids h = no_part ids h
typed_parts node.Any ids h = no_part ids h
typed_parts node.Bottom ids h = no_part ids h
typed_parts (node.Opt a) ids h = one_part ids (λ i. node.Opt i) (λ i. refl) h
typed_parts (node.Array a) ids h = one_part ids (λ i. node.Array i) (λ i. refl) h
typed_parts (node.MutArray a) ids h = one_part ids (λ i. node.MutArray i) (λ i. refl) h
typed_parts (node.Tuple ts) ids h = refl
typed_parts (node.Object fs) ids h = field_parts fs ids h
typed_parts (node.Actor fs) ids h = field_parts fs ids h
typed_parts (node.Variant fs) ids h = field_parts fs ids h
typed_parts (node.Func s ps rs) ids h = take_drop (length ps) ids
typed_parts (node.Async a) ids h = one_part ids (λ i. node.Async i) (λ i. refl) h
typed_parts (node.Variable v b) ids h = one_part ids (λ i. node.Variable v i) (λ i. refl) h

-- ---- heads seen elsewhere

map_append : {A B : Type 0} (f : A → B) (xs ys : List A) → map f (xs ++ ys) ≡ map f xs ++ map f ys
map_append f [] ys = refl
map_append f (x ∷ xs) ys = ap (λ l. f x ∷ l) (map_append f xs ys)

map_length : {A B : Type 0} (f : A → B) (xs : List A) → length (map f xs) ≡ length xs
map_length f [] = refl
map_length f (x ∷ xs) = ap suc (map_length f xs)

module _ {A B : Type 0} (f : A → B) where
  fields_seen : (fs : List (Field A)) → field_types (map (on_field f) fs) ≡ map f (field_types fs)
  fields_seen [] = refl
  fields_seen (x ∷ fs) = ap (λ l. f x.part ∷ l) (fields_seen fs)

  pub parts_seen : (n : Node A) → types_in (on_node f n) ≡ map f (types_in n)
  parts_seen (node.Number k) = refl
  parts_seen node.Bool = refl
  parts_seen node.Char = refl
  parts_seen node.Text = refl
  parts_seen node.Blob = refl
  parts_seen node.Principal = refl
  parts_seen node.Error = refl
  parts_seen node.Null = refl
  parts_seen node.Any = refl
  parts_seen node.Bottom = refl
  parts_seen (node.Opt a) = refl
  parts_seen (node.Array a) = refl
  parts_seen (node.MutArray a) = refl
  parts_seen (node.Tuple ts) = refl
  parts_seen (node.Object fs) = fields_seen fs
  parts_seen (node.Actor fs) = fields_seen fs
  parts_seen (node.Variant fs) = fields_seen fs
  parts_seen (node.Func s ps rs) = sym (map_append f ps rs)
  parts_seen (node.Async a) = refl
  parts_seen (node.Variable v b) = refl

  pub entries_seen : (n : Node A) → entries (on_node f n) ≡ entries n
  unfolding layout
  entries_seen (node.Number k) = refl
  entries_seen node.Bool = refl
  entries_seen node.Char = refl
  entries_seen node.Text = refl
  entries_seen node.Blob = refl
  entries_seen node.Principal = refl
  entries_seen node.Error = refl
  entries_seen node.Null = refl
  entries_seen node.Any = refl
  entries_seen node.Bottom = refl
  entries_seen (node.Opt a) = refl
  entries_seen (node.Array a) = refl
  entries_seen (node.MutArray a) = refl
  entries_seen (node.Tuple ts) = ap (λ n. n + 0 + 0) (map_length f ts)
  entries_seen (node.Object fs) = ap (λ n. 0 + 0 + n) (map_length (on_field f) fs)
  entries_seen (node.Actor fs) = ap (λ n. 0 + 0 + n) (map_length (on_field f) fs)
  entries_seen (node.Variant fs) = ap (λ n. 0 + 0 + n) (map_length (on_field f) fs)
  entries_seen (node.Func s ps rs) = ap (λ n. n + length (map f rs) + 0) (map_length f ps) ∙ ap (λ n. length ps + n + 0) (map_length f rs)
  entries_seen (node.Async a) = refl
  entries_seen (node.Variable v b) = refl

module _ {A B : Type 0} (f g : A → B) where
  left : (xs ys : List A) → Each (λ p. f p ≡ g p) (xs ++ ys) → Each (λ p. f p ≡ g p) xs
  left [] ys h = tt
  left (x ∷ xs) ys h = (h.0, left xs ys h.1)

  right : (xs ys : List A) → Each (λ p. f p ≡ g p) (xs ++ ys) → Each (λ p. f p ≡ g p) ys
  right [] ys h = h
  right (x ∷ xs) ys h = right xs ys h.1

  pub map_alike : (xs : List A) → Each (λ p. f p ≡ g p) xs → map f xs ≡ map g xs
  map_alike [] h = refl
  map_alike (x ∷ xs) h = ap (λ b. b ∷ map f xs) h.0 ∙ ap (λ l. g x ∷ l) (map_alike xs h.1)

  abbrev made : Field A → B → Field B
  made x p = record { label = x.label; mutable = x.mutable; part = p }

  fields_alike : (fs : List (Field A)) → Each (λ p. f p ≡ g p) (field_types fs) → map (on_field f) fs ≡ map (on_field g) fs
  fields_alike [] h = refl
  fields_alike (x ∷ fs) h = ap (λ p. made x p ∷ map (on_field f) fs) h.0 ∙ ap (λ l. made x (g x.part) ∷ l) (fields_alike fs h.1)

  pub nodes_alike : (n : Node A) → Each (λ p. f p ≡ g p) (types_in n) → on_node f n ≡ on_node g n
  nodes_alike (node.Number k) h = refl
  nodes_alike node.Bool h = refl
  nodes_alike node.Char h = refl
  nodes_alike node.Text h = refl
  nodes_alike node.Blob h = refl
  nodes_alike node.Principal h = refl
  nodes_alike node.Error h = refl
  nodes_alike node.Null h = refl
  nodes_alike node.Any h = refl
  nodes_alike node.Bottom h = refl
  nodes_alike (node.Opt a) h = ap (λ b. node.Opt b) h.0
  nodes_alike (node.Array a) h = ap (λ b. node.Array b) h.0
  nodes_alike (node.MutArray a) h = ap (λ b. node.MutArray b) h.0
  nodes_alike (node.Tuple ts) h = ap (λ bs. node.Tuple bs) (map_alike ts h)
  nodes_alike (node.Object fs) h = ap (λ bs. node.Object bs) (fields_alike fs h)
  nodes_alike (node.Actor fs) h = ap (λ bs. node.Actor bs) (fields_alike fs h)
  nodes_alike (node.Variant fs) h = ap (λ bs. node.Variant bs) (fields_alike fs h)
  nodes_alike (node.Func s ps rs) h = ap (λ bs. node.Func s bs (map f rs)) (map_alike ps (left ps rs h)) ∙ ap (λ bs. node.Func s (map g ps) bs) (map_alike rs (right ps rs h))
  nodes_alike (node.Async a) h = ap (λ b. node.Async b) h.0
  nodes_alike (node.Variable v b) h = ap (λ c. node.Variable v c) h.0
