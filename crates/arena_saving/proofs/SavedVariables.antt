-- The parts of the values of stable variables.
use Rattle.std.proofs.Common.{◌≡◌, ℕ, zero, suc, ◌+◌, ◌<◌, ◌≤◌, List, [], ◌∷◌, ◌++◌, length, map, take, drop, get_or, Option, Some, None, refl, sym, ap, ap₂, ◌∙◌, subst, arith, add-one}
use Rattle.std.specs.Prelude.{slice_get}
use Rattle.std.proofs.Math.Seq.{take-suc}
use Rattle.std.proofs.lemmas.List.{append-nil, map-append, take_all, take-append-drop}
use Rattle.mo_types.specs.declared.datum.Datum.{Datum}
use Rattle.mo_types.specs.Graph.{Slot, head_at}
use Rattle.mo_types.specs.Heads.{map_option}
use Rattle.mo_types.specs.Values as message
use Rattle.mo_types.specs.Values.{flat}
use Rattle.mo_values.specs.Messages.{both, plain}
use Rattle.mo_meaning.specs.Messages.{joined_values}
use Rattle.mo_machine.specs.Values.{Value, listed, shape_of}
use Rattle.typed_tree.specs.declared.program.StableVariable.{StableVariable as Written}
use Rattle.typed_tree.specs.ProgramView.{stable_variable}
use Rattle.typed_tree.specs.Programs.{StableVariable}
use Rattle.value_arena.specs.declared.node.ValueId.{ValueId}
use Rattle.value_arena.specs.Growth.{AreBelow}
use Rattle.value_arena.specs.Meaning.{value_at, values_at}
use Rattle.arena_messages.proofs.Labelled.{flat_beside}
use Rattle.arena_saving.specs.Saving.{and_parts, parts_at, parts_in, parts_there}

-- ---- one value

single : (x : Option message.Values) → map_option flat (joined_values (both x (Some []))) ≡ map_option flat x
single None = refl
single (Some v) = ap (λ (l : List Datum). Some l) (flat_beside v message.Nil ∙ append-nil (flat v))

pub own_is : (types : List Slot) (v : StableVariable) (w : Value) → map_option flat (plain (head_at types) v.of_type (shape_of w)) ≡ parts_at types v w
own_is types v w = sym (single (plain (head_at types) v.of_type (shape_of w)))

pub value_there : (vs : List Value) (ids : List ValueId) (i : ℕ) (id : ValueId) → Some id ≡ slice_get ids i → Some (value_at vs id) ≡ slice_get (listed (values_at vs ids)) i
value_there vs [] i id h = absurd (let e : Some id ≡ None = h in cc)
value_there vs (x ∷ ids) zero id h = ap (λ (y : ValueId). Some (value_at vs y)) (let e : Some id ≡ Some x = h in let f : id ≡ x = cc in f)
value_there vs (x ∷ ids) (suc i) id h = value_there vs ids i id h

pub no_value : (vs : List Value) (ids : List ValueId) (i : ℕ) → None ≡ slice_get ids i → None ≡ slice_get (listed (values_at vs ids)) i
no_value vs [] i h = refl
no_value vs (x ∷ ids) zero h = absurd (let e : None ≡ Some x = h in cc)
no_value vs (x ∷ ids) (suc i) h = no_value vs ids i h

pub value_below : (n : ℕ) (ids : List ValueId) (i : ℕ) (id : ValueId) → AreBelow n ids → Some id ≡ slice_get ids i → id.index < n
value_below n [] i id below h = absurd (let e : Some id ≡ None = h in cc)
value_below n (x ∷ ids) zero id below h = let e : Some id ≡ Some x = h in let f : id ≡ x = cc in subst (λ (y : ValueId). y.index < n) (sym f) below.0
value_below n (x ∷ ids) (suc i) id below h = value_below n ids i id below.1 h

-- ---- one variable more

abbrev with_last : Option (List (List Datum)) → Option (List Datum) → Option (List (List Datum))
with_last None o = None
with_last (Some ps) None = None
with_last (Some ps) (Some p) = Some (ps ++ p ∷ [])

last_behind : (a : Option (List Datum)) (b : Option (List (List Datum))) (c : Option (List Datum)) → and_parts a (with_last b c) ≡ with_last (and_parts a b) c
last_behind None b c = refl
last_behind (Some p) None c = refl
last_behind (Some p) (Some ps) None = refl
last_behind (Some p) (Some ps) (Some q) = refl

last_first : (c : Option (List Datum)) → and_parts c (Some []) ≡ with_last (Some []) c
last_first None = refl
last_first (Some p) = refl

module _ (types : List Slot) where
  no_more : (v : StableVariable) (xs : List StableVariable) → parts_in types (xs ++ v ∷ []) [] ≡ with_last (parts_in types xs []) None
  no_more v [] = refl
  no_more v (x ∷ xs) = refl

  parts_last : (xs : List StableVariable) (v : StableVariable) (vs : List Value) → parts_in types (xs ++ v ∷ []) vs ≡ with_last (parts_in types xs vs) (parts_there types v (slice_get vs (length xs)))
  parts_last [] v [] = refl
  parts_last [] v (w ∷ vs) = last_first (parts_at types v w)
  parts_last (x ∷ xs) v [] = refl
  parts_last (x ∷ xs) v (w ∷ vs) =
      ap (λ (o : Option (List (List Datum))). and_parts (parts_at types x w) o) (parts_last xs v vs)
      ∙ last_behind (parts_at types x w) (parts_in types xs vs) (parts_there types v (slice_get vs (length xs)))

  -- where one is none, all are
  fails : (xs ys : List StableVariable) (vs : List Value) → parts_in types xs vs ≡ None → parts_in types (xs ++ ys) vs ≡ None
  fails [] ys vs h = absurd (let e : Some [] ≡ None = h in cc)
  fails (x ∷ xs) ys [] h = refl
  fails (x ∷ xs) ys (w ∷ vs) h = by (parts_at types x w) (parts_in types xs vs) h (λ e. fails xs ys vs e)
    where
      by : (a : Option (List Datum)) (b : Option (List (List Datum))) → and_parts a b ≡ None → (b ≡ None → parts_in types (xs ++ ys) vs ≡ None) → and_parts a (parts_in types (xs ++ ys) vs) ≡ None
      by None b e more = refl
      by (Some p) None e more = ap (λ (o : Option (List (List Datum))). and_parts (Some p) o) (more refl)
      by (Some p) (Some ps) e more = absurd (let k : Some (p ∷ ps) ≡ None = e in cc)

  longer : (stable : List Written) (i : ℕ) (v : Written) → i < length stable → v ≡ get_or stable i v → map stable_variable (take (i + 1) stable) ≡ map stable_variable (take i stable) ++ stable_variable v ∷ []
  longer stable i v below is =
      ap (λ (n : ℕ). map stable_variable (take n stable)) (add-one i)
      ∙ ap (λ (l : List Written). map stable_variable l) (take-suc stable i v below ∙ ap (λ (x : Written). take i stable ++ x ∷ []) (sym is))
      ∙ map-append stable_variable (take i stable) (v ∷ [])

  so_long : (stable : List Written) (i : ℕ) → i < length stable → length (map stable_variable (take i stable)) ≡ i
  so_long [] i h = absurd (omega (arith, h))
  so_long (x ∷ stable) zero h = refl
  so_long (x ∷ stable) (suc i) h = ap suc (so_long stable i (omega (arith, h)))

  module _ (stable : List Written) (vs : List Value) (i : ℕ) (v : Written) (below : i < length stable) (read : v ≡ get_or stable i v) where
    next : parts_in types (map stable_variable (take (i + 1) stable)) vs ≡ with_last (parts_in types (map stable_variable (take i stable)) vs) (parts_there types (stable_variable v) (slice_get vs i))
    next =
        ap (λ (l : List StableVariable). parts_in types l vs) (longer stable i v below read)
        ∙ parts_last (map stable_variable (take i stable)) (stable_variable v) vs
        ∙ ap (λ (n : ℕ). with_last (parts_in types (map stable_variable (take i stable)) vs) (parts_there types (stable_variable v) (slice_get vs n))) (so_long stable i below)

    pub parts_next : (ps all : List (List Datum)) (p : List Datum) → Some ps ≡ parts_in types (map stable_variable (take i stable)) vs → Some p ≡ parts_there types (stable_variable v) (slice_get vs i) → all ≡ ps ++ p ∷ []
        → Some all ≡ parts_in types (map stable_variable (take (i + 1) stable)) vs
    parts_next ps all p before one is =
        ap (λ (l : List (List Datum)). Some l) is
        ∙ ap₂ (λ (o : Option (List (List Datum))) (q : Option (List Datum)). with_last o q) before one
        ∙ sym next

    pub parts_fail : (ps : List (List Datum)) → Some ps ≡ parts_in types (map stable_variable (take i stable)) vs → None ≡ parts_there types (stable_variable v) (slice_get vs i) → None ≡ parts_in types (map stable_variable stable) vs
    parts_fail ps before none =
        let here : parts_in types (map stable_variable (take (i + 1) stable)) vs ≡ None =
        next ∙ sym (ap₂ (λ (o : Option (List (List Datum))) (q : Option (List Datum)). with_last o q) before none) in
        sym (fails (map stable_variable (take (i + 1) stable)) (map stable_variable (drop (i + 1) stable)) vs here)
        ∙ ap (λ (l : List StableVariable). parts_in types l vs) (sym (map-append stable_variable (take (i + 1) stable) (drop (i + 1) stable)) ∙ ap (λ (l : List Written). map stable_variable l) (take-append-drop (i + 1) stable))

  pub parts_whole : (stable : List Written) (vs : List Value) (i : ℕ) (ps : List (List Datum)) → length stable ≤ i → Some ps ≡ parts_in types (map stable_variable (take i stable)) vs → Some ps ≡ parts_in types (map stable_variable stable) vs
  parts_whole stable vs i ps all h = h ∙ ap (λ (l : List Written). parts_in types (map stable_variable l) vs) (take_all i stable all)
