-- What is saved, as values of the language.
use Rattle.std.proofs.Common.{◌≡◌, ℕ, List, [], ◌∷◌, Option, Some, None, refl, sym, ap, ap₂, ◌∙◌, subst}
use Rattle.std.specs.Prelude.{map, slice_get}
use Rattle.mo_types.specs.declared.datum.Datum.{Datum}
use Rattle.mo_types.specs.declared.node.TypeId.{TypeId}
use Rattle.mo_types.specs.Code.{beside, Variable}
use Rattle.mo_types.specs.Graph.{Slot, head_at}
use Rattle.mo_types.specs.Heads.{map_option}
use Rattle.mo_types.specs.Values as message
use Rattle.mo_types.specs.Values.{flat}
use Rattle.mo_values.specs.Messages.{both, plain_at, plain_each}
use Rattle.mo_values.specs.Recoding.{recode, recode_all, recodes}
use Rattle.mo_values.specs.Shapes.{Shape, AShape, shapes}
use Rattle.typed_tree.specs.Programs.{StableVariable}
use Rattle.mo_meaning.specs.Cells as cells
use Rattle.mo_meaning.specs.Exports as exports
use Rattle.mo_meaning.specs.Messages as messages
use Rattle.mo_meaning.specs.Messages.{joined_values}
use Rattle.mo_meaning.specs.Saving as saving
use Rattle.mo_meaning.specs.Saving.{and_variable, variables_of}
use Rattle.mo_machine.specs.Acts.{Store}
use Rattle.mo_machine.specs.Cells.{cell_of, held}
use Rattle.mo_machine.specs.Exports.{part_at, value_or_unit, values_in}
use Rattle.mo_machine.specs.Messages.{plain_values}
use Rattle.mo_machine.specs.Unload.{unload, unload_list}
use Rattle.mo_machine.specs.Values.{Value, Made, Code, shape_of, shapes_list}
use Rattle.mo_machine.proofs.Cells.{cell_same, held_same}
use Rattle.mo_machine.proofs.Looks.{plain_each_same}
use Rattle.mo_machine.proofs.Unloaded.{closed, list_closed, list_get, list_unloaded}
use Rattle.arena_equality.specs.Own.{AreOwnLabels}
use Rattle.arena_equality.proofs.Typed.{plain_typed}
use Rattle.arena_saving.specs.Saving.{and_held, and_parts, held_in, parts_in, stable_cells, AreVariables}

-- ---- cells

value_or_same : (o : Option Value) → exports.value_or_unit (map_option unload o) ≡ unload (value_or_unit o)
value_or_same None = refl
value_or_same (Some v) = refl

values_in_same : (v : Value) → exports.values_in (unload v) ≡ unload_list (values_in v)
values_in_same (Made head inside) = list_unloaded inside
values_in_same _ = refl

part_same : (i : ℕ) (v : Value) → exports.part_at i (unload v) ≡ unload (part_at i v)
part_same i v = ap (λ vs. exports.value_or_unit (slice_get vs i)) (values_in_same v) ∙ ap exports.value_or_unit (list_get (values_in v) i) ∙ value_or_same (slice_get (values_in v) i)

pub cells_same : (v : Value) → exports.stable_cells (unload v) ≡ unload_list (stable_cells v)
cells_same v = ap exports.values_in (part_same 3 v) ∙ values_in_same (part_at 3 v)

and_held_same : (o : Option Value) (vs : List Value) → saving.and_held (map_option unload o) (unload_list vs) ≡ unload_list (and_held o vs)
and_held_same None vs = refl
and_held_same (Some v) vs = refl

pub held_in_same : (s : Store) (cs : List Value) → saving.held_in (unload_list s) (unload_list cs) ≡ unload_list (held_in s cs)
held_in_same s [] = refl
held_in_same s (c ∷ cs) =
    ap (λ o. saving.and_held o (saving.held_in (unload_list s) (unload_list cs))) (ap (cells.held (unload_list s)) (cell_same c) ∙ held_same s (cell_of c))
    ∙ ap (λ vs. saving.and_held (map_option unload (held s (cell_of c))) vs) (held_in_same s cs)
    ∙ and_held_same (held s (cell_of c)) (held_in s cs)

-- ---- values in messages

shapes_closed : (ss : List (Shape Code)) → shapes (recodes closed ss) ≡ recode_all closed (shapes ss)
shapes_closed [] = refl
shapes_closed (s ∷ ss) = ap (AShape (recode closed s)) (shapes_closed ss)

plain_same : (types : List Slot) (ts : List TypeId) (vs : List Value) → messages.plain_values types ts (unload_list vs) ≡ plain_values types ts vs
plain_same types ts vs =
    let wanted = map (λ t. Some t) ts in
    ap (λ ss. joined_values (plain_each (head_at types) wanted (shapes ss))) (list_closed vs)
    ∙ ap (λ ss. joined_values (plain_each (head_at types) wanted ss)) (shapes_closed (shapes_list vs))
    ∙ ap joined_values (plain_each_same closed (head_at types) wanted (shapes (shapes_list vs)))

-- ---- typed values

beside_typed : (types : List Slot) (t : TypeId) (m : message.Values) → message.HaveTypes (head_at types) (t ∷ []) m → message.HaveTypes (head_at types) (t ∷ []) (beside m message.Nil)
beside_typed types t message.Nil h = absurd h
beside_typed types t (message.Value p i message.Nil) h = h
beside_typed types t (message.Value p i (message.Value q j o)) h = absurd h.2

values_typed : (types : List Slot) → AreOwnLabels types → (t : TypeId) (w : Value) (m : message.Values) → plain_values types (t ∷ []) (w ∷ []) ≡ Some m → message.HaveTypes (head_at types) (t ∷ []) m
values_typed types own t w m is = by (plain_at (head_at types) (Some t) (shape_of w)) refl is
  where
    by : (o : Option message.Values) → plain_at (head_at types) (Some t) (shape_of w) ≡ o → joined_values (both o (Some [])) ≡ Some m → message.HaveTypes (head_at types) (t ∷ []) m
    by None e h = absurd (let f : None ≡ Some m = h in cc)
    by (Some x) e h =
        let f : Some (beside x message.Nil) ≡ Some m = h in
        let same : beside x message.Nil ≡ m = cc in
        let Of : message.Values → Type 0 = λ v. message.HaveTypes (head_at types) (t ∷ []) v in
        subst Of same (beside_typed types t x (plain_typed (head_at types) own t (shape_of w) x e))

module _ (types : List Slot) where
  -- the variables with these parts
  abbrev Found : List StableVariable → List Value → List (List Datum) → Type 0
  Found stable vs ps = (ws : List (Variable TypeId)) × (variables_of types stable (unload_list vs) ≡ Some ws) × AreVariables types stable ps ws

  pub found : AreOwnLabels types → (stable : List StableVariable) (vs : List Value) (ps : List (List Datum)) → Some ps ≡ parts_in types stable vs → Found stable vs ps
  found own [] vs ps h =
      let e : Some ps ≡ Some [] = h in
      let same : ps ≡ [] = cc in
      let Of : List (List Datum) → Type 0 = λ q. AreVariables types [] q [] in
      ([], refl, subst Of (sym same) tt)
  found own (v ∷ stable) [] ps h = absurd (let e : Some ps ≡ None = h in cc)
  found own (v ∷ stable) (w ∷ vs) ps h = by (plain_values types (v.of_type ∷ []) (w ∷ [])) (parts_in types stable vs) refl (λ qs e. found own stable vs qs e) h
    where
      by : (o : Option message.Values) (r : Option (List (List Datum))) → plain_values types (v.of_type ∷ []) (w ∷ []) ≡ o → ((qs : List (List Datum)) → Some qs ≡ r → Found stable vs qs) → Some ps ≡ and_parts (map_option flat o) r
          → Found (v ∷ stable) (w ∷ vs) ps
      by None r e more k = absurd (let i : Some ps ≡ None = k in cc)
      by (Some m) None e more k = absurd (let i : Some ps ≡ None = k in cc)
      by (Some m) (Some qs) e more k =
          let i : Some ps ≡ Some (flat m ∷ qs) = k in
          let same : ps ≡ flat m ∷ qs = cc in
          let rest : Found stable vs qs = more qs refl in
          let here : Variable TypeId = record { name = v.name; type = v.of_type; value = m } in
          let Of : List (List Datum) → Type 0 = λ q. AreVariables types (v ∷ stable) q (here ∷ rest.0) in (
            here ∷ rest.0,
            ap₂ (λ (a : Option message.Values) (b : Option (List (Variable TypeId))). and_variable v a b) (plain_same types (v.of_type ∷ []) (w ∷ []) ∙ e) rest.1,
            subst Of (sym same) (record { name = refl; type = refl; value = refl; typed = values_typed types own v.of_type w m e }, rest.2),
          )

  pub missing : (stable : List StableVariable) (vs : List Value) → None ≡ parts_in types stable vs → variables_of types stable (unload_list vs) ≡ None
  missing [] vs h = absurd (let e : None ≡ Some [] = h in cc)
  missing (v ∷ stable) [] h = refl
  missing (v ∷ stable) (w ∷ vs) h = by (plain_values types (v.of_type ∷ []) (w ∷ [])) (parts_in types stable vs) refl (λ e. missing stable vs e) h
    where
      by : (o : Option message.Values) (r : Option (List (List Datum))) → plain_values types (v.of_type ∷ []) (w ∷ []) ≡ o → (None ≡ r → variables_of types stable (unload_list vs) ≡ None) → None ≡ and_parts (map_option flat o) r
          → variables_of types (v ∷ stable) (unload_list (w ∷ vs)) ≡ None
      by None r e more k = ap (λ (a : Option message.Values). and_variable v a (variables_of types stable (unload_list vs))) (plain_same types (v.of_type ∷ []) (w ∷ []) ∙ e)
      by (Some m) None e more k = ap₂ (λ (a : Option message.Values) (b : Option (List (Variable TypeId))). and_variable v a b) (plain_same types (v.of_type ∷ []) (w ∷ []) ∙ e) (more refl)
      by (Some m) (Some qs) e more k = absurd (let i : None ≡ Some (flat m ∷ qs) = k in cc)
