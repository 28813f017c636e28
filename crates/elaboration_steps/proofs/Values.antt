-- Values that belong together are seen alike.
use Rattle.std.proofs.Common.{◌≡◌, ℕ, zero, suc, true, false, List, [], ◌∷◌, ◌++◌, length, Option, Some, None, slice_get, refl, sym, ap, ap₂, ◌∙◌, subst}
use Rattle.std.specs.Prelude.{slice_set}
use Rattle.mo_types.specs.declared.datum.Datum.TheVariants as part
use Rattle.mo_values.specs.Alike.{Alike, AlikeAll, AlikeEach}
use Rattle.mo_values.specs.Shapes.{Head, Leaf, Present, Cell, Shape, Shapes, NoShape, AShape, shapes}
use Rattle.mo_values.specs.Shapes as shape
use Rattle.mo_num.specs.declared.kind.Kind.TheVariants as kind
use Rattle.mo_types.specs.declared.node.Node.TheVariants as node
use Rattle.mo_values.specs.Views.{leaf_of, leaf_if, natural_in, natural_of, flag_of}
use Rattle.core_ir.specs.Choices.{on_some}
use Rattle.mo_machine.specs.Members.{number_in}
use Rattle.core_ir.specs.Values as core
use Rattle.core_ir.specs.Values.{Handle}
use Rattle.core_ir.specs.Openings.{Inside, Otherwise, NotOne, option_opened}
use Rattle.typed_tree.specs.Patterns.{Bind, Present?, present_of, where_there}
use Rattle.mo_machine.specs.Values.{Value, Values, Made, Closure, BuiltIn, NoValue, AValue, Code, ClosureCode, BuiltInCode, shape_of, shapes_of, shapes_list, value_of, values_of, values_list}
use Rattle.mo_machine.specs.Acts.{Act, Stuck}
use Rattle.mo_machine.specs.Cells.{cell_of}
use Rattle.mo_machine.specs.Reductions.{chosen}
use Rattle.elaboration_values.specs.Belonging.{Known, Names, Belongs, EachBelongs, AlikeFound}
use Rattle.elaboration_values.proofs.Belong.{patterns}

mutual
  pub shape_value : (s : Shape Code) → shape_of (value_of s) ≡ s
  shape_value (shape.Made head inside) = ap (λ xs. shape.Made head xs) (shapes_values inside)
  shape_value (shape.Function (ClosureCode group which env)) = refl
  shape_value (shape.Function (BuiltInCode member holds)) = refl

  shapes_values : (ss : Shapes Code) → shapes_of (values_of ss) ≡ ss
  shapes_values NoShape = refl
  shapes_values (AShape s ss) = ap₂ (λ x xs. AShape x xs) (shape_value s) (shapes_values ss)

pub list_values : (ss : List (Shape Code)) → shapes_list (values_list ss) ≡ ss
list_values [] = refl
list_values (s ∷ ss) = ap₂ (λ x xs. x ∷ xs) (shape_value s) (list_values ss)

pub many_shapes : (vs : List Value) → length (shapes_list vs) ≡ length vs
many_shapes [] = refl
many_shapes (v ∷ vs) = ap (λ m. suc m) (many_shapes vs)

module _ (known : List Known) where
  pub value_belongs : (s : Shape Code) (w : core.Value) → Alike (Names known) s w → Belongs known (value_of s) w
  value_belongs s w a = subst (λ x. Alike (Names known) x w) (sym (shape_value s)) a

  pub values_belong : (ss : List (Shape Code)) (ws : List core.Value) → AlikeEach (Names known) ss ws → EachBelongs known (values_list ss) ws
  values_belong ss ws a = subst (λ x. AlikeEach (Names known) x ws) (sym (list_values ss)) a

  pub each_append : (vs : List Value) (ws : List core.Value) (v : Value) (w : core.Value) → EachBelongs known vs ws → Belongs known v w → EachBelongs known (vs ++ v ∷ []) (ws ++ w ∷ [])
  each_append [] [] v w a b = (b, tt)
  each_append [] (x ∷ ws) v w a b = absurd a
  each_append (u ∷ vs) [] v w a b = absurd a
  each_append (u ∷ vs) (x ∷ ws) v w a b = (a.0, each_append vs ws v w (a.1) b)

  pub as_many : (vs : List Value) (ws : List core.Value) → EachBelongs known vs ws → length vs ≡ length ws
  as_many [] [] a = refl
  as_many [] (x ∷ ws) a = absurd a
  as_many (u ∷ vs) [] a = absurd a
  as_many (u ∷ vs) (x ∷ ws) a = ap (λ n. suc n) (as_many vs ws (a.1))

  pub all_alike : (vs : List Value) (us : List core.Value) → EachBelongs known vs us → AlikeAll (Names known) (shapes (shapes_list vs)) (shapes us)
  all_alike [] [] a = tt
  all_alike [] (u ∷ us) a = absurd a
  all_alike (v ∷ vs) [] a = absurd a
  all_alike (v ∷ vs) (u ∷ us) a = (a.0, all_alike vs us (a.1))

  -- what stands at a place
  abbrev pub Both : Option Value → Option core.Value → Type 0
  Both None None = Unit {0}
  Both (Some v) (Some w) = Belongs known v w
  Both _ _ = ⊥

  pub get_both : (vs : List Value) (ws : List core.Value) (i : ℕ) → EachBelongs known vs ws → Both (slice_get vs i) (slice_get ws i)
  get_both [] [] i a = tt
  get_both [] (x ∷ ws) i a = absurd a
  get_both (u ∷ vs) [] i a = absurd a
  get_both (u ∷ vs) (x ∷ ws) zero a = a.0
  get_both (u ∷ vs) (x ∷ ws) (suc i) a = get_both vs ws i (a.1)

  pub set_both : (vs : List Value) (ws : List core.Value) (i : ℕ) (v : Value) (w : core.Value) → EachBelongs known vs ws → Belongs known v w → EachBelongs known (slice_set vs i v) (slice_set ws i w)
  set_both [] [] i v w a b = tt
  set_both [] (x ∷ ws) i v w a b = absurd a
  set_both (u ∷ vs) [] i v w a b = absurd a
  set_both (u ∷ vs) (x ∷ ws) zero v w a b = (b, a.1)
  set_both (u ∷ vs) (x ∷ ws) (suc i) v w a b = (a.0, set_both vs ws i v w (a.1) b)

  -- ---- cells

  cells_of_head : (head : Head) → core.cell_of (shape.Made head NoShape) ≡ cell_of (Made head NoValue)
  cells_of_head (Cell at) = refl
  cells_of_head _ = refl

  no_cell : (head : Head) (v : Value) (vs : Values) → cell_of (Made head (AValue v vs)) ≡ None
  no_cell (Cell at) v vs = refl
  no_cell _ v vs = refl

  no_core_cell : (head : Head) (w : core.Value) (ws : Shapes Handle) → core.cell_of (shape.Made head (AShape w ws)) ≡ None
  no_core_cell (Cell at) w ws = refl
  no_core_cell _ w ws = refl

  made_cells : (head : Head) (vs : Values) (ws : Shapes Handle) → AlikeAll (Names known) (shapes_of vs) ws → core.cell_of (shape.Made head ws) ≡ cell_of (Made head vs)
  made_cells head NoValue NoShape a = cells_of_head head
  made_cells head NoValue (AShape w ws) a = absurd a
  made_cells head (AValue v vs) NoShape a = absurd a
  made_cells head (AValue v vs) (AShape w ws) a = no_core_cell head w ws ∙ sym (no_cell head v vs)

  pub same_cell : (v : Value) (w : core.Value) → Belongs known v w → core.cell_of w ≡ cell_of v
  same_cell (Made head vs) (shape.Made other ws) a = ap (λ h. core.cell_of (shape.Made h ws)) (sym (a.0)) ∙ made_cells head vs ws (a.1)
  same_cell (Made head vs) (shape.Function h) a = absurd a
  same_cell (Closure g n env) (shape.Made other ws) a = absurd a
  same_cell (Closure g n env) (shape.Function h) a = refl
  same_cell (BuiltIn m holds) (shape.Made other ws) a = absurd a
  same_cell (BuiltIn m holds) (shape.Function h) a = refl

  -- ---- truth values: what is done by one

  pub by_flag : (T : Act → Type 0) (v : Value) (w : core.Value) (x y : Act) → Belongs known v w → T Stuck → (flag_of w ≡ Some true → T x) → (flag_of w ≡ Some false → T y) → T (chosen v x y)
  by_flag T (Made (Leaf (part.Flag true)) NoValue) (shape.Made i NoShape) x y a none f g = f (ap (λ h. flag_of {F = Handle} (shape.Made h NoShape)) (sym (a.0)))
  by_flag T (Made (Leaf (part.Flag false)) NoValue) (shape.Made i NoShape) x y a none f g = g (ap (λ h. flag_of {F = Handle} (shape.Made h NoShape)) (sym (a.0)))
  by_flag T (Made (Leaf (part.Flag true)) NoValue) (shape.Made i (AShape u us)) x y a none f g = absurd (a.1)
  by_flag T (Made (Leaf (part.Flag false)) NoValue) (shape.Made i (AShape u us)) x y a none f g = absurd (a.1)
  by_flag T (Made (Leaf (part.Flag true)) NoValue) (shape.Function h) x y a none f g = absurd a
  by_flag T (Made (Leaf (part.Flag false)) NoValue) (shape.Function h) x y a none f g = absurd a
  by_flag T _ w x y a none f g = none

  -- ---- options

  pub inside_is : (w u : core.Value) → option_opened w ≡ Inside u → present_of w ≡ Some u
  inside_is (shape.Made Present (AShape x NoShape)) u e = let z : Inside x ≡ Inside u = e in let y : x ≡ u = cc in ap (λ i. Some i) y
  inside_is (shape.Made (Leaf part.Null) NoShape) u e = absurd (let z : Otherwise ≡ Inside u = e in cc)
  inside_is _ u e = absurd (let z : NotOne ≡ Inside u = e in cc)

  pub present_both : (v : Value) (w u : core.Value) → Belongs known v w → present_of w ≡ Some u → (s : Shape Code) × (present_of (shape_of v) ≡ Some s) × Alike (Names known) s u
  present_both v w u a e =
      by (present_of (shape_of v)) refl
      (subst (λ o. AlikeFound known (where_there (λ x. Some (x ∷ [])) (present_of (shape_of v))) (where_there (λ x. Some (x ∷ [])) o)) e ((patterns known (Present? Bind) (shape_of v) w a).0))
    where
      by : (o : Option (Shape Code)) → present_of (shape_of v) ≡ o → AlikeFound known (where_there (λ x. Some (x ∷ [])) o) (Some (u ∷ [])) → (s : Shape Code) × (present_of (shape_of v) ≡ Some s) × Alike (Names known) s u
      by None i r = absurd r
      by (Some s) i r = (s, i, r.0)

-- ---- leaves, and the number that is held

module _ (known : List Known) where
  pub leaf_same : (v : Value) (w : core.Value) → Belongs known v w → leaf_of (shape_of v) ≡ leaf_of w
  leaf_same (Made h NoValue) (shape.Made i NoShape) a = by h i (a.0)
    where
      by : (h i : Head) → h ≡ i → leaf_of (shape_of (Made h NoValue)) ≡ leaf_of {F = Handle} (shape.Made i NoShape)
      by (Leaf p) i e = ap (λ i. leaf_of {F = Handle} (shape.Made i NoShape)) e
      by h i e = ap (λ i. leaf_of {F = Handle} (shape.Made i NoShape)) e
  leaf_same (Made h NoValue) (shape.Made i (AShape u us)) a = absurd (a.1)
  leaf_same (Made h (AValue v vs)) (shape.Made i NoShape) a = absurd (a.1)
  leaf_same (Made h (AValue v vs)) (shape.Made i (AShape u us)) a = by h i (a.0)
    where
      by : (h i : Head) → h ≡ i → leaf_of (shape_of (Made h (AValue v vs))) ≡ leaf_of {F = Handle} (shape.Made i (AShape u us))
      by (Leaf p) i e = ap (λ i. leaf_of {F = Handle} (shape.Made i (AShape u us))) e
      by h i e = ap (λ i. leaf_of {F = Handle} (shape.Made i (AShape u us))) e
  leaf_same (Made h inside) (shape.Function f) a = absurd a
  leaf_same (Closure group which env) (shape.Function f) a = refl
  leaf_same (Closure group which env) (shape.Made i us) a = absurd a
  leaf_same (BuiltIn m holds) (shape.Function f) a = refl
  leaf_same (BuiltIn m holds) (shape.Made i us) a = absurd a

  pub place_same : (o : Option Value) (o' : Option core.Value) → Both known o o' → on_some None o' natural_of ≡ number_in o
  place_same None None r = refl
  place_same None (Some w) r = absurd r
  place_same (Some v) None r = absurd r
  place_same (Some v) (Some w) r = ap (λ o. natural_in (leaf_if (node.Number kind.Nat) o)) (sym (leaf_same v w r))
