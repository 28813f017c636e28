-- What is saved of cells is the same for both.
use Rattle.std.proofs.Common.{◌≡◌, ℕ, List, [], ◌∷◌, map, Option, Some, None, slice_get, refl, ap, ap₂, ◌∙◌}
use Rattle.mo_types.specs.declared.node.TypeId.{TypeId}
use Rattle.mo_types.specs.Code.{Variable}
use Rattle.mo_types.specs.Graph.{head_at}
use Rattle.mo_types.specs.Heads.{map_option}
use Rattle.mo_types.specs.Values as message
use Rattle.mo_values.specs.Costs.{sizes, most_levels}
use Rattle.mo_values.specs.Messages.{plain_each}
use Rattle.mo_values.specs.Recoding.{recode, recode_all, recodes}
use Rattle.mo_values.specs.Shapes.{Shape, shapes, AShape}
use Rattle.core_ir.specs.Choices.{on_some}
use Rattle.core_ir.specs.Values as core_value
use Rattle.typed_tree.specs.Opening as opening
use Rattle.typed_tree.specs.Programs.{Program, StableVariable}
use Rattle.mo_meaning.specs.Cells as cells
use Rattle.mo_meaning.specs.Coding.{Types, Coding}
use Rattle.mo_meaning.specs.Exports as exports
use Rattle.mo_meaning.specs.Messages.{joined_values, plain_values}
use Rattle.mo_meaning.specs.Saving.{and_variable, variables_of, and_held, held_in}
use Rattle.mo_machine.specs.Values.{Value, Code, Made, Closure, BuiltIn, shapes_list}
use Rattle.mo_machine.specs.Acts.{Store}
use Rattle.mo_machine.specs.Cells.{cell_of}
use Rattle.mo_machine.specs.Exports.{value_or_unit, values_in, part_at}
use Rattle.mo_machine.specs.Unload.{unload, unload_list}
use Rattle.mo_machine.proofs.Cells.{cell_same, held_same}
use Rattle.mo_machine.proofs.Looks.{sizes_same, most_levels_same, plain_each_same}
use Rattle.mo_machine.proofs.Unloaded.{closed, list_closed, list_unloaded, list_get}
use Rattle.elaboration.specs.Playing.{plain_of, variables_in}
use Rattle.elaboration_starts.specs.Saves.{HoldEach}
use Rattle.elaboration_values.specs.Belonging.{Known, EachBelongs}
use Rattle.elaboration_values.proofs.Messages.{messages}

-- ---- parts of what is exported

value_or_same : (o : Option Value) → exports.value_or_unit (map_option unload o) ≡ unload (value_or_unit o)
value_or_same None = refl
value_or_same (Some v) = refl

values_in_same : (v : Value) → exports.values_in (unload v) ≡ unload_list (values_in v)
values_in_same (Made head inside) = list_unloaded inside
values_in_same (Closure group which env) = refl
values_in_same (BuiltIn m holds) = refl

part_same : (i : ℕ) (v : Value) → exports.part_at i (unload v) ≡ unload (part_at i v)
part_same i v = ap (λ vs. exports.value_or_unit (slice_get vs i)) (values_in_same v) ∙ (ap exports.value_or_unit (list_get (values_in v) i) ∙ value_or_same (slice_get (values_in v) i))

pub cells_same : (v : Value) → exports.stable_cells (unload v) ≡ unload_list (values_in (part_at 3 v))
cells_same v = ap exports.values_in (part_same 3 v) ∙ values_in_same (part_at 3 v)

pub held_are : (store : Store) (cs vs : List Value) → HoldEach store cs vs → held_in (unload_list store) (unload_list cs) ≡ unload_list vs
held_are store [] [] h = refl
held_are store [] (v ∷ vs) h = absurd h
held_are store (c ∷ cs) [] h = absurd h
held_are store (c ∷ cs) (v ∷ vs) h =
    ap (λ o. and_held (cells.held (unload_list store) o) (held_in (unload_list store) (unload_list cs))) (cell_same c)
    ∙ (ap (λ o. and_held o (held_in (unload_list store) (unload_list cs))) (held_same store (cell_of c) ∙ ap (map_option unload) (h.0)) ∙ ap (λ r. unload v ∷ r) (held_are store cs vs (h.1)))

-- ---- values at their types

shapes_closed : (ss : List (Shape Code)) → shapes (recodes closed ss) ≡ recode_all closed (shapes ss)
shapes_closed [] = refl
shapes_closed (s ∷ ss) = ap (AShape (recode closed s)) (shapes_closed ss)

module _ (coding : Coding) (types : Types) (p : Program) (known : List Known) where
  plain_both : (ts : List TypeId) (vs : List Value) (us : List core_value.Value) → EachBelongs known vs us → plain_values types ts (unload_list vs) ≡ plain_of coding types p ts us
  plain_both ts vs us b =
      ap (λ ss. joined_values (plain_each (head_at types) (map (λ t. Some t) ts) (shapes ss))) (list_closed vs)
      ∙ (ap (λ ss. joined_values (plain_each (head_at types) (map (λ t. Some t) ts) ss)) (shapes_closed (shapes_list vs))
      ∙ (ap joined_values (plain_each_same closed (head_at types) (map (λ t. Some t) ts) (shapes (shapes_list vs)))
      ∙ ap joined_values ((messages known (shapes_list vs) us b).0 (head_at types) (map (λ t. Some t) ts))))

  one_variable : (v : StableVariable) (o : Option message.Values) (r : Option (List (Variable TypeId)))
      → and_variable v o r ≡ on_some None o (λ value. on_some None r (λ others. Some (record { name = v.name; type = v.of_type; value = value } ∷ others)))
  one_variable v None r = refl
  one_variable v (Some values) None = refl
  one_variable v (Some values) (Some rest) = refl

  pub variables_both : (stable : List StableVariable) (vs : List Value) (us : List core_value.Value) → EachBelongs known vs us → variables_of types stable (unload_list vs) ≡ variables_in coding types p stable us
  variables_both [] vs us b = refl
  variables_both (v ∷ stable) [] [] b = refl
  variables_both (v ∷ stable) [] (u ∷ us) b = absurd b
  variables_both (v ∷ stable) (w ∷ vs) [] b = absurd b
  variables_both (v ∷ stable) (w ∷ vs) (u ∷ us) b =
      ap₂ (λ o r. and_variable v o r) (plain_both (v.of_type ∷ []) (w ∷ []) (u ∷ []) (b.0, tt)) (variables_both stable vs us (b.1))
      ∙ one_variable v (plain_of coding types p (v.of_type ∷ []) (u ∷ [])) (variables_in coding types p stable us)

-- as many parts, and as deep
module _ (known : List Known) (vs : List Value) (us : List core_value.Value) (b : EachBelongs known vs us) where
  pub sizes_both : sizes (opening.shapes_list (unload_list vs)) ≡ sizes us
  sizes_both = ap sizes (list_closed vs) ∙ (sizes_same closed (shapes_list vs) ∙ (messages known (shapes_list vs) us b).1)

  pub levels_both : most_levels (opening.shapes_list (unload_list vs)) ≡ most_levels us
  levels_both = ap most_levels (list_closed vs) ∙ (most_levels_same closed (shapes_list vs) ∙ (messages known (shapes_list vs) us b).2)
