-- The functions of methods, as the machine has them.
use Rattle.std.proofs.Common.{◌≡◌, inl, inr, ℕ, List, [], ◌∷◌, Option, Some, None, refl, sym, ap, ◌∙◌, subst, slice_get}
use Rattle.mo_types.specs.declared.node.TypeId.{TypeId}
use Rattle.mo_types.specs.Graph.{Slot}
use Rattle.mo_types.specs.Heads.{map_option}
use Rattle.typed_tree.specs.Programs.{Program}
use Rattle.mo_meaning.specs.Bodies as meaning
use Rattle.mo_meaning.specs.Bodies.{resume_function}
use Rattle.mo_meaning.specs.Exports as exports
use Rattle.mo_meaning.specs.Exports.{method_functions}
use Rattle.mo_meaning.specs.Kernel.{Entry}
use Rattle.mo_meaning.specs.Kernel as kernel
use Rattle.mo_soundness.specs.Lawful.{IsLawful}
use Rattle.mo_soundness.specs.Running.{AnswerTypes}
use Rattle.mo_soundness.proofs.Found.{unit_fits}
use Rattle.program_soundness.specs.Bodies.{IsEntry, FieldsTyped}
use Rattle.program_soundness.specs.Roles.{Role, AMethod, IsFunctionAs, calling}
use Rattle.program_soundness.specs.Worlds.{running}
use Rattle.program_soundness.proofs.Exported.{method_there}
use Rattle.mo_machine.specs.ActorLanguage.{Fields, unload_fields}
use Rattle.mo_machine.specs.Environments.{Environment}
use Rattle.mo_machine.specs.Exports.{value_or_unit, values_in, part_at, function_or, function_at}
use Rattle.mo_machine.specs.Unload.{unload, unload_list}
use Rattle.mo_machine.specs.Values.{Value, Made, Closure, BuiltIn}
use Rattle.mo_machine.proofs.Unloaded.{unload_load, list_unloaded, list_get}
use Rattle.typed_tree.specs.Language.{Functions}

-- ---- what they stand for

value_or_same : (o : Option Value) → exports.value_or_unit (map_option unload o) ≡ unload (value_or_unit o)
value_or_same None = refl
value_or_same (Some v) = refl

pub values_in_same : (v : Value) → exports.values_in (unload v) ≡ unload_list (values_in v)
values_in_same (Made head inside) = list_unloaded inside
values_in_same _ = refl

pub part_same : (i : ℕ) (v : Value) → exports.part_at i (unload v) ≡ unload (part_at i v)
part_same i v = ap (λ vs. exports.value_or_unit (slice_get vs i)) (values_in_same v) ∙ ap exports.value_or_unit (list_get (values_in v) i) ∙ value_or_same (slice_get (values_in v) i)

function_or_same : (o : Option Value) → meaning.function_or (map_option unload o) ≡ unload (function_or o)
function_or_same None = sym (unload_load resume_function)
function_or_same (Some f) = refl

pub function_same : (fields : Fields) (place : Option ℕ) → meaning.function_at (unload_fields fields) place ≡ unload (function_at fields.exports place)
function_same fields None = sym (unload_load resume_function)
function_same fields (Some place) =
    ap (λ v. meaning.function_or (slice_get (exports.values_in v) place)) (part_same 0 fields.exports)
    ∙ ap (λ vs. meaning.function_or (slice_get vs place)) (values_in_same (part_at 0 fields.exports))
    ∙ ap meaning.function_or (list_get (values_in (part_at 0 fields.exports)) place)
    ∙ function_or_same (slice_get (values_in (part_at 0 fields.exports)) place)

-- ---- their types

module _ (types : List Slot) (lawful : IsLawful (running types).head) (p : Program) (answers : AnswerTypes) (kinds : List TypeId) where
  resume_is : IsFunctionAs types answers kinds (AMethod [] []) resume_function
  resume_is = (AMethod [] [] ∷ [], (([], [], lawful.unit, inl (refl, refl), refl, lawful.is_unit, unit_fits (running types) (calling answers) kinds lawful.unit lawful.is_unit), tt), refl)

  entered : (fields : kernel.Fields) (entry : Entry) → FieldsTyped types p answers kinds fields → IsEntry p entry → IsFunctionAs types answers kinds (AMethod entry.parameters entry.results) (meaning.function_at fields entry.place)
  entered fields entry h (inl i) =
      let x = h.exports in
      let f = method_there types answers kinds p.methods x.functions i.0 i.1 x.methods i.3 in
      let place = ap (λ v. meaning.function_or (slice_get (method_functions v) i.0)) x.is ∙ ap meaning.function_or f.1 in
      subst (λ (ps : List TypeId). IsFunctionAs types answers kinds (AMethod ps entry.results) (meaning.function_at fields entry.place)) (sym i.4)
      (subst (λ (rs : List TypeId). IsFunctionAs types answers kinds (AMethod i.1.parameters rs) (meaning.function_at fields entry.place)) (sym i.5)
      (subst (λ (o : Option ℕ). IsFunctionAs types answers kinds (AMethod i.1.parameters i.1.results) (meaning.function_at fields o)) (sym i.2)
      (subst (IsFunctionAs types answers kinds (AMethod i.1.parameters i.1.results)) (sym place) f.2)))
  entered fields entry h (inr i) =
      subst (λ (ps : List TypeId). IsFunctionAs types answers kinds (AMethod ps entry.results) (meaning.function_at fields entry.place)) (sym i.1)
      (subst (λ (rs : List TypeId). IsFunctionAs types answers kinds (AMethod [] rs) (meaning.function_at fields entry.place)) (sym i.2)
      (subst (λ (o : Option ℕ). IsFunctionAs types answers kinds (AMethod [] []) (meaning.function_at fields o)) (sym i.0) resume_is))

  -- a method's function as the machine has it
  pub method_function : (fields : Fields) (entry : Entry) → FieldsTyped types p answers kinds (unload_fields fields) → IsEntry p entry
      → IsFunctionAs types answers kinds (AMethod entry.parameters entry.results) (unload (function_at fields.exports entry.place))
  method_function fields entry h i = subst (IsFunctionAs types answers kinds (AMethod entry.parameters entry.results)) (function_same fields entry.place) (entered (unload_fields fields) entry h i)

  -- it is a closure
  pub closure_of : (role : Role) (v : Value) → IsFunctionAs types answers kinds role (unload v) → (group : Functions) × (which : ℕ) × (env : Environment) × (v ≡ Closure group which env)
  closure_of role (Closure group which env) h = (group, which, env, refl)
  closure_of role (Made head inside) h = absurd h
  closure_of role (BuiltIn m holds) h = absurd h
