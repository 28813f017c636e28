-- What the meaning of formed calls needs of them: as many operands as parameters, and a local exactly where there is a result.
use Rattle.std.proofs.Common.{◌≡◌, ℕ, suc, List, [], ◌∷◌, length, Bool, true, false, ◌&&◌, Option, Some, None, slice_get, refl, ap, subst, arith}
use Rattle.std.specs.Prelude.{⊤}
use Rattle.std.specs.List.{AllZip}
use Rattle.wasm_tree.specs.declared.types.ValueType.{ValueType}
use Rattle.wasm_tree.specs.declared.types.FunctionType.{FunctionType}
use Rattle.wasm_tree.specs.Exec.{same_kinds, same_type}
use Rattle.low_ir.specs.declared.op.Operand.{Operand}
use Rattle.low_ir.specs.Tree.{Module}
use Rattle.low_ir.specs.Numbering.{all_types, type_of}
use Rattle.low_ir.specs.Meaning.{Called, Gave, Fell, Lost}
use Rattle.low_ir.specs.Frames.{value_count}
use Rattle.low_ir.specs.Formed.{OperandIs, ResultIs, CallIs}

abbrev pub GivesNone : {World : Type 0} → Called World → Type 0
GivesNone (Gave left store None) = ⊤
GivesNone (Gave left store (Some value)) = ⊥
GivesNone (Fell cause store) = ⊤
GivesNone Lost = ⊤

pub record HasArity (found : Option FunctionType) (args : ℕ) (result : Option ℕ) : Type 0 where
  pub type : FunctionType
  pub is : found ≡ Some type
  pub arity : args ≡ length type.params
  pub results : length type.results ≡ value_count result

zip_length : (locals : List ValueType) (args : List Operand) (kinds : List ValueType) → AllZip (OperandIs locals) args kinds → length args ≡ length kinds
zip_length locals [] [] h = refl
zip_length locals [] (k ∷ kinds) h = absurd h
zip_length locals (a ∷ args) [] h = absurd h
zip_length locals (a ∷ args) (k ∷ kinds) h = ap suc (zip_length locals args kinds h.1)

results_count : (locals : List ValueType) (result : Option ℕ) (results : List ValueType) → ResultIs locals result results → length results ≡ value_count result
results_count locals None results h = ap length h
results_count locals (Some x) results h = ap length h.1

pub has_arity : (locals : List ValueType) (found : Option FunctionType) (args : List Operand) (result : Option ℕ) → CallIs locals found args result → HasArity found (length args) result
has_arity locals found args result c = record { type = c.type; is = c.is; arity = zip_length locals args c.type.params c.kinds; results = results_count locals result c.type.results c.gives }

pub no_results : (results : List ValueType) (result : Option ℕ) → length results ≡ value_count result → result ≡ None → results ≡ []
no_results [] result e n = refl
no_results (k ∷ ks) None e n = absurd (omega arith)
no_results (k ∷ ks) (Some x) e n = absurd (cc)

-- A function whose type an indirect call finds.

first_true : (a b : Bool) → (a && b) ≡ true → a ≡ true
first_true true b e = refl
first_true false b e = e

second_true : (a b : Bool) → (a && b) ≡ true → b ≡ true
second_true true b e = e
second_true false b e = absurd (cc)

kinds_length : (js ks : List ValueType) → same_kinds js ks ≡ true → length js ≡ length ks
kinds_length [] [] e = refl
kinds_length [] (k ∷ ks) e = absurd (cc)
kinds_length (j ∷ js) [] e = absurd (cc)
kinds_length (j ∷ js) (k ∷ ks) e = ap suc (kinds_length js ks (second_true _ _ e))

no_kinds : (js ks : List ValueType) → same_kinds js ks ≡ true → ks ≡ [] → js ≡ []
no_kinds [] ks e n = refl
no_kinds (j ∷ js) [] e n = absurd (cc)
no_kinds (j ∷ js) (k ∷ ks) e n = absurd (cc)

pub record IsAlike (m : Module) (f : ℕ) (asked : FunctionType) : Type 0 where
  pub type : FunctionType
  pub is : type_of m f ≡ Some type
  pub params : length type.params ≡ length asked.params
  pub none : asked.results ≡ [] → type.results ≡ []

alike_as : (m : Module) (f : ℕ) (found : Option FunctionType) (asked : FunctionType) → type_of m f ≡ found → same_type found (Some asked) ≡ true → IsAlike m f asked
alike_as m f None asked is e = absurd (cc)
alike_as m f (Some t) asked is e = record { type = t; is = is; params = kinds_length _ _ (first_true _ _ e); none = no_kinds _ _ (second_true _ _ e) }

pub alike : (m : Module) (f x : ℕ) (asked : FunctionType) → slice_get (all_types m) x ≡ Some asked → same_type (type_of m f) (slice_get (all_types m) x) ≡ true → IsAlike m f asked
alike m f x asked there e = alike_as m f (type_of m f) asked refl (subst (λ t. same_type (type_of m f) t ≡ true) there e)
