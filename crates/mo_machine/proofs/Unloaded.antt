-- What lists, cells and shapes of the machine's values stand for.
use Rattle.std.proofs.Common.{◌≡◌, ℕ, zero, suc, List, [], ◌∷◌, ◌++◌, length, Some, refl, ap, ap₂, slice_get, slice_set}
use Rattle.mo_types.specs.Heads.{map_option}
use Rattle.mo_values.specs.Recoding.{recode, recode_all, recodes}
use Rattle.mo_values.specs.Shapes as shape
use Rattle.mo_values.specs.Shapes.{Shape, Shapes, NoShape, AShape}
use Rattle.typed_tree.specs.Language.{Exp, Exps, Functions, Val, NoExp, AnExp}
use Rattle.typed_tree.specs.Substitution.{hide, count, put_functions}
use Rattle.typed_tree.specs.Language as language
use Rattle.typed_tree.specs.Opening as opening
use Rattle.mo_meaning.specs.Places.{all_values, and_value, operands, value_list, values_of_list}
use Rattle.mo_machine.specs.Values.{Value, Values, Made, Closure, BuiltIn, NoValue, AValue, Code, ClosureCode, BuiltInCode, shape_of, shapes_of, value_of, values_of, listed, gathered, shapes_list, load, load_all, load_list}
use Rattle.mo_machine.specs.Unload.{unload, unload_all, unload_list, slots, before}
use Rattle.mo_machine.proofs.NoValues.{hide_none, put_none_functions}

-- ---- the language's values, loaded

mutual
  pub unload_load : (v : language.Value) → unload (load v) ≡ v
  unload_load (language.Made head inside) = ap (λ vs. language.Made head vs) (unload_load_all inside)
  unload_load (language.Function group which) = ap (λ g. language.Function g which) (put_none_functions (hide (count group) []) (hide_none (count group) [] tt) group)
  unload_load (language.BuiltIn member holds) = ap (λ vs. language.BuiltIn member vs) (unload_load_all holds)

  unload_load_all : (vs : language.Values) → unload_all (load_all vs) ≡ vs
  unload_load_all language.NoValue = refl
  unload_load_all (language.AValue v vs) = ap₂ (λ x y. language.AValue x y) (unload_load v) (unload_load_all vs)

pub unload_load_list : (vs : List language.Value) → unload_list (load_list vs) ≡ vs
unload_load_list [] = refl
unload_load_list (v ∷ vs) = ap₂ (λ x y. x ∷ y) (unload_load v) (unload_load_list vs)

-- ---- shapes

-- the language's function that one of the machine stands for
abbrev pub closed : Code → opening.Code
closed (ClosureCode group which env) = opening.Closed (put_functions (hide (count group) (slots env)) group) which
closed (BuiltInCode member holds) = opening.BuiltInCode member (unload_all holds)

mutual
  pub shape_unload : (v : Value) → opening.shape_of (unload v) ≡ recode closed (shape_of v)
  shape_unload (Made head inside) = ap (λ vs. shape.Made head vs) (shapes_unload inside)
  shape_unload (Closure group which env) = refl
  shape_unload (BuiltIn member holds) = refl

  pub shapes_unload : (vs : Values) → opening.shapes_of (unload_all vs) ≡ recode_all closed (shapes_of vs)
  shapes_unload NoValue = refl
  shapes_unload (AValue v vs) = ap₂ (λ x y. AShape x y) (shape_unload v) (shapes_unload vs)

mutual
  pub value_closed : (s : Shape Code) → opening.value_of (recode closed s) ≡ unload (value_of s)
  value_closed (shape.Made head inside) = ap (λ vs. language.Made head vs) (values_closed inside)
  value_closed (shape.Function (ClosureCode group which env)) = refl
  value_closed (shape.Function (BuiltInCode member holds)) = refl

  pub values_closed : (ss : Shapes Code) → opening.values_of (recode_all closed ss) ≡ unload_all (values_of ss)
  values_closed NoShape = refl
  values_closed (AShape s ss) = ap₂ (λ x y. language.AValue x y) (value_closed s) (values_closed ss)

pub list_closed : (vs : List Value) → opening.shapes_list (unload_list vs) ≡ recodes closed (shapes_list vs)
list_closed [] = refl
list_closed (v ∷ vs) = ap₂ (λ x y. x ∷ y) (shape_unload v) (list_closed vs)

pub list_unloaded : (vs : Values) → value_list (unload_all vs) ≡ unload_list (listed vs)
list_unloaded NoValue = refl
list_unloaded (AValue v vs) = ap (λ r. unload v ∷ r) (list_unloaded vs)

pub list_gathered : (vs : List Value) → unload_all (gathered vs) ≡ values_of_list (unload_list vs)
list_gathered [] = refl
list_gathered (v ∷ vs) = ap (λ r. language.AValue (unload v) r) (list_gathered vs)

-- ---- operands

pub before_one : (vs : List Value) (v : Value) (es : Exps) → before (vs ++ v ∷ []) es ≡ before vs (AnExp (Val (unload v)) es)
before_one [] v es = refl
before_one (w ∷ vs) v es = ap (AnExp (Val (unload w))) (before_one vs v es)

pub before_values : (vs : List Value) → all_values (before vs NoExp) ≡ Some (unload_list vs)
before_values [] = refl
before_values (v ∷ vs) = ap (and_value (unload v)) (before_values vs)

pub before_operands : (vs : List Value) → before vs NoExp ≡ operands (unload_list vs)
before_operands [] = refl
before_operands (v ∷ vs) = ap (AnExp (Val (unload v))) (before_operands vs)

-- ---- cells

pub list_append : (vs ws : List Value) → unload_list (vs ++ ws) ≡ unload_list vs ++ unload_list ws
list_append [] ws = refl
list_append (v ∷ vs) ws = ap (λ r. unload v ∷ r) (list_append vs ws)

pub list_length : (vs : List Value) → length (unload_list vs) ≡ length vs
list_length [] = refl
list_length (v ∷ vs) = ap suc (list_length vs)

pub list_set : (vs : List Value) (n : ℕ) (v : Value) → unload_list (slice_set vs n v) ≡ slice_set (unload_list vs) n (unload v)
list_set [] n v = refl
list_set (w ∷ vs) zero v = refl
list_set (w ∷ vs) (suc n) v = ap (λ r. unload w ∷ r) (list_set vs n v)

pub list_get : (vs : List Value) (n : ℕ) → slice_get (unload_list vs) n ≡ map_option unload (slice_get vs n)
list_get [] n = refl
list_get (v ∷ vs) zero = refl
list_get (v ∷ vs) (suc n) = list_get vs n
