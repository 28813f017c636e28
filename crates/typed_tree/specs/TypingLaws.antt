-- That typing goes by the rules: a tree is typed exactly where the rule of its form holds of its parts.
use Rattle.std.specs.Prelude.{ℕ, List}
use Rattle.mo_types.specs.declared.node.Field.{Field}
use Rattle.mo_types.specs.declared.node.TypeId.{TypeId}
use Rattle.mo_types.specs.Graph.{Slot}
use Rattle.typed_tree.specs.declared.pattern.TypedPattern.{TypedPattern, roll-TypedPattern}
use Rattle.typed_tree.specs.declared.pattern.PatternForm.{PatternForm, roll-PatternForm}
use Rattle.typed_tree.specs.declared.pattern.PatternForm.TheOpen as P
use Rattle.typed_tree.specs.declared.pattern.PatternField.{PatternField, roll-PatternField}
use Rattle.typed_tree.specs.declared.expression.Form.{Form, roll-Form}
use Rattle.typed_tree.specs.declared.expression.Form.TheOpen as F
use Rattle.typed_tree.specs.declared.expression.Step.{Step, roll-Step}
use Rattle.typed_tree.specs.declared.expression.Case.{Case, roll-Case}
use Rattle.typed_tree.specs.declared.expression.Function.{Function, roll-Function}
use Rattle.typed_tree.specs.declared.expression.TypedExpression.{TypedExpression, roll-TypedExpression}
use Rattle.typed_tree.specs.ActionTypes.{Context}
use Rattle.typed_tree.specs.PatternTypes.{Standing, StandingFields, Stands, FormStands, FieldStands}
use Rattle.typed_tree.specs.PatternTypes as pattern
use Rattle.typed_tree.specs.Typing.{Giving, Declaring, Choosing, Being, Signature, Typed, Declares, IsFunctionOf, FormTyped, CaseTyped, form_rule, step_rule, case_rule, function_rule, expression_rule}
use Rattle.typed_tree.specs.Wants.{Want}

abbrev pub Exactly : Type 0 → Type 0 → Type 0
Exactly p q = (p → q) × (q → p)

module _ (types : List Slot) where
  -- ---- the rules, of trees

  abbrev pub form_typing : F.Form-F Form Step Case Function TypedExpression → Giving
  form_typing = form_rule types Form Step Case Function TypedExpression (λ e. e) (FormTyped types) (Declares types) (CaseTyped types) (IsFunctionOf types) (Typed types)

  abbrev pub step_typing : F.Step-F Form Step Case Function TypedExpression → Declaring
  step_typing = step_rule types Form Step Case Function TypedExpression (λ e. e) (FormTyped types) (Declares types) (CaseTyped types) (IsFunctionOf types) (Typed types)

  abbrev pub case_typing : F.Case-F Form Step Case Function TypedExpression → Choosing
  case_typing = case_rule types Form Step Case Function TypedExpression (λ e. e) (FormTyped types) (Declares types) (CaseTyped types) (IsFunctionOf types) (Typed types)

  abbrev pub function_typing : F.Function-F Form Step Case Function TypedExpression → Being
  function_typing = function_rule types Form Step Case Function TypedExpression (λ e. e) (FormTyped types) (Declares types) (CaseTyped types) (IsFunctionOf types) (Typed types)

  abbrev pub expression_typing : F.TypedExpression-F Form Step Case Function TypedExpression → Giving
  expression_typing = expression_rule types Form Step Case Function TypedExpression (λ e. e) (FormTyped types) (Declares types) (CaseTyped types) (IsFunctionOf types) (Typed types)

  module _ (parameters : List ℕ) where
    abbrev pub form_standing : P.PatternForm-F PatternForm PatternField TypedPattern → Standing
    form_standing = pattern.form_rule types parameters PatternForm PatternField TypedPattern (FormStands types parameters) (FieldStands types parameters) (Stands types parameters)

    abbrev pub field_standing : P.PatternField-F PatternForm PatternField TypedPattern → StandingFields
    field_standing = pattern.labelled_rule types parameters PatternForm PatternField TypedPattern (FormStands types parameters) (FieldStands types parameters) (Stands types parameters)

    abbrev pub pattern_standing : P.TypedPattern-F PatternForm PatternField TypedPattern → Standing
    pattern_standing = pattern.whole_rule types parameters PatternForm PatternField TypedPattern (FormStands types parameters) (FieldStands types parameters) (Stands types parameters)

-- ---- the laws

abbrev pub FormsGoByRules : Type 0
FormsGoByRules = (types : List Slot) (x : F.Form-F Form Step Case Function TypedExpression) (c : Context) (w : Want TypeId) → Exactly (FormTyped types (roll-Form x) c w) (form_typing types x c w)

abbrev pub StepsGoByRules : Type 0
StepsGoByRules = (types : List Slot) (x : F.Step-F Form Step Case Function TypedExpression) (c : Context) (ns : List (Want TypeId)) → Exactly (Declares types (roll-Step x) c ns) (step_typing types x c ns)

abbrev pub CasesGoByRules : Type 0
CasesGoByRules =
    (types : List Slot) (x : F.Case-F Form Step Case Function TypedExpression) (c : Context) (t : TypeId) (w : Want TypeId) → Exactly (CaseTyped types (roll-Case x) c t w) (case_typing types x c t w)

abbrev pub FunctionsGoByRules : Type 0
FunctionsGoByRules =
    (types : List Slot) (x : F.Function-F Form Step Case Function TypedExpression) (c : Context) (s : Signature) → Exactly (IsFunctionOf types (roll-Function x) c s) (function_typing types x c s)

abbrev pub ExpressionsGoByRules : Type 0
ExpressionsGoByRules =
    (types : List Slot) (x : F.TypedExpression-F Form Step Case Function TypedExpression) (c : Context) (w : Want TypeId) → Exactly (Typed types (roll-TypedExpression x) c w) (expression_typing types x c w)

abbrev pub PatternFormsGoByRules : Type 0
PatternFormsGoByRules =
    (types : List Slot) (vs : List ℕ) (x : P.PatternForm-F PatternForm PatternField TypedPattern) (t : TypeId) (ns : List (Want TypeId)) →
    Exactly (FormStands types vs (roll-PatternForm x) t ns) (form_standing types vs x t ns)

abbrev pub FieldsGoByRules : Type 0
FieldsGoByRules =
    (types : List Slot) (vs : List ℕ) (x : P.PatternField-F PatternForm PatternField TypedPattern) (fs : List (Field TypeId)) (ns : List (Want TypeId)) →
    Exactly (FieldStands types vs (roll-PatternField x) fs ns) (field_standing types vs x fs ns)

abbrev pub PatternsGoByRules : Type 0
PatternsGoByRules =
    (types : List Slot) (vs : List ℕ) (x : P.TypedPattern-F PatternForm PatternField TypedPattern) (t : TypeId) (ns : List (Want TypeId)) →
    Exactly (Stands types vs (roll-TypedPattern x) t ns) (pattern_standing types vs x t ns)
