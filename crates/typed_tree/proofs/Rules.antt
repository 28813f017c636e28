-- Typing goes by the rules, both ways.
use Rattle.std.proofs.Common.{◌≡◌, sym, subst}
use Rattle.typed_tree.specs.TypingLaws.{Exactly, FormsGoByRules, StepsGoByRules, CasesGoByRules, FunctionsGoByRules, ExpressionsGoByRules, PatternFormsGoByRules, FieldsGoByRules, PatternsGoByRules}
use Rattle.typed_tree.proofs.StandingEquations as standing
use Rattle.typed_tree.proofs.TypingEquations as typing

same : (A B : Type 0) → A ≡ B → Exactly A B
same A B e = (λ a. subst (λ T. T) e a, λ b. subst (λ T. T) (sym e) b)

pub forms : FormsGoByRules
forms types x c w = same _ _ (λ i. typing.form_is types x i c w)

pub steps : StepsGoByRules
steps types x c ns = same _ _ (λ i. typing.step_is types x i c ns)

pub cases : CasesGoByRules
cases types x c t w = same _ _ (λ i. typing.case_is types x i c t w)

pub functions : FunctionsGoByRules
functions types x c s = same _ _ (λ i. typing.function_is types x i c s)

pub expressions : ExpressionsGoByRules
expressions types x c w = same _ _ (λ i. typing.expression_is types x i c w)

pub pattern_forms : PatternFormsGoByRules
pattern_forms types vs x t ns = same _ _ (λ i. standing.form_is types vs x i t ns)

pub fields : FieldsGoByRules
fields types vs x fs ns = same _ _ (λ i. standing.field_is types vs x i fs ns)

pub patterns : PatternsGoByRules
patterns types vs x t ns = same _ _ (λ i. standing.pattern_is types vs x i t ns)
