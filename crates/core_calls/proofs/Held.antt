-- Which expressions are built-in functions.
use Rattle.std.proofs.Common.{◌≡◌, ◌∙◌, ◌≤◌, ◌<◌, true, false, Some, None, List, [], ◌∷◌, get_or, length, map, refl, sym, ap, arith}
use Rattle.std.specs.Bool.{◌==◌}
use Rattle.std.proofs.lemmas.Bool.{eqb-true}
use Rattle.typed_tree.specs.declared.action.Action.TheVariants as action
use Rattle.typed_tree.specs.declared.expression.Form.{Form}
use Rattle.typed_tree.specs.declared.expression.Form.TheVariants as e
use Rattle.typed_tree.specs.declared.expression.Step.{Step, fold_out-Step}
use Rattle.typed_tree.specs.declared.expression.Form.TheOpen as F
use Rattle.typed_tree.specs.declared.expression.TypedExpression.{TypedExpression, fold_out-TypedExpression}
use Rattle.typed_tree.specs.Language.{Exp, Exps, Val, Name, Do, If, Switch, Group, Frame, Label, While, Repeat, For, Try, Update, AnExp}
use Rattle.typed_tree.specs.View.{CaseView, FunctionView, StepView, block, case_step, declaration, expression, expression_step, exps, form, form_step, function_step, step_step}
use Rattle.typed_tree.proofs.Views.{form_views}
use Rattle.core_calls.specs.Calling.{IsPlainCall, held_in}

step_holds_none : (x : F.Step-F Exp StepView CaseView FunctionView Exp) (b : Exp) → held_in (step_step x b) ≡ None
step_holds_none (F.Let p e) b = refl
step_holds_none (F.Var e) b = refl
step_holds_none (F.Stable x e) b = refl
step_holds_none (F.Functions fs) b = refl
step_holds_none (F.Evaluate e) b = refl

-- a declaration stands around what follows it
pub block_holds_none : (ss : List Step) (v : TypedExpression) → 1 ≤ length ss → held_in (form (e.Block ss v)) ≡ None
unfolding declaration
block_holds_none [] v l = absurd (omega (arith, l))
block_holds_none (s ∷ ss) v l =
    ap held_in (form_views.declarations (s ∷ ss) v ∙ ap (λ (f : StepView). f (block (map declaration ss) (expression v))) (fold_out-Step Exp StepView CaseView FunctionView Exp form_step step_step case_step function_step expression_step s))
    ∙ step_holds_none _ (block (map declaration ss) (expression v))

pub expression_is : (t : TypedExpression) (f : Form) → t.form ≡ f → expression t ≡ form f
unfolding expression form
expression_is t f e = fold_out-TypedExpression Exp StepView CaseView FunctionView Exp form_step step_step case_step function_step expression_step t ∙ ap form e

pub empty_block : (ss : List Step) (v : TypedExpression) → length ss ≡ 0 → form (e.Block ss v) ≡ expression v
empty_block [] v z = form_views.declarations [] v
empty_block (s ∷ ss) v z = absurd (omega (arith, z))

-- ---- calls by values

none_is_plain : (x : Exp) (args : Exps) → held_in x ≡ None → IsPlainCall (AnExp x args)
none_is_plain (Val v) args e = λ s n. refl
none_is_plain (Name i) args e = λ s n. refl
none_is_plain (Do (action.BuiltIn m) es) args e = absurd (let z : Some (record { member = m; holds = es }) ≡ None = e in cc)
none_is_plain (Do (action.Operate o) es) args e = λ s n. refl
none_is_plain (Do action.New es) args e = λ s n. refl
none_is_plain (Do action.Read es) args e = λ s n. refl
none_is_plain (Do action.Write es) args e = λ s n. refl
none_is_plain (Do action.WriteElement es) args e = λ s n. refl
none_is_plain (Do action.Print es) args e = λ s n. refl
none_is_plain (Do action.Throw es) args e = λ s n. refl
none_is_plain (Do action.Call es) args e = λ s n. refl
none_is_plain (Do (action.Send ps rs) es) args e = λ s n. refl
none_is_plain (Do action.Await es) args e = λ s n. refl
none_is_plain (Do (action.Break l) es) args e = λ s n. refl
none_is_plain (Do (action.Unwrap l) es) args e = λ s n. refl
none_is_plain (If c a b) args e = λ s n. refl
none_is_plain (Switch x cs) args e = λ s n. refl
none_is_plain (Group fns b) args e = λ s n. refl
none_is_plain (Frame k x) args e = λ s n. refl
none_is_plain (Label x) args e = λ s n. refl
none_is_plain (While c b) args e = λ s n. refl
none_is_plain (Repeat b c) args e = λ s n. refl
none_is_plain (For p x b) args e = λ s n. refl
none_is_plain (Try x p b) args e = λ s n. refl
none_is_plain (Update o x y) args e = λ s n. refl

pub other_call : (xs : List TypedExpression) (x : TypedExpression) → 1 ≤ length xs → x ≡ get_or xs 0 x → held_in (expression x) ≡ None → IsPlainCall (exps (map expression xs))
other_call [] x l is none = absurd (omega (arith, l))
other_call (y ∷ ys) x l is none = none_is_plain (expression y) (exps (map expression ys)) (ap (λ z. held_in (expression z)) (sym is) ∙ none)

pub no_call : (xs : List TypedExpression) → length xs < 1 → IsPlainCall (exps (map expression xs))
no_call [] l = λ s n. refl
no_call (x ∷ xs) l = absurd (omega (arith, l))

-- ---- tests

pub not_empty : (ss : List Step) → (length ss == 0) ≡ false → 1 ≤ length ss
not_empty [] e = absurd (let z : true ≡ false = e in cc)
not_empty (s ∷ ss) e = omega arith

pub is_empty : (ss : List Step) → (length ss == 0) ≡ true → length ss ≡ 0
is_empty ss e = eqb-true (length ss) 0 e
