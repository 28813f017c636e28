-- A typed tree is as elaboration asks, in each scope with a place for each of its names.
use Rattle.std.proofs.Common.{◌≡◌, ◌⊎◌, inl, inr, ℕ, zero, suc, ◌+◌, ◌-◌, ◌≤◌, Bool, true, false, List, [], ◌∷◌, ◌++◌, length, map, Some, None, slice_get, arith, refl, sym, ap, ◌∙◌, subst}
use Rattle.std.specs.Prelude.{◌≢◌}
use Rattle.mo_types.specs.declared.node.Node.{Node}
use Rattle.mo_types.specs.declared.node.Sort.{Sort}
use Rattle.mo_types.specs.declared.node.Sort.TheVariants as sort
use Rattle.mo_types.specs.declared.node.TypeId.{TypeId}
use Rattle.mo_types.specs.Graph.{Slot, head_at}
use Rattle.typed_tree.specs.declared.action.Action.{Action}
use Rattle.typed_tree.specs.declared.action.Action.TheVariants as action
use Rattle.typed_tree.specs.declared.action.Member.{Member}
use Rattle.typed_tree.specs.declared.action.Member.TheVariants as member
use Rattle.typed_tree.specs.declared.expression.Form.{Form, roll-Form, map-Form, fold-roll-Form}
use Rattle.typed_tree.specs.declared.expression.Form.TheOpen as F
use Rattle.typed_tree.specs.declared.expression.Step.{Step, roll-Step, map-Step, ind-Step, fold-roll-Step}
use Rattle.typed_tree.specs.declared.expression.Case.{Case, roll-Case, map-Case, fold-roll-Case}
use Rattle.typed_tree.specs.declared.expression.Function.{Function, roll-Function, map-Function, ind-Function, fold-roll-Function}
use Rattle.typed_tree.specs.declared.expression.TypedExpression.{TypedExpression, roll-TypedExpression, map-TypedExpression, ind-TypedExpression, fold-roll-TypedExpression}
use Rattle.typed_tree.specs.declared.literal.Literal.{Literal}
use Rattle.typed_tree.specs.declared.literal.Literal.TheVariants as literal
use Rattle.typed_tree.specs.declared.pattern.TypedPattern.{TypedPattern}
use Rattle.typed_tree.specs.ActionTypes.{Context, ActionTyped}
use Rattle.typed_tree.specs.Language.{Exp, Exps, Functions, Do, Switch, Group, NoExp, AnExp, let_in}
use Rattle.typed_tree.specs.MemberTypes.{MemberTyped}
use Rattle.typed_tree.specs.Patterns.{Pat, Wildcard, Bind, names}
use Rattle.typed_tree.specs.PatternTypes.{Stands as PatternStands}
use Rattle.typed_tree.specs.PatternView.{pattern, patterns, literal_value}
use Rattle.typed_tree.specs.Substitution.{count}
use Rattle.typed_tree.specs.Typing.{Signature, with_names, in_body, NameGives, OwnType, EachGives, CasesGive, BlockGives, GroupStands, Typed, Declares, IsFunctionOf, FormTyped, CaseTyped}
use Rattle.typed_tree.specs.TypingLaws.{form_typing, step_typing, case_typing, function_typing, expression_typing}
use Rattle.typed_tree.specs.View.{CaseView, FunctionView, StepView, exps, cases, group, block, kept_or, form_step, step_step, case_step, function_step, expression_step, expression, form, declaration, case_view, function}
use Rattle.typed_tree.specs.Wants.{Want, Anything, Of, CellOf, FutureOf, KeptOf, Generic, in_function}
use Rattle.typed_tree.proofs.PatternNames.{names_counted, all_counted}
use Rattle.typed_tree.proofs.Rules as rules
use Rattle.elaboration.specs.Scopes.{Place, Local, Scope, place_or_nowhere, beside, inside, labelled, places_from, under}
use Rattle.elaboration.specs.Scopes as scopes
use Rattle.elaboration.specs.Checks.{Named, Source, check, check_all, behind, locals}
use Rattle.elaboration.specs.Members.{form_of}
use Rattle.elaboration.specs.Elaboration.{number_of_parameters, on_nearest, on_parameters, count_of, loop_scope}
use Rattle.elaboration_forms.specs.Elaborates.{IsLiteral, IsPlace, May, AtOnce, Stands, StandAll, StandNames, StandCases, StandFunctions}
use Rattle.elaboration_premises.specs.Scoped.{IsUsed, others, Seen, Sees, IsWritten, Written, WrittenAll, WrittenCases, WrittenFunctions}
use Rattle.elaboration_premises.proofs.Bound.{names_bound, all_bound}

-- ---- what a layer stands for

abbrev form_view : F.Form-F Form Step Case Function TypedExpression → Exp
form_view x = form_step (map-Form Form Step Case Function TypedExpression Exp StepView CaseView FunctionView Exp form declaration case_view function expression x)

abbrev pub step_view : F.Step-F Form Step Case Function TypedExpression → StepView
step_view x = step_step (map-Step Form Step Case Function TypedExpression Exp StepView CaseView FunctionView Exp form declaration case_view function expression x)

form_viewed : (x : F.Form-F Form Step Case Function TypedExpression) → form (roll-Form x) ≡ form_view x
unfolding form declaration case_view function expression
form_viewed x = fold-roll-Form Exp StepView CaseView FunctionView Exp form_step step_step case_step function_step expression_step x

pub step_viewed : (x : F.Step-F Form Step Case Function TypedExpression) → declaration (roll-Step x) ≡ step_view x
unfolding form declaration case_view function expression
step_viewed x = fold-roll-Step Exp StepView CaseView FunctionView Exp form_step step_step case_step function_step expression_step x

case_viewed : (x : F.Case-F Form Step Case Function TypedExpression) → case_view (roll-Case x) ≡ record { pattern = pattern x.pattern; body = expression x.body }
unfolding form declaration case_view function expression
case_viewed x = fold-roll-Case Exp StepView CaseView FunctionView Exp form_step step_step case_step function_step expression_step x

pub function_viewed : (x : F.Function-F Form Step Case Function TypedExpression) → function (roll-Function x) ≡ record { how = x.sort; nodes = x.nodes; parameters = patterns x.parameters; body = expression x.body }
unfolding form declaration case_view function expression
function_viewed x = fold-roll-Function Exp StepView CaseView FunctionView Exp form_step step_step case_step function_step expression_step x

expression_viewed : (x : F.TypedExpression-F Form Step Case Function TypedExpression) → expression (roll-TypedExpression x) ≡ form x.form
unfolding form declaration case_view function expression
expression_viewed x = fold-roll-TypedExpression Exp StepView CaseView FunctionView Exp form_step step_step case_step function_step expression_step x

-- ---- places

there : (ws : List (Want TypeId)) (places : List Place) (x : ℕ) (w : Want TypeId) → Seen ws places → slice_get ws x ≡ Some w → IsUsed w → IsPlace (place_or_nowhere (slice_get places x))
there [] places x w h q u = absurd (let z : None ≡ Some w = q in cc)
there (v ∷ ws) [] zero w h q u = let z : Some v ≡ Some w = q in let same : w ≡ v = cc in h.0 (subst IsUsed same u)
there (v ∷ ws) (p ∷ places) zero w h q u = let z : Some v ≡ Some w = q in let same : w ≡ v = cc in h.0 (subst IsUsed same u)
there (v ∷ ws) [] (suc x) w h q u = absurd (nowhere ws x w h.1 q u)
  where
    nowhere : (ws : List (Want TypeId)) (x : ℕ) (w : Want TypeId) → Seen ws [] → slice_get ws x ≡ Some w → IsUsed w → ⊥
    nowhere [] x w h q u = (let z : None ≡ Some w = q in cc)
    nowhere (v ∷ ws) zero w h q u = let z : Some v ≡ Some w = q in let same : w ≡ v = cc in h.0 (subst IsUsed same u)
    nowhere (v ∷ ws) (suc x) w h q u = nowhere ws x w h.1 q u
there (v ∷ ws) (p ∷ places) (suc x) w h q u = there ws places x w h.1 q u

-- behind names that a pattern binds, and behind functions of a group
pub bound_seen : (ns ws : List (Want TypeId)) (levels : List ℕ) (places : List Place) → length levels ≡ length ns → Seen ws places → Seen (ns ++ ws) (locals levels ++ places)
bound_seen [] ws [] places e h = h
bound_seen [] ws (l ∷ levels) places e h = absurd (let z : suc (length levels) ≡ 0 = e in omega (arith, z))
bound_seen (n ∷ ns) ws [] places e h = absurd (let z : 0 ≡ suc (length ns) = e in omega (arith, z))
bound_seen (n ∷ ns) ws (l ∷ levels) places e h = (λ u. tt, bound_seen ns ws levels places (let z : suc (length levels) ≡ suc (length ns) = e in omega (arith, z)) h)

pub group_seen : (ns ws : List (Want TypeId)) (from n : ℕ) (places : List Place) → n ≡ length ns → Seen ws places → Seen (ns ++ ws) (places_from from n ++ places)
group_seen [] ws from zero places e h = h
group_seen [] ws from (suc n) places e h = absurd (let z : suc n ≡ 0 = e in omega (arith, z))
group_seen (w ∷ ns) ws from zero places e h = absurd (let z : 0 ≡ suc (length ns) = e in omega (arith, z))
group_seen (w ∷ ns) ws from (suc n) places e h = (λ u. tt, group_seen ns ws from n places (let z : suc n ≡ suc (length ns) = e in omega (arith, z)) h)

used_outside : (w : Want TypeId) → IsUsed (in_function w) → IsUsed w
used_outside Anything u = u
used_outside (Of t) u = tt
used_outside (CellOf t) u = tt
used_outside (FutureOf t) u = tt
used_outside (KeptOf t) u = tt
used_outside (Generic vs t) u = tt

pub inside_seen : (ws : List (Want TypeId)) (places : List Place) → Seen ws places → Seen (map in_function ws) places
inside_seen [] places h = tt
inside_seen (w ∷ ws) places h = (λ u. h.0 (used_outside w u), inside_seen ws (others places) h.1)

-- ---- literals and operands

literal_stands : (l : Literal) → IsLiteral (literal_value l)
literal_stands literal.Unit = tt
literal_stands literal.Null = tt
literal_stands (literal.Flag b) = tt
literal_stands (literal.Number n) = tt
literal_stands (literal.Character c) = tt
literal_stands (literal.Text t) = tt
literal_stands (literal.Blob t) = tt
literal_stands (literal.Actor p) = tt

-- one operand at most
first_names : (b : Bool) (s : Scope) (es : Exps) → count_of es ≤ 1 → StandAll b s es → StandNames b s es
first_names b s NoExp q h = tt
first_names b s (AnExp e NoExp) q h = (h.0, tt)
first_names b s (AnExp e (AnExp f es)) q h = absurd (let z : suc (suc (count_of es)) ≤ 1 = q in omega (arith, z))

first_all : (b : Bool) (s : Scope) (es : Exps) → count_of es ≤ 1 → StandNames b s es → StandAll b s es
first_all b s NoExp q h = tt
first_all b s (AnExp e NoExp) q h = (h.0, tt)
first_all b s (AnExp e (AnExp f es)) q h = absurd (let z : suc (suc (count_of es)) ≤ 1 = q in omega (arith, z))

at_once : (m : Member) (n : ℕ) → n ≤ 1 → AtOnce (form_of m) n
at_once member.DebugPrint n h = tt
at_once member.DebugTrap n h = tt
at_once member.ErrorReject n h = tt
at_once member.ErrorMessage n h = tt
at_once member.ErrorCode n h = tt
at_once member.NatToText n h = tt
at_once member.IntToText n h = tt
at_once member.ArrayTabulate n h = h
at_once member.ArrayInit n h = h
at_once member.ArrayFreeze n h = h
at_once member.ArrayThaw n h = h
at_once member.PrincipalFromActor n h = tt
at_once member.ArraySize n h = tt
at_once member.ArrayVals n h = h
at_once member.ArrayKeys n h = h
at_once member.TextSize n h = tt
at_once member.TextChars n h = h
at_once member.NextVal n h = h
at_once member.NextKey n h = h
at_once member.NextChar n h = h

call_stands : (b : Bool) (s : Scope) (es : Exps) → StandAll b s es → Stands b s (Do action.Call es)
call_stands b s (AnExp (Do (action.BuiltIn m) es) args) h = (first_all b s es h.0.1 h.0.0, h.1, at_once m (count_of es) h.0.1)
call_stands b s es h = (tt, h)

-- ---- actions

none : (ws : List (Want TypeId)) → ws ≡ [] → length ws ≤ 1
none ws q = subst (λ (ws : List (Want TypeId)). length ws ≤ 1) (sym q) (omega arith)

one : (ws : List (Want TypeId)) (w : Want TypeId) → ws ≡ w ∷ [] → length ws ≤ 1
one ws w q = subst (λ (ws : List (Want TypeId)). length ws ≤ 1) (sym q) (omega arith)

-- what a built-in function that is written holds
few_held : (head : TypeId → Node TypeId) (m : Member) (ws : List (Want TypeId)) (n : Node TypeId) → IsWritten (action.BuiltIn m) → MemberTyped head m ws n → length ws ≤ 1
few_held head member.DebugPrint ws n i h = none ws h.1
few_held head member.DebugTrap ws n i h = none ws h.1
few_held head member.ErrorReject ws n i h = none ws h.1
few_held head member.ErrorMessage ws n i h = none ws h.1
few_held head member.ErrorCode ws n i h = none ws h.1
few_held head member.NatToText ws n i h = none ws h.1
few_held head member.IntToText ws n i h = none ws h.1
few_held head member.ArrayTabulate ws n i h = none ws h.3
few_held head member.ArrayInit ws n i h = none ws h.2
few_held head member.ArrayFreeze ws n i h = none ws h.2
few_held head member.ArrayThaw ws n i h = none ws h.2
few_held head member.PrincipalFromActor ws n i h = none ws h.1
few_held head member.ArraySize ws n i h = one ws _ h.2
few_held head member.ArrayVals ws n i h = one ws _ h.2
few_held head member.ArrayKeys ws n i h = one ws _ h.3
few_held head member.TextSize ws n i h = one ws _ h.1
few_held head member.TextChars ws n i h = one ws _ h.2
few_held head member.NextVal ws n i h = absurd i
few_held head member.NextKey ws n i h = absurd i
few_held head member.NextChar ws n i h = absurd i

may : (head : TypeId → Node TypeId) (c : Context) (a : Action) (ws : List (Want TypeId)) (w : Want TypeId) (b : Bool) → ((c.body ≢ sort.Local) → b ≡ true) → ActionTyped head c a ws w → May b a
may head c action.Throw ws w b k h = k h.0
may head c (action.Send ps rs) ws w b k h = k (shared c.body h.2)
  where
    shared : (s : Sort) → s ≡ sort.Shared → s ≢ sort.Local
    shared s e = λ q. cc
may head c action.Await ws w b k h = k (shared c.body h.1)
  where
    shared : (s : Sort) → s ≡ sort.Shared → s ≢ sort.Local
    shared s e = λ q. cc
may head c (action.Operate o) ws w b k h = tt
may head c (action.BuiltIn m) ws w b k h = tt
may head c action.New ws w b k h = tt
may head c action.Read ws w b k h = tt
may head c action.Write ws w b k h = tt
may head c action.WriteElement ws w b k h = tt
may head c action.Print ws w b k h = tt
may head c action.Call ws w b k h = tt
may head c (action.Break l) ws w b k h = tt
may head c (action.Unwrap l) ws w b k h = tt

acts_stand : (head : TypeId → Node TypeId) (c : Context) (a : Action) (ws : List (Want TypeId)) (w : Want TypeId) (b : Bool) (s : Scope) (es : Exps) → ((c.body ≢ sort.Local) → b ≡ true) → IsWritten a → ActionTyped head c a ws w → count_of es ≡ length ws
    → StandAll b s es → Stands b s (Do a es)
acts_stand head c action.Call ws w b s es k i h n all = call_stands b s es all
acts_stand head c (action.BuiltIn m) ws w b s es k i h n all = let q : count_of es ≤ 1 = subst (λ n. n ≤ 1) (sym n) (few_held head m ws (head h.0) i h.2) in (first_names b s es q all, q)
acts_stand head c action.Throw ws w b s es k i h n all = (may head c action.Throw ws w b k h, all)
acts_stand head c (action.Send ps rs) ws w b s es k i h n all = (may head c (action.Send ps rs) ws w b k h, all)
acts_stand head c action.Await ws w b s es k i h n all = (may head c action.Await ws w b k h, all)
acts_stand head c (action.Operate o) ws w b s es k i h n all = (tt, all)
acts_stand head c action.New ws w b s es k i h n all = (tt, all)
acts_stand head c action.Read ws w b s es k i h n all = (tt, all)
acts_stand head c action.Write ws w b s es k i h n all = (tt, all)
acts_stand head c action.WriteElement ws w b s es k i h n all = (tt, all)
acts_stand head c action.Print ws w b s es k i h n all = (tt, all)
acts_stand head c (action.Break l) ws w b s es k i h n all = (tt, all)
acts_stand head c (action.Unwrap l) ws w b s es k i h n all = (tt, all)

-- in the body of a function that is no shared one
pub not_shared : (s : Sort) (b : Bool) → s ≡ sort.Local → (s ≢ sort.Local) → b ≡ true
not_shared s b e h = absurd (h e)

module _ (types : List Slot) where
  abbrev Inside : Bool → List (Want TypeId) → Exp → Type 0
  Inside b ws e = (s : Scope) → Seen ws s.places → Stands b s e

  -- a declaration around what stands behind it: a value, or a group of functions
  abbrev pub Opening : Bool → Scope → List (Want TypeId) → StepView → Type 0
  Opening b s ns d =
      ((p : Pat) × (x : Exp) × ((e : Exp) → d e ≡ let_in p x e) × Stands b s x × (length (on_nearest p s).bound ≡ length ns))
      ⊎ ((fns : Functions) × ((e : Exp) → d e ≡ Group fns e) × StandFunctions (under (count fns) s) fns × (count fns ≡ length ns))

  opens : (b : Bool) (s : Scope) (ns ws : List (Want TypeId)) (d : StepView) (e : Exp) → Opening b s ns d → Seen ws s.places → Inside b (ns ++ ws) e → Stands b s (d e)
  opens b s ns ws d e (inl o) h i = subst (Stands b s) (sym (o.2 e)) (o.3, i (behind (on_nearest o.0 s) s) (bound_seen ns ws (on_nearest o.0 s).bound s.places o.4 h))
  opens b s ns ws d e (inr o) h i = subst (Stands b s) (sym (o.1 e)) (o.2, i (under (count o.0) s) (group_seen ns ws s.names (count o.0) s.places o.3 h))

  abbrev FormClaim : Form → Type 0
  FormClaim f = (c : Context) (w : Want TypeId) → FormTyped types f c w → IsUsed w → (b : Bool) (s : Scope) → Sees c b s → Written (form f) → Stands b s (form f)

  abbrev StepClaim : Step → Type 0
  StepClaim x = (c : Context) (ns : List (Want TypeId)) → Declares types x c ns → (b : Bool) (s : Scope) → Sees c b s → (e : Exp) → Written (declaration x e) → Opening b s ns (declaration x) × Written e

  abbrev CaseClaim : Case → Type 0
  CaseClaim x = (c : Context) (t : TypeId) (w : Want TypeId) → CaseTyped types x c t w → (b : Bool) → ((c.body ≢ sort.Local) → b ≡ true) → Written (case_view x).body
      → (ns : List (Want TypeId)) × ((v : Source) (n : ℕ) → length (check (case_view x).pattern v n).bound ≡ length ns) × Inside b (ns ++ c.names) (case_view x).body

  abbrev FunctionClaim : Function → Type 0
  FunctionClaim f = (c : Context) (g : Signature) → IsFunctionOf types f c g → (b : Bool) → ((g.sort ≢ sort.Local) → b ≡ true) → Written (function f).body
      → (ns : List (Want TypeId)) × ((level n : ℕ) → length (check_all (function f).parameters level n).bound ≡ length ns) × Inside b ((g.context ++ ns) ++ map in_function c.names) (function f).body

  abbrev ExpressionClaim : TypedExpression → Type 0
  ExpressionClaim e = (c : Context) (w : Want TypeId) → Typed types e c w → (b : Bool) (s : Scope) → Sees c b s → Written (expression e) → Stands b s (expression e)

  abbrev K0 : Type 0
  K0 = (x : Form) × FormClaim x

  abbrev K1 : Type 0
  K1 = (x : Step) × StepClaim x

  abbrev K2 : Type 0
  K2 = (x : Case) × CaseClaim x

  abbrev K3 : Type 0
  K3 = (x : Function) × FunctionClaim x

  abbrev K4 : Type 0
  K4 = (x : TypedExpression) × ExpressionClaim x

  each_stands : (es : List K4) (c : Context) (ws : List (Want TypeId)) → EachGives (Typed types) c (map (λ z. z.0) es) ws → (b : Bool) (s : Scope) → Sees c b s → WrittenAll (exps (map expression (map (λ z. z.0) es)))
      → StandAll b s (exps (map expression (map (λ z. z.0) es))) × (count_of (exps (map expression (map (λ z. z.0) es))) ≡ length ws)
  each_stands [] c [] h b s k i = (tt, refl)
  each_stands [] c (w ∷ ws) h b s k i = absurd h
  each_stands (e ∷ es) c [] h b s k i = absurd h
  each_stands (e ∷ es) c (w ∷ ws) h b s k i = let r = each_stands es c ws h.1 b s k i.1 in ((e.1 c w h.0 b s k i.0, r.0), ap suc r.1)

  -- under what a pattern binds on the nearest name, or on a name of some level
  under_pattern : (p : Pat) (b : Bool) (ns ws : List (Want TypeId)) (e : Exp) (levels : List ℕ) (s t : Scope) → length levels ≡ length ns → Seen ws s.places → t.places ≡ locals levels ++ s.places → Inside b (ns ++ ws) e → Stands b t e
  under_pattern p b ns ws e levels s t n h q i = i t (subst (Seen (ns ++ ws)) (sym q) (bound_seen ns ws levels s.places n h))

  cases_stand : (xs : List K2) (c : Context) (t : TypeId) (w : Want TypeId) → CasesGive (CaseTyped types) c (map (λ z. z.0) xs) t w → (b : Bool) (level : ℕ) (s : Scope) → Sees c b s → WrittenCases (cases (map case_view (map (λ z. z.0) xs)))
      → StandCases b level s (cases (map case_view (map (λ z. z.0) xs)))
  cases_stand [] c t w h b level s k i = tt
  cases_stand (x ∷ xs) c t w h b level s k i =
      let r = x.1 c t w h.0 b k.1 i.0 in
      let p = (case_view x.0).pattern in
      (r.2 (behind (check p (Named level) s.names) s) (bound_seen r.0 c.names (check p (Named level) s.names).bound s.places (r.1 (Named level) s.names) k.0), cases_stand xs c t w h.1 b level (beside 1 s) k i.1)

  switch_stands : (e : Exp) (xs : List K2) (c : Context) (t : TypeId) (w : Want TypeId) → CasesGive (CaseTyped types) c (map (λ z. z.0) xs) t w → (b : Bool) (s : Scope) → Sees c b s → WrittenCases (cases (map case_view (map (λ z. z.0) xs)))
      → Stands b s e → Stands b s (Switch e (cases (map case_view (map (λ z. z.0) xs))))
  switch_stands e [] c t w h b s k i d = (d, tt)
  switch_stands e (x ∷ []) c t w h b s k i d =
      let r = x.1 c t w h.0 b k.1 i.0 in
      let p = (case_view x.0).pattern in
      (d, r.2 (behind (on_nearest p s) s) (bound_seen r.0 c.names (on_nearest p s).bound s.places (r.1 (Named s.names) (suc s.names)) k.0))
  switch_stands e (x ∷ y ∷ xs) c t w h b s k i d = (d, cases_stand (x ∷ y ∷ xs) c t w h b s.names (inside (beside 1 s)) k i)

  block_stands : (ss : List K1) (e : K4) (c : Context) (w : Want TypeId) → BlockGives (Declares types) (Typed types) c (map (λ z. z.0) ss) e.0 w → (b : Bool) (s : Scope) → Sees c b s → Written (block (map declaration (map (λ z. z.0) ss)) (expression e.0))
      → Stands b s (block (map declaration (map (λ z. z.0) ss)) (expression e.0))
  block_stands [] e c w h b s k i = e.1 c w h b s k i
  block_stands (x ∷ ss) e c w h b s k i =
      let r = x.1 c h.0 h.1 b s k (block (map declaration (map (λ z. z.0) ss)) (expression e.0)) i in
      opens b s h.0 c.names (declaration x.0) (block (map declaration (map (λ z. z.0) ss)) (expression e.0)) r.0 k.0 (λ s' q. block_stands ss e (with_names h.0 c) w h.2 b s' (q, k.1) r.1)

  counted : (fs : List K3) (c : Context) (ws : List (Want TypeId)) → GroupStands (head_at types) (IsFunctionOf types) c (map (λ z. z.0) fs) ws → count (group (map function (map (λ z. z.0) fs))) ≡ length ws
  counted [] c [] h = refl
  counted [] c (w ∷ ws) h = absurd h
  counted (f ∷ fs) c [] h = absurd h
  counted (f ∷ fs) c (w ∷ ws) h = ap suc (counted fs c ws h.1)

  pub without_context : (ms ns ws : List (Want TypeId)) (places : List Place) → ms ≡ [] → Seen (ns ++ ws) places → Seen ((ms ++ ns) ++ ws) places
  without_context ms ns ws places e h = subst (λ (ms : List (Want TypeId)). Seen ((ms ++ ns) ++ ws) places) (sym e) h

  -- in the scope of the group
  functions_stand : (fs : List K3) (c : Context) (ws : List (Want TypeId)) → GroupStands (head_at types) (IsFunctionOf types) c (map (λ z. z.0) fs) ws → (s : Scope) → Seen c.names s.places → WrittenFunctions (group (map function (map (λ z. z.0) fs)))
      → StandFunctions s (group (map function (map (λ z. z.0) fs)))
  functions_stand [] c ws h s k i = tt
  functions_stand (f ∷ fs) c [] h s k i = absurd h
  functions_stand (f ∷ fs) c (w ∷ ws) h s k i =
      let g = h.0.0 in
      let r = f.1 c g h.0.3 false (not_shared g.sort false h.0.1) i.0 in
      let ps = (function f.0).parameters in (
        r.2 (behind (on_parameters ps s) (scopes.in_body (number_of_parameters ps) s))
            (without_context g.context r.0 (map in_function c.names) (locals (on_parameters ps s).bound ++ s.places) h.0.2 (bound_seen r.0 (map in_function c.names) (on_parameters ps s).bound s.places (r.1 (number_of_parameters ps + s.names - 1) (number_of_parameters ps + s.names)) (inside_seen c.names s.places k))),
        functions_stand fs c ws h.1 s k i.1,
      )

  -- ---- forms

  used_there : (v w : Want TypeId) → NameGives (head_at types) v w → IsUsed w → IsUsed v
  used_there Anything w h u = subst IsUsed h u
  used_there (Of t) w h u = tt
  used_there (CellOf t) w h u = tt
  used_there (FutureOf t) w h u = tt
  used_there (KeptOf t) w h u = tt
  used_there (Generic vs t) w h u = tt

  pub bound_by : (p : TypedPattern) (ps : List ℕ) (t : TypeId) (ns : List (Want TypeId)) → PatternStands types ps p t ns → (v : Source) (n : ℕ) → length (check (pattern p) v n).bound ≡ length ns
  bound_by p ps t ns h v n = names_bound p v n ∙ sym (names_counted types ps p t ns h)

  form_stands : (y : F.Form-F K0 K1 K2 K3 K4) (c : Context) (w : Want TypeId) → form_typing types (map-Form K0 K1 K2 K3 K4 Form Step Case Function TypedExpression (λ z. z.0) (λ z. z.0) (λ z. z.0) (λ z. z.0) (λ z. z.0) y) c w → IsUsed w → (b : Bool) (s : Scope) → Sees c b s
      → Written (form_view (map-Form K0 K1 K2 K3 K4 Form Step Case Function TypedExpression (λ z. z.0) (λ z. z.0) (λ z. z.0) (λ z. z.0) (λ z. z.0) y))
      → Stands b s (form_view (map-Form K0 K1 K2 K3 K4 Form Step Case Function TypedExpression (λ z. z.0) (λ z. z.0) (λ z. z.0) (λ z. z.0) (λ z. z.0) y))
  form_stands (F.Constant l) c w h u b s k i = literal_stands l
  form_stands (F.Name x) c w h u b s k i = there c.names s.places x h.0 k.0 h.1 (used_there h.0 w h.2 u)
  form_stands (F.Do a es) c w h u b s k i = let r = each_stands es c h.0 h.2 b s k i.1 in acts_stand (head_at types) c a h.0 w b s (exps (map expression (map (λ z. z.0) es))) k.1 i.0 h.1 r.1 r.0
  form_stands (F.If e x y) c w h u b s k i = (e.1 c _ h.4 b s k i.0, x.1 c w h.5 b s k i.1, y.1 c w h.6 b s k i.2)
  form_stands (F.Switch token e xs) c w h u b s k i = switch_stands (expression e.0) xs c h.1 w h.4 b s k i.1 (e.1 c _ h.3 b s k i.0)
  form_stands (F.While e x) c w h u b s k i = (e.1 c _ h.5 b (inside s) k i.0, x.1 c w h.6 b (beside 1 (loop_scope (expression e.0) s)) k i.1)
  form_stands (F.Loop x) c w h u b s k i = ((tt, x.1 c _ h.5 b (beside 1 s) k i.0.1), (tt, tt))
  form_stands (F.Repeat x e) c w h u b s k i = (x.1 c w h.5 b (inside s) k i.0, e.1 c _ h.6 b (beside 1 (inside s)) k i.1)
  form_stands (F.For p e x) c w h u b s k i = (
    e.1 c _ h.7 b s k i.0,
    x.1 (with_names h.3 c) w h.9 b (inside (behind (on_nearest (pattern p) (beside 1 s)) s)) (bound_seen h.3 c.names (on_nearest (pattern p) (beside 1 s)).bound s.places (bound_by p c.parameters h.2 h.3 h.8 (Named (1 + s.names)) (suc (1 + s.names))) k.0, k.1) i.1,
  )
  form_stands (F.Label e) c w h u b s k i = e.1 _ w h.2 b (labelled s) k i
  form_stands (F.Try e p x) c w h u b s k i = (
    k.1 h.4,
    e.1 c w h.6 b s k i.0,
    x.1 (with_names h.2 c) w h.8 b (behind (on_nearest (pattern p) s) s) (bound_seen h.2 c.names (on_nearest (pattern p) s).bound s.places (bound_by p c.parameters h.1 h.2 h.7 (Named s.names) (suc s.names)) k.0, k.1) i.1,
  )
  form_stands (F.Update o e f) c w h u b s k i = (e.1 c _ h.8 b s k i.0, f.1 c _ h.10 b (beside 1 s) k i.1)
  form_stands (F.Block ss e) c w h u b s k i = block_stands ss e c w h.2 b s k i

  -- ---- declarations

  let_bound : (p : TypedPattern) (e : K4) (c : Context) (ns : List (Want TypeId)) → step_typing types (F.Let p e.0) c ns → (v : Source) (n : ℕ) → length (check (pattern p) v n).bound ≡ length ns
  let_bound p e c ns (inl h) v n = bound_by p c.parameters h.0 ns h.2 v n
  let_bound p e c ns (inr h) v n = names_bound p v n ∙ ap names h.2 ∙ sym (ap length h.3)

  let_stands : (p : TypedPattern) (e : K4) (c : Context) (ns : List (Want TypeId)) → step_typing types (F.Let p e.0) c ns → (b : Bool) (s : Scope) → Sees c b s → Written (expression e.0) → Stands b s (expression e.0)
  let_stands p e c ns (inl h) b s k i = e.1 c _ h.1 b s k i
  let_stands p e c ns (inr h) b s k i = e.1 c _ h.1 b s k i

  step_stands : (y : F.Step-F K0 K1 K2 K3 K4) (c : Context) (ns : List (Want TypeId)) → step_typing types (map-Step K0 K1 K2 K3 K4 Form Step Case Function TypedExpression (λ z. z.0) (λ z. z.0) (λ z. z.0) (λ z. z.0) (λ z. z.0) y) c ns → (b : Bool) (s : Scope) → Sees c b s → (e : Exp)
      → Written (step_view (map-Step K0 K1 K2 K3 K4 Form Step Case Function TypedExpression (λ z. z.0) (λ z. z.0) (λ z. z.0) (λ z. z.0) (λ z. z.0) y) e)
      → Opening b s ns (step_view (map-Step K0 K1 K2 K3 K4 Form Step Case Function TypedExpression (λ z. z.0) (λ z. z.0) (λ z. z.0) (λ z. z.0) (λ z. z.0) y)) × Written e
  step_stands (F.Let p x) c ns h b s k e i = (inl (pattern p, expression x.0, (λ e. refl), let_stands p x c ns h b s k i.0, let_bound p x c ns h (Named s.names) (suc s.names)), i.1.0)
  step_stands (F.Var x) c ns h b s k e i = (inl (Bind, Do action.New (AnExp (expression x.0) NoExp), (λ e. refl), (tt, (x.1 c _ h.2 b s k i.0.1.0, tt)), sym (ap length h.3)), i.1.0)
  step_stands (F.Stable x f) c ns h b s k e i =
      (inl (Bind, Do action.New (AnExp (kept_or x (expression f.0)) NoExp), (λ e. refl), (tt, ((there c.names s.places x _ k.0 h.1 tt, (f.1 c _ h.2 b _ k i.0.1.0.1.0, (tt, tt))), tt)), sym (ap length h.3)), i.1.0)
  step_stands (F.Functions fs) c ns h b s k e i =
      let n : count (group (map function (map (λ (z : K3). z.0) fs))) ≡ length ns = counted fs (with_names ns c) ns h in
      let q = group_seen ns c.names s.names (count (group (map function (map (λ (z : K3). z.0) fs)))) s.places n k.0 in
      (inr (group (map function (map (λ (z : K3). z.0) fs)), (λ e. refl), functions_stand fs (with_names ns c) ns h (under (count (group (map function (map (λ (z : K3). z.0) fs)))) s) q i.0, n), i.1)
  step_stands (F.Evaluate x) c ns h b s k e i = (inl (Wildcard, expression x.0, (λ e. refl), x.1 c _ h.1 b s k i.0, sym (ap length h.2)), i.1.0)

  -- ---- the tree

  form_case : (y : F.Form-F K0 K1 K2 K3 K4) → FormClaim (roll-Form (map-Form K0 K1 K2 K3 K4 Form Step Case Function TypedExpression (λ z. z.0) (λ z. z.0) (λ z. z.0) (λ z. z.0) (λ z. z.0) y))
  form_case y c w h u b s k i = subst (Stands b s) (sym (form_viewed _)) (form_stands y c w ((rules.forms types _ c w).0 h) u b s k (subst Written (form_viewed _) i))

  step_case : (y : F.Step-F K0 K1 K2 K3 K4) → StepClaim (roll-Step (map-Step K0 K1 K2 K3 K4 Form Step Case Function TypedExpression (λ z. z.0) (λ z. z.0) (λ z. z.0) (λ z. z.0) (λ z. z.0) y))
  step_case y c ns h b s k e i =
      subst (λ (d : StepView). Opening b s ns d × Written e) (sym (step_viewed _)) (step_stands y c ns ((rules.steps types _ c ns).0 h) b s k e (subst (λ (d : StepView). Written (d e)) (step_viewed _) i))

  case_case : (y : F.Case-F K0 K1 K2 K3 K4) → CaseClaim (roll-Case (map-Case K0 K1 K2 K3 K4 Form Step Case Function TypedExpression (λ z. z.0) (λ z. z.0) (λ z. z.0) (λ z. z.0) (λ z. z.0) y))
  case_case y c t w h b k i =
      let f : case_typing types (map-Case K0 K1 K2 K3 K4 Form Step Case Function TypedExpression (λ z. z.0) (λ z. z.0) (λ z. z.0) (λ z. z.0) (λ z. z.0) y) c t w = (rules.cases types _ c t w).0 h in
      subst (λ (x : CaseView). (ns : List (Want TypeId)) × ((v : Source) (n : ℕ) → length (check x.pattern v n).bound ≡ length ns) × Inside b (ns ++ c.names) x.body) (sym (case_viewed _))
      (f.0, (λ v n. bound_by y.pattern c.parameters t f.0 f.1 v n), (λ s q. y.body.1 (with_names f.0 c) w f.2 b s (q, k) (subst (λ (x : CaseView). Written x.body) (case_viewed _) i)))

  function_case : (y : F.Function-F K0 K1 K2 K3 K4) → FunctionClaim (roll-Function (map-Function K0 K1 K2 K3 K4 Form Step Case Function TypedExpression (λ z. z.0) (λ z. z.0) (λ z. z.0) (λ z. z.0) (λ z. z.0) y))
  function_case y c g h b k i =
      let f : function_typing types (map-Function K0 K1 K2 K3 K4 Form Step Case Function TypedExpression (λ z. z.0) (λ z. z.0) (λ z. z.0) (λ z. z.0) (λ z. z.0) y) c g = (rules.functions types _ c g).0 h in
      subst (λ (x : FunctionView). (ns : List (Want TypeId)) × ((level n : ℕ) → length (check_all x.parameters level n).bound ≡ length ns) × Inside b ((g.context ++ ns) ++ map in_function c.names) x.body) (sym (function_viewed _)) (
        f.0,
        (λ level n. all_bound y.parameters level n ∙ sym (all_counted types (g.generics ++ c.parameters) y.parameters g.parameters f.0 f.3)),
        (λ s q. y.body.1 (in_body g f.0 c) _ f.5 b s (q, k) (subst (λ (x : FunctionView). Written x.body) (function_viewed _) i)),
      )

  expression_case : (y : F.TypedExpression-F K0 K1 K2 K3 K4) → ExpressionClaim (roll-TypedExpression (map-TypedExpression K0 K1 K2 K3 K4 Form Step Case Function TypedExpression (λ z. z.0) (λ z. z.0) (λ z. z.0) (λ z. z.0) (λ z. z.0) y))
  expression_case y c w h b s k i =
      let f : expression_typing types (map-TypedExpression K0 K1 K2 K3 K4 Form Step Case Function TypedExpression (λ z. z.0) (λ z. z.0) (λ z. z.0) (λ z. z.0) (λ z. z.0) y) c w = (rules.expressions types _ c w).0 h in
      subst (Stands b s) (sym (expression_viewed _)) (y.form.1 c f.0 f.3 (own f.0 y.of_type f.1) b s k (subst Written (expression_viewed _) i))
    where
      own : (v : Want TypeId) (t : TypeId) → OwnType (head_at types) v t → IsUsed v
      own Anything t h = h
      own (Of u) t h = tt
      own (CellOf u) t h = tt
      own (FutureOf u) t h = tt
      own (KeptOf u) t h = tt
      own (Generic vs u) t h = tt

  pub step_holds : (x : Step) → StepClaim x
  step_holds = ind-Step FormClaim StepClaim CaseClaim FunctionClaim ExpressionClaim
      (λ x y is. subst (λ z. FormClaim (roll-Form z)) is (form_case y))
      (λ x y is. subst (λ z. StepClaim (roll-Step z)) is (step_case y))
      (λ x y is. subst (λ z. CaseClaim (roll-Case z)) is (case_case y))
      (λ x y is. subst (λ z. FunctionClaim (roll-Function z)) is (function_case y))
      (λ x y is. subst (λ z. ExpressionClaim (roll-TypedExpression z)) is (expression_case y))

  pub function_holds : (f : Function) → FunctionClaim f
  function_holds = ind-Function FormClaim StepClaim CaseClaim FunctionClaim ExpressionClaim
      (λ x y is. subst (λ z. FormClaim (roll-Form z)) is (form_case y))
      (λ x y is. subst (λ z. StepClaim (roll-Step z)) is (step_case y))
      (λ x y is. subst (λ z. CaseClaim (roll-Case z)) is (case_case y))
      (λ x y is. subst (λ z. FunctionClaim (roll-Function z)) is (function_case y))
      (λ x y is. subst (λ z. ExpressionClaim (roll-TypedExpression z)) is (expression_case y))

  pub expression_holds : (e : TypedExpression) → ExpressionClaim e
  expression_holds = ind-TypedExpression FormClaim StepClaim CaseClaim FunctionClaim ExpressionClaim
      (λ x y is. subst (λ z. FormClaim (roll-Form z)) is (form_case y))
      (λ x y is. subst (λ z. StepClaim (roll-Step z)) is (step_case y))
      (λ x y is. subst (λ z. CaseClaim (roll-Case z)) is (case_case y))
      (λ x y is. subst (λ z. FunctionClaim (roll-Function z)) is (function_case y))
      (λ x y is. subst (λ z. ExpressionClaim (roll-TypedExpression z)) is (expression_case y))
