-- Built-in functions that are one operation or a print.
use Rattle.std.proofs.Common.{◌≡◌, List, [], ◌∷◌, ◌++◌, false, Option, Some, None, sym, ap, subst}
use Rattle.mo_num.specs.declared.kind.Kind.TheVariants as kind
use Rattle.mo_values.specs.declared.operation.Operation.TheVariants as op
use Rattle.mo_values.specs.Costs.{weighing}
use Rattle.typed_tree.specs.declared.action.Action.{Action}
use Rattle.typed_tree.specs.declared.action.Action.TheVariants as action
use Rattle.typed_tree.specs.declared.action.Member.{Member}
use Rattle.typed_tree.specs.declared.action.Member.TheVariants as member
use Rattle.mo_machine.specs.Values.{Value}
use Rattle.mo_machine.specs.Acts.{Store, Act}
use Rattle.mo_machine.specs.Acts as acts
use Rattle.mo_machine.specs.Frames.{Returning, Ready}
use Rattle.mo_machine.specs.Members.{call_member}
use Rattle.elaboration_steps.specs.Stacks.{IsGoal, row_of, alone}

abbrev action_or : Action → Option Action → Action
action_or d None = d
action_or d (Some a) = a

pub some_action : (a b : Action) → Some a ≡ Some b → a ≡ b
some_action a b e = ap (action_or a) e

pub alone_row : (m : Member) (a : Action) → alone m ≡ Some a → row_of m ≡ Some a
alone_row member.ArraySize a e = absurd (let z : None ≡ Some a = e in cc)
alone_row member.TextSize a e = absurd (let z : None ≡ Some a = e in cc)
alone_row _ a e = e

pub row_goal : (m : Member) (a : Action) → row_of m ≡ Some a → IsGoal false a
row_goal member.DebugPrint a e = subst (λ x. IsGoal false x) (some_action action.Print a e) tt
row_goal member.DebugTrap a e = subst (λ x. IsGoal false x) (some_action (action.Operate op.Trap) a e) tt
row_goal member.ErrorReject a e = subst (λ x. IsGoal false x) (some_action (action.Operate op.RejectError) a e) tt
row_goal member.ErrorMessage a e = subst (λ x. IsGoal false x) (some_action (action.Operate op.Message) a e) tt
row_goal member.ErrorCode a e = subst (λ x. IsGoal false x) (some_action (action.Operate op.Code) a e) tt
row_goal member.NatToText a e = subst (λ x. IsGoal false x) (some_action (action.Operate (op.ToText kind.Nat)) a e) tt
row_goal member.IntToText a e = subst (λ x. IsGoal false x) (some_action (action.Operate (op.ToText kind.Int)) a e) tt
row_goal member.PrincipalFromActor a e = subst (λ x. IsGoal false x) (some_action (action.Operate op.PrincipalOf) a e) tt
row_goal member.ArraySize a e = subst (λ x. IsGoal false x) (some_action (action.Operate op.ArraySize) a e) tt
row_goal member.TextSize a e = subst (λ x. IsGoal false x) (some_action (action.Operate op.TextSize) a e) tt
row_goal _ a e = absurd (let z : None ≡ Some a = e in cc)

-- what a built-in function does that is one operation or a print
pub member_acts : (store : Store) (T : Act → Type 0) (m : Member) (a : Action) (holds vs : List Value) → row_of m ≡ Some a → T acts.Stuck → T (acts.Goes (weighing 1) store (Ready a (holds ++ vs)) (Returning 0 ∷ [])) → T (call_member store m holds vs)
member_acts store T member.DebugPrint a [] vs e none good = subst (λ x. T (acts.Goes (weighing 1) store (Ready x vs) (Returning 0 ∷ []))) (sym (some_action action.Print a e)) good
member_acts store T member.DebugPrint a (h ∷ hs) vs e none good = none
member_acts store T member.DebugTrap a [] vs e none good = subst (λ x. T (acts.Goes (weighing 1) store (Ready x vs) (Returning 0 ∷ []))) (sym (some_action (action.Operate op.Trap) a e)) good
member_acts store T member.DebugTrap a (h ∷ hs) vs e none good = none
member_acts store T member.ErrorReject a [] vs e none good = subst (λ x. T (acts.Goes (weighing 1) store (Ready x vs) (Returning 0 ∷ []))) (sym (some_action (action.Operate op.RejectError) a e)) good
member_acts store T member.ErrorReject a (h ∷ hs) vs e none good = none
member_acts store T member.ErrorMessage a [] vs e none good = subst (λ x. T (acts.Goes (weighing 1) store (Ready x vs) (Returning 0 ∷ []))) (sym (some_action (action.Operate op.Message) a e)) good
member_acts store T member.ErrorMessage a (h ∷ hs) vs e none good = none
member_acts store T member.ErrorCode a [] vs e none good = subst (λ x. T (acts.Goes (weighing 1) store (Ready x vs) (Returning 0 ∷ []))) (sym (some_action (action.Operate op.Code) a e)) good
member_acts store T member.ErrorCode a (h ∷ hs) vs e none good = none
member_acts store T member.NatToText a [] vs e none good = subst (λ x. T (acts.Goes (weighing 1) store (Ready x vs) (Returning 0 ∷ []))) (sym (some_action (action.Operate (op.ToText kind.Nat)) a e)) good
member_acts store T member.NatToText a (h ∷ hs) vs e none good = none
member_acts store T member.IntToText a [] vs e none good = subst (λ x. T (acts.Goes (weighing 1) store (Ready x vs) (Returning 0 ∷ []))) (sym (some_action (action.Operate (op.ToText kind.Int)) a e)) good
member_acts store T member.IntToText a (h ∷ hs) vs e none good = none
member_acts store T member.PrincipalFromActor a [] vs e none good = subst (λ x. T (acts.Goes (weighing 1) store (Ready x vs) (Returning 0 ∷ []))) (sym (some_action (action.Operate op.PrincipalOf) a e)) good
member_acts store T member.PrincipalFromActor a (h ∷ hs) vs e none good = none
member_acts store T member.ArraySize a [] vs e none good = none
member_acts store T member.ArraySize a (h ∷ []) [] e none good = subst (λ x. T (acts.Goes (weighing 1) store (Ready x (h ∷ [])) (Returning 0 ∷ []))) (sym (some_action (action.Operate op.ArraySize) a e)) good
member_acts store T member.ArraySize a (h ∷ []) (v ∷ vs) e none good = none
member_acts store T member.ArraySize a (h ∷ i ∷ hs) vs e none good = none
member_acts store T member.TextSize a [] vs e none good = none
member_acts store T member.TextSize a (h ∷ []) [] e none good = subst (λ x. T (acts.Goes (weighing 1) store (Ready x (h ∷ [])) (Returning 0 ∷ []))) (sym (some_action (action.Operate op.TextSize) a e)) good
member_acts store T member.TextSize a (h ∷ []) (v ∷ vs) e none good = none
member_acts store T member.TextSize a (h ∷ i ∷ hs) vs e none good = none
member_acts store T _ a holds vs e none good = absurd (let z : None ≡ Some a = e in cc)
