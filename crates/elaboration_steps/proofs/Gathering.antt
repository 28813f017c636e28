-- A function makes the elements of an array: the way of the machine of typed programs to its first call, and from its value to the next one.
use Rattle.std.proofs.Common.{◌≡◌, ℕ, zero, suc, ◌≤◌, Bool, List, [], ◌∷◌, ◌++◌, None, refl, arith}
use Rattle.std.specs.Prelude.{pos}
use Rattle.mo_types.specs.declared.datum.Datum.TheVariants as part
use Rattle.core_ir.specs.Values as core_value
use Rattle.core_ir.specs.Worlds.{World, Context}
use Rattle.core_ir.specs.Executions.{heavier}
use Rattle.core_ir.specs.Expressions.{Core}
use Rattle.core_ir.specs.CoreMachine.{Frame, Caller, Focus, focused, gather}
use Rattle.typed_tree.specs.declared.action.Action.TheVariants as action
use Rattle.typed_tree.specs.Language as source
use Rattle.mo_meaning.specs.Members.{number}
use Rattle.mo_meaning.specs.Places.{one, two}
use Rattle.mo_machine.specs.Values.{Value, NoValue, AValue, leaf}
use Rattle.mo_machine.specs.Environments.{Environment}
use Rattle.mo_machine.specs.Frames as machine
use Rattle.mo_machine.specs.Frames.{Operands, Returning, Stack, Ready}
use Rattle.mo_machine.specs.Members.{calls_code}
use Rattle.elaboration_values.specs.Belonging.{Known, Belongs, EachBelongs}
use Rattle.elaboration_steps.specs.Stacks.{Labels, further, making_array, gathering_on, Around, GatheringBelongs, Coming, AtNext, AtAll}
use Rattle.elaboration_steps.proofs.Filling.{most}
use Rattle.elaboration_steps.proofs.Values.{each_append}

module _ (program : Core) (context : Context) (nodes : ℕ) (world : World) (known : List Known) (held : ℕ) (b : Bool) (l : Labels) (f : Value) (h : core_value.Value) (function : Belongs known f h) (k : Stack) (others : List Frame) (cf : Focus) (ck : List Frame)
    (around : Around program context nodes world known b l held k others) where
  abbrev env : Environment
  env = AValue f NoValue

  abbrev Gathers : (next left : ℕ) → List core_value.Value → Type 0
  Gathers next left before = focused program context nodes world cf ck ≡ heavier 1 (gather program context nodes world h next left before (Caller 0 None ∷ others))

  abbrev calls : ℕ → source.Exp
  calls next = source.Do action.Call (two (source.Name 0) (source.Val (number next)))

  abbrev G : machine.Focus → Stack → Type 0
  G g j = GatheringBelongs program context nodes world known held g j cf ck

  -- from before a call to where the function is called
  to_call : (done : List Value) (before : List core_value.Value) (next left : ℕ) → EachBelongs known done before → Gathers next (suc left) before → G (machine.Eval (calls next) env) (gathering_on f done (suc next) left k)
  to_call done before next left values eq =
      Coming (machine.Eval (calls next) env) stack (machine.Eval (source.Name 0) env) (Operands action.Call [] (one (source.Val (number next))) env ∷ stack) cf ck refl (λ store. refl) (omega arith) (omega arith)
      (Coming (machine.Eval (source.Name 0) env) (Operands action.Call [] (one (source.Val (number next))) env ∷ stack) (machine.Give f) (Operands action.Call [] (one (source.Val (number next))) env ∷ stack) cf ck refl (λ store. refl) (omega arith) (omega arith)
      (Coming (machine.Give f) (Operands action.Call [] (one (source.Val (number next))) env ∷ stack) (machine.Eval (source.Val (number next)) env) (Operands action.Call (f ∷ []) source.NoExp env ∷ stack) cf ck refl (λ store. refl) (omega arith) (omega arith)
      (Coming (machine.Eval (source.Val (number next)) env) (Operands action.Call (f ∷ []) source.NoExp env ∷ stack) (machine.Give place) (Operands action.Call (f ∷ []) source.NoExp env ∷ stack) cf ck refl (λ store. refl) (omega arith) (omega arith)
      (Coming (machine.Give place) (Operands action.Call (f ∷ []) source.NoExp env ∷ stack) (Ready action.Call (f ∷ place ∷ [])) stack cf ck refl (λ store. refl) (let z : further (Ready action.Call (f ∷ place ∷ [])) ≤ 3 = most action.Call (f ∷ place ∷ []) in omega (arith, z)) (omega arith)
      (AtNext b l f h done before next left k others cf ck function values eq around)))))
    where
      stack : Stack
      stack = gathering_on f done (suc next) left k

      place : Value
      place = leaf (part.Number (pos next))

  pub gathers_behind : (done : List Value) (before : List core_value.Value) (v : Value) (w : core_value.Value) (next left : ℕ) → EachBelongs known done before → Belongs known v w → Gathers next left (before ++ w ∷ []) → G (machine.Give v) (gathering_on f done next left k)
  gathers_behind done before v w next zero values value eq =
      Coming (machine.Give v) (gathering_on f done next zero k) (Ready making_array (done ++ v ∷ [])) (Returning 0 ∷ k) cf ck refl (λ store. refl) (omega arith) (omega arith)
      (AtAll b l h (done ++ v ∷ []) (before ++ w ∷ []) next k others cf ck (each_append known done before v w values value) eq around)
  gathers_behind done before v w next (suc left) values value eq =
      Coming (machine.Give v) (gathering_on f done next (suc left) k) (machine.Eval (calls next) env) (gathering_on f (done ++ v ∷ []) (suc next) left k) cf ck refl (λ store. refl) (omega arith) (omega arith)
      (to_call (done ++ v ∷ []) (before ++ w ∷ []) next left (each_append known done before v w values value) eq)

  pub gathers_first : (count : ℕ) → Gathers 0 count [] → G (machine.Eval (source.Do making_array (calls_code 0 count)) env) (Returning 0 ∷ k)
  gathers_first zero eq =
      Coming (machine.Eval (source.Do making_array source.NoExp) env) (Returning 0 ∷ k) (Ready making_array []) (Returning 0 ∷ k) cf ck refl (λ store. refl) (omega arith) (omega arith) (AtAll b l h [] [] 0 k others cf ck tt eq around)
  gathers_first (suc left) eq =
      Coming (machine.Eval (source.Do making_array (calls_code 0 (suc left))) env) (Returning 0 ∷ k) (machine.Eval (calls 0) env) (gathering_on f [] 1 left k) cf ck refl (λ store. refl) (omega arith) (omega arith)
      (to_call [] [] 0 left tt eq)
