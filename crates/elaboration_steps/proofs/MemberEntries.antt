-- The body of a built-in function is entered, whatever its value is for.
use Rattle.std.proofs.Common.{◌≡◌, ℕ, suc, ◌+◌, ◌*◌, ◌≤◌, false, List, [], ◌∷◌, ◌++◌, length, Option, Some, slice_get, refl, sym, ap, ◌∙◌, arith}
use Rattle.std.specs.Prelude.{cond, nat_eq}
use Rattle.std.proofs.lemmas.Bool.{eq-eqb}
use Rattle.mo_values.specs.Costs.{weighing}
use Rattle.mo_values.specs.Shapes as shape
use Rattle.core_ir.specs.Choices.{on_some}
use Rattle.core_ir.specs.Gatherings.{Gathering}
use Rattle.core_ir.specs.Values as core_value
use Rattle.core_ir.specs.Values.{Handle}
use Rattle.core_ir.specs.Worlds.{MadeGroup, World, Context}
use Rattle.core_ir.specs.Executions.{Go}
use Rattle.core_ir.specs.Expressions as core
use Rattle.core_ir.specs.Expressions.{NoExp, Core}
use Rattle.core_ir.specs.CoreMachine as core_machine
use Rattle.core_ir.specs.CoreMachine.{Frame, Arguments, Caller, Focus, Eval, Give, State, Did, focused, at, called, stuck}
use Rattle.typed_tree.specs.declared.action.Action.{Action}
use Rattle.typed_tree.specs.declared.action.Member.{Member}
use Rattle.mo_machine.specs.Values.{Value, Values}
use Rattle.mo_machine.specs.Acts.{Store, Act}
use Rattle.mo_machine.specs.Acts as acts
use Rattle.mo_machine.specs.Frames.{Returning, Stack, Ready}
use Rattle.mo_machine.specs.Jumps.{on_stack}
use Rattle.elaboration.specs.Scopes.{one}
use Rattle.elaboration.specs.Members.{form_of, parameters_of, own_body, own_group}
use Rattle.elaboration.specs.Meeting.{Comes, There}
use Rattle.elaboration.proofs.Coming.{step}
use Rattle.elaboration_values.specs.Belonging.{Known, EachBelongs}
use Rattle.elaboration_steps.specs.Stacks.{no_labels, IsGoal, alone, goal_at, MemberBelongs, WorldBelongs, AtAction, Around}
use Rattle.elaboration_steps.specs.Follows.{Start, owed, Acts}
use Rattle.elaboration_steps.proofs.Members.{own_there, alone_body, alone_parameters}
use Rattle.elaboration_steps.proofs.Paths.{nothing_more, does_then}
use Rattle.elaboration_steps.proofs.Rows.{alone_row, row_goal}

module _ (program : Core) (context : Context) (nodes : ℕ) (before : Start) (supply : ℕ) (known : List Known) (world : World) (store : Store) (k : Stack) (worlds : WorldBelongs program.groups known context.globals store world) (spent : ℕ) (cf : Focus) (ck : List Frame)
    (m : Member) (holds : Values) (h : Handle) (made : MadeGroup) (stands : slice_get world.groups h.group ≡ Some made) (first : h.member ≡ 0) (g : MemberBelongs program.groups known context.globals m holds made)
    (how : Did → Did) (extra : ℕ) (gathering : Option Gathering) (others : List Frame) (weighs : (s : State) → how (Go (weighing (1 + 0)) [] world s) ≡ Go (weighing (extra + (1 + 0))) [] world s) where
  abbrev T : Act → Type 0
  T a = Acts program context nodes before supply known world store k spent cf ck (on_stack store a k)

  abbrev inner : List core_value.Value
  inner = core_value.members h.group 0 1 ++ made.seen

  abbrev inside : List Frame
  inside = Caller 0 gathering ∷ others

  abbrev Called : List core_value.Value → Type 0
  Called ws = focused program context nodes world cf ck ≡ how (called program context nodes world (shape.Function h) ws gathering others)

  there : slice_get program.groups made.code ≡ Some (own_group (form_of m) (length made.seen) g.levels g.n)
  there = ap (λ n. slice_get program.groups n) g.code ∙ own_there program.groups (form_of m) (length made.seen) g.levels g.n g.there

  pub enters : (ws : List core_value.Value) (c : core.Exp) → Called ws → length ws ≡ parameters_of (form_of m) → own_body (form_of m) (length made.seen) g.levels g.n ≡ c
      → focused program context nodes world cf ck ≡ Go (weighing (extra + (1 + 0))) [] world (at program context nodes (Eval c (ws ++ inner)) inside)
  enters ws c eq many is =
      eq
      ∙ (ap how (ap (λ o. on_some (stuck program context nodes world) o (λ g. on_some (stuck program context nodes world) (slice_get program.groups g.code) (λ i. cond (nat_eq (length g.seen) i.sees) (core_machine.entered program context nodes world h.group ws g.seen gathering others i.bodies h.member) (stuck program context nodes world)))) stands
      ∙ (ap (λ o. on_some (stuck program context nodes world) o (λ i. cond (nat_eq (length made.seen) i.sees) (core_machine.entered program context nodes world h.group ws made.seen gathering others i.bodies h.member) (stuck program context nodes world))) there
      ∙ (ap (λ t. cond t (core_machine.entered program context nodes world h.group ws made.seen gathering others (own_group (form_of m) (length made.seen) g.levels g.n).bodies h.member) (stuck program context nodes world)) (eq-eqb (length made.seen) (length made.seen) refl)
      ∙ (ap (λ n. core_machine.entered program context nodes world h.group ws made.seen gathering others (own_group (form_of m) (length made.seen) g.levels g.n).bodies n) first
      ∙ (ap (λ t. cond t (Go (weighing (1 + 0)) [] world (at program context nodes (Eval (own_body (form_of m) (length made.seen) g.levels g.n) (ws ++ inner)) inside)) (stuck program context nodes world)) (eq-eqb (length ws) (parameters_of (form_of m)) many)
      ∙ ap (λ c. Go (weighing (1 + 0)) [] world (at program context nodes (Eval c (ws ++ inner)) inside)) is)))))
      ∙ weighs (at program context nodes (Eval c (ws ++ inner)) inside))

  module _ (less : ℕ) (around : Around program context nodes world known false no_labels less (Returning 0 ∷ k) inside) (small : extra ≤ 1) (paid : spent + less ≤ supply) where
    -- one operation or a print, with these values
    pub row_enters : (a : Action) (vs : List Value) (v : core_value.Value) (ws : List core_value.Value) (e : core.Exp) → Called ws → length ws ≡ parameters_of (form_of m) → own_body (form_of m) (length made.seen) g.levels g.n ≡ core.Do (goal_at no_labels a) (one e)
        → ((k : List Frame) → Comes program context nodes world 0 (Eval e (ws ++ inner)) k (Give v) k) → IsGoal false a → EachBelongs known vs (v ∷ []) → T (acts.Goes (weighing 1) store (Ready a vs) (Returning 0 ∷ []))
    row_enters a vs v ws e eq many is path may r =
        does_then program context nodes 0 before (spent + owed k) (2 * 1 + supply) 0 less (weighing (extra + (1 + 0))) [] known known world world cf ck (Eval (core.Do goal (one e)) (ws ++ inner)) inside (Give v) last store (Ready a vs) (Returning 0 ∷ k)
        (enters ws (core.Do goal (one e)) eq many is)
        (step program context nodes world 0 0 (Eval (core.Do goal (one e)) (ws ++ inner)) inside (Eval e (ws ++ inner)) last refl (Give v) last refl (path last))
        (omega (arith, paid, small)) (omega arith) ([], nothing_more known) refl worlds
        (AtAction a vs (Returning 0 ∷ k) (Give v) last (record {
          b = false;
          l = no_labels;
          values = v ∷ [];
          vals = ws ++ inner;
          weight = 0;
          less = less;
          f' = Give v;
          ck' = last;
          others = inside;
          arguments = r;
          may = may;
          path = There 0 (Give v) last;
          acts = refl;
          level = refl;
          paid = omega arith;
          around = around;
        }))
      where
        goal : core.Goal
        goal = goal_at no_labels a

        last : List Frame
        last = Arguments goal [] NoExp (ws ++ inner) ∷ inside

    pub alone_enters : (a : Action) (vs : List Value) (ws : List core_value.Value) → alone m ≡ Some a → g.levels ≡ [] → length vs ≡ 1 → EachBelongs known vs ws → Called ws → T (acts.Goes (weighing 1) store (Ready a vs) (Returning 0 ∷ []))
    alone_enters a [] ws is none many r eq = absurd (let z : 0 ≡ 1 = many in cc)
    alone_enters a (v ∷ u ∷ vs) ws is none many r eq = absurd (let z : suc (suc (length vs)) ≡ 1 = many in let y : ⊥ = omega (arith, z) in y)
    alone_enters a (v ∷ []) [] is none many r eq = absurd r
    alone_enters a (v ∷ []) (w ∷ x ∷ ws) is none many r eq = absurd (r.1)
    alone_enters a (v ∷ []) (w ∷ []) is none many r eq =
        row_enters a (v ∷ []) w (w ∷ []) (core.Name 0) eq (sym (alone_parameters m a is)) (ap (λ ls. own_body (form_of m) (length made.seen) ls g.n) none ∙ alone_body m a (length made.seen) g.n is)
        (λ k. step program context nodes world 0 0 (Eval (core.Name 0) (w ∷ inner)) k (Give w) k refl (Give w) k refl (There 0 (Give w) k)) (row_goal m a (alone_row m a is)) r
