-- Reductions of the start behind an upgrade keep what fits: of the declarations, of the hook, and of what the actor exports.
use Rattle.std.proofs.Common.{◌≡◌, inl, inr, List, [], ◌∷◌, Option, None, refl, sym, ap, subst}
use Rattle.mo_types.specs.declared.node.TypeId.{TypeId}
use Rattle.mo_types.specs.Graph.{Slot, head_at}
use Rattle.mo_values.specs.declared.operation.Operation.TheVariants as op
use Rattle.mo_values.specs.Operations.{operate}
use Rattle.typed_tree.specs.declared.action.Action.TheVariants as action
use Rattle.typed_tree.specs.declared.program.Program.{Program}
use Rattle.typed_tree.specs.Language.{Value, Exp, Val, Do, Switch, let_in, then}
use Rattle.typed_tree.specs.Opening.{shape_of, value_of}
use Rattle.typed_tree.specs.Patterns.{Bind}
use Rattle.typed_tree.specs.ProgramView.{program}
use Rattle.typed_tree.proofs.Opened.{value_shape}
use Rattle.mo_meaning.specs.Acts.{Store, Given, Act, Goes, Prints, Asks, Awaits, Leaves, Throws, Traps, Stuck}
use Rattle.mo_meaning.specs.Places.{inside, one}
use Rattle.mo_meaning.specs.Reduce.{reduce}
use Rattle.mo_soundness.specs.Keeps.{IsLonger, IsNoValue, KnowsMore, Suits}
use Rattle.mo_soundness.specs.Lawful.{IsLawful}
use Rattle.mo_soundness.specs.Running.{AnswerTypes, StoreTyped}
use Rattle.mo_soundness.proofs.More.{longer_self, knows_self}
use Rattle.mo_soundness.proofs.Steps.{either, suits_inside}
use Rattle.program_soundness.specs.Exports.{HookTyped, ExportsTyped}
use Rattle.program_soundness.specs.Results.{GivesResults}
use Rattle.program_soundness.specs.Roles.{AHook, IsFunctionAs}
use Rattle.program_soundness.specs.Runs.{Fitting, KeepsFit, Begins, IsKept}
use Rattle.program_soundness.specs.Starting.{IsExporting, IsFramed, AreExports, hook_cases, hook_switch, IsHooking, IsUpgrading, Begun, Looks, Found, Calls, Runs, Ends}
use Rattle.program_soundness.proofs.Entering.{hook_called_begins}
use Rattle.program_soundness.proofs.Exported.{exports_grow, hook_grow}
use Rattle.program_soundness.proofs.Roles.{function_grow}
use Rattle.program_soundness.proofs.Starts.{inside_fits, operation_reduces, exporting_kept, exports_kept_grow, framed_kept}
use Rattle.program_soundness.proofs.Typed.{results_kept}
use Rattle.program_soundness.specs.Worlds.{running}

begins_fit : (types : List Slot) (P : Fitting Exp) (answers : AnswerTypes) (kinds : List TypeId) (a : Act) → Begins (running types) P answers kinds a → KeepsFit (running types) P answers kinds a
begins_fit types P answers kinds (Goes cost store e) h = h
begins_fit types P answers kinds (Traps cost text) h = tt
begins_fit types P answers kinds (Prints cost text e) h = absurd h
begins_fit types P answers kinds (Asks r) h = absurd h
begins_fit types P answers kinds (Awaits n c) h = absurd h
begins_fit types P answers kinds (Leaves l v) h = absurd h
begins_fit types P answers kinds (Throws cost v) h = absurd h
begins_fit types P answers kinds Stuck h = absurd h

module _ (p : Program) (lawful : IsLawful (running p.types).head) where
  abbrev U : Fitting Exp
  U answers kinds e = IsHooking p.types p answers kinds e

  abbrev Xs : AnswerTypes → List TypeId → Value → Type 0
  Xs answers kinds v = ExportsTyped p.types answers kinds (program p) v

  module _ (answers : AnswerTypes) (kinds : List TypeId) (given : Option Given) (store : Store) (st : StoreTyped (running p.types) answers kinds store kinds) where
    abbrev asked : Exp → Act
    asked e = reduce (head_at p.types) None store e

    abbrev reduced : Exp → Act
    reduced e = reduce (head_at p.types) given store e

    abbrev S : Act → Type 0
    S a = Suits (running p.types) answers kinds given a

    abbrev K : Act → Type 0
    K a = KeepsFit (running p.types) U answers kinds a

    abbrev Reduces : Exp → Type 0
    Reduces e = S (asked e) → K (reduced e)

    longer_exports : (v : Value) (longer : List TypeId) → IsLonger kinds longer → Xs answers kinds v → Xs answers longer v
    longer_exports v longer l h = exports_grow p.types answers answers (knows_self answers) kinds longer l (program p) v h

    declared_first : (d : Exp) → IsExporting p.types p answers kinds d → Reduces (let_in Bind d hook_switch)
    declared_first d h =
        either (running p.types) lawful answers kinds (λ x y. S x → K y) d _ _ _ _
        (λ v q j. (kinds, longer_self kinds, st, Looks (value_of (shape_of v)) refl (subst (Xs answers kinds) (sym (value_shape v)) ((exporting_kept p lawful).value answers kinds v (subst (IsExporting p.types p answers kinds) q h)))))
        (λ active j. inside_fits p.types (IsExporting p.types p) U answers kinds (λ f. let_in Bind f hook_switch) (λ longer f l k. Begun f refl k) (reduced d)
        ((exporting_kept p lawful).keeps answers kinds given store d active st h (suits_inside (running p.types) lawful answers kinds given (λ f. let_in Bind f hook_switch) (asked d) j)))

    hook_looked_for : (v : Value) → Xs answers kinds v → Reduces (Switch (Do (action.Operate (op.Project 2)) (one (Val v))) (hook_cases (Val v) (Val v)))
    hook_looked_for v x j =
        let r = operation_reduces (head_at p.types) given store (op.Project 2) (v ∷ []) x.after (ap (λ v. operate (head_at p.types) (op.Project 2) (shape_of v ∷ [])) x.is) in
        subst (λ a. K (inside (λ f. Switch f (hook_cases (Val v) (Val v))) a)) (sym r.1) (kinds, longer_self kinds, st, Found v x.after refl x x.after_upgrade)

    hook_found : (v x : Value) → Xs answers kinds v → HookTyped p.types answers kinds x → Reduces (Switch (Val x) (hook_cases (Val v) (Val v)))
    hook_found v x h (inl q) = subst (λ x. Reduces (Switch (Val x) (hook_cases (Val v) (Val v)))) (sym q) (λ j. (kinds, longer_self kinds, st, Ends v refl h))
    hook_found v x h (inr k) =
        subst (λ x. Reduces (Switch (Val x) (hook_cases (Val v) (Val v)))) (sym k.1)
        (λ j. (kinds, longer_self kinds, st, Calls v (value_of (shape_of k.0)) refl h (subst (IsFunctionAs p.types answers kinds AHook) (sym (value_shape k.0)) k.2)))

    hook_called : (v f : Value) → Xs answers kinds v → IsFunctionAs p.types answers kinds AHook f → Reduces (then (Do action.Call (one (Val f))) (Val v))
    hook_called v f h i j =
        inside_fits p.types (GivesResults (running p.types) []) U answers kinds (λ e. then e (Val v)) (λ longer e l k. Runs v e refl (longer_exports v longer l h) k) (reduced (Do action.Call (one (Val f))))
        (begins_fit p.types (GivesResults (running p.types) []) answers kinds (reduced (Do action.Call (one (Val f)))) (hook_called_begins p.types lawful answers kinds given store f st i))

    hook_runs : (v : Value) (b : Exp) → Xs answers kinds v → GivesResults (running p.types) [] answers kinds b → Reduces (then b (Val v))
    hook_runs v b h i =
        either (running p.types) lawful answers kinds (λ x y. S x → K y) b _ _ _ _
        (λ u q j. (kinds, longer_self kinds, st, Ends v refl h))
        (λ active j. inside_fits p.types (GivesResults (running p.types) []) U answers kinds (λ e. then e (Val v)) (λ longer e l k. Runs v e refl (longer_exports v longer l h) k) (reduced b)
        ((results_kept (running p.types) [] lawful).keeps answers kinds given store b active st i (suits_inside (running p.types) lawful answers kinds given (λ e. then e (Val v)) (asked b) j)))

    hooking_reduces : (e : Exp) → IsNoValue e → U answers kinds e → Reduces e
    hooking_reduces e active (Begun d q h) = subst Reduces (sym q) (declared_first d h)
    hooking_reduces e active (Looks v q x) = subst Reduces (sym q) (hook_looked_for v x)
    hooking_reduces e active (Found v x q h i) = subst Reduces (sym q) (hook_found v x h i)
    hooking_reduces e active (Calls v f q h i) = subst Reduces (sym q) (hook_called v f h i)
    hooking_reduces e active (Runs v b q h i) = subst Reduces (sym q) (hook_runs v b h i)
    hooking_reduces e active (Ends v q h) = absurd (subst IsNoValue q active)

  hooking_value : (answers : AnswerTypes) (kinds : List TypeId) (v : Value) → U answers kinds (Val v) → Xs answers kinds v
  hooking_value answers kinds v (Begun d q h) = absurd (subst IsNoValue (sym q) tt)
  hooking_value answers kinds v (Looks u q h) = absurd (subst IsNoValue (sym q) tt)
  hooking_value answers kinds v (Found u x q h i) = absurd (subst IsNoValue (sym q) tt)
  hooking_value answers kinds v (Calls u f q h i) = absurd (subst IsNoValue (sym q) tt)
  hooking_value answers kinds v (Runs u b q h i) = absurd (subst IsNoValue (sym q) tt)
  hooking_value answers kinds v (Ends u q h) = let same : u ≡ v = cc in subst (Xs answers kinds) same h

  hooking_grows : (answers more : AnswerTypes) (kinds longer : List TypeId) (e : Exp) → KnowsMore answers more → IsLonger kinds longer → U answers kinds e → U more longer e
  hooking_grows answers more kinds longer e k l (Begun d q h) = Begun d q ((exporting_kept p lawful).grows answers more kinds longer d k l h)
  hooking_grows answers more kinds longer e k l (Looks v q x) = Looks v q (exports_grow p.types answers more k kinds longer l (program p) v x)
  hooking_grows answers more kinds longer e k l (Found v x q h i) = Found v x q (exports_grow p.types answers more k kinds longer l (program p) v h) (hook_grow p.types answers more k kinds longer l x i)
  hooking_grows answers more kinds longer e k l (Calls v f q h i) = Calls v f q (exports_grow p.types answers more k kinds longer l (program p) v h) (function_grow p.types answers more k kinds longer l AHook f i)
  hooking_grows answers more kinds longer e k l (Runs v b q h i) = Runs v b q (exports_grow p.types answers more k kinds longer l (program p) v h) ((results_kept (running p.types) [] lawful).grows answers more kinds longer b k l i)
  hooking_grows answers more kinds longer e k l (Ends v q h) = Ends v q (exports_grow p.types answers more k kinds longer l (program p) v h)

  pub hooking_kept : IsKept (running p.types) U (AreExports p.types p)
  hooking_kept = record {
    value = λ answers kinds v h. hooking_value answers kinds v h;
    grows = λ answers more kinds longer e k l h. hooking_grows answers more kinds longer e k l h;
    keeps = λ answers kinds given store e active st h i. hooking_reduces answers kinds given store st e active h i;
  }

  -- ---- the frame around it, or the trap where what was kept does not fit

  hook_framed : IsKept (running p.types) (IsFramed U (AreExports p.types p)) (AreExports p.types p)
  hook_framed = framed_kept p.types lawful U (AreExports p.types p) hooking_kept (exports_kept_grow p lawful)

  upgrading_value : (answers : AnswerTypes) (kinds : List TypeId) (v : Value) → IsUpgrading p.types p answers kinds (Val v) → Xs answers kinds v
  upgrading_value answers kinds v (inl q) = absurd (subst IsNoValue (sym q) tt)
  upgrading_value answers kinds v (inr h) = hook_framed.value answers kinds v h

  upgrading_grows : (answers more : AnswerTypes) (kinds longer : List TypeId) (e : Exp) → KnowsMore answers more → IsLonger kinds longer → IsUpgrading p.types p answers kinds e → IsUpgrading p.types p more longer e
  upgrading_grows answers more kinds longer e k l (inl q) = inl q
  upgrading_grows answers more kinds longer e k l (inr h) = inr (hook_framed.grows answers more kinds longer e k l h)

  upgrading_fits : (answers : AnswerTypes) (kinds : List TypeId) (a : Act) → KeepsFit (running p.types) (IsFramed U (AreExports p.types p)) answers kinds a → KeepsFit (running p.types) (IsUpgrading p.types p) answers kinds a
  upgrading_fits answers kinds (Goes cost store e) h = (h.0, h.1, h.2, inr h.3)
  upgrading_fits answers kinds (Prints cost text e) h = (h.0, inr h.1)
  upgrading_fits answers kinds (Asks r) h = h
  upgrading_fits answers kinds (Awaits n c) h = h
  upgrading_fits answers kinds (Leaves l v) h = h
  upgrading_fits answers kinds (Throws cost v) h = h
  upgrading_fits answers kinds (Traps cost text) h = h
  upgrading_fits answers kinds Stuck h = h

  upgrading_reduces : (answers : AnswerTypes) (kinds : List TypeId) (given : Option Given) (store : Store) (e : Exp) → IsNoValue e → StoreTyped (running p.types) answers kinds store kinds → IsUpgrading p.types p answers kinds e
      → Suits (running p.types) answers kinds given (reduce (head_at p.types) None store e) → KeepsFit (running p.types) (IsUpgrading p.types p) answers kinds (reduce (head_at p.types) given store e)
  upgrading_reduces answers kinds given store e active st (inl q) =
      subst (λ e. Suits (running p.types) answers kinds given (reduce (head_at p.types) None store e) → KeepsFit (running p.types) (IsUpgrading p.types p) answers kinds (reduce (head_at p.types) given store e)) (sym q) (λ i. tt)
  upgrading_reduces answers kinds given store e active st (inr h) = λ i. upgrading_fits answers kinds (reduce (head_at p.types) given store e) (hook_framed.keeps answers kinds given store e active st h i)

  pub upgrading_kept : IsKept (running p.types) (IsUpgrading p.types p) (AreExports p.types p)
  upgrading_kept = record {
    value = λ answers kinds v h. upgrading_value answers kinds v h;
    grows = λ answers more kinds longer e k l h. upgrading_grows answers more kinds longer e k l h;
    keeps = λ answers kinds given store e active st h i. upgrading_reduces answers kinds given store e active st h i;
  }
