-- What elaboration makes is code of the expression.
use Rattle.std.proofs.Common.{◌≡◌, inl, ℕ, suc, ◌+◌, Bool, false, List, [], ◌∷◌, ◌++◌, length, refl, subst, arith}
use Rattle.core_ir.specs.Programs.{Group}
use Rattle.core_ir.specs.Expressions.{Body}
use Rattle.typed_tree.specs.declared.action.Action.TheVariants as action
use Rattle.typed_tree.specs.Language as source
use Rattle.typed_tree.specs.Language.{Exp, Exps, Cases, Functions, Val, Switch, While, Repeat, For, Update, NoCase, ACase, NoFunction, AFunction}
use Rattle.typed_tree.specs.Substitution.{count}
use Rattle.elaboration.specs.Scopes.{Scope, beside, inside, labelled, under, in_body}
use Rattle.elaboration.specs.Checks.{Named, check, behind}
use Rattle.elaboration.specs.Members.{Elaborated, form_of, function_of, levels_from, called}
use Rattle.elaboration.specs.Elaboration.{ManyElaborated, BodiesElaborated, elaborate, elaborate_operands, elaborate_names, elaborate_cases, elaborate_functions, loop_scope, number_of_parameters, on_nearest, on_parameters, count_of}
use Rattle.elaboration_forms.specs.Elaborates.{HasGroups, Elaborates, ElaboratesAll, ElaboratesNames, ElaboratesCases, ElaboratesFunctions, Stands, StandAll, StandNames, StandCases, StandFunctions}

module _ (table : List (Group Body)) where
  abbrev H : ℕ → List (Group Body) → Type 0
  H = HasGroups table

  -- those of two parts
  apart : (gs hs : List (Group Body)) (n : ℕ) → H n (gs ++ hs) → H n gs × H (n + length gs) hs
  apart [] hs n h = (tt, let z : n ≡ n + 0 = omega arith in subst (λ n. H n hs) z h)
  apart (g ∷ gs) hs n h =
      let r : H (suc n) gs × H (suc n + length gs) hs = apart gs hs (suc n) (h.1) in
      let z : suc n + length gs ≡ n + suc (length gs) = omega arith in
      ((h.0, r.0), subst (λ n. H n hs) z (r.1))

  mutual
    pub elaborates : (b : Bool) (s : Scope) (n : ℕ) (e : Exp) → Stands b s e → H n (elaborate s n e).groups → Elaborates table b s e (elaborate s n e).exp
    elaborates b s n (Val v) t h = (t, refl)
    elaborates b s n (source.Name x) t h = (t, refl)
    elaborates b s n (source.Do action.Call (source.AnExp (source.Do (action.BuiltIn m) es) args)) t h =
        let d : ManyElaborated = elaborate_operands s n es in
        let e : ManyElaborated = elaborate_operands s (n + length d.groups) args in
        let k : ℕ = n + length d.groups + length e.groups in
        let i = apart d.groups (e.groups ++ (called (form_of m) d.exps e.exps s.names k).groups) n h in
        let j = apart e.groups (called (form_of m) d.exps e.exps s.names k).groups (n + length d.groups) (i.1) in
        (d.exps, e.exps, k, elaborates_all b s n es (t.0) (i.0), elaborates_all b s (n + length d.groups) args (t.1) (j.0), j.1, refl, t.2)
    elaborates b s n (source.Do (action.BuiltIn m) es) t h =
        let d : ManyElaborated = elaborate_names s n es in
        let i = apart d.groups (function_of (form_of m) (count_of es + s.names) (levels_from s.names (count_of es)) (n + length d.groups)).groups n h in
        (d.exps, n + length d.groups, elaborates_names b s n es (t.0) (i.0), i.1, refl, t.1)
    elaborates b s n (source.Do a es) t h = ((elaborate_operands s n es).exps, t.0, elaborates_all b s n es (t.1) h, refl)
    elaborates b s n (source.If x a e) t h =
        let p : Elaborated = elaborate s n x in
        let q : Elaborated = elaborate s (n + length p.groups) a in
        let r : Elaborated = elaborate s (n + length p.groups + length q.groups) e in
        let i = apart p.groups (q.groups ++ r.groups) n h in
        let j = apart q.groups r.groups (n + length p.groups) (i.1) in
        (p.exp, q.exp, r.exp, elaborates b s n x (t.0) (i.0), elaborates b s (n + length p.groups) a (t.1) (j.0), elaborates b s (n + length p.groups + length q.groups) e (t.2) (j.1), refl)
    elaborates b s n (Switch e (ACase p d NoCase)) t h =
        let x : Elaborated = elaborate s n e in
        let y : Elaborated = elaborate (behind (on_nearest p s) s) (n + length x.groups) d in
        let i = apart x.groups y.groups n h in
        (x.exp, y.exp, elaborates b s n e (t.0) (i.0), elaborates b (behind (on_nearest p s) s) (n + length x.groups) d (t.1) (i.1), refl)
    elaborates b s n (Switch e cases) t h =
        let x : Elaborated = elaborate s n e in
        let y : Elaborated = elaborate_cases s.names (inside (beside 1 s)) (n + length x.groups) cases in
        let i = apart x.groups y.groups n h in
        (x.exp, y.exp, elaborates b s n e (t.0) (i.0), elaborates_cases b s.names (inside (beside 1 s)) (n + length x.groups) cases (t.1) (i.1), refl)
    elaborates b s n (source.Group fns d) t h =
        let f : BodiesElaborated = elaborate_functions (under (count fns) s) n fns in
        let x : Elaborated = elaborate (under (count fns) s) (suc (n + length f.groups)) d in
        let i = apart f.groups (record { sees = s.names; bodies = f.bodies } ∷ x.groups) n h in
        inl (n + length f.groups, f.bodies, x.exp, i.1.0, elaborates_functions (under (count fns) s) n fns (t.0) (i.0), elaborates b (under (count fns) s) (suc (n + length f.groups)) d (t.1) (i.1.1), refl)
    elaborates b s n (source.Frame nodes e) t h = absurd t
    elaborates b s n (source.Label e) t h = ((elaborate (labelled s) n e).exp, elaborates b (labelled s) n e t h, refl)
    elaborates b s n (While c d) t h =
        let x : Elaborated = elaborate (inside s) n c in
        let y : Elaborated = elaborate (beside 1 (loop_scope c s)) (n + length x.groups) d in
        let i = apart x.groups y.groups n h in
        (x.exp, y.exp, elaborates b (inside s) n c (t.0) (i.0), elaborates b (beside 1 (loop_scope c s)) (n + length x.groups) d (t.1) (i.1), refl)
    elaborates b s n (Repeat d c) t h =
        let x : Elaborated = elaborate (inside s) n d in
        let y : Elaborated = elaborate (beside 1 (inside s)) (n + length x.groups) c in
        let i = apart x.groups y.groups n h in
        (x.exp, y.exp, elaborates b (inside s) n d (t.0) (i.0), elaborates b (beside 1 (inside s)) (n + length x.groups) c (t.1) (i.1), refl)
    elaborates b s n (For p e d) t h =
        let x : Elaborated = elaborate s n e in
        let y : Elaborated = elaborate (inside (behind (on_nearest p (beside 1 s)) s)) (n + length x.groups) d in
        let i = apart x.groups y.groups n h in
        (x.exp, y.exp, elaborates b s n e (t.0) (i.0), elaborates b (inside (behind (on_nearest p (beside 1 s)) s)) (n + length x.groups) d (t.1) (i.1), refl)
    elaborates b s n (source.Try e p d) t h =
        let x : Elaborated = elaborate s n e in
        let y : Elaborated = elaborate (behind (on_nearest p s) s) (n + length x.groups) d in
        let i = apart x.groups y.groups n h in
        (x.exp, y.exp, t.0, elaborates b s n e (t.1) (i.0), elaborates b (behind (on_nearest p s) s) (n + length x.groups) d (t.2) (i.1), refl)
    elaborates b s n (Update o e f) t h =
        let x : Elaborated = elaborate s n e in
        let y : Elaborated = elaborate (beside 1 s) (n + length x.groups) f in
        let i = apart x.groups y.groups n h in
        (x.exp, y.exp, elaborates b s n e (t.0) (i.0), elaborates b (beside 1 s) (n + length x.groups) f (t.1) (i.1), refl)

    elaborates_all : (b : Bool) (s : Scope) (n : ℕ) (es : Exps) → StandAll b s es → H n (elaborate_operands s n es).groups → ElaboratesAll table b s es (elaborate_operands s n es).exps
    elaborates_all b s n source.NoExp t h = refl
    elaborates_all b s n (source.AnExp e es) t h =
        let d : Elaborated = elaborate s n e in
        let r : ManyElaborated = elaborate_operands s (n + length d.groups) es in
        let i = apart d.groups r.groups n h in
        (d.exp, r.exps, elaborates b s n e (t.0) (i.0), elaborates_all b s (n + length d.groups) es (t.1) (i.1), refl)

    elaborates_names : (b : Bool) (s : Scope) (n : ℕ) (es : Exps) → StandNames b s es → H n (elaborate_names s n es).groups → ElaboratesNames table b s es (elaborate_names s n es).exps
    elaborates_names b s n source.NoExp t h = refl
    elaborates_names b s n (source.AnExp e es) t h =
        let d : Elaborated = elaborate s n e in
        let r : ManyElaborated = elaborate_names (beside 1 s) (n + length d.groups) es in
        let i = apart d.groups r.groups n h in
        (d.exp, r.exps, elaborates b s n e (t.0) (i.0), elaborates_names b (beside 1 s) (n + length d.groups) es (t.1) (i.1), refl)

    elaborates_cases : (b : Bool) (level : ℕ) (s : Scope) (n : ℕ) (cases : Cases) → StandCases b level s cases → H n (elaborate_cases level s n cases).groups → ElaboratesCases table b level s cases (elaborate_cases level s n cases).exp
    elaborates_cases b level s n NoCase t h = refl
    elaborates_cases b level s n (ACase p e cases) t h =
        let x : Elaborated = elaborate (behind (check p (Named level) s.names) s) n e in
        let y : Elaborated = elaborate_cases level (beside 1 s) (n + length x.groups) cases in
        let i = apart x.groups y.groups n h in
        (x.exp, y.exp, elaborates b (behind (check p (Named level) s.names) s) n e (t.0) (i.0), elaborates_cases b level (beside 1 s) (n + length x.groups) cases (t.1) (i.1), refl)

    pub elaborates_functions : (s : Scope) (n : ℕ) (fns : Functions) → StandFunctions s fns → H n (elaborate_functions s n fns).groups → ElaboratesFunctions table s fns (elaborate_functions s n fns).bodies
    elaborates_functions s n NoFunction t h = refl
    elaborates_functions s n (AFunction how nodes ps body fns) t h =
        let x : Elaborated = elaborate (behind (on_parameters ps s) (in_body (number_of_parameters ps) s)) n body in
        let r : BodiesElaborated = elaborate_functions s (n + length x.groups) fns in
        let i = apart x.groups r.groups n h in
        (x.exp, r.bodies, elaborates false (behind (on_parameters ps s) (in_body (number_of_parameters ps) s)) n body (t.0) (i.0), elaborates_functions s (n + length x.groups) fns (t.1) (i.1), refl)
