-- What elaboration makes names groups that were made before.
use Rattle.std.proofs.Common.{◌≡◌, ℕ, Bool, true, false, zero, suc, ◌+◌, ◌-◌, ◌<◌, List, [], ◌∷◌, ◌++◌, length, Option, Some, None, slice_get, refl, sym, ap, subst, arith, cond}
use Rattle.std.specs.Prelude.{take, replicate}
use Rattle.mo_values.specs.Shapes.{Leaf}
use Rattle.mo_types.specs.declared.node.Sort.TheVariants as sort
use Rattle.core_ir.specs.Programs.{Group}
use Rattle.core_ir.specs.Expressions as core
use Rattle.core_ir.specs.Expressions.{NoExp, AnExp, Body}
use Rattle.core_laws.specs.Makes.{MakesGoal, MakesBodies, MakesGroups, MakesEarlier}
use Rattle.core_ir.specs.declared.primitive.Primitive.TheVariants as primitive
use Rattle.typed_tree.specs.declared.action.Action.{Action}
use Rattle.typed_tree.specs.declared.action.Member.{Member}
use Rattle.typed_tree.specs.declared.action.Member.TheVariants as member
use Rattle.typed_tree.specs.declared.action.Action.TheVariants as action
use Rattle.typed_tree.specs.Language as source
use Rattle.typed_tree.specs.Language.{Exp, Exps, Cases, Functions, Val, Switch, While, Repeat, For, Update, NoCase, ACase, NoFunction, AFunction}
use Rattle.typed_tree.specs.Substitution.{count}
use Rattle.typed_tree.specs.Programs.{Program}
use Rattle.elaboration.specs.Scopes.{Place, Local, Own, Nowhere, Scope, one, two, nothing, name, append, at_place, place_or_nowhere, leave, beside, inside, labelled, under, in_body}
use Rattle.elaboration.specs.Checks.{Checked, Named, check, around_all, behind, fails}
use Rattle.elaboration.specs.Members.{Elaborated, Over, Elements, Places, Characters, Form, Does, Calls, Iterates, Steps, form_of, levels_from, names_of, first, second, element, place, next_by, next, function_of, amount, called, bind_all, nearest, let_in, does}
use Rattle.elaboration.specs.Elaboration.{ManyElaborated, BodiesElaborated, elaborate, elaborate_operands, elaborate_names, elaborate_cases, elaborate_functions, number_of_parameters, on_nearest, on_parameters, count_of, goal_of, constant_of, if_true, break_with, element_of, is_true, loop_scope, loop_of, tested_loop}
use Rattle.elaboration.specs.Programs.{Hook, SaveElaborated, elaborate_actor, ending, save_of, start_end, hook_of, firsts, held_in, cells_of, outside, numbered, start_scope, elaborated}
use Rattle.elaboration_order.proofs.Making.{Below, AllBelow, more, more_all, more_bodies, groups_and, around_below, check_below, all_below}

-- an expression, behind n groups, with those that it makes
pub record Good (n : ℕ) (d : Elaborated) : Type 0 where
  pub exp : Below (n + length d.groups) d.exp
  pub groups : MakesGroups n d.groups

pub record GoodAll (n : ℕ) (d : ManyElaborated) : Type 0 where
  pub exps : AllBelow (n + length d.groups) d.exps
  pub groups : MakesGroups n d.groups

pub record GoodBodies (n : ℕ) (d : BodiesElaborated) : Type 0 where
  pub bodies : MakesBodies (n + length d.groups) d.bodies
  pub groups : MakesGroups n d.groups

assoc : {A : Type 0} (xs ys zs : List A) → (xs ++ ys) ++ zs ≡ xs ++ (ys ++ zs)
assoc [] ys zs = refl
assoc (x ∷ xs) ys zs = ap (λ r. x ∷ r) (assoc xs ys zs)

length_and : (gs hs : List (Group Body)) → length (gs ++ hs) ≡ length gs + length hs
length_and [] hs = let z : length hs ≡ 0 + length hs = omega arith in z
length_and (g ∷ gs) hs = let z : length (gs ++ hs) ≡ length gs + length hs = length_and gs hs in omega (arith, z)

-- below the groups of the first part, and below all
first_below : (gs hs : List (Group Body)) (n : ℕ) (e : core.Exp) → Below (n + length gs) e → Below (n + length (gs ++ hs)) e
first_below gs hs n e h = let z : length (gs ++ hs) ≡ length gs + length hs = length_and gs hs in more (n + length gs) (n + length (gs ++ hs)) (omega (arith, z)) e h

second_below : (gs hs : List (Group Body)) (n : ℕ) (e : core.Exp) → Below (n + length gs + length hs) e → Below (n + length (gs ++ hs)) e
second_below gs hs n e h = let z : length (gs ++ hs) ≡ length gs + length hs = length_and gs hs in more (n + length gs + length hs) (n + length (gs ++ hs)) (omega (arith, z)) e h

first_all : (gs hs : List (Group Body)) (n : ℕ) (es : core.Exps) → AllBelow (n + length gs) es → AllBelow (n + length (gs ++ hs)) es
first_all gs hs n es h = let z : length (gs ++ hs) ≡ length gs + length hs = length_and gs hs in more_all (n + length gs) (n + length (gs ++ hs)) (omega (arith, z)) es h

second_all : (gs hs : List (Group Body)) (n : ℕ) (es : core.Exps) → AllBelow (n + length gs + length hs) es → AllBelow (n + length (gs ++ hs)) es
second_all gs hs n es h = let z : length (gs ++ hs) ≡ length gs + length hs = length_and gs hs in more_all (n + length gs + length hs) (n + length (gs ++ hs)) (omega (arith, z)) es h

-- two parts
-- a loop, with an end or without one
loop_below : (m : ℕ) (e : Bool) (y z : core.Exp) → Below m y → Below m z → Below m (cond e (core.Loop (let_in nothing z)) (tested_loop y z))
loop_below m true y z a b = (b, (tt, tt))
loop_below m false y z a b = (b, (((tt, (tt, (tt, tt))), (a, tt)), tt))

two_good : (f : core.Exp → core.Exp → core.Exp) (n : ℕ) (d e : Elaborated) → Good n d → Good (n + length d.groups) e → ((m : ℕ) → Below m d.exp → Below m e.exp → Below m (f d.exp e.exp))
    → Good n (record { exp = f d.exp e.exp; groups = d.groups ++ e.groups })
two_good f n d e a b h =
    record {
      exp = h (n + length (d.groups ++ e.groups)) (first_below d.groups e.groups n d.exp a.exp) (second_below d.groups e.groups n e.exp b.exp);
      groups = groups_and d.groups e.groups n a.groups b.groups;
    }

goal_makes : (m : ℕ) (s : Scope) (a : Action) → MakesGoal (λ k. k < m) (goal_of s a)
goal_makes m s (action.Operate o) = tt
goal_makes m s (action.BuiltIn b) = tt
goal_makes m s action.New = tt
goal_makes m s action.Read = tt
goal_makes m s action.Write = tt
goal_makes m s action.WriteElement = tt
goal_makes m s action.Print = tt
goal_makes m s action.Throw = tt
goal_makes m s action.Call = tt
goal_makes m s (action.Send ps rs) = tt
goal_makes m s action.Await = tt
goal_makes m s (action.Break l) = leaves (slice_get s.exits l)
  where
    leaves : (o : Option ℕ) → MakesGoal (λ k. k < m) (leave s.labels o)
    leaves None = tt
    leaves (Some x) = tt
goal_makes m s (action.Unwrap l) = (tt, (leaves (slice_get s.exits l), (tt, tt)))
  where
    leaves : (o : Option ℕ) → MakesGoal (λ k. k < m) (leave s.labels o)
    leaves None = tt
    leaves (Some x) = tt

place_makes : (m names : ℕ) (p : Place) → Below m (at_place names p)
place_makes m names (Local l) = tt
place_makes m names (Own i) = tt
place_makes m names Nowhere = tt

constant_makes : (m : ℕ) (v : source.Value) → Below m (constant_of v)
constant_makes m (source.Made (Leaf p) source.NoValue) = tt
constant_makes m _ = tt

-- ---- built-in functions

append_below : (m : ℕ) (es fs : core.Exps) → AllBelow m es → AllBelow m fs → AllBelow m (append es fs)
append_below m NoExp fs a b = b
append_below m (AnExp e es) fs a b = (a.0, append_below m es fs (a.1) b)

bind_below : (m : ℕ) (es : core.Exps) (e : core.Exp) → AllBelow m es → Below m e → Below m (bind_all es e)
bind_below m NoExp e a b = b
bind_below m (AnExp x es) e a b = (bind_below m es e (a.1) b, (a.0, tt))

names_below : (m names : ℕ) (levels : List ℕ) → AllBelow m (names_of names levels)
names_below m names [] = tt
names_below m names (level ∷ levels) = (tt, names_below m names levels)

nearest_below : (m i n : ℕ) → AllBelow m (nearest i n)
nearest_below m i zero = tt
nearest_below m i (suc n) = (tt, nearest_below m (suc i) n)

-- its goal makes no groups
abbrev FormMakes : Form → Type 0
FormMakes (Does goal holds parameters) = (m : ℕ) → MakesGoal (λ k. k < m) goal
FormMakes (Calls goal parameters) = (m : ℕ) → MakesGoal (λ k. k < m) goal
FormMakes (Iterates next) = Unit {0}
FormMakes (Steps next) = Unit {0}

form_makes : (m : Member) → FormMakes (form_of m)
form_makes member.DebugPrint = λ m. tt
form_makes member.DebugTrap = λ m. tt
form_makes member.ErrorReject = λ m. tt
form_makes member.ErrorMessage = λ m. tt
form_makes member.ErrorCode = λ m. tt
form_makes member.NatToText = λ m. tt
form_makes member.IntToText = λ m. tt
form_makes member.ArrayTabulate = λ m. tt
form_makes member.ArrayInit = λ m. tt
form_makes member.ArrayFreeze = λ m. tt
form_makes member.ArrayThaw = λ m. tt
form_makes member.PrincipalFromActor = λ m. tt
form_makes member.ArraySize = λ m. tt
form_makes member.ArrayVals = tt
form_makes member.ArrayKeys = tt
form_makes member.TextSize = λ m. tt
form_makes member.TextChars = tt
form_makes member.NextVal = tt
form_makes member.NextKey = tt
form_makes member.NextChar = tt

element_below : (m : ℕ) (mutable : Bool) (names array i : ℕ) → Below m (element mutable (name names array) (name names i))
element_below m true names array i = (tt, ((tt, (tt, (tt, tt))), tt))
element_below m false names array i = (tt, (tt, (tt, tt)))

next_by_below : (m : ℕ) (at : core.Exp → core.Exp → core.Exp) (names array cell : ℕ) → Below m (at (name (suc (suc names)) array) (name (suc (suc names)) names)) → Below m (next_by at names array cell)
next_by_below m at names array cell h = (((((tt, (h, tt)), ((tt, (tt, ((tt, (tt, (tt, tt))), tt))), tt)), tt), ((tt, (tt, ((tt, (tt, tt)), tt))), tt)), ((tt, (tt, tt)), tt))

next_below : (m : ℕ) (over : Over) (names level cell : ℕ) → Below m (next over names level cell)
next_below m Elements names level cell =
    ((next_by_below m (element true) names level cell (element_below m true (suc (suc names)) level names), next_by_below m (element false) names level cell (element_below m false (suc (suc names)) level names)), (tt, tt))
next_below m Places names level cell = next_by_below m place names level cell tt
next_below m Characters names level cell = (tt, (tt, (tt, tt)))

function_good : (f : Form) → FormMakes f → (names : ℕ) (levels : List ℕ) (n : ℕ) → Good n (function_of f names levels n)
function_good (Does goal holds parameters) h names levels n =
    record { exp = (omega arith, tt); groups = (((h n, append_below n (names_of (parameters + suc names) levels) (nearest 0 parameters) (names_below n (parameters + suc names) levels) (nearest_below n 0 parameters)), tt), tt) }
function_good (Calls goal parameters) h names levels n = record { exp = (omega arith, tt); groups = (((h n, nearest_below n 0 parameters), tt), tt) }
function_good (Iterates over) h names levels n =
    record { exp = (omega arith, tt); groups = ((next_below n over (suc (suc (suc names))) (first levels) (suc names), tt), (((tt, (((omega arith, tt), ((tt, (tt, tt)), tt)), tt)), tt), tt)) }
function_good (Steps over) h names levels n = record { exp = (omega arith, tt); groups = ((next_below n over (suc names) (first levels) (second levels), tt), tt) }

called_good : (f : Form) → FormMakes f → (es args : core.Exps) (names n : ℕ) → AllBelow n es → AllBelow n args → Good n (called f es args names n)
called_good (Does goal holds parameters) h es args names n a b =
    record { exp = (h (n + 0), append_below (n + 0) es args (more_all n (n + 0) (omega arith) es a) (more_all n (n + 0) (omega arith) args b)); groups = tt }
called_good (Calls goal parameters) h es args names n a b =
    let f : Good n (function_of (Calls goal parameters) (amount es + names) (levels_from names (amount es)) n) = function_good (Calls goal parameters) h (amount es + names) (levels_from names (amount es)) n in
    record { exp = (tt, (bind_below (n + 1) es (core.Functions n (core.Name 0)) (more_all n (n + 1) (omega arith) es a) f.exp, more_all n (n + 1) (omega arith) args b)); groups = f.groups }
called_good (Iterates over) h es args names n a b =
    let f : Good n (function_of (Iterates over) (amount es + names) (levels_from names (amount es)) n) = function_good (Iterates over) h (amount es + names) (levels_from names (amount es)) n in
    record { exp = (tt, (bind_below (n + 2) es (core.Functions (suc n) (core.Name 0)) (more_all n (n + 2) (omega arith) es a) f.exp, more_all n (n + 2) (omega arith) args b)); groups = f.groups }
called_good (Steps over) h es args names n a b =
    let f : Good n (function_of (Steps over) (amount es + names) (levels_from names (amount es)) n) = function_good (Steps over) h (amount es + names) (levels_from names (amount es)) n in
    record { exp = (tt, (bind_below (n + 1) es (core.Functions n (core.Name 0)) (more_all n (n + 1) (omega arith) es a) f.exp, more_all n (n + 1) (omega arith) args b)); groups = f.groups }

mutual
  good : (s : Scope) (n : ℕ) (e : Exp) → Good n (elaborate s n e)
  good s n (Val v) = record { exp = constant_makes (n + 0) v; groups = tt }
  good s n (source.Name x) = record { exp = place_makes (n + 0) s.names (place_or_nowhere (slice_get s.places x)); groups = tt }
  good s n (source.Do action.Call (source.AnExp (source.Do (action.BuiltIn m) es) args)) =
      let d : ManyElaborated = elaborate_operands s n es in
      let e : ManyElaborated = elaborate_operands s (n + length d.groups) args in
      let k : ℕ = n + length d.groups + length e.groups in
      let f : Elaborated = called (form_of m) d.exps e.exps s.names k in
      let a : GoodAll n d = good_all s n es in
      let b : GoodAll (n + length d.groups) e = good_all s (n + length d.groups) args in
      let c : Good k f = called_good (form_of m) (form_makes m) d.exps e.exps s.names k (more_all (n + length d.groups) k (omega arith) d.exps a.exps) b.exps in
      record {
        exp = second_below d.groups (e.groups ++ f.groups) n f.exp (second_below e.groups f.groups (n + length d.groups) f.exp c.exp);
        groups = groups_and d.groups (e.groups ++ f.groups) n a.groups (groups_and e.groups f.groups (n + length d.groups) b.groups c.groups);
      }
  good s n (source.Do (action.BuiltIn m) es) =
      let d : ManyElaborated = elaborate_names s n es in
      let f : Elaborated = function_of (form_of m) (count_of es + s.names) (levels_from s.names (count_of es)) (n + length d.groups) in
      let a : GoodAll n d = good_names s n es in
      let c : Good (n + length d.groups) f = function_good (form_of m) (form_makes m) (count_of es + s.names) (levels_from s.names (count_of es)) (n + length d.groups) in
      record { exp = bind_below (n + length (d.groups ++ f.groups)) d.exps f.exp (first_all d.groups f.groups n d.exps a.exps) (second_below d.groups f.groups n f.exp c.exp); groups = groups_and d.groups f.groups n a.groups c.groups }
  good s n (source.Do a es) =
      let h : GoodAll n (elaborate_operands s n es) = good_all s n es in
      record { exp = (goal_makes (n + length (elaborate_operands s n es).groups) s a, h.exps); groups = h.groups }
  good s n (source.If x a e) =
      let p : Elaborated = elaborate s n x in
      let q : Elaborated = elaborate s (n + length p.groups) a in
      let r : Elaborated = elaborate s (n + length p.groups + length q.groups) e in
      let f : Good n p = good s n x in
      let g : Good (n + length p.groups) q = good s (n + length p.groups) a in
      let h : Good (n + length p.groups + length q.groups) r = good s (n + length p.groups + length q.groups) e in
      record {
        exp = (
          (
            second_below p.groups (q.groups ++ r.groups) n q.exp (first_below q.groups r.groups (n + length p.groups) q.exp g.exp),
            second_below p.groups (q.groups ++ r.groups) n r.exp (second_below q.groups r.groups (n + length p.groups) r.exp h.exp),
          ),
          (first_below p.groups (q.groups ++ r.groups) n p.exp f.exp, tt),
        );
        groups = groups_and p.groups (q.groups ++ r.groups) n f.groups (groups_and q.groups r.groups (n + length p.groups) g.groups h.groups);
      }
  good s n (Switch e (ACase p d NoCase)) =
      let x : Elaborated = elaborate s n e in
      two_good (λ y z. let_in y (around_all (on_nearest p s).checks fails z)) n x (elaborate (behind (on_nearest p s) s) (n + length x.groups) d) (good s n e) (good (behind (on_nearest p s) s) (n + length x.groups) d)
      (λ m a b. (around_below m (on_nearest p s).checks fails (elaborate (behind (on_nearest p s) s) (n + length x.groups) d).exp (check_below m p (Named s.names) (suc s.names) tt) (tt, tt) b, (a, tt)))
  good s n (Switch e cases) =
      let x : Elaborated = elaborate s n e in
      two_good (λ y z. let_in y (core.Label z)) n x (elaborate_cases s.names (inside (beside 1 s)) (n + length x.groups) cases) (good s n e) (good_cases s.names (inside (beside 1 s)) (n + length x.groups) cases) (λ m a b. (b, (a, tt)))
  good s n (source.Group fns d) =
      let f : BodiesElaborated = elaborate_functions (under (count fns) s) n fns in
      let x : Elaborated = elaborate (under (count fns) s) (suc (n + length f.groups)) d in
      let a : GoodBodies n f = good_functions (under (count fns) s) n fns in
      let b : Good (suc (n + length f.groups)) x = good (under (count fns) s) (suc (n + length f.groups)) d in
      let g : Group Body = record { sees = s.names; bodies = f.bodies } in
      let z : length (f.groups ++ g ∷ x.groups) ≡ length f.groups + suc (length x.groups) = length_and f.groups (g ∷ x.groups) in
      record {
        exp = (omega (arith, z), more (suc (n + length f.groups) + length x.groups) (n + length (f.groups ++ g ∷ x.groups)) (omega (arith, z)) x.exp b.exp);
        groups = groups_and f.groups (g ∷ x.groups) n a.groups (a.bodies, b.groups);
      }
  good s n (source.Frame nodes e) = good s n e
  good s n (source.Label e) = let h : Good n (elaborate (labelled s) n e) = good (labelled s) n e in record { exp = h.exp; groups = h.groups }
  good s n (While c d) =
      let x : Elaborated = elaborate (inside s) n c in
      let y : Elaborated = elaborate (beside 1 (loop_scope c s)) (n + length x.groups) d in
      two_good (λ y z. loop_of c y z) n x y (good (inside s) n c) (good (beside 1 (loop_scope c s)) (n + length x.groups) d) (λ m a b. loop_below m (is_true c) x.exp y.exp a b)
  good s n (Repeat d c) =
      let x : Elaborated = elaborate (inside s) n d in
      two_good (λ y z. core.Label (core.Loop (let_in y (if_true z nothing (break_with nothing))))) n x (elaborate (beside 1 (inside s)) (n + length x.groups) c) (good (inside s) n d) (good (beside 1 (inside s)) (n + length x.groups) c)
      (λ m a b. (((tt, (tt, (tt, tt))), (b, tt)), (a, tt)))
  good s n (For p e d) =
      let x : Elaborated = elaborate s n e in
      let c : Checked = on_nearest p (beside 1 s) in
      two_good (λ y z. let_in y (core.Label (core.Loop (let_in element_of (around_all c.checks fails z))))) n x (elaborate (inside (behind c s)) (n + length x.groups) d)
      (good s n e) (good (inside (behind c s)) (n + length x.groups) d)
      (λ m a b. ((around_below m c.checks fails (elaborate (inside (behind c s)) (n + length x.groups) d).exp (check_below m p (Named (1 + s.names)) (suc (1 + s.names)) tt) (tt, tt) b, (((tt, (tt, (tt, tt))), ((tt, ((tt, (tt, tt)), tt)), tt)), tt)), (a, tt)))
  good s n (source.Try e p d) =
      let x : Elaborated = elaborate s n e in
      two_good (λ y z. core.Try y (around_all (on_nearest p s).checks fails z)) n x (elaborate (behind (on_nearest p s) s) (n + length x.groups) d) (good s n e) (good (behind (on_nearest p s) s) (n + length x.groups) d)
      (λ m a b. (a, around_below m (on_nearest p s).checks fails (elaborate (behind (on_nearest p s) s) (n + length x.groups) d).exp (check_below m p (Named s.names) (suc s.names) tt) (tt, tt) b))
  good s n (Update o e f) =
      let x : Elaborated = elaborate s n e in
      two_good (λ y z. let_in y (does primitive.Write (two (core.Name 0) (does (primitive.Operate o) (two (does primitive.Read (one (core.Name 0))) z))))) n x (elaborate (beside 1 s) (n + length x.groups) f)
      (good s n e) (good (beside 1 s) (n + length x.groups) f) (λ m a b. ((tt, (tt, ((tt, ((tt, (tt, tt)), (b, tt))), tt))), (a, tt)))

  good_all : (s : Scope) (n : ℕ) (es : Exps) → GoodAll n (elaborate_operands s n es)
  good_all s n source.NoExp = record { exps = tt; groups = tt }
  good_all s n (source.AnExp e es) =
      let d : Elaborated = elaborate s n e in
      let r : ManyElaborated = elaborate_operands s (n + length d.groups) es in
      let a : Good n d = good s n e in
      let b : GoodAll (n + length d.groups) r = good_all s (n + length d.groups) es in
      record { exps = (first_below d.groups r.groups n d.exp a.exp, second_all d.groups r.groups n r.exps b.exps); groups = groups_and d.groups r.groups n a.groups b.groups }

  good_names : (s : Scope) (n : ℕ) (es : Exps) → GoodAll n (elaborate_names s n es)
  good_names s n source.NoExp = record { exps = tt; groups = tt }
  good_names s n (source.AnExp e es) =
      let d : Elaborated = elaborate s n e in
      let r : ManyElaborated = elaborate_names (beside 1 s) (n + length d.groups) es in
      let a : Good n d = good s n e in
      let b : GoodAll (n + length d.groups) r = good_names (beside 1 s) (n + length d.groups) es in
      record { exps = (first_below d.groups r.groups n d.exp a.exp, second_all d.groups r.groups n r.exps b.exps); groups = groups_and d.groups r.groups n a.groups b.groups }

  good_cases : (level : ℕ) (s : Scope) (n : ℕ) (cases : Cases) → Good n (elaborate_cases level s n cases)
  good_cases level s n NoCase = record { exp = (tt, tt); groups = tt }
  good_cases level s n (ACase p e cases) =
      let c : Checked = check p (Named level) s.names in
      let x : Elaborated = elaborate (behind c s) n e in
      two_good (λ y z. let_in (around_all c.checks nothing (break_with y)) z) n x (elaborate_cases level (beside 1 s) (n + length x.groups) cases) (good (behind c s) n e) (good_cases level (beside 1 s) (n + length x.groups) cases)
      (λ m a b. (b, (around_below m c.checks nothing (break_with x.exp) (check_below m p (Named level) s.names tt) tt (tt, (a, tt)), tt)))

  good_functions : (s : Scope) (n : ℕ) (fns : Functions) → GoodBodies n (elaborate_functions s n fns)
  good_functions s n NoFunction = record { bodies = tt; groups = tt }
  good_functions s n (AFunction how nodes ps body fns) =
      let c : Checked = on_parameters ps s in
      let x : Elaborated = elaborate (behind c (in_body (number_of_parameters ps) s)) n body in
      let r : BodiesElaborated = elaborate_functions s (n + length x.groups) fns in
      let a : Good n x = good (behind c (in_body (number_of_parameters ps) s)) n body in
      let b : GoodBodies (n + length x.groups) r = good_functions s (n + length x.groups) fns in
      let z : length (x.groups ++ r.groups) ≡ length x.groups + length r.groups = length_and x.groups r.groups in
      record {
        bodies = (
          first_below x.groups r.groups n (around_all c.checks fails x.exp) (around_below (n + length x.groups) c.checks fails x.exp (all_below (n + length x.groups) ps (number_of_parameters ps + s.names - 1) (number_of_parameters ps + s.names)) (tt, tt) a.exp),
          more_bodies (n + length x.groups + length r.groups) (n + length (x.groups ++ r.groups)) (omega (arith, z)) r.bodies b.bodies,
        );
        groups = groups_and x.groups r.groups n a.groups b.groups;
      }

-- ---- programs

save_good : (stable : ℕ) (places : List Place) (n : ℕ) (o : Option Hook) (cells : core.Exps) → MakesGroups n (save_of stable places n o cells).groups
save_good stable places n None cells = tt
save_good stable places n (Some h) cells =
    let a : Good n (elaborate (record (behind (on_parameters h.parameters (outside places)) (outside places)) { exits = 0 ∷ []; labels = 1 }) n h.body) =
    good (record (behind (on_parameters h.parameters (outside places)) (outside places)) { exits = 0 ∷ []; labels = 1 }) n h.body in
    a.groups

start_good : (s : Scope) (n functions : ℕ) (places : List Place) (o : Option Hook) → MakesGroups n (start_end s n functions places o).groups
start_good s n functions places None = tt
start_good s n functions places (Some h) =
    let t : Scope = record s { places = replicate functions Nowhere ++ s.places; names = suc s.names } in
    let fns : Functions = AFunction sort.Local h.nodes h.parameters h.body NoFunction in
    let f : BodiesElaborated = elaborate_functions t n fns in
    let a : GoodBodies n f = good_functions t n fns in
    groups_and f.groups (record { sees = s.names; bodies = f.bodies } ∷ []) n a.groups (a.bodies, tt)

module _ (methods kept : ℕ) where
  ending_good : (s : Scope) (n : ℕ) (fns : Functions) (before after cells : Exp) → MakesGroups n (ending methods kept s n fns before after cells).groups
  ending_good s n fns before after cells =
      let places : List Place = take (length s.places - kept) s.places in
      let known : List Place = replicate (count fns) Nowhere ++ (numbered (suc (suc methods)) places ++ replicate kept Nowhere) in
      let e : Elaborated = start_end s n (count fns) places (hook_of after fns) in
      let m : BodiesElaborated = elaborate_functions (outside known) (n + length e.groups) (firsts methods fns) in
      let v : SaveElaborated = save_of kept known (n + length e.groups + length m.groups) (hook_of before fns) (held_in known (cells_of cells)) in
      let a : GoodBodies (n + length e.groups) m = good_functions (outside known) (n + length e.groups) (firsts methods fns) in
      groups_and e.groups (m.groups ++ v.groups) n (start_good s n (count fns) places (hook_of after fns))
      (groups_and m.groups v.groups (n + length e.groups) a.groups (save_good kept known (n + length e.groups + length m.groups) (hook_of before fns) (held_in known (cells_of cells))))

  actor_good : (s : Scope) (n : ℕ) (e : Exp) → MakesGroups n (elaborate_actor methods kept s n e).groups
  actor_good s n (Switch e (ACase p b NoCase)) =
      let d : Elaborated = elaborate s n e in
      let a : Good n d = good s n e in
      groups_and d.groups (elaborate_actor methods kept (behind (on_nearest p s) s) (n + length d.groups) b).groups n a.groups (actor_good (behind (on_nearest p s) s) (n + length d.groups) b)
  actor_good s n (source.Group fns (source.Do a (source.AnExp functions (source.AnExp before (source.AnExp after (source.AnExp cells es)))))) = ending_good s n fns before after cells
  actor_good s n (source.Group fns b) =
      let f : BodiesElaborated = elaborate_functions (under (count fns) s) n fns in
      let a : GoodBodies n f = good_functions (under (count fns) s) n fns in
      let r : List (Group Body) = (elaborate_actor methods kept (under (count fns) s) (suc (n + length f.groups)) b).groups in
      let z : (f.groups ++ record { sees = s.names; bodies = f.bodies } ∷ []) ++ r ≡ f.groups ++ record { sees = s.names; bodies = f.bodies } ∷ r = assoc f.groups (record { sees = s.names; bodies = f.bodies } ∷ []) r in
      subst (λ gs. MakesGroups n gs) (sym z) (groups_and f.groups (record { sees = s.names; bodies = f.bodies } ∷ r) n a.groups (a.bodies, actor_good (under (count fns) s) (suc (n + length f.groups)) b))
  actor_good s n e = tt

pub ordered : (p : Program) → MakesEarlier (elaborated p)
ordered p = actor_good (length p.methods) (length p.stable) (start_scope (length p.methods) (length p.stable)) 0 p.body
