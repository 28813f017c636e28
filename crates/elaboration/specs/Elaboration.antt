-- Typed programs as programs of nested expressions, by recursion over the expression (Motoko language manual, sections "Expressions and
-- declarations" and "Functions"). What it makes has its groups of functions in one table, those that stand inside a group before it.
use Rattle.std.specs.Prelude.{ℕ, suc, ◌+◌, ◌-◌, Bool, true, false, cond, List, [], ◌∷◌, ◌++◌, length, codes}
use Rattle.mo_types.specs.declared.datum.Datum.TheVariants as part
use Rattle.mo_values.specs.declared.operation.Operation.TheVariants as op
use Rattle.mo_values.specs.Shapes.{Leaf}
use Rattle.core_ir.specs.declared.constant.Constant.TheVariants as constant
use Rattle.core_ir.specs.declared.primitive.Constructor.TheVariants as constructor
use Rattle.core_ir.specs.declared.primitive.Primitive.TheVariants as primitive
use Rattle.core_ir.specs.Programs.{Group}
use Rattle.core_ir.specs.Expressions as core
use Rattle.core_ir.specs.Expressions.{Constant?, Loop, Try, NoExp, AnExp, Choose, Match, Break, Body}
use Rattle.typed_tree.specs.declared.action.Action.{Action}
use Rattle.typed_tree.specs.declared.action.Action.TheVariants as action
use Rattle.typed_tree.specs.Patterns.{Pat, Pats, NoPat, APat}
use Rattle.typed_tree.specs.Language as source
use Rattle.typed_tree.specs.Language.{Value, Exp, Exps, Cases, Functions, Made, NoValue, Val, Switch, While, Repeat, For, Update, NoCase, ACase, NoFunction, AFunction}
use Rattle.typed_tree.specs.Substitution.{count}
use Rattle.elaboration.specs.Scopes.{Scope, one, two, nothing, read_name, leaving, beside, inside, labelled, under, in_body}
use Rattle.elaboration.specs.Checks.{Checked, Named, check, check_all, around_all, behind, fails}
use Rattle.elaboration.specs.Members.{Elaborated, form_of, function_of, levels_from, called, bind_all, let_in, does}

-- ---- words

-- the values that stand in a program
abbrev pub constant_of : Value → core.Exp
constant_of (Made (Leaf p) NoValue) = Constant? (constant.Leaf p)
constant_of _ = nothing

abbrev pub break_with : core.Exp → core.Exp
break_with e = core.Do (Break 0) (one e)

abbrev pub if_true : core.Exp → core.Exp → core.Exp → core.Exp
if_true c a b = core.Do (Choose primitive.Copy a b) (one c)

-- `e!`, where null leaves with it
abbrev pub unwrap : core.Goal → core.Goal
unwrap leave = Match constructor.Present (core.Name 0) (core.Do leave (one (Constant? (constant.Leaf part.Null))))

abbrev pub goal_of : Scope → Action → core.Goal
goal_of s (action.Operate o) = core.Operate (primitive.Operate o)
-- a built-in function is no goal
goal_of s (action.BuiltIn m) = core.Operate primitive.Copy
goal_of s action.New = core.Operate primitive.New
goal_of s action.Read = core.Operate primitive.Read
goal_of s action.Write = core.Operate primitive.Write
goal_of s action.WriteElement = core.Operate primitive.WriteElement
goal_of s action.Print = core.Operate primitive.Print
goal_of s action.Throw = core.Throw
goal_of s action.Call = core.Call
goal_of s (action.Send ps rs) = core.Send (record { parameters = ps; results = rs })
goal_of s action.Await = core.Await
goal_of s (action.Break l) = leaving s l
goal_of s (action.Unwrap l) = unwrap (leaving s l)

-- `next` of an object, called
abbrev pub next_of : core.Exp → core.Exp
next_of e = core.Do core.Call (one (does (primitive.Operate (op.Field (codes "next"))) (one e)))

-- the next element of the object, and null leaves the loop
abbrev pub element_of : core.Exp
element_of = core.Do (Match constructor.Present (core.Name 0) (break_with nothing)) (one (next_of (core.Name 0)))

-- a loop without an end
abbrev pub is_true : Exp → Bool
is_true (Val (Made (Leaf (part.Flag true)) NoValue)) = true
is_true _ = false

-- A loop is left by a label around it, if it has an end. Where its test holds, a name without use stands before its body.
abbrev pub loop_scope : Exp → Scope → Scope
loop_scope c s = record s { labels = cond (is_true c) s.labels (suc s.labels) }

abbrev pub tested_loop : core.Exp → core.Exp → core.Exp
tested_loop x y = core.Label (Loop (let_in (if_true x nothing (break_with nothing)) y))

abbrev pub loop_of : Exp → core.Exp → core.Exp → core.Exp
loop_of c x y = cond (is_true c) (Loop (let_in nothing y)) (tested_loop x y)

abbrev pub number_of_parameters : Pats → ℕ
number_of_parameters NoPat = 0
number_of_parameters (APat p ps) = suc (number_of_parameters ps)

-- ---- several expressions

pub record ManyElaborated : Type 0 where
  pub exps : core.Exps
  pub groups : List (Group Body)

pub record BodiesElaborated : Type 0 where
  pub bodies : List Body
  pub groups : List (Group Body)

abbrev pub none_elaborated : ManyElaborated
none_elaborated = record { exps = NoExp; groups = [] }

abbrev pub with_first : Elaborated → ManyElaborated → ManyElaborated
with_first d ds = record { exps = AnExp d.exp ds.exps; groups = d.groups ++ ds.groups }

-- the groups of two parts, and what is made of their expressions
abbrev pub joined : (core.Exp → core.Exp → core.Exp) → Elaborated → Elaborated → Elaborated
joined f d e = record { exp = f d.exp e.exp; groups = d.groups ++ e.groups }

abbrev pub changed : (core.Exp → core.Exp) → Elaborated → Elaborated
changed f d = record { exp = f d.exp; groups = d.groups }

abbrev pub whole : core.Exp → Elaborated
whole e = record { exp = e; groups = [] }

-- the groups of operands, and what is made of these
abbrev pub with_operands : (core.Exps → Elaborated) → ManyElaborated → Elaborated
with_operands f es = let d : Elaborated = f es.exps in record { exp = d.exp; groups = es.groups ++ d.groups }

-- a pattern on the nearest name, which Core has already
abbrev pub on_nearest : Pat → Scope → Checked
on_nearest p s = check p (Named s.names) (suc s.names)

-- patterns on the parameters of a function, whose group is in scope
abbrev pub on_parameters : Pats → Scope → Checked
on_parameters ps s = check_all ps (number_of_parameters ps + s.names - 1) (number_of_parameters ps + s.names)

abbrev pub count_of : Exps → ℕ
count_of source.NoExp = 0
count_of (source.AnExp e es) = suc (count_of es)

abbrev mutual
  -- in a scope, with groups of functions from number n on
  pub elaborate : Scope → ℕ → Exp → Elaborated
  elaborate s n (Val v) = whole (constant_of v)
  elaborate s n (source.Name x) = whole (read_name s x)
  elaborate s n (source.Do action.Call (source.AnExp (source.Do (action.BuiltIn m) es) args)) =
      let d : ManyElaborated = elaborate_operands s n es in
      let e : ManyElaborated = elaborate_operands s (n + length d.groups) args in
      let f : Elaborated = called (form_of m) d.exps e.exps s.names (n + length d.groups + length e.groups) in
      record { exp = f.exp; groups = d.groups ++ (e.groups ++ f.groups) }
  elaborate s n (source.Do (action.BuiltIn m) es) =
      let d : ManyElaborated = elaborate_names s n es in
      let f : Elaborated = function_of (form_of m) (count_of es + s.names) (levels_from s.names (count_of es)) (n + length d.groups) in
      record { exp = bind_all d.exps f.exp; groups = d.groups ++ f.groups }
  elaborate s n (source.Do a es) =
      let d : ManyElaborated = elaborate_operands s n es in
      record { exp = core.Do (goal_of s a) d.exps; groups = d.groups }
  elaborate s n (source.If c a b) =
      let x : Elaborated = elaborate s n c in
      let y : Elaborated = elaborate s (n + length x.groups) a in
      let z : Elaborated = elaborate s (n + length x.groups + length y.groups) b in
      record { exp = if_true x.exp y.exp z.exp; groups = x.groups ++ (y.groups ++ z.groups) }
  -- one case stands around nothing else
  elaborate s n (Switch e (ACase p b NoCase)) =
      let d : Elaborated = elaborate s n e in
      let c : Checked = on_nearest p s in
      joined (λ x y. let_in x (around_all c.checks fails y)) d (elaborate (behind c s) (n + length d.groups) b)
  elaborate s n (Switch e cases) =
      let d : Elaborated = elaborate s n e in
      joined (λ x y. let_in x (core.Label y)) d (elaborate_cases s.names (inside (beside 1 s)) (n + length d.groups) cases)
  elaborate s n (source.Group fns b) =
      let f : BodiesElaborated = elaborate_functions (under (count fns) s) n fns in
      let d : Elaborated = elaborate (under (count fns) s) (suc (n + length f.groups)) b in
      record { exp = core.Functions (n + length f.groups) d.exp; groups = f.groups ++ record { sees = s.names; bodies = f.bodies } ∷ d.groups }
  -- the body of an actor's declarations
  elaborate s n (source.Frame nodes e) = elaborate s n e
  elaborate s n (source.Label e) = changed core.Label (elaborate (labelled s) n e)
  elaborate s n (While c b) =
      let x : Elaborated = elaborate (inside s) n c in
      joined (λ x y. loop_of c x y) x (elaborate (beside 1 (loop_scope c s)) (n + length x.groups) b)
  elaborate s n (Repeat b c) =
      let x : Elaborated = elaborate (inside s) n b in
      joined (λ x y. core.Label (Loop (let_in x (if_true y nothing (break_with nothing))))) x (elaborate (beside 1 (inside s)) (n + length x.groups) c)
  -- the object is a name around the loop, and the element is the nearest one in its body
  elaborate s n (For p e b) =
      let d : Elaborated = elaborate s n e in
      let c : Checked = on_nearest p (beside 1 s) in
      joined (λ x y. let_in x (core.Label (Loop (let_in element_of (around_all c.checks fails y)))))
      d (elaborate (inside (behind c s)) (n + length d.groups) b)
  elaborate s n (source.Try e p b) =
      let d : Elaborated = elaborate s n e in
      let c : Checked = on_nearest p s in
      joined (λ x y. Try x (around_all c.checks fails y)) d (elaborate (behind c s) (n + length d.groups) b)
  -- the place is a name; it is read, then comes f, and then it is written
  elaborate s n (Update o e f) =
      let d : Elaborated = elaborate s n e in
      joined (λ x y. let_in x (does primitive.Write (two (core.Name 0) (does (primitive.Operate o) (two (does primitive.Read (one (core.Name 0))) y)))))
      d (elaborate (beside 1 s) (n + length d.groups) f)

  pub elaborate_operands : Scope → ℕ → Exps → ManyElaborated
  elaborate_operands s n source.NoExp = none_elaborated
  elaborate_operands s n (source.AnExp e es) = let d : Elaborated = elaborate s n e in with_first d (elaborate_operands s (n + length d.groups) es)

  -- the same, where each is a name in those behind it
  pub elaborate_names : Scope → ℕ → Exps → ManyElaborated
  elaborate_names s n source.NoExp = none_elaborated
  elaborate_names s n (source.AnExp e es) = let d : Elaborated = elaborate s n e in with_first d (elaborate_names (beside 1 s) (n + length d.groups) es)

  -- the value has this level; a case that does not match gives the unit, to which the next case is bound, and one that matches leaves the label
  pub elaborate_cases : ℕ → Scope → ℕ → Cases → Elaborated
  elaborate_cases level s n NoCase = whole fails
  elaborate_cases level s n (ACase p b cases) =
      let c : Checked = check p (Named level) s.names in
      let d : Elaborated = elaborate (behind c s) n b in
      joined (λ x y. let_in (around_all c.checks nothing (break_with x)) y) d (elaborate_cases level (beside 1 s) (n + length d.groups) cases)

  -- the bodies of a group that is in scope
  pub elaborate_functions : Scope → ℕ → Functions → BodiesElaborated
  elaborate_functions s n NoFunction = record { bodies = []; groups = [] }
  elaborate_functions s n (AFunction how nodes ps body fns) =
      let c : Checked = on_parameters ps s in
      let d : Elaborated = elaborate (behind c (in_body (number_of_parameters ps) s)) n body in
      let r : BodiesElaborated = elaborate_functions s (n + length d.groups) fns in
      record { bodies = record { parameters = number_of_parameters ps; nodes = nodes; expression = around_all c.checks fails d.exp } ∷ r.bodies; groups = d.groups ++ r.groups }
