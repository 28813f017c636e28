-- Built-in functions (Motoko base library, modules `Array`, `Debug`, `Error`, `Int`, `Nat`, `Principal` and `Text`, and the methods of arrays
-- and texts). Where one that is a single operation is called at once, this is done in the place of the call; any other is a function of a group of
-- its own, and so is each that is a value.
use Rattle.std.specs.Prelude.{ℕ, zero, suc, ◌+◌, List, [], ◌∷◌, ◌++◌, Bool, true, false, codes}
use Rattle.mo_num.specs.declared.kind.Kind.TheVariants as kind
use Rattle.mo_num.specs.declared.operator.Operator.TheVariants as operator
use Rattle.mo_types.specs.declared.datum.Datum.TheVariants as part
use Rattle.mo_values.specs.declared.operation.Comparison.TheVariants as comparison
use Rattle.mo_values.specs.declared.operation.Operation.{Operation}
use Rattle.mo_values.specs.declared.operation.Operation.TheVariants as op
use Rattle.mo_values.specs.declared.operation.Scalar.TheVariants as scalar
use Rattle.core_ir.specs.declared.constant.Constant.TheVariants as constant
use Rattle.core_ir.specs.declared.primitive.Primitive.{Primitive}
use Rattle.core_ir.specs.declared.primitive.Primitive.TheVariants as primitive
use Rattle.core_ir.specs.Programs.{Group}
use Rattle.core_ir.specs.Expressions as core
use Rattle.core_ir.specs.Expressions.{Exp, Constant?, Do, Functions, Exps, NoExp, AnExp, Goal, Operate, Choose, Bind, Tabulate, Body}
use Rattle.core_ir.specs.Writing.{num}
use Rattle.typed_tree.specs.declared.action.Member.{Member}
use Rattle.typed_tree.specs.declared.action.Member.TheVariants as member
use Rattle.elaboration.specs.Scopes.{one, two, append, name}

-- an expression, and the groups that are made for it
pub record Elaborated : Type 0 where
  pub exp : Exp
  pub groups : List (Group Body)

-- what an iterator goes over: the elements or the places of an array, or the characters of a text
pub data Over : Type 0 where
  Elements : Over
  Places : Over
  Characters : Over

pub data Form : Type 0 where
  -- it does this with the values that it holds and its arguments, also in the place of a call
  Does : (goal : Goal) → (holds parameters : ℕ) → Form
  -- it does this with its arguments, and is called
  Calls : (goal : Goal) → (parameters : ℕ) → Form
  -- it gives an iterator over the value that it holds
  Iterates : (over : Over) → Form
  -- it is `next` of an iterator, and holds what that goes over and the cell with the place
  Steps : (over : Over) → Form

abbrev pub operates : Operation → ℕ → ℕ → Form
operates o holds parameters = Does (Operate (primitive.Operate o)) holds parameters

abbrev pub form_of : Member → Form
form_of member.DebugPrint = Does (Operate primitive.Print) 0 1
form_of member.DebugTrap = operates op.Trap 0 1
form_of member.ErrorReject = operates op.RejectError 0 1
form_of member.ErrorMessage = operates op.Message 0 1
form_of member.ErrorCode = operates op.Code 0 1
form_of member.NatToText = operates (op.ToText kind.Nat) 0 1
form_of member.IntToText = operates (op.ToText kind.Int) 0 1
form_of member.ArrayTabulate = Calls Tabulate 2
form_of member.ArrayInit = Calls (Operate primitive.ArrayInit) 2
form_of member.ArrayFreeze = Calls (Operate primitive.ArrayFreeze) 1
form_of member.ArrayThaw = Calls (Operate primitive.ArrayThaw) 1
form_of member.PrincipalFromActor = operates op.PrincipalOf 0 1
form_of member.ArraySize = operates op.ArraySize 1 0
form_of member.ArrayVals = Iterates Elements
form_of member.ArrayKeys = Iterates Places
form_of member.TextSize = operates op.TextSize 1 0
form_of member.TextChars = Iterates Characters
form_of member.NextVal = Steps Elements
form_of member.NextKey = Steps Places
form_of member.NextChar = Steps Characters

abbrev pub does : Primitive → Exps → Exp
does p es = Do (Operate p) es

abbrev pub let_in : Exp → Exp → Exp
let_in e b = Do (Bind b) (one e)

-- a function without nodes of its own, which sees so many names
abbrev pub small_group : (sees parameters : ℕ) → Exp → Group Body
small_group sees parameters e = record { sees = sees; bodies = record { parameters = parameters; nodes = 0; expression = e } ∷ [] }

-- the names of these levels
abbrev pub names_of : ℕ → List ℕ → Exps
names_of names [] = NoExp
names_of names (level ∷ levels) = AnExp (name names level) (names_of names levels)

-- so many levels
abbrev pub levels_from : ℕ → ℕ → List ℕ
levels_from level zero = []
levels_from level (suc n) = level ∷ levels_from (suc level) n

abbrev pub first : List ℕ → ℕ
first [] = 0
first (level ∷ levels) = level

abbrev pub second : List ℕ → ℕ
second [] = 0
second (level ∷ levels) = first levels

-- the parameters of a function, under so many names; the first is the nearest
abbrev pub nearest : ℕ → ℕ → Exps
nearest i zero = NoExp
nearest i (suc n) = AnExp (core.Name i) (nearest (suc i) n)

-- ---- iterators: an object with the one method `next`

-- the element at a place; of a mutable array, what its cell holds
abbrev pub element : Bool → Exp → Exp → Exp
element true a i = does primitive.Read (one (does (primitive.Operate op.Element) (two a i)))
element false a i = does (primitive.Operate op.Element) (two a i)

abbrev pub place : Exp → Exp → Exp
place a i = i

-- the names of these levels are an array, and a cell with the next place: if the array has that, the cell gets the one behind it, and this is
-- made of it
abbrev pub next_by : (Exp → Exp → Exp) → (names array cell : ℕ) → Exp
next_by at names array cell =
    let_in (does primitive.Read (one (name names cell)))
    (Do (Choose primitive.Copy
    (let_in (does primitive.Write (two (name (suc names) cell) (does (primitive.Operate (op.Arithmetic operator.Add kind.Nat)) (two (name (suc names) names) (num 1)))))
    (does (primitive.Operate op.MakeOption) (one (at (name (suc (suc names)) array) (name (suc (suc names)) names)))))
    (Constant? (constant.Leaf part.Null)))
    (one (does (primitive.Operate (op.Compare comparison.Less (scalar.Number kind.Nat))) (two (name (suc names) names) (does (primitive.Operate op.ArraySize) (one (name (suc names) array)))))))

abbrev pub next : Over → (names over cell : ℕ) → Exp
next Elements names over cell = Do (Choose primitive.IsMutable (next_by (element true) names over cell) (next_by (element false) names over cell)) (one (name names over))
next Places names over cell = next_by place names over cell
next Characters names over cell = does primitive.NextChar (two (name names cell) (name names over))

-- over the name of this level, under so many names; the group of `next` has this number
abbrev pub iterator : (names level n : ℕ) → Exp
iterator names level n = does (primitive.Operate (op.MakeObject (codes "next" ∷ []))) (one (let_in (does primitive.New (one (num 0))) (Functions n (core.Name 0))))

-- ---- values: a group of one function; what it holds stands in the names of these levels, among so many, and its groups are numbered from n on

abbrev pub parameters_of : Form → ℕ
parameters_of (Does goal holds parameters) = parameters
parameters_of (Calls goal parameters) = parameters
parameters_of _ = 0

abbrev pub own_body : Form → (names : ℕ) → (levels : List ℕ) → (n : ℕ) → Exp
own_body (Does goal holds parameters) names levels n = Do goal (append (names_of (parameters + suc names) levels) (nearest 0 parameters))
own_body (Calls goal parameters) names levels n = Do goal (nearest 0 parameters)
own_body (Iterates over) names levels n = iterator (suc names) (first levels) n
own_body (Steps over) names levels n = next over (suc names) (first levels) (second levels)

abbrev pub own_group : Form → (names : ℕ) → (levels : List ℕ) → (n : ℕ) → Group Body
own_group form names levels n = small_group names (parameters_of form) (own_body form names levels n)

-- the groups that its body makes
abbrev pub groups_in : Form → (names : ℕ) → (levels : List ℕ) → List (Group Body)
groups_in (Iterates over) names levels = own_group (Steps over) (suc (suc names)) (first levels ∷ suc names ∷ []) 0 ∷ []
groups_in _ names levels = []

abbrev pub number_of : Form → ℕ → ℕ
number_of (Iterates over) n = suc n
number_of _ n = n

abbrev pub function_of : Form → (names : ℕ) → (levels : List ℕ) → (n : ℕ) → Elaborated
function_of form names levels n = record { exp = Functions (number_of form n) (core.Name 0); groups = groups_in form names levels ++ own_group form names levels n ∷ [] }

-- the operands in turn, each a name
abbrev pub bind_all : Exps → Exp → Exp
bind_all NoExp e = e
bind_all (AnExp a es) e = let_in a (bind_all es e)

-- ---- calls at once

abbrev pub amount : Exps → ℕ
amount NoExp = 0
amount (AnExp e es) = suc (amount es)

-- of a function that holds the values of the first operands, with the values of the second ones; under so many names, and with groups from number n on
abbrev pub called : Form → Exps → Exps → (names n : ℕ) → Elaborated
called (Does goal holds parameters) es args names n = record { exp = Do goal (append es args); groups = [] }
called form es args names n =
    let f : Elaborated = function_of form (amount es + names) (levels_from names (amount es)) n in
    record { exp = Do core.Call (AnExp (bind_all es f.exp) args); groups = f.groups }
