-- Short words for programs of nested expressions.
use Rattle.std.specs.Prelude.{ℕ, ◌+◌, pos, List, [], ◌∷◌, false, codes}
use Rattle.mo_num.specs.declared.kind.Kind.TheVariants as kind
use Rattle.mo_num.specs.declared.operator.Operator.TheVariants as operator
use Rattle.mo_types.specs.declared.datum.Datum.TheVariants as part
use Rattle.mo_values.specs.declared.operation.Comparison.TheVariants as comparison
use Rattle.mo_values.specs.declared.operation.Operation.{Operation}
use Rattle.mo_values.specs.declared.operation.Operation.TheVariants as op
use Rattle.mo_values.specs.declared.operation.Scalar.TheVariants as scalar
use Rattle.mo_values.specs.Shapes.{Bytes}
use Rattle.core_ir.specs.declared.constant.Constant.TheVariants as constant
use Rattle.core_ir.specs.declared.primitive.Primitive.{Primitive}
use Rattle.core_ir.specs.declared.primitive.Primitive.TheVariants as primitive
use Rattle.core_ir.specs.Programs.{Signature, Group, Method}
use Rattle.core_ir.specs.Expressions.{Exp, Constant?, Name, Global, Do, Exps, NoExp, AnExp, Operate, Choose, Bind, Call, Send, Throw, Await, Break, Body}

abbrev pub exps : List Exp → Exps
exps [] = NoExp
exps (e ∷ es) = AnExp e (exps es)

abbrev pub num : ℕ → Exp
num n = Constant? (constant.Leaf (part.Number (pos n)))

abbrev pub text : Bytes → Exp
text t = Constant? (constant.Leaf (part.Text t))

abbrev pub nothing : Exp
nothing = Constant? constant.Unit

-- `let x = e; b`
abbrev pub let_in : Exp → Exp → Exp
let_in e b = Do (Bind b) (exps (e ∷ []))

abbrev pub does : Primitive → List Exp → Exp
does p es = Do (Operate p) (exps es)

abbrev pub operation : Operation → List Exp → Exp
operation o es = does (primitive.Operate o) es

abbrev pub add : Exp → Exp → Exp
add a b = operation (op.Arithmetic operator.Add kind.Nat) (a ∷ b ∷ [])

abbrev pub sub : Exp → Exp → Exp
sub a b = operation (op.Arithmetic operator.Sub kind.Nat) (a ∷ b ∷ [])

abbrev pub mul : Exp → Exp → Exp
mul a b = operation (op.Arithmetic operator.Mul kind.Nat) (a ∷ b ∷ [])

-- `var x = e; b`
abbrev pub var_in : Exp → Exp → Exp
var_in e b = let_in (does primitive.New (e ∷ [])) b

-- the variable that is this name
abbrev pub get : ℕ → Exp
get x = does primitive.Read (Name x ∷ [])

abbrev pub set : ℕ → Exp → Exp
set x e = does primitive.Write (Name x ∷ e ∷ [])

abbrev pub add_to : ℕ → Exp → Exp
add_to x e = set x (add (get x) e)

abbrev pub print_number : Exp → Exp
print_number e = does primitive.Print (operation (op.ToText kind.Nat) (e ∷ []) ∷ [])

abbrev pub message : Exp → Exp
message e = operation op.Message (e ∷ [])

-- `if (a == b) y else n`
abbrev pub if_same : Exp → Exp → Exp → Exp → Exp
if_same a b y n = Do (Choose (primitive.Operate (op.Same (scalar.Number kind.Nat))) y n) (exps (a ∷ b ∷ []))

-- `if (a > b) y else n`
abbrev pub if_greater : Exp → Exp → Exp → Exp → Exp
if_greater a b y n = Do (Choose (primitive.Operate (op.Compare comparison.Greater (scalar.Number kind.Nat))) y n) (exps (a ∷ b ∷ []))

abbrev pub break_with : ℕ → Exp → Exp
break_with labels e = Do (Break labels) (exps (e ∷ []))

abbrev pub call : Exp → List Exp → Exp
call f es = Do Call (exps (f ∷ es))

abbrev pub throw : Bytes → Exp
throw t = Do Throw (exps (operation op.RejectError (text t ∷ []) ∷ []))

abbrev pub await : Exp → Exp
await e = Do Await (exps (e ∷ []))

-- of no arguments, with one Nat as its result; the type is told by its number
abbrev pub asks_number : Signature
asks_number = record { parameters = []; results = record { index = 0 } ∷ [] }

-- `o.g()`, where o is the first own name of the actor and the actor has so many methods
abbrev pub ask : ℕ → Exp
ask methods = Do (Send asks_number) (exps (operation (op.Method (codes "g")) (Global (1 + methods) ∷ []) ∷ []))

abbrev pub body : ℕ → ℕ → Exp → Body
body parameters nodes e = record { parameters = parameters; nodes = nodes; expression = e }

-- functions that see so many names
abbrev pub group : ℕ → List Body → Group Body
group sees bodies = record { sees = sees; bodies = bodies }

-- with the context of the call, and so many arguments
abbrev pub method : Bytes → ℕ → ℕ → Exp → Method Body
method name arguments nodes e = record { name = name; query = false; signature = asks_number; body = body (1 + arguments) nodes e }
