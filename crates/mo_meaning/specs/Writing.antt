-- Short words in which the examples are written.
use Rattle.std.specs.Prelude.{ℕ, List, [], ◌∷◌, true, false, pos, codes}
use Rattle.mo_num.specs.declared.kind.Kind.TheVariants as kind
use Rattle.mo_num.specs.declared.operator.Operator.TheVariants as operator
use Rattle.mo_types.specs.declared.datum.Datum.TheVariants as part
use Rattle.mo_types.specs.declared.node.Sort.TheVariants as sort
use Rattle.mo_types.specs.declared.node.TypeId.{TypeId}
use Rattle.mo_values.specs.declared.operation.Comparison.TheVariants as comparison
use Rattle.mo_values.specs.declared.operation.Operation.{Operation}
use Rattle.mo_values.specs.declared.operation.Operation.TheVariants as op
use Rattle.mo_values.specs.declared.operation.Scalar.TheVariants as scalar
use Rattle.mo_values.specs.Shapes.{Bytes}
use Rattle.typed_tree.specs.declared.action.Action.TheVariants as action
use Rattle.typed_tree.specs.declared.action.Member.{Member}
use Rattle.typed_tree.specs.declared.action.Member.TheVariants as member
use Rattle.typed_tree.specs.Patterns.{Pat, Pats, Wildcard, Bind, Constant, Present?, NoPat, APat}
use Rattle.typed_tree.specs.Language.{Exp, Exps, Functions, Val, Name, Do, Switch, Update, NoExp, AnExp, NoCase, ACase, AFunction, leaf, null}
use Rattle.typed_tree.specs.Programs.{Method, StableVariable}

abbrev pub exps : List Exp → Exps
exps [] = NoExp
exps (e ∷ es) = AnExp e (exps es)

abbrev pub pats : List Pat → Pats
pats [] = NoPat
pats (p ∷ ps) = APat p (pats ps)

-- ---- values

abbrev pub number : ℕ → Exp
number n = Val (leaf (part.Number (pos n)))

abbrev pub string : Bytes → Exp
string t = Val (leaf (part.Text t))

abbrev pub false_exp : Exp
false_exp = Val (leaf (part.Flag false))

abbrev pub true_exp : Exp
true_exp = Val (leaf (part.Flag true))

-- `actor "id" : T`
abbrev pub the_actor : Bytes → Exp
the_actor p = Val (leaf (part.Actor p))

-- ---- operations

abbrev pub operate : Operation → List Exp → Exp
operate o es = Do (action.Operate o) (exps es)

abbrev pub tuple : List Exp → Exp
tuple es = operate op.MakeTuple es

abbrev pub some : Exp → Exp
some e = operate op.MakeOption (e ∷ [])

abbrev pub tagged : Bytes → Exp → Exp
tagged l e = operate (op.MakeTag l) (e ∷ [])

abbrev pub field_of : Bytes → Exp → Exp
field_of l e = operate (op.Field l) (e ∷ [])

abbrev pub plus : Exp → Exp → Exp
plus e f = operate (op.Arithmetic operator.Add kind.Nat) (e ∷ f ∷ [])

abbrev pub minus : Exp → Exp → Exp
minus e f = operate (op.Arithmetic operator.Sub kind.Nat) (e ∷ f ∷ [])

abbrev pub times : Exp → Exp → Exp
times e f = operate (op.Arithmetic operator.Mul kind.Nat) (e ∷ f ∷ [])

abbrev pub power : Exp → Exp → Exp
power e f = operate (op.Arithmetic operator.Pow kind.Nat) (e ∷ f ∷ [])

abbrev pub less : Exp → Exp → Exp
less e f = operate (op.Compare comparison.Less (scalar.Number kind.Nat)) (e ∷ f ∷ [])

abbrev pub assert_false : Exp
assert_false = operate op.Assert (false_exp ∷ [])

-- ---- cells

abbrev pub new : Exp → Exp
new e = Do action.New (exps (e ∷ []))

abbrev pub read : Exp → Exp
read e = Do action.Read (exps (e ∷ []))

abbrev pub write : Exp → Exp → Exp
write e f = Do action.Write (exps (e ∷ f ∷ []))

-- `a[i] := f`
abbrev pub write_element : Exp → Exp → Exp → Exp
write_element a i f = Do action.WriteElement (exps (a ∷ i ∷ f ∷ []))

-- `e += n`
abbrev pub add_to : Exp → Exp → Exp
add_to e f = Update (op.Arithmetic operator.Add kind.Nat) e f

-- ---- calls and jumps

abbrev pub call : Exp → List Exp → Exp
call f es = Do action.Call (AnExp f (exps es))

-- a built-in function, and one that holds a value
abbrev pub built_in : Member → Exp
built_in m = Do (action.BuiltIn m) NoExp

abbrev pub method_of : Member → Exp → Exp
method_of m e = Do (action.BuiltIn m) (exps (e ∷ []))

abbrev pub print : Bytes → Exp
print t = call (built_in member.DebugPrint) (string t ∷ [])

-- `Debug.trap("x")`
abbrev pub trap_x : Exp
trap_x = call (built_in member.DebugTrap) (string (codes "x") ∷ [])

-- `e.f()`, where f has parameters and results of these types
abbrev pub ask : List TypeId → List TypeId → Bytes → Exp → List Exp → Exp
ask ps rs name e es = Do (action.Send ps rs) (AnExp (operate (op.Method name) (e ∷ [])) (exps es))

abbrev pub await : Exp → Exp
await e = Do action.Await (exps (e ∷ []))

abbrev pub throw : Exp → Exp
throw e = Do action.Throw (exps (e ∷ []))

-- leaves so many labels and the next one, or the function
abbrev pub break : ℕ → Exp → Exp
break labels e = Do (action.Break labels) (exps (e ∷ []))

-- ---- cases

-- `switch e { case null a; case (?p) b }`
abbrev pub by_option : Exp → Exp → Pat → Exp → Exp
by_option e a p b = Switch e (ACase (Constant part.Null) a (ACase (Present? p) b NoCase))

-- ---- functions

abbrev pub local : ℕ → List Pat → Exp → Functions → Functions
local nodes ps body others = AFunction sort.Local nodes (pats ps) body others

-- of a public function, whose first parameter is the context of the call
abbrev pub shared : ℕ → List Pat → Exp → Functions → Functions
shared nodes ps body others = AFunction sort.Shared nodes (pats (Wildcard ∷ ps)) body others

-- ---- programs

abbrev pub update : Bytes → List TypeId → List TypeId → Method
update name ps rs = record { name = name; query = false; parameters = ps; results = rs }

abbrev pub query : Bytes → List TypeId → List TypeId → Method
query name ps rs = record { name = name; query = true; parameters = ps; results = rs }

abbrev pub variable : Bytes → TypeId → StableVariable
variable name t = record { name = name; of_type = t }

-- `stable var x = e`, where this is the name of what was kept
abbrev pub kept_or : ℕ → Exp → Exp
kept_or kept e = by_option (Name kept) e Bind (Name 0)

-- what the declarations of an actor end in: its functions, its hooks and its stable variables
abbrev pub exports : List Exp → Exp → Exp → List Bytes → List Exp → Exp
exports methods before after names cells = tuple (tuple methods ∷ before ∷ after ∷ operate (op.MakeObject names) cells ∷ [])

-- of an actor without hooks and stable variables
abbrev pub methods_alone : List Exp → Exp
methods_alone methods = exports methods (Val null) (Val null) [] []
