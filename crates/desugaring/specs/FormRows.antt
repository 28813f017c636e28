-- What single forms are written out to, beside what is wanted.
use Rattle.std.specs.Prelude.{ℕ, pos, Bool, true, false, List, [], ◌∷◌, None, codes}
use Rattle.mo_num.specs.declared.operator.Operator.TheVariants as operator
use Rattle.mo_num.specs.declared.kind.Kind.TheVariants as kind
use Rattle.mo_syntax.specs.declared.operators.BinaryOperator.TheVariants as sign
use Rattle.mo_types.specs.declared.node.Sort.TheVariants as sort
use Rattle.mo_types.specs.declared.node.TypeId.{TypeId}
use Rattle.mo_values.specs.declared.operation.Operation.TheVariants as op
use Rattle.typed_tree.specs.declared.action.Action.TheVariants as action
use Rattle.typed_tree.specs.declared.literal.Literal.TheVariants as literal
use Rattle.typed_tree.specs.declared.expression.Form.TheOpen as F
use Rattle.typed_tree.specs.declared.expression.Function.{roll-Function}
use Rattle.typed_tree.specs.declared.expression.Step.{roll-Step}
use Rattle.typed_tree.specs.declared.expression.TypedExpression.{TypedExpression}
use Rattle.typed_tree.specs.declared.pattern.TypedPattern.{TypedPattern}
use Rattle.typed_tree.specs.declared.pattern.PatternForm.TheOpen as P
use Rattle.typing_rules.specs.AbstractSyntax.{Bytes, Declarations, Expression, Form, Pattern}
use Rattle.typing_rules.specs.AbstractSyntax as p
use Rattle.typing_rules.specs.Gathered.{nothing}
use Rattle.typing_rules.specs.Rows.{token}
use Rattle.typing_rules.specs.SameTerms.{number_in}
use Rattle.typing_rules.specs.Terms.{Term, nat, unit}
use Rattle.typing_rules.specs.Terms as t
use Rattle.typing_rules.specs.TypedTrees.{Note, note}
use Rattle.desugaring.specs.Expressions.{tree}
use Rattle.desugaring.specs.Frames.{Frame, Returned, cell, value}
use Rattle.desugaring.specs.Nodes.{Layer, node_of}
use Rattle.desugaring.specs.Patterns.{stands}

-- ---- types, and what stands around

abbrev pub function : Term
function = t.Function (t.Cons nat t.Nil) nat

abbrev pub an_object : Term
an_object = t.Object (t.constant (codes "x") nat t.NoFields)

abbrev pub an_empty_object : Term
an_empty_object = t.Object t.NoFields

abbrev pub terms : List Term
terms = nat ∷ unit ∷ t.Boolean ∷ t.Bottom ∷ t.Optional nat ∷ t.MutableArray nat ∷ function ∷ an_object ∷ an_empty_object ∷ []

abbrev pub number : Term → TypeId
number u = number_in terms u

-- `var n`, `a` and `o`, in a function
abbrev pub around : Frame
around = record { names = cell (codes "n") ∷ value (codes "a") ∷ value (codes "o") ∷ []; exits = Returned ∷ [] }

abbrev pub written : Expression Note → TypedExpression
written e = tree nothing number around e

-- ---- what is judged

abbrev pub judged : Term → Form Note → Expression Note
judged u x = p.exp (note 0 u) x

abbrev pub named : Term → Bytes → Expression Note
named u x = judged u (p.Name x)

abbrev pub flag : Expression Note
flag = judged t.Boolean (p.Constant p.True)

abbrev pub one : Expression Note
one = judged nat (p.Constant (p.Number 1))

abbrev pub evaluated : Expression Note → Declarations Note → Declarations Note
evaluated e rest = p.Then false (note 0 unit) (p.Evaluate e) rest

abbrev pub bound : Bytes → Pattern Note
bound x = p.pattern (note 0 nat) (p.Variable x)

-- ---- what is wanted

abbrev pub at : Term → Layer → TypedExpression
at u x = node_of (number u) x

abbrev pub name_of : Term → ℕ → TypedExpression
name_of u n = at u (F.Name n)

abbrev pub one_there : TypedExpression
one_there = at nat (F.Constant (literal.Number (pos 1)))

abbrev pub flag_there : Bool → TypedExpression
flag_there b = at t.Boolean (F.Constant (literal.Flag b))

abbrev pub unit_there : TypedExpression
unit_there = at unit (F.Constant literal.Unit)

abbrev pub a_name : TypedPattern
a_name = stands nothing number nat P.Bind

-- ---- rows

pub record Row : Type 0 where
  pub from : Expression Note
  pub to : TypedExpression

abbrev pub row : Expression Note → TypedExpression → Row
row e x = record { from = e; to = x }

-- `true and true`, `true or true`, `if true {}`; variables and elements, read and assigned
abbrev pub operators : List Row
operators =
    row (judged t.Boolean (p.Binary sign.And flag flag)) (at t.Boolean (F.If (flag_there true) (flag_there true) (flag_there false))) ∷
    row (judged t.Boolean (p.Binary sign.Or flag flag)) (at t.Boolean (F.If (flag_there true) (flag_there true) (flag_there true))) ∷
    row (judged unit (p.When flag (judged unit (p.Block p.End)))) (at unit (F.If (flag_there true) (at unit (F.Block [] unit_there)) unit_there)) ∷
    row (judged t.Boolean (p.Binary sign.Equal one one)) (at t.Boolean (F.Do (action.Operate (op.Equal (number nat))) (one_there ∷ one_there ∷ []))) ∷
    -- `n`, `n := 1`, `n += 1`
    row (named nat (codes "n")) (at nat (F.Do action.Read (name_of nat 0 ∷ []))) ∷
    row (judged unit (p.Assign (named nat (codes "n")) one)) (at unit (F.Do action.Write (name_of nat 0 ∷ one_there ∷ []))) ∷
    row (judged unit (p.AssignBy sign.Add (named nat (codes "n")) one)) (at unit (F.Update (op.Arithmetic operator.Add kind.Nat) (name_of nat 0) one_there)) ∷
    -- `a[1]`, `a[1] := 1`
    row (judged nat (p.Index (named (t.MutableArray nat) (codes "a")) one))
    (at nat (F.Do action.Read (at nat (F.Do (action.Operate op.Element) (name_of (t.MutableArray nat) 1 ∷ one_there ∷ [])) ∷ []))) ∷
    row (judged unit (p.Assign (judged nat (p.Index (named (t.MutableArray nat) (codes "a")) one)) one))
    (at unit (F.Do action.WriteElement (name_of (t.MutableArray nat) 1 ∷ one_there ∷ one_there ∷ []))) ∷
    []

-- `label l while true { continue l; break l }`
abbrev pub labelled_loop : Expression Note
labelled_loop = judged unit (p.Label (codes "l") None (judged unit (p.While flag (judged unit (p.Block
    (evaluated (judged t.Bottom (p.Continue (codes "l"))) (evaluated (judged t.Bottom (p.Break (codes "l"))) p.End)))))))

-- `do ? { o! }`, and `return 1` in it
abbrev pub unwrapped : Expression Note
unwrapped = judged (t.Optional nat) (p.DoOption (judged nat (p.Block (evaluated (judged nat (p.Bang (named (t.Optional nat) (codes "o")))) p.End))))

abbrev pub returning : Expression Note
returning = judged (t.Optional nat) (p.DoOption (judged nat (p.Block (evaluated (judged t.Bottom (p.ReturnWith one)) p.End))))

-- Labels are counted from the nearest; `continue` leaves the body of its loop.
abbrev pub jumps : List Row
jumps =
    row labelled_loop
    (at unit (F.Label (at unit (F.While (flag_there true) (at unit (F.Label (at unit (F.Block
    (roll-Step (F.Evaluate (at t.Bottom (F.Do (action.Break 0) (unit_there ∷ [])))) ∷ [])
    (at t.Bottom (F.Do (action.Break 1) (unit_there ∷ [])))))))))))
    ∷ row unwrapped
    (at (t.Optional nat) (F.Label (at (t.Optional nat) (F.Do (action.Operate op.MakeOption)
    (at nat (F.Block [] (at nat (F.Do (action.Unwrap 0) (name_of (t.Optional nat) 2 ∷ [])))) ∷ [])))))
    ∷ row returning
    (at (t.Optional nat) (F.Label (at (t.Optional nat) (F.Do (action.Operate op.MakeOption)
    (at nat (F.Block [] (at t.Bottom (F.Do (action.Break 1) (one_there ∷ [])))) ∷ [])))))
    ∷ []

-- `func (k : Nat) : Nat { k + n }`: n stands behind k and the function itself
abbrev pub a_function : Expression Note
a_function = judged function (p.Function (record { generics = []; parameters = p.Cons (bound (codes "k")) p.Nil; result = None })
    (judged nat (p.Binary sign.Add (named nat (codes "k")) (named nat (codes "n")))))

-- `object { public let x = 1 }`
abbrev pub an_object_block : Expression Note
an_object_block = judged an_object (p.ObjectBlock (p.Then true (note 0 nat) (p.Let (bound (codes "x")) one) p.End))

-- `{ let y = n; func f(k : Nat) : Nat { y }; let z = 1; f(1) }`: f stands directly behind y, which it uses
abbrev pub a_list : Expression Note
a_list = judged nat (p.Block (p.Then false (note 0 nat) (p.Let (bound (codes "y")) (named nat (codes "n")))
    (p.Then false (note 0 function) (p.Func (token 0 (codes "f")) (record { generics = []; parameters = p.Cons (bound (codes "k")) p.Nil; result = None }) (named nat (codes "y")))
    (p.Then false (note 0 nat) (p.Let (bound (codes "z")) one)
    (p.Then false (note 0 nat) (p.Evaluate (judged nat (p.Call (named function (codes "f")) None (p.Cons one p.Nil)))) p.End)))))

-- `{ class C() {}; 1 }`: the object that C makes is one of its nodes
abbrev pub a_class : Expression Note
a_class = judged nat (p.Block (p.Then false (note 0 an_empty_object) (p.Class (token 0 (codes "C")) (record { generics = []; parameters = p.Nil; result = None }) p.End) (evaluated one p.End)))

abbrev pub declarations : List Row
declarations =
    row a_function
    (at function (F.Block (roll-Step (F.Functions (roll-Function (record {
      sort = sort.Local;
      type_parameters = [];
      nodes = 4;
      parameters = a_name ∷ [];
      body = at nat (F.Do (action.Operate (op.Arithmetic operator.Add kind.Nat)) (name_of nat 0 ∷ at nat (F.Do action.Read (name_of nat 2 ∷ [])) ∷ []));
    }) ∷ [])) ∷ []) (name_of function 0)))
    ∷ row an_object_block
    (at an_object (F.Block (roll-Step (F.Let a_name one_there) ∷ []) (at an_object (F.Do (action.Operate (op.MakeObject (codes "x" ∷ []))) (name_of nat 0 ∷ [])))))
    ∷ row a_list
    (at nat (F.Block
    (roll-Step (F.Let a_name (at nat (F.Do action.Read (name_of nat 0 ∷ [])))) ∷
    roll-Step (F.Functions (roll-Function (record { sort = sort.Local; type_parameters = []; nodes = 2; parameters = a_name ∷ []; body = name_of nat 2 }) ∷ [])) ∷
    roll-Step (F.Let a_name one_there) ∷ [])
    (at nat (F.Do action.Call (name_of function 1 ∷ one_there ∷ [])))))
    ∷ row a_class
    (at nat (F.Block
    (roll-Step (F.Functions (roll-Function (record {
      sort = sort.Local;
      type_parameters = [];
      nodes = 1;
      parameters = [];
      body = at an_empty_object (F.Block [] (at an_empty_object (F.Do (action.Operate (op.MakeObject [])) [])));
    }) ∷ [])) ∷ []) one_there))
    ∷ []
