-- Which states of Core's machine belong to those of the machine of typed programs, by the frames of the stack (Motoko language manual,
-- section "Expressions and declarations").
use Rattle.std.specs.Prelude.{◌≡◌, ℕ, zero, suc, ◌+◌, ◌*◌, ◌≤◌, Bool, true, false, List, [], ◌∷◌, ◌++◌, length, Option, Some, None, slice_get, slice_set, pos}
use Rattle.mo_types.specs.declared.datum.Datum.TheVariants as part
use Rattle.mo_num.specs.declared.kind.Kind.TheVariants as kind
use Rattle.mo_num.specs.declared.operator.Operator.TheVariants as operator
use Rattle.mo_values.specs.declared.operation.Operation.{Operation}
use Rattle.mo_values.specs.declared.operation.Operation.TheVariants as op
use Rattle.mo_values.specs.Costs.{weighing}
use Rattle.mo_values.specs.Operations.{operate}
use Rattle.mo_values.specs.Shapes as shape
use Rattle.mo_values.specs.Shapes.{Cell, unit}
use Rattle.core_ir.specs.Choices.{on_some}
use Rattle.core_ir.specs.Primitives as primitives
use Rattle.core_ir.specs.Primitives.{advanced}
use Rattle.core_ir.specs.declared.primitive.Constructor.TheVariants as constructor
use Rattle.core_ir.specs.declared.primitive.Primitive.TheVariants as primitive
use Rattle.core_ir.specs.Programs.{Group}
use Rattle.core_ir.specs.Values as core_value
use Rattle.core_ir.specs.Worlds.{MadeGroup, World, Context}
use Rattle.core_ir.specs.Executions.{Replies, Ends, heavier}
use Rattle.core_ir.specs.Gatherings.{Gathering}
use Rattle.core_ir.specs.Expressions as core
use Rattle.core_ir.specs.Expressions.{Loop, NoExp, AnExp, Choose, Match, Bind, Break, Body, Core}
use Rattle.core_ir.specs.CoreMachine as core_machine
use Rattle.core_ir.specs.CoreMachine.{Arguments, Looping, Caller, Join, Did, focused, operated, act, gather, depth_of}
use Rattle.typed_tree.specs.declared.action.Action.{Action}
use Rattle.typed_tree.specs.declared.action.Action.TheVariants as action
use Rattle.typed_tree.specs.declared.action.Member.{Member}
use Rattle.typed_tree.specs.declared.action.Member.TheVariants as member
use Rattle.typed_tree.specs.Patterns.{Pat, Wildcard}
use Rattle.typed_tree.specs.Language as source
use Rattle.typed_tree.specs.Language.{Exp, Exps, Cases, Functions, NoCase, ACase, Val, While, Repeat, true_value, then}
use Rattle.typed_tree.specs.Substitution.{count}
use Rattle.mo_meaning.specs.Reduce.{turn_cases}
use Rattle.mo_machine.specs.Values as machine_value
use Rattle.mo_machine.specs.Values.{Value, Values, BuiltIn, NoValue, AValue, leaf, listed}
use Rattle.mo_machine.specs.Environments.{Environment, at}
use Rattle.mo_machine.specs.Acts.{Store, Goes, Stuck}
use Rattle.mo_machine.specs.Configurations.{live_state}
use Rattle.mo_machine.specs.Measure.{measure}
use Rattle.mo_machine.specs.Members.{calls_code}
use Rattle.mo_machine.specs.Moves.{Moved, Reduces, move}
use Rattle.mo_machine.specs.Reductions.{reduces}
use Rattle.mo_machine.specs.Frames as machine
use Rattle.mo_machine.specs.Frames.{Operands, Choosing, Switching, Returning, Testing, Turning, Repeating, Retesting, Going, Stepping, Updating, Joining, Stack, Ready}
use Rattle.elaboration.specs.Scopes.{Place, Scope, one, two, append, nothing, beside, inside, under}
use Rattle.elaboration.specs.Checks.{around_all, behind, fails}
use Rattle.elaboration.specs.Members.{form_of, number_of, function_of, let_in, does}
use Rattle.elaboration.specs.Elaboration.{break_with, if_true, goal_of, next_of, on_nearest, element_of}
use Rattle.elaboration.specs.Meeting.{Reads, Joins, Comes}
use Rattle.elaboration_forms.specs.Elaborates.{May, HasGroups, unseen, Elaborates, ElaboratesAll, ElaboratesCases, ElaboratesFunctions, ElaboratesOne}
use Rattle.elaboration_values.specs.Belonging.{Known, OfFunctions, OfOne, OfMember, Belongs, EachBelongs, EnvironmentBelongs}

-- frames of Core that a jump passes on its way to a label
abbrev pub Passed : List core_machine.Frame → Type 0
Passed [] = Unit {0}
Passed (Join ∷ k) = Passed k
Passed (Arguments g done rest env ∷ k) = Passed k
Passed (_ ∷ k) = ⊥

-- ---- labels

-- the labels on top of a stack: which of Core's are those of the source, and how many there are
pub record Labels : Type 0 where
  pub exits : List ℕ
  pub count : ℕ

abbrev pub labels_of : Scope → Labels
labels_of s = record { exits = s.exits; count = s.labels }

abbrev pub no_labels : Labels
no_labels = record { exits = []; count = 0 }

-- under a label of both, and under one of Core alone
abbrev pub with_label : Labels → Labels
with_label l = record { exits = l.count ∷ l.exits; count = suc l.count }

abbrev pub with_own_label : Labels → Labels
with_own_label l = record { exits = l.exits; count = suc l.count }

-- under these labels, with a name for each of these values
abbrev pub scope : List Place → Labels → List core_value.Value → Scope
scope places l vals = record { places = places; names = length vals; exits = l.exits; labels = l.count }

abbrev pub goal_at : Labels → Action → core.Goal
goal_at l a = goal_of (scope [] l []) a

-- an action that is a goal, where it may stand
abbrev pub IsGoal : Bool → Action → Type 0
IsGoal b (action.BuiltIn m) = ⊥
IsGoal b a = May b a

-- built-in functions that are one operation or a print
abbrev pub row_of : Member → Option Action
row_of member.DebugPrint = Some action.Print
row_of member.DebugTrap = Some (action.Operate op.Trap)
row_of member.ErrorReject = Some (action.Operate op.RejectError)
row_of member.ErrorMessage = Some (action.Operate op.Message)
row_of member.ErrorCode = Some (action.Operate op.Code)
row_of member.NatToText = Some (action.Operate (op.ToText kind.Nat))
row_of member.IntToText = Some (action.Operate (op.ToText kind.Int))
row_of member.PrincipalFromActor = Some (action.Operate op.PrincipalOf)
row_of member.ArraySize = Some (action.Operate op.ArraySize)
row_of member.TextSize = Some (action.Operate op.TextSize)
row_of _ = None

-- those that hold nothing, and take one argument
abbrev pub alone : Member → Option Action
alone member.ArraySize = None
alone member.TextSize = None
alone m = row_of m

-- what an operation pays besides its own step
abbrev pub spare : Action → ℕ
spare (action.Operate o) = 1
spare _ = 0

-- ---- code whose names have their values

-- `op=` behind its place, and the turns of loops
abbrev pub update_with : Operation → core.Exp → core.Exp
update_with o c = does primitive.Write (two (core.Name 0) (does (primitive.Operate o) (two (does primitive.Read (one (core.Name 0))) c)))

abbrev pub while_of : core.Exp → core.Exp → core.Exp
while_of c d = let_in (if_true c nothing (break_with nothing)) d

abbrev pub endless_of : core.Exp → core.Exp
endless_of d = let_in nothing d

abbrev pub repeat_of : core.Exp → core.Exp → core.Exp
repeat_of d c = let_in d (if_true c nothing (break_with nothing))

-- a turn of a `for`, with what is done with an element; and the cases of its body, behind which a truth value comes
abbrev pub turn_with : core.Exp → core.Exp
turn_with c = let_in element_of c

abbrev pub body_cases : Cases
body_cases = ACase Wildcard (Val true_value) NoCase

-- the test of a loop without an end
abbrev pub truth : Exp
truth = Val (source.leaf (part.Flag true))

-- elements that are made one after another, of the values of these names
pub data Making (a : Action) (e : Environment) : Exps → List Value → Type 0 where
  NoMore : Making a e source.NoExp []
  OneMore : (x : ℕ) (v : Value) (es : Exps) (vs : List Value) → at e x ≡ Some v → Making a e es vs → Making a e (source.AnExp (source.Do a (source.AnExp (source.Name x) source.NoExp)) es) (v ∷ vs)

-- cells from a number on, one for each of these values
abbrev pub cells_at : ℕ → List Value → List Value
cells_at n [] = []
cells_at n (v ∷ vs) = machine_value.Made (Cell n) NoValue ∷ cells_at (suc n) vs

abbrev pub making_array : Action
making_array = action.Operate op.MakeArray

-- a function makes the elements of an array: those that there are, and so many calls more, of which the first is with this number
abbrev pub gathering_on : Value → List Value → (next left : ℕ) → Stack → Stack
gathering_on f done next left k = Operands making_array done (calls_code next left) (AValue f NoValue) ∷ Returning 0 ∷ k

abbrev pub gathering_of : core_value.Value → List core_value.Value → (next left : ℕ) → Gathering
gathering_of f done next left = record { function = f; next = next; remaining = left; done = done }

-- these cells hold these values
abbrev pub HeldEach : primitives.Store → List core_value.Value → List core_value.Value → Type 0
HeldEach store [] [] = Unit {0}
HeldEach store (c ∷ cs) (w ∷ ws) = (primitives.held store (core_value.cell_of c) ≡ Some w) × HeldEach store cs ws
HeldEach store _ _ = ⊥

-- `next` of an iterator over a text that has a further character: behind the writing of the place this is put into an option
abbrev pub option_of : ℕ → Exp
option_of c = source.Do (action.Operate op.MakeOption) (source.AnExp (Val (source.leaf (part.Char c))) source.NoExp)

abbrev pub behind_place : ℕ → Value → Stack → Stack
behind_place c place k = Switching (ACase Wildcard (option_of c) NoCase) (AValue place NoValue) ∷ Returning 0 ∷ k

-- so many ends of branches, and a truth value on its way to what stands around them
abbrev pub joinings : ℕ → Stack → Stack
joinings zero k = k
joinings (suc n) k = Joining ∷ joinings n k

pub data Passing (t : Bool) (k : Stack) : machine.Focus → Stack → Type 0 where
  Written : (n : ℕ) (env : Environment) → Passing t k (machine.Eval (Val (source.leaf (part.Flag t))) env) (joinings n k)
  Arrived : (n : ℕ) → Passing t k (machine.Give (leaf (part.Flag t))) (joinings n k)

-- what a built-in function holds stands in the names of these levels
module _ (known : List Known) where
  abbrev pub HeldAt : List core_value.Value → List ℕ → List Value → Type 0
  HeldAt env [] [] = Unit {0}
  HeldAt env (level ∷ levels) (v ∷ vs) = ((w : core_value.Value) × Reads env level w × Belongs known v w) × HeldAt env levels vs
  HeldAt env _ _ = ⊥

-- labels and handlers that are open: Core has paid for each where it was entered, and the source pays where it is left
abbrev pub owed : Stack → ℕ
owed [] = 0
owed (machine.Labelled ∷ k) = suc (owed k)
owed (machine.Trying p b env ∷ k) = suc (owed k)
owed (_ ∷ k) = owed k

-- it falls where Core stands still
abbrev pub further : machine.Focus → ℕ
further (Ready action.Call (BuiltIn m holds ∷ vs)) = 3
further (Ready a vs) = 1
further _ = 0

abbrev pub rank : machine.Focus → Stack → ℕ
rank f k = 4 * measure f k + length k + further f

module _ (table : List (Group Body)) (known : List Known) (globals : List core_value.Value) where
  pub record Coded (b : Bool) (l : Labels) (e : Exp) (env : Environment) (c : core.Exp) (vals : List core_value.Value) : Type 0 where
    pub places : List Place
    pub code : Elaborates table b (scope places l vals) e c
    pub names : EnvironmentBelongs known globals places env vals

  pub record CodedAll (b : Bool) (l : Labels) (es : Exps) (env : Environment) (cs : core.Exps) (vals : List core_value.Value) : Type 0 where
    pub places : List Place
    pub code : ElaboratesAll table b (scope places l vals) es cs
    pub names : EnvironmentBelongs known globals places env vals

  -- behind a name of Core alone, which comes next
  pub record CodedBeside (b : Bool) (l : Labels) (e : Exp) (env : Environment) (c : core.Exp) (vals : List core_value.Value) : Type 0 where
    pub places : List Place
    pub code : Elaborates table b (beside 1 (scope places l vals)) e c
    pub names : EnvironmentBelongs known globals places env vals

  -- a pattern on the next name, and what stands behind it
  pub record CodedPattern (b : Bool) (l : Labels) (p : Pat) (e : Exp) (env : Environment) (c : core.Exp) (vals : List core_value.Value) : Type 0 where
    pub places : List Place
    pub body : core.Exp
    pub code : Elaborates table b (behind (on_nearest p (scope places l vals)) (scope places l vals)) e body
    pub is : c ≡ around_all (on_nearest p (scope places l vals)).checks fails body
    pub names : EnvironmentBelongs known globals places env vals

  -- the same under a name and a label of Core alone
  pub record CodedTurn (b : Bool) (l : Labels) (p : Pat) (e : Exp) (env : Environment) (c : core.Exp) (vals : List core_value.Value) : Type 0 where
    pub places : List Place
    pub body : core.Exp
    pub code : Elaborates table b (inside (behind (on_nearest p (beside 1 (scope places l vals))) (scope places l vals))) e body
    pub is : c ≡ around_all (on_nearest p (beside 1 (scope places l vals))).checks fails body
    pub names : EnvironmentBelongs known globals places env vals

  -- the cases of a switch on the next name
  pub record CodedCases (b : Bool) (l : Labels) (cases : Cases) (env : Environment) (c : core.Exp) (vals : List core_value.Value) : Type 0 where
    pub places : List Place
    pub code : ElaboratesCases table b (length vals) (inside (beside 1 (scope places l vals))) cases c
    pub names : EnvironmentBelongs known globals places env vals

  -- ---- stacks

  -- Held is Core's weight to come on ends that cost nothing in the source. In functions of the program nothing waits, nor throws; the
  -- body that was entered has so many nodes.
  pub data StackBelongs (nodes : ℕ) : Bool → Labels → ℕ → Stack → List core_machine.Frame → Type 0 where
    Bottom : (b : Bool) (held : ℕ) (joins : List core_machine.Frame) → Joins joins → StackBelongs nodes b no_labels held (Returning nodes ∷ []) (joins ++ [])
    InFunction : (n : ℕ) (b : Bool) (l : Labels) (held : ℕ) (k : Stack) (joins ck : List core_machine.Frame)
        → Joins joins → StackBelongs nodes b l held k ck → StackBelongs nodes false no_labels held (Returning n ∷ k) (joins ++ (Caller n None ∷ ck))
    -- the function makes an element of an array
    InGathering : (n : ℕ) (b : Bool) (l : Labels) (held : ℕ) (f : Value) (h : core_value.Value) (done : List Value) (before : List core_value.Value) (next left : ℕ) (k : Stack) (joins ck : List core_machine.Frame)
        → Joins joins → Belongs known f h → EachBelongs known done before → StackBelongs nodes b l held k ck
        → StackBelongs nodes false no_labels held (Returning n ∷ gathering_on f done next left k) (joins ++ (Caller n (Some (gathering_of h before next left)) ∷ Caller 0 None ∷ ck))
    InOperands : (b : Bool) (l : Labels) (held : ℕ) (a : Action) (done : List Value) (rest : Exps) (env : Environment) (k : Stack) (before : List core_value.Value) (later : core.Exps) (vals : List core_value.Value) (ck : List core_machine.Frame)
        → IsGoal b a → EachBelongs known done before → CodedAll b l rest env later vals → StackBelongs nodes b l held k ck
        → StackBelongs nodes b l held (Operands a done rest env ∷ k) (Arguments (goal_at l a) before later vals ∷ ck)
    -- a built-in function and its arguments, in one: what it holds, and then these
    InMaking : (b : Bool) (l : Labels) (held : ℕ) (m : Member) (a : Action) (done : List Value) (rest args : Exps) (env : Environment) (k : Stack) (before : List core_value.Value) (later arguments : core.Exps) (vals : List core_value.Value) (ck : List core_machine.Frame)
        → row_of m ≡ Some a → EachBelongs known done before → CodedAll b l rest env later vals → CodedAll b l args env arguments vals → StackBelongs nodes b l held k ck
        → StackBelongs nodes b l held (Operands (action.BuiltIn m) done rest env ∷ Operands action.Call [] args env ∷ k) (Arguments (goal_at l a) before (append later arguments) vals ∷ ck)
    InCalling : (b : Bool) (l : Labels) (held : ℕ) (m : Member) (a : Action) (holds : Values) (done : List Value) (rest : Exps) (env : Environment) (k : Stack) (before : List core_value.Value) (later : core.Exps) (vals : List core_value.Value) (ck : List core_machine.Frame)
        → row_of m ≡ Some a → EachBelongs known (listed holds ++ done) before → CodedAll b l rest env later vals → StackBelongs nodes b l held k ck
        → StackBelongs nodes b l held (Operands action.Call (BuiltIn m holds ∷ done) rest env ∷ k) (Arguments (goal_at l a) before later vals ∷ ck)
    -- the last operand of a built-in function that is a value
    InHolding : (b : Bool) (l : Labels) (held : ℕ) (m : Member) (done : List Value) (env : Environment) (k : Stack) (n : ℕ) (levels : List ℕ) (vals : List core_value.Value) (ck : List core_machine.Frame)
        → HeldAt known vals levels done → HasGroups table n (function_of (form_of m) (suc (length vals)) (levels ++ length vals ∷ []) n).groups → StackBelongs nodes b l held k ck
        → StackBelongs nodes b l held (Operands (action.BuiltIn m) done source.NoExp env ∷ k) (Arguments (Bind (core.Functions (number_of (form_of m) n) (core.Name 0))) [] NoExp vals ∷ ck)
    InChoosing : (b : Bool) (l : Labels) (held : ℕ) (x y : Exp) (env : Environment) (k : Stack) (c d : core.Exp) (vals : List core_value.Value) (ck : List core_machine.Frame)
        → Coded b l x env c vals → Coded b l y env d vals → StackBelongs nodes b l held k ck
        → StackBelongs nodes b l held (Choosing x y env ∷ k) (Arguments (Choose primitive.Copy c d) [] NoExp vals ∷ ck)
    -- one case, which stands around nothing else
    InLet : (b : Bool) (l : Labels) (held : ℕ) (p : Pat) (e : Exp) (env : Environment) (k : Stack) (c : core.Exp) (vals : List core_value.Value) (ck : List core_machine.Frame)
        → CodedPattern b l p e env c vals → StackBelongs nodes b l held k ck
        → StackBelongs nodes b l held (Switching (ACase p e NoCase) env ∷ k) (Arguments (Bind c) [] NoExp vals ∷ ck)
    InSwitch : (b : Bool) (l : Labels) (held : ℕ) (cases : Cases) (env : Environment) (k : Stack) (c : core.Exp) (vals : List core_value.Value) (ck : List core_machine.Frame)
        → CodedCases b l cases env c vals → StackBelongs nodes b l held k ck
        → StackBelongs nodes b l held (Switching cases env ∷ k) (Arguments (Bind (core.Label c)) [] NoExp vals ∷ ck)
    InLabel : (b : Bool) (l : Labels) (held : ℕ) (k : Stack) (ck : List core_machine.Frame)
        → StackBelongs nodes b l held k ck → StackBelongs nodes b (with_label l) held (machine.Labelled ∷ k) (core_machine.Labelled ∷ ck)
    InTesting : (b : Bool) (l : Labels) (held : ℕ) (x y : Exp) (env : Environment) (k : Stack) (c d : core.Exp) (vals : List core_value.Value) (ck : List core_machine.Frame)
        → Coded b (with_own_label l) x env c vals → CodedBeside b (with_own_label l) y env d vals → StackBelongs nodes b l held k ck
        → StackBelongs nodes b (with_own_label l) held (Testing x y env ∷ k)
        (Arguments (Choose primitive.Copy nothing (break_with nothing)) [] NoExp vals ∷ Arguments (Bind d) [] NoExp vals ∷ Looping (while_of c d) vals ∷ core_machine.Labelled ∷ ck)
    InTurning : (b : Bool) (l : Labels) (held : ℕ) (x y : Exp) (env : Environment) (k : Stack) (c d : core.Exp) (vals : List core_value.Value) (ck : List core_machine.Frame)
        → Coded b (with_own_label l) x env c vals → CodedBeside b (with_own_label l) y env d vals → StackBelongs nodes b l held k ck
        → StackBelongs nodes b (with_own_label l) held (Turning x y env ∷ k) (Looping (while_of c d) vals ∷ core_machine.Labelled ∷ ck)
    InEndless : (b : Bool) (l : Labels) (held : ℕ) (y : Exp) (env : Environment) (k : Stack) (d : core.Exp) (vals : List core_value.Value) (ck : List core_machine.Frame)
        → CodedBeside b l y env d vals → StackBelongs nodes b l held k ck → StackBelongs nodes b l held (Turning truth y env ∷ k) (Looping (endless_of d) vals ∷ ck)
    InRepeating : (b : Bool) (l : Labels) (held : ℕ) (y x : Exp) (env : Environment) (k : Stack) (d c : core.Exp) (vals : List core_value.Value) (ck : List core_machine.Frame)
        → Coded b (with_own_label l) y env d vals → CodedBeside b (with_own_label l) x env c vals → StackBelongs nodes b l held k ck
        → StackBelongs nodes b (with_own_label l) held (Repeating y x env ∷ k) (Arguments (Bind (if_true c nothing (break_with nothing))) [] NoExp vals ∷ Looping (repeat_of d c) vals ∷ core_machine.Labelled ∷ ck)
    InRetesting : (b : Bool) (l : Labels) (held : ℕ) (y x : Exp) (env : Environment) (k : Stack) (d c : core.Exp) (v : core_value.Value) (vals : List core_value.Value) (ck : List core_machine.Frame)
        → Coded b (with_own_label l) y env d vals → CodedBeside b (with_own_label l) x env c vals → StackBelongs nodes b l held k ck
        → StackBelongs nodes b (with_own_label l) held (Retesting y x env ∷ k) (Arguments (Choose primitive.Copy nothing (break_with nothing)) [] NoExp (v ∷ vals) ∷ Looping (repeat_of d c) vals ∷ core_machine.Labelled ∷ ck)
    InTry : (l : Labels) (held : ℕ) (p : Pat) (e : Exp) (env : Environment) (k : Stack) (c : core.Exp) (vals : List core_value.Value) (ck : List core_machine.Frame)
        → CodedPattern true l p e env c vals → StackBelongs nodes true l held k ck
        → StackBelongs nodes true l held (machine.Trying p e env ∷ k) (core_machine.Trying c vals ∷ ck)
    InUpdating : (b : Bool) (l : Labels) (held : ℕ) (o : Operation) (e : Exp) (env : Environment) (k : Stack) (c : core.Exp) (vals : List core_value.Value) (ck : List core_machine.Frame)
        → CodedBeside b l e env c vals → StackBelongs nodes b l held k ck
        → StackBelongs nodes b l held (Updating o e env ∷ k) (Arguments (Bind (update_with o c)) [] NoExp vals ∷ ck)
    InGoing : (b : Bool) (l : Labels) (held : ℕ) (p : Pat) (e : Exp) (env : Environment) (k : Stack) (c : core.Exp) (vals : List core_value.Value) (ck : List core_machine.Frame)
        → CodedTurn b l p e env c vals → StackBelongs nodes b l held k ck
        → StackBelongs nodes b l held (Going p e env ∷ k) (Arguments (Bind (core.Label (Loop (turn_with c)))) [] NoExp vals ∷ ck)
    -- whether there is a further element, and the value of the body
    InTurn : (b : Bool) (l : Labels) (held : ℕ) (p : Pat) (e : Exp) (env : Environment) (v : Value) (k : Stack) (c : core.Exp) (w : core_value.Value) (vals : List core_value.Value) (ck : List core_machine.Frame)
        → Belongs known v w → CodedPattern b (with_own_label l) p e env c (w ∷ vals) → StackBelongs nodes b l held k ck
        → StackBelongs nodes b (with_own_label l) held (Switching (turn_cases p e) env ∷ Stepping p v e env ∷ k)
        (Arguments (Match constructor.Present (core.Name 0) (break_with nothing)) [] NoExp (w ∷ vals) ∷ Arguments (Bind c) [] NoExp (w ∷ vals) ∷ Looping (turn_with c) (w ∷ vals) ∷ core_machine.Labelled ∷ ck)
    InBody : (b : Bool) (l : Labels) (held : ℕ) (p : Pat) (e : Exp) (env inner : Environment) (v : Value) (k : Stack) (c : core.Exp) (w : core_value.Value) (vals : List core_value.Value) (joins ck : List core_machine.Frame)
        → Joins joins → Belongs known v w → CodedPattern b (with_own_label l) p e env c (w ∷ vals) → StackBelongs nodes b l held k ck
        → StackBelongs nodes b (with_own_label l) held (Switching body_cases inner ∷ Joining ∷ Stepping p v e env ∷ k) (joins ++ (Looping (turn_with c) (w ∷ vals) ∷ core_machine.Labelled ∷ ck))
    -- the end of a branch
    InBranch : (b : Bool) (l : Labels) (held : ℕ) (k : Stack) (joins ck : List core_machine.Frame)
        → Joins joins → StackBelongs nodes b l held k ck → StackBelongs nodes b l held (Joining ∷ k) (joins ++ ck)
    -- the end of a case, which leaves the label of its switch
    InCase : (b : Bool) (l : Labels) (held less : ℕ) (k : Stack) (vals : List core_value.Value) (skips ck : List core_machine.Frame)
        → Passed skips → suc less ≤ held → StackBelongs nodes b l less k ck
        → StackBelongs nodes b (with_own_label l) held (Joining ∷ k) (Arguments (Break 0) [] NoExp vals ∷ (skips ++ (core_machine.Labelled ∷ ck)))

  -- ---- what was made

  pub record FunctionsBelong (fns : Functions) (env : Environment) (made : MadeGroup) : Type 0 where
    pub places : List Place
    pub labels : Labels
    pub bodies : List Body
    pub there : slice_get table made.code ≡ Some (record { sees = length made.seen; bodies = bodies })
    pub code : ElaboratesFunctions table (under (count fns) (scope places labels made.seen)) fns bodies
    pub names : EnvironmentBelongs known globals places env made.seen

  -- one function of a group, made alone
  pub record OneBelongs (fns : Functions) (i : ℕ) (env : Environment) (made : MadeGroup) : Type 0 where
    pub places : List Place
    pub labels : Labels
    pub body : Body
    pub there : slice_get table made.code ≡ Some (record { sees = length made.seen; bodies = body ∷ [] })
    pub code : ElaboratesOne table (unseen (count fns) (scope places labels made.seen)) fns i body
    pub names : EnvironmentBelongs known globals places env made.seen

  -- a built-in function as a value: a group of one function
  pub record MemberBelongs (m : Member) (holds : Values) (made : MadeGroup) : Type 0 where
    pub n : ℕ
    pub levels : List ℕ
    pub held : HeldAt known made.seen levels (listed holds)
    pub there : HasGroups table n (function_of (form_of m) (length made.seen) levels n).groups
    pub code : made.code ≡ number_of (form_of m) n

  abbrev pub GroupBelongs : Known → MadeGroup → Type 0
  GroupBelongs (OfFunctions fns env) made = FunctionsBelong fns env made
  GroupBelongs (OfOne fns i env) made = OneBelongs fns i env made
  GroupBelongs (OfMember m holds) made = MemberBelongs m holds made

  pub record GroupsBelong (made : List MadeGroup) : Type 0 where
    pub as_many : length made ≡ length known
    pub each : (i : ℕ) (k : Known) → slice_get known i ≡ Some k → (m : MadeGroup) × (slice_get made i ≡ Some m) × GroupBelongs k m

  pub record WorldBelongs (store : Store) (world : World) : Type 0 where
    pub cells : EachBelongs known store world.store
    pub groups : GroupsBelong world.groups

-- ---- states

module _ (program : Core) (context : Context) (nodes : ℕ) (world : World) (known : List Known) where
  abbrev pub Code : Bool → Labels → Exp → Environment → core.Exp → List core_value.Value → Type 0
  Code = Coded program.groups known context.globals

  abbrev pub Around : Bool → Labels → ℕ → Stack → List core_machine.Frame → Type 0
  Around = StackBelongs program.groups known context.globals nodes

  -- Core stands before what the action does, or comes there by steps that are paid
  pub record Acting (held : ℕ) (a : Action) (vs : List Value) (k : Stack) (f : core_machine.Focus) (ck : List core_machine.Frame) : Type 0 where
    pub b : Bool
    pub l : Labels
    pub values : List core_value.Value
    pub vals : List core_value.Value
    pub weight : ℕ
    pub less : ℕ
    pub f' : core_machine.Focus
    pub ck' : List core_machine.Frame
    pub others : List core_machine.Frame
    pub arguments : EachBelongs known vs values
    pub may : IsGoal b a
    pub path : Comes program context nodes world weight f ck f' ck'
    pub acts : focused program context nodes world f' ck' ≡ act program context nodes world (goal_at l a) values vals others
    pub level : depth_of ck' ≡ depth_of others
    pub paid : weight + less ≤ held + spare a
    pub around : Around b l less k others

  -- what comes behind values that stand ready: further operands, or what is done
  abbrev pub with_operands : core.Goal → List core_value.Value → core.Exps → List core_value.Value → List core_machine.Frame → Did
  with_operands goal values NoExp vals k = act program context nodes world goal values vals k
  with_operands goal values (AnExp e es) vals k = core_machine.move program context nodes world (core_machine.Eval e vals) (Arguments goal values es vals ∷ k)

  -- what a built-in function holds stands ready
  pub record Calling (held : ℕ) (m : Member) (vs : List Value) (args : Exps) (env : Environment) (k : Stack) (f : core_machine.Focus) (ck : List core_machine.Frame) : Type 0 where
    pub b : Bool
    pub l : Labels
    pub a : Action
    pub values : List core_value.Value
    pub arguments : core.Exps
    pub vals : List core_value.Value
    pub others : List core_machine.Frame
    pub row : row_of m ≡ Some a
    pub belongs : EachBelongs known vs values
    pub code : CodedAll program.groups known context.globals b l args env arguments vals
    pub acts : focused program context nodes world f ck ≡ with_operands (goal_at l a) values arguments vals others
    pub level : depth_of ck ≡ depth_of others
    pub around : Around b l held k others

  -- and its arguments
  pub record Applied (held : ℕ) (a : Action) (vs : List Value) (k : Stack) (f : core_machine.Focus) (ck : List core_machine.Frame) : Type 0 where
    pub b : Bool
    pub l : Labels
    pub values : List core_value.Value
    pub vals : List core_value.Value
    pub others : List core_machine.Frame
    pub belongs : EachBelongs known vs values
    pub acts : focused program context nodes world f ck ≡ act program context nodes world (goal_at l a) values vals others
    pub level : depth_of ck ≡ depth_of others
    pub around : Around b l held k others

  -- what a built-in function holds has its names, or will have
  pub record Holding (held : ℕ) (m : Member) (vs : List Value) (k : Stack) (f : core_machine.Focus) (ck : List core_machine.Frame) : Type 0 where
    pub b : Bool
    pub l : Labels
    pub n : ℕ
    pub levels : List ℕ
    pub vals : List core_value.Value
    pub weight : ℕ
    pub others : List core_machine.Frame
    pub inside : HeldAt known vals levels vs
    pub there : HasGroups program.groups n (function_of (form_of m) (length vals) levels n).groups
    pub path : Comes program context nodes world weight f ck (core_machine.Eval (core.Functions (number_of (form_of m) n) (core.Name 0)) vals) others
    pub light : weight ≤ 1
    pub around : Around b l held k others

  pub data StateBelongs (held : ℕ) : machine.Focus → Stack → core_machine.Focus → List core_machine.Frame → Type 0 where
    AtCode : (b : Bool) (l : Labels) (e : Exp) (env : Environment) (k : Stack) (c : core.Exp) (vals : List core_value.Value) (ck : List core_machine.Frame)
        → Code b l e env c vals → Around b l held k ck → StateBelongs held (machine.Eval e env) k (core_machine.Eval c vals) ck
    -- a loop goes on
    AtWhile : (b : Bool) (l : Labels) (x y : Exp) (env : Environment) (k : Stack) (c d : core.Exp) (vals : List core_value.Value) (ck : List core_machine.Frame)
        → Code b (with_own_label l) x env c vals → CodedBeside program.groups known context.globals b (with_own_label l) y env d vals → Around b l held k ck
        → StateBelongs held (machine.Eval (While x y) env) k (core_machine.Eval (while_of c d) vals) (Looping (while_of c d) vals ∷ core_machine.Labelled ∷ ck)
    -- one without an end: again, and where its test is to come
    AtEndless : (b : Bool) (l : Labels) (y : Exp) (env : Environment) (k : Stack) (d : core.Exp) (vals : List core_value.Value) (ck : List core_machine.Frame)
        → CodedBeside program.groups known context.globals b l y env d vals → Around b l held k ck
        → StateBelongs held (machine.Eval (While truth y) env) k (core_machine.Eval (endless_of d) vals) (Looping (endless_of d) vals ∷ ck)
    AtTruth : (b : Bool) (l : Labels) (y : Exp) (env : Environment) (k : Stack) (d : core.Exp) (vals : List core_value.Value) (ck : List core_machine.Frame)
        → CodedBeside program.groups known context.globals b l y env d vals → Around b l held k ck
        → StateBelongs held (machine.Eval truth env) (Testing truth y env ∷ k) (core_machine.Eval nothing vals) (Arguments (Bind d) [] NoExp vals ∷ Looping (endless_of d) vals ∷ ck)
    AtTrue : (b : Bool) (l : Labels) (y : Exp) (env : Environment) (k : Stack) (d : core.Exp) (vals : List core_value.Value) (ck : List core_machine.Frame)
        → CodedBeside program.groups known context.globals b l y env d vals → Around b l held k ck
        → StateBelongs held (machine.Give (leaf (part.Flag true))) (Testing truth y env ∷ k) (core_machine.Give unit) (Arguments (Bind d) [] NoExp vals ∷ Looping (endless_of d) vals ∷ ck)
    AtRepeat : (b : Bool) (l : Labels) (y x : Exp) (env : Environment) (k : Stack) (d c : core.Exp) (vals : List core_value.Value) (ck : List core_machine.Frame)
        → Code b (with_own_label l) y env d vals → CodedBeside program.groups known context.globals b (with_own_label l) x env c vals → Around b l held k ck
        → StateBelongs held (machine.Eval (Repeat y x) env) k (core_machine.Eval (repeat_of d c) vals) (Looping (repeat_of d c) vals ∷ core_machine.Labelled ∷ ck)
    AtAction : (a : Action) (vs : List Value) (k : Stack) (f : core_machine.Focus) (ck : List core_machine.Frame) → Acting held a vs k f ck → StateBelongs held (Ready a vs) k f ck
    AtValue : (b : Bool) (l : Labels) (v : Value) (w : core_value.Value) (k : Stack) (ck : List core_machine.Frame)
        → Belongs known v w → Around b l held k ck → StateBelongs held (machine.Give v) k (core_machine.Give w) ck
    -- the last value, which Core pays for
    AtEnd : (v : Value) (w : core_value.Value) (f : core_machine.Focus) (ck : List core_machine.Frame)
        → Belongs known v w → focused program context nodes world f ck ≡ Ends (weighing 1) [] world (Replies w) → 1 ≤ held → depth_of ck ≡ 0 → StateBelongs held (machine.Give v) [] f ck
    -- a turn of a `for`: its body, the truth value behind it, and the object again
    AtBody : (b : Bool) (l : Labels) (p : Pat) (e : Exp) (env inner : Environment) (v : Value) (k : Stack) (c d : core.Exp) (w : core_value.Value) (vals vals' : List core_value.Value) (joins ck : List core_machine.Frame)
        → Joins joins → Belongs known v w → CodedPattern program.groups known context.globals b (with_own_label l) p e env c (w ∷ vals) → Code b (with_own_label l) e inner d vals' → Around b l held k ck
        → StateBelongs held (machine.Eval (then e (Val true_value)) inner) (Joining ∷ Stepping p v e env ∷ k) (core_machine.Eval d vals') (joins ++ (Looping (turn_with c) (w ∷ vals) ∷ core_machine.Labelled ∷ ck))
    AtTurned : (b : Bool) (l : Labels) (p : Pat) (e : Exp) (env : Environment) (v : Value) (k : Stack) (c : core.Exp) (w : core_value.Value) (vals : List core_value.Value) (ck : List core_machine.Frame) (f : machine.Focus) (more : Stack)
        → Passing true (Stepping p v e env ∷ k) f more → Belongs known v w → CodedPattern program.groups known context.globals b (with_own_label l) p e env c (w ∷ vals) → Around b l held k ck
        → StateBelongs held f more (core_machine.Eval (turn_with c) (w ∷ vals)) (Looping (turn_with c) (w ∷ vals) ∷ core_machine.Labelled ∷ ck)
    AtGoing : (b : Bool) (l : Labels) (p : Pat) (e : Exp) (env : Environment) (v : Value) (k : Stack) (c : core.Exp) (w : core_value.Value) (vals : List core_value.Value) (ck : List core_machine.Frame)
        → Belongs known v w → CodedPattern program.groups known context.globals b (with_own_label l) p e env c (w ∷ vals) → Around b l held k ck
        → StateBelongs held (machine.Give v) (Going p e env ∷ k) (core_machine.Eval (next_of (core.Name 0)) (w ∷ vals))
        (Arguments (Match constructor.Present (core.Name 0) (break_with nothing)) [] NoExp (w ∷ vals) ∷ Arguments (Bind c) [] NoExp (w ∷ vals) ∷ Looping (turn_with c) (w ∷ vals) ∷ core_machine.Labelled ∷ ck)
    -- its end, where Core has left already
    AtLeft : (b : Bool) (l : Labels) (p : Pat) (e : Exp) (env : Environment) (v : Value) (k : Stack) (ck : List core_machine.Frame) (f : machine.Focus) (more : Stack)
        → Passing false (Stepping p v e env ∷ k) f more → Around b l held k ck → StateBelongs held f more (core_machine.Give unit) ck
    -- a call of a built-in function: before its operands, behind those, as a value, where it is called, inside it, and its value
    AtCallee : (b : Bool) (l : Labels) (m : Member) (a : Action) (es args : Exps) (env : Environment) (k : Stack) (later arguments : core.Exps) (vals : List core_value.Value) (ck : List core_machine.Frame)
        → row_of m ≡ Some a → CodedAll program.groups known context.globals b l es env later vals → CodedAll program.groups known context.globals b l args env arguments vals → Around b l held k ck
        → StateBelongs held (machine.Eval (source.Do (action.BuiltIn m) es) env) (Operands action.Call [] args env ∷ k) (core_machine.Eval (core.Do (goal_at l a) (append later arguments)) vals) ck
    AtMaking : (m : Member) (vs : List Value) (args : Exps) (env : Environment) (k : Stack) (f : core_machine.Focus) (ck : List core_machine.Frame)
        → Calling held m vs args env k f ck → StateBelongs held (Ready (action.BuiltIn m) vs) (Operands action.Call [] args env ∷ k) f ck
    AtMade : (m : Member) (holds : Values) (args : Exps) (env : Environment) (k : Stack) (f : core_machine.Focus) (ck : List core_machine.Frame)
        → Calling held m (listed holds) args env k f ck → StateBelongs held (machine.Give (BuiltIn m holds)) (Operands action.Call [] args env ∷ k) f ck
    AtApplied : (m : Member) (a : Action) (holds : Values) (vs : List Value) (k : Stack) (f : core_machine.Focus) (ck : List core_machine.Frame)
        → row_of m ≡ Some a → Applied held a (listed holds ++ vs) k f ck → StateBelongs held (Ready action.Call (BuiltIn m holds ∷ vs)) k f ck
    AtInner : (m : Member) (a : Action) (vs : List Value) (k : Stack) (f : core_machine.Focus) (ck : List core_machine.Frame)
        → row_of m ≡ Some a → Applied held a vs k f ck → StateBelongs held (Ready a vs) (Returning 0 ∷ k) f ck
    AtBack : (b : Bool) (l : Labels) (v : Value) (w : core_value.Value) (k : Stack) (ck : List core_machine.Frame)
        → Belongs known v w → Around b l held k ck → StateBelongs held (machine.Give v) (Returning 0 ∷ k) (core_machine.Give w) ck
    -- a built-in function is made
    AtFunction : (m : Member) (vs : List Value) (k : Stack) (f : core_machine.Focus) (ck : List core_machine.Frame) → Holding held m vs k f ck → StateBelongs held (Ready (action.BuiltIn m) vs) k f ck
    -- Core has done what comes next, up to its next effect
    Later : (f : machine.Focus) (k : Stack) (g : machine.Focus) (more : Stack) (cf : core_machine.Focus) (ck : List core_machine.Frame)
        → move f k ≡ Moved g more → ((store : Store) → reduces context.head None store f k ≡ Stuck) → suc (rank g more) ≤ rank f k → owed k ≤ owed more → 16 + nodes + depth_of ck ≤ live_state f k
        → StateBelongs held g more cf ck → StateBelongs held f k cf ck
    -- without an effect
    LaterBy : (f : machine.Focus) (k : Stack) (n : ℕ) (g : machine.Focus) (more : Stack) (cf : core_machine.Focus) (ck : List core_machine.Frame)
        → move f k ≡ Reduces → ((store : Store) → reduces context.head None store f k ≡ Goes (weighing n) store g more) → suc (rank g more) ≤ rank f k → owed k ≤ owed more → 16 + nodes + depth_of ck ≤ live_state f k
        → StateBelongs held g more cf ck → StateBelongs held f k cf ck
    -- `next` of an iterator over a text: the place is raised, and written, and behind that
    AtRaising : (b : Bool) (l : Labels) (less w i c : ℕ) (place : Value) (cell : core_value.Value) (k : Stack) (others : List core_machine.Frame) (f : core_machine.Focus) (ck : List core_machine.Frame)
        → Belongs known place cell
        → focused program context nodes world f ck
        ≡ operated program context nodes world (Caller 0 None ∷ others) (advanced context.head world.store w cell (shape.leaf (part.Char c)) (operate context.head (op.Arithmetic operator.Add kind.Nat) (core_value.number i ∷ core_value.number 1 ∷ [])))
        → depth_of ck ≡ 16 + depth_of others → less + w ≤ suc held → Around b l less k others
        → StateBelongs held (Ready (action.Operate (op.Arithmetic operator.Add kind.Nat)) (leaf (part.Number (pos i)) ∷ leaf (part.Number (pos 1)) ∷ [])) (Operands action.Write (place ∷ []) source.NoExp (AValue place NoValue) ∷ behind_place c place k) f ck
    AtWriting : (b : Bool) (l : Labels) (less w c : ℕ) (place v : Value) (cell u : core_value.Value) (k : Stack) (others : List core_machine.Frame) (f : core_machine.Focus) (ck : List core_machine.Frame)
        → Belongs known place cell → Belongs known v u
        → focused program context nodes world f ck ≡ operated program context nodes world (Caller 0 None ∷ others)
        (on_some primitives.Stuck (core_value.cell_of cell) (λ at. primitives.Gives (weighing (3 + w)) (core_value.present (shape.leaf (part.Char c))) (slice_set world.store at u)))
        → depth_of ck ≡ 16 + depth_of others → less + w + 1 ≤ held → Around b l less k others → StateBelongs held (Ready action.Write (place ∷ v ∷ [])) (behind_place c place k) f ck
    AtWritten : (b : Bool) (l : Labels) (c : ℕ) (place : Value) (k : Stack) (others : List core_machine.Frame)
        → Around b l held k others → StateBelongs held (machine.Give machine_value.unit) (behind_place c place k) (core_machine.Give (core_value.present (shape.leaf (part.Char c)))) (Caller 0 None ∷ others)

  -- Elements of an array are made, for which Core waits: new cells behind those of the store that Core has, or what cells hold.
  pub data FillingBelongs (held : ℕ) (front : Store) : Store → machine.Focus → Stack → core_machine.Focus → List core_machine.Frame → Type 0 where
    Soon : (fresh : Store) (f : machine.Focus) (k : Stack) (g : machine.Focus) (more : Stack) (cf : core_machine.Focus) (ck : List core_machine.Frame)
        → move f k ≡ Moved g more → ((store : Store) → reduces context.head None store f k ≡ Stuck) → suc (rank g more) ≤ rank f k → owed k ≤ owed more → 16 + nodes + depth_of ck ≤ live_state f k
        → FillingBelongs held front fresh g more cf ck → FillingBelongs held front fresh f k cf ck
    AtNew : (fresh : Store) (b : Bool) (l : Labels) (e : Environment) (es : Exps) (v : Value) (vs : List Value) (us : List core_value.Value) (k : Stack) (others : List core_machine.Frame) (f : core_machine.Focus) (ck : List core_machine.Frame)
        → Making action.New e es vs → EachBelongs known (fresh ++ v ∷ vs) us → focused program context nodes world f ck ≡ operated program context nodes world (Caller 0 None ∷ others) (primitives.celled context.head world.store us)
        → depth_of ck ≡ 16 + depth_of others → Around b l held k others
        → FillingBelongs held front fresh (Ready action.New (v ∷ [])) (Operands making_array (cells_at (length front) fresh) es e ∷ Returning 0 ∷ k) f ck
    AtCells : (fresh : Store) (b : Bool) (l : Labels) (us : List core_value.Value) (k : Stack) (others : List core_machine.Frame) (f : core_machine.Focus) (ck : List core_machine.Frame)
        → EachBelongs known fresh us → focused program context nodes world f ck ≡ operated program context nodes world (Caller 0 None ∷ others) (primitives.celled context.head world.store us) → depth_of ck ≡ 16 + depth_of others → Around b l held k others
        → FillingBelongs held front fresh (Ready making_array (cells_at (length front) fresh)) (Returning 0 ∷ k) f ck
    AtRead : (b : Bool) (l : Labels) (e : Environment) (es : Exps) (c : Value) (cs done : List Value) (before rest ws : List core_value.Value) (k : Stack) (others : List core_machine.Frame) (f : core_machine.Focus) (ck : List core_machine.Frame)
        → Making action.Read e es cs → EachBelongs known (c ∷ cs) rest → EachBelongs known done ws → HeldEach world.store before ws
        → focused program context nodes world f ck ≡ operated program context nodes world (Caller 0 None ∷ others) (on_some primitives.Stuck (primitives.all_held world.store (before ++ rest)) (primitives.whole_array context.head world.store))
        → depth_of ck ≡ 16 + depth_of others → Around b l held k others
        → FillingBelongs held front [] (Ready action.Read (c ∷ [])) (Operands making_array done es e ∷ Returning 0 ∷ k) f ck
    AtHeld : (b : Bool) (l : Labels) (done : List Value) (us : List core_value.Value) (k : Stack) (others : List core_machine.Frame) (f : core_machine.Focus) (ck : List core_machine.Frame)
        → EachBelongs known done us → focused program context nodes world f ck ≡ operated program context nodes world (Caller 0 None ∷ others) (primitives.whole_array context.head world.store us) → depth_of ck ≡ 16 + depth_of others → Around b l held k others
        → FillingBelongs held front [] (Ready making_array done) (Returning 0 ∷ k) f ck

  -- A function makes the elements of an array: Core stands where it gives the last one, or at the beginning, until the next is asked for.
  pub data GatheringBelongs (held : ℕ) : machine.Focus → Stack → core_machine.Focus → List core_machine.Frame → Type 0 where
    Coming : (f : machine.Focus) (k : Stack) (g : machine.Focus) (more : Stack) (cf : core_machine.Focus) (ck : List core_machine.Frame)
        → move f k ≡ Moved g more → ((store : Store) → reduces context.head None store f k ≡ Stuck) → suc (rank g more) ≤ rank f k → owed k ≤ owed more
        → GatheringBelongs held g more cf ck → GatheringBelongs held f k cf ck
    AtNext : (b : Bool) (l : Labels) (f : Value) (h : core_value.Value) (done : List Value) (before : List core_value.Value) (next left : ℕ) (k : Stack) (others : List core_machine.Frame) (cf : core_machine.Focus) (ck : List core_machine.Frame)
        → Belongs known f h → EachBelongs known done before → focused program context nodes world cf ck ≡ heavier 1 (gather program context nodes world h next (suc left) before (Caller 0 None ∷ others)) → Around b l held k others
        → GatheringBelongs held (Ready action.Call (f ∷ leaf (part.Number (pos next)) ∷ [])) (gathering_on f done (suc next) left k) cf ck
    AtAll : (b : Bool) (l : Labels) (h : core_value.Value) (done : List Value) (before : List core_value.Value) (next : ℕ) (k : Stack) (others : List core_machine.Frame) (cf : core_machine.Focus) (ck : List core_machine.Frame)
        → EachBelongs known done before → focused program context nodes world cf ck ≡ heavier 1 (gather program context nodes world h next zero before (Caller 0 None ∷ others)) → Around b l held k others
        → GatheringBelongs held (Ready making_array done) (Returning 0 ∷ k) cf ck

  -- where both machines stand
  pub data Standing (held : ℕ) : Store → machine.Focus → Stack → core_machine.Focus → List core_machine.Frame → Type 0 where
    Here : (store : Store) (f : machine.Focus) (k : Stack) (cf : core_machine.Focus) (ck : List core_machine.Frame)
        → WorldBelongs program.groups known context.globals store world → StateBelongs held f k cf ck → Standing held store f k cf ck
    Filling : (front fresh : Store) (f : machine.Focus) (k : Stack) (cf : core_machine.Focus) (ck : List core_machine.Frame)
        → WorldBelongs program.groups known context.globals front world → FillingBelongs held front fresh f k cf ck → Standing held (front ++ fresh) f k cf ck
    Gathered : (store : Store) (f : machine.Focus) (k : Stack) (cf : core_machine.Focus) (ck : List core_machine.Frame)
        → WorldBelongs program.groups known context.globals store world → GatheringBelongs held f k cf ck → Standing held store f k cf ck
