-- What stands at the bottom of a stack is not looked at before all above it is done: two machines with the same above it do the same.
use Rattle.std.proofs.Common.{◌≡◌, ℕ, zero, suc, ◌+◌, List, [], ◌∷◌, ◌++◌, Option, Some, None, true, false, refl, ap, subst}
use Rattle.mo_types.specs.declared.datum.Datum.TheVariants as part
use Rattle.mo_types.specs.declared.node.Node.{Node}
use Rattle.mo_types.specs.declared.node.TypeId.{TypeId}
use Rattle.mo_values.specs.Costs.{Cost, weighing}
use Rattle.mo_values.specs.Shapes.{Bytes, Shape, Leaf}
use Rattle.typed_tree.specs.declared.action.Action.TheVariants as action
use Rattle.typed_tree.specs.Language.{Exp, Cases, Val, Name, Do, If, Switch, Group, Frame, Label, While, Repeat, For, Try, Update, NoExp, AnExp, NoCase, ACase}
use Rattle.typed_tree.specs.Patterns.{matches}
use Rattle.typed_tree.specs.Substitution.{group_nodes}
use Rattle.mo_machine.specs.Values.{Value, Code, Made, NoValue, load, shape_of}
use Rattle.mo_machine.specs.Environments.{Environment, at, with_group}
use Rattle.mo_machine.specs.Acts.{Store, Act, Goes, Prints, Asks, Awaits, Leaves, Throws, Traps, Stuck}
use Rattle.mo_machine.specs.Actions.{act}
use Rattle.mo_machine.specs.Frames.{Operands, Choosing, Switching, Returning, Labelled, Testing, Turning, Repeating, Retesting, Going, Stepping, Trying, Updating, Joining, Stack, Focus, Eval, Ready, Give}
use Rattle.mo_machine.specs.Frames as machine
use Rattle.mo_machine.specs.Jumps.{leave, on_stack}
use Rattle.mo_machine.specs.Matching.{first_case, on_match, trying}
use Rattle.mo_machine.specs.Moves.{Move, Moved, Reduces, found, looks, passes, move}
use Rattle.mo_machine.specs.Reductions.{chosen, takes, reduces}
use Rattle.elaboration_starts.specs.Staying.{Inward, StaysInside, StaysAt}

pub assoc : {A : Type 0} (xs ys zs : List A) → (xs ++ ys) ++ zs ≡ xs ++ (ys ++ zs)
assoc [] ys zs = refl
assoc (x ∷ xs) ys zs = ap (λ r. x ∷ r) (assoc xs ys zs)

-- ---- what a frame does with a value

chosen_stays : (v : Value) (a b : Act) (k : Stack) → StaysInside a k → StaysInside b k → StaysInside (chosen v a b) k
chosen_stays (Made (Leaf (part.Flag true)) NoValue) a b k h i = h
chosen_stays (Made (Leaf (part.Flag false)) NoValue) a b k h i = i
chosen_stays _ a b k h i = tt

matched_stays : (o : Option (List (Shape Code))) (on : List Value → Act) (otherwise : Act) (k : Stack) → ((vs : List Value) → StaysInside (on vs) k) → StaysInside otherwise k → StaysInside (on_match o on otherwise) k
matched_stays None on otherwise k h i = i
matched_stays (Some vs) on otherwise k h i = h _

case_stays : (store : Store) (weight : ℕ) (v : Value) (cases : Cases) (env : Environment) (k : Stack) → StaysInside (first_case store weight v cases env) k
case_stays store weight v NoCase env k = tt
case_stays store weight v (ACase p e cases) env k = matched_stays (matches p (shape_of v)) _ _ k (λ vs. tt) (case_stays store (weight + trying p v) v cases env k)

takes_stays : (store : Store) (v : Value) (frame : machine.Frame) (k : Stack) → StaysInside (takes store v frame) k
takes_stays store v (Choosing a b env) k = chosen_stays v _ _ k tt tt
takes_stays store v (Switching cases env) k = case_stays store 1 v cases env k
takes_stays store v (Returning n) k = tt
takes_stays store v Labelled k = tt
takes_stays store v (Testing c b env) k = chosen_stays v _ _ k tt tt
takes_stays store v (Turning c b env) k = tt
takes_stays store v (Repeating b c env) k = tt
takes_stays store v (Retesting b c env) k = chosen_stays v _ _ k tt tt
takes_stays store v (Going p b env) k = tt
takes_stays store v (Stepping p w b env) k = chosen_stays v _ _ k tt tt
takes_stays store v (Trying p b env) k = tt
takes_stays store v (Updating o f env) k = tt
takes_stays store v (Operands a done rest env) k = tt
takes_stays store v Joining k = tt

-- ---- two machines

-- a jump that leaves all above does so much in both
module _ (one two : Stack) (Beyond : Act → Act → Type 0) (out : (store : Store) (l : ℕ) (v : Value) → Inward one → Beyond (leave store l v one) (leave store l v two)) where
  pub data TwinMove : Move → Move → Type 0 where
    BothMove : (f : Focus) (s : Stack) → TwinMove (Moved f (s ++ one)) (Moved f (s ++ two))
    BothReduce : TwinMove Reduces Reduces

  pub data TwinAct : Act → Act → Type 0 where
    BothGo : (cost : Cost) (store : Store) (f : Focus) (s : Stack) → TwinAct (Goes cost store f (s ++ one)) (Goes cost store f (s ++ two))
    BothPrint : (cost : Cost) (text : Bytes) (f : Focus) (s : Stack) → TwinAct (Prints cost text f (s ++ one)) (Prints cost text f (s ++ two))
    BothTrap : (cost : Cost) (text : Bytes) → TwinAct (Traps cost text) (Traps cost text)
    BothStuck : TwinAct Stuck Stuck
    Outward : (a b : Act) → Beyond a b → TwinAct a b

  -- a value has come to the bottom
  abbrev pub IsAbove : Focus → Stack → Type 0
  IsAbove (Give v) [] = ⊥
  IsAbove f s = Unit {0}

  found_twins : (o : Option Value) (s : Stack) → TwinMove (found o (s ++ one)) (found o (s ++ two))
  found_twins None s = BothReduce
  found_twins (Some v) s = BothMove (Give v) s

  looks_twins : (e : Exp) (env : Environment) (s : Stack) → TwinMove (looks e env (s ++ one)) (looks e env (s ++ two))
  looks_twins (Val v) env s = BothMove (Give (load v)) s
  looks_twins (Name x) env s = found_twins (at env x) s
  looks_twins (Do a NoExp) env s = BothMove (Ready a []) s
  looks_twins (Do a (AnExp e es)) env s = BothMove (Eval e env) (Operands a [] es env ∷ s)
  looks_twins (If c a b) env s = BothMove (Eval c env) (Choosing a b env ∷ s)
  looks_twins (Switch e cases) env s = BothMove (Eval e env) (Switching cases env ∷ s)
  looks_twins (Group fns b) env s = BothReduce
  looks_twins (Frame n e) env s = BothMove (Eval e env) (Returning n ∷ s)
  looks_twins (Label e) env s = BothMove (Eval e env) (Labelled ∷ s)
  looks_twins (While c b) env s = BothReduce
  looks_twins (Repeat b c) env s = BothReduce
  looks_twins (For p e b) env s = BothMove (Eval e env) (Going p b env ∷ s)
  looks_twins (Try e p b) env s = BothMove (Eval e env) (Trying p b env ∷ s)
  looks_twins (Update o e f) env s = BothMove (Eval e env) (Updating o f env ∷ s)

  passes_twins : (v : Value) (frame : machine.Frame) (s : Stack) → TwinMove (passes v (frame ∷ (s ++ one))) (passes v (frame ∷ (s ++ two)))
  passes_twins v (Operands a done NoExp env) s = BothMove (Ready a (done ++ v ∷ [])) s
  passes_twins v (Operands a done (AnExp e es) env) s = BothMove (Eval e env) (Operands a (done ++ v ∷ []) es env ∷ s)
  passes_twins v Joining s = BothMove (Give v) s
  passes_twins v _ s = BothReduce

  pub move_twins : (f : Focus) (s : Stack) → IsAbove f s → TwinMove (move f (s ++ one)) (move f (s ++ two))
  move_twins (Eval e env) s h = looks_twins e env s
  move_twins (Ready a vs) s h = BothReduce
  move_twins (Give v) [] h = absurd h
  move_twins (Give v) (frame ∷ s) h = passes_twins v frame s

  leave_twins : (store : Store) (l : ℕ) (v : Value) (s : Stack) → Inward (s ++ one) → TwinAct (leave store l v (s ++ one)) (leave store l v (s ++ two))
  leave_twins store l v [] h = Outward (leave store l v one) (leave store l v two) (out store l v h)
  leave_twins store zero v (Labelled ∷ s) h = BothGo (weighing 1) store (Give v) s
  leave_twins store (suc l) v (Labelled ∷ s) h = BothGo (weighing 1) store (Ready (action.Break l) (v ∷ [])) s
  leave_twins store l v (Trying p b env ∷ s) h = BothGo (weighing 1) store (Ready (action.Break l) (v ∷ [])) s
  leave_twins store zero v (Returning n ∷ s) h = BothGo (weighing 1) store (Give v) s
  leave_twins store (suc l) v (Returning n ∷ s) h = BothStuck
  leave_twins store l v (_ ∷ s) h = leave_twins store l v s h

  on_twins : (store : Store) (a : Act) (s : Stack) → StaysInside a (s ++ one) → TwinAct (on_stack store a (s ++ one)) (on_stack store a (s ++ two))
  on_twins store (Goes cost after f k) s h =
      subst (λ x. TwinAct (Goes cost after f x) (Goes cost after f (k ++ (s ++ two)))) (assoc k s one) (subst (λ x. TwinAct (Goes cost after f ((k ++ s) ++ one)) (Goes cost after f x)) (assoc k s two) (BothGo cost after f (k ++ s)))
  on_twins store (Prints cost text f k) s h =
      subst (λ x. TwinAct (Prints cost text f x) (Prints cost text f (k ++ (s ++ two)))) (assoc k s one) (subst (λ x. TwinAct (Prints cost text f ((k ++ s) ++ one)) (Prints cost text f x)) (assoc k s two) (BothPrint cost text f (k ++ s)))
  on_twins store (Asks r) s h = absurd h
  on_twins store (Awaits n call) s h = absurd h
  on_twins store (Leaves l v) s h = leave_twins store l v s h
  on_twins store (Throws cost error) s h = absurd h
  on_twins store (Traps cost text) s h = BothTrap cost text
  on_twins store Stuck s h = BothStuck

  pub reduce_twins : (head : TypeId → Node TypeId) (store : Store) (f : Focus) (s : Stack) → IsAbove f s → StaysAt head store f (s ++ one) → TwinAct (reduces head None store f (s ++ one)) (reduces head None store f (s ++ two))
  reduce_twins head store (Eval (Group fns b) env) s h i = BothGo (weighing (1 + group_nodes fns)) store (Eval b (with_group fns env)) s
  reduce_twins head store (Eval (While c b) env) s h i = BothGo (weighing 1) store (Eval c env) (Testing c b env ∷ s)
  reduce_twins head store (Eval (Repeat b c) env) s h i = BothGo (weighing 1) store (Eval b env) (Repeating b c env ∷ s)
  reduce_twins head store (Eval _ env) s h i = BothStuck
  reduce_twins head store (Ready a vs) s h i = on_twins store (act head None store a vs) s i
  reduce_twins head store (Give v) [] h i = absurd h
  reduce_twins head store (Give v) (frame ∷ s) h i = on_twins store (takes store v frame) s (takes_stays store v frame (s ++ one))
