-- Each step of the machine changes nothing of the expression that its state stands for, or is its reduction.
use Rattle.std.proofs.Common.{◌≡◌, ℕ, ◌+◌, List, [], ◌∷◌, Option, Some, None, refl, sym, ap, ap₂, ◌∙◌, subst, true, false}
use Rattle.mo_types.specs.declared.datum.Datum.TheVariants as part
use Rattle.mo_types.specs.declared.node.Node.{Node}
use Rattle.mo_types.specs.declared.node.TypeId.{TypeId}
use Rattle.mo_values.specs.Costs.{weighing}
use Rattle.mo_values.specs.Shapes.{Leaf}
use Rattle.typed_tree.specs.declared.action.Action.{Action}
use Rattle.typed_tree.specs.Patterns.{names}
use Rattle.typed_tree.specs.Language.{Exp, Exps, Val, Name, Do, If, Group, While, Repeat, For, NoExp, AnExp, unit, then}
use Rattle.typed_tree.specs.Language as language
use Rattle.typed_tree.specs.Substitution.{hide, count, pick, put, put_all, group_nodes}
use Rattle.mo_meaning.specs.Acts.{Given}
use Rattle.mo_meaning.specs.Acts as meaning
use Rattle.mo_meaning.specs.Actions as actions
use Rattle.mo_meaning.specs.Cells as cells
use Rattle.mo_meaning.specs.Places.{inside, value_or, all_values, and_value, values_or}
use Rattle.mo_meaning.specs.Reduce.{reduce, reduce_operand}
use Rattle.mo_meaning.specs.Reduce as reducing
use Rattle.mo_machine.specs.Values.{Value, Made, NoValue}
use Rattle.mo_machine.specs.Environments.{Environment, at, with_group}
use Rattle.mo_machine.specs.Frames.{Frame, Operands, Choosing, Switching, Returning, Labelled, Testing, Turning, Repeating, Retesting, Going, Stepping, Trying, Updating, Joining, Stack, Focus, Eval, Ready, Give}
use Rattle.mo_machine.specs.Acts.{Store, Act, Goes, Stuck, goes}
use Rattle.mo_machine.specs.Actions.{act}
use Rattle.mo_machine.specs.Jumps.{on_stack}
use Rattle.mo_machine.specs.Moves.{found, looks, passes, move}
use Rattle.mo_machine.specs.Moves as moves
use Rattle.mo_machine.specs.Reductions.{chosen, takes}
use Rattle.mo_machine.specs.Unload.{unload, unload_list, slots, before, plug_in, plug}
use Rattle.mo_machine.specs.Agrees.{unload_act, IsNoValue, Agrees}
use Rattle.mo_machine.proofs.Actions.{act_same}
use Rattle.mo_machine.proofs.Matching.{first_case_same}
use Rattle.mo_machine.proofs.NoValues.{put_none}
use Rattle.mo_machine.proofs.Outward.{out_of, out, on_stack_same}
use Rattle.mo_machine.proofs.Scope.{name_or, pick_at, put_group, nodes_put}
use Rattle.mo_machine.proofs.Unloaded.{unload_load, before_one, before_values}

pub skip : {A : Type 0} (e : Exp) (on : language.Value → A) (otherwise : A) → IsNoValue e → value_or e on otherwise ≡ otherwise
skip (Val v) on otherwise h = absurd h
skip _ on otherwise h = refl

no_value_in : (frame : Frame) (e : Exp) → IsNoValue e → IsNoValue (plug_in frame e)
no_value_in Joining e h = h
no_value_in _ e h = tt

no_value : (k : Stack) (e : Exp) → IsNoValue e → IsNoValue (plug k e)
no_value [] e h = h
no_value (frame ∷ k) e h = no_value k (plug_in frame e) (no_value_in frame e h)

-- a frame that takes a value by a reduction
abbrev Reduces : Frame → Type 0
Reduces (Operands a done rest env) = ⊥
Reduces Joining = ⊥
Reduces _ = Unit {0}

module _ (head : TypeId → Node TypeId) (given : Option Given) (store : Store) where
  abbrev there : meaning.Store
  there = unload_list store

  abbrev red : Exp → meaning.Act
  red e = reduce head given there e

  -- ---- what a value meets

  chosen_same : (v : Value) (x y : Act) (a b : Exp) → unload_act x ≡ cells.goes there a → unload_act y ≡ cells.goes there b → unload_act (chosen v x y) ≡ reducing.chosen there (unload v) a b
  chosen_same (Made (Leaf (part.Flag true)) NoValue) x y a b h i = h
  chosen_same (Made (Leaf (part.Flag false)) NoValue) x y a b h i = i
  chosen_same _ x y a b h i = refl

  takes_same : (v : Value) (frame : Frame) → Reduces frame → unload_act (takes store v frame) ≡ red (plug_in frame (Val (unload v)))
  takes_same v (Operands a done rest env) h = absurd h
  takes_same v Joining h = absurd h
  takes_same v (Choosing a b env) h = chosen_same v _ _ (put (slots env) a) (put (slots env) b) refl refl
  takes_same v (Switching cases env) h = first_case_same store 1 v cases env
  takes_same v (Returning n) h = refl
  takes_same v Labelled h = refl
  takes_same v (Testing c b env) h = chosen_same v _ _ (put (slots env) (then b (While c b))) (Val unit) refl refl
  takes_same v (Turning c b env) h = ap (meaning.Goes (weighing 2) there) (sym (put_none [] tt (put (slots env) (While c b))))
  takes_same v (Repeating b c env) h = ap (meaning.Goes (weighing 2) there) (sym (put_none [] tt (put (slots env) (If c (Repeat b c) (Val unit)))))
  takes_same v (Retesting b c env) h = chosen_same v _ _ (put (slots env) (Repeat b c)) (Val unit) refl refl
  takes_same v (Going p b env) h = refl
  takes_same v (Stepping p w b env) h = chosen_same v _ _ (For p (Val (unload w)) (put (hide (names p) (slots env)) b)) (Val unit) refl refl
  takes_same v (Trying p b env) h = refl
  takes_same v (Updating o f env) h = refl

  -- ---- reductions at the place of a stack

  no_values : (done : List Value) (e : Exp) (rest : Exps) → IsNoValue e → all_values (before done (AnExp e rest)) ≡ None
  no_values [] e rest h = skip e _ _ h
  no_values (v ∷ vs) e rest h = ap (and_value (unload v)) (no_values vs e rest h)

  reduce_before : (around : Exps → Exp) (done : List Value) (e : Exp) (rest : Exps) → IsNoValue e
      → reduce_operand head given there around (before done (AnExp e rest)) ≡ inside (λ x. around (before done (AnExp x rest))) (red e)
  reduce_before around [] e rest h = skip e _ _ h
  reduce_before around (v ∷ vs) e rest h = reduce_before (λ r. around (AnExp (Val (unload v)) r)) vs e rest h

  reduce_in : (frame : Frame) (e : Exp) → IsNoValue e → red (plug_in frame e) ≡ out_of there frame (red e)
  reduce_in Joining e h = refl
  reduce_in (Operands a done rest env) e h =
      let es = before done (AnExp e (put_all (slots env) rest)) in
      ap (λ o. values_or o (actions.act head given there a) (reduce_operand head given there (Do a) es)) (no_values done e (put_all (slots env) rest) h)
      ∙ reduce_before (Do a) done e (put_all (slots env) rest) h
  reduce_in _ e h = skip e _ _ h

  reduce_plug : (k : Stack) (e : Exp) → IsNoValue e → red (plug k e) ≡ out there k (red e)
  reduce_plug [] e h = refl
  reduce_plug (frame ∷ k) e h = reduce_plug k (plug_in frame e) (no_value_in frame e h) ∙ ap (out there k) (reduce_in frame e h)

  -- the reduction of this expression in the place of the stack is this one of the machine
  redex : (m : Act) (k : Stack) (e : Exp) → IsNoValue e → unload_act m ≡ red e → IsNoValue (plug k e) × (red (plug k e) ≡ unload_act (on_stack store m k))
  redex m k e h same = (no_value k e h, reduce_plug k e h ∙ ap (out there k) (sym same) ∙ sym (on_stack_same store m k))

  -- ---- each step

  abbrev Holds : moves.Move → Focus → Stack → Type 0
  Holds m f k = Agrees head given store m f k

  found_agrees : (o : Option Value) (x : ℕ) (env : Environment) (k : Stack) → pick (slots env) x x ≡ name_or o x → Holds (found o k) (Eval (Name x) env) k
  found_agrees None x env k h =
      let r = redex Stuck k (Name x) tt refl in
      (subst (λ e. IsNoValue (plug k e)) (sym h) r.0, ap (λ e. red (plug k e)) h ∙ r.1)
  found_agrees (Some v) x env k h = ap (plug k) (sym h)

  looks_agrees : (e : Exp) (env : Environment) (k : Stack) → Holds (looks e env k) (Eval e env) k
  looks_agrees (Val v) env k = ap (λ w. plug k (Val w)) (unload_load v)
  looks_agrees (Name x) env k = found_agrees (at env x) x env k (pick_at env x x)
  looks_agrees (Do a NoExp) env k = refl
  looks_agrees (Do a (AnExp e es)) env k = refl
  looks_agrees (Group fns b) env k =
      redex (Goes (weighing (1 + group_nodes fns)) store (Eval b (with_group fns env)) []) k (put (slots env) (Group fns b)) tt
      (ap₂ (λ n e. meaning.Goes (weighing (1 + n)) there e) (sym (nodes_put (hide (count fns) (slots env)) fns)) (sym (put_group fns env b)))
  looks_agrees (While c b) env k = redex (goes store (Eval c env) (Testing c b env ∷ [])) k (put (slots env) (While c b)) tt refl
  looks_agrees (Repeat b c) env k = redex (goes store (Eval b env) (Repeating b c env ∷ [])) k (put (slots env) (Repeat b c)) tt refl
  looks_agrees _ env k = refl

  ready_agrees : (a : Action) (vs : List Value) (k : Stack) → Holds moves.Reduces (Ready a vs) k
  ready_agrees a vs k =
      redex (act head given store a vs) k (Do a (before vs NoExp)) tt
      (act_same head given store a vs ∙ ap (λ o. values_or o (actions.act head given there a) (reduce_operand head given there (Do a) (before vs NoExp))) (sym (before_values vs)))

  meets_agrees : (v : Value) (frame : Frame) (k : Stack) → Reduces frame → IsNoValue (plug_in frame (Val (unload v))) → Holds moves.Reduces (Give v) (frame ∷ k)
  meets_agrees v frame k r h = redex (takes store v frame) k (plug_in frame (Val (unload v))) h (takes_same v frame r)

  passes_agrees : (v : Value) (k : Stack) → Holds (passes v k) (Give v) k
  passes_agrees v [] = refl
  passes_agrees v (Operands a done NoExp env ∷ k) = ap (λ es. plug k (Do a es)) (before_one done v NoExp)
  passes_agrees v (Operands a done (AnExp e es) env ∷ k) = ap (λ r. plug k (Do a r)) (before_one done v (AnExp (put (slots env) e) (put_all (slots env) es)))
  passes_agrees v (Joining ∷ k) = refl
  passes_agrees v (frame ∷ k) = meets_agrees v frame k tt tt

  pub agrees : (f : Focus) (k : Stack) → Agrees head given store (move f k) f k
  agrees (Eval e env) k = looks_agrees e env k
  agrees (Ready a vs) k = ready_agrees a vs k
  agrees (Give v) k = passes_agrees v k
