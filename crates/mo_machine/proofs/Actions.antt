-- What the machine does with the values of operands is what the language does with those that they stand for.
use Rattle.std.proofs.Common.{◌≡◌, ℕ, List, [], ◌∷◌, Option, Some, None, refl, sym, ap, ◌∙◌}
use Rattle.mo_types.specs.declared.datum.Datum.TheVariants as part
use Rattle.mo_types.specs.declared.node.Node.{Node}
use Rattle.mo_types.specs.declared.node.TypeId.{TypeId}
use Rattle.mo_values.specs.declared.operation.Operation.{Operation}
use Rattle.mo_values.specs.declared.operation.Operation.TheVariants as op
use Rattle.mo_values.specs.Costs.{Cost, weighing, operation_cost}
use Rattle.mo_values.specs.Operations.{operate}
use Rattle.mo_values.specs.Recoding.{recodes, recode_answer}
use Rattle.mo_values.specs.Shapes.{Leaf, Present, Future}
use Rattle.mo_values.specs.Views as answer
use Rattle.mo_values.specs.Views.{Answer, Gives}
use Rattle.mo_values.proofs.Natural.{natural}
use Rattle.mo_values.proofs.SameCosts.{same_cost}
use Rattle.typed_tree.specs.declared.action.Action.{Action}
use Rattle.typed_tree.specs.declared.action.Action.TheVariants as action
use Rattle.typed_tree.specs.Language.{Val}
use Rattle.mo_meaning.specs.Acts.{Given, Gets, Fails}
use Rattle.mo_meaning.specs.Acts as meaning
use Rattle.mo_meaning.specs.Actions as actions
use Rattle.mo_meaning.specs.Cells as cells
use Rattle.mo_meaning.specs.Jumps as jumps
use Rattle.mo_machine.specs.Values.{Value, Made, Closure, BuiltIn, NoValue, AValue, Code, shapes_list}
use Rattle.mo_machine.specs.Acts.{Store, Act}
use Rattle.mo_machine.specs.Actions.{call, printed, given_or, sent, awaited, answered, act}
use Rattle.mo_machine.specs.Jumps.{unwrapped}
use Rattle.mo_machine.specs.Unload.{unload, unload_list}
use Rattle.mo_machine.specs.Agrees.{unload_act}
use Rattle.mo_machine.proofs.Calls.{call_function_same}
use Rattle.mo_machine.proofs.Cells.{new_same, read_same, written_same, written_in_same}
use Rattle.mo_machine.proofs.Members.{call_member_same, make_member_same}
use Rattle.mo_machine.proofs.Unloaded.{unload_load, closed, value_closed, list_closed}

module _ (store : Store) where
  call_same : (f : Value) (vs : List Value) → unload_act (call store f vs) ≡ actions.call (unload_list store) (unload f) (unload_list vs)
  call_same (Closure group which env) vs = call_function_same store group env group which vs
  call_same (BuiltIn m holds) vs = call_member_same store m holds vs
  call_same (Made head inside) vs = refl

  printed_same : (v : Value) → unload_act (printed store v) ≡ actions.printed (unload_list store) (unload v)
  printed_same (Made (Leaf (part.Text t)) NoValue) = refl
  printed_same _ = refl

  given_same : (given : Option Given) (m : Act) (a : meaning.Act) → unload_act m ≡ a → unload_act (given_or store given m) ≡ actions.given_or (unload_list store) given a
  given_same None m a same = same
  given_same (Some (Gets v)) m a same = ap (λ w. cells.goes (unload_list store) (Val w)) (unload_load v)
  given_same (Some (Fails error)) m a same = ap (meaning.Throws (weighing 1)) (unload_load error)

  sent_same : (given : Option Given) (ps rs : List TypeId) (f : Value) (vs : List Value) → unload_act (sent store given ps rs f vs) ≡ actions.sent (unload_list store) given ps rs (unload f) (unload_list vs)
  sent_same given ps rs (Made (Leaf (part.Method p name)) NoValue) vs = given_same given _ _ refl
  sent_same given ps rs _ vs = refl

  awaited_same : (given : Option Given) (v : Value) → unload_act (awaited store given v) ≡ actions.awaited (unload_list store) given (unload v)
  awaited_same given (Made (Future call) NoValue) = given_same given _ _ refl
  awaited_same given _ = refl

  unwrapped_same : (labels : ℕ) (v : Value) → unload_act (unwrapped store labels v) ≡ jumps.unwrapped (unload_list store) labels (unload v)
  unwrapped_same labels (Made (Leaf part.Null) NoValue) = refl
  unwrapped_same labels (Made Present (AValue v NoValue)) = refl
  unwrapped_same labels _ = refl

  answered_same : (cost : Cost) (r : Answer Code) → unload_act (answered store cost r) ≡ actions.answered (unload_list store) cost (recode_answer closed r)
  answered_same cost (Gives v) = ap (λ w. meaning.Goes cost (unload_list store) (Val w)) (sym (value_closed v))
  answered_same cost (answer.Traps text) = refl
  answered_same cost answer.Stuck = refl

module _ (head : TypeId → Node TypeId) (given : Option Given) (store : Store) where
  operated_same : (o : Operation) (vs : List Value) → unload_act (act head given store (action.Operate o) vs) ≡ actions.act head given (unload_list store) (action.Operate o) (unload_list vs)
  operated_same o vs =
      let ss = shapes_list vs in
      let r = operate head o ss in
      answered_same store (operation_cost o ss r) r
      ∙ ap (λ c. actions.answered (unload_list store) c (recode_answer closed r)) (sym (same_cost closed o ss r))
      ∙ ap (λ a. actions.answered (unload_list store) (operation_cost o (recodes closed ss) a) a) (sym (natural closed head o ss))
      ∙ ap (λ ws. actions.answered (unload_list store) (operation_cost o ws (operate head o ws)) (operate head o ws)) (sym (list_closed vs))

  write_element_same : (a i v : Value) → unload_act (act head given store action.WriteElement (a ∷ i ∷ v ∷ [])) ≡ actions.act head given (unload_list store) action.WriteElement (unload_list (a ∷ i ∷ v ∷ []))
  write_element_same a i v =
      let ss = shapes_list (a ∷ i ∷ []) in
      written_in_same store (operate head op.Element ss) v
      ∙ ap (λ r. cells.written_in (unload_list store) r (unload v)) (sym (ap (operate head op.Element) (list_closed (a ∷ i ∷ [])) ∙ natural closed head op.Element ss))

  pub act_same : (a : Action) (vs : List Value) → unload_act (act head given store a vs) ≡ actions.act head given (unload_list store) a (unload_list vs)
  act_same (action.Operate o) vs = operated_same o vs
  act_same (action.BuiltIn m) vs = make_member_same store m vs
  act_same action.New (v ∷ []) = new_same store v
  act_same action.Read (c ∷ []) = read_same store c
  act_same action.Write (c ∷ v ∷ []) = written_same store c v
  act_same action.WriteElement (a ∷ i ∷ v ∷ []) = write_element_same a i v
  act_same action.Print (v ∷ []) = printed_same store v
  act_same action.Throw (v ∷ []) = refl
  act_same (action.Break labels) (v ∷ []) = refl
  act_same action.Call (f ∷ vs) = call_same store f vs
  act_same (action.Send ps rs) (f ∷ vs) = sent_same store given ps rs f vs
  act_same action.Await (v ∷ []) = awaited_same store given v
  act_same (action.Unwrap labels) (v ∷ []) = unwrapped_same store labels v
  act_same _ _ = refl
