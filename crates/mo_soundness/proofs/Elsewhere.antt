-- An expression that waits does so over each store.
use Rattle.std.proofs.Common.{◌≡◌, ℕ, zero, suc, ◌+◌, List, [], ◌∷◌, Option, Some, None, refl, ap, subst}
use Rattle.mo_types.specs.declared.node.Node.{Node}
use Rattle.mo_types.specs.declared.node.TypeId.{TypeId}
use Rattle.mo_values.specs.declared.operation.Operation.TheVariants as op
use Rattle.mo_values.specs.Costs.{Cost, weighing, operation_cost}
use Rattle.mo_values.specs.Operations.{operate}
use Rattle.mo_values.specs.Shapes.{Leaf, Future, Shape}
use Rattle.mo_types.specs.declared.datum.Datum.TheVariants as part
use Rattle.typed_tree.specs.declared.action.Action.{Action}
use Rattle.typed_tree.specs.declared.action.Action.TheVariants as action
use Rattle.typed_tree.specs.Language.{Value, Exp, Exps, Made, NoValue, Val, Name, Do, If, Switch, Group, Frame, Label, While, Repeat, For, Try, Update, NoExp, AnExp}
use Rattle.typed_tree.specs.Opening.{Code, shape_of, shapes_list}
use Rattle.typed_tree.specs.Patterns.{Pat, matches}
use Rattle.typed_tree.specs.Substitution.{put}
use Rattle.mo_meaning.specs.Actions.{act, call, sent, awaited}
use Rattle.mo_meaning.specs.Acts.{Store, Act, Goes, Prints, Asks, Awaits, Leaves, Throws, Traps, Stuck}
use Rattle.mo_meaning.specs.Cells.{held, cell_of}
use Rattle.mo_meaning.specs.Jumps.{at_label, at_handler, at_frame}
use Rattle.mo_meaning.specs.Matching.{on_match, fails_to_match, trying}
use Rattle.mo_meaning.specs.Places.{inside, value_or, all_values, values_or}
use Rattle.mo_meaning.specs.Reduce.{reduce, reduce_operand}
use Rattle.mo_soundness.specs.Answered.{IsAsking}
use Rattle.mo_soundness.proofs.Answered.{goes_no, written_no, answered_no, written_in_no, printed_no, unwrapped_no, call_no, cases_no, chosen_no}

-- where the one waits, the other does so too
abbrev pub WaitsToo : Act → Act → Type 0
WaitsToo (Awaits n c) b = b ≡ Awaits n c
WaitsToo _ b = Unit {0}

quiet : (a b : Act) → (IsAsking a → ⊥) → WaitsToo a b
quiet (Awaits n c) b k = absurd (k tt)
quiet (Asks r) b k = tt
quiet (Goes cost store e) b k = tt
quiet (Prints cost text e) b k = tt
quiet (Leaves l v) b k = tt
quiet (Throws cost v) b k = tt
quiet (Traps cost text) b k = tt
quiet Stuck b k = tt

too_inside : (f : Exp → Exp) (a b : Act) → WaitsToo a b → WaitsToo (inside f a) (inside f b)
too_inside f (Awaits n c) b h = ap (inside f) h
too_inside f (Asks r) b h = tt
too_inside f (Goes cost store e) b h = tt
too_inside f (Prints cost text e) b h = tt
too_inside f (Leaves l v) b h = tt
too_inside f (Throws cost v) b h = tt
too_inside f (Traps cost text) b h = tt
too_inside f Stuck b h = tt

module _ (store other : Store) where
  too_label : (a b : Act) → WaitsToo a b → WaitsToo (at_label store a) (at_label other b)
  too_label (Awaits n c) b h = ap (at_label other) h
  too_label (Asks r) b h = tt
  too_label (Goes cost st e) b h = tt
  too_label (Prints cost text e) b h = tt
  too_label (Leaves zero v) b h = tt
  too_label (Leaves (suc l) v) b h = tt
  too_label (Throws cost v) b h = tt
  too_label (Traps cost text) b h = tt
  too_label Stuck b h = tt

  too_frame : (m : ℕ) (a b : Act) → WaitsToo a b → WaitsToo (at_frame store m a) (at_frame other m b)
  too_frame m (Awaits n c) b h = ap (at_frame other m) h
  too_frame m (Asks r) b h = tt
  too_frame m (Goes cost st e) b h = tt
  too_frame m (Prints cost text e) b h = tt
  too_frame m (Leaves zero v) b h = tt
  too_frame m (Leaves (suc l) v) b h = tt
  too_frame m (Throws cost v) b h = tt
  too_frame m (Traps cost text) b h = tt
  too_frame m Stuck b h = tt

  caught : (cost : Cost) (weight : ℕ) (e : Exp) (o : Option (List (Shape Code))) (b : Act) → WaitsToo (on_match o (λ s. Goes cost store (put s e)) (fails_to_match weight)) b
  caught cost weight e None b = tt
  caught cost weight e (Some vs) b = tt

  too_handler : (p : Pat) (e : Exp) (a b : Act) → WaitsToo a b → WaitsToo (at_handler store p e a) (at_handler other p e b)
  too_handler p e (Awaits n c) b h = ap (at_handler other p e) h
  too_handler p e (Throws cost v) b h = caught (weighing (cost.weight + trying p v)) (cost.weight + trying p v) e (matches p (shape_of v)) (at_handler other p e b)
  too_handler p e (Asks r) b h = tt
  too_handler p e (Goes cost st f) b h = tt
  too_handler p e (Prints cost text f) b h = tt
  too_handler p e (Leaves l v) b h = tt
  too_handler p e (Traps cost text) b h = tt
  too_handler p e Stuck b h = tt

  sent_too : (ps rs : List TypeId) (v : Value) (vs : List Value) → WaitsToo (sent store None ps rs v vs) (sent other None ps rs v vs)
  sent_too ps rs (Made (Leaf (part.Method p name)) NoValue) vs = tt
  sent_too ps rs v vs = tt

  awaited_too : (v : Value) → WaitsToo (awaited store None v) (awaited other None v)
  awaited_too (Made (Future call) NoValue) = refl
  awaited_too v = tt

  module _ (head : TypeId → Node TypeId) where
    act_too : (a : Action) (vs : List Value) → WaitsToo (act head None store a vs) (act head None other a vs)
    act_too (action.Operate o) vs = quiet _ _ (answered_no store (operation_cost o (shapes_list vs) (operate head o (shapes_list vs))) (operate head o (shapes_list vs)))
    act_too (action.BuiltIn m) vs = tt
    act_too action.New (v ∷ []) = tt
    act_too action.Read (c ∷ []) = quiet _ _ (goes_no store (held store (cell_of c)))
    act_too action.Write (c ∷ v ∷ []) = quiet _ _ (written_no store (cell_of c) v)
    act_too action.WriteElement (a ∷ i ∷ v ∷ []) = quiet _ _ (written_in_no store (operate head op.Element (shape_of a ∷ shape_of i ∷ [])) v)
    act_too action.Print (v ∷ []) = quiet _ _ (printed_no store v)
    act_too action.Throw (v ∷ []) = tt
    act_too action.Call (f ∷ vs) = quiet _ _ (call_no store f vs)
    act_too (action.Send ps rs) (f ∷ vs) = sent_too ps rs f vs
    act_too action.Await (v ∷ []) = awaited_too v
    act_too (action.Break l) (v ∷ []) = tt
    act_too (action.Unwrap l) (v ∷ []) = quiet _ _ (unwrapped_no store l v)
    act_too a vs = tt

    either : (e : Exp) (f k : Value → Act) (a b : Act) → ((v : Value) → WaitsToo (f v) (k v)) → WaitsToo a b → WaitsToo (value_or e f a) (value_or e k b)
    either (Val v) f k a b i j = i v
    either _ f k a b i j = j

    all_or : (o : Option (List Value)) (a : Action) (x y : Act) → WaitsToo x y → WaitsToo (values_or o (act head None store a) x) (values_or o (act head None other a) y)
    all_or None a x y k = k
    all_or (Some vs) a x y k = act_too a vs

    abbrev here : Exp → Act
    here e = reduce head None store e

    abbrev there : Exp → Act
    there e = reduce head None other e

    mutual
      pub waits_too : (e : Exp) → WaitsToo (here e) (there e)
      waits_too (Val v) = tt
      waits_too (Name x) = tt
      waits_too (Do a es) = all_or (all_values es) a (reduce_operand head None store (Do a) es) (reduce_operand head None other (Do a) es) (operand_too es (Do a))
      waits_too (If c a b) = either c _ _ _ _ (λ v. quiet _ _ (chosen_no store v a b)) (too_inside (λ e. If e a b) (here c) (there c) (waits_too c))
      waits_too (Switch e cases) = either e _ _ _ _ (λ v. quiet _ _ (cases_no store 1 v cases)) (too_inside (λ f. Switch f cases) (here e) (there e) (waits_too e))
      waits_too (Group fns b) = tt
      waits_too (Frame n e) = either e _ _ _ _ (λ v. tt) (too_frame n (here e) (there e) (waits_too e))
      waits_too (Label e) = either e _ _ _ _ (λ v. tt) (too_label (here e) (there e) (waits_too e))
      waits_too (While c b) = tt
      waits_too (Repeat b c) = tt
      waits_too (For p e b) = either e _ _ _ _ (λ v. tt) (too_inside (λ f. For p f b) (here e) (there e) (waits_too e))
      waits_too (Try e p b) = either e _ _ _ _ (λ v. tt) (too_handler p b (here e) (there e) (waits_too e))
      waits_too (Update o e f) = either e _ _ _ _ (λ v. tt) (too_inside (λ e. Update o e f) (here e) (there e) (waits_too e))

      operand_too : (es : Exps) (f : Exps → Exp) → WaitsToo (reduce_operand head None store f es) (reduce_operand head None other f es)
      operand_too NoExp f = tt
      operand_too (AnExp e es) f = either e _ _ _ _ (λ v. operand_too es (λ rest. f (AnExp (Val v) rest))) (too_inside (λ e. f (AnExp e es)) (here e) (there e) (waits_too e))

    pub waits_there : (e : Exp) (n c : ℕ) → here e ≡ Awaits n c → there e ≡ Awaits n c
    waits_there e n c h = subst (λ a. WaitsToo a (there e)) h (waits_too e)
