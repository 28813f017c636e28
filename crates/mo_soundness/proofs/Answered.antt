-- Where a reduction asks, it is answered by what it is given, whatever that is.
use Rattle.std.proofs.Common.{ℕ, zero, suc, ◌+◌, List, [], ◌∷◌, Bool, true, false, cond, Option, Some, None}
use Rattle.mo_types.specs.declared.datum.Datum.TheVariants as part
use Rattle.mo_types.specs.declared.node.Node.{Node}
use Rattle.mo_types.specs.declared.node.TypeId.{TypeId}
use Rattle.mo_values.specs.declared.operation.Operation.TheVariants as op
use Rattle.mo_values.specs.Costs.{Cost, weighing, operation_cost}
use Rattle.mo_values.specs.Operations.{operate}
use Rattle.mo_values.specs.Shapes.{Bytes, Leaf, Present, Future, Shape}
use Rattle.mo_values.specs.Views.{Answer, Gives, text_of}
use Rattle.mo_values.specs.Views as answer
use Rattle.typed_tree.specs.declared.action.Action.{Action}
use Rattle.typed_tree.specs.declared.action.Action.TheVariants as action
use Rattle.typed_tree.specs.declared.action.Member.{Member}
use Rattle.typed_tree.specs.declared.action.Member.TheVariants as member
use Rattle.typed_tree.specs.Language.{Value, Exp, Exps, Cases, Functions, Made, Function, BuiltIn, NoValue, AValue, Val, Name, Do, If, Switch, Group, Frame, Label, While, Repeat, For, Try, Update, NoExp, AnExp, NoCase, ACase, NoFunction, AFunction}
use Rattle.typed_tree.specs.Opening.{Code, shape_of, value_of, shapes_list}
use Rattle.typed_tree.specs.Patterns.{Pat, matches, matches_all}
use Rattle.typed_tree.specs.Substitution.{put}
use Rattle.mo_meaning.specs.Actions.{act, call, printed, sent, awaited, given_or, answered}
use Rattle.mo_meaning.specs.Acts.{Store, Given, Gets, Fails, Act, Goes, Prints, Asks, Awaits, Leaves, Throws, Traps, Stuck}
use Rattle.mo_meaning.specs.Calls.{are_as_many, entered, entering, call_function}
use Rattle.mo_meaning.specs.Cells.{goes_to, held, cell_of, written, written_in}
use Rattle.mo_meaning.specs.Jumps.{unwrapped, at_label, at_handler, at_frame}
use Rattle.mo_meaning.specs.Matching.{on_match, fails_to_match, first_case, trying}
use Rattle.mo_meaning.specs.Members.{body_of, in_frame, call_member, next_char_at, number_in}
use Rattle.mo_meaning.specs.Places.{inside, value_or, all_values, values_or, value_list}
use Rattle.mo_meaning.specs.Reduce.{chosen, reduce, reduce_operand}
use Rattle.mo_soundness.specs.Answered.{IsAsking, IsAnswered}

-- ---- what does not ask

pub goes_no : (store : Store) (o : Option Value) → IsAsking (goes_to store o) → ⊥
goes_no store None h = h
goes_no store (Some v) h = h

pub written_no : (store : Store) (o : Option ℕ) (v : Value) → IsAsking (written store o v) → ⊥
written_no store None v h = h
written_no store (Some at) v h = h

pub answered_no : (store : Store) (cost : Cost) (a : Answer Code) → IsAsking (answered store cost a) → ⊥
answered_no store cost (Gives v) h = h
answered_no store cost (answer.Traps text) h = h
answered_no store cost answer.Stuck h = h

pub written_in_no : (store : Store) (a : Answer Code) (v : Value) → IsAsking (written_in store a v) → ⊥
written_in_no store (Gives c) v h = written_no store (cell_of (value_of c)) v h
written_in_no store (answer.Traps text) v h = h
written_in_no store answer.Stuck v h = h

pub printed_no : (store : Store) (v : Value) → IsAsking (printed store v) → ⊥
printed_no store (Made (Leaf (part.Text t)) NoValue) h = h
printed_no store v h = h

pub unwrapped_no : (store : Store) (l : ℕ) (v : Value) → IsAsking (unwrapped store l v) → ⊥
unwrapped_no store l (Made (Leaf part.Null) NoValue) h = h
unwrapped_no store l (Made Present (AValue v NoValue)) h = h
unwrapped_no store l v h = h

entered_no : (store : Store) (group : Functions) (weight nodes : ℕ) (body : Exp) (o : Option (List (Shape Code))) → IsAsking (entered store group weight nodes body o) → ⊥
entered_no store group weight nodes body None h = h
entered_no store group weight nodes body (Some vs) h = h

counted_no : (b : Bool) (a : Act) → (IsAsking a → ⊥) → IsAsking (cond b a Stuck) → ⊥
counted_no true a k h = k h
counted_no false a k h = h

function_no : (store : Store) (group fns : Functions) (n : ℕ) (vs : List Value) → IsAsking (call_function store group fns n vs) → ⊥
function_no store group NoFunction n vs h = h
function_no store group (AFunction how nodes ps body fns) zero vs h =
    counted_no (are_as_many ps vs) (entered store group (entering nodes ps (shapes_list vs)) nodes body (matches_all ps (shapes_list vs))) (λ k. entered_no store group (entering nodes ps (shapes_list vs)) nodes body (matches_all ps (shapes_list vs)) k) h
function_no store group (AFunction how nodes ps body fns) (suc n) vs h = function_no store group fns n vs h

frame_no : (store : Store) (o : Option Exp) → IsAsking (in_frame store o) → ⊥
frame_no store None h = h
frame_no store (Some e) h = h

char_no : (store : Store) (t place : Value) (o : Option Bytes) (i : Option ℕ) → IsAsking (next_char_at store t place o i) → ⊥
char_no store t place (Some bytes) (Some i) h = h
char_no store t place (Some bytes) None h = h
char_no store t place None i h = h

member_no : (store : Store) (m : Member) (holds vs : List Value) → IsAsking (call_member store m holds vs) → ⊥
member_no store member.NextChar (t ∷ place ∷ []) [] h = char_no store t place (text_of (shape_of t)) (number_in (held store (cell_of place))) h
member_no store m holds vs h = frame_no store (body_of m holds vs) h

pub call_no : (store : Store) (f : Value) (vs : List Value) → IsAsking (call store f vs) → ⊥
call_no store (Function group which) vs h = function_no store group group which vs h
call_no store (BuiltIn m holds) vs h = member_no store m (value_list holds) vs h
call_no store (Made head inside) vs h = h

pub cases_no : (store : Store) (weight : ℕ) (v : Value) (cases : Cases) → IsAsking (first_case store weight v cases) → ⊥
cases_no store weight v NoCase h = h
cases_no store weight v (ACase p e cases) h = by (matches p (shape_of v)) (λ k. cases_no store (weight + trying p v) v cases k) h
  where
    by : (o : Option (List (Shape Code))) → (IsAsking (first_case store (weight + trying p v) v cases) → ⊥) → IsAsking (on_match o (λ s. Goes (weighing (weight + trying p v)) store (put s e)) (first_case store (weight + trying p v) v cases)) → ⊥
    by None k h = k h
    by (Some vs) k h = h

pub chosen_no : (store : Store) (v : Value) (a b : Exp) → IsAsking (chosen store v a b) → ⊥
chosen_no store (Made (Leaf (part.Flag true)) NoValue) a b h = h
chosen_no store (Made (Leaf (part.Flag false)) NoValue) a b h = h
chosen_no store v a b h = h

-- ---- what asks

given_answered : (store : Store) (g : Given) (asks : Act) → IsAnswered (given_or store (Some g) asks)
given_answered store (Gets v) asks = tt
given_answered store (Fails e) asks = tt

sent_answered : (store : Store) (g : Given) (ps rs : List TypeId) (v : Value) (vs : List Value) → IsAsking (sent store None ps rs v vs) → IsAnswered (sent store (Some g) ps rs v vs)
sent_answered store g ps rs (Made (Leaf (part.Method p name)) NoValue) vs h = given_answered store g _
sent_answered store g ps rs v vs h = absurd h

awaited_answered : (store : Store) (g : Given) (v : Value) → IsAsking (awaited store None v) → IsAnswered (awaited store (Some g) v)
awaited_answered store g (Made (Future call) NoValue) h = given_answered store g (Awaits 0 call)
awaited_answered store g v h = absurd h

module _ (head : TypeId → Node TypeId) (g : Given) (store : Store) where
  act_answered : (a : Action) (vs : List Value) → IsAsking (act head None store a vs) → IsAnswered (act head (Some g) store a vs)
  act_answered (action.Operate o) vs h = absurd (answered_no store (operation_cost o (shapes_list vs) (operate head o (shapes_list vs))) (operate head o (shapes_list vs)) h)
  act_answered (action.BuiltIn m) vs h = absurd h
  act_answered action.New (v ∷ []) h = absurd h
  act_answered action.Read (c ∷ []) h = absurd (goes_no store (held store (cell_of c)) h)
  act_answered action.Write (c ∷ v ∷ []) h = absurd (written_no store (cell_of c) v h)
  act_answered action.WriteElement (a ∷ i ∷ v ∷ []) h = absurd (written_in_no store (operate head op.Element (shape_of a ∷ shape_of i ∷ [])) v h)
  act_answered action.Print (v ∷ []) h = absurd (printed_no store v h)
  act_answered action.Throw (v ∷ []) h = absurd h
  act_answered action.Call (f ∷ vs) h = absurd (call_no store f vs h)
  act_answered (action.Send ps rs) (f ∷ vs) h = sent_answered store g ps rs f vs h
  act_answered action.Await (v ∷ []) h = awaited_answered store g v h
  act_answered (action.Break l) (v ∷ []) h = absurd h
  act_answered (action.Unwrap l) (v ∷ []) h = absurd (unwrapped_no store l v h)
  act_answered a vs h = absurd h

  -- ---- outward

  abbrev Answers : Act → Act → Type 0
  Answers a b = IsAsking a → IsAnswered b

  pub asking_inside : (f : Exp → Exp) (a : Act) → IsAsking (inside f a) → IsAsking a
  asking_inside f (Asks r) h = tt
  asking_inside f (Awaits n c) h = tt
  asking_inside f (Goes cost st e) h = h
  asking_inside f (Prints cost text e) h = h
  asking_inside f (Leaves l v) h = h
  asking_inside f (Throws cost v) h = h
  asking_inside f (Traps cost text) h = h
  asking_inside f Stuck h = h

  answered_inside : (f : Exp → Exp) (b : Act) → IsAnswered b → IsAnswered (inside f b)
  answered_inside f (Goes cost st e) i = tt
  answered_inside f (Throws cost v) i = tt
  answered_inside f (Traps cost text) i = tt
  answered_inside f b i = absurd i

  answers_inside : (f : Exp → Exp) (a b : Act) → Answers a b → Answers (inside f a) (inside f b)
  answers_inside f a b k h = answered_inside f b (k (asking_inside f a h))

  pub asking_label : (a : Act) → IsAsking (at_label store a) → IsAsking a
  asking_label (Asks r) h = tt
  asking_label (Awaits n c) h = tt
  asking_label (Goes cost st e) h = h
  asking_label (Prints cost text e) h = h
  asking_label (Leaves zero v) h = h
  asking_label (Leaves (suc l) v) h = h
  asking_label (Throws cost v) h = h
  asking_label (Traps cost text) h = h
  asking_label Stuck h = h

  answered_label : (b : Act) → IsAnswered b → IsAnswered (at_label store b)
  answered_label (Goes cost st e) i = tt
  answered_label (Throws cost v) i = tt
  answered_label (Traps cost text) i = tt
  answered_label b i = absurd i

  pub asking_frame : (n : ℕ) (a : Act) → IsAsking (at_frame store n a) → IsAsking a
  asking_frame n (Asks r) h = tt
  asking_frame n (Awaits m c) h = tt
  asking_frame n (Goes cost st e) h = h
  asking_frame n (Prints cost text e) h = h
  asking_frame n (Leaves zero v) h = h
  asking_frame n (Leaves (suc l) v) h = h
  asking_frame n (Throws cost v) h = h
  asking_frame n (Traps cost text) h = h
  asking_frame n Stuck h = h

  answered_frame : (n : ℕ) (b : Act) → IsAnswered b → IsAnswered (at_frame store n b)
  answered_frame n (Goes cost st e) i = tt
  answered_frame n (Throws cost v) i = tt
  answered_frame n (Traps cost text) i = tt
  answered_frame n b i = absurd i

  caught_no : (cost : Cost) (weight : ℕ) (b : Exp) (o : Option (List (Shape Code))) → IsAsking (on_match o (λ s. Goes cost store (put s b)) (fails_to_match weight)) → ⊥
  caught_no cost weight b None h = h
  caught_no cost weight b (Some vs) h = h

  caught_answered : (cost : Cost) (weight : ℕ) (b : Exp) (o : Option (List (Shape Code))) → IsAnswered (on_match o (λ s. Goes cost store (put s b)) (fails_to_match weight))
  caught_answered cost weight b None = tt
  caught_answered cost weight b (Some vs) = tt

  pub asking_handler : (p : Pat) (b : Exp) (a : Act) → IsAsking (at_handler store p b a) → IsAsking a
  asking_handler p b (Asks r) h = tt
  asking_handler p b (Awaits m c) h = tt
  asking_handler p b (Goes cost st e) h = h
  asking_handler p b (Prints cost text e) h = h
  asking_handler p b (Leaves l v) h = h
  asking_handler p b (Throws cost v) h = absurd (caught_no (weighing (cost.weight + trying p v)) (cost.weight + trying p v) b (matches p (shape_of v)) h)
  asking_handler p b (Traps cost text) h = h
  asking_handler p b Stuck h = h

  answered_handler : (p : Pat) (b : Exp) (a : Act) → IsAnswered a → IsAnswered (at_handler store p b a)
  answered_handler p b (Goes cost st e) i = tt
  answered_handler p b (Throws cost v) i = caught_answered (weighing (cost.weight + trying p v)) (cost.weight + trying p v) b (matches p (shape_of v))
  answered_handler p b (Traps cost text) i = tt
  answered_handler p b a i = absurd i

  -- ---- each form

  either : (e : Exp) (f k : Value → Act) (a b : Act) → ((v : Value) → Answers (f v) (k v)) → Answers a b → Answers (value_or e f a) (value_or e k b)
  either (Val v) f k a b i j h = i v h
  either _ f k a b i j h = j h

  all_or : (o : Option (List Value)) (a : Action) (x y : Act) → Answers x y → Answers (values_or o (act head None store a) x) (values_or o (act head (Some g) store a) y)
  all_or None a x y k h = k h
  all_or (Some vs) a x y k h = act_answered a vs h

  abbrev asked : Exp → Act
  asked e = reduce head None store e

  abbrev told : Exp → Act
  told e = reduce head (Some g) store e

  mutual
    pub answers : (e : Exp) → Answers (asked e) (told e)
    answers (Val v) h = absurd h
    answers (Name x) h = absurd h
    answers (Do a es) h = all_or (all_values es) a (reduce_operand head None store (Do a) es) (reduce_operand head (Some g) store (Do a) es) (λ k. operand_answers es (Do a) k) h
    answers (If c a b) h = either c _ _ _ _ (λ v k. absurd (chosen_no store v a b k)) (λ k. answers_inside (λ e. If e a b) (asked c) (told c) (λ l. answers c l) k) h
    answers (Switch e cases) h = either e _ _ _ _ (λ v k. absurd (cases_no store 1 v cases k)) (λ k. answers_inside (λ f. Switch f cases) (asked e) (told e) (λ l. answers e l) k) h
    answers (Group fns b) h = absurd h
    answers (Frame n e) h = either e _ _ _ _ (λ v k. absurd k) (λ k. answered_frame n (told e) (answers e (asking_frame n (asked e) k))) h
    answers (Label e) h = either e _ _ _ _ (λ v k. absurd k) (λ k. answered_label (told e) (answers e (asking_label (asked e) k))) h
    answers (While c b) h = absurd h
    answers (Repeat b c) h = absurd h
    answers (For p e b) h = either e _ _ _ _ (λ v k. absurd k) (λ k. answers_inside (λ f. For p f b) (asked e) (told e) (λ l. answers e l) k) h
    answers (Try e p b) h = either e _ _ _ _ (λ v k. absurd k) (λ k. answered_handler p b (told e) (answers e (asking_handler p b (asked e) k))) h
    answers (Update o e f) h = either e _ _ _ _ (λ v k. absurd k) (λ k. answers_inside (λ e. Update o e f) (asked e) (told e) (λ l. answers e l) k) h

    operand_answers : (es : Exps) (f : Exps → Exp) → Answers (reduce_operand head None store f es) (reduce_operand head (Some g) store f es)
    operand_answers NoExp f h = absurd h
    operand_answers (AnExp e es) f h =
        either e _ _ _ _ (λ v k. operand_answers es (λ rest. f (AnExp (Val v) rest)) k) (λ k. answers_inside (λ e. f (AnExp e es)) (asked e) (told e) (λ l. answers e l) k) h
