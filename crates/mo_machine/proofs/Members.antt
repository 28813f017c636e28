-- The code of a built-in function stands for its body.
use Rattle.std.proofs.Common.{◌≡◌, ℕ, zero, suc, ◌+◌, Bool, true, false, List, [], ◌∷◌, Option, Some, None, refl, sym, ap, ap₂, ◌∙◌, slice_get}
use Rattle.std.specs.Prelude.{cond, length}
use Rattle.std.specs.Str.{chars}
use Rattle.mo_num.specs.declared.kind.Kind.TheVariants as kind
use Rattle.mo_types.specs.Heads.{map_option}
use Rattle.mo_values.specs.declared.operation.Operation.{Operation}
use Rattle.mo_values.specs.declared.operation.Operation.TheVariants as op
use Rattle.mo_values.specs.Costs.{weighing}
use Rattle.mo_values.specs.Shapes.{Bytes, Array, Cell, size}
use Rattle.mo_values.specs.Views.{natural_of, text_of}
use Rattle.typed_tree.specs.declared.action.Action.{Action}
use Rattle.typed_tree.specs.declared.action.Action.TheVariants as action
use Rattle.typed_tree.specs.declared.action.Member.{Member}
use Rattle.typed_tree.specs.declared.action.Member.TheVariants as member
use Rattle.typed_tree.specs.Language.{Exp, Exps, Val, Name, Do, NoExp, AnExp}
use Rattle.typed_tree.specs.Language as language
use Rattle.typed_tree.specs.Substitution.{Slots, pick, put, put_all}
use Rattle.typed_tree.specs.Opening as opening
use Rattle.mo_meaning.specs.Acts as meaning
use Rattle.mo_meaning.specs.Cells as cells
use Rattle.mo_meaning.specs.Members as members
use Rattle.mo_meaning.specs.Members.{operation, number}
use Rattle.mo_meaning.specs.Places.{one, two, value_list}
use Rattle.mo_machine.specs.Values.{Value, Values, Made, NoValue, AValue, shape_of, shapes_list, listed, gathered}
use Rattle.mo_machine.specs.Environments.{Environment}
use Rattle.mo_machine.specs.Frames.{Focus}
use Rattle.mo_machine.specs.Acts.{Store}
use Rattle.mo_machine.specs.Cells.{cell_of, held}
use Rattle.mo_machine.specs.Members.{operates, elements, calls_code, cells_code, each_code, sized, each, next_code, is_mutable, element_code, body_of, char_code, next_char_at, number_in, next_char, in_frame, call_member, make_member}
use Rattle.mo_machine.specs.Unload.{unload, unload_all, unload_list, slots, focused}
use Rattle.mo_machine.specs.Agrees.{unload_act}
use Rattle.mo_machine.proofs.Cells.{cell_same, held_same}
use Rattle.mo_machine.proofs.Looks.{natural_same, text_same, size_same, length_same}
use Rattle.mo_machine.proofs.Unloaded.{closed, shape_unload, list_closed, list_unloaded, list_gathered, before_operands}

-- ---- what is seen of a value

natural_unload : (v : Value) → natural_of (opening.shape_of (unload v)) ≡ natural_of (shape_of v)
natural_unload v = ap natural_of (shape_unload v) ∙ natural_same closed (shape_of v)

text_unload : (v : Value) → text_of (opening.shape_of (unload v)) ≡ text_of (shape_of v)
text_unload v = ap text_of (shape_unload v) ∙ text_same closed (shape_of v)

size_unload : (v : Value) → size (opening.shape_of (unload v)) ≡ size (shape_of v)
size_unload v = ap size (shape_unload v) ∙ size_same closed (shape_of v)

elements_same : (v : Value) → members.elements (unload v) ≡ map_option unload_list (elements v)
elements_same (Made Array inside) = ap Some (list_unloaded inside)
elements_same _ = refl

mutable_same : (v : Value) → members.is_mutable (unload v) ≡ is_mutable v
mutable_same (Made Array (AValue (Made (Cell at) inside) vs)) = refl
mutable_same _ = refl

number_same : (o : Option Value) → members.number_in (map_option unload o) ≡ number_in o
number_same None = refl
number_same (Some v) = natural_unload v

-- ---- code over names is code over the values that are put in their place

calls_put : (f : Value) (i n : ℕ) → put_all (slots (AValue f NoValue)) (calls_code i n) ≡ members.calls_from (unload f) i n
calls_put f i zero = refl
calls_put f i (suc n) = ap (AnExp (Do action.Call (two (Val (unload f)) (Val (number i))))) (calls_put f (suc i) n)

cells_put : (v : Value) (n : ℕ) → put_all (slots (AValue v NoValue)) (cells_code n) ≡ members.new_cells (unload v) n
cells_put v zero = refl
cells_put v (suc n) = ap (AnExp (Do action.New (one (Val (unload v))))) (cells_put v n)

-- from the i-th name on these values are held
abbrev Holds : Slots → ℕ → List Value → Type 0
Holds s i [] = Unit {0}
Holds s i (v ∷ vs) = ((x : ℕ) → pick s i x ≡ Val (unload v)) × Holds s (suc i) vs

holds_later : (o : Option language.Value) (s : Slots) (i : ℕ) (vs : List Value) → Holds s i vs → Holds (o ∷ s) (suc i) vs
holds_later o s i [] h = tt
holds_later o s i (v ∷ vs) h = (λ x. pick_later o s i x ∙ h.0 x, holds_later o s (suc i) vs h.1)
  where
    pick_later : (o : Option language.Value) (s : Slots) (i x : ℕ) → pick (o ∷ s) (suc i) x ≡ pick s i x
    pick_later None s i x = refl
    pick_later (Some v) s i x = refl

holds_all : (vs : List Value) → Holds (slots (gathered vs)) 0 vs
holds_all [] = tt
holds_all (v ∷ vs) = (λ x. refl, holds_later (Some (unload v)) (slots (gathered vs)) 0 vs (holds_all vs))

new_each : (s : Slots) (i : ℕ) (vs : List Value) → Holds s i vs → put_all s (each_code action.New i vs) ≡ members.cells_of (unload_list vs)
new_each s i [] h = refl
new_each s i (v ∷ vs) h = ap₂ (λ x r. AnExp (Do action.New (one x)) r) (h.0 i) (new_each s (suc i) vs h.1)

read_each : (s : Slots) (i : ℕ) (vs : List Value) → Holds s i vs → put_all s (each_code action.Read i vs) ≡ members.reads_of (unload_list vs)
read_each s i [] h = refl
read_each s i (v ∷ vs) h = ap₂ (λ x r. AnExp (Do action.Read (one x)) r) (h.0 i) (read_each s (suc i) vs h.1)

next_put : (mutable : Bool) (a place : language.Value)
    → put (Some a ∷ Some place ∷ []) (next_code (element_code mutable))
    ≡ members.next_by (λ i. cond mutable (Do action.Read (one (operation op.Element (two (Val a) i)))) (operation op.Element (two (Val a) i))) a place
next_put true a place = refl
next_put false a place = refl

char_put : (place : language.Value) (i : ℕ) (o : Option ℕ) → put (Some place ∷ []) (char_code i o) ≡ members.char_body place i o
char_put place i None = refl
char_put place i (Some c) = refl

-- ---- bodies

operates_same : (o : Operation) (vs : List Value) → map_option focused (operates o vs) ≡ members.operates o (unload_list vs)
operates_same o vs = ap (λ es. Some (Do (action.Operate o) es)) (before_operands vs)

sized_same : (es fs : ℕ → Exps) (env : Environment) → ((n : ℕ) → put_all (slots env) (es n) ≡ fs n) → (v : Value)
    → map_option focused (sized es env (natural_of (shape_of v))) ≡ members.sized fs (natural_of (opening.shape_of (unload v)))
sized_same es fs env h v = of_size (natural_of (shape_of v)) ∙ ap (members.sized fs) (sym (natural_unload v))
  where
    of_size : (o : Option ℕ) → map_option focused (sized es env o) ≡ members.sized fs o
    of_size None = refl
    of_size (Some n) = ap (λ x. Some (operation op.MakeArray x)) (h n)

each_same : (a : Action) (fs : List language.Value → Exps) → ((s : Slots) (i : ℕ) (vs : List Value) → Holds s i vs → put_all s (each_code a i vs) ≡ fs (unload_list vs)) → (v : Value)
    → map_option focused (each a (elements v)) ≡ members.each fs (members.elements (unload v))
each_same a fs h v = of_elements (elements v) ∙ ap (members.each fs) (sym (elements_same v))
  where
    of_elements : (o : Option (List Value)) → map_option focused (each a o) ≡ members.each fs (map_option unload_list o)
    of_elements None = refl
    of_elements (Some vs) = ap (λ x. Some (operation op.MakeArray x)) (h (slots (gathered vs)) 0 vs (holds_all vs))

next_same : (a place : Value) → put (slots (AValue a (AValue place NoValue))) (next_code (element_code (is_mutable a))) ≡ members.next_by (members.element (unload a)) (unload a) (unload place)
next_same a place =
    next_put (is_mutable a) (unload a) (unload place)
    ∙ ap (λ b. members.next_by (λ i. cond b (Do action.Read (one (operation op.Element (two (Val (unload a)) i)))) (operation op.Element (two (Val (unload a)) i))) (unload a) (unload place)) (sym (mutable_same a))

body_same : (m : Member) (hs vs : List Value) → map_option focused (body_of m hs vs) ≡ members.body_of m (unload_list hs) (unload_list vs)
body_same member.DebugPrint [] vs = ap (λ es. Some (Do action.Print es)) (before_operands vs)
body_same member.DebugTrap [] vs = operates_same op.Trap vs
body_same member.ErrorReject [] vs = operates_same op.RejectError vs
body_same member.ErrorMessage [] vs = operates_same op.Message vs
body_same member.ErrorCode [] vs = operates_same op.Code vs
body_same member.NatToText [] vs = operates_same (op.ToText kind.Nat) vs
body_same member.IntToText [] vs = operates_same (op.ToText kind.Int) vs
body_same member.PrincipalFromActor [] vs = operates_same op.PrincipalOf vs
body_same member.ArrayTabulate [] (n ∷ f ∷ []) = sized_same (calls_code 0) (members.calls_from (unload f) 0) (AValue f NoValue) (calls_put f 0) n
body_same member.ArrayInit [] (n ∷ v ∷ []) = sized_same cells_code (members.new_cells (unload v)) (AValue v NoValue) (cells_put v) n
body_same member.ArrayFreeze [] (a ∷ []) = each_same action.Read members.reads_of read_each a
body_same member.ArrayThaw [] (a ∷ []) = each_same action.New members.cells_of new_each a
body_same member.ArraySize (a ∷ []) [] = refl
body_same member.ArrayVals (a ∷ []) [] = refl
body_same member.ArrayKeys (a ∷ []) [] = refl
body_same member.TextSize (t ∷ []) [] = refl
body_same member.TextChars (t ∷ []) [] = refl
body_same member.NextKey (a ∷ place ∷ []) [] = refl
body_same member.NextVal (a ∷ place ∷ []) [] = ap Some (next_same a place)
body_same _ _ _ = refl

-- ---- calls

module _ (store : Store) where
  frame_same : (o : Option Focus) → unload_act (in_frame store o) ≡ members.in_frame (unload_list store) (map_option focused o)
  frame_same None = refl
  frame_same (Some f) = refl

  next_at_same : (t place : Value) (o : Option Bytes) (i : Option ℕ) → unload_act (next_char_at store t place o i) ≡ members.next_char_at (unload_list store) (unload t) (unload place) o i
  next_at_same t place (Some bytes) (Some i) =
      ap₂ (λ n e. meaning.Goes (weighing (1 + n)) (unload_list store) (language.Frame 0 e)) (sym (size_unload t)) (char_put (unload place) i (slice_get (chars bytes) i))
  next_at_same t place (Some bytes) None = refl
  next_at_same t place None i = refl

  next_char_same : (t place : Value) → unload_act (next_char store t place) ≡ members.next_char (unload_list store) (unload t) (unload place)
  next_char_same t place =
      next_at_same t place (text_of (shape_of t)) (number_in (held store (cell_of place)))
      ∙ ap₂ (λ o i. members.next_char_at (unload_list store) (unload t) (unload place) o i) (sym (text_unload t))
      (sym (ap (λ o. members.number_in (cells.held (unload_list store) o)) (cell_same place) ∙ (ap members.number_in (held_same store (cell_of place)) ∙ number_same (held store (cell_of place)))))

  call_by_body : (m : Member) (hs vs : List Value) → unload_act (in_frame store (body_of m hs vs)) ≡ members.in_frame (unload_list store) (members.body_of m (unload_list hs) (unload_list vs))
  call_by_body m hs vs = frame_same (body_of m hs vs) ∙ ap (members.in_frame (unload_list store)) (body_same m hs vs)

  call_list_same : (m : Member) (hs vs : List Value) → unload_act (call_member store m hs vs) ≡ members.call_member (unload_list store) m (unload_list hs) (unload_list vs)
  call_list_same member.NextChar (t ∷ place ∷ []) [] = next_char_same t place
  call_list_same m hs vs = call_by_body m hs vs

  pub call_member_same : (m : Member) (holds : Values) (vs : List Value) → unload_act (call_member store m (listed holds) vs) ≡ members.call_member (unload_list store) m (value_list (unload_all holds)) (unload_list vs)
  call_member_same m holds vs = call_list_same m (listed holds) vs ∙ ap (λ hs. members.call_member (unload_list store) m hs (unload_list vs)) (sym (list_unloaded holds))

  pub make_member_same : (m : Member) (vs : List Value) → unload_act (make_member store m vs) ≡ members.make_member (unload_list store) m (unload_list vs)
  make_member_same m vs =
      ap₂ (λ n w. meaning.Goes (weighing (2 + n)) (unload_list store) (Val (language.BuiltIn m w)))
      (sym (ap (λ ss. length ss) (list_closed vs) ∙ length_same closed (shapes_list vs))) (list_gathered vs)
