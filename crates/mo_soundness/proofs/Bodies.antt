-- The bodies of built-in functions, typed.
use Rattle.std.proofs.Common.{◌≡◌, inl, inr, ℕ, zero, suc, ◌+◌, ◌≤◌, List, [], ◌∷◌, length, false, true≢false, cond, Some, None, refl, sym, ap, ◌∙◌, subst, pos, negsuc, ◌≤ℤ◌, arith}
use Rattle.std.specs.Prelude.{codes, if◌then◌else◌}
use Rattle.std.proofs.lemmas.Int.{ints}
use Rattle.std.proofs.lemmas.Slice.Eq.{bytes_eq-Decides}
use Rattle.mo_num.specs.Kinds.{InRange}
use Rattle.mo_num.specs.declared.kind.Kind.TheVariants as kind
use Rattle.mo_num.specs.declared.operator.Operator.TheVariants as operator
use Rattle.mo_types.specs.declared.datum.Datum.TheVariants as part
use Rattle.mo_types.specs.declared.node.Field.{Field}
use Rattle.mo_types.specs.declared.node.Node.{Node}
use Rattle.mo_types.specs.declared.node.Node.TheVariants as node
use Rattle.mo_types.specs.declared.node.Sort.TheVariants as sort
use Rattle.mo_types.specs.declared.node.TypeId.{TypeId}
use Rattle.mo_types.specs.Sub.{find}
use Rattle.mo_types.specs.Values.{copies}
use Rattle.mo_values.specs.declared.operation.Comparison.TheVariants as comparison
use Rattle.mo_values.specs.declared.operation.Operation.TheVariants as op
use Rattle.mo_values.specs.declared.operation.Scalar.TheVariants as scalar
use Rattle.mo_values.specs.Costs.{Cost}
use Rattle.mo_values.specs.Messages.{count, only_if}
use Rattle.mo_values.specs.Shapes.{Bytes, Leaf, Array, Error, Cell}
use Rattle.mo_values.specs.Views.{natural_of, natural_in}
use Rattle.typed_tree.specs.declared.action.Action.{Action}
use Rattle.typed_tree.specs.declared.action.Action.TheVariants as action
use Rattle.typed_tree.specs.declared.action.Member.{Member}
use Rattle.typed_tree.specs.Has.{field_want, by_mutability}
use Rattle.typed_tree.specs.Language.{Value, Values, Exp, Exps, Made, Function, BuiltIn, NoValue, AValue, Val, Name, Do, Frame, null}
use Rattle.typed_tree.specs.MemberTypes as types
use Rattle.typed_tree.specs.MemberTypes.{IsNumber, IsElementOf, IsIterator, MemberTyped}
use Rattle.typed_tree.specs.Opening.{shape_of, shapes_of}
use Rattle.typed_tree.specs.Wants.{Want, Of, CellOf}
use Rattle.typed_tree.proofs.Leaves.{passes}
use Rattle.mo_meaning.specs.Acts.{Store, Goes}
use Rattle.mo_meaning.specs.Members.{operation, number, calls_from, new_cells, cells_of, reads_of, advance, next_by, is_mutable, element}
use Rattle.mo_meaning.specs.Places.{operands, one, two, value_list}
use Rattle.mo_soundness.specs.Keeps.{closed, HasEach, Keeps}
use Rattle.mo_soundness.specs.Lawful.{IsLawful}
use Rattle.mo_soundness.specs.Running.{Around, context, Acts, AnswerTypes, Fits, HasValue, HaveValues, Typed, EachTyped, StoreTyped}
use Rattle.mo_soundness.specs.Worlds.{World}
use Rattle.mo_soundness.proofs.Found.{At, opened, made_at}
use Rattle.mo_soundness.proofs.More.{longer_self}
use Rattle.mo_soundness.proofs.Wanted.{reflexive, equal_self}

length_copies : {A : Type 0} (n : ℕ) (a : A) → length (copies n a) ≡ n
length_copies zero a = refl
length_copies (suc n) a = ap suc (length_copies n a)

own_copies : {A : Type 0} (n : ℕ) (a : A) → copies n a ≡ copies (length (copies n a)) a
own_copies n a = ap (λ k. copies k a) (sym (length_copies n a))

below_nat : (j n : ℕ) → j ≤ n → InRange kind.Nat (pos n) → InRange kind.Nat (pos j)
below_nat j n l r = let h = r.1 in (omega (arith, ints), omega (arith, ints))

zero_nat : InRange kind.Nat (pos 0)
zero_nat = (omega (arith, ints), omega (arith, ints))

one_nat : InRange kind.Nat (pos 1)
one_nat = (omega (arith, ints), omega (arith, ints))

no_negative : (n : ℕ) → pos 0 ≤ℤ negsuc n → ⊥
no_negative n h = omega arith

-- an iterator over what is held
abbrev pub iterator_body : Member → Value → Exp
iterator_body next v = operation (op.MakeObject (codes "next" ∷ [])) (one (Do (action.BuiltIn next) (two (Val v) (Do action.New (one (Val (number 0)))))))

module _ (world : World) (lawful : IsLawful world.head) (answers : AnswerTypes) (kinds : List TypeId) where
  abbrev Has : Want TypeId → Value → Type 0
  Has = HasValue world answers kinds

  abbrev In : Around → Exp → Want TypeId → Type 0
  In c e w = Typed world answers kinds c e w

  abbrev Each : Around → Exps → List (Want TypeId) → Type 0
  Each c es ws = EachTyped world answers kinds c es ws

  pub frame_keeps : (ls : List TypeId) (store : Store) (cost : Cost) (r : TypeId) (e : Exp) → StoreTyped world answers kinds store kinds → In (closed (r ∷ [])) e (Of r) → Keeps world answers kinds ls (Of r) (Goes cost store (Frame 0 e))
  frame_keeps ls store cost r e st h = (kinds, longer_self kinds, st, (r, h, reflexive world.head lawful r))

  pub operands_typed : (c : Around) (vs : List Value) (ws : List (Want TypeId)) → HasEach world answers kinds ws vs → Each c (operands vs) ws
  operands_typed c [] [] h = tt
  operands_typed c [] (w ∷ ws) h = absurd h
  operands_typed c (v ∷ vs) [] h = absurd h
  operands_typed c (v ∷ vs) (w ∷ ws) h = (h.0, operands_typed c vs ws h.1)

  -- what an action on operands gives
  pub does : (c : Around) (a : Action) (es : Exps) (ws : List (Want TypeId)) (t : TypeId) → Acts world (context sort.Local c) a ws (Of t) → Each c es ws → In c (Do a es) (Of t)
  does c a es ws t h i = inl (ws, inl (sort.Local, Of t, h, reflexive world.head lawful t), i)

  pub number_fits : (t : TypeId) (j : ℕ) → IsNumber world.head kind.Nat t → InRange kind.Nat (pos j) → Has (Of t) (number j)
  number_fits t j q r = made_at world answers kinds t (node.Number kind.Nat) (Leaf (part.Number (pos j))) NoValue q ((tt, r), tt)

  pub natural_seen : (t : TypeId) (v : Value) → IsNumber world.head kind.Nat t → Has (Of t) v → (n : ℕ) × (natural_of (shape_of v) ≡ Some n) × InRange kind.Nat (pos n)
  natural_seen t v q h = by v (opened world answers kinds t (node.Number kind.Nat) v q h)
    where
      by : (v : Value) → At world answers kinds (node.Number kind.Nat) t v → (n : ℕ) × (natural_of (shape_of v) ≡ Some n) × InRange kind.Nat (pos n)
      by (Made (Leaf (part.Number (pos n))) NoValue) k = (n, ap (λ b. natural_in (only_if b (part.Number (pos n)))) (passes (node.Number kind.Nat) (part.Number (pos n)) tt k.0.1), k.0.1)
      by (Made (Leaf (part.Number (pos n))) (AValue v vs)) k = absurd k.1
      by (Made (Leaf (part.Number (negsuc n))) inner) k = absurd (no_negative n k.0.1.0)
      by (Made (Leaf p) inner) k = absurd k.0.1
      by (Made Array inner) (inl r, k) = absurd r
      by (Made Array inner) (inr r, k) = absurd r
      by (Made (Error c m) inner) k = absurd (true≢false (sym k.0.0))
      by (Made h inner) k = absurd k.0
      by (Function g n) k = absurd k
      by (BuiltIn m holds) k = absurd k

  -- ---- arrays

  pub array_typed : (c : Around) (r e : TypeId) (n : ℕ) (es : Exps) → world.head r ≡ node.Array e → Each c es (copies n (Of e)) → In c (operation op.MakeArray es) (Of r)
  array_typed c r e n es q h = does c (action.Operate op.MakeArray) es (copies n (Of e)) r (r, refl, (e, inl (q, own_copies n (Of e)))) h

  pub cells_typed : (c : Around) (r e : TypeId) (n : ℕ) (es : Exps) → world.head r ≡ node.MutArray e → Each c es (copies n (CellOf e)) → In c (operation op.MakeArray es) (Of r)
  cells_typed c r e n es q h = does c (action.Operate op.MakeArray) es (copies n (CellOf e)) r (r, refl, (e, inr (q, own_copies n (CellOf e)))) h

  pub calls_typed : (c : Around) (f : Value) (t g e : TypeId) (i n k : ℕ) → IsNumber world.head kind.Nat t → world.head g ≡ types.Function (t ∷ []) e → Has (Of g) f → InRange kind.Nat (pos k) → i + n ≤ k → Each c (calls_from f i n) (copies n (Of e))
  calls_typed c f t g e i zero k q p h r l = tt
  calls_typed c f t g e i (suc n) k q p h r l = (
    does c action.Call (two (Val f) (Val (number i))) (Of g ∷ Of t ∷ []) e (g, e, t ∷ [], p, refl, refl) (h, (number_fits t i q (below_nat i k (omega arith) r), tt)),
    calls_typed c f t g e (suc i) n k q p h r (omega arith),
  )

  new_typed : (c : Around) (v : Value) (e : TypeId) → Has (Of e) v → In c (Do action.New (one (Val v))) (CellOf e)
  new_typed c v e h = inl (Of e ∷ [], inl (sort.Local, CellOf e, (e, refl, refl), equal_self world.head lawful e), (h, tt))

  pub new_cells_typed : (c : Around) (v : Value) (e : TypeId) (n : ℕ) → Has (Of e) v → Each c (new_cells v n) (copies n (CellOf e))
  new_cells_typed c v e zero h = tt
  new_cells_typed c v e (suc n) h = (new_typed c v e h, new_cells_typed c v e n h)

  pub cells_of_typed : (c : Around) (vs : Values) (e : TypeId) → HaveValues world answers kinds (copies (count (shapes_of vs)) (Of e)) vs → Each c (cells_of (value_list vs)) (copies (count (shapes_of vs)) (CellOf e))
  cells_of_typed c NoValue e h = tt
  cells_of_typed c (AValue v vs) e h = (new_typed c v e h.0, cells_of_typed c vs e h.1)

  pub read_typed : (c : Around) (v : Value) (e : TypeId) → Has (CellOf e) v → In c (Do action.Read (one (Val v))) (Of e)
  read_typed c v e h = does c action.Read (one (Val v)) (CellOf e ∷ []) e (e, refl, refl) (h, tt)

  pub reads_of_typed : (c : Around) (vs : Values) (e : TypeId) → HaveValues world answers kinds (copies (count (shapes_of vs)) (CellOf e)) vs → Each c (reads_of (value_list vs)) (copies (count (shapes_of vs)) (Of e))
  reads_of_typed c NoValue e h = tt
  reads_of_typed c (AValue v vs) e h = (read_typed c v e h.0, reads_of_typed c vs e h.1)

  -- an array of values, or one of cells, with its elements
  pub array_at : (a e : TypeId) (v : Value) → world.head a ≡ node.Array e → Has (Of a) v → (inner : Values) × (v ≡ Made Array inner) × HaveValues world answers kinds (copies (count (shapes_of inner)) (Of e)) inner
  array_at a e v q h = by v (opened world answers kinds a (node.Array e) v q h)
    where
      by : (v : Value) → At world answers kinds (node.Array e) a v → (inner : Values) × (v ≡ Made Array inner) × HaveValues world answers kinds (copies (count (shapes_of inner)) (Of e)) inner
      by (Made Array inner) k = (inner, refl, k.1)
      by (Made (Leaf (part.Many n)) inner) k = absurd k.0.0
      by (Made (Leaf p) inner) k = absurd k.0.1
      by (Made (Error c m) inner) k = absurd (true≢false (sym k.0.0))
      by (Made h inner) k = absurd k.0
      by (Function g n) k = absurd k
      by (BuiltIn m holds) k = absurd k

  pub cells_at : (a e : TypeId) (v : Value) → world.head a ≡ node.MutArray e → Has (Of a) v → (inner : Values) × (v ≡ Made Array inner) × HaveValues world answers kinds (copies (count (shapes_of inner)) (CellOf e)) inner
  cells_at a e v q h = by v (opened world answers kinds a (node.MutArray e) v q h)
    where
      by : (v : Value) → At world answers kinds (node.MutArray e) a v → (inner : Values) × (v ≡ Made Array inner) × HaveValues world answers kinds (copies (count (shapes_of inner)) (CellOf e)) inner
      by (Made Array inner) k = (inner, refl, k.1)
      by (Made (Leaf p) inner) k = absurd k.0.1
      by (Made (Error c m) inner) k = absurd (true≢false (sym k.0.0))
      by (Made h inner) k = absurd k.0
      by (Function g n) k = absurd k
      by (BuiltIn m holds) k = absurd k

  -- ---- iterators

  found_next : (f : Field TypeId) (l : Bytes) → f.label ≡ l → find l (f ∷ []) ≡ Some f
  found_next f l e = ap (λ b. if b then Some f else None) ((bytes_eq-Decides f.label l).1 e)

  pub iterator_typed : (c : Around) (next : Member) (v : Value) (a k r t : TypeId) → IsNumber world.head kind.Nat k → Has (Of a) v → IsIterator world.head r t → ((n : TypeId) (o : TypeId) → world.head n ≡ types.Function [] o → world.head o ≡ node.Opt t → MemberTyped world.head next (Of a ∷ CellOf k ∷ []) (world.head n)) → In c (iterator_body next v) (Of r)
  iterator_typed c next v a k r t q h it member =
      let f = it.0 in
      let l = codes "next" in
      let made : In c (Do (action.BuiltIn next) (two (Val v) (Do action.New (one (Val (number 0)))))) (Of f.part) =
      does c (action.BuiltIn next) (two (Val v) (Do action.New (one (Val (number 0))))) (Of a ∷ CellOf k ∷ []) f.part (f.part, refl, member f.part it.1 it.5 it.6) (h, (new_typed c (number 0) k (number_fits k 0 q zero_nat), tt)) in
      let want : field_want (find l (f ∷ [])) ≡ Of f.part = ap field_want (found_next f l it.3) ∙ ap (λ m. by_mutability m f.part) it.4 in
      let put : In c (Do (action.BuiltIn next) (two (Val v) (Do action.New (one (Val (number 0)))))) (field_want (find l (f ∷ []))) = subst (In c (Do (action.BuiltIn next) (two (Val v) (Do action.New (one (Val (number 0))))))) (sym want) made in
      does c (action.Operate (op.MakeObject (l ∷ []))) (one (Do (action.BuiltIn next) (two (Val v) (Do action.New (one (Val (number 0)))))))
      (field_want (find l (f ∷ [])) ∷ []) r (r, refl, (f ∷ [], it.2, (tt, tt), (inl it.3, tt), refl)) (put, tt)

  pub advance_typed : (c : Around) (place : Value) (i : Exp) (k : TypeId) → IsNumber world.head kind.Nat k → Has (CellOf k) place → In c i (Of k) → In c (advance place i) (Of lawful.unit)
  advance_typed c place i k q h j =
      let add : In c (operation (op.Arithmetic operator.Add kind.Nat) (two i (Val (number 1)))) (Of k) =
      does c (action.Operate (op.Arithmetic operator.Add kind.Nat)) (two i (Val (number 1))) (Of k ∷ Of k ∷ []) k (k, q, refl, refl) (j, (number_fits k 1 q one_nat, tt)) in
      does c action.Write (two (Val place) (operation (op.Arithmetic operator.Add kind.Nat) (two i (Val (number 1))))) (CellOf k ∷ Of k ∷ []) lawful.unit (k, refl, (lawful.unit, refl, lawful.is_unit)) (h, (add, tt))

  pub option_typed : (c : Around) (e : Exp) (r t : TypeId) → world.head r ≡ node.Opt t → In c e (Of t) → In c (operation op.MakeOption (one e)) (Of r)
  option_typed c e r t q h = does c (action.Operate op.MakeOption) (one e) (Of t ∷ []) r (r, refl, (t, q, refl)) (h, tt)

  pub null_fits : (r t : TypeId) → world.head r ≡ node.Opt t → Has (Of r) null
  null_fits r t q = made_at world answers kinds r (node.Opt t) (Leaf part.Null) NoValue q ((tt, tt), tt)

  pub next_typed : (at : Exp → Exp) (a place : Value) (s e k r t : TypeId) → IsNumber world.head kind.Nat k → Has (Of s) a → IsElementOf world.head s e → Has (CellOf k) place → world.head r ≡ node.Opt t → In (record { names = Of k ∷ []; labels = r ∷ [] }) (at (Name 0)) (Of t)
      → In (closed (r ∷ [])) (next_by at a place) (Of r)
  next_typed at a place s e k r t q h el j o b =
      let c : Around = record { names = Of k ∷ []; labels = r ∷ [] } in
      let name : In c (Name 0) (Of k) = (Of k, refl, reflexive world.head lawful k) in
      let size : In c (operation op.ArraySize (one (Val a))) (Of k) = does c (action.Operate op.ArraySize) (one (Val a)) (Of s ∷ []) k ((s, refl, (e, el)), (k, refl, q)) (h, tt) in
      let less : In c (operation (op.Compare comparison.Less (scalar.Number kind.Nat)) (two (Name 0) (operation op.ArraySize (one (Val a))))) (Of lawful.flag) =
      does c (action.Operate (op.Compare comparison.Less (scalar.Number kind.Nat))) (two (Name 0) (operation op.ArraySize (one (Val a)))) (Of k ∷ Of k ∷ []) lawful.flag (k, tt, q, refl, (lawful.flag, refl, lawful.is_flag)) (name, (size, tt)) in (
        Of k,
        read_typed (closed (r ∷ [])) place k j,
        (
          Of k ∷ [],
          (k, reflexive world.head lawful k, refl),
          (lawful.flag, lawful.is_flag, less, (Of lawful.unit, advance_typed c place (Name 0) k q j name, ([], refl, option_typed c (at (Name 0)) r t o b, tt)), null_fits r t o),
          tt,
        ),
      )

  -- an array whose first element is a cell is no array of values
  not_mutable : (inner : Values) (e : TypeId) → HaveValues world answers kinds (copies (count (shapes_of inner)) (Of e)) inner → is_mutable (Made Array inner) ≡ false
  not_mutable NoValue e h = refl
  not_mutable (AValue (Made (Cell at) inside) vs) e h = absurd (no_cell_at (world.head e) h.0.0)
    where
      no_cell_at : (x : Node TypeId) → Fits world.head answers x (Cell at) → ⊥
      no_cell_at node.Any f = f
      no_cell_at (node.Variable v b) f = f
      no_cell_at x f = f
  not_mutable (AValue (Made (Leaf p) inside) vs) e h = refl
  not_mutable (AValue (Made h0 inside) vs) e h = refl
  not_mutable (AValue (Function g n) vs) e h = refl
  not_mutable (AValue (BuiltIn m holds) vs) e h = refl

  -- the elements of an array of cells are read
  pub element_typed : (c : Around) (a : Value) (i : Exp) (s e k : TypeId) → IsNumber world.head kind.Nat k → Has (Of s) a → IsElementOf world.head s e → In c i (Of k) → In c (element a i) (Of e)
  element_typed c a i s e k q h (inl el) j =
      let x = array_at s e a el h in
      let plain : is_mutable a ≡ false = ap is_mutable x.1 ∙ not_mutable x.0 e x.2 in
      subst (λ b. In c (cond b (Do action.Read (one (operation op.Element (two (Val a) i)))) (operation op.Element (two (Val a) i))) (Of e)) (sym plain)
      (does c (action.Operate op.Element) (two (Val a) i) (Of s ∷ Of k ∷ []) e (s, k, e, refl, q, inl (el, refl)) (h, (j, tt)))
  element_typed c a i s e k q h (inr el) j =
      let x = cells_at s e a el h in
      subst (λ a. In c (element a i) (Of e)) (sym x.1) (by x.0 x.2 (subst (Has (Of s)) x.1 h))
    where
      by : (inner : Values) → HaveValues world answers kinds (copies (count (shapes_of inner)) (CellOf e)) inner → Has (Of s) (Made Array inner) → In c (element (Made Array inner) i) (Of e)
      by NoValue z h = inr (inr (tt, (k, q, (j, tt))))
      by (AValue (Made (Cell at) NoValue) vs) z h =
          let cell : In c (operation op.Element (two (Val (Made Array (AValue (Made (Cell at) NoValue) vs))) i)) (CellOf e) = inl (Of s ∷ Of k ∷ [], inl (sort.Local, CellOf e, (s, k, e, refl, q, inr (el, refl)), equal_self world.head lawful e), (h, (j, tt))) in
          does c action.Read (one (operation op.Element (two (Val (Made Array (AValue (Made (Cell at) NoValue) vs))) i))) (CellOf e ∷ []) e (e, refl, refl) (cell, tt)
      by (AValue v vs) z h = absurd z.0
