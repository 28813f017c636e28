-- Operations see no function: with other functions in the operands the answer is the same, with these functions.
use Rattle.std.proofs.Common.{◌≡◌, ℕ, zero, suc, Bool, true, false, List, [], ◌∷◌, Option, Some, None, Result, Ok, Err, refl, ap, ◌∙◌}
use Rattle.std.specs.Prelude.{ℤ, length, slice_get, cond, nat_eq}
use Rattle.std.specs.Str.{bytes_eq}
use Rattle.mo_num.specs.declared.kind.Kind.{Kind}
use Rattle.mo_num.specs.declared.kind.Kind.TheVariants as kind
use Rattle.mo_num.specs.declared.operator.NumTrap.{NumTrap}
use Rattle.mo_num.specs.Arith.{Arith, Negation}
use Rattle.mo_types.specs.declared.node.Node.{Node}
use Rattle.mo_types.specs.declared.node.Node.TheVariants as node
use Rattle.mo_types.specs.declared.node.TypeId.{TypeId}
use Rattle.mo_values.specs.declared.error_code.ErrorCode.{ErrorCode}
use Rattle.mo_values.specs.declared.error_code.ErrorCode.TheVariants as error
use Rattle.mo_values.specs.declared.operation.Scalar.{Scalar}
use Rattle.mo_values.specs.declared.operation.Scalar.TheVariants as scalar
use Rattle.mo_values.specs.declared.operation.Operation.{Operation}
use Rattle.mo_values.specs.declared.operation.Operation.TheVariants as op
use Rattle.mo_values.specs.Equality.{equal, same_forms}
use Rattle.mo_values.specs.Messages.{count, under, only_if, part_at, types_inside, message_of, both, plain, plain_at, plain_each}
use Rattle.mo_values.specs.Numbers.{has_width, before}
use Rattle.mo_values.specs.Operations.{operate, number, counted, asserted, in_bounds, code_shape}
use Rattle.mo_values.specs.Recoding.{recode, recode_all, recodes, recode_answer}
use Rattle.mo_values.specs.Shapes.{Bytes, Leaf, Present, Tuple, Array, Object, Tag, Error, Cell, Future, Shape, Shapes, Made, Function, NoShape, AShape, listed, shapes}
use Rattle.mo_values.specs.Views.{Answer, Gives, given, leaf_if, number_in, natural_in, flag_in, text_in, actor_in, scalar_type, leaf_of, scalar_of, number_of, natural_of, flag_of, text_of, actor_of, tuple_of, array_of, field_of, code_of, message_in}

module _ {F G : Type 0} (code : F → G) where
  abbrev recode_some : Option (Shape F) → Option (Shape G)
  recode_some None = None
  recode_some (Some v) = Some (recode code v)

  abbrev recode_list : Option (List (Shape F)) → Option (List (Shape G))
  recode_list None = None
  recode_list (Some vs) = Some (recodes code vs)

  -- ---- what is seen of a value

  leaf_same : (v : Shape F) → leaf_of (recode code v) ≡ leaf_of v
  leaf_same (Made (Leaf p) NoShape) = refl
  leaf_same (Made (Leaf p) (AShape v vs)) = refl
  leaf_same (Made Present inside) = refl
  leaf_same (Made Tuple inside) = refl
  leaf_same (Made Array inside) = refl
  leaf_same (Made (Object ls) inside) = refl
  leaf_same (Made (Tag l) inside) = refl
  leaf_same (Made (Error c m) inside) = refl
  leaf_same (Made (Cell at) inside) = refl
  leaf_same (Made (Future n) inside) = refl
  leaf_same (Function f) = refl

  scalar_same : (s : Scalar) (v : Shape F) → scalar_of s (recode code v) ≡ scalar_of s v
  scalar_same s v = ap (leaf_if (scalar_type s)) (leaf_same v)

  number_same : (k : Kind) (v : Shape F) → number_of k (recode code v) ≡ number_of k v
  number_same k v = ap number_in (scalar_same (scalar.Number k) v)

  natural_same : (v : Shape F) → natural_of (recode code v) ≡ natural_of v
  natural_same v = ap natural_in (scalar_same (scalar.Number kind.Nat) v)

  flag_same : (v : Shape F) → flag_of (recode code v) ≡ flag_of v
  flag_same v = ap flag_in (scalar_same scalar.Bool v)

  text_same : (v : Shape F) → text_of (recode code v) ≡ text_of v
  text_same v = ap text_in (scalar_same scalar.Text v)

  actor_same : (v : Shape F) → actor_of (recode code v) ≡ actor_of v
  actor_same v = ap (λ o. actor_in (leaf_if (node.Actor []) o)) (leaf_same v)

  listed_same : (vs : Shapes F) → listed (recode_all code vs) ≡ recodes code (listed vs)
  listed_same NoShape = refl
  listed_same (AShape v vs) = ap (λ rest. recode code v ∷ rest) (listed_same vs)

  shapes_same : (vs : List (Shape F)) → shapes (recodes code vs) ≡ recode_all code (shapes vs)
  shapes_same [] = refl
  shapes_same (v ∷ vs) = ap (AShape (recode code v)) (shapes_same vs)

  pub length_same : (vs : List (Shape F)) → length (recodes code vs) ≡ length vs
  length_same [] = refl
  length_same (v ∷ vs) = ap suc (length_same vs)

  tuple_same : (v : Shape F) → tuple_of (recode code v) ≡ recode_list (tuple_of v)
  tuple_same (Made (Leaf p) inside) = refl
  tuple_same (Made Present inside) = refl
  tuple_same (Made Tuple inside) = ap (λ vs. Some vs) (listed_same inside)
  tuple_same (Made Array inside) = refl
  tuple_same (Made (Object ls) inside) = refl
  tuple_same (Made (Tag l) inside) = refl
  tuple_same (Made (Error c m) inside) = refl
  tuple_same (Made (Cell at) inside) = refl
  tuple_same (Made (Future n) inside) = refl
  tuple_same (Function f) = refl

  array_same : (v : Shape F) → array_of (recode code v) ≡ recode_list (array_of v)
  array_same (Made (Leaf p) inside) = refl
  array_same (Made Present inside) = refl
  array_same (Made Tuple inside) = refl
  array_same (Made Array inside) = ap (λ vs. Some vs) (listed_same inside)
  array_same (Made (Object ls) inside) = refl
  array_same (Made (Tag l) inside) = refl
  array_same (Made (Error c m) inside) = refl
  array_same (Made (Cell at) inside) = refl
  array_same (Made (Future n) inside) = refl
  array_same (Function f) = refl

  slice_same : (vs : List (Shape F)) (n : ℕ) → slice_get (recodes code vs) n ≡ recode_some (slice_get vs n)
  slice_same [] n = refl
  slice_same (v ∷ vs) zero = refl
  slice_same (v ∷ vs) (suc n) = slice_same vs n

  under_by : (b : Bool) (v : Shape F) (o : Option (Shape F)) (o' : Option (Shape G)) → o' ≡ recode_some o → cond b (Some (recode code v)) o' ≡ recode_some (cond b (Some v) o)
  under_by true v o o' e = refl
  under_by false v o o' e = e

  under_same : (l : Bytes) (ls : List Bytes) (vs : List (Shape F)) → under l ls (recodes code vs) ≡ recode_some (under l ls vs)
  under_same l [] vs = refl
  under_same l (m ∷ ms) [] = refl
  under_same l (m ∷ ms) (v ∷ vs) = under_by (bytes_eq l m) v (under l ms vs) (under l ms (recodes code vs)) (under_same l ms vs)

  field_same : (l : Bytes) (v : Shape F) → field_of l (recode code v) ≡ recode_some (field_of l v)
  field_same l (Made (Leaf p) inside) = refl
  field_same l (Made Present inside) = refl
  field_same l (Made Tuple inside) = refl
  field_same l (Made Array inside) = refl
  field_same l (Made (Object ls) inside) = ap (λ vs. under l ls vs) (listed_same inside) ∙ under_same l ls (listed inside)
  field_same l (Made (Tag m) inside) = refl
  field_same l (Made (Error c m) inside) = refl
  field_same l (Made (Cell at) inside) = refl
  field_same l (Made (Future n) inside) = refl
  field_same l (Function f) = refl

  code_same : (v : Shape F) → code_of (recode code v) ≡ code_of v
  code_same (Made (Leaf p) inside) = refl
  code_same (Made Present inside) = refl
  code_same (Made Tuple inside) = refl
  code_same (Made Array inside) = refl
  code_same (Made (Object ls) inside) = refl
  code_same (Made (Tag l) inside) = refl
  code_same (Made (Error c m) NoShape) = refl
  code_same (Made (Error c m) (AShape v vs)) = refl
  code_same (Made (Cell at) inside) = refl
  code_same (Made (Future n) inside) = refl
  code_same (Function f) = refl

  message_same : (v : Shape F) → message_in (recode code v) ≡ message_in v
  message_same (Made (Leaf p) inside) = refl
  message_same (Made Present inside) = refl
  message_same (Made Tuple inside) = refl
  message_same (Made Array inside) = refl
  message_same (Made (Object ls) inside) = refl
  message_same (Made (Tag l) inside) = refl
  message_same (Made (Error c m) NoShape) = refl
  message_same (Made (Error c m) (AShape v vs)) = refl
  message_same (Made (Cell at) inside) = refl
  message_same (Made (Future n) inside) = refl
  message_same (Function f) = refl

  -- ---- answers

  given_same : {V : Type 0} (o : Option V) (f : V → Answer F) (g : V → Answer G) → ((x : V) → g x ≡ recode_answer code (f x)) → given o g ≡ recode_answer code (given o f)
  given_same None f g h = refl
  given_same (Some x) f g h = h x

  given_shape : (o : Option (Shape F)) (f : Shape F → Answer F) (g : Shape G → Answer G) → ((v : Shape F) → g (recode code v) ≡ recode_answer code (f v)) → given (recode_some o) g ≡ recode_answer code (given o f)
  given_shape None f g h = refl
  given_shape (Some v) f g h = h v

  given_list : (o : Option (List (Shape F))) (f : List (Shape F) → Answer F) (g : List (Shape G) → Answer G) → ((vs : List (Shape F)) → g (recodes code vs) ≡ recode_answer code (f vs)) → given (recode_list o) g ≡ recode_answer code (given o f)
  given_list None f g h = refl
  given_list (Some vs) f g h = h vs

  seen : {V : Type 0} {p q : Option V} → p ≡ q → (f : V → Answer F) (g : V → Answer G) → ((x : V) → g x ≡ recode_answer code (f x)) → given p g ≡ recode_answer code (given q f)
  seen {q = q} e f g h = ap (λ o. given o g) e ∙ given_same q f g h

  seen_shape : (p : Option (Shape G)) (q : Option (Shape F)) → p ≡ recode_some q → (f : Shape F → Answer F) (g : Shape G → Answer G) → ((v : Shape F) → g (recode code v) ≡ recode_answer code (f v)) → given p g ≡ recode_answer code (given q f)
  seen_shape p q e f g h = ap (λ o. given o g) e ∙ given_shape q f g h

  seen_list : (p : Option (List (Shape G))) (q : Option (List (Shape F))) → p ≡ recode_list q → (f : List (Shape F) → Answer F) (g : List (Shape G) → Answer G) → ((vs : List (Shape F)) → g (recodes code vs) ≡ recode_answer code (f vs)) → given p g ≡ recode_answer code (given q f)
  seen_list p q e f g h = ap (λ o. given o g) e ∙ given_list q f g h

  result_same : (r : Result ℤ NumTrap) → number r ≡ recode_answer code (number r)
  result_same (Ok n) = refl
  result_same (Err t) = refl

  asserted_same : (b : Bool) → asserted b ≡ recode_answer code (asserted b)
  asserted_same true = refl
  asserted_same false = refl

  bounds_by : (o : Option (Shape F)) → in_bounds (recode_some o) ≡ recode_answer code (in_bounds o)
  bounds_by None = refl
  bounds_by (Some v) = refl

  bounds_same : (vs : List (Shape F)) (n : ℕ) → in_bounds (slice_get (recodes code vs) n) ≡ recode_answer code (in_bounds (slice_get vs n))
  bounds_same vs n = ap in_bounds (slice_same vs n) ∙ bounds_by (slice_get vs n)

  code_shape_same : (c : ErrorCode) → Gives (code_shape c) ≡ recode_answer code (Gives (code_shape c))
  code_shape_same error.SystemFatal = refl
  code_shape_same error.SystemTransient = refl
  code_shape_same error.DestinationInvalid = refl
  code_shape_same error.CanisterReject = refl
  code_shape_same error.CanisterError = refl
  code_shape_same (error.Future n) = refl
  code_shape_same (error.CallError n) = refl

  -- ---- equality

  count_same : (vs : Shapes F) → count (recode_all code vs) ≡ count vs
  count_same NoShape = refl
  count_same (AShape v vs) = ap suc (count_same vs)

  module _ (head : TypeId → Node TypeId) where
    mutual
      plain_same : (t : Option TypeId) (v : Shape F) → plain_at head t (recode code v) ≡ plain_at head t v
      plain_same None v = refl
      plain_same (Some t) (Made h inside) =
          ap (λ n. message_of (head t) h (part_at (head t) h n) (plain_each head (types_inside (head t) h n) (recode_all code inside))) (count_same inside)
          ∙ ap (message_of (head t) h (part_at (head t) h (count inside))) (each_same (types_inside (head t) h (count inside)) inside)
      plain_same (Some t) (Function f) = refl

      each_same : (ts : List (Option TypeId)) (vs : Shapes F) → plain_each head ts (recode_all code vs) ≡ plain_each head ts vs
      each_same [] vs = refl
      each_same (t ∷ ts) NoShape = refl
      each_same (t ∷ ts) (AShape v vs) = ap (λ o. both o (plain_each head ts (recode_all code vs))) (plain_same t v) ∙ ap (both (plain_at head t v)) (each_same ts vs)

    equal_same : (t : TypeId) (v w : Shape F) → equal head t (recode code v) (recode code w) ≡ equal head t v w
    equal_same t v w =
        ap (λ o. same_forms head t o (plain head t (recode code w))) (plain_same (Some t) v) ∙ ap (same_forms head t (plain head t v)) (plain_same (Some t) w)

    -- ---- the rows

    pub natural : (o : Operation) (vs : List (Shape F)) → operate head o (recodes code vs) ≡ recode_answer code (operate head o vs)
    natural (op.Arithmetic o k) (v ∷ w ∷ []) = seen (number_same k v) _ _ (λ a. seen (number_same k w) _ _ (λ b. result_same (Arith o k a b)))
    natural (op.Wrap o k) (v ∷ w ∷ []) =
        given_same (only_if (has_width k) k) _ _ (λ j. seen (number_same j v) _ _ (λ a. seen (number_same j w) _ _ (λ b. refl)))
    natural (op.Negate k) (v ∷ []) = seen (number_same k v) _ _ (λ a. result_same (Negation k a))
    natural (op.Compare c s) (v ∷ w ∷ []) =
        seen (scalar_same s v) _ _ (λ p. seen (scalar_same s w) _ _ (λ q. given_same (before p q) _ _ (λ first. given_same (before q p) _ _ (λ second. refl))))
    natural (op.Same s) (v ∷ w ∷ []) = seen (scalar_same s v) _ _ (λ p. seen (scalar_same s w) _ _ (λ q. refl))
    natural (op.Equal t) (v ∷ w ∷ []) = seen (equal_same t v w) _ _ (λ b. refl)
    natural (op.Unequal t) (v ∷ w ∷ []) = seen (equal_same t v w) _ _ (λ b. refl)
    natural op.Not (v ∷ []) = seen (flag_same v) _ _ (λ b. refl)
    natural op.Assert (v ∷ []) = seen (flag_same v) _ _ asserted_same
    natural op.Concat (v ∷ w ∷ []) = seen (text_same v) _ _ (λ a. seen (text_same w) _ _ (λ b. refl))
    natural op.TextSize (v ∷ []) = seen (text_same v) _ _ (λ t. result_same _)
    natural (op.ToText k) (v ∷ []) = seen (number_same k v) _ _ (λ n. refl)
    natural op.MakeTuple vs = ap (λ x. Gives (Made Tuple x)) (shapes_same vs)
    natural op.MakeOption (v ∷ []) = refl
    natural (op.MakeTag l) (v ∷ []) = refl
    natural op.MakeArray vs = ap (λ x. Gives (Made Array x)) (shapes_same vs)
    natural (op.MakeObject ls) vs =
        ap (λ n. given (only_if (nat_eq n (length ls)) ls) (λ ls. Gives (Made (Object ls) (shapes (recodes code vs))))) (length_same vs)
        ∙ given_same (only_if (nat_eq (length vs) (length ls)) ls) _ _ (λ ls. ap (λ x. Gives (Made (Object ls) x)) (shapes_same vs))
    natural (op.Project i) (v ∷ []) = seen_list _ _ (tuple_same v) _ _ (λ vs. seen_shape _ _ (slice_same vs i) _ _ (λ w. refl))
    natural (op.Field l) (v ∷ []) = seen_shape _ _ (field_same l v) _ _ (λ w. refl)
    natural op.Element (v ∷ w ∷ []) = seen_list _ _ (array_same v) _ _ (λ vs. seen (natural_same w) _ _ (λ i. bounds_same vs i))
    natural op.ArraySize (v ∷ []) = seen_list _ _ (array_same v) _ _ (λ vs. ap (λ n. counted n) (length_same vs) ∙ result_same _)
    natural (op.Method name) (v ∷ []) = seen (actor_same v) _ _ (λ p. refl)
    natural op.PrincipalOf (v ∷ []) = seen (actor_same v) _ _ (λ p. refl)
    natural op.RejectError (v ∷ []) = seen (text_same v) _ _ (λ t. refl)
    natural op.Message (v ∷ []) = seen (message_same v) _ _ (λ t. refl)
    natural op.Code (v ∷ []) = seen (code_same v) _ _ code_shape_same
    natural op.Trap (v ∷ []) = seen (text_same v) _ _ (λ t. refl)
    natural (op.Fail t) [] = refl
    natural _ [] = refl
    natural _ (v ∷ []) = refl
    natural _ (v ∷ w ∷ []) = refl
    natural _ (v ∷ w ∷ u ∷ vs) = refl
