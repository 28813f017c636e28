-- Values of shareable types as they go into messages, and back. At an object type only the fields of that type go, and
-- at Any nothing does.
use Rattle.std.specs.Prelude.{ℕ, zero, suc, List, [], ◌∷◌, length, map, Bool, true, false, ◌&&◌, cond, Option, Some, None, nat_eq, is_some}
use Rattle.std.specs.Str.{bytes_eq}
use Rattle.mo_types.specs.declared.datum.Datum.{Datum}
use Rattle.mo_types.specs.declared.datum.Datum.TheVariants as part
use Rattle.mo_types.specs.declared.node.Node.{Node}
use Rattle.mo_types.specs.declared.node.Node.TheVariants as node
use Rattle.mo_types.specs.declared.node.Field.{Field}
use Rattle.mo_types.specs.Values as message
use Rattle.mo_types.specs.Values.{by_label, copies}
use Rattle.mo_types.specs.Code.{beside}
use Rattle.mo_values.specs.Parts.{is_leaf_of}
use Rattle.mo_values.specs.Shapes.{Bytes, Head, Leaf, Present, Tuple, Array, Object, Tag, Shape, Shapes, Made, Function, NoShape, AShape}

-- ---- into messages

abbrev pub count : {F : Type 0} → Shapes F → ℕ
count NoShape = 0
count (AShape v vs) = suc (count vs)

abbrev pub joined : List message.Values → message.Values
joined [] = message.Nil
joined (v ∷ vs) = beside v (joined vs)

-- what stands under a label, of values with these labels
abbrev pub under : {V : Type 0} → Bytes → List Bytes → List V → Option V
under l [] vs = None
under l (m ∷ ms) [] = None
under l (m ∷ ms) (v ∷ vs) = cond (bytes_eq l m) (Some v) (under l ms vs)

abbrev pub place : Bytes → List Bytes → ℕ → Option ℕ
place l [] n = None
place l (m ∷ ms) n = cond (bytes_eq l m) (Some n) (place l ms (suc n))

abbrev pub value_or_none : Option message.Values → message.Values
value_or_none None = message.Nil
value_or_none (Some v) = v

abbrev pub only_if : {V : Type 0} → Bool → V → Option V
only_if true v = Some v
only_if false v = None

abbrev pub tag_part : Bool → Option ℕ → Option Datum
tag_part b None = None
tag_part b (Some i) = only_if b (part.Tag i)

module _ {A : Type 0} where
  abbrev pub labels : List (Field A) → List Bytes
  labels fs = map (λ f. f.label) fs

  abbrev pub types : List (Field A) → List A
  types fs = map (λ f. f.part) fs

  -- each field of the type has a value; none of them is a `var` field
  abbrev pub all_there : List (Field A) → List Bytes → Bool
  all_there [] ls = true
  all_there (f ∷ fs) ls = cond f.mutable false (is_some (place f.label ls 0) && all_there fs ls)

  -- the types of the values inside, where the type asks for them
  abbrev pub types_inside : Node A → Head → ℕ → List (Option A)
  types_inside (node.Opt a) Present n = Some a ∷ []
  types_inside (node.Tuple ts) Tuple n = map (λ t. Some t) ts
  types_inside (node.Array a) Array n = copies n (Some a)
  types_inside (node.Object fs) (Object ls) n = map (λ l. under l (labels fs) (types fs)) ls
  types_inside (node.Variant fs) (Tag l) n = under l (labels fs) (types fs) ∷ []
  types_inside _ _ n = []

  -- the outermost part of a value with this head and so many values inside, where it may be one of the type
  abbrev pub part_at : Node A → Head → ℕ → Option Datum
  part_at node.Any h n = Some (part.Record 0)
  part_at t (Leaf p) n = only_if (nat_eq n 0 && is_leaf_of t p) p
  part_at (node.Opt a) Present n = only_if (nat_eq n 1) part.Present
  part_at (node.Tuple ts) Tuple n = only_if (nat_eq n (length ts)) (part.Record n)
  part_at (node.Array a) Array n = Some (part.Many n)
  part_at (node.Object fs) (Object ls) n = only_if (nat_eq n (length ls) && all_there fs ls) (part.Record (length fs))
  part_at (node.Variant fs) (Tag l) n = tag_part (nat_eq n 1) (place l (labels (by_label fs)) 0)
  part_at _ _ n = None

  -- the values inside it, in the order of the message
  abbrev pub inside_at : Node A → Head → List message.Values → message.Values
  inside_at (node.Object fs) (Object ls) vs = joined (map (λ f. value_or_none (under f.label ls vs)) (by_label fs))
  inside_at _ h vs = joined vs

  abbrev pub message_of : Node A → Head → Option Datum → Option (List message.Values) → Option message.Values
  message_of t h None vs = None
  message_of t h (Some p) None = None
  message_of t h (Some p) (Some vs) = Some (message.Value p (inside_at t h vs) message.Nil)

  -- functions that are no shared ones go nowhere but to Any
  abbrev pub function_at : Node A → Option message.Values
  function_at node.Any = Some (message.Value (part.Record 0) message.Nil message.Nil)
  function_at _ = None

abbrev pub both : {V : Type 0} → Option V → Option (List V) → Option (List V)
both None vs = None
both (Some v) None = None
both (Some v) (Some vs) = Some (v ∷ vs)

module _ {A F : Type 0} (head : A → Node A) where
  abbrev mutual
    -- a value at its type; nothing where no type asks for it, and none where it is no value of the type
    pub plain_at : Option A → Shape F → Option message.Values
    plain_at None v = Some message.Nil
    plain_at (Some t) (Made h inside) =
        message_of (head t) h (part_at (head t) h (count inside)) (plain_each (types_inside (head t) h (count inside)) inside)
    plain_at (Some t) (Function f) = function_at (head t)

    pub plain_each : List (Option A) → Shapes F → Option (List message.Values)
    plain_each [] vs = Some []
    plain_each (t ∷ ts) NoShape = Some []
    plain_each (t ∷ ts) (AShape v vs) = both (plain_at t v) (plain_each ts vs)

  abbrev pub plain : A → Shape F → Option message.Values
  plain t v = plain_at (Some t) v

-- ---- back

abbrev pub label_at : List Bytes → ℕ → Bytes
label_at [] n = []
label_at (l ∷ ls) zero = l
label_at (l ∷ ls) (suc n) = label_at ls n

-- the head of a value whose outermost part this is
abbrev pub head_of : {A : Type 0} → Node A → Datum → Head
head_of t part.Present = Present
head_of t (part.Many n) = Array
head_of (node.Object fs) (part.Record n) = Object (labels (by_label fs))
head_of t (part.Record n) = Tuple
head_of (node.Variant fs) (part.Tag i) = Tag (label_at (labels (by_label fs)) i)
head_of t p = Leaf p

module _ {A F : Type 0} (head : A → Node A) where
  -- the values that are these in a message, at these types
  abbrev pub opened : List A → message.Values → Shapes F
  opened [] values = NoShape
  opened (t ∷ ts) message.Nil = NoShape
  opened (t ∷ ts) (message.Value p inner others) = AShape (Made (head_of (head t) p) (opened (message.inside (head t) p) inner)) (opened ts others)
