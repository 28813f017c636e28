-- Subtyping (Motoko language manual, section "Subtyping"), to a depth and at every depth.
use Rattle.std.specs.Prelude.{◌≡◌, ℕ, zero, suc, Bool, true, false, List, [], ◌∷◌, ◌⊎◌, Option, Some, None, nat_eq, if◌then◌else◌}
use Rattle.std.specs.Cmp.Lexicographic.{pointwise}
use Rattle.mo_num.specs.declared.kind.Kind.{Kind}
use Rattle.mo_num.specs.declared.kind.Kind.TheVariants as kind
use Rattle.mo_types.specs.declared.node.Node.{Node}
use Rattle.mo_types.specs.declared.node.Node.TheVariants as node
use Rattle.mo_types.specs.declared.node.Field.{Field}
use Rattle.mo_types.specs.Heads.{number_of, is_bool, is_char, is_text, is_blob, is_principal, is_error, is_null, is_any, opt_of, array_of, mut_array_of, tuple_of, object_of, actor_of, variant_of, func_of, async_of, variable_of}

-- there is one, and of it p holds
abbrev pub AtSome : {A : Type 0} → Option A → (A → Type 0) → Type 0
AtSome None p = ⊥
AtSome (Some a) p = p a

abbrev pub IsSomething : {A : Type 0} → Option A → Type 0
IsSomething None = ⊥
IsSomething (Some a) = Unit {0}

abbrev pub Unless : Bool → Type 0 → Type 0
Unless true p = Unit {0}
Unless false p = p

abbrev pub Each : {A : Type 0} → (A → Type 0) → List A → Type 0
Each p [] = Unit {0}
Each p (x ∷ xs) = p x × Each p xs

-- as many on both sides, each below the one at its place
abbrev pub Pairwise : {A : Type 0} → (A → A → Type 0) → List A → List A → Type 0
Pairwise r [] [] = Unit {0}
Pairwise r (x ∷ xs) (y ∷ ys) = r x y × Pairwise r xs ys
Pairwise r _ _ = ⊥

-- the field of this label
abbrev pub find : {A : Type 0} → List ℕ → List (Field A) → Option (Field A)
find l [] = None
find l (f ∷ fs) = if pointwise nat_eq f.label l then Some f else find l fs

-- Nat is below Int
abbrev pub NumberBelow : Kind → Kind → Type 0
NumberBelow k j = (k ≡ j) ⊎ ((k ≡ kind.Nat) × (j ≡ kind.Int))

module _ {A : Type 0} (R : A → A → Type 0) where
  -- f stands where g is asked: fields that can be written have equal types
  abbrev pub Fitting : Field A → Field A → Bool → Bool → Type 0
  Fitting f g true true = R f.part g.part × R g.part f.part
  Fitting f g false false = R f.part g.part
  Fitting f g _ _ = ⊥

  -- each of gs is there, and fits
  abbrev pub FieldsBelow : List (Field A) → List (Field A) → Type 0
  FieldsBelow fs gs = Each (λ g. AtSome (find g.label fs) (λ f. Fitting f g f.mutable g.mutable)) gs

  -- each of fs is there above
  abbrev pub TagsBelow : List (Field A) → List (Field A) → Type 0
  TagsBelow fs gs = Each (λ f. AtSome (find f.label gs) (λ g. R f.part g.part)) fs

  -- a type parameter v with the bound b, below u, which may be a type parameter itself
  abbrev pub VariableBelow : A → A → Option ℕ → ℕ → Type 0
  VariableBelow b u None v = R b u
  VariableBelow b u (Some w) v = Unless (nat_eq v w) (R b u)

  -- by cases on the head below; u is the type above, and y its head
  abbrev pub HeadBelow : A → Node A → Node A → Type 0
  HeadBelow u (node.Number k) y = AtSome (number_of y) (NumberBelow k)
  HeadBelow u node.Bool y = is_bool y ≡ true
  HeadBelow u node.Char y = is_char y ≡ true
  HeadBelow u node.Text y = is_text y ≡ true
  HeadBelow u node.Blob y = is_blob y ≡ true
  HeadBelow u node.Principal y = is_principal y ≡ true
  HeadBelow u node.Error y = is_error y ≡ true
  HeadBelow u node.Null y = (is_null y ≡ true) ⊎ IsSomething (opt_of y)
  HeadBelow u node.Any y = ⊥
  HeadBelow u node.Bottom y = Unit {0}
  HeadBelow u (node.Opt a) y = AtSome (opt_of y) (λ b. R a b)
  HeadBelow u (node.Array a) y = AtSome (array_of y) (λ b. R a b)
  HeadBelow u (node.MutArray a) y = AtSome (mut_array_of y) (λ b. R a b × R b a)
  HeadBelow u (node.Tuple ts) y = AtSome (tuple_of y) (Pairwise R ts)
  HeadBelow u (node.Object fs) y = AtSome (object_of y) (FieldsBelow fs)
  HeadBelow u (node.Actor fs) y = AtSome (actor_of y) (FieldsBelow fs)
  HeadBelow u (node.Variant fs) y = AtSome (variant_of y) (TagsBelow fs)
  HeadBelow u (node.Func s ps rs) y = AtSome (func_of y) (λ q. (s ≡ q.0) × Pairwise R q.1 ps × Pairwise R rs q.2)
  HeadBelow u (node.Async a) y = AtSome (async_of y) (λ b. R a b)
  HeadBelow u (node.Variable v b) y = VariableBelow b u (variable_of y) v

  -- all types are below Any
  abbrev pub NodeBelow : A → Node A → Node A → Type 0
  NodeBelow u x y = (is_any y ≡ true) ⊎ HeadBelow u x y

-- t is below u to depth n, in any collection of types with heads
unfoldable pub Sub : {A : Type 0} → (A → Node A) → ℕ → A → A → Type 0
Sub head zero t u = Unit {0}
Sub head (suc n) t u = NodeBelow (Sub head n) u (head t) (head u)

pub record IsSubtype {A : Type 0} (head : A → Node A) (t u : A) : Type 0 where
  pub by : (n : ℕ) → Sub head n t u
