-- Types with type parameters in them (Motoko language manual, section "Type parameters"): which parameters a type mentions, and types put in
-- their place. Both go by depth, as subtyping does, since types may contain themselves.
use Rattle.std.specs.Prelude.{◌≡◌, ◌⊎◌, ℕ, zero, suc, List, [], ◌∷◌, ◌++◌, map, true, cond, Option, Some, None, nat_eq}
use Rattle.mo_types.specs.declared.node.Node.{Node}
use Rattle.mo_types.specs.declared.node.Node.TheVariants as node
use Rattle.mo_types.specs.declared.node.Field.{Field}
use Rattle.mo_types.specs.Heads.{number_of, is_bool, is_char, is_text, is_blob, is_principal, is_error, is_null, is_any, is_bottom, opt_of, array_of, mut_array_of, tuple_of, object_of, actor_of, variant_of, func_of, async_of, variable_of}
use Rattle.mo_types.specs.Sub.{AtSome, Each, Pairwise}
use Rattle.typed_tree.specs.Wants.{Below, Equal}

abbrev pub IsAmong : {V : Type 0} → V → List V → Type 0
IsAmong x [] = ⊥
IsAmong x (y ∷ ys) = (x ≡ y) ⊎ IsAmong x ys

module _ {A : Type 0} where
  abbrev pub field_types : List (Field A) → List A
  field_types fs = map (λ f. f.part) fs

  -- the types in a type; of a type parameter its bound
  abbrev pub types_in : Node A → List A
  types_in (node.Opt a) = a ∷ []
  types_in (node.Array a) = a ∷ []
  types_in (node.MutArray a) = a ∷ []
  types_in (node.Tuple ts) = ts
  types_in (node.Object fs) = field_types fs
  types_in (node.Actor fs) = field_types fs
  types_in (node.Variant fs) = field_types fs
  types_in (node.Func s ps rs) = ps ++ rs
  types_in (node.Async a) = a ∷ []
  types_in (node.Variable v b) = b ∷ []
  types_in _ = []

  -- a type parameter is one of these
  abbrev pub ParameterAmong : List ℕ → Node A → Type 0
  ParameterAmong vs (node.Variable v b) = IsAmong v vs
  ParameterAmong vs _ = Unit {0}

-- each type parameter that is met to this depth is one of these
unfoldable pub Mentions : {A : Type 0} → (A → Node A) → List ℕ → ℕ → A → Type 0
Mentions head vs zero t = Unit {0}
Mentions head vs (suc n) t = ParameterAmong vs (head t) × Each (Mentions head vs n) (types_in (head t))

pub record MentionsOnly {A : Type 0} (head : A → Node A) (vs : List ℕ) (t : A) : Type 0 where
  pub by : (n : ℕ) → Mentions head vs n t

-- ---- types in the place of type parameters

-- what stands in the place of each parameter
abbrev pub argument_of : {A : Type 0} → List ℕ → List A → ℕ → Option A
argument_of [] ts v = None
argument_of (w ∷ ws) [] v = None
argument_of (w ∷ ws) (t ∷ ts) v = cond (nat_eq v w) (Some t) (argument_of ws ts v)

module _ {A : Type 0} (R : A → A → Type 0) where
  abbrev pub FieldsAlike : List (Field A) → List (Field A) → Type 0
  FieldsAlike fs gs = Pairwise (λ f g. (f.label ≡ g.label) × (f.mutable ≡ g.mutable) × R f.part g.part) fs gs

  -- two types of one form, whose parts are related; a type parameter that stays is the same
  abbrev pub FormsAlike : Node A → Node A → Type 0
  FormsAlike (node.Number k) y = number_of y ≡ Some k
  FormsAlike node.Bool y = is_bool y ≡ true
  FormsAlike node.Char y = is_char y ≡ true
  FormsAlike node.Text y = is_text y ≡ true
  FormsAlike node.Blob y = is_blob y ≡ true
  FormsAlike node.Principal y = is_principal y ≡ true
  FormsAlike node.Error y = is_error y ≡ true
  FormsAlike node.Null y = is_null y ≡ true
  FormsAlike node.Any y = is_any y ≡ true
  FormsAlike node.Bottom y = is_bottom y ≡ true
  FormsAlike (node.Opt a) y = AtSome (opt_of y) (R a)
  FormsAlike (node.Array a) y = AtSome (array_of y) (R a)
  FormsAlike (node.MutArray a) y = AtSome (mut_array_of y) (R a)
  FormsAlike (node.Tuple ts) y = AtSome (tuple_of y) (Pairwise R ts)
  FormsAlike (node.Object fs) y = AtSome (object_of y) (FieldsAlike fs)
  FormsAlike (node.Actor fs) y = AtSome (actor_of y) (FieldsAlike fs)
  FormsAlike (node.Variant fs) y = AtSome (variant_of y) (FieldsAlike fs)
  FormsAlike (node.Func s ps rs) y = AtSome (func_of y) (λ q. (s ≡ q.0) × Pairwise R ps q.1 × Pairwise R rs q.2)
  FormsAlike (node.Async a) y = AtSome (async_of y) (R a)
  FormsAlike (node.Variable v b) y = variable_of y ≡ Some v

module _ {A : Type 0} (head : A → Node A) (vs : List ℕ) (ts : List A) where
  -- a type parameter becomes a type that is equal to its argument
  abbrev pub BecomesArgument : A → Option A → Type 0 → Type 0
  BecomesArgument u None otherwise = otherwise
  BecomesArgument u (Some a) otherwise = Equal head u a

  abbrev pub Becomes : (A → A → Type 0) → A → Node A → Node A → Type 0
  Becomes R u (node.Variable v b) y = BecomesArgument u (argument_of vs ts v) (variable_of y ≡ Some v)
  Becomes R u x y = FormsAlike R x y

-- u is t with these types in the place of these type parameters, to a depth
unfoldable pub PutIn : {A : Type 0} → (A → Node A) → List ℕ → List A → ℕ → A → A → Type 0
PutIn head vs ts zero t u = Unit {0}
PutIn head vs ts (suc n) t u = Becomes head vs ts (PutIn head vs ts n) u (head t) (head u)

pub record IsInstance {A : Type 0} (head : A → Node A) (vs : List ℕ) (ts : List A) (t u : A) : Type 0 where
  pub by : (n : ℕ) → PutIn head vs ts n t u

-- each type is below the bound of its parameter, with the types put in there too
pub record AreWithinBounds {A : Type 0} (head : A → Node A) (vs : List ℕ) (ts : List A) : Type 0 where
  pub by : (p b : A) (v : ℕ) (t : A) → head p ≡ node.Variable v b → argument_of vs ts v ≡ Some t → (c : A) × IsInstance head vs ts b c × Below head t c
