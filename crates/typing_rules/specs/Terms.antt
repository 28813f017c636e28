-- Types as terms (Motoko language manual, section "Types"). The use of a defined name is a term of its own.
use Rattle.std.specs.Prelude.{ℕ, Bool, false, List, [], ◌∷◌, cond, nat_eq}
use Rattle.mo_num.specs.declared.kind.Kind.{Kind}
use Rattle.mo_num.specs.declared.kind.Kind.TheVariants as kind
use Rattle.mo_types.specs.declared.node.Field.{Field}
use Rattle.mo_types.specs.declared.node.Sort.{Sort}
use Rattle.typing_rules.specs.AbstractSyntax.{Bytes}

mutual
  pub data Term : Type 0 where
    Number : (kind : Kind) → Term
    Boolean : Term
    Character : Term
    Text : Term
    Blob : Term
    Principal : Term
    Error : Term
    Null : Term
    Any : Term
    -- `None`
    Bottom : Term
    Optional : (a : Term) → Term
    Array : (a : Term) → Term
    MutableArray : (a : Term) → Term
    Tuple : (parts : Terms) → Term
    Object : (fields : Fields) → Term
    Actor : (methods : Fields) → Term
    Variant : (tags : Fields) → Term
    -- `A -> B`
    Function : (parameters : Terms) → (result : Term) → Term
    -- `shared A -> async B`
    Shared : (sort : Sort) → (parameters : Terms) → (result : Term) → Term
    Async : (a : Term) → Term
    -- the type parameter whose name is the token of this number
    Parameter : (at : ℕ) → Term
    -- the defined type whose name is the token of this number, at the parameters in scope at its definition and then at its own
    Use : (at : ℕ) → (arguments : Terms) → Term

  pub data Terms : Type 0 where
    Nil : Terms
    Cons : (t : Term) → (rest : Terms) → Terms

  pub data Fields : Type 0 where
    NoFields : Fields
    WithField : (label : Bytes) → (mutable : Bool) → (part : Term) → (rest : Fields) → Fields

abbrev pub listed : Terms → List Term
listed Nil = []
listed (Cons t rest) = t ∷ listed rest

abbrev pub unlisted : List Term → Terms
unlisted [] = Nil
unlisted (t ∷ ts) = Cons t (unlisted ts)

abbrev pub listed_fields : Fields → List (Field Term)
listed_fields NoFields = []
listed_fields (WithField l mutable t rest) = record { label = l; mutable = mutable; part = t } ∷ listed_fields rest

-- a field that is no `var` field, a method or a tag, before others
abbrev pub constant : Bytes → Term → Fields → Fields
constant l t rest = WithField l false t rest

abbrev pub unit : Term
unit = Tuple Nil

abbrev pub nat : Term
nat = Number kind.Nat

abbrev pub int : Term
int = Number kind.Int

-- ---- types put in place of parameters

abbrev mutual
  -- a type with these in the place of its parameters
  pub put_in : (ℕ → Term) → Term → Term
  put_in s (Number k) = Number k
  put_in s Boolean = Boolean
  put_in s Character = Character
  put_in s Text = Text
  put_in s Blob = Blob
  put_in s Principal = Principal
  put_in s Error = Error
  put_in s Null = Null
  put_in s Any = Any
  put_in s Bottom = Bottom
  put_in s (Optional a) = Optional (put_in s a)
  put_in s (Array a) = Array (put_in s a)
  put_in s (MutableArray a) = MutableArray (put_in s a)
  put_in s (Tuple parts) = Tuple (each_put_in s parts)
  put_in s (Object fields) = Object (fields_put_in s fields)
  put_in s (Actor methods) = Actor (fields_put_in s methods)
  put_in s (Variant tags) = Variant (fields_put_in s tags)
  put_in s (Function parameters result) = Function (each_put_in s parameters) (put_in s result)
  put_in s (Shared sort parameters result) = Shared sort (each_put_in s parameters) (put_in s result)
  put_in s (Async a) = Async (put_in s a)
  put_in s (Parameter at) = s at
  put_in s (Use at arguments) = Use at (each_put_in s arguments)

  pub each_put_in : (ℕ → Term) → Terms → Terms
  each_put_in s Nil = Nil
  each_put_in s (Cons t rest) = Cons (put_in s t) (each_put_in s rest)

  pub fields_put_in : (ℕ → Term) → Fields → Fields
  fields_put_in s NoFields = NoFields
  fields_put_in s (WithField l mutable t rest) = WithField l mutable (put_in s t) (fields_put_in s rest)

-- what stands in the place of a parameter, where one that is not among these stays
abbrev pub argument_or_itself : List (ℕ × Term) → ℕ → Term
argument_or_itself [] at = Parameter at
argument_or_itself (x ∷ xs) at = cond (nat_eq x.0 at) x.1 (argument_or_itself xs at)

abbrev pub with_arguments : List (ℕ × Term) → Term → Term
with_arguments s t = put_in (argument_or_itself s) t

-- what stands in the place of a parameter of a definition, at its use with these arguments. One that has no argument, which is in programs alone that are
-- refused, becomes None.
abbrev pub argument_of : List ℕ → Terms → ℕ → Term
argument_of [] arguments at = Bottom
argument_of (p ∷ ps) Nil at = Bottom
argument_of (p ∷ ps) (Cons t rest) at = cond (nat_eq p at) t (argument_of ps rest at)

-- each parameter with its argument
abbrev pub zipped : {A : Type 0} → List ℕ → List A → List (ℕ × A)
zipped (x ∷ xs) (t ∷ ts) = (x, t) ∷ zipped xs ts
zipped _ _ = []
