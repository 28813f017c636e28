-- What the names of a pattern stand for where it meets a value of a type (Motoko language manual, section "Patterns"). A pattern of a type
-- stands on each type below it. A literal, and both sides of an alternative, are of a type above that of the value that they meet.
use Rattle.std.specs.Prelude.{◌≡◌, ◌⊎◌, List, [], ◌∷◌, ◌++◌, Some}
use Rattle.mo_types.specs.declared.datum.Datum.{Datum}
use Rattle.mo_types.specs.declared.datum.Datum.TheVariants as part
use Rattle.mo_types.specs.declared.node.Field.{Field}
use Rattle.mo_types.specs.declared.node.Node.{Node}
use Rattle.mo_types.specs.declared.node.Node.TheVariants as node
use Rattle.mo_types.specs.declared.node.TypeId.{TypeId}
use Rattle.mo_types.specs.Sub.{find}
use Rattle.mo_types.specs.Values.{IsPartOf}
use Rattle.mo_values.specs.Shapes.{Bytes}
use Rattle.typed_tree.specs.MemberTypes.{IsField}
use Rattle.typed_tree.specs.Patterns.{Pat, Pats, Wildcard, Bind, Constant, Present?, Tagged, Parts, Fields, Either, NoPat, APat}
use Rattle.typed_tree.specs.Wants.{Want, Of, KeptOf, Below}

-- what a literal of a pattern is: null, a truth value, a number, a character, a text or a Blob
abbrev pub IsPlainPart : Datum → Type 0
IsPlainPart part.Null = Unit {0}
IsPlainPart (part.Flag b) = Unit {0}
IsPlainPart (part.Number n) = Unit {0}
IsPlainPart (part.Char c) = Unit {0}
IsPlainPart (part.Text t) = Unit {0}
IsPlainPart (part.Blob t) = Unit {0}
IsPlainPart _ = ⊥

module _ (head : TypeId → Node TypeId) where
  -- the fields under these labels, of which none is a `var` field, have these types
  abbrev pub FieldTypes : List (Field TypeId) → List Bytes → List TypeId → Type 0
  FieldTypes fs [] ts = ts ≡ []
  FieldTypes fs (l ∷ ls) ts = (t : TypeId) × (others : List TypeId) × IsField head fs l t × (ts ≡ t ∷ others) × FieldTypes fs ls others

  -- a value of such a type is null, or an option with a value of type u; of None there are no values
  abbrev pub MayHold : Node TypeId → TypeId → Type 0
  MayHold x u = (x ≡ node.Opt u) ⊎ (x ≡ node.Null) ⊎ (x ≡ node.Bottom)

  -- a literal is a value of a type with this head; of None there are no values
  abbrev pub MayBe : Node TypeId → Datum → Type 0
  MayBe x c = IsPartOf x c ⊎ (x ≡ node.Bottom)

  abbrev mutual
    pub PatternTyped : Pat → TypeId → List (Want TypeId) → Type 0
    PatternTyped Wildcard t ns = ns ≡ []
    PatternTyped Bind t ns = (s : TypeId) × Below head t s × (ns ≡ Of s ∷ [])
    PatternTyped (Constant c) t ns = (s : TypeId) × Below head t s × IsPlainPart c × MayBe (head s) c × (ns ≡ [])
    PatternTyped (Present? p) t ns = (s u : TypeId) × Below head t s × MayHold (head s) u × PatternTyped p u ns
    PatternTyped (Tagged l p) t ns =
        (s : TypeId) × (fs : List (Field TypeId)) × (f : Field TypeId) × Below head t s × (head s ≡ node.Variant fs) × (find l fs ≡ Some f) × PatternTyped p f.part ns
    PatternTyped (Parts ps) t ns = (s : TypeId) × (ts : List TypeId) × Below head t s × (head s ≡ node.Tuple ts) × PatternsTyped ps ts ns
    PatternTyped (Fields ls ps) t ns =
        (s : TypeId) × (fs : List (Field TypeId)) × (ts : List TypeId) × Below head t s × (head s ≡ node.Object fs) × FieldTypes fs ls ts × PatternsTyped ps ts ns
    PatternTyped (Either p q) t ns = (s : TypeId) × Below head t s × PatternTyped p s [] × PatternTyped q s [] × (ns ≡ [])

    -- as many patterns as types, whose names stand one after another
    pub PatternsTyped : Pats → List TypeId → List (Want TypeId) → Type 0
    PatternsTyped NoPat [] ns = ns ≡ []
    PatternsTyped (APat p ps) (t ∷ ts) ns = (ms ls : List (Want TypeId)) × (ns ≡ ms ++ ls) × PatternTyped p t ms × PatternsTyped ps ts ls
    PatternsTyped _ _ ns = ⊥

  -- a pattern where a value, a cell, a future or a kept value is met
  abbrev pub BindsAt : Pat → Want TypeId → List (Want TypeId) → Type 0
  BindsAt p (Of t) ns = PatternTyped p t ns
  BindsAt Wildcard w ns = ns ≡ []
  BindsAt Bind w ns = ns ≡ w ∷ []
  BindsAt (Constant c) (KeptOf t) ns = (c ≡ part.Null) × (ns ≡ [])
  BindsAt (Present? Bind) (KeptOf t) ns = ns ≡ Of t ∷ []
  BindsAt _ _ ns = ⊥
