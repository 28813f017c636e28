-- The abstract syntax of a program: its tree without parentheses around one thing, marks and separators. Each node has a note: the number of its first
-- token in what is judged, and its type besides in what is given.
use Rattle.std.specs.Prelude.{ℕ, Bool, List, Option}
use Rattle.mo_scopes.specs.declared.library.Member as library
use Rattle.mo_syntax.specs.declared.operators.BinaryOperator.{BinaryOperator}
use Rattle.mo_syntax.specs.declared.types.Sharing.{Sharing}

-- a name or a text
abbrev pub Bytes : Type 0
Bytes = List ℕ

-- a name, and the number of the token that it is
pub record Named : Type 0 where
  pub at : ℕ
  pub bytes : Bytes

-- a literal, as its value: a text as its bytes
pub data Literal : Type 0 where
  Number : (n : ℕ) → Literal
  Character : (c : ℕ) → Literal
  Text : (bytes : Bytes) → Literal
  True : Literal
  False : Literal
  Null : Literal

-- ---- types

mutual
  pub data TypeNode : Type 0 where
    node : (at : ℕ) → (form : TypeForm) → TypeNode

  pub data TypeForm : Type 0 where
    Function : (sharing : Sharing) → (parameters : TypeNodes) → (result : TypeNode) → TypeForm
    Optional : (a : TypeNode) → TypeForm
    Async : (a : TypeNode) → TypeForm
    Use : (x : Bytes) → (arguments : TypeNodes) → TypeForm
    Tuple : (items : TypeNodes) → TypeForm
    Array : (mutable : Bool) → (a : TypeNode) → TypeForm
    Object : (fields : TypeFields) → TypeForm
    Variant : (tags : TypeFields) → TypeForm
    Actor : (methods : TypeFields) → TypeForm

  pub data TypeNodes : Type 0 where
    Nil : TypeNodes
    Cons : (a : TypeNode) → (rest : TypeNodes) → TypeNodes

  -- the fields, tags or methods of a type. A tag without a type has the type ().
  pub data TypeFields : Type 0 where
    NoFields : TypeFields
    Field : (mutable : Bool) → (x : Named) → (a : TypeNode) → (rest : TypeFields) → TypeFields
    EmptyTag : (x : Named) → (rest : TypeFields) → TypeFields

-- `T <: A`
pub record TypeParameter : Type 0 where
  pub name : Named
  pub bound : Option TypeNode

-- ---- patterns

module _ (N : Type 0) where
  mutual
    pub data Pattern : Type 0 where
      pattern : (note : N) → (form : PatternForm) → Pattern

    pub data PatternForm : Type 0 where
      Annotated : (p : Pattern) → (a : TypeNode) → PatternForm
      Alternative : (p q : Pattern) → PatternForm
      Optional : (p : Pattern) → PatternForm
      Tag : (x : Bytes) → PatternForm
      Tagged : (x : Bytes) → (p : Pattern) → PatternForm
      Variable : (x : Bytes) → PatternForm
      Wildcard : PatternForm
      Constant : (minus : Bool) → (literal : Literal) → PatternForm
      Tuple : (items : Patterns) → PatternForm
      Object : (fields : PatternFields) → PatternForm

    pub data Patterns : Type 0 where
      Nil : Patterns
      Cons : (p : Pattern) → (rest : Patterns) → Patterns

    -- `x = p`. A field `x` is `x = x`.
    pub data PatternFields : Type 0 where
      NoFields : PatternFields
      Field : (x : Named) → (p : Pattern) → (rest : PatternFields) → PatternFields

  -- ---- expressions and declarations

  -- what stands before the body of a function: `<T <: A>(p, q) : B`
  pub record Signature : Type 0 where
    pub generics : List TypeParameter
    pub parameters : Patterns
    pub result : Option TypeNode

  mutual
    pub data Expression : Type 0 where
      exp : (note : N) → (form : Form) → Expression

    pub data Form : Type 0 where
      Constant : (literal : Literal) → Form
      Name : (x : Bytes) → Form
      Tuple : (items : Expressions) → Form
      Optional : (a : Expression) → Form
      Tag : (x : Bytes) → Form
      Tagged : (x : Bytes) → (a : Expression) → Form
      Array : (mutable : Bool) → (items : Expressions) → Form
      Object : (fields : ObjectFields) → Form
      Member : (a : Expression) → (x : Bytes) → Form
      Projection : (a : Expression) → (n : ℕ) → Form
      Index : (a i : Expression) → Form
      Annotated : (a : Expression) → (t : TypeNode) → Form
      Negative : (a : Expression) → Form
      Binary : (o : BinaryOperator) → (a b : Expression) → Form
      Not : (a : Expression) → Form
      Assign : (p a : Expression) → Form
      AssignBy : (o : BinaryOperator) → (p a : Expression) → Form
      Call : (f : Expression) → (types : Option (List TypeNode)) → (arguments : Expressions) → Form
      When : (c a : Expression) → Form
      If : (c a b : Expression) → Form
      Switch : (a : Expression) → (cases : Cases) → Form
      Try : (a : Expression) → (p : Pattern) → (b : Expression) → Form
      While : (c a : Expression) → Form
      Loop : (a : Expression) → Form
      LoopWhile : (a c : Expression) → Form
      For : (p : Pattern) → (a b : Expression) → Form
      Label : (x : Bytes) → (t : Option TypeNode) → (a : Expression) → Form
      Break : (x : Bytes) → Form
      BreakWith : (x : Bytes) → (a : Expression) → Form
      Continue : (x : Bytes) → Form
      Return : Form
      ReturnWith : (a : Expression) → Form
      Throw : (a : Expression) → Form
      Do : (a : Expression) → Form
      DoOption : (a : Expression) → Form
      Bang : (a : Expression) → Form
      Block : (declarations : Declarations) → Form
      Function : (s : Signature) → (body : Expression) → Form
      ObjectBlock : (fields : Declarations) → Form
      Assert : (a : Expression) → Form
      Ignore : (a : Expression) → Form
      Debug : (a : Expression) → Form
      ActorReference : (text : Bytes) → Form
      Await : (a : Expression) → Form
      -- a member of a module, and an operand at a type above its own; both stand only in what is given
      BuiltIn : (m : library.Member) → Form
      Subsumed : (a : Expression) → Form

    pub data Expressions : Type 0 where
      Nil : Expressions
      Cons : (a : Expression) → (rest : Expressions) → Expressions

    -- `case p a`
    pub data Cases : Type 0 where
      NoCases : Cases
      Case : (p : Pattern) → (a : Expression) → (rest : Cases) → Cases

    -- `x : A = a`. A field `x` is `x = x`.
    pub data ObjectFields : Type 0 where
      NoFields : ObjectFields
      Field : (mutable : Bool) → (x : Named) → (t : Option TypeNode) → (a : Expression) → (rest : ObjectFields) → ObjectFields

    pub data Declaration : Type 0 where
      Let : (p : Pattern) → (a : Expression) → Declaration
      Var : (stable : Bool) → (x : Named) → (t : Option TypeNode) → (a : Expression) → Declaration
      Func : (x : Named) → (s : Signature) → (body : Expression) → Declaration
      -- a public function of the actor: whether it is a query, the pattern of its context, its signature and body
      Method : (query : Bool) → (context : Option Pattern) → (x : Named) → (s : Signature) → (body : Expression) → Declaration
      System : (x : Named) → (body : Expression) → Declaration
      TypeAlias : (x : Named) → (parameters : List Named) → (t : TypeNode) → Declaration
      Class : (x : Named) → (s : Signature) → (fields : Declarations) → Declaration
      NamedObject : (x : Named) → (fields : Declarations) → Declaration
      Evaluate : (a : Expression) → Declaration

    -- a list of declarations, and which are public: the block's are not, and of those of the actor the methods are
    pub data Declarations : Type 0 where
      End : Declarations
      Then : (public : Bool) → (note : N) → (d : Declaration) → (rest : Declarations) → Declarations

-- an actor with its name, its fields as declarations, and the names and paths of the imports
pub record Program (N : Type 0) : Type 0 where
  pub imports : List (Bytes × Bytes)
  pub name : Option Bytes
  pub fields : Declarations N
