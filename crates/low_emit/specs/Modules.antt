-- The low module of a program. Behind the host's functions come the routines, the functions of groups, those of methods and that of the
-- start, and then the functions by which the host enters. The table has the functions of groups.
use Rattle.std.specs.Prelude.{ℕ, zero, suc, ◌+◌, ◌*◌, List, [], ◌∷◌, ◌++◌, length, map, replicate, max, Some, None, pos}
use Rattle.mo_num.specs.declared.kind.Kind.{Kind}
use Rattle.mo_num.specs.declared.kind.Kind.TheVariants as kind
use Rattle.mo_num.specs.declared.operator.Operator.{Operator}
use Rattle.mo_num.specs.declared.operator.Operator.TheVariants as operator
use Rattle.mo_num.specs.declared.operator.NumTrap.TheVariants.{Overflow, Underflow, DivideByZero}
use Rattle.mo_values.specs.Operations.{number_text}
use Rattle.mo_values.specs.Shapes.{Bytes}
use Rattle.wasm_tree.specs.declared.types.ValueType.TheVariants.{I32, I64}
use Rattle.wasm_tree.specs.declared.types.FunctionType.{FunctionType}
use Rattle.wasm_tree.specs.Imports.{entry_type}
use Rattle.core_ir.specs.Programs.{Group, Method}
use Rattle.core_ir.specs.Code.{Code, Stop, Let, If, Match, Loop, Label, Make, Call, Body, CodeProgram}
use Rattle.core_ir.specs.Formed.{size_at}
use Rattle.low_ir.specs.declared.module_parts.LowExport.{LowExport}
use Rattle.low_ir.specs.declared.module_parts.LowGlobal.TheVariants as global
use Rattle.low_ir.specs.Tree.{Function, Module}
use Rattle.low_ir.specs.Numbering.{host_count, upto}
use Rattle.memory_routines.specs.Allocation.{allocation}
use Rattle.memory_routines.specs.Heaps.{pages_for}
use Rattle.heap_layout.specs.Heaps.{Plan}
use Rattle.number_routines.specs.declared.places.TrapPlaces.{TrapPlaces}
use Rattle.number_routines.specs.Codes.{calculate}
use Rattle.number_routines.specs.Lines.{of_two}
use Rattle.number_routines.specs.Powers.{power_routine}
use Rattle.operation_codes.specs.Links.{Links, failing_routine}
use Rattle.operation_codes.specs.Treated.{is_treated}
use Rattle.operation_codes.specs.Codes.{code_of}
use Rattle.flat_emission.specs.Emission.{Linkage, function_of}
use Rattle.low_emit.specs.Texts.{texts_of, memory_of, words_from, place_from}

-- ---- routines

-- with its type
pub record Routine : Type 0 where
  pub type : FunctionType
  pub function : (signature : ℕ) → Function

-- arithmetic whose code does not stand inline
pub record Calculation : Type 0 where
  pub operator : Operator
  pub kind : Kind

abbrev pub of_kinds : Operator → List Kind → List Calculation
of_kinds o [] = []
of_kinds o (k ∷ ks) = record { operator = o; kind = k } ∷ of_kinds o ks

abbrev pub all_kinds : List Kind
all_kinds =
    kind.Nat ∷ kind.Int ∷ kind.Nat8 ∷ kind.Nat16 ∷ kind.Nat32 ∷ kind.Nat64 ∷ kind.Int8 ∷ kind.Int16 ∷ kind.Int32 ∷ kind.Int64 ∷ []

abbrev pub narrow_kinds : List Kind
narrow_kinds = kind.Int8 ∷ kind.Int16 ∷ kind.Int32 ∷ []

abbrev pub calculations : List Calculation
calculations =
    of_kinds operator.Pow all_kinds ++ (of_kinds operator.Add narrow_kinds ++ (of_kinds operator.Sub narrow_kinds
    ++ of_kinds operator.Mul (kind.Int ∷ kind.Int64 ∷ narrow_kinds)))

abbrev pub narrow_place : Kind → ℕ
narrow_place kind.Int8 = 0
narrow_place kind.Int16 = 1
narrow_place kind.Int32 = 2
narrow_place k = 0

abbrev pub kind_place : Kind → ℕ
kind_place kind.Nat = 0
kind_place kind.Int = 1
kind_place kind.Nat8 = 2
kind_place kind.Nat16 = 3
kind_place kind.Nat32 = 4
kind_place kind.Nat64 = 5
kind_place kind.Int8 = 6
kind_place kind.Int16 = 7
kind_place kind.Int32 = 8
kind_place kind.Int64 = 9

abbrev pub product_place : Kind → ℕ
product_place kind.Int = 0
product_place kind.Int64 = 1
product_place k = 2 + narrow_place k

-- the place of a calculation in the list of them
abbrev pub calculation_place : Operator → Kind → ℕ
calculation_place operator.Pow k = kind_place k
calculation_place operator.Add k = 10 + narrow_place k
calculation_place operator.Sub k = 13 + narrow_place k
calculation_place operator.Mul k = 16 + product_place k
calculation_place o k = 0

abbrev pub calculating_by : TrapPlaces → Operator → Kind → ℕ → Function
calculating_by at operator.Pow k signature = power_routine signature at k
calculating_by at o k signature = of_two signature (calculate at 2 3 4 5 6 o k)

abbrev pub calculating : TrapPlaces → Calculation → Routine
calculating at c = record { type = record { params = I64 ∷ I64 ∷ []; results = I64 ∷ [] }; function = calculating_by at c.operator c.kind }

abbrev pub allocating : Routine
allocating = record { type = record { params = I32 ∷ []; results = I32 ∷ [] }; function = allocation }

abbrev pub failing : Routine
failing = record { type = record { params = I32 ∷ []; results = [] }; function = failing_routine }

-- ---- what a program needs

-- the functions of the groups before this one
abbrev pub before : List (Group Body) → ℕ → ℕ
before [] code = 0
before (g ∷ gs) zero = 0
before (g ∷ gs) (suc code) = length g.bodies + before gs code

abbrev pub all_bodies : List (Group Body) → ℕ
all_bodies [] = 0
all_bodies (g ∷ gs) = length g.bodies + all_bodies gs

-- the most parameters of its functions and arguments of its calls
abbrev pub code_arity : Code → ℕ
code_arity (Let t p xs c) = code_arity c
code_arity (If p xs y n c) = max (code_arity y) (max (code_arity n) (code_arity c))
code_arity (Match t k x y n c) = max (code_arity y) (max (code_arity n) (code_arity c))
code_arity (Loop b c) = max (code_arity b) (code_arity c)
code_arity (Label b c) = max (code_arity b) (code_arity c)
code_arity (Make t xs k c) = code_arity c
code_arity (Call t f xs c) = max (length xs) (code_arity c)
code_arity c = 0

abbrev pub segments_arity : List Code → ℕ
segments_arity [] = 0
segments_arity (c ∷ cs) = max (code_arity c) (segments_arity cs)

abbrev pub body_arity : Body → ℕ
body_arity b = max b.parameters (segments_arity b.segments)

abbrev pub bodies_arity : List Body → ℕ
bodies_arity [] = 0
bodies_arity (b ∷ bs) = max (body_arity b) (bodies_arity bs)

abbrev pub groups_arity : List (Group Body) → ℕ
groups_arity [] = 0
groups_arity (g ∷ gs) = max (bodies_arity g.bodies) (groups_arity gs)

abbrev pub most_arity : CodeProgram → ℕ
most_arity p = max (groups_arity p.groups) (max (bodies_arity (map (λ m. m.body) p.methods)) (body_arity p.start))

-- a function with so many parameters, behind the block of its group
abbrev pub arity_type : ℕ → FunctionType
arity_type n = record { params = I32 ∷ replicate n I64; results = I64 ∷ [] }

-- ---- the module

-- The actor itself and its methods as shared functions come first among the names of an actor; they have no words.
module _ (p : CodeProgram) (more : List Routine) (own : ℕ) where
  abbrev pub texts : List Bytes
  texts = texts_of p

  abbrev pub base : ℕ
  base = words_from 1 texts

  abbrev pub bytes_at : Bytes → ℕ
  bytes_at t = place_from 1 t texts

  -- behind its size
  abbrev pub text_address : Bytes → ℕ
  text_address t = 8 * bytes_at t + 8

  abbrev pub traps : TrapPlaces
  traps = record { overflow = pos (text_address (number_text Overflow)); underflow = pos (text_address (number_text Underflow)); divide_by_zero = pos (text_address (number_text DivideByZero)) }

  abbrev pub links : Links
  links = record { traps = traps; calculation = λ o k. host_count + (2 + calculation_place o k); allocation = host_count; failing = suc host_count; bytes_at = bytes_at }

  abbrev pub plan : Plan
  plan = record { sizes = size_at p.groups; entry_of = λ code k. before p.groups code + k; base = base; texts = memory_of texts }

  abbrev pub routines : List Routine
  routines = allocating ∷ failing ∷ (map (calculating traps) calculations ++ more)

  -- the types of entries come first behind the host's, and then those of routines
  abbrev pub first_arity : ℕ
  first_arity = suc (host_count + length routines)

  abbrev pub hidden : ℕ
  hidden = suc (length p.methods)

  abbrev pub link : Linkage
  link = record {
    names = base;
    hidden = hidden;
    allocation = host_count;
    type_of = λ n. first_arity + n;
    bytes_at = bytes_at;
    treated = is_treated p.head plan links;
    operation = code_of links;
  }

  -- ---- functions and their numbers

  abbrev pub first_body : ℕ
  first_body = host_count + length routines

  abbrev pub number_of_function : (code k : ℕ) → ℕ
  number_of_function code k = first_body + (before p.groups code + k)

  abbrev pub number_of_method : ℕ → ℕ
  number_of_method i = first_body + (all_bodies p.groups + i)

  abbrev pub number_of_start : ℕ
  number_of_start = number_of_method (length p.methods)

  abbrev pub functions_from : (signature : ℕ) → List Routine → List Function
  functions_from signature [] = []
  functions_from signature (r ∷ rs) = r.function signature ∷ functions_from (suc signature) rs

  abbrev pub of_groups : List (Group Body) → List Function
  of_groups [] = []
  of_groups (g ∷ gs) = map (function_of plan link (length g.bodies)) g.bodies ++ of_groups gs

  -- functions that no group has see nothing
  abbrev pub alone : Body → Function
  alone b = function_of plan link 0 b

  abbrev pub functions : List Function
  functions = functions_from (suc host_count) routines ++ (of_groups p.groups ++ (map (λ m. alone m.body) p.methods ++ alone p.start ∷ []))

  -- where the heap begins: behind the texts and the words of names
  abbrev pub heap_begin : ℕ
  heap_begin = base + (hidden + own)

  abbrev pub module_with : (entries : List Function) → (exports : List LowExport) → Module
  module_with entries exports = record {
    types = entry_type ∷ (map (λ r. r.type) routines ++ map arity_type (upto 0 (suc (most_arity p))));
    functions = functions ++ entries;
    table = upto first_body (all_bodies p.groups);
    globals = global.Word (pos (8 * heap_begin)) ∷ [];
    pages = pages_for (8 * heap_begin);
    bytes = memory_of texts;
    exports = exports;
  }
