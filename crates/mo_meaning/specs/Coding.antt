-- How values become the bytes of messages and of stable memory, and back, as functions. Those of a faithful coding are fixed
-- by the definitions of messages (Candid specification; Motoko language manual, section "Candid serialization"): it gives
-- the canonical bytes, and reads exactly what may be read.
use Rattle.std.specs.Prelude.{◌≡◌, ◌≢◌, ◌↔◌, ℕ, ◌+◌, ◌<◌, List, ◌++◌, map, Option, Some, length, Contains, AllPairs, sum_by}
use Rattle.mo_types.specs.declared.node.Node.{Node}
use Rattle.mo_types.specs.declared.node.TypeId.{TypeId}
use Rattle.mo_types.specs.declared.wire.Wire.{Wire}
use Rattle.mo_types.specs.declared.wire.TableRef.{TableRef}
use Rattle.mo_types.specs.Code.{Code, Reads, Keep, Variable, StableBytes}
use Rattle.mo_types.specs.Graph.{Slot, head_at}
use Rattle.mo_types.specs.Header.{IsHeader, IsTableRef, IsTable}
use Rattle.mo_types.specs.Layout.{Layout, layout, entries}
use Rattle.mo_types.specs.Spelling.{padded, low_first}
use Rattle.mo_types.specs.Values.{Values}
use Rattle.mo_values.specs.Shapes.{Bytes}

-- the types of a program: the nodes of its graph
abbrev pub Types : Type 0
Types = List Slot

pub record Coding : Type 0 where
  -- the message of values of these types; where there is none, since a count is too great, more bytes than a message may have
  pub code : Types → List TypeId → Values → Bytes
  pub read : Types → List TypeId → Bytes → Option Values
  -- a value of one program at a type of the next one
  pub keep : Types → Types → TypeId → TypeId → Values → Option Values
  -- the message of stable variables
  pub save : Types → List (Variable TypeId) → Bytes
  -- the bytes of a message up to the end of the types of its arguments; all of them where it has no well-formed header
  pub header : Bytes → ℕ
  -- the nodes and entries of types
  pub extent : Types → List TypeId → ℕ

-- stable memory with this message: the form number in 4 bytes, the length in 8, the message
abbrev pub stable_memory : Bytes → Bytes
stable_memory message = low_first 4 1 ++ (low_first 8 (length message) ++ message)

-- ---- what the weight of a message is counted by

abbrev pub laid_parts : Layout TypeId → List TypeId
laid_parts l = l.first ++ (l.second ++ map (λ f. f.part) l.fields)

abbrev pub parts_of : Node TypeId → List TypeId
parts_of n = laid_parts (layout n)

-- a type is one of these, or a part of one that is reached
pub data Reaches (slots : Types) (types : List TypeId) : TypeId → Type 0 where
  given : (t : TypeId) → Contains types t → Reaches slots types t
  within : (t u : TypeId) → Reaches slots types t → Contains (parts_of (head_at slots t)) u → Reaches slots types u

-- so many types are reached from these, with so many fields and parts
pub record IsExtent (slots : Types) (types : List TypeId) (n : ℕ) : Type 0 where
  pub all : List TypeId
  pub different : AllPairs (λ t u. t ≢ u) all
  pub reached : (t : TypeId) → Contains all t ↔ Reaches slots types t
  pub counted : n ≡ length all + sum_by (λ t. entries (head_at slots t)) all

-- the bytes begin with a well-formed header of so many bytes
pub record BeginsWith (bytes : Bytes) (n : ℕ) : Type 0 where
  pub table : List (Wire TableRef)
  pub args : List TableRef
  pub front : Bytes
  pub back : Bytes
  pub whole : bytes ≡ front ++ back
  pub spelled : IsHeader padded (IsTableRef padded) table args front
  pub formed : IsTable table args
  pub long : n ≡ length front

-- ---- a coding that is that of the definitions

pub record IsFaithful (c : Coding) : Type 0 where
  pub codes : (slots : Types) (types : List TypeId) (values : Values) (bytes : Bytes) → Code (head_at slots) types values bytes → c.code slots types values ≡ bytes
  pub long : (slots : Types) (types : List TypeId) (values : Values) → ((bytes : Bytes) → Code (head_at slots) types values bytes → ⊥) → 2097152 < length (c.code slots types values)
  pub sound : (slots : Types) (types : List TypeId) (bytes : Bytes) (values : Values) → c.read slots types bytes ≡ Some values → Reads (head_at slots) types bytes values
  pub complete : (slots : Types) (types : List TypeId) (bytes : Bytes) (values : Values) → Reads (head_at slots) types bytes values → c.read slots types bytes ≡ Some values
  pub keeps : (old new : Types) (t u : TypeId) (v w : Values) → c.keep old new t u v ≡ Some w → Keep (head_at old) (head_at new) t u v w
  pub kept : (old new : Types) (t u : TypeId) (v w : Values) → Keep (head_at old) (head_at new) t u v w → c.keep old new t u v ≡ Some w
  pub saves : (slots : Types) (variables : List (Variable TypeId)) (memory : Bytes) → StableBytes (head_at slots) variables memory → StableBytes (head_at slots) variables (stable_memory (c.save slots variables))
  pub begins : (bytes : Bytes) (n : ℕ) → BeginsWith bytes n → c.header bytes ≡ n
  pub no_begin : (bytes : Bytes) → ((n : ℕ) → BeginsWith bytes n → ⊥) → c.header bytes ≡ length bytes
  pub extends : (slots : Types) (types : List TypeId) (n : ℕ) → IsExtent slots types n → c.extent slots types ≡ n
