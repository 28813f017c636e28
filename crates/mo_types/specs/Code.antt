-- Messages: their canonical bytes, what they are read as, and stable values.
use Rattle.std.specs.Prelude.{◌≡◌, ℕ, ◌≤◌, List, [], ◌∷◌, ◌++◌, length, map, nat_lt, if◌then◌else◌}
use Rattle.mo_types.specs.declared.node.Node.{Node}
use Rattle.mo_types.specs.declared.datum.Datum.TheVariants as part
use Rattle.mo_types.specs.Sub.{Each}
use Rattle.mo_types.specs.Label.{label_id}
use Rattle.mo_types.specs.Values.{Values, Nil, Value, HaveTypes}
use Rattle.mo_types.specs.declared.wire.Entry.{Entry}
use Rattle.mo_types.specs.declared.wire.Wire.{Wire}
use Rattle.mo_types.specs.declared.wire.Wire.TheVariants.{Record}
use Rattle.mo_types.specs.declared.wire.Ref.{Ref}
use Rattle.mo_types.specs.declared.wire.Ref.TheVariants.{Of}
use Rattle.mo_types.specs.declared.wire.TableRef.{TableRef}
use Rattle.mo_types.specs.Wire.{refs, wire, map_wire, SameWire}
use Rattle.mo_types.specs.Form.{form}
use Rattle.mo_types.specs.Spelling.{Then, padded, shortest, low_first, Spell, FewEmpty, AnyCount}
use Rattle.mo_types.specs.Header.{IsHeader, IsTableRef, IsTable, table_head, IsCanonical}

-- the canonical header and then the Candid values, all in shortest numbers
abbrev pub CodeOf : {B : Type 0} → (B → Wire B) → List B → Values → List ℕ → Type 0
CodeOf head types values bytes = Then (IsCanonical head shortest types) (Spell shortest AnyCount head types values) bytes

module _ {A : Type 0} (head : A → Node A) where
  -- these bytes are the message of these values of these types
  abbrev pub Code : List A → Values → List ℕ → Type 0
  Code types values bytes = CodeOf (wire head) (refs types) (form head types values) bytes

  abbrev pub SameEach : List (Wire TableRef) → List TableRef → List A → Type 0
  SameEach table [] [] = Unit {0}
  SameEach table (r ∷ rs) (t ∷ ts) = SameWire (table_head table) (wire head) r (Of t) × SameEach table rs ts
  SameEach table _ _ = ⊥

  -- A header whose types are as many as, and equal to, those of these types, and then exactly one spelling of the values.
  pub record Reads (types : List A) (bytes : List ℕ) (values : Values) : Type 0 where
    pub typed : HaveTypes head types values
    pub table : List (Wire TableRef)
    pub args : List TableRef
    pub few : length table ≤ 4096
    pub well_formed : IsTable table args
    pub same : SameEach table args types
    pub spelled : Then (IsHeader padded (IsTableRef padded) table args) (Spell padded (FewEmpty (wire head)) (wire head) (refs types) (form head types values)) bytes

-- v of the type t of one program, kept as w of the type u of the next one: both have the same Candid type and value
pub record Keep {A B : Type 0} (head : A → Node A) (next : B → Node B) (t : A) (u : B) (v w : Values) : Type 0 where
  pub types : SameWire (wire head) (wire next) (Of t) (Of u)
  pub old : HaveTypes head (t ∷ []) v
  pub new : HaveTypes next (u ∷ []) w
  pub same : form next (u ∷ []) w ≡ form head (t ∷ []) v

-- ---- stable form 1: one record of the stable variables, by name

-- the record of the stable variables, or a type inside it
pub data Saved (A : Type 0) : Type 0 where
  Whole : Saved A
  Inner : Ref A → Saved A

-- two stable variables are the same where the numbers of their names are
abbrev pub SameName : List ℕ → List ℕ → Type 0
SameName m n = label_id m ≡ label_id n

-- a stable variable with its value
pub record Variable (A : Type 0) : Type 0 where
  pub name : List ℕ
  pub type : A
  pub value : Values

-- one list of values and then the other
abbrev pub beside : Values → Values → Values
beside Nil more = more
beside (Value p inner others) more = Value p inner (beside others more)

module _ {A : Type 0} where
  abbrev pub insert_variable : Variable A → List (Variable A) → List (Variable A)
  insert_variable v [] = v ∷ []
  insert_variable v (w ∷ ws) = if nat_lt (label_id v.name) (label_id w.name) then v ∷ w ∷ ws else w ∷ insert_variable v ws

  -- in the rising order of the numbers of their names
  abbrev pub by_id : List (Variable A) → List (Variable A)
  by_id [] = []
  by_id (v ∷ vs) = insert_variable v (by_id vs)

  abbrev pub saved_entry : Variable A → Entry (Saved A)
  saved_entry v = record { id = label_id v.name; part = Inner (Of v.type) }

  -- first the one value of each, then the next
  abbrev pub values_by : (A → Node A) → List (Variable A) → Values
  values_by head [] = Nil
  values_by head (v ∷ vs) = beside (form head (v.type ∷ []) v.value) (values_by head vs)

  module _ (head : A → Node A) (variables : List (Variable A)) where
    abbrev pub saved_head : Saved A → Wire (Saved A)
    saved_head Whole = Record (map saved_entry (by_id variables))
    saved_head (Inner r) = map_wire (λ q. Inner q) (wire head r)

    abbrev pub saved_values : Values
    saved_values = Value (part.Record (length variables)) (values_by head (by_id variables)) Nil

    -- the form number in 4 bytes, the length in 8, the message, and free bytes after it
    pub record StableBytes (memory : List ℕ) : Type 0 where
      pub message : List ℕ
      pub free : List ℕ
      pub whole : memory ≡ low_first 4 1 ++ (low_first 8 (length message) ++ (message ++ free))
      pub typed : Each (λ v. HaveTypes head (v.type ∷ []) v.value) variables
      pub code : CodeOf saved_head (Whole ∷ []) saved_values message
