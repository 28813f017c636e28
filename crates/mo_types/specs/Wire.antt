-- Candid types (Candid specification, section "Types"), those of Motoko types, and when two of them are equal.
use Rattle.std.specs.Prelude.{◌≡◌, ℕ, zero, suc, ◌+◌, Bool, true, false, List, [], ◌∷◌, map, nat_eq, nat_lt, if◌then◌else◌, Option, Some, None}
use Rattle.mo_num.specs.declared.kind.Kind.{Kind}
use Rattle.mo_num.specs.declared.kind.Kind.TheVariants as kind
use Rattle.mo_types.specs.declared.wire.Plain.{Plain}
use Rattle.mo_types.specs.declared.wire.Plain.TheVariants as plain
use Rattle.mo_types.specs.declared.wire.Entry.{Entry}
use Rattle.mo_types.specs.declared.wire.Method.{Method}
use Rattle.mo_types.specs.declared.wire.Wire.{Wire}
use Rattle.mo_types.specs.declared.wire.Wire.TheVariants.{Simple, Opt, Vec, Record, Variant, Func, Service}
use Rattle.mo_types.specs.declared.wire.Ref.{Ref}
use Rattle.mo_types.specs.declared.wire.Ref.TheVariants.{Of, Just}
use Rattle.mo_types.specs.declared.node.Node.{Node}
use Rattle.mo_types.specs.declared.node.Node.TheVariants as node
use Rattle.mo_types.specs.declared.node.Field.{Field}
use Rattle.mo_types.specs.declared.node.Sort.{Sort}
use Rattle.mo_types.specs.declared.node.Sort.TheVariants as sort
use Rattle.mo_types.specs.Label.{label_id}
use Rattle.mo_types.specs.Values.{by_label}

-- the byte of a type without parts, which is its negative number in one byte of SLEB128
abbrev pub plain_code : Plain → ℕ
plain_code plain.Null = 0x7f
plain_code plain.Bool = 0x7e
plain_code plain.Nat = 0x7d
plain_code plain.Int = 0x7c
plain_code plain.Nat8 = 0x7b
plain_code plain.Nat16 = 0x7a
plain_code plain.Nat32 = 0x79
plain_code plain.Nat64 = 0x78
plain_code plain.Int8 = 0x77
plain_code plain.Int16 = 0x76
plain_code plain.Int32 = 0x75
plain_code plain.Int64 = 0x74
plain_code plain.Float32 = 0x73
plain_code plain.Float64 = 0x72
plain_code plain.Text = 0x71
plain_code plain.Reserved = 0x70
plain_code plain.Empty = 0x6f
plain_code plain.Principal = 0x68

-- the type of a byte
abbrev pub plain_of_code : ℕ → Option Plain
plain_of_code code =
    if nat_eq code 0x7f then Some plain.Null else (if nat_eq code 0x7e then Some plain.Bool else (if nat_eq code 0x7d then Some plain.Nat else (if nat_eq code 0x7c then Some plain.Int else (if nat_eq code 0x7b then Some plain.Nat8 else (if nat_eq code 0x7a then Some plain.Nat16 else (if nat_eq code 0x79 then Some plain.Nat32 else (if nat_eq code 0x78 then Some plain.Nat64 else (if nat_eq code 0x77 then Some plain.Int8 else (if nat_eq code 0x76 then Some plain.Int16 else (if nat_eq code 0x75 then Some plain.Int32 else (if nat_eq code 0x74 then Some plain.Int64 else (if nat_eq code 0x73 then Some plain.Float32 else (if nat_eq code 0x72 then Some plain.Float64 else (if nat_eq code 0x71 then Some plain.Text else (if nat_eq code 0x70 then Some plain.Reserved else (if nat_eq code 0x6f then Some plain.Empty else (if nat_eq code 0x68 then Some plain.Principal else None)))))))))))))))))

abbrev pub map_entry : {A B : Type 0} → (A → B) → Entry A → Entry B
map_entry f e = record { id = e.id; part = f e.part }

abbrev pub map_method : {A B : Type 0} → (A → B) → Method A → Method B
map_method f m = record { name = m.name; part = f m.part }

abbrev pub map_wire : {A B : Type 0} → (A → B) → Wire A → Wire B
map_wire f (Simple p) = Simple p
map_wire f (Opt a) = Opt (f a)
map_wire f (Vec a) = Vec (f a)
map_wire f (Record es) = Record (map (map_entry f) es)
map_wire f (Variant es) = Variant (map (map_entry f) es)
map_wire f (Func ps rs ns) = Func (map f ps) (map f rs) ns
map_wire f (Service ms) = Service (map (map_method f) ms)

abbrev pub plain_number : Kind → Plain
plain_number kind.Nat = plain.Nat
plain_number kind.Int = plain.Int
plain_number kind.Nat8 = plain.Nat8
plain_number kind.Nat16 = plain.Nat16
plain_number kind.Nat32 = plain.Nat32
plain_number kind.Nat64 = plain.Nat64
plain_number kind.Int8 = plain.Int8
plain_number kind.Int16 = plain.Int16
plain_number kind.Int32 = plain.Int32
plain_number kind.Int64 = plain.Int64

-- whether names rise in the order of their bytes
abbrev pub name_before : List ℕ → List ℕ → Bool
name_before [] [] = false
name_before [] (c ∷ cs) = true
name_before (b ∷ bs) [] = false
name_before (b ∷ bs) (c ∷ cs) = if nat_lt b c then true else (if nat_eq b c then name_before bs cs else false)

-- a shared function; local ones are not shareable
abbrev pub function : {A : Type 0} → Sort → List A → List A → Wire A
function sort.Local ps rs = Simple plain.Empty
function sort.Shared ps rs = Func ps rs []
function sort.Query ps rs = Func ps rs (1 ∷ [])

abbrev pub insert_method : {A : Type 0} → Method A → List (Method A) → List (Method A)
insert_method m [] = m ∷ []
insert_method m (n ∷ ns) = if name_before m.name n.name then m ∷ n ∷ ns else n ∷ insert_method m ns

-- methods in the rising order of their names
abbrev pub by_name : {A : Type 0} → List (Method A) → List (Method A)
by_name [] = []
by_name (m ∷ ms) = insert_method m (by_name ms)

module _ {A : Type 0} where
  abbrev pub refs : List A → List (Ref A)
  refs ts = map (λ t. Of t) ts

  -- the parts of a tuple under 0, 1, ..
  abbrev pub numbered : ℕ → List A → List (Entry (Ref A))
  numbered n [] = []
  numbered n (t ∷ ts) = record { id = n; part = Of t } ∷ numbered (n + 1) ts

  abbrev pub entry_of : Field A → Entry (Ref A)
  entry_of f = record { id = label_id f.label; part = Of f.part }

  abbrev pub method_of : Field A → Method (Ref A)
  method_of f = record { name = f.label; part = Of f.part }

  module _ (head : A → Node A) where
    abbrev pub payload_by : A → Node A → Ref A
    payload_by t (node.Tuple []) = Just plain.Null
    payload_by t _ = Of t

    -- a tag's value: () stands as null
    abbrev pub payload : A → Ref A
    payload t = payload_by t (head t)

    abbrev pub tag_of : Field A → Entry (Ref A)
    tag_of f = record { id = label_id f.label; part = payload f.part }

    abbrev pub wire_of_node : Node A → Wire (Ref A)
    wire_of_node (node.Number k) = Simple (plain_number k)
    wire_of_node node.Bool = Simple plain.Bool
    wire_of_node node.Char = Simple plain.Nat32
    wire_of_node node.Text = Simple plain.Text
    wire_of_node node.Blob = Vec (Just plain.Nat8)
    wire_of_node node.Principal = Simple plain.Principal
    wire_of_node node.Null = Simple plain.Null
    wire_of_node node.Any = Simple plain.Reserved
    wire_of_node node.Bottom = Simple plain.Empty
    wire_of_node (node.Opt a) = Opt (Of a)
    wire_of_node (node.Array a) = Vec (Of a)
    wire_of_node (node.Tuple ts) = Record (numbered 0 ts)
    wire_of_node (node.Object fs) = Record (map entry_of (by_label fs))
    wire_of_node (node.Actor fs) = Service (by_name (map method_of fs))
    wire_of_node (node.Variant fs) = Variant (map tag_of (by_label fs))
    wire_of_node (node.Func s ps rs) = function s (refs ps) (refs rs)
    -- these are not shareable
    wire_of_node node.Error = Simple plain.Empty
    wire_of_node (node.MutArray a) = Simple plain.Empty
    wire_of_node (node.Async a) = Simple plain.Empty
    wire_of_node (node.Variable v b) = Simple plain.Empty

    -- the Candid type of a Motoko type, head by head
    abbrev pub wire : Ref A → Wire (Ref A)
    wire (Of t) = wire_of_node (head t)
    wire (Just p) = Simple p

-- equality of Candid types to a depth, in two collections of types with heads
module _ {A B : Type 0} where
  abbrev pub SameParts : (A → B → Type 0) → List A → List B → Type 0
  SameParts R [] [] = Unit {0}
  SameParts R (a ∷ as_) (b ∷ bs) = R a b × SameParts R as_ bs
  SameParts R _ _ = ⊥

  abbrev pub SameEntries : (A → B → Type 0) → List (Entry A) → List (Entry B) → Type 0
  SameEntries R [] [] = Unit {0}
  SameEntries R (a ∷ as_) (b ∷ bs) = (a.id ≡ b.id) × R a.part b.part × SameEntries R as_ bs
  SameEntries R _ _ = ⊥

  abbrev pub SameMethods : (A → B → Type 0) → List (Method A) → List (Method B) → Type 0
  SameMethods R [] [] = Unit {0}
  SameMethods R (a ∷ as_) (b ∷ bs) = (a.name ≡ b.name) × R a.part b.part × SameMethods R as_ bs
  SameMethods R _ _ = ⊥

  abbrev pub SameHead : (A → B → Type 0) → Wire A → Wire B → Type 0
  SameHead R (Simple p) (Simple q) = p ≡ q
  SameHead R (Opt a) (Opt b) = R a b
  SameHead R (Vec a) (Vec b) = R a b
  SameHead R (Record as_) (Record bs) = SameEntries R as_ bs
  SameHead R (Variant as_) (Variant bs) = SameEntries R as_ bs
  SameHead R (Func ps rs n) (Func qs ss m) = SameParts R ps qs × SameParts R rs ss × (n ≡ m)
  SameHead R (Service as_) (Service bs) = SameMethods R as_ bs
  SameHead R _ _ = ⊥

unfoldable pub SameTo : {A B : Type 0} → (A → Wire A) → (B → Wire B) → ℕ → A → B → Type 0
SameTo h k zero a b = Unit {0}
SameTo h k (suc n) a b = SameHead (SameTo h k n) (h a) (k b)

-- equal Candid types
pub record SameWire {A B : Type 0} (h : A → Wire A) (k : B → Wire B) (a : A) (b : B) : Type 0 where
  pub to : (n : ℕ) → SameTo h k n a b
