-- The example coding in the other direction: Candid specification, sections "Type definition table" and "Memory". It takes
-- the headers that it writes.
use Rattle.std.specs.Prelude.{ℕ, zero, suc, ◌+◌, ◌-◌, ◌*◌, List, [], ◌∷◌, ◌++◌, length, take, drop, Bool, true, false, ◌&&◌, ◌||◌, cond, nat_eq, nat_lt, Option, Some, None, ℤ, pos, ◌-ℤ◌}
use Rattle.std.specs.Str.{bytes_eq}
use Rattle.mo_num.specs.declared.kind.Kind.{Kind}
use Rattle.mo_num.specs.declared.kind.Kind.TheVariants as kind
use Rattle.mo_types.specs.declared.datum.Datum.{Datum}
use Rattle.mo_types.specs.declared.datum.Datum.TheVariants as part
use Rattle.mo_types.specs.declared.node.Node.{Node}
use Rattle.mo_types.specs.declared.node.Node.TheVariants as node
use Rattle.mo_types.specs.declared.node.TypeId.{TypeId}
use Rattle.mo_types.specs.declared.wire.Entry.{Entry}
use Rattle.mo_types.specs.declared.wire.Ref.{Ref}
use Rattle.mo_types.specs.declared.wire.Ref.TheVariants.{Of}
use Rattle.mo_types.specs.declared.wire.Wire.{Wire}
use Rattle.mo_types.specs.declared.wire.Wire.TheVariants.{Simple, Opt, Vec, Record, Variant, Func}
use Rattle.mo_types.specs.Form.{form}
use Rattle.mo_types.specs.Graph.{head_at}
use Rattle.mo_types.specs.Values.{Values, tree, inside}
use Rattle.mo_types.specs.Wire.{plain_code, refs, wire}
use Rattle.mo_values.specs.Numbers.{wrapped}
use Rattle.mo_values.specs.Parts.{is_leaf_of}
use Rattle.mo_values.specs.Shapes.{Bytes}
use Rattle.mo_meaning.specs.Coding.{Types}
use Rattle.mo_meaning.specs.ExampleCoding.{example_header, values_code}

-- what is read, and the bytes behind it
abbrev pub Read : Type 0 → Type 0
Read A = Option (A × Bytes)

abbrev pub on_read : {A B : Type 0} → Read A → (A → Bytes → Option B) → Option B
on_read None on = None
on_read (Some r) on = on r.0 r.1

-- ---- numbers

-- a number of groups of 7 bits, with the bits so far
abbrev pub groups_by : ℕ → ℕ → ℕ → Bytes → Read (ℕ × ℕ)
groups_by zero n unit bytes = None
groups_by (suc fuel) n unit [] = None
groups_by (suc fuel) n unit (b ∷ bytes) =
    cond (nat_lt b 128) (Some ((n + b * unit, unit * 64), bytes)) (groups_by fuel (n + (b - 128) * unit) (unit * 128) bytes)

abbrev pub read_leb : Bytes → Read ℕ
read_leb bytes = on_read (groups_by 10 0 1 bytes) (λ g rest. Some (g.0, rest))

-- the highest bit is the sign
abbrev pub read_sleb : Bytes → Read ℤ
read_sleb bytes = on_read (groups_by 10 0 1 bytes) (λ g rest. Some (cond (nat_lt g.0 g.1) (pos g.0) (pos g.0 -ℤ pos (2 * g.1)), rest))

abbrev pub read_low : ℕ → Bytes → Read ℕ
read_low zero bytes = Some (0, bytes)
read_low (suc w) [] = None
read_low (suc w) (b ∷ bytes) = on_read (read_low w bytes) (λ n rest. Some (b + 256 * n, rest))

abbrev pub fixed : Kind → ℕ → Bytes → Read Datum
fixed k w bytes = on_read (read_low w bytes) (λ n rest. Some (part.Number (wrapped k (pos n)), rest))

abbrev pub read_number : Kind → Bytes → Read Datum
read_number kind.Nat bytes = on_read (read_leb bytes) (λ n rest. Some (part.Number (pos n), rest))
read_number kind.Int bytes = on_read (read_sleb bytes) (λ z rest. Some (part.Number z, rest))
read_number kind.Nat8 bytes = fixed kind.Nat8 1 bytes
read_number kind.Int8 bytes = fixed kind.Int8 1 bytes
read_number kind.Nat16 bytes = fixed kind.Nat16 2 bytes
read_number kind.Int16 bytes = fixed kind.Int16 2 bytes
read_number kind.Nat32 bytes = fixed kind.Nat32 4 bytes
read_number kind.Int32 bytes = fixed kind.Int32 4 bytes
read_number kind.Nat64 bytes = fixed kind.Nat64 8 bytes
read_number kind.Int64 bytes = fixed kind.Int64 8 bytes

-- ---- parts

abbrev pub read_bytes : ℕ → Bytes → Read Bytes
read_bytes n bytes = cond (nat_lt (length bytes) n) None (Some (take n bytes, drop n bytes))

abbrev pub read_string : Bytes → Read Bytes
read_string bytes = on_read (read_leb bytes) read_bytes

abbrev pub read_flag : Bytes → Read Bool
read_flag (zero ∷ bytes) = Some (false, bytes)
read_flag (suc zero ∷ bytes) = Some (true, bytes)
read_flag _ = None

abbrev pub only_true : {A : Type 0} → (Bytes → Read A) → Bool → Bytes → Read A
only_true next false bytes = None
only_true next true bytes = next bytes

abbrev pub read_principal : Bytes → Read Bytes
read_principal bytes = on_read (read_flag bytes) (only_true read_string)

abbrev pub read_method : Bytes → Read Datum
read_method bytes = on_read (read_principal bytes) (λ p rest. on_read (read_string rest) (λ name rest. Some (part.Method p name, rest)))

abbrev pub option_part : Bool → Datum
option_part true = part.Present
option_part false = part.Null

abbrev pub tag_below : ℕ → ℕ → Bytes → Read Datum
tag_below count i rest = cond (nat_lt i count) (Some (part.Tag i, rest)) None

abbrev pub read_part : Node TypeId → Bytes → Read Datum
read_part (node.Number k) bytes = read_number k bytes
read_part node.Bool bytes = on_read (read_flag bytes) (λ b rest. Some (part.Flag b, rest))
read_part node.Char bytes = on_read (read_low 4 bytes) (λ c rest. Some (part.Char c, rest))
read_part node.Text bytes = on_read (read_string bytes) (λ t rest. Some (part.Text t, rest))
read_part node.Blob bytes = on_read (read_string bytes) (λ t rest. Some (part.Blob t, rest))
read_part node.Principal bytes = on_read (read_principal bytes) (λ p rest. Some (part.Principal p, rest))
read_part node.Null bytes = Some (part.Null, bytes)
read_part node.Any bytes = Some (part.Record 0, bytes)
read_part (node.Opt a) bytes = on_read (read_flag bytes) (λ b rest. Some (option_part b, rest))
read_part (node.Array a) bytes = on_read (read_leb bytes) (λ n rest. Some (part.Many n, rest))
read_part (node.Tuple ts) bytes = Some (part.Record (length ts), bytes)
read_part (node.Object fs) bytes = Some (part.Record (length fs), bytes)
read_part (node.Variant fs) bytes = on_read (read_leb bytes) (tag_below (length fs))
read_part (node.Actor fs) bytes = on_read (read_principal bytes) (λ p rest. Some (part.Actor p, rest))
read_part (node.Func s ps rs) bytes = on_read (read_flag bytes) (only_true read_method)
read_part _ bytes = None

-- the parts with other values inside
abbrev pub has_inside : Datum → Bool
has_inside part.Present = true
has_inside (part.Many n) = true
has_inside (part.Record n) = true
has_inside (part.Tag i) = true
has_inside _ = false

abbrev pub is_part_of : Node TypeId → Datum → Bool
is_part_of n p = has_inside p || is_leaf_of n p

-- ---- values, part by part

module _ (slots : Types) where
  abbrev pub and_part : Datum → Option (List Datum) → Option (List Datum)
  and_part p None = None
  and_part p (Some ps) = Some (p ∷ ps)

  abbrev pub read_parts : ℕ → List TypeId → Bytes → Option (List Datum)
  read_parts zero todo bytes = None
  read_parts (suc fuel) [] [] = Some []
  read_parts (suc fuel) [] (b ∷ bytes) = None
  read_parts (suc fuel) (t ∷ todo) bytes =
      on_read (read_part (head_at slots t) bytes)
      (λ p rest. cond (is_part_of (head_at slots t) p) (and_part p (read_parts fuel (inside (head_at slots t) p ++ todo) rest)) None)

  abbrev pub as_tree : Option (List Datum) → Option Values
  as_tree None = None
  as_tree (Some ps) = Some (tree ps)

  abbrev pub read_values : List TypeId → Bytes → Option Values
  read_values types bytes = as_tree (read_parts (20 + 4 * length bytes) types bytes)

abbrev pub example_read : Types → List TypeId → Bytes → Option Values
example_read slots types bytes =
    cond (bytes_eq (take (length (example_header slots types)) bytes) (example_header slots types))
    (read_values slots types (drop (length (example_header slots types)) bytes))
    None

-- ---- values that are kept: of equal Candid types, which are looked at to some depth

module _ (old new : Types) where
  abbrev pub same_each : (Ref TypeId → Ref TypeId → Bool) → List (Ref TypeId) → List (Ref TypeId) → Bool
  same_each same [] [] = true
  same_each same (a ∷ as_) (b ∷ bs) = same a b && same_each same as_ bs
  same_each same _ _ = false

  abbrev pub same_fields : (Ref TypeId → Ref TypeId → Bool) → List (Entry (Ref TypeId)) → List (Entry (Ref TypeId)) → Bool
  same_fields same [] [] = true
  same_fields same (a ∷ as_) (b ∷ bs) = nat_eq a.id b.id && (same a.part b.part && same_fields same as_ bs)
  same_fields same _ _ = false

  abbrev pub same_head : (Ref TypeId → Ref TypeId → Bool) → Wire (Ref TypeId) → Wire (Ref TypeId) → Bool
  same_head same (Simple p) (Simple q) = nat_eq (plain_code p) (plain_code q)
  same_head same (Opt a) (Opt b) = same a b
  same_head same (Vec a) (Vec b) = same a b
  same_head same (Record as_) (Record bs) = same_fields same as_ bs
  same_head same (Variant as_) (Variant bs) = same_fields same as_ bs
  same_head same (Func ps rs n) (Func qs ss m) = same_each same ps qs && (same_each same rs ss && bytes_eq n m)
  same_head same _ _ = false

  abbrev pub same_to : ℕ → Ref TypeId → Ref TypeId → Bool
  same_to zero a b = true
  same_to (suc n) a b = same_head (λ a b. same_to n a b) (wire (head_at old) a) (wire (head_at new) b)

abbrev pub example_keep : Types → Types → TypeId → TypeId → Values → Option Values
example_keep old new t u v =
    cond (same_to old new 6 (Of t) (Of u))
    (read_values new (u ∷ []) (values_code (wire (head_at old)) (refs (t ∷ [])) (form (head_at old) (t ∷ []) v)))
    None
