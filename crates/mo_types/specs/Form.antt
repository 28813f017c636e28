-- The Candid value of a value at its Motoko type. It has the same form, but for these: a character is its number, a Blob
-- its bytes one by one, what stands at Any is nothing, and so is () under a tag.
use Rattle.std.specs.Prelude.{ℕ, List, [], ◌∷◌, length, pos}
use Rattle.mo_types.specs.declared.datum.Datum.{Datum}
use Rattle.mo_types.specs.declared.datum.Datum.TheVariants as part
use Rattle.mo_types.specs.declared.node.Node.{Node}
use Rattle.mo_types.specs.declared.node.Node.TheVariants as node
use Rattle.mo_types.specs.Values.{Values, Nil, Value, inside}

abbrev pub bytes_one_by_one : List ℕ → Values
bytes_one_by_one [] = Nil
bytes_one_by_one (b ∷ bs) = Value (part.Number (pos b)) Nil (bytes_one_by_one bs)

abbrev pub form_part : {A : Type 0} → Node A → Datum → Datum
form_part node.Char (part.Char c) = part.Number (pos c)
form_part node.Blob (part.Blob bytes) = part.Many (length bytes)
form_part node.Any p = part.Null
form_part _ p = p

module _ {A : Type 0} (head : A → Node A) where
  abbrev pub is_unit_by : Node A → Values → Values → Values
  is_unit_by (node.Tuple []) unit other = unit
  is_unit_by _ unit other = other

  -- what stands under a tag
  abbrev pub under_tag : List A → Values → Values
  under_tag (t ∷ []) inner = is_unit_by (head t) (Value part.Null Nil Nil) inner
  under_tag _ inner = inner

  abbrev pub form_inner : Node A → Datum → Values → Values
  form_inner node.Blob (part.Blob bytes) inner = bytes_one_by_one bytes
  form_inner node.Any p inner = Nil
  form_inner (node.Variant fs) p inner = under_tag (inside (node.Variant fs) p) inner
  form_inner _ p inner = inner

  -- the Candid values of values of these types, in order
  abbrev pub form : List A → Values → Values
  form (t ∷ ts) (Value p inner others) = Value (form_part (head t) p) (form_inner (head t) p (form (inside (head t) p) inner)) (form ts others)
  form _ values = values
