-- The literals of a type, in a row, and whether some of them are left (Motoko language manual, section "Literals").
use Rattle.std.specs.Prelude.{ℕ, zero, suc, ◌+◌, List, [], ◌∷◌, length, Bool, true, false, ◌||◌, cond, pos, ◌+ℤ◌, nat_eq, nat_lt}
use Rattle.mo_num.specs.Kinds.{least, modulus}
use Rattle.mo_types.specs.declared.datum.Datum.{Datum}
use Rattle.mo_types.specs.declared.datum.Datum.TheVariants as part
use Rattle.mo_types.specs.declared.node.Node.{Node}
use Rattle.mo_types.specs.declared.node.Node.TheVariants as node
use Rattle.mo_types.specs.Values.{copies}
use Rattle.mo_values.specs.Parts.{same_part}

abbrev pub is_among : Datum → List Datum → Bool
is_among c [] = false
is_among c (d ∷ ds) = same_part d c || is_among c ds

abbrev pub without : Datum → List Datum → List Datum
without c [] = []
without c (d ∷ ds) = cond (same_part d c) ds (d ∷ without c ds)

-- Unicode scalar values: the surrogates are left out
abbrev pub scalar_at : ℕ → ℕ
scalar_at i = cond (nat_lt i 55296) i (i + 2048)

module _ {A : Type 0} where
  -- literal number i of a type
  abbrev pub leaf_at : Node A → ℕ → Datum
  leaf_at (node.Number k) i = part.Number (least k +ℤ pos i)
  leaf_at node.Bool i = part.Flag (nat_eq i 0)
  leaf_at node.Char i = part.Char (scalar_at i)
  leaf_at node.Text i = part.Text (copies i 97)
  leaf_at node.Blob i = part.Blob (copies i 0)
  leaf_at _ i = part.Null

  -- whether there are more than i
  abbrev pub is_literal_number : Node A → ℕ → Bool
  is_literal_number (node.Number k) i = nat_lt i (modulus k)
  is_literal_number node.Bool i = nat_lt i 2
  is_literal_number node.Char i = nat_lt i 1112064
  is_literal_number node.Text i = true
  is_literal_number node.Blob i = true
  is_literal_number node.Null i = nat_lt i 1
  is_literal_number _ i = false

  -- the first number from i on whose literal is none of these, of which there are at most n
  abbrev pub first_free : Node A → ℕ → ℕ → List Datum → ℕ
  first_free x zero i ds = i
  first_free x (suc n) i ds = cond (is_among (leaf_at x i) ds) (first_free x n (suc i) (without (leaf_at x i) ds)) i

  -- some literal of the type is none of these
  abbrev pub remains : Node A → List Datum → Bool
  remains x ds = is_literal_number x (first_free x (length ds) 0 ds)
