-- Motoko values as Candid values and back, one part after the other: Motoko language manual, section "Candid serialization". What
-- waits is the type of each next value, and whether that stands under a tag.
use Rattle.std.specs.Prelude.{ℕ, zero, suc, Bool, true, false, ◌&&◌, cond, List, [], ◌∷◌, ◌++◌, length, map, Option, Some, None, pos}
use Rattle.mo_types.specs.declared.datum.Datum.{Datum}
use Rattle.mo_types.specs.declared.datum.Datum.TheVariants as part
use Rattle.mo_types.specs.declared.node.Node.{Node}
use Rattle.mo_types.specs.declared.node.Node.TheVariants as node
use Rattle.mo_types.specs.Form.{form_part}
use Rattle.mo_types.specs.Values.{inside}

abbrev pub numbers : List ℕ → List Datum
numbers [] = []
numbers (b ∷ bs) = part.Number (pos b) ∷ numbers bs

abbrev pub byte_of : Datum → ℕ
byte_of (part.Number (pos b)) = b
byte_of _ = 0

-- what comes next: a value, or so many bytes and a further one, behind those that were gathered
pub data Mode : Type 0 where
  Next : Mode
  Gathers : (left : ℕ) (bytes : List ℕ) → Mode

module _ {A : Type 0} where
  abbrev pub is_tag : Node A → Datum → Bool
  is_tag (node.Variant fs) (part.Tag i) = true
  is_tag _ _ = false

  abbrev pub is_unit : Node A → Bool
  is_unit (node.Tuple []) = true
  is_unit _ = false

  -- the values inside a part
  abbrev pub asked : Node A → Datum → List (A × Bool)
  asked n p = map (λ t. (t, is_tag n p)) (inside n p)

  abbrev pub waiting : List A → List (A × Bool)
  waiting ts = map (λ t. (t, false)) ts

  -- ---- into Candid

  abbrev pub form_one : Node A → Datum → List Datum
  form_one node.Blob (part.Blob bytes) = part.Many (length bytes) ∷ numbers bytes
  form_one n p = form_part n p ∷ []

  abbrev pub form_at : Node A → Bool → Datum → List Datum
  form_at n under p = cond (under && is_unit n) (part.Null ∷ []) (form_one n p)

  -- ---- and back

  abbrev pub unform_one : Node A → Datum → Datum
  unform_one node.Char (part.Number (pos c)) = part.Char c
  unform_one node.Any p = part.Record 0
  unform_one _ p = p

  abbrev pub unform_at : Node A → Bool → Datum → Datum
  unform_at n under p = cond (under && is_unit n) (part.Record 0) (unform_one n p)

  -- how many bytes stand behind it
  abbrev pub bytes_behind : Node A → Datum → Option ℕ
  bytes_behind node.Blob (part.Many n) = Some n
  bytes_behind _ _ = None

abbrev pub begins : Option ℕ → List Datum → List Datum → (ℕ → List Datum) → List Datum
begins None value empty gathers = value
begins (Some zero) value empty gathers = empty
begins (Some (suc k)) value empty gathers = gathers k

module _ {A : Type 0} (head : A → Node A) where
  -- the Candid parts of these parts
  abbrev pub formed : List (A × Bool) → List Datum → List Datum
  formed ws [] = []
  formed [] (p ∷ ps) = []
  formed (w ∷ ws) (p ∷ ps) = form_at (head w.0) w.1 p ++ formed (asked (head w.0) p ++ ws) ps

  -- the parts of these Candid parts
  abbrev pub unformed : Mode → List (A × Bool) → List Datum → List Datum
  unformed m ws [] = []
  unformed (Gathers zero bytes) ws (p ∷ ps) = part.Blob (bytes ++ byte_of p ∷ []) ∷ unformed Next ws ps
  unformed (Gathers (suc left) bytes) ws (p ∷ ps) = unformed (Gathers left (bytes ++ byte_of p ∷ [])) ws ps
  unformed Next [] (p ∷ ps) = []
  unformed Next (w ∷ ws) (p ∷ ps) =
      begins (bytes_behind (head w.0) p) (unform_at (head w.0) w.1 p ∷ unformed Next (asked (head w.0) (unform_at (head w.0) w.1 p) ++ ws) ps) (part.Blob [] ∷ unformed Next ws ps) (λ k. unformed (Gathers k []) ws ps)
