-- The canonical header of types (Candid specification, section "Type definition table"), in the shortest numbers.
use Rattle.std.specs.Prelude.{ℕ, List, [], ◌∷◌, map, Option, Some, None, pos}
use Rattle.mo_types.specs.declared.wire.Entry.{Entry}
use Rattle.mo_types.specs.declared.wire.Method.{Method}
use Rattle.mo_types.specs.declared.wire.Wire.{Wire}
use Rattle.mo_types.specs.declared.wire.Wire.TheVariants.{Simple, Opt, Vec, Record, Variant, Func, Service}
use Rattle.mo_types.specs.Wire.{plain_code}
use Rattle.mo_types.specs.Header.{magic}
use Rattle.mo_coding.specs.Heads.{Heads}
use Rattle.mo_coding.specs.Order.{place, order_of}
use Rattle.mo_coding.specs.Pieces.{Piece, join, unsigned, signed, string, list}

module _ {B : Type 0} (part : B → Piece) where
  abbrev pub field : Entry B → Piece
  field e = join (unsigned 32 e.id) (part e.part)

  abbrev pub method : Method B → Piece
  method m = join (string m.name) (part m.part)

  abbrev pub entry : Wire B → Piece
  entry (Simple p) = None
  entry (Opt b) = join (Some (0x6e ∷ [])) (part b)
  entry (Vec b) = join (Some (0x6d ∷ [])) (part b)
  entry (Record es) = join (Some (0x6c ∷ [])) (list field es)
  entry (Variant es) = join (Some (0x6b ∷ [])) (list field es)
  entry (Func ps rs ns) = join (Some (0x6a ∷ [])) (join (list part ps) (join (list part rs) (list (λ n. Some (n ∷ [])) ns)))
  entry (Service ms) = join (Some (0x69 ∷ [])) (list method ms)

  abbrev pub header : List (Wire B) → List B → Piece
  header table args = join (Some magic) (join (list entry table) (list part args))

-- a type by its place, where there is one
abbrev pub place_piece : Option ℕ → Piece
place_piece None = None
place_piece (Some i) = signed 33 (pos i)

module _ {B : Type 0} (g : Heads B) where
  -- a type by its code, or by the place of the one that is equal to it
  abbrev pub ref_by : List B → B → Wire B → Piece
  ref_by order b (Simple p) = Some (plain_code p ∷ [])
  ref_by order b _ = place_piece (place g order b)

  abbrev pub ref : List B → B → Piece
  ref order b = ref_by order b (g.head b)

  abbrev pub canonical : List B → Piece
  canonical args = let order = order_of g args in header (ref order) (map g.head order) args
