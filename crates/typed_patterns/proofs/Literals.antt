-- Heads with other parts, and texts.
use Rattle.std.proofs.Common.{◌≡◌, ℕ, Bool, true, false, List, Option, Some, None, Result, Ok, Err, is_some, map, refl, sym}
use Rattle.std.specs.Prelude.{MatchResult, IsUtf8}
use Rattle.std.specs.Result.{is_ok}
use Rattle.std.specs.Str.{is_utf8}
use Rattle.std.proofs.lemmas.Str.{IsUtf8-from_is_utf8, is_utf8-from_IsUtf8}
use Rattle.mo_types.specs.declared.node.Node.{Node}
use Rattle.mo_types.specs.declared.node.Node.TheVariants as node
use Rattle.mo_types.specs.Heads.{map_option, opt_of, tuple_of, object_of, variant_of}
use Rattle.mo_subtype.specs.Renamed.{on_field, on_node}

-- ---- heads with other parts

module _ {A B : Type 0} (f : A → B) where
  pub record Alike (y : Node A) : Type 0 where
    pub opt : opt_of (on_node f y) ≡ map_option f (opt_of y)
    pub tuple : tuple_of (on_node f y) ≡ map_option (map f) (tuple_of y)
    pub object : object_of (on_node f y) ≡ map_option (map (on_field f)) (object_of y)
    pub variant : variant_of (on_node f y) ≡ map_option (map (on_field f)) (variant_of y)

  pub alike : (y : Node A) → Alike y
  alike (node.Number k) = record { opt = refl; tuple = refl; object = refl; variant = refl }
  alike node.Bool = record { opt = refl; tuple = refl; object = refl; variant = refl }
  alike node.Char = record { opt = refl; tuple = refl; object = refl; variant = refl }
  alike node.Text = record { opt = refl; tuple = refl; object = refl; variant = refl }
  alike node.Blob = record { opt = refl; tuple = refl; object = refl; variant = refl }
  alike node.Principal = record { opt = refl; tuple = refl; object = refl; variant = refl }
  alike node.Error = record { opt = refl; tuple = refl; object = refl; variant = refl }
  alike node.Null = record { opt = refl; tuple = refl; object = refl; variant = refl }
  alike node.Any = record { opt = refl; tuple = refl; object = refl; variant = refl }
  alike node.Bottom = record { opt = refl; tuple = refl; object = refl; variant = refl }
  alike (node.Opt a) = record { opt = refl; tuple = refl; object = refl; variant = refl }
  alike (node.Array a) = record { opt = refl; tuple = refl; object = refl; variant = refl }
  alike (node.MutArray a) = record { opt = refl; tuple = refl; object = refl; variant = refl }
  alike (node.Tuple ts) = record { opt = refl; tuple = refl; object = refl; variant = refl }
  alike (node.Object fs) = record { opt = refl; tuple = refl; object = refl; variant = refl }
  alike (node.Actor fs) = record { opt = refl; tuple = refl; object = refl; variant = refl }
  alike (node.Variant fs) = record { opt = refl; tuple = refl; object = refl; variant = refl }
  alike (node.Func s ps rs) = record { opt = refl; tuple = refl; object = refl; variant = refl }
  alike (node.Async a) = record { opt = refl; tuple = refl; object = refl; variant = refl }
  alike (node.Variable v b) = record { opt = refl; tuple = refl; object = refl; variant = refl }

  pub is_some_seen : (o : Option A) → is_some (map_option f o) ≡ is_some o
  is_some_seen None = refl
  is_some_seen (Some a) = refl

-- ---- texts

-- a test that no text passes
not_utf8 : (bytes : List ℕ) (b : Bool) → is_utf8 bytes ≡ b → (IsUtf8 bytes → ⊥) → false ≡ b
not_utf8 bytes false is none = refl
not_utf8 bytes true is none = absurd (none (IsUtf8-from_is_utf8 bytes is))

pub read_as_text : {X Y : Type 0} (P : X → Type 0) (Q : Y → Type 0) (bytes : List ℕ) (r : Result X Y) → MatchResult r (λ x. P x × IsUtf8 bytes) (λ y. (IsUtf8 bytes → ⊥) × Q y) → is_ok r ≡ is_utf8 bytes
read_as_text P Q bytes (Ok x) h = sym (is_utf8-from_IsUtf8 bytes h.1)
read_as_text P Q bytes (Err y) h = not_utf8 bytes (is_utf8 bytes) refl h.0
