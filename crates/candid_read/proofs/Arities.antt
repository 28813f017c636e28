-- As many values are inside a part as it says.
use Rattle.std.proofs.Common.{◌≡◌, ℕ, zero, suc, ◌<◌, List, [], ◌∷◌, length, refl, sym, ap, ◌∙◌, arith}
use Rattle.std.specs.Prelude.{slice_get}
use Rattle.std.proofs.lemmas.List.{length-map}
use Rattle.mo_types.specs.declared.datum.Datum.{Datum}
use Rattle.mo_types.specs.declared.datum.Datum.TheVariants as part
use Rattle.mo_types.specs.declared.node.Node.{Node}
use Rattle.mo_types.specs.declared.node.Node.TheVariants as node
use Rattle.mo_types.specs.declared.wire.Plain.{Plain}
use Rattle.mo_types.specs.declared.wire.Plain.TheVariants as plain
use Rattle.mo_types.specs.declared.wire.Entry.{Entry}
use Rattle.mo_types.specs.declared.wire.Wire.{Wire}
use Rattle.mo_types.specs.declared.wire.Wire.TheVariants.{Simple, Opt, Vec, Record, Variant, Func, Service}
use Rattle.mo_types.specs.declared.wire.Ref.{Ref}
use Rattle.mo_types.specs.declared.wire.Ref.TheVariants.{Of, Just}
use Rattle.mo_types.specs.Wire.{wire_of_node}
use Rattle.mo_types.specs.Values.{arity, copies, IsPartOf}
use Rattle.mo_types.specs.Spelling.{padded, IsPlainPart, IsWirePart, one_part, wire_inside}
use Rattle.candid_forms.specs.Forms.{IsSpelledBy, IsPartAt, inside_ref}

plain_leaf : (q : Plain) (p : Datum) (bytes : List ℕ) → IsPlainPart padded q p bytes → arity p ≡ 0
plain_leaf plain.Null part.Null bytes h = refl
plain_leaf plain.Null p bytes h = absurd h
plain_leaf plain.Bool (part.Flag b) bytes h = refl
plain_leaf plain.Bool p bytes h = absurd h
plain_leaf plain.Nat (part.Number z) bytes h = refl
plain_leaf plain.Nat p bytes h = absurd h
plain_leaf plain.Int (part.Number z) bytes h = refl
plain_leaf plain.Int p bytes h = absurd h
plain_leaf plain.Nat8 (part.Number z) bytes h = refl
plain_leaf plain.Nat8 p bytes h = absurd h
plain_leaf plain.Nat16 (part.Number z) bytes h = refl
plain_leaf plain.Nat16 p bytes h = absurd h
plain_leaf plain.Nat32 (part.Number z) bytes h = refl
plain_leaf plain.Nat32 p bytes h = absurd h
plain_leaf plain.Nat64 (part.Number z) bytes h = refl
plain_leaf plain.Nat64 p bytes h = absurd h
plain_leaf plain.Int8 (part.Number z) bytes h = refl
plain_leaf plain.Int8 p bytes h = absurd h
plain_leaf plain.Int16 (part.Number z) bytes h = refl
plain_leaf plain.Int16 p bytes h = absurd h
plain_leaf plain.Int32 (part.Number z) bytes h = refl
plain_leaf plain.Int32 p bytes h = absurd h
plain_leaf plain.Int64 (part.Number z) bytes h = refl
plain_leaf plain.Int64 p bytes h = absurd h
plain_leaf plain.Float32 p bytes h = absurd h
plain_leaf plain.Float64 p bytes h = absurd h
plain_leaf plain.Text (part.Text t) bytes h = refl
plain_leaf plain.Text p bytes h = absurd h
plain_leaf plain.Reserved part.Null bytes h = refl
plain_leaf plain.Reserved p bytes h = absurd h
plain_leaf plain.Empty p bytes h = absurd h
plain_leaf plain.Principal (part.Principal t) bytes h = refl
plain_leaf plain.Principal p bytes h = absurd h

length-copies : {B : Type 0} (n : ℕ) (t : B) → length (copies n t) ≡ n
length-copies zero t = refl
length-copies (suc n) t = ap suc (length-copies n t)

one_part_length : {B : Type 0} (es : List (Entry B)) (i : ℕ) → i < length es → length (one_part (slice_get es i)) ≡ 1
one_part_length [] i h = absurd (omega arith)
one_part_length (e ∷ es) zero h = refl
one_part_length (e ∷ es) (suc i) h = one_part_length es i (omega arith)

wire_arity : {B : Type 0} (Allowed : ℕ → B → Type 0) (w : Wire B) (p : Datum) (bytes : List ℕ) → IsWirePart padded Allowed w p bytes → arity p ≡ length (wire_inside w p)
wire_arity allowed (Simple q) p bytes h = plain_leaf q p bytes h
wire_arity allowed (Opt b) part.Null bytes h = refl
wire_arity allowed (Opt b) part.Present bytes h = refl
wire_arity allowed (Opt b) p bytes h = absurd h
wire_arity allowed (Vec b) (part.Many n) bytes h = sym (length-copies n b)
wire_arity allowed (Vec b) p bytes h = absurd h
wire_arity allowed (Record es) (part.Record n) bytes h = h.0 ∙ sym (length-map es (λ e. e.part))
wire_arity allowed (Record es) p bytes h = absurd h
wire_arity allowed (Variant es) (part.Tag i) bytes h = sym (one_part_length es i h.0)
wire_arity allowed (Variant es) p bytes h = absurd h
wire_arity allowed (Func ps rs ns) (part.Method q n) bytes h = refl
wire_arity allowed (Func ps rs ns) p bytes h = absurd h
wire_arity allowed (Service ms) (part.Actor q) bytes h = refl
wire_arity allowed (Service ms) p bytes h = absurd h

module _ {A : Type 0} (Allowed : ℕ → Ref A → Type 0) (head : A → Node A) where
  node_arity : (n : Node A) (p : Datum) (bytes : List ℕ) → IsPartOf n p → IsSpelledBy padded Allowed head n p bytes → arity p ≡ length (wire_inside (wire_of_node head n) p)
  node_arity node.Char (part.Char c) bytes h s = refl
  node_arity node.Char p bytes h s = absurd h
  node_arity node.Blob (part.Blob b) bytes h s = refl
  node_arity node.Blob p bytes h s = absurd h
  node_arity node.Any (part.Record m) bytes h s = h
  node_arity node.Any p bytes h s = absurd h
  node_arity n p bytes h s = wire_arity Allowed (wire_of_node head n) p bytes s

  pub ref_arity : (r : Ref A) (p : Datum) (bytes : List ℕ) → IsPartAt padded Allowed head r p bytes → arity p ≡ length (inside_ref head r p)
  ref_arity (Of t) p bytes h = node_arity (head t) p bytes h.0 h.1
  ref_arity (Just plain.Null) p bytes h = ap arity h.0
  ref_arity (Just q) p bytes h = absurd h
