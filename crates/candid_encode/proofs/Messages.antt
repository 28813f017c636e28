-- What a whole message is.
use Rattle.std.proofs.Common.{◌≡◌, ℕ, List, [], ◌++◌, map, sym, ap, ◌∙◌, subst}
use Rattle.mo_types.specs.declared.datum.Datum.{Datum}
use Rattle.mo_types.specs.declared.node.TypeId.{TypeId}
use Rattle.mo_types.specs.declared.wire.Wire.{Wire}
use Rattle.mo_types.specs.Code.{Code}
use Rattle.mo_types.specs.Graph.{Slot, head_at}
use Rattle.mo_types.specs.Header.{IsCanonical}
use Rattle.mo_types.specs.Spelling.{shortest, AnyCount}
use Rattle.mo_types.specs.Values.{HaveTypes, tree}
use Rattle.mo_types.specs.Wire.{refs}
use Rattle.candid_types.specs.Shapes.{ref_of, shape_at, IsTableOf}
use Rattle.candid_forms.proofs.Whole.{forms_to}
use Rattle.mo_types.proofs.Candid.{flat_tree}
use Rattle.candid_write.specs.Appends.{Appends}
use Rattle.candid_write.proofs.Whole.{canonical}
use Rattle.candid_encode.specs.Flat.{Holds, Writes}
use Rattle.candid_encode.proofs.Flats.{have_holds, writes_forms}

module _ (slots : List Slot) (ids : List TypeId) (values : List Datum) where
  pub written : (shapes : List (Wire ℕ)) (args heads parts : List ℕ) (old mid new : List ℕ) → IsTableOf slots shapes → map ref_of args ≡ refs ids → heads ≡ args → parts ≡ args → old ≡ []
      → Appends (IsCanonical (shape_at shapes) shortest heads) old mid → Appends (Writes (head_at slots) (map ref_of parts) values) mid new
      → HaveTypes (head_at slots) ids (tree values) × Code (head_at slots) ids (tree values) new
  written shapes args heads parts old mid new table e f g o a b =
      let w = subst (λ rs. Writes (head_at slots) rs values b.bytes) (ap (map ref_of) g ∙ e) b.fits in
      let v = forms_to shortest AnyCount (head_at slots) (λ n. tt) ids (tree values) b.bytes (writes_forms (head_at slots) (refs ids) values b.bytes w) in (
        v.0,
        record {
          front = a.bytes;
          back = b.bytes;
          whole = b.whole ∙ ap (λ (l : List ℕ). l ++ b.bytes) (a.whole ∙ ap (λ (l : List ℕ). l ++ a.bytes) o);
          first = canonical slots shapes ids args a.bytes table e (subst (λ l. IsCanonical (shape_at shapes) shortest l a.bytes) f a.fits);
          second = v.1;
        },
      )

  -- values of the types have parts of the types
  pub typed_parts : (args parts : List ℕ) → map ref_of args ≡ refs ids → parts ≡ args → HaveTypes (head_at slots) ids (tree values) → Holds (head_at slots) (map ref_of parts) values
  typed_parts args parts e g h =
      subst (λ rs. Holds (head_at slots) rs values) (sym (ap (map ref_of) g ∙ e)) (subst (λ ps. Holds (head_at slots) (refs ids) ps) (flat_tree values) (have_holds (head_at slots) ids (tree values) h))
