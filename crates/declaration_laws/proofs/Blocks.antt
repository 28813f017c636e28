-- Blocks and objects with declarations, as expressions.
use Rattle.std.proofs.Common.{◌≡◌, ℕ, true, List, Option, Some, None, refl, sym, subst}
use Rattle.typing_rules.specs.AbstractSyntax.{Bytes, Declarations}
use Rattle.typing_rules.specs.AbstractSyntax as p
use Rattle.typing_rules.specs.AsyncPlaces.{Other}
use Rattle.typing_rules.specs.Contexts.{directly}
use Rattle.typing_rules.specs.Expressions.{Rule}
use Rattle.typing_rules.specs.PublicFields.{PublicFields}
use Rattle.typing_rules.specs.Terms.{Term}
use Rattle.typing_rules.specs.Terms as t
use Rattle.desugaring.specs.Expressions.{pieces, block_of}
use Rattle.desugaring.specs.FreeNames.{names_of_list, in_declarations, without}
use Rattle.desugaring.specs.Pieces.{arranged}
use Rattle.desugaring_laws.specs.Yields.{Yields}
use Rattle.desugaring_laws.proofs.Yielding.{part as after}
use Rattle.expression_laws.specs.Fitting.{Fits}
use Rattle.expression_laws.specs.Results.{IsBelowWanted, GivesValue}
use Rattle.expression_laws.proofs.BoundNames.{both}
use Rattle.expression_laws.proofs.Ending.{Setting, Place, Known, WantKnown, Is, stands_so, has}
use Rattle.function_laws.proofs.Forms.{by_rule}
use Rattle.scope_laws.specs.Gathers.{ArePlainFields}
use Rattle.scope_laws.proofs.Plain.{public_fields_are_plain}
use Rattle.declaration_laws.specs.Objects.{FieldsJudged, written_fields, BecomeObject, AreFieldsTyped, BlockJudged, AreBlocksTyped, BlocksAreTyped, ObjectsAreTyped}
use Rattle.declaration_laws.proofs.Objects.{object_head, object_known}

module _ (S : Setting) (A : Place S) where
  known_of : (w : Option Term) → WantKnown S A w → (u : Term) → w ≡ Some u → Known S A u
  known_of None k u e = cc
  known_of (Some v) k u e = let f : v ≡ u = cc in subst (λ z. Known S A z) f k

  -- it uses these names
  fits_for : (xs : List Bytes) → A.used ≡ xs → Fits S.defs S.slots S.terms S.number S.scope xs (directly Other A.known) A.frame A.context
  fits_for xs e = subst (λ ys. Fits S.defs S.slots S.terms S.number S.scope ys (directly Other A.known) A.frame A.context) e A.fits

  block_typed : (n : ℕ) (ds : Declarations ℕ) → AreBlocksTyped S.defs S.slots S.terms S.number S.scope ds → A.used ≡ without (names_of_list ds) (in_declarations ds) → (w : Option Term) → WantKnown S A w
      → Yields S.defs S.terms (Rule S.defs A.around (directly Other A.known) n (p.Block ds) w) (Is S A w)
  block_typed n ds j e w k =
      after S.defs S.terms (BlockJudged S.defs (directly Other A.known) n ds w) _
      (λ q. IsBelowWanted S.defs S.slots S.terms S.number w q.0 × GivesValue S.defs S.slots S.terms S.number A.context q.0 (block_of S.defs S.number q.0 (arranged true (pieces S.defs S.number q.1) A.frame))) (Is S A w)
      (j A.known A.frame A.context n (fits_for (without (names_of_list ds) (in_declarations ds)) e) w (known_of w k)) (λ q i. record { below = i.0; gives = stands_so S A n q.0 (p.Block q.1) (λ l. refl) i.1 })

  object_typed : (n : ℕ) (fields : Declarations ℕ) → AreFieldsTyped S.defs S.slots S.terms S.number S.scope fields → A.used ≡ without (names_of_list fields) (in_declarations fields) → (w : Option Term) → WantKnown S A w
      → Yields S.defs S.terms (Rule S.defs A.around (directly Other A.known) n (p.ObjectBlock fields) w) (Is S A w)
  object_typed n fields j e w k =
      after S.defs S.terms (PublicFields fields) _
      (λ z. Yields S.defs S.terms (FieldsJudged S.defs (directly Other A.known) n fields) (λ q. BecomeObject S.defs S.slots S.terms S.number A.frame A.context (written_fields S.scope fields) q.1) × ArePlainFields fields) (Is S A w)
      (both S.defs S.terms (PublicFields fields)
      (λ z. Yields S.defs S.terms (FieldsJudged S.defs (directly Other A.known) n fields) (λ q. BecomeObject S.defs S.slots S.terms S.number A.frame A.context (written_fields S.scope fields) q.1)) (λ z. ArePlainFields fields)
      (j A.known A.frame A.context n (fits_for (without (names_of_list fields) (in_declarations fields)) e)) (public_fields_are_plain S.defs S.terms fields)) (λ z y.
      after S.defs S.terms (FieldsJudged S.defs (directly Other A.known) n fields) _ (λ q. BecomeObject S.defs S.slots S.terms S.number A.frame A.context (written_fields S.scope fields) q.1) (Is S A w) y.0 (λ q i.
      has S A n w (t.Object (written_fields A.known.types fields)) (p.ObjectBlock q.1) (λ l. refl) k (λ m.
      subst (λ s. BecomeObject S.defs S.slots S.terms S.number A.frame A.context (written_fields s fields) q.1) (sym A.fits.scope_is) i (t.Object (written_fields A.known.types fields))
      (object_known S.defs S.terms A.context.parameters A.known.types A.fits.types A.fits.bounds fields y.1 m) (object_head S.defs (written_fields A.known.types fields)))))

pub blocks_are_typed : BlocksAreTyped
blocks_are_typed defs slots terms number graph units scope n ds j = by_rule setting n (p.Block ds) (λ A e w k. block_typed setting A n ds j e w k) where
  setting : Setting
  setting = record { defs = defs; slots = slots; terms = terms; number = number; graph = graph; units = units; scope = scope }

pub objects_are_typed : ObjectsAreTyped
objects_are_typed defs slots terms number graph units scope n fields j = by_rule setting n (p.ObjectBlock fields) (λ A e w k. object_typed setting A n fields j e w k) where
  setting : Setting
  setting = record { defs = defs; slots = slots; terms = terms; number = number; graph = graph; units = units; scope = scope }
