-- Sound types with one header are equal.
use Rattle.std.proofs.Common.{◌≡◌, ℕ, List, [], ◌∷◌, ◌++◌, ap, subst}
use Rattle.mo_types.specs.declared.node.Node.{Node}
use Rattle.mo_types.specs.declared.wire.Wire.{Wire}
use Rattle.mo_types.specs.declared.wire.Ref.TheVariants.{Of}
use Rattle.mo_types.specs.declared.wire.TableRef.{TableRef}
use Rattle.mo_types.specs.Wire.{refs, wire, SameParts, SameWire}
use Rattle.mo_types.specs.Spelling.{shortest}
use Rattle.mo_types.specs.Header.{table_head, IsCanonical}
use Rattle.mo_types.specs.Code.{SameEach}
use Rattle.candid_header.specs.declared.header.Header.{Header}
use Rattle.candid_header.specs.Header.{header, header_at}
use Rattle.candid_header.proofs.Whole.{header_exact}
use Rattle.candid_laws.specs.Sound.{AreSound}
use Rattle.candid_laws.proofs.Same.{same_sym, same_trans}
use Rattle.candid_laws.proofs.Parts.{front_first}
use Rattle.candid_laws.proofs.Back.{Told, header_told}

module _ {A B : Type 0} (h : A → Node A) (k : B → Node B) where
  each_equal : (table : List (Wire TableRef)) (args : List TableRef) (ts : List A) (us : List B) → SameEach h table args ts → SameEach k table args us → SameParts (SameWire (wire h) (wire k)) (refs ts) (refs us)
  each_equal table [] [] [] s t = tt
  each_equal table (r ∷ rs) (t ∷ ts) (u ∷ us) x y =
      (same_trans (wire h) (table_head table) (wire k) (Of t) r (Of u) (same_sym (table_head table) (wire h) r (Of t) x.0) y.0, each_equal table rs ts us x.1 y.1)
  each_equal table [] [] (u ∷ us) x y = absurd y
  each_equal table [] (t ∷ ts) us x y = absurd x
  each_equal table (r ∷ rs) [] us x y = absurd x
  each_equal table (r ∷ rs) (t ∷ ts) [] x y = absurd y

  pub told_equal : (ts : List A) (us : List B) (bytes : List ℕ) → Told h ts bytes → Told k us bytes → SameParts (SameWire (wire h) (wire k)) (refs ts) (refs us)
  told_equal ts us bytes x y =
      let e = header_exact.complete (header x.table x.args) bytes [] (record { few = x.few; well_formed = x.well_formed; spelled = x.header }) in
      let f = header_exact.complete (header y.table y.args) bytes [] (record { few = y.few; well_formed = y.well_formed; spelled = y.header }) in
      let same = (front_first (header x.table x.args) (header y.table y.args) [] [] (header_at (bytes ++ [])) e f).0 in
      let table : x.table ≡ y.table = ap (λ (z : Header). z.table) same in
      let args : x.args ≡ y.args = ap (λ (z : Header). z.arguments) same in
      each_equal y.table y.args ts us (subst (λ (l : List TableRef). SameEach h y.table l ts) args (subst (λ (l : List (Wire TableRef)). SameEach h l x.args ts) table x.same)) y.same

  pub equal_types : (ts : List A) (us : List B) (bytes : List ℕ) → AreSound h ts → AreSound k us → IsCanonical (wire h) shortest (refs ts) bytes → IsCanonical (wire k) shortest (refs us) bytes → SameParts (SameWire (wire h) (wire k)) (refs ts) (refs us)
  equal_types ts us bytes x y c d = told_equal ts us bytes (header_told h ts bytes x c) (header_told k us bytes y d)
