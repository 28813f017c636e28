-- Two values of the same types with the same bytes are equal.
use Rattle.std.proofs.Common.{◌≡◌, ℕ, List, [], ◌∷◌, ◌++◌, refl, sym, ap, ◌∙◌, subst, append_assoc}
use Rattle.mo_types.specs.declared.datum.Datum.{Datum}
use Rattle.mo_types.specs.declared.node.Node.{Node}
use Rattle.mo_types.specs.declared.wire.Ref.{Ref}
use Rattle.mo_types.specs.Wire.{refs, wire}
use Rattle.mo_types.specs.Form.{form}
use Rattle.mo_types.specs.Values.{Values, Nil, Value, HaveTypes}
use Rattle.mo_types.specs.Spelling.{padded, Spell, FewEmpty}
use Rattle.mo_types.specs.Code.{Reads}
use Rattle.candid_header.specs.Header.{header, header_at}
use Rattle.candid_header.proofs.Whole.{header_exact}
use Rattle.candid_forms.specs.Forms.{inside_ref, Forms}
use Rattle.candid_forms.proofs.Whole.{forms_from}
use Rattle.candid_laws.proofs.Parts.{front_first, one_at}

-- three pieces, with what is behind them
three : (a b c x bytes rest : List ℕ) → bytes ≡ a ++ rest → rest ≡ b ++ c → bytes ++ x ≡ a ++ (b ++ (c ++ x))
three a b c x bytes rest e f = ap (λ (l : List ℕ). l ++ x) (e ∙ ap (λ (l : List ℕ). a ++ l) f) ∙ append_assoc a (b ++ c) x ∙ ap (λ (l : List ℕ). a ++ l) (append_assoc b c x)

pub same_value : (p q : Datum) (i j o u : Values) → p ≡ q → i ≡ j → o ≡ u → Value p i o ≡ Value q j u
same_value p q i j o u e f g = ap (λ (d : Datum). Value d i o) e ∙ ap (λ (v : Values). Value q v o) f ∙ ap (λ (v : Values). Value q j v) g

module _ {A : Type 0} (Allowed : ℕ → Ref A → Type 0) (head : A → Node A) where
  abbrev Formed : List (Ref A) → Values → List ℕ → Type 0
  Formed rs v bytes = Forms padded Allowed head rs v bytes

  pub forms_once : (rs : List (Ref A)) (v w : Values) (a b x y : List ℕ) → Formed rs v a → Formed rs w b → a ++ x ≡ b ++ y → (v ≡ w) × (x ≡ y)
  forms_once [] Nil Nil a b x y h k e = (refl, ap (λ (l : List ℕ). l ++ x) (sym h) ∙ e ∙ ap (λ (l : List ℕ). l ++ y) k)
  forms_once [] Nil (Value q j u) a b x y h k e = absurd k
  forms_once [] (Value p i o) w a b x y h k e = absurd h
  forms_once (r ∷ rs) Nil w a b x y h k e = absurd h
  forms_once (r ∷ rs) (Value p i o) Nil a b x y h k e = absurd k
  forms_once (r ∷ rs) (Value p i o) (Value q j u) a b x y h k e =
      let hs = h.second in
      let ks = k.second in
      let whole = sym (three h.front hs.front hs.back x a h.back h.whole hs.whole) ∙ e ∙ three k.front ks.front ks.back y b k.back k.whole ks.whole in
      let first = one_at Allowed head r p q h.front k.front (hs.front ++ (hs.back ++ x)) (ks.front ++ (ks.back ++ y)) h.first k.first whole in
      let inner = subst (λ (d : Datum). Formed (inside_ref head r d) i hs.front) first.0 hs.first in
      let second = forms_once (inside_ref head r q) i j hs.front ks.front (hs.back ++ x) (ks.back ++ y) inner ks.first first.1 in
      let third = forms_once rs o u hs.back ks.back x y hs.second ks.second second.1 in
      (same_value p q i j o u first.0 second.0 third.0, third.1)

  -- typed values whose Candid values have the same bytes
  pub spelled_once : (ts : List A) (v w : Values) (bytes : List ℕ) → HaveTypes head ts v → HaveTypes head ts w → Spell padded Allowed (wire head) (refs ts) (form head ts v) bytes → Spell padded Allowed (wire head) (refs ts) (form head ts w) bytes → v ≡ w
  spelled_once ts v w bytes t u h k = (forms_once (refs ts) v w bytes bytes [] [] (forms_from padded Allowed head ts v bytes t h) (forms_from padded Allowed head ts w bytes u k) refl).0

-- one value to the bytes, and one end of the message
pub reads_once : {A : Type 0} (head : A → Node A) (ts : List A) (a b x y : List ℕ) (v w : Values) → Reads head ts a v → Reads head ts b w → a ++ x ≡ b ++ y → (v ≡ w) × (x ≡ y)
reads_once head ts a b x y v w h k g =
    let hs = h.spelled in
    let ks = k.spelled in
    let Few = FewEmpty (wire head) in
    let whole : hs.front ++ (hs.back ++ x) ≡ ks.front ++ (ks.back ++ y) = sym (append_assoc hs.front hs.back x) ∙ ap (λ (l : List ℕ). l ++ x) (sym hs.whole) ∙ g ∙ ap (λ (l : List ℕ). l ++ y) ks.whole ∙ append_assoc ks.front ks.back y in
    let e = ap header_at (sym whole) ∙ header_exact.complete (header h.table h.args) hs.front (hs.back ++ x) (record { few = h.few; well_formed = h.well_formed; spelled = hs.first }) in
    let f = header_exact.complete (header k.table k.args) ks.front (ks.back ++ y) (record { few = k.few; well_formed = k.well_formed; spelled = ks.first }) in
    let back : hs.back ++ x ≡ ks.back ++ y = (front_first (header h.table h.args) (header k.table k.args) (hs.back ++ x) (ks.back ++ y) (header_at (ks.front ++ (ks.back ++ y))) e f).1 in
    forms_once Few head (refs ts) v w hs.back ks.back x y (forms_from padded Few head ts v hs.back h.typed hs.second) (forms_from padded Few head ts w ks.back k.typed ks.second) back
