-- What a value is kept as.
use Rattle.std.proofs.Common.{◌≡◌, List, [], ◌∷◌, Bool, true, false, Option, Some, None, Decides, sym, ap, ◌∙◌, subst}
use Rattle.mo_types.specs.declared.datum.Datum.{Datum}
use Rattle.mo_types.specs.declared.node.Node.{Node}
use Rattle.mo_types.specs.declared.node.TypeId.{TypeId}
use Rattle.mo_types.specs.declared.wire.Ref.TheVariants.{Of}
use Rattle.mo_types.specs.Form.{form}
use Rattle.mo_types.specs.Values.{HaveTypes, Values, flat, tree}
use Rattle.mo_types.specs.Wire.{wire, SameWire}
use Rattle.mo_types.proofs.Candid.{flat_tree}
use Rattle.kept_forms.specs.Parts.{formed, unformed, waiting, Next}
use Rattle.kept_forms.proofs.Formed.{forms}
use Rattle.kept_forms.proofs.Trees.{tree_flat, tree_form}
use Rattle.kept_forms.proofs.Unformed.{unforms}
use Rattle.kept_parts.specs.Keeping.{HasForm, IsKeptAs, IsValueOf}

module _ (head : TypeId → Node TypeId) (t : TypeId) where
  abbrev here : Values → Values
  here v = form head (t ∷ []) v

  pub formed_so : (v : Values) (parts made : List Datum) → HaveTypes head (t ∷ []) v → parts ≡ flat v → made ≡ formed head (waiting (t ∷ [])) parts → made ≡ flat (here v)
  formed_so v parts made typed are is = is ∙ ap (λ (l : List Datum). formed head (waiting (t ∷ [])) l) are ∙ forms head (t ∷ []) v typed

  -- ---- whether parts are those of a value with this Candid value

  pub not_typed : (parts candid : List Datum) → (HaveTypes head (t ∷ []) (tree parts) → ⊥) → Decides false (HasForm head t parts candid)
  not_typed parts candid none = (λ e. absurd (let g : false ≡ true = e in cc), λ h. absurd (none h.0))

  pub typed_form : (parts candid made : List Datum) (b : Bool) → HaveTypes head (t ∷ []) (tree parts) → made ≡ formed head (waiting (t ∷ [])) parts → Decides b (made ≡ candid) → Decides b (HasForm head t parts candid)
  typed_form parts candid made b typed is d =
      let so : made ≡ flat (here (tree parts)) = formed_so (tree parts) parts made typed (sym (flat_tree parts)) is in
      (λ e. (typed, sym so ∙ d.0 e), λ h. d.1 (so ∙ h.1))

  -- ---- the value with this Candid value

  pub value_none : (parts candid : List Datum) → parts ≡ unformed head Next (waiting (t ∷ [])) candid → (HasForm head t parts candid → ⊥) → IsValueOf head t candid None
  value_none parts candid is not = λ w typed same.
      let flats : parts ≡ flat w = is ∙ ap (λ (l : List Datum). unformed head Next (waiting (t ∷ [])) l) (sym same) ∙ unforms head (t ∷ []) w typed in
      let trees : tree parts ≡ w = ap tree flats ∙ tree_flat head (t ∷ []) w typed in
      let Typed : Values → Type 0 = λ v. HaveTypes head (t ∷ []) v in
      not (subst Typed (sym trees) typed, ap (λ (v : Values). flat (here v)) trees ∙ same)

module _ (head next : TypeId → Node TypeId) (t u : TypeId) (v : Values) where
  pub kept_so : (parts candid : List Datum) (o : Option (List Datum)) → SameWire (wire head) (wire next) (Of t) (Of u) → HaveTypes head (t ∷ []) v → parts ≡ flat v → candid ≡ formed head (waiting (t ∷ [])) parts → IsValueOf next u candid o
      → IsKeptAs head next t u v o
  kept_so parts candid None same typed are is h = λ w keep. h w keep.new (ap flat keep.same ∙ sym (formed_so head t v parts candid typed are is))
  kept_so parts candid (Some ps) same typed are is h = record {
    types = same;
    old = typed;
    new = h.0;
    same =
        sym (tree_form next (u ∷ []) (tree ps) h.0)
        ∙ ap tree (h.1 ∙ formed_so head t v parts candid typed are is)
        ∙ tree_form head (t ∷ []) v typed;
  }
