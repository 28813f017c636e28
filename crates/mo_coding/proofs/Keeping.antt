-- Stable values are kept as the definition says.
use Rattle.std.proofs.Common.{◌≡◌, Bool, true, false, ◌&&◌, [], ◌∷◌, Some, None, refl, sym, ap, ◌∙◌, subst}
use Rattle.mo_types.specs.declared.node.TypeId.{TypeId}
use Rattle.mo_types.specs.declared.wire.Ref.TheVariants.{Of}
use Rattle.mo_types.specs.Code.{Keep}
use Rattle.mo_types.specs.Form.{form}
use Rattle.mo_types.specs.Graph.{head_at}
use Rattle.mo_types.specs.Values.{Values, HaveTypes}
use Rattle.mo_values.specs.Equality.{same_values}
use Rattle.mo_meaning.specs.Coding.{Types}
use Rattle.mo_coding.specs.Equality.{same}
use Rattle.mo_coding.specs.Heads.{of_graph}
use Rattle.mo_coding.specs.Keeping.{have_types, unform, if_formed, formed_again, keep}
use Rattle.mo_coding.proofs.Equality.{same_from, same_to}
use Rattle.mo_coding.proofs.Truths.{both_true, true_both}
use Rattle.mo_coding.proofs.Forms.{form_back}
use Rattle.mo_coding.proofs.Heads.{graph_finite}
use Rattle.mo_coding.proofs.Same.{values_decide}
use Rattle.mo_coding.proofs.Typed.{types_decide}

module _ (old new : Types) (t u : TypeId) (v w : Values) where
  abbrev candid : Values
  candid = form (head_at old) (t ∷ []) v

  abbrev was : Bool
  was = same (of_graph old) (of_graph new) (Of t) (Of u) && have_types (head_at old) (t ∷ []) v

  abbrev test : Values → Bool
  test x = have_types (head_at new) (u ∷ []) x && same_values (form (head_at new) (u ∷ []) x) candid

  formed : (x : Values) (b : Bool) → test x ≡ b → elim b [ true ↦ Some x | false ↦ None ] ≡ Some w → HaveTypes (head_at new) (u ∷ []) w × (form (head_at new) (u ∷ []) w ≡ candid)
  formed x false e h = cc
  formed x true e h =
      let k : x ≡ w = cc in
      let b = both_true (have_types (head_at new) (u ∷ []) x) (same_values (form (head_at new) (u ∷ []) x) candid) e in
      (subst (λ z. HaveTypes (head_at new) (u ∷ []) z) k ((types_decide (head_at new) x (u ∷ [])).0 b.0), subst (λ z. form (head_at new) (u ∷ []) z ≡ candid) k ((values_decide (form (head_at new) (u ∷ []) x) candid).0 b.1))

  pub keeps : keep old new t u v ≡ Some w → Keep (head_at old) (head_at new) t u v w
  keeps e = by was refl e where
    by : (b : Bool) → was ≡ b → elim b [ true ↦ formed_again new u candid | false ↦ None ] ≡ Some w → Keep (head_at old) (head_at new) t u v w
    by false g h = cc
    by true g h =
        let b = both_true (same (of_graph old) (of_graph new) (Of t) (Of u)) (have_types (head_at old) (t ∷ []) v) g in
        let x = unform (head_at new) (u ∷ []) candid in
        let f = formed x (test x) refl h in
        record {
          types = same_to (of_graph old) (of_graph new) (graph_finite old) (graph_finite new) (Of t) (Of u) b.0;
          old = (types_decide (head_at old) v (t ∷ [])).0 b.1;
          new = f.0;
          same = f.1;
        }

  pub kept : Keep (head_at old) (head_at new) t u v w → keep old new t u v ≡ Some w
  kept h =
      let b : was ≡ true = true_both (same (of_graph old) (of_graph new) (Of t) (Of u)) (have_types (head_at old) (t ∷ []) v) (same_from (of_graph old) (of_graph new) (graph_finite old) (graph_finite new) (Of t) (Of u) h.types) ((types_decide (head_at old) v (t ∷ [])).1 h.old) in
      let x : unform (head_at new) (u ∷ []) candid ≡ w = ap (unform (head_at new) (u ∷ [])) (sym h.same) ∙ form_back (head_at new) w (u ∷ []) h.new in
      let c : test w ≡ true = true_both (have_types (head_at new) (u ∷ []) w) (same_values (form (head_at new) (u ∷ []) w) candid) ((types_decide (head_at new) w (u ∷ [])).1 h.new) ((values_decide (form (head_at new) (u ∷ []) w) candid).1 h.same) in
      ap (λ (z : Bool). elim z [ true ↦ formed_again new u candid | false ↦ None ]) b ∙ ap (if_formed new u candid) x ∙ ap (λ (z : Bool). elim z [ true ↦ Some w | false ↦ None ]) c
