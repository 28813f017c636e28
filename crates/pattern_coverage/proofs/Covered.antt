-- Coverage is exact.
use Rattle.std.proofs.Common.{◌≡◌, List, [], ◌∷◌, length, Bool, true, false, refl, sym, ◌∙◌, subst}
use Rattle.std.specs.Prelude.{cond}
use Rattle.mo_types.specs.declared.node.Node.{Node}
use Rattle.mo_types.specs.declared.node.TypeId.{TypeId}
use Rattle.mo_types.specs.Graph.{Slot}
use Rattle.mo_types.specs.Sub.{Each}
use Rattle.mo_values.specs.Shapes.{Shape}
use Rattle.subtype_laws.specs.Bounds.{SameBound}
use Rattle.subtype_laws.specs.Labels.{OwnLabels}
use Rattle.typed_tree.specs.Patterns.{Pat}
use Rattle.typed_tree.specs.Types.{AreLawful}
use Rattle.pattern_coverage.specs.Cover.{Whole, SomeMatches, IsExact, Tells, first_missed, missed, coverage}
use Rattle.pattern_coverage.specs.Followed.{end_of, value_head}
use Rattle.pattern_coverage.specs.Inhabited.{HasValues, IsValue}
use Rattle.pattern_coverage.specs.Known.{Known, Unknown}
use Rattle.pattern_coverage.specs.Suited.{IsOn}
use Rattle.pattern_coverage.proofs.Cuts.{IsMissed, missed_match_none, Among, none_is_missed}
use Rattle.pattern_coverage.proofs.Having.{type_has}
use Rattle.typed_tree.proofs.OwnLabels.{labels_own}
use Rattle.pattern_coverage.proofs.Lawful.{labels_differ, equal_self, contents_below, contents_have, content}
use Rattle.pattern_coverage.proofs.Pieces.{Val}
use Rattle.pattern_coverage.proofs.Seen.{no}
use Rattle.pattern_coverage.proofs.Witness.{witness}

module _ {F : Type 0} (sample : F) (types : List Slot) (has : TypeId → Bool) (t : TypeId) (ps : List Pat) (lawful : AreLawful types) (tells : Tells (value_head types) has) (on : Each (λ p. IsOn (value_head types) p t) ps) where
  abbrev head : TypeId → Node TypeId
  head = value_head types

  bounds : SameBound head
  bounds t u b c v e f = lawful.bounds (end_of types t) (end_of types u) b c v e f

  own : (t : TypeId) → OwnLabels (head t)
  own t = labels_own types lawful (end_of types t)

  pub having : (kinds : List TypeId) → Each (HasValues head) kinds → (t : TypeId) (v : Shape F) → Val head has kinds t v → HasValues head t
  having kinds contents t v a = type_has head bounds own kinds contents t v a

  abbrev store : List TypeId
  store = contents_below has (length types)

  none_missed : HasValues head t → missed head has ps t Unknown ≡ [] → (v : Shape F) → IsValue head t v → SomeMatches ps v
  none_missed h e v (kinds, contents, a) u =
      subst (λ ks. Among F head has tells kinds (having kinds contents) ks v) e (none_is_missed F head has tells kinds (having kinds contents) ps t Unknown on h v a tt u)

  first_is_missed : HasValues head t → (k : Known) (ks : List Known) → missed head has ps t Unknown ≡ k ∷ ks → (kinds : List TypeId) (contents : Each (HasValues head) kinds) → IsMissed F head has tells kinds (having kinds contents) ps t Unknown k
  first_is_missed h k ks e kinds contents =
      (subst (λ ks. Each (IsMissed F head has tells kinds (having kinds contents) ps t Unknown) ks) e (missed_match_none F head has tells kinds (having kinds contents) ps t Unknown on h)).0

  by_missed : HasValues head t → (ks : List Known) → missed head has ps t Unknown ≡ ks → IsExact head F t ps (first_missed ks)
  by_missed h [] e = none_missed h e
  by_missed h (k ∷ ks) e =
      let m : IsMissed F head has tells store (having store (contents_have types has tells (length types))) ps t Unknown k = first_is_missed h k ks e store (contents_have types has tells (length types)) in
      let w = witness sample head has tells own (labels_differ types lawful) store (content types has tells) (equal_self types lawful) k t m.feasible in (
        (w.0, (store, contents_have types has tells (length types), w.1), w.2),
        λ v i d. ((first_is_missed h k ks e i.0 i.1).none v i.2 d).1,
      )

  pub exact : IsExact head F t ps (coverage head has ps t)
  exact = by (has t) refl
    where
      by : (b : Bool) → has t ≡ b → IsExact head F t ps (cond b (first_missed (missed head has ps t Unknown)) Whole)
      by true e = by_missed ((tells t).0 e) (missed head has ps t Unknown) refl
      by false e = λ v i u. no (sym e ∙ (tells t).1 (having i.0 i.1 t v i.2))
