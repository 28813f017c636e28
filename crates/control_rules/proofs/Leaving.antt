-- Jumps by the labels and the result that are known where they stand.
use Rattle.std.proofs.Common.{◌≡◌, ◌∙◌, ℕ, Bool, true, false, cond, List, [], ◌∷◌, Err, Option, Some, None, option_map, map, ap, subst, sym}
use Rattle.std.proofs.lemmas.Map.Made.{lookup-map_values}
use Rattle.std.specs.Prelude.{Result}
use Rattle.std.specs.Str.{bytes_eq}
use Rattle.mo_scopes.specs.Scopes.{named}
use Rattle.mo_types.specs.Sub.{Each}
use Rattle.type_terms.specs.declared.form.Form.{Form}
use Rattle.type_terms.specs.declared.form.TermId.{TermId}
use Rattle.typing_rules.specs.declared.condition.Condition.TheVariants as condition
use Rattle.typing_rules.specs.Terms.{Term}
use Rattle.typing_rules.specs.Judgements.{Judgement, Given as IsGiven}
use Rattle.typing_rules.specs.Contexts.{Label}
use Rattle.typing_rules.specs.TypedTrees.{Typed}
use Rattle.type_definitions.specs.Meanings.{term}
use Rattle.met_types.specs.States.{State, IsReached}
use Rattle.type_judgements.specs.declared.refusal.Refusal.{Refusal}
use Rattle.type_judgements.specs.declared.refusal.Refusal.TheVariants as refusal
use Rattle.value_scopes.specs.declared.scopes.Label as value_label
use Rattle.value_scopes.specs.declared.scopes.Scopes.{Scopes}
use Rattle.value_scopes.specs.Places.{label_in}
use Rattle.judging.specs.declared.checker.Checker.{Checker}
use Rattle.judging.specs.declared.site.Site.{Site}
use Rattle.judging.specs.Views.{View, context, typed_in, kind_reached}
use Rattle.judging.proofs.Cases.{given_none, given_some}
use Rattle.judging.proofs.TypedParts.{Given, Comes}

abbrev Labels : Type 0
Labels = List (List ℕ × value_label.Label)

-- the type of a label was met
pub label_reached : (s : State) (qs : Labels) (x : List ℕ) (o : Option value_label.Label) (l : value_label.Label) → o ≡ named qs x → o ≡ Some l → Each (λ q. IsReached s q.1.kind) qs → IsReached s l.kind
label_reached s qs x o l e g h = found qs (sym g ∙ e) h where
  found : (qs : Labels) → Some l ≡ named qs x → Each (λ q. IsReached s q.1.kind) qs → IsReached s l.kind
  found [] e h = cc
  found (q ∷ qs) e h = by (bytes_eq x q.0) e (λ k. found qs k h.1) where
    by : (here : Bool) → Some l ≡ cond here (Some q.1) (named qs x) → (Some l ≡ named qs x → IsReached s l.kind) → IsReached s l.kind
    by true k f = let i : l ≡ q.1 = cc in subst (λ (a : value_label.Label). IsReached s a.kind) (sym i) h.0
    by false k f = f k

module _ (x : Site) (name : List ℕ) (j : View → Label → Judgement Typed) (c : Scopes) (k : Checker) (o : Option value_label.Label) (e : o ≡ named c.labels name) where
  abbrev by_label : View → Judgement Typed
  by_label v = IsGiven condition.BadLabel x.at (named (context v x.place).labels name) (j v)

  seen : (later : List Form) (p : Option value_label.Label) → o ≡ p → named (map (λ (q : List ℕ × value_label.Label). (q.0, label_in later q.1)) c.labels) name ≡ option_map (label_in later) p
  seen later p g = lookup-map_values (label_in later) (bytes_eq name) c.labels ∙ ap (option_map (label_in later)) (sym e ∙ g)

  pub label_given : (l : value_label.Label) (d : Scopes) (m : Checker) (r : Result Given Refusal) → o ≡ Some l → Comes (λ v. j v (label_in v.later l)) c k d m r → Comes by_label c k d m r
  label_given l d m r g h = given_some typed_in kind_reached (λ v. named (context v x.place).labels name) c d k m r condition.BadLabel x.at j (λ later. label_in later l) (λ later w. seen later (Some l) g) h

  pub no_label : o ≡ None → Comes by_label c k c k (Err (refusal.False x.at condition.BadLabel))
  no_label g = given_none typed_in kind_reached condition.BadLabel x.at (λ v. named (context v x.place).labels name) c k j (λ later w. seen later None g)

module _ (x : Site) (j : View → Term → Judgement Typed) (c : Scopes) (k : Checker) where
  abbrev by_result : View → Judgement Typed
  by_result v = IsGiven condition.BadLabel x.at (context v x.place).returns (j v)

  pub result_given : (u : TermId) (d : Scopes) (m : Checker) (r : Result Given Refusal) → x.place.returns ≡ Some u → Comes (λ v. j v (term v.later u)) c k d m r → Comes by_result c k d m r
  result_given u d m r g h = given_some typed_in kind_reached (λ v. (context v x.place).returns) c d k m r condition.BadLabel x.at j (λ later. term later u) (λ later w. ap (option_map (term later)) g) h

  pub no_result : x.place.returns ≡ None → Comes by_result c k c k (Err (refusal.False x.at condition.BadLabel))
  no_result g = given_none typed_in kind_reached condition.BadLabel x.at (λ v. (context v x.place).returns) c k j (λ later w. ap (option_map (term later)) g)
