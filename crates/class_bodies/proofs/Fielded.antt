-- The fields of a class: neither labels nor a result are seen in them, and the public ones are such as may be.
use Rattle.std.proofs.Common.{◌≡◌, ℕ, false, List, [], Ok, Err, refl, sym, ap, subst}
use Rattle.std.specs.Prelude.{Result}
use Rattle.typing_rules.specs.AbstractSyntax.{Bytes, Declarations}
use Rattle.typing_rules.specs.Judgements.{Judgement}
use Rattle.typing_rules.specs.PublicFields.{PublicFields}
use Rattle.typing_rules.specs.Terms.{Term}
use Rattle.typing_rules.specs.TypedTrees.{Note}
use Rattle.type_definitions.proofs.Meanings.{each_map}
use Rattle.met_types.specs.States.{IsReached}
use Rattle.type_judgements.specs.declared.refusal.Refusal.{Refusal}
use Rattle.abstract_tree.specs.declared.declarations.Declaration as value
use Rattle.value_scopes.specs.declared.scopes.Label.{Label}
use Rattle.value_scopes.specs.declared.scopes.Scopes.{Scopes}
use Rattle.annotated_names.specs.Verdicts.{IsVerdict}
use Rattle.judging.specs.declared.checker.Checker.{Checker}
use Rattle.judging.specs.declared.site.Site.{Site}
use Rattle.judging.specs.Parts.{Ready, Sound}
use Rattle.judging.specs.Views.{View, no_more, nothing}
use Rattle.judging.specs.Answers.{Answers}
use Rattle.judging.proofs.Chains.{goes_on, stops}
use Rattle.judging.proofs.Steps.{reached_on}
use Rattle.scope_judging.proofs.Under.{given_elsewhere, refused_elsewhere}
use Rattle.list_judging.specs.declared.part.MadeList.{MadeList}
use Rattle.list_judging.specs.Lists.{judge_list, list_in, list_reached, seen_list}
use Rattle.block_rules.proofs.ObjectParts.{verdict_answers}
use Rattle.function_bodies.proofs.First.{Handed}
use Rattle.class_bodies.specs.Classes.{class_fields, class_list, class_site}

abbrev Labels : Type 0
Labels = List (Bytes × Label)

abbrev labelled : Scopes → Labels → Scopes
labelled c ls = record c { labels = ls }

-- ---- the list

module _ (at : ℕ) (xs : List (value.Declaration ℕ)) (c : Scopes) (k : Checker) (none : Labels) (e : none ≡ []) where
  pub ready_class : (x : Site) → x ≡ class_site at → Sound k c → Ready k (labelled c none) x
  ready_class x f s =
      subst (λ (z : Site). Ready k (labelled c none) z) (sym f)
      (subst (λ (ls : Labels). Ready k (labelled c ls) (class_site at)) (sym e) (record { sound = record { known = s.known; values = s.values; labels = tt }; returns = tt; wanting = record { kept = s.known.kept; wanted = tt } }))

  abbrev at_site : View → Judgement (Term × Declarations Note)
  at_site = judge_list (class_site at) false xs

  from_unlabelled : (x : Site) (d : Scopes) (l : Checker) (r : Result MadeList Refusal) → x ≡ class_site at → Answers list_in list_reached (judge_list x false xs) (labelled c none) k d l r → Answers list_in list_reached at_site (labelled c []) k d l r
  from_unlabelled x d l r f h =
      subst (λ (ls : Labels). Answers list_in list_reached at_site (labelled c ls) k d l r) e (subst (λ (z : Site). Answers list_in list_reached (judge_list z false xs) (labelled c none) k d l r) f h)

  -- the labels are as they were again
  pub list_comes : (x : Site) (d : Scopes) (l : Checker) (r : Result MadeList Refusal) (ls : Labels) → ls ≡ c.labels → x ≡ class_site at → Sound k c → Answers list_in list_reached (judge_list x false xs) (labelled c none) k d l r
      → Answers list_in list_reached (class_list at xs) c k (labelled d ls) l r
  list_comes x d l r ls i f s h = subst (λ (z : Labels). Answers list_in list_reached (class_list at xs) c k (labelled d z) l r) (sym i) (by r (from_unlabelled x d l r f h)) where
    by : (r : Result MadeList Refusal) → Answers list_in list_reached at_site (labelled c []) k d l r → Answers list_in list_reached (class_list at xs) c k (labelled d c.labels) l r
    by (Err q) g = refused_elsewhere list_in list_reached (class_list at xs) at_site c (labelled c []) k (λ later w. refl) d (labelled d c.labels) l q g
    by (Ok m) g =
        let same : labelled d c.labels ≡ c = ap (λ (z : Scopes). labelled z c.labels) g.outcome.same in
        given_elsewhere list_in list_reached (class_list at xs) at_site c (labelled c []) k (λ later w. refl) d (labelled d c.labels) l m
        (subst (λ (z : Scopes). Sound l z) (sym same) (record {
          known = g.outcome.sound.known;
          values = (subst (λ (z : Scopes). Sound l z) g.outcome.same g.outcome.sound).values;
          labels = each_map (λ q. IsReached k.types q.1.kind) (λ q. IsReached l.types q.1.kind) (λ q. reached_on k.types l.types q.1.kind g.outcome.goes) c.labels s.labels;
        }))
        same g

-- ---- its public fields

module _ (at : ℕ) (xs : List (value.Declaration ℕ)) (c : Scopes) (k : Checker) (s : Sound k c) where
  abbrev public : View → Judgement (Unit {0})
  public v = PublicFields (seen_list xs)

  abbrev behind : View → Unit {0} → Judgement (Term × Declarations Note)
  behind v u = class_list at xs v

  pub not_public : (e : Refusal) (r : Result MadeList Refusal) → Handed r e → IsVerdict (PublicFields (seen_list xs)) (Err e) → Answers list_in list_reached (class_fields at xs) c k c k r
  not_public e r h j = stops list_in list_reached nothing no_more public behind c c k k e r h (verdict_answers (PublicFields (seen_list xs)) c k (Err e) s j)

  pub fields_come : (u : Unit {0}) (d : Scopes) (l : Checker) (r : Result MadeList Refusal) → IsVerdict (PublicFields (seen_list xs)) (Ok u) → Answers list_in list_reached (class_list at xs) c k d l r
      → Answers list_in list_reached (class_fields at xs) c k d l r
  fields_come u d l r j h = goes_on list_in list_reached nothing no_more public behind c c d k k l u r (verdict_answers (PublicFields (seen_list xs)) c k (Ok u) s j) h
