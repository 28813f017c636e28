-- What is judged as the body of a function.
use Rattle.std.proofs.Common.{◌≡◌, inr, ℕ, List, [], Ok, Err, Some, refl, sym, ap, subst}
use Rattle.std.specs.Prelude.{OnOk, Result}
use Rattle.type_terms.specs.declared.form.Form.{Form}
use Rattle.type_terms.specs.declared.form.TermId.{TermId}
use Rattle.typing_rules.specs.AbstractSyntax.{Bytes, Expression}
use Rattle.typing_rules.specs.Contexts.{Scope, in_body, with_types}
use Rattle.typing_rules.specs.Expressions.{Judge}
use Rattle.typing_rules.specs.TypeScopes.{TypeScope}
use Rattle.type_definitions.specs.Definitions.{Listed, rules_in}
use Rattle.type_definitions.specs.Meanings.{term}
use Rattle.type_definitions.specs.Tables.{Within}
use Rattle.type_definitions.proofs.Meanings.{each_map}
use Rattle.met_types.specs.States.{IsReached}
use Rattle.type_judgements.specs.declared.refusal.Refusal.{Refusal}
use Rattle.type_scopes.specs.Scopes.{seen}
use Rattle.type_scopes.specs.Scopes.{Names as TypeNames}
use Rattle.value_scopes.specs.declared.place.Body.{Body}
use Rattle.value_scopes.specs.declared.place.Place.{Place}
use Rattle.value_scopes.specs.declared.scopes.Label.{Label}
use Rattle.value_scopes.specs.declared.scopes.Scopes.{Scopes}
use Rattle.value_scopes.specs.Places.{body_in, context_in}
use Rattle.value_scopes.specs.Values.{scope_in}
use Rattle.value_scopes.proofs.Seeing.{scope_joined}
use Rattle.typed_patterns.specs.Binding.{Names}
use Rattle.judging.specs.declared.checker.Checker.{Checker}
use Rattle.judging.specs.declared.site.Site.{Site}
use Rattle.judging.specs.Parts.{Entering, Ready, Sound}
use Rattle.judging.specs.Views.{judge, kind_reached, typed_in, view}
use Rattle.judging.proofs.Steps.{reached_on, ready_on}
use Rattle.judging.proofs.TypedParts.{Comes, Given}
use Rattle.scope_judging.specs.Binding.{under}
use Rattle.scope_judging.proofs.Under.{given_elsewhere, refused_elsewhere}
use Rattle.body_judging.specs.Bodies.{body_place, body_under, judge_body, unlabelled}

abbrev Labels : Type 0
Labels = List (Bytes × Label)

abbrev labelled : Scopes → Labels → Scopes
labelled c ls = record c { labels = ls }

module _ (b : Body) (id : TermId) (a : Expression ℕ) (c : Scopes) (k : Checker) (none : Labels) (e : none ≡ []) where
  pub entering_body : (y : Place) → y ≡ body_place b id → Sound k c → Within k.types.forms id → Entering k (labelled c none) y (Some id)
  entering_body y f s w =
      subst (λ (z : Place). Entering k (labelled c none) z (Some id)) (sym f)
      (subst (λ (ls : Labels). Entering k (labelled c ls) (body_place b id) (Some id)) (sym e) (record { known = s.known; values = s.values; labels = tt; returns = inr refl; wanted = w }))

  from_unlabelled : (y : Place) (d : Scopes) (l : Checker) (r : Result Given Refusal) → y ≡ body_place b id → Comes (judge y a (Some id)) (labelled c none) k d l r → Comes (judge (body_place b id) a (Some id)) (unlabelled c) k d l r
  from_unlabelled y d l r f h =
      subst (λ (ls : Labels). Comes (judge (body_place b id) a (Some id)) (labelled c ls) k d l r) e (subst (λ (z : Place). Comes (judge z a (Some id)) (labelled c none) k d l r) f h)

  -- the labels are as they were again
  pub body_comes : (y : Place) (d : Scopes) (l : Checker) (r : Result Given Refusal) (ls : Labels) → ls ≡ c.labels → y ≡ body_place b id → Sound k c → Comes (judge y a (Some id)) (labelled c none) k d l r → Comes (judge_body b id a) c k (labelled d ls) l r
  body_comes y d l r ls i f s h = subst (λ (z : Labels). Comes (judge_body b id a) c k (labelled d z) l r) (sym i) (by r (from_unlabelled y d l r f h)) where
    by : (r : Result Given Refusal) → Comes (judge (body_place b id) a (Some id)) (unlabelled c) k d l r → Comes (judge_body b id a) c k (labelled d c.labels) l r
    by (Err q) g = refused_elsewhere typed_in kind_reached (judge_body b id a) (judge (body_place b id) a (Some id)) c (unlabelled c) k (λ later w. refl) d (labelled d c.labels) l q g
    by (Ok m) g =
        let same : labelled d c.labels ≡ c = ap (λ (z : Scopes). labelled z c.labels) g.outcome.same in
        given_elsewhere typed_in kind_reached (judge_body b id a) (judge (body_place b id) a (Some id)) c (unlabelled c) k (λ later w. refl) d (labelled d c.labels) l m
        (subst (λ (z : Scopes). Sound l z) (sym same) (record {
          known = g.outcome.sound.known;
          values = (subst (λ (z : Scopes). Sound l z) g.outcome.same g.outcome.sound).values;
          labels = each_map (λ q. IsReached k.types q.1.kind) (λ q. IsReached l.types q.1.kind) (λ q. reached_on k.types l.types q.1.kind g.outcome.goes) c.labels s.labels;
        }))
        same g

-- a rule can be applied there afterwards
pub body_ready : (b : Body) (id : TermId) (a : Expression ℕ) (c d : Scopes) (k l : Checker) (r : Result Given Refusal) (x : Site) → Comes (judge_body b id a) c k d l r → Ready k c x → OnOk r (Ready l d x)
body_ready b id a c d k l (Ok m) x h q = ready_on k l c d x q h.outcome.sound h.outcome.goes
body_ready b id a c d k l (Err e) x h q = tt

-- ---- where a function binds names, and has type parameters

module _ (b : Body) (id : TermId) (a : Expression ℕ) (later : List Form) (l : Listed) (c : Scopes) where
  -- its names are in scope
  pub body_is_under : (y : Place) (more : Names) → body_under y b (term later id) a (scope_in later more) (view later l c) ≡ judge_body b id a (view later l (under more c))
  body_is_under y more = ap (λ (names : Scope). Judge (rules_in later l) (record (in_body (body_in b) (Some (term later id)) [] (context_in later c y)) { values = names }) a (Some (term later id))) (sym (scope_joined later more c.values))

-- the names of types that are in scope
pub context_typed : (later : List Form) (c : Scopes) (y : Place) (t : TypeNames) (s : TypeScope) → seen t ≡ s → context_in later (record c { types = t }) y ≡ with_types s (context_in later c y)
context_typed later c y t s e = ap (λ (u : TypeScope). with_types u (context_in later c y)) e
