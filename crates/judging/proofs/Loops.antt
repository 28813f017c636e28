-- The bodies of loops, where a label directly around them may be continued.
use Rattle.std.proofs.Common.{◌≡◌, ◌∙◌, ℕ, Bool, true, false, List, [], ◌∷◌, Ok, Err, Some, map, refl, sym, ap, subst}
use Rattle.std.specs.Prelude.{Result}
use Rattle.std.specs.Result.{IsErr, IsErrAnd}
use Rattle.mo_types.specs.Sub.{Each}
use Rattle.type_terms.specs.declared.form.Form.{Form}
use Rattle.typing_rules.specs.AbstractSyntax.{Expression}
use Rattle.typing_rules.specs.Terms.{unit}
use Rattle.typing_rules.specs.Judgements.{Judgement}
use Rattle.typing_rules.specs.Answers.{fault, answer}
use Rattle.typing_rules.specs.Answers as Answered
use Rattle.typing_rules.specs.Contexts.{Context, Label, first_loops, in_loop}
use Rattle.typing_rules.specs.TypedTrees.{Typed}
use Rattle.typing_rules.specs.Expressions.{Judge}
use Rattle.type_definitions.specs.Definitions.{Listed, rules_in}
use Rattle.met_types.specs.States.{State, IsReached}
use Rattle.type_judgements.specs.declared.refusal.Refusal.{Refusal}
use Rattle.type_judgements.specs.declared.refusal.Refusal.TheVariants as refusal
use Rattle.value_scopes.specs.declared.place.Around as value_around
use Rattle.value_scopes.specs.declared.place.Around.TheVariants as around
use Rattle.value_scopes.specs.declared.scopes.Label as value_label
use Rattle.value_scopes.specs.declared.scopes.Scopes.{Scopes}
use Rattle.value_scopes.specs.Labels.{first_looped}
use Rattle.value_scopes.specs.Places.{around_in, context_in, label_in}
use Rattle.judging.specs.declared.checker.Checker.{Checker}
use Rattle.judging.specs.declared.site.Site.{Site}
use Rattle.judging.specs.Parts.{Sound, Ready}
use Rattle.judging.specs.Views.{View, view, is_labelled, judge_at, loop_in, typed_in, kind_reached}
use Rattle.judging.specs.Answers.{Outcome}
use Rattle.judging.proofs.Chains.{seen_as}
use Rattle.judging.proofs.TypedParts.{Given, Comes}

abbrev Labels : Type 0
Labels = List (List ℕ × value_label.Label)

-- with labels of which the innermost may be continued, or not
abbrev pub looped : Bool → Scopes → Scopes
looped b c = record c { labels = first_looped b c.labels }

-- ---- the context

module _ (later : List Form) where
  abbrev seen_label : List ℕ × value_label.Label → List ℕ × Label
  seen_label q = (q.0, label_in later q.1)

  same_first : (qs : Labels) → map seen_label (first_looped true qs) ≡ first_loops (map seen_label qs)
  same_first [] = refl
  same_first (q ∷ qs) = refl

in_labelled : (o : value_around.Around) (e : Context) → is_labelled o ≡ true → in_loop (around_in o) e ≡ record e { labels = first_loops e.labels }
in_labelled around.Labelled e h = refl
in_labelled around.Awaited e h = cc
in_labelled around.Named e h = cc
in_labelled around.Other e h = cc

in_other : (o : value_around.Around) (e : Context) → is_labelled o ≡ false → in_loop (around_in o) e ≡ e
in_other around.Labelled e h = cc
in_other around.Awaited e h = refl
in_other around.Named e h = refl
in_other around.Other e h = refl

module _ (x : Site) (a : Expression ℕ) where
  abbrev body_of : View → Judgement Typed
  body_of = judge_at x.place a (Some unit)

  loop_same : (c : Scopes) (l : Listed) (later : List Form) → is_labelled x.around ≡ true → loop_in x a (view later l c) ≡ body_of (view later l (looped true c))
  loop_same c l later e =
      ap (λ (o : Context). Judge (rules_in later l) o a (Some unit)) (in_labelled x.around (context_in later c x.place) e)
      ∙ ap (λ (ls : List (List ℕ × Label)). Judge (rules_in later l) (record (context_in later c x.place) { labels = ls }) a (Some unit)) (sym (same_first later c.labels))

  -- ---- the labels are as they were

  twice : (b : Bool) (qs : Labels) → first_looped b (first_looped true qs) ≡ first_looped b qs
  twice b [] = refl
  twice b (q ∷ qs) = refl

  back : (b : Bool) (c d : Scopes) → c.labels ≡ first_looped b c.labels → d ≡ looped true c → looped b d ≡ c
  back b c d e g = ap (looped b) g ∙ ap (λ (ls : Labels). record c { labels = ls }) (twice b c.labels ∙ sym e)

  each_looped : (s : State) (b : Bool) (qs : Labels) → Each (λ q. IsReached s q.1.kind) qs → Each (λ q. IsReached s q.1.kind) (first_looped b qs)
  each_looped s b [] h = tt
  each_looped s b (q ∷ qs) h = h

  pub sound_looped : (k : Checker) (c : Scopes) (b : Bool) → Sound k c → Sound k (looped b c)
  sound_looped k c b s = record { known = s.known; values = s.values; labels = each_looped k.types b c.labels s.labels }

  pub ready_looped : (k : Checker) (c : Scopes) (b : Bool) → Ready k c x → Ready k (looped b c) x
  ready_looped k c b r = record { sound = sound_looped k c b r.sound; returns = r.returns; wanting = r.wanting }

  module _ (c d : Scopes) (k l : Checker) where
    pub loop_given : (b : Bool) (g : Given) → is_labelled x.around ≡ true → c.labels ≡ first_looped b c.labels → Comes body_of (looped true c) k d l (Ok g) → Comes (loop_in x a) c k (looped b d) l (Ok g)
    loop_given b g e w h = record {
      outcome = record {
        sound = sound_looped l d b h.outcome.sound;
        same = back b c d w h.outcome.same;
        goes = h.outcome.goes;
        holds = h.outcome.holds;
        gave = record {
          by = λ met st later z.
              let y = h.outcome.gave.by met st later z in
              (y.0, y.1, subst (λ (j : Judgement Typed). Answered.Comes (rules_in later l.types.listed) j met (answer (Ok (typed_in g later)) y.0)) (sym (loop_same c k.types.listed later e)) y.2);
        };
      };
    }

    pub loop_refused : (q : Refusal) (r : Result Given Refusal) → is_labelled x.around ≡ true → IsErr r × IsErrAnd r (λ y. y ≡ q) → Comes body_of (looped true c) k d l (Err q) → Comes (loop_in x a) c k d l r
    loop_refused q (Ok g) e h j = let z : false ≡ true = h.0 in cc
    loop_refused q (Err p) e h j = subst (λ (z : Refusal). Comes (loop_in x a) c k d l (Err z)) (sym h.1) (record { outcome = by q j.outcome }) where
      by : (q : Refusal) → Outcome typed_in kind_reached body_of (looped true c) k d l (Err q) → Outcome typed_in kind_reached (loop_in x a) c k d l (Err q)
      by (refusal.False place f) o = record {
        left = o.left;
        names = record {
          by = λ met st later z.
              let y = o.names.by met st later z in
              (y.0, subst (λ (j : Judgement Typed). Answered.Comes (rules_in later l.types.listed) j met (answer (Err (fault f place)) y.0)) (sym (loop_same c k.types.listed later e)) y.1);
        };
      }
      by refusal.Memory o = tt

    pub loop_as_it_is : (r : Result Given Refusal) → is_labelled x.around ≡ false → Comes body_of c k d l r → Comes (loop_in x a) c k d l r
    loop_as_it_is r e h =
        seen_as typed_in kind_reached (loop_in x a) body_of c d k l r
        (λ later w. ap (λ (o : Context). Judge (rules_in later k.types.listed) o a (Some unit)) (in_other x.around (context_in later c x.place) e)) h

  -- the same, where these are the labels then
  module _ (c : Scopes) (k : Checker) (qs : Labels) (h : qs ≡ first_looped true c.labels) where
    pub ready_within : Ready k c x → Ready k (record c { labels = qs }) x
    ready_within r = subst (λ (ls : Labels). Ready k (record c { labels = ls }) x) (sym h) (ready_looped k c true r)

    pub given_within : (d : Scopes) (l : Checker) (b : Bool) (ls : Labels) (g : Given) → is_labelled x.around ≡ true → c.labels ≡ first_looped b c.labels → ls ≡ first_looped b d.labels
        → Comes body_of (record c { labels = qs }) k d l (Ok g) → Comes (loop_in x a) c k (record d { labels = ls }) l (Ok g)
    given_within d l b ls g e w i j =
        subst (λ (z : Labels). Comes (loop_in x a) c k (record d { labels = z }) l (Ok g)) (sym i)
        (loop_given c d k l b g e w (subst (λ (z : Labels). Comes body_of (record c { labels = z }) k d l (Ok g)) h j))

    pub ready_back : (d : Scopes) (l : Checker) (b : Bool) (ls : Labels) → ls ≡ first_looped b d.labels → Ready l d x → Ready l (record d { labels = ls }) x
    ready_back d l b ls i r = subst (λ (z : Labels). Ready l (record d { labels = z }) x) (sym i) (ready_looped l d b r)

    pub refused_within : (d : Scopes) (l : Checker) (q : Refusal) (r : Result Given Refusal) → is_labelled x.around ≡ true → IsErr r × IsErrAnd r (λ y. y ≡ q) → Comes body_of (record c { labels = qs }) k d l (Err q)
        → Comes (loop_in x a) c k d l r
    refused_within d l q r e i j = loop_refused c d k l q r e i (subst (λ (z : Labels). Comes body_of (record c { labels = z }) k d l (Err q)) h j)
