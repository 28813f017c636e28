-- What is judged with more names in scope, which are taken away afterwards.
use Rattle.std.proofs.Common.{◌≡◌, ◌∙◌, ℕ, true, false, List, [], ◌∷◌, ◌++◌, length, Ok, Err, Option, Some, option_map, sym, ap, subst}
use Rattle.std.specs.Prelude.{Result, OnOk}
use Rattle.std.specs.Result.{IsErr, IsErrAnd}
use Rattle.mo_types.specs.Sub.{Each}
use Rattle.type_terms.specs.declared.form.Form.{Form}
use Rattle.type_terms.specs.declared.form.TermId.{TermId}
use Rattle.typing_rules.specs.AbstractSyntax.{Expression}
use Rattle.typing_rules.specs.Terms.{unit}
use Rattle.typing_rules.specs.Answers.{fault, answer, Comes}
use Rattle.typing_rules.specs.Contexts.{Context, Scope, in_loop, with_values}
use Rattle.typing_rules.specs.Expressions.{Judge}
use Rattle.typing_rules.specs.Judgements.{Judgement, Part}
use Rattle.type_definitions.specs.Definitions.{Listed, rules_in}
use Rattle.type_definitions.specs.Meanings.{term}
use Rattle.type_definitions.specs.Tables.{Later}
use Rattle.type_definitions.proofs.Meanings.{later_on}
use Rattle.met_types.specs.States.{State, IsReached}
use Rattle.type_judgements.specs.declared.refusal.Refusal.{Refusal}
use Rattle.type_judgements.specs.declared.refusal.Refusal.TheVariants as refusal
use Rattle.value_scopes.specs.declared.place.Place.{Place}
use Rattle.value_scopes.specs.declared.scopes.Scopes.{Scopes}
use Rattle.value_scopes.specs.Places.{around_in, context_in}
use Rattle.value_scopes.specs.Values.{Hold, scope_in}
use Rattle.value_scopes.proofs.Seeing.{hold_joined, scope_joined}
use Rattle.typed_patterns.specs.Binding.{Names}
use Rattle.judging.specs.declared.checker.Checker.{Checker}
use Rattle.judging.specs.declared.site.Site.{Site}
use Rattle.judging.specs.Parts.{Ready, Sound}
use Rattle.judging.specs.Views.{View, judge, loop_in, view}
use Rattle.judging.specs.Answers.{Answers, Outcome}
use Rattle.judging.proofs.Chains.{goes_on, stops}
use Rattle.judging.proofs.Steps.{reached_within, ready_on}
use Rattle.scope_judging.specs.Binding.{Binds, bound, names_reached, under}
use Rattle.scope_judging.specs.Rules.{judge_under, loop_under}

-- ---- what holds with more names, and with fewer

names_hold : (k : Checker) (c : Scopes) (more : Names) → Sound k c → Each (λ q. IsReached k.types q.1.kind) more → Hold k.types.forms more
names_hold k c [] s h = tt
names_hold k c (q ∷ more) s h = (reached_within k.types q.1.kind s.known.kept h.0, names_hold k c more s h.1)

hold_behind : (forms : List Form) (s t : Names) → Hold forms (s ++ t) → Hold forms t
hold_behind forms [] t h = h
hold_behind forms (q ∷ s) t h = hold_behind forms s t h.1

pub sound_under : (more : Names) (c : Scopes) (k : Checker) → Sound k c → Each (λ q. IsReached k.types q.1.kind) more → Sound k (under more c)
sound_under more c k s h = record { known = s.known; values = hold_joined k.types.forms more c.values (names_hold k c more s h) s.values; labels = s.labels }

pub sound_without : (more : Names) (c : Scopes) (k : Checker) → Sound k (under more c) → Sound k c
sound_without more c k s = record { known = s.known; values = hold_behind k.types.forms more c.values s.values; labels = s.labels }

-- ---- the context

pub context_under : (more : Names) (later : List Form) (c : Scopes) (y : Place) → with_values (scope_in later more) (context_in later c y) ≡ context_in later (under more c) y
context_under more later c y = ap (λ (vs : Scope). record (context_in later c y) { values = vs }) (sym (scope_joined later more c.values))

module _ (more : Names) (later : List Form) (l : Listed) (c : Scopes) (a : Expression ℕ) where
  pub judge_is_under : (y : Place) (w : Option TermId) → judge_under y a w (scope_in later more) (view later l c) ≡ judge y a w (view later l (under more c))
  judge_is_under y w = ap (λ (e : Context). Judge (rules_in later l) e a (option_map (term later) w)) (context_under more later c y)

  pub loop_is_under : (x : Site) → loop_under x a (scope_in later more) (view later l c) ≡ loop_in x a (view later l (under more c))
  loop_is_under x = ap (λ (e : Context). Judge (rules_in later l) (in_loop (around_in x.around) e) a (Some unit)) (context_under more later c x.place)

-- ---- what is judged elsewhere

module _ {A M : Type 0} (see : M → List Form → A) (good : State → M → Type 0) where
  -- where nothing is given, the names are of no use
  pub anywhere : (j : View → Judgement A) (c d f : Scopes) (k l : Checker) (r : Result M Refusal) → IsErr r → Answers see good j c k d l r → Answers see good j c k f l r
  anywhere j c d f k l (Ok m) g h = let z : false ≡ true = g in cc
  anywhere j c d f k l (Err (refusal.False place q)) g h = record { outcome = record { left = h.outcome.left; names = h.outcome.names } }
  anywhere j c d f k l (Err refusal.Memory) g h = record { outcome = tt }

  module _ (j i : View → Judgement A) (c b : Scopes) (k : Checker) (e : (later : List Form) → Later k.types.forms later → j (view later k.types.listed c) ≡ i (view later k.types.listed b)) where
    pub given_elsewhere : (d f : Scopes) (l : Checker) (m : M) → Sound l f → f ≡ c → Answers see good i b k d l (Ok m) → Answers see good j c k f l (Ok m)
    given_elsewhere d f l m s q h = record {
      outcome = record {
        sound = s;
        same = q;
        goes = h.outcome.goes;
        holds = h.outcome.holds;
        gave = record {
          by = λ met st later w.
              let y = h.outcome.gave.by met st later w in
              (y.0, y.1, subst (λ (z : Judgement A). Comes (rules_in later l.types.listed) z met (answer (Ok (see m later)) y.0)) (sym (e later (later_on k.types.forms l.types.forms later h.outcome.goes.forms w))) y.2);
        };
      };
    }

    pub refused_elsewhere : (d f : Scopes) (l : Checker) (x : Refusal) → Answers see good i b k d l (Err x) → Answers see good j c k f l (Err x)
    refused_elsewhere d f l x h = record { outcome = by x h.outcome } where
      by : (x : Refusal) → Outcome see good i b k d l (Err x) → Outcome see good j c k f l (Err x)
      by (refusal.False place q) o = record {
        left = o.left;
        names = record {
          by = λ met st later w.
              let y = o.names.by met st later w in
              (y.0, subst (λ (z : Judgement A). Comes (rules_in later l.types.listed) z met (answer (Err (fault q place)) y.0)) (sym (e later (later_on k.types.forms l.types.forms later o.left.forms w))) y.1);
        };
      }
      by refusal.Memory o = tt

-- ---- names are bound, something is judged with them, and then comes what follows without them

module _ {A M B N X P : Type 0} (see : M → List Form → A) (good : State → M → Type 0) (part : N → List Form → B) (fine : State → N → Type 0) (pattern : P → List Form → X)
    (j : View → Judgement (Scope × X)) (h : Scope → View → Judgement B) (n : View → X → B → Judgement A) where
  abbrev pub with_names : View → Judgement A
  with_names v = Part (j v) (λ q. Part (h q.0 v) (n v q.1))

  -- no names are bound
  pub unbound : (c d f : Scopes) (k l : Checker) (x : Refusal) (r : Result M Refusal) → IsErr r × IsErrAnd r (λ e. e ≡ x) → Binds pattern j c k d l (Err x) → Answers see good with_names c k f l r
  unbound c d f k l x r g b =
      anywhere see good with_names c c f k l r g.0 (stops see good (bound b.more pattern) (names_reached b.more) j (λ v q. Part (h q.0 v) (n v q.1)) c c k l x r g b.answer)

  module _ (c d : Scopes) (k l : Checker) (m : P) (b : Binds pattern j c k d l (Ok m)) (i : View → Judgement B)
      (same : (later : List Form) → h (scope_in later b.more) (view later l.types.listed c) ≡ i (view later l.types.listed (under b.more c))) where
    from_under : (e : Scopes) (o : Checker) (r : Result N Refusal) → Answers part fine i d l e o r → Answers part fine i (under b.more c) l e o r
    from_under e o r a = subst (λ (z : Scopes). Answers part fine i z l e o r) b.pushed a

    -- what is judged with them is refused
    pub refused_under : (e f : Scopes) (o : Checker) (x : Refusal) (r : Result M Refusal) → IsErr r × IsErrAnd r (λ y. y ≡ x) → Answers part fine i d l e o (Err x) → Answers see good with_names c k f o r
    refused_under e f o x r g a =
        anywhere see good with_names c c f k o r g.0
        (goes_on see good (bound b.more pattern) (names_reached b.more) j (λ v q. Part (h q.0 v) (n v q.1)) c c c k l o m r b.answer
        (stops see good part fine (λ v. h (scope_in v.later b.more) v) (λ v. n v (pattern m v.later)) c c l o x r g
        (refused_elsewhere part fine (λ v. h (scope_in v.later b.more) v) i c (under b.more c) l (λ later w. same later) e c o x (from_under e o (Err x) a))))

    -- it is given, and the names are taken away
    module _ (e f : Scopes) (o : Checker) (y : N) (count : ℕ) (u : (more : Names) (z : Scopes) → e ≡ under more z → count ≡ length z.values → f ≡ z) (q : count ≡ length c.values)
        (a : Answers part fine i d l e o (Ok y)) where
      pub back : f ≡ c
      back = u b.more c (a.outcome.same ∙ b.pushed) q

      pub sound_back : Sound o f
      sound_back = subst (λ (z : Scopes). Sound o z) (sym back) (sound_without b.more c o (subst (λ (z : Scopes). Sound o z) (a.outcome.same ∙ b.pushed) a.outcome.sound))

      pub ready_back : (x : Site) → Ready k c x → Ready o f x
      ready_back x g = ready_on l o c f x (ready_on k l c c x g b.answer.outcome.sound b.answer.outcome.goes) sound_back a.outcome.goes

      pub given_under : (z : Scopes) (w : Checker) (r : Result M Refusal) → Answers see good (λ v. n v (pattern m v.later) (part y v.later)) f o z w r → Answers see good with_names c k z w r
      given_under z w r rest =
          goes_on see good (bound b.more pattern) (names_reached b.more) j (λ v q. Part (h q.0 v) (n v q.1)) c c z k l w m r b.answer
          (goes_on see good part fine (λ v. h (scope_in v.later b.more) v) (λ v. n v (pattern m v.later)) c f z l o w y r
          (given_elsewhere part fine (λ v. h (scope_in v.later b.more) v) i c (under b.more c) l (λ later w. same later) e f o y sound_back back (from_under e o (Ok y) a)) rest)

-- names are bound after a part, and a rule can be applied there
module _ {X M : Type 0} (see : M → List Form → X) where
  pub ready_bound : (j : View → Judgement (Scope × X)) (c d : Scopes) (k l : Checker) (r : Result M Refusal) (x : Site) → Binds see j c k d l r → Ready k c x → OnOk r (Ready l d x)
  ready_bound j c d k l (Ok m) x b g =
      ready_on k l c d x g (subst (λ (z : Scopes). Sound l z) (sym b.pushed) (sound_under b.more c l b.answer.outcome.sound b.answer.outcome.holds)) b.answer.outcome.goes
  ready_bound j c d k l (Err e) x b g = tt

  module _ {B N : Type 0} (part : N → List Form → B) (fine : State → N → Type 0) (j : View → Judgement B) (i : View → B → Judgement (Scope × X)) where
    pub binds_then : (c d e : Scopes) (k l o : Checker) (y : N) (r : Result M Refusal) → Answers part fine j c k d l (Ok y) → Binds see (λ v. i v (part y v.later)) d l e o r → Binds see (λ v. Part (j v) (i v)) c k e o r
    binds_then c d e k l o y r a b = record {
      more = b.more;
      answer = goes_on (bound b.more see) (names_reached b.more) part fine j i c c c k l o y r (subst (λ (z : Scopes). Answers part fine j c k z l (Ok y)) a.outcome.same a)
          (subst (λ (z : Scopes). Answers (bound b.more see) (names_reached b.more) (λ v. i v (part y v.later)) z l z o r) a.outcome.same b.answer);
      pushed = subst (λ (z : Scopes). OnOk r (e ≡ under b.more z)) a.outcome.same b.pushed;
    }
