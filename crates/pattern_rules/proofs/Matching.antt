-- A pattern, and what is judged with its names.
use Rattle.std.proofs.Common.{◌≡◌, ◌∙◌, ℕ, length, Ok, Err, refl, ap}
use Rattle.std.specs.Prelude.{Result}
use Rattle.std.specs.Result.{IsErr, IsErrAnd}
use Rattle.type_terms.specs.declared.form.TermId.{TermId}
use Rattle.typing_rules.specs.AbstractSyntax.{Expression, Pattern}
use Rattle.typing_rules.specs.AbstractSyntax as p
use Rattle.typing_rules.specs.Contexts.{Scope}
use Rattle.typing_rules.specs.Judgements.{Gives, Judgement, Part}
use Rattle.typing_rules.specs.TypedTrees.{Note, Typed}
use Rattle.type_judgements.specs.declared.refusal.Refusal.{Refusal}
use Rattle.abstract_types.specs.declared.patterns.Pattern as value_pattern
use Rattle.abstract_types.specs.PatternView as patterns
use Rattle.abstract_tree.specs.declared.expressions.Case.{Case, fold_out-Case}
use Rattle.abstract_tree.specs.declared.expressions.Expression as value
use Rattle.abstract_tree.specs.TreeView.{CaseView, DeclarationView, FieldView, case, case_step, declaration, declaration_form, declaration_form_step, declaration_step, expression, expression_form, expression_step, field_step, form_step, object_field}
use Rattle.value_scopes.specs.declared.note.Note as value_note
use Rattle.value_scopes.specs.declared.scopes.Scopes.{Scopes}
use Rattle.proper_types.proofs.Turns.{part_assoc}
use Rattle.typed_patterns.specs.Making.{pattern_in}
use Rattle.typed_patterns.proofs.Standing.{behind_alike}
use Rattle.judging.specs.declared.checker.Checker.{Checker}
use Rattle.judging.specs.declared.site.Site.{Site}
use Rattle.judging.specs.Parts.{Ready}
use Rattle.judging.specs.Views.{View, judge, kind_reached, typed_in}
use Rattle.judging.specs.Answers.{Answers}
use Rattle.judging.proofs.Chains.{given}
use Rattle.scope_judging.specs.Binding.{Binds, under}
use Rattle.scope_judging.specs.Rules.{judge_under, stands}
use Rattle.scope_judging.proofs.Under.{given_under, judge_is_under, ready_back, refused_under, sound_back, unbound}
use Rattle.pattern_rules.specs.declared.arms.Arm.{Arm}
use Rattle.pattern_rules.specs.Arms.{arm, arm_in, arm_reached}
use Rattle.typed_patterns.specs.Binding.{Names}

pub seen_case : {N M : Type 0} (see : N → M) (x : Case N) (rest : p.Cases M) → case see x rest ≡ p.Case (patterns.pattern see x.pattern) (expression see x.body) rest
unfolding expression expression_form declaration declaration_form case object_field
seen_case {N} {M} see x rest =
    ap (λ (f : CaseView M). f rest)
    (fold_out-Case N (p.Declaration M) (p.Form M) (DeclarationView M) (CaseView M) (p.Expression M) (FieldView M) (declaration_form_step see) (form_step see) (declaration_step see) (case_step see) (expression_step see) (field_step see) x)

module _ (x : Site) (q : Pattern ℕ) (id : TermId) (a : Expression ℕ) where
  abbrev body : Scope → View → Judgement Typed
  body names v = judge_under x.place a x.wanted names v

  abbrev both : View → Pattern Note → Typed → Judgement (Pattern Note × Typed)
  both v r b = Gives (r, b)

  -- and then what follows
  pub arm_then : {A : Type 0} (n : Pattern Note × Typed → Judgement A) (v : View) → Part (arm x q id a v) n ≡ Part (stands q id v) (λ r. Part (body r.0 v) (λ b. n (r.1, b)))
  arm_then n v =
      part_assoc (stands q id v) (λ r. Part (body r.0 v) (λ b. Gives (r.1, b))) n
      ∙ behind_alike (stands q id v) (λ r. Part (Part (body r.0 v) (λ b. Gives (r.1, b))) n) (λ r. Part (body r.0 v) (λ b. n (r.1, b))) (λ r. part_assoc (body r.0 v) (λ b. Gives (r.1, b)) n)

  pub no_pattern : (c d f : Scopes) (k l : Checker) (e : Refusal) (r : Result Arm Refusal) → IsErr r × IsErrAnd r (λ y. y ≡ e) → Binds pattern_in (stands q id) c k d l (Err e)
      → Answers arm_in arm_reached (arm x q id a) c k f l r
  no_pattern c d f k l e r g b = unbound arm_in arm_reached typed_in kind_reached pattern_in (stands q id) body both c d f k l e r g b

  module _ (c d : Scopes) (k l : Checker) (m : value_pattern.Pattern value_note.Note) (b : Binds pattern_in (stands q id) c k d l (Ok m)) where
    pub no_body : (e f : Scopes) (o : Checker) (y : Refusal) (r : Result Arm Refusal) → IsErr r × IsErrAnd r (λ z. z ≡ y) → Answers typed_in kind_reached (judge x.place a x.wanted) d l e o (Err y)
        → Answers arm_in arm_reached (arm x q id a) c k f o r
    no_body e f o y r g h =
        refused_under arm_in arm_reached typed_in kind_reached pattern_in (stands q id) body both c d k l m b (judge x.place a x.wanted) (λ later. judge_is_under b.more later l.types.listed c a x.place x.wanted) e f o y r g h

    module _ (e f : Scopes) (o : Checker) (y : value.Expression value_note.Note) (count : ℕ) (u : (more : Names) (z : Scopes) → e ≡ under more z → count ≡ length z.values → f ≡ z) (w : count ≡ length c.values)
        (h : Answers typed_in kind_reached (judge x.place a x.wanted) d l e o (Ok y)) where
      pub arm_given : Answers arm_in arm_reached (arm x q id a) c k f o (Ok (record { pattern = m; body = y }))
      arm_given =
          given_under arm_in arm_reached typed_in kind_reached pattern_in (stands q id) body both c d k l m b (judge x.place a x.wanted) (λ later. judge_is_under b.more later l.types.listed c a x.place x.wanted) e f o y count u w h f o
          (Ok (record { pattern = m; body = y }))
          (given arm_in arm_reached (λ v. Gives (pattern_in m v.later, typed_in y v.later)) f o (record { pattern = m; body = y })
          (sound_back arm_in arm_reached typed_in kind_reached pattern_in (stands q id) body both c d k l m b (judge x.place a x.wanted) (λ later. judge_is_under b.more later l.types.listed c a x.place x.wanted) e f o y count u w h)
          h.outcome.holds (λ later z. refl))

      pub arm_ready : Ready k c x → Ready o f x
      arm_ready r =
          ready_back arm_in arm_reached typed_in kind_reached pattern_in (stands q id) body both c d k l m b (judge x.place a x.wanted) (λ later. judge_is_under b.more later l.types.listed c a x.place x.wanted) e f o y count u w h x r
