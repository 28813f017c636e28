-- A pattern, and the body of a loop that is judged with its names.
use Rattle.std.proofs.Common.{◌≡◌, ◌∙◌, ℕ, length, Ok, Err, refl}
use Rattle.std.specs.Prelude.{Result}
use Rattle.std.specs.Result.{IsErr, IsErrAnd}
use Rattle.type_terms.specs.declared.form.TermId.{TermId}
use Rattle.typing_rules.specs.AbstractSyntax.{Expression, Pattern}
use Rattle.typing_rules.specs.Contexts.{Scope}
use Rattle.typing_rules.specs.Judgements.{Gives, Judgement, Part}
use Rattle.typing_rules.specs.TypedTrees.{Note, Typed}
use Rattle.type_judgements.specs.declared.refusal.Refusal.{Refusal}
use Rattle.abstract_types.specs.declared.patterns.Pattern as value_pattern
use Rattle.abstract_tree.specs.declared.expressions.Expression as value
use Rattle.value_scopes.specs.declared.note.Note as value_note
use Rattle.value_scopes.specs.declared.scopes.Scopes.{Scopes}
use Rattle.proper_types.proofs.Turns.{part_assoc}
use Rattle.typed_patterns.specs.Binding.{Names}
use Rattle.typed_patterns.specs.Making.{pattern_in}
use Rattle.typed_patterns.proofs.Standing.{behind_alike}
use Rattle.judging.specs.declared.checker.Checker.{Checker}
use Rattle.judging.specs.declared.site.Site.{Site}
use Rattle.judging.specs.Parts.{Ready}
use Rattle.judging.specs.Views.{View, kind_reached, loop_in, typed_in}
use Rattle.judging.specs.Answers.{Answers}
use Rattle.judging.proofs.Chains.{given}
use Rattle.scope_judging.specs.Binding.{Binds, under}
use Rattle.scope_judging.specs.Rules.{loop_under, stands}
use Rattle.scope_judging.proofs.Under.{given_under, loop_is_under, ready_back, refused_under, sound_back, unbound}
use Rattle.iteration_rules.specs.declared.turns.Turn.{Turn}
use Rattle.iteration_rules.specs.Turns.{turn, turn_in, turn_reached}

module _ (x : Site) (q : Pattern ℕ) (id : TermId) (a : Expression ℕ) where
  abbrev body : Scope → View → Judgement Typed
  body names v = loop_under x a names v

  abbrev both : View → Pattern Note → Typed → Judgement (Pattern Note × Typed)
  both v r b = Gives (r, b)

  -- and then what follows
  pub turn_then : {A : Type 0} (n : Pattern Note × Typed → Judgement A) (v : View) → Part (turn x q id a v) n ≡ Part (stands q id v) (λ r. Part (body r.0 v) (λ b. n (r.1, b)))
  turn_then n v =
      part_assoc (stands q id v) (λ r. Part (body r.0 v) (λ b. Gives (r.1, b))) n
      ∙ behind_alike (stands q id v) (λ r. Part (Part (body r.0 v) (λ b. Gives (r.1, b))) n) (λ r. Part (body r.0 v) (λ b. n (r.1, b))) (λ r. part_assoc (body r.0 v) (λ b. Gives (r.1, b)) n)

  pub no_pattern : (c d f : Scopes) (k l : Checker) (e : Refusal) (r : Result Turn Refusal) → IsErr r × IsErrAnd r (λ y. y ≡ e) → Binds pattern_in (stands q id) c k d l (Err e)
      → Answers turn_in turn_reached (turn x q id a) c k f l r
  no_pattern c d f k l e r g b = unbound turn_in turn_reached typed_in kind_reached pattern_in (stands q id) body both c d f k l e r g b

  module _ (c d : Scopes) (k l : Checker) (m : value_pattern.Pattern value_note.Note) (b : Binds pattern_in (stands q id) c k d l (Ok m)) where
    pub no_body : (e f : Scopes) (o : Checker) (y : Refusal) (r : Result Turn Refusal) → IsErr r × IsErrAnd r (λ z. z ≡ y) → Answers typed_in kind_reached (loop_in x a) d l e o (Err y)
        → Answers turn_in turn_reached (turn x q id a) c k f o r
    no_body e f o y r g h =
        refused_under turn_in turn_reached typed_in kind_reached pattern_in (stands q id) body both c d k l m b (loop_in x a) (λ later. loop_is_under b.more later l.types.listed c a x) e f o y r g h

    module _ (e f : Scopes) (o : Checker) (y : value.Expression value_note.Note) (count : ℕ) (u : (more : Names) (z : Scopes) → e ≡ under more z → count ≡ length z.values → f ≡ z) (w : count ≡ length c.values)
        (h : Answers typed_in kind_reached (loop_in x a) d l e o (Ok y)) where
      pub turn_given : Answers turn_in turn_reached (turn x q id a) c k f o (Ok (record { pattern = m; body = y }))
      turn_given =
          given_under turn_in turn_reached typed_in kind_reached pattern_in (stands q id) body both c d k l m b (loop_in x a) (λ later. loop_is_under b.more later l.types.listed c a x) e f o y count u w h f o
          (Ok (record { pattern = m; body = y }))
          (given turn_in turn_reached (λ v. Gives (pattern_in m v.later, typed_in y v.later)) f o (record { pattern = m; body = y })
          (sound_back turn_in turn_reached typed_in kind_reached pattern_in (stands q id) body both c d k l m b (loop_in x a) (λ later. loop_is_under b.more later l.types.listed c a x) e f o y count u w h)
          h.outcome.holds (λ later z. refl))

      pub turn_ready : Ready k c x → Ready o f x
      turn_ready r =
          ready_back turn_in turn_reached typed_in kind_reached pattern_in (stands q id) body both c d k l m b (loop_in x a) (λ later. loop_is_under b.more later l.types.listed c a x) e f o y count u w h x r
