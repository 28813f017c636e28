-- Types that are made before what follows, and names of types that are brought into scope.
use Rattle.std.proofs.Common.{◌≡◌, ◌∙◌, true, false, List, Ok, Err, refl, sym, ap, subst}
use Rattle.std.specs.Prelude.{Result}
use Rattle.std.specs.Result.{IsErr, IsErrAnd}
use Rattle.mo_types.specs.Sub.{Each}
use Rattle.type_terms.specs.declared.form.Form.{Form}
use Rattle.type_terms.specs.declared.form.TermId.{TermId}
use Rattle.typing_rules.specs.Contexts.{Scope}
use Rattle.typing_rules.specs.Judgements.{Judgement}
use Rattle.typing_rules.specs.Terms.{Term}
use Rattle.type_definitions.specs.Tables.{Later, Within}
use Rattle.type_definitions.proofs.Meanings.{each_map}
use Rattle.definition_rules.specs.Bounds.{Same}
use Rattle.type_definitions.specs.Meanings.{term}
use Rattle.met_types.specs.States.{IsReached, Kept, State}
use Rattle.type_judgements.specs.declared.refusal.Refusal.{Refusal}
use Rattle.type_scopes.specs.Scopes.{Names as TypeNames}
use Rattle.value_scopes.specs.declared.scopes.Scopes.{Scopes}
use Rattle.judging.specs.declared.checker.Checker.{Checker}
use Rattle.judging.specs.Parts.{Sound}
use Rattle.judging.specs.Views.{View, view}
use Rattle.judging.specs.Answers.{Answers}
use Rattle.judging.proofs.Chains.{after, seen_as}
use Rattle.judging.proofs.Steps.{reached_within, sound_on}
use Rattle.scope_judging.specs.Binding.{Binds}
use Rattle.scope_judging.proofs.Under.{given_elsewhere, refused_elsewhere, sound_under}
use Rattle.signature_judging.proofs.Kept.{typed}

abbrev pub Handed : {M : Type 0} → Result M Refusal → Refusal → Type 0
Handed r e = IsErr r × IsErrAnd r (λ y. y ≡ e)

abbrev pub here : Checker → State → Checker
here k t = record k { types = t }

pub sound_here : (c : Scopes) (k : Checker) (t : State) → Same k.types t → Sound k c → Sound (here k t) c
sound_here c k t w s = sound_on k c t s w.kept w.goes

module _ {A M : Type 0} (see : M → List Form → A) (good : State → M → Type 0) where
  -- a type that is made first
  module _ (u : View → Term) (i : View → Term → Judgement A) (c d : Scopes) (k m : Checker) (t : State) (id : TermId) (r : Result M Refusal) where
    pub made_first : Same k.types t → ((later : List Form) → Later t.forms later → term later id ≡ u (view later t.listed c)) → Answers see good (λ v. i v (term v.later id)) c (here k t) d m r → Answers see good (λ v. i v (u v)) c k d m r
    made_first w e h =
        after see good (λ v. i v (u v)) c c d k (here k t) m r w.goes w.stands refl
        (seen_as see good (λ v. i v (u v)) (λ v. i v (term v.later id)) c d (here k t) m r (λ later z. ap (i (view later t.listed c)) (sym (e later z))) h)

  -- where the names of types are as they were again
  module _ (j i : View → Judgement A) (c d : Scopes) (k l : Checker) (t u : TypeNames) (e : (later : List Form) → j (view later k.types.listed c) ≡ i (view later k.types.listed (typed c t))) where
    pub typed_back : (r : Result M Refusal) → u ≡ c.types → Sound k c → Answers see good i (typed c t) k d l r → Answers see good j c k (typed d u) l r
    typed_back (Err q) f s h = refused_elsewhere see good j i c (typed c t) k (λ later w. e later) d (typed d u) l q h
    typed_back (Ok m) f s h =
        let same : typed d u ≡ c = ap (λ (z : Scopes). typed z u) h.outcome.same ∙ ap (λ (z : TypeNames). typed c z) f in
        let there : Sound l (typed c t) = subst (λ (z : Scopes). Sound l z) h.outcome.same h.outcome.sound in
        given_elsewhere see good j i c (typed c t) k (λ later w. e later) d (typed d u) l m
        (subst (λ (z : Scopes). Sound l z) (sym same) (record { known = there.known; values = there.values; labels = there.labels }))
        same h

    pub typed_not : (q : Refusal) (r : Result M Refusal) → Handed r q → Answers see good i (typed c t) k d l (Err q) → Answers see good j c k d l r
    typed_not q (Ok m) g h = let z : false ≡ true = g.0 in cc
    typed_not q (Err x) g h = subst (λ (z : Refusal). Answers see good j c k d l (Err z)) (sym g.1) (refused_elsewhere see good j i c (typed c t) k (λ later w. e later) d d l q h)

-- with other names of types in scope
pub sound_typed : (c : Scopes) (k : Checker) (t : TypeNames) → Sound k c → Sound k (typed c t)
sound_typed c k t s = record { known = s.known; values = s.values; labels = s.labels }

-- names are bound
pub sound_bound : {X M : Type 0} (see : M → List Form → X) (j : View → Judgement (Scope × X)) (c d : Scopes) (k l : Checker) (m : M) → Binds see j c k d l (Ok m) → Sound l d
sound_bound see j c d k l m b = subst (λ (z : Scopes). Sound l z) (sym b.pushed) (sound_under b.more c l b.answer.outcome.sound b.answer.outcome.holds)

-- types that were met are terms of the table
pub each_within : (s : State) (ids : List TermId) → Kept s → Each (IsReached s) ids → Each (Within s.forms) ids
each_within s ids k h = each_map (IsReached s) (Within s.forms) (λ id. reached_within s id k) ids h
