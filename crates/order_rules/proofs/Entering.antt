-- Names that declarations bind.
use Rattle.std.proofs.Common.{◌≡◌, true, false, List, [], Ok, Err, subst, sym}
use Rattle.std.specs.Prelude.{Result, OnOk}
use Rattle.std.specs.Result.{IsErr, IsErrAnd}
use Rattle.mo_types.specs.Sub.{Each}
use Rattle.type_terms.specs.declared.form.Form.{Form}
use Rattle.typing_rules.specs.Contexts.{Scope}
use Rattle.typing_rules.specs.Judgements.{Gives, Judgement, Part}
use Rattle.type_definitions.specs.Tables.{Later}
use Rattle.met_types.specs.States.{IsReached, State}
use Rattle.type_judgements.specs.Refusals.{memory}
use Rattle.type_judgements.specs.declared.refusal.Refusal.{Refusal}
use Rattle.value_scopes.specs.declared.scopes.Scopes.{Scopes}
use Rattle.value_scopes.specs.Values.{scope_in}
use Rattle.typed_patterns.specs.Binding.{Names}
use Rattle.judging.specs.declared.checker.Checker.{Checker}
use Rattle.judging.specs.declared.site.Site.{Site}
use Rattle.judging.specs.Parts.{Ready, Sound}
use Rattle.judging.specs.Views.{View, view}
use Rattle.judging.specs.Answers.{Answers}
use Rattle.judging.proofs.Chains.{given, goes_on, no_memory, seen_as, stops}
use Rattle.judging.proofs.Steps.{ready_on}
use Rattle.scope_judging.specs.Binding.{Binds, bound, names_reached, under}
use Rattle.scope_judging.proofs.Under.{anywhere, sound_under}
use Rattle.order_rules.specs.Entries.{Enters, with_reached}

module _ {A M : Type 0} (see : Names → M → List Form → A) (good : State → M → Type 0) where
  -- there was no memory
  pub no_memory_enters : (j : View → Judgement A) (c d : Scopes) (k l : Checker) (r : Result M Refusal) → IsErr r × IsErrAnd r (λ e. e ≡ memory) → Enters see good j c k d l r
  no_memory_enters j c d k l (Ok m) h = let z : false ≡ true = h.0 in cc
  no_memory_enters j c d k l (Err e) h = record { more = []; answer = no_memory (see []) (with_reached good []) j c c k l (Err e) h; pushed = tt }

  -- what is judged is what this is
  pub enters_as : (j i : View → Judgement A) (c d : Scopes) (k l : Checker) (r : Result M Refusal)
      → ((later : List Form) → Later k.types.forms later → j (view later k.types.listed c) ≡ i (view later k.types.listed c)) → Enters see good i c k d l r → Enters see good j c k d l r
  enters_as j i c d k l r e h = record { more = h.more; answer = seen_as (see h.more) (with_reached good h.more) j i c c k l r e h.answer; pushed = h.pushed }

  -- it is given with these names
  pub enters_given : (j : View → Judgement A) (c d : Scopes) (k : Checker) (more : Names) (made : M) → Sound k c → good k.types made → Each (λ q. IsReached k.types q.1.kind) more → d ≡ under more c
      → ((later : List Form) → Later k.types.forms later → j (view later k.types.listed c) ≡ Gives (see more made later)) → Enters see good j c k d k (Ok made)
  enters_given j c d k more made s g n p e = record { more = more; answer = given (see more) (with_reached good more) j c k made s (n, g) e; pushed = p }

  module _ {B N : Type 0} (part : N → List Form → B) (fine : State → N → Type 0) (j : View → Judgement B) (i : View → B → Judgement A) where
    -- a part is refused
    pub stops_entering : (c d f : Scopes) (k l : Checker) (x : Refusal) (r : Result M Refusal) → IsErr r × IsErrAnd r (λ e. e ≡ x) → Answers part fine j c k d l (Err x) → Enters see good (λ v. Part (j v) (i v)) c k f l r
    stops_entering c d f k l x (Ok m) g h = let z : false ≡ true = g.0 in cc
    stops_entering c d f k l x (Err e) g h = record {
      more = [];
      answer = anywhere (see []) (with_reached good []) (λ v. Part (j v) (i v)) c d c k l (Err e) g.0 (stops (see []) (with_reached good []) part fine j i c d k l x (Err e) g h);
      pushed = tt;
    }

    -- a part is given, and then names are bound
    pub enters_then : (c d e : Scopes) (k l o : Checker) (y : N) (r : Result M Refusal) → Answers part fine j c k d l (Ok y) → Enters see good (λ v. i v (part y v.later)) d l e o r → Enters see good (λ v. Part (j v) (i v)) c k e o r
    enters_then c d e k l o y r a b = record {
      more = b.more;
      answer = goes_on (see b.more) (with_reached good b.more) part fine j i c c c k l o y r (subst (λ (z : Scopes). Answers part fine j c k z l (Ok y)) a.outcome.same a)
          (subst (λ (z : Scopes). Answers (see b.more) (with_reached good b.more) (λ v. i v (part y v.later)) z l z o r) a.outcome.same b.answer);
      pushed = subst (λ (z : Scopes). OnOk r (e ≡ under b.more z)) a.outcome.same b.pushed;
    }

  -- the names of a pattern
  module _ {X P : Type 0} (pattern : P → List Form → X) (j : View → Judgement (Scope × X)) (i : View → Scope × X → Judgement A) where
    pub unbound_enters : (c d f : Scopes) (k l : Checker) (x : Refusal) (r : Result M Refusal) → IsErr r × IsErrAnd r (λ e. e ≡ x) → Binds pattern j c k d l (Err x) → Enters see good (λ v. Part (j v) (i v)) c k f l r
    unbound_enters c d f k l x r g b = stops_entering (bound b.more pattern) (names_reached b.more) j i c c f k l x r g b.answer

    pub bound_enters : (c d : Scopes) (k l : Checker) (q : P) (made : M) → Binds pattern j c k d l (Ok q) → good l.types made
        → ((more : Names) (later : List Form) → Later l.types.forms later → i (view later l.types.listed c) (scope_in later more, pattern q later) ≡ Gives (see more made later)) → Enters see good (λ v. Part (j v) (i v)) c k d l (Ok made)
    bound_enters c d k l q made b g e = record {
      more = b.more;
      answer = goes_on (see b.more) (with_reached good b.more) (bound b.more pattern) (names_reached b.more) j i c c c k l l q (Ok made) b.answer
          (given (see b.more) (with_reached good b.more) (λ v. i v (bound b.more pattern q v.later)) c l made b.answer.outcome.sound (b.answer.outcome.holds, g) (e b.more));
      pushed = b.pushed;
    }

  -- a rule can be applied there afterwards
  pub ready_entered : (j : View → Judgement A) (c d : Scopes) (k l : Checker) (r : Result M Refusal) (x : Site) → Enters see good j c k d l r → Ready k c x → OnOk r (Ready l d x)
  ready_entered j c d k l (Ok m) x h g =
      ready_on k l c d x g (subst (λ (z : Scopes). Sound l z) (sym h.pushed) (sound_under h.more c l h.answer.outcome.sound h.answer.outcome.holds.0)) h.answer.outcome.goes
  ready_entered j c d k l (Err e) x h g = tt
