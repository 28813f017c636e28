-- Rules by their steps: a part and then what follows, a fault, and the end.
use Rattle.std.proofs.Common.{◌≡◌, ◌∙◌, ℕ, true, false, List, Ok, Err, refl, sym, subst}
use Rattle.std.specs.Prelude.{Result}
use Rattle.std.specs.Result.{IsErr, IsErrAnd}
use Rattle.type_terms.specs.declared.form.Form.{Form}
use Rattle.typing_rules.specs.declared.condition.Condition.{Condition}
use Rattle.typing_rules.specs.Terms.{Term}
use Rattle.typing_rules.specs.Judgements.{Judgement, Gives, Fails, Part}
use Rattle.typing_rules.specs.Answers.{Fault, fault, answer, Comes}
use Rattle.type_definitions.specs.Tables.{Later}
use Rattle.type_definitions.specs.Definitions.{Listed, rules_in}
use Rattle.type_definitions.proofs.Meanings.{grows_on, grows_not, later_on}
use Rattle.met_types.specs.States.{State, Stands, Goes, Left}
use Rattle.type_judgements.specs.Judged.{Gave, Names}
use Rattle.type_judgements.specs.Refusals.{memory}
use Rattle.type_judgements.specs.declared.refusal.Refusal.{Refusal}
use Rattle.type_judgements.specs.declared.refusal.Refusal.TheVariants as refusal
use Rattle.type_judgements.proofs.Turns.{gave_then, names_first, names_then}
use Rattle.value_scopes.specs.declared.scopes.Scopes.{Scopes}
use Rattle.judging.specs.declared.checker.Checker.{Checker}
use Rattle.judging.specs.Parts.{Sound}
use Rattle.judging.specs.Views.{View, view}
use Rattle.judging.specs.Answers.{Outcome, Answers}

pub goes_on_from : (a b c : State) → Goes a b → Goes b c → Goes a c
goes_on_from a b c x y = record {
  forms = grows_on a.forms b.forms c.forms x.forms y.forms;
  listed = y.listed ∙ x.listed;
  outcomes = y.outcomes ∙ x.outcomes;
  reached = λ i u h. y.reached i u (x.reached i u h);
}

pub left_from : (a b c : State) → Goes a b → Left b c → Left a c
left_from a b c x y = record { forms = grows_on a.forms b.forms c.forms x.forms y.forms; listed = y.listed ∙ x.listed }

module _ {A M : Type 0} (see : M → List Form → A) (good : State → M → Type 0) where
  -- there was no memory
  pub no_memory : (j : View → Judgement A) (c d : Scopes) (k l : Checker) (r : Result M Refusal) → IsErr r × IsErrAnd r (λ e. e ≡ memory) → Answers see good j c k d l r
  no_memory j c d k l (Ok a) h = let z : false ≡ true = h.0 in cc
  no_memory j c d k l (Err e) h = subst (λ x. Answers see good j c k d l (Err x)) (sym h.1) (record { outcome = tt })

  -- a judgement at the same definitions and names
  moved : (j : View → Judgement A) (c d : Scopes) (x y : Listed) (s t : State) (a : List Form → A) → x ≡ y → d ≡ c → Gave (λ later. j (view later x d)) s t a → Gave (λ later. j (view later y c)) s t a
  moved j c d x y s t a e f g =
      subst (λ (z : Scopes). Gave (λ later. j (view later y z)) s t a) f (subst (λ (z : Listed). Gave (λ later. j (view later z d)) s t a) e g)

  moved_names : (j : View → Judgement A) (c d : Scopes) (x y : Listed) (s t : State) (g : Fault) → x ≡ y → d ≡ c → Names (λ later. j (view later x d)) s t g → Names (λ later. j (view later y c)) s t g
  moved_names j c d x y s t g e f h =
      subst (λ (z : Scopes). Names (λ later. j (view later y z)) s t g) f (subst (λ (z : Listed). Names (λ later. j (view later z d)) s t g) e h)

  -- what is judged is what this is, by what is known there
  pub seen_as : (j i : View → Judgement A) (c d : Scopes) (k l : Checker) (r : Result M Refusal)
      → ((later : List Form) → Later k.types.forms later → j (view later k.types.listed c) ≡ i (view later k.types.listed c)) → Answers see good i c k d l r → Answers see good j c k d l r
  seen_as j i c d k l r e h = record { outcome = by r h.outcome } where
    by : (r : Result M Refusal) → Outcome see good i c k d l r → Outcome see good j c k d l r
    by (Ok a) x = record {
      sound = x.sound;
      same = x.same;
      goes = x.goes;
      holds = x.holds;
      gave = record {
        by = λ met st later w.
            let y = x.gave.by met st later w in
            (y.0, y.1, subst (λ (z : Judgement A). Comes (rules_in later l.types.listed) z met (answer (Ok (see a later)) y.0)) (sym (e later (later_on k.types.forms l.types.forms later x.goes.forms w))) y.2);
      };
    }
    by (Err (refusal.False place q)) x = record {
      left = x.left;
      names = record {
        by = λ met st later w.
            let y = x.names.by met st later w in
            (y.0, subst (λ (z : Judgement A). Comes (rules_in later l.types.listed) z met (answer (Err (fault q place)) y.0)) (sym (e later (later_on k.types.forms l.types.forms later x.left.forms w))) y.1);
      };
    }
    by (Err refusal.Memory) x = tt

  -- more terms were made before
  pub after : (j : View → Judgement A) (c d e : Scopes) (k l m : Checker) (r : Result M Refusal) → Goes k.types l.types → ((met : List Term) → Stands met k.types → Stands met l.types) → d ≡ c
      → Answers see good j d l e m r → Answers see good j c k e m r
  after j c d e k l m r g s q h = record { outcome = by r h.outcome } where
    by : (r : Result M Refusal) → Outcome see good j d l e m r → Outcome see good j c k e m r
    by (Ok a) x = record {
      sound = x.sound;
      same = x.same ∙ q;
      goes = goes_on_from k.types l.types m.types g x.goes;
      holds = x.holds;
      gave = record { by = λ met st later w. (moved j c d l.types.listed k.types.listed l.types m.types (see a) g.listed q x.gave).by met (s met st) later w };
    }
    by (Err (refusal.False place y)) x = record {
      left = left_from k.types l.types m.types g x.left;
      names = record { by = λ met st later w. (moved_names j c d l.types.listed k.types.listed l.types m.types (fault y place) g.listed q x.names).by met (s met st) later w };
    }
    by (Err refusal.Memory) x = tt

  -- it is given
  pub given : (j : View → Judgement A) (c : Scopes) (k : Checker) (made : M) → Sound k c → good k.types made
      → ((later : List Form) → Later k.types.forms later → j (view later k.types.listed c) ≡ Gives (see made later)) → Answers see good j c k c k (Ok made)
  given j c k made s g e = record {
    outcome = record {
      sound = s;
      same = refl;
      goes = record { forms = grows_not k.types.forms; listed = refl; outcomes = refl; reached = λ i u h. h };
      holds = g;
      gave = record {
        by = λ met st later w. (met, st, subst (λ (z : Judgement A). Comes (rules_in later k.types.listed) z met (answer (Ok (see made later)) met)) (sym (e later w)) refl);
      };
    };
  }

  -- the condition is false there
  pub fails : (j : View → Judgement A) (c : Scopes) (k : Checker) (x : Condition) (place : ℕ)
      → ((later : List Form) → Later k.types.forms later → j (view later k.types.listed c) ≡ Fails x place) → Answers see good j c k c k (Err (refusal.False place x))
  fails j c k x place e = record {
    outcome = record {
      left = record { forms = grows_not k.types.forms; listed = refl };
      names = record {
        by = λ met st later w. (met, subst (λ (z : Judgement A). Comes (rules_in later k.types.listed) z met (answer (Err (fault x place)) met)) (sym (e later w)) refl);
      };
    };
  }

  module _ {B N : Type 0} (seen : N → List Form → B) (fine : State → N → Type 0) (j : View → Judgement B) (i : View → B → Judgement A) where
    -- a part, and then what follows from what it gives
    pub goes_on : (c d e : Scopes) (k l m : Checker) (b : N) (r : Result M Refusal) → Answers seen fine j c k d l (Ok b) → Answers see good (λ v. i v (seen b v.later)) d l e m r
        → Answers see good (λ v. Part (j v) (i v)) c k e m r
    goes_on c d e k l m b r f h = record { outcome = by r h.outcome } where
      by : (r : Result M Refusal) → Outcome see good (λ v. i v (seen b v.later)) d l e m r → Outcome see good (λ v. Part (j v) (i v)) c k e m r
      by (Ok a) x = record {
        sound = x.sound;
        same = x.same ∙ f.outcome.same;
        goes = goes_on_from k.types l.types m.types f.outcome.goes x.goes;
        holds = x.holds;
        gave = gave_then (λ later. j (view later k.types.listed c)) (λ later. i (view later k.types.listed c)) k.types l.types m.types (seen b) (see a) f.outcome.gave x.goes
            (moved (λ v. i v (seen b v.later)) c d l.types.listed k.types.listed l.types m.types (see a) f.outcome.goes.listed f.outcome.same x.gave);
      }
      by (Err (refusal.False place q)) x = record {
        left = left_from k.types l.types m.types f.outcome.goes x.left;
        names = names_then (λ later. j (view later k.types.listed c)) (λ later. i (view later k.types.listed c)) k.types l.types m.types (seen b) (fault q place) f.outcome.gave x.left
            (moved_names (λ v. i v (seen b v.later)) c d l.types.listed k.types.listed l.types m.types (fault q place) f.outcome.goes.listed f.outcome.same x.names);
      }
      by (Err refusal.Memory) x = tt

    -- a part that names a fault
    pub stops : (c d : Scopes) (k l : Checker) (x : Refusal) (r : Result M Refusal) → IsErr r × IsErrAnd r (λ e. e ≡ x) → Answers seen fine j c k d l (Err x) → Answers see good (λ v. Part (j v) (i v)) c k d l r
    stops c d k l x (Ok a) g h = let z : false ≡ true = g.0 in cc
    stops c d k l x (Err e) g h = subst (λ y. Answers see good (λ v. Part (j v) (i v)) c k d l (Err y)) (sym g.1) (record { outcome = first x h.outcome }) where
      first : (x : Refusal) → Outcome seen fine j c k d l (Err x) → Outcome see good (λ v. Part (j v) (i v)) c k d l (Err x)
      first (refusal.False place q) y = record { left = y.left; names = names_first (λ later. j (view later k.types.listed c)) (λ later. i (view later k.types.listed c)) k.types l.types (fault q place) y.names }
      first refusal.Memory y = tt
