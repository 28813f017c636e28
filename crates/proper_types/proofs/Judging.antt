-- What functions of the checker come to, one after another.
use Rattle.std.proofs.Common.{◌≡◌, ℕ, true, false, List, Ok, Err, refl, sym, ◌∙◌, subst}
use Rattle.std.specs.Prelude.{Result}
use Rattle.std.specs.Result.{IsErr, IsErrAnd}
use Rattle.type_terms.specs.declared.form.Form.{Form}
use Rattle.typing_rules.specs.declared.condition.Condition.{Condition}
use Rattle.typing_rules.specs.Judgements.{Judgement, Gives, Fails, Part}
use Rattle.typing_rules.specs.Answers.{Fault, fault, answer, Comes}
use Rattle.type_definitions.specs.Definitions.{Listed, rules_in}
use Rattle.type_definitions.specs.Tables.{Later}
use Rattle.type_definitions.proofs.Meanings.{grows_not, grows_on}
use Rattle.met_types.specs.States.{State, Kept, Goes, Left}
use Rattle.definition_rules.specs.Bounds.{Same}
use Rattle.shareable_types.specs.declared.sharing.Sharing.{Sharing}
use Rattle.shareable_types.proofs.Staying.{stays}
use Rattle.type_judgements.specs.declared.refusal.Refusal.{Refusal}
use Rattle.type_judgements.specs.declared.refusal.Refusal.TheVariants as refusal
use Rattle.type_judgements.specs.Refusals.{memory}
use Rattle.type_judgements.specs.Judged.{Gave, Names}
use Rattle.type_judgements.proofs.Turns.{gave_then, names_first, names_then}
use Rattle.proper_types.specs.Passing.{Ready, Passed, Refused, Judges}
use Rattle.proper_types.specs.Rules.{Rule}

-- ---- states

pub goes_itself : (s : State) → Goes s s
goes_itself s = record { forms = grows_not s.forms; listed = refl; outcomes = refl; reached = λ i u h. h }

pub goes_on : (a b c : State) → Goes a b → Goes b c → Goes a c
goes_on a b c x y = record {
  forms = grows_on a.forms b.forms c.forms x.forms y.forms;
  listed = y.listed ∙ x.listed;
  outcomes = y.outcomes ∙ x.outcomes;
  reached = λ i u h. y.reached i u (x.reached i u h);
}

pub left_itself : (s : State) → Left s s
left_itself s = record { forms = grows_not s.forms; listed = refl }

pub left_on : (a b c : State) → Goes a b → Left b c → Left a c
left_on a b c x y = record { forms = grows_on a.forms b.forms c.forms x.forms y.forms; listed = y.listed ∙ x.listed }

pub left_there : (a b : State) → Goes a b → Left a b
left_there a b x = record { forms = x.forms; listed = x.listed }

pub ready_on : (old new : State) (sharing : Sharing) → Ready old sharing → Kept new → Goes old new → Ready new sharing
ready_on old new sharing r k g = record { kept = k; sent = r.sent; stands = stays old new sharing g r.stands }

-- ---- judgements that are the same

module _ {A : Type 0} (j k : List Form → Judgement A) (old new : State) (e : (later : List Form) → Later new.forms later → j later ≡ k later) where
  pub gave_as : (a : List Form → A) → Gave j old new a → Gave k old new a
  gave_as a g = record {
    by = λ met st later l.
        let x = g.by met st later l in
        (x.0, x.1, subst (λ (m : Judgement A). Comes (rules_in later new.listed) m met (answer (Ok (a later)) x.0)) (e later l) x.2);
  }

  pub names_as : (f : Fault) → Names j old new f → Names k old new f
  names_as f g = record {
    by = λ met st later l.
        let x = g.by met st later l in
        (x.0, subst (λ (m : Judgement A). Comes (rules_in later new.listed) m met (answer (Err f) x.0)) (e later l) x.1);
  }

module _ {A M : Type 0} (j k : Rule A) (old new : State) (sharing : Sharing) (see : M → List Form → A) where
  pub judges_as : (r : Result M Refusal) → ((l : Listed) (later : List Form) → j l later ≡ k l later) → Judges j old new sharing see r → Judges k old new sharing see r
  judges_as (Ok m) e h = record { ready = h.ready; goes = h.goes; gave = gave_as (j old.listed) (k old.listed) old new (λ later x. e old.listed later) (see m) h.gave }
  judges_as (Err (refusal.False place c)) e h = record { left = h.left; names = names_as (j old.listed) (k old.listed) old new (λ later x. e old.listed later) (fault c place) h.names }
  judges_as (Err refusal.Memory) e h = tt

-- ---- parts in turn

module _ {A B : Type 0} (j : Rule B) (k : Listed → List Form → B → Judgement A) where
  pub then_judges : {M : Type 0} (old mid new : State) (a c : Sharing) (b : List Form → B) (see : M → List Form → A) (r : Result M Refusal)
      → Passed (j old.listed) old mid a b → Judges (λ l later. k l later (b later)) mid new c see r → Judges (λ l later. Part (j l later) (k l later)) old new c see r
  then_judges old mid new a c b see (Ok m) p h = record {
    ready = h.ready;
    goes = goes_on old mid new p.goes h.goes;
    gave = gave_then (j old.listed) (k old.listed) old mid new b (see m) p.gave h.goes (subst (λ (l : Listed). Gave (λ later. k l later (b later)) mid new (see m)) p.goes.listed h.gave);
  }
  then_judges old mid new a c b see (Err (refusal.False place f)) p h = record {
    left = left_on old mid new p.goes h.left;
    names = names_then (j old.listed) (k old.listed) old mid new b (fault f place) p.gave h.left (subst (λ (l : Listed). Names (λ later. k l later (b later)) mid new (fault f place)) p.goes.listed h.names);
  }
  then_judges old mid new a c b see (Err refusal.Memory) p h = tt

  -- the first part is refused
  pub first_judges : {M N : Type 0} (old new : State) (a c : Sharing) (see : M → List Form → B) (give : N → List Form → A) (e : Refusal)
      → Judges j old new a see (Err e) → Judges (λ l later. Part (j l later) (k l later)) old new c give (Err e)
  first_judges old new a c see give (refusal.False place f) h = record { left = h.left; names = names_first (j old.listed) (k old.listed) old new (fault f place) h.names }
  first_judges old new a c see give refusal.Memory h = tt

-- a refusal is the same for each function
pub again : {A M N : Type 0} (j : Rule A) (old new : State) (a c : Sharing) (see : M → List Form → A) (give : N → List Form → A) (e : Refusal) → Judges j old new a see (Err e) → Judges j old new c give (Err e)
again j old new a c see give (refusal.False place f) h = h
again j old new a c see give refusal.Memory h = tt

-- a refusal that is handed on
pub handed : {A M N : Type 0} (j : Rule A) (old new : State) (a c : Sharing) (see : M → List Form → A) (give : N → List Form → A) (e : Refusal) (r : Result N Refusal)
    → IsErr r × IsErrAnd r (λ x. x ≡ e) → Judges j old new a see (Err e) → Judges j old new c give r
handed j old new a c see give e (Ok m) h k = let z : false ≡ true = h.0 in cc
handed j old new a c see give e (Err x) h k = subst (λ (y : Refusal). Judges j old new c give (Err y)) (sym h.1) (again j old new a c see give e k)

pub for_memory : {A N : Type 0} (j : Rule A) (old new : State) (c : Sharing) (give : N → List Form → A) (r : Result N Refusal) → IsErr r × IsErrAnd r (λ x. x ≡ memory) → Judges j old new c give r
for_memory j old new c give (Ok m) h = let z : false ≡ true = h.0 in cc
for_memory j old new c give (Err x) h = subst (λ (y : Refusal). Judges j old new c give (Err y)) (sym h.1) tt

-- ---- single steps

pub given : {A : Type 0} (j : List Form → Judgement A) (old new : State) (sharing : Sharing) (a : List Form → A) → Same old new → Ready new sharing → ((later : List Form) → Later new.forms later → Gives (a later) ≡ j later)
    → Passed j old new sharing a
given j old new sharing a same ready e = record {
  ready = ready;
  goes = same.goes;
  gave = gave_as (λ later. Gives (a later)) j old new e a (record { by = λ met st later l. (met, same.stands met st, refl) });
}

pub failed : {A : Type 0} (j : List Form → Judgement A) (old new : State) (c : Condition) (place : ℕ) → Left old new → ((later : List Form) → Later new.forms later → Fails c place ≡ j later) → Refused j old new (fault c place)
failed j old new c place left e = record {
  left = left;
  names = names_as (λ later. Fails c place) j old new e (fault c place) (record { by = λ met st later l. (met, refl) });
}
