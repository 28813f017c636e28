-- Terms that are made before a step, and judgements that are the same in each later table.
use Rattle.std.proofs.Common.{◌≡◌, List, [], Ok, Err, subst}
use Rattle.std.specs.Prelude.{Result}
use Rattle.type_terms.specs.declared.form.Form.{Form}
use Rattle.typing_rules.specs.Contexts.{Scope}
use Rattle.typing_rules.specs.Answers.{Fault, fault}
use Rattle.type_definitions.specs.Definitions.{Listed}
use Rattle.type_definitions.specs.Tables.{Later}
use Rattle.type_definitions.proofs.Meanings.{later_on}
use Rattle.met_types.specs.States.{State}
use Rattle.definition_rules.specs.Bounds.{Same}
use Rattle.shareable_types.specs.declared.sharing.Sharing.{Sharing}
use Rattle.type_judgements.specs.declared.refusal.Refusal.{Refusal}
use Rattle.type_judgements.specs.declared.refusal.Refusal.TheVariants as refusal
use Rattle.type_judgements.specs.Judged as judged
use Rattle.type_judgements.specs.Judged.{Gave}
use Rattle.proper_types.specs.Passing.{Judges}
use Rattle.proper_types.specs.Rules.{Rule}
use Rattle.proper_types.proofs.Judging.{gave_as, goes_on, left_on, names_as}
use Rattle.typed_patterns.specs.Binding.{Names, Pushes, bind}

-- ---- terms are made first

module _ {A : Type 0} (j : Rule A) (old mid new : State) (same : Same old mid) where
  gave_before : (a : List Form → A) → Gave (j mid.listed) mid new a → Gave (j old.listed) old new a
  gave_before a g = subst (λ (d : Listed). Gave (j d) old new a) same.goes.listed (record { by = λ met st later l. g.by met (same.stands met st) later l })

  names_before : (f : Fault) → judged.Names (j mid.listed) mid new f → judged.Names (j old.listed) old new f
  names_before f g = subst (λ (d : Listed). judged.Names (j d) old new f) same.goes.listed (record { by = λ met st later l. g.by met (same.stands met st) later l })

  pub judges_before : {M : Type 0} (c : Sharing) (see : M → List Form → A) (r : Result M Refusal) → Judges j mid new c see r → Judges j old new c see r
  judges_before c see (Ok m) h = record { ready = h.ready; goes = goes_on old mid new same.goes h.goes; gave = gave_before (see m) h.gave }
  judges_before c see (Err (refusal.False place x)) h = record { left = left_on old mid new same.goes h.left; names = names_before (fault x place) h.names }
  judges_before c see (Err refusal.Memory) h = tt

module _ {X M : Type 0} (j : Rule (Scope × X)) (old mid new : State) (same : Same old mid) (c : Sharing) (before after : Names) (see : M → List Form → X) where
  pub pushes_before : (r : Result M Refusal) → Pushes j mid new c before after see r → Pushes j old new c before after see r
  pushes_before (Ok m) h = record {
    more = h.more;
    names = h.names;
    reached = h.reached;
    passed = judges_before j old mid new same c (λ (u : Unit {0}). bind h.more (see m)) (Ok tt) h.passed;
  }
  pushes_before (Err (refusal.False place x)) h = judges_before j old mid new same c (λ (m : M) later. bind [] (see m) later) (Err (refusal.False place x)) h
  pushes_before (Err refusal.Memory) h = tt

-- ---- judgements that are the same in each later table

module _ {A M : Type 0} (j k : Rule A) (old new : State) (c : Sharing) (see : M → List Form → A) (e : (later : List Form) → Later old.forms later → j old.listed later ≡ k old.listed later) where
  pub judges_there : (r : Result M Refusal) → Judges j old new c see r → Judges k old new c see r
  judges_there (Ok m) h = record { ready = h.ready; goes = h.goes; gave = gave_as (j old.listed) (k old.listed) old new (λ later l. e later (later_on old.forms new.forms later h.goes.forms l)) (see m) h.gave }
  judges_there (Err (refusal.False place x)) h = record { left = h.left; names = names_as (j old.listed) (k old.listed) old new (λ later l. e later (later_on old.forms new.forms later h.left.forms l)) (fault x place) h.names }
  judges_there (Err refusal.Memory) h = tt

module _ {X M : Type 0} (j k : Rule (Scope × X)) (old new : State) (c : Sharing) (before after : Names) (see : M → List Form → X) (e : (later : List Form) → Later old.forms later → j old.listed later ≡ k old.listed later) where
  pub pushes_there : (r : Result M Refusal) → Pushes j old new c before after see r → Pushes k old new c before after see r
  pushes_there (Ok m) h = record {
    more = h.more;
    names = h.names;
    reached = h.reached;
    passed = judges_there j k old new c (λ (u : Unit {0}). bind h.more (see m)) e (Ok tt) h.passed;
  }
  pushes_there (Err (refusal.False place x)) h = judges_there j k old new c (λ (m : M) later. bind [] (see m) later) e (Err (refusal.False place x)) h
  pushes_there (Err refusal.Memory) h = tt
