-- The types that a list defines, one declaration after another.
use Rattle.std.proofs.Common.{◌≡◌, ℕ, List, [], ◌∷◌, Ok, Err, map, refl, sym, ap, ◌∙◌, subst}
use Rattle.std.specs.Prelude.{OnOk, Result}
use Rattle.type_terms.specs.declared.form.Form.{Form}
use Rattle.typing_rules.specs.AbstractSyntax.{Named, TypeNode}
use Rattle.typing_rules.specs.AbstractSyntax as p
use Rattle.typing_rules.specs.Judgements.{Judgement, Part, Fine}
use Rattle.typing_rules.specs.Signatures.{DefinitionsOf}
use Rattle.typing_rules.specs.Types.{Defines, Proper}
use Rattle.typing_rules.specs.TypeScopes.{TypeScope, with_parameters}
use Rattle.type_definitions.specs.Definitions.{Listed, rules_in}
use Rattle.met_types.specs.States.{State}
use Rattle.definition_rules.proofs.Promoting.{same_itself}
use Rattle.shareable_types.specs.declared.sharing.Sharing.{Sharing}
use Rattle.abstract_tree.specs.declared.declarations.Declaration.{Declaration}
use Rattle.abstract_tree.specs.declared.declarations.DeclarationForm.{DeclarationForm}
use Rattle.abstract_tree.specs.TreeView.{DeclarationView, declarations, plain_declaration, plain_declaration_form}
use Rattle.abstract_tree.proofs.TreeViews.{declaration_is}
use Rattle.type_judgements.specs.declared.refusal.Refusal.{Refusal}
use Rattle.type_judgements.specs.Judged.{Judged}
use Rattle.proper_types.specs.Passing.{Ready, Passed, Judges}
use Rattle.proper_types.specs.Rules.{Rule, defines, done, proper}
use Rattle.proper_types.proofs.Judging.{first_judges, given, judges_as, then_judges}
use Rattle.proper_types.proofs.Turns.{part_alike, turns}
use Rattle.typed_patterns.proofs.Joining.{still, still_refused}
use Rattle.list_signatures.specs.Listing.{definition_of, definitions_of}

pub scope_kept : {A E : Type 0} (r : Result A E) {P : Type 0} → P → OnOk r P
scope_kept (Ok a) h = h
scope_kept (Err e) h = tt

-- the types are as they were
still_judged : {A M : Type 0} (j : Rule A) (s : State) (c : Sharing) (see : M → List Form → A) (r : Result M Refusal) → Ready s c → Judged (j s.listed) s s see r → Judges j s s c see r
still_judged j s c see (Ok m) ready h = still (j s.listed) s c (see m) ready h
still_judged j s c see (Err e) ready h = still_refused j s c see e h

module _ (s : TypeScope) where
  -- ---- one declaration

  module _ (f : DeclarationForm ℕ) (w : p.Declaration ℕ) (e : plain_declaration_form f ≡ w) where
    pub by_form : (old new : State) (c : Sharing) (r : Result (Unit {0}) Refusal) → Judges (definition_of s w) old new c done r → Judges (definition_of s (plain_declaration_form f)) old new c done r
    by_form old new c r h = subst (λ (d : p.Declaration ℕ). Judges (definition_of s d) old new c done r) (sym e) h

    pub defines_none : (st : State) (c : Sharing) → ((l : Listed) (later : List Form) → Fine ≡ definition_of s w l later) → Ready st c → Passed (definition_of s (plain_declaration_form f) st.listed) st st c (done tt)
    defines_none st c i ready = by_form st st c (Ok tt) (given (definition_of s w st.listed) st st c (done tt) (same_itself st ready.kept) ready (λ later l. i st.listed later))

    pub class_defines : (x : Named) (st : State) (c : Sharing) (r : Result (Unit {0}) Refusal) → ((l : Listed) (later : List Form) → defines x l later ≡ definition_of s w l later) → Ready st c → Judged (defines x st.listed) st st done r
        → Judges (definition_of s (plain_declaration_form f)) st st c done r
    class_defines x st c r i ready h = by_form st st c r (judges_as (defines x) (definition_of s w) st st c done r i (still_judged (defines x) st c done r ready h))

  -- an alias, whose type is as it has to be in the scope that has its parameters
  module _ (t : TypeScope) (x : Named) (ps : List Named) (a : TypeNode) (e : t ≡ with_parameters s ps) where
    abbrev behind : Listed → List Form → Unit {0} → Judgement (Unit {0})
    behind l later u = defines x l later

    abbrev in_parts : Rule (Unit {0})
    in_parts l later = Part (proper t a l later) (behind l later)

    as_alias : (l : Listed) (later : List Form) → in_parts l later ≡ definition_of s (p.TypeAlias x ps a) l later
    as_alias l later = ap (λ (u : TypeScope). Part (Proper (rules_in later l) u a) (λ b. Defines (rules_in later l) x)) e

    pub improper : (old new : State) (b c : Sharing) (r : Refusal) → Judges (proper t a) old new b done (Err r) → Judges (definition_of s (p.TypeAlias x ps a)) old new c done (Err r)
    improper old new b c r h = judges_as in_parts (definition_of s (p.TypeAlias x ps a)) old new c done (Err r) as_alias (first_judges (proper t a) behind old new b c done done r h)

    pub aliased : (old new : State) (c : Sharing) (r : Result (Unit {0}) Refusal) → Passed (proper t a old.listed) old new c (done tt) → Judged (defines x new.listed) new new done r
        → Judges (definition_of s (p.TypeAlias x ps a)) old new c done r
    aliased old new c r h k = judges_as in_parts (definition_of s (p.TypeAlias x ps a)) old new c done r as_alias
        (then_judges (proper t a) behind old new new c c (done tt) done r h (still_judged (defines x) new c done r h.ready k))

  -- ---- several

  abbrev pub one : Listed → List Form → Declaration ℕ → Judgement (Unit {0})
  one l later d = definition_of s (plain_declaration_form d.form) l later

  in_turn : (ds : List (Declaration ℕ)) (l : Listed) (later : List Form) → turns one ds l later ≡ definitions_of s (declarations (map plain_declaration ds)) l later
  in_turn [] l later = refl
  in_turn (d ∷ ds) l later =
      part_alike (one l later d) (turns one ds l later) (definitions_of s (declarations (map plain_declaration ds)) l later) (in_turn ds l later)
      ∙ sym (ap (λ (f : DeclarationView ℕ). DefinitionsOf (rules_in later l) s (f (declarations (map plain_declaration ds)))) (declaration_is d))

  pub all_defined : (ds : List (Declaration ℕ)) (old new : State) (c : Sharing) (r : Result (Unit {0}) Refusal) → Judges (turns one ds) old new c done r → Judges (definitions_of s (declarations (map plain_declaration ds))) old new c done r
  all_defined ds old new c r h = judges_as (turns one ds) (definitions_of s (declarations (map plain_declaration ds))) old new c done r (in_turn ds) h

  -- one of the list, where the names of types are these again
  pub one_there : (t : TypeScope) (d : Declaration ℕ) (f : DeclarationForm ℕ) (old new : State) (c : Sharing) (r : Result (Unit {0}) Refusal) → t ≡ s → f ≡ d.form → Judges (definition_of t (plain_declaration_form f)) old new c done r
      → Judges (λ l later. one l later d) old new c done r
  one_there t d f old new c r e g h =
      subst (λ (u : TypeScope). Judges (definition_of u (plain_declaration_form d.form)) old new c done r) e (subst (λ (w : DeclarationForm ℕ). Judges (definition_of t (plain_declaration_form w)) old new c done r) g h)
