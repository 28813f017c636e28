-- Where a program begins.
use Rattle.std.proofs.Common.{◌≡◌, List, [], Option, Some, None, subst, sym}
use Rattle.mo_types.specs.Sub.{Each}
use Rattle.type_terms.specs.declared.form.Form.{Form}
use Rattle.type_terms.specs.declared.form.TermId.{TermId}
use Rattle.typing_rules.specs.AbstractSyntax.{Bytes}
use Rattle.type_definitions.specs.Tables.{Within}
use Rattle.met_types.specs.States.{State, Kept, Goes, IsReached}
use Rattle.value_scopes.specs.declared.bound.Bound.{Bound}
use Rattle.value_scopes.specs.declared.scopes.Label.{Label}
use Rattle.value_scopes.specs.declared.scopes.Scopes.{Scopes}
use Rattle.value_scopes.specs.Values.{Hold}
use Rattle.judging.specs.declared.checker.Checker.{Checker}
use Rattle.judging.specs.Parts.{Known, Sound}
use Rattle.judging.proofs.Steps.{known_on}
use Rattle.first_scopes.specs.Beginning.{own_names}

own_holds : (forms : List Form) (x : Option Bytes) (id : TermId) → Within forms id → Hold forms (own_names x id)
own_holds forms None id w = tt
own_holds forms (Some x) id w = (w, tt)

-- what is known stays when the type of the program's own name is made
pub begins_sound : (k : Checker) (t : State) (x : Option Bytes) (id : TermId) (s : Scopes) → Known k → Kept t → Goes k.types t → Within t.forms id → s.values ≡ own_names x id → s.labels ≡ []
    → Sound (record k { types = t }) s
begins_sound k t x id s known kept goes w values labels = record {
  known = known_on k t known kept goes;
  values = subst (λ (vs : List (Bytes × Bound)). Hold t.forms vs) (sym values) (own_holds t.forms x id w);
  labels = subst (λ (ls : List (Bytes × Label)). Each (λ q. IsReached t q.1.kind) ls) (sym labels) tt;
}
