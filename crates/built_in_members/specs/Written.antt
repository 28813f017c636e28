-- Types that are written out as terms.
use Rattle.std.specs.Prelude.{◌≡◌, false, List, [], ◌∷◌, Option, Some, None}
use Rattle.mo_scopes.specs.declared.library.Member.{Member}
use Rattle.mo_types.specs.declared.node.Field.{Field}
use Rattle.type_terms.specs.declared.form.Form.{Form}
use Rattle.type_terms.specs.declared.form.TermId.{TermId}
use Rattle.typing_rules.specs.AbstractSyntax.{Bytes}
use Rattle.typing_rules.specs.Members.{element, member_bound}
use Rattle.typing_rules.specs.Terms.{Term}
use Rattle.typing_rules.specs.Terms as t
use Rattle.type_definitions.specs.Meanings.{term, term_of}
use Rattle.type_definitions.specs.Tables.{Later, Within}
use Rattle.met_types.specs.States.{State, Goes, IsTerm, Kept, Stands}
use Rattle.value_scopes.specs.declared.bound.Bound.{Bound}
use Rattle.value_scopes.specs.Values.{bound_in}

-- the term of a form without parts
abbrev pub plain_term : Form → Term
plain_term f = term_of (λ id. t.Bottom) f

abbrev pub plain_field : Bytes → TermId → Field TermId
plain_field x id = record { label = x; mutable = false; part = id }

-- in each later table this is the term of the form
abbrev pub IsTermIn : State → Form → Term → Type 0
IsTermIn s f u = (later : List Form) → Later s.forms later → term_of (term later) f ≡ u

-- it stands in the table
pub record Written (s : State) (id : TermId) (u : Term) : Type 0 where
  pub within : Within s.forms id
  pub is : IsTerm s id u

abbrev pub AreWritten : State → List TermId → List Term → Type 0
AreWritten s [] [] = Unit {0}
AreWritten s (id ∷ ids) (u ∷ us) = Written s id u × AreWritten s ids us
AreWritten s _ _ = ⊥

abbrev pub FoundWritten : State → Option TermId → Option Term → Type 0
FoundWritten s None None = Unit {0}
FoundWritten s (Some id) (Some u) = Written s id u
FoundWritten s _ _ = ⊥

-- Terms were added to the table. What was met is as before.
pub record Added (old new : State) : Type 0 where
  pub kept : Kept new
  pub goes : Goes old new
  pub stands : (met : List Term) → Stands met old → Stands met new

-- a type was written
pub record Writes (old : State) (u : Term) (id : TermId) (new : State) : Type 0 where
  pub added : Added old new
  pub written : Written new id u

-- the type of a member was written, if there is such a member
pub record WritesFound (old : State) (o : Option Term) (found : Option TermId) (new : State) : Type 0 where
  pub added : Added old new
  pub written : FoundWritten new found o

-- what a member of a module stands for
pub record WritesBound (old : State) (m : Member) (b : Bound) (new : State) : Type 0 where
  pub added : Added old new
  pub within : Within new.forms b.kind
  pub is : (later : List Form) → Later new.forms later → bound_in later b ≡ member_bound m

-- the type parameter of a member, and both arrays of it
pub record WritesArrays (old : State) (id plain variable : TermId) (new : State) : Type 0 where
  pub added : Added old new
  pub own : Written new id element
  pub array : Written new plain (t.Array element)
  pub mutable : Written new variable (t.MutableArray element)
