-- Types that pass the limits, and types that get their heads.
use Rattle.std.specs.Prelude.{◌≡◌, ℕ, ◌+◌, ◌≤◌, List, slice_get, slice_set, Some}
use Rattle.mo_types.specs.declared.node.Node.{Node}
use Rattle.mo_types.specs.declared.node.TypeId.{TypeId}
use Rattle.mo_types.specs.Graph.{Slot, Open, Defined, total}
use Rattle.mo_types.specs.Layout.{entries}
use Rattle.type_terms.specs.declared.form.Form.{Form}
use Rattle.type_terms.specs.declared.form.TermId.{TermId}
use Rattle.typing_rules.specs.Terms.{Term}
use Rattle.typing_rules.specs.Counts.{FewTypes}
use Rattle.type_definitions.specs.Tables.{Later}
use Rattle.type_definitions.specs.Definitions.{Listed, rules_in}

-- the types that are met reach too many
abbrev pub Overflows : Listed → List Term → List Form → Type 0
Overflows l met forms = (later : List Form) → Later forms later → FewTypes (rules_in later l) met → ⊥

-- the type of a term waits, under whatever number it is
abbrev pub Waits : List TermId → List Slot → TermId → Type 0
Waits reached slots own = (i : ℕ) → slice_get reached i ≡ Some own → slice_get slots i ≡ Some Open

-- the type of a term has got this head
pub record Given (reached : List TermId) (old : List Slot) (own : TermId) (n : Node TypeId) (new : List Slot) : Type 0 where
  pub place : ℕ
  pub there : slice_get reached place ≡ Some own
  pub slots : new ≡ slice_set old place (Defined n)
  pub fits : total old + entries n ≤ 65536
