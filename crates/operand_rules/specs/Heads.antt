-- What the heads of types are, in each later table.
use Rattle.std.specs.Prelude.{◌≡◌, Bool, true, false, List}
use Rattle.mo_types.specs.declared.node.Node.{Node}
use Rattle.mo_types.specs.declared.node.Node.TheVariants as node
use Rattle.type_terms.specs.declared.form.Form.{Form}
use Rattle.type_terms.specs.declared.form.TermId.{TermId}
use Rattle.typing_rules.specs.Terms.{Term}
use Rattle.typing_rules.specs.Heads.{head}
use Rattle.type_definitions.specs.Meanings.{term}
use Rattle.type_definitions.specs.Tables.{Later}
use Rattle.type_definitions.specs.Definitions.{rules_in}
use Rattle.met_types.specs.States.{State}

-- this is whether the head of the type is so
abbrev pub HeadIs : (Node Term → Bool) → State → TermId → Bool → Type 0
HeadIs is s id b = (later : List Form) → Later s.forms later → is (head (rules_in later s.listed) (term later id)) ≡ b

-- whether it is ordered, whatever the parts are
abbrev pub ordered_at : {A : Type 0} → Node A → Bool
ordered_at (node.Number k) = true
ordered_at node.Char = true
ordered_at node.Text = true
ordered_at _ = false
