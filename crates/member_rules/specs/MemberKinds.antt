-- The members of values, by the heads of their types.
use Rattle.std.specs.Prelude.{List, Option, Some, None, IfSome, option_map, slice_get}
use Rattle.mo_scopes.specs.Scopes.{named}
use Rattle.mo_types.specs.declared.node.Node.{Node}
use Rattle.mo_types.specs.declared.node.Node.TheVariants as node
use Rattle.mo_types.specs.declared.node.Field.{Field}
use Rattle.mo_types.specs.declared.node.TypeId.{TypeId}
use Rattle.mo_types.specs.Sub.{find}
use Rattle.type_terms.specs.declared.form.Form.{Form}
use Rattle.type_terms.specs.declared.form.TermId.{TermId}
use Rattle.typing_rules.specs.AbstractSyntax.{Bytes}
use Rattle.typing_rules.specs.Members.{array_members, member_type, text_members}
use Rattle.typing_rules.specs.Terms.{Term}
use Rattle.type_definitions.specs.Meanings.{term}
use Rattle.type_definitions.specs.Tables.{Within}
use Rattle.met_types.specs.States.{State, IsReached}
use Rattle.member_heads.specs.Members.{MembersHave}
use Rattle.built_in_members.specs.Written.{Added}
use Rattle.member_rules.specs.declared.kinds.Members.{Members}
use Rattle.member_rules.specs.declared.kinds.Members.TheVariants as members

abbrev pub found : {A : Type 0} → Option (Field A) → Members A
found None = members.Nothing
found (Some f) = members.Field f.part

abbrev pub members_at : {A : Type 0} → Bytes → Node A → Members A
members_at x (node.Object fields) = found (find x fields)
members_at x (node.Actor methods) = found (find x methods)
members_at x (node.Array u) = members.Array u
members_at x (node.MutArray u) = members.Array u
members_at x node.Text = members.Text
members_at x _ = members.Nothing

abbrev pub field_or_nothing : Option TermId → Members TermId
field_or_nothing None = members.Nothing
field_or_nothing (Some id) = members.Field id

abbrev pub array_or_nothing : Option TermId → Members TermId
array_or_nothing None = members.Nothing
array_or_nothing (Some id) = members.Array id

-- the same with the terms of types of the graph
abbrev pub members_in : State → Members TypeId → Members TermId
members_in s (members.Field p) = field_or_nothing (slice_get s.reached p.index)
members_in s (members.Array p) = array_or_nothing (slice_get s.reached p.index)
members_in s members.Text = members.Text
members_in s members.Nothing = members.Nothing

-- the type of the member, where this is how the types are seen
abbrev pub meant : {A : Type 0} → (A → Term) → Bytes → Members A → Option Term
meant f x (members.Field u) = Some (f u)
meant f x (members.Array u) = named (array_members (f u)) x
meant f x members.Text = named text_members x
meant f x members.Nothing = None

abbrev pub meant_by : Bytes → Members TermId → List Form → Option Term
meant_by x m later = meant (term later) x m

abbrev pub AreReached : State → Members TermId → Type 0
AreReached s (members.Field id) = IsReached s id
AreReached s (members.Array id) = IsReached s id
AreReached s members.Text = Unit {0}
AreReached s members.Nothing = Unit {0}

-- the type of a member was found or written, if there is such a member
pub record FindsMember (old : State) (id : TermId) (x : Bytes) (o : Option TermId) (new : State) : Type 0 where
  pub added : Added old new
  pub within : IfSome o (Within new.forms)
  pub is : MembersHave (member_type x) new id (λ later. option_map (term later) o)
