-- The members of arrays and texts by their names.
use Rattle.std.specs.Prelude.{List, [], ◌∷◌, codes}
use Rattle.typing_rules.specs.AbstractSyntax.{Bytes}
use Rattle.typing_rules.specs.Members.{function, iterator}
use Rattle.typing_rules.specs.Terms.{Term, nat}
use Rattle.built_in_members.specs.declared.value_members.ValueMember.{ValueMember}
use Rattle.built_in_members.specs.declared.value_members.ValueMember.TheVariants as member

abbrev pub array_names : List (Bytes × ValueMember)
array_names = (codes "size", member.Size) ∷ (codes "vals", member.Items) ∷ (codes "keys", member.Keys) ∷ []

abbrev pub text_names : List (Bytes × ValueMember)
text_names = (codes "size", member.Size) ∷ (codes "chars", member.Items) ∷ []

-- the type of a member of what has items of this type
abbrev pub value_member : Term → ValueMember → Term
value_member u member.Size = function [] nat
value_member u member.Items = function [] (iterator u)
value_member u member.Keys = function [] (iterator nat)
