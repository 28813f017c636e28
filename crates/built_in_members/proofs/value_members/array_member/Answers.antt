use Rattle.std.proofs.Common.{None, Some}
use Rattle.mo_scopes.specs.Scopes.{named}
use Rattle.typing_rules.specs.Members.{array_members}
use Rattle.built_in_members.specs.Named.{array_names}
use Rattle.built_in_members.proofs.Interned.{found_written, member_named, none_written}
use Rattle.built_in_members.proofs.value_members.array_member.Goals as goal

pub returns-in_ok-member_kind-in-Some : goal.returns-in_ok-member_kind-in-Some
returns-in_ok-member_kind-in-Some c = λ u w.
    found_written c.args.types.now c.member_kind.new.types c.in-Some.member c.in_ok-member_kind-in-Some.field-0 u (named (array_members u) c.args.name.now) (member_named u array_names c.args.name.now (Some c.in-Some.member) c.in-Some.ensures)
    (c.in_ok-member_kind-in-Some.ensures u w)

pub returns-in-None : goal.returns-in-None
returns-in-None c = λ u w. none_written c.args.types.now (named (array_members u) c.args.name.now) c.requires.kept (member_named u array_names c.args.name.now None c.in-None.ensures)
