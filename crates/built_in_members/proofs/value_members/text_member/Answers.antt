use Rattle.std.proofs.Common.{None, Some}
use Rattle.mo_scopes.specs.Scopes.{named}
use Rattle.typing_rules.specs.Members.{text_members}
use Rattle.typing_rules.specs.Terms as t
use Rattle.built_in_members.specs.Named.{text_names}
use Rattle.built_in_members.proofs.Interned.{added_on, found_written, member_named, none_written}
use Rattle.built_in_members.proofs.value_members.text_member.Goals as goal

pub member_kind-requires-clause-item : goal.member_kind-requires-clause-item
member_kind-requires-clause-item c = c.in_ok-item-in-Some.ensures.written.within

pub returns-in_ok-member_kind-in-Some : goal.returns-in_ok-member_kind-in-Some
returns-in_ok-member_kind-in-Some c =
    let w = c.in_ok-member_kind-in-Some.ensures t.Character c.in_ok-item-in-Some.ensures.written in
    found_written c.args.types.now c.member_kind.new.types c.in-Some.member c.in_ok-member_kind-in-Some.field-0 t.Character (named text_members c.args.name.now)
    (member_named t.Character text_names c.args.name.now (Some c.in-Some.member) c.in-Some.ensures)
    (record { added = added_on c.args.types.now c.plain.new.types c.member_kind.new.types c.in_ok-item-in-Some.ensures.added w.added; written = w.written })

pub returns-in-None : goal.returns-in-None
returns-in-None c = none_written c.args.types.now (named text_members c.args.name.now) c.requires (member_named t.Character text_names c.args.name.now None c.in-None.ensures)

pub member_kind-requires-clause-kept : goal.member_kind-requires-clause-kept
member_kind-requires-clause-kept c = c.in_ok-item-in-Some.ensures.added.kept
