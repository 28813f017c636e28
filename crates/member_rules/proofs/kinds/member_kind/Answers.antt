use Rattle.std.proofs.Common.{refl}
use Rattle.judging.proofs.Steps.{reached_within}
use Rattle.member_rules.specs.declared.kinds.Members.TheVariants as members
use Rattle.member_rules.proofs.HeadMembers.{array_finds, field_finds, nothing_finds, text_finds}
use Rattle.member_rules.proofs.kinds.member_kind.Goals as goal

pub array_member-requires-clause-element : goal.array_member-requires-clause-element
array_member-requires-clause-element c = reached_within c.args.types.now c.in-Array.item c.requires.kept c.in-Array.ensures.reached

pub returns-in-Field : goal.returns-in-Field
returns-in-Field c = field_finds c.args.label.now c.args.types.now c.requires.kept c.args.id (members.Field c.in-Field.part) c.in-Field.ensures.is c.in-Field.ensures.reached c.in-Field.part refl

pub returns-in-Array : goal.returns-in-Array
returns-in-Array c =
    array_finds c.args.label.now c.args.types.now c.requires.kept c.args.id (members.Array c.in-Array.item) c.in-Array.ensures.is c.in-Array.ensures.reached c.array_member.new.types c.in-Array.item c.array_member.result refl c.array_member.ensures

pub returns-in-Text : goal.returns-in-Text
returns-in-Text c = text_finds c.args.label.now c.args.types.now c.requires.kept c.args.id members.Text c.in-Text.ensures.is c.in-Text.ensures.reached c.text_member.new.types c.text_member.result refl c.text_member.ensures

pub returns-in-Nothing : goal.returns-in-Nothing
returns-in-Nothing c = nothing_finds c.args.label.now c.args.types.now c.requires.kept c.args.id members.Nothing c.in-Nothing.ensures.is c.in-Nothing.ensures.reached refl
