use Rattle.std.proofs.Common.{◌<◌, Option, sym, ap, ◌∙◌, subst}
use Rattle.std.specs.Prelude.{IfSome}
use Rattle.mo_types.specs.Heads.{map_option}
use Rattle.mo_machine.specs.Exports.{option_value}
use Rattle.mo_machine.specs.Values.{Made}
use Rattle.value_arena.specs.declared.node.ValueHead.{ValueHead}
use Rattle.value_arena.specs.declared.node.ValueId.{ValueId}
use Rattle.value_arena.specs.Heads.{head_of}
use Rattle.value_arena.specs.Meaning.{value_at, values_at}
use Rattle.arena_saving.proofs.ExportParts.{not_present, only_below, only_is}
use Rattle.arena_saving.proofs.exports.present_in.Goals as goal

pub returns-in-Present-clause-means : goal.returns-in-Present-clause-means
returns-in-Present-clause-means c = λ vs.
    ap (λ (o : Option ValueId). map_option (λ v. value_at vs v) o) c.only.ensures
    ∙ only_is vs c.args.parts.now
    ∙ ap (λ (h : ValueHead). option_value (Made (head_of h) (values_at vs c.args.parts.now))) (sym c.in-Present.is)

pub returns-in-Present-clause-within : goal.returns-in-Present-clause-within
returns-in-Present-clause-within c = λ n below.
    let Of : Option ValueId → Type 0 = λ o. IfSome o (λ v. v.index < n) in
    subst Of (sym c.only.ensures) (only_below n c.args.parts.now below)

pub returns-in_default-clause-means : goal.returns-in_default-clause-means
returns-in_default-clause-means c = λ vs. not_present c.args.head.now (values_at vs c.args.parts.now) c.in_default.not-Present
