use Rattle.std.proofs.Common.{[], ◌∷◌, ap, ◌∙◌, is_some, sym}
use Rattle.mo_name_table.proofs.Finding.{among}
use Rattle.desugaring.specs.FreeNames.{without}
use Rattle.kernel_names.proofs.Collecting.{is_bound, is_free, same_more}
use Rattle.kernel_names.proofs.names.push_unless.Goals as goal

pub returns-then-is_some : goal.returns-then-is_some
returns-then-is_some c =
    is_bound c.args.bound.now c.args.name.now c.args.names.now (sym (among c.args.bound.now c.args.name.now) ∙ sym (ap is_some c.find.ensures.last) ∙ sym c.is_some.ensures ∙ c.if-is_some.true)

pub returns : goal.returns
returns c =
    same_more c.push_copy.result (without c.args.bound.now (c.args.name.now ∷ [])) (c.args.name.now ∷ []) c.args.names.now c.push_copy.new.names c.push_copy.ensures
    (is_free c.args.bound.now c.args.name.now (sym (among c.args.bound.now c.args.name.now) ∙ sym (ap is_some c.find.ensures.last) ∙ sym c.is_some.ensures ∙ c.if-is_some.false))
