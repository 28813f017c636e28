use Rattle.std.proofs.Common.{refl}
use Rattle.type_terms.specs.declared.form.Form.TheVariants as form
use Rattle.typing_rules.specs.Terms as t
use Rattle.written_kinds.proofs.Forms.{written_as}
use Rattle.written_kinds.proofs.kinds.bottom.Goals as goal

pub returns : goal.returns
returns c = written_as c.args.types.now c.intern.new.types c.intern.result c.requires form.Bottom t.Bottom (λ later. refl) c.intern.ensures
