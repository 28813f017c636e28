use Rattle.std.proofs.Common.{ap}
use Rattle.abstract_tree.specs.declared.declarations.DeclarationForm.{DeclarationForm}
use Rattle.value_scopes.specs.declared.note.Note.{Note}
use Rattle.kernel_declarations.specs.Becoming.{becomes_in, becomes_of}
use Rattle.std.proofs.Common.{sym}
use Rattle.kernel_declarations.proofs.Writing.{written_as}
use Rattle.kernel_declarations.proofs.steps.write_declaration.Goals as goal

pub returns : goal.returns
returns g c =
    let s = c.args.lists.now.layer.types.now in
    written_as (becomes_of s c.args.declaration.now.note c.get.result.now) c.args.steps.now c.write_form.new.steps c.args.frames.now c.write_form.new.frames c.write_form.result (becomes_in s c.args.declaration.now)
    (ap (λ (x : DeclarationForm Note). becomes_of s c.args.declaration.now.note x) (sym c.get.ensures)) c.write_form.ensures
