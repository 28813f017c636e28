use Rattle.std.proofs.Common.{ℕ, subst}
use Rattle.abstract_tree.specs.declared.declarations.DeclarationForm.{DeclarationForm}
use Rattle.abstract_tree.specs.TreeView.{plain_declaration_form}
use Rattle.typing_rules.specs.PublicFields.{PublicField}
use Rattle.annotated_names.specs.Verdicts.{IsVerdict}
use Rattle.public_fields.proofs.Listing.{by_public, not_public}
use Rattle.public_fields.proofs.fields.field.Goals as goal

pub returns-then-one : goal.returns-then-one
returns-then-one c =
    by_public c.args.one.now.public (plain_declaration_form c.args.one.now.form) c.public_field.result c.if-one.true
    (subst (λ (f : DeclarationForm ℕ). IsVerdict (PublicField (plain_declaration_form f)) c.public_field.result) c.get.ensures c.public_field.ensures)

pub returns-else-one : goal.returns-else-one
returns-else-one c = not_public c.args.one.now.public (plain_declaration_form c.args.one.now.form) c.if-one.false
