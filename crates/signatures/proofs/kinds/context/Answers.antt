use Rattle.std.proofs.Common.{◌∙◌, ℕ, [], ◌∷◌, ◌++◌, List, ap, false}
use Rattle.mo_types.specs.declared.node.Field.{Field}
use Rattle.type_terms.specs.declared.form.TermId.{TermId}
use Rattle.signatures.proofs.Forms.{context_written}
use Rattle.signatures.proofs.kinds.context.Goals as goal

abbrev caller : List ℕ → TermId → Field TermId
caller label part = record { label = label; mutable = false; part = part }

pub returns : goal.returns
returns c =
    context_written c.args.types.now c.principal.new.types c.object.new.types c.object.result c.in_ok-part.part c.push.new.self c.in_ok-from_slice.field-0 c.in_ok-part.ensures (c.in_ok-from_slice.ensures ∙ c.as_slice.ensures)
    (c.in_ok-push.ensures.ok ∙ ap (λ (l : List (Field TermId)). l ++ caller c.in_ok-from_slice.field-0 c.in_ok-part.part ∷ []) c.new-fields.ensures) c.object.ensures
