use Rattle.std.proofs.Common.{◌++◌, ◌∷◌, [], ap, ◌∙◌}
use Rattle.mo_types.specs.declared.datum.Datum.{Datum}
use Rattle.kept_forms.specs.Parts.{numbers}
use Rattle.kept_parts.proofs.FormSteps.{numbers_on, numbers_whole}
use Rattle.kept_parts.proofs.forming.put_numbers.Goals as goal

pub loop-byte-preserved : goal.loop-byte-preserved
loop-byte-preserved c =
    numbers_on c.args.bytes.now c.loop-byte.byte-index c.loop-byte.found.items c.push.new.self.items (c.args.found.now.items ++ numbers c.args.bytes.now) c.loop-byte-test.true
    (c.in_ok-push.ensures.items ∙ ap (λ (q : Datum). c.loop-byte.found.items ++ q ∷ []) c.number_of.ensures) c.loop-byte.invariant

pub returns : goal.returns
returns c = numbers_whole c.args.bytes.now c.loop-byte.byte-index c.loop-byte.found.items (c.args.found.now.items ++ numbers c.args.bytes.now) c.loop-byte-test.false c.loop-byte.invariant
