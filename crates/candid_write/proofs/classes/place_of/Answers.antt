use Rattle.std.proofs.Common.{◌∙◌, ap}
use Rattle.candid_types.specs.Shapes.{or_empty}
use Rattle.candid_write.specs.Signature.{signature}
use Rattle.candid_write.proofs.PlaceLemmas.{puts}
use Rattle.candid_write.proofs.classes.place_of.Goals as goal

pub returns : goal.returns
returns c = puts _ _ c.in_ok-signature-in-Some.signature _ _ c.in_ok-place.ensures.index c.in_ok-place.ensures.keys (c.in_ok-signature-in-Some.ensures ∙ ap (λ o. signature c.args.classes.now (or_empty o)) c.in-Some.ensures)
