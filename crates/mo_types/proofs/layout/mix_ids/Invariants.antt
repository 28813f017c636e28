use Rattle.std.proofs.Common.{◌≡◌, drop, fold}
use Rattle.mo_types.specs.Layout.{mix_id}
use Rattle.mo_types.proofs.layout.mix_ids.Given as goal

abbrev pub invariant-loop-id : goal.invariant-loop-id
invariant-loop-id l = fold mix_id l.mixed (drop l.id-index l.ids) ≡ fold mix_id l.fn.digest l.ids
