use Rattle.std.proofs.Common.{map, ap, ◌∙◌}
use Rattle.candid_types.specs.Shapes.{ref_of}
use Rattle.candid_read.proofs.Numbered.{skipped_all, leaves_all, breaks}
use Rattle.candid_read.proofs.skip.skip_known.Goals as goal

pub returns-clause-found : goal.returns-clause-found
returns-clause-found c =
    skipped_all c.args.types.now c.args.known.now c.requires c.args.ids.now c.as_slice.result.now (ap (map ref_of) c.as_slice.ensures.value ∙ c.in_ok-ids.ensures) (λ x. x.now) c.skip_parts.result c.args.bytes.now c.skip_parts.ensures.found

pub returns-clause-only : goal.returns-clause-only
returns-clause-only c =
    leaves_all c.args.types.now c.args.known.now c.requires c.args.ids.now c.as_slice.result.now (ap (map ref_of) c.as_slice.ensures.value ∙ c.in_ok-ids.ensures) (λ x. x.now) c.skip_parts.result c.args.bytes.now c.skip_parts.ensures.found c.skip_parts.ensures.fault

pub returns-clause-fault : goal.returns-clause-fault
returns-clause-fault c =
    breaks c.args.types.now c.args.known.now c.requires c.args.ids.now c.as_slice.result.now (ap (map ref_of) c.as_slice.ensures.value ∙ c.in_ok-ids.ensures) c.skip_parts.result c.args.bytes.now c.skip_parts.ensures.fault
