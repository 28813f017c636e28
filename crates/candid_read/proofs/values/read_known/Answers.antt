use Rattle.std.proofs.Common.{map, ap, ◌∙◌}
use Rattle.candid_types.specs.Shapes.{ref_of}
use Rattle.candid_read.proofs.Numbered.{found_all, only_all, breaks}
use Rattle.candid_read.proofs.values.read_known.Goals as goal

pub returns-clause-found : goal.returns-clause-found
returns-clause-found c =
    found_all c.args.types.now c.args.known.now c.requires c.args.ids.now c.as_slice.result.now (ap (map ref_of) c.as_slice.ensures.value ∙ c.in_ok-ids.ensures) (λ x. x.0.items) (λ x. x.1.now) c.read_parts.result c.args.bytes.now c.read_parts.ensures.found

pub returns-clause-only : goal.returns-clause-only
returns-clause-only c =
    only_all c.args.types.now c.args.known.now c.requires c.args.ids.now c.as_slice.result.now (ap (map ref_of) c.as_slice.ensures.value ∙ c.in_ok-ids.ensures) (λ x. x.0.items) (λ x. x.1.now) c.read_parts.result c.args.bytes.now c.read_parts.ensures.found c.read_parts.ensures.fault

pub returns-clause-fault : goal.returns-clause-fault
returns-clause-fault c =
    breaks c.args.types.now c.args.known.now c.requires c.args.ids.now c.as_slice.result.now (ap (map ref_of) c.as_slice.ensures.value ∙ c.in_ok-ids.ensures) c.read_parts.result c.args.bytes.now c.read_parts.ensures.fault
