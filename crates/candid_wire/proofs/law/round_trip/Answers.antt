use Rattle.mo_types.specs.Graph.{head_at}
use Rattle.mo_types.specs.Values.{tree}
use Rattle.mo_types.specs.declared.datum.Data.{Data}
use Rattle.candid_wire.proofs.Same.{reads, same, quiet}
use Rattle.candid_wire.proofs.law.round_trip.Goals as goal

pub returns-clause-same : goal.returns-clause-same
returns-clause-same c =
    let read = reads (head_at c.args.types.now) c.args.ids.now c.args.values.now c.in_ok-message.message c.as_slice.result.now c.requires.typed c.requires.sound c.requires.few c.in_ok-message.ensures c.as_slice.ensures in
    same (λ d. d.parts) c.decode.result c.args.values.now (c.decode.ensures.only (tree c.args.values.now) read)

pub returns-clause-quiet : goal.returns-clause-quiet
returns-clause-quiet c =
    let read = reads (head_at c.args.types.now) c.args.ids.now c.args.values.now c.in_ok-message.message c.as_slice.result.now c.requires.typed c.requires.sound c.requires.few c.in_ok-message.ensures c.as_slice.ensures in
    quiet (λ (d : Data). d.parts) c.decode.result c.args.values.now (c.decode.ensures.only (tree c.args.values.now) read)
