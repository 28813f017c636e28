use Rattle.std.proofs.Common.{[], Some, ap}
use Rattle.mo_types.specs.Values.{Nil}
use Rattle.mo_values.specs.Shapes.{Bytes}
use Rattle.arena_coding.proofs.Written.{ok_more}
use Rattle.arena_coding.proofs.writing.empty_message.Goals as goal

pub returns : goal.returns
returns c = ok_more _ _ c.encode.result c.encode.ensures (λ bytes code coding faithful. ap (λ (b : Bytes). Some b) (faithful.codes c.args.types.now [] Nil bytes code))
