-- What is written out is shaped, and so sized.
use Rattle.typed_tree.specs.ProgramView.{program}
use Rattle.desugaring.specs.Programs.{desugared}
use Rattle.machine_nesting.proofs.Sizes.{nested_programs_are_sized}
use Rattle.tree_shapes.proofs.Programs.{programs_nest}
use Rattle.sized_sources.specs.Laws.{WrittenOutProgramsAreSized}

pub written_out_programs_are_sized : WrittenOutProgramsAreSized
written_out_programs_are_sized defs number types source =
    let n = programs_nest defs number types source in
    nested_programs_are_sized (program (desugared defs number types source)) n.light n.shaped
