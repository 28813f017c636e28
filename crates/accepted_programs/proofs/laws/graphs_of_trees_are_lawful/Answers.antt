use Rattle.accepted_programs.proofs.Programs.{graphs_of_trees_are_lawful}
use Rattle.accepted_programs.proofs.laws.graphs_of_trees_are_lawful.Goals as goal

pub returns : goal.returns
returns c = graphs_of_trees_are_lawful
