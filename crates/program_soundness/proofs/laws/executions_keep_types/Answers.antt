use Rattle.program_soundness.specs.Runs.{Gives, IsValueOf}
use Rattle.program_soundness.proofs.Turns.{turns_fit}
use Rattle.program_soundness.proofs.Typed.{typed_kept}
use Rattle.program_soundness.proofs.laws.executions_keep_types.Goals as goal
use Rattle.program_soundness.specs.Worlds.{running}
use Rattle.program_soundness.proofs.Given.{lawful_types}

pub returns : goal.returns
returns c = λ s graph basics w n d answers kinds h. let lawful = lawful_types s.types graph basics in turns_fit s lawful graph (Gives (running s.types) w) (IsValueOf (running s.types) w) (typed_kept (running s.types) w lawful) n d answers kinds h
