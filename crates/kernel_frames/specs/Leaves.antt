-- What can be left, as the code has it.
use Rattle.std.specs.Prelude.{Bool}
use Rattle.desugaring.specs.Frames as f
use Rattle.kernel_frames.specs.declared.exits.Exit.{Exit}
use Rattle.kernel_frames.specs.declared.exits.Exit.TheVariants as e
use Rattle.kernel_frames.specs.declared.exits.Leaving.{Leaving}
use Rattle.kernel_frames.specs.declared.exits.Leaving.TheVariants as l

abbrev pub seen_exit : Exit → f.Exit
seen_exit (e.Labelled x) = f.Labelled x
seen_exit (e.Continued x) = f.Continued x
seen_exit e.Optional = f.Optional
seen_exit e.Returned = f.Returned

-- whether it is what is to be left
abbrev pub leaves : Leaving → f.Exit → Bool
leaves (l.Label x) = f.is_label x.now
leaves (l.Loop x) = f.is_continued x.now
leaves l.Optional = f.is_optional
leaves l.Function = f.is_returned
