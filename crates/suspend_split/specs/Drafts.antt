-- Code that is made from its end.
use Rattle.core_ir.specs.declared.code.Exit.{Exit}
use Rattle.core_ir.specs.declared.code.Exit.TheVariants as exit
use Rattle.std.specs.Prelude.{ℕ, List, [], ◌∷◌, map, Option, Some, None}
use Rattle.core_ir.specs.declared.code.Instruction.{Instruction}
use Rattle.core_ir.specs.declared.code.Code.{Code as CodeTree}
use Rattle.core_ir.specs.Code.{Code}
use Rattle.core_ir.specs.CodeView.{Names, code_of, exit_code, instruction}
use Rattle.core_laws.specs.Split.{Segments}
use Rattle.suspend_split.specs.declared.draft.Draft.{Draft}

-- instructions from the last to the first, before the code
abbrev pub before : List Instruction → Names → Code → Code
before [] names c = c
before (i ∷ is) names c = before is names (instruction i names c)

-- instructions from the first to the last, before the code
abbrev pub begun : List Instruction → Names → Code → Code
begun [] names c = c
begun (i ∷ is) names c = instruction i names (begun is names c)

abbrev pub draft_code : Names → Draft → Code
draft_code names d = before d.instructions names (exit_code d.exit)

abbrev pub segment_code : Names → Option CodeTree → Option Code
segment_code names None = None
segment_code names (Some c) = Some (code_of c names)

abbrev pub segments_code : Names → List (Option CodeTree) → Segments
segments_code names segments = map (segment_code names) segments

-- how the parts of a construct end: behind it, or as this segment
abbrev pub next_exit : Option ℕ → Exit
next_exit None = exit.Stop
next_exit (Some j) = exit.Leave j
