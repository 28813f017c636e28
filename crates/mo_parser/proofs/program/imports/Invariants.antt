use Rattle.std.proofs.Common.{◌≡◌, ◌-◌}
use Rattle.mo_parser_programs.specs.Programs.{imports, imports_from}
use Rattle.mo_parser.proofs.program.imports.Given as goal

abbrev pub invariant-loop-turn : goal.invariant-loop-turn
invariant-loop-turn l = imports l.fn.tokens ≡ imports_from (l._turn-end - l._turn) l.found l.tokens
