use Rattle.std.proofs.Common.{◌≡◌, ◌-◌}
use Rattle.mo_parser_base.specs.Input.{Parser, some_semicolons, semicolons_from}
use Rattle.mo_parser_base.specs.Rules.{Keeps}
use Rattle.mo_parser_base.proofs.lists.read_some_semicolons.Given as goal

abbrev pub invariant-loop-turn : goal.invariant-loop-turn
invariant-loop-turn g l =
    (rule : Parser g.row.T.Denot) → Keeps rule (goal.F-post g l.item) → some_semicolons rule l.fn.tokens ≡ semicolons_from rule (l._turn-end - l._turn) l.found l.tokens
