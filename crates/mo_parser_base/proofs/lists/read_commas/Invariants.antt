use Rattle.std.proofs.Common.{◌≡◌, ◌-◌}
use Rattle.mo_syntax.specs.declared.token.TokenKind.TheVariants as t
use Rattle.mo_parser_base.specs.Input.{Parser, commas, commas_from}
use Rattle.mo_parser_base.specs.Rules.{Keeps}
use Rattle.mo_parser_base.proofs.lists.read_commas.Given as goal

abbrev pub invariant-loop-turn : goal.invariant-loop-turn
invariant-loop-turn g l =
    (rule : Parser g.row.T.Denot) → Keeps rule (goal.F-post g l.item) → commas rule (t.Mark l.fn.close) l.fn.tokens ≡ commas_from rule (t.Mark l.fn.close) (l._turn-end - l._turn) l.found l.tokens
