use Rattle.std.proofs.Common.{rules, arith}
use Rattle.std.proofs.lemmas.Grind.{common_steps}
use Rattle.mo_parser_base.proofs.Turns.{one_more, no_more}
use Rattle.mo_parser_programs.specs.Programs.{imports_from}
use Rattle.mo_parser.proofs.program.imports.Goals as goal

pub returns-then-not-begins_import : goal.returns-then-not-begins_import
unfolding imports_from
returns-then-not-begins_import c =
    let e = one_more (λ n. imports_from n c.loop-turn.found c.loop-turn.tokens) _ c.loop-turn._turn c.loop-turn-test.true c.loop-turn.invariant in
    first_of (search rules, grind (arith, common_steps))

pub returns-in_err-one_import : goal.returns-in_err-one_import
unfolding imports_from
returns-in_err-one_import c =
    let e = one_more (λ n. imports_from n c.loop-turn.found c.loop-turn.tokens) _ c.loop-turn._turn c.loop-turn-test.true c.loop-turn.invariant in
    first_of (search rules, grind (arith, common_steps))

pub loop-turn-preserved : goal.loop-turn-preserved
unfolding imports_from
loop-turn-preserved c =
    let e = one_more (λ n. imports_from n c.loop-turn.found c.loop-turn.tokens) _ c.loop-turn._turn c.loop-turn-test.true c.loop-turn.invariant in
    first_of (search rules, grind (arith, common_steps))

pub returns : goal.returns
unfolding imports_from
returns c =
    let e = no_more (λ n. imports_from n c.loop-turn.found c.loop-turn.tokens) _ c.loop-turn._turn c.loop-turn-test.false c.loop-turn.invariant in
    first_of (search rules, grind (arith, common_steps))
