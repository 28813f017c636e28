use Rattle.std.proofs.Common.{[]}
use Rattle.abstract_tree.specs.TreeView.{plain_program}
use Rattle.program_fields.proofs.Coming.{comes, kept_of, still_gathered}
use Rattle.program_fields.proofs.fields.judge_fields.Goals as goal

pub returns-clause-come : goal.returns-clause-come
returns-clause-come c =
    comes c.args.program.now c.first_scopes.new.checker c.judge_all-judged.new.checker c.in_ok-scopes.scopes c.judge_all-judged.new.scopes c.terms.result.now c.terms.ensures c.len-terms.ensures.founded c.len-terms.ensures.distinct
    (c.in_ok-scopes.ensures.same.stands [] c.requires.stands) (still_gathered c.args.checker.now.types c.first_scopes.new.checker.types (plain_program c.args.program.now) c.in_ok-scopes.ensures.same c.requires.gathered)
    c.in_ok-scopes.ensures.first c.judge_all-judged.result c.judge_all-judged.ensures

pub returns-clause-kept : goal.returns-clause-kept
returns-clause-kept c =
    kept_of c.args.program.now c.first_scopes.new.checker c.judge_all-judged.new.checker c.in_ok-scopes.scopes c.judge_all-judged.new.scopes c.judge_all-judged.result c.judge_all-judged.ensures
