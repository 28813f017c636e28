use Rattle.std.proofs.Common.{◌∙◌, map, option_map, ap, sym}
use Rattle.std.proofs.lemmas.List.{length-map}
use Rattle.std.specs.Prelude.{nat_eq}
use Rattle.abstract_types.specs.TypeView.{type_node}
use Rattle.abstract_tree.specs.TreeView.{plain}
use Rattle.application_rules.proofs.CalleeParts.{empty_written, none_written, too_many}
use Rattle.application_rules.proofs.callees.plain_callee.Goals as goal

pub returns-then-none_written : goal.returns-then-none_written
returns-then-none_written g c =
    empty_written c.args.layer.now.site (plain c.args.f.now) (option_map (map type_node) c.args.types.now) c.args.scopes.now c.part.new.scopes c.args.checker.now c.part.new.checker c.part.result (map type_node c.in-Some.types)
    (ap (option_map (map type_node)) c.in-Some.is) (ap (λ n. nat_eq n 0) (length-map c.in-Some.types type_node) ∙ (sym c.is_empty-none_written.ensures ∙ c.if-none_written.true)) c.part.ensures.answer

pub returns-else-none_written : goal.returns-else-none_written
returns-else-none_written g c =
    too_many c.args.layer.now.site (plain c.args.f.now) (option_map (map type_node) c.args.types.now) c.args.scopes.now c.args.checker.now (map type_node c.in-Some.types) (ap (option_map (map type_node)) c.in-Some.is)
    (ap (λ n. nat_eq n 0) (length-map c.in-Some.types type_node) ∙ (sym c.is_empty-none_written.ensures ∙ c.if-none_written.false))

pub returns-in-None : goal.returns-in-None
returns-in-None g c =
    none_written c.args.layer.now.site (plain c.args.f.now) (option_map (map type_node) c.args.types.now) c.args.scopes.now c.part-in-None.new.scopes c.args.checker.now c.part-in-None.new.checker c.part-in-None.result (ap (option_map (map type_node)) c.in-None.is)
    c.part-in-None.ensures.answer
