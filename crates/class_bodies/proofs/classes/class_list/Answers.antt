use Rattle.std.proofs.Common.{◌∙◌}
use Rattle.class_bodies.proofs.Fielded.{list_comes, ready_class}
use Rattle.class_bodies.proofs.classes.class_list.Goals as goal

pub list_at-made-requires-clause-ready : goal.list_at-made-requires-clause-ready
list_at-made-requires-clause-ready g c =
    ready_class c.args.at c.args.list.now c.args.scopes.now c.args.checker.now c.replace-labels.new.dest (c.replace-labels.ensures.after ∙ c.new-none.ensures) c.class_site-site.result c.class_site-site.ensures c.requires.sound

pub returns : goal.returns
returns g c =
    list_comes c.args.at c.args.list.now c.args.scopes.now c.args.checker.now c.replace-labels.new.dest (c.replace-labels.ensures.after ∙ c.new-none.ensures) c.class_site-site.result c.list_at-made.new.scopes c.list_at-made.new.checker c.list_at-made.result c.replace-labels.result c.replace-labels.ensures.value c.class_site-site.ensures c.requires.sound
    c.list_at-made.ensures.answer
