use Rattle.typed_tree.proofs.Views.{pattern_views, form_views, declaration_views}
use Rattle.typed_tree.proofs.laws.trees_stand_for_expressions.Goals as goal

pub returns-clause-patterns : goal.returns-clause-patterns
returns-clause-patterns c = pattern_views

pub returns-clause-forms : goal.returns-clause-forms
returns-clause-forms c = form_views

pub returns-clause-declarations : goal.returns-clause-declarations
returns-clause-declarations c = declaration_views
