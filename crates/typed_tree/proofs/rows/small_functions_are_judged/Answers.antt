use Rattle.typed_tree.proofs.Generic.{stray_is_refused, actor_is_refused}
use Rattle.typed_tree.proofs.rows.small_functions_are_judged.Goals as goal

pub returns-clause-stray : goal.returns-clause-stray
returns-clause-stray c = λ d none h. stray_is_refused d none h

pub returns-clause-pattern : goal.returns-clause-pattern
returns-clause-pattern c = λ types vs t u x ns h. actor_is_refused types vs t u x ns h
