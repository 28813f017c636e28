use Rattle.abstract_parts.proofs.ListMaking.{member_made}
use Rattle.abstract_parts.proofs.tree_walk.TreeWalk.visible.Goals as goal

pub returns : goal.returns
returns g c = member_made c.args.field.now _ _ _ _ _ _ _ c.in_ok-place.ensures c.word_count-words.ensures c.is_public.ensures c.in_ok-form.ensures c.in_ok-made.ensures
