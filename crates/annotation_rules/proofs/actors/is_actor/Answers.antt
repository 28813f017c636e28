use denote.Bor.{Bor}
use Rattle.std.proofs.Common.{◌∙◌, List, ap, is_some, sym}
use Rattle.mo_types.specs.declared.node.Field.{Field}
use Rattle.mo_types.specs.declared.node.TypeId.{TypeId}
use Rattle.annotation_rules.proofs.ActorTexts.{actor_there, there_seen}
use Rattle.annotation_rules.proofs.actors.is_actor.Goals as goal

pub returns-in-Some : goal.returns-in-Some
returns-in-Some c =
    actor_there c.args.types.now c.args.id c.in-Some.node.now c.in-Some.ensures.there c.is_some.result
    (c.is_some.ensures ∙ (sym (there_seen (λ (r : Bor (List (Field TypeId))). r.now) c.actor_of.result) ∙ ap is_some c.actor_of.ensures))

pub returns-in-None : goal.returns-in-None
returns-in-None c = absurd (c.in-None.ensures.missing c.requires.reached)
