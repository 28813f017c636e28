use Rattle.std.proofs.Common.{List, map, ap, ◌∙◌}
use Rattle.std.specs.Prelude.{slice_get}
use Rattle.std.proofs.lemmas.Result.{IfOk-weaker}
use Rattle.mo_types.specs.Heads.{map_option}
use Rattle.typed_tree.specs.declared.program.StableVariable.{StableVariable}
use Rattle.arena_keeping.proofs.Found.{taken_there}
use Rattle.arena_keeping.proofs.taking.placed.Goals as goal

pub returns : goal.returns
returns c =
    IfOk-weaker c.kept_at.result _ _
    (λ t h.
    taken_there c.args.old.now.types c.args.new.now c.args.old.now.stable (map (λ p. p.items) c.args.parts.now) c.args.variable.now c.args.place c.in-Some.from c.in-Some-parts_at.saved.now c.args.arena.now c.kept_at.new.arena t
    c.requires (c.in-Some.ensures ∙ ap (λ (l : List StableVariable). map_option (λ v. v.of_type) (slice_get l c.args.place)) c.as_slice.ensures) c.in-Some-parts_at.ensures h)
    c.kept_at.ensures
