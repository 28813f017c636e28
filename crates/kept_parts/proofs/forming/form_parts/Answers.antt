use Rattle.std.proofs.Common.{List, Bool, false, ◌++◌, ◌∷◌, [], reverse, ap, ap₂, ◌∙◌}
use Rattle.mo_types.specs.declared.datum.Datum.{Datum}
use Rattle.mo_types.specs.declared.node.TypeId.{TypeId}
use Rattle.mo_types.specs.Graph.{head_at}
use Rattle.kept_forms.specs.Parts.{formed, waiting}
use Rattle.kept_parts.proofs.FormSteps.{form_on, form_whole}
use Rattle.kept_parts.proofs.forming.form_parts.Goals as goal

pub loop-part-init : goal.loop-part-init
loop-part-init c =
    ap₂ (λ (l : List Datum) (ws : List (TypeId × Bool)). l ++ formed (head_at c.args.types.now) (reverse ws) c.args.parts.now) c.new-found.ensures.items
    (c.in_ok-push.ensures.items ∙ ap (λ (ws : List (TypeId × Bool)). ws ++ (c.args.of_type, false) ∷ []) c.new-waiting.ensures.items)

pub loop-part-preserved : goal.loop-part-preserved
loop-part-preserved c =
    form_on (head_at c.args.types.now) c.args.parts.now (formed (head_at c.args.types.now) (waiting (c.args.of_type ∷ [])) c.args.parts.now) c.loop-part.part-index c.loop-part.waiting.items c.loop-part.found.items c.loop-part.invariant
    c.part-item.result c.form_next.new.waiting.items c.form_next.new.found.items c.loop-part-test.true c.part-item.is c.in_ok-form_next.ensures

pub returns : goal.returns
returns c =
    form_whole (head_at c.args.types.now) c.args.parts.now (formed (head_at c.args.types.now) (waiting (c.args.of_type ∷ [])) c.args.parts.now) c.loop-part.part-index c.loop-part.waiting.items c.loop-part.found.items c.loop-part.invariant
    c.loop-part-test.false
