use Rattle.std.proofs.Common.{◌∙◌}
use Rattle.kernel_places.proofs.Closed.{front, marked, started}
use Rattle.kernel_places.proofs.placing.places_of_steps.Goals as goal

pub returns : goal.returns
returns c =
    c.from_vec.ensures ∙ front c.in_ok-marks.marks.len c.mark_list.new.marks _ (c.mark_list.auto.marks ∙ c.deref_mut.ensures.len)
    ∙ marked c.args.steps.now c.mark_list.new.marks c.mark_list.new.late
    (c.in_ok-mark_list.ensures (started c.args.steps.now c.deref_mut.result.now c.new-late.result (c.deref_mut.ensures.value ∙ c.in_ok-marks.ensures) c.new-late.ensures))
