use Rattle.std.proofs.Common.{◌∙◌, ℕ, Bool, ap}
use Rattle.desugaring.specs.Frames.{found}
use Rattle.kernel_nodes.specs.Made.{named_at}
use Rattle.kernel_nodes.proofs.Rolling.{if_same}
use Rattle.kernel_forms.proofs.without.name.Goals as goal

pub returns : goal.returns
returns c =
    if_same c.of_names.result (named_at c.args.types.now c.args.note.kind c.find-found.result.index c.find-found.result.is_cell) (named_at c.args.types.now c.args.note.kind (found c.args.frames.now c.args.name.now).index (found c.args.frames.now c.args.name.now).cell)
    (ap (λ (n : ℕ). named_at c.args.types.now c.args.note.kind n c.find-found.result.is_cell) c.find-found.ensures.index ∙ ap (λ (b : Bool). named_at c.args.types.now c.args.note.kind (found c.args.frames.now c.args.name.now).index b) c.find-found.ensures.cell) c.of_names.ensures
