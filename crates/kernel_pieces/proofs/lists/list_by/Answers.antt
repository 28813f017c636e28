use Rattle.std.proofs.Common.{◌≡◌, ◌∙◌, Bool, true, false, sym, ap}
use Rattle.kernel_parts.specs.Views.{list_of}
use Rattle.kernel_pieces.proofs.Grouped.{list_is}
use Rattle.kernel_pieces.proofs.Valued.{frame_by, last_by, steps_by}
use Rattle.kernel_pieces.proofs.lists.list_by.Goals as goal

pub valued-requires-clause-ends : goal.valued-requires-clause-ends
valued-requires-clause-ends g c = (c.in-Some.ensures c.args.lists.now.layer.types.now).1

pub returns-in-Some : goal.returns-in-Some
returns-in-Some g c =
    let s = c.args.lists.now.layer.types.now in
    let f = c.args.frames.now in
    let ds = c.args.declarations.now in
    let same : list_of s f true ds ≡ list_of s f c.args.has_value ds = ap (λ (v : Bool). list_of s f v ds) (sym (c.in-Some.ensures s).0) in
    record {
      steps = steps_by (list_of s f true ds) (list_of s f c.args.has_value ds) c.valued.new.frames same c.valued.result c.valued.ensures;
      last = last_by (list_of s f true ds) (list_of s f c.args.has_value ds) c.valued.new.frames same c.valued.result c.valued.ensures;
      frame = frame_by (list_of s f true ds) (list_of s f c.args.has_value ds) c.valued.new.frames same c.valued.result c.valued.ensures;
    }

pub returns : goal.returns
returns g c =
    let s = c.args.lists.now.layer.types.now in
    let f = c.args.frames.now in
    let ds = c.args.declarations.now in
    let same : list_of s f false ds ≡ list_of s f c.args.has_value ds = list_is s f false ds ∙ (sym (c.in-None.ensures s f) ∙ sym (list_is s f c.args.has_value ds)) in
    record {
      steps = steps_by (list_of s f false ds) (list_of s f c.args.has_value ds) c.whole.new.frames same c.whole.result c.whole.ensures;
      last = last_by (list_of s f false ds) (list_of s f c.args.has_value ds) c.whole.new.frames same c.whole.result c.whole.ensures;
      frame = frame_by (list_of s f false ds) (list_of s f c.args.has_value ds) c.whole.new.frames same c.whole.result c.whole.ensures;
    }
