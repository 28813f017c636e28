use Rattle.std.proofs.Common.{◌∙◌}
use Rattle.std.proofs.lemmas.Result.{IfOk-weaker}
use Rattle.mo_types.specs.Graph.{head_at}
use Rattle.mo_types.specs.Heads.{map_option}
use Rattle.kept_parts.proofs.Kept.{kept_so}
use Rattle.kept_parts.proofs.keeping.kept_parts.Goals as goal

pub returns-then-not-same : goal.returns-then-not-same
returns-then-not-same c = λ v typed are w keep. c.in_ok-same.ensures.no c.if-not-same.true (keep.types, tt)

pub returns : goal.returns
returns c =
    IfOk-weaker c.value_of.result _ _
    (λ o h v typed are.
    kept_so (head_at c.args.old.now) (head_at c.args.new.now) c.args.from c.args.to v c.args.parts.now c.as_slice.result.now (map_option (λ ps. ps.items) o) (c.in_ok-same.ensures.yes c.if-not-same.false).0 typed are
    (c.as_slice.ensures.value ∙ c.in_ok-candid.ensures) h)
    c.value_of.ensures
