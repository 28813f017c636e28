use Rattle.std.proofs.Common.{◌≡◌, length, reverse, ◌∷◌, [], refl, ap, ◌∙◌, arith}
use Rattle.std.proofs.lemmas.List.{reverse-append}
use Rattle.std.proofs.lemmas.Result.{on_ok_weaker}
use Rattle.mo_types.specs.Graph.{head_at}
use Rattle.kept_parts.proofs.FormSteps.{none_left}
use Rattle.kept_parts.proofs.UnformSteps.{top_over, top_passed}
use Rattle.kept_parts.proofs.unforming.unform_top.Goals as goal

pub returns-in-Some : goal.returns-in-Some
returns-in-Some c =
    let s = c.args.state.now in
    on_ok_weaker c.unform_typed.result
    (λ h.
    top_passed (head_at c.args.types.now) c.args.part.now s (record s { waiting = c.pop.new.self }) c.unform_typed.new.state c.in-Some.next c.requires
    (ap reverse c.in-Some.ensures.items ∙ reverse-append c.pop.new.self.items (c.in-Some.next ∷ [])) refl h)
    c.unform_typed.ensures

pub returns-in-None : goal.returns-in-None
returns-in-None c =
    let s = c.args.state.now in
    let none : length s.waiting.items ≡ 0 = omega (arith, s.waiting.ok.0, c.in-None.ensures.cases.0) in
    let both = none_left s.waiting.items c.pop.new.self.items none c.in-None.ensures.items in
    top_over (head_at c.args.types.now) c.args.part.now s (record s { waiting = c.pop.new.self }) c.requires c.requires refl both.0 both.1
