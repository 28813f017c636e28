use Rattle.std.proofs.Common.{◌≡◌, length, reverse, ◌∷◌, [], ap, ◌∙◌, arith}
use Rattle.std.proofs.lemmas.List.{reverse-append}
use Rattle.std.proofs.lemmas.Result.{on_ok_weaker}
use Rattle.mo_types.specs.Graph.{head_at}
use Rattle.kept_parts.proofs.FormSteps.{form_over, form_passed, none_left}
use Rattle.kept_parts.proofs.forming.form_next.Goals as goal

pub returns-in-Some : goal.returns-in-Some
returns-in-Some c =
    on_ok_weaker c.form_typed.result
    (λ h ps.
    form_passed (head_at c.args.types.now) c.in-Some.next c.args.part.now c.args.waiting.now.items c.pop.new.self.items c.form_typed.new.waiting.items c.args.found.now.items c.form_typed.new.found.items ps
    (ap reverse c.in-Some.ensures.items ∙ reverse-append c.pop.new.self.items (c.in-Some.next ∷ [])) h)
    c.form_typed.ensures

pub returns-in-None : goal.returns-in-None
returns-in-None c = λ ps.
    let v = c.args.waiting.now in
    let none : length v.items ≡ 0 = omega (arith, v.ok.0, c.in-None.ensures.cases.0) in
    let both = none_left v.items c.pop.new.self.items none c.in-None.ensures.items in
    form_over (head_at c.args.types.now) c.args.part.now v.items c.pop.new.self.items c.args.found.now.items ps both.0 both.1
