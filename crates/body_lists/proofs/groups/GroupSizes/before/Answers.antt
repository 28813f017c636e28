use Rattle.std.proofs.Common.{◌≡◌, ◌∙◌, ap, sym, subst, ◌<◌, ◌≤◌, length, get_or}
use Rattle.body_lists.specs.Known.{before_of}
use Rattle.body_lists.proofs.Sizes.{before_found, before_missing}
use Rattle.body_lists.proofs.groups.GroupSizes.before.Goals as goal

pub returns-in-Some : goal.returns-in-Some
returns-in-Some c =
    let gs = c.self.inside.groups.items in
    let l = c.in-Some.ensures.lookup in
    let is = c.deref.ensures.value in
    ap (λ e. e.1) (l.1 ∙ ap (λ xs. get_or xs c.args.group c.in-Some.entry.now) is)
    ∙ before_found gs c.self.inside.all c.args.group c.in-Some.entry.now c.self.invariant (subst (λ xs. c.args.group < length xs) is (l.3).0)
    ∙ ap (λ ns. before_of ns c.args.group) c.self.view_is

pub returns-in-None : goal.returns-in-None
returns-in-None c =
    let gs = c.self.inside.groups.items in
    let l = c.in-None.ensures.lookup in
    before_missing gs c.self.inside.all c.args.group c.self.invariant (subst (λ xs. length xs ≤ c.args.group) c.deref.ensures.value (l.3)) ∙ ap (λ ns. before_of ns c.args.group) c.self.view_is
