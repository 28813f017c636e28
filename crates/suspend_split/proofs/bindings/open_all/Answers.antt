use Rattle.std.proofs.Common.{◌∙◌, ◌+◌, refl, ap, sym, subst, length, get_or, List}
use Rattle.std.proofs.lemmas.Option.{slice_get_read}
use Rattle.suspend_split.specs.declared.bindings.Opening.{Opening}
use Rattle.suspend_split.specs.Bindings.{OpensFirst, nowhere}
use Rattle.suspend_split.proofs.OpenedNames.{opens_more, opened_last}
use Rattle.suspend_split.proofs.bindings.open_all.Goals as goal

pub loop-binding-preserved : goal.loop-binding-preserved
loop-binding-preserved c =
    let o = c.args.outermost.now in
    let sizes = c.args.sizes.now in
    let bs = c.args.bindings.now in
    let i = c.loop-binding.binding-index in
    let places = c.loop-binding.openings.items in
    let q : Opening = c.in_ok-at.at in
    let f = c.loop-binding.invariant.opens in
    record {
      opens = subst (λ (ps : List Opening). OpensFirst o sizes bs c.args.opening (i + 1) ps c.args.scopes.now c.open.new.scopes) (sym c.in_ok-push-2.ensures.items)
          (opens_more o sizes bs c.args.opening c.loop-binding.at q i c.binding-item.result places c.args.scopes.now c.loop-binding.scopes c.open.new.scopes f c.loop-binding.invariant.now
          (slice_get_read bs (length bs) i c.binding-item.result refl c.loop-binding-test.true c.binding-item.is) c.in_ok-at.ensures);
      now = opened_last places q i f.count ∙ ap (λ (ps : List Opening). get_or ps (i + 1) nowhere) (sym c.in_ok-push-2.ensures.items);
    }
