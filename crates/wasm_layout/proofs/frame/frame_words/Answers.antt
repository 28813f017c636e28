use Rattle.std.proofs.Common.{◌≡◌, Some, refl, sym, ap, ◌∙◌, subst, length}
use Rattle.std.specs.Prelude.{slice_get}
use Rattle.std.proofs.lemmas.Option.{slice_get_read}
use Rattle.wasm_layout.proofs.Words.{held, words_there}
use Rattle.wasm_layout.proofs.frame.frame_words.Goals as goal

pub returns-in-Some : goal.returns-in-Some
returns-in-Some c = λ m is.
    let found = c.in_ok-facts.facts.now in
    let l = c.in_ok-facts.ensures.lookup in
    let at = slice_get_read c.as_slice.result.now (length c.as_slice.result.now) c.args.function found refl l.3.0 l.1 in
    let here = subst (λ fs. slice_get fs c.args.function ≡ Some found) c.as_slice.ensures at in
    sym (ap held c.in-Some.is) ∙ words_there m c.args.layout.now is c.args.function found here

pub returns-in-None : goal.returns-in-None
returns-in-None c = λ m is.
    let found = c.in_ok-facts.facts.now in
    let l = c.in_ok-facts.ensures.lookup in
    let at = slice_get_read c.as_slice.result.now (length c.as_slice.result.now) c.args.function found refl l.3.0 l.1 in
    let here = subst (λ fs. slice_get fs c.args.function ≡ Some found) c.as_slice.ensures at in
    sym (ap held c.in-None.is) ∙ words_there m c.args.layout.now is c.args.function found here
