use Rattle.std.proofs.Common.{◌≡◌, ◌⊎◌, inl, inr, length, Some, true, refl, sym, ap, ◌∙◌, rules}
use Rattle.std.specs.Prelude.{slice_get}
use Rattle.std.specs.Str.{bytes_eq}
use Rattle.std.proofs.lemmas.Option.{slice_get_read}
use Rattle.mo_types.specs.declared.node.Field.{Field}
use Rattle.mo_types.specs.declared.node.TypeId.{TypeId}
use Rattle.pattern_coverage.proofs.Option.{bytes_same}
use Rattle.mo_coverage.proofs.Marked.{set_true}
use Rattle.mo_coverage.proofs.marks.mark_at.Goals as goal

pub returns-then-eq : goal.returns-then-eq
returns-then-eq c = λ i f g m.
    let q : slice_get c.args.tags.now c.args.place ≡ Some c.index-tags-place.result = slice_get_read c.args.tags.now (length c.args.tags.now) c.args.place c.index-tags-place.result refl c.if-place-tags.true c.index-tags-place.is in
    let b : bytes_eq c.index-tags-place.result.label c.args.label.now ≡ true = search rules in
    elim (set_true c.args.marks.now.items c.args.place i m) as (λ _. (slice_get c.args.marks.now.items i ≡ Some true) ⊎ (f.label ≡ c.args.label.now)) [
      | inl h ↦ inl h
      | inr h ↦ let s : f ≡ c.index-tags-place.result = (let z : Some f ≡ Some c.index-tags-place.result = sym g ∙ ap (λ n. slice_get c.args.tags.now n) h ∙ q in cc) in inr (ap (λ (x : Field TypeId). x.label) s ∙ bytes_same c.index-tags-place.result.label c.args.label.now b)
    ]
