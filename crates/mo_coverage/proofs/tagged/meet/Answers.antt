use Rattle.std.proofs.Common.{◌≡◌, ◌++◌, [], ◌∷◌, length, false, refl, rules}
use Rattle.std.specs.Prelude.{slice_get}
use Rattle.std.proofs.lemmas.Option.{slice_get_read}
use Rattle.pattern_coverage.specs.Inhabited.{flag_there}
use Rattle.mo_coverage.specs.declared.tagged.Met.{Met}
use Rattle.mo_coverage.proofs.MetMarks.{met_new}
use Rattle.mo_coverage.proofs.tagged.meet.Goals as goal

pub returns : goal.returns
returns c =
    let new : Met = record { labels = c.push.new.self; marks = c.set_mark.new.marks } in
    let e : flag_there (slice_get c.args.found.now.marks.items c.args.place) ≡ false = search rules in
    let l : c.push.new.self.items ≡ c.args.found.now.labels.items ++ c.index-tags-place.result.label ∷ [] = search rules in
    met_new c.args.tags.now c.args.found.now new c.args.place c.index-tags-place.result c.requires.differ c.requires.marks e
    (slice_get_read c.args.tags.now (length c.args.tags.now) c.args.place c.index-tags-place.result refl c.requires.within c.index-tags-place.is) l c.set_mark.ensures
