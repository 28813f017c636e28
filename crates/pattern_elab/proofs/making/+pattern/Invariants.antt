use Rattle.std.proofs.Common.{◌≡◌, drop}
use Rattle.typed_tree.specs.PatternView.{patterns, pats}
use Rattle.typed_tree.specs.ViewLaws.{labels_of, patterns_of}
use Rattle.pattern_elab.specs.Making.{begun, fields_made, parts_made}
use Rattle.pattern_elab.proofs.making.+pattern.Given as goal

abbrev pub invariant-add_fields-loop-field : goal.invariant-add_fields-loop-field
invariant-add_fields-loop-field l =
    let rest = drop l.field-index l.fields in
    fields_made (labels_of rest) (pats (patterns_of rest)) l.place l.fails (begun l.entry l.state) ≡ fields_made (labels_of l.fields) (pats (patterns_of l.fields)) l.fn.place l.fn.fails (begun l.fn.holds l.fn.state)

abbrev pub invariant-add_parts-loop-number : goal.invariant-add_parts-loop-number
invariant-add_parts-loop-number l =
    parts_made (patterns (drop l.number l.parts)) l.number l.place l.fails (begun l.entry l.state) ≡ parts_made (patterns l.parts) 0 l.fn.place l.fn.fails (begun l.fn.holds l.fn.state)
