-- Patterns in a row.
use Rattle.std.proofs.Common.{◌≡◌, ◌∙◌, ℕ, suc, ◌+◌, ◌-◌, ◌<◌, ◌≤◌, List, [], ◌∷◌, drop, get_or, length, refl, sym, ap, ap₂, subst}
use Rattle.std.proofs.lemmas.List.{at_drop_all, at_drop_more}
use Rattle.mo_values.specs.Shapes.{Bytes}
use Rattle.typed_tree.specs.declared.pattern.PatternField.{PatternField, fold_out-PatternField}
use Rattle.typed_tree.specs.declared.pattern.TypedPattern.{TypedPattern}
use Rattle.typed_tree.specs.Patterns.{Pat, Pats, NoPat, APat}
use Rattle.typed_tree.specs.PatternView.{LabelledPat, form_step, field_step, pattern_step, pats, pattern, patterns}
use Rattle.typed_tree.specs.ViewLaws.{field, labels_of, patterns_of}
use Rattle.elaboration.specs.Checks as checks
use Rattle.elaboration.specs.Checks.{and, check, check_all, check_fields, check_parts, field_of, part_of, unchecked, Named}
use Rattle.core_layers.specs.declared.layer.Checked.{Checked}
use Rattle.core_layers.specs.Layers.{Adds}
use Rattle.core_layers.proofs.Adding.{adds_both, adds_none}

-- what a first pattern and the others add, where the names behind the first one are known
adds_next : (c : checks.Checked) (rest : ℕ → checks.Checked) (x y z : Checked) → Adds c x y → Adds (rest y.names) y z → Adds (and c (rest c.names)) x z
adds_next c rest x y z g h =
    let Of : ℕ → Type 0 = λ n. Adds (rest n) y z in
    adds_both c (rest c.names) x y z g (subst Of g.names h)

pub parts_next : (ps : List TypedPattern) (i number level : ℕ) (p : TypedPattern) (x y z : Checked) → i < length ps → p ≡ get_or ps i p
    → Adds (check (pattern p) (part_of number level x.names) x.names) x y → Adds (check_parts (patterns (drop (i + 1) ps)) (suc number) level y.names) y z
    → Adds (check_parts (patterns (drop i ps)) number level x.names) x z
parts_next ps i number level p x y z below is first others =
    let F : List TypedPattern → checks.Checked = λ qs. check_parts (patterns qs) number level x.names in
    let Of : checks.Checked → Type 0 = λ c. Adds c x z in
    let At : TypedPattern → Type 0 = λ q. Adds (F (q ∷ drop (i + 1) ps)) x z in
    subst Of (sym (at_drop_more F ps i p below))
    (subst At is (adds_next (check (pattern p) (part_of number level x.names) x.names) (λ n. check_parts (patterns (drop (i + 1) ps)) (suc number) level n) x y z first others))

pub parts_all : (ps : List TypedPattern) (i number level : ℕ) (x : Checked) → length ps ≤ i → Adds (check_parts (patterns (drop i ps)) number level x.names) x x
parts_all ps i number level x past =
    let F : List TypedPattern → checks.Checked = λ qs. check_parts (patterns qs) number level x.names in
    let Of : checks.Checked → Type 0 = λ c. Adds c x x in
    subst Of (sym (at_drop_all F ps i past)) (adds_none x)

field_is : (p : PatternField) → field p ≡ record { label = p.label; pattern = pattern p.pattern }
unfolding pattern field
field_is p = fold_out-PatternField Pat LabelledPat Pat form_step field_step pattern_step p

pub fields_next : (fs : List PatternField) (i level : ℕ) (p : PatternField) (x y z : Checked) → i < length fs → p ≡ get_or fs i p
    → Adds (check (pattern p.pattern) (field_of p.label level x.names) x.names) x y → Adds (check_fields (labels_of (drop (i + 1) fs)) (pats (patterns_of (drop (i + 1) fs))) level y.names) y z
    → Adds (check_fields (labels_of (drop i fs)) (pats (patterns_of (drop i fs))) level x.names) x z
fields_next fs i level p x y z below is first others =
    let F : List PatternField → checks.Checked = λ qs. check_fields (labels_of qs) (pats (patterns_of qs)) level x.names in
    let Of : checks.Checked → Type 0 = λ c. Adds c x z in
    let At : PatternField → Type 0 = λ q. Adds (F (q ∷ drop (i + 1) fs)) x z in
    let first_of : LabelledPat → Type 0 = λ l. Adds (check l.pattern (field_of l.label level x.names) x.names) x y in
    subst Of (sym (at_drop_more F fs i p below))
    (subst At is
    (adds_next (check (field p).pattern (field_of (field p).label level x.names) x.names) (λ n. check_fields (labels_of (drop (i + 1) fs)) (pats (patterns_of (drop (i + 1) fs))) level n) x y z (subst first_of (sym (field_is p)) first) others))

pub fields_all : (fs : List PatternField) (i level : ℕ) (x : Checked) → length fs ≤ i → Adds (check_fields (labels_of (drop i fs)) (pats (patterns_of (drop i fs))) level x.names) x x
fields_all fs i level x past =
    let F : List PatternField → checks.Checked = λ qs. check_fields (labels_of qs) (pats (patterns_of qs)) level x.names in
    let Of : checks.Checked → Type 0 = λ c. Adds c x x in
    subst Of (sym (at_drop_all F fs i past)) (adds_none x)

pub all_next : (ps : List TypedPattern) (i level : ℕ) (p : TypedPattern) (x y z : Checked) → i < length ps → p ≡ get_or ps i p
    → Adds (check (pattern p) (Named level) x.names) x y → Adds (check_all (patterns (drop (i + 1) ps)) (level - 1) y.names) y z
    → Adds (check_all (patterns (drop i ps)) level x.names) x z
all_next ps i level p x y z below is first others =
    let F : List TypedPattern → checks.Checked = λ qs. check_all (patterns qs) level x.names in
    let Of : checks.Checked → Type 0 = λ c. Adds c x z in
    let At : TypedPattern → Type 0 = λ q. Adds (F (q ∷ drop (i + 1) ps)) x z in
    subst Of (sym (at_drop_more F ps i p below))
    (subst At is (adds_next (check (pattern p) (Named level) x.names) (λ n. check_all (patterns (drop (i + 1) ps)) (level - 1) n) x y z first others))

pub all_done : (ps : List TypedPattern) (i level : ℕ) (x : Checked) → length ps ≤ i → Adds (check_all (patterns (drop i ps)) level x.names) x x
all_done ps i level x past =
    let F : List TypedPattern → checks.Checked = λ qs. check_all (patterns qs) level x.names in
    let Of : checks.Checked → Type 0 = λ c. Adds c x x in
    subst Of (sym (at_drop_all F ps i past)) (adds_none x)
