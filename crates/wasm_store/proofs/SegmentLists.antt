-- One segment after another.
use Rattle.std.proofs.Common.{◌≡◌, ℕ, suc, ◌+◌, ◌<◌, List, ◌∷◌, length, drop, get_or, Option, Some, None, map, sym, ap, ◌∙◌, add-one}
use Rattle.std.proofs.Math.Seq.{drop-cons}
use Rattle.wasm_tree.specs.declared.module_parts.DataSegment.{DataSegment}
use Rattle.wasm_tree.specs.declared.module_parts.ElementSegment.{ElementSegment}
use Rattle.wasm_tree.specs.Load.{constant, put_at, then_put, with_segments, with_elements}

-- the rest from a place on begins with the item there
cut : {A : Type 0} (xs : List A) (i : ℕ) (x : A) → x ≡ get_or xs i x → i < length xs → drop i xs ≡ x ∷ drop (i + 1) xs
cut xs i x is below = drop-cons xs i x below ∙ ap (λ y. y ∷ drop (suc i) xs) (sym is) ∙ ap (λ n. x ∷ drop n xs) (sym (add-one i))

-- what the segments from a place on give, where the one there gives this
segments_from : (ss : List DataSegment) (i place : ℕ) (s : DataSegment) (bytes before : List ℕ) (put : Option (List ℕ)) → s ≡ get_or ss i s → i < length ss
    → place ≡ constant s.offset → bytes ≡ s.bytes → put_at place bytes before ≡ put → with_segments (drop i ss) before ≡ then_put put (with_segments (drop (i + 1) ss))
segments_from ss i place s bytes before put is below at of given =
    ap (λ (l : List DataSegment). with_segments l before) (cut ss i s is below)
    ∙ ap (λ o. then_put o (with_segments (drop (i + 1) ss))) (ap (λ p. put_at p s.bytes before) (sym at) ∙ ap (λ (b : List ℕ). put_at place b before) (sym of) ∙ given)

pub segment_refused : (ss : List DataSegment) (i place : ℕ) (s : DataSegment) (bytes before first : List ℕ) → s ≡ get_or ss i s → i < length ss
    → place ≡ constant s.offset → bytes ≡ s.bytes → put_at place bytes before ≡ None → with_segments (drop i ss) before ≡ with_segments ss first → with_segments ss first ≡ None
segment_refused ss i place s bytes before first is below at of given so_far = sym so_far ∙ segments_from ss i place s bytes before None is below at of given

pub segment_put : (ss : List DataSegment) (i place : ℕ) (s : DataSegment) (bytes before first after : List ℕ) → s ≡ get_or ss i s → i < length ss
    → place ≡ constant s.offset → bytes ≡ s.bytes → put_at place bytes before ≡ Some after → with_segments (drop i ss) before ≡ with_segments ss first → with_segments (drop (i + 1) ss) after ≡ with_segments ss first
segment_put ss i place s bytes before first after is below at of given so_far = sym (segments_from ss i place s bytes before (Some after) is below at of given) ∙ so_far

elements_from : (ss : List ElementSegment) (i place : ℕ) (s : ElementSegment) (functions : List ℕ) (before : List (Option ℕ)) (put : Option (List (Option ℕ))) → s ≡ get_or ss i s → i < length ss
    → place ≡ constant s.offset → functions ≡ s.functions → put_at place (map Some functions) before ≡ put → with_elements (drop i ss) before ≡ then_put put (with_elements (drop (i + 1) ss))
elements_from ss i place s functions before put is below at of given =
    ap (λ (l : List ElementSegment). with_elements l before) (cut ss i s is below)
    ∙ ap (λ o. then_put o (with_elements (drop (i + 1) ss))) (ap (λ p. put_at p (map Some s.functions) before) (sym at) ∙ ap (λ (b : List ℕ). put_at place (map Some b) before) (sym of) ∙ given)

pub element_refused : (ss : List ElementSegment) (i place : ℕ) (s : ElementSegment) (functions : List ℕ) (before first : List (Option ℕ)) → s ≡ get_or ss i s → i < length ss
    → place ≡ constant s.offset → functions ≡ s.functions → put_at place (map Some functions) before ≡ None → with_elements (drop i ss) before ≡ with_elements ss first → with_elements ss first ≡ None
element_refused ss i place s functions before first is below at of given so_far = sym so_far ∙ elements_from ss i place s functions before None is below at of given

pub element_put : (ss : List ElementSegment) (i place : ℕ) (s : ElementSegment) (functions : List ℕ) (before first after : List (Option ℕ)) → s ≡ get_or ss i s → i < length ss
    → place ≡ constant s.offset → functions ≡ s.functions → put_at place (map Some functions) before ≡ Some after → with_elements (drop i ss) before ≡ with_elements ss first → with_elements (drop (i + 1) ss) after ≡ with_elements ss first
element_put ss i place s functions before first after is below at of given so_far = sym (elements_from ss i place s functions before (Some after) is below at of given) ∙ so_far
