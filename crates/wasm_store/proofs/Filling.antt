-- Lists that are filled item by item.
use Rattle.std.proofs.Common.{◌≡◌, ℕ, ◌+◌, ◌<◌, ◌≤◌, true, List, [], ◌∷◌, ◌++◌, length, take, drop, map, get_or, set, Option, Some, None, nat_le, refl, sym, ap, ◌∙◌, arith, add-zero, append_assoc, append-nil}
use Rattle.std.proofs.lemmas.Bool.Decides.{nat_tests}
use Rattle.std.proofs.lemmas.List.{take_more_set, map_more, drop-set-lt, drop-drop, take_all, replicate-append-replicate, take-append-drop, length-map, length-replicate}
use Rattle.wasm_tree.specs.Load.{put_at, blank}

-- after k functions from a place on: what stands before, and what stands behind
pub record Filled (first now : List (Option ℕ)) (functions : List ℕ) (place k : ℕ) : Type 0 where
  pub front : take (place + k) now ≡ take place first ++ map Some (take k functions)
  pub rest : drop (place + k) now ≡ drop (place + k) first

pub filled_more : (first now : List (Option ℕ)) (functions : List ℕ) (place k : ℕ) → Filled first now functions place k → k < length functions → place + k < length now
    → Filled first (set now (place + k) (Some (get_or functions k 0))) functions place (k + 1)
filled_more first now functions place k filled more below =
    let at : place + (k + 1) ≡ place + k + 1 = omega arith in
    let front : take (place + k + 1) (set now (place + k) (Some (get_or functions k 0))) ≡ take place first ++ map Some (take (k + 1) functions) =
    take_more_set now (place + k) (Some (get_or functions k 0)) below ∙ ap (λ l. l ++ Some (get_or functions k 0) ∷ []) filled.front
    ∙ append_assoc (take place first) (map Some (take k functions)) (Some (get_or functions k 0) ∷ []) ∙ ap (λ l. take place first ++ l) (sym (map_more Some functions k 0 more)) in
    let rest : drop (place + k + 1) (set now (place + k) (Some (get_or functions k 0))) ≡ drop (place + k + 1) first =
    drop-set-lt (place + k + 1) now (place + k) (Some (get_or functions k 0)) (omega arith)
    ∙ sym (drop-drop 1 (place + k) now) ∙ ap (λ (l : List (Option ℕ)). drop 1 l) filled.rest ∙ drop-drop 1 (place + k) first in
    record { front = rw at front; rest = rw at rest }

pub filled_none : (first : List (Option ℕ)) (functions : List ℕ) (place : ℕ) → Filled first first functions place 0
filled_none first functions place = record { front = rw (add-zero, append-nil) refl; rest = refl }

abbrev entry_of : ℕ → Option ℕ
entry_of f = Some f

pub filled_all : (first now : List (Option ℕ)) (functions : List ℕ) (place k : ℕ) → Filled first now functions place k → length functions ≤ k → k ≤ length functions → place + length functions ≤ length first
    → put_at place (map Some functions) first ≡ Some now
filled_all first now functions place k filled all some fits =
    let long : length (map entry_of functions) ≡ k = length-map functions entry_of ∙ omega arith in
    let inside : nat_le (place + length (map entry_of functions)) (length first) ≡ true = rw long (grind (arith, nat_tests)) in
    let whole : take place first ++ map entry_of functions ++ drop (place + length (map entry_of functions)) first ≡ now =
    ap (λ n. take place first ++ map entry_of functions ++ drop (place + n) first) long
    ∙ ap (λ (l : List ℕ). take place first ++ map entry_of l ++ drop (place + k) first) (sym (take_all k functions all))
    ∙ ap (λ l. l ++ drop (place + k) first) (sym filled.front) ∙ ap (λ l. take (place + k) now ++ l) (sym filled.rest) ∙ take-append-drop (place + k) now in
    rw inside (ap Some whole)

-- the empty entries of a table
pub blank-more : (n : ℕ) (list : List (Option ℕ)) → list ≡ blank n None → list ++ None ∷ [] ≡ blank (n + 1) None
unfolding blank
blank-more n list is = ap (λ l. l ++ None ∷ []) is ∙ replicate-append-replicate n 1 None

pub blank-none : [] ≡ blank {A = Option ℕ} 0 None
unfolding blank
blank-none = refl

pub length-blank : (n : ℕ) → length (blank {A = Option ℕ} n None) ≡ n
unfolding blank
length-blank n = length-replicate n None
