-- Where a method's reply and its function stand.
use Rattle.std.proofs.Common.{◌≡◌, ℕ, ◌+◌, Bool, true, false, cond, List, [], ◌∷◌, ◌++◌, length, Option, Some, None, refl, ap, ◌∙◌, arith}
use Rattle.std.specs.Str.{bytes_eq}
use Rattle.query_source.specs.declared.query.Method.{Method}
use Rattle.wasm_tree.specs.declared.module_parts.Export.{Export}
use Rattle.query_module.specs.Tree.{AreNumbers, exports_from, query_export}
use Rattle.query_module.proofs.Finds.{query_named}
use Rattle.query_module.specs.Program.{reply_at}

-- The reply of a method among the replies, and its export among the exports.
pub record Place (numbers : List (List ℕ)) (index : ℕ) (reply : List ℕ) (found : Option Export) : Type 0 where
  pub method : List ℕ
  pub before : List (List ℕ)
  pub after : List (List ℕ)
  pub numbers_are : numbers ≡ before ++ reply ∷ after
  pub is : found ≡ Some (query_export method (index + length before))

abbrev pub Placed : List (List ℕ) → ℕ → Option (List ℕ) → Option Export → Type 0
Placed numbers index None found = found ≡ None
Placed numbers index (Some reply) found = Place numbers index reply found

later : (numbers : List (List ℕ)) (r : List ℕ) (index : ℕ) (reply : Option (List ℕ)) (found : Option Export) → Placed numbers (index + 1) reply found → Placed (r ∷ numbers) index reply found
later numbers r index None found p = p
later numbers r index (Some reply) found p = record {
  method = p.method;
  before = r ∷ p.before;
  after = p.after;
  numbers_are = ap (λ x. r ∷ x) p.numbers_are;
  is = let same : (index + 1) + length p.before ≡ index + length (r ∷ p.before) = omega arith in p.is ∙ ap (λ n. Some (query_export p.method n)) same;
}

pub placed : (methods : List Method) (numbers : List (List ℕ)) (index : ℕ) (name : List ℕ) → AreNumbers methods numbers → Placed numbers index (reply_at methods numbers name) (query_named name (exports_from index methods))
placed [] [] index name all = refl
placed [] (r ∷ numbers) index name all = absurd all
placed (m ∷ methods) [] index name all = absurd all
placed (m ∷ methods) (r ∷ numbers) index name all = by (bytes_eq m.name name) (placed methods numbers (index + 1) name all.1)
  where
    by : (t : Bool) → Placed numbers (index + 1) (reply_at methods numbers name) (query_named name (exports_from (index + 1) methods))
        → Placed (r ∷ numbers) index (cond t (Some r) (reply_at methods numbers name)) (cond t (Some (query_export m.name index)) (query_named name (exports_from (index + 1) methods)))
    by true p = record { method = m.name; before = []; after = numbers; numbers_are = refl; is = let same : index ≡ index + 0 = omega arith in ap (λ n. Some (query_export m.name n)) same }
    by false p = later numbers r index (reply_at methods numbers name) (query_named name (exports_from (index + 1) methods)) p
